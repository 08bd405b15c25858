-- What is looked at where the links end. Assumes nothing.
use Prim.Native.Nat.{ℕ}
use mathlib.Core.Path.{◌≡◌, refl, sym, ap, ◌∙◌}
use mathlib.Core.Bool.{Bool, true, false}
use native.Mathlib.Omega.{arith}
use borrow.Author.Tests.{eq-eqb, ne_eqb}
use Rattle.sets.specs.Tests.{◌or◌}
use Rattle.sets.proofs.Bools.{and_i, and_yes, and_no_l, and_no_r, not_i, not_yes, pick_yes, pick_no, pick_case}
use Rattle.sets.proofs.Causes.{cause_here, cause_later, cause_last, cause_none}
use Rattle.plan.specs.Deaf.{deaf_set}
use Rattle.lines.specs.declared.Frame.{Frame}
use Rattle.frames.specs.declared.Stage.TheVariants.{Links, Grouped}
use Rattle.frames.specs.declared.Progress.{Progress}
use Rattle.frames.specs.declared.Reader.{Reader}
use Rattle.frames.specs.Reading.{is_at, in_plan, lists_none, ends_links, links_cause, end_cause}

-- not among the links, so among the groups or elsewhere
pub past_links : (p : Progress) → is_at Links p ≡ false → in_plan p ≡ is_at Grouped p
unfolding in_plan ◌or◌
past_links p h = ap (λ (b : Bool). b or is_at Grouped p) h

module _ (reader : Reader) (p : Progress) where
  -- before the head and after the place nothing is
  pub links_elsewhere : in_plan p ≡ false → links_cause reader p ≡ 0
  unfolding links_cause
  links_elsewhere h = cause_later _ _ _ (and_no_l _ _ h) ∙ cause_last _ _ (and_no_l _ _ h)

  -- a group is missing, for every reader
  pub links_none : in_plan p ≡ true → lists_none p.plan.bound.kind ≡ true → links_cause reader p ≡ 17
  unfolding links_cause
  links_none s l = cause_here _ _ _ (and_i _ _ s l)

  pub links_listed : in_plan p ≡ true → links_cause reader p ≡ 0 → lists_none p.plan.bound.kind ≡ false
  unfolding links_cause
  links_listed s h = let a = cause_none _ 17 _ (λ z. omega arith) h in sym (and_yes _ _ s) ∙ a.0

  -- or none is: the archive looks at nothing more
  module _ (l : lists_none p.plan.bound.kind ≡ false) where
    pub links_archived : reader.archive ≡ true → links_cause reader p ≡ 0
    unfolding links_cause
    links_archived h = cause_later _ _ _ (and_no_r _ _ l) ∙ cause_last _ _ (and_no_r _ _ (and_no_l _ _ (not_yes h)))

    -- nobody is deaf, or somebody is
    pub links_heard : deaf_set p.plan ≡ 0 → links_cause reader p ≡ 0
    unfolding links_cause
    links_heard h =
        cause_later _ _ _ (and_no_r _ _ l) ∙ cause_last _ _ (and_no_r _ _ (and_no_r _ _ (not_yes (eq-eqb (deaf_set p.plan) 0 h))))

    pub links_deaf : in_plan p ≡ true → reader.archive ≡ false → (deaf_set p.plan ≡ 0 → ⊥) → links_cause reader p ≡ 15
    unfolding links_cause
    links_deaf s a n =
        cause_later _ _ _ (and_no_r _ _ l) ∙ cause_here _ _ _ (and_i _ _ s (and_i _ _ (not_i a) (not_i (ne_eqb (deaf_set p.plan) 0 n))))

  -- a line with this frame is the place, or is not
  module _ (frame : Frame) where
    pub end_here : ends_links p.plan.bound.kind frame ≡ true → end_cause reader p frame ≡ links_cause reader p
    unfolding end_cause
    end_here h = pick_yes _ _ _ h

    pub end_later : ends_links p.plan.bound.kind frame ≡ false → end_cause reader p frame ≡ 0
    unfolding end_cause
    end_later h = pick_no _ _ _ h

    -- where nothing would be found, nothing is found on any line
    pub end_none : links_cause reader p ≡ 0 → end_cause reader p frame ≡ 0
    unfolding end_cause
    end_none h = pick_case (λ (c : ℕ). c ≡ 0) (ends_links p.plan.bound.kind frame) (links_cause reader p) 0 (λ t. h) (λ t. refl)
