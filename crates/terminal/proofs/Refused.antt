-- A refusal has a number that is not 0, and the causes of the site come before all others. Assumes nothing.
use Prim.Native.Nat.{ℕ}
use mathlib.Core.Path.{◌≡◌, refl, sym, ap, ◌∙◌}
use mathlib.Core.Bool.{Bool, true, false, not}
use mathlib.Core.List.{List, [], ◌∷◌}
use lib.Dec.{eqb}
use borrow.Author.Tests.{eq-eqb, ne_eqb}
use Rattle.std.specs.Prelude.{Result, Err}
use Rattle.sets.specs.Tests.{pick}
use Rattle.sets.specs.Causes.{Cause, ◌gives◌, first_cause}
use Rattle.sets.proofs.Bools.{clash, pick_yes, pick_no}
use Rattle.sets.proofs.Causes.{cause_here, cause_later}
use Rattle.quorum.specs.declared.Bound.{Bound}
use Rattle.quorum.specs.Quorum.{in_range, others, groups_sound}
use Rattle.terminal.specs.declared.StepError.{StepError}
use Rattle.terminal.specs.declared.StepError.TheVariants.{WrongRange, WrongLink, WrongGroups, WrongLayout, WrongEdition, WrongLength, WrongRecord}
use Rattle.terminal.specs.declared.Record.{Record}
use Rattle.terminal.specs.Votes.{site_cause_of, record_cause_of}
use Rattle.terminal.specs.Answer.{number_of, cause_of}
use Rattle.terminal.specs.Channel.{shared_cause_of}

pub refused : (error : StepError) → eqb (number_of (Err error)) 0 ≡ false
refused WrongRange = refl
refused WrongLink = refl
refused WrongGroups = refl
refused WrongLayout = refl
refused WrongEdition = refl
refused WrongLength = refl
refused WrongRecord = refl

-- an error that is passed on
pub passed_on : {X : Type 0} (error : StepError) (r : Result Unit StepError) (site cause : ℕ) → r ≡ Err error → number_of (Err error) ≡ site
    → (eqb site 0 ≡ false → site ≡ cause) → (number_of r ≡ cause) × (number_of r ≡ 0 → X)
passed_on error r site cause e q h = (
  ap number_of e ∙ q ∙ h (ap (λ (k : ℕ). eqb k 0) (sym q) ∙ refused error),
  λ z. clash (eq-eqb _ 0 (sym (ap number_of e) ∙ z)) (refused error),
)

-- three rows in front of others
parted : (a b d : Bool) (rest : List Cause)
    → first_cause (a gives 4 ∷ b gives 5 ∷ d gives 17 ∷ rest)
    ≡ pick (eqb (first_cause (a gives 4 ∷ b gives 5 ∷ d gives 17 ∷ [])) 0) (first_cause rest) (first_cause (a gives 4 ∷ b gives 5 ∷ d gives 17 ∷ []))
unfolding first_cause pick
parted true b d rest = refl
parted false true d rest = refl
parted false false true rest = refl
parted false false false rest = refl

module _ (n source : ℕ) (bound : Bound) (own heard : ℕ) (r : Record) (words : ℕ) where
  pub cause_by_site : eqb (site_cause_of n source bound own heard) 0 ≡ false → site_cause_of n source bound own heard ≡ cause_of n source bound own heard r words
  unfolding site_cause_of cause_of
  cause_by_site h = sym (parted (not (in_range n source bound.kind)) (not (others n own heard)) (not (groups_sound n source bound)) _ ∙ pick_no _ _ _ h)

  pub cause_by_record : 0 ≡ site_cause_of n source bound own heard → record_cause_of n source own heard r words ≡ cause_of n source bound own heard r words
  unfolding site_cause_of record_cause_of cause_of
  cause_by_record h =
      sym (parted (not (in_range n source bound.kind)) (not (others n own heard)) (not (groups_sound n source bound)) _ ∙ pick_yes _ _ _ (eq-eqb _ 0 (sym h)))

  module _ (default : ℕ) where
    pub shared_by_site : eqb (site_cause_of n source bound own heard) 0 ≡ false → site_cause_of n source bound own heard ≡ shared_cause_of n source bound own heard default r words
    unfolding site_cause_of shared_cause_of
    shared_by_site h = sym (parted (not (in_range n source bound.kind)) (not (others n own heard)) (not (groups_sound n source bound)) _ ∙ pick_no _ _ _ h)

    pub shared_by_default : 0 ≡ site_cause_of n source bound own heard → default ≡ 0 → 9 ≡ shared_cause_of n source bound own heard default r words
    unfolding site_cause_of shared_cause_of
    shared_by_default h z =
        sym (
        parted (not (in_range n source bound.kind)) (not (others n own heard)) (not (groups_sound n source bound)) _
        ∙ pick_yes _ _ _ (eq-eqb _ 0 (sym h)) ∙ cause_here _ 9 _ (eq-eqb default 0 z)
        )

    pub shared_by_record : 0 ≡ site_cause_of n source bound own heard → (default ≡ 0 → ⊥)
        → record_cause_of n source own heard r words ≡ shared_cause_of n source bound own heard default r words
    unfolding site_cause_of record_cause_of shared_cause_of
    shared_by_record h z =
        sym (
        parted (not (in_range n source bound.kind)) (not (others n own heard)) (not (groups_sound n source bound)) _
        ∙ pick_yes _ _ _ (eq-eqb _ 0 (sym h)) ∙ cause_later _ 9 _ (ne_eqb default 0 z)
        )
