-- How much can one link cost (document 02, P13): the claims about a drawing's greatest bound, and that of the same drawing with other links. Assumes nothing.
use Rattle.std.specs.Prelude.{ℕ, ◌+◌, ◌-◌, ◌≤◌, ◌<◌, ◌≡◌, Bool, true, not, List, eqb, ltb, get_or, set}
use Rattle.sets.specs.Tests.{◌and◌}
use Rattle.sets.specs.Sets.{Terminal, Set, without}
use Rattle.plan.specs.Plan.{hears}
use Rattle.plan.specs.Deaf.{deaf_set}
use Rattle.tolerance.specs.declared.Drawing.{Drawing}
use Rattle.tolerance.specs.Greatest.{with_bound, passes_with, none, up_to, greatest, IsGreatest, height}

-- terminal b hears a: there is a link from a to b
abbrev pub linked : Drawing → (a b : Terminal) → Bool
linked d a b = hears (with_bound d 0) b a

-- the same terminals with other links
abbrev pub redrawn : Drawing → (rows : List Set) → Drawing
redrawn d rows = record { n = d.n; source = d.source; rows = rows }

-- the link from a to b is taken out
abbrev pub without_link : Drawing → (a b : Terminal) → Drawing
without_link d a b = redrawn d (set d.rows b (without d.n (get_or d.rows b 0) a))

-- of every drawing whose source is one of its terminals
pub record LinksCost (d : Drawing) : Type 0 where
  pub is_greatest : IsGreatest d (greatest d)
  -- it passes exactly for the bounds up to that
  pub decides : (f : ℕ) → f < d.n → passes_with d f ≡ ltb f (height (greatest d))
  -- one that passes for f passes for every smaller bound
  pub smaller : (f g : ℕ) → g ≤ f → passes_with d f ≡ true → passes_with d g ≡ true
  -- a link that is taken out is gone, and every other stays
  pub taken_out : (a b x y : Terminal) → x < d.n → linked (without_link d a b) x y ≡ linked d x y and not (eqb x a and eqb y b)
  -- without a link that doesn't start at the source it passes for one less; so the greatest f is lowered by at most one, from 0 to none included
  pub one_less : (a b : Terminal) → (a ≡ d.source → ⊥) → (f : ℕ) → passes_with d (f + 1) ≡ true → passes_with (without_link d a b) f ≡ true
  pub at_most_one : (a b : Terminal) → (a ≡ d.source → ⊥) → height (greatest d) ≤ height (greatest (without_link d a b)) + 1
  -- with links more it passes for whatever it passed for; so the greatest f is not lowered
  pub more_pass : (rows : List Set) → ((a b : Terminal) → a < d.n → b < d.n → linked d a b ≡ true → linked (redrawn d rows) a b ≡ true)
      → (f : ℕ) → passes_with d f ≡ true → passes_with (redrawn d rows) f ≡ true
  pub not_lowered : (rows : List Set) → ((a b : Terminal) → a < d.n → b < d.n → linked d a b ≡ true → linked (redrawn d rows) a b ≡ true)
      → height (greatest d) ≤ height (greatest (redrawn d rows))
  -- where all hear the source every bound passes; where somebody hears nobody, none does
  pub all_direct : ((b : Terminal) → b < d.n → (b ≡ d.source → ⊥) → linked d d.source b ≡ true) → greatest d ≡ up_to (d.n - 1)
  pub deaf_none : (deaf_set (with_bound d 0) ≡ 0 → ⊥) → greatest d ≡ none
  -- a link from the source may cost all: whoever hears the source alone is deaf without it
  pub source_link : (b : Terminal) → b < d.n → (b ≡ d.source → ⊥) → ((a : Terminal) → linked d a b ≡ true → a ≡ d.source)
      → greatest (without_link d d.source b) ≡ none
