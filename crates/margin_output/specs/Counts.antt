-- What the table's own functions count. No caller sees these. Assumes nothing.
use Rattle.std.specs.Prelude.{ℕ, ◌+◌, ◌≤◌, Bool, true, false, List, pos, get_or}
use Rattle.std.specs.Int.Signed.{mag, lt_z, le_z}
use Rattle.sets.specs.Tests.{◌and◌}
use Rattle.sets.specs.Sets.{Terminal, bit, count}
use Rattle.partition.specs.declared.Standing.{Standing}
use Rattle.partition.specs.declared.Standing.TheVariants.{Source, Direct, Margin, Absent}
use Rattle.margin_output.specs.declared.Tally.{Tally}

-- how terminal b stands in a list of places
abbrev pub standing_in : (places : List Standing) (b : Terminal) → Standing
standing_in places b = get_or places b Source

-- on which side of zero one stands
unfoldable pub stands_direct : Standing → Bool
stands_direct Source = false
stands_direct Direct = true
stands_direct (Margin m) = false
stands_direct Absent = false

unfoldable pub stands_below : Standing → Bool
stands_below Source = false
stands_below Direct = false
stands_below (Margin m) = lt_z m (pos 0)
stands_below Absent = false

unfoldable pub stands_level : Standing → Bool
stands_level Source = false
stands_level Direct = false
stands_level (Margin m) = le_z m (pos 0) and le_z (pos 0) m
stands_level Absent = false

unfoldable pub stands_above : Standing → Bool
stands_above Source = false
stands_above Direct = false
stands_above (Margin m) = lt_z (pos 0) m
stands_above Absent = false

-- one more is counted
unfoldable pub tallied : Tally → Standing → Tally
tallied t s = record {
  direct = t.direct + bit (stands_direct s);
  below = t.below + bit (stands_below s);
  level = t.level + bit (stands_level s);
  above = t.above + bit (stands_above s);
}

-- the first k places are counted
unfoldable pub tally_of : (k : ℕ) (standing : Terminal → Standing) → Tally
tally_of k standing = record {
  direct = count k (λ b. stands_direct (standing b));
  below = count k (λ b. stands_below (standing b));
  level = count k (λ b. stands_level (standing b));
  above = count k (λ b. stands_above (standing b));
}

-- a margin of a plan: the counts are at most twenty
abbrev pub Small : Standing → Type 0
Small Source = Unit {0}
Small Direct = Unit {0}
Small (Margin m) = mag m ≤ 20
Small Absent = Unit {0}
