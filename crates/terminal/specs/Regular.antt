-- What holds of a record that was made by steps from a start: of the claim that after r rounds a neighbour has at most r values, so that no step of rounds 1 to
-- 40 is refused (document 02, P4). Assumes nothing.
use Rattle.std.specs.Prelude.{ℕ, ◌≤◌, ◌<◌, ◌≡◌, true, false, length}
use Rattle.quorum.specs.Quorum.{most_terminals}
use Rattle.terminal.specs.Rule.{View, among, spoken_by}

pub record Regular (r : View) : Type 0 where
  -- it has a place for each terminal
  pub room : length r.notes ≡ most_terminals
  -- what is noted is a layout
  pub layouts : (j : ℕ) → among 0 (spoken_by r.notes j).layouts ≡ false
  pub small : (j v : ℕ) → among v (spoken_by r.notes j).layouts ≡ true → v < 65536
  -- no neighbour has more layouts in its edition than there were rounds
  pub few : (j : ℕ) → length (spoken_by r.notes j).layouts ≤ r.round
