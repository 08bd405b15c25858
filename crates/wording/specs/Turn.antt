-- One turn of the loop that says a set's numbers. Only private functions cite this. Assumes nothing.
use Rattle.std.specs.Prelude.{ℕ, ◌+◌, ◌/◌, ◌^◌, List, [], ◌++◌}
use Rattle.std.specs.Int.Count.{ones}
use Rattle.sets.specs.Tests.{pick}
use Rattle.sets.specs.Sets.{Set, mem}
use Rattle.text.specs.Digits.{decimal}
use Rattle.wording.specs.Sentence.{between}

-- terminal i, if it is a member, and what stands between it and those that follow
unfoldable pub named : (s : Set) (i : ℕ) → List ℕ
named s i = pick (mem i s) (decimal i ++ between (ones (s / 2 ^ (i + 1)))) []
