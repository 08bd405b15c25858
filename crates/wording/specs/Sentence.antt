-- The fail in a sentence (document 02, P9): "If 1 and 3 stay silent, 5 and 6 never get the notice." Assumes nothing.
use Rattle.std.specs.Prelude.{ℕ, zero, suc, Bool, not, List, [], ◌∷◌, ◌++◌, eqb, leb, length}
use Prim.Native.String.{String}
use Rattle.sets.specs.Tests.{◌and◌, pick}
use Rattle.sets.specs.Causes.{◌gives◌, first_cause}
use Rattle.sets.specs.Sets.{Terminal, Set, mem, size, is_partition}
use Rattle.quorum.specs.Quorum.{most_terminals}
use Rattle.text.specs.Digits.{decimal}
use Rattle.text.specs.Phrases.{phrase}

-- ---- the numbers of a set

-- the members of s among the k terminals from i on, ascending; and among all n
unfoldable pub members_from : (i k : ℕ) (s : Set) → List Terminal
members_from i zero s = []
members_from i (suc k) s = pick (mem i s) (i ∷ members_from (suc i) k s) (members_from (suc i) k s)

abbrev pub members : (n : ℕ) (s : Set) → List Terminal
members n s = members_from 0 n s

-- what stands after a number where so many follow
unfoldable pub between : ℕ → List ℕ
between zero = []
between (suc zero) = phrase " and "
between (suc (suc more)) = phrase ", "

unfoldable pub listing : List Terminal → List ℕ
listing [] = []
listing (i ∷ rest) = decimal i ++ (between (length rest) ++ listing rest)

-- ---- the sentence

-- one phrase where the set has one member, the other where it has several
unfoldable pub agreeing : (n : ℕ) (s : Set) (one several : String) → List ℕ
agreeing n s one several = pick (eqb (size n s) 1) (phrase one) (phrase several)

-- who stays silent
unfoldable pub opening : (n : ℕ) (f : Set) → List ℕ
opening n f =
    pick (eqb f 0) (phrase "Even if all work, ")
    (phrase "If " ++ (listing (members n f) ++ agreeing n f " stays silent, " " stay silent, "))

-- who never gets the notice
unfoldable pub closing : (n : ℕ) (r : Set) → List ℕ
closing n r = listing (members n r) ++ agreeing n r " never gets the notice." " never get the notice."

unfoldable pub sentence : (n : ℕ) (f r : Set) → List ℕ
sentence n f r = opening n f ++ closing n r

-- ---- what is refused: 4, then 2

unfoldable pub terminals_in_range : (n : ℕ) → Bool
terminals_in_range n = leb 2 n and leb n most_terminals

-- a partition of the n terminals with L and R non-empty; which of them is the source is not known here
unfoldable pub composes : (n : ℕ) (f l r : Set) → Bool
composes n f l r = is_partition n f l r and not (eqb l 0) and not (eqb r 0)

unfoldable pub sentence_cause : (n : ℕ) (f l r : Set) → ℕ
sentence_cause n f l r = first_cause (not (terminals_in_range n) gives 4 ∷ not (composes n f l r) gives 2 ∷ [])

-- the sentence, or nothing where the sets are refused
unfoldable pub composed : (n : ℕ) (f l r : Set) → List ℕ
composed n f l r = pick (eqb (sentence_cause n f l r) 0) (sentence n f r) []
