-- What the search's own functions compute, on a plan's rows. No caller sees these. Assumes nothing.
use Rattle.std.specs.Prelude.{ℕ, ◌+◌, ◌-◌, ◌*◌, ◌^◌, ◌≤◌, ◌<◌, Bool, true, false, ◌⊎◌, List, ◌≡◌, Option, Some, None, ltb, get_or}
use Rattle.std.specs.Int.Bits.{bit_and}
use Rattle.sets.specs.Tests.{◌and◌, pick}
use Rattle.sets.specs.Sets.{mem, count, mask, size, singleton}
use Rattle.quorum.specs.declared.BoundKind.TheVariants.{Most}
use Rattle.quorum.specs.Quorum.{group_at}
use Rattle.plan.specs.declared.Plan.{Plan}
use Rattle.plan.specs.Plan.{cause_of}
use Rattle.closure.specs.FaultSet.{hears_enough, is_fault_set}
use Rattle.closure.specs.Closure.{reached, cut_off}
use Rattle.closure.specs.Verdict.{defeats, Found, none, found}
use Rattle.faults.specs.Rows.{over}
use Rattle.closure.specs.Margin.{heard_of_l, leaves_good}

-- the terminals that hear the source
unfoldable pub direct : List ℕ → ℕ → ℕ
direct rows source = over rows 0 (singleton 32 source)

-- what the search gives stands for the best set found
unfoldable pub StandsFor : Option ℕ → Found → Type 0
StandsFor best none = best ≡ None
StandsFor best (found s) = best ≡ Some s

-- a set of 32 bits without one terminal
unfoldable pub less : ℕ → ℕ → ℕ
less s b = bit_and s (4294967295 - singleton 32 b)

-- ---- branch and bound

-- "fewest members, then the smallest as a number" as one number: a set of twenty terminals is below 2 ^ 20 = 1048576
unfoldable pub key : ℕ → ℕ
key s = size 20 s * 1048576 + s

-- every member of a is one of b; no member of a is one of b
abbrev pub Inside : ℕ → ℕ → Type 0
Inside a b = (i : ℕ) → mem i a ≡ true → mem i b ≡ true

abbrev pub Apart : ℕ → ℕ → Type 0
Apart a b = (i : ℕ) → mem i a ≡ true → mem i b ≡ false

-- r has some of the members of s, and no other
pub record SomeOf (s r : ℕ) : Type 0 where
  pub some : r ≡ 0 → ⊥
  pub inside : Inside r s

-- a part of the search: the sets that have all of inn and none of out
pub record Between (inn out s : ℕ) : Type 0 where
  pub has : Inside inn s
  pub lacks : Apart out s

-- all of known are in the fault set s, or a notice reaches them in spite of it
abbrev pub Settled : Plan → ℕ → ℕ → Type 0
Settled p s known = (i : ℕ) → mem i known ≡ true → (mem i s ≡ true) ⊎ (mem i (reached p s) ≡ true)

-- no set that has inn, and for which known is settled, comes before best
abbrev pub Hopeless : Plan → ℕ → ℕ → ℕ → Type 0
Hopeless p inn known best = (s : ℕ) → defeats p s ≡ true → Inside inn s → Settled p s known → best ≤ key s

-- whoever is outside the wall and hears enough of s is in s
abbrev pub Closed : Plan → ℕ → ℕ → Type 0
Closed p wall s = (b : ℕ) → b < p.n → mem b wall ≡ false → hears_enough p b s ≡ true → mem b s ≡ true

-- r is the least closed set that has s. Without a wall it is s with all that it forces, by a bound f: every fault set is closed
pub record Spread (p : Plan) (s wall r : ℕ) : Type 0 where
  pub below : r < 2 ^ p.n
  pub has : Inside s r
  pub closed : Closed p wall r
  pub least : (t : ℕ) → Inside s t → Closed p wall t → Inside r t

-- r is s, and of all else has only what every closed set with s has
pub record Spreading (p : Plan) (s wall r : ℕ) : Type 0 where
  pub below : r < 2 ^ p.n
  pub has : Inside s r
  pub least : (t : ℕ) → Inside s t → Closed p wall t → Inside r t

-- so is r of l after a turn; and where nobody has joined, l is closed
pub record Swept (p : Plan) (wall l r : ℕ) : Type 0 where
  pub grown : Spreading p l wall r
  pub ends : r ≡ l → Closed p wall l

-- r is settled wherever known is, for the fault sets with none of out
pub record Grown (p : Plan) (out known r : ℕ) : Type 0 where
  pub below : r < 2 ^ p.n
  pub settled : (s : ℕ) → is_fault_set p s ≡ true → Apart out s → Settled p s known → Settled p s r

-- what each call of the search for a bound f is given
pub record Part (p : Plan) (f inn out known : ℕ) : Type 0 where
  pub plan : cause_of p ≡ 0
  pub bound_is : p.bound.kind ≡ Most f
  pub inn_below : inn < 2 ^ p.n
  pub out_below : out < 2 ^ p.n
  pub known_below : known < 2 ^ p.n
  pub source_out : mem p.source out ≡ true
  pub settled : (s : ℕ) → is_fault_set p s ≡ true → Between inn out s → Settled p s known

-- and what it returns: the least of best and the keys of some sets that defeat the plan, those of the part
pub record Least (p : Plan) (Of : ℕ → Type 0) (best r : ℕ) : Type 0 where
  pub at_most : r ≤ best
  pub comes : (r ≡ best) ⊎ ((s : ℕ) × (defeats p s ≡ true) × (r ≡ key s))
  pub below : (s : ℕ) → defeats p s ≡ true → Of s → r ≤ key s

-- ---- the search for groups goes group by group

-- what each call is given: any set that has none of out is a fault set, and whoever a set of the part cuts off is one of hopeful
pub record Cutting (p : Plan) (inn out hopeful : ℕ) : Type 0 where
  pub plan : cause_of p ≡ 0
  pub inn_below : inn < 2 ^ p.n
  pub out_below : out < 2 ^ p.n
  pub hopeful_below : hopeful < 2 ^ p.n
  pub inn_apart : Apart out inn
  pub fault : (s : ℕ) → s < 2 ^ p.n → Apart out s → is_fault_set p s ≡ true
  pub cut_hopeful : (s : ℕ) → defeats p s ≡ true → Between inn out s → Inside (cut_off p s) hopeful

-- r has those of hopeful that a set within all may cut off, and perhaps others of them: the rest is reached even if all others of all are bad
pub record Hopeful (p : Plan) (all hopeful r : ℕ) : Type 0 where
  pub below : r < 2 ^ p.n
  pub kept : (b : ℕ) → b < p.n → mem b hopeful ≡ true → (mem b r ≡ true) ⊎ (mem b (reached p (less all b)) ≡ true)

-- the group's parts are fault sets
abbrev pub Together : Plan → (group : ℕ) → Type 0
Together p group = (group < 2 ^ p.n) × ((s : ℕ) → s < 2 ^ p.n → Inside s group → is_fault_set p s ≡ true)

-- a part of one of the first k groups
abbrev pub PartOfOne : Plan → ℕ → ℕ → Type 0
PartOfOne p k s = (i : ℕ) × (i < k) × Inside s (group_at p.bound i)

-- none of these comes before best
abbrev pub Earlier : Plan → ℕ → ℕ → Type 0
Earlier p k best = (s : ℕ) → defeats p s ≡ true → PartOfOne p k s → best ≤ key s

-- every set
abbrev pub Any : ℕ → Type 0
Any s = Unit {0}

-- ---- the search for margins

-- somebody of s hears each of r
abbrev pub Heard : (rows : List ℕ) (s r : ℕ) → Type 0
Heard rows s r = (i : ℕ) → mem i r ≡ true → (b : ℕ) × (b < 20) × (mem b s ≡ true) × (mem i (get_or rows b 0) ≡ true)

-- none of r, which has out, is in a fault set that has inn and lacks out
pub record Barred (p : Plan) (inn out r : ℕ) : Type 0 where
  pub below : r < 2 ^ p.n
  pub has : Inside out r
  pub apart : (s : ℕ) → is_fault_set p s ≡ true → Between inn out s → Apart r s

-- how many of s are in a row
unfoldable pub in_row : (row s : ℕ) → ℕ
in_row row s = count 32 (λ i. mem i row and mem i s)

-- the lesser of what a terminal had and what it hears of l, if it is sought
unfoldable pub lesser : (row : ℕ) (sought : Bool) (l before : ℕ) → ℕ
lesser row sought l before = pick (sought and ltb (in_row row l) before) (in_row row l) before

-- those of sure that are out, or all but f of sure where that is more
unfoldable pub surely : (row f out sure : ℕ) → ℕ
surely row f out sure = pick (ltb (in_row row (bit_and sure out)) (in_row row sure - f)) (in_row row sure - f) (in_row row (bit_and sure out))

unfoldable pub hopeful : (rows : List ℕ) (f out sure : ℕ) (counts : List ℕ) → ℕ
hopeful rows f out sure counts = mask 20 (λ b. ltb (surely (get_or rows b 0) f out sure) (get_or counts b 0))

-- what was found for the sought ones is no more than they hear of inn's L
abbrev pub Seen : Plan → (inn sought : ℕ) (counts : List ℕ) → Type 0
Seen p inn sought counts = (b : ℕ) → mem b sought ≡ true → get_or counts b 0 ≤ heard_of_l p b inn

-- what each call returns: no more than was found before, by a fault set that leaves the terminal good, and for the sought ones no more than with any of some sets
pub record Lower (p : Plan) (Of : ℕ → Type 0) (sought : ℕ) (counts r : List ℕ) : Type 0 where
  pub at_most : (b : ℕ) → b < 20 → get_or r b 0 ≤ get_or counts b 0
  pub comes : (b : ℕ) → b < 20 → (get_or r b 0 ≡ get_or counts b 0) ⊎ ((s : ℕ) × (leaves_good p b s ≡ true) × (get_or r b 0 ≡ heard_of_l p b s))
  pub least : (b s : ℕ) → mem b sought ≡ true → leaves_good p b s ≡ true → Of s → get_or r b 0 ≤ heard_of_l p b s
