-- The numbers of a plan, what a terminal may hear, who may be bad together, and when neighbours are enough to be believed (document 01, "The site", with
-- document 02, P10). Assumes nothing.
use Rattle.std.specs.Prelude.{ℕ, Bool, true, not, List, eqb, ltb, leb, get_or, replicate}
use Rattle.sets.specs.Tests.{◌and◌, ◌implies◌, pick}
use Rattle.sets.specs.Sets.{Terminal, Set, mem, count, all, some, within}
use Rattle.quorum.specs.declared.BoundKind.{BoundKind}
use Rattle.quorum.specs.declared.BoundKind.TheVariants.{Most, Groups}
use Rattle.quorum.specs.declared.Bound.{Bound}

-- a plan has at most so many terminals, and so many groups
abbrev pub most_terminals : ℕ
most_terminals = 20

abbrev pub most_groups : ℕ
most_groups = 16

-- ---- the bound: at most f bad ones among those that a good terminal hears, or groups that fail together

abbrev pub no_groups : List Set
no_groups = replicate most_groups 0

-- the bound f
abbrev pub at_most : (f : ℕ) → Bound
at_most f = record { kind = Most f; groups = no_groups }

-- so many groups are listed
abbrev pub listed : BoundKind → ℕ
listed (Most f) = 0
listed (Groups count) = count

unfoldable pub group_at : Bound → ℕ → Set
group_at bound i = get_or bound.groups i 0

-- ---- what is refused: 4, 5 and 17

-- f is from 0 to n - 1
abbrev pub kind_in_range : (n : ℕ) → BoundKind → Bool
kind_in_range n (Most f) = ltb f n
kind_in_range n (Groups count) = true

-- n from 2 to 20, the source below n
unfoldable pub in_range : (n : ℕ) (source : Terminal) → BoundKind → Bool
in_range n source kind = leb 2 n and leb n most_terminals and ltb source n and kind_in_range n kind

-- a set has terminals below n only, and not this one: what a terminal hears has not itself, a group and a fault set have not the source
unfoldable pub others : (n : ℕ) (own : Terminal) (s : Set) → Bool
others n own s = within n s and not (mem own s)

-- 1 to 16 groups
abbrev pub listed_sound : BoundKind → Bool
listed_sound (Most f) = true
listed_sound (Groups count) = leb 1 count and leb count most_groups

-- a group names others than the source, and may be empty; the places after those that are listed are empty, so all sixteen where there is a bound f
unfoldable pub groups_sound : (n : ℕ) (source : Terminal) → Bound → Bool
groups_sound n source bound =
    listed_sound bound.kind
    and all most_groups (λ i. pick (ltb i (listed bound.kind)) (others n source (group_at bound i)) (eqb (group_at bound i) 0))

-- ---- enough

-- the terminals below n that have P are together part of one group. The empty set is part of any group, and is all that is part of a place that is not
-- listed, since that is empty
unfoldable pub fit : (n : ℕ) → Bound → (Terminal → Bool) → Bool
fit n bound P = some most_groups (λ i. all n (λ j. P j implies mem j (group_at bound i)))

-- the terminals below n that have P can't all be bad: they are more than f, or they fit in no group
abbrev pub enough_by : BoundKind → (n : ℕ) → Bound → (Terminal → Bool) → Bool
enough_by (Most f) n bound P = ltb f (count n P)
enough_by (Groups count) n bound P = not (fit n bound P)

-- all that the layers above may use of it is that it is monotone, and false where nobody has P (proofs/Laws.antt)
unfoldable pub enough : (n : ℕ) → Bound → (Terminal → Bool) → Bool
enough n bound P = enough_by bound.kind n bound P
