-- A plan as hexadecimal lines: head, then links by sender, then by hearer, then the groups in their order (document 01, "Hexadecimal lines", with
-- document 02, P10). Assumes nothing.
use Rattle.std.specs.Prelude.{ℕ, zero, suc, ◌/◌, ◌%◌, List, [], ◌∷◌, ◌++◌, eqb, get_or}
use Rattle.sets.specs.Sets.{Set}
use Rattle.sets.specs.Tests.{pick}
use Rattle.quorum.specs.declared.BoundKind.{BoundKind}
use Rattle.quorum.specs.declared.BoundKind.TheVariants.{Most, Groups}
use Rattle.quorum.specs.Quorum.{listed}
use Rattle.plan.specs.declared.Plan.{Plan}
use Rattle.plan.specs.Plan.{hears, cause_of}
use Rattle.text.specs.Digits.{hex_byte, hex_triple}

-- the head's last byte: f, or ff where groups are listed instead
abbrev pub bound_byte : BoundKind → ℕ
bound_byte (Most f) = f
bound_byte (Groups count) = 255

-- 01: n, source, f or ff
unfoldable pub head_line : Plan → List ℕ
head_line p = hex_byte 1 ++ hex_byte p.n ++ hex_byte p.source ++ hex_byte (bound_byte p.bound.kind) ++ (10 ∷ [])

-- 02: from, to
unfoldable pub link_line : ℕ → ℕ → List ℕ
link_line from to = hex_byte 2 ++ hex_byte from ++ hex_byte to ++ (10 ∷ [])

-- the links at the next m of the 400 places of sender and hearer, from place k on: place k is that of sender k / 20 and hearer k % 20
unfoldable pub link_lines : Plan → ℕ → ℕ → List ℕ
link_lines p zero k = []
link_lines p (suc m) k = pick (hears p (k % 20) (k / 20)) (link_line (k / 20) (k % 20)) [] ++ link_lines p m (suc k)

-- 07: a group
unfoldable pub group_line : ℕ → List ℕ
group_line s = hex_byte 7 ++ hex_triple s ++ (10 ∷ [])

-- the next m groups, from group i on
unfoldable pub group_lines : (groups : List Set) → ℕ → ℕ → List ℕ
group_lines groups zero i = []
group_lines groups (suc m) i = group_line (get_or groups i 0) ++ group_lines groups m (suc i)

unfoldable pub plan_text : Plan → List ℕ
plan_text p = head_line p ++ (link_lines p 400 0 ++ group_lines p.bound.groups (listed p.bound.kind) 0)

-- what is written: nothing of a record that is no plan. The answer and the list are those of a text that is put (crates/text/specs/Texts.antt), with the
-- plan's own cause, 4, 5 or 17, before 12
unfoldable pub written_text : Plan → List ℕ
written_text p = pick (eqb (cause_of p) 0) (plan_text p) []
