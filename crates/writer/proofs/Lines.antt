-- The lines of the text that is written. Assumes nothing.
use Prim.Native.Nat.{ℕ, zero, suc, ◌*◌, ◌/◌, ◌%◌, ◌≤◌}
use mathlib.Core.Path.{◌≡◌, refl}
use mathlib.Core.Bool.{true}
use mathlib.Core.List.{List, [], ◌∷◌, ◌++◌}
use native.Mathlib.Omega.{arith}
use lib.ListN.{length, get_or, length-append}
use Rattle.sets.specs.Tests.{pick}
use Rattle.sets.proofs.Bools.{pick_case, every}
use Rattle.plan.specs.declared.Plan.{Plan}
use Rattle.plan.specs.Plan.{hears}
use Rattle.text.specs.Digits.{hex_byte, hex_pair, hex_triple}
use Rattle.text.proofs.Laws.{no_end, byte_no_end}
use Rattle.frames.specs.Lines.{ended, lines_from}
use Rattle.frames.proofs.TextLines.{line_of}
use Rattle.writer.specs.Written.{bound_byte, head_line, link_line, link_lines, group_line, group_lines}
use Rattle.writer.proofs.Digits.{head_digits, link_digits, group_digits}

head_no_end : (n source f : ℕ) → no_end (head_digits n source f) ≡ true
unfolding every
head_no_end n source f = byte_no_end 1 _ (byte_no_end n _ (byte_no_end source _ (byte_no_end f [] refl)))

link_no_end : (from to : ℕ) → no_end (link_digits from to) ≡ true
unfolding every
link_no_end from to = byte_no_end 2 _ (byte_no_end from _ (byte_no_end to [] refl))

pub head_lines : (p : Plan) (rest : List ℕ) → lines_from [] (head_line p ++ rest) ≡ ended (head_digits p.n p.source (bound_byte p.bound.kind)) ∷ lines_from [] rest
unfolding head_line hex_byte
head_lines p rest = line_of [] (head_digits p.n p.source (bound_byte p.bound.kind)) rest (head_no_end p.n p.source (bound_byte p.bound.kind))

pub link_lines_lem : (from to : ℕ) (rest : List ℕ) → lines_from [] (link_line from to ++ rest) ≡ ended (link_digits from to) ∷ lines_from [] rest
unfolding link_line hex_byte
link_lines_lem from to rest = line_of [] (link_digits from to) rest (link_no_end from to)

group_no_end : (s : ℕ) → no_end (group_digits s) ≡ true
unfolding every
group_no_end s = byte_no_end 7 _ (byte_no_end (s / 65536) _ (byte_no_end (s % 65536 / 256) _ (byte_no_end (s % 65536 % 256) [] refl)))

pub group_lines_lem : (s : ℕ) (rest : List ℕ) → lines_from [] (group_line s ++ rest) ≡ ended (group_digits s) ∷ lines_from [] rest
unfolding group_line hex_triple hex_pair hex_byte
group_lines_lem s rest = line_of [] (group_digits s) rest (group_no_end s)

-- ---- the text's length

pub head_length : (p : Plan) → length (head_line p) ≡ 9
unfolding head_line hex_byte
head_length p = refl

pub link_length : (from to : ℕ) → length (link_line from to) ≡ 7
unfolding link_line hex_byte
link_length from to = refl

pub links_length : (p : Plan) (m k : ℕ) → length (link_lines p m k) ≤ 7 * m
unfolding link_lines
links_length p zero k = omega arith
links_length p (suc m) k =
    let rest : length (link_lines p m (suc k)) ≤ 7 * m = links_length p m (suc k) in
    let here : length (pick (hears p (k % 20) (k / 20)) (link_line (k / 20) (k % 20)) []) ≤ 7 =
    pick_case (λ (l : List ℕ). length l ≤ 7) (hears p (k % 20) (k / 20)) (link_line (k / 20) (k % 20)) []
    (λ h. omega (arith, link_length (k / 20) (k % 20))) (λ h. omega arith) in
    simp length-append (omega arith)

pub group_length : (s : ℕ) → length (group_line s) ≡ 9
unfolding group_line hex_triple hex_pair hex_byte
group_length s = refl

pub groups_length : (groups : List ℕ) (m i : ℕ) → length (group_lines groups m i) ≡ 9 * m
unfolding group_lines
groups_length groups zero i = refl
groups_length groups (suc m) i =
    let rest : length (group_lines groups m (suc i)) ≡ 9 * m = groups_length groups m (suc i) in
    simp length-append (omega (arith, group_length (get_or groups i 0)))
