-- A byte's two digits read back, and the frames of the lines that are written. Assumes nothing.
use Prim.Native.Nat.{ℕ, ◌+◌, ◌*◌, ◌/◌, ◌%◌, ◌<◌}
use mathlib.Core.Path.{◌≡◌, refl, ap, ap₂, ◌∙◌}
use mathlib.Core.Bool.{true}
use mathlib.Core.List.{List, [], ◌++◌}
use native.Mathlib.Omega.{arith}
use lib.Dec.{eqb}
use Rattle.sets.specs.Tables.{table}
use Rattle.sets.specs.Sets.{mem}
use Rattle.sets.proofs.Bools.{and_i, pick_yes, pick_no}
use Rattle.digits.specs.Digits.{digit_of, character_of, value_of}
use Rattle.digits.proofs.Laws.{in_after_out, digit_yes}
use Rattle.text.specs.Digits.{hex_byte}
use Rattle.lines.specs.declared.Frame.TheVariants.{Head, Link, Group}
use Rattle.lines.specs.Bytes.{all_digits, well_formed, digit_at, byte_at, bytes_of}
use Rattle.lines.specs.Frames.{pair_at, triple_at, head_of, link_of, group_of, kind_of, known_frame, frame_of}
use Rattle.frames.specs.Reading.{plan_kinds}

-- ---- one byte

-- the value that is read of a digit that was written
abbrev value_back : ℕ → ℕ
value_back v = value_of (digit_of (character_of v))

pub byte_back : (b : ℕ) → b < 256 → 16 * value_back (b / 16) + value_back (b % 16) ≡ b
byte_back b h =
    let high : value_back (b / 16) ≡ b / 16 = ap value_of (in_after_out (b / 16) (omega arith)) in
    let low : value_back (b % 16) ≡ b % 16 = ap value_of (in_after_out (b % 16) (omega arith)) in
    omega arith

pub byte_digits : (b : ℕ) (rest : List ℕ) → b < 256 → all_digits rest ≡ true → all_digits (hex_byte b ++ rest) ≡ true
unfolding all_digits hex_byte
byte_digits b rest h r =
    and_i _ _ (digit_yes _ _ (in_after_out (b / 16) (omega arith))) (and_i _ _ (digit_yes _ _ (in_after_out (b % 16) (omega arith))) r)

-- ---- the three lines

abbrev pub head_digits : ℕ → ℕ → ℕ → List ℕ
head_digits n source f = hex_byte 1 ++ (hex_byte n ++ (hex_byte source ++ (hex_byte f ++ [])))

abbrev pub link_digits : ℕ → ℕ → List ℕ
link_digits from to = hex_byte 2 ++ (hex_byte from ++ (hex_byte to ++ []))

abbrev pub group_digits : ℕ → List ℕ
group_digits s = hex_byte 7 ++ (hex_byte (s / 65536) ++ (hex_byte (s % 65536 / 256) ++ (hex_byte (s % 65536 % 256) ++ [])))

head_digits_lem : (n source f : ℕ) → n < 256 → source < 256 → f < 256 → all_digits (head_digits n source f) ≡ true
unfolding all_digits
head_digits_lem n source f a b c =
    byte_digits 1 (hex_byte n ++ (hex_byte source ++ (hex_byte f ++ []))) (omega arith)
    (byte_digits n (hex_byte source ++ (hex_byte f ++ [])) a (byte_digits source (hex_byte f ++ []) b (byte_digits f [] c refl)))

link_digits_lem : (from to : ℕ) → from < 256 → to < 256 → all_digits (link_digits from to) ≡ true
unfolding all_digits
link_digits_lem from to a b =
    byte_digits 2 (hex_byte from ++ (hex_byte to ++ [])) (omega arith) (byte_digits from (hex_byte to ++ []) a (byte_digits to [] b refl))

group_digits_lem : (s : ℕ) → s < 16777216 → all_digits (group_digits s) ≡ true
unfolding all_digits
group_digits_lem s h =
    byte_digits 7 (hex_byte (s / 65536) ++ (hex_byte (s % 65536 / 256) ++ (hex_byte (s % 65536 % 256) ++ []))) (omega arith)
    (byte_digits (s / 65536) (hex_byte (s % 65536 / 256) ++ (hex_byte (s % 65536 % 256) ++ [])) (omega arith)
    (byte_digits (s % 65536 / 256) (hex_byte (s % 65536 % 256) ++ []) (omega arith) (byte_digits (s % 65536 % 256) [] (omega arith) refl)))

head_same : {a b c n source f : ℕ} → a ≡ n → b ≡ source → c ≡ f → Head a b c ≡ Head n source f
head_same p q r = cc

pub head_frame : (n source f : ℕ) → n < 256 → source < 256 → f < 256 → frame_of plan_kinds (head_digits n source f) ≡ Head n source f
unfolding mem frame_of well_formed bytes_of table byte_at digit_at known_frame kind_of head_of hex_byte
head_frame n source f a b c =
    let kind : 16 * value_back 0 + value_back 1 ≡ 1 = byte_back 1 (omega arith) in
    pick_yes _ _ _ (and_i _ _ refl (and_i _ _ refl (head_digits_lem n source f a b c)))
    ∙ pick_yes _ _ _ (ap (λ (k : ℕ). mem k plan_kinds) kind)
    ∙ pick_yes _ _ _ (ap (λ (k : ℕ). eqb k 1) kind)
    ∙ pick_yes _ _ _ refl
    ∙ head_same (byte_back n a) (byte_back source b) (byte_back f c)

pub link_frame : (from to : ℕ) → from < 256 → to < 256 → frame_of plan_kinds (link_digits from to) ≡ Link from to
unfolding mem frame_of well_formed bytes_of table byte_at digit_at known_frame kind_of link_of hex_byte
link_frame from to a b =
    let kind : 16 * value_back 0 + value_back 2 ≡ 2 = byte_back 2 (omega arith) in
    pick_yes _ _ _ (and_i _ _ refl (and_i _ _ refl (link_digits_lem from to a b)))
    ∙ pick_yes _ _ _ (ap (λ (k : ℕ). mem k plan_kinds) kind)
    ∙ pick_no _ _ _ (ap (λ (k : ℕ). eqb k 1) kind)
    ∙ pick_yes _ _ _ (ap (λ (k : ℕ). eqb k 2) kind)
    ∙ pick_yes _ _ _ refl
    ∙ ap₂ Link (byte_back from a) (byte_back to b)

pub group_frame : (s : ℕ) → s < 16777216 → frame_of plan_kinds (group_digits s) ≡ Group s
unfolding mem frame_of well_formed bytes_of table byte_at digit_at known_frame kind_of group_of triple_at pair_at hex_byte
group_frame s h =
    let kind : 16 * value_back 0 + value_back 7 ≡ 7 = byte_back 7 (omega arith) in
    pick_yes _ _ _ (and_i _ _ refl (and_i _ _ refl (group_digits_lem s h)))
    ∙ pick_yes _ _ _ (ap (λ (k : ℕ). mem k plan_kinds) kind)
    ∙ pick_no _ _ _ (ap (λ (k : ℕ). eqb k 1) kind)
    ∙ pick_no _ _ _ (ap (λ (k : ℕ). eqb k 2) kind)
    ∙ pick_no _ _ _ (ap (λ (k : ℕ). eqb k 3) kind)
    ∙ pick_no _ _ _ (ap (λ (k : ℕ). eqb k 4) kind)
    ∙ pick_no _ _ _ (ap (λ (k : ℕ). eqb k 5) kind)
    ∙ pick_yes _ _ _ (ap (λ (k : ℕ). eqb k 7) kind)
    ∙ pick_yes _ _ _ refl
    ∙ ap Group (set_back (byte_back (s / 65536) (omega arith)) (byte_back (s % 65536 / 256) (omega arith)) (byte_back (s % 65536 % 256) (omega arith)))
  where
    set_back : {a b c : ℕ} → a ≡ s / 65536 → b ≡ s % 65536 / 256 → c ≡ s % 65536 % 256 → 65536 * a + (256 * b + c) ≡ s
    set_back p q r = omega arith
