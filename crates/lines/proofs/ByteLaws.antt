-- A line's digits and bytes, digit by digit. Assumes nothing.
use Prim.Native.Nat.{ℕ, ◌+◌, ◌*◌, ◌/◌, ◌%◌, ◌≤◌, ◌<◌}
use mathlib.Core.Path.{◌≡◌, refl, sym, ap, ◌∙◌}
use mathlib.Core.Logic.{⊎_elim}
use mathlib.Core.Bool.{true, false}
use mathlib.Core.List.{List}
use native.Mathlib.Numerals.{add-one}
use native.Mathlib.Omega.{arith}
use lib.Dec.{ltb}
use lib.ListN.{length, get_or, drop, set, replicate, length-set, get_or-replicate, drop_of_length-le, get_or-eq_default}
use lib.Seq.{drop-cons, get_or-set_same, get_or-set_other}
use borrow.Author.Tests.{lt-ltb, le-ltb}
use Rattle.sets.specs.Tests.{pick}
use Rattle.sets.proofs.Bools.{and_yes, and_no_l, pick_yes, pick_no}
use Rattle.sets.proofs.Laws.{below_or_not, equal_or_not}
use Rattle.std.specs.Prelude.{Some}
use Rattle.digits.specs.Digits.{digit_of, value_of, is_digit}
use Rattle.digits.proofs.Laws.{no_value, value_small}
use Rattle.lines.specs.Bytes.{all_digits, digit_at, byte_at}

-- ---- a line of digits, from digit i on

pub digits_turn : (line : List ℕ) (i : ℕ) → i < length line → is_digit (get_or line i 0) ≡ true → all_digits (drop i line) ≡ all_digits (drop (i + 1) line)
unfolding all_digits
digits_turn line i k h = rw (add-one, drop-cons line i 0) (and_yes _ _ h)

pub digits_stop : (line : List ℕ) (i : ℕ) → i < length line → is_digit (get_or line i 0) ≡ false → all_digits (drop i line) ≡ false
unfolding all_digits
digits_stop line i k h = rw (drop-cons line i 0) (and_no_l _ _ h)

pub digits_end : (line : List ℕ) (i : ℕ) → length line ≤ i → all_digits (drop i line) ≡ true
unfolding all_digits
digits_end line i k = rw (drop_of_length-le line k)

-- ---- the bytes after i digits

module _ (line : List ℕ) where
  -- what byte k is then: whole, half or not begun
  pub begun : (i k : ℕ) → ℕ
  begun i k = pick (ltb (2 * k + 1) i) (byte_at line k) (pick (ltb (2 * k) i) (digit_at line (2 * k)) 0)

  begun_whole : (i k : ℕ) → 2 * k + 1 < i → begun i k ≡ byte_at line k
  unfolding begun
  begun_whole i k h = pick_yes _ _ _ (lt-ltb (2 * k + 1) i h)

  begun_half : (i k : ℕ) → i ≡ 2 * k + 1 → begun i k ≡ digit_at line (2 * k)
  unfolding begun
  begun_half i k e = pick_no _ _ _ (le-ltb (2 * k + 1) i (omega arith)) ∙ pick_yes _ _ _ (lt-ltb (2 * k) i (omega arith))

  begun_not : (i k : ℕ) → i ≤ 2 * k → begun i k ≡ 0
  unfolding begun
  begun_not i k h = pick_no _ _ _ (le-ltb (2 * k + 1) i (omega arith)) ∙ pick_no _ _ _ (le-ltb (2 * k) i (omega arith))

  -- the other bytes stay as they are
  begun_stays : (i k : ℕ) → (k ≡ i / 2 → ⊥) → begun i k ≡ begun (i + 1) k
  begun_stays i k n =
      ⊎_elim (λ h. begun_whole i k h ∙ sym (begun_whole (i + 1) k (omega arith)))
      (λ h.
      let far : i < 2 * k = ⊎_elim (λ e. e) (λ e. absurd (n (omega arith))) (below_or_not i (2 * k)) in
      begun_not i k (omega arith) ∙ sym (begun_not (i + 1) k (omega arith)))
      (below_or_not (2 * k + 1) i)

  pub said : (i v : ℕ) → digit_of (get_or line i 0) ≡ Some v → v ≡ digit_at line i
  unfolding digit_at
  said i v h = sym (ap value_of h)

  digit_small : (i : ℕ) → digit_at line i < 16
  unfolding digit_at
  digit_small i = value_small (get_or line i 0)

  -- eight bytes hold the digits before i
  abbrev pub Held : (i : ℕ) (first : List ℕ) → Type 0
  Held i first = (length first ≡ 8) × ((k : ℕ) → k < 8 → get_or first k 0 ≡ begun i k)

  -- one digit more, into its byte from the right
  module _ (first : List ℕ) (i v : ℕ) (held : Held i first) where
    abbrev pub grown : List ℕ
    grown = set first (i / 2) (16 * (get_or first (i / 2) 0 % 16) + v)

    module _ (near : i / 2 < 8) (value : v ≡ digit_at line i) where
      grown_here : get_or grown (i / 2) 0 ≡ 16 * (begun i (i / 2) % 16) + v
      grown_here =
          get_or-set_same first (i / 2) (16 * (get_or first (i / 2) 0 % 16) + v) 0 (omega arith) ∙ ap (λ (b : ℕ). 16 * (b % 16) + v) (held.1 (i / 2) near)

      grown_half : i ≡ 2 * (i / 2) → get_or grown (i / 2) 0 ≡ begun (i + 1) (i / 2)
      grown_half e =
          let was = begun_not i (i / 2) (omega arith) in
          let now = begun_half (i + 1) (i / 2) (omega arith) in
          let same : digit_at line i ≡ digit_at line (2 * (i / 2)) = ap (digit_at line) e in
          omega (arith, grown_here)

      grown_whole : i ≡ 2 * (i / 2) + 1 → get_or grown (i / 2) 0 ≡ begun (i + 1) (i / 2)
      unfolding byte_at
      grown_whole e =
          let was = begun_half i (i / 2) e in
          let now = begun_whole (i + 1) (i / 2) (omega arith) in
          let same : digit_at line i ≡ digit_at line (2 * (i / 2) + 1) = ap (digit_at line) e in
          omega (arith, grown_here, digit_small (2 * (i / 2)))

      grown_at : get_or grown (i / 2) 0 ≡ begun (i + 1) (i / 2)
      grown_at = ⊎_elim grown_half (λ n. grown_whole (omega arith)) (equal_or_not i (2 * (i / 2)))

      pub grown_held : Held (i + 1) grown
      grown_held = (
        length-set first (i / 2) (16 * (get_or first (i / 2) 0 % 16) + v) ∙ held.0,
        λ k h.
            ⊎_elim (λ e. ap (λ (j : ℕ). get_or grown j 0) e ∙ grown_at ∙ ap (begun (i + 1)) (sym e))
            (λ n. get_or-set_other first (i / 2) k (16 * (get_or first (i / 2) 0 % 16) + v) 0 n ∙ held.1 k h ∙ begun_stays i k n) (equal_or_not k (i / 2)),
      )

  -- past the bytes that are kept
  pub kept_held : (first : List ℕ) (i : ℕ) → Held i first → 8 ≤ i / 2 → Held (i + 1) first
  kept_held first i held far = (held.0, λ k h. held.1 k h ∙ begun_stays i k (λ e. omega arith))

  pub start_held : Held 0 (replicate 8 0)
  start_held = (refl, λ k h. get_or-replicate 8 k 0 0 h ∙ sym (begun_not 0 k (omega arith)))

  digit_none : (i : ℕ) → length line ≤ i → digit_at line i ≡ 0
  unfolding digit_at
  digit_none i h = ap (λ (b : ℕ). value_of (digit_of b)) (get_or-eq_default line 0 h) ∙ no_value

  -- at the end of a line of whole bytes
  begun_end : (i k : ℕ) → i ≡ length line → length line % 2 ≡ 0 → begun i k ≡ byte_at line k
  unfolding byte_at
  begun_end i k e even =
      ⊎_elim (λ h. begun_whole i k h)
      (λ h.
      let none = begun_not i k (omega arith) in
      let high = digit_none (2 * k) (omega arith) in
      let low = digit_none (2 * k + 1) (omega arith) in
      omega arith)
      (below_or_not (2 * k + 1) i)

  pub end_held : (first : List ℕ) (i : ℕ) → Held i first → i ≡ length line → length line % 2 ≡ 0 → (k : ℕ) → k < 8 → get_or first k 0 ≡ byte_at line k
  end_held first i held e even k h = held.1 k h ∙ begun_end i k e even
