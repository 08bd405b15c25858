-- What a line's frame holds: an edition and a layout of two bytes each, and edition 1 in the old form. Assumes nothing.
use Prim.Native.Nat.{ℕ, ◌+◌, ◌*◌, ◌/◌, ◌≤◌, ◌<◌}
use mathlib.Core.Path.{◌≡◌, refl}
use mathlib.Core.Logic.{⊎_elim}
use mathlib.Core.Bool.{Bool, true}
use mathlib.Core.List.{List}
use native.Mathlib.Omega.{arith}
use lib.Dec.{ltb}
use lib.ListN.{length, get_or, get_or-eq_default}
use borrow.Author.Tests.{lt-ltb, ltb-true, eqb-true}
use Rattle.sets.specs.Tests.{pick}
use Rattle.sets.specs.Sets.{Set}
use Rattle.sets.proofs.Bools.{and_i, and_l, and_r, pick_case}
use Rattle.sets.proofs.Laws.{below_or_not}
use Rattle.sets.proofs.Tables.{table_length, table_at}
use Rattle.digits.proofs.Laws.{value_small}
use Rattle.lines.specs.declared.Form.{Form}
use Rattle.lines.specs.declared.Form.TheVariants.{Old, New}
use Rattle.lines.specs.declared.Frame.{Frame}
use Rattle.lines.specs.Bytes.{digit_at, byte_at, bytes_of}
use Rattle.lines.specs.Frames.{pair_at, head_of, link_of, group_of, fault_set_of, start_of, later_of, message_of, channel_of, kind_of, known_frame, frame_of, paired, fits}

-- ---- the numbers

pub paired_parts : (form : Form) (edition layout : ℕ) → paired form edition layout ≡ true
    → (edition < 65536) × (layout < 65536) × (form ≡ Old → edition ≡ 1)
paired_parts Old edition layout h =
    let one = eqb-true edition 1 (and_l _ _ h) in (omega arith, ltb-true layout 65536 (and_r _ _ h), λ e. one)
paired_parts New edition layout h = (
  ltb-true edition 65536 (and_l _ _ h),
  ltb-true layout 65536 (and_r _ _ h),
  λ e. absurd (let z : ◌≡◌ {A = ℕ} 0 1 = cc in omega arith),
)

-- a byte, and the two that a larger number has
byte_small : (line : List ℕ) (k : ℕ) → byte_at line k < 256
unfolding byte_at digit_at
byte_small line k = omega (arith, value_small (get_or line (2 * k) 0), value_small (get_or line (2 * k + 1) 0))

entry_small : (line : List ℕ) (k : ℕ) → get_or (bytes_of line) k 0 < 256
unfolding bytes_of
entry_small line k =
    ⊎_elim (λ h. omega (arith, table_at (length line / 2) (byte_at line) 0 k h, byte_small line k))
    (λ h.
    let over : length (bytes_of line) ≤ k = omega (arith, table_length (length line / 2) (byte_at line)) in
    omega (arith, get_or-eq_default (bytes_of line) 0 over))
    (below_or_not k (length line / 2))

pair_small : (line : List ℕ) (k : ℕ) → pair_at (bytes_of line) k < 65536
unfolding pair_at
pair_small line k = omega (arith, entry_small line k, entry_small line (k + 1))

-- ---- the frame

both_fit : (b : Bool) (x y : Frame) → fits x ≡ true → fits y ≡ true → fits (pick b x y) ≡ true
both_fit b x y p q = pick_case (λ (f : Frame). fits f ≡ true) b x y (λ h. p) (λ h. q)

module _ (line : List ℕ) where
  pair_fits : (k : ℕ) → ltb (pair_at (bytes_of line) k) 65536 ≡ true
  pair_fits k = lt-ltb (pair_at (bytes_of line) k) 65536 (pair_small line k)

  start_fits : fits (start_of (bytes_of line)) ≡ true
  unfolding start_of
  start_fits =
      both_fit _ _ _ (and_i _ _ refl (pair_fits 1))
      (both_fit _ _ _ (and_i _ _ refl (pair_fits 1))
      (both_fit _ _ _ (and_i _ _ (pair_fits 1) (pair_fits 3)) (both_fit _ _ _ (and_i _ _ (pair_fits 1) (pair_fits 3)) refl)))

  later_fits : fits (later_of (bytes_of line)) ≡ true
  unfolding later_of
  later_fits = both_fit _ _ _ (and_i _ _ (pair_fits 2) (pair_fits 4)) refl

  message_fits : fits (message_of (bytes_of line)) ≡ true
  unfolding message_of
  message_fits =
      both_fit _ _ _ (and_i _ _ refl (pair_fits 4))
      (both_fit _ _ _ (and_i _ _ (pair_fits 4) (pair_fits 6)) (both_fit _ _ _ (pair_fits 3) refl))

  channel_fits : fits (channel_of (bytes_of line)) ≡ true
  unfolding channel_of
  channel_fits = both_fit _ _ _ (pair_fits 1) refl

  kind_fits : (kind : ℕ) → fits (kind_of kind (bytes_of line)) ≡ true
  unfolding kind_of head_of link_of group_of fault_set_of
  kind_fits kind =
      both_fit _ _ _ (both_fit _ _ _ refl refl)
      (both_fit _ _ _ (both_fit _ _ _ refl refl)
      (both_fit _ _ _ (both_fit _ _ _ refl refl)
      (both_fit _ _ _ start_fits
      (both_fit _ _ _ message_fits
      (both_fit _ _ _ (both_fit _ _ _ refl refl) (both_fit _ _ _ later_fits (both_fit _ _ _ channel_fits refl)))))))

  pub frame_fits : (kinds : Set) → fits (frame_of kinds line) ≡ true
  unfolding frame_of known_frame
  frame_fits kinds = both_fit _ _ _ (both_fit _ _ _ (kind_fits (get_or (bytes_of line) 0 0)) refl) refl
