-- The frame of a line from its bytes, as many as a frame can have. Assumes nothing.
use Prim.Native.Nat.{ℕ, ◌/◌, ◌%◌, ◌≤◌, ◌<◌}
use mathlib.Core.Path.{◌≡◌, refl, sym, ap, ◌∙◌}
use mathlib.Core.Bool.{Bool, true, false}
use mathlib.Core.List.{List}
use native.Mathlib.Omega.{arith}
use lib.Dec.{eqb}
use lib.ListN.{length, get_or, take, length-take}
use lib.Seq.{get_or-take}
use borrow.Author.Tests.{leb-true, eqb-true, ne_eqb}
use Rattle.sets.specs.Tests.{pick}
use Rattle.sets.proofs.Bools.{and_l, and_r, pick_yes, pick_no, pick_case}
use Rattle.sets.proofs.Tables.{table_length, table_is}
use Rattle.lines.specs.declared.Frame.{Frame}
use Rattle.lines.specs.declared.Frame.TheVariants.{Foreign, Unknown}
use Rattle.lines.specs.Bytes.{well_formed, byte_at, bytes_of}
use Rattle.lines.specs.Frames.{head_of, link_of, group_of, fault_set_of, start_of, later_of, message_of, channel_of, kind_of, known_frame, frame_of}

pub formed_length : (line : List ℕ) → well_formed line ≡ true → 1 < length line
unfolding well_formed
formed_length line h =
    let one = leb-true 1 (length line) (and_l _ _ h) in
    let even = eqb-true (length line % 2) 0 (and_l _ _ (and_r _ _ h)) in
    omega arith

-- the front of the eight bytes is the line's
front_bytes : (line first : List ℕ) → length first ≡ 8 → length line / 2 ≤ 8 → ((k : ℕ) → k < 8 → get_or first k 0 ≡ byte_at line k)
    → take (length line / 2) first ≡ bytes_of line
unfolding bytes_of
front_bytes line first room short held =
    table_is (length line / 2) (byte_at line) 0 (take (length line / 2) first) (omega (arith, length-take (length line / 2) first))
    (λ j h. get_or-take (length line / 2) first j 0 h ∙ held j (omega arith))

-- no kind has more than eight bytes
both_unknown : (b : Bool) (x y : Frame) → x ≡ Unknown → y ≡ Unknown → pick b x y ≡ Unknown
both_unknown b x y p q = pick_case (λ (f : Frame). f ≡ Unknown) b x y (λ h. p) (λ h. q)

module _ (bytes : List ℕ) (long : 8 < length bytes) where
  longer : (k : ℕ) (frame rest : Frame) → k < 9 → rest ≡ Unknown → pick (eqb (length bytes) k) frame rest ≡ Unknown
  longer k frame rest h e = pick_no _ _ _ (ne_eqb (length bytes) k (λ z. omega arith)) ∙ e

  kind_unknown : (kind : ℕ) → kind_of kind bytes ≡ Unknown
  unfolding kind_of head_of link_of group_of fault_set_of start_of later_of message_of channel_of
  kind_unknown kind =
      let one : (k : ℕ) (frame : Frame) → k < 9 → pick (eqb (length bytes) k) frame Unknown ≡ Unknown = λ k frame h. longer k frame Unknown h refl in
      let two : (j k : ℕ) (frame other : Frame) → j < 9 → k < 9 → pick (eqb (length bytes) j) frame (pick (eqb (length bytes) k) other Unknown) ≡ Unknown =
      λ j k frame other h l. longer j frame _ h (one k other l) in
      both_unknown _ _ _ (one _ _ (omega arith))
      (both_unknown _ _ _ (one _ _ (omega arith))
      (both_unknown _ _ _ (one _ _ (omega arith))
      (both_unknown _ _ _ (longer _ _ _ (omega arith) (longer _ _ _ (omega arith) (two _ _ _ _ (omega arith) (omega arith))))
      (both_unknown _ _ _ (longer _ _ _ (omega arith) (two _ _ _ _ (omega arith) (omega arith)))
      (both_unknown _ _ _ (one _ _ (omega arith))
      (both_unknown _ _ _ (one _ _ (omega arith)) (both_unknown _ _ _ (one _ _ (omega arith)) refl)))))))

  long_unknown : (kinds : ℕ) → known_frame kinds bytes ≡ Unknown
  unfolding known_frame
  long_unknown kinds = both_unknown _ _ _ (kind_unknown (get_or bytes 0 0)) refl

-- ---- the three ways in which a line is taken

module _ (kinds : ℕ) (line : List ℕ) where
  pub frame_foreign : well_formed line ≡ false → frame_of kinds line ≡ Foreign
  unfolding frame_of
  frame_foreign h = pick_no _ _ _ h

  pub frame_long : well_formed line ≡ true → 8 < length line / 2 → frame_of kinds line ≡ Unknown
  unfolding frame_of bytes_of
  frame_long h l = pick_yes _ _ _ h ∙ long_unknown (bytes_of line) (omega (arith, table_length (length line / 2) (byte_at line))) kinds

  pub frame_short : (first : List ℕ) → length first ≡ 8 → well_formed line ≡ true → length line / 2 ≤ 8 → ((k : ℕ) → k < 8 → get_or first k 0 ≡ byte_at line k)
      → known_frame kinds (take (length line / 2) first) ≡ frame_of kinds line
  unfolding frame_of
  frame_short first room h l held = ap (known_frame kinds) (front_bytes line first room l held) ∙ sym (pick_yes _ _ _ h)
