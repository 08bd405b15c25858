-- Lists put into a list one after the other, and the links from one place on. Assumes nothing.
use Prim.Native.Nat.{ℕ, suc, ◌+◌, ◌-◌, ◌*◌, ◌/◌, ◌%◌, ◌≤◌, ◌<◌}
use mathlib.Core.Path.{◌≡◌, refl, sym, ap, ap₂, ◌∙◌}
use mathlib.Core.Logic.{◌⊎◌, inl, inr, ⊎_elim}
use mathlib.Core.Bool.{Bool, true, false}
use mathlib.Core.List.{List, [], ◌∷◌, ◌++◌}
use native.Mathlib.Nat.{add-zero}
use native.Mathlib.Numerals.{add-one, add-two, add-four, add_six, add_eight}
use native.Mathlib.Omega.{arith}
use lib.ListN.{length, get_or, set, length-append}
use lib.Seq.{sets, length-sets}
use borrow.Author.Tests.{ne_eqb}
use Rattle.std.specs.Prelude.{Err}
use Rattle.sets.specs.Tests.{pick}
use Rattle.sets.proofs.Bools.{pick_yes, pick_no}
use Rattle.quorum.specs.Quorum.{listed}
use Rattle.plan.specs.declared.Plan.{Plan}
use Rattle.plan.specs.declared.Unsound.{Unsound}
use Rattle.plan.specs.declared.Unsound.TheVariants.{WrongRange, WrongLink, WrongGroups}
use Rattle.plan.specs.Plan.{number_of, hears, cause_of}
use Rattle.text.specs.declared.Written.{Written}
use Rattle.digits.specs.Digits.{character_of}
use Rattle.text.specs.Digits.{hex_byte, hex_pair, hex_triple}
use Rattle.text.specs.Texts.{written_of, put_into}
use Rattle.text.proofs.Laws.{put_fits, put_short, written_fits}
use Rattle.writer.specs.Written.{bound_byte, head_line, link_line, link_lines, group_line, group_lines, plan_text, written_text}
use Rattle.writer.proofs.Lines.{head_length, link_length, group_length}
use Rattle.writer.proofs.Laws.{sound_text, text_length}

-- one list after another
pub sets_append : (l : List ℕ) (i : ℕ) (xs ys : List ℕ) → sets l i (xs ++ ys) ≡ sets (sets l i xs) (i + length xs) ys
sets_append l i [] ys = ap (λ (j : ℕ). sets l j ys) (sym (add-zero i))
sets_append l i (x ∷ xs) ys =
    let e : suc i + length xs ≡ i + suc (length xs) = omega arith in
    sets_append (set l i x) (suc i) xs ys ∙ ap (λ (j : ℕ). sets (sets (set l i x) (suc i) xs) j ys) e

-- ---- the links from place k on

pub links_next : (p : Plan) (k : ℕ) → k < 400
    → link_lines p (400 - k) k ≡ pick (hears p (k % 20) (k / 20)) (link_line (k / 20) (k % 20)) [] ++ link_lines p (400 - (k + 1)) (k + 1)
unfolding link_lines
links_next p k h =
    let e : 400 - k ≡ suc (400 - (k + 1)) = omega arith in
    let f : suc k ≡ k + 1 = omega arith in
    ap (λ (m : ℕ). link_lines p m k) e
    ∙ ap (λ (j : ℕ). pick (hears p (k % 20) (k / 20)) (link_line (k / 20) (k % 20)) [] ++ link_lines p (400 - (k + 1)) j) f

module _ (p : Plan) (k : ℕ) (h : k < 400) where
  pub links_here : hears p (k % 20) (k / 20) ≡ true → link_lines p (400 - k) k ≡ link_line (k / 20) (k % 20) ++ link_lines p (400 - (k + 1)) (k + 1)
  links_here e = links_next p k h ∙ ap (λ (l : List ℕ). l ++ link_lines p (400 - (k + 1)) (k + 1)) (pick_yes _ _ _ e)

  pub links_not_here : hears p (k % 20) (k / 20) ≡ false → link_lines p (400 - k) k ≡ link_lines p (400 - (k + 1)) (k + 1)
  links_not_here e = links_next p k h ∙ ap (λ (l : List ℕ). l ++ link_lines p (400 - (k + 1)) (k + 1)) (pick_no _ _ _ e)

pub links_none : (p : Plan) (k : ℕ) → 400 ≤ k → link_lines p (400 - k) k ≡ []
unfolding link_lines
links_none p k h =
    let e : 400 - k ≡ 0 = omega arith in
    ap (λ (m : ℕ). link_lines p m k) e

-- ---- a turn of each loop over the places

-- the links of the places before k are put: those from k on have room, and with them the list is what it shall be
abbrev pub Putting : Plan → List ℕ → List ℕ → ℕ → ℕ → Type 0
Putting p before out at k =
    (length out ≡ length before) × (at + length (link_lines p (400 - k) k) ≤ length out)
    × (sets out at (link_lines p (400 - k) k) ≡ sets before 9 (link_lines p 400 0))

-- place k passed, with its link put or without
abbrev pub Turn : Bool → ℕ → List ℕ → List ℕ → ℕ → ℕ → Type 0
Turn b k out next at on =
    ((b ≡ true) × (next ≡ sets out at (link_line (k / 20) (k % 20))) × (on ≡ at + 7)) ⊎ ((b ≡ false) × (next ≡ out) × (on ≡ at))

module _ (p : Plan) (k : ℕ) (h : k < 400) (b : Bool) (e : b ≡ hears p (k % 20) (k / 20)) where
  pub len_turn : (len next total : ℕ) → ((b ≡ true) × (next ≡ len + 7)) ⊎ ((b ≡ false) × (next ≡ len)) → len + length (link_lines p (400 - k) k) ≡ total
      → next + length (link_lines p (400 - (k + 1)) (k + 1)) ≡ total
  len_turn len next total (inl w) i =
      let l : length (link_lines p (400 - k) k) ≡ length (link_line (k / 20) (k % 20) ++ link_lines p (400 - (k + 1)) (k + 1)) =
      ap length (links_here p k h (sym e ∙ w.0)) in
      let s : length (link_line (k / 20) (k % 20) ++ link_lines p (400 - (k + 1)) (k + 1))
      ≡ length (link_line (k / 20) (k % 20)) + length (link_lines p (400 - (k + 1)) (k + 1)) =
      length-append (link_line (k / 20) (k % 20)) (link_lines p (400 - (k + 1)) (k + 1)) in
      let seven : length (link_line (k / 20) (k % 20)) ≡ 7 = link_length (k / 20) (k % 20) in
      let n : next ≡ len + 7 = w.1 in
      omega arith
  len_turn len next total (inr w) i =
      let l : length (link_lines p (400 - k) k) ≡ length (link_lines p (400 - (k + 1)) (k + 1)) = ap length (links_not_here p k h (sym e ∙ w.0)) in
      let n : next ≡ len = w.1 in
      omega arith

  pub room_here : (at room : ℕ) → b ≡ true → at + length (link_lines p (400 - k) k) ≤ room → at + 7 ≤ room
  room_here at room t r =
      let l : at + 7 + length (link_lines p (400 - (k + 1)) (k + 1)) ≡ at + length (link_lines p (400 - k) k) =
      len_turn at (at + 7) (at + length (link_lines p (400 - k) k)) (inl (t, refl)) refl in
      omega arith

  list_turn : (out next all : List ℕ) (at on : ℕ) → Turn b k out next at on → sets out at (link_lines p (400 - k) k) ≡ all
      → sets next on (link_lines p (400 - (k + 1)) (k + 1)) ≡ all
  list_turn out next all at on (inl w) i =
      let f : on ≡ at + length (link_line (k / 20) (k % 20)) = w.2 ∙ ap (λ (n : ℕ). at + n) (sym (link_length (k / 20) (k % 20))) in
      ap₂ (λ (l : List ℕ) (j : ℕ). sets l j (link_lines p (400 - (k + 1)) (k + 1))) w.1 f
      ∙ sym (sets_append out at (link_line (k / 20) (k % 20)) (link_lines p (400 - (k + 1)) (k + 1)))
      ∙ ap (sets out at) (sym (links_here p k h (sym e ∙ w.0)))
      ∙ i
  list_turn out next all at on (inr w) i =
      ap₂ (λ (l : List ℕ) (j : ℕ). sets l j (link_lines p (400 - (k + 1)) (k + 1))) w.1 w.2
      ∙ ap (sets out at) (sym (links_not_here p k h (sym e ∙ w.0)))
      ∙ i

  length_turn : (out next : List ℕ) (at on : ℕ) → Turn b k out next at on → length next ≡ length out
  length_turn out next at on (inl w) = ap length w.1 ∙ length-sets out at (link_line (k / 20) (k % 20))
  length_turn out next at on (inr w) = ap length w.1

  pub put_turn : (before out next : List ℕ) (at on : ℕ) → Turn b k out next at on → Putting p before out at k → Putting p before next on (k + 1)
  put_turn before out next at on t i =
      let same : length next ≡ length out = length_turn out next at on t in
      let l : on + length (link_lines p (400 - (k + 1)) (k + 1)) ≡ at + length (link_lines p (400 - k) k) =
      len_turn at on (at + length (link_lines p (400 - k) k)) (⊎_elim (λ w. inl (w.0, w.2)) (λ w. inr (w.0, w.2)) t) refl in
      (same ∙ i.0, omega arith, list_turn out next (sets before 9 (link_lines p 400 0)) at on t i.2)

-- ---- bytes put one after the other

pub byte_put : (out : List ℕ) (at b x y : ℕ) → x ≡ character_of (b / 16) → y ≡ character_of (b % 16) → set (set out at x) (at + 1) y ≡ sets out at (hex_byte b)
unfolding hex_byte
byte_put out at b x y e f = rw (e, f, add-one) refl

pub head_put : (p : Plan) (out o₁ o₂ o₃ o₄ : List ℕ) (f : ℕ) → f ≡ bound_byte p.bound.kind → o₁ ≡ sets out 0 (hex_byte 1) → o₂ ≡ sets o₁ 2 (hex_byte p.n) → o₃ ≡ sets o₂ 4 (hex_byte p.source)
    → o₄ ≡ sets o₃ 6 (hex_byte f) → set o₄ 8 10 ≡ sets out 0 (head_line p)
unfolding hex_byte head_line
head_put p out o₁ o₂ o₃ o₄ f e a b c d = rw (d, c, b, a, e) refl

pub link_put : (out o₁ o₂ o₃ : List ℕ) (at from to : ℕ) → o₁ ≡ sets out at (hex_byte 2) → o₂ ≡ sets o₁ (at + 2) (hex_byte from)
    → o₃ ≡ sets o₂ (at + 4) (hex_byte to) → set o₃ (at + 6) 10 ≡ sets out at (link_line from to)
unfolding hex_byte link_line
link_put out o₁ o₂ o₃ at from to a b c = rw (c, b, a, add-two, add-four, add_six) refl

pub group_put : (out o₁ o₂ o₃ o₄ : List ℕ) (at s : ℕ) → o₁ ≡ sets out at (hex_byte 7) → o₂ ≡ sets o₁ (at + 2) (hex_byte (s / 65536))
    → o₃ ≡ sets o₂ (at + 4) (hex_byte (s % 65536 / 256)) → o₄ ≡ sets o₃ (at + 6) (hex_byte (s % 65536 % 256)) → set o₄ (at + 8) 10 ≡ sets out at (group_line s)
unfolding hex_byte hex_pair hex_triple group_line
group_put out o₁ o₂ o₃ o₄ at s a b c d = rw (d, c, b, a, add-two, add-four, add_six, add_eight) refl

-- ---- a turn of the loop over the groups

-- the first i of so many groups are put
abbrev pub PuttingGroups : List ℕ → ℕ → List ℕ → List ℕ → ℕ → ℕ → Type 0
PuttingGroups groups count before out from i =
    (length out ≡ length before) × (sets out (from + 9 * i) (group_lines groups (count - i) i) ≡ sets before from (group_lines groups count 0))

module _ (groups : List ℕ) (count : ℕ) (before out : List ℕ) (from i : ℕ) where
  pub groups_room : i < count → from + 9 * count ≤ length before → PuttingGroups groups count before out from i → from + 9 * i + 9 ≤ length out
  groups_room h l (b, c) = omega arith

  pub groups_turn : (next : List ℕ) → i < count → next ≡ sets out (from + 9 * i) (group_line (get_or groups i 0)) → PuttingGroups groups count before out from i
      → PuttingGroups groups count before next from (i + 1)
  unfolding group_lines
  groups_turn next h e (b, c) =
      let one : count - i ≡ suc (count - (i + 1)) = omega arith in
      let on : from + 9 * (i + 1) ≡ from + 9 * i + length (group_line (get_or groups i 0)) = omega (arith, group_length (get_or groups i 0)) in (
        ap length e ∙ length-sets out (from + 9 * i) (group_line (get_or groups i 0)) ∙ b,
        ap₂ (λ (l : List ℕ) (j : ℕ). sets l j (group_lines groups (count - (i + 1)) (i + 1))) e on
            ∙ ap (λ (j : ℕ). sets (sets out (from + 9 * i) (group_line (get_or groups i 0))) (from + 9 * i + length (group_line (get_or groups i 0))) (group_lines groups (count - (i + 1)) j)) (add-one i)
            ∙ sym (sets_append out (from + 9 * i) (group_line (get_or groups i 0)) (group_lines groups (count - (i + 1)) (suc i)))
            ∙ sym (ap (λ (m : ℕ). sets out (from + 9 * i) (group_lines groups m i)) one)
            ∙ c,
      )

  pub groups_done : count ≤ i → PuttingGroups groups count before out from i → out ≡ sets before from (group_lines groups count 0)
  unfolding group_lines
  groups_done h (b, c) =
      let e : count - i ≡ 0 = omega arith in
      sym (ap (λ (m : ℕ). sets out (from + 9 * i) (group_lines groups m i)) e) ∙ c

-- ---- the answers

-- a plan's text is not put
pub short : (p : Plan) (out : List ℕ) (links groups : ℕ) → links ≡ length (link_lines p 400 0) → groups ≡ listed p.bound.kind
    → length out < 9 + links + 9 * groups → out ≡ put_into (plan_text p) out
short p out links groups l g h = sym (put_short (plan_text p) out (omega (arith, text_length p)))

-- or it is
pub done : (p : Plan) (out o₁ o₂ o₃ : List ℕ) (links groups : ℕ) → links ≡ length (link_lines p 400 0) → groups ≡ listed p.bound.kind
    → 9 + links + 9 * groups ≤ length out → o₁ ≡ sets out 0 (head_line p) → o₂ ≡ sets o₁ 9 (link_lines p 400 0) → o₃ ≡ sets o₂ (9 + links) (group_lines p.bound.groups (listed p.bound.kind) 0)
    → o₃ ≡ put_into (plan_text p) out
unfolding plan_text
done p out o₁ o₂ o₃ links count l g h a b c =
    let groups = group_lines p.bound.groups (listed p.bound.kind) 0 in
    let nine : 9 ≡ 0 + length (head_line p) = omega (arith, head_length p) in
    let fits : length (plan_text p) ≤ length out = omega (arith, text_length p) in
    c
    ∙ ap₂ (λ (x : List ℕ) (j : ℕ). sets x j groups) b (ap (λ (n : ℕ). 9 + n) l)
    ∙ sym (sets_append o₁ 9 (link_lines p 400 0) groups)
    ∙ ap (λ (x : List ℕ). sets x 9 (link_lines p 400 0 ++ groups)) a
    ∙ ap (λ (j : ℕ). sets (sets out 0 (head_line p)) j (link_lines p 400 0 ++ groups)) nine
    ∙ sym (sets_append out 0 (head_line p) (link_lines p 400 0 ++ groups))
    ∙ sym (put_fits (plan_text p) out fits)

-- the length that was counted is the text's
pub counted : (p : Plan) (w : Written) (links groups room : ℕ) → links ≡ length (link_lines p 400 0) → groups ≡ listed p.bound.kind
    → w ≡ written_of 0 (9 + links + 9 * groups) room → w ≡ written_of 0 (length (plan_text p)) room
counted p w links groups room l g e =
    let all : 9 + links + 9 * groups ≡ length (plan_text p) = omega (arith, text_length p) in
    e ∙ ap (λ (k : ℕ). written_of 0 k room) all

-- ---- what is written of any record

-- a sound plan
pub written_sound : (p : Plan) (w : Written) (out last : List ℕ) → cause_of p ≡ 0 → w ≡ written_of 0 (length (plan_text p)) (length out)
    → last ≡ put_into (plan_text p) out
    → (w ≡ written_of (cause_of p) (length (written_text p)) (length out)) × (last ≡ put_into (written_text p) out)
written_sound p w out last s a b = rw (s, sound_text p s) (a, b)

-- a record that is no plan, for which every cause has a number
refuses : (e : Unsound) → number_of (Err e) ≡ 0 → ⊥
refuses WrongRange z = absurd (omega arith)
refuses WrongLink z = absurd (omega arith)
refuses WrongGroups z = absurd (omega arith)

pub written_unsound : (p : Plan) (out : List ℕ) (e : Unsound) (number : ℕ) → number_of (Err e) ≡ cause_of p → number ≡ number_of (Err e)
    → (◌≡◌ {A = Written} (record { number = number; len = 0 }) (written_of (cause_of p) (length (written_text p)) (length out)))
    × (out ≡ put_into (written_text p) out)
unfolding written_text
written_unsound p out e number h k =
    let none : written_text p ≡ [] = pick_no _ _ _ (ne_eqb (cause_of p) 0 (λ z. refuses e (h ∙ z))) in (
      ap (λ (n : ℕ). record { number = n; len = 0 }) (k ∙ h)
          ∙ sym (written_fits (cause_of p) 0 (length out) (omega arith))
          ∙ ap (λ (l : List ℕ). written_of (cause_of p) (length l) (length out)) (sym none),
      sym (put_fits [] out (omega arith)) ∙ ap (λ (l : List ℕ). put_into l out) (sym none),
    )
