-- What a neighbour has said: whether a layout is among its layouts, and what it has said after a round. Assumes nothing.
use Prim.Native.Nat.{ℕ, zero, suc, ◌+◌, ◌≤◌, ◌<◌}
use mathlib.Core.Path.{◌≡◌, refl, sym, ap, ◌∙◌, subst}
use mathlib.Core.Logic.{◌⊎◌, inl, inr, ⊎_elim}
use mathlib.Core.Bool.{Bool, true, false}
use mathlib.Core.List.{List, [], ◌∷◌, ◌++◌}
use native.Mathlib.Nat.{not-suc-le-zero, le_of_suc-le-suc}
use native.Mathlib.Omega.{arith}
use lib.Dec.{eqb}
use lib.ListN.{length, get_or, length-append}
use borrow.Author.Tests.{eq-eqb, ne_eqb, eqb-true, le-leb, leb-true}
use Rattle.sets.specs.Tests.{◌or◌}
use Rattle.sets.proofs.Bools.{and_i, and_l, and_no_l, and_r, clash, decide, not_e, not_i, or_e, or_l, or_no, or_r, pick_no, pick_yes, pick_case}
use Rattle.sets.proofs.Laws.{equal_or_not}
use Rattle.quorum.specs.Notice.{edition_of, layout_of, silent}
use Rattle.quorum.proofs.Notices.{layout_small, said_layout}
use Rattle.terminal.specs.Rule.{Spoken, among, in_edition, is_new, with_new, with_word, first_of}

-- ---- the layouts in an edition

pub in_own : (edition : ℕ) (spoken : Spoken) → spoken.edition ≡ edition → in_edition edition spoken ≡ spoken.layouts
unfolding in_edition
in_own edition spoken e = pick_yes _ _ _ (eq-eqb spoken.edition edition e)

pub in_other : (edition : ℕ) (spoken : Spoken) → (spoken.edition ≡ edition → ⊥) → in_edition edition spoken ≡ []
unfolding in_edition
in_other edition spoken n = pick_no _ _ _ (ne_eqb spoken.edition edition n)

-- what holds of a neighbour's layouts, and of none, holds of those in an edition
pub in_by {ℓ} : (Q : List ℕ → Type ℓ) (edition : ℕ) (spoken : Spoken) → Q spoken.layouts → Q [] → Q (in_edition edition spoken)
unfolding in_edition
in_by Q edition spoken p q = pick_case Q (eqb spoken.edition edition) spoken.layouts [] (λ t. p) (λ t. q)

-- ---- among

or_none : (b : Bool) → (b or false) ≡ b
unfolding ◌or◌
or_none true = refl
or_none false = refl

pub among_last : (v w : ℕ) (values : List ℕ) → among v (values ++ (w ∷ [])) ≡ among v values or eqb w v
unfolding among ◌or◌
among_last v w [] = or_none (eqb w v)
among_last v w (x ∷ values) = ap (λ (b : Bool). eqb x v or b) (among_last v w values) ∙ regroup (eqb x v) (among v values) (eqb w v)
  where
    regroup : (a b d : Bool) → (a or (b or d)) ≡ ((a or b) or d)
    regroup true b d = refl
    regroup false b d = refl

-- what stands at a place is among the values, and what is among them stands at a place
pub among_at : (values : List ℕ) (i : ℕ) → i < length values → among (get_or values i 0) values ≡ true
unfolding among
among_at [] i k = absurd (not-suc-le-zero k)
among_at (x ∷ values) zero k = or_l _ _ (eq-eqb x x refl)
among_at (x ∷ values) (suc i) k = or_r _ _ (among_at values i (le_of_suc-le-suc k))

pub among_one : (v x : ℕ) → among v (x ∷ []) ≡ eqb x v
unfolding among
among_one v x = or_none (eqb x v)

pub first_among : (values : List ℕ) → (first_of values ≡ 0 → ⊥) → among (first_of values) values ≡ true
unfolding first_of among
first_among [] z = absurd (z refl)
first_among (x ∷ values) z = or_l _ _ (eq-eqb x x refl)

-- where 0 is not among some values and another is, the first is not 0
pub first_some : (v : ℕ) (values : List ℕ) → among 0 values ≡ false → among v values ≡ true → first_of values ≡ 0 → ⊥
unfolding first_of among
first_some v [] n h e = clash h refl
first_some v (x ∷ values) n h e = clash (or_l _ _ (eq-eqb x 0 e)) n

-- what is among the layouts in an edition: it is the neighbour's, and so are they
pub in_among : (v edition : ℕ) (spoken : Spoken) → among v (in_edition edition spoken) ≡ true → (spoken.edition ≡ edition) × (among v spoken.layouts ≡ true)
unfolding among
in_among v edition spoken h =
    ⊎_elim (λ e. (e, ap (among v) (sym (in_own edition spoken e)) ∙ h)) (λ n. clash h (ap (among v) (in_other edition spoken n)))
    (equal_or_not spoken.edition edition)

-- ---- what is said after a round: a new layout comes last, and a higher edition wipes the lower one

-- it stays, or the neighbour is heard and has said a new word
pub word_change : (hears : Bool) (spoken : Spoken) (said : ℕ)
    → ((is_new hears spoken said ≡ false) × (with_word hears spoken said ≡ spoken)) ⊎ ((is_new hears spoken said ≡ true) × (with_word hears spoken said ≡ with_new spoken said))
unfolding with_word
word_change hears spoken said = ⊎_elim (λ t. inr (t, pick_yes _ _ _ t)) (λ t. inl (t, pick_no _ _ _ t)) (decide (is_new hears spoken said))

module _ (hears : Bool) (spoken : Spoken) (said : ℕ) (new : is_new hears spoken said ≡ true) where
  pub new_heard : hears ≡ true
  unfolding is_new
  new_heard = and_l _ _ new

  pub new_said : silent said ≡ false
  unfolding is_new
  new_said = not_e (silent said) (and_l _ _ (and_r _ _ new))

  pub new_above : spoken.edition ≤ edition_of said
  unfolding is_new
  new_above = leb-true spoken.edition (edition_of said) (and_l _ _ (and_r _ _ (and_r _ _ new)))

-- what holds of what was said, and with a new word, holds after a round
pub word_by {ℓ} : (Q : Spoken → Type ℓ) (hears : Bool) (spoken : Spoken) (said : ℕ) → Q spoken → (is_new hears spoken said ≡ true → Q (with_new spoken said))
    → Q (with_word hears spoken said)
word_by Q hears spoken said p q =
    ⊎_elim (λ c. subst Q (sym c.1) p) (λ c. subst Q (sym c.1) (q c.0)) (word_change hears spoken said)

pub unheard_word : (spoken : Spoken) (said : ℕ) → with_word false spoken said ≡ spoken
unfolding with_word is_new
unheard_word spoken said = pick_no _ _ _ (and_no_l _ _ refl)

new_length : (spoken : Spoken) (said : ℕ) → length (with_new spoken said).layouts ≤ length spoken.layouts + 1
unfolding with_new
new_length spoken said =
    let e = length-append (in_edition (edition_of said) spoken) (layout_of said ∷ []) in
    in_by (λ (l : List ℕ). length (l ++ (layout_of said ∷ [])) ≤ length spoken.layouts + 1) (edition_of said) spoken
    (omega (arith, length-append spoken.layouts (layout_of said ∷ []))) (omega arith)

pub word_length : (hears : Bool) (spoken : Spoken) (said : ℕ) → length (with_word hears spoken said).layouts ≤ length spoken.layouts + 1
word_length hears spoken said =
    word_by (λ (x : Spoken). length x.layouts ≤ length spoken.layouts + 1) hears spoken said (omega arith) (λ t. new_length spoken said)

-- while the edition stays, none is lost and the first stays the first
pub word_longer : (hears : Bool) (spoken : Spoken) (said : ℕ) → (with_word hears spoken said).edition ≡ spoken.edition
    → length spoken.layouts ≤ length (with_word hears spoken said).layouts
unfolding with_new
word_longer hears spoken said =
    word_by (λ (x : Spoken). x.edition ≡ spoken.edition → length spoken.layouts ≤ length x.layouts) hears spoken said (λ e. omega arith)
    (λ t e. omega (arith, ap length (in_own (edition_of said) spoken (sym e)), length-append (in_edition (edition_of said) spoken) (layout_of said ∷ [])))

first_last : (values : List ℕ) (v : ℕ) → 0 < length values → first_of (values ++ (v ∷ [])) ≡ first_of values
unfolding first_of
first_last [] v k = absurd (not-suc-le-zero k)
first_last (x ∷ values) v k = refl

pub first_stays : (hears : Bool) (spoken : Spoken) (said : ℕ) → 0 < length spoken.layouts → (with_word hears spoken said).edition ≡ spoken.edition
    → first_of (with_word hears spoken said).layouts ≡ first_of spoken.layouts
unfolding with_new
first_stays hears spoken said k =
    word_by (λ (x : Spoken). x.edition ≡ spoken.edition → first_of x.layouts ≡ first_of spoken.layouts) hears spoken said (λ e. refl)
    (λ t e. ap (λ (l : List ℕ). first_of (l ++ (layout_of said ∷ []))) (in_own (edition_of said) spoken (sym e)) ∙ first_last spoken.layouts (layout_of said) k)

-- the edition never falls, and where it changes it is what was said
pub word_edition : (hears : Bool) (spoken : Spoken) (said : ℕ) → spoken.edition ≤ (with_word hears spoken said).edition
unfolding with_new
word_edition hears spoken said =
    word_by (λ (x : Spoken). spoken.edition ≤ x.edition) hears spoken said (omega arith) (new_above hears spoken said)

pub word_why : (hears : Bool) (spoken : Spoken) (said : ℕ)
    → ((with_word hears spoken said).edition ≡ spoken.edition)
    ⊎ ((hears ≡ true) × (silent said ≡ false) × ((with_word hears spoken said).edition ≡ edition_of said))
unfolding with_new
word_why hears spoken said =
    word_by (λ (x : Spoken). (x.edition ≡ spoken.edition) ⊎ ((hears ≡ true) × (silent said ≡ false) × (x.edition ≡ edition_of said))) hears spoken said
    (inl refl) (λ t. inr (new_heard hears spoken said t, new_said hears spoken said t, refl))

-- ---- what is among the layouts after a round

-- what is among them was there before, or the neighbour is heard and has said it
pub word_said : (hears : Bool) (spoken : Spoken) (said edition v : ℕ) → among v (in_edition edition (with_word hears spoken said)) ≡ true
    → (among v (in_edition edition spoken) ≡ true) ⊎ ((hears ≡ true) × (edition_of said ≡ edition) × (layout_of said ≡ v))
unfolding with_new
word_said hears spoken said edition v =
    word_by
    (λ (x : Spoken).
    among v (in_edition edition x) ≡ true → (among v (in_edition edition spoken) ≡ true) ⊎ ((hears ≡ true) × (edition_of said ≡ edition) × (layout_of said ≡ v)))
    hears spoken said inl
    (λ t h.
    let w = in_among v edition (with_new spoken said) h in
    ⊎_elim (λ a. inl (ap (λ (e : ℕ). among v (in_edition e spoken)) (sym w.0) ∙ a)) (λ a. inr (new_heard hears spoken said t, w.0, eqb-true (layout_of said) v a))
    (or_e (among v (in_edition (edition_of said) spoken)) (eqb (layout_of said) v) (sym (among_last v (layout_of said) (in_edition (edition_of said) spoken)) ∙ w.1)))

-- what was among them is, unless a higher edition was said
pub word_stays : (hears : Bool) (spoken : Spoken) (said edition v : ℕ) → (silent said ≡ false → edition_of said ≤ edition)
    → among v (in_edition edition spoken) ≡ true → among v (in_edition edition (with_word hears spoken said)) ≡ true
unfolding with_new
word_stays hears spoken said edition v low h =
    word_by (λ (x : Spoken). among v (in_edition edition x) ≡ true) hears spoken said h
    (λ t.
    let w = in_among v edition spoken h in
    let e : edition_of said ≡ edition = omega (arith, low (new_said hears spoken said t), new_above hears spoken said t, w.0) in
    ap (among v) (in_own edition (with_new spoken said) e) ∙ among_last v (layout_of said) (in_edition (edition_of said) spoken)
    ∙ or_l _ _ (ap (λ (m : ℕ). among v (in_edition m spoken)) e ∙ h))

-- what a heard neighbour says in its edition or a higher one is among them, whatever it said before
pub word_noted : (spoken : Spoken) (said : ℕ) → silent said ≡ false → spoken.edition ≤ edition_of said
    → among (layout_of said) (in_edition (edition_of said) (with_word true spoken said)) ≡ true
unfolding is_new with_new
word_noted spoken said z above =
    ⊎_elim
    (λ p.
    ap (λ (x : Spoken). among (layout_of said) (in_edition (edition_of said) x)) p.1
    ∙ ⊎_elim (λ t. t)
    (λ t. clash (and_i _ _ refl (and_i _ _ (not_i z) (and_i _ _ (le-leb spoken.edition (edition_of said) above) (not_i t)))) p.0)
    (decide (among (layout_of said) (in_edition (edition_of said) spoken))))
    (λ p.
    ap (λ (x : Spoken). among (layout_of said) (in_edition (edition_of said) x)) p.1 ∙ ap (among (layout_of said)) (in_own (edition_of said) (with_new spoken said) refl)
    ∙ among_last (layout_of said) (layout_of said) (in_edition (edition_of said) spoken) ∙ or_r _ _ (eq-eqb (layout_of said) (layout_of said) refl))
    (word_change true spoken said)

-- 0 is not among them if it was not, and they have two bytes if they had
pub word_clean : (hears : Bool) (spoken : Spoken) (said : ℕ) → among 0 spoken.layouts ≡ false → among 0 (with_word hears spoken said).layouts ≡ false
unfolding with_new among
word_clean hears spoken said n =
    word_by (λ (x : Spoken). among 0 x.layouts ≡ false) hears spoken said n
    (λ t.
    among_last 0 (layout_of said) (in_edition (edition_of said) spoken)
    ∙ or_no _ _ (in_by (λ (l : List ℕ). among 0 l ≡ false) (edition_of said) spoken n refl) (ne_eqb (layout_of said) 0 (said_layout said (new_said hears spoken said t))))

pub word_small : (hears : Bool) (spoken : Spoken) (said : ℕ) → ((v : ℕ) → among v spoken.layouts ≡ true → v < 65536)
    → (v : ℕ) → among v (with_word hears spoken said).layouts ≡ true → v < 65536
unfolding with_new among
word_small hears spoken said n =
    word_by (λ (x : Spoken). (v : ℕ) → among v x.layouts ≡ true → v < 65536) hears spoken said n
    (λ t v h.
    ⊎_elim (in_by (λ (l : List ℕ). among v l ≡ true → v < 65536) (edition_of said) spoken (n v) (λ z. clash z refl))
    (λ e. subst (λ (x : ℕ). x < 65536) (eqb-true (layout_of said) v e) (layout_small said))
    (or_e (among v (in_edition (edition_of said) spoken)) (eqb (layout_of said) v) (sym (among_last v (layout_of said) (in_edition (edition_of said) spoken)) ∙ h)))
