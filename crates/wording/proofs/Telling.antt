-- The one pair of sets that a text speaks of, and what composer and reader are to each other. Assumes nothing.
use Prim.Native.Nat.{ℕ, zero, suc, ◌+◌, ◌*◌, ◌^◌, ◌≤◌, ◌<◌}
use mathlib.Core.Path.{◌≡◌, refl, sym, ap, ap₂, ◌∙◌, subst}
use mathlib.Core.Logic.{⊎_elim}
use mathlib.Core.Bool.{true, false}
use mathlib.Core.List.{List}
use native.Mathlib.Nat.{mul-le-mul_right, add-mul, one-mul}
use native.Mathlib.Omega.{arith}
use lib.Pow.{high, low, pow_mono}
use borrow.Author.Tests.{eq-eqb, eqb-true}
use Rattle.std.specs.Prelude.{None}
use Rattle.sets.specs.Sets.{outside}
use Rattle.sets.proofs.Bools.{clash, decide, and_i, and_l, and_r, no_by, pick_yes, pick_no, pick_case}
use Rattle.sets.proofs.Laws.{equal_or_not}
use Rattle.text.proofs.Phrases.{same_yes, same_is}
use Rattle.wording.specs.declared.ear.Ear.{Ear}
use Rattle.wording.specs.Ear.{attentive, after_all}
use Rattle.wording.specs.Sentence.{terminals_in_range, sentence, sentence_cause}
use Rattle.wording.specs.Heard.{Told, refused, speaks_of, silent_in, waiting_in, spoken_below, heard_of}
use Rattle.wording.specs.Telling.{Telling}
use Rattle.wording.proofs.Causes.{sound}
use Rattle.wording.proofs.Lengths.{sentence_short}
use Rattle.wording.proofs.Hearing.{sentence_heard}

-- the sets that are told
abbrev pub told_sets : (n f r : ℕ) → Told
told_sets n f r = record { number = 0; f = f; l = outside n f r; r = r }

module _ (n : ℕ) (text : List ℕ) where
  pub speaks_i : (f l r : ℕ) → l ≡ outside n f r → sentence_cause n f l r ≡ 0 → sentence n f r ≡ text → speaks_of n text f r ≡ true
  unfolding speaks_of
  speaks_i f l r e z q =
      and_i _ _ (eq-eqb (sentence_cause n f (outside n f r) r) 0 (ap (λ (x : ℕ). sentence_cause n f x r) (sym e) ∙ z)) (same_yes _ _ q)

  pub speaks_cause : (f r : ℕ) → speaks_of n text f r ≡ true → sentence_cause n f (outside n f r) r ≡ 0
  unfolding speaks_of
  speaks_cause f r h = eqb-true (sentence_cause n f (outside n f r) r) 0 (and_l _ _ h)

  pub speaks_text : (f r : ℕ) → speaks_of n text f r ≡ true → sentence n f r ≡ text
  unfolding speaks_of
  speaks_text f r h = same_is _ _ (and_r _ _ h)

  -- those sets are heard
  pub speaks_heard : (f r : ℕ) → speaks_of n text f r ≡ true → after_all attentive text ≡ record { waiting = true; number = None; f = f; r = r }
  speaks_heard f r h = ap (after_all attentive) (sym (speaks_text f r h)) ∙ sentence_heard n f (outside n f r) r (speaks_cause f r h)

  silent_one : (f r f' r' : ℕ) → speaks_of n text f r ≡ true → speaks_of n text f' r' ≡ true → f ≡ f'
  silent_one f r f' r' h k = ap (λ (e : Ear). e.f) (sym (speaks_heard f r h) ∙ speaks_heard f' r' k)

  waiting_one : (f r f' r' : ℕ) → speaks_of n text f r ≡ true → speaks_of n text f' r' ≡ true → r ≡ r'
  waiting_one f r f' r' h k = ap (λ (e : Ear). e.r) (sym (speaks_heard f r h) ∙ speaks_heard f' r' k)

  -- ---- the pairs

  silent_in_lem : (f r : ℕ) → r < 2 ^ n → silent_in n (f * 2 ^ n + r) ≡ f
  silent_in_lem f r h = high f n h

  waiting_in_lem : (f r : ℕ) → r < 2 ^ n → waiting_in n (f * 2 ^ n + r) ≡ r
  waiting_in_lem f r h = low f n h

  spoken_found : (pairs f r : ℕ) → speaks_of n text f r ≡ true → f * 2 ^ n + r < pairs → spoken_below n text pairs ≡ told_sets n f r
  unfolding spoken_below
  spoken_found zero f r h k = absurd (omega arith)
  spoken_found (suc pair) f r h k =
      ⊎_elim
      (λ y.
      pick_yes _ _ _ y ∙ ap₂ (told_sets n) (silent_one (silent_in n pair) (waiting_in n pair) f r y h) (waiting_one (silent_in n pair) (waiting_in n pair) f r y h))
      (λ y.
      pick_no _ _ _ y
      ∙ spoken_found pair f r h
      (⊎_elim
      (λ e. let b = (sound n f (outside n f r) r (speaks_cause f r h)).r_below in
      clash
      (subst (λ (m : ℕ). speaks_of n text (silent_in n m) (waiting_in n m) ≡ true) (sym e)
      (ap₂ (speaks_of n text) (silent_in_lem f r b) (waiting_in_lem f r b) ∙ h)) y)
      (λ e. omega arith) (equal_or_not pair (f * 2 ^ n + r))))
      (decide (speaks_of n text (silent_in n pair) (waiting_in n pair)))

  spoken_none : (pairs : ℕ) → ((f r : ℕ) → speaks_of n text f r ≡ true → ⊥) → spoken_below n text pairs ≡ refused 2
  unfolding spoken_below
  spoken_none zero h = refl
  spoken_none (suc pair) h = pick_no _ _ _ (no_by (h (silent_in n pair) (waiting_in n pair))) ∙ spoken_none pair h

  spoken_why : (pairs : ℕ) → (spoken_below n text pairs).number ≡ 0
      → (speaks_of n text (spoken_below n text pairs).f (spoken_below n text pairs).r ≡ true) × ((spoken_below n text pairs).l ≡ outside n (spoken_below n text pairs).f (spoken_below n text pairs).r)
  unfolding spoken_below
  spoken_why zero h = absurd (omega arith)
  spoken_why (suc pair) h =
      pick_case
      (λ (t : Told). t.number ≡ 0 → (speaks_of n text t.f t.r ≡ true) × (t.l ≡ outside n t.f t.r))
      (speaks_of n text (silent_in n pair) (waiting_in n pair)) _ _ (λ y z. (y, refl)) (λ y z. spoken_why pair z) h

  -- ---- the answer

  pair_below : (f r : ℕ) → f < 2 ^ n → r < 2 ^ n → f * 2 ^ n + r < 2 ^ n * 2 ^ n
  pair_below f r h k =
      let m : (f + 1) * 2 ^ n ≤ 2 ^ n * 2 ^ n = mul-le-mul_right (2 ^ n) (omega arith) in
      let d : (f + 1) * 2 ^ n ≡ f * 2 ^ n + 2 ^ n = add-mul f 1 (2 ^ n) ∙ ap (λ (x : ℕ). f * 2 ^ n + x) (one-mul (2 ^ n)) in
      omega arith

  pub heard_sets : (f r : ℕ) → speaks_of n text f r ≡ true → heard_of n text ≡ told_sets n f r
  unfolding heard_of
  heard_sets f r h =
      let s = sound n f (outside n f r) r (speaks_cause f r h) in
      pick_yes _ _ _ s.range ∙ spoken_found (2 ^ n * 2 ^ n) f r h (pair_below f r s.f_below s.r_below)

  pub heard_other : terminals_in_range n ≡ true → ((f r : ℕ) → speaks_of n text f r ≡ true → ⊥) → heard_of n text ≡ refused 2
  unfolding heard_of
  heard_other t h = pick_yes _ _ _ t ∙ spoken_none (2 ^ n * 2 ^ n) h

  pub heard_range : terminals_in_range n ≡ false → heard_of n text ≡ refused 4
  unfolding heard_of
  heard_range t = pick_no _ _ _ t

  heard_why : (heard_of n text).number ≡ 0
      → (speaks_of n text (heard_of n text).f (heard_of n text).r ≡ true) × ((heard_of n text).l ≡ outside n (heard_of n text).f (heard_of n text).r)
  unfolding heard_of
  heard_why h =
      pick_case
      (λ (t : Told). t.number ≡ 0 → (speaks_of n text t.f t.r ≡ true) × (t.l ≡ outside n t.f t.r))
      (terminals_in_range n) _ _ (λ y z. spoken_why (2 ^ n * 2 ^ n) z) (λ y z. absurd (omega arith)) h

-- ---- composer and reader

pub telling : (n : ℕ) → Telling n
telling n = record {
  back = λ f l r h.
      let s = sound n f l r h in
      heard_sets n (sentence n f r) f r (speaks_i n (sentence n f r) f l r s.rest h refl)
      ∙ ap (λ (x : ℕ). record { number = 0; f = f; l = x; r = r }) (sym s.rest);
  only = λ text h.
      let w = heard_why n text h in (
        ap (λ (x : ℕ). sentence_cause n (heard_of n text).f x (heard_of n text).r) w.1 ∙ speaks_cause n text (heard_of n text).f (heard_of n text).r w.0,
        speaks_text n text (heard_of n text).f (heard_of n text).r w.0,
      );
  distinct = λ f l r f' l' r' h k e.
      let q : ◌≡◌ {A = Ear} (record { waiting = true; number = None; f = f; r = r }) (record { waiting = true; number = None; f = f'; r = r' }) =
      sym (sentence_heard n f l r h) ∙ ap (after_all attentive) e ∙ sentence_heard n f' l' r' k in
      let a : f ≡ f' = ap (λ (x : Ear). x.f) q in
      let b : r ≡ r' = ap (λ (x : Ear). x.r) q in
      (a, (sound n f l r h).rest ∙ ap₂ (outside n) a b ∙ sym (sound n f' l' r' k).rest, b);
  short = λ f l r h. sentence_short n f l r h;
}

-- ---- the sets that are told fit three bytes

small : (n s : ℕ) → n ≤ 20 → s < 2 ^ n → s < 16777216
small n s h l = omega (arith, pow_mono h)

abbrev Small : Told → Type 0
Small t = (t.f < 16777216) × (t.l < 16777216) × (t.r < 16777216)

spoken_small : (n : ℕ) (text : List ℕ) (pairs : ℕ) → Small (spoken_below n text pairs)
unfolding spoken_below
spoken_small n text zero = (omega arith, omega arith, omega arith)
spoken_small n text (suc pair) =
    pick_case Small (speaks_of n text (silent_in n pair) (waiting_in n pair)) _ _
    (λ y.
    let s = sound n (silent_in n pair) (outside n (silent_in n pair) (waiting_in n pair)) (waiting_in n pair) (speaks_cause n text (silent_in n pair) (waiting_in n pair) y) in
    (small n _ s.twenty s.f_below, small n _ s.twenty s.l_below, small n _ s.twenty s.r_below))
    (λ y. spoken_small n text pair)

pub heard_small : (n : ℕ) (text : List ℕ) → ((heard_of n text).f < 16777216) × ((heard_of n text).l < 16777216) × ((heard_of n text).r < 16777216)
unfolding heard_of
heard_small n text = pick_case Small (terminals_in_range n) _ _ (λ y. spoken_small n text (2 ^ n * 2 ^ n)) (λ y. (omega arith, omega arith, omega arith))
