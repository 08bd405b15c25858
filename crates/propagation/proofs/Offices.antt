-- What the office has issued by a round: its last notice is above all before it; and a list that rises is an office that does. Assumes nothing.
use Prim.Native.Nat.{ℕ, zero, suc, ◌+◌, ◌-◌, ◌≤◌, ◌<◌}
use mathlib.Core.Path.{◌≡◌, refl, sym, ap, ◌∙◌, subst}
use mathlib.Core.Logic.{◌⊎◌, inl, inr, ⊎_elim}
use mathlib.Core.Bool.{true, false}
use mathlib.Core.List.{List}
use native.Mathlib.Nat.{eq-or-lt_of_le, le_of_suc-le-suc}
use native.Mathlib.Numerals.{add-one}
use native.Mathlib.Omega.{arith}
use lib.ListN.{length, get_or, drop, get_or-eq_default}
use Rattle.sets.specs.Tests.{pick}
use Rattle.sets.proofs.Bools.{clash, decide, pick_yes, pick_no}
use Rattle.sets.proofs.Laws.{below_or_not}
use Rattle.quorum.specs.Notice.{edition_of, silent, rising}
use Rattle.quorum.proofs.Notices.{silent_zero, rising_past, rising_next, rising_ends}
use Rattle.propagation.specs.Run.{Office, office_of, one_notice, last_issued, Issued, Rising, Quiet}

-- what is said is no 0
pub said_some : (x : ℕ) → silent x ≡ false → x ≡ 0 → ⊥
said_some x h z = clash (ap silent z ∙ silent_zero) h

-- the round in which the last notice was issued, 0 for the first
unfoldable pub last_round : Office → ℕ → ℕ
last_round office zero = 0
last_round office (suc r) = pick (silent (office.later (suc r))) (last_round office r) (suc r)

module _ (office : Office) where
  pub issued_mono : (q r x : ℕ) → q ≤ r → Issued office q x → Issued office r x
  issued_mono q r x l i =
      ⊎_elim inl (λ w. let below : w.0 ≤ q = w.2 in inr (w.0, w.1, omega arith, w.3, w.4)) i

  -- it was issued before the last round, or in it
  issued_why : (r x : ℕ) → Issued office (suc r) x → Issued office r x ⊎ ((silent x ≡ false) × (office.later (suc r) ≡ x))
  issued_why r x i =
      ⊎_elim (λ e. inl (inl e))
      (λ w.
      ⊎_elim (λ e. inr (w.3, ap office.later (sym e) ∙ w.4)) (λ l. inl (inr (w.0, w.1, le_of_suc-le-suc l, w.3, w.4)))
      (eq-or-lt_of_le w.2))
      i

  -- ---- one round on

  module _ (r : ℕ) where
    pub last_same : silent (office.later (suc r)) ≡ true → last_issued office (suc r) ≡ last_issued office r
    unfolding last_issued
    last_same h = pick_yes _ _ _ h

    pub last_new : silent (office.later (suc r)) ≡ false → last_issued office (suc r) ≡ office.later (suc r)
    unfolding last_issued
    last_new h = pick_no _ _ _ h

    pub round_same : silent (office.later (suc r)) ≡ true → last_round office (suc r) ≡ last_round office r
    unfolding last_round
    round_same h = pick_yes _ _ _ h

    pub round_new : silent (office.later (suc r)) ≡ false → last_round office (suc r) ≡ suc r
    unfolding last_round
    round_new h = pick_no _ _ _ h

  pub last_round_lem : (r : ℕ) → last_round office r ≤ r
  unfolding last_round
  last_round_lem zero = omega arith
  last_round_lem (suc r) =
      ⊎_elim (λ h. omega (arith, round_same r h, last_round_lem r)) (λ h. omega (arith, round_new r h)) (decide (silent (office.later (suc r))))

  -- the last notice was issued in that round
  pub last_issued_lem : (r : ℕ) → Issued office (last_round office r) (last_issued office r)
  unfolding last_issued
  last_issued_lem zero = inl refl
  last_issued_lem (suc r) =
      ⊎_elim (λ h. at (round_same r h) (last_same r h) (last_issued_lem r))
      (λ h. at (round_new r h) (last_new r h) (inr (suc r, omega arith, omega arith, h, refl)))
      (decide (silent (office.later (suc r))))
    where
      at : {q k x y : ℕ} → k ≡ q → y ≡ x → Issued office q x → Issued office k y
      at {q} {k} {x} {y} e f i = subst (λ (m : ℕ). Issued office m y) (sym e) (subst (λ (m : ℕ). Issued office q m) (sym f) i)

  pub last_by : (q r : ℕ) → q ≤ r → Issued office r (last_issued office q)
  last_by q r l = issued_mono (last_round office q) r (last_issued office q) (let s = last_round_lem q in omega arith) (last_issued_lem q)

  -- nothing issued since, it is the same
  pub last_quiet : (q r : ℕ) → q ≤ r → Quiet office q r → last_issued office r ≡ last_issued office q
  last_quiet q zero l quiet = ap (last_issued office) (omega arith)
  last_quiet q (suc r) l quiet =
      ⊎_elim (λ e. ap (last_issued office) (sym e))
      (λ k. last_same r (quiet (suc r) k (omega arith)) ∙ last_quiet q r (le_of_suc-le-suc k) (λ m a b. quiet m a (omega arith)))
      (eq-or-lt_of_le l)

  -- where nothing is issued after the start, only the first notice is
  pub issued_first : (r x : ℕ) → Quiet office 0 r → Issued office r x → x ≡ office.first
  issued_first r x quiet i = ⊎_elim (λ e. e) (λ w. clash (ap silent (sym w.4) ∙ quiet w.0 w.1 w.2) w.3) i

  module _ (rising : Rising office) where
    pub last_said : (r : ℕ) → silent (last_issued office r) ≡ false
    unfolding last_issued
    last_said zero = rising.starts
    last_said (suc r) =
        ⊎_elim (λ h. ap silent (last_same r h) ∙ last_said r) (λ h. ap silent (last_new r h) ∙ h) (decide (silent (office.later (suc r))))

    -- of all that is issued by a round, whatever is not the last is below it
    pub last_above : (r x : ℕ) → Issued office r x → (x ≡ last_issued office r) ⊎ (edition_of x < edition_of (last_issued office r))
    unfolding last_issued
    last_above zero x i = ⊎_elim inl (λ w. let a : 1 ≤ w.0 = w.1 in let b : w.0 ≤ 0 = w.2 in absurd (omega arith)) i
    last_above (suc r) x i =
        ⊎_elim
        (λ old.
        ⊎_elim (λ h. subst (λ (y : ℕ). (x ≡ y) ⊎ (edition_of x < edition_of y)) (sym (last_same r h)) (last_above r x old))
        (λ h.
        let up : edition_of (last_issued office r) < edition_of (last_issued office (suc r)) =
        subst (λ (y : ℕ). edition_of (last_issued office r) < edition_of y) (sym (last_new r h)) (rising.rises r h) in
        ⊎_elim (λ e. inr (let s = ap edition_of e in omega arith)) (λ l. inr (omega arith)) (last_above r x old))
        (decide (silent (office.later (suc r)))))
        (λ new. inl (sym new.1 ∙ sym (last_new r (ap silent new.1 ∙ new.0))))
        (issued_why r x i)

    pub last_top : (r x : ℕ) → Issued office r x → edition_of x ≤ edition_of (last_issued office r)
    last_top r x i = ⊎_elim (λ e. let s = ap edition_of e in omega arith) (λ l. omega arith) (last_above r x i)

    pub last_only : (r x : ℕ) → Issued office r x → edition_of (last_issued office r) ≤ edition_of x → x ≡ last_issued office r
    last_only r x i l = ⊎_elim (λ e. e) (λ k. absurd (omega arith)) (last_above r x i)

    pub last_grows : (q r : ℕ) → q ≤ r → edition_of (last_issued office q) ≤ edition_of (last_issued office r)
    last_grows q r l = last_top r (last_issued office q) (last_by q r l)

-- ---- offices that rise

-- one that issues nothing after its first notice
pub one_rises : (first : ℕ) → silent first ≡ false → Rising (one_notice first)
one_rises first h = record { starts = h; rises = λ q s. clash silent_zero s }

-- that of a list whose editions rise
module _ (first : ℕ) (later : List ℕ) (said : silent first ≡ false) (up : rising (edition_of first) later ≡ true) where
  abbrev office : Office
  office = office_of first later

  later_is : (q : ℕ) → office.later (suc q) ≡ get_or later q 0
  unfolding office_of
  later_is q = let e : suc q - 1 ≡ q = omega arith in ap (λ (m : ℕ). get_or later m 0) e

  -- an entry that is no silence is above the last
  above : (last i : ℕ) → i < length later → silent (get_or later i 0) ≡ false → rising last (drop i later) ≡ true → last < edition_of (get_or later i 0)
  above last i k h r = ⊎_elim (λ l. l) (λ l. clash r (rising_ends last i later k h l)) (below_or_not last (edition_of (get_or later i 0)))

  -- from entry q on they rise above the last that was issued by round q
  still : (q : ℕ) → q < length later → rising (edition_of (last_issued office q)) (drop q later) ≡ true
  unfolding last_issued office_of
  still zero k = up
  still (suc q) k =
      let l : q < length later = omega arith in
      ⊎_elim
      (λ h.
      at (last_same office q (ap silent (later_is q) ∙ h)) (sym (rising_past (edition_of (last_issued office q)) q later l h) ∙ still q l))
      (λ h.
      at (last_new office q (ap silent (later_is q) ∙ h) ∙ later_is q)
      (sym (rising_next (edition_of (last_issued office q)) q later l h (above (edition_of (last_issued office q)) q l h (still q l))) ∙ still q l))
      (decide (silent (get_or later q 0)))
    where
      at : {x y : ℕ} → y ≡ x → rising (edition_of x) (drop (q + 1) later) ≡ true → rising (edition_of y) (drop (suc q) later) ≡ true
      at e f = (λ i. rising (edition_of (e i)) (drop (sym (add-one q) i) later)) ∙ f

  pub list_rises : Rising office
  unfolding office_of
  list_rises = record {
    starts = said;
    rises = λ q h.
        let s : silent (get_or later q 0) ≡ false = ap silent (sym (later_is q)) ∙ h in
        ⊎_elim
        (λ k. subst (λ (x : ℕ). edition_of (last_issued office q) < edition_of x) (sym (later_is q)) (above (edition_of (last_issued office q)) q k s (still q k)))
        (λ k. clash (ap silent (get_or-eq_default later 0 k) ∙ silent_zero) s)
        (below_or_not q (length later));
  }
