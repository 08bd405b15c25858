-- The list of later notices while it is filled: editions rise as far as it is, and the rest is silence. Assumes nothing.
use Prim.Native.Nat.{ℕ, zero, suc, ◌+◌, ◌-◌, ◌≤◌, ◌<◌}
use mathlib.Core.Path.{◌≡◌, refl, ap, ◌∙◌}
use mathlib.Core.Bool.{true, false}
use mathlib.Core.List.{List}
use native.Mathlib.Omega.{arith}
use lib.ListN.{length, get_or, take, drop, set, length-take, drop_of_length-le}
use lib.Seq.{get_or-take, get_or-set_same, get_or-set_other}
use Rattle.quorum.specs.Notice.{edition_of, silent, rising}
use Rattle.quorum.proofs.Notices.{silent_zero, rising_past, rising_next}

-- silence from place i on, k places long
past : (edition : ℕ) (l : List ℕ) (i k : ℕ) → i + k ≤ length l → ((j : ℕ) → i ≤ j → j < i + k → get_or l j 0 ≡ 0)
    → rising edition (drop i l) ≡ rising edition (drop (i + k) l)
past edition l i zero r z = let e : i ≡ i + 0 = omega arith in ap (λ (m : ℕ). rising edition (drop m l)) e
past edition l i (suc k) r z =
    let e : i + 1 + k ≡ i + suc k = omega arith in
    rising_past edition i l (omega arith) (ap silent (z i (omega arith) (omega arith)) ∙ silent_zero)
    ∙ past edition l (i + 1) k (omega arith) (λ j a b. z j (omega arith) (omega arith))
    ∙ ap (λ (m : ℕ). rising edition (drop m l)) e

-- the places before `issued` are filled, and the last edition there is this one: whatever follows them, only it is still to be looked at
abbrev pub Rises : (first : ℕ) (later : List ℕ) (issued edition : ℕ) → Type 0
Rises first later issued edition =
    (l : List ℕ) → issued ≤ length l → ((j : ℕ) → j < issued → get_or l j 0 ≡ get_or later j 0) → rising first l ≡ rising edition (drop issued l)

-- the places from `issued` on are free
abbrev pub Free : (later : List ℕ) (issued : ℕ) → Type 0
Free later issued = (j : ℕ) → issued ≤ j → get_or later j 0 ≡ 0

module _ (first : ℕ) (later : List ℕ) (issued edition : ℕ) (rises : Rises first later issued edition) (free : Free later issued) where
  -- one notice more, in a later round
  module _ (round x : ℕ) (after : issued < round) (room : round ≤ length later) where
    pub free_next : Free (set later (round - 1) x) round
    free_next j h = get_or-set_other later (round - 1) j x 0 (λ q. omega arith) ∙ free j (omega arith)

    pub rises_next : silent x ≡ false → edition < edition_of x → Rises first (set later (round - 1) x) round (edition_of x)
    rises_next s e l k same =
        let here : get_or l (round - 1) 0 ≡ x = same (round - 1) (omega arith) ∙ get_or-set_same later (round - 1) x 0 (omega arith) in
        let was : (j : ℕ) → j < round - 1 → get_or l j 0 ≡ get_or later j 0 =
        λ j h. same j (omega arith) ∙ get_or-set_other later (round - 1) j x 0 (λ q. omega arith) in
        let there : issued + (round - 1 - issued) ≡ round - 1 = omega arith in
        let one : round - 1 + 1 ≡ round = omega arith in
        let above : edition < edition_of (get_or l (round - 1) 0) = omega (arith, ap edition_of here) in
        rises l (omega arith) (λ j h. was j (omega arith))
        ∙ past edition l issued (round - 1 - issued) (omega arith) (λ j h m. was j (omega arith) ∙ free j h)
        ∙ ap (λ (m : ℕ). rising edition (drop m l)) there
        ∙ rising_next edition (round - 1) l (omega arith) (ap silent here ∙ s) above
        ∙ (λ i. rising (edition_of (here i)) (drop (one i) l))

  -- at the end: of the whole list, and of its front where all that is filled lies in it
  rises_ends : (l : List ℕ) → issued ≤ length l → ((j : ℕ) → j < length l → get_or l j 0 ≡ get_or later j 0) → rising first l ≡ true
  unfolding rising
  rises_ends l k same =
      let over : length l ≤ issued + (length l - issued) = omega arith in
      rises l k (λ j h. same j (omega arith))
      ∙ past edition l issued (length l - issued) (omega arith) (λ j h m. same j (omega arith) ∙ free j h)
      ∙ ap (rising edition) (drop_of_length-le l over)

  pub rises_all : issued ≤ length later → rising first later ≡ true
  rises_all k = rises_ends later k (λ j h. refl)

  pub rises_part : (n : ℕ) → issued ≤ n → n ≤ length later → rising first (take n later) ≡ true
  rises_part n h k =
      let long : length (take n later) ≡ n = omega (arith, length-take n later) in
      rises_ends (take n later) (omega arith) (λ j m. get_or-take n later j 0 (omega arith))
