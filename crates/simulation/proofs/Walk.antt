-- The traversal of turns, for any function that says what record each terminal has after each round: whose turn it is, who is done, who waits, what lies
-- beyond. What a record means is in Meaning.antt. Assumes nothing.
use Prim.Native.Nat.{ℕ, zero, suc, ◌+◌, ◌-◌, ◌*◌, ◌/◌, ◌%◌, ◌≤◌, ◌<◌}
use mathlib.Core.Path.{◌≡◌, refl, sym, ap, ◌∙◌, subst}
use mathlib.Core.Logic.{⊎_elim}
use mathlib.Core.List.{List}
use native.Mathlib.Nat.{add-zero, add-suc, suc-mul, zero-mul, mod-lt, div-lt_iff_lt-mul, div-add-mod'}
use native.Mathlib.Numerals.{add-one}
use native.Mathlib.Omega.{arith}
use lib.Dec.{ltb}
use lib.ListN.{length, get_or, set, replicate, length-set, length-replicate, get_or-replicate}
use lib.Seq.{ext_get_or, get_or-set_same, get_or-set_other}
use Rattle.std.proofs.lemmas.List.{get_or_default}
use borrow.Author.Count.{below_more}
use borrow.Author.Tests.{lt-ltb, le-ltb}
use Rattle.sets.specs.Tables.{table}
use Rattle.sets.proofs.Bools.{pick_yes, pick_no}
use Rattle.sets.proofs.Laws.{below_or_not}
use Rattle.sets.proofs.Tables.{table_length, table_at}
use Rattle.terminal.specs.declared.Record.{Record}
use Rattle.terminal.specs.Rule.{says_in}
use Rattle.terminal.specs.Shown.{nothing_heard}
use Rattle.plan.specs.declared.Plan.{Plan}
use Rattle.simulation.specs.declared.Turn.{Turn}
use Rattle.simulation.specs.Turns.{Maker, carried, next_turn, Made, made_of, Played, play_one, played_after, first_turn, Ready}

pub played_add : (make : Maker) (s : Played) (a b : ℕ) → played_after make s (a + b) ≡ played_after make (played_after make s a) b
unfolding played_after
played_add make s a zero = ap (played_after make s) (add-zero a)
played_add make s a (suc b) = ap (played_after make s) (add-suc a b) ∙ ap (play_one make) (played_add make s a b)

-- a record and the turn that it makes are those of the definition
made_is : (make : Maker) (t : Turn) (before r : Record) → r ≡ make t before
    → ◌≡◌ {A = Made} (record { turn = next_turn t (says_in (t.round + 1) r.state); after = r }) (made_of make t before)
unfolding made_of
made_is make t before r e = λ i. record { turn = next_turn t (says_in (t.round + 1) (e i).state); after = e i }

-- one turn of the loop
turn_on : (make : Maker) (s₀ : Played) (k : ℕ) (t : Turn) (records : List Record) (made : Made)
    → ◌≡◌ {A = Played} (record { turn = t; records = records }) (played_after make s₀ k) → made ≡ made_of make t (get_or records t.at nothing_heard)
    → ◌≡◌ {A = Played} (record { turn = made.turn; records = set records t.at made.after }) (played_after make s₀ (k + 1))
unfolding played_after play_one
turn_on make s₀ k t records made e q =
    (λ i. record { turn = (q i).turn; records = set records t.at (q i).after })
    ∙ ap (play_one make) e ∙ ap (played_after make s₀) (sym (add-one k))

pub played_length : (make : Maker) (s : Played) (k : ℕ) → length (played_after make s k).records ≡ length s.records
unfolding played_after play_one
played_length make s zero = refl
played_length make s (suc k) = length-set (played_after make s k).records _ _ ∙ played_length make s k

-- the place of each turn that can be played lies within the list
pub turn_place : (make : Maker) (s₀ : Played) (k n : ℕ) (t : Turn) (records : List Record)
    → ((k : ℕ) → k < n → Ready (played_after make s₀ k).turn (length s₀.records)) → k < n
    → ◌≡◌ {A = Played} (record { turn = t; records = records }) (played_after make s₀ k) → t.at < length records
turn_place make s₀ k n t records ready l e =
    let same : length records ≡ length s₀.records = ap (λ (s : Played). length s.records) e ∙ played_length make s₀ k in
    let turn : t.at ≡ (played_after make s₀ k).turn.at = ap (λ (s : Played). s.turn.at) e in
    omega (arith, same, turn, (ready k l).place)

-- so the record may be read with any default
pub turn_read : (make : Maker) (s₀ : Played) (k : ℕ) (t next : Turn) (records : List Record) (d after : Record) → t.at < length records
    → ◌≡◌ {A = Played} (record { turn = t; records = records }) (played_after make s₀ k)
    → after ≡ make t (get_or records t.at d) → next ≡ next_turn t (says_in (t.round + 1) after.state)
    → ◌≡◌ {A = Played} (record { turn = next; records = set records t.at after }) (played_after make s₀ (k + 1))
turn_read make s₀ k t next records d after room e q u =
    turn_on make s₀ k t records (record { turn = next; after = after }) e
    ((λ i. record { turn = u i; after = after })
    ∙ made_is make t (get_or records t.at nothing_heard) after (q ∙ ap (make t) (get_or_default records t.at d nothing_heard room)))

-- `here r b` is the record of terminal b after r rounds
module _ (p : Plan) (faulty first : ℕ) (later : List ℕ) (default : ℕ) (here : ℕ → ℕ → Record) where
  -- ---- what holds before the turn of terminal b in round r, where ys are the records that were lent

  pub record At (ys : List Record) (r b : ℕ) (s : Played) : Type 0 where
    pub plan_is : s.turn.plan ≡ p
    pub faulty_is : s.turn.faulty ≡ faulty
    pub first_is : s.turn.first ≡ first
    pub later_is : s.turn.later ≡ carried later
    pub default_is : s.turn.default ≡ default
    pub round_is : s.turn.round ≡ r
    pub at_is : s.turn.at ≡ b
    pub spoken_is : (q : ℕ) → r ≡ suc q → (j : ℕ) → j < p.n → get_or s.turn.spoken j 0 ≡ says_in r (here q j).state
    pub next_room : length s.turn.next ≡ 20
    pub next_is : (j : ℕ) → j < b → get_or s.turn.next j 0 ≡ says_in (r + 1) (here r j).state
    pub records_room : length s.records ≡ length ys
    pub done : (i : ℕ) → i < b → get_or s.records i nothing_heard ≡ here r i
    pub waiting : (q : ℕ) → r ≡ suc q → (i : ℕ) → b ≤ i → i < p.n → get_or s.records i nothing_heard ≡ here q i
    pub beyond : (i : ℕ) → p.n ≤ i → get_or s.records i nothing_heard ≡ get_or ys i nothing_heard

-- where each turn makes the record that is said
module _ (p : Plan) (two : 2 ≤ p.n) (twenty : p.n ≤ 20) (faulty first : ℕ) (later : List ℕ) (default : ℕ) (make : Maker) (here : ℕ → ℕ → Record)
    (makes : (ys : List Record) (r b : ℕ) (s : Played) → At p faulty first later default here ys r b s → r ≤ 40 → b < p.n
    → make s.turn (get_or s.records s.turn.at nothing_heard) ≡ here r b) where
  -- the records and what is collected, one turn on
  next_records : (ys : List Record) (r b : ℕ) (s : Played) → At p faulty first later default here ys r b s → r ≤ 40 → b < p.n → p.n ≤ length ys
      → (play_one make s).records ≡ set s.records b (here r b)
  unfolding play_one made_of
  next_records ys r b s a h k l = λ i. set s.records (a.at_is i) (makes ys r b s a h k i)

  next_turn_is : (ys : List Record) (r b : ℕ) (s : Played) → At p faulty first later default here ys r b s → r ≤ 40 → b < p.n
      → (play_one make s).turn ≡ next_turn s.turn (says_in (r + 1) (here r b).state)
  unfolding play_one made_of
  next_turn_is ys r b s a h k = λ i. next_turn s.turn (says_in (a.round_is i + 1) (makes ys r b s a h k i).state)

  set_done : (ys : List Record) (r b : ℕ) (s : Played) → At p faulty first later default here ys r b s → b < p.n → p.n ≤ length ys
      → (i : ℕ) → i < b + 1 → get_or (set s.records b (here r b)) i nothing_heard ≡ here r i
  set_done ys r b s a k l =
      below_more (λ (i : ℕ). get_or (set s.records b (here r b)) i nothing_heard ≡ here r i) b
      (λ i h. get_or-set_other s.records b i (here r b) nothing_heard (λ q. omega arith) ∙ a.done i h)
      (get_or-set_same s.records b (here r b) nothing_heard (let e = a.records_room in omega arith))

  set_next : (ys : List Record) (r b : ℕ) (s : Played) → At p faulty first later default here ys r b s → b < p.n
      → (j : ℕ) → j < b + 1 → get_or (set s.turn.next b (says_in (r + 1) (here r b).state)) j 0 ≡ says_in (r + 1) (here r j).state
  set_next ys r b s a k =
      below_more (λ (j : ℕ). get_or (set s.turn.next b (says_in (r + 1) (here r b).state)) j 0 ≡ says_in (r + 1) (here r j).state) b
      (λ j h. get_or-set_other s.turn.next b j (says_in (r + 1) (here r b).state) 0 (λ q. omega arith) ∙ a.next_is j h)
      (get_or-set_same s.turn.next b (says_in (r + 1) (here r b).state) 0 (let e = a.next_room in omega arith))

  -- a turn within a round
  turn_inside : (ys : List Record) (r b : ℕ) (s : Played) → At p faulty first later default here ys r b s → r ≤ 40 → b + 1 < p.n → p.n ≤ length ys → At p faulty first later default here ys r (b + 1) (play_one make s)
  unfolding next_turn
  turn_inside ys r b s a h k l =
      let bk : b < p.n = omega arith in
      let rs = next_records ys r b s a h bk l in
      let w = says_in (r + 1) (here r b).state in
      let tn : (play_one make s).turn ≡ record {
        plan = s.turn.plan;
        faulty = s.turn.faulty;
        first = s.turn.first;
        later = s.turn.later;
        round = s.turn.round;
        at = s.turn.at + 1;
        spoken = s.turn.spoken;
        next = set s.turn.next s.turn.at w;
        default = s.turn.default;
      } =
      next_turn_is ys r b s a h bk
      ∙ pick_yes _ _ _ ((λ i. ltb (a.at_is i + 1) (a.plan_is i).n) ∙ lt-ltb (b + 1) p.n k) in
      let nx : (play_one make s).turn.next ≡ set s.turn.next b w = ap (λ (t : Turn). t.next) tn ∙ ap (λ (x : ℕ). set s.turn.next x w) a.at_is in
      record {
        plan_is = ap (λ (t : Turn). t.plan) tn ∙ a.plan_is;
        faulty_is = ap (λ (t : Turn). t.faulty) tn ∙ a.faulty_is;
        first_is = ap (λ (t : Turn). t.first) tn ∙ a.first_is;
        later_is = ap (λ (t : Turn). t.later) tn ∙ a.later_is;
        default_is = ap (λ (t : Turn). t.default) tn ∙ a.default_is;
        round_is = ap (λ (t : Turn). t.round) tn ∙ a.round_is;
        at_is = ap (λ (t : Turn). t.at) tn ∙ ap (λ (x : ℕ). x + 1) a.at_is;
        spoken_is = λ q e j lj. ap (λ (t : Turn). get_or t.spoken j 0) tn ∙ a.spoken_is q e j lj;
        next_room = ap length nx ∙ length-set s.turn.next b w ∙ a.next_room;
        next_is = λ j lj. ap (λ (x : List ℕ). get_or x j 0) nx ∙ set_next ys r b s a bk j lj;
        records_room = ap length rs ∙ length-set s.records b (here r b) ∙ a.records_room;
        done = λ i li. ap (λ (x : List Record). get_or x i nothing_heard) rs ∙ set_done ys r b s a bk l i li;
        waiting = λ q e i li ln.
            ap (λ (x : List Record). get_or x i nothing_heard) rs ∙ get_or-set_other s.records b i (here r b) nothing_heard (λ y. omega arith) ∙ a.waiting q e i (omega arith) ln;
        beyond = λ i li. ap (λ (x : List Record). get_or x i nothing_heard) rs ∙ get_or-set_other s.records b i (here r b) nothing_heard (λ y. omega arith) ∙ a.beyond i li;
      }

  -- the last turn of a round
  turn_last : (ys : List Record) (r b : ℕ) (s : Played) → At p faulty first later default here ys r b s → r ≤ 40 → b + 1 ≡ p.n → p.n ≤ length ys → At p faulty first later default here ys (r + 1) 0 (play_one make s)
  unfolding next_turn
  turn_last ys r b s a h k l =
      let bk : b < p.n = omega arith in
      let rs = next_records ys r b s a h bk l in
      let w = says_in (r + 1) (here r b).state in
      let tn : (play_one make s).turn ≡ record {
        plan = s.turn.plan;
        faulty = s.turn.faulty;
        first = s.turn.first;
        later = s.turn.later;
        round = s.turn.round + 1;
        at = 0;
        spoken = set s.turn.next s.turn.at w;
        next = replicate 20 0;
        default = s.turn.default;
      } =
      next_turn_is ys r b s a h bk
      ∙ pick_no _ _ _ ((λ i. ltb (a.at_is i + 1) (a.plan_is i).n) ∙ le-ltb (b + 1) p.n (omega arith)) in
      let sp : (play_one make s).turn.spoken ≡ set s.turn.next b w = ap (λ (t : Turn). t.spoken) tn ∙ ap (λ (x : ℕ). set s.turn.next x w) a.at_is in
      record {
        plan_is = ap (λ (t : Turn). t.plan) tn ∙ a.plan_is;
        faulty_is = ap (λ (t : Turn). t.faulty) tn ∙ a.faulty_is;
        first_is = ap (λ (t : Turn). t.first) tn ∙ a.first_is;
        later_is = ap (λ (t : Turn). t.later) tn ∙ a.later_is;
        default_is = ap (λ (t : Turn). t.default) tn ∙ a.default_is;
        round_is = ap (λ (t : Turn). t.round) tn ∙ ap (λ (x : ℕ). x + 1) a.round_is;
        at_is = ap (λ (t : Turn). t.at) tn;
        spoken_is = λ q e j lj.
            let qr : r ≡ q = omega arith in
            ap (λ (x : List ℕ). get_or x j 0) sp ∙ set_next ys r b s a bk j (omega arith) ∙ ap (λ (x : ℕ). says_in (r + 1) (here x j).state) qr;
        next_room = ap (λ (t : Turn). length t.next) tn;
        next_is = λ j lj. absurd (omega arith);
        records_room = ap length rs ∙ length-set s.records b (here r b) ∙ a.records_room;
        done = λ i li. absurd (omega arith);
        waiting = λ q e i li ln.
            let qr : r ≡ q = omega arith in
            ap (λ (x : List Record). get_or x i nothing_heard) rs ∙ set_done ys r b s a bk l i (omega arith) ∙ ap (λ (x : ℕ). here x i) qr;
        beyond = λ i li. ap (λ (x : List Record). get_or x i nothing_heard) rs ∙ get_or-set_other s.records b i (here r b) nothing_heard (λ y. omega arith) ∙ a.beyond i li;
      }

  -- ---- whole rounds

  in_round : (ys : List Record) (r : ℕ) (s : Played) → At p faulty first later default here ys r 0 s → r ≤ 40 → p.n ≤ length ys → (b : ℕ) → b < p.n → At p faulty first later default here ys r b (played_after make s b)
  unfolding played_after
  in_round ys r s a h l zero k = a
  in_round ys r s a h l (suc b) k =
      subst (λ (x : ℕ). At p faulty first later default here ys r x (play_one make (played_after make s b))) (add-one b)
      (turn_inside ys r b (played_after make s b) (in_round ys r s a h l b (omega arith)) h (omega arith) l)

  round_on : (ys : List Record) (r : ℕ) (s : Played) → At p faulty first later default here ys r 0 s → r ≤ 40 → p.n ≤ length ys → At p faulty first later default here ys (r + 1) 0 (played_after make s p.n)
  unfolding played_after
  round_on ys r s a h l =
      let e : suc (p.n - 1) ≡ p.n = omega arith in
      subst (λ (x : ℕ). At p faulty first later default here ys (r + 1) 0 (played_after make s x)) e
      (turn_last ys r (p.n - 1) (played_after make s (p.n - 1)) (in_round ys r s a h l (p.n - 1) (omega arith)) h (omega arith) l)

  first_at : (ys : List Record) → At p faulty first later default here ys 0 0 (record { turn = first_turn p faulty first later default; records = ys })
  first_at ys = record {
    plan_is = refl;
    faulty_is = refl;
    first_is = refl;
    later_is = refl;
    default_is = refl;
    round_is = refl;
    at_is = refl;
    spoken_is = λ q e j l. absurd (omega arith);
    next_room = refl;
    next_is = λ j l. absurd (omega arith);
    records_room = refl;
    done = λ i l. absurd (omega arith);
    waiting = λ q e i li l. absurd (omega arith);
    beyond = λ i l. refl;
  }

  pub rounds_on : (ys : List Record) → p.n ≤ length ys → (r : ℕ) → r ≤ 41
      → At p faulty first later default here ys r 0 (played_after make (record { turn = first_turn p faulty first later default; records = ys }) (r * p.n))
  unfolding played_after
  rounds_on ys l zero h =
      subst (λ (x : ℕ). At p faulty first later default here ys 0 0 (played_after make (record { turn = first_turn p faulty first later default; records = ys }) x)) (sym (zero-mul p.n)) (first_at ys)
  rounds_on ys l (suc r) h =
      subst (λ (x : ℕ). At p faulty first later default here ys x 0 (played_after make (record { turn = first_turn p faulty first later default; records = ys }) (suc r * p.n))) (add-one r)
      (subst (At p faulty first later default here ys (r + 1) 0) (sym (played_add make (record { turn = first_turn p faulty first later default; records = ys }) (r * p.n) p.n) ∙ ap (played_after make (record { turn = first_turn p faulty first later default; records = ys })) (sym (suc-mul r p.n)))
      (round_on ys r (played_after make (record { turn = first_turn p faulty first later default; records = ys }) (r * p.n)) (rounds_on ys l r (omega arith)) (omega arith) l))

  -- ---- the records that the run leaves

  pub walk_at : (ys : List Record) → p.n ≤ length ys → (r : ℕ) → r ≤ 40 → (b : ℕ) → b < p.n
      → get_or (played_after make (record { turn = first_turn p faulty first later default; records = ys }) (suc r * p.n)).records b nothing_heard ≡ here r b
  walk_at ys l r h b k = (rounds_on ys l (suc r) (omega arith)).waiting r refl b (omega arith) k

  -- ---- every turn on the way is one that can be played

  turn_at : (ys : List Record) → p.n ≤ length ys → (q b : ℕ) → q ≤ 40 → b < p.n
      → At p faulty first later default here ys q b (played_after make (record { turn = first_turn p faulty first later default; records = ys }) (q * p.n + b))
  turn_at ys l q b h k =
      subst (At p faulty first later default here ys q b) (sym (played_add make (record { turn = first_turn p faulty first later default; records = ys }) (q * p.n) b))
      (in_round ys q (played_after make (record { turn = first_turn p faulty first later default; records = ys }) (q * p.n)) (rounds_on ys l q (omega arith)) h l b k)

  on_the_way : (ys : List Record) → p.n ≤ length ys → (r : ℕ) → r ≤ 40 → (k : ℕ) → k < suc r * p.n
      → (k / p.n ≤ 40) × (k % p.n < p.n) × At p faulty first later default here ys (k / p.n) (k % p.n) (played_after make (record { turn = first_turn p faulty first later default; records = ys }) k)
  on_the_way ys l r h k m =
      let pos : 0 < p.n = omega arith in
      let q : k / p.n < suc r = (div-lt_iff_lt-mul pos).1 m in
      let b : k % p.n < p.n = mod-lt k pos in
      let s : k / p.n * p.n + k % p.n ≡ k = div-add-mod' k p.n in (
        omega arith,
        b,
        subst (λ (x : ℕ). At p faulty first later default here ys (k / p.n) (k % p.n) (played_after make (record { turn = first_turn p faulty first later default; records = ys }) x)) s
            (turn_at ys l (k / p.n) (k % p.n) (omega arith) b),
      )

  pub placed_on : (ys : List Record) → p.n ≤ length ys → (r : ℕ) → r ≤ 40 → (k : ℕ) → k < suc r * p.n → (t : Turn)
      → t ≡ (played_after make (record { turn = first_turn p faulty first later default; records = ys }) k).turn → Ready t (length ys)
  placed_on ys l r h k m t e =
      let w = on_the_way ys l r h k m in
      let a = w.2 in
      let q = w.0 in
      let b = w.1 in
      let an : t.plan.n ≡ p.n = ap (λ (x : Turn). x.plan.n) e ∙ ap (λ (x : Plan). x.n) a.plan_is in
      let aa : t.at ≡ k % p.n = ap (λ (x : Turn). x.at) e ∙ a.at_is in
      let ar : t.round ≡ k / p.n = ap (λ (x : Turn). x.round) e ∙ a.round_is in
      record { twenty = omega arith; within = omega arith; early = omega arith; place = omega arith }

  -- ---- the records as a list of n, and in an array of twenty

  pub walk_list : (ys : List Record) → length ys ≡ p.n → (r : ℕ) → r ≤ 40 → (l : List Record) → length l ≡ p.n
      → ((b : ℕ) → b < p.n → get_or l b nothing_heard ≡ here r b)
      → (played_after make (record { turn = first_turn p faulty first later default; records = ys }) (suc r * p.n)).records ≡ l
  walk_list ys e r h l q same =
      let le : p.n ≤ length ys = omega arith in
      let a = rounds_on ys le (suc r) (omega arith) in
      ext_get_or nothing_heard (played_after make (record { turn = first_turn p faulty first later default; records = ys }) (suc r * p.n)).records l
      (a.records_room ∙ e ∙ sym q)
      (λ b k. let kb : b < p.n = let m = a.records_room in omega arith in walk_at ys le r h b kb ∙ sym (same b kb))

  pub walk_twenty : (r : ℕ) → r ≤ 40 → ((b : ℕ) → p.n ≤ b → here r b ≡ nothing_heard)
      → (played_after make (record { turn = first_turn p faulty first later default; records = replicate 20 nothing_heard }) (suc r * p.n)).records ≡ table 20 (here r)
  walk_twenty r h none =
      let l : p.n ≤ length (replicate 20 nothing_heard) = omega (arith, length-replicate 20 nothing_heard) in
      let a = rounds_on (replicate 20 nothing_heard) l (suc r) (omega arith) in
      let room : length (played_after make (record { turn = first_turn p faulty first later default; records = replicate 20 nothing_heard }) (suc r * p.n)).records ≡ 20 =
      a.records_room ∙ length-replicate 20 nothing_heard in
      ext_get_or nothing_heard (played_after make (record { turn = first_turn p faulty first later default; records = replicate 20 nothing_heard }) (suc r * p.n)).records
      (table 20 (here r)) (room ∙ sym (table_length 20 (here r)))
      (λ b k.
      let kb : b < 20 = subst (λ (x : ℕ). b < x) room k in
      ⊎_elim (λ m. walk_at (replicate 20 nothing_heard) l r h b m) (λ m. a.beyond b m ∙ get_or-replicate 20 b nothing_heard nothing_heard kb ∙ sym (none b m))
      (below_or_not b p.n)
      ∙ sym (table_at 20 (here r) nothing_heard b kb))
