-- A terminal's record on a shared channel from round to round, read off the lists of the run. Assumes nothing.
use Prim.Native.Nat.{ℕ, zero, suc, ◌≤◌, ◌<◌}
use mathlib.Core.Path.{◌≡◌, refl, sym, ap, ◌∙◌, fun_ext}
use mathlib.Core.Logic.{⊎_elim}
use mathlib.Core.Bool.{true, false}
use mathlib.Core.List.{List}
use native.Mathlib.Omega.{arith}
use lib.ListN.{length, get_or}
use Rattle.sets.specs.Tests.{pick}
use Rattle.sets.specs.Tables.{table}
use Rattle.sets.specs.Sets.{mem}
use Rattle.sets.proofs.Bools.{decide, pick_yes, pick_no, pick_case}
use Rattle.sets.proofs.Tables.{table_length, table_at, table_same}
use Rattle.quorum.specs.Notice.{notice_of, layout_of}
use Rattle.quorum.proofs.Notices.{layout_small}
use Rattle.terminal.specs.Rule.{View, start, says_in}
use Rattle.terminal.specs.Channel.{shared_step}
use Rattle.plan.specs.declared.Plan.{Plan}
use Rattle.plan.specs.Plan.{heard_by, hears}
use Rattle.propagation.specs.Run.{start_record}
use Rattle.propagation.specs.Channel.{SharedScript, SameSharedWords, shared_start, shared_from, shared_record_in, shared_sites, shared_site}

module _ (p : Plan) (faulty value default : ℕ) (script : SharedScript) where
  -- what terminal b hears from terminal j in round r + 1
  abbrev pub shared_word : ℕ → ℕ → ℕ → ℕ
  shared_word r b j = shared_from p faulty script (suc r) (shared_sites p faulty value default script r) b j

  pub shared_start_lem : (b : ℕ) → b < p.n → mem b faulty ≡ false → shared_site p faulty value default script 0 b ≡ start_record p (notice_of 1 value) b
  unfolding shared_site shared_sites shared_start
  shared_start_lem b k g = table_at p.n (shared_start p faulty value) start b k ∙ pick_no _ _ _ g

  pub shared_next : (r b : ℕ) → b < p.n → mem b faulty ≡ false
      → shared_site p faulty value default script (suc r) b
      ≡ shared_step p.n p.source p.bound b (heard_by p b) default (shared_word r b) (shared_site p faulty value default script r b)
  unfolding shared_site shared_sites shared_record_in
  shared_next r b k g =
      table_at p.n (shared_record_in p faulty default script (suc r) (shared_sites p faulty value default script r)) start b k ∙ pick_no _ _ _ g

  -- a terminal of the fault set stays waiting, round 0, nothing heard
  pub shared_faulty : (r b : ℕ) → b < p.n → mem b faulty ≡ true → shared_site p faulty value default script r b ≡ start
  unfolding shared_site shared_sites shared_start shared_record_in
  shared_faulty zero b k g = table_at p.n (shared_start p faulty value) start b k ∙ pick_yes _ _ _ g
  shared_faulty (suc r) b k g =
      table_at p.n (shared_record_in p faulty default script (suc r) (shared_sites p faulty value default script r)) start b k ∙ pick_yes _ _ _ g

  pub shared_length : (r : ℕ) → length (shared_sites p faulty value default script r) ≡ p.n
  unfolding shared_sites
  shared_length zero = table_length p.n (shared_start p faulty value)
  shared_length (suc r) = table_length p.n (shared_record_in p faulty default script (suc r) (shared_sites p faulty value default script r))

  pub shared_good : (r b j : ℕ) → hears p b j ≡ true → mem j faulty ≡ false
      → shared_word r b j ≡ layout_of (says_in (suc r) (shared_site p faulty value default script r j).state)
  unfolding shared_from shared_site
  shared_good r b j h g = pick_yes _ _ _ h ∙ pick_no _ _ _ g

  pub shared_bad : (r b j : ℕ) → hears p b j ≡ true → mem j faulty ≡ true → shared_word r b j ≡ script (suc r) j
  unfolding shared_from
  shared_bad r b j h g = pick_yes _ _ _ h ∙ pick_yes _ _ _ g

  -- a word has two bytes
  pub shared_small : ((round sender : ℕ) → script round sender < 65536) → (r b j : ℕ) → shared_word r b j < 65536
  unfolding shared_from
  shared_small s r b j =
      pick_case (λ (x : ℕ). x < 65536) (hears p b j) _ 0
      (λ h. pick_case (λ (x : ℕ). x < 65536) (mem j faulty) _ _ (λ m. s (suc r) j) (λ m. layout_small _)) (λ h. omega arith)

-- ---- entries of good senders are not looked at: scripts that agree on all others give the same sites

module _ (p : Plan) (faulty value default : ℕ) (script other : SharedScript) where
  heard_same : (r round : ℕ) → SameSharedWords faulty r script other → 1 ≤ round → round ≤ r → (before : List View) (b j : ℕ)
      → shared_from p faulty script round before b j ≡ shared_from p faulty other round before b j
  unfolding shared_from
  heard_same r round same first last before b j =
      ⊎_elim
      (λ m.
      ap (λ (x : ℕ). pick (hears p b j) x 0)
      (pick_yes _ _ _ m ∙ same round j first last m ∙ sym (pick_yes (mem j faulty) (other round j) (layout_of (says_in round (get_or before j start).state)) m)))
      (λ m.
      ap (λ (x : ℕ). pick (hears p b j) x 0) (pick_no _ _ _ m ∙ sym (pick_no (mem j faulty) (other round j) (layout_of (says_in round (get_or before j start).state)) m)))
      (decide (mem j faulty))

  record_same : (r round : ℕ) → SameSharedWords faulty r script other → 1 ≤ round → round ≤ r → (before : List View) (b : ℕ)
      → shared_record_in p faulty default script round before b ≡ shared_record_in p faulty default other round before b
  unfolding shared_record_in
  record_same r round same first last before b =
      ap (λ (said : ℕ → ℕ). pick (mem b faulty) start (shared_step p.n p.source p.bound b (heard_by p b) default said (get_or before b start)))
      (fun_ext (heard_same r round same first last before b))

  pub shared_same : (r : ℕ) → SameSharedWords faulty r script other → shared_sites p faulty value default script r ≡ shared_sites p faulty value default other r
  unfolding shared_sites
  shared_same zero same = refl
  shared_same (suc r) same =
      table_same p.n (shared_record_in p faulty default script (suc r) (shared_sites p faulty value default script r)) (shared_record_in p faulty default other (suc r) (shared_sites p faulty value default script r))
      (λ b k. record_same (suc r) (suc r) same (omega arith) (omega arith) (shared_sites p faulty value default script r) b)
      ∙ ap (λ (before : List View). table p.n (shared_record_in p faulty default other (suc r) before)) (shared_same r (λ round sender first last m. same round sender first (omega arith) m))
