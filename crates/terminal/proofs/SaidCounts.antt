-- What a neighbour has said in its highest edition counts from then on. Assumes nothing.
use Prim.Native.Nat.{ℕ, ◌≤◌, ◌<◌}
use mathlib.Core.Path.{◌≡◌, refl, sym, ap, ◌∙◌, subst}
use mathlib.Core.Logic.{⊎_elim}
use mathlib.Core.Bool.{Bool, true, false}
use mathlib.Core.List.{List, [], ◌∷◌, ◌++◌, map}
use native.Mathlib.Omega.{arith}
use lib.Dec.{eqb}
use lib.ListN.{length, get_or, length-map, get_or-eq_default}
use borrow.Author.Tests.{eqb-true, le-leb}
use Rattle.sets.specs.Sets.{mem}
use Rattle.sets.proofs.Bools.{clash, and_i, not_i, pick_case}
use Rattle.sets.proofs.Laws.{below_or_not}
use Rattle.quorum.specs.declared.Bound.{Bound}
use Rattle.quorum.specs.Notice.{edition_of, layout_of, silent}
use Rattle.terminal.specs.declared.Record.{Record}
use Rattle.terminal.specs.Rule.{Spoken, nothing_said, spoken_by, in_edition, is_new, with_new, with_word, among, holds, first_of, step}
use Rattle.terminal.specs.Shown.{spoken_in, Whole, view_of, shown_over}
use Rattle.terminal.specs.Answer.{cause_of, record_after}
use Rattle.terminal.specs.SaidCounts.{said_to, SaidCounts}
use Rattle.terminal.proofs.Values.{in_by, in_other, new_above, word_by, word_change, first_stays}
use Rattle.terminal.proofs.Newest.{holds_i, holds_said, holds_among}
use Rattle.terminal.proofs.Notes.{noted_at}
use Rattle.terminal.proofs.Shown.{view_spoken}
use Rattle.terminal.proofs.Laws.{step_by, note_stays, spoken_noted}
use Rattle.terminal.proofs.Walks.{accepted_plays, accepted_hears, after_accepted}
use Rattle.terminal.proofs.Unheard.{after_spoken}

module _ (n source : ℕ) (bound : Bound) (own heard : ℕ) (r : Record) (whole : Whole r.notes) (said : List ℕ) where
  abbrev back : Record
  back = record_after n source bound own heard r said

  -- what holds of what a heard neighbour has said where nothing is played, and after the rule's step, holds of the record that comes back
  after_by {ℓ} : (Q : Spoken → Type ℓ) (j : ℕ) → j < 20 → mem j heard ≡ true → Q (said_to r j)
      → (cause_of n source bound own heard r (length said) ≡ 0 → Q (spoken_by (step n source bound own heard (λ j. get_or said j 0) (view_of r)).notes j)) → Q (said_to back j)
  unfolding record_after view_of
  after_by Q j k h p q =
      pick_case (λ (x : Record). Q (spoken_by (map spoken_in x.notes) j)) (eqb (cause_of n source bound own heard r (length said)) 0)
      (shown_over (λ j. mem j heard) r (step n source bound own heard (λ j. get_or said j 0) (view_of r))) r
      (λ t.
      subst Q
      (sym (view_spoken (shown_over (λ j. mem j heard) r (step n source bound own heard (λ j. get_or said j 0) (view_of r))).notes j
      ∙ after_spoken n source bound own heard r whole said (eqb-true _ 0 t) j k h)) (q (eqb-true _ 0 t)))
      (λ t. p)

  -- and so where it holds with and without the word
  word_after {ℓ} : (Q : Spoken → Type ℓ) (j : ℕ) → j < 20 → mem j heard ≡ true → Q (said_to r j) → Q (with_word (mem j heard) (said_to r j) (get_or said j 0)) → Q (said_to back j)
  word_after Q j k h p q = after_by Q j k h p (λ c. step_by n source bound own heard (λ j. get_or said j 0) Q (view_of r) j p q)

  -- a terminal that is not of the twenty has said nothing
  nobody : (x : Record) → Whole x.notes → (j : ℕ) → 20 ≤ j → said_to x j ≡ nothing_said
  unfolding view_of spoken_by
  nobody x w j k = get_or-eq_default (map spoken_in x.notes) nothing_said (let t = length-map x.notes spoken_in in let e = w.twenty in omega arith)

  -- a terminal of which something is noted has a place
  placed : (j : ℕ) → 0 < length (said_to r j).layouts → j < 20
  placed j l = ⊎_elim (λ k. k) (λ k. absurd (omega (arith, ap (λ (s : Spoken). length s.layouts) (nobody r whole j k)))) (below_or_not j 20)

  placed_edition : (j : ℕ) → 0 < (said_to r j).edition → j < 20
  placed_edition j l = ⊎_elim (λ k. k) (λ k. absurd (omega (arith, ap (λ (s : Spoken). s.edition) (nobody r whole j k)))) (below_or_not j 20)

  among_some : (v : ℕ) (values : List ℕ) → among v values ≡ true → 0 < length values
  unfolding among
  among_some v [] h = clash h refl
  among_some v (x ∷ values) h = omega arith

  in_some : (v edition : ℕ) (spoken : Spoken) → among v (in_edition edition spoken) ≡ true → 0 < length spoken.layouts
  unfolding among
  in_some v edition spoken = in_by (λ (l : List ℕ). among v l ≡ true → 0 < length spoken.layouts) edition spoken (among_some v spoken.layouts) (λ h. clash h refl)

  heard_below : (j : ℕ) → cause_of n source bound own heard r (length said) ≡ 0 → mem j heard ≡ true → (j < n) × (j < 20)
  heard_below j c h =
      let n20 = (accepted_plays n source bound own heard r (length said) c).0 in
      let k : j < n = accepted_hears n source bound own heard r (length said) c j h in
      (k, omega arith)

  counted : (j : ℕ) → cause_of n source bound own heard r (length said) ≡ 0 → mem j heard ≡ true → silent (get_or said j 0) ≡ false
      → (said_to r j).edition ≤ edition_of (get_or said j 0) → holds (view_of back) (get_or said j 0) j ≡ true
  unfolding view_of
  counted j c h z above =
      let k = heard_below j c h in
      let s = spoken_noted n source bound own heard (λ j. get_or said j 0) (view_of r) j k.0 (let t = length-map r.notes spoken_in in let e = whole.twenty in let l = k.1 in omega arith) h z above in
      holds_i (view_of back) (get_or said j 0) j z
      (ap (λ (x : Record). among (layout_of (get_or said j 0)) (in_edition (edition_of (get_or said j 0)) (spoken_by (map spoken_in x.notes) j)))
      (sym (after_accepted n source bound own heard r said (sym c)))
      ∙ ap (λ (x : Spoken). among (layout_of (get_or said j 0)) (in_edition (edition_of (get_or said j 0)) x))
      (view_spoken (shown_over (λ j. mem j heard) r (step n source bound own heard (λ j. get_or said j 0) (view_of r))).notes j ∙ after_spoken n source bound own heard r whole said c j k.1 h)
      ∙ holds_among (step n source bound own heard (λ j. get_or said j 0) (view_of r)) (get_or said j 0) j s)

  -- what is said by a word of a higher edition is that word alone
  wiped_word : (hears : Bool) (spoken : Spoken) (word : ℕ) → hears ≡ true → silent word ≡ false → spoken.edition < edition_of word
      → with_word hears spoken word ≡ record { edition = edition_of word; layouts = layout_of word ∷ [] }
  unfolding with_new is_new among
  wiped_word hears spoken word h z l =
      let none = in_other (edition_of word) spoken (λ e. omega arith) in
      ⊎_elim
      (λ c.
      clash
      (and_i _ _ h (and_i _ _ (not_i z)
      (and_i _ _ (le-leb spoken.edition (edition_of word) (omega arith)) (not_i (ap (among (layout_of word)) none)))))
      c.0)
      (λ c. c.1 ∙ (λ i. record { edition = edition_of word; layouts = none i ++ (layout_of word ∷ []) }))
      (word_change hears spoken word)

  wipes : (j : ℕ) → cause_of n source bound own heard r (length said) ≡ 0 → mem j heard ≡ true → silent (get_or said j 0) ≡ false
      → (said_to r j).edition < edition_of (get_or said j 0) → said_to back j ≡ record { edition = edition_of (get_or said j 0); layouts = layout_of (get_or said j 0) ∷ [] }
  unfolding view_of step
  wipes j c h z l =
      let k = heard_below j c h in
      ap (λ (x : Record). spoken_by (map spoken_in x.notes) j) (sym (after_accepted n source bound own heard r said (sym c)))
      ∙ view_spoken (shown_over (λ j. mem j heard) r (step n source bound own heard (λ j. get_or said j 0) (view_of r))).notes j ∙ after_spoken n source bound own heard r whole said c j k.1 h
      ∙ noted_at n (λ j. mem j heard) (λ j. get_or said j 0) (map spoken_in r.notes) j k.0 (let t = length-map r.notes spoken_in in let e = whole.twenty in let b = k.1 in omega arith)
      ∙ wiped_word (mem j heard) (said_to r j) (get_or said j 0) h z l

  lower : (j : ℕ) → mem j heard ≡ true → edition_of (get_or said j 0) < (said_to r j).edition → said_to back j ≡ said_to r j
  lower j h l =
      word_after (λ (x : Spoken). x ≡ said_to r j) j (placed_edition j (omega arith)) h refl
      (word_by (λ (x : Spoken). x ≡ said_to r j) (mem j heard) (said_to r j) (get_or said j 0) refl
      (λ t. absurd (omega (arith, new_above (mem j heard) (said_to r j) (get_or said j 0) t, l))))

  kept : (x j : ℕ) → mem j heard ≡ true → (silent (get_or said j 0) ≡ false → edition_of (get_or said j 0) ≤ edition_of x) → holds (view_of r) x j ≡ true → holds (view_of back) x j ≡ true
  kept x j h low e =
      let a = holds_among (view_of r) x j e in
      holds_i (view_of back) x j (holds_said (view_of r) x j e)
      (after_by (λ (s : Spoken). among (layout_of x) (in_edition (edition_of x) s) ≡ true) j (placed j (in_some (layout_of x) (edition_of x) (said_to r j) a)) h a
      (λ c. holds_among _ x j (note_stays n source bound own heard (λ j. get_or said j 0) (view_of r) x j low e)))

  first_kept : (j : ℕ) → mem j heard ≡ true → 0 < length (said_to r j).layouts → (said_to back j).edition ≡ (said_to r j).edition
      → first_of (said_to back j).layouts ≡ first_of (said_to r j).layouts
  first_kept j h l =
      word_after (λ (x : Spoken). x.edition ≡ (said_to r j).edition → first_of x.layouts ≡ first_of (said_to r j).layouts) j (placed j l) h (λ e. refl)
      (first_stays (mem j heard) (said_to r j) (get_or said j 0) l)

pub said_counts : (n source : ℕ) (bound : Bound) (own heard : ℕ) → SaidCounts n source bound own heard
said_counts n source bound own heard = record {
  counts = counted n source bound own heard;
  wipes = wipes n source bound own heard;
  lower = lower n source bound own heard;
  stays = kept n source bound own heard;
  first = first_kept n source bound own heard;
}
