-- The reader's returns: the sets that were heard are the ones, or there are none. Assumes nothing.
use Prim.Native.Nat.{ℕ, min}
use mathlib.Core.Path.{◌≡◌, sym, ap, ap₂, ◌∙◌}
use mathlib.Core.Logic.{⊎_elim}
use mathlib.Core.Bool.{Bool, true, false}
use mathlib.Core.List.{List}
use native.Mathlib.Omega.{arith}
use Rattle.std.specs.Prelude.{None, Err}
use Rattle.sets.specs.Sets.{outside}
use Rattle.sets.proofs.Bools.{clash, decide, no_by}
use Rattle.sets.proofs.Partition.{few_outside}
use Rattle.text.specs.Phrases.{same}
use Rattle.text.proofs.Phrases.{same_yes, same_is}
use Rattle.wording.specs.declared.ear.Ear.{Ear}
use Rattle.wording.specs.Ear.{attentive, after_all}
use Rattle.wording.specs.Sentence.{terminals_in_range, composes, sentence, sentence_cause, composed}
use Rattle.wording.specs.declared.SentenceError.{SentenceError}
use Rattle.wording.specs.declared.SentenceError.TheVariants.{WrongRange, NoPartition}
use Rattle.wording.specs.Answers.{number_of, heard_instead}
use Rattle.wording.specs.Heard.{refused, told, speaks_of, heard_of}
use Rattle.wording.proofs.Causes.{range_twenty, cause_range, cause_sets, cause_right, composed_is, sound}
use Rattle.wording.proofs.Telling.{speaks_i, speaks_cause, speaks_text, speaks_heard, heard_sets, heard_other, heard_range}

-- n and the text, what was heard of it, everyone else, and their sentence
module _ (n : ℕ) (text : List ℕ) (e : Ear) (l number : ℕ) (worded : List ℕ) (heard : e ≡ after_all attentive text) (rest : l ≡ outside (min n 32) e.f e.r)
    (cause : number ≡ sentence_cause n e.f l e.r) (words : worded ≡ composed n e.f l e.r) where
  range_of : (number ≡ 4 → ⊥) → terminals_in_range n ≡ true
  range_of z =
      ⊎_elim (λ y. y) (λ y. absurd (z (cause ∙ cause_range n e.f l e.r y))) (decide (terminals_in_range n))

  all_else : terminals_in_range n ≡ true → l ≡ outside n e.f e.r
  all_else y = let t = range_twenty n y in rest ∙ few_outside n e.f e.r (omega arith)

  -- whatever the text speaks of was heard, and has this sentence
  found : (f r : ℕ) → speaks_of n text f r ≡ true → (number ≡ 0) × (same worded text ≡ true)
  found f r h =
      let q : ◌≡◌ {A = Ear} e (record { waiting = true; number = None; f = f; r = r }) = heard ∙ speaks_heard n text f r h in
      let a : e.f ≡ f = ap (λ (x : Ear). x.f) q in
      let b : e.r ≡ r = ap (λ (x : Ear). x.r) q in
      let z = speaks_cause n text f r h in
      let m : l ≡ outside n f r = all_else (sound n f (outside n f r) r z).range ∙ ap₂ (outside n) a b in
      let s : number ≡ 0 = cause ∙ ap₂ (λ (x y : ℕ). sentence_cause n x l y) a b ∙ ap (λ (x : ℕ). sentence_cause n f x r) m ∙ z in
      let w : worded ≡ text =
      words ∙ ap₂ (λ (x y : ℕ). composed n x l y) a b ∙ ap (λ (x : ℕ). composed n f x r) m ∙ composed_is n f (outside n f r) r z ∙ speaks_text n text f r h in
      (s, same_yes _ _ w)

  pub read_range : number ≡ 4 → refused 4 ≡ heard_of n text
  read_range h =
      sym
      (heard_range n text
      (no_by
      (λ y.
      ⊎_elim (λ k. let z = sym h ∙ cause ∙ cause_right n e.f l e.r y k in omega (arith, z))
      (λ k. let z = sym h ∙ cause ∙ cause_sets n e.f l e.r y k in omega (arith, z)) (decide (composes n e.f l e.r)))))

  pub read_sets : (is : Bool) → is ≡ same worded text → number ≡ 0 → is ≡ true → record { number = 0; f = e.f; l = l; r = e.r } ≡ heard_of n text
  read_sets is q z y =
      let c : sentence_cause n e.f l e.r ≡ 0 = sym cause ∙ z in
      let m : l ≡ outside n e.f e.r = all_else (sound n e.f l e.r c).range in
      let w : sentence n e.f e.r ≡ text = sym (words ∙ composed_is n e.f l e.r c) ∙ same_is _ _ (sym q ∙ y) in
      ap (λ (x : ℕ). record { number = 0; f = e.f; l = x; r = e.r }) m
      ∙ sym (heard_sets n text e.f e.r (speaks_i n text e.f l e.r m c w))

  pub read_differs : (is : Bool) → is ≡ same worded text → (number ≡ 4 → ⊥) → is ≡ false → refused 2 ≡ heard_of n text
  read_differs is q z y = sym (heard_other n text (range_of z) (λ f r h. clash (q ∙ (found f r h).1) y))

  pub read_refused : (number ≡ 4 → ⊥) → (number ≡ 0 → ⊥) → refused 2 ≡ heard_of n text
  read_refused z y = sym (heard_other n text (range_of z) (λ f r h. y (found f r h).0))

  pub read_instead : (why : SentenceError) → number_of why ≡ number → told (Err (heard_instead why)) ≡ heard_of n text
  read_instead WrongRange q = read_range (sym q)
  read_instead NoPartition q = read_refused (λ z. omega arith) (λ z. omega arith)
