-- What a file is by its length, and a run file by what was read of it. Assumes nothing.
use Prim.Native.Nat.{ℕ, ◌<◌}
use mathlib.Core.Path.{◌≡◌, refl, sym, ap, ◌∙◌}
use mathlib.Core.Bool.{true, false}
use mathlib.Core.List.{List}
use native.Mathlib.Omega.{arith}
use lib.Dec.{eqb}
use lib.ListN.{length}
use borrow.Author.Tests.{eq-eqb, ne_eqb, lt-leb}
use Rattle.std.specs.Prelude.{Result, Err}
use Rattle.std.specs.Result.{IsErrAnd}
use Rattle.std.proofs.lemmas.Result.{err_from_is_err_and}
use Rattle.sets.specs.Sets.{mask}
use Rattle.sets.specs.Tests.{◌and◌}
use Rattle.sets.proofs.Bools.{and_i, and_no_l, and_no_r, not_i, not_yes, pick_yes, pick_no}
use Rattle.quorum.specs.Words.{most_rounds, most_words}
use Rattle.plan.specs.Deaf.{deaf_set}
use Rattle.frames.specs.declared.Progress.{Progress}
use Rattle.frames.specs.declared.Reader.{Reader}
use Rattle.frames.specs.declared.Refusal.{Refusal}
use Rattle.frames.specs.Reading.{most_bytes, run_reader, is_started, Lists, Reading, refusal, FileRead, reading, whole, run_reading, run_file, file_read, archive_read, words_read, later_read}
use Rattle.frames.specs.Causes.{answer, archive_answer}

pub empty_file : (reader : Reader) (text : List ℕ) → length text < 1 → reading reader text ≡ refusal 1 0
unfolding reading
empty_file reader text h = pick_no _ _ _ (and_no_l _ _ (lt-leb 1 (length text) h))

pub long_file : (reader : Reader) (text : List ℕ) → most_bytes < length text → reading reader text ≡ refusal 1 0
unfolding reading
long_file reader text h = pick_no _ _ _ (and_no_r _ _ (lt-leb (length text) most_bytes h))

-- a refusal that a callee made
pub err_of : {A : Type 0} (r : Result A Refusal) (e : Refusal) → IsErrAnd r (λ x. x ≡ e) → r ≡ Err e
err_of r e h = let k = err_from_is_err_and r h in k.1 ∙ ap Err k.2

-- ---- a run file

-- lists that fit are not looked at
pub run_file_lem : (text : List ℕ) (room roomLater : ℕ) → room ≡ most_words → roomLater ≡ most_rounds → run_file text room roomLater ≡ run_reading text
unfolding run_file
run_file_lem text room roomLater a b =
    pick_no _ _ _ (and_no_r _ _ (not_yes (and_i _ _ (eq-eqb room most_words a) (eq-eqb roomLater most_rounds b))))

-- what the file is by what was read of its lines: a refused file's lists are not looked at
module _ (text : List ℕ) (room roomLater : ℕ) where
  file_first : (found : Reading) → run_reading text ≡ found → (found.number ≡ 0 → ⊥) → run_file text room roomLater ≡ found
  unfolding run_file
  file_first found h n = pick_no _ _ _ (and_no_l _ _ (ne_eqb (run_reading text).number 0 (λ z. n (sym (ap (λ (r : Reading). r.number) h) ∙ z)))) ∙ h

  pub run_refused : (cause line : ℕ) → reading run_reader text ≡ refusal cause line → (cause ≡ 0 → ⊥) → run_file text room roomLater ≡ refusal cause line
  unfolding whole run_reading
  run_refused cause line e n =
      file_first (refusal cause line)
      (ap whole e ∙ pick_no _ _ _ (and_no_l _ _ (ne_eqb cause 0 n))) n

  module _ (p : Progress) (said : Lists) (e : reading run_reader text ≡ record { number = 0; line = 0; progress = p; said = said }) where
    pub run_early : is_started p ≡ false → run_file text room roomLater ≡ refusal 3 0
    unfolding whole run_reading
    run_early s = file_first (refusal 3 0) (ap whole e ∙ pick_yes _ _ _ (and_i _ _ refl (not_i s))) (λ y. omega arith)

    module _ (s : is_started p ≡ true) where
      whole_is : run_reading text ≡ record { number = 0; line = 0; progress = p; said = said }
      unfolding whole run_reading
      whole_is = ap whole e ∙ pick_no _ _ _ (and_no_r _ _ (not_yes s))

      pub run_whole : room ≡ most_words → roomLater ≡ most_rounds → run_file text room roomLater ≡ record { number = 0; line = 0; progress = p; said = said }
      run_whole a b = run_file_lem text room roomLater a b ∙ whole_is

      wrong_room : eqb room most_words and eqb roomLater most_rounds ≡ false → run_file text room roomLater ≡ refusal 12 0
      unfolding run_file
      wrong_room h = pick_yes _ _ _ (and_i _ _ (ap (λ (r : Reading). eqb r.number 0) whole_is) (not_i h))

      pub wrong_words : (room ≡ most_words → ⊥) → run_file text room roomLater ≡ refusal 12 0
      wrong_words n = wrong_room (and_no_l _ _ (ne_eqb room most_words n))

      pub wrong_later : (roomLater ≡ most_rounds → ⊥) → run_file text room roomLater ≡ refusal 12 0
      wrong_later n = wrong_room (and_no_r _ _ (ne_eqb roomLater most_rounds n))

pub words_left : (file : Reading) (before : List ℕ) → (file.number ≡ 0 → ⊥) → before ≡ words_read file before
unfolding words_read
words_left file before h = sym (pick_no _ _ _ (ne_eqb file.number 0 h))

pub words_read_lem : (file : Reading) (before : List ℕ) → file.number ≡ 0 → file.said.words ≡ words_read file before
unfolding words_read
words_read_lem file before h = sym (pick_yes _ _ _ (eq-eqb file.number 0 h))

pub later_left : (file : Reading) (before : List ℕ) → (file.number ≡ 0 → ⊥) → before ≡ later_read file before
unfolding later_read
later_left file before h = sym (pick_no _ _ _ (ne_eqb file.number 0 h))

pub later_read_lem : (file : Reading) (before : List ℕ) → file.number ≡ 0 → file.said.later ≡ later_read file before
unfolding later_read
later_read_lem file before h = sym (pick_yes _ _ _ (eq-eqb file.number 0 h))

-- what the archive's caller gets
pub archived : (file : FileRead) (deaf : ℕ) (found : Reading) → file ≡ file_read found → deaf ≡ deaf_set file.progress.plan
    → record { file = file; deaf = deaf } ≡ archive_read found
archived file deaf found e d i = record { file = e i; deaf = (d ∙ ap (λ (f : FileRead). deaf_set f.progress.plan) e) i }

-- and of a refused file
pub archived_none : (e : Refusal) (found : Reading) → answer (Err e) ≡ file_read found → archive_answer (Err e) ≡ archive_read found
unfolding deaf_set mask
archived_none e found h = archived (answer (Err e)) 0 found h refl
