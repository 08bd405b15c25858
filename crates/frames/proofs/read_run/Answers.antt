-- The file's reading decides, then its stage, then the lists' lengths; only a whole file's words and later notices are copied. Assumes nothing.
use mathlib.Core.Path.{◌≡◌, refl, sym, ◌∙◌}
use native.Mathlib.Omega.{arith}
use lib.ListN.{length}
use Rattle.frames.specs.Reading.{refusal, run_file}
use Rattle.frames.specs.Causes.{number}
use Rattle.frames.proofs.LineLaws.{numbered}
use Rattle.frames.proofs.FileLaws.{wrong_words, wrong_later, err_of, run_refused, run_early, run_whole, words_left, words_read_lem, later_left, later_read_lem}
use Rattle.frames.proofs.read_run.Goals.{then-words-ne-MOST_WORDS-via-then-words-ne-MOST_WORDS, then-words-ne-MOST_WORDS-via-else-words-ne-MOST_WORDS+then-later-ne-MOST_ROUNDS}
use Rattle.frames.proofs.read_run.Goals as goal

pub returns-in_err-progress : goal.returns-in_err-progress
returns-in_err-progress c =
    let n : number c.in_err-progress.field-0.0.cause ≡ 0 → ⊥ = numbered _ in
    let file = run_refused _ (length c.args.words.now) (length c.args.later.now) _ _ c.in_err-progress.ensures n in
    rw (err_of _ _ c.from_residual.ensures.1, file) (record { value = refl; words_after = words_left _ _ n; later_after = later_left _ _ n })

pub returns-then-not-is_started : goal.returns-then-not-is_started
returns-then-not-is_started c =
    let file = run_early _ (length c.args.words.now) (length c.args.later.now) _ _ c.in_ok-progress.ensures (sym c.if-not-is_started.ensures) in
    rw file (record { value = refl; words_after = words_left _ _ (λ z. omega arith); later_after = later_left _ _ (λ z. omega arith) })

pub returns-then-words-ne-MOST_WORDS : goal.returns-then-words-ne-MOST_WORDS
returns-then-words-ne-MOST_WORDS c =
    let s = sym c.if-not-is_started.ensures in
    let e = c.in_ok-progress.ensures in
    let wrong : run_file c.args.text.now (length c.args.words.now) (length c.args.later.now) ≡ refusal 12 0 = elim c.then-words-ne-MOST_WORDS.branch [
      | then-words-ne-MOST_WORDS-via-then-words-ne-MOST_WORDS w ↦ wrong_words _ _ _ _ _ e s w.if-words-ne-MOST_WORDS.true
      | then-words-ne-MOST_WORDS-via-else-words-ne-MOST_WORDS+then-later-ne-MOST_ROUNDS w ↦ wrong_later _ _ _ _ _ e s w.if-later-ne-MOST_ROUNDS.true
    ] in
    rw wrong (record { value = refl; words_after = words_left _ _ (λ z. omega arith); later_after = later_left _ _ (λ z. omega arith) })

pub returns : goal.returns
returns c =
    let file = run_whole _ _ _ _ _ c.in_ok-progress.ensures (sym c.if-not-is_started.ensures) c.if-words-ne-MOST_WORDS.false c.if-later-ne-MOST_ROUNDS.false in
    rw file (record {
      value = refl;
      words_after = c.copy_from_slice.ensures.after ∙ words_read_lem _ _ refl;
      later_after = c.copy_from_slice-2.ensures.after ∙ later_read_lem _ _ refl;
    })
