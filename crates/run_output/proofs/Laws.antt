-- A list of 340 bytes has room for every run: 17 for each of 20 terminals. Assumes nothing.
use Prim.Native.Nat.{ℕ, ◌*◌, ◌≤◌}
use mathlib.Core.Path.{◌≡◌}
use mathlib.Core.List.{List}
use native.Mathlib.Omega.{arith}
use lib.ListN.{length}
use Rattle.frames.specs.declared.Progress.{Progress}
use Rattle.frames.specs.Reading.{Lists, run_reading, file_read}
use Rattle.output.specs.OnFile.{answer_on}
use Rattle.plan.proofs.Laws.{sound}
use Rattle.frames.proofs.Accepted.{run_accepted}
use Rattle.output.proofs.Laws.{on_length, whole_text}
use Rattle.run_output.specs.Site.{ran_text, ran_on, run_text}
use Rattle.run_output.proofs.SiteLaws.{site_length}

ran_length : (p : Progress) (said : Lists) → length (ran_text p said) ≤ 17 * p.plan.n
unfolding ran_text
ran_length p said = site_length p.form p.plan.n p.faulty _

pub run_short : (file : List ℕ) → length (run_text file) ≤ 340
unfolding run_text ran_on
run_short file =
    on_length (file_read (run_reading file)) _ 340 (omega arith)
    (λ z. omega (arith, (sound (run_reading file).progress.plan (run_accepted file z).plan_sound).twenty, ran_length (run_reading file).progress (run_reading file).said))

pub run_fits : (file : List ℕ) (room : ℕ) → 340 ≤ room
    → answer_on (file_read (run_reading file)) (run_text file) room
    ≡ record { number = (run_reading file).number; line = (run_reading file).line; len = length (run_text file) }
run_fits file room h = whole_text (file_read (run_reading file)) (run_text file) room (omega (arith, run_short file))
