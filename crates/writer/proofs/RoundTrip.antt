-- An accepted file written again has the same head, links and groups, whether it is a file for the archive, for `verdict` or for `run`. Assumes nothing.
use mathlib.Core.Path.{◌≡◌, sym, ap, ◌∙◌, subst}
use mathlib.Core.List.{List}
use Prim.Native.Nat.{ℕ}
use Rattle.plan.specs.declared.Plan.{Plan}
use Rattle.plan.specs.Deaf.{deaf_set}
use Rattle.frames.specs.declared.Reader.{Reader}
use Rattle.frames.specs.Reading.{plan_kinds, run_kinds, plan_reader, archive_reader, run_reader, Reading, reading, plan_reading, archive_reading, run_reading}
use Rattle.frames.proofs.Accepted.{reading_whole, run_is}
use Rattle.frames.proofs.GroupLaws.{reading_groups}
use Rattle.frames.proofs.Archive.{plan_hears, run_hears}
use Rattle.writer.specs.Written.{plan_text}
use Rattle.writer.specs.RoundTrip.{Says, Again, RoundTrip}
use Rattle.writer.proofs.ReadBack.{as_read, read_back, read_new}
use Rattle.writer.proofs.TextHead.{reading_begins}
use Rattle.writer.proofs.TextLinks.{reading_links}

-- an accepted file says the plan that was read, whoever reads it
says : (reader : Reader) (file : List ℕ) → (reading reader file).number ≡ 0 → Says reader.kinds file (reading reader file).progress.plan
says reader file h = record { head = reading_begins reader file h; links = reading_links reader file h; groups = reading_groups reader file h }

-- and so does what is written of it, which some reader reads as the plan
module _ (reader : Reader) (file : List ℕ) (h : (reading reader file).number ≡ 0) where
  abbrev found : Plan
  found = (reading reader file).progress.plan

  back : archive_reading (plan_text found) ≡ as_read found
  back = let w = reading_whole reader file h in read_back found w.0 w.1 w.2

  back_new : deaf_set found ≡ 0 → plan_reading (plan_text found) ≡ as_read found
  back_new = let w = reading_whole reader file h in read_new found w.0 w.1 w.2

  again : (read : List ℕ → Reading) → read (plan_text found) ≡ as_read found → Again reader.kinds read file found
  unfolding archive_reading
  again read e =
      let n : (reading archive_reader (plan_text found)).number ≡ 0 = ap (λ (r : Reading). r.number) back in
      record {
        before = says reader file h;
        after = subst (Says plan_kinds (plan_text found)) (ap (λ (r : Reading). r.progress.plan) back) (says archive_reader (plan_text found) n);
        accepted = ap (λ (r : Reading). r.number) e;
        same = ap (λ (r : Reading). r.progress.plan) e;
      }

of_plans : (file : List ℕ) → (plan_reading file).number ≡ 0 → Again plan_kinds plan_reading file (plan_reading file).progress.plan
unfolding plan_reading
of_plans file h = again plan_reader file h plan_reading (back_new plan_reader file h (plan_hears file h))

of_runs : (file : List ℕ) → (run_reading file).number ≡ 0 → Again run_kinds plan_reading file (run_reading file).progress.plan
of_runs file h =
    let e = run_is file h in
    let z = sym (ap (λ (r : Reading). r.number) e) ∙ h in
    let d = sym (ap (λ (r : Reading). deaf_set r.progress.plan) e) ∙ run_hears file h in
    subst (λ (r : Reading). Again run_kinds plan_reading file r.progress.plan) (sym e)
    (again run_reader file z plan_reading (back_new run_reader file z d))

pub round_trip : (file : List ℕ) → RoundTrip file
unfolding archive_reading
round_trip file = record {
  of_archive = λ h. again archive_reader file h archive_reading (back archive_reader file h);
  of_verdict = of_plans file;
  of_run = of_runs file;
}
