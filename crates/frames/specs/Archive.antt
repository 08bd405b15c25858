-- The reader of new plans beside that of the archive (document 02, P6). Assumes nothing.
use Rattle.std.specs.Prelude.{◌≡◌, ◌⊎◌}
use Rattle.plan.specs.Deaf.{deaf_set}
use Rattle.frames.specs.Reading.{Reading, refusal}

-- of one file: where the archive accepts and nobody is deaf, the new reader reads the same; where somebody is, it answers 15 with line 0; where the
-- archive refuses, it gives the same number and line, or 15 with line 0
pub record Beside (archive new : Reading) : Type 0 where
  pub nobody_deaf : archive.number ≡ 0 → deaf_set archive.progress.plan ≡ 0 → new ≡ archive
  pub somebody_deaf : archive.number ≡ 0 → (deaf_set archive.progress.plan ≡ 0 → ⊥) → new ≡ refusal 15 0
  pub refused : (archive.number ≡ 0 → ⊥) → (new ≡ archive) ⊎ (new ≡ refusal 15 0)
