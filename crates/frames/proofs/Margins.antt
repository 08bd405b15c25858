-- The reader of margins beside that of new plans, and the plans that it reads. Assumes nothing.
use Prim.Native.Nat.{ℕ}
use mathlib.Core.Bool.{false}
use mathlib.Core.List.{List}
use Rattle.frames.specs.Reading.{plan_reading, margins_reading}
use Rattle.frames.specs.Margins.{Measuring}
use Rattle.frames.proofs.Groupless.{text_grouped, text_alike, text_bounded}

pub measuring : (text : List ℕ) → Measuring text
unfolding plan_reading margins_reading
measuring text = record { grouped = text_grouped false text; alike = text_alike false text; bounded = text_bounded false text }
