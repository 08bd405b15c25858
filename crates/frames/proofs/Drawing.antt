-- The reader of drawings beside that of the archive, and the plans that it reads. Assumes nothing.
use Prim.Native.Nat.{ℕ}
use mathlib.Core.Bool.{true}
use mathlib.Core.List.{List}
use Rattle.frames.specs.Reading.{archive_reading, drawing_reading}
use Rattle.frames.specs.Drawing.{Drawn}
use Rattle.frames.proofs.Groupless.{text_grouped, text_alike, text_bounded}

pub drawn : (text : List ℕ) → Drawn text
unfolding archive_reading drawing_reading
drawn text = record { grouped = text_grouped true text; alike = text_alike true text; bounded = text_bounded true text }
