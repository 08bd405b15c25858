-- What `rewrite` prints on any file: its plan written anew, as the archive opens it (document 02, P6). Assumes nothing.
use Rattle.std.specs.Prelude.{ℕ, List}
use Rattle.frames.specs.Reading.{FileRead, archive_reading, file_read}
use Rattle.writer.specs.Written.{plan_text}
use Rattle.output.specs.OnFile.{text_on}

unfoldable pub rewritten_on : (read : FileRead) → List ℕ
rewritten_on read = text_on read (plan_text read.progress.plan)

unfoldable pub rewritten_text : (file : List ℕ) → List ℕ
rewritten_text file = rewritten_on (file_read (archive_reading file))
