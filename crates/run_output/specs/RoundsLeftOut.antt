-- The claim about a start without its rounds byte (document 02, P2), of what `run` prints on files without a later notice: an overtaken notice may never
-- finish (document 02, P8). Assumes nothing.
use Rattle.std.specs.Prelude.{ℕ, ◌-◌, ◌≡◌, Bool, true, not, None, List, [], ◌∷◌, eqb}
use Rattle.sets.specs.Tests.{◌and◌}
use Rattle.closure.specs.Verdict.{verdict}
use Rattle.lines.specs.declared.Form.{Form}
use Rattle.lines.specs.declared.Frame.TheVariants.{Start}
use Rattle.lines.specs.Bytes.{byte_at}
use Rattle.frames.specs.Lines.{Line, ended, cut, lines_from}
use Rattle.frames.specs.Reading.{run_kinds, run_reading}
use Rattle.frames.specs.Tells.{Tells, NoLater}

-- an accepted file whose start has no rounds byte
abbrev pub LeavesRoundsOut : (file : List ℕ) → Type 0
LeavesRoundsOut file =
    ((run_reading file).number ≡ 0) × ((form : Form) × (edition : ℕ) × (layout : ℕ) × Tells run_kinds (Start form edition layout None) (lines_from [] file))

-- the state that a line of the output says, 00 for waiting: its third byte, after the kind and the terminal's number
unfoldable pub state_said : Line → ℕ
state_said (ended line) = byte_at line 2
state_said (cut line) = byte_at line 2

-- no line says that a terminal waits
unfoldable pub none_waits : List Line → Bool
none_waits [] = true
none_waits (line ∷ rest) = not (eqb (state_said line) 0) and none_waits rest

-- n - 1 rounds are played, and where the plan passes and the office issues nothing later, no line of what is printed says that a terminal waits
pub record RoundsLeftOut (file printed : List ℕ) : Type 0 where
  pub rounds : LeavesRoundsOut file → (run_reading file).progress.rounds ≡ (run_reading file).progress.plan.n - 1
  pub none_waits : LeavesRoundsOut file → NoLater run_kinds (lines_from [] file) → (verdict (run_reading file).progress.plan).passed ≡ true → none_waits (lines_from [] printed) ≡ true
