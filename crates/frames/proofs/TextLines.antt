-- The lines of a text that is put together: bytes without a line end, then byte 10. Assumes nothing.
use Prim.Native.Nat.{ℕ}
use mathlib.Core.Path.{◌≡◌, refl, sym, ap, ◌∙◌}
use mathlib.Core.Bool.{true, not}
use mathlib.Core.List.{List, [], ◌∷◌, ◌++◌, append-nil}
use lib.Dec.{eqb}
use lib.Seq.{append_snoc}
use Rattle.sets.proofs.Bools.{and_l, and_r, not_e, pick_yes, pick_no, every}
use Rattle.frames.specs.Lines.{ended, lines_from}

-- one line that is ended
pub line_of : (line bytes rest : List ℕ) → every (λ b. not (eqb b 10)) bytes ≡ true
    → lines_from line (bytes ++ 10 ∷ rest) ≡ ended (line ++ bytes) ∷ lines_from [] rest
unfolding lines_from every
line_of line [] rest h = pick_yes _ _ _ refl ∙ ap (λ (l : List ℕ). ended l ∷ lines_from [] rest) (sym (append-nil line))
line_of line (b ∷ bytes) rest h =
    pick_no _ _ _ (not_e (eqb b 10) (and_l _ _ h))
    ∙ line_of (line ++ (b ∷ [])) bytes rest (and_r _ _ h)
    ∙ ap (λ (l : List ℕ). ended l ∷ lines_from [] rest) (append_snoc line b bytes)
