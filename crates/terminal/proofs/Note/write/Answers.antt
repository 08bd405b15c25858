-- `write` meets its contract: a layout more in the note's own edition, or a note of its own. Assumes nothing.
use Prim.Native.Nat.{ℕ, ◌+◌}
use mathlib.Core.Path.{sym, ap, ◌∙◌}
use lib.ListN.{set}
use Rattle.terminal.specs.declared.Note.{Note}
use Rattle.terminal.proofs.Shown.{written_word, written_wipe}
use Rattle.terminal.proofs.Note.write.Goals.{then-self-edition, else-self-edition}
use Rattle.terminal.proofs.Note.write.Goals as goal

abbrev added : ℕ → Note → Note
added layout note = record { edition = note.edition; count = note.count + 1; values = set note.values note.count layout }

pub returns : goal.returns
returns c =
    let a = c.args in
    let p = c.requires in
    let e = c.edition_of-edition.ensures in
    c.add.ensures
    ∙ elim c.if-self-edition.branch [
      | then-self-edition w ↦ ap (added c.layout_of.result) w.self-is
          ∙ (λ i. added (c.layout_of.ensures i) (record { edition = e i; count = (w.no_note.ensures i).count; values = (w.no_note.ensures i).values }))
          ∙ sym (written_wipe a.self.now p.1 a.said (λ z. w.if-self-edition.true (z ∙ sym e)))
      | else-self-edition w ↦ ap (added c.layout_of.result) w.self-is ∙ (λ i. added (c.layout_of.ensures i) a.self.now)
          ∙ sym (written_word a.self.now p.1 a.said p.0 (w.if-self-edition.false ∙ e))
    ]
