-- `play` meets its contract: what is raised, noted and, but for the source, decided, one after the other, is the rule's step. Assumes nothing.
use Prim.Native.Nat.{ℕ, ◌+◌}
use mathlib.Core.Path.{◌≡◌, sym, ap, ◌∙◌, subst}
use mathlib.Core.List.{List, map}
use lib.ListN.{get_or}
use Rattle.sets.specs.Sets.{mem}
use Rattle.terminal.specs.declared.Record.{Record}
use Rattle.terminal.specs.Rule.{noted, chosen, held_by, taking}
use Rattle.terminal.specs.Shown.{spoken_in, Whole, notes_over}
use Rattle.terminal.specs.Votes.{HavePlaces}
use Rattle.terminal.proofs.Shown.{over_whole}
use Rattle.terminal.proofs.Noting.{noted_fits, other_shown, source_shown}
use Rattle.terminal.proofs.play.Goals as goal

-- the record that has noted
raised : (n heard : ℕ) (said : List ℕ) (before up x : Record)
    → up ≡ record { state = before.state; round = before.round + 1; notes = before.notes }
    → x ≡ record { state = up.state; round = up.round; notes = notes_over (λ j. mem j heard) up.notes (noted n (λ j. mem j heard) (λ j. get_or said j 0) (map spoken_in up.notes)) }
    → x ≡ record {
      state = before.state;
      round = before.round + 1;
      notes = notes_over (λ j. mem j heard) before.notes (noted n (λ j. mem j heard) (λ j. get_or said j 0) (map spoken_in before.notes));
    }
raised n heard said before up x e h =
    h
    ∙ ap
    (λ (y : Record).
    record {
      state = y.state;
      round = y.round;
      notes = notes_over (λ j. mem j heard) y.notes (noted n (λ j. mem j heard) (λ j. get_or said j 0) (map spoken_in y.notes));
    })
    e

pub returns-then-own-source : goal.returns-then-own-source
returns-then-own-source c =
    let a = c.args in
    let p = c.requires in
    source_shown a.n a.source a.bound a.own a.heard (λ j. get_or a.said.now j 0) a.before p.4 p.5 c.if-own-source.true c.note-heard_all.result (raised a.n a.heard a.said.now a.before c.advance.result c.note-heard_all.result c.advance.ensures c.note-heard_all.ensures)

pub decide-requires : goal.decide-requires
decide-requires c =
    let a = c.args in
    let p = c.requires in
    let q = ap (λ (r : Record). r.notes) (raised a.n a.heard a.said.now a.before c.advance.result c.note-heard_all.result c.advance.ensures c.note-heard_all.ensures) in (
      p.0,
      p.1,
      subst Whole (sym q) (over_whole _ _ _ p.4),
      subst (HavePlaces a.heard) (sym q) (noted_fits a.heard a.before.notes p.4 p.5 _ _),
    )

pub returns : goal.returns
returns c =
    let a = c.args in
    let p = c.requires in
    other_shown a.n a.source a.bound a.own a.heard (λ j. get_or a.said.now j 0) a.before p.4 p.5 c.if-own-source.false c.decide.result
    (c.decide.ensures
    ∙ ap
    (λ (x : Record).
    record {
      state = taking x.round x.state (chosen a.n a.source a.bound a.heard (map spoken_in x.notes) (held_by x.state));
      round = x.round;
      notes = x.notes;
    })
    (raised a.n a.heard a.said.now a.before c.advance.result c.note-heard_all.result c.advance.ensures c.note-heard_all.ensures))
