use Prim.Native.Nat.{ℕ, ◌+◌, ◌<◌}
use mathlib.Core.Path.{◌≡◌, sym, ap, ◌∙◌, subst}
use mathlib.Core.Bool.{Bool}
use native.Mathlib.Nat.{le_refl}
use native.Mathlib.Omega.{arith}
use lib.ListN.{length, get_or}
use Rattle.terminal.specs.declared.Note.{Note}
use Rattle.terminal.specs.Rule.{is_new}
use Rattle.terminal.specs.Shown.{note_of, spoken_in}
use Rattle.terminal.proofs.Values.{new_heard}
use Rattle.terminal.proofs.Noting.{NotedBelow, noting_new, noting_old, noting_ends}
use Rattle.terminal.proofs.Record.note.Goals.{then-is_new, else-is_new}
use Rattle.terminal.proofs.Record.note.Goals as goal

pub write-requires : goal.write-requires
write-requires c =
    let p = c.requires in
    let turn = c.loop-j in
    let h = new_heard c.member.result (spoken_in (note_of turn.self.notes turn.j)) _ (sym c.is_new.ensures ∙ c.if-is_new.true) in
    let e : note_of turn.self.notes turn.j ≡ note_of c.args.self.notes turn.j = turn.invariant.rest turn.j (le_refl turn.j) in
    let l : (note_of c.args.self.notes turn.j).count < 40 = p.3 turn.j (sym c.member.ensures ∙ h) in
    let n20 = p.0 in
    (omega (arith, ap (λ (m : Note). m.count) e), ap (λ (m : Note). length m.values) e ∙ p.2.forty turn.j (omega arith))

pub loop-j-preserved : goal.loop-j-preserved
loop-j-preserved c =
    let a = c.args in
    let l = c.loop-j in
    let p = c.requires in
    let small : l.j < 20 = let n20 = p.0 in let k = c.loop-j-test.true in omega arith in
    let said : ℕ → ℕ = λ i. get_or a.said.now i 0 in
    let told = ap (λ (b : Bool). is_new b (spoken_in (note_of l.self.notes l.j)) (said l.j)) (sym c.member.ensures) ∙ sym c.is_new.ensures in
    elim c.if-is_new.branch [
      | then-is_new w ↦ subst (NotedBelow a.heard said a.self (l.j + 1)) (sym w.self-is)
          (noting_new _ _ _ l.j l.self l.invariant small w.write.new.self (told ∙ w.if-is_new.true) w.write.ensures)
      | else-is_new w ↦ subst (NotedBelow a.heard said a.self (l.j + 1)) (sym w.self-is)
          (noting_old _ _ _ l.j l.self l.invariant small (told ∙ w.if-is_new.false))
    ]

pub returns : goal.returns
returns c =
    let a = c.args in
    let l = c.loop-j in
    let p = c.requires in
    let e : a.n ≡ l.j = omega arith in
    rw e (noting_ends _ _ a.self l.j l.self l.invariant p.2 p.3)
