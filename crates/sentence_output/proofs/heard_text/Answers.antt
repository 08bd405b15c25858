-- What was found on the file, put into the list. Assumes nothing.
use Prim.Native.Nat.{ℕ, ◌<◌}
use mathlib.Core.Path.{refl, sym, ap, subst, ◌∙◌}
use lib.ListN.{length}
use Rattle.text.specs.Texts.{held, written_of}
use Rattle.wording.specs.Heard.{Told, refused}
use Rattle.sentence_output.specs.Entered.{number_of}
use Rattle.sentence_output.proofs.Entries.{in_small, answer_sets, answer_refused, accepted_line, entry_put}
use Rattle.sentence_output.proofs.heard_text.Goals as goal

pub returns-in-Ok : goal.returns-in-Ok
returns-in-Ok c = let e = c.in-Ok.ensures {u = tt} in
    let s = c.in-Ok.s in
    let small = subst (λ (t : Told). (t.f < 16777216) × (t.l < 16777216) × (t.r < 16777216)) (sym e) (in_small c.args.text.now) in
    let p = entry_put c.args.text.now c.args.out.now _ (record { number = 0; f = s.f; l = s.l; r = s.r }) _ _ _ _ e accepted_line (answer_sets s.f s.l s.r small c.line.ensures) refl c.accepted.ensures.out_after c.accepted.ensures.value in
    record { value = p.0; out_after = p.1 }

pub returns-in-Err : goal.returns-in-Err
returns-in-Err c = let e = c.in-Err.e in
    let p = entry_put c.args.text.now c.args.out.now _ (refused (number_of e)) _ _ _ _ (c.in-Err.ensures {u = tt}) c.line_of-line.ensures (answer_refused e c.from-number.ensures c.line_of-line.ensures c.refusal.ensures) (c.put.ensures.value ∙ ap (λ (k : ℕ). written_of k (length (held c.refusal.result)) (length c.args.out.now)) c.from-number.ensures) c.put.ensures.out_after c.on_line.ensures in
    record { value = p.0; out_after = p.1 }
