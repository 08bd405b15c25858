use mathlib.Core.Path.{sym}
use Rattle.writer.proofs.WriteLaws.{written_sound, written_unsound}
use Rattle.writer.proofs.write_plan.Goals as goal

pub returns-in-Ok : goal.returns-in-Ok
returns-in-Ok c = let e = c.put_plan.ensures in
    let p = written_sound c.args.p c.put_plan.result c.args.out.now c.put_plan.new.out (sym c.in-Ok.ensures) e.value e.out_after in
    record { value = p.0; out_after = p.1 }

pub returns-in-Err : goal.returns-in-Err
returns-in-Err c = let p = written_unsound c.args.p c.args.out.now c.in-Err.e _ c.in-Err.ensures c.from.ensures in
    record { value = p.0; out_after = p.1 }
