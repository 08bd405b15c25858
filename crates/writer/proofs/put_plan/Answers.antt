use Prim.Native.Nat.{ℕ, ◌≤◌}
use mathlib.Core.Path.{sym, subst}
use native.Mathlib.Omega.{arith}
use Rattle.plan.proofs.Laws.{sound}
use Rattle.writer.proofs.Lines.{links_length}
use Rattle.writer.proofs.Laws.{sound_listed}
use Rattle.writer.proofs.ReadBack.{byte_low}
use Rattle.writer.proofs.WriteLaws.{short, done, counted}
use Rattle.writer.proofs.put_plan.Goals as goal

pub overflow_add-groups_at : goal.overflow_add-groups_at
overflow_add-groups_at c = omega (arith, links_length c.args.p 400 0)

pub overflow_mul-len : goal.overflow_mul-len
overflow_mul-len c = let l : c.listed.result ≤ 16 = subst (λ (n : ℕ). n ≤ 16) (sym c.listed.ensures) (sound_listed _ c.requires) in omega arith

pub overflow_add-len : goal.overflow_add-len
overflow_add-len c = let l : c.listed.result ≤ 16 = subst (λ (n : ℕ). n ≤ 16) (sym c.listed.ensures) (sound_listed _ c.requires) in omega (arith, links_length c.args.p 400 0)

pub put_head-requires : goal.put_head-requires
put_head-requires c = let a = c.args in let s = sound a.p c.requires in let low = byte_low a.p.bound.kind a.p.n s.twenty s.f_below in let t = s.twenty in let b = s.source_below in (omega arith, omega arith, omega arith, low)

pub returns-then-len-out : goal.returns-then-len-out
returns-then-len-out c = let a = c.args in record {
  value = counted _ _ _ _ _ c.links_len-groups_at.ensures c.listed.ensures c.answer-written.ensures;
  out_after = done a.p a.out.now _ _ _ c.links_len-groups_at.result c.listed.result c.links_len-groups_at.ensures c.listed.ensures c.if-len-out.true c.put_head.ensures c.put_links.ensures c.put_groups.ensures;
}

pub returns-else-len-out : goal.returns-else-len-out
returns-else-len-out c = record {
  value = counted _ _ _ _ _ c.links_len-groups_at.ensures c.listed.ensures c.answer-written.ensures;
  out_after = short c.args.p _ _ _ c.links_len-groups_at.ensures c.listed.ensures c.if-len-out.false;
}
