-- The plan tells which it is. Assumes nothing.
use mathlib.Core.Path.{sym, ◌∙◌}
use native.Mathlib.Omega.{arith}
use mir.Syntax.{w32}
use mir.Facts.{to_z-of_z}
use Rattle.plan.proofs.Laws.{sound}
use Rattle.partition.proofs.Rows.{direct_mem}
use Rattle.partition.proofs.Sheets.{stands_absent, stands_source, stands_direct_lem, stands_margin, has_margin_lem, margin_by, fewest_few}
use Rattle.partition.proofs.standings.standing.Goals as goal

pub returns-then-site-b : goal.returns-then-site-b
returns-then-site-b c = stands_absent _ _ c.if-site-b.true

pub returns-then-b-site : goal.returns-then-b-site
returns-then-b-site c = stands_source _ _ c.if-site-b.false c.if-b-site.true

pub returns-then-member : goal.returns-then-member
returns-then-member c = let g = c.requires in let k = c.if-site-b.false in stands_direct_lem _ _ k c.if-b-site.false (sym (direct_mem _ (sound _ c.args.site.now.sound) _ _ c.args.site.now.hearers_are k) ∙ sym c.member.ensures ∙ c.if-member.true)

pub difference-requires : goal.difference-requires
difference-requires c = let g = c.requires in let k = c.if-site-b.false in let z = c.if-b-site.false in let s = sound _ c.args.site.now.sound in let e = g.1 k (has_margin_lem _ _ k z (sym (direct_mem _ s _ _ c.args.site.now.hearers_are k) ∙ sym c.member.ensures ∙ c.if-member.false)) in let t = s.twenty in let l = s.f_below _ g.0 in (omega arith, omega (arith, fewest_few c.args.site.now.plan c.args.b))

pub returns : goal.returns
returns c = let g = c.requires in let k = c.if-site-b.false in let z = c.if-b-site.false in let s = sound _ c.args.site.now.sound in let h = sym (direct_mem _ s _ _ c.args.site.now.hearers_are k) ∙ sym c.member.ensures ∙ c.if-member.false in stands_margin _ _ k z h _ (margin_by _ _ _ _ _ g.0 (g.1 k (has_margin_lem _ _ k z h)) (to_z-of_z {w = w32} (record { sfits = c.difference.type_inv }) ∙ c.difference.ensures))
