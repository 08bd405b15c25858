-- The step on the notices that were said, and for whoever hears the source in round 1 its word. Assumes nothing.
use Prim.Native.Nat.{ℕ, ◌≤◌}
use mathlib.Core.Path.{◌≡◌, sym, ap, ◌∙◌}
use mathlib.Core.List.{List}
use lib.ListN.{length, get_or, take}
use Rattle.sets.specs.Sets.{mem}
use Rattle.sets.specs.Tables.{table}
use Rattle.quorum.specs.declared.Bound.{Bound}
use Rattle.quorum.specs.Notice.{notice_of, first_edition}
use Rattle.terminal.specs.declared.Record.{Record}
use Rattle.terminal.specs.declared.State.TheVariants.{Taken}
use Rattle.terminal.specs.Rule.{step}
use Rattle.terminal.specs.Shown.{view_of, shown_over}
use Rattle.terminal.specs.Channel.{first_hearing}
use Rattle.terminal.proofs.SharedChannel.{notices_said, first_shown, else_shown}
use Rattle.terminal.proofs.channel.play_shared.Goals as goal

-- what the step leaves
stepped : (n source : ℕ) (bound : Bound) (own heard : ℕ) (before : Record) (said all : List ℕ) (x : Record)
    → n ≤ 20 → length said ≡ n
    → all ≡ table 20 (λ j. first_edition (get_or said j 0))
    → x ≡ shown_over (λ j. mem j heard) before (step n source bound own heard (λ j. get_or (take n all) j 0) (view_of before))
    → x ≡ shown_over (λ j. mem j heard) before (step n source bound own heard (λ j. first_edition (get_or said j 0)) (view_of before))
stepped n source bound own heard before said all x small long e h =
    h
    ∙ ap (λ (l : List ℕ). shown_over (λ j. mem j heard) before (step n source bound own heard (λ j. get_or (take n l) j 0) (view_of before))) e
    ∙ ap (λ (f : ℕ → ℕ). shown_over (λ j. mem j heard) before (step n source bound own heard f (view_of before))) (notices_said n small said long)

pub returns-then-first_hearing : goal.returns-then-first_hearing
returns-then-first_hearing c =
    let a = c.args in
    let x = c.play-after.result in
    ap (λ (w : ℕ). record { state = Taken x.round w; round = x.round; notes = x.notes }) (c.notice_of.ensures ∙ ap (notice_of 1) c.word_or-layout.ensures)
    ∙ first_shown a.n a.source a.bound a.own a.heard a.default a.before (λ j. get_or a.said.now j 0) x
    (stepped a.n a.source a.bound a.own a.heard a.before a.said.now c.notices-all.result x c.requires.0 c.requires.2 c.notices-all.ensures c.play-after.ensures)
    (ap (first_hearing a.before.state a.before.round) (sym c.member.ensures) ∙ sym c.first_hearing.ensures ∙ c.if-first_hearing.true)

pub returns-else-first_hearing : goal.returns-else-first_hearing
returns-else-first_hearing c =
    let a = c.args in
    let x = c.play-after.result in
    else_shown a.n a.source a.bound a.own a.heard a.default a.before (λ j. get_or a.said.now j 0) x
    (stepped a.n a.source a.bound a.own a.heard a.before a.said.now c.notices-all.result x c.requires.0 c.requires.2 c.notices-all.ensures c.play-after.ensures)
    (ap (first_hearing a.before.state a.before.round) (sym c.member.ensures) ∙ sym c.first_hearing.ensures ∙ c.if-first_hearing.false)
