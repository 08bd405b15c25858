-- Each return is the least of its part, and each call is given a narrower part. Assumes nothing.
use mathlib.Core.Path.{sym, ◌∙◌}
use native.Mathlib.Omega.{arith}
use Rattle.partition.proofs.Parts.{all_low, all_fault, all_part, all_fewer, meets, no_better, takes, widens}
use Rattle.partition.proofs.Parts.{no_hope, none_left, part_without, without_less, part_with, with_less, both}
use Rattle.partition.proofs.branch.+inside_split.Goals as goal

pub inside-returns-then-all-out-ne0 : goal.inside-returns-then-all-out-ne0
inside-returns-then-all-out-ne0 t c = meets c.requires c.spread-all.ensures _ c.if-all-out-ne0.true

pub inside-key-own-requires : goal.inside-key-own-requires
inside-key-own-requires t c = all_low c.requires c.spread-all.ensures

pub inside-returns-then-best-own : goal.inside-returns-then-best-own
inside-returns-then-best-own t c = no_better c.requires c.spread-all.ensures _ _ c.key-own.ensures c.if-best-own.true

pub inside-defeats-requires : goal.inside-defeats-requires
inside-defeats-requires t c =
    all_fault c.requires c.spread-all.ensures c.if-all-out-ne0.false

pub inside-returns-then-defeats : goal.inside-returns-then-defeats
inside-returns-then-defeats t c =
    takes c.requires c.spread-all.ensures _ _ c.key-own.ensures c.if-best-own.false (sym c.defeats.ensures ∙ c.if-defeats.true)

pub inside-split-requires : goal.inside-split-requires
inside-split-requires t c =
    let part = c.requires in
    let all = c.spread-all.ensures in
    let l = all_fewer part all in
    (omega arith, (all_part part all, sym c.defeats.ensures ∙ c.if-defeats.false))

pub inside-returns : goal.inside-returns
inside-returns t c = widens c.requires c.spread-all.ensures c.split.ensures

pub split-returns-then-hopeless : goal.split-returns-then-hopeless
split-returns-then-hopeless t c = no_hope c.requires.0 c.settled-sure.ensures _ (c.hopeless.ensures c.if-hopeless.true)

pub split-returns-then-free-eq0 : goal.split-returns-then-free-eq0
split-returns-then-free-eq0 t c =
    none_left c.requires.0 _ _ c.requires.1 c.outside-free.ensures c.if-free-eq0.true

pub split-split-first-requires : goal.split-split-first-requires
split-split-first-requires t c =
    let given = c.requires in
    let free = c.outside-free.ensures in
    let l = without_less given.0 _ _ free c.chosen-b.ensures _ c.with.ensures in
    (omega arith, (part_without given.0 _ _ free c.chosen-b.ensures _ c.with.ensures c.settled-sure.ensures, given.1))

pub split-inside-requires : goal.split-inside-requires
split-inside-requires t c =
    let part = c.requires.0 in
    let free = c.outside-free.ensures in
    let one = c.chosen-b.ensures in
    let l = with_less part _ _ free one _ c.with-2.ensures in
    (omega arith, part_with part _ _ free one _ c.with-2.ensures c.settled-sure.ensures)

pub split-returns : goal.split-returns
split-returns t c =
    both c.requires.0 _ _ c.outside-free.ensures c.chosen-b.ensures _ _ c.with.ensures c.with-2.ensures
    c.split-first.ensures c.inside.ensures
