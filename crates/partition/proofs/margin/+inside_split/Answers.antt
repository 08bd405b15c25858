-- Each return is the least of its part, and each call is given a narrower part. Assumes nothing.
use native.Mathlib.Omega.{arith}
use Rattle.partition.proofs.Parts.{all_part, all_fewer, part_without, without_less, part_with, with_less}
use Rattle.partition.proofs.Lows.{and_below, shut_part, shut_fewer, meets_low, seen_now, low_inside, none_free, none_hopeful, seen_first, both_low}
use Rattle.partition.proofs.margin.+inside_split.Goals as goal

pub inside-returns-then-all-out-ne0 : goal.inside-returns-then-all-out-ne0
inside-returns-then-all-out-ne0 t c =
    let given = c.requires in meets_low given.0 _ given.1 _ c.spread-all.ensures c.if-all-out-ne0.true

pub inside-split-requires : goal.inside-split-requires
inside-split-requires t c =
    let given = c.requires in
    let all = c.spread-all.ensures in
    let l = all_fewer given.0 all in (
      omega arith,
      (
        all_part given.0 all,
        and_below _ _ _ given.1,
        seen_now given.0 _ given.1 c.args.counts all c.if-all-out-ne0.false _ c.reach-l.ensures c.lowered-now.result c.lowered-now.ensures,
      ),
    )

pub inside-returns : goal.inside-returns
inside-returns t c =
    let given = c.requires in
    low_inside given.0 _ given.1 _ c.spread-all.ensures c.if-all-out-ne0.false _ c.reach-l.ensures _ c.lowered-now.ensures
    c.split.ensures

pub split-returns-then-left-eq0 : goal.split-returns-then-left-eq0
split-returns-then-left-eq0 t c =
    let given = c.requires in
    none_hopeful given.0 _ given.1 _ given.2 c.barred-shut.ensures c.settled-sure.ensures _ c.hopeful.ensures c.if-left-eq0.true

pub split-returns-then-free-eq0 : goal.split-returns-then-free-eq0
split-returns-then-free-eq0 t c =
    let given = c.requires in
    none_free given.0 _ given.1 _ given.2 c.barred-shut.ensures _ c.outside-free.ensures c.if-free-eq0.true

pub split-inside-first-requires : goal.split-inside-first-requires
split-inside-first-requires t c =
    let given = c.requires in
    let bar = c.barred-shut.ensures in
    let shut = shut_part given.0 bar in
    let free = c.outside-free.ensures in
    let one = c.chosen-b.ensures in
    let l = with_less shut _ _ free one _ c.with.ensures in
    let m = shut_fewer given.0 bar in
    (omega arith, (part_with shut _ _ free one _ c.with.ensures c.settled-sure.ensures, and_below _ _ _ given.1))

pub split-split-requires : goal.split-split-requires
split-split-requires t c =
    let given = c.requires in
    let bar = c.barred-shut.ensures in
    let shut = shut_part given.0 bar in
    let sure = c.settled-sure.ensures in
    let hope = c.hopeful.ensures in
    let free = c.outside-free.ensures in
    let one = c.chosen-b.ensures in
    let l = without_less shut _ _ free one _ c.with-2.ensures in
    let m = shut_fewer given.0 bar in (
      omega arith,
      (
        part_without shut _ _ free one _ c.with-2.ensures sure,
        and_below _ _ _ given.1,
        seen_first given.0 _ given.1 _ given.2 bar sure _ hope _ _ free one c.inside-first.ensures,
      ),
    )

pub split-returns : goal.split-returns
split-returns t c =
    let given = c.requires in
    both_low given.0 _ given.1 _ given.2 c.barred-shut.ensures c.settled-sure.ensures _ c.hopeful.ensures _ _
    c.outside-free.ensures c.chosen-b.ensures _ _ c.with.ensures c.with-2.ensures c.inside-first.ensures c.split.ensures
