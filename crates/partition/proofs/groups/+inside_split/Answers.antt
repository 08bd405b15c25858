-- Each return is the least of its part, and each call is given a narrower part. Assumes nothing.
use mathlib.Core.Path.{sym, ◌∙◌}
use native.Mathlib.Omega.{arith}
use Rattle.quorum.specs.Quorum.{group_at}
use Rattle.partition.proofs.Members.{key_low}
use Rattle.partition.proofs.Cuts.{inn_low_twenty, no_sooner, own_defeats, one_more, none_free, both_below, done_with, no_hope_left}
use Rattle.partition.proofs.Cuts.{cutting_without, left_without, cutting_with, left_with, both_halves, earlier_still}
use Rattle.partition.proofs.groups.+inside_split.Goals as goal

pub inside-key-own-requires : goal.inside-key-own-requires
inside-key-own-requires t c = inn_low_twenty c.requires.0

pub inside-returns-then-best-own : goal.inside-returns-then-best-own
inside-returns-then-best-own t c = no_sooner c.requires.0 _ _ c.key-own.ensures c.if-best-own.true

pub inside-returns-then-defeats : goal.inside-returns-then-defeats
inside-returns-then-defeats t c =
    own_defeats c.requires.0 _ _ c.key-own.ensures c.if-best-own.false (sym c.defeats.ensures ∙ c.if-defeats.true)

pub split-key-requires : goal.split-key-requires
split-key-requires t c = inn_low_twenty c.requires.0

pub split-overflow_add-key : goal.split-overflow_add-key
split-overflow_add-key t c = let l = key_low _ (inn_low_twenty c.requires.0) in omega (arith, c.key.ensures)

pub split-returns-then-best-key : goal.split-returns-then-best-key
split-returns-then-best-key t c =
    let given = c.requires in one_more given.0 given.1 _ _ c.key.ensures c.if-best-key.true

pub split-returns-then-free-eq0 : goal.split-returns-then-free-eq0
split-returns-then-free-eq0 t c =
    let given = c.requires in none_free given.0 given.1 _ _ c.outside-free.ensures c.if-free-eq0.true

pub split-returns-then-part_of_earlier : goal.split-returns-then-part_of_earlier
unfolding group_at
split-returns-then-part_of_earlier t c =
    let given = c.requires in
    done_with given.0 _ c.outside-free.ensures _ _ given.2 (c.part_of_earlier.ensures c.if-part_of_earlier.true)

pub split-still_hopeful-left-requires : goal.split-still_hopeful-left-requires
split-still_hopeful-left-requires t c =
    let part = c.requires.0 in (both_below part _ c.outside-free.ensures, part.hopeful_below)

pub split-returns-then-left-eq0 : goal.split-returns-then-left-eq0
split-returns-then-left-eq0 t c =
    no_hope_left c.requires.0 _ c.outside-free.ensures _ c.still_hopeful-left.ensures _ c.if-left-eq0.true

pub split-split-first-requires : goal.split-split-first-requires
split-split-first-requires t c =
    let given = c.requires in
    let free = c.outside-free.ensures in
    let left = c.still_hopeful-left.ensures in
    let one = c.narrowed.ensures.inside _ c.highest-c.ensures in
    let l = left_without given.0 _ free _ left _ one _ c.with.ensures in
    (omega arith, (cutting_without given.0 _ free _ left _ one _ c.with.ensures, given.1, given.2, given.3))

pub split-inside-requires : goal.split-inside-requires
split-inside-requires t c =
    let given = c.requires in
    let free = c.outside-free.ensures in
    let left = c.still_hopeful-left.ensures in
    let one = c.narrowed.ensures.inside _ c.highest-c.ensures in
    let l = left_with given.0 _ free _ left _ one _ c.with-2.ensures in
    (omega arith, (cutting_with given.0 _ free _ left _ one _ c.with-2.ensures, earlier_still given.2 c.split-first.ensures, given.3))

pub split-returns : goal.split-returns
split-returns t c =
    let one = c.narrowed.ensures.inside _ c.highest-c.ensures in
    both_halves c.requires.0 _ c.outside-free.ensures _ c.still_hopeful-left.ensures _ one _ _ c.with.ensures c.with-2.ensures
    c.split-first.ensures c.inside.ensures
