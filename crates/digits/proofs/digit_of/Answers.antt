-- Each arm's key is a case of the table; the last arm has none of them. Assumes nothing.
use mathlib.Core.Path.{sym, ap}
use Rattle.sets.specs.Tests.{pick}
use Rattle.digits.specs.Digits.{sixteen, by_case, digit_of}
use Rattle.digits.proofs.Laws.{by_none}
use Rattle.digits.proofs.digit_of.Goals as goal

pub returns-in-48 : goal.returns-in-48
unfolding digit_of by_case sixteen pick
returns-in-48 c = sym (ap digit_of c.in-48.is)

pub returns-in-49 : goal.returns-in-49
unfolding digit_of by_case sixteen pick
returns-in-49 c = sym (ap digit_of c.in-49.is)

pub returns-in-50 : goal.returns-in-50
unfolding digit_of by_case sixteen pick
returns-in-50 c = sym (ap digit_of c.in-50.is)

pub returns-in-51 : goal.returns-in-51
unfolding digit_of by_case sixteen pick
returns-in-51 c = sym (ap digit_of c.in-51.is)

pub returns-in-52 : goal.returns-in-52
unfolding digit_of by_case sixteen pick
returns-in-52 c = sym (ap digit_of c.in-52.is)

pub returns-in-53 : goal.returns-in-53
unfolding digit_of by_case sixteen pick
returns-in-53 c = sym (ap digit_of c.in-53.is)

pub returns-in-54 : goal.returns-in-54
unfolding digit_of by_case sixteen pick
returns-in-54 c = sym (ap digit_of c.in-54.is)

pub returns-in-55 : goal.returns-in-55
unfolding digit_of by_case sixteen pick
returns-in-55 c = sym (ap digit_of c.in-55.is)

pub returns-in-56 : goal.returns-in-56
unfolding digit_of by_case sixteen pick
returns-in-56 c = sym (ap digit_of c.in-56.is)

pub returns-in-57 : goal.returns-in-57
unfolding digit_of by_case sixteen pick
returns-in-57 c = sym (ap digit_of c.in-57.is)

pub returns-in-97 : goal.returns-in-97
unfolding digit_of by_case sixteen pick
returns-in-97 c = sym (ap digit_of c.in-97.is)

pub returns-in-98 : goal.returns-in-98
unfolding digit_of by_case sixteen pick
returns-in-98 c = sym (ap digit_of c.in-98.is)

pub returns-in-99 : goal.returns-in-99
unfolding digit_of by_case sixteen pick
returns-in-99 c = sym (ap digit_of c.in-99.is)

pub returns-in-100 : goal.returns-in-100
unfolding digit_of by_case sixteen pick
returns-in-100 c = sym (ap digit_of c.in-100.is)

pub returns-in-101 : goal.returns-in-101
unfolding digit_of by_case sixteen pick
returns-in-101 c = sym (ap digit_of c.in-101.is)

pub returns-in-102 : goal.returns-in-102
unfolding digit_of by_case sixteen pick
returns-in-102 c = sym (ap digit_of c.in-102.is)

pub returns-in_default : goal.returns-in_default
unfolding digit_of sixteen
returns-in_default c = sym (by_none _ _ _ sixteen Unit _ c.in_default.in_default-own.rest)
