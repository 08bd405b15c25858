-- Each arm's key is a case of the table; the last arm has none of them. Assumes nothing.
use mathlib.Core.Path.{sym, ap}
use Rattle.sets.specs.Tests.{pick}
use Rattle.digits.specs.Digits.{sixteen, by_case, character_of}
use Rattle.digits.proofs.Laws.{by_none}
use Rattle.digits.proofs.character_of.Goals as goal

pub returns-in-0 : goal.returns-in-0
unfolding character_of by_case sixteen pick
returns-in-0 c = sym (ap character_of c.in-0.is)

pub returns-in-1 : goal.returns-in-1
unfolding character_of by_case sixteen pick
returns-in-1 c = sym (ap character_of c.in-1.is)

pub returns-in-2 : goal.returns-in-2
unfolding character_of by_case sixteen pick
returns-in-2 c = sym (ap character_of c.in-2.is)

pub returns-in-3 : goal.returns-in-3
unfolding character_of by_case sixteen pick
returns-in-3 c = sym (ap character_of c.in-3.is)

pub returns-in-4 : goal.returns-in-4
unfolding character_of by_case sixteen pick
returns-in-4 c = sym (ap character_of c.in-4.is)

pub returns-in-5 : goal.returns-in-5
unfolding character_of by_case sixteen pick
returns-in-5 c = sym (ap character_of c.in-5.is)

pub returns-in-6 : goal.returns-in-6
unfolding character_of by_case sixteen pick
returns-in-6 c = sym (ap character_of c.in-6.is)

pub returns-in-7 : goal.returns-in-7
unfolding character_of by_case sixteen pick
returns-in-7 c = sym (ap character_of c.in-7.is)

pub returns-in-8 : goal.returns-in-8
unfolding character_of by_case sixteen pick
returns-in-8 c = sym (ap character_of c.in-8.is)

pub returns-in-9 : goal.returns-in-9
unfolding character_of by_case sixteen pick
returns-in-9 c = sym (ap character_of c.in-9.is)

pub returns-in-10 : goal.returns-in-10
unfolding character_of by_case sixteen pick
returns-in-10 c = sym (ap character_of c.in-10.is)

pub returns-in-11 : goal.returns-in-11
unfolding character_of by_case sixteen pick
returns-in-11 c = sym (ap character_of c.in-11.is)

pub returns-in-12 : goal.returns-in-12
unfolding character_of by_case sixteen pick
returns-in-12 c = sym (ap character_of c.in-12.is)

pub returns-in-13 : goal.returns-in-13
unfolding character_of by_case sixteen pick
returns-in-13 c = sym (ap character_of c.in-13.is)

pub returns-in-14 : goal.returns-in-14
unfolding character_of by_case sixteen pick
returns-in-14 c = sym (ap character_of c.in-14.is)

pub returns-in-15 : goal.returns-in-15
unfolding character_of by_case sixteen pick
returns-in-15 c = sym (ap character_of c.in-15.is)

pub returns-in_default : goal.returns-in_default
unfolding character_of sixteen
returns-in_default c = sym (by_none _ _ _ sixteen Unit _ c.in_default.in_default-own.rest)
