-- The kind picks the definition's case. Assumes nothing.
use Rattle.sets.specs.Tests.{pick}
use Rattle.lines.specs.Frames.{kind_of}
use Rattle.lines.proofs.kind_of.Goals as goal

pub returns-in-1 : goal.returns-in-1
unfolding kind_of pick
returns-in-1 c = rw c.in-1.is c.head_of.ensures

pub returns-in-2 : goal.returns-in-2
unfolding kind_of pick
returns-in-2 c = rw c.in-2.is c.link_of.ensures

pub returns-in-3 : goal.returns-in-3
unfolding kind_of pick
returns-in-3 c = rw c.in-3.is c.fault_set_of.ensures

pub returns-in-4 : goal.returns-in-4
unfolding kind_of pick
returns-in-4 c = rw c.in-4.is c.start_of.ensures

pub returns-in-5 : goal.returns-in-5
unfolding kind_of pick
returns-in-5 c = rw c.in-5.is c.message_of.ensures

pub returns-in-7 : goal.returns-in-7
unfolding kind_of pick
returns-in-7 c = rw c.in-7.is c.group_of.ensures

pub returns-in-8 : goal.returns-in-8
unfolding kind_of pick
returns-in-8 c = rw c.in-8.is c.later_of.ensures

pub returns-in-9 : goal.returns-in-9
unfolding kind_of pick
returns-in-9 c = rw c.in-9.is c.channel_of.ensures
