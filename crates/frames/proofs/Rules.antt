-- The laws of tests and of tables of causes by which the code's branches are the definitions' cases. Assumes nothing.
use borrow.Author.Tests.{eq-eqb, ne_eqb, lt-ltb, le-ltb, le-leb, lt-leb}
use Rattle.sets.proofs.Bools.{and_i, and_no_l, and_no_r, or_l, or_r, or_no, not_i, not_yes, pick_yes, pick_no}
use Rattle.sets.proofs.Causes.{cause_here, cause_later, cause_last}

pub ruleset tests = (cause_here, cause_later, cause_last, and_i, and_no_l, and_no_r, or_l, or_r, or_no, not_i, not_yes, pick_yes, pick_no, eq-eqb, ne_eqb, lt-ltb, le-ltb, le-leb, lt-leb)
