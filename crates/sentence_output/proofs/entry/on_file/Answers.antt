-- The causes of the file, in their order. Assumes nothing.
use Prim.Native.Nat.{ℕ, ◌<◌}
use mathlib.Core.Path.{sym, ap, ◌∙◌}
use native.Mathlib.Omega.{arith}
use lib.ListN.{length}
use borrow.Author.Tests.{eqb-true, eqb-false}
use Rattle.sentence_output.specs.Heard.{number_line, terminals_in}
use Rattle.sentence_output.proofs.Entries.{numbered_none, numbered_some, terminals_fit, in_empty, in_long, in_none, in_rest, entered_as}
use Rattle.sentence_output.proofs.entry.on_file.Goals as goal
use Rattle.sentence_output.proofs.entry.on_file.Goals.{then-is_empty-via-then-is_empty, then-is_empty-via-else-is_empty+then-file-gt-MOST_BYTES}

pub returns-then-is_empty : goal.returns-then-is_empty
returns-then-is_empty c = let file = c.args.file.now in
    elim c.then-is_empty.branch [
      | then-is_empty-via-then-is_empty w ↦ in_empty file (eqb-true (length file) 0 (sym c.is_empty.ensures ∙ w.if-is_empty.true))
      | then-is_empty-via-else-is_empty+then-file-gt-MOST_BYTES w ↦ in_long file w.if-file-gt-MOST_BYTES.true
    ]

pub returns-in_default : goal.returns-in_default
returns-in_default c = let file = c.args.file.now in
    in_none file (eqb-false (length file) 0 (sym c.is_empty.ensures ∙ c.if-is_empty.false)) c.if-file-gt-MOST_BYTES.false (numbered_none _ (c.in_default.ensures {u = tt}))

pub line_len-requires : goal.line_len-requires
line_len-requires c = let file = c.args.file.now in
    let s = numbered_some _ _ (c.in-Some.ensures {u = tt}) in
    let fits : terminals_in file < 21 = (terminals_fit file s.1).0 in
    omega (arith, s.0)

pub slice_bounds-heard_on-count : goal.slice_bounds-heard_on-count
slice_bounds-heard_on-count c = let file = c.args.file.now in
    let s = numbered_some _ _ (c.in-Some.ensures {u = tt}) in
    omega (arith, c.line_len.ensures, ap (λ (k : ℕ). length (number_line k)) s.0, (terminals_fit file s.1).1)

pub slice_bounds-heard_on-start : goal.slice_bounds-heard_on-start
slice_bounds-heard_on-start c = let file = c.args.file.now in
    let s = numbered_some _ _ (c.in-Some.ensures {u = tt}) in
    omega (arith, c.line_len.ensures, ap (λ (k : ℕ). length (number_line k)) s.0, (terminals_fit file s.1).1)

pub returns-in_err-heard_on : goal.returns-in_err-heard_on
returns-in_err-heard_on c = let file = c.args.file.now in
    let e = c.in_err-heard_on in
    entered_as e.field-0.0 _ c.from_residual.ensures.1
    ∙ e.ensures {u = tt}
    ∙ in_rest file (eqb-false (length file) 0 (sym c.is_empty.ensures ∙ c.if-is_empty.false)) c.if-file-gt-MOST_BYTES.false _ _ (c.in-Some.ensures {u = tt}) c.line_len.ensures

pub returns : goal.returns
returns c = let file = c.args.file.now in
    c.in_ok-heard_on.ensures {u = tt}
    ∙ in_rest file (eqb-false (length file) 0 (sym c.is_empty.ensures ∙ c.if-is_empty.false)) c.if-file-gt-MOST_BYTES.false _ _ (c.in-Some.ensures {u = tt}) c.line_len.ensures
