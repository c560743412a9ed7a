use Rattle.machine_defects.proofs.Vocabulary.{◌+◌, ◌∙◌, sym, ap, subst, arith, IsText}
use Rattle.machine_defects.proofs.Numerals.{empty_is, some_length}
use Rattle.machine_defects.proofs.Reading.{reads_on, one_row_more, rows_within, ends_here, ends_early, stops, two_rows}
use Rattle.machine_defects.proofs.read.read_entries.Goals as goal

pub overflow_add-line : goal.overflow_add-line
overflow_add-line c =
    let h = rows_within c.args.list.now.shape c.args.bytes.now c.lines.left.now c.lines.list c.lines.last c.lines.invariant.1 in
    omega (arith, h, c.requires.few, c.lines.invariant.0)

pub overflow_add-result : goal.overflow_add-result
overflow_add-result c =
    let h = rows_within c.args.list.now.shape c.args.bytes.now c.lines.left.now c.lines.list c.lines.last c.lines.invariant.1 in
    omega (arith, h, c.requires.few, c.lines.invariant.0)

pub lines-preserved : goal.lines-preserved
lines-preserved c =
    let s = c.in-Further.ensures in (
      ap (λ n. n + 1) c.lines.invariant.0 ∙ ap (λ n. n + 1) (sym (one_row_more c.args.list.now.shape c.args.bytes.now c.lines.left.now c.lines.list c.lines.last c.lines.invariant.1 c.take_line.new.list s.0 s.2 s.4)),
      reads_on c.args.list.now.shape c.args.bytes.now c.lines.left.now c.lines.list c.lines.last c.lines.invariant.1 c.in-Further.rest.now c.take_line.new.list c.take_line.new.last s.0 s.1 s.2 s.3 s.4 s.5,
    )

pub returns-then-is_empty-clause-found : goal.returns-then-is_empty-clause-found
returns-then-is_empty-clause-found c =
    subst (IsText c.args.list.now.shape c.args.bytes.now) (sym c.in-End.ensures.1) (ends_here c.args.list.now.shape c.args.bytes.now c.lines.left.now c.lines.list c.lines.last c.lines.invariant.1 c.in-End.rest.now c.in-End.ensures.0 (empty_is c.in-End.rest.now (sym c.if-is_empty.ensures)))

pub returns-in-End-clause-refused : goal.returns-in-End-clause-refused
returns-in-End-clause-refused c =
    ends_early c.args.list.now.shape c.args.bytes.now c.lines.left.now c.lines.list c.lines.last c.lines.invariant.1 c.in-End.rest.now (c.lines.line + 1) c.in-End.ensures.0 (some_length c.in-End.rest.now (sym c.if-is_empty.ensures)) (let h = c.lines.invariant.0 in omega (arith, h))

pub returns-in-Refused-clause-refused : goal.returns-in-Refused-clause-refused
returns-in-Refused-clause-refused c =
    stops c.args.list.now.shape c.args.bytes.now c.lines.left.now c.lines.list c.lines.last c.lines.invariant.1 c.lines.line c.in-Refused.kind c.lines.invariant.0 (c.in-Refused.ensures _ (two_rows c.args.list.now.shape c.args.bytes.now c.lines.left.now c.lines.list c.lines.last c.lines.invariant.1))
