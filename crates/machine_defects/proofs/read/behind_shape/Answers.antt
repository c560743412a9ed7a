use Rattle.machine_defects.proofs.Vocabulary.{◌≡◌, ◌∙◌, ◌++◌, sym, ap, refl, bytes_eq, false≢true, written_line, other_machine}
use Rattle.machine_defects.specs.Text.{counts_of, shape_row}
use Rattle.machine_defects.proofs.{Splits.bytes_same, Splits.same_bytes, Reading.no_line, Reading.other_line, Reading.no_shape}
use Rattle.machine_defects.proofs.Rows.{whole_line}
use Rattle.machine_defects.proofs.read.behind_shape.Goals as goal

pub returns-in_default : goal.returns-in_default
returns-in_default c = no_line _ 1 c.args.bytes.now c.in_default.ensures.none

pub returns-in_default-counts_in : goal.returns-in_default-counts_in
returns-in_default-counts_in c = other_line _ 1 c.args.bytes.now c.in-Some.line.now c.in-Some.rest.now c.in-Some.ensures.some.0 c.in-Some.ensures.some.1 (no_shape c.in-Some.line.now c.in_default-counts_in.ensures)

pub returns-then-eq : goal.returns-then-eq
returns-then-eq c =
    let counts : c.counts_of.result ≡ counts_of c.args.shape.now.counts = c.counts_of.ensures.counts ∙ ap counts_of c.counts.ensures in
    let same : c.in-Some-counts_in.numbers ≡ counts_of c.args.shape.now.counts = same_bytes c.in-Some-counts_in.numbers c.counts_of.result (sym c.if-eq.ensures) ∙ counts in
    whole_line c.in-Some.line.now c.in-Some.rest.now c.args.bytes.now (shape_row c.in-Some-counts_in.numbers) c.in-Some.ensures.some.0 c.in-Some-counts_in.ensures.1 ∙ ap (λ ns. written_line (shape_row ns) ++ c.in-Some.rest.now) same

pub returns-else-eq : goal.returns-else-eq
returns-else-eq c =
    let counts : c.counts_of.result ≡ counts_of c.args.shape.now.counts = c.counts_of.ensures.counts ∙ ap counts_of c.counts.ensures in
    other_machine c.in-Some-counts_in.numbers c.in-Some.rest.now refl c.in-Some-counts_in.ensures.0 (whole_line c.in-Some.line.now c.in-Some.rest.now c.args.bytes.now (shape_row c.in-Some-counts_in.numbers) c.in-Some.ensures.some.0 c.in-Some-counts_in.ensures.1)
    (λ e. false≢true (c.if-eq.ensures ∙ ap (λ ns. bytes_eq ns c.counts_of.result) (e ∙ sym counts) ∙ bytes_same c.counts_of.result))
