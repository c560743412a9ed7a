use Rattle.design_flatten.proofs.Vocabulary.{err_from_is_err_and, lines_of}
use Rattle.design_flatten.proofs.ReadLemmas.{within_is, its_controls, clean_words, readings_are, made_are}
use Rattle.design_flatten.proofs.read.read_from.Goals as goal

pub returns-in_err-check_controls-clause-only : goal.returns-in_err-check_controls-clause-only
returns-in_err-check_controls-clause-only c d is checked =
    let p = err_from_is_err_and c.from_residual.result c.from_residual.ensures.1 in
    let ms = c.args.models.now in
    let within = within_is ms c.args.found.now c.requires.kept c.as_slice-signals.ensures.within in
    let one = its_controls ms d (lines_of ms c.args.found.now) is within in
    rw (p.1, p.2) (c.in_err-check_controls.ensures.only one)

pub returns-in_err-check_drives-clause-only : goal.returns-in_err-check_drives-clause-only
returns-in_err-check_drives-clause-only c d is checked =
    let p = err_from_is_err_and c.from_residual-in_err-check_drives.result c.from_residual-in_err-check_drives.ensures.1 in
    let ms = c.args.models.now in
    let within = within_is ms c.args.found.now c.requires.kept c.as_slice-signals.ensures.within in
    let clean = clean_words ms d (lines_of ms c.args.found.now) is checked within in
    rw (p.1, p.2) (c.in_err-check_drives.ensures.only clean.0)

pub returns-in_err-check_reads-clause-only : goal.returns-in_err-check_reads-clause-only
returns-in_err-check_reads-clause-only c d is checked =
    let p = err_from_is_err_and c.from_residual-in_err-check_reads.result c.from_residual-in_err-check_reads.ensures.1 in
    let ms = c.args.models.now in
    let within = within_is ms c.args.found.now c.requires.kept c.as_slice-signals.ensures.within in
    let clean = clean_words ms d (lines_of ms c.args.found.now) is checked within in
    rw (p.1, p.2) (c.in_err-check_reads.ensures.only clean.1)

pub returns-clause-ok : goal.returns-clause-ok
returns-clause-ok c =
    let ms = c.args.models.now in
    let lines = lines_of ms c.args.found.now in
    let within = within_is ms c.args.found.now c.requires.kept c.as_slice-signals.ensures.within in
    readings_are c.draft_of.result ms lines (record { rules = c.requires.rules; design = within; one_control = c.in_ok-check_controls.ensures.ok }) c.in_ok-check_drives.ensures.undoubled c.in_ok-check_reads.ensures.driven c.draft_of.ensures.ok

pub returns-clause-made : goal.returns-clause-made
returns-clause-made c =
    let ms = c.args.models.now in
    let lines = lines_of ms c.args.found.now in
    let within = within_is ms c.args.found.now c.requires.kept c.as_slice-signals.ensures.within in
    made_are c.draft_of.result ms lines c.requires.rows within c.requires.outputs c.draft_of.ensures.ok
