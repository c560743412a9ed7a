use Rattle.cmd_steps.proofs.Vocabulary.{sym, holds, reads_design}
use Rattle.design_blif.proofs.DesignLemmas.{one_design}
use Rattle.cmd_steps.proofs.{Taking.took-stop, Taking.took-value, TextLemmas.design-refused, TextLemmas.design-counted}
use Rattle.cmd_steps.proofs.design.netlist_of.Goals as goal

pub returns-in-Ok : goal.returns-in-Ok
returns-in-Ok c =
    let e = c.in-Ok.ensures in
    λ o. took-value (reads_design c.args.file (holds c.args.text.now)) c.in-Ok.netlist o (record {
      text = e.found.0;
      within = e.found.1;
      only = λ other is. sym (one_design c.args.text.now c.in-Ok.netlist other e.found.0 is);
    })

pub returns-in-Err-At : goal.returns-in-Err-At
returns-in-Err-At c =
    let fault = rw c.in-Err-At.field-0-is at c.in-Err-At.ensures.refused in
    let stops = design-refused c.args.file (holds c.args.text.now) c.in-Err-At.line c.in-Err-At.kind c.refused.result c.refused.ensures
    (fault, λ draft is within. let same = rw c.in-Err-At.field-0-is at (c.in-Err-At.ensures.only draft is within) in absurd (cc)) in
    λ o. took-stop (reads_design c.args.file (holds c.args.text.now)) c.refused.result o stops (design-counted c.args.file c.in-Err-At.line c.in-Err-At.kind c.refused.result o o c.refused.ensures)

pub returns-in-Err-Memory : goal.returns-in-Err-Memory
returns-in-Err-Memory c = λ o. took-stop (reads_design c.args.file (holds c.args.text.now)) _ o tt tt
