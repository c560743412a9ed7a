use Rattle.cmd_steps.proofs.Vocabulary.{err_from_is_err_and, Limit, reads_text, plain_file}
use Rattle.cmd_steps.proofs.TextLemmas.{of-text, long-design, design-counted, text-stops}
use Rattle.cmd_steps.proofs.TookLemmas.{file-fails, file-text, file-long}
use Rattle.cmd_steps.proofs.design.read_text.Goals as goal

pub returns-in_err-text : goal.returns-in_err-text
returns-in_err-text g c = record {
  took =
      let p = err_from_is_err_and c.from_residual.result c.from_residual.ensures.1 in
      let e = c.in_err-text.ensures in
      λ rig sink. rw (p.1, p.2) (file-fails (reads_text c.args.file) (plain_file c.args.name.now) (of-text c.args.file) _ _ rig sink e.contents e.later e.within _ e.refused);
}

pub returns-in-Some : goal.returns-in-Some
returns-in-Some g c = record {
  took =
      let e = c.in_ok-text.ensures in
      λ rig sink. file-text (reads_text c.args.file) (plain_file c.args.name.now) (of-text c.args.file) _ _ rig sink e.contents e.later e.within c.in-Some.text.items _ e.asked (rw c.in-Some.is at e.text) c.with_netlist.ensures;
}

pub returns-in-None : goal.returns-in-None
returns-in-None g c = record {
  took =
      let e = c.in_ok-text.ensures in
      λ rig sink. file-long (reads_text c.args.file) (plain_file c.args.name.now) (of-text c.args.file) _ _ rig sink e.contents e.later e.within _ e.asked (text-stops c.args.file _ _ (long-design c.args.file _ _ c.refused.ensures (rw c.in-None.is at e.text))) (design-counted c.args.file 0 Limit _ _ _ c.refused.ensures);
}
