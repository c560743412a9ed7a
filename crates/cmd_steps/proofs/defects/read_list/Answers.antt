use Rattle.cmd_steps.proofs.Vocabulary.{arith, err_from_is_err_and, reads_defects, list_file}
use Rattle.machine_shape.proofs.HighLimits.{high_limits}
use Rattle.cmd_steps.proofs.TextLemmas.{of-defects, long-defects}
use Rattle.cmd_steps.proofs.TookLemmas.{file-fails, file-text, file-long}
use Rattle.cmd_steps.proofs.defects.read_list.Goals as goal

pub read_within-requires : goal.read_within-requires
read_within-requires g c = let h = (high_limits c.args.shape.now).text in omega (arith, h.1, c.most_text.ensures)

pub returns-in_err-text : goal.returns-in_err-text
returns-in_err-text g c = record {
  took =
      let p = err_from_is_err_and c.from_residual.result c.from_residual.ensures.1 in
      let e = c.in_err-text.ensures in
      λ rig sink. rw (p.1, p.2) (file-fails (λ told. reads_defects told c.args.shape.now) (list_file c.args.shape.now c.args.name.now) (of-defects c.args.shape.now) _ _ rig sink e.contents e.later (rw c.most_text.ensures at e.within) _ e.refused);
}

pub returns-in-Some : goal.returns-in-Some
returns-in-Some g c = record {
  took =
      let e = c.in_ok-text.ensures in
      λ rig sink. file-text (λ told. reads_defects told c.args.shape.now) (list_file c.args.shape.now c.args.name.now) (of-defects c.args.shape.now) _ _ rig sink e.contents e.later (rw c.most_text.ensures at e.within) c.in-Some.text.items _ e.asked (rw c.most_text.ensures at (rw c.in-Some.is at e.text)) (rw c.deref.ensures.value at c.list_of_text.ensures);
}

pub returns-in-None : goal.returns-in-None
returns-in-None g c = record {
  took =
      let e = c.in_ok-text.ensures in
      λ rig sink. file-long (λ told. reads_defects told c.args.shape.now) (list_file c.args.shape.now c.args.name.now) (of-defects c.args.shape.now) _ _ rig sink e.contents e.later (rw c.most_text.ensures at e.within) _ e.asked (long-defects c.args.shape.now _ (rw c.most_text.ensures at (rw c.in-None.is at e.text))) tt;
}
