use Rattle.rig_port.proofs.Vocabulary.{◌<◌, ◌∙◌, length, sym, ap, arith, is_closed}
use Rattle.rig_port.proofs.{Edited.more_edits, Closings.opened}
use Rattle.rig_port.proofs.edits.open_gone.Goals as goal

pub gone-preserved : goal.gone-preserved
gone-preserved c =
    let within : c.gone.k < length c.in_ok-gone.gone.items = omega (arith, c.gone-test.true, c.len-k-end.ensures, c.in_ok-gone.gone.ok.0) in (
      c.in_ok-open.ensures.shape ∙ c.gone.invariant.0,
      more_edits c.args.set.now.config c.gone.set.config c.open.new.set.config c.args.line.now.items c.gone.line.items c.open.new.line.items
          c.gone.invariant.0 c.gone.invariant.1 c.in_ok-open.ensures.made,
      (λ x after sought. opened c.gone.set.config c.in_ok-gone.gone.items c.gone.k x c.index.result.now within c.index.ensures
          (sym (ap (λ g. is_closed g x) c.in_ok-open.ensures.open) ∙ after) (λ was. c.gone.invariant.2 x was sought)),
    )
