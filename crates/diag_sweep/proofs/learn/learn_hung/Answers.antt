use Rattle.std.proofs.Common.{refl}
use Rattle.diag_known.specs.declared.verified_wire.SupportedBy.TheVariants as stand
use Rattle.diag_sweep.proofs.Learnt.{learnt_known, learnt_grows, stands_on_feet}
use Rattle.diag_sweep.proofs.learn.learn_hung.Goals as goal

pub returns-clause-known : goal.returns-clause-known
returns-clause-known c = learnt_known c.learn.result c.learn.ensures.learnt c.learn.ensures.same c.learn.ensures.shape c.requires.known (c.if-not-is_wanted.ensures.good refl)
    (stands_on_feet c.args.hung.first c.args.hung.second (c.if-not-is_foot.ensures refl) (c.if-not-is_foot-2.ensures refl) c.if-hung.false)

pub returns-clause-grows : goal.returns-clause-grows
returns-clause-grows c = learnt_grows c.args.known.now c.learn.new.self (record { wire = c.args.hung.wire; stand = stand.Feet c.args.hung.first c.args.hung.second }) c.learn.result c.learn.ensures.learnt c.learn.ensures.same (c.if-not-is_wanted.ensures.field refl)
