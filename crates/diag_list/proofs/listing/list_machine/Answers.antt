use Rattle.diag_list.proofs.Vocabulary.{err_from_is_err_and, reads_machine, asks-machine}
use Rattle.cmd_steps.proofs.Making.{nothing}
use Rattle.diag_list.proofs.{ListedLemmas.attached-shape, FewCycles.few-unasked, FewCycles.few-unloaded, FewCycles.few-listed}
use Rattle.diag_list.proofs.MachineListed.{asked-on, not-read, not-attached, then-listed}
use Rattle.diag_list.proofs.listing.list_machine.Goals as goal

pub returns-in_err-shape-clause-cycles : goal.returns-in_err-shape-clause-cycles
returns-in_err-shape-clause-cycles g c = few-unasked _

pub returns-in_err-attach-clause-cycles : goal.returns-in_err-attach-clause-cycles
returns-in_err-attach-clause-cycles g c = let e = c.in_err-attach.ensures in few-unloaded _ _ e.unused e.loads

pub returns-clause-cycles : goal.returns-clause-cycles
returns-clause-cycles g c = let e = c.in_ok-attach.ensures in few-listed _ _ _ e.unused e.loads c.list_of.ensures.machine c.list_of.ensures.cycles

pub returns-in_err-shape-clause-took : goal.returns-in_err-shape-clause-took
returns-in_err-shape-clause-took g c =
    let p = err_from_is_err_and c.from_residual.result c.from_residual.ensures.1 in
    λ sink. rw (p.1, p.2) (not-read c.args.machine.now c.args.name.now _ _ sink _ _ (c.in_err-shape.ensures.took _ sink))

pub returns-in_err-attach-clause-asked : goal.returns-in_err-attach-clause-asked
returns-in_err-attach-clause-asked g c =
    asks-machine _ c.args.name.now c.in_ok-shape.shape _ _ (c.in_ok-shape.ensures.took nothing.rig nothing.sink).gives c.in_err-attach.ensures.asked

pub returns-in_err-attach-clause-took : goal.returns-in_err-attach-clause-took
returns-in_err-attach-clause-took g c =
    let p = err_from_is_err_and c.from_residual-in_err-attach.result c.from_residual-in_err-attach.ensures.1 in
    λ sink. rw (p.1, p.2) (not-attached c.args.machine.now c.args.name.now _ _ sink _ _ c.in_ok-shape.shape (c.in_ok-shape.ensures.took _ sink) c.in_err-attach.ensures.loads _ (c.in_err-attach.ensures.took _ sink))

pub list_of-requires : goal.list_of-requires
list_of-requires g c =
    let box1 = c.attach.new.rig in
    let r1 = (goal.Rig-dyn g (box1.vtable, box1.value)).rig_state box1.value in
    attached-shape r1 c.in_ok-shape.shape c.args.name.now (c.in_ok-attach.ensures.took nothing.store nothing.sink).gives

pub returns-clause-asked : goal.returns-clause-asked
returns-clause-asked g c =
    let told = (g.S.Store.store_state c.args.store.now).contents c.args.machine.now in
    let read = (c.in_ok-shape.ensures.took nothing.rig nothing.sink).gives in
    asked-on (reads_machine told).gives c.args.name.now _ _ _ c.list_of.ensures.machine
    (asks-machine (reads_machine told).gives c.args.name.now c.in_ok-shape.shape _ _ read c.in_ok-attach.ensures.asked)

pub returns-clause-took : goal.returns-clause-took
returns-clause-took g c = λ sink.
    then-listed c.args.machine.now c.args.name.now _ _ sink _ _ c.in_ok-shape.shape (c.in_ok-shape.ensures.took _ sink) c.in_ok-attach.ensures.loads (c.in_ok-attach.ensures.took _ sink) _ c.list_of.ensures.machine _ (c.list_of.ensures.took _ sink)
