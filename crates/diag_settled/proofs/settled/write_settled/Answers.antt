use Rattle.std.proofs.{Common.inl, Common.inr, lemmas.Result.err_from_is_err_and}
use Rattle.cmd_steps.proofs.Taking.{took-lacks}
use Rattle.diag_list.specs.Lists.{lists_now}
use Rattle.diag_settled.proofs.settled.write_settled.Goals as goal

pub returns-in_err-list-clause-written : goal.returns-in_err-list-clause-written
returns-in_err-list-clause-written g c =
    let p = err_from_is_err_and c.from_residual.result c.from_residual.ensures.1 in
    λ store. rw (p.1, p.2) (inl (c.in_err-list.ensures.took store (g.K.Sink.sink_state c.args.sink.now)))

pub returns-in_err-text-clause-written : goal.returns-in_err-text-clause-written
returns-in_err-text-clause-written g c =
    let p = err_from_is_err_and c.from_residual-in_err-text.result c.from_residual-in_err-text.ensures.1 in
    let box0 = c.args.rig.now in
    let box1 = c.list_settled.new.rig in
    let step = lists_now c.args.shape.now ((goal.Rig-dyn g (box0.vtable, box0.value)).rig_state box0.value) ((goal.Rig-dyn g (box1.vtable, box1.value)).rig_state box1.value) in
    λ store. rw (p.1, p.2) (inl (took-lacks step step _ c.in_ok-list.list _ _ (c.in_ok-list.ensures.took store (g.K.Sink.sink_state c.args.sink.now)) (tt, c.in_ok-list.ensures.loads)))

pub returns-in_err-write-clause-written : goal.returns-in_err-write-clause-written
returns-in_err-write-clause-written g c =
    let p = err_from_is_err_and c.from_residual-in_err-write.result c.from_residual-in_err-write.ensures.1 in
    let puts = rw (c.deref.ensures.value, c.in_ok-text.ensures.text) at c.in_err-write.ensures.puts in
    λ store. rw (p.1, p.2) (inr (c.in_ok-list.list, c.in_ok-list.ensures.took store (g.K.Sink.sink_state c.args.sink.now), puts))

pub returns-clause-written : goal.returns-clause-written
returns-clause-written g c =
    let puts = rw (c.deref.ensures.value, c.in_ok-text.ensures.text) at c.in_ok-write.ensures.puts in
    λ store. (c.in_ok-list.ensures.took store (g.K.Sink.sink_state c.args.sink.now), puts)
