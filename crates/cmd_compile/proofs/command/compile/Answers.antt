use Rattle.std.proofs.Common.{[], ◌∷◌, refl}
use Rattle.std.proofs.lemmas.Result.{err_from_is_err_and}
use Rattle.base_io.specs.Told.{Told}
use Rattle.machine_shape.specs.declared.Shape.{Shape}
use Rattle.design_netlist.specs.declared.netlist_data.NetlistData.{NetlistData}
use Rattle.cmd_steps.specs.Vocabulary.{Step, StandsAmong, list_file, plain_file, reads_machine, reads_defects, reads_design, behind_list, behind_machine, list_files}
use Rattle.cmd_steps.specs.declared.design_file.DesignFile.TheVariants.{Design}
use Rattle.cmd_steps.proofs.ListFiles.{no-machine, no-list}
use Rattle.cmd_steps.proofs.Reading.{none-read, more-among, gives-among}
use Rattle.cmd_compile.specs.Compile.{design_laid}
use Rattle.cmd_compile.proofs.CompileLaws.{compile-lawful}
use Rattle.cmd_compile.proofs.command.compile.Goals as goal

abbrev reads : Told → Shape → Step NetlistData
reads told m = reads_design Design told

pub returns-clause-lawful : goal.returns-clause-lawful
returns-clause-lawful g c = compile-lawful c.in_order_plans_are_decided.ensures.never_both _ _ _

pub returns-in_err-shape-clause-lawful : goal.returns-in_err-shape-clause-lawful
returns-in_err-shape-clause-lawful g c = compile-lawful c.in_order_plans_are_decided.ensures.never_both _ _ _

pub returns-in_err-list-clause-lawful : goal.returns-in_err-list-clause-lawful
returns-in_err-list-clause-lawful g c = compile-lawful c.in_order_plans_are_decided.ensures.never_both _ _ _

pub returns-in_err-shape-clause-does : goal.returns-in_err-shape-clause-does
returns-in_err-shape-clause-does g c =
    let p = err_from_is_err_and c.from_residual.result c.from_residual.ensures.1 in
    λ rig. rw (p.1, p.2) (no-machine reads design_laid _ _ _ (c.in_err-shape.ensures.took rig _))

pub returns-in_err-list-clause-does : goal.returns-in_err-list-clause-does
returns-in_err-list-clause-does g c =
    let p = err_from_is_err_and c.from_residual-in_err-list.result c.from_residual-in_err-list.ensures.1 in
    λ rig. rw (p.1, p.2) (no-list reads design_laid _ _ _ (c.in_ok-shape.ensures.took rig _) (c.in_err-list.ensures.took rig _))

pub returns-clause-does : goal.returns-clause-does
returns-clause-does g c =
    let s0 = g.S.Store.store_state c.args.store.now in
    let s = g.S.Store.store_state c.read_and_lay.new.store in
    let machine = c.args.machine.now in
    let defects = c.args.defects.now in
    let m = c.in_ok-shape.shape in
    let d = c.in_ok-list.list in
    let reads_list = λ (told : Told). reads_defects told m in
    λ rig.
    let took_machine = c.in_ok-shape.ensures.took rig (g.K.Sink.sink_state c.args.sink.now) in
    let took_list = c.in_ok-list.ensures.took rig (g.K.Sink.sink_state c.args.sink.now) in
    let one_file = plain_file machine ∷ [] in
    let two_files = list_files machine defects m in
    let one = more-among reads_machine (plain_file machine) [] s0 m _ _ (none-read s0) took_machine in
    let two = more-among reads_list (list_file m defects) one_file s0 d _ _ one took_list in
    let rest = c.read_and_lay.ensures s0 two_files rig two.contents two.place in
    gives-among reads_machine (plain_file machine) [] s0 (StandsAmong one_file s0 s) (behind_machine reads design_laid machine defects c.args.design.now s0 s) _ _ _ m _ _ _ _
    (none-read s0) took_machine
    (gives-among reads_list (list_file m defects) one_file s0 (StandsAmong two_files s0 s) (behind_list reads design_laid machine defects c.args.design.now s0 s m) _ (Unit {0}) _ d _ _ _ _
    one took_list rest tt) refl
