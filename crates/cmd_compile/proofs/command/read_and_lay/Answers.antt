use Rattle.std.proofs.Common.{◌∷◌, refl}
use Rattle.std.proofs.lemmas.Result.{err_from_is_err_and}
use Rattle.base_io.specs.Told.{Told}
use Rattle.design_netlist.specs.declared.netlist_data.NetlistData.{NetlistData}
use Rattle.cmd_steps.specs.Vocabulary.{Step, StandsAmong, plain_file, reads_design}
use Rattle.cmd_steps.specs.declared.design_file.DesignFile.TheVariants.{Design}
use Rattle.cmd_steps.proofs.Reading.{HasReadAmong, more-among, stops-among, gives-among}
use Rattle.cmd_compile.specs.Compile.{design_laid}
use Rattle.cmd_compile.proofs.command.read_and_lay.Goals as goal

abbrev reads : Told → Step NetlistData
reads told = reads_design Design told

pub returns-in_err-netlist : goal.returns-in_err-netlist
returns-in_err-netlist g c =
    let p = err_from_is_err_and c.from_residual.result c.from_residual.ensures.1 in
    let s0 = g.S.Store.store_state c.args.store.now in
    let s1 = g.S.Store.store_state c.read_design.new.store in
    let file = plain_file c.args.design.now in
    λ begun files rig same stands.
    let known : HasReadAmong files begun s0 = record { contents = same; place = stands } in
    let rest = design_laid (file ∷ files) begun s1 c.args.list.now in
    let took = c.in_err-netlist.ensures.took rig (g.K.Sink.sink_state c.args.sink.now) in
    rw (p.1, p.2) (stops-among reads file files begun (StandsAmong (file ∷ files) begun s1) rest _ (Unit {0}) _ _ _ _ refl known took (λ at. at) tt)

pub returns : goal.returns
returns g c =
    let s0 = g.S.Store.store_state c.args.store.now in
    let s1 = g.S.Store.store_state c.read_design.new.store in
    let file = plain_file c.args.design.now in
    λ begun files rig same stands.
    let known : HasReadAmong files begun s0 = record { contents = same; place = stands } in
    let rest = design_laid (file ∷ files) begun s1 c.args.list.now in
    let took = c.in_ok-netlist.ensures.took rig (g.K.Sink.sink_state c.args.sink.now) in
    let read = more-among reads file files begun _ _ _ known took in
    gives-among reads file files begun (StandsAmong (file ∷ files) begun s1) rest _ (Unit {0}) _ _ _ _ _ _ known took
    (c.lay_and_write.ensures (file ∷ files) begun s1 rig read.place) tt
