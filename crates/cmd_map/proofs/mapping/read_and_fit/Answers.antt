use Rattle.std.proofs.Common.{◌∷◌, refl}
use Rattle.std.proofs.lemmas.Result.{err_from_is_err_and}
use Rattle.base_io.specs.Told.{Told}
use Rattle.cmd_steps.specs.declared.design.DesignText.{DesignText}
use Rattle.cmd_steps.specs.Vocabulary.{Step, StandsAmong, plain_file, reads_text}
use Rattle.cmd_steps.specs.declared.design_file.DesignFile.TheVariants.{Design}
use Rattle.cmd_steps.proofs.Making.{nothing}
use Rattle.cmd_steps.proofs.Reading.{HasReadAmong, more-among, stops-among, gives-among}
use Rattle.cmd_map.specs.Maps.{design_fitted}
use Rattle.cmd_map.proofs.mapping.read_and_fit.Goals as goal

abbrev reads : Told → Step DesignText
reads told = reads_text Design told

pub fit_and_write-requires : goal.fit_and_write-requires
fit_and_write-requires g c = (c.in_ok-read.ensures.took nothing.rig nothing.sink).gives.design

pub returns-in_err-read : goal.returns-in_err-read
returns-in_err-read g c =
    let p = err_from_is_err_and c.from_residual.result c.from_residual.ensures.1 in
    let s0 = g.S.Store.store_state c.args.store.now in
    let s1 = g.S.Store.store_state c.read_text.new.store in
    let file = plain_file c.args.design.now in
    λ begun files rig same stands.
    let known : HasReadAmong files begun s0 = record { contents = same; place = stands } in
    let rest = design_fitted (file ∷ files) begun s1 c.args.defects.now in
    let took = c.in_err-read.ensures.took rig (g.K.Sink.sink_state c.args.sink.now) in
    rw (p.1, p.2) (stops-among reads file files begun (StandsAmong (file ∷ files) begun s1) rest _ (Unit {0}) _ _ _ _ refl known took (λ at. at) tt)

pub returns : goal.returns
returns g c =
    let s0 = g.S.Store.store_state c.args.store.now in
    let s1 = g.S.Store.store_state c.read_text.new.store in
    let file = plain_file c.args.design.now in
    λ begun files rig same stands.
    let known : HasReadAmong files begun s0 = record { contents = same; place = stands } in
    let rest = design_fitted (file ∷ files) begun s1 c.args.defects.now in
    let took = c.in_ok-read.ensures.took rig (g.K.Sink.sink_state c.args.sink.now) in
    let read = more-among reads file files begun _ _ _ known took in
    gives-among reads file files begun (StandsAmong (file ∷ files) begun s1) rest _ (Unit {0}) _ _ _ _ _ _ known took
    (c.fit_and_write.ensures (file ∷ files) begun s1 rig read.place) tt
