use Rattle.cmd_map.proofs.Vocabulary.{◌≡◌, [], ◌∷◌, refl, err_from_is_err_and, plain_file, reads_text, Design, nothing, design_mapped}
use Rattle.cmd_steps.proofs.Reading.{none-read, file-stops, file-gives}
use Rattle.cmd_map.proofs.MapLaws.{map-lawful}
use Rattle.cmd_map.proofs.mapping.map_design.Goals as goal

pub map_and_write-requires : goal.map_and_write-requires
map_and_write-requires g c = (c.in_ok-read.ensures.took nothing.rig nothing.sink).gives.design

pub returns-in_err-read-clause-lawful : goal.returns-in_err-read-clause-lawful
returns-in_err-read-clause-lawful g c = map-lawful c.args.design.now

pub returns-clause-lawful : goal.returns-clause-lawful
returns-clause-lawful g c = map-lawful c.args.design.now

pub returns-in_err-read-clause-does : goal.returns-in_err-read-clause-does
returns-in_err-read-clause-does g c =
    let p = err_from_is_err_and c.from_residual.result c.from_residual.ensures.1 in
    let s0 = g.S.Store.store_state c.args.store.now in
    let s1 = g.S.Store.store_state c.read_text.new.store in
    let rest = design_mapped (plain_file c.args.design.now ∷ []) s0 s1 in
    λ rig. rw (p.1, p.2) (file-stops (reads_text Design) _ [] s0 rest _ (rig ≡ rig) _ _ _ _ refl (none-read s0) (c.in_err-read.ensures.took rig (g.K.Sink.sink_state c.args.sink.now)) refl)

pub returns-clause-does : goal.returns-clause-does
returns-clause-does g c =
    let s0 = g.S.Store.store_state c.args.store.now in
    let s1 = g.S.Store.store_state c.read_text.new.store in
    let rest = design_mapped (plain_file c.args.design.now ∷ []) s0 s1 in
    λ rig.
    let took = c.in_ok-read.ensures.took rig (g.K.Sink.sink_state c.args.sink.now) in
    file-gives (reads_text Design) _ [] s0 rest s1 _ (rig ≡ rig) _ _ _ _ _ _ (none-read s0) took (c.map_and_write.ensures (plain_file c.args.design.now ∷ []) s0 s1 rig took.place) refl
