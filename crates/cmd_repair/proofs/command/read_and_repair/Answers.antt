use Rattle.cmd_repair.proofs.Vocabulary.{◌∙◌, ◌∷◌, refl, sym, err_from_is_err_and, Told, StandsAmong, plain_file, reads_image, nothing}
use Rattle.cmd_repair.proofs.Vocabulary.{HasReadAmong, more-among, stops-among, gives-among, image_taken}
use Rattle.cmd_repair.proofs.command.read_and_repair.Goals as goal

pub repair_and_write-requires : goal.repair_and_write-requires
repair_and_write-requires g c =
    let image = c.in_ok-image.ensures.took nothing.rig nothing.sink in
    c.requires ∙ sym image.gives.0

pub returns-in_err-image : goal.returns-in_err-image
returns-in_err-image g c =
    let p = err_from_is_err_and c.from_residual.result c.from_residual.ensures.1 in
    let s0 = g.S.Store.store_state c.args.store.now in
    let s1 = g.S.Store.store_state c.read_image_file.new.store in
    let reads = λ (told : Told). reads_image told c.args.shape.now in
    λ begun files rig same stands.
    let known : HasReadAmong files begun s0 = record { contents = same; place = stands } in
    let rest = image_taken (plain_file c.args.image.now ∷ files) begun s1 c.args.list.now in
    let took = c.in_err-image.ensures.took rig (g.K.Sink.sink_state c.args.sink.now) in
    rw (p.1, p.2) (stops-among reads (plain_file c.args.image.now) files begun (StandsAmong (plain_file c.args.image.now ∷ files) begun s1) rest _ (Unit {0}) _ _ _ _ refl known took (λ at. at) tt)

pub returns : goal.returns
returns g c =
    let s0 = g.S.Store.store_state c.args.store.now in
    let s1 = g.S.Store.store_state c.read_image_file.new.store in
    let reads = λ (told : Told). reads_image told c.args.shape.now in
    λ begun files rig same stands.
    let known : HasReadAmong files begun s0 = record { contents = same; place = stands } in
    let rest = image_taken (plain_file c.args.image.now ∷ files) begun s1 c.args.list.now in
    let took = c.in_ok-image.ensures.took rig (g.K.Sink.sink_state c.args.sink.now) in
    let read = more-among reads (plain_file c.args.image.now) files begun _ _ _ known took in
    gives-among reads (plain_file c.args.image.now) files begun (StandsAmong (plain_file c.args.image.now ∷ files) begun s1) rest _ (Unit {0}) _ _ _ _ _ _ known took
    (c.repair_and_write.ensures (plain_file c.args.image.now ∷ files) begun s1 rig read.place) tt
