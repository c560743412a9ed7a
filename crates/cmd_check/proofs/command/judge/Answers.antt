use Rattle.cmd_check.proofs.Vocabulary.{◌∙◌, true, false, sym, refl, err-is, kept-gives, line-kept, nothing, kept-refuses}
use Rattle.cmd_check.proofs.Following.{tested-then}
use Rattle.cmd_check.proofs.command.judge.Goals as goal

pub returns-in_err-sound : goal.returns-in_err-sound
returns-in_err-sound g c =
    let e = c.in_err-sound.ensures in
    λ files begun store near.
    kept-refuses _ _ _ _ _ _ _ _ (err-is _ c.from_residual.ensures.1) (e.took store _) (λ _ stops. stops) near e.machine

pub returns-then-sound : goal.returns-then-sound
returns-then-sound g c =
    let e = c.in_ok-sound.ensures in
    λ files begun store near.
    tested-then files begun c.args.image.now _ _ _ _ c.in_ok-sound.sound true (e.took store _) e.machine c.if-sound.true
    (line-kept _ _ _ _ _ _ _ c.write.ensures.puts (near, refl))

pub returns-in_err-list : goal.returns-in_err-list
returns-in_err-list g c =
    let e = c.in_ok-sound.ensures in
    let l = c.in_err-list.ensures in
    λ files begun store near.
    let took = rw (← c.requires.image) at l.took store (g.K.Sink.sink_state c.args.sink.now) in
    tested-then files begun c.args.image.now _ _ _ _ c.in_ok-sound.sound false (e.took store _) e.machine c.if-sound.false
    (kept-refuses _ _ _ _ _ _ _ _ (err-is _ c.from_residual-in_err-list.ensures.1) took
    (λ _ stops. stops) near l.machine)

pub look_and_write-requires : goal.look_and_write-requires
look_and_write-requires g c = (c.in_ok-list.ensures.took nothing.store nothing.sink).gives.shape ∙ sym c.requires.image

pub returns : goal.returns
returns g c =
    let e = c.in_ok-sound.ensures in
    let l = c.in_ok-list.ensures in
    λ files begun store near.
    let took = rw (← c.requires.image) at l.took store (g.K.Sink.sink_state c.args.sink.now) in
    tested-then files begun c.args.image.now _ _ _ _ c.in_ok-sound.sound false (e.took store _) e.machine c.if-sound.false
    (kept-gives _ _ _ _ c.in_ok-list.list _ _ _ _ _ took (λ is. is) l.machine (c.look_and_write.ensures files begun store _ near))
