use Rattle.place_repair.proofs.Vocabulary.{◌<◌, sym, subst, IsThis, HasWire}
use Rattle.place_repair.proofs.{Hanging.has_end, Hanging.one_net_has, Marking.marked_none, Marking.marked_same}
use Rattle.place_repair.proofs.keeping.mark_net.Goals as goal

pub mark-requires : goal.mark-requires
mark-requires c = subst (λ n. c.in-Some.net < n) (sym c.requires.sized) c.in-Some.ensures.some.0

pub returns-in-None : goal.returns-in-None
returns-in-None c =
    let g = c.args.config.now.config in
    marked_none (λ k. HasWire g c.args.nets.now.lowest k c.args.wire.0) c.args.marks.now
    (λ k wire. c.in-None.ensures.none (has_end g (c.the_numbering_is_sound.ensures.numbered g.shape) c.shape-shape.ensures.right c.args.nets.now.lowest c.requires.nets.lowest_are k c.args.wire.0 wire))

pub returns-in-Some : goal.returns-in-Some
returns-in-Some c =
    let g = c.args.config.now.config in
    marked_same (IsThis c.in-Some.net) (λ k. HasWire g c.args.nets.now.lowest k c.args.wire.0) c.args.marks.now c.mark.new.marks c.mark.ensures
    (λ k e. subst (λ z. HasWire g c.args.nets.now.lowest z c.args.wire.0) e c.in-Some.ensures.some)
    (λ k wire. one_net_has g (c.the_numbering_is_sound.ensures.numbered g.shape) c.shape-shape.ensures.right c.args.nets.now.lowest c.requires.nets.lowest_are c.in-Some.net k c.args.wire.0 c.in-Some.ensures.some wire)
