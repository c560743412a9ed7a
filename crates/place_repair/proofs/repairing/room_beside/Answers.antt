use Rattle.place_repair.proofs.Vocabulary.{All, length, refl, sym, subst, IfOk-weaker, Shape, AreWires, HasTerminal, IsRoom, need_of}
use Rattle.place_repair.specs.Making.{IsRoomBeside}
use Rattle.place_repair.proofs.Repaired.{room_as}
use Rattle.place_repair.proofs.repairing.room_beside.Goals as goal

pub room_for-requires-clause-within : goal.room_for-requires-clause-within
room_for-requires-clause-within c = subst (λ (m : Shape). All (AreWires m) c.args.terminals.now) (sym c.in_ok-rest.ensures.shape) c.requires.within

pub returns : goal.returns
returns c =
    let d = c.args.defects.now.list in
    let g = c.args.image.now.config in
    let rest = c.in_ok-rest.rest in
    let lists = c.args.terminals.now in
    let s = c.args.seats.now in
    IfOk-weaker c.room_for.result
    (IsRoom rest.shape rest.list (length lists) (HasTerminal lists) c.need_of-tables.result c.need_of-pins.result)
    (IsRoomBeside d g c.args.plan.now lists (need_of s.tables) (need_of s.pins))
    (λ room is. record {
      rest = rest;
      left = c.in_ok-rest.ensures;
      is = room_as rest.shape g.shape rest.list lists lists c.need_of-tables.result (need_of s.tables) c.need_of-pins.result (need_of s.pins) room room c.in_ok-rest.ensures.shape refl c.need_of-tables.ensures c.need_of-pins.ensures refl is;
    }) c.room_for.ensures
