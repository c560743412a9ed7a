use Rattle.std.proofs.Common.{ℕ, All, List, length, refl, sym, ◌∙◌, subst}
use Rattle.place_repair.proofs.Vocabulary.{AreWires, IsFreeImage, IsRoom, HasTerminal, HasSameRows, IsRedrawn, IsRepair, IfOk-weaker, need_of}
use Rattle.place_plan.specs.declared.short.Room.TheVariants.{Enough}
use Rattle.place_route.proofs.Making.{numbering}
use Rattle.place_repair.proofs.Repaired.{sized_for, tables_apart, pins_apart, lists_within, few_lists, short_plan, redraw_wires, repaired, repaired_free, repaired_rows, room_beside_as, memory_fails}
use Rattle.place_repair.proofs.repairing.laid_by.Goals as goal

pub terminals_of-requires : goal.terminals_of-requires
terminals_of-requires c = sized_for c.args.defects.now.list c.args.image.now c.config-config.ensures.right (numbering c.the_numbering_is_sound.ensures.numbered c.the_numbering_is_sound.ensures.tree c.the_numbering_is_sound.ensures.parents c.the_numbering_is_sound.ensures.meanings c.the_crosspoints_are_sound.ensures.taps c.the_crosspoints_are_sound.ensures.crosses c.ports_and_lines_ascend.ensures c.args.image.now.config.shape) (c.the_tests_are_right.ensures.tables c.args.image.now.config.shape c.args.defects.now.list) c.args.seats.now c.requires.seats c.args.plan.now c.requires.plan c.requires.tables c.requires.pins

pub room_beside-requires-clause-plan : goal.room_beside-requires-clause-plan
room_beside-requires-clause-plan c = sized_for c.args.defects.now.list c.args.image.now c.config-config.ensures.right (numbering c.the_numbering_is_sound.ensures.numbered c.the_numbering_is_sound.ensures.tree c.the_numbering_is_sound.ensures.parents c.the_numbering_is_sound.ensures.meanings c.the_crosspoints_are_sound.ensures.taps c.the_crosspoints_are_sound.ensures.crosses c.ports_and_lines_ascend.ensures c.args.image.now.config.shape) (c.the_tests_are_right.ensures.tables c.args.image.now.config.shape c.args.defects.now.list) c.args.seats.now c.requires.seats c.args.plan.now c.requires.plan c.requires.tables c.requires.pins

pub room_beside-requires-clause-few : goal.room_beside-requires-clause-few
room_beside-requires-clause-few c = few_lists c.args.defects.now.list c.args.image.now c.args.seats.now c.args.plan.now c.in_ok-terminals.terminals.items _ c.shape.result _ c.deref.ensures.value c.wires-wires.ensures.wires (c.shape.ensures.shape ∙ c.requires.shape) c.wires-wires.ensures.few c.requires.plan c.in_ok-terminals.ensures

pub room_beside-requires-clause-within : goal.room_beside-requires-clause-within
room_beside-requires-clause-within c = subst (All (AreWires c.args.image.now.config.shape)) (sym c.deref.ensures.value) (lists_within c.args.defects.now.list c.args.image.now c.config-config.ensures.right (numbering c.the_numbering_is_sound.ensures.numbered c.the_numbering_is_sound.ensures.tree c.the_numbering_is_sound.ensures.parents c.the_numbering_is_sound.ensures.meanings c.the_crosspoints_are_sound.ensures.taps c.the_crosspoints_are_sound.ensures.crosses c.ports_and_lines_ascend.ensures c.args.image.now.config.shape) (c.the_tests_are_right.ensures.tables c.args.image.now.config.shape c.args.defects.now.list) c.args.seats.now c.requires.seats c.args.plan.now c.requires.plan c.requires.tables c.requires.pins c.in_ok-terminals.terminals.items c.in_ok-terminals.ensures)

pub returns-in-Lacks-clause-fail : goal.returns-in-Lacks-clause-fail
returns-in-Lacks-clause-fail c =
    let beside = room_beside_as c.args.defects.now.list c.args.image.now.config c.args.plan.now c.deref.result.now c.in_ok-terminals.terminals.items (need_of c.args.seats.now.tables) (need_of c.args.seats.now.pins) c.in_ok-room.room _ c.deref.ensures.value c.in-Lacks.is c.in_ok-room.ensures in
    short_plan c.args.defects.now.list c.args.image.now c.config-config.ensures.right (numbering c.the_numbering_is_sound.ensures.numbered c.the_numbering_is_sound.ensures.tree c.the_numbering_is_sound.ensures.parents c.the_numbering_is_sound.ensures.meanings c.the_crosspoints_are_sound.ensures.taps c.the_crosspoints_are_sound.ensures.crosses c.ports_and_lines_ascend.ensures c.args.image.now.config.shape) (c.the_tests_are_right.ensures.tables c.args.image.now.config.shape c.args.defects.now.list) c.args.seats.now c.requires.seats c.args.plan.now c.requires.plan c.requires.tables c.requires.pins c.in_ok-terminals.terminals.items c.in_ok-terminals.ensures beside.rest beside.left c.in-Lacks.short beside.is

pub redrawn-requires-clause-plan : goal.redrawn-requires-clause-plan
redrawn-requires-clause-plan c = sized_for c.args.defects.now.list c.args.image.now c.config-config.ensures.right (numbering c.the_numbering_is_sound.ensures.numbered c.the_numbering_is_sound.ensures.tree c.the_numbering_is_sound.ensures.parents c.the_numbering_is_sound.ensures.meanings c.the_crosspoints_are_sound.ensures.taps c.the_crosspoints_are_sound.ensures.crosses c.ports_and_lines_ascend.ensures c.args.image.now.config.shape) (c.the_tests_are_right.ensures.tables c.args.image.now.config.shape c.args.defects.now.list) c.args.seats.now c.requires.seats c.args.plan.now c.requires.plan c.requires.tables c.requires.pins

pub redrawn-requires-clause-tables : goal.redrawn-requires-clause-tables
redrawn-requires-clause-tables c = tables_apart c.args.defects.now.list c.args.image.now c.config-config.ensures.right (numbering c.the_numbering_is_sound.ensures.numbered c.the_numbering_is_sound.ensures.tree c.the_numbering_is_sound.ensures.parents c.the_numbering_is_sound.ensures.meanings c.the_crosspoints_are_sound.ensures.taps c.the_crosspoints_are_sound.ensures.crosses c.ports_and_lines_ascend.ensures c.args.image.now.config.shape) (c.the_tests_are_right.ensures.tables c.args.image.now.config.shape c.args.defects.now.list) c.args.seats.now c.requires.seats c.args.plan.now c.requires.plan c.requires.tables c.requires.pins

pub redrawn-requires-clause-pins : goal.redrawn-requires-clause-pins
redrawn-requires-clause-pins c = pins_apart c.args.defects.now.list c.args.image.now c.config-config.ensures.right (numbering c.the_numbering_is_sound.ensures.numbered c.the_numbering_is_sound.ensures.tree c.the_numbering_is_sound.ensures.parents c.the_numbering_is_sound.ensures.meanings c.the_crosspoints_are_sound.ensures.taps c.the_crosspoints_are_sound.ensures.crosses c.ports_and_lines_ascend.ensures c.args.image.now.config.shape) (c.the_tests_are_right.ensures.tables c.args.image.now.config.shape c.args.defects.now.list) c.args.seats.now c.requires.seats c.args.plan.now c.requires.plan c.requires.tables c.requires.pins

pub redrawn-requires-clause-nets : goal.redrawn-requires-clause-nets
redrawn-requires-clause-nets c = few_lists c.args.defects.now.list c.args.image.now c.args.seats.now c.args.plan.now c.in_ok-terminals.terminals.items _ c.shape.result _ refl c.wires-wires.ensures.wires (c.shape.ensures.shape ∙ c.requires.shape) c.wires-wires.ensures.few c.requires.plan c.in_ok-terminals.ensures

pub redrawn-requires-clause-wires : goal.redrawn-requires-clause-wires
redrawn-requires-clause-wires c =
    let beside = room_beside_as c.args.defects.now.list c.args.image.now.config c.args.plan.now c.deref.result.now c.in_ok-terminals.terminals.items (need_of c.args.seats.now.tables) (need_of c.args.seats.now.pins) c.in_ok-room.room _ c.deref.ensures.value c.in-Enough.is c.in_ok-room.ensures in
    redraw_wires c.args.defects.now.list c.args.image.now c.config-config.ensures.right (numbering c.the_numbering_is_sound.ensures.numbered c.the_numbering_is_sound.ensures.tree c.the_numbering_is_sound.ensures.parents c.the_numbering_is_sound.ensures.meanings c.the_crosspoints_are_sound.ensures.taps c.the_crosspoints_are_sound.ensures.crosses c.ports_and_lines_ascend.ensures c.args.image.now.config.shape) (c.the_tests_are_right.ensures.tables c.args.image.now.config.shape c.args.defects.now.list) c.args.seats.now c.requires.seats c.args.plan.now c.requires.plan c.requires.tables c.requires.pins c.in_ok-terminals.terminals.items c.in_ok-terminals.ensures beside.rest beside.left c.in-Enough.ports.items c.in-Enough.visits.items beside.is.0 beside.is.1 beside.is.2

pub returns-in-Enough : goal.returns-in-Enough
returns-in-Enough c =
    let i = c.args.image.now in
    let m = i.config.shape in
    let d = c.args.defects.now.list in
    let s = c.args.seats.now in
    let p = c.args.plan.now in
    let lists : List (List ℕ) = c.in_ok-terminals.terminals.items in
    let terms = c.in_ok-terminals.ensures in
    let ports = c.in-Enough.ports.items in
    let visits = c.in-Enough.visits.items in
    let right = c.config-config.ensures.right in
    let tests = c.the_tests_are_right.ensures.tables m d in
    let laws = numbering c.the_numbering_is_sound.ensures.numbered c.the_numbering_is_sound.ensures.tree c.the_numbering_is_sound.ensures.parents c.the_numbering_is_sound.ensures.meanings c.the_crosspoints_are_sound.ensures.taps c.the_crosspoints_are_sound.ensures.crosses c.ports_and_lines_ascend.ensures m in
    let beside = room_beside_as c.args.defects.now.list c.args.image.now.config c.args.plan.now c.deref.result.now c.in_ok-terminals.terminals.items (need_of c.args.seats.now.tables) (need_of c.args.seats.now.pins) c.in_ok-room.room _ c.deref.ensures.value c.in-Enough.is c.in_ok-room.ensures in
    let enough : IsRoom m beside.rest.list (length lists) (HasTerminal lists) (need_of s.tables) (need_of s.pins) (Enough c.in-Enough.ports c.in-Enough.visits) = beside.is in
    let made = c.redrawn.result in
    record {
      repair = IfOk-weaker made (IsRedrawn i p lists ports visits) (IsRepair d i) (repaired d i right laws tests s c.requires.seats p c.requires.plan c.requires.tables c.requires.pins lists terms beside.rest beside.left ports visits enough.0 enough.1 enough.2) c.redrawn.ensures.drawn;
      free = IfOk-weaker made (IsRedrawn i p lists ports visits) (IsFreeImage d) (repaired_free d i right laws tests s c.requires.seats p c.requires.plan c.requires.tables c.requires.pins lists terms beside.rest beside.left ports visits enough.0 enough.1 enough.2) c.redrawn.ensures.drawn;
      rows = IfOk-weaker made (IsRedrawn i p lists ports visits) (HasSameRows d i) (repaired_rows d i right laws tests s c.requires.seats p c.requires.plan c.requires.tables c.requires.pins lists terms beside.rest beside.left ports visits enough.0 enough.1 enough.2) c.redrawn.ensures.drawn;
      fail = memory_fails d i made c.redrawn.ensures.memory;
    }
