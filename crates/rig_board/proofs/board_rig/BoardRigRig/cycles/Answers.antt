use Rattle.rig_board.proofs.Vocabulary.{rules, ◌≡◌, ◌∙◌, ◌≤◌, sym, ap, refl, arith, option_map, pins_of, session_of}
use Rattle.rig_board.proofs.OneByOne.{lengths_kept}
use Rattle.rig_board.proofs.Driven.{cycles_made, linked_after, linked_lost, goes_on, on_ok}
use Rattle.rig_board.proofs.Logging.{added_from, logged_ended, logged_more, logged_narrowed, past_more}
use Rattle.rig_board.proofs.board_rig.BoardRigRig.cycles.Goals as goal

pub add_all-requires-clause-reads : goal.add_all-requires-clause-reads
add_all-requires-clause-reads g c =
    lengths_kept (λ l. l ≡ pins_of c.make_room.new.self.shape) c.args.reads.now c.cycles.new.reads c.cycles.ensures.lengths (λ k d lt. search rules)

pub invariant_of-self-in-Ok-clause-linked : goal.invariant_of-self-in-Ok-clause-linked
invariant_of-self-in-Ok-clause-linked g c =
    let b = g.B.Board.board_state c.args.self.now.board in
    let after_b = g.B.Board.board_state c.cycles.new.self in
    let attached = option_map (λ m. m.shape) c.args.self.now.machine in
    let made = cycles_made c.make_room.new.self c.add_all.new.self (sym c.in-Some.ensures.value) c.args.self.now.linked
    c.in-Ok.ensures.cycles c.make_room.ensures.config c.make_room.ensures.cycles c.add_all.ensures.config c.add_all.ensures.cycles in
    linked_after c.args.drives.now c.cycles.new.reads b after_b attached c.in-Some.kept c.add_all.new.self made.0
    c.cycles.ensures.found c.cycles.ensures.faults (c.add_all.ensures.shape ∙ c.make_room.ensures.shape) c.add_all.ensures.wide made.1

pub invariant_of-self-in-Ok-clause-logged : goal.invariant_of-self-in-Ok-clause-logged
invariant_of-self-in-Ok-clause-logged g c =
    let kept = session_of c.in-Some.kept in
    let more = session_of c.add_all.new.self in
    logged_more c.args.drives.now c.cycles.new.reads kept more (ap (option_map session_of) (sym c.in-Some.ensures.value)) (c.add_all.ensures.config ∙ c.make_room.ensures.config)
    (added_from c.args.drives.now c.cycles.new.reads kept (session_of c.make_room.new.self) more c.make_room.ensures.cycles c.add_all.ensures.cycles) c.in-Ok.ensures.cycles_for_each
    c.args.self.now.logged

pub invariant_of-self-in-Err-clause-linked : goal.invariant_of-self-in-Err-clause-linked
invariant_of-self-in-Err-clause-linked g c =
    linked_lost (g.B.Board.board_state c.args.self.now.board) (g.B.Board.board_state c.cycles.new.self)
    (option_map (λ m. m.shape) c.args.self.now.machine) c.args.self.now.kept c.take.new.self c.args.self.now.linked c.cycles.ensures.found c.cycles.ensures.faults
    c.take.ensures.after

pub invariant_of-self-in-Err-clause-logged : goal.invariant_of-self-in-Err-clause-logged
invariant_of-self-in-Err-clause-logged g c =
    let ended = ap (option_map session_of) c.take.ensures.after in
    logged_narrowed ended c.cycles.ensures.narrows
    (logged_ended (past_more c.and-self.result.items c.args.self.now.past.items c.args.self.now.kept c.in-Some.kept c.make_room.new.self c.and-self.ensures (sym c.in-Some.ensures.value) c.make_room.ensures.config c.make_room.ensures.cycles) ended
    c.args.self.now.logged)

pub returns-in-Ok-clause-cycles : goal.returns-in-Ok-clause-cycles
returns-in-Ok-clause-cycles g c =
    let after_b = g.B.Board.board_state c.cycles.new.self in
    let made = cycles_made c.make_room.new.self c.add_all.new.self (sym c.in-Some.ensures.value) c.args.self.now.linked
    c.in-Ok.ensures.cycles c.make_room.ensures.config c.make_room.ensures.cycles c.add_all.ensures.config c.add_all.ensures.cycles in
    let room : (session_of c.in-Some.kept).spare ≤ (session_of c.make_room.new.self).spare
    = on_ok c.make_room.result ((session_of c.in-Some.kept).spare ≤ (session_of c.make_room.new.self).spare) (sym c.is_err.ensures.value ∙ c.if-is_err.false) c.make_room.ensures.spare in
    let added = c.add_all.ensures.spare in
    goes_on c.args.drives.now c.cycles.new.reads after_b c.in-Some.kept c.add_all.new.self _ _
    (ap (option_map session_of) (sym c.in-Some.ensures.value)) refl refl (omega (arith, room, added)) made.1 refl
