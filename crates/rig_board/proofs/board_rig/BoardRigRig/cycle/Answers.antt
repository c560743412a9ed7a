use Rattle.rig_board.proofs.Vocabulary.{[], ◌∷◌, ◌+◌, ◌≤◌, ◌∙◌, ap, arith, length, option_map, refl, subst, sym, Pins, Configuration}
use Rattle.rig_board.proofs.Vocabulary.{session_of}
use Rattle.rig_board.specs.Machines.{EachWas, GoesOnBy}
use Rattle.rig_board.proofs.Driven.{added_pair, cycled_one, cycles_made, goes_on, goes_on_one, linked_after, wide_rows}
use Rattle.rig_board.proofs.Logging.{added_one, logged_ended, logged_more, logged_narrowed, past_more}
use Rattle.rig_board.proofs.board_rig.BoardRigRig.cycle.Goals as goal

pub invariant_of-self-in-Ok-cycle-clause-linked : goal.invariant_of-self-in-Ok-cycle-clause-linked
invariant_of-self-in-Ok-cycle-clause-linked g c =
    let drive = c.copy_from.new.self in
    let b = g.B.Board.board_state c.args.self.now.board in
    let after_b = g.B.Board.board_state c.cycle.new.self in
    let attached = option_map (λ m. m.shape) c.args.self.now.machine in
    let made = cycles_made c.next_row.new.self c.add.new.self (sym c.in-Some.ensures.value) c.args.self.now.linked
    (cycled_one c.args.drive.now drive c.cycle.new.read b after_b c.copy_from.ensures c.in-Ok-cycle.ensures.cycles) c.next_row.ensures.config
    c.next_row.ensures.cycles c.add.ensures.config
    (added_pair drive c.cycle.new.read (session_of c.next_row.new.self) (session_of c.add.new.self) c.add.ensures.cycles) in
    let shape = ap (λ (x : Configuration). x.shape) (c.add.ensures.config ∙ c.next_row.ensures.config) in
    linked_after (drive ∷ []) (c.cycle.new.read ∷ []) b after_b attached c.in-Some.kept c.add.new.self made.0
    c.cycle.ensures.found c.cycle.ensures.faults shape
    (wide_rows c.args.self.now.kept c.in-Some.kept c.next_row.new.self c.add.new.self c.len.result (length c.args.drive.now) c.in-Some.ensures.value
    c.requires.drive_pins c.len.ensures shape (ap (λ v. v.items) c.add.ensures.blank) c.next_row.ensures.wide) made.1

pub invariant_of-self-in-Ok-cycle-clause-logged : goal.invariant_of-self-in-Ok-cycle-clause-logged
invariant_of-self-in-Ok-cycle-clause-logged g c =
    let kept = session_of c.in-Some.kept in
    let more = session_of c.add.new.self in
    logged_more (c.copy_from.new.self ∷ []) (c.cycle.new.read ∷ []) kept more (ap (option_map session_of) (sym c.in-Some.ensures.value)) (c.add.ensures.config ∙ c.next_row.ensures.config)
    (added_one c.copy_from.new.self c.cycle.new.read kept (session_of c.next_row.new.self) more c.next_row.ensures.cycles c.add.ensures.cycles)
    (subst (λ (d : Pins). EachWas (GoesOnBy (d ∷ []) (c.cycle.new.read ∷ [])) (g.B.Board.may_be c.args.self.now.board) (g.B.Board.may_be c.cycle.new.self)) (sym c.copy_from.ensures)
    c.in-Ok-cycle.ensures.cycles_for_each) c.args.self.now.logged

pub invariant_of-self-in-Err-clause-logged : goal.invariant_of-self-in-Err-clause-logged
invariant_of-self-in-Err-clause-logged g c =
    let ended = ap (option_map session_of) c.take.ensures.after in
    logged_narrowed ended c.cycle.ensures.narrows
    (logged_ended (past_more c.and-self.result.items c.args.self.now.past.items c.args.self.now.kept c.in-Some.kept c.next_row.new.self c.and-self.ensures (sym c.in-Some.ensures.value) c.next_row.ensures.config c.next_row.ensures.cycles) ended c.args.self.now.logged)

pub returns-in-Ok-cycle-clause-cycles : goal.returns-in-Ok-cycle-clause-cycles
returns-in-Ok-cycle-clause-cycles g c =
    let drive = c.copy_from.new.self in
    let after_b = g.B.Board.board_state c.cycle.new.self in
    let made = cycles_made c.next_row.new.self c.add.new.self (sym c.in-Some.ensures.value) c.args.self.now.linked
    (cycled_one c.args.drive.now drive c.cycle.new.read (g.B.Board.board_state c.args.self.now.board) after_b c.copy_from.ensures c.in-Ok-cycle.ensures.cycles) c.next_row.ensures.config
    c.next_row.ensures.cycles c.add.ensures.config
    (added_pair drive c.cycle.new.read (session_of c.next_row.new.self) (session_of c.add.new.self) c.add.ensures.cycles) in
    let room : (session_of c.in-Some.kept).spare ≤ (session_of c.add.new.self).spare + 1 = omega (arith, c.in-Ok.ensures.spare, c.add.ensures.spare) in
    goes_on_one c.args.drive.now drive c.copy_from-in-Ok-cycle.new.self c.cycle.new.read _ _ c.copy_from.ensures c.copy_from-in-Ok-cycle.ensures
    (goes_on (drive ∷ []) (c.cycle.new.read ∷ []) after_b c.in-Some.kept c.add.new.self _ _ (ap (option_map session_of) (sym c.in-Some.ensures.value)) refl refl room made.1 refl)
