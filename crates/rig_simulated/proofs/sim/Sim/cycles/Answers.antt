use Rattle.std.proofs.Common.{◌≡◌, ℕ, Some, ◌+◌, ◌<◌, ◌≤◌, ◌∙◌, ◌∷◌, ◌++◌, [], IsSome, IfSome, List, length, map, take, get_or, refl, sym, ap, subst, arith, option_map, slice_set}
use Rattle.rig_simulated.proofs.Vocabulary.{take_more, take_more_set, length-map, pins_of, Pins, Faults, Session, GoesOnFrom, HasGoneOn}
use Rattle.std.proofs.Math.Seq.{map-set_same}
use Rattle.machine_faults.specs.Adding.{Faulty}
use Rattle.rig_simulated.proofs.Turns.{AreUnderWay, opens, turns, ok_of, same_width, row_at, kept_row_at}
use Rattle.rig_simulated.proofs.sim.Sim.cycles.Goals as goal

pub turns-init : goal.turns-init
turns-init c = record {
  machine = c.in_ok-make_room.ensures.machine;
  session = c.in_ok-make_room.ensures.room.session;
  lengths = refl;
  under_way = opens c.args.self.now.machine.faults (length c.args.drives.now) c.args.self.now.session c.make_room.new.self.session c.in_ok-make_room.ensures.room.has_room;
}

pub cycle-requires-clause-drive : goal.cycle-requires-clause-drive
cycle-requires-clause-drive c =
    same_width c.args.self.now.machine.faults (length c.args.drives.now) c.turns.k _ _ c.args.self.now.session c.turns.self.session c.turns.invariant.session c.requires.session c.turns.invariant.under_way
    ∙ row_at (option_map (λ (s : Session). pins_of s.config.shape) c.args.self.now.session) c.args.drives.now c.turns.k c.index-drives-k.result c.requires.drives (omega arith)
    ∙ ap (λ row. Some (length row)) (sym c.index-drives-k.is)

pub cycle-requires-clause-read : goal.cycle-requires-clause-read
cycle-requires-clause-read c =
    same_width c.args.self.now.machine.faults (length c.args.drives.now) c.turns.k _ _ c.args.self.now.session c.turns.self.session c.turns.invariant.session c.requires.session c.turns.invariant.under_way
    ∙ kept_row_at (option_map (λ (s : Session). pins_of s.config.shape) c.args.self.now.session) c.args.reads.now c.turns.reads c.turns.k c.index-reads-k.result c.requires.reads c.turns.invariant.lengths (let n = c.requires.as_many in omega (arith, n))

pub turns-preserved : goal.turns-preserved
turns-preserved c =
    let f : Faults = c.args.self.now.machine.faults in
    let count : ℕ = length c.args.drives.now in
    let k : ℕ = c.turns.k in
    let many : length c.turns.reads ≡ count = sym (length-map c.turns.reads length) ∙ ap length c.turns.invariant.lengths ∙ length-map c.args.reads.now length ∙ sym c.requires.as_many in
    let drive : Pins = get_or c.args.drives.now k c.index-drives-k.result in
    let done : HasGoneOn drive c.cycle.new.read c.turns.self c.cycle.new.self = subst (λ d. HasGoneOn d c.cycle.new.read c.turns.self c.cycle.new.self) c.index-drives-k.is (ok_of c.cycle.result c.cycle.ensures.done c.is_err.result c.is_err.ensures.value c.if-is_err.false) in
    record {
      machine = c.cycle.ensures.machine ∙ c.turns.invariant.machine;
      session = done.session;
      lengths = map-set_same length c.turns.reads k c.cycle.new.read c.index-reads-k.result c.cycle.ensures.length ∙ c.turns.invariant.lengths;
      under_way = subst (λ ds. AreUnderWay f count (k + 1) ds (take (k + 1) (slice_set c.turns.reads k c.cycle.new.read)) c.args.self.now.session c.cycle.new.self.session) (sym (take_more c.args.drives.now k c.index-drives-k.result (omega arith)))
          (subst (λ rs. AreUnderWay f count (k + 1) (take k c.args.drives.now ++ drive ∷ []) rs c.args.self.now.session c.cycle.new.self.session) (sym (take_more_set c.turns.reads k c.cycle.new.read (omega (arith, many))))
          (turns f count k (take k c.args.drives.now) (take k c.turns.reads) drive c.cycle.new.read c.args.self.now.session c.turns.self.session c.cycle.new.self.session c.turns.invariant.session c.turns.invariant.under_way
          (subst (λ (m : Faulty). IfSome c.turns.self.session (λ t. IfSome c.cycle.new.self.session (λ u. GoesOnFrom m.faults drive c.cycle.new.read t u))) c.turns.invariant.machine done.goes_on)));
    }
