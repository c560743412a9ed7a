use Rattle.std.proofs.Common.{◌<◌, ◌∙◌, length, ap, arith}
use Rattle.std.specs.Prelude.{option_map}
use Rattle.machine_shape.specs.Shape.{pins_of}
use Rattle.rig_board.proofs.OneByOne.{rows_kept, lengths_set, cycled_next}
use Rattle.example_cases.specs.MemoryBoards.{state_of}
use Rattle.example_cases.proofs.rigs.memory_board.MemoryBoardBoard.cycles.Goals as goal

pub cycle-requires-clause-read_pins : goal.cycle-requires-clause-read_pins
cycle-requires-clause-read_pins c =
    let within : c.turns.k < length c.turns.reads = omega (arith, c.turns-test.true, c.requires.as_many, c.turns.auto.reads) in
    ap (λ found. option_map pins_of found) c.turns.invariant.0
    ∙ rows_kept (option_map pins_of c.args.self.now.found) c.args.reads.now c.turns.reads c.turns.invariant.4 c.requires.read_pins
    c.turns.k c.index-reads-k.result within

pub returns-in_err-cycle-clause-lengths : goal.returns-in_err-cycle-clause-lengths
returns-in_err-cycle-clause-lengths c =
    let within : c.turns.k < length c.turns.reads = omega (arith, c.turns-test.true, c.requires.as_many, c.turns.auto.reads) in
    lengths_set c.args.reads.now c.turns.reads c.turns.k c.index-reads-k.result c.cycle.new.read within c.cycle.ensures.length c.turns.invariant.4

pub turns-preserved : goal.turns-preserved
turns-preserved c =
    let within : c.turns.k < length c.turns.reads = omega (arith, c.turns-test.true, c.requires.as_many, c.turns.auto.reads) in (
      c.cycle.ensures.found ∙ c.turns.invariant.0,
      c.in_ok-cycle.ensures.cycles.ready,
      omega (arith, c.turns.invariant.2, c.cycle.ensures.later),
      c.cycle.ensures.count,
      lengths_set c.args.reads.now c.turns.reads c.turns.k c.index-reads-k.result c.cycle.new.read within c.cycle.ensures.length c.turns.invariant.4,
      cycled_next c.args.drives.now c.turns.reads c.turns.k c.index-drives-k.result c.index-drives-k.result
          c.cycle.new.read (state_of c.args.self.now) (state_of c.turns.self) (state_of c.cycle.new.self) c.turns-test.true within c.index-drives-k.is
          c.turns.invariant.5 c.in_ok-cycle.ensures.cycles,
    )
