-- What a board in memory means.
use Rattle.std.specs.Prelude.{None}
use Rattle.rig_board.specs.Boards.{BoardState}
use Rattle.example_cases.specs.declared.rigs.memory_board.MemoryBoard.{MemoryBoard}

-- it tells no machine
abbrev pub state_of : MemoryBoard → BoardState
state_of b = record { found = b.found; in_session = b.is_set; device = None; failures = b.failures }
