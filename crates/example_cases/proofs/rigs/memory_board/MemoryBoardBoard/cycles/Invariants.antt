use Rattle.std.proofs.Common.{◌≡◌, ◌≤◌, ◌<◌, ◌^◌, true, take}
use Rattle.rig.specs.Rig.{KeepLengths}
use Rattle.rig_board.specs.Boards.{HasCycledAll}
use Rattle.example_cases.specs.MemoryBoards.{state_of}
use Rattle.example_cases.proofs.rigs.memory_board.MemoryBoardBoard.cycles.Given as goal

abbrev pub invariant-turns : goal.invariant-turns
invariant-turns l = (l.self.found ≡ l.initial.self.found)
    × (l.self.is_set ≡ true)
    × (l.initial.self.failures ≤ l.self.failures)
    × (l.self.failures < 2 ^ 64)
    × KeepLengths l.initial.reads l.reads
    × HasCycledAll (take l.k l.drives) (take l.k l.reads) (state_of l.initial.self) (state_of l.self)
