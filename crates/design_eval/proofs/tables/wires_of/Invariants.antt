use Rattle.std.proofs.Common.{◌≡◌, ℕ, ◌≤◌, ◌<◌, take, get_or, length}
use Rattle.design_eval.proofs.tables.wires_of.Given as goal

abbrev pub invariant-ins : goal.invariant-ins
invariant-ins l = (length l.wires ≡ 6) × (take l.k l.wires ≡ take l.k l.ins) × ((j : ℕ) → l.k ≤ j → j < 6 → get_or l.wires j 0 ≡ l.cover.out)
