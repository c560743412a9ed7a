use Rattle.rig_simulated.proofs.Vocabulary.{◌≡◌, ℕ, All, map, take, unwrap_or, wires_of, tables_of, HasRoots, Fits, IsGate}
use Rattle.rig_simulated.proofs.board.fill_gates.Given as goal

abbrev pub invariant-tables : goal.invariant-tables
invariant-tables l = record {
  tables : map (λ x. x.table) l.gates.items ≡ take l.i l.tables;
  fits : All (Fits (tables_of l.faults.shape) (wires_of l.faults.shape)) l.gates.items;
  gates : (most : ℕ) (root : ℕ → ℕ) → HasRoots l.knots most root → All (IsGate l.faults.faults l.config.config root) l.gates.items;
  first : All (λ x. x.output ≡ unwrap_or x.held x.setting.init) l.gates.items;
}
