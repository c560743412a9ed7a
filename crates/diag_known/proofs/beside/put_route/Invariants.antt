use Rattle.diag_known.proofs.Vocabulary.{◌≡◌, ℕ, length, take, true, false, among, reach_at}
use Rattle.diag_known.specs.declared.beside.Reach.TheVariants as reach
use Rattle.diag_known.proofs.beside.put_route.Given as goal

abbrev pub invariant-wires : goal.invariant-wires
invariant-wires l = record {
  len : length l.reaches.items ≡ length l.fn.reaches.items;
  on : (w : ℕ) → among (take l.k l.route.wires) w ≡ true → reach_at l.reaches.items w ≡ reach.OnRoute;
  off : (w : ℕ) → among l.route.wires w ≡ false → reach_at l.reaches.items w ≡ reach_at l.fn.reaches.items w;
}
