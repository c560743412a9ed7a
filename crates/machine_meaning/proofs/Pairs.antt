-- Pairs of numbers in order.
use Rattle.machine_meaning.proofs.Vocabulary.{ℕ, pair_cmp}
use Rattle.std.specs.{Cmp.IsTotalOrder, Cmp.nat_cmp_total, Ordering.nat_cmp}
use Rattle.std.proofs.lemmas.Cmp.{on_total, then_total}
use Rattle.std.proofs.lemmas.Map.Lookups.{CmpEqualImpliesEq, exact_pairs, exact_unsigned}

pub pairs_total : IsTotalOrder pair_cmp
pairs_total = then_total (on_total (λ (p : ℕ × ℕ). p.0) nat_cmp_total) (on_total (λ (p : ℕ × ℕ). p.1) nat_cmp_total)

pub pairs_exact : CmpEqualImpliesEq pair_cmp
pairs_exact = exact_pairs nat_cmp nat_cmp exact_unsigned exact_unsigned
