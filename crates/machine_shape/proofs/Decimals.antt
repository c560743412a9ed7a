-- How long numerals are.
use Rattle.machine_shape.proofs.Vocabulary.{ℕ, ◌<◌, ◌≤◌, length, arith, decimal, length-decimal-le}

pub seven_digits : (n : ℕ) → n < 10000000 → length (decimal n) ≤ 7
seven_digits n h = length-decimal-le 7 n (omega arith) (omega arith) (omega arith)
