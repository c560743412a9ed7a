-- How many there are of each.
use Rattle.machine_shape.proofs.Vocabulary.{◌≡◌, ◌≢◌, ℕ, zero, suc, ◌<◌, ◌≤◌, [], ◌∷◌, length, take, refl, arith, Shape}
use Rattle.machine_shape.specs.Vocabulary.{levels_from, Levels, Path, size, trunk, wires_in, nodes_in, tables_in, crosses_in, levels_of, wires_of, crosses_of, tables_of, nodes_of, pins_of, ports_of, own_ports_of}
use Rattle.machine_shape.proofs.HighLimits.{pins_few}
use Rattle.machine_shape.proofs.Taps.{ports_in_size}

module _ (m : Shape) where
  pub wires_are : (size wires_in (levels_of m) ≡ wires_of m) × (wires_of m ≤ 1310720)
  unfolding wires_of levels_of
  wires_are = (refl, m.few_wires)

  pub crosses_are : (size crosses_in (levels_of m) ≡ crosses_of m) × (crosses_of m ≤ 268435456)
  unfolding crosses_of levels_of
  crosses_are = (refl, m.few_crosses)

  pub tables_are : (size tables_in (levels_of m) ≡ tables_of m) × (tables_of m ≤ 65536)
  unfolding tables_of levels_of
  tables_are = (refl, m.few_tables)

  pub nodes_are : (size nodes_in (levels_of m) ≡ nodes_of m) × (nodes_of m ≤ 1310720) × (0 < nodes_of m)
  unfolding nodes_of levels_of levels_from
  nodes_are = (refl, m.few_nodes, omega arith)

  pub pins_are : (m.counts.pins ≡ pins_of m) × (0 < pins_of m) × (pins_of m ≤ wires_of m) × (pins_of m ≤ 16384)
  unfolding pins_of wires_of levels_of levels_from
  pins_are = (refl, (m.full 0 (record { ports = 0; lines = 0; children = 0 }) (omega arith)).0, ports_in_size (levels_from m.counts), pins_few m)

  pub root_ports : own_ports_of m 0 ≡ 0
  unfolding own_ports_of
  root_ports = refl

  pub other_ports : (n : ℕ) → n ≢ 0 → own_ports_of m n ≡ ports_of m n
  unfolding own_ports_of
  other_ports zero h = absurd (h refl)
  other_ports (suc n) h = refl

  -- a node has only ports that are among its crossbar's
  pub ports_within : (n k : ℕ) → k < own_ports_of m n → (0 < n) × (k < ports_of m n)
  unfolding own_ports_of
  ports_within zero k h = absurd (omega arith)
  ports_within (suc n) k h = (omega arith, h)

  pub four_levels : length (levels_of m) ≡ 4
  unfolding levels_of levels_from
  four_levels = refl

-- the trunk of a way, as a part of it
pub trunk-take : (ls : Levels) → length ls ≡ 4 → (p : Path) → trunk ls p ≡ take 3 p
trunk-take [] h p = absurd (omega arith)
trunk-take (l ∷ []) h p = absurd (omega arith)
trunk-take (l ∷ k ∷ []) h p = absurd (omega arith)
trunk-take (l ∷ k ∷ i ∷ []) h p = absurd (omega arith)
trunk-take (l ∷ k ∷ i ∷ j ∷ n ∷ ls) h p = absurd (omega arith)
trunk-take (l ∷ k ∷ i ∷ j ∷ []) h [] = refl
trunk-take (l ∷ k ∷ i ∷ j ∷ []) h (a ∷ []) = refl
trunk-take (l ∷ k ∷ i ∷ j ∷ []) h (a ∷ b ∷ []) = refl
trunk-take (l ∷ k ∷ i ∷ j ∷ []) h (a ∷ b ∷ c ∷ p) = refl
