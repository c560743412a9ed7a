-- How many loads a diagnosis takes.
use Rattle.std.proofs.Common.{◌≡◌, ◌≤◌, ℕ, ◌+◌, ◌*◌, Bool, List, length, ap, ◌∙◌, subst, arith}
use Rattle.diag_machine.proofs.Vocabulary.{count_by-le-length, size_of, Shape, wires_of, IsFieldOf, pins_in, Field}

pub size_most : (set : List Bool) (n : ℕ) → length set ≡ n → size_of set ≤ n
size_most set n len = subst (λ (m : ℕ). size_of set ≤ m) len (count_by-le-length (λ b. b) set)

pub pins_same : {m n : Shape} {a b : Field} → n ≡ m → b ≡ a → pins_in n b ≡ pins_in m a
pins_same {m} {n} {a} {b} shape field = ap (λ (s : Shape). pins_in s b) shape ∙ ap (pins_in m) field

pub wires_most : {m : Shape} {a b : Field} → IsFieldOf m a → b ≡ a → size_of b.wires ≤ wires_of m
wires_most {m} {a} {b} field same = size_most b.wires (wires_of m) (ap (λ (f : Field). length f.wires) same ∙ field.wires)

-- A sweep with choices behind it, from l0 to l1 loads, growth, and what growth has lost. The crosspoints are at most cs and the wires at
-- most ws; p pins are in the field, q of them as growth counts, and w wires; for s1 wires loads were put in.
module _ (l0 l1 left0 left1 u0 u1 s0 s1 p q w cs ws : ℕ) (paid : l1 + (left1 + 2 * u1) + 14 * s0 ≤ l0 + (left0 + 2 * u0) + (p + 14 * s1)) (none : left0 ≡ 0) (first : s0 ≡ 0) (few : u0 ≤ cs) (rest : u1 ≤ cs) (pins : q ≤ w) (same : q ≡ p) (wires : w ≤ ws) (put : s1 ≤ ws) where
  pub swept_most : l1 ≤ l0 + (16 * cs + 20 * ws)
  swept_most = omega (arith, paid, none, first, few, pins, same, wires, put)

  pub grown_most : (l2 : ℕ) → l2 + q ≤ l1 + (8 * u1 + 3 * w) → l2 ≤ l0 + (16 * cs + 20 * ws)
  grown_most l2 grew = omega (arith, paid, none, first, few, rest, pins, same, wires, put, grew)

  pub known_most : (l2 l3 ct wt : ℕ) → l2 + q ≤ l1 + (8 * u1 + 3 * w) → ct ≡ cs → wt ≡ ws → l3 + 14 * s1 ≤ l2 + (left1 + (8 * ct + 3 * wt + 14 * wt)) → l3 ≤ l0 + (16 * cs + 20 * ws)
  known_most l2 l3 ct wt grew crosses lines lost = omega (arith, paid, none, first, few, rest, pins, same, wires, put, grew, crosses, lines, lost)

  module _ (unpaid : s1 ≡ s0) where
    pub swept_few : l1 ≤ l0 + (2 * cs + 3 * ws)
    swept_few = omega (arith, paid, none, first, few, pins, same, wires, unpaid)

    pub grown_few : (l2 : ℕ) → l2 + q ≤ l1 + (2 * u1 + 3 * w) → l2 ≤ l0 + (2 * cs + 3 * ws)
    grown_few l2 grew = omega (arith, paid, none, first, few, rest, pins, same, wires, unpaid, grew)

    pub known_few : (l2 l3 : ℕ) → l2 + q ≤ l1 + (2 * u1 + 3 * w) → l3 ≤ l2 → l3 ≤ l0 + (2 * cs + 3 * ws)
    known_few l2 l3 grew lost = omega (arith, paid, none, first, few, rest, pins, same, wires, unpaid, grew, lost)

-- What is taken for what growth has lost, from l0 to l1 loads, and for one growth more.
module _ (l0 l1 left0 left1 put u0 u1 s0 s1 cs ws : ℕ) (pays : put + 14 * s0 ≤ left0 + 14 * s1) (chosen : l1 + (left1 + 2 * u1) ≤ l0 + (put + 2 * u0)) (few : u0 ≤ cs) (most : s1 ≤ ws) where
  pub lost_most : l1 + 14 * s0 ≤ l0 + (left0 + (8 * cs + 3 * ws + 14 * ws))
  lost_most = omega (arith, pays, chosen, few, most)

  pub again_most : (l2 q w : ℕ) → u1 ≤ cs → w ≤ ws → l2 + q ≤ l1 + (8 * u1 + 3 * w) → l2 + 14 * s0 ≤ l0 + (left0 + (8 * cs + 3 * ws + 14 * ws))
  again_most l2 q w rest wires grew = omega (arith, pays, chosen, few, most, rest, wires, grew)
