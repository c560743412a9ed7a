-- How long the names of wires and tables are at most: what has many digits at one step has few at the others.
use Rattle.std.proofs.Common.{◌≡◌, ℕ, zero, suc, ◌+◌, ◌-◌, ◌*◌, ◌^◌, ◌<◌, ◌≤◌, ◌==◌, Bool, true, false, nat_lt, if◌then◌else◌, List, [], ◌∷◌, ◌++◌, length, get_or, refl, sym, ap, ◌∙◌, subst, inl, inr, ◌⊎◌, arith, length-append, le_trans, lt_trans, le_refl, mul-le-mul, mul_assoc, one-mul, le_of_eq, pow-add, All}
use Rattle.machine_shape.proofs.Vocabulary.{decimal, decimal_nonempty, length-decimal-le, cases_lt, pow-le-pow_right, Shape}
use Rattle.machine_shape.specs.Vocabulary.{Levels, Path, IsSpot, stop, step, rest, size, wires_in, levels_of, wires_of, tables_of, way_to_table, place_of, numbered, inner_letters, steps_name, way_name, port_letter, part_name, wire_name, table_name}
use Rattle.machine_shape.proofs.Numbering.{table_way_is}
use Rattle.machine_shape.proofs.Whereabouts.{wire_placed}
use Rattle.machine_shape.proofs.Naming.{wire_steps, table_steps, wire_name-place, table_name-way}
use Rattle.machine_shape.proofs.Totals.{wires_are, four_levels}

-- the digits of a number beyond its first, and of all steps of a way
abbrev further : ℕ → ℕ
further n = length (decimal n) - 1

further_in : Path → ℕ
further_in [] = 0
further_in (i ∷ p) = further i + further_in p

-- a number with so many digits isn't below less
few_digits : (n most : ℕ) → n < most → n < 2 ^ 64 → 10 ^ further n ≤ most
few_digits n most h small = by_order (cases_lt most (10 ^ further n))
  where
    by_digits : (k : ℕ) → further n ≡ k → n < 10 ^ further n → 10 ^ further n ≤ most
    by_digits zero e lt = subst (λ k. 10 ^ k ≤ most) (sym e) (let one : 1 ≤ most = omega (arith, h) in one)
    by_digits (suc k) e lt =
        let d = length-decimal-le (further n) n (omega (arith, e)) lt small in
        let some = decimal_nonempty n small in absurd (let no : ⊥ = omega (arith, d, some, e) in no)

    by_order : (most < 10 ^ further n) ⊎ (10 ^ further n ≤ most) → 10 ^ further n ≤ most
    by_order (inr le) = le
    by_order (inl lt) = by_digits (further n) refl (lt_trans h lt)

-- ---- ways

-- each further digit of a step leaves a tenth of the wires below it
far : {ls : Levels} {p : Path} → IsSpot ls p → All (λ i. i < 2 ^ 64) p → 10 ^ further_in p * size wires_in (rest ls p) ≤ size wires_in ls
unfolding further_in
far stop small = le_of_eq (one-mul _)
far (step {l} {ls} {i} {p} h s) small =
    let r = far s (λ k d b. small (suc k) d (omega (arith, b))) in
    let d = few_digits i l.children h (small 0 0 (omega arith)) in
    let e : 10 ^ (further i + further_in p) * size wires_in (rest ls p) ≡ 10 ^ further i * (10 ^ further_in p * size wires_in (rest ls p)) = ap (λ n. n * size wires_in (rest ls p)) (pow-add 10 (further i) (further_in p)) ∙ mul_assoc (10 ^ further i) (10 ^ further_in p) (size wires_in (rest ls p)) in
    let z = mul-le-mul d r in
    omega (arith, e, z)

spot_long : {ls : Levels} {p : Path} → IsSpot ls p → length p ≤ length ls
spot_long stop = omega arith
spot_long (step h s) = let r = spot_long s in omega (arith, r)

steps_long : (letters : List ℕ) (p : Path) → length (steps_name letters p) ≤ 3 * length p + further_in p
unfolding further_in
steps_long letters [] = omega arith
steps_long [] (i ∷ p) = omega arith
steps_long (c ∷ letters) (i ∷ p) =
    let r = steps_long letters p in
    let n = length-append (numbered c i) (steps_name letters p) in
    omega (arith, r, n)

way_long : (p : Path) → length (way_name p) ≤ 3 * length p + further_in p + 1
unfolding further_in
way_long [] = omega arith
way_long (i ∷ p) =
    let r = steps_long inner_letters p in
    let n = length-append (numbered 109 i) (steps_name inner_letters p) in
    omega (arith, r, n)

-- ---- parts

own_within : (ls : Levels) → wires_in ls ≤ size wires_in ls
own_within [] = le_refl _
own_within (l ∷ ls) = omega arith

abbrev IsFew : ℕ → List ℕ → Type 0
IsFew most part = 10 ^ (length part - 2) ≤ most

either_few : (most : ℕ) (b : Bool) (u v : List ℕ) → IsFew most u → IsFew most v → IsFew most (if b then u else v)
either_few most true u v p q = p
either_few most false u v p q = q

numbered_few : (most letter n : ℕ) → n < most → n < 2 ^ 64 → IsFew most (numbered letter n)
numbered_few most letter n h small =
    let e : length (numbered letter n) - 2 ≡ further n = omega arith in
    subst (λ k. 10 ^ k ≤ most) (sym e) (few_digits n most h small)

output_few : (most : ℕ) → 1 ≤ most → IsFew most (113 ∷ [])
output_few most h = h

part_few : (letter : ℕ) (ls : Levels) (k : ℕ) → k < wires_in ls → k < 2 ^ 63 → IsFew (wires_in ls) (part_name letter ls k)
part_few letter [] k h small = either_few 7 (k == 6) (113 ∷ []) (numbered 105 k) (output_few 7 (omega arith)) (numbered_few 7 105 k h (omega (arith, small)))
part_few letter (l ∷ ls) k h small =
    either_few (wires_in (l ∷ ls)) (nat_lt k l.ports) (numbered letter k) (numbered 108 (k - l.ports)) (numbered_few (wires_in (l ∷ ls)) letter k h (omega (arith, small)))
    (numbered_few (wires_in (l ∷ ls)) 108 (k - l.ports) (omega (arith, h)) (omega (arith, small)))

-- seven further digits aren't there for so few wires
six_more : (n wires : ℕ) → 10 ^ n ≤ wires → wires ≤ 1310720 → n ≤ 6
six_more n wires h few = by_order (cases_lt 6 n)
  where
    by_order : (6 < n) ⊎ (n ≤ 6) → n ≤ 6
    by_order (inr le) = le
    by_order (inl lt) =
        let far : 10 ^ 7 ≤ 10 ^ n = pow-le-pow_right (let ten : 0 < 10 = omega arith in ten) lt in
        let much : 10 ^ 7 ≤ 1310720 = le_trans far (le_trans h few) in
        absurd (let no : ⊥ = omega (arith, much) in no)

module _ (m : Shape) where
  wide : (p : Path) (most : ℕ) → most ≤ 2 ^ 60 → All (λ i. i < most) p → All (λ i. i < 2 ^ 64) p
  wide p most few small k d b = let h = small k d b in omega (arith, h, few)

  pub short_wire_name : (w : ℕ) → w < wires_of m → length (wire_name m w) ≤ 24
  short_wire_name w lt =
      let placed = wire_placed m w lt in
      let steps = wire_steps m w lt in
      let p : Path = (place_of m w).path in
      let below : Levels = rest (levels_of m) p in
      let part : List ℕ = part_name (port_letter p) below (place_of m w).position in
      let around = far placed.spot (wide p 10000000 (omega arith) steps.0) in
      let own : IsFew (wires_in below) part = part_few (port_letter p) below (place_of m w).position placed.within (omega (arith, steps.1)) in
      let inner = mul-le-mul (le_refl (10 ^ further_in p)) (le_trans own (own_within below)) in
      let all : 10 ^ (further_in p + (length part - 2)) ≤ wires_of m = subst (λ n. n ≤ wires_of m) (sym (pow-add 10 (further_in p) (length part - 2))) (le_trans inner (le_trans around (le_of_eq (wires_are m).0))) in
      let few = six_more (further_in p + (length part - 2)) (wires_of m) all (omega (arith, (wires_are m).1)) in
      let long = way_long p in
      let deep = spot_long placed.spot in
      let n = length-append (way_name p) (46 ∷ part) in
      let c = ap length (wire_name-place m w) in
      omega (arith, few, long, deep, four_levels m, n, c)

  pub short_table_name : (t : ℕ) → t < tables_of m → length (table_name m t) ≤ 24
  short_table_name t lt =
      let way = table_way_is m t lt in
      let p : Path = way_to_table m t in
      let around = far way.0 (wide p 10000000 (omega arith) (table_steps m t lt)) in
      let rest_is : size wires_in (rest (levels_of m) p) ≡ 7 = ap (size wires_in) way.1 in
      let seven : 10 ^ further_in p * 7 ≤ size wires_in (levels_of m) = subst (λ n. 10 ^ further_in p * n ≤ size wires_in (levels_of m)) rest_is around in
      let all : 10 ^ further_in p ≤ wires_of m = omega (arith, seven, (wires_are m).0) in
      let few = six_more (further_in p) (wires_of m) all (omega (arith, (wires_are m).1)) in
      let long = way_long p in
      let deep = spot_long way.0 in
      let c = ap length (table_name-way m t) in
      omega (arith, few, long, deep, four_levels m, c)
