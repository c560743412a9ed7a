-- What all crossbars have together.
use Rattle.std.proofs.Common.{◌≡◌, ℕ, zero, suc, ◌+◌, ◌*◌, ◌<◌, ◌≤◌, [], ◌∷◌, refl, sym, ap, ◌∙◌, arith}
use Rattle.machine_shape.proofs.Vocabulary.{mul-le-mul_left, Shape}
use Rattle.machine_shape.specs.Vocabulary.{Levels, Own, step, rest, size, place_in, Place, under, ports_in, lines_in, taps_in, crosses_in, nodes_in, wires_in, AreAmple, IsAmple, levels_of, wires_of, crosses_of, nodes_of, pins_of, taps_of, lines_of, way_to, sum_below, HasSums}
use Rattle.machine_shape.proofs.Walks.{placed, place_from}

-- sums over numbers
sum-same : (f g : ℕ → ℕ) (n : ℕ) → ((j : ℕ) → j < n → f j ≡ g j) → sum_below f n ≡ sum_below g n
sum-same f g zero h = refl
sum-same f g (suc n) h =
    let r = sum-same f g n (λ j b. h j (omega arith)) in
    let x = h n (omega arith) in omega arith

sum-add : (f : ℕ → ℕ) (a b : ℕ) → sum_below f (a + b) ≡ sum_below f a + sum_below (λ j. f (a + j)) b
sum-add f a zero = let e : a + 0 ≡ a = omega arith in ap (sum_below f) e ∙ omega arith
sum-add f a (suc b) =
    let e : a + suc b ≡ suc (a + b) = omega arith in
    let r = sum-add f a b in
    ap (sum_below f) e ∙ omega arith

sum-blocks : (f g : ℕ → ℕ) (s c : ℕ) → ((i j : ℕ) → i < c → j < s → f (i * s + j) ≡ g j) → sum_below f (c * s) ≡ c * sum_below g s
sum-blocks f g s zero h = let e : 0 * s ≡ 0 = omega arith in ap (sum_below f) e ∙ omega arith
sum-blocks f g s (suc c) h =
    let e : suc c * s ≡ c * s + s = omega arith in
    let r = sum-blocks f g s c (λ i j b l. h i j (omega arith) l) in
    let x = sum-same (λ j. f (c * s + j)) g s (λ j l. h c j (omega arith) l) in
    let a = sum-add f (c * s) s in
    ap (sum_below f) e ∙ omega arith

-- what all nodes have of their own is what the root has with all below it
nodes_sum : (own : Own) → own [] ≡ 0 → (ls : Levels) → sum_below (λ n. own (rest ls (place_in nodes_in ls n).path))
    (size nodes_in ls) ≡ size own ls
nodes_sum own z [] = sym z
nodes_sum own z (l ∷ ls) =
    let r = nodes_sum own z ls in
    let b = sum-blocks (λ k. own (rest (l ∷ ls) (place_in nodes_in (l ∷ ls) (1 + k)).path))
    (λ n. own (rest ls (place_in nodes_in ls n).path)) (size nodes_in ls) l.children child in
    let a = sum-add (λ n. own (rest (l ∷ ls) (place_in nodes_in (l ∷ ls) n).path)) 1 (l.children * size nodes_in ls) in
    let x : l.children * sum_below (λ n. own (rest ls (place_in nodes_in ls n).path)) (size nodes_in ls) ≡ l.children * size own ls =
    ap (λ (k : ℕ). l.children * k) r in
    omega arith
  where
    child : (i j : ℕ) → i < l.children → j < size nodes_in ls →
        own (rest (l ∷ ls) (place_in nodes_in (l ∷ ls) (1 + (i * size nodes_in ls + j))).path) ≡ own
        (rest ls (place_in nodes_in ls j).path)
    child i j b h =
        let p = placed nodes_in ls j h in
        let n = p.number in
        let at = place_from nodes_in {ls = l ∷ ls} {x = 1 + (i * size nodes_in ls + j)} {q = under i (place_in nodes_in ls j)}
        (record { spot = step b p.spot; within = p.within; number = omega arith }) in
        ap (λ (q : Place). own (rest (l ∷ ls) q.path)) at.1

-- taps and lines
tapped : Own
tapped ls = taps_in ls + lines_in ls

taps_bound : (ls : Levels) → size tapped ls + ports_in ls ≤ 2 * size wires_in ls
unfolding tapped
taps_bound [] = omega arith
taps_bound (l ∷ ls) =
    let r = taps_bound ls in
    let x = mul-le-mul_left l.children r in
    omega arith

nodes_bound : (ls : Levels) → AreAmple ls → 4 * size nodes_in ls ≤ size wires_in ls
nodes_bound [] h = omega arith
nodes_bound (l ∷ ls) h =
    let two = h 0 l (omega arith) in
    let r = nodes_bound ls (λ k d b. h (suc k) d (omega arith)) in
    let x = mul-le-mul_left l.children r in
    let a = two.0 in
    let b = two.1 in
    omega arith

module _ (m : Shape) where
  crosses_sum : sum_below (λ n. taps_of m n * lines_of m n) (nodes_of m) ≡ crosses_of m
  unfolding taps_of lines_of nodes_of crosses_of way_to
  crosses_sum = nodes_sum crosses_in refl (levels_of m)

  wires_sum : sum_below (λ n. taps_of m n + lines_of m n) (nodes_of m) + pins_of m ≤ 2 * wires_of m
  unfolding taps_of lines_of nodes_of wires_of pins_of way_to tapped
  wires_sum = let s = nodes_sum tapped refl (levels_of m) in let b = taps_bound (levels_of m) in omega arith

  ample_nodes : IsAmple m.counts → 4 * nodes_of m ≤ wires_of m
  unfolding nodes_of wires_of levels_of
  ample_nodes h = nodes_bound (levels_of m) h

  pub has_sums : HasSums m
  has_sums = record { crosses = crosses_sum; wires = wires_sum; nodes = ample_nodes }
