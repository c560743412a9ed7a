-- The ways to nodes, tables and taps.
use Rattle.std.proofs.Common.{◌≡◌, ◌⊎◌, ℕ, suc, ◌+◌, ◌*◌, ◌<◌, [], ◌∷◌, ◌++◌, length, refl, sym, ap, ◌∙◌, inl, inr, arith}
use Rattle.machine_shape.specs.Walk.{Levels, Path, rest, IsSpot, stop, step, Own, size, start, Place, IsPlaceOf, place_in, above, trunk, next, children_in, lines_in, nodes_in, tables_in}
use Rattle.machine_shape.proofs.Walks.{place_from, placed}

-- the way ends at a node
abbrev pub IsNode : Levels → Path → Type 0
IsNode ls p = 0 < nodes_in (rest ls p)

pub one_number : (ls : Levels) (k : ℕ) → k < nodes_in ls → k ≡ 0
one_number [] k h = omega arith
one_number (l ∷ ls) k h = omega arith

pub one_number_table : (ls : Levels) (k : ℕ) → k < tables_in ls → (k ≡ 0) × (nodes_in ls ≡ 0)
one_number_table [] k h = (omega arith, refl)
one_number_table (l ∷ ls) k h = absurd (omega arith)

pub node_has : (ls : Levels) → 0 < lines_in ls → 0 < nodes_in ls
node_has [] h = h
node_has (l ∷ ls) h = omega arith

-- without its last step a way leads to a node
pub above_is_spot : {ls : Levels} (p : Path) → IsSpot ls p → IsSpot ls (above p)
above_is_spot [] s = stop
above_is_spot (i ∷ []) s = stop
above_is_spot (i ∷ j ∷ p) (step h s) = step h (above_is_spot (j ∷ p) s)

pub above_is_node : {ls : Levels} (i : ℕ) (p : Path) → IsSpot ls (i ∷ p) → IsNode ls (above (i ∷ p))
above_is_node i [] (step h s) = omega arith
above_is_node i (j ∷ p) (step h s) = above_is_node j p s

pub length-above : (i : ℕ) (p : Path) → length (i ∷ p) ≡ suc (length (above (i ∷ p)))
length-above i [] = refl
length-above i (j ∷ p) = ap suc (length-above j p)

-- the trunk of a way
pub trunk_is_spot : {ls : Levels} {p : Path} → IsSpot ls p → IsSpot ls (trunk ls p)
trunk_is_spot (stop {ls = []}) = stop
trunk_is_spot (stop {ls = l ∷ []}) = stop
trunk_is_spot (stop {ls = l ∷ k ∷ ls}) = stop
trunk_is_spot (step {ls = []} h s) = stop
trunk_is_spot (step {ls = k ∷ ls} h s) = step h (trunk_is_spot s)

pub trunk_is_node : (ls : Levels) (p : Path) → 0 < nodes_in ls → IsNode ls (trunk ls p)
trunk_is_node [] p h = h
trunk_is_node (l ∷ []) p h = h
trunk_is_node (l ∷ k ∷ ls) [] h = h
trunk_is_node (l ∷ k ∷ ls) (i ∷ p) h = trunk_is_node (k ∷ ls) p (omega arith)

pub trunk-node : {ls : Levels} {p : Path} → IsSpot ls p → IsNode ls p → trunk ls p ≡ p
trunk-node (stop {ls = []}) n = refl
trunk-node (stop {ls = l ∷ []}) n = refl
trunk-node (stop {ls = l ∷ k ∷ ls}) n = refl
trunk-node (step {ls = []} h (stop)) n = absurd (omega arith)
trunk-node (step {ls = k ∷ ls} {i = i} h s) n = ap (λ q. i ∷ q) (trunk-node s n)

-- one step more
pub step_more : {ls : Levels} {p : Path} (i : ℕ) → IsSpot ls p → i < children_in (rest ls p) → IsSpot ls (p ++ (i ∷ [])) × (rest ls (p ++ (i ∷ [])) ≡ next (rest ls p))
step_more i (stop {ls = []}) h = absurd (omega arith)
step_more i (stop {ls = l ∷ []}) h = (step h stop, refl)
step_more i (stop {ls = l ∷ k ∷ ls}) h = (step h stop, refl)
step_more i (step b s) h = let r = step_more i s h in (step b r.0, r.1)

pub start_more : (own : Own) {ls : Levels} {p : Path} (i : ℕ) → IsSpot ls p → i < children_in (rest ls p) → start own ls (p ++ (i ∷ [])) ≡ start own ls p + (own (rest ls p) + i * size own (next (rest ls p)))
start_more own i (stop {ls = []}) h = absurd (omega arith)
start_more own i (stop {ls = l ∷ []}) h = omega arith
start_more own i (stop {ls = l ∷ k ∷ ls}) h = omega arith
start_more own i (step b s) h = let r = start_more own i s h in omega arith

-- ways to nodes and numbers of nodes
pub node_way : (ls : Levels) (n : ℕ) → n < size nodes_in ls → IsSpot ls (place_in nodes_in ls n).path × IsNode ls (place_in nodes_in ls n).path × (start nodes_in ls (place_in nodes_in ls n).path ≡ n)
node_way ls n h = let r = placed nodes_in ls n h in let z = one_number (rest ls (place_in nodes_in ls n).path) (place_in nodes_in ls n).position r.within in let e = r.number in let w = r.within in (r.spot, omega arith, omega arith)

pub way_node : (ls : Levels) (p : Path) → IsSpot ls p → IsNode ls p → (start nodes_in ls p < size nodes_in ls) × ((place_in nodes_in ls (start nodes_in ls p)).path ≡ p)
way_node ls p s n = let r = place_from nodes_in {ls = ls} {x = start nodes_in ls p} {q = record { path = p; position = 0 }} (record { spot = s; within = n; number = omega arith }) in (r.0, ap (λ q. q.path) r.1)

no_levels : (ls : Levels) (k : ℕ) → k < tables_in ls → ls ≡ []
no_levels [] k h = refl
no_levels (l ∷ ls) k h = absurd (omega arith)

pub table_way : (ls : Levels) (t : ℕ) → t < size tables_in ls → IsSpot ls (place_in tables_in ls t).path × (rest ls (place_in tables_in ls t).path ≡ []) × (start tables_in ls (place_in tables_in ls t).path ≡ t)
table_way ls t h = let r = placed tables_in ls t h in let z = one_number_table (rest ls (place_in tables_in ls t).path) (place_in tables_in ls t).position r.within in let y = z.0 in let e = r.number in
    (r.spot, no_levels _ _ r.within, omega arith)

pub no_table_is_node : (ls : Levels) (p q : Path) → IsNode ls p → rest ls q ≡ [] → p ≡ q → ⊥
no_table_is_node ls p q n e s = let none : nodes_in (rest ls q) ≡ 0 = ap nodes_in e in let same : nodes_in (rest ls p) ≡ nodes_in (rest ls q) = ap (λ x. nodes_in (rest ls x)) s in omega arith

pub place_unique : (own : Own) (ls : Levels) (x y : ℕ) (q r : Place) → x ≡ y → IsPlaceOf own ls x q → IsPlaceOf own ls y r → q ≡ r
place_unique own ls x y q r e a b = sym (place_from own a).1 ∙ ap (place_in own ls) e ∙ (place_from own b).1

pub way_table : (ls : Levels) (p : Path) → IsSpot ls p → rest ls p ≡ [] → (start tables_in ls p < size tables_in ls) × ((place_in tables_in ls (start tables_in ls p)).path ≡ p)
way_table ls p s n = let e : tables_in (rest ls p) ≡ 1 = ap tables_in n in
    let r = place_from tables_in {ls = ls} {x = start tables_in ls p} {q = record { path = p; position = 0 }} (record { spot = s; within = omega arith; number = omega arith }) in (r.0, ap (λ q. q.path) r.1)

-- a way that ends at a table or at a node
pub ends_at : (ls : Levels) → (ls ≡ []) ⊎ (0 < nodes_in ls)
ends_at [] = inl refl
ends_at (l ∷ ls) = inr (omega arith)

pub below_the_root : {ls : Levels} {i : ℕ} {p : Path} → IsSpot ls (i ∷ p) → 0 < start nodes_in ls (i ∷ p)
below_the_root (step h s) = omega arith

pub above-more : (p : Path) (i : ℕ) → above (p ++ (i ∷ [])) ≡ p
above-more [] i = refl
above-more (j ∷ []) i = refl
above-more (j ∷ k ∷ p) i = ap (λ q. j ∷ q) (above-more (k ∷ p) i)

pub trunk-more : {ls : Levels} {p : Path} (i : ℕ) → IsSpot ls p → i < children_in (rest ls p) → next (rest ls p) ≡ [] → trunk ls (p ++ (i ∷ [])) ≡ p
trunk-more i (stop {ls = []}) h e = refl
trunk-more i (stop {ls = l ∷ []}) h e = refl
trunk-more i (stop {ls = l ∷ k ∷ ls}) h e = absurd (cc)
trunk-more i (step {ls = []} b stop) h e = absurd (omega arith)
trunk-more i (step {ls = k ∷ ls} {i = j} b s) h e = ap (λ q. j ∷ q) (trunk-more i s h e)

-- a way that is not empty has a last step
pub last_step : (ls : Levels) (p : Path) (i : ℕ) → IsSpot ls (i ∷ p) → (j : ℕ) × (j < children_in (rest ls (above (i ∷ p)))) × (i ∷ p ≡ above (i ∷ p) ++ (j ∷ []))
last_step [] p i s = elim s [ ]
last_step (l ∷ ls) [] i (step h s) = (i, h, refl)
last_step (l ∷ ls) (k ∷ p) i (step h s) = let r = last_step ls p k s in (r.0, r.1, ap (λ q. i ∷ q) r.2)

pub trunk_last : {ls : Levels} {p : Path} → IsSpot ls p → rest ls p ≡ [] → 0 < nodes_in ls → (j : ℕ) × (j < children_in (rest ls (trunk ls p))) × (p ≡ trunk ls p ++ (j ∷ [])) × (next (rest ls (trunk ls p)) ≡ [])
trunk_last {ls} stop e z = absurd (let x : nodes_in ls ≡ 0 = ap nodes_in e in omega arith)
trunk_last (step {ls = []} {i = i} h stop) e z = (i, h, refl, refl)
trunk_last (step {ls = k ∷ ls} {i = i} h s) e z = let r = trunk_last s e (omega arith) in (r.0, r.1, ap (λ q. i ∷ q) r.2, r.3)
