-- The taps of a crossbar, in ascending order.
use Rattle.std.proofs.Common.{◌≡◌, ℕ, ◌+◌, ◌*◌, ◌/◌, ◌%◌, ◌-◌, ◌<◌, ◌≤◌, ltb, [], ◌∷◌, ◌++◌, sym, ap, ◌∙◌, subst, arith}
use Rattle.machine_shape.proofs.Vocabulary.{⊎_elim, cases_lt, cases_order, lt-ltb, le-ltb, cond-true, cond-false}
use Rattle.std.proofs.lemmas.Nat.{div-mul-add, mod-mul-add, div-add-mod', div_below, mod_below, row_fits}
use Rattle.machine_shape.specs.Walk.{Levels, Path, rest, IsSpot, size, start, next, children_in, ports_in, wires_in, nodes_in, taps_in, child_port, tap_in}
use Rattle.machine_shape.proofs.Walks.{number_below}
use Rattle.machine_shape.proofs.Ways.{step_more, start_more}

-- a tap is a port of the node or of a child
pub data IsTap (ls : Levels) (p : Path) (a w : ℕ) : Type 0 where
  own_port : a < ports_in (rest ls p) → w ≡ start wires_in ls p + a → IsTap ls p a w
  port_below : (i r : ℕ) → i < children_in (rest ls p) → r < ports_in (next (rest ls p)) → a ≡ ports_in (rest ls p) + (i * ports_in (next (rest ls p)) + r) →
      w ≡ start wires_in ls (p ++ (i ∷ [])) + r → IsTap ls p a w

taps_are : (ls : Levels) → taps_in ls ≤ ports_in ls + children_in ls * ports_in (next ls)
taps_are [] = omega arith
taps_are (l ∷ ls) = omega arith

pub positive_from : (y c k : ℕ) → y < c * k → 0 < k
positive_from y c k h = ⊎_elim (λ z. z) (λ z. absurd (let q : y < c * 0 = subst (λ k. y < c * k) (omega arith) h in let none : c * 0 ≡ 0 = omega arith in omega arith)) (cases_lt 0 k)

pub tap_is : (ls : Levels) (p : Path) (a : ℕ) → a < taps_in (rest ls p) → IsTap ls p a (tap_in ls p a)
tap_is ls p a h = ⊎_elim
    (λ e. own_port e (cond-true (ltb a (ports_in (rest ls p))) _ _ (lt-ltb a _ e)))
    (λ e.
    let y : ℕ = a - ports_in (rest ls p) in
    let k : ℕ = ports_in (next (rest ls p)) in
    let most = taps_are (rest ls p) in
    let b : y < children_in (rest ls p) * k = omega arith in
    let z = positive_from y (children_in (rest ls p)) k b in
    let d = div-add-mod' y k in
    port_below (y / k) (y % k) (div_below y k (children_in (rest ls p)) z b) (mod_below y k z) (omega arith) (cond-false (ltb a (ports_in (rest ls p))) _ _ (le-ltb a _ e)))
    (cases_lt a (ports_in (rest ls p)))

pub tap_below : {ls : Levels} {p : Path} {a w : ℕ} → IsSpot ls p → IsTap ls p a w → w < size wires_in ls
tap_below {ls} {p} {a} {w} s (own_port h e) = subst (λ x. x < size wires_in ls) (sym e) (number_below wires_in s a (omega arith))
tap_below {ls} {p} {a} {w} s (port_below i r hi hr q e) =
    let more = step_more i s hi in
    subst (λ x. x < size wires_in ls) (sym e) (number_below wires_in more.0 r (let t : ports_in (rest ls (p ++ (i ∷ []))) ≡ ports_in (next (rest ls p)) = ap ports_in more.1 in omega arith))

pub ports_in_size : (ls : Levels) → ports_in ls ≤ size wires_in ls
ports_in_size [] = omega arith
ports_in_size (l ∷ ls) = omega arith

-- pairs in order stay so when the rows grow
rows_grow : (k n i r j s : ℕ) → k ≤ n → r < k → s < k → i * k + r < j * k + s → i * n + r < j * n + s
rows_grow k n i r j s h hr hs e = ⊎_elim
    (λ same. let x : i * k ≡ j * k = ap (λ y. y * k) same in let z : i * n ≡ j * n = ap (λ y. y * n) same in omega arith)
    (⊎_elim (λ lt. let x = row_fits i n j n lt (omega arith) in omega arith) (λ gt. absurd (let x = row_fits j k i k gt (omega arith) in omega arith)))
    (cases_order i j)

pub taps_ascend : {ls : Levels} {p : Path} {a b w v : ℕ} → IsSpot ls p → IsTap ls p a w → IsTap ls p b v → a < b → w < v
taps_ascend s (own_port h e) (own_port g f) lt = omega arith
taps_ascend s (own_port h e) (port_below j t hj ht q f) lt = let m = start_more wires_in j s hj in omega arith
taps_ascend s (port_below i r hi hr q e) (own_port g f) lt = absurd (omega arith)
taps_ascend {ls} {p} s (port_below i r hi hr q e) (port_below j t hj ht u f) lt =
    let m = start_more wires_in i s hi in
    let n = start_more wires_in j s hj in
    let o = rows_grow (ports_in (next (rest ls p))) (size wires_in (next (rest ls p))) i r j t (ports_in_size (next (rest ls p))) hr ht (omega arith) in omega arith

-- and the taps at their positions
pub tap_in-own : (ls : Levels) (p : Path) (a : ℕ) → a < ports_in (rest ls p) → tap_in ls p a ≡ start wires_in ls p + a
tap_in-own ls p a h = cond-true (ltb a (ports_in (rest ls p))) _ _ (lt-ltb a _ h)

pub tap_in-below : (ls : Levels) (p : Path) (i r : ℕ) → r < ports_in (next (rest ls p)) → tap_in ls p (ports_in (rest ls p) + (i * ports_in (next (rest ls p)) + r)) ≡ start wires_in ls (p ++ (i ∷ [])) + r
tap_in-below ls p i r h =
    let o : ℕ = ports_in (rest ls p) in
    let k : ℕ = ports_in (next (rest ls p)) in
    let off : o + (i * k + r) - o ≡ i * k + r = omega arith in
    cond-false (ltb (o + (i * k + r)) o) _ _ (le-ltb (o + (i * k + r)) o (omega arith))
    ∙ ap (child_port ls p) off
    ∙ ap (λ j. start wires_in ls (p ++ (j ∷ [])) + (i * k + r) % k) (div-mul-add i k r h)
    ∙ ap (λ j. start wires_in ls (p ++ (i ∷ [])) + j) (mod-mul-add i k r h)

pub own_within : (ls : Levels) → 0 < nodes_in ls → (a : ℕ) → a < ports_in ls → a < taps_in ls
own_within [] z a h = absurd (omega arith)
own_within (l ∷ ls) z a h = omega arith

pub below_within : (ls : Levels) (i r : ℕ) → i < children_in ls → r < ports_in (next ls) → ports_in ls + (i * ports_in (next ls) + r) < taps_in ls
below_within [] i r hi hr = absurd (omega arith)
below_within (l ∷ ls) i r hi hr = let x = row_fits i (ports_in ls) l.children (ports_in ls) hi (omega arith) in omega arith
