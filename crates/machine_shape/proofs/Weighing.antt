-- The walk by weights is the walk by levels.
use Rattle.std.proofs.Common.{◌≡◌, ℕ, zero, suc, ◌+◌, ◌*◌, ◌/◌, ◌%◌, ◌-◌, ◌<◌, ◌≤◌, ◌^◌, if◌then◌else◌, ltb, List, [], ◌∷◌, length, drop, refl, sym, ap, ◌∙◌, subst, arith, slice_index_or}
use Rattle.machine_shape.proofs.Vocabulary.{div-mul-add, mod-mul-add, div_below, mod_below, row_fits, Level, Shape, Crossbar, Kind}
use Rattle.machine_shape.specs.declared.way.{Weight.Weight, Weights.Weights}
use Rattle.machine_shape.specs.Vocabulary.{FitsBelow, numbers_in, levels_of, Levels, Path, Place, Own, IsSpot, stop, step, rest, next, size, start, under, place_in, wires_in, Fits, IsStep, last, further, weights_in, weights_at, place_by, start_by, each_by}
use Rattle.machine_shape.proofs.Barred.{rest-drop}
use Rattle.machine_shape.proofs.Running.{own_small, start_small}
use Rattle.machine_shape.proofs.Sites.{full_of, small_of}
use Rattle.machine_shape.proofs.Taps.{positive_from}

-- a number by its multiple and what is left
pub times_are : (n k i r : ℕ) → r < k → n ≡ i * k + r → (i ≡ n / k) × (r ≡ n % k)
times_are n k i r h e = (sym (ap (λ y. y / k) e ∙ div-mul-add i k r h), sym (ap (λ y. y % k) e ∙ mod-mul-add i k r h))

-- the wires of the children before one of them
pub child_small : (b : Crossbar) (a child most : ℕ) → FitsBelow b most → b.ports ≤ a → a < b.ports + b.children * b.each → child ≡ (a - b.ports) / b.each → child * b.step ≤ most
child_small b a child most f h w e =
    let y : ℕ = a - b.ports in
    let inside : y < b.children * b.each = omega arith in
    let less = div_below y b.each b.children (positive_from y b.children b.each inside) inside in
    let fits = row_fits (y / b.each) b.step b.children b.step less (omega arith) in
    let same : child * b.step ≡ y / b.each * b.step = ap (λ k. k * b.step) e in omega (arith, f.all, fits, same)

module _ (numbers : Own) where
  pub place_weighed : (ls : Levels) (x : ℕ) → place_by (weights_in numbers ls) x ≡ place_in numbers ls x
  place_weighed [] x = refl
  place_weighed (l ∷ ls) x = ap (λ (q : Place). if ltb x (numbers (l ∷ ls)) then record { path = []; position = x } else under ((x - numbers (l ∷ ls)) / size numbers ls) q) (place_weighed ls ((x - numbers (l ∷ ls)) % size numbers ls))

  pub start_weighed : (ls : Levels) (p : Path) → start_by (weights_in numbers ls) p ≡ start numbers ls p
  start_weighed ls [] = refl
  start_weighed [] (i ∷ p) = refl
  start_weighed (l ∷ ls) (i ∷ p) = ap (λ k. numbers (l ∷ ls) + i * size numbers ls + k) (start_weighed ls p)

  pub steps_weighed : (ls : Levels) (x : ℕ) → x < size numbers ls → IsStep (weights_in numbers ls) x
  steps_weighed [] x h = last
  steps_weighed (l ∷ ls) x h = further positive (λ e. steps_weighed ls ((x - numbers (l ∷ ls)) % size numbers ls) (mod_below (x - numbers (l ∷ ls)) (size numbers ls) (positive e)))
    where
      positive : numbers (l ∷ ls) ≤ x → 0 < size numbers ls
      positive e = positive_from (x - numbers (l ∷ ls)) l.children (size numbers ls) (omega arith)

pub each_weighed : {ls : Levels} {p : Path} → IsSpot ls p → each_by (weights_in wires_in ls) (length p) ≡ size wires_in (next (rest ls p))
each_weighed (stop {ls = []}) = omega arith
each_weighed (stop {ls = l ∷ ls}) = refl
each_weighed (step h s) = each_weighed s

-- the last step of a way goes to a table
pub start_last : (w : Weight) (p : Path) → 1 ≤ length p → w.own + slice_index_or p 0 0 * w.each ≡ start_by (w ∷ []) p
start_last w [] h = absurd (omega arith)
start_last w (i ∷ []) h = omega arith
start_last w (i ∷ j ∷ p) h = omega arith

-- each depth is as full as the first, and has no more
fits_next : (kind : Kind) (l : Level) (ls : Levels) → Fits kind (l ∷ ls) → Fits kind ls
fits_next kind l ls f = record {
  full = λ k d b. f.full (suc k) d (omega arith);
  small =
      let z = (f.full 0 l (omega arith)).2 in
      let r = row_fits 0 (size (numbers_in kind) ls) l.children (size (numbers_in kind) ls) z (omega arith) in omega (arith, f.small);
}

pub fits_drop : (kind : Kind) (n : ℕ) (ls : Levels) → Fits kind ls → Fits kind (drop n ls)
fits_drop kind zero ls f = f
fits_drop kind (suc n) [] f = f
fits_drop kind (suc n) (l ∷ ls) f = fits_drop kind n ls (fits_next kind l ls f)

pub own_fits : (kind : Kind) (ls : Levels) → Fits kind ls → numbers_in kind ls < 2 ^ 32
own_fits kind ls f = let o = own_small (numbers_in kind) ls in omega (arith, f.small)

-- what the code has of a shape's weights
pub levels_fit : (m : Shape) (kind : Kind) (ls : Levels) → ls ≡ levels_of m → Fits kind ls
levels_fit m kind ls e = subst (Fits kind) (sym e) (record { full = full_of m; small = small_of m kind })

pub root_each : (numbers : Own) (w : Weights) (ls : Levels) → weights_at w ≡ weights_in numbers ls → w.root.each ≡ size numbers (next ls)
root_each numbers w [] is = absurd (cc)
root_each numbers w (l ∷ ls) is = ap (λ (ws : List Weight). each_by ws 0) is

module _ (numbers : Own) (w : Weights) (levels ls : Levels) (is : weights_at w ≡ weights_in numbers levels) (same : levels ≡ ls) where
  these : weights_at w ≡ weights_in numbers ls
  these = is ∙ ap (weights_in numbers) same

  pub steps_here : (x : ℕ) → x < size numbers ls → IsStep (weights_at w) x
  steps_here x h = subst (λ (ws : List Weight). IsStep ws x) (sym these) (steps_weighed numbers ls x h)

  pub place_here : (x : ℕ) → place_by (weights_at w) x ≡ place_in numbers ls x
  place_here x = ap (λ (ws : List Weight). place_by ws x) these ∙ place_weighed numbers ls x

  pub start_here : (p : Path) → start_by (weights_at w) p ≡ start numbers ls p
  start_here p = ap (λ (ws : List Weight). start_by ws p) these ∙ start_weighed numbers ls p

  pub small_here : (p : Path) → IsSpot ls p → size numbers ls < 2 ^ 32 → start_by (weights_at w) p < 2 ^ 32
  small_here p s h = let b = start_small numbers s in let e = start_here p in omega arith

pub each_here : (w : Weights) (levels ls : Levels) → weights_at w ≡ weights_in wires_in levels → levels ≡ ls → (p : Path) → IsSpot ls p → each_by (weights_at w) (length p) ≡ size wires_in (next (drop (length p) ls))
each_here w levels ls is same p s =
    ap (λ (ws : List Weight). each_by ws (length p)) (is ∙ ap (weights_in wires_in) same)
    ∙ each_weighed s
    ∙ ap (λ (k : Levels). size wires_in (next k)) (rest-drop s)
