-- Crossbars as the code keeps them.
use Rattle.std.proofs.Common.{◌≡◌, ℕ, suc, ◌+◌, ◌*◌, ◌/◌, ◌%◌, ◌-◌, ◌<◌, ◌≤◌, ◌^◌, ltb, [], ◌∷◌, length, drop, refl, sym, ap, ◌∙◌, subst, arith}
use Rattle.machine_shape.proofs.Vocabulary.{⊎_elim, cases_lt, lt-ltb, le-ltb, cond-true, cond-false, Shape, Crossbar}
use Rattle.std.proofs.lemmas.Nat.{div-mul-add, mod-mul-add, div-add-mod', div_below, mod_below, row_fits}
use Rattle.machine_shape.specs.Vocabulary.{AreFull, IsBarAt, IsBarFrom, IsNodeBar, FitsBelow, tap_by, Levels, Path, rest, IsSpot, stop, step, size, start, next, children_in, ports_in, lines_in, wires_in, taps_in, nodes_in, tap_in, levels_of, wires_of, nodes_of, way_to, ports_of, lines_of, taps_of, tap_at, line_at, port_at}
use Rattle.machine_shape.proofs.Taps.{positive_from, ports_in_size, tap_in-own, tap_in-below}
use Rattle.machine_shape.proofs.Ways.{start_more}
use Rattle.machine_shape.proofs.Numbering.{way_is}
use Rattle.machine_shape.proofs.Sites.{full_of}

pub rest-drop : {ls : Levels} {p : Path} → IsSpot ls p → rest ls p ≡ drop (length p) ls
rest-drop stop = refl
rest-drop (step {l} {ls} {i} {p} h s) = rest-drop s

-- a node's wires, and all below it, are numbers below the size
pub all_below : {ls : Levels} {p : Path} → IsSpot ls p → start wires_in ls p + size wires_in (rest ls p) ≤ size wires_in ls
all_below stop = omega arith
all_below (step {l} {ls} {i} h s) = let r = all_below s in let f = row_fits i (size wires_in ls) l.children (size wires_in ls) h (omega arith) in omega arith

size-next : (ls : Levels) → ports_in ls + lines_in ls + children_in ls * size wires_in (next ls) ≤ size wires_in ls
size-next [] = omega arith
size-next (l ∷ ls) = omega arith

taps-next : (ls : Levels) → 0 < children_in ls → taps_in ls ≡ ports_in ls + children_in ls * ports_in (next ls)
taps-next [] h = absurd (omega arith)
taps-next (l ∷ ls) h = refl

pub fits_bar : (ls : Levels) (p : Path) (b : Crossbar) (most : ℕ) → most ≡ size wires_in ls → IsSpot ls p → IsBarAt ls p b → FitsBelow b most
fits_bar ls p b most e s is =
    let a = all_below s in
    let n = size-next (rest ls p) in
    let k : b.children * b.step ≡ children_in (rest ls p) * size wires_in (next (rest ls p)) = cc (is.children, is.step) in
    record {
      all = omega (arith, is.first, is.ports, is.lines);
      each = let w = ports_in_size (next (rest ls p)) in omega (arith, is.each, is.step);
    }

pub spot_short : {ls : Levels} {p : Path} → IsSpot ls p → length p ≤ length ls
spot_short stop = omega arith
spot_short (step h s) = let r = spot_short s in omega arith

-- the levels of a node are as full, and as small, as all
pub full_rest : {ls : Levels} {p : Path} → IsSpot ls p → AreFull ls → AreFull (rest ls p)
full_rest stop f = f
full_rest (step h s) f = full_rest s (λ k d b. f (suc k) d (omega arith))

pub bar_at : (ls below : Levels) (p : Path) (first : ℕ) (b : Crossbar) → IsSpot ls p → below ≡ drop (length p) ls → first ≡ start wires_in ls p → IsBarFrom below first b → IsBarAt ls p b
bar_at ls below p first b s e f is = subst (λ k. IsBarFrom k (start wires_in ls p) b) (e ∙ sym (rest-drop s)) (subst (λ k. IsBarFrom below k b) f is)

-- the taps of a bar, from their positions and back
module _ (b : Crossbar) where
  tap_by-own : (a : ℕ) → a < b.ports → tap_by b a ≡ b.first + a
  tap_by-own a h = cond-true (ltb a b.ports) _ _ (lt-ltb a b.ports h)

  tap_by-below : (i r : ℕ) → r < b.each → tap_by b (b.ports + (i * b.each + r)) ≡ b.first + b.ports + b.lines + i * b.step + r
  tap_by-below i r h =
      let off : b.ports + (i * b.each + r) - b.ports ≡ i * b.each + r = omega arith in
      cond-false (ltb (b.ports + (i * b.each + r)) b.ports) _ _ (le-ltb _ b.ports (omega arith))
      ∙ ap (λ y. b.first + b.ports + b.lines + y / b.each * b.step + y % b.each) off
      ∙ ap (λ y. b.first + b.ports + b.lines + y * b.step + (i * b.each + r) % b.each) (div-mul-add i b.each r h)
      ∙ ap (λ y. b.first + b.ports + b.lines + i * b.step + y) (mod-mul-add i b.each r h)

  -- a number beyond the node's own wires that is a child's port
  pub found_below : (further child position : ℕ) → 0 < b.step → child ≡ further / b.step → position ≡ further % b.step →
      child < b.children → position < b.each → (b.ports + (child * b.each + position) < b.ports + b.children * b.each) × (tap_by b (b.ports + (child * b.each + position)) ≡ b.first + b.ports + b.lines + further)
  found_below further child position z e f c p =
      let d = div-add-mod' further b.step in
      let r = row_fits child b.each b.children b.each c (omega arith) in
      let k : child * b.step ≡ further / b.step * b.step = ap (λ y. y * b.step) e in
      (omega arith, tap_by-below child position p ∙ omega arith)

  -- and one that is none
  pub none_below : (further a : ℕ) → b.each ≤ b.step → b.ports ≤ a → a < b.ports + b.children * b.each → tap_by b a ≡ b.first + b.ports + b.lines + further →
      (further / b.step < b.children) × (further % b.step < b.each)
  none_below further a small h w e =
      let y : ℕ = a - b.ports in
      let inside : y < b.children * b.each = omega arith in
      let z = positive_from y b.children b.each inside in
      let r = mod_below y b.each z in
      let i = div_below y b.each b.children z inside in
      let d = div-add-mod' y b.each in
      let same : a ≡ b.ports + (y / b.each * b.each + y % b.each) = omega arith in
      let t : tap_by b a ≡ b.first + b.ports + b.lines + y / b.each * b.step + y % b.each = ap (tap_by b) same ∙ tap_by-below (y / b.each) (y % b.each) r in
      let is : further ≡ y / b.each * b.step + y % b.each = omega arith in (
        subst (λ k. k < b.children) (sym (ap (λ k. k / b.step) is ∙ div-mul-add (y / b.each) b.step (y % b.each) (omega arith))) i,
        subst (λ k. k < b.each) (sym (ap (λ k. k % b.step) is ∙ mod-mul-add (y / b.each) b.step (y % b.each) (omega arith))) r,
      )

module _ (m : Shape) where
  pub wires-size : wires_of m ≡ size wires_in (levels_of m)
  unfolding wires_of
  wires-size = refl

  pub few_wires : wires_of m ≤ 1310720
  unfolding wires_of levels_of
  few_wires = m.few_wires

  pub small_rest : (p : Path) → IsSpot (levels_of m) p → size wires_in (rest (levels_of m) p) < 2 ^ 32
  small_rest p s = let a = all_below s in let e = wires-size in let f = few_wires in omega arith

-- a node has levels
has_level : (ls : Levels) → 0 < nodes_in ls → (taps_in ls ≡ ports_in ls + children_in ls * ports_in (next ls)) × (AreFull ls → 0 < lines_in ls)
has_level [] h = absurd (omega arith)
has_level (l ∷ ls) h = (refl, λ f. (f 0 l (omega arith)).1)

module _ (m : Shape) (n : ℕ) (b : Crossbar) (h : n < nodes_of m) (is : IsBarAt (levels_of m) (way_to m n) b) where
  bar-lines : b.lines ≡ lines_of m n
  unfolding lines_of
  bar-lines = is.lines

  bar-ports : b.ports ≡ ports_of m n
  unfolding ports_of
  bar-ports = is.ports

  level_has : (taps_in (rest (levels_of m) (way_to m n)) ≡ ports_in (rest (levels_of m) (way_to m n)) + children_in (rest (levels_of m) (way_to m n)) * ports_in (next (rest (levels_of m) (way_to m n))))
      × (AreFull (rest (levels_of m) (way_to m n)) → 0 < lines_in (rest (levels_of m) (way_to m n)))
  level_has = has_level (rest (levels_of m) (way_to m n)) (way_is m n h).1

  bar-taps : b.ports + b.children * b.each ≡ taps_of m n
  unfolding taps_of
  bar-taps = cc (is.ports, is.children, is.each, level_has.0)

  bar-some : 0 < b.lines
  bar-some = let z = level_has.1 (full_rest (way_is m n h).0 (full_of m)) in let e = is.lines in omega arith

  bar-line : (k : ℕ) → line_at m n k ≡ b.first + b.ports + k
  unfolding line_at ports_of
  bar-line k = let e = is.first in let f = is.ports in omega arith

  bar-port : (k : ℕ) → port_at m n k ≡ b.first + k
  unfolding port_at
  bar-port k = let e = is.first in omega arith

  own_tap : (a : ℕ) → a < b.ports → tap_in (levels_of m) (way_to m n) a ≡ tap_by b a
  own_tap a g = tap_in-own (levels_of m) (way_to m n) a (let e = is.ports in omega arith) ∙ ap (λ k. k + a) (sym is.first) ∙ sym (tap_by-own b a g)

  tap_below : (i r : ℕ) → i < b.children → r < b.each → tap_in (levels_of m) (way_to m n) (b.ports + (i * b.each + r)) ≡ tap_by b (b.ports + (i * b.each + r))
  tap_below i r hi hr =
      let same : b.ports + (i * b.each + r) ≡ ports_in (rest (levels_of m) (way_to m n)) + (i * ports_in (next (rest (levels_of m) (way_to m n))) + r) = cc (is.ports, is.each) in
      let more = start_more wires_in i (way_is m n h).0 (let c = is.children in omega arith) in
      let s : i * b.step ≡ i * size wires_in (next (rest (levels_of m) (way_to m n))) = ap (λ k. i * k) is.step in
      let f = is.first in let p = is.ports in let l = is.lines in
      ap (tap_in (levels_of m) (way_to m n)) same ∙ tap_in-below (levels_of m) (way_to m n) i r (let e = is.each in omega arith) ∙ omega arith ∙ sym (tap_by-below b i r hr)

  bar-tap : (a : ℕ) → a < taps_of m n → tap_at m n a ≡ tap_by b a
  unfolding tap_at
  bar-tap a w = ⊎_elim (λ g. own_tap a g)
      (λ g.
      let t = bar-taps in
      let y : ℕ = a - b.ports in
      let inside : y < b.children * b.each = omega arith in
      let z = positive_from y b.children b.each inside in
      let d = div-add-mod' y b.each in
      let same : b.ports + (y / b.each * b.each + y % b.each) ≡ a = omega arith in
      subst (λ k. tap_in (levels_of m) (way_to m n) k ≡ tap_by b k) same (tap_below (y / b.each) (y % b.each) (div_below y b.each b.children z inside) (mod_below y b.each z)))
      (cases_lt a b.ports)

  pub bar_is : FitsBelow b (wires_of m) → IsNodeBar m n b
  bar_is fits = record { lines = bar-lines; ports = bar-ports; taps = bar-taps; some = bar-some; fits = fits; few = few_wires m; line = bar-line; port = bar-port; tap = bar-tap }
