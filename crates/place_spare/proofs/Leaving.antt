-- What so many faults leave of a machine that has twice as much to spare.
use Rattle.std.proofs.Common.{◌≡◌, ◌≢◌, ◌∙◌, ℕ, zero, suc, ◌+◌, ◌*◌, ◌<◌, ◌≤◌, length, get_or, refl, sym, subst, arith}
use Rattle.std.specs.List.{Contains}
use Rattle.machine_shape.specs.declared.Shape.{Shape}
use Rattle.machine_shape.specs.Vocabulary.{HasMeanings, HasParents, HasSites, IsNumbered, IsAbove, itself, below, nodes_of, tables_of, pins_of, lines_of, own_ports_of, line_at, port_at, pin_wire}
use Rattle.machine_meaning.specs.Vocabulary.{Faults, HasTwo, IsServed, IsSoundWire}
use Rattle.machine_faults.specs.Adding.{count_of}
use Rattle.map_network.specs.declared.network.Network.{Network}
use Rattle.place_plan.specs.Enough.{AtLeast, HasSoundParts, IsSoundPinOf, IsSoundPort, IsSoundTableOf, IsWholeLineOf}
use Rattle.place_spare.specs.Spare.{HasLeft, HasToSpare}
use Rattle.place_spare.proofs.Marking.{left}
use Rattle.place_spare.proofs.Touching.{touched, touched-long, hit, hit-long, untouched-sound, untouched-whole, untouched-table}

two-of : (P : ℕ → Type 0) → AtLeast P 2 → HasTwo P
two-of P some =
    let many : 2 ≤ length some.each = some.many in
    record {
      one = get_or some.each 0 0;
      two = get_or some.each 1 0;
      different = some.different 0 1 0 (omega arith) (omega (arith, many));
      first = some.have 0 0 (omega (arith, many));
      second = some.have 1 0 (omega (arith, many));
    }

pin-is : (m : Shape) (k : ℕ) → pin_wire m k ≡ k
unfolding pin_wire
pin-is m k = refl

not-root : (k : ℕ) → k ≢ 0 → 0 < k
not-root zero other = absurd (other refl)
not-root (suc k) other = omega arith

module _ (m : Shape) (f : Faults) (k : ℕ) (few : count_of f ≤ k) (numbered : IsNumbered m) (meanings : HasMeanings m) (parents : HasParents m) (sites : HasSites m) where
  few-touched : length (touched m f) ≤ 2 * k
  few-touched = let a = touched-long m f in omega (arith, a, few)

  few-hit : length (hit m f meanings numbered) ≤ 2 * k
  few-hit = let a = touched-long m f in let b = hit-long m f meanings numbered in omega (arith, a, b, few)

  pins-left : (wanted : ℕ) → wanted + 2 * k ≤ pins_of m → AtLeast (IsSoundPinOf m f) wanted
  pins-left wanted have = left (touched m f) (IsSoundPinOf m f) (λ j. j) (pins_of m) wanted
      (λ j within never. (within, untouched-sound m f (pin_wire m j) (subst (λ w. ¬ Contains (touched m f) w) (sym (pin-is m j)) never)))
      (λ i j less within same. omega (arith, less, same))
      (omega (arith, have, few-touched))

  lines-left : (c wanted : ℕ) → c < nodes_of m → wanted + 2 * k ≤ lines_of m c → AtLeast (IsWholeLineOf m f c) wanted
  lines-left c wanted node have = left (touched m f) (IsWholeLineOf m f c) (line_at m c) (lines_of m c) wanted
      (λ j within never. (sites.line c j node within, untouched-whole m f (line_at m c j) never))
      (λ i j less within same. let up = sites.lines_ascend c i j less in omega (arith, up, same))
      (omega (arith, have, few-touched))

  ports-left : (c wanted : ℕ) → c < nodes_of m → wanted + 2 * k ≤ own_ports_of m c → AtLeast (IsSoundPort m f c) wanted
  ports-left c wanted node have = left (touched m f) (IsSoundPort m f c) (port_at m c) (own_ports_of m c) wanted
      (λ j within never. (sites.port c j node within, untouched-sound m f (port_at m c j) never))
      (λ i j less within same. let up = sites.ports_ascend c i j less in omega (arith, up, same))
      (omega (arith, have, few-touched))

  tables-left : (wanted : ℕ) → wanted + 2 * k ≤ tables_of m → AtLeast (IsSoundTableOf m f) wanted
  tables-left wanted have = left (hit m f meanings numbered) (IsSoundTableOf m f) (λ t. t) (tables_of m) wanted
      (λ t within never. (within, untouched-table m f meanings numbered t within never))
      (λ i j less within same. omega (arith, less, same))
      (omega (arith, have, few-hit))

  -- the nodes above a node are nodes
  above-node : {a n : ℕ} → IsAbove m a n → n < nodes_of m → a < nodes_of m
  above-node itself within = within
  above-node (below {p = p} {k = n} above up) within = above-node above (let less = parents.before n p up in omega (arith, less, within))

  module _ (n : Network) (spare : HasToSpare m n k) where
    served : (c : ℕ) → c < nodes_of m → IsServed m f c
    served c node = record {
      pins = two-of (IsSoundPinOf m f) (pins-left 2 spare.pins.two);
      lines = λ a above. let within = above-node above node in two-of (IsWholeLineOf m f a) (lines-left a 2 within (spare.lines a within).two);
      ports = λ a above other.
          let within = above-node above node in
          two-of (IsSoundPort m f a) (ports-left a 2 within (spare.ports a (not-root a other) within).two);
    }

    pub sound-parts : HasSoundParts m f n
    sound-parts = record {
      served = served;
      tables = tables-left (length n.tables) spare.tables;
      pins = pins-left (n.inputs + length n.outputs) spare.pins.enough;
      lines = λ c node. lines-left c _ node (spare.lines c node).enough;
      ports = λ c other node. ports-left c _ node (spare.ports c other node).enough;
    }
