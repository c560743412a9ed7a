-- A shape is what its counts are.
use Rattle.machine_shape.proofs.Vocabulary.{◌≡◌, ◌≤◌, false, ap, subst, Counts, Shape}
use Rattle.std.proofs.Math.Bridge.{le_prop}
use Rattle.machine_shape.specs.Vocabulary.{levels_from, IsFull, is_small, size, tables_in, wires_in, crosses_in, nodes_in}

-- what holds of the counts of a shape
abbrev ShapeFacts : Counts → Type 0
ShapeFacts c = IsFull c × (size tables_in (levels_from c) ≤ 65536) × (size wires_in (levels_from c) ≤ 1310720) × (size crosses_in (levels_from c) ≤ 268435456)
    × (size nodes_in (levels_from c) ≤ 1310720) × (is_small c ≡ false → c.pins ≤ 8192)

abbrev made : (c : Counts) → ShapeFacts c → Shape
made c p = record { counts = c; full = p.0; few_tables = p.1; few_wires = p.2; few_crosses = p.3; few_nodes = p.4; few_pins = p.5 }

facts-prop : (c : Counts) → IsProp (ShapeFacts c)
facts-prop c = hlevel le_prop

made-same : (c d : Counts) (p : ShapeFacts c) (q : ShapeFacts d) → c ≡ d → made c p ≡ made d q
made-same c d p q same =
    (subst (λ (e : Counts). (other : ShapeFacts e) → made c p ≡ made e other) same (λ other. ap (λ (facts : ShapeFacts c). made c facts) (facts-prop c p other))) q

pub same-shape : (m n : Shape) → m.counts ≡ n.counts → m ≡ n
same-shape m n same =
    made-same m.counts n.counts (m.full, m.few_tables, m.few_wires, m.few_crosses, m.few_nodes, m.few_pins) (n.full, n.few_tables, n.few_wires, n.few_crosses, n.few_nodes, n.few_pins) same
