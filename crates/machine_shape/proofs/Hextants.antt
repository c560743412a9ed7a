-- Hextants are below the root.
use Rattle.std.proofs.Common.{◌≡◌, ◌≢◌, ℕ, ◌<◌, [], ◌∷◌, length, length-append, refl, ap, ◌∙◌, arith}
use Rattle.machine_shape.proofs.Vocabulary.{Shape, trunk, levels_of, tables_of, hextant_of, way_to, way_to_table}
use Rattle.machine_shape.proofs.Ways.{trunk_last, trunk_is_spot}
use Rattle.machine_shape.proofs.Numbering.{way-node, table_way_is, way_to-root, root_is_node, trunk_in}
use Rattle.machine_shape.proofs.Tapped.{hextant_of-way}
use Rattle.machine_shape.proofs.CalledTables.{spot_full}
use Rattle.machine_shape.proofs.Totals.{four_levels}

-- no hextant is the root
pub below_the_root : (m : Shape) (t : ℕ) → t < tables_of m → hextant_of m t ≢ 0
below_the_root m t h z =
    let w = table_way_is m t h in
    let way : way_to m (hextant_of m t) ≡ trunk (levels_of m) (way_to_table m t) =
    ap (way_to m) (hextant_of-way m t (way_to_table m t) refl)
    ∙ (way-node m (trunk (levels_of m) (way_to_table m t)) (trunk_is_spot w.0) (trunk_in m (way_to_table m t))).1 in
    let none : length (way_to m (hextant_of m t)) ≡ 0 = ap length (ap (way_to m) z ∙ way_to-root m) in
    let l = trunk_last w.0 w.1 (root_is_node m) in
    let steps = spot_full w.0 w.1 in
    let levels = four_levels m in
    let split = ap length l.2 ∙ length-append (trunk (levels_of m) (way_to_table m t)) (l.0 ∷ []) in
    let same : length (way_to m (hextant_of m t)) ≡ length (trunk (levels_of m) (way_to_table m t)) = ap length way in omega arith
