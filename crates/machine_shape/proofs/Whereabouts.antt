-- The nodes of wires, tables and crosspoints, as the code finds them.
use Rattle.std.proofs.Common.{◌≡◌, ℕ, zero, suc, ◌-◌, ◌<◌, ◌≤◌, List, [], ◌∷◌, length, take, Some, refl, sym, ◌∙◌, subst, arith}
use Rattle.machine_shape.specs.declared.Shape.{Shape}
use Rattle.machine_shape.specs.Vocabulary.{Path, IsPlaceOf, IsSpot, trunk, above, wires_in, levels_of, wires_of, crosses_of, tables_of, nodes_of, way_to, way_to_table, place_of, place_of_cross, node_at, node_of, node_of_cross, hextant_of, parent_in, parent_of}
use Rattle.machine_shape.proofs.Walks.{placed}
use Rattle.machine_shape.proofs.Ways.{trunk_is_spot, above_is_spot}
use Rattle.machine_shape.proofs.Numbering.{way_is, way-node, table_way_is, trunk_in}
use Rattle.machine_shape.proofs.Crossings.{cross_placed, node_is}
use Rattle.machine_shape.proofs.Parents.{has_one, parent_below}
use Rattle.machine_shape.proofs.Tapped.{parent_of-way, hextant_of-way}
use Rattle.machine_shape.proofs.Totals.{trunk-take, four_levels}

-- the way leads to the node of this number
pub record LeadsTo (m : Shape) (p : Path) (n : ℕ) : Type 0 where
  pub spot : IsSpot (levels_of m) p
  pub number : n ≡ node_at m p
  pub within : n < nodes_of m

-- a way without its last step
pub above_steps : (len : ℕ) (s : List ℕ) → length s ≡ 4 → len ≤ 4 → take (len - 1) s ≡ above (take len s)
above_steps zero (a ∷ b ∷ c ∷ d ∷ []) h l = refl
above_steps (suc zero) (a ∷ b ∷ c ∷ d ∷ []) h l = refl
above_steps (suc (suc zero)) (a ∷ b ∷ c ∷ d ∷ []) h l = refl
above_steps (suc (suc (suc zero))) (a ∷ b ∷ c ∷ d ∷ []) h l = refl
above_steps (suc (suc (suc (suc zero)))) (a ∷ b ∷ c ∷ d ∷ []) h l = refl
above_steps (suc (suc (suc (suc (suc len))))) s h l = absurd (omega arith)
above_steps len [] h l = absurd (omega arith)
above_steps len (a ∷ []) h l = absurd (omega arith)
above_steps len (a ∷ b ∷ []) h l = absurd (omega arith)
above_steps len (a ∷ b ∷ c ∷ []) h l = absurd (omega arith)
above_steps len (a ∷ b ∷ c ∷ d ∷ e ∷ s) h l = absurd (omega arith)

module _ (m : Shape) where
  trunk_leads : (p : Path) (n : ℕ) → IsSpot (levels_of m) p → n ≡ node_at m (trunk (levels_of m) p) → LeadsTo m (take 3 p) n
  trunk_leads p n s e = subst (λ q. LeadsTo m q n) (trunk-take (levels_of m) (four_levels m) p)
      (record { spot = trunk_is_spot s; number = e; within = subst (λ k. k < nodes_of m) (sym e) (way-node m _ (trunk_is_spot s) (trunk_in m p)).0 })

  pub hextant_leads : (t : ℕ) → t < tables_of m → LeadsTo m (take 3 (way_to_table m t)) (hextant_of m t)
  hextant_leads t h = trunk_leads (way_to_table m t) (hextant_of m t) (table_way_is m t h).0 (hextant_of-way m t _ refl)

  pub wire_placed : (w : ℕ) → w < wires_of m → IsPlaceOf wires_in (levels_of m) w (place_of m w)
  unfolding wires_of place_of
  wire_placed w h = placed wires_in (levels_of m) w h

  node_of-trunk : (w : ℕ) → node_of m w ≡ node_at m (trunk (levels_of m) (place_of m w).path)
  unfolding node_of
  node_of-trunk w = refl

  pub wire_leads : (w : ℕ) → w < wires_of m → LeadsTo m (take 3 (place_of m w).path) (node_of m w)
  wire_leads w h = trunk_leads (place_of m w).path (node_of m w) (wire_placed w h).spot (node_of-trunk w)

  node_of_cross-path : (x : ℕ) → node_of_cross m x ≡ node_at m (place_of_cross m x).path
  unfolding node_of_cross
  node_of_cross-path x = refl

  pub cross_leads : (x : ℕ) → x < crosses_of m → LeadsTo m (place_of_cross m x).path (node_of_cross m x)
  cross_leads x h = record { spot = (cross_placed m x h).spot; number = node_of_cross-path x; within = (node_is m x h).0 }

  above_leads : (n : ℕ) (p : Path) → IsSpot (levels_of m) p → (q : ℕ) → parent_in m p ≡ Some q → q < nodes_of m → LeadsTo m (above p) q
  above_leads n [] s q e b = absurd (cc)
  above_leads n (i ∷ p) s q e b = record { spot = above_is_spot (i ∷ p) s; number = cc; within = b }

  pub parent_leads : (n : ℕ) → 0 < n → n < nodes_of m → (q : ℕ) × (parent_of m n ≡ Some q) × LeadsTo m (above (way_to m n)) q
  parent_leads n z h =
      let r = has_one m n z h in
      (r.0, r.1, above_leads n (way_to m n) (way_is m n h).0 r.0 (sym (parent_of-way m n h) ∙ r.1) (parent_below m n r.0 r.1))
