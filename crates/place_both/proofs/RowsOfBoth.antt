-- Rows of two networks side by side are the rows of the two designs.
use Rattle.std.proofs.Common.{◌≡◌, ◌∙◌, ◌+◌, ℕ, Bool, List, [], ◌∷◌, ◌++◌, map, length, take, drop, refl, sym, ap, subst, arith, take_all}
use Rattle.place_both.proofs.Vocabulary.{All, AllByRecursion, NetlistData, Network, side_by_side, AreBothRows}
use Rattle.std.proofs.lemmas.List.{take-append-drop, length-drop, Elements.recursion_from_All}
use Rattle.design_netlist.specs.Rows as netlist
use Rattle.map_network.specs.Rows.{HasRowsOf}
use Rattle.place_pair.specs.JointNetworks as joint

-- what is left behind a first part is all the rest
rest-is : (n k : ℕ) (bits : List Bool) → length bits ≡ n + k → take k (drop n bits) ≡ drop n bits
rest-is n k bits wide =
    let size = length-drop n bits in
    take_all k (drop n bits) (omega (arith, size, wide))

pub rests-are : (n k : ℕ) (vectors : List (List Bool)) → AllByRecursion (λ v. length v ≡ n + k) vectors → map (joint.part n k) vectors ≡ map (drop n) vectors
rests-are n k [] wide = refl
rests-are n k (v ∷ vectors) wide =
    rw (rest-is n k v wide.0, rests-are n k vectors wide.1) refl

-- each row is its two parts
parts-are : (n k : ℕ) (rows : List (List Bool)) → AllByRecursion (λ row. length row ≡ n + k) rows → rows ≡ side_by_side (map (joint.part 0 n) rows) (map (joint.part n k) rows)
parts-are n k [] wide = refl
parts-are n k (row ∷ rows) wide =
    let first : take n row ++ take k (drop n row) ≡ row = ap (λ (r : List Bool). take n row ++ r) (rest-is n k row wide.0) ∙ take-append-drop n row in
    ap (λ (rs : List (List Bool)). row ∷ rs) (parts-are n k rows wide.1) ∙ sym (ap (λ (r : List Bool). r ∷ side_by_side (map (joint.part 0 n) rows) (map (joint.part n k) rows)) first)

module _ (n o : Network) (first second : NetlistData) (first_rows : HasRowsOf n first) (second_rows : HasRowsOf o second) (first_inputs : n.inputs ≡ length first.inputs) where
  pub both-rows : (vectors rows : List (List Bool)) → All (λ v. length v ≡ n.inputs + o.inputs) vectors → joint.AreBothRows n o vectors rows → AreBothRows first second vectors rows
  both-rows vectors rows wide both = record {
    first_rows = map (joint.part 0 (length n.outputs)) rows;
    second_rows = map (joint.part (length n.outputs) (length o.outputs)) rows;
    are_first = subst (λ (k : ℕ). netlist.AreRows first (map (take k) vectors) (map (joint.part 0 (length n.outputs)) rows)) first_inputs
        ((first_rows (map (joint.part 0 n.inputs) vectors) (map (joint.part 0 (length n.outputs)) rows)).1 both.first);
    are_second = subst (λ (k : ℕ). netlist.AreRows second (map (drop k) vectors) (map (joint.part (length n.outputs) (length o.outputs)) rows)) first_inputs
        (subst (λ (vs : List (List Bool)). netlist.AreRows second vs (map (joint.part (length n.outputs) (length o.outputs)) rows)) (rests-are n.inputs o.inputs vectors (recursion_from_All (λ v. length v ≡ n.inputs + o.inputs) vectors wide))
        ((second_rows (map (joint.part n.inputs o.inputs) vectors) (map (joint.part (length n.outputs) (length o.outputs)) rows)).1 both.second));
    rows_are = parts-are (length n.outputs) (length o.outputs) rows (recursion_from_All (λ row. length row ≡ length n.outputs + length o.outputs) rows both.wide);
  }
