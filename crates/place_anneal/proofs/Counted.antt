-- The nets that cross nodes, by the terminals of a plan.
use Rattle.place_anneal.proofs.Vocabulary.{ℕ, List, [], length, slice_index_or, subst, Shape, nodes_of, Defects, Network, Plan}
use Rattle.place_plan.specs.Vocabulary.{AreLists, AreThose, IsTerminal, nets_in, CrossesAt, HasTerminal, ArePlanNets}
use Rattle.place_plan.proofs.Transfer.{those_on}
use Rattle.place_anneal.specs.Crossings.{AreCrossings}

pub crossings_are : (m : Shape) (d : Defects) (n : Network) (p : Plan) (nets lists : List (List ℕ)) → ArePlanNets m n p nets →
    AreLists (nodes_of m) (CrossesAt m (length nets) (HasTerminal nets)) lists → AreCrossings m n p lists
crossings_are m d n p nets lists are those = record {
  sized = those.sized;
  those = λ k lt. those_on m d (nets_in n) (HasTerminal nets) (IsTerminal m n p)
      (λ i w h. (are.same i w).0 h) (λ i w t. (are.same i w).1 t) k (slice_index_or lists k [])
      (subst (λ z. AreThose (CrossesAt m z (HasTerminal nets) k) (slice_index_or lists k [])) are.sized (those.those k lt));
}
