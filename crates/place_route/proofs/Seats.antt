-- The terminals of a plan's nets are taps of their nodes.
use Rattle.place_route.proofs.Vocabulary.{◌≡◌, ℕ, sym, ap, ◌∙◌, inl, inr, Shape, Defects, Network, IsNetwork, Plan, IsPlan, IsTerminal}
use Rattle.machine_shape.specs.Vocabulary.{node_of, IsTap, tap_pin, tap_table, IsNumbered, IsTree, HasParents}
use Rattle.place_route.proofs.Terminals.{Wired, is_wired}

module _ (m : Shape) (d : Defects) (n : Network) (p : Plan) (numbered : IsNumbered m) (tree : IsTree m) (parents : HasParents m) (network : IsNetwork n) (plan : IsPlan m d n p) where
  pub terminal_tap : (a k t : ℕ) → IsTerminal m n p k t → node_of m t ≡ a → IsTap m a t
  terminal_tap a k t is at = by (is_wired m d n p numbered tree network plan k t is)
    where
      by : Wired m t → IsTap m a t
      by (inl pin) = tap_pin pin.0 (sym at ∙ ap (node_of m) (sym pin.2) ∙ parents.pin_node pin.0 pin.1) pin.1 (sym pin.2)
      by (inr table) = tap_table table.0 table.1 table.2 (sym (parents.table_node table.0 table.1 table.2 table.3) ∙ ap (node_of m) table.4 ∙ at) table.3 (sym table.4)
