-- Nets of a network that are laid on the tree read its rows.
use Rattle.place_route.proofs.Vocabulary.{◌≡◌, ℕ, ◌<◌, ◌≤◌, length, refl, subst, arith, length-map, IsLine, IsPort, IsNumbered, IsTree}
use Rattle.place_route.proofs.Vocabulary.{Faults, Defects, IsFreeTable, Covers, Configuration, is_closed, IsFreeImage, Network, IsNetwork}
use Rattle.place_route.proofs.Vocabulary.{IsDeepest, table_at, AreRows, Plan, place_of, places, number_of, IsTerminal, IsPlan}
use Rattle.place_route.specs.Vocabulary.{ReadsRows, reader_of, IsSet, IsWired, image_at, IsLaidOnTree, IsOfNet, as_terminal, as_line, as_port}
use Rattle.place_route.proofs.Terminals.{plan_terminals, no_idle_terminal}
use Rattle.place_route.proofs.OnTree.{net_joined, nets_apart, one_net}
use Rattle.place_route.proofs.Turns.{route_reads_rows}

module _ (d : Defects) (n : Network) (p : Plan) (g : Configuration) (plan : IsPlan g.shape d n p) where
  placed : (j : ℕ) → j < length n.tables → j < length (places p)
  placed j h = let e = plan.tables in let l : length (places p) ≡ length p.tables = length-map p.tables number_of in omega arith

  pub set_is_free : IsSet d n p g → IsFreeImage d (image_at p g)
  set_is_free set = record {
    crosses = λ x on. (set.crosses x on).1;
    tables = λ t on. let r = set.no_others t on in subst (IsFreeTable g.shape d) r.2 (plan.tables_free r.0 0 (placed r.0 r.1));
    pins = plan.pins_free;
  }

  module _ (line port : ℕ → ℕ → ℕ → Type 0) (numbered : IsNumbered g.shape) (tree : IsTree g.shape) (formed : IsNetwork n) (laid : IsLaidOnTree g.shape (IsTerminal g.shape n p) (is_closed g) line port) where
    pub tree_wired : IsWired n p g (IsOfNet (IsTerminal g.shape n p) line port)
    tree_wired =
        let are = plan_terminals g.shape d n p numbered tree formed plan in
        record {
          apart = nets_apart g.shape tree (IsTerminal g.shape n p) (is_closed g) line port laid are;
          one_net = one_net g.shape tree (IsTerminal g.shape n p) (is_closed g) line port laid;
          owned = λ k w t. as_terminal t;
          together = net_joined g.shape tree (IsTerminal g.shape n p) (is_closed g) line port laid are;
          idle = λ j q h l b k is. idle j q h l b k is;
        }
      where
        not_it : (j q : ℕ) → j < length n.tables → length (table_at n j).ins ≤ q → q < 6 → {k w : ℕ} → IsOfNet (IsTerminal g.shape n p) line port k w → w ≡ reader_of g.shape p j q → ⊥
        not_it j q h l b {k = k} (as_terminal t) e = no_idle_terminal g.shape d n p numbered tree formed plan k j q h l b (subst (IsTerminal g.shape n p k) e t)
        not_it j q h l b {k = k} (as_line i v) e = tree.no_table_is_line (place_of p j) q i (plan.tables_within j 0 (placed j h)) (omega arith) (subst (IsLine g.shape i) e (laid.lines i k _ v))
        not_it j q h l b {k = k} (as_port i v) e = tree.no_table_is_port (place_of p j) q i (plan.tables_within j 0 (placed j h)) (omega arith) (subst (IsPort g.shape i) e (laid.ports i k _ v))

        idle : (j q : ℕ) → j < length n.tables → length (table_at n j).ins ≤ q → q < 6 → (k : ℕ) → ¬ IsOfNet (IsTerminal g.shape n p) line port k (reader_of g.shape p j q)
        idle j q h l b k is = not_it j q h l b is refl

    pub tree_reads_rows : (f : Faults) → IsSet d n p g → IsDeepest n g.ticks → Covers g.shape d f → ReadsRows f (image_at p g) (AreRows n)
    tree_reads_rows f set deep covers = route_reads_rows d n p g (IsOfNet (IsTerminal g.shape n p) line port) f numbered formed (record { plan = plan; set = set; wired = tree_wired }) covers deep
