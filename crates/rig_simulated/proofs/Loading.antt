-- What a load leaves.
use Rattle.std.proofs.Common.{◌≡◌, ℕ, ◌<◌, List, length, sym, ap, ◌∙◌, subst, slice_index}
use Rattle.std.proofs.Math.Path.{fun_ext}
use Rattle.rig_simulated.proofs.Vocabulary.{Shape, Cross, pins_of, pin_wire, Faults, stuck_wire, net_of, Configuration, is_closed}
use Rattle.rig_simulated.proofs.Vocabulary.{circuit_of, ClassNode, Gate, HasRoots, AreKnots, AreTied, closed_net, is_among, AreGates}
use Rattle.rig_simulated.proofs.Vocabulary.{IsWired}

pub circuit_net : (m : Shape) (f : Faults) (g : Configuration) (closed : List Cross) → g.shape ≡ m → ((x : ℕ) → is_among closed x ≡ is_closed g x) → closed_net m f closed ≡ (circuit_of f g).net
circuit_net m f g closed e same = ap (λ c. net_of m f c) (fun_ext same) ∙ ap (λ s. net_of s f (is_closed g)) (sym e)

pub wired_by : (m : Shape) (f : Faults) (g : Configuration) (closed : List Cross) (knots : List ClassNode) (pins : List ℕ) (gates : List Gate) (n : ℕ) → g.shape ≡ m → ((x : ℕ) → is_among closed x ≡ is_closed g x) →
    (t : AreTied (closed_net m f closed) (stuck_wire f) knots n) → ((most : ℕ) (root : ℕ → ℕ) → HasRoots knots most root → AreGates f g root gates) → length pins ≡ pins_of m →
    ((most : ℕ) (root : ℕ → ℕ) → HasRoots knots most root → (k : ℕ) → k < pins_of m → slice_index pins k ≡ root (pin_wire m k)) → IsWired f g t.root knots pins gates
wired_by m f g closed knots pins gates n e same t gates_are count pins_are = record {
  most = n;
  knots_are = subst (λ net. AreKnots net (stuck_wire f) knots n t.root) (circuit_net m f g closed e same) t.knots_are;
  gates_are = gates_are n t.root t.knots_are.roots;
  count = count ∙ ap pins_of (sym e);
  pins_are = subst (λ s. (k : ℕ) → k < pins_of s → slice_index pins k ≡ t.root (pin_wire s k)) (sym e) (pins_are n t.root t.knots_are.roots);
}
