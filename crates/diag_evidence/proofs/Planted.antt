-- The net of a forest that is closed.
use Rattle.diag_evidence.proofs.Vocabulary.{◌≡◌, ℕ, ◌<◌, true, Some, List, ◌∷◌, sym, ap, ◌∙◌, subst, arith, nat_tests, IsClear, Faults}
use Rattle.diag_evidence.proofs.Vocabulary.{stuck_cross, here, Shorted, Joined-sym, Configuration, is_closed, among, LeadsTo, ends, goes}
use Rattle.diag_evidence.proofs.Vocabulary.{LeadsTo-end, conducting, Trees, IsForest, IsOfTree, KnowsForest, is_laid, pin_of, Kept}
use Rattle.diag_evidence.proofs.Vocabulary.{HoldsFor}
use Rattle.machine_shape.specs.Shape.{Ends, in_order, turned, ends_of, pin_wire, pins_of}
use Rattle.diag_evidence.proofs.Advancing.{joined_along}
use Rattle.diag_evidence.proofs.Nets.{IsNet}

pub same_pin : {p q : ℕ} → Some p ≡ Some q → p ≡ q
same_pin e = cc

module _ (trees : Trees) (forest : IsForest trees) where
  -- both ends of a crosspoint hang on its pin
  near : {x a b : ℕ} (o : IsOfTree trees x) → Ends (ends_of trees.shape x) a b → pin_of trees a ≡ Some o.pin
  near o (in_order s t) = ap (pin_of trees) (sym s) ∙ o.tap
  near o (turned s t) = ap (pin_of trees) (sym t) ∙ o.line

  -- a walk of the forest to a wire that hangs begins at one
  begins : {a e p : ℕ} {xs ws : List ℕ} → LeadsTo trees.shape a xs ws e → ((x : ℕ) → among xs x ≡ true → is_laid trees x ≡ true) → pin_of trees e ≡ Some p → (q : ℕ) × (pin_of trees a ≡ Some q)
  begins {p = p} ends laid h = (p, h)
  begins (goes {x = x} {xs = xs} below at more) laid h =
      let o = forest.crosses x (laid x (let first : among (x ∷ xs) x ≡ true = grind (arith, nat_tests) in first)) in
      (o.pin, near o at)

  root : (w p : ℕ) → pin_of trees w ≡ Some p → pin_of trees (pin_wire trees.shape p) ≡ Some p
  root w p h =
      let l = forest.led w p h in
      let b = begins l.leads l.laid h in
      b.1 ∙ ap Some (forest.pins p b.0 l.below b.1)

module _ (f : Faults) (g : Configuration) (k : Kept) (trees : Trees) (forest : IsForest trees) (known : KnowsForest k trees) (holds : HoldsFor k f) (shape : g.shape ≡ trees.shape) (closed : (x : ℕ) → is_closed g x ≡ is_laid trees x) where
  pub net_of_forest : IsNet f g (pin_of trees)
  net_of_forest = record {
    ends = λ x on. let o = forest.crosses x (sym (closed x) ∙ on) in
        (o.pin, (subst (λ m. pin_of trees (ends_of m x).0 ≡ Some o.pin) (sym shape) o.tap, subst (λ m. pin_of trees (ends_of m x).1 ≡ Some o.pin) (sym shape) o.line));
    clear = λ w p h. subst (λ m. IsClear m f w) (sym (shape ∙ known.keeps.shape)) (holds.wires w (known.wires w p h));
    apart = λ w u p q h i n. subst (λ m. ¬ Shorted m f w u) (sym (shape ∙ known.keeps.shape)) (holds.pairs w u (known.pairs w u p q h i (λ e. n (same_pin (sym h ∙ ap (pin_of trees) e ∙ i)))));
    joined = λ w p h. let l = forest.led w p h in
        Joined-sym (joined_along here (subst (λ m. LeadsTo m (pin_wire m p) l.crosses l.wires w) (sym shape) l.leads)
        (λ x is. conducting f g (stuck_cross f x) (is_closed g x) (closed x ∙ l.laid x is) (holds.crosses x (known.keeps.crosses x (l.laid x is)))) w (LeadsTo-end l.leads));
    root = λ w p h. subst (λ m. pin_of trees (pin_wire m p) ≡ Some p) (sym shape) (root trees forest w p h);
    below = λ w p h. subst (λ m. p < pins_of m) (sym shape) (forest.led w p h).below;
  }
