-- What a fair list leaves free of served nodes.
use Rattle.machine_meaning.proofs.Vocabulary.{◌≡◌, ℕ, ◌<◌, sym, subst, Shape}
use Rattle.machine_shape.specs.Vocabulary.{IsNumbered, IsTree, HasMeanings, HasCrosses, HasParents, ends_of, pin_wire, table_wire, pins_of, wires_of, crosses_of, tables_of, node_of, hextant_of, IsLine, IsPort, is_line, is_port, HasHomes}
use Rattle.machine_meaning.specs.Vocabulary.{Faults, IsSoundWire, IsSoundCross, IsSoundTable, IsWholeLine, HasTwo, IsServed, Defects, IsFreeWire, IsFreeTable, IsOpenLine, IsOfUse, IsFair, IsEmptyOf, HasServed}

module _ (m : Shape) (tree : IsTree m) where
  -- in its node a line of use has two sound crosspoints
  pub two_of_use : (f : Faults) (n l : ℕ) → IsLine m n l → IsOfUse m f l → HasTwo
      (λ x. (x < crosses_of m) × ((ends_of m x).1 ≡ l) × IsSoundCross m f x)
  two_of_use f n l line use_ = use_.crosses (subst (λ k. IsLine m k l) (sym (tree.line_node n l line)) line)

  pub no_line_of_use : (f : Faults) (w : ℕ) → (IsLine m (node_of m w) w → ⊥) → IsOfUse m f w
  no_line_of_use f w no_ = record { crosses = λ line. absurd (no_ line) }

module _ (m : Shape) (meanings : HasMeanings m) where
  line_below : (n w : ℕ) → IsLine m n w → w < wires_of m
  unfolding IsLine
  line_below n w l = meanings.within w _ (is_line n l.1.0 l.0 l.1.1 l.1.2)

  port_below : (n w : ℕ) → IsPort m n w → w < wires_of m
  unfolding IsPort
  port_below n w p = meanings.within w _ (is_port n p.2.0 p.0 p.1 p.2.1 p.2.2)

module _ (m : Shape) (numbered : IsNumbered m) (tree : IsTree m) (meanings : HasMeanings m) (parents : HasParents m)
    (crosses : HasCrosses m) (homes : HasHomes m) (served : HasServed m) where
  module _ (d : Defects) (f : Faults) (fair : IsFair m d f) where
    pub free_port : (n w : ℕ) → IsServed m f n → IsPort m n w → IsSoundWire m f w → IsFreeWire d w
    free_port n w s p sound = fair.wires w (port_below m meanings n w p) (subst (IsServed m f) (sym (tree.port_node n w p)) s) sound
        (no_line_of_use m tree f w (λ line. tree.no_line_is_port _ n w line p))

    pub free_pin : (k : ℕ) → k < pins_of m → IsServed m f 0 → IsSoundWire m f (pin_wire m k) → IsFreeWire d (pin_wire m k)
    free_pin k h s sound = fair.wires _ (numbered.pins k h) (subst (IsServed m f) (sym (parents.pin_node k h)) s) sound
        (no_line_of_use m tree f _ (tree.no_pin_is_line k _ h))

    free_table_pin : (t k : ℕ) → t < tables_of m → k < 7 → IsServed m f (hextant_of m t) → IsSoundWire m f (table_wire m t k) →
        IsFreeWire d (table_wire m t k)
    free_table_pin t k h b s sound = fair.wires _ (numbered.tables t k h b)
        (subst (IsServed m f) (sym (parents.table_node t k h b)) s) sound (no_line_of_use m tree f _ (tree.no_table_is_line t k _ h b))

    pub free_table : (t : ℕ) → t < tables_of m → IsServed m f (hextant_of m t) → IsSoundTable m f t → IsFreeTable m d t
    free_table t h s sound = record { itself = fair.tables t h s sound; pins = λ k b. free_table_pin t k h b s (sound.pins k b) }

    pub free_line : (n l : ℕ) → IsServed m f n → IsLine m n l → IsSoundWire m f l → IsOfUse m f l → IsFreeWire d l
    free_line n l s line sound use_ = fair.wires l (line_below m meanings n l line)
        (subst (IsServed m f) (sym (tree.line_node n l line)) s) sound use_

    pub open_line : (n l : ℕ) → IsServed m f n → IsLine m n l → IsWholeLine m f l → IsOpenLine m d l
    open_line n l s line whole =
        let itself = free_line n l s line whole.sound (served.whole f n l s line whole) in
        record {
          itself = itself;
          crosses = λ x h e tap. record {
            itself = fair.whole x h (subst (IsServed m f) (sym (homes.cross_of_line n l x h e line)) s)
                (subst (IsWholeLine m f) (sym e) whole);
            tap = tap;
            line = subst (IsFreeWire d) (sym e) itself;
          };
        }

-- a list of nothing is fair
pub empty_fair : (m : Shape) (d : Defects) (f : Faults) → IsEmptyOf m d → IsFair m d f
empty_fair m d f e = record {
  wires = λ w h s sound use_. e.wires w h;
  crosses = λ x h s sound. e.crosses x h;
  whole = λ x h s whole. e.crosses x h;
  tables = λ t h s sound. e.tables t h;
}
