-- With more wires and crosspoints more stands, and more tables are seated.
use Rattle.machine_meaning.proofs.Vocabulary.{ℕ, ap, arith, Shape}
use Rattle.machine_shape.specs.Shape.{Ends, in_order, ends_of, table_wire, hextant_of}
use Rattle.machine_meaning.specs.Standing.{StandsBy, pin_stands, on_two, StandsWithout, Meets, IsSeated}

-- what stands is one of the wires
pub stands_is : {m : Shape} {W C : ℕ → Type 0} {w : ℕ} → StandsBy m W C w → W w
stands_is (pin_stands k h s) = s
stands_is (on_two w x y a b s cx cy ex ey ne p q) = s

pub stands_also : {m : Shape} {W V C D : ℕ → Type 0} → ((w : ℕ) → W w → V w) →
    ((x a b : ℕ) → C x → Ends (ends_of m x) a b → V a → V b → D x) → {w : ℕ} → StandsBy m W C w → StandsBy m V D w
stands_also f g (pin_stands k h s) = pin_stands k h (f _ s)
stands_also f g (on_two w x y a b s cx cy ex ey ne p q) = on_two w x y a b (f w s)
    (g x a w cx ex (f a (stands_is p)) (f w s)) (g y b w cy ey (f b (stands_is q)) (f w s)) ex ey ne (stands_also f g p) (stands_also f g q)

module _ (m : Shape) (W V C D : ℕ → Type 0) (more : (w : ℕ) → W w → V w)
    (further : (x a b : ℕ) → C x → Ends (ends_of m x) a b → V a → V b → D x) where
  meets_also : {t l : ℕ} → Meets m C t l → V t → V l → Meets m D t l
  meets_also {t} {l} x p q = (x.0, further x.0 t l x.1 (in_order (ap (λ p. p.0) x.2) (ap (λ p. p.1) x.2)) p q, x.2)

  without_also : (h : ℕ) {w : ℕ} → StandsWithout m W C h w → StandsWithout m V D h w
  without_also h s = stands_also (λ u is. (more u is.0, is.1)) (λ x a b is at p q. further x a b is at p.0 q.0) s

  pub seated_also : (t : ℕ) → IsSeated m W C t → IsSeated m V D t
  seated_also t s =
      let near = without_also (hextant_of m t) s.near_stands in
      let far = without_also (hextant_of m t) s.far_stands in
      record {
        pins = λ k b. more (table_wire m t k) (s.pins k b);
        near = s.near;
        far = s.far;
        line = s.line;
        near_port = s.near_port;
        far_port = s.far_port;
        different = s.different;
        near_stands = near;
        far_stands = far;
        out = (
          s.out.0,
          more s.line s.out.1,
          meets_also s.out.2 (stands_is far).0 (more s.line s.out.1),
          meets_also s.out.3 (more (table_wire m t 6) (s.pins 6 (omega arith))) (more s.line s.out.1),
        );
        inputs = λ k b. let i = s.inputs k b in let l = more i.0 i.2 in (
          i.0,
          i.1,
          l,
          i.3,
          meets_also i.4 (stands_is near).0 l,
          meets_also i.5 (more (table_wire m t k) (s.pins k (omega arith))) l,
        );
      }
