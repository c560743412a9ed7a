-- Routes that go on.
use Rattle.std.proofs.Common.{◌≡◌, ◌<◌, ℕ, Bool, true, false, List, [], ◌∷◌, ◌++◌, refl, sym, ◌∙◌, subst, inl, inr, arith, ◌==◌, ◌||◌}
use Rattle.diag_tests.proofs.Vocabulary.{nat_tests, Shape, among, ends, Walk, IsRoute, HasEnd, other_end, Extends, at_pin}
use Rattle.machine_shape.specs.Shape.{Ends, in_order, turned, ends_of, pin_wire, pins_of, crosses_of, wires_of}
use Rattle.machine_config.proofs.Grouped.{LeadsTo-push}

-- what is among a list with one more
pub among-push : (xs : List ℕ) (x y : ℕ) → among (xs ++ x ∷ []) y ≡ (among xs y || x == y)
among-push [] x y = grind (arith, nat_tests)
among-push (z ∷ xs) x y = let h = among-push xs x y in or_more (z == y) _ _ _ h
  where
    or_more : (a b c d : Bool) → b ≡ (c || d) → (a || b) ≡ ((a || c) || d)
    or_more true b c d e = refl
    or_more false b c d e = e

-- what holds of all that is among a list and of one more
pub among_both : (P : ℕ → Type 0) (xs : List ℕ) (x : ℕ) → ((y : ℕ) → among xs y ≡ true → P y) → P x → (y : ℕ) → among (xs ++ x ∷ []) y ≡ true → P y
among_both P xs x all one y is = by_test (x == y) refl
  where
    by_test : (t : Bool) → (x == y) ≡ t → P y
    by_test true e = subst P (grind (arith, nat_tests)) one
    by_test false e = all y (grind (arith, nat_tests, among-push xs x y))

-- the two ends, from one of them
pub both_ends : (m : Shape) (x w : ℕ) → HasEnd m x w → Ends (ends_of m x) w (other_end m x w)
both_ends m x w at = by_test ((ends_of m x).0 == w) refl
  where
    by_test : (t : Bool) → ((ends_of m x).0 == w) ≡ t → Ends (ends_of m x) w (other_end m x w)
    by_test true e = in_order (grind (arith, nat_tests)) (rw e refl)
    by_test false e = turned (rw e refl) (by_end at)
      where
        by_end : HasEnd m x w → (ends_of m x).1 ≡ w
        by_end (inl h) = absurd (let no : ⊥ = grind (arith, nat_tests) in no)
        by_end (inr h) = h

-- a wire at the end of a crosspoint, from the wire at its other end
pub ends_back : {p : ℕ × ℕ} {a b : ℕ} → Ends p a b → Ends p b a
ends_back (in_order s t) = turned s t
ends_back (turned s t) = in_order s t

pub an_end : (m : Shape) (x a w : ℕ) → Ends (ends_of m x) a w → HasEnd m x a
an_end m x a w (in_order s t) = inl s
an_end m x a w (turned s t) = inr t

pub end_is_other : (m : Shape) (x a w : ℕ) → Ends (ends_of m x) a w → w ≡ other_end m x a
end_is_other m x a w (in_order s t) = let same : ((ends_of m x).0 == a) ≡ true = grind (arith, nat_tests, s) in rw same (sym t)
end_is_other m x a w (turned s t) = by_test ((ends_of m x).0 == a) refl
  where
    by_test : (b : Bool) → ((ends_of m x).0 == a) ≡ b → w ≡ other_end m x a
    by_test true e = let same : (ends_of m x).0 ≡ a = grind (arith, nat_tests, e) in rw e (sym s ∙ same ∙ sym t)
    by_test false e = rw e (sym s)

pub at_pin_is : (m : Shape) (k : ℕ) → k < pins_of m → pin_wire m k < wires_of m → IsRoute m (at_pin m k)
at_pin_is m k h within = record {
  pin = h;
  leads = ends;
  crosses = λ x is. cc;
  wires = among_both (λ w. w < wires_of m) [] (pin_wire m k) (λ y is. cc) within;
}

pub longer_is : (m : Shape) (x : ℕ) (r s : Walk) → IsRoute m r → x < crosses_of m → s.end < wires_of m → Extends m x r s → IsRoute m s
longer_is m x r s route h within e = record {
  pin = rw e.pin route.pin;
  leads = rw (e.pin, e.crosses, e.wires) (LeadsTo-push x h route.leads e.at);
  crosses = rw e.crosses (among_both (λ y. y < crosses_of m) r.crosses x route.crosses h);
  wires = rw e.wires (among_both (λ w. w < wires_of m) r.wires s.end route.wires within);
}

-- the route with one more crosspoint, and the wire that it leads to
pub over_extends : (m : Shape) (x w : ℕ) (r : Walk) → HasEnd m x r.end → w ≡ other_end m x r.end → Extends m x r (record { pin = r.pin; crosses = r.crosses ++ x ∷ []; wires = r.wires ++ w ∷ []; end = w })
over_extends m x w r at e = record { pin = refl; crosses = refl; wires = refl; end = e; at = subst (Ends (ends_of m x) r.end) (sym e) (both_ends m x r.end at) }

pub over_is : (m : Shape) (x w : ℕ) (r : Walk) → IsRoute m r → x < crosses_of m → w < wires_of m → HasEnd m x r.end → w ≡ other_end m x r.end → IsRoute m (record { pin = r.pin; crosses = r.crosses ++ x ∷ []; wires = r.wires ++ w ∷ []; end = w })
over_is m x w r route h within at e = longer_is m x r _ route h within (over_extends m x w r at e)
