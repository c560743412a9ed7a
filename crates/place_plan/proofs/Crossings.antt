-- The nets that cross a node, of those that have a terminal inside.
use Rattle.std.proofs.Common.{ℕ, ◌<◌, ◌≤◌, Bool, true, false, List, [], ◌∷◌, ◌++◌, if◌then◌else◌, length, sym, subst, arith}
use Rattle.place_plan.proofs.Vocabulary.{All, All-contains, All-push, Shape, Defects, IsFreeWire}
use Rattle.place_plan.specs.Vocabulary.{AreThose, IsAmongFirst, nth_of, IsInside, HasTerminal, IsAmong, CrossesIn, CrossesAt, IsFreePort, list_at, Touches, TouchesOf, AreWires, IsFreeLine}
use Rattle.machine_shape.specs.Vocabulary.{wires_of, nodes_of, lines_of, own_ports_of, line_at, port_at, IsLine, IsPort, HasSites}
use Rattle.place_plan.proofs.Sieves.{elements_end}
use Rattle.place_plan.proofs.Those.{those_same}

module _ (m : Shape) (nets : List (List ℕ)) (n : ℕ) where
  pub crosses_by : (k : ℕ) → Touches m nets n k → (w : ℕ) × IsAmong (list_at nets k) w × ¬ IsInside m n w → CrossesIn m nets n k
  crosses_by k t out = record { inner = t.0; outer = out.0; inner_is = t.1; outer_is = out.1; inside = t.2; not_inside = out.2 }

  pub never_crosses : (k : ℕ) → All (IsInside m n) (list_at nets k) → CrossesIn m nets n k → ⊥
  never_crosses k all is = is.not_inside (All-contains (IsInside m n) (list_at nets k) is.outer all is.outer_is)

  pub touches_by : (k : ℕ) → CrossesIn m nets n k → Touches m nets n k
  touches_by k is = (is.inner, is.inner_is, is.inside)

  pub crossing_end : (touched ys : List ℕ) (k : ℕ) → length touched ≤ k → k ≤ length touched → AreThose (TouchesOf m nets (length nets) n) touched → AreThose (IsAmongFirst (nth_of touched) k (CrossesIn m nets n)) ys → AreThose (CrossesAt m (length nets) (HasTerminal nets) n) ys
  crossing_end touched ys k ge le all are = elements_end touched (CrossesIn m nets n) (TouchesOf m nets (length nets) n) (CrossesAt m (length nets) (HasTerminal nets) n) k ys ge le all
      (λ w t x. (t.0, x)) (λ w r. ((r.0, touches_by w r.1), r.1)) are

pub ports_end : (m : Shape) (sites : HasSites m) (d : Defects) (n : ℕ) (ys : List ℕ) (k : ℕ) → own_ports_of m n ≤ k → k ≤ own_ports_of m n → n < nodes_of m → AreThose (IsAmongFirst (port_at m n) k (IsFreeWire d)) ys → AreThose (IsFreePort m d n) ys
ports_end m sites d n ys k ge le lt are = those_same (IsAmongFirst (port_at m n) k (IsFreeWire d)) (IsFreePort m d n) ys are
    (λ w p. (subst (IsPort m n) (sym p.0.2) (sites.port n p.0.0 lt (omega (arith, p.0.1))), p.1))
    (λ w r. let q = sites.some_port n w r.0 in ((q.0, omega (arith, q.1), q.2), r.1))

pub lines_end : (m : Shape) (sites : HasSites m) (d : Defects) (n : ℕ) (ys : List ℕ) (k : ℕ) → lines_of m n ≤ k → k ≤ lines_of m n → n < nodes_of m → AreThose (IsAmongFirst (line_at m n) k (IsFreeWire d)) ys → AreThose (IsFreeLine m d n) ys
lines_end m sites d n ys k ge le lt are = those_same (IsAmongFirst (line_at m n) k (IsFreeWire d)) (IsFreeLine m d n) ys are
    (λ w p. (subst (IsLine m n) (sym p.0.2) (sites.line n p.0.0 lt (omega (arith, p.0.1))), p.1))
    (λ w r. let q = sites.some_line n w r.0 in ((q.0, omega (arith, q.1), q.2), r.1))

pub wires_step : (m : Shape) (ws : List ℕ) (w : ℕ) (b : Bool) → w < wires_of m → AreWires m ws → AreWires m (if b then ws ++ w ∷ [] else ws)
wires_step m ws w true lt all = All-push (λ u. u < wires_of m) ws w all lt
wires_step m ws w false lt all = all
