-- What generated faults leave sound.
use Rattle.std.proofs.Common.{◌≡◌, ℕ, ◌<◌, ◌≤◌, Bool, true, false, Option, Some, None, cond, refl, sym, ap, ◌∙◌, subst, arith, unwrap_or}
use Rattle.std.specs.FinMap as maps
use Rattle.std.specs.FinSet as set
use Rattle.std.specs.{Cmp.IsTotalOrder, Cmp.nat_cmp_total, Ordering.nat_cmp, Ordering.eq_by_cmp, declared.cmp.Ordering.Ordering}
use Rattle.machine_bench.proofs.Vocabulary.{false≢true, none-some, Shape, ports_within, Fault}
use Rattle.std.proofs.lemmas.Map.{Lookups.CmpEqualImpliesEq, Lookups.exact_unsigned, Views.tells_apart}
use Rattle.machine_shape.specs.Vocabulary.{HasMeanings, in_order, turned, Line, Pin, Port, TablePin, is_pin, is_line, is_port, is_table_pin, ends_of, pin_wire, table_wire, line_at, port_at, pins_of, lines_of, own_ports_of, nodes_of, tables_of}
use Rattle.machine_meaning.specs.Vocabulary.{Faults, pair_cmp, stuck_wire, stuck_cross, wrong_cell, stuck_register, is_bridge, Linked, crossed, bridged, here, then, net_of, Shorted, IsSoundWire, IsSoundTable, IsWholeLine}
use Rattle.machine_faults.specs.declared.fault.Fault.TheVariants.{Stuck, CrossStuck, Cell, Register, Bridge}
use Rattle.machine_faults.specs.Adding.{no_faults, with_fault, lower_first}
use Rattle.machine_meaning.proofs.Pairs.{pairs_total, pairs_exact}
use Rattle.machine_faults.proofs.Keeping.{all_added}
use Rattle.machine_bench.specs.Faults.{table_position, MayBeHit, IsAllowed, IsOneMore, added, refused, Takes, allowed, not_allowed, AfterTurns, none, turn}
use Rattle.machine_bench.specs.Left.{LeavesSound}
use Rattle.machine_bench.proofs.Hitting.{Both, both_in_order, hit_by_meaning}

-- the faults hit what may be hit alone
record HitsAllowed (m : Shape) (f : Faults) : Type 0 where
  wires : (w : ℕ) (v : Bool) → stuck_wire f w ≡ Some v → MayBeHit m w
  lines : (x : ℕ) (v : Bool) → stuck_cross f x ≡ Some v → MayBeHit m (ends_of m x).1
  taps : (x : ℕ) → stuck_cross f x ≡ Some true → MayBeHit m (ends_of m x).0
  cells : (t a : ℕ) (v : Bool) → wrong_cell f t a ≡ Some v → 4 ≤ table_position m t
  registers : (t : ℕ) → stuck_register f t ≡ None
  bridges : (a b : ℕ) → is_bridge f (a, b) ≡ true → MayBeHit m a × MayBeHit m b

module _ {K X : Type 0} {R : K → K → Ordering} (o : IsTotalOrder R) (exact : CmpEqualImpliesEq R) where
  -- what holds of each entry, and of a new one, holds of each with the new one
  put_all : (m : maps.FinMap R X) (k : K) (v : X) (P : K → X → Type 0) → ((q : K) (u : X) → maps.get m q ≡ Some u → P q u) → P k v →
      (q : K) (u : X) → maps.get (maps.insert m k v) q ≡ Some u → P q u
  put_all m k v P all here_ q u is =
      elim (eq_by_cmp R q k) as (λ b. eq_by_cmp R q k ≡ b → cond b (Some v) (maps.get m q) ≡ Some u → P q u) [
        | true ↦ λ e s. subst (λ (j : K). P j u) (sym (tells_apart exact q k e)) (subst (P k) (cc (s)) here_)
        | false ↦ λ _ there. all q u there
      ] refl (sym (maps.get-insert o m k v q) ∙ is)

module _ (m : Shape) where
  with_allowed : (f : Faults) (x : Fault) → HitsAllowed m f → IsAllowed m x → HitsAllowed m (with_fault f x)
  with_allowed f (Stuck wire value) h a = record {
    wires = put_all nat_cmp_total exact_unsigned f.wires wire.0 value (λ w _. MayBeHit m w) h.wires a;
    lines = h.lines;
    taps = h.taps;
    cells = h.cells;
    registers = h.registers;
    bridges = h.bridges;
  }
  with_allowed f (CrossStuck cross false) h a = record {
    wires = h.wires;
    lines = put_all nat_cmp_total exact_unsigned f.crosses cross.0 false (λ x _. MayBeHit m (ends_of m x).1) h.lines a;
    taps = λ x is. put_all nat_cmp_total exact_unsigned f.crosses cross.0 false (λ y v. v ≡ true → MayBeHit m (ends_of m y).0)
        (λ y v e t. h.taps y (e ∙ ap Some t)) (λ t. absurd (false≢true t)) x true is refl;
    cells = h.cells;
    registers = h.registers;
    bridges = h.bridges;
  }
  with_allowed f (CrossStuck cross true) h a = record {
    wires = h.wires;
    lines = put_all nat_cmp_total exact_unsigned f.crosses cross.0 true (λ x _. MayBeHit m (ends_of m x).1) h.lines a.1;
    taps = λ x is. put_all nat_cmp_total exact_unsigned f.crosses cross.0 true (λ y v. v ≡ true → MayBeHit m (ends_of m y).0)
        (λ y v e t. h.taps y (e ∙ ap Some t)) (λ t. a.0) x true is refl;
    cells = h.cells;
    registers = h.registers;
    bridges = h.bridges;
  }
  with_allowed f (Cell table address value) h a = record {
    wires = h.wires;
    lines = h.lines;
    taps = h.taps;
    cells = λ t i v is. put_all pairs_total pairs_exact f.cells (table.0, address) value (λ (q : ℕ × ℕ) _. 4 ≤ table_position m q.0)
        (λ q u e. h.cells q.0 q.1 u e) a (t, i) v is;
    registers = h.registers;
    bridges = h.bridges;
  }
  with_allowed f (Register table value) h a = absurd a
  with_allowed f (Bridge a b) h both = record {
    wires = h.wires;
    lines = h.lines;
    taps = h.taps;
    cells = h.cells;
    registers = h.registers;
    bridges = λ w u is. all_added pairs_total pairs_exact f.bridges (lower_first a.0 b.0) (Both m)
        (λ q e. h.bridges q.0 q.1 e) (both_in_order m a.0 b.0 both) (w, u) is;
  }

  nothing : HitsAllowed m no_faults
  nothing = record {
    wires = λ w v e. absurd (none-some v (sym (maps.get-empty nat_cmp w) ∙ e));
    lines = λ x v e. absurd (none-some v (sym (maps.get-empty nat_cmp x) ∙ e));
    taps = λ x e. absurd (none-some true (sym (maps.get-empty nat_cmp x) ∙ e));
    cells = λ t a v e. absurd (none-some v (sym (maps.get-empty pair_cmp (t, a)) ∙ e));
    registers = λ t. maps.get-empty nat_cmp t;
    bridges = λ a b e. absurd (false≢true (sym (set.contains-empty pair_cmp (a, b)) ∙ e));
  }

  after_one : {f : Faults} {x : Fault} {g : Faults} → HitsAllowed m f → IsAllowed m x → IsOneMore m f x g → HitsAllowed m g
  after_one {f} {x} h a (added e) = with_allowed f x h a
  after_one h a (refused why e) = h

  after_turn : {f : Faults} {x : Fault} {g : Faults} → HitsAllowed m f → Takes m f x g → HitsAllowed m g
  after_turn h (allowed a o) = after_one h a o
  after_turn h (not_allowed n e) = subst (HitsAllowed m) (sym e) h

  after_turns : {n turns : ℕ} {f : Faults} → AfterTurns m n turns f → HitsAllowed m f
  after_turns none = nothing
  after_turns (turn a t) = after_turn (after_turns a) t

  module _ (f : Faults) (hits : HitsAllowed m f) where
    never : {A : Type 0} (o : Option A) → ((v : A) → o ≡ Some v → ⊥) → o ≡ None
    never None h = refl
    never (Some v) h = absurd (h v refl)

    closed_is : (o : Option Bool) → unwrap_or o false ≡ true → o ≡ Some true
    closed_is None e = absurd (false≢true e)
    closed_is (Some v) e = ap Some e

    linked_hit : {b c : ℕ} → Linked (net_of m f (λ _. false)) b c → MayBeHit m b
    linked_hit (crossed x on (in_order s t)) = subst (MayBeHit m) s (hits.taps x (closed_is (stuck_cross f x) on))
    linked_hit (crossed x on (turned s t)) = subst (MayBeHit m) t (hits.lines x true (closed_is (stuck_cross f x) on))
    linked_hit (bridged p is (in_order s t)) = subst (MayBeHit m) s (hits.bridges p.0 p.1 is).0
    linked_hit (bridged p is (turned s t)) = subst (MayBeHit m) t (hits.bridges p.0 p.1 is).1

    alone : {w u : ℕ} → (MayBeHit m w → ⊥) → Shorted m f w u → u ≡ w
    alone no_ here = refl
    alone no_ (then j l) = absurd (no_ (subst (MayBeHit m) (alone no_ j) (linked_hit l)))

    sound : (w : ℕ) → (MayBeHit m w → ⊥) → IsSoundWire m f w
    sound w no_ = record { not_stuck = never (stuck_wire f w) (λ v e. no_ (hits.wires w v e)); alone = λ u s. alone no_ s }

    whole : (w : ℕ) → (MayBeHit m w → ⊥) → IsWholeLine m f w
    whole w no_ = record {
      sound = sound w no_;
      crosses = λ x h e. never (stuck_cross f x)
          (λ v is. no_ (subst (MayBeHit m) e (hits.lines x v is)));
    }

    module _ (all : HasMeanings m) where
      pin_kept : (k : ℕ) → k < 20 → k < pins_of m → MayBeHit m (pin_wire m k) → ⊥
      pin_kept k few b h = let x = (hit_by_meaning m _ (Pin k) all (is_pin k b refl)).0 h in omega (arith, x)

      line_kept : (n k : ℕ) → n < nodes_of m → k < 20 → k < lines_of m n → MayBeHit m (line_at m n k) → ⊥
      line_kept n k i few b h = let x = (hit_by_meaning m _ (Line n k) all (is_line n k i b refl)).0 h in omega (arith, x)

      port_kept : (n k : ℕ) → n < nodes_of m → k < 20 → k < own_ports_of m n → MayBeHit m (port_at m n k) → ⊥
      port_kept n k i few b h = let p = ports_within m n k b in let x =
          (hit_by_meaning m _ (Port n k) all (is_port n k p.0 i p.1 refl)).0 h in omega (arith, x)

      table_kept : (t k : ℕ) → t < tables_of m → k < 7 → table_position m t < 4 → MayBeHit m (table_wire m t k) → ⊥
      table_kept t k i b few h = let x = (hit_by_meaning m _ (TablePin t k) all (is_table_pin t k i b refl)).0 h in omega (arith, x, few)

      sound_table : (t : ℕ) → t < tables_of m → table_position m t < 4 → IsSoundTable m f t
      sound_table t i few = record {
        cells = λ a b. never (wrong_cell f t a) (λ v e. let x = hits.cells t a v e in omega (arith, x, few));
        register = hits.registers t;
        pins = λ k b. sound _ (table_kept t k i b few);
      }

  pub left_sound : (n : ℕ) (f : Faults) (turns : ℕ) → HasMeanings m → AfterTurns m n turns f → LeavesSound m f
  left_sound n f turns all a =
      let hits = after_turns a in
      record {
        pins = λ k few b. sound f hits _ (pin_kept f hits all k few b);
        ports = λ i k h few b. sound f hits _ (port_kept f hits all i k h few b);
        lines = λ i k h few b. whole f hits _ (line_kept f hits all i k h few b);
        tables = λ t h few. sound_table f hits all t h few;
      }
