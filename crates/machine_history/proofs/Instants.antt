-- A tenant that is left alone at an instant has the values that it has by itself.
use Rattle.std.proofs.Common.{◌≡◌, ◌⊎◌, ℕ, ◌<◌, Bool, true, false, Some, None, Option, List, ◌++◌, length, get_or, map, refl, sym, ap, ◌∙◌, subst, arith, if◌then◌else◌, unwrap_or, IsSome, inl, inr}
use Rattle.machine_history.proofs.Vocabulary.{Contains, range_with_len, nat_cmp, fun_ext, false≢true, get_or-map, ext_get_or, length-map}
use Rattle.machine_history.proofs.Vocabulary.{get_or_default, get_or-map-range_with_len, Shape, IsValue-unique, Setting}
use Rattle.std.specs.FinSet as set
use Rattle.std.proofs.lemmas.List.Elements.{All-contains, Contains-append_cases, Contains-append_right}
use Rattle.machine_shape.specs.Shape.{Ends, in_order, turned, ends_of, pin_wire, table_wire, pins_of}
use Rattle.machine_meaning.specs.Vocabulary.{Faults, IsFaultless, stuck_cross, stuck_register, wrong_cell, net_of, plain_net, Circuit, Outputs, Pins, Pulls, by_pin, by_table, IsValue, AreValues}
use Rattle.machine_config.specs.Vocabulary.{Configuration, is_closed, setting_of, cell_of, circuit_of, table_of, table_or_off, held_by, number_of, address_at, pins_read, first_output, tick_output, edge_output, at_load, after_tick, after_edge}
use Rattle.machine_image.specs.Vocabulary.{ImageValue, IsImage, image_row, Uses, at_pin, at_tap, at_line, at_table}
use Rattle.machine_image.proofs.Driven.{number_below, same_map, tick_of}
use Rattle.machine_history.specs.Vocabulary.{settled, settled_output, IsTenantOf, LeavesAlone, IsDriveFor, drive_alone}
use Rattle.machine_history.proofs.Driving.{low_there, low_here}
use Rattle.machine_history.proofs.Reaching.{value_alone}

-- ---- tables that are on

on_of : {o : Option Setting} {s : Setting} → o ≡ Some s → IsSome o
on_of e = rw e refl

-- a table whose register isn't stuck gives what it gave
settled_free : (f : Faults) (t : ℕ) (o : Option Setting) (s : Setting) (old : Bool) → o ≡ Some s → held_by f t s ≡ None → settled_output (table_or_off f t o) old ≡ old
settled_free f t o s old e loose = ap (λ z. settled_output (table_or_off f t z) old) e ∙ ap (λ h. if s.latched then unwrap_or h old else old) loose ∙ same s.latched
  where
    same : (l : Bool) → (if l then old else old) ≡ old
    same true = refl
    same false = refl

edge_free : (f : Faults) (t : ℕ) (o : Option Setting) (s : Setting) (a : ℕ) (old : Bool) → o ≡ Some s → held_by f t s ≡ None → wrong_cell f t a ≡ None → edge_output (table_or_off f t o) a old ≡ (if s.latched then cell_of s a else old)
edge_free f t o s a old e loose right =
    ap (λ z. edge_output (table_or_off f t z) a old) e
    ∙ ap (λ h. if s.latched then unwrap_or h ((table_of f t s).cell a) else old) loose
    ∙ ap (λ w. if s.latched then unwrap_or w (cell_of s a) else old) right

first_free : (f : Faults) (t : ℕ) (o : Option Setting) (s : Setting) → o ≡ Some s → held_by f t s ≡ None → first_output (table_or_off f t o) ≡ s.init
first_free f t o s e loose = ap (λ z. first_output (table_or_off f t z)) e ∙ ap (λ h. unwrap_or h s.init) loose

module _ (whole : ImageValue) (closed : set.FinSet nat_cmp) (tables : List (Option Setting)) (inputs outputs : List ℕ) where
  abbrev m : Shape
  m = whole.config.shape

  abbrev g : Configuration
  g = whole.config

  abbrev e : Configuration
  e = record { shape = m; closed = closed; tables = tables; ticks = whole.config.ticks }

  -- a tenant of the shape and the ticks of the whole
  abbrev pub tenant : ImageValue
  tenant = record { config = e; inputs = inputs; outputs = outputs }

  -- Tables that are off give 1, and those of the tenant give in the whole what they give by themselves
  pub record Alike (there own : Outputs) : Type 0 where
    pub off : (t : ℕ) → setting_of g t ≡ None → there t ≡ true
    pub idle : (t : ℕ) → setting_of e t ≡ None → own t ≡ true
    pub same : (t : ℕ) (s : Setting) → setting_of e t ≡ Some s → there t ≡ own t

  module _ (image : IsImage whole) (is : IsTenantOf whole tenant) where
    whole_end : (x a b : ℕ) → is_closed g x ≡ true → Ends (ends_of m x) a b → Uses whole a
    whole_end x a b on (in_order s t) = at_tap x on (sym s)
    whole_end x a b on (turned s t) = at_line x on (sym t)

    own_cross : (x a b : ℕ) → is_closed g x ≡ true → Ends (ends_of m x) a b → Uses tenant a → is_closed e x ≡ true
    own_cross x a b on (in_order s t) used = is.own_taps x on (subst (Uses tenant) (sym s) used)
    own_cross x a b on (turned s t) used = is.own_lines x on (subst (Uses tenant) (sym t) used)

    own_end : (x a b : ℕ) → is_closed e x ≡ true → Ends (ends_of m x) a b → Uses tenant b
    own_end x a b on (in_order s t) = at_line x on (sym t)
    own_end x a b on (turned s t) = at_tap x on (sym s)

    pin_used : (k : ℕ) → Contains outputs k → Uses tenant (pin_wire m k)
    pin_used k has = at_pin k (Contains-append_right inputs outputs k has) refl

    -- ---- one instant

    module _ (f none : Faults) (alone : LeavesAlone f whole tenant) (faultless : IsFaultless none) where
      abbrev there : Circuit
      there = circuit_of f g

      abbrev single : Circuit
      single = record { net = plain_net m (is_closed e); stuck = λ _. None; table = λ t. table_or_off none t (setting_of e t); ticks = e.ticks }

      -- without faults its closed crosspoints alone join
      single_is : circuit_of none e ≡ single
      single_is =
          let conducts : (λ x. unwrap_or (stuck_cross none x) (is_closed e x)) ≡ is_closed e = fun_ext (λ x. ap (λ o. unwrap_or o (is_closed e x)) (faultless.crosses x)) in
          λ j. record {
            net = record { shape = m; conducts = conducts j; is_bridge = λ p. faultless.bridges p j };
            stuck = λ w. faultless.wires w j;
            table = λ t. table_or_off none t (setting_of e t);
            ticks = e.ticks;
          }

      conducting : (x : ℕ) → is_closed e x ≡ true → (net_of m f (is_closed g)).conducts x ≡ true
      conducting x on = by (stuck_cross f x) refl
        where
          by : (o : Option Bool) → stuck_cross f x ≡ o → unwrap_or o (is_closed g x) ≡ true
          by None q = is.crosses x on
          by (Some true) q = refl
          by (Some false) q = absurd (alone.crosses x on q)

      loose : (t : ℕ) (s : Setting) → setting_of e t ≡ Some s → held_by f t s ≡ None
      loose t s q = by s.latched refl
        where
          by : (l : Bool) → s.latched ≡ l → (if l then stuck_register f t else None) ≡ None
          by true latched = alone.registers t s q latched
          by false latched = refl

      loose_alone : (t : ℕ) (s : Setting) → held_by none t s ≡ None
      loose_alone t s = by s.latched
        where
          by : (l : Bool) → (if l then stuck_register none t else None) ≡ None
          by true = faultless.registers t
          by false = refl

      pub settled_alike : (o own : Outputs) → Alike o own → Alike (settled f g o) own
      settled_alike o own alike = record {
        off = λ t q. rw q (alike.off t q);
        idle = alike.idle;
        same = λ t s q. settled_free f t (setting_of g t) s (o t) (is.tables t s q) (loose t s q) ∙ alike.same t s q;
      }

      pub load_alike : Alike (at_load there) (at_load (circuit_of none e))
      load_alike = record {
        off = λ t q. rw q refl;
        idle = λ t q. rw q refl;
        same = λ t s q. first_free f t (setting_of g t) s (is.tables t s q) (loose t s q) ∙ sym (first_free none t (setting_of e t) s q (loose_alone t s));
      }

      module _ (drive : Pins) (quiet : IsDriveFor whole tenant drive) (o own : Outputs) (alike : Alike o own) where
        pulls_whole : (w : ℕ) → Pulls there drive o w → Uses whole w
        pulls_whole w (by_pin k h low at) = at_pin k (quiet.within k low) (sym at)
        pulls_whole w (by_table t low at) = by (setting_of g t) refl
          where
            by : (s : Option Setting) → setting_of g t ≡ s → Uses whole w
            by None q = absurd (false≢true (sym low ∙ alike.off t q))
            by (Some s) q = at_table t 6 (on_of q) (omega arith) (sym at)

        fewer : (w : ℕ) → Uses tenant w → Pulls there drive o w → Pulls single (drive_alone tenant drive) own w
        fewer w used (by_pin k h low at) = by (Contains-append_cases inputs outputs k (is.own_pins k (quiet.within k low) (subst (Uses tenant) (sym at) used)))
          where
            by : Contains inputs k ⊎ Contains outputs k → Pulls single (drive_alone tenant drive) own w
            by (inl has) = by_pin k h (low_here tenant drive k h has low) at
            by (inr has) = absurd (false≢true (sym low ∙ quiet.outputs k has))
        fewer w used (by_table t low at) = by (setting_of e t) refl
          where
            on : (s : Option Setting) → setting_of g t ≡ s → IsSome (setting_of g t)
            on None q = absurd (false≢true (sym low ∙ alike.off t q))
            on (Some s) q = on_of q

            by : (s : Option Setting) → setting_of e t ≡ s → Pulls single (drive_alone tenant drive) own w
            by None q = absurd (let none_on : IsSome {T = Setting} None = subst IsSome q (is.own_tables t 6 (on (setting_of g t) refl) (omega arith) (subst (Uses tenant) (sym at) used)) in false≢true none_on)
            by (Some s) q = by_table t (sym (alike.same t s q) ∙ low) at

        all : (w : ℕ) → Pulls single (drive_alone tenant drive) own w → Pulls there drive o w
        all w (by_pin k h low at) = by_pin k h (low_there tenant drive k low).1 at
        all w (by_table t low at) = by (setting_of e t) refl
          where
            by : (s : Option Setting) → setting_of e t ≡ s → Pulls there drive o w
            by None q = absurd (false≢true (sym low ∙ alike.idle t q))
            by (Some s) q = by_table t (alike.same t s q ∙ low) at

        module _ (v u : ℕ → Bool) (av : AreValues there drive o v) (au : AreValues (circuit_of none e) (drive_alone tenant drive) own u) where
          same_at : (w : ℕ) → Uses tenant w → v w ≡ u w
          same_at w used =
              let mine = value_alone m f (is_closed g) (is_closed e) (Uses tenant) (Uses whole) whole_end own_cross own_end alone.apart is.crosses conducting alone.clear there.table single.table g.ticks e.ticks drive (drive_alone tenant drive) o own pulls_whole fewer all used (av w) in
              IsValue-unique mine (subst (λ c. IsValue c (drive_alone tenant drive) own w (u w)) single_is (au w))

          same_address : (t : ℕ) → IsSome (setting_of e t) → address_at there v t ≡ address_at (circuit_of none e) u t
          unfolding address_at
          same_address t on = ap number_of (same_map (λ k. v (table_wire m t k)) (λ k. u (table_wire m t k)) 6 true (λ k l. same_at _ (at_table t k on (omega arith) refl)))

          low_address : (t : ℕ) → address_at (circuit_of none e) u t < 64
          unfolding address_at
          low_address t = number_below (map (λ k. u (table_wire m t k)) (range_with_len 0 6))

          pub tick_alike : Alike (after_tick there v o) (after_tick (circuit_of none e) u own)
          tick_alike = record {
            off = λ t q. rw q refl;
            idle = λ t q. rw q refl;
            same = λ t s q.
                let a = address_at (circuit_of none e) u t in
                ap (λ x. tick_output (there.table t) x (o t)) (same_address t (on_of q))
                ∙ tick_of f t (setting_of g t) s a (o t) (is.tables t s q) (alone.cells t a (on_of q) (low_address t))
                ∙ ap (λ b. if s.latched then b else cell_of s a) (alike.same t s q)
                ∙ sym (tick_of none t (setting_of e t) s a (own t) q (faultless.cells t a));
          }

          pub edge_alike : Alike (after_edge there v o) (after_edge (circuit_of none e) u own)
          edge_alike = record {
            off = λ t q. rw q refl;
            idle = λ t q. rw q refl;
            same = λ t s q.
                let a = address_at (circuit_of none e) u t in
                ap (λ x. edge_output (there.table t) x (o t)) (same_address t (on_of q))
                ∙ edge_free f t (setting_of g t) s a (o t) (is.tables t s q) (loose t s q) (alone.cells t a (on_of q) (low_address t))
                ∙ ap (λ b. if s.latched then cell_of s a else b) (alike.same t s q)
                ∙ sym (edge_free none t (setting_of e t) s a (own t) q (loose_alone t s) (faultless.cells t a));
          }

          -- what its output pins read
          pub row_alike : image_row tenant (pins_read there v) ≡ image_row tenant (pins_read (circuit_of none e) u)
          row_alike = ext_get_or true _ _ (length-map outputs _ ∙ sym (length-map outputs _)) one
            where
              one : (k : ℕ) → k < length (image_row tenant (pins_read there v)) → get_or (image_row tenant (pins_read there v)) k true ≡ get_or (image_row tenant (pins_read (circuit_of none e) u)) k true
              one k l =
                  let n : k < length outputs = rw length-map at l in
                  let p = get_or outputs k 0 in
                  let has : Contains outputs p = (k, n, get_or_default outputs k p 0 n) in
                  let within : p < pins_of m = All-contains (λ z. z < pins_of m) (whole.inputs ++ whole.outputs) p image.within (is.pins p (Contains-append_right inputs outputs p has)) in
                  get_or-map (λ z. get_or (pins_read there v) z true) outputs k 0 true n
                  ∙ get_or-map-range_with_len (λ z. v (pin_wire m z)) 0 (pins_of m) p p true within (omega arith)
                  ∙ same_at _ (pin_used p has)
                  ∙ sym (get_or-map-range_with_len (λ z. u (pin_wire m z)) 0 (pins_of m) p p true within (omega arith))
                  ∙ sym (get_or-map (λ z. get_or (pins_read (circuit_of none e) u) z true) outputs k 0 true n)
