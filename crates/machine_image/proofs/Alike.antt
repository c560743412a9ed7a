-- An image on free parts runs alike under all fault sets that the list covers.
use Rattle.std.proofs.Common.{◌≡◌, ℕ, ◌+◌, ◌<◌, Bool, true, false, Some, None, Option, List, [], ◌∷◌, ◌++◌, length, get_or, map, refl, sym, ap, ◌∙◌, subst, arith, IsSome}
use Rattle.machine_image.proofs.Vocabulary.{range_with_len, false≢true, get_or-map-range_with_len, pin_wire, table_wire, pins_of, tables_of}
use Rattle.machine_image.proofs.Vocabulary.{crosses_of, IsNumbered, Setting, ImageValue, IsImage, drive_of, image_row, IsFreeImage}
use Rattle.std.proofs.Math.Path.{fun_ext}
use Rattle.std.proofs.lemmas.List.{get_or_append_left, get_or-append-add, get_or-map, ext_get_or, length-append, length-map}
use Rattle.machine_meaning.specs.Vocabulary.{Faults, Joined, plain_net, Outputs, Pins, Pulls, by_pin, by_table, IsHeld, IsValue, held_0, held_1, pulled, released, AreValues, Defects, IsFreeWire, IsFreeCross, Covers}
use Rattle.machine_meaning.proofs.Covered.{none_stuck, joined_plainly}
use Rattle.machine_config.specs.Vocabulary.{Configuration, is_closed, setting_of, circuit_of, table_or_off, IsRun, number_of, address_at, pins_read, tick_output, edge_output, at_load, after_tick, after_edge, Ticks, unticked, tick, Cycles, none, cycle}
use Rattle.machine_image.proofs.Driven.{drive_low, number_below, same_map, tick_of, edge_of, first_of}
use Rattle.machine_image.proofs.FreeWires.{IsGood, IsOff, joined_too}
use Rattle.machine_image.proofs.Touching.{on_below, true_some}

module _ (d : Defects) (i : ImageValue) (numbered : IsNumbered i.config.shape) (is : IsImage i) (free : IsFreeImage d i) where
  abbrev g : Configuration
  g = i.config

  free_cross : (x : ℕ) → is_closed g x ≡ true → (x < crosses_of g.shape) × IsFreeCross g.shape d x
  free_cross x on = (is.config.crosses x on, free.crosses x on)

  on_within : (t : ℕ) → IsSome (setting_of g t) → t < tables_of g.shape
  on_within t on = on_below g is.config t (true_some (setting_of g t) on)

  -- outputs are alike that are so at each table, on or off
  each_table : (x y : Outputs) → ((t : ℕ) → setting_of g t ≡ None → x t ≡ y t) → ((t : ℕ) (s : Setting) → setting_of g t ≡ Some s → IsSome (setting_of g t) → x t ≡ y t) → x ≡ y
  each_table x y off on = fun_ext (λ t. by t (setting_of g t) refl)
    where
      by : (t : ℕ) (s : Option Setting) → setting_of g t ≡ s → x t ≡ y t
      by t None e = off t e
      by t (Some s) e = on t s e (rw e refl)

  good_in : (k : ℕ) → k < length i.inputs → IsGood g.shape d (pin_wire g.shape (get_or i.inputs k 0))
  good_in k h =
      let same = get_or_append_left i.inputs i.outputs 0 k h in
      let l : k < length (i.inputs ++ i.outputs) = rw length-append (omega arith) in
      record { within = numbered.pins _ (subst (λ p. p < pins_of g.shape) same (is.within k 0 l)); free = subst (λ p. IsFreeWire d (pin_wire g.shape p)) same (free.pins k 0 l) }

  out_within : (k : ℕ) → k < length i.outputs → get_or i.outputs k 0 < pins_of g.shape
  out_within k h = subst (λ p. p < pins_of g.shape) (get_or-append-add i.inputs i.outputs k 0) (is.within (length i.inputs + k) 0 (rw length-append (omega arith)))

  good_out : (k : ℕ) → k < length i.outputs → IsGood g.shape d (pin_wire g.shape (get_or i.outputs k 0))
  good_out k h = record { within = numbered.pins _ (out_within k h); free = subst (λ p. IsFreeWire d (pin_wire g.shape p)) (get_or-append-add i.inputs i.outputs k 0) (free.pins (length i.inputs + k) 0 (rw length-append (omega arith))) }

  good_pin : (t k : ℕ) → IsSome (setting_of g t) → k < 7 → IsGood g.shape d (table_wire g.shape t k)
  good_pin t k on h = record { within = numbered.tables t k (on_within t on) h; free = (free.tables t on).pins k h }

  module _ (vector : List Bool) (o : Outputs) (off : IsOff g o) where
    module _ (f : Faults) (covers : Covers g.shape d f) where
      puller_good : {w : ℕ} → Pulls (circuit_of f g) (drive_of i vector) o w → IsGood g.shape d w
      puller_good (by_pin k inside e at) = let r = drive_low (pins_of g.shape) i.inputs vector k e in subst (IsGood g.shape d) (ap (pin_wire g.shape) r.2 ∙ at) (good_in r.0 r.1)
      puller_good {w} (by_table t e at) = by (setting_of g t) refl
        where
          by : (s : Option Setting) → setting_of g t ≡ s → IsGood g.shape d w
          by None q = absurd (false≢true (sym e ∙ off t q))
          by (Some s) q = subst (IsGood g.shape d) at (good_pin t 6 (rw q refl) (omega arith))

      not_held : {w : ℕ} {b : Bool} → IsGood g.shape d w → IsHeld (circuit_of f g) w b → ⊥
      not_held good h = cc (none_stuck g.shape d f (is_closed g) covers numbered.ends free_cross good.within good.free h.joined, h.stuck)

      -- a good wire is 0 where closed crosspoints alone join it to what pulls
      low_pulled : {w : ℕ} → IsGood g.shape d w → IsValue (circuit_of f g) (drive_of i vector) o w false → (v : ℕ) × Joined (plain_net g.shape (is_closed g)) w v × Pulls (circuit_of f g) (drive_of i vector) o v
      low_pulled good (held_0 h) = absurd (not_held good h)
      low_pulled good (pulled _ _ h) = let other = puller_good h.pulls in (h.place, joined_plainly g.shape d f (is_closed g) covers numbered.ends free_cross good.within other.within good.free other.free h.joined, h.pulls)

      pulled_low : {w v : ℕ} {b : Bool} → IsGood g.shape d w → Joined (plain_net g.shape (is_closed g)) w v → Pulls (circuit_of f g) (drive_of i vector) o v → IsValue (circuit_of f g) (drive_of i vector) o w b → b ≡ false
      pulled_low good j p (held_0 h) = refl
      pulled_low good j p (held_1 _ h) = absurd (not_held good h)
      pulled_low good j p (pulled _ _ h) = refl
      pulled_low {v = v} good j p (released _ _ never) = absurd (never (record { place = v; joined = joined_too g.shape (is_closed g) d f covers free_cross j; pulls = p }))

    moved : (f h : Faults) {w : ℕ} → Pulls (circuit_of f g) (drive_of i vector) o w → Pulls (circuit_of h g) (drive_of i vector) o w
    moved f h (by_pin k inside e at) = by_pin k inside e at
    moved f h (by_table t e at) = by_table t e at

    low_too : (f h : Faults) → Covers g.shape d f → Covers g.shape d h → {w : ℕ} {b : Bool} → IsGood g.shape d w → IsValue (circuit_of f g) (drive_of i vector) o w false → IsValue (circuit_of h g) (drive_of i vector) o w b → b ≡ false
    low_too f h cf ch good p q = let r = low_pulled f cf good p in pulled_low h ch good r.1 (moved f h r.2) q

    same_value : (f h : Faults) → Covers g.shape d f → Covers g.shape d h → {w : ℕ} (a b : Bool) → IsGood g.shape d w → IsValue (circuit_of f g) (drive_of i vector) o w a → IsValue (circuit_of h g) (drive_of i vector) o w b → a ≡ b
    same_value f h cf ch false b good p q = sym (low_too f h cf ch good p q)
    same_value f h cf ch true false good p q = low_too h f ch cf good q p
    same_value f h cf ch true true good p q = refl

  module _ (f h : Faults) (cf : Covers g.shape d f) (ch : Covers g.shape d h) where
    module _ (vector : List Bool) (o : Outputs) (off : IsOff g o) (v u : ℕ → Bool) (av : AreValues (circuit_of f g) (drive_of i vector) o v) (au : AreValues (circuit_of h g) (drive_of i vector) o u) where
      same_at : (w : ℕ) → IsGood g.shape d w → v w ≡ u w
      same_at w good = same_value vector o off f h cf ch (v w) (u w) good (av w) (au w)

      same_address : (t : ℕ) → IsSome (setting_of g t) → address_at (circuit_of f g) v t ≡ address_at (circuit_of h g) u t
      unfolding address_at
      same_address t on = ap number_of (same_map (λ k. v (table_wire g.shape t k)) (λ k. u (table_wire g.shape t k)) 6 true (λ k l. same_at _ (good_pin t k on (omega arith))))

      low_address : (t : ℕ) → address_at (circuit_of h g) u t < 64
      unfolding address_at
      low_address t = number_below (map (λ k. u (table_wire g.shape t k)) (range_with_len 0 6))

      same_tick : after_tick (circuit_of f g) v o ≡ after_tick (circuit_of h g) u o
      same_tick = each_table (after_tick (circuit_of f g) v o) (after_tick (circuit_of h g) u o) (λ t e. rw e refl) (λ t s e on.
          let a = address_at (circuit_of h g) u t in
          ap (λ x. tick_output (table_or_off f t (setting_of g t)) x (o t)) (same_address t on)
          ∙ tick_of f t (setting_of g t) s a (o t) e (cf.cells t a (on_within t on) (low_address t) (free.tables t on))
          ∙ sym (tick_of h t (setting_of g t) s a (o t) e (ch.cells t a (on_within t on) (low_address t) (free.tables t on))))

      same_edge : after_edge (circuit_of f g) v o ≡ after_edge (circuit_of h g) u o
      same_edge = each_table (after_edge (circuit_of f g) v o) (after_edge (circuit_of h g) u o) (λ t e. rw e refl) (λ t s e on.
          let a = address_at (circuit_of h g) u t in
          ap (λ x. edge_output (table_or_off f t (setting_of g t)) x (o t)) (same_address t on)
          ∙ edge_of f t (setting_of g t) s a (o t) e (cf.cells t a (on_within t on) (low_address t) (free.tables t on)) (cf.registers t (on_within t on) (free.tables t on))
          ∙ sym (edge_of h t (setting_of g t) s a (o t) e (ch.cells t a (on_within t on) (low_address t) (free.tables t on)) (ch.registers t (on_within t on) (free.tables t on))))

      same_row : image_row i (pins_read (circuit_of f g) v) ≡ image_row i (pins_read (circuit_of h g) u)
      same_row = ext_get_or true _ _ (length-map i.outputs _ ∙ sym (length-map i.outputs _)) one
        where
          one : (k : ℕ) → k < length (image_row i (pins_read (circuit_of f g) v)) → get_or (image_row i (pins_read (circuit_of f g) v)) k true ≡ get_or (image_row i (pins_read (circuit_of h g) u)) k true
          one k l =
              let n : k < length i.outputs = rw length-map at l in
              get_or-map (λ p. get_or (pins_read (circuit_of f g) v) p true) i.outputs k 0 true n
              ∙ get_or-map-range_with_len (λ p. v (pin_wire g.shape p)) 0 (pins_of g.shape) (get_or i.outputs k 0) (get_or i.outputs k 0) true (out_within k n) (omega arith)
              ∙ same_at _ (good_out k n)
              ∙ sym (get_or-map-range_with_len (λ p. u (pin_wire g.shape p)) 0 (pins_of g.shape) (get_or i.outputs k 0) (get_or i.outputs k 0) true (out_within k n) (omega arith))
              ∙ sym (get_or-map (λ p. get_or (pins_read (circuit_of h g) u) p true) i.outputs k 0 true n)

    off_tick : (v : ℕ → Bool) (o : Outputs) → IsOff g (after_tick (circuit_of f g) v o)
    off_tick v o t e = rw e refl

    off_edge : (v : ℕ → Bool) (o : Outputs) → IsOff g (after_edge (circuit_of f g) v o)
    off_edge v o t e = rw e refl

    same_ticks : (vector : List Bool) {before other after last : Outputs} {n : ℕ} → before ≡ other → IsOff g before → Ticks (circuit_of f g) (drive_of i vector) before n after → Ticks (circuit_of h g) (drive_of i vector) other n last → (after ≡ last) × IsOff g after
    same_ticks vector e off unticked unticked = (e, off)
    same_ticks vector e off (tick {mid = mid} v ps av q) (tick u rs au r) =
        let so_far = same_ticks vector e off ps rs in (
          q ∙ same_tick vector mid so_far.1 v u av (subst (λ o. AreValues (circuit_of h g) (drive_of i vector) o u) (sym so_far.0) au) ∙ ap (after_tick (circuit_of h g) u) so_far.0 ∙ sym r,
          λ t n. ap (λ o. o t) q ∙ off_tick v mid t n,
        )

    same_cycles : {before other after last : Outputs} {reads others : List Pins} (vectors : List (List Bool)) → before ≡ other → IsOff g before → Cycles (circuit_of f g) before (map (drive_of i) vectors) reads after → Cycles (circuit_of h g) other (map (drive_of i) vectors) others last → map (image_row i) reads ≡ map (image_row i) others
    same_cycles [] e off none none = refl
    same_cycles (vector ∷ vectors) e off (cycle s ss) (cycle r rs) =
        let ticked = same_ticks vector e off s.ticks r.ticks in
        let au = subst (λ o. AreValues (circuit_of h g) (drive_of i vector) o r.value) (sym ticked.0) r.values in
        let row = ap (image_row i) s.reads ∙ same_row vector s.outputs ticked.1 s.value r.value s.values au ∙ sym (ap (image_row i) r.reads) in
        let state = s.edge ∙ same_edge vector s.outputs ticked.1 s.value r.value s.values au ∙ ap (after_edge (circuit_of h g) r.value) ticked.0 ∙ sym r.edge in
        let rest = same_cycles vectors state (λ t n. ap (λ o. o t) s.edge ∙ off_edge s.value s.outputs t n) ss rs in
        λ j. row j ∷ rest j

    same_load : at_load (circuit_of f g) ≡ at_load (circuit_of h g)
    same_load = each_table (at_load (circuit_of f g)) (at_load (circuit_of h g)) (λ t e. rw e refl) (λ t s e on.
        first_of f t (setting_of g t) s e (cf.registers t (on_within t on) (free.tables t on))
        ∙ sym (first_of h t (setting_of g t) s e (ch.registers t (on_within t on) (free.tables t on))))

    pub runs_alike : (vectors : List (List Bool)) {reads others : List Pins} → IsRun f g (map (drive_of i) vectors) reads → IsRun h g (map (drive_of i) vectors) others → map (image_row i) reads ≡ map (image_row i) others
    runs_alike vectors p q = same_cycles vectors same_load (λ t e. rw e refl) p.cycles q.cycles
