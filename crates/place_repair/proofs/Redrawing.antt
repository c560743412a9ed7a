-- What an image asks of a configuration and pins that follow a plan.
use Rattle.std.proofs.Common.{◌≡◌, ◌≢◌, ◌⊎◌, ℕ, ◌+◌, ◌*◌, ◌<◌, ◌≤◌, Bool, true, false, None, IsSome, Contains, All, AllPairs, List, ◌++◌, length, get_or, map, refl, sym, ap, ◌∙◌, subst, inl, inr, arith, if◌then◌else◌}
use Rattle.place_repair.proofs.Vocabulary.{nat_cmp, len-empty, get_or-map, length-map, map-append, Shape, ImageValue, IsImage, tables_on}
use Rattle.place_repair.proofs.Vocabulary.{Port, Visit, nth_of, Plan, AreSizedFor, ArePinsApart, IsDrawn}
use Rattle.std.specs.FinSet as set
use Rattle.machine_shape.specs.Vocabulary.{is_small, levels_of, pins_of, wires_of, tables_of, most_closed, most_repaired, most_ticks}
use Rattle.machine_shape.proofs.HighLimits.{small_is}
use Rattle.machine_shape.proofs.Totals.{wires_are}
use Rattle.machine_config.specs.Configuration.{Configuration, IsConfiguration, setting_of}
use Rattle.machine_image.proofs.Counted.{on_few, on_list, on_list_len, on_listed}
use Rattle.place_repair.proofs.Placed.{off_at, on_within, some_none}

-- pins that were moved by equal places, out of an equal list
pub moved_as : (places others pins more moved : List ℕ) → places ≡ others → pins ≡ more → moved ≡ map (nth_of places) pins → moved ≡ map (nth_of others) more
moved_as places others pins more moved e f is = is ∙ (λ z. map (nth_of (e z)) (f z))

module _ (i : ImageValue) (p : Plan) (ins outs : List ℕ) (ins_are : ins ≡ map (nth_of p.pins.items) i.inputs) (outs_are : outs ≡ map (nth_of p.pins.items) i.outputs) where
  together : ins ++ outs ≡ map (nth_of p.pins.items) (i.inputs ++ i.outputs)
  together = (λ z. ins_are z ++ outs_are z) ∙ sym (map-append (nth_of p.pins.items) i.inputs i.outputs)

  pub places_within : IsImage i → AreSizedFor i.config p → (m : Shape) → m ≡ i.config.shape → All (λ k. k < pins_of m) (ins ++ outs)
  places_within is sized m same = subst (λ z. All (λ k. k < pins_of z) (ins ++ outs)) (sym same) (subst (All (λ k. k < pins_of i.config.shape)) (sym together)
      (λ k x l.
      let h : k < length (i.inputs ++ i.outputs) = rw length-map at l in
      subst (λ z. z < pins_of i.config.shape) (sym (get_or-map (nth_of p.pins.items) (i.inputs ++ i.outputs) k 0 x h)) (sized.pins_within (get_or (i.inputs ++ i.outputs) k 0) (is.within k 0 h))))

  pub places_apart : ArePinsApart i p → AllPairs (λ j k. j ≢ k) (ins ++ outs)
  places_apart apart = subst (AllPairs (λ j k. j ≢ k)) (sym together) apart

-- it is a configuration of that machine
pub drawn_shape : (g : Configuration) (p : Plan) (nets : List (List ℕ)) (ports : List Port) (visits : List Visit) (new : Configuration) → IsDrawn g p nets ports visits new → new.shape ≡ g.shape
drawn_shape g p nets ports visits new drawn =
    ap (λ (c : Configuration). c.shape) drawn.whole ∙ ap (λ (c : Configuration). c.shape) drawn.seats.rest ∙ ap (λ (c : Configuration). c.shape) drawn.closes.rest ∙ ap (λ (c : Configuration). c.shape) drawn.joined.closed.rest

-- ---- few enough crosspoints are closed, and tables on

-- the wires of a machine leave room for nets that move
small_wires : (m : Shape) → is_small m.counts ≡ true → wires_of m ≤ 16384
unfolding wires_of levels_of
small_wires m small = (small_is m.counts small).1

room_to_repair : (m : Shape) → most_repaired m + 2 * wires_of m ≤ most_closed m
unfolding most_repaired most_closed
room_to_repair m = by_size (is_small m.counts) refl
  where
    by_size : (b : Bool) → is_small m.counts ≡ b → (if b then 1000000 else 1048576) + 2 * wires_of m ≤ (if b then 1048576 else 3670016)
    by_size true e = let w = small_wires m e in omega (arith, w)
    by_size false e = let w = (wires_are m).1 in omega (arith, w)

module _ (g : Configuration) (p : Plan) (nets : List (List ℕ)) (ports : List Port) (visits : List Visit) (new : Configuration) (drawn : IsDrawn g p nets ports visits new) where
  same_shape : new.shape ≡ g.shape
  same_shape = drawn_shape g p nets ports visits new drawn

  pub few_closed : set.len g.closed ≤ most_repaired g.shape → set.len new.closed ≤ most_closed new.shape
  few_closed few =
      let none = len-empty nat_cmp in
      let moved = drawn.joined.closed.few in
      let kept = drawn.closes.few in
      let same : set.len new.closed ≡ set.len drawn.closed.closed = ap (λ (c : Configuration). set.len c.closed) drawn.whole ∙ ap (λ (c : Configuration). set.len c.closed) drawn.seats.rest in
      subst (λ (m : Shape). set.len new.closed ≤ most_closed m) (sym same_shape) (omega (arith, none, moved, kept, same, few, room_to_repair g.shape))

  -- each table that is on stands where one stood that was on
  was_off : (t : ℕ) → IsSome (setting_of drawn.closed t) → ⊥
  was_off t on = some_none on (ap (λ (c : Configuration). setting_of c t) drawn.closes.rest ∙ ap (λ (c : Configuration). setting_of c t) drawn.joined.closed.rest ∙ off_at (tables_of g.shape) t None)

  contains_map : (f : ℕ → ℕ) (xs : List ℕ) (x : ℕ) → Contains xs x → Contains (map f xs) (f x)
  contains_map f xs x c = (c.0, subst (λ n. c.0 < n) (sym (length-map xs f)) c.1, get_or-map f xs c.0 x (f x) c.1 ∙ ap f c.2)

  pub few_on : IsConfiguration g → length (tables_on g) ≤ most_ticks g.shape → length (tables_on new) ≤ most_ticks new.shape
  few_on right few =
      let places = map (nth_of p.tables.items) (on_list g) in
      let here = on_few new places (λ u on. placed u (drawn.seats.others u (subst IsSome (ap (λ (c : Configuration). setting_of c u) drawn.whole) on))) in
      let len = length-map (on_list g) (nth_of p.tables.items) in
      subst (λ (m : Shape). length (tables_on new) ≤ most_ticks m) (sym same_shape) (omega (arith, here, len, on_list_len g, few))
    where
      placed : (u : ℕ) → IsSome (setting_of drawn.closed u) ⊎ ((t : ℕ) × IsSome (setting_of g t) × (nth_of p.tables.items t ≡ u)) → Contains (map (nth_of p.tables.items) (on_list g)) u
      placed u (inl off) = absurd (was_off u off)
      placed u (inr r) = subst (Contains (map (nth_of p.tables.items) (on_list g))) r.2 (contains_map (nth_of p.tables.items) (on_list g) r.0 (on_listed g r.0 (on_within g right r.0 r.1) r.1))
