-- Two images, each on free parts, whose pins and tables stand at different places but hang together alike, read the same rows.
use Rattle.std.proofs.Common.{◌≡◌, ℕ, ◌+◌, ◌<◌, Bool, true, false, Some, None, Option, List, [], ◌∷◌, ◌++◌, length, get_or, map, refl, sym, ap, ◌∙◌, subst, arith, IsSome, if◌then◌else◌}
use Rattle.place_repair.proofs.Vocabulary.{range_with_len, get_or-map-range_with_len, Setting, IsGood, IsOff, different_at}
use Rattle.std.proofs.lemmas.List.{get_or_append_left, get_or-append-add, get_or-map, ext_get_or, length-append, length-map}
use Rattle.machine_shape.specs.Vocabulary.{pin_wire, table_wire, pins_of, tables_of, IsNumbered}
use Rattle.machine_meaning.specs.Vocabulary.{Faults, Joined, plain_net, Outputs, Pins, Pulls, by_pin, by_table, IsValue, AreValues, Defects, Covers}
use Rattle.machine_config.specs.Vocabulary.{is_closed, setting_of, cell_of, circuit_of, table_or_off, IsRun, number_of, address_at, pins_read, tick_output, edge_output, at_load, after_tick, after_edge, Ticks, unticked, tick, Cycles, none, cycle}
use Rattle.machine_image.specs.Vocabulary.{ImageValue, IsImage, drive_of, image_row, IsFreeImage}
use Rattle.machine_image.proofs.Driven.{drive_pin, drive_low, number_below, same_map, tick_of, edge_of, first_of}
use Rattle.place_repair.proofs.Pulled.{good_pin_at, good_pin, table_on, low_pulled, pulled_low}

-- an image on free parts, under faults that a list covers
pub record IsFreeUnder (d : Defects) (i : ImageValue) (f : Faults) : Type 0 where
  pub numbered : IsNumbered i.config.shape
  pub is : IsImage i
  pub free : IsFreeImage d i
  pub covers : Covers i.config.shape d f
  pub on_within : (t : ℕ) → IsSome (setting_of i.config t) → t < tables_of i.config.shape

-- the first image's wire is at the place of the second's: each as the same pin of the image, or of tables that stand so
pub data Moved (i j : ImageValue) (seat : ℕ → ℕ → Type 0) (w v : ℕ) : Type 0 where
  pin_at : (k : ℕ) → k < length (i.inputs ++ i.outputs) → k < length (j.inputs ++ j.outputs) → pin_wire i.config.shape (get_or (i.inputs ++ i.outputs) k 0) ≡ w →
      pin_wire j.config.shape (get_or (j.inputs ++ j.outputs) k 0) ≡ v → Moved i j seat w v
  table_at : (t u k : ℕ) → IsSome (setting_of i.config t) → IsSome (setting_of j.config u) → seat t u → k < 7 → table_wire i.config.shape t k ≡ w →
      table_wire j.config.shape u k ≡ v → Moved i j seat w v

pub record Correspond (i j : ImageValue) (seat : ℕ → ℕ → Type 0) : Type 0 where
  pub ticks : j.config.ticks ≡ i.config.ticks
  pub inputs : length j.inputs ≡ length i.inputs
  pub outputs : length j.outputs ≡ length i.outputs
  pub there : (t : ℕ) → IsSome (setting_of i.config t) → (u : ℕ) × seat t u
  pub back : (u : ℕ) → IsSome (setting_of j.config u) → (t : ℕ) × IsSome (setting_of i.config t) × seat t u
  pub setting : (t u : ℕ) → IsSome (setting_of i.config t) → seat t u → setting_of j.config u ≡ setting_of i.config t
  pub to : (w v x y : ℕ) → Moved i j seat w v → Moved i j seat x y → Joined (plain_net i.config.shape (is_closed i.config)) w x → Joined (plain_net j.config.shape (is_closed j.config)) v y
  pub from : (w v x y : ℕ) → Moved i j seat w v → Moved i j seat x y → Joined (plain_net j.config.shape (is_closed j.config)) v y → Joined (plain_net i.config.shape (is_closed i.config)) w x

module _ (di dj : Defects) (i j : ImageValue) (f h : Faults) (ri : IsFreeUnder di i f) (rj : IsFreeUnder dj j h) (seat : ℕ → ℕ → Type 0) (c : Correspond i j seat) where
  pins_len : length (j.inputs ++ j.outputs) ≡ length (i.inputs ++ i.outputs)
  pins_len = (let a = length-append i.inputs i.outputs in let b = length-append j.inputs j.outputs in let e = c.inputs in let e' = c.outputs in omega (arith, a, b, e, e'))

  on_there : (t u : ℕ) → IsSome (setting_of i.config t) → seat t u → IsSome (setting_of j.config u)
  on_there t u on s = subst IsSome (sym (c.setting t u on s)) on

  pin_of_input : (k : ℕ) → k < length i.inputs → Moved i j seat (pin_wire i.config.shape (get_or i.inputs k 0)) (pin_wire j.config.shape (get_or j.inputs k 0))
  pin_of_input k l =
      let m : k < length j.inputs = (let e = c.inputs in omega (arith, l, e)) in
      pin_at k (rw length-append (omega (arith, l))) (rw length-append (omega (arith, m))) (ap (pin_wire i.config.shape) (get_or_append_left i.inputs i.outputs 0 k l)) (ap (pin_wire j.config.shape) (get_or_append_left j.inputs j.outputs 0 k m))

  pin_of_output : (k : ℕ) → k < length i.outputs → Moved i j seat (pin_wire i.config.shape (get_or i.outputs k 0)) (pin_wire j.config.shape (get_or j.outputs k 0))
  pin_of_output k l =
      let m : k < length j.outputs = (let e = c.outputs in omega (arith, l, e)) in
      pin_at (length i.inputs + k) (rw length-append (omega (arith, l))) (rw length-append (let e = c.inputs in omega (arith, m, e)))
      (ap (pin_wire i.config.shape) (get_or-append-add i.inputs i.outputs k 0))
      (ap (λ n. pin_wire j.config.shape (get_or (j.inputs ++ j.outputs) (n + k) 0)) (sym c.inputs) ∙ ap (pin_wire j.config.shape) (get_or-append-add j.inputs j.outputs k 0))

  good_old : (w v : ℕ) → Moved i j seat w v → IsGood i.config.shape di w
  good_old w v (pin_at k l m e q) = subst (IsGood i.config.shape di) e (good_pin_at di i ri.numbered ri.is ri.free ri.on_within k l)
  good_old w v (table_at t u k on there s l e q) = subst (IsGood i.config.shape di) e (good_pin di i ri.numbered ri.is ri.free ri.on_within t k on l)

  good_new : (w v : ℕ) → Moved i j seat w v → IsGood j.config.shape dj v
  good_new w v (pin_at k l m e q) = subst (IsGood j.config.shape dj) q (good_pin_at dj j rj.numbered rj.is rj.free rj.on_within k m)
  good_new w v (table_at t u k on there s l e q) = subst (IsGood j.config.shape dj) q (good_pin dj j rj.numbered rj.is rj.free rj.on_within u k there l)

  -- ---- inputs that are driven

  input_apart : (n : ImageValue) → IsImage n → (a b : ℕ) → a < length n.inputs → b < length n.inputs → get_or n.inputs b 0 ≡ get_or n.inputs a 0 → b ≡ a
  input_apart n is a b h l e =
      different_at (n.inputs ++ n.outputs) is.apart b a (rw length-append (omega (arith, l))) (rw length-append (omega (arith, h)))
      (get_or_append_left n.inputs n.outputs 0 b l ∙ e ∙ sym (get_or_append_left n.inputs n.outputs 0 a h))

  input_within : (n : ImageValue) → IsImage n → (k : ℕ) → k < length n.inputs → get_or n.inputs k 0 < pins_of n.config.shape
  input_within n is k l = subst (λ p. p < pins_of n.config.shape) (get_or_append_left n.inputs n.outputs 0 k l) (is.within k 0 (rw length-append (omega (arith, l))))

  driven : (n : ImageValue) → IsImage n → (vector : List Bool) (k : ℕ) → k < length n.inputs → get_or (drive_of n vector) (get_or n.inputs k 0) true ≡ get_or vector k true
  driven n is vector k l = drive_pin (pins_of n.config.shape) n.inputs vector k l (input_within n is k l) (λ b h e. input_apart n is k b l h e)

  -- ---- one state

  record Same (o p : Outputs) : Type 0 where
    old_off : IsOff i.config o
    new_off : IsOff j.config p
    same : (t u : ℕ) → IsSome (setting_of i.config t) → seat t u → o t ≡ p u

  module _ (vector : List Bool) (o p : Outputs) (s : Same o p) where
    pulls_there : (v : ℕ) → Pulls (circuit_of f i.config) (drive_of i vector) o v → (y : ℕ) × Moved i j seat v y × Pulls (circuit_of h j.config) (drive_of j vector) p y
    pulls_there v (by_pin k inside e at) =
        let r = drive_low (pins_of i.config.shape) i.inputs vector k e in
        let l : r.0 < length j.inputs = (let e' = c.inputs in omega (arith, r.1, e')) in (
          pin_wire j.config.shape (get_or j.inputs r.0 0),
          subst (λ z. Moved i j seat z (pin_wire j.config.shape (get_or j.inputs r.0 0))) (ap (pin_wire i.config.shape) r.2 ∙ at) (pin_of_input r.0 r.1),
          by_pin (get_or j.inputs r.0 0) (input_within j rj.is r.0 l) (driven j rj.is vector r.0 l ∙ r.3) refl,
        )
    pulls_there v (by_table t e at) =
        let on = table_on di i ri.numbered ri.is ri.free ri.on_within vector o s.old_off f ri.covers t e in
        let r = c.there t on in
        (table_wire j.config.shape r.0 6, table_at t r.0 6 on (on_there t r.0 on r.1) r.1 (omega arith) at refl, by_table r.0 (sym (s.same t r.0 on r.1) ∙ e) refl)

    pulls_back : (y : ℕ) → Pulls (circuit_of h j.config) (drive_of j vector) p y → (v : ℕ) × Moved i j seat v y × Pulls (circuit_of f i.config) (drive_of i vector) o v
    pulls_back y (by_pin k inside e at) =
        let r = drive_low (pins_of j.config.shape) j.inputs vector k e in
        let l : r.0 < length i.inputs = (let e' = c.inputs in omega (arith, r.1, e')) in (
          pin_wire i.config.shape (get_or i.inputs r.0 0),
          subst (λ z. Moved i j seat (pin_wire i.config.shape (get_or i.inputs r.0 0)) z) (ap (pin_wire j.config.shape) r.2 ∙ at) (pin_of_input r.0 l),
          by_pin (get_or i.inputs r.0 0) (input_within i ri.is r.0 l) (driven i ri.is vector r.0 l ∙ r.3) refl,
        )
    pulls_back y (by_table u e at) =
        let there = table_on dj j rj.numbered rj.is rj.free rj.on_within vector p s.new_off h rj.covers u e in
        let r = c.back u there in
        (table_wire i.config.shape r.0 6, table_at r.0 u 6 r.1 there r.2 (omega arith) refl at, by_table r.0 (s.same r.0 u r.1 r.2 ∙ e) refl)

    low_there : (w v : ℕ) (b : Bool) → Moved i j seat w v → IsValue (circuit_of f i.config) (drive_of i vector) o w false → IsValue (circuit_of h j.config) (drive_of j vector) p v b → b ≡ false
    low_there w v b m a q =
        let r = low_pulled di i ri.numbered ri.is ri.free ri.on_within vector o s.old_off f ri.covers (good_old w v m) a in
        let y = pulls_there r.0 r.2 in
        pulled_low dj j rj.numbered rj.is rj.free rj.on_within vector p s.new_off h rj.covers (good_new w v m) (c.to w v r.0 y.0 m y.1 r.1) y.2 q

    low_back : (w v : ℕ) (b : Bool) → Moved i j seat w v → IsValue (circuit_of h j.config) (drive_of j vector) p v false → IsValue (circuit_of f i.config) (drive_of i vector) o w b → b ≡ false
    low_back w v b m a q =
        let r = low_pulled dj j rj.numbered rj.is rj.free rj.on_within vector p s.new_off h rj.covers (good_new w v m) a in
        let x = pulls_back r.0 r.2 in
        pulled_low di i ri.numbered ri.is ri.free ri.on_within vector o s.old_off f ri.covers (good_old w v m) (c.from w v x.0 r.0 m x.1 r.1) x.2 q

    same_value : (w v : ℕ) (a b : Bool) → Moved i j seat w v → IsValue (circuit_of f i.config) (drive_of i vector) o w a → IsValue (circuit_of h j.config) (drive_of j vector) p v b → a ≡ b
    same_value w v false b m x y = sym (low_there w v b m x y)
    same_value w v true false m x y = low_back w v true m y x
    same_value w v true true m x y = refl

    module _ (old new : ℕ → Bool) (are_old : AreValues (circuit_of f i.config) (drive_of i vector) o old) (are_new : AreValues (circuit_of h j.config) (drive_of j vector) p new) where
      same_at : (w v : ℕ) → Moved i j seat w v → old w ≡ new v
      same_at w v m = same_value w v (old w) (new v) m (are_old w) (are_new v)

      same_address : (t u : ℕ) → IsSome (setting_of i.config t) → seat t u → address_at (circuit_of f i.config) old t ≡ address_at (circuit_of h j.config) new u
      unfolding address_at
      same_address t u on st = ap number_of (same_map (λ k. old (table_wire i.config.shape t k)) (λ k. new (table_wire j.config.shape u k)) 6 true (λ k l. same_at _ _ (table_at t u k on (on_there t u on st) st (omega (arith, l)) refl refl)))

      low_address : (u : ℕ) → address_at (circuit_of h j.config) new u < 64
      unfolding address_at
      low_address u = number_below (map (λ k. new (table_wire j.config.shape u k)) (range_with_len 0 6))

      module _ (t u : ℕ) (on : IsSome (setting_of i.config t)) (st : seat t u) where
        within_old : t < tables_of i.config.shape
        within_old = ri.on_within t on

        within_new : u < tables_of j.config.shape
        within_new = rj.on_within u (on_there t u on st)

        some : (q : Option Setting) → IsSome q → (z : Setting) × (q ≡ Some z)
        some None e = absurd cc
        some (Some z) e = (z, refl)

        z : (z : Setting) × (setting_of i.config t ≡ Some z)
        z = some (setting_of i.config t) on

        tick_same : after_tick (circuit_of f i.config) old o t ≡ after_tick (circuit_of h j.config) new p u
        tick_same =
            ap (λ x. tick_output (table_or_off f t (setting_of i.config t)) x (o t)) (same_address t u on st)
            ∙ tick_of f t (setting_of i.config t) z.0 (address_at (circuit_of h j.config) new u) (o t) z.1 (ri.covers.cells t (address_at (circuit_of h j.config) new u) within_old (low_address u) (ri.free.tables t on))
            ∙ ap (λ q. if z.0.latched then q else cell_of z.0 (address_at (circuit_of h j.config) new u)) (s.same t u on st)
            ∙ sym (tick_of h u (setting_of j.config u) z.0 (address_at (circuit_of h j.config) new u) (p u) (c.setting t u on st ∙ z.1) (rj.covers.cells u (address_at (circuit_of h j.config) new u) within_new (low_address u) (rj.free.tables u (on_there t u on st))))

        edge_same : after_edge (circuit_of f i.config) old o t ≡ after_edge (circuit_of h j.config) new p u
        edge_same =
            ap (λ x. edge_output (table_or_off f t (setting_of i.config t)) x (o t)) (same_address t u on st)
            ∙ edge_of f t (setting_of i.config t) z.0 (address_at (circuit_of h j.config) new u) (o t) z.1 (ri.covers.cells t (address_at (circuit_of h j.config) new u) within_old (low_address u) (ri.free.tables t on)) (ri.covers.registers t within_old (ri.free.tables t on))
            ∙ ap (λ q. if z.0.latched then cell_of z.0 (address_at (circuit_of h j.config) new u) else q) (s.same t u on st)
            ∙ sym (edge_of h u (setting_of j.config u) z.0 (address_at (circuit_of h j.config) new u) (p u) (c.setting t u on st ∙ z.1) (rj.covers.cells u (address_at (circuit_of h j.config) new u) within_new (low_address u) (rj.free.tables u (on_there t u on st))) (rj.covers.registers u within_new (rj.free.tables u (on_there t u on st))))

      after_ticks : Same (after_tick (circuit_of f i.config) old o) (after_tick (circuit_of h j.config) new p)
      after_ticks = record { old_off = λ t e. rw e refl; new_off = λ u e. rw e refl; same = tick_same }

      after_edges : Same (after_edge (circuit_of f i.config) old o) (after_edge (circuit_of h j.config) new p)
      after_edges = record { old_off = λ t e. rw e refl; new_off = λ u e. rw e refl; same = edge_same }

      out_within : (n : ImageValue) → IsImage n → (k : ℕ) → k < length n.outputs → get_or n.outputs k 0 < pins_of n.config.shape
      out_within n is k l = subst (λ q. q < pins_of n.config.shape) (get_or-append-add n.inputs n.outputs k 0) (is.within (length n.inputs + k) 0 (rw length-append (omega (arith, l))))

      shown : (n : ImageValue) → IsImage n → (value : ℕ → Bool) (k : ℕ) → k < length n.outputs → get_or (map (λ q. get_or (map (λ r. value (pin_wire n.config.shape r)) (range_with_len 0 (pins_of n.config.shape))) q true) n.outputs) k true ≡ value (pin_wire n.config.shape (get_or n.outputs k 0))
      shown n is value k l =
          get_or-map (λ q. get_or (map (λ r. value (pin_wire n.config.shape r)) (range_with_len 0 (pins_of n.config.shape))) q true) n.outputs k 0 true l
          ∙ get_or-map-range_with_len (λ r. value (pin_wire n.config.shape r)) 0 (pins_of n.config.shape) (get_or n.outputs k 0) (get_or n.outputs k 0) true (out_within n is k l) (omega arith)

      same_row : image_row i (pins_read (circuit_of f i.config) old) ≡ image_row j (pins_read (circuit_of h j.config) new)
      same_row = ext_get_or true _ _ (length-map i.outputs _ ∙ sym c.outputs ∙ sym (length-map j.outputs _)) one
        where
          one : (k : ℕ) → k < length (image_row i (pins_read (circuit_of f i.config) old)) → get_or (image_row i (pins_read (circuit_of f i.config) old)) k true ≡ get_or (image_row j (pins_read (circuit_of h j.config) new)) k true
          one k l =
              let n : k < length i.outputs = rw length-map at l in
              let m : k < length j.outputs = (let e = c.outputs in omega (arith, n, e)) in
              shown i ri.is old k n ∙ same_at _ _ (pin_of_output k n) ∙ sym (shown j rj.is new k m)

  -- ---- runs

  same_ticks : (vector : List Bool) {before other after last : Outputs} {n : ℕ} → Same before other → Ticks (circuit_of f i.config) (drive_of i vector) before n after → Ticks (circuit_of h j.config) (drive_of j vector) other n last → Same after last
  same_ticks vector s unticked unticked = s
  same_ticks vector s (tick {mid = mid} old ps av q) (tick {mid = over} new rs au r) = turn q r (after_ticks vector mid over (same_ticks vector s ps rs) old new av au)
    where
      turn : {a b x y : Outputs} → a ≡ x → b ≡ y → Same x y → Same a b
      turn {b = b} {x = x} e k t = subst (λ z. Same z b) (sym e) (subst (λ z. Same x z) (sym k) t)

  ticks_as : {n k : ℕ} (vector : List Bool) (before after : Outputs) → n ≡ k → Ticks (circuit_of h j.config) (drive_of j vector) before n after → Ticks (circuit_of h j.config) (drive_of j vector) before k after
  ticks_as vector before after e t = subst (λ n. Ticks (circuit_of h j.config) (drive_of j vector) before n after) e t

  same_cycles : {before other after last : Outputs} {reads others : List Pins} (vectors : List (List Bool)) → Same before other → Cycles (circuit_of f i.config) before (map (drive_of i) vectors) reads after → Cycles (circuit_of h j.config) other (map (drive_of j) vectors) others last → map (image_row i) reads ≡ map (image_row j) others
  same_cycles [] s none none = refl
  same_cycles (vector ∷ vectors) s (cycle a more) (cycle b rest_b) =
      let ticked = same_ticks vector s a.ticks (ticks_as vector _ _ c.ticks b.ticks) in
      let row = ap (image_row i) a.reads ∙ same_row vector a.outputs b.outputs ticked a.value b.value a.values b.values ∙ sym (ap (image_row j) b.reads) in
      let rest = same_cycles vectors (turn a.edge b.edge (after_edges vector a.outputs b.outputs ticked a.value b.value a.values b.values)) more rest_b in
      λ k. row k ∷ rest k
    where
      turn : {p q x y : Outputs} → p ≡ x → q ≡ y → Same x y → Same p q
      turn {q = q} {x = x} e k t = subst (λ z. Same z q) (sym e) (subst (λ z. Same x z) (sym k) t)

  same_load : Same (at_load (circuit_of f i.config)) (at_load (circuit_of h j.config))
  same_load = record { old_off = λ t e. rw e refl; new_off = λ u e. rw e refl; same = λ t u on st. by t u on st (setting_of i.config t) refl }
    where
      by : (t u : ℕ) → IsSome (setting_of i.config t) → seat t u → (q : Option Setting) → setting_of i.config t ≡ q → at_load (circuit_of f i.config) t ≡ at_load (circuit_of h j.config) u
      by t u on st None e = absurd (none_some on e)
        where
          none_some : {o : Option Setting} → IsSome o → o ≡ None → ⊥
          none_some is e = cc
      by t u on st (Some z) e =
          first_of f t (setting_of i.config t) z e (ri.covers.registers t (ri.on_within t on) (ri.free.tables t on))
          ∙ sym (first_of h u (setting_of j.config u) z (c.setting t u on st ∙ e) (rj.covers.registers u (rj.on_within u (on_there t u on st)) (rj.free.tables u (on_there t u on st))))

  pub run_alike : (vectors : List (List Bool)) {reads others : List Pins} → IsRun f i.config (map (drive_of i) vectors) reads → IsRun h j.config (map (drive_of j) vectors) others → map (image_row i) reads ≡ map (image_row j) others
  run_alike vectors p q = same_cycles vectors same_load p.cycles q.cycles
