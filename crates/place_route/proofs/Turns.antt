-- What an image's tables give, tick by tick and cycle by cycle, where its nets are laid on free parts.
use Rattle.std.proofs.Common.{◌≡◌, ◌⊎◌, ℕ, suc, ◌+◌, ◌*◌, ◌^◌, ◌<◌, ◌≤◌, Bool, true, false, None, List, [], ◌∷◌, length, get_or, map, refl, sym, ap, ◌∙◌, subst, inl, inr, arith, if◌then◌else◌}
use Rattle.place_route.proofs.Vocabulary.{All, range_with_len, Contains, cases_lt, cases_Bool, get_or_past, get_or_default, get_or-map}
use Rattle.place_route.proofs.Vocabulary.{ext_get_or, length-map, Contains-get_or, get_or-map-range_with_len, pin_wire, pins_of, IsNumbered}
use Rattle.place_route.proofs.Vocabulary.{drive_on, row_at, number_below, same_map, tick_of, edge_of, first_of, Source, Input, Table}
use Rattle.place_route.proofs.Vocabulary.{Network, Plan, net_of, place_of, IsTerminal, drives, reads, shows}
use Rattle.machine_meaning.specs.Vocabulary.{Faults, wrong_cell, stuck_register, Outputs, Pins, IsValue, AreValues, Defects, Covers}
use Rattle.machine_config.specs.Vocabulary.{number_of, address_at, pins_read, tick_output, edge_output, after_tick, after_edge, Ticks, unticked, tick, Cycles, none, cycle, Configuration, setting_of, circuit_of, table_or_off}
use Rattle.machine_image.proofs.FreeWires.{IsOff}
use Rattle.map_network.specs.Vocabulary.{IsNetwork, IsSourceOf, IsCombinational, IsLatched, IsPath, alone, onward, IsDeepest, no_table, table_at, RowsFrom, AreRows, bit_of, cell_at, next_state, first_state, pins_of as net_pins, truth}
use Rattle.map_network.specs.Rows as network
use Rattle.place_route.specs.Vocabulary.{ReadsRows, reader_of, shower_of, IsLaidOut, setting_in, image_at}
use Rattle.place_route.proofs.PinValues.{given, output_within, table_on, table_within, pin_good, read_value, idle_value}

-- the two numbers of bits are one
same_number : (bs : List Bool) → number_of bs ≡ network.number_of bs
same_number [] = refl
same_number (b ∷ bs) = ap (λ k. (if b then 1 else 0) + 2 * k) (same_number bs)

low_number : (bs : List Bool) → network.number_of bs < 2 ^ length bs
low_number bs = subst (λ k. k < 2 ^ length bs) (same_number bs) (number_below bs)

module _ (d : Defects) (n : Network) (p : Plan) (g : Configuration) (has : ℕ → ℕ → Type 0) (f : Faults) (numbered : IsNumbered g.shape) (formed : IsNetwork n) (laid : IsLaidOut d n p g has) (covers : Covers g.shape d f) where
  -- the wire of a source's reader has the source's bit
  terminal_value : (vector : List Bool) (o : Outputs) (s : Source) (w : ℕ) (b : Bool) → IsOff g o → IsSourceOf n s → IsTerminal g.shape n p (net_of n s) w → IsValue (circuit_of f g) (drive_on (pins_of g.shape) p.inputs vector) o w b → b ≡ bit_of vector (given p o) s
  terminal_value vector o s w b off of at v = read_value d n p g has f numbered formed laid covers vector o s w b of off (laid.wired.together _ _ _ (drives s of) at) v

  source_in : (j k : ℕ) → j < length n.tables → k < length (table_at n j).ins → IsSourceOf n (get_or (table_at n j).ins k (Input 0))
  source_in j k h l = formed.sources j no_table h k (Input 0) l

  module _ (vector : List Bool) (o : Outputs) (value : ℕ → Bool) (off : IsOff g o) (are : AreValues (circuit_of f g) (drive_on (pins_of g.shape) p.inputs vector) o value) where
    pin_value : (j k : ℕ) → j < length n.tables → k < 6 → value (reader_of g.shape p j k) ≡ get_or (map (bit_of vector (given p o)) (table_at n j).ins) k true
    pin_value j k h l = by (cases_lt k (length (table_at n j).ins))
      where
        by : (k < length (table_at n j).ins) ⊎ (length (table_at n j).ins ≤ k) → value (reader_of g.shape p j k) ≡ get_or (map (bit_of vector (given p o)) (table_at n j).ins) k true
        by (inl m) =
            let s = get_or (table_at n j).ins k (Input 0) in
            terminal_value vector o s (reader_of g.shape p j k) _ off (source_in j k h m) (reads j k s h m (get_or_default (table_at n j).ins k s (Input 0) m)) (are _)
            ∙ sym (get_or-map (bit_of vector (given p o)) (table_at n j).ins k (Input 0) true m)
        by (inr m) =
            idle_value d n p g has f numbered formed laid covers vector o (reader_of g.shape p j k) _ (pin_good d n p g has f numbered formed laid covers j k h (omega arith)) (laid.wired.idle j k h m l) off (are _)
            ∙ sym (get_or_past (map (bit_of vector (given p o)) (table_at n j).ins) k true (rw length-map m))

    address_same : (j : ℕ) → j < length n.tables → address_at (circuit_of f g) value (place_of p j) ≡ network.number_of (net_pins vector (given p o) (table_at n j).ins)
    unfolding address_at
    address_same j h = ap number_of (same_map (λ k. value (reader_of g.shape p j k)) (λ k. get_or (map (bit_of vector (given p o)) (table_at n j).ins) k true) 6 true (λ k l. pin_value j k h l)) ∙ same_number (net_pins vector (given p o) (table_at n j).ins)

    no_wrong_cell : (j a : ℕ) → j < length n.tables → a < 64 → wrong_cell f (place_of p j) a ≡ None
    no_wrong_cell j a h l = covers.cells (place_of p j) a (table_within d n p g has f numbered formed laid covers j h) l (table_on d n p g has f numbered formed laid covers j h)

    ticked : (j : ℕ) → j < length n.tables → after_tick (circuit_of f g) value o (place_of p j) ≡ (if (table_at n j).latched then o (place_of p j) else truth vector (given p o) (table_at n j))
    ticked j h =
        let a = network.number_of (net_pins vector (given p o) (table_at n j).ins) in
        let low : a < 64 = low_number (net_pins vector (given p o) (table_at n j).ins) in
        ap (λ x. tick_output (table_or_off f (place_of p j) (setting_of g (place_of p j))) x (o (place_of p j))) (address_same j h)
        ∙ tick_of f (place_of p j) (setting_of g (place_of p j)) (setting_in (table_at n j)) a (o (place_of p j)) (laid.set.settings j h) (no_wrong_cell j a h low)

    loose : (j : ℕ) → j < length n.tables → stuck_register f (place_of p j) ≡ None
    loose j h = covers.registers (place_of p j) (table_within d n p g has f numbered formed laid covers j h) (table_on d n p g has f numbered formed laid covers j h)

    edged : (j : ℕ) → j < length n.tables → after_edge (circuit_of f g) value o (place_of p j) ≡ (if (table_at n j).latched then truth vector (given p o) (table_at n j) else o (place_of p j))
    edged j h =
        let a = network.number_of (net_pins vector (given p o) (table_at n j).ins) in
        let low : a < 64 = low_number (net_pins vector (given p o) (table_at n j).ins) in
        ap (λ x. edge_output (table_or_off f (place_of p j) (setting_of g (place_of p j))) x (o (place_of p j))) (address_same j h)
        ∙ edge_of f (place_of p j) (setting_of g (place_of p j)) (setting_in (table_at n j)) a (o (place_of p j)) (laid.set.settings j h) (no_wrong_cell j a h low) (loose j h)

    tick_latched : (j : ℕ) → IsLatched n j → after_tick (circuit_of f g) value o (place_of p j) ≡ o (place_of p j)
    tick_latched j is = ticked j is.within ∙ rw is.latched refl

    tick_combinational : (j : ℕ) → IsCombinational n j → after_tick (circuit_of f g) value o (place_of p j) ≡ truth vector (given p o) (table_at n j)
    tick_combinational j is = ticked j is.within ∙ rw is.latched refl

    edge_latched : (j : ℕ) → IsLatched n j → after_edge (circuit_of f g) value o (place_of p j) ≡ truth vector (given p o) (table_at n j)
    edge_latched j is = edged j is.within ∙ rw is.latched refl

    tick_off : IsOff g (after_tick (circuit_of f g) value o)
    tick_off t e = rw e refl

    edge_off : IsOff g (after_edge (circuit_of f g) value o)
    edge_off t e = rw e refl

    shown : (k : ℕ) → k < length n.outputs → value (shower_of g.shape p k) ≡ bit_of vector (given p o) (get_or n.outputs k (Input 0))
    shown k h =
        let s = get_or n.outputs k (Input 0) in
        terminal_value vector o s (shower_of g.shape p k) _ off (formed.outputs k (Input 0) h) (shows k s h (get_or_default n.outputs k s (Input 0) h)) (are _)

    row_same : row_at p.outputs (pins_read (circuit_of f g) value) ≡ map (bit_of vector (given p o)) n.outputs
    row_same = ext_get_or true _ _ (length-map p.outputs _ ∙ laid.plan.outputs ∙ sym (length-map n.outputs _)) one
      where
        one : (i : ℕ) → i < length (row_at p.outputs (pins_read (circuit_of f g) value)) → get_or (row_at p.outputs (pins_read (circuit_of f g) value)) i true ≡ get_or (map (bit_of vector (given p o)) n.outputs) i true
        one i l =
            let h : i < length p.outputs = rw length-map at l in
            let k : i < length n.outputs = let e = laid.plan.outputs in omega arith in
            get_or-map (λ k. get_or (pins_read (circuit_of f g) value) k true) p.outputs i 0 true h
            ∙ get_or-map-range_with_len (λ k. value (pin_wire g.shape k)) 0 (pins_of g.shape) (get_or p.outputs i 0) (get_or p.outputs i 0) true (output_within d n p g has f numbered formed laid covers i h) (omega arith)
            ∙ shown i k
            ∙ sym (get_or-map (bit_of vector (given p o)) n.outputs i (Input 0) true k)

  module _ (vector : List Bool) where
    -- what combinational tables give on paths that are no longer stays
    abbrev Settled : ℕ → Outputs → Type 0
    Settled t o = (value : ℕ → Bool) → AreValues (circuit_of f g) (drive_on (pins_of g.shape) p.inputs vector) o value → (j : ℕ) → IsCombinational n j → ((k : ℕ) → IsPath n j k → k ≤ t) → after_tick (circuit_of f g) value o (place_of p j) ≡ o (place_of p j)

    record After (before : Outputs) (t : ℕ) (o : Outputs) : Type 0 where
      off : IsOff g o
      latched : (j : ℕ) → IsLatched n j → o (place_of p j) ≡ before (place_of p j)
      settled : Settled t o

    settles : {before after : Outputs} {t : ℕ} → IsOff g before → Ticks (circuit_of f g) (drive_on (pins_of g.shape) p.inputs vector) before t after → After before t after
    settles off unticked = record { off = off; latched = λ j is. refl; settled = λ value are j is deep. absurd (let h : 1 ≤ 0 = deep 1 (alone is) in omega arith) }
    settles {before} {after} off (tick {n = t} {mid = mid} value ts are e) = further (settles off ts)
      where
        further : After before t mid → After before (suc t) after
        further r = record {
          off = λ u q. ap (λ h. h u) e ∙ tick_off vector mid value r.off are u q;
          latched = λ j is. ap (λ h. h (place_of p j)) e ∙ tick_latched vector mid value r.off are j is ∙ r.latched j is;
          settled = λ next are' j is deep.
              tick_combinational vector after next (λ u q. ap (λ h. h u) e ∙ tick_off vector mid value r.off are u q) are' j is
              ∙ ap (λ bits. cell_at (table_at n j).cells (network.number_of (map (λ k. get_or bits k true) (range_with_len 0 6)))) (same j is deep)
              ∙ sym (ap (λ h. h (place_of p j)) e ∙ tick_combinational vector mid value r.off are j is);
        }
          where
            stays : (j : ℕ) → IsCombinational n j → ((k : ℕ) → IsPath n j k → k ≤ suc t) → (s : Source) → Contains (table_at n j).ins s → IsSourceOf n s → bit_of vector (given p after) s ≡ bit_of vector (given p mid) s
            stays j is deep (Input i) at of = refl
            stays j is deep (Table i) at of = by (cases_Bool (table_at n i).latched)
              where
                by : ((table_at n i).latched ≡ true) ⊎ ((table_at n i).latched ≡ false) → after (place_of p i) ≡ mid (place_of p i)
                by (inl q) = ap (λ h. h (place_of p i)) e ∙ tick_latched vector mid value r.off are i (record { within = of; latched = q })
                by (inr q) =
                    let small : IsCombinational n i = record { within = of; latched = q } in
                    ap (λ h. h (place_of p i)) e ∙ r.settled value are i small (λ k path. let h : suc k ≤ suc t = deep (suc k) (onward path is at) in omega arith)

            same : (j : ℕ) → IsCombinational n j → ((k : ℕ) → IsPath n j k → k ≤ suc t) → map (bit_of vector (given p after)) (table_at n j).ins ≡ map (bit_of vector (given p mid)) (table_at n j).ins
            same j is deep = ext_get_or true _ _ (length-map (table_at n j).ins _ ∙ sym (length-map (table_at n j).ins _)) one
              where
                one : (k : ℕ) → k < length (map (bit_of vector (given p after)) (table_at n j).ins) → get_or (map (bit_of vector (given p after)) (table_at n j).ins) k true ≡ get_or (map (bit_of vector (given p mid)) (table_at n j).ins) k true
                one k l =
                    let h : k < length (table_at n j).ins = rw length-map at l in
                    get_or-map (bit_of vector (given p after)) (table_at n j).ins k (Input 0) true h
                    ∙ stays j is deep (get_or (table_at n j).ins k (Input 0)) (Contains-get_or (table_at n j).ins k (Input 0) h) (source_in j k is.within h)
                    ∙ sym (get_or-map (bit_of vector (given p mid)) (table_at n j).ins k (Input 0) true h)

  -- each vector has a bit for each input
  abbrev AreLong : List (List Bool) → Type 0
  AreLong vectors = All (λ v. length v ≡ length p.inputs) vectors

  module _ (deep : IsDeepest n g.ticks) where
    rows_from : {before after : Outputs} {reads : List Pins} (state : ℕ → Bool) (vectors : List (List Bool)) → AreLong vectors → IsOff g before → ((j : ℕ) → IsLatched n j → given p before j ≡ state j) → Cycles (circuit_of f g) before (map (drive_on (pins_of g.shape) p.inputs) vectors) reads after → RowsFrom n state vectors (map (row_at p.outputs) reads)
    rows_from state [] long off alike none = tt
    rows_from state (vector ∷ vectors) long off alike (cycle s more) =
        let r = settles vector off s.ticks in (
          given p s.outputs,
          record {
            inputs = long 0 [] (omega arith) ∙ laid.plan.inputs;
            latched = λ j is. r.latched j is ∙ alike j is;
            combinational = λ j is. sym (r.settled s.value s.values j is (λ k path. deep j k path)) ∙ tick_combinational vector s.outputs s.value r.off s.values j is;
          },
          ap (row_at p.outputs) s.reads ∙ row_same vector s.outputs s.value r.off s.values,
          rows_from (next_state n vector (given p s.outputs)) vectors (λ k e l. long (suc k) e (omega arith)) (λ u q. ap (λ h. h u) s.edge ∙ edge_off vector s.outputs s.value r.off s.values u q) (λ j is. ap (λ h. h (place_of p j)) s.edge ∙ edge_latched vector s.outputs s.value r.off s.values j is) more,
        )

    pub route_reads_rows : ReadsRows f (image_at p g) (AreRows n)
    route_reads_rows vectors got long run = rows_from (first_state n) vectors long (λ t e. rw e refl)
        (λ j is. first_of f (place_of p j) (setting_of g (place_of p j)) (setting_in (table_at n j)) (laid.set.settings j is.within) (loose_at j is.within)) run.cycles
      where
        loose_at : (j : ℕ) → j < length n.tables → stuck_register f (place_of p j) ≡ None
        loose_at j h = covers.registers (place_of p j) (table_within d n p g has f numbered formed laid covers j h) (table_on d n p g has f numbered formed laid covers j h)
