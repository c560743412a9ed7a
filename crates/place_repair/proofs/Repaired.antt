-- The steps of a repair together.
use Rattle.std.proofs.Common.{◌≡◌, ◌≢◌, ◌⊎◌, Result, Ok, Err, IfErr, ℕ, zero, suc, ◌<◌, ◌≤◌, true, Option, None, List, [], ◌++◌, length, get_or, map, replicate, refl, sym, ap, ◌∙◌, subst, inl, inr, arith, IsSome, ◌↔◌}
use Rattle.std.specs.List.{All, Contains}
use Rattle.std.specs.FinSet as set
use Rattle.place_repair.proofs.Vocabulary.{get_or-map, get_or_default, length-map, map-append, Shape, DefectList, is_free_table, no_defects}
use Rattle.place_repair.proofs.Vocabulary.{Setting, Configuration, is_closed, setting_of, cleared, with_ticks, ImageValue, IsImage}
use Rattle.place_repair.proofs.Vocabulary.{IsFreeImage, Need, Port, Resource, Short, Visit, different_at, AreWiresOf, same_port, Plan}
use Rattle.place_repair.proofs.Vocabulary.{Seats, HangTogether, HasSameRows, ArePinsAt, IsPortAt, IsRepair}
use Rattle.std.proofs.lemmas.List.Elements.{All-contains, Contains-get_or, Contains-append_left, Contains-append_right}
use Rattle.machine_shape.specs.Vocabulary.{ends_of, wires_of, nodes_of, tables_of, pins_of, pin_wire, table_wire, IsNumbered}
use Rattle.machine_meaning.specs.Vocabulary.{Joined, plain_net, Defects, IsFreeWire, IsFreeCross, IsFreeTable, Covers}
use Rattle.machine_meaning.proofs.Faultless.{covers_none}
use Rattle.place_plan.specs.declared.short.Resource.TheVariants.{Tables, Pins as PinsShort, Ports, Lines}
use Rattle.place_plan.specs.Vocabulary.{AreWires, AreHeld, AreVisits, IsRoom, nth_of, HasTerminal, CrossesAt, Suffices, IsShortOf, IsFirstShort, IsMet}
use Rattle.place_plan.specs.declared.short.{PlaceFail.PlaceFail, Room.Room}
use Rattle.place_plan.specs.declared.short.PlaceFail.TheVariants as refused
use Rattle.place_route.proofs.Drawn.{Numbering, held}
use Rattle.place_repair.specs.Plans.{Nets, AreSeats, AreNets, PinSits, TableSits, at_pin, at_table, IsTerminal, IsMoving, IsKeptWire, HasRoom, need_of, IsFirstShortBy, IsShortPlan}
use Rattle.place_repair.specs.Repairs.{IsRepairFail}
use Rattle.place_repair.specs.Making.{IsPlanOf, AreTerminalsOf, IsPinTerminal, IsTableTerminal, IsRestOf, HasStayingWire, IsKeptCross, IsRedrawn, IsRoomBeside, AreSizedFor, AreApart, ArePinsApart}
use Rattle.place_repair.proofs.Alike.{Moved, pin_at, table_at, Correspond, run_alike}
use Rattle.place_repair.proofs.Hanging.{are_numbered}
use Rattle.place_repair.proofs.Placed.{on_within, off_at}
use Rattle.place_repair.proofs.Owning.{Spot, pin_spot, table_spot, drawn_by, draw_wires, hang_on, hung_before, crossing_within, terminals_joined, closed_for, port_joined, port_only, closed_free}
use Rattle.place_repair.proofs.Seating.{table_sits_at, pin_sits_at, one_table_place, one_table_owner, one_pin_place, one_pin_owner, table_place_free, pin_place_free, search_gone}

none_is_some : {X : Type 0} {o : Option X} → o ≡ None → IsSome o → ⊥
none_is_some e h = cc

contains_map : (f : ℕ → ℕ) (xs : List ℕ) (k : ℕ) → k < length xs → get_or (map f xs) k 0 ≡ f (nth_of xs k)
contains_map f xs k l = get_or-map f xs k 0 0 l

module _ (d : Defects) (i : ImageValue) (is : IsImage i) (laws : Numbering i.config.shape) (tests : (t : ℕ) → (is_free_table i.config.shape d t ≡ true) ↔ IsFreeTable i.config.shape d t)
    (s : Seats) (seats : AreSeats d i s) (p : Plan) (plan : IsPlanOf d i s p) (few_tables : length s.tables.gone ≤ length s.tables.spare) (few_pins : length s.pins.gone ≤ length s.pins.spare) where
  abbrev m : Shape
  m = i.config.shape

  abbrev g : Configuration
  g = i.config

  abbrev table_place : ℕ → ℕ
  table_place t = nth_of p.tables.items t

  abbrev pin_place : ℕ → ℕ
  pin_place k = nth_of p.pins.items k

  pin_in : (k : ℕ) → Contains (i.inputs ++ i.outputs) k → k < pins_of m
  pin_in k has = All-contains (λ q. q < pins_of m) (i.inputs ++ i.outputs) k is.within has

  table_in : (t : ℕ) → IsSome (setting_of g t) → t < tables_of m
  table_in = on_within g is.config

  table_sits : (t : ℕ) → IsSome (setting_of g t) → TableSits d i s t (table_place t)
  table_sits t on = table_sits_at d i is s seats tests p.tables.items plan.tables_are few_tables t on (table_in t on)

  pin_sits : (k : ℕ) → Contains (i.inputs ++ i.outputs) k → PinSits d i s k (pin_place k)
  pin_sits k has = pin_sits_at d i is s seats p.pins.items plan.pins_are few_pins k has (pin_in k has)

  within_by : (count : ℕ) (gone spare places : List ℕ) → ((k : ℕ) → k < length gone → nth_of places (nth_of gone k) ≡ nth_of spare k) → ((t : ℕ) → t < count → ((k : ℕ) → k < length gone → nth_of gone k ≢ t) → nth_of places t ≡ t) →
      length gone ≤ length spare → ((k : ℕ) → k < length spare → nth_of spare k < count) → (t : ℕ) → t < count → nth_of places t < count
  within_by count gone spare places put others few spare_in t l = by (search_gone gone t)
    where
      by : ((k : ℕ) × (k < length gone) × (nth_of gone k ≡ t)) ⊎ ((k : ℕ) → k < length gone → nth_of gone k ≢ t) → nth_of places t < count
      by (inl r) = subst (λ z. z < count) (sym (put r.0 r.1) ∙ ap (nth_of places) r.2) (spare_in r.0 (omega (arith, r.1, few)))
      by (inr never) = subst (λ z. z < count) (sym (others t l never)) l

  pub sized_for : AreSizedFor g p
  sized_for = record {
    nets_are = plan.nets_are;
    moves_sized = plan.moves_are.sized;
    tables_sized = plan.tables_are.sized;
    tables_within = within_by (tables_of m) s.tables.gone s.tables.spare p.tables.items plan.tables_are.put plan.tables_are.others few_tables (λ k l. (seats.tables_spare.only k 0 l).within);
    pins_sized = plan.pins_are.sized;
    pins_within = within_by (pins_of m) s.pins.gone s.pins.spare p.pins.items plan.pins_are.put plan.pins_are.others few_pins (λ k l. (seats.pins_spare.only k 0 l).within);
  }

  pub tables_apart : AreApart g p
  tables_apart t u on over e = one_table_owner d i is s seats t u (table_place u) on over (subst (TableSits d i s t) e (table_sits t on)) (table_sits u over)

  pub pins_apart : ArePinsApart i p
  pins_apart a b x l h e =
      let la : a < length (i.inputs ++ i.outputs) = rw length-map at (let k : a < length (map pin_place (i.inputs ++ i.outputs)) = omega (arith, l, h) in k) in
      let lb : b < length (i.inputs ++ i.outputs) = rw length-map at h in
      let ha = Contains-get_or (i.inputs ++ i.outputs) a 0 la in
      let hb = Contains-get_or (i.inputs ++ i.outputs) b 0 lb in
      let ea : get_or (map pin_place (i.inputs ++ i.outputs)) a x ≡ pin_place (nth_of (i.inputs ++ i.outputs) a) = get_or-map pin_place (i.inputs ++ i.outputs) a 0 x la in
      let eb : get_or (map pin_place (i.inputs ++ i.outputs)) b x ≡ pin_place (nth_of (i.inputs ++ i.outputs) b) = get_or-map pin_place (i.inputs ++ i.outputs) b 0 x lb in
      let same = one_pin_owner d i is s seats (nth_of (i.inputs ++ i.outputs) a) (nth_of (i.inputs ++ i.outputs) b) (pin_place (nth_of (i.inputs ++ i.outputs) b)) ha hb
      (subst (PinSits d i s (nth_of (i.inputs ++ i.outputs) a)) (sym ea ∙ e ∙ eb) (pin_sits (nth_of (i.inputs ++ i.outputs) a) ha)) (pin_sits (nth_of (i.inputs ++ i.outputs) b) hb) in
      let index = different_at (i.inputs ++ i.outputs) is.apart a b la lb same in
      absurd (omega (arith, index, l))

  module _ (lists : List (List ℕ)) (terms : AreTerminalsOf i p lists) where
    wire_in : (k w : ℕ) → HasTerminal lists k w → w < wires_of m
    wire_in k w t = by (terms.only k w t)
      where
        by : IsPinTerminal g p (i.inputs ++ i.outputs) k w ⊎ IsTableTerminal g p k w → w < wires_of m
        by (inl (q, has, (mark, wire, e))) = subst (λ z. z < wires_of m) e (laws.numbered.pins (pin_place q) (sized_for.pins_within q (pin_in q has)))
        by (inr (t, on, (j, l, (mark, wire, e)))) = subst (λ z. z < wires_of m) e (laws.numbered.tables (table_place t) j (sized_for.tables_within t (table_in t on)) l)

    -- what the search for room asks for
    pub lists_within : All (AreWires m) lists
    lists_within k d l j e h = wire_in k (get_or (get_or lists k d) j e) (subst (λ xs. Contains xs (get_or (get_or lists k d) j e)) (get_or_default lists k d [] l) (Contains-get_or (get_or lists k d) j e h))

  module _ (lists : List (List ℕ)) (terms : AreTerminalsOf i p lists) (rest : DefectList) (left : IsRestOf d g p rest) where
    pub nets_in : Nets
    nets_in = record { lowest = p.nets.lowest; moves = p.moves.items; terminals = lists; rest = rest.list }

    staying_kept : (w : ℕ) → HasStayingWire g p w → IsKeptWire i (record { lowest = p.nets.lowest; moves = p.moves.items; terminals = lists; rest = rest.list }) w
    staying_kept w (k, stays, wire) = (k, (wire.0, stays), wire)

    kept_staying : (w : ℕ) → IsKeptWire i (record { lowest = p.nets.lowest; moves = p.moves.items; terminals = lists; rest = rest.list }) w → HasStayingWire g p w
    kept_staying w (k, st, wire) = (k, st.1, wire)

    terminal_is : (k w : ℕ) → IsPinTerminal g p (i.inputs ++ i.outputs) k w ⊎ IsTableTerminal g p k w → IsMoving (record { lowest = p.nets.lowest; moves = p.moves.items; terminals = lists; rest = rest.list }) k × IsTerminal d i s p.nets.lowest k w
    terminal_is k w (inl (q, has, (mark, wire, e))) = ((wire.0, mark), at_pin q (pin_place q) has wire (pin_sits q has) e)
    terminal_is k w (inr (t, on, (j, l, (mark, wire, e)))) = ((wire.0, mark), at_table t (table_place t) j on l wire (table_sits t on) e)

    is_terminal : (k w : ℕ) → IsMoving (record { lowest = p.nets.lowest; moves = p.moves.items; terminals = lists; rest = rest.list }) k → IsTerminal d i s p.nets.lowest k w → HasTerminal lists k w
    is_terminal k w moving (at_pin q r has wire sits e) = terms.by_pin k w (q, has, (moving.1, wire, ap (pin_wire m) (one_pin_place d i is s seats q (pin_place q) r (pin_sits q has) sits) ∙ e))
    is_terminal k w moving (at_table t u j on l wire sits e) = terms.by_table k w (t, on, (j, l, (moving.1, wire, ap (λ z. table_wire m z j) (one_table_place d i is s seats t (table_place t) u (table_sits t on) sits) ∙ e)))

    pub nets_made : AreNets d i s (record { lowest = p.nets.lowest; moves = p.moves.items; terminals = lists; rest = rest.list })
    nets_made = record {
      numbered = are_numbered g laws.numbered is.config p.nets plan.nets_are;
      moves_are = plan.moves_are;
      sized = terms.sized;
      terminals_are = λ k w. (λ t. terminal_is k w (terms.only k w t), λ r. is_terminal k w r.0 r.1);
      rest_is = record {
        wires = λ w. (λ free. let r = (left.wires w).0 free in (r.0, λ kept. r.1 (kept_staying w kept)), λ r. (left.wires w).1 (r.0, λ stays. r.1 (staying_kept w stays)));
        crosses = left.crosses;
        tables = left.tables;
      };
    }

    -- ---- what is short

    pub short_by : (r : Resource) (short : Short) → IsShortOf r m rest.list (length p.nets.lowest) (HasTerminal lists) (need_of s.tables) (need_of s.pins) short → IsFirstShortBy r d i s short
    short_by Tables short is_ = is_
    short_by PinsShort short is_ = is_
    short_by Ports short is_ = (record { lowest = p.nets.lowest; moves = p.moves.items; terminals = lists; rest = rest.list }, nets_made, is_)
    short_by Lines short is_ = (record { lowest = p.nets.lowest; moves = p.moves.items; terminals = lists; rest = rest.list }, nets_made, is_)

    pub short_plan : (short : Short) → IsFirstShort m rest.list (length lists) (HasTerminal lists) (need_of s.tables) (need_of s.pins) short → IsShortPlan d i short
    short_plan short first = record {
      seats = s;
      seats_are = seats;
      first = short_by short.resource short (subst (λ n. IsShortOf short.resource m rest.list n (HasTerminal lists) (need_of s.tables) (need_of s.pins) short) terms.sized first);
    }

    -- ---- what is drawn

    module _ (wires : All (AreWires m) lists) (ports : List Port) (visits : List Visit) (held_are : AreHeld m rest.list (length p.nets.lowest) (HasTerminal lists) (nodes_of m) ports) (visited : AreVisits m rest.list (length p.nets.lowest) (HasTerminal lists) (nodes_of m) visits) where
      abbrev n : Nets
      n = record { lowest = p.nets.lowest; moves = p.moves.items; terminals = lists; rest = rest.list }

      pub wires_are : AreWiresOf m lists ports visits
      wires_are = draw_wires d i is laws s n seats nets_made ports visits wires held_are visited

      module _ (new : ImageValue) (right : IsImage new) (drawn : IsRedrawn i p lists ports visits new) where
        abbrev closed : Configuration
        closed = drawn.drawn.closed

        -- the new configuration, part by part
        moved_is : drawn.drawn.moved ≡ record (cleared m) { closed = drawn.drawn.moved.closed }
        moved_is = drawn.drawn.joined.closed.rest

        closed_is : closed ≡ record (cleared m) { closed = closed.closed }
        closed_is = drawn.drawn.closes.rest ∙ ap (λ (c : Configuration). record c { closed = closed.closed }) moved_is

        seated_is : drawn.drawn.seated ≡ record (cleared m) { closed = closed.closed; tables = drawn.drawn.seated.tables }
        seated_is = drawn.drawn.seats.rest ∙ ap (λ (c : Configuration). record c { tables = drawn.drawn.seated.tables }) closed_is

        new_is : new.config ≡ record (cleared m) { closed = closed.closed; tables = drawn.drawn.seated.tables; ticks = g.ticks }
        new_is = drawn.drawn.whole ∙ ap (λ (c : Configuration). with_ticks c g.ticks) seated_is

        shape_is : new.config.shape ≡ m
        shape_is = ap (λ (c : Configuration). c.shape) new_is

        closed_same : (x : ℕ) → is_closed new.config x ≡ is_closed closed x
        closed_same x = ap (λ (c : Configuration). is_closed c x) new_is

        setting_same : (t : ℕ) → setting_of new.config t ≡ setting_of drawn.drawn.seated t
        setting_same t = ap (λ (c : Configuration). setting_of c t) new_is

        net_same : plain_net new.config.shape (is_closed new.config) ≡ plain_net m (is_closed closed)
        net_same = ap (λ (c : Configuration). plain_net c.shape (is_closed c)) new_is

        only : (x : ℕ) → is_closed closed x ≡ true → (is_closed drawn.drawn.moved x ≡ true) ⊎ ((is_closed g x ≡ true) × IsKeptWire i n (ends_of m x).0)
        only x on = by (drawn.drawn.closes.only x on)
          where
            by : (is_closed drawn.drawn.moved x ≡ true) ⊎ IsKeptCross g p x → (is_closed drawn.drawn.moved x ≡ true) ⊎ ((is_closed g x ≡ true) × IsKeptWire i n (ends_of m x).0)
            by (inl e) = inl e
            by (inr k) = inr (k.0, staying_kept (ends_of m x).0 k.1)

        all_kept : (x : ℕ) → is_closed g x ≡ true → IsKeptWire i n (ends_of m x).0 → is_closed closed x ≡ true
        all_kept x on kept = drawn.drawn.closes.each x (on, kept_staying (ends_of m x).0 kept)

        -- ---- tables and pins

        was_off : (t : ℕ) → IsSome (setting_of closed t) → ⊥
        was_off t on = none_is_some (ap (λ (c : Configuration). setting_of c t) closed_is ∙ off_at (tables_of m) t None) on

        table_of : (u : ℕ) → IsSome (setting_of new.config u) → (t : ℕ) × IsSome (setting_of g t) × TableSits d i s t u
        table_of u on = by (drawn.drawn.seats.others u (subst IsSome (setting_same u) on))
          where
            by : IsSome (setting_of closed u) ⊎ ((t : ℕ) × IsSome (setting_of g t) × (table_place t ≡ u)) → (t : ℕ) × IsSome (setting_of g t) × TableSits d i s t u
            by (inl off) = absurd (was_off u off)
            by (inr r) = (r.0, r.1, subst (TableSits d i s r.0) r.2 (table_sits r.0 r.1))

        setting_at : (t : ℕ) → IsSome (setting_of g t) → setting_of new.config (table_place t) ≡ setting_of g t
        setting_at t on = setting_same (table_place t) ∙ drawn.drawn.seats.on t on

        setting_sits : (t u : ℕ) → IsSome (setting_of g t) → TableSits d i s t u → setting_of new.config u ≡ setting_of g t
        setting_sits t u on sits = ap (setting_of new.config) (one_table_place d i is s seats t u (table_place t) sits (table_sits t on)) ∙ setting_at t on

        pins_new : new.inputs ++ new.outputs ≡ map pin_place (i.inputs ++ i.outputs)
        pins_new = (λ z. drawn.inputs z ++ drawn.outputs z) ∙ sym (map-append pin_place i.inputs i.outputs)

        pin_new : (k : ℕ) → k < length (i.inputs ++ i.outputs) → nth_of (new.inputs ++ new.outputs) k ≡ pin_place (nth_of (i.inputs ++ i.outputs) k)
        pin_new k l = ap (λ xs. nth_of xs k) pins_new ∙ contains_map pin_place (i.inputs ++ i.outputs) k l

        len_inputs : length new.inputs ≡ length i.inputs
        len_inputs = ap length drawn.inputs ∙ length-map i.inputs pin_place

        len_outputs : length new.outputs ≡ length i.outputs
        len_outputs = ap length drawn.outputs ∙ length-map i.outputs pin_place

        -- ---- as before

        spot_of : (w v : ℕ) → Moved i new (TableSits d i s) w v → Spot d i s w v
        spot_of w v (pin_at k l h e q) =
            let has = Contains-get_or (i.inputs ++ i.outputs) k 0 l in
            pin_spot (nth_of (i.inputs ++ i.outputs) k) (pin_place (nth_of (i.inputs ++ i.outputs) k)) has (pin_sits (nth_of (i.inputs ++ i.outputs) k) has) e
            (ap (pin_wire m) (sym (pin_new k l)) ∙ ap (λ z. pin_wire z (nth_of (new.inputs ++ new.outputs) k)) (sym shape_is) ∙ q)
        spot_of w v (table_at t u k on there sits l e q) = table_spot t u k on l sits e (ap (λ z. table_wire z u k) (sym shape_is) ∙ q)

        correspond : Correspond i new (TableSits d i s)
        correspond = record {
          ticks = ap (λ (c : Configuration). c.ticks) new_is;
          inputs = len_inputs;
          outputs = len_outputs;
          there = λ t on. (table_place t, table_sits t on);
          back = table_of;
          setting = setting_sits;
          to = λ w v x y a b j. subst (λ net. Joined net v y) (sym net_same)
              (hang_on d i is laws s n seats nets_made ports visits wires held_are visited drawn.drawn.moved drawn.drawn.joined (is_closed closed) only drawn.drawn.closes.kept all_kept w v x y (spot_of w v a) (spot_of x y b) j);
          from = λ w v x y a b j. hung_before d i is laws s n seats nets_made ports visits wires held_are visited drawn.drawn.moved drawn.drawn.joined (is_closed closed) only drawn.drawn.closes.kept all_kept w v x y (spot_of w v a) (spot_of x y b)
              (subst (λ net. Joined net v y) net_same j);
        }

        pub free_image : IsFreeImage d new
        free_image = record {
          crosses = λ x on. subst (λ z. IsFreeCross z d x) (sym shape_is) (closed_free d i is laws s n seats nets_made ports visits wires held_are visited drawn.drawn.moved drawn.drawn.joined (is_closed closed) only drawn.drawn.closes.kept all_kept x (sym (closed_same x) ∙ on));
          tables = λ u on. let r = table_of u on in subst (λ z. IsFreeTable z d u) (sym shape_is) (table_place_free d i is s seats r.0 u (table_in r.0 r.1) r.2).1;
          pins = λ k x l.
              let h : k < length (i.inputs ++ i.outputs) = rw length-map at (subst (λ xs. k < length xs) pins_new l) in
              let has = Contains-get_or (i.inputs ++ i.outputs) k 0 h in
              let free = (pin_place_free d i is s seats (nth_of (i.inputs ++ i.outputs) k) (pin_place (nth_of (i.inputs ++ i.outputs) k)) (pin_in (nth_of (i.inputs ++ i.outputs) k) has) (pin_sits (nth_of (i.inputs ++ i.outputs) k) has)).1 in
              subst (λ z. IsFreeWire d (pin_wire z (get_or (new.inputs ++ new.outputs) k x))) (sym shape_is)
              (subst (λ z. IsFreeWire d (pin_wire m z)) (sym (ap (λ xs. get_or xs k x) pins_new ∙ get_or-map pin_place (i.inputs ++ i.outputs) k 0 x h)) free);
        }

        -- without faults the old image is on free parts of an empty list
        nothing_listed : IsFreeImage no_defects i
        nothing_listed = record {
          crosses = λ x on. record { itself = set.contains-empty _ x; tap = set.contains-empty _ _; line = set.contains-empty _ _ };
          tables = λ t on. record { itself = set.contains-empty _ t; pins = λ k l. set.contains-empty _ _ };
          pins = λ k x l. set.contains-empty _ _;
        }

        pub same_rows : HasSameRows d i new
        same_rows f none covers faultless vectors reads others run_new run_old =
            sym (run_alike no_defects d i new none f
            (record { numbered = laws.numbered; is = is; free = nothing_listed; covers = covers_none faultless; on_within = table_in })
            (record { numbered = subst (λ z. IsNumbered z) (sym shape_is) laws.numbered; is = right; free = free_image; covers = subst (λ z. Covers z d f) (sym shape_is) covers; on_within = on_within new.config right.config })
            (TableSits d i s) correspond vectors run_old run_new)

        -- ---- by the plan

        hang_new : {a b : ℕ} → Joined (plain_net m (is_closed closed)) a b → HangTogether new.config a b
        hang_new {a} {b} j = subst (λ net. Joined net a b) (sym net_same) j

        hung_new : {a b : ℕ} → HangTogether new.config a b → Joined (plain_net m (is_closed closed)) a b
        hung_new {a} {b} j = subst (λ net. Joined net a b) net_same j

        port_at : (node k : ℕ) → CrossesAt m (length n.lowest) (HasTerminal n.terminals) node k → IsPortAt i new n node k
        port_at node k crosses =
            let has = held_are.given node k (crossed_node node k crosses) crosses in
            let known = (held m rest.list (length p.nets.lowest) (HasTerminal lists) lists ports visits laws (drawn_by d i is laws s n seats nets_made ports visits wires held_are visited) node k has.0 has.1).2 in
            record {
              port = has.0;
              is = known;
              joined = λ w t. hang_new (port_joined d i is laws s n seats nets_made ports visits wires held_are visited drawn.drawn.moved drawn.drawn.joined (is_closed closed) only drawn.drawn.closes.kept all_kept node k has.0 w has.1 crosses.1 t);
              only = λ w other t port j.
                  let mine = port_only d i is laws s n seats nets_made ports visits wires held_are visited drawn.drawn.moved drawn.drawn.joined (is_closed closed) only drawn.drawn.closes.kept all_kept node k w other t port (hung_new j) in
                  let its = (held m rest.list (length p.nets.lowest) (HasTerminal lists) lists ports visits laws (drawn_by d i is laws s n seats nets_made ports visits wires held_are visited) node k other mine).2 in
                  same_port m rest.list (length p.nets.lowest) (HasTerminal lists) node k other has.0 its known;
            }
          where
            crossed_node : (node k : ℕ) → CrossesAt m (length n.lowest) (HasTerminal n.terminals) node k → node < nodes_of m
            crossed_node node k crosses = crossing_within d i is laws s n seats nets_made ports visits wires held_are visited node k crosses.1

        pins_at : (pins moved : List ℕ) → moved ≡ map pin_place pins → ((k : ℕ) → Contains pins k → Contains (i.inputs ++ i.outputs) k) → ArePinsAt d i s pins moved
        pins_at pins moved e all = record {
          sized = ap length e ∙ length-map pins pin_place;
          each = λ k l. subst (PinSits d i s (nth_of pins k)) (sym (ap (λ xs. nth_of xs k) e ∙ contains_map pin_place pins k l)) (pin_sits (nth_of pins k) (all (nth_of pins k) (Contains-get_or pins k 0 l)));
        }

        pub repair_is : HasRoom i s n → IsRepair d i new
        repair_is room = record {
          seats = s;
          nets = n;
          seats_are = seats;
          nets_are = nets_made;
          room = room;
          shape = shape_is;
          ticks = ap (λ (c : Configuration). c.ticks) new_is;
          tables = λ t on. record { place = table_place t; sits = table_sits t on; setting = setting_at t on };
          no_others = λ u on. let r = table_of u on in record { table = r.0; on = r.1; sits = r.2 };
          inputs = pins_at i.inputs new.inputs drawn.inputs (λ k has. Contains-append_left i.inputs i.outputs k has);
          outputs = pins_at i.outputs new.outputs drawn.outputs (λ k has. Contains-append_right i.inputs i.outputs k has);
          ports = port_at;
          joined = λ k w u t r. hang_new (terminals_joined d i is laws s n seats nets_made ports visits wires held_are visited drawn.drawn.moved drawn.drawn.joined (is_closed closed) only drawn.drawn.closes.kept all_kept k w u t r);
          lines = visits;
          lines_are = visited;
          only = λ x on. closed_for d i is laws s n seats nets_made ports visits wires held_are visited drawn.drawn.moved drawn.drawn.joined (is_closed closed) only drawn.drawn.closes.kept all_kept x (sym (closed_same x) ∙ on);
          kept = λ k x st on wire. closed_same x ∙ all_kept x on (k, st, wire);
        }

    -- ---- by what the search for room gives

    module _ (ports : List Port) (visits : List Visit) (enough : Suffices m rest.list (length lists) (HasTerminal lists) (need_of s.tables) (need_of s.pins)) (held_are : AreHeld m rest.list (length lists) (HasTerminal lists) (nodes_of m) ports)
        (visited : AreVisits m rest.list (length lists) (HasTerminal lists) (nodes_of m) visits) where
      all_held : AreHeld m rest.list (length p.nets.lowest) (HasTerminal lists) (nodes_of m) ports
      all_held = subst (λ n. AreHeld m rest.list n (HasTerminal lists) (nodes_of m) ports) terms.sized held_are

      all_visited : AreVisits m rest.list (length p.nets.lowest) (HasTerminal lists) (nodes_of m) visits
      all_visited = subst (λ n. AreVisits m rest.list n (HasTerminal lists) (nodes_of m) visits) terms.sized visited

      pub redraw_wires : AreWiresOf m lists ports visits
      redraw_wires = wires_are (lists_within lists terms) ports visits all_held all_visited

      pub repaired : (new : ImageValue) → IsRedrawn i p lists ports visits new → IsRepair d i new
      repaired new drawn = repair_is (lists_within lists terms) ports visits all_held all_visited new drawn.right drawn
          (subst (λ n. Suffices m rest.list n (HasTerminal lists) (need_of s.tables) (need_of s.pins)) terms.sized enough)

      pub repaired_free : (new : ImageValue) → IsRedrawn i p lists ports visits new → IsFreeImage d new
      repaired_free new drawn = free_image (lists_within lists terms) ports visits all_held all_visited new drawn.right drawn

      pub repaired_rows : (new : ImageValue) → IsRedrawn i p lists ports visits new → HasSameRows d i new
      repaired_rows new drawn = same_rows (lists_within lists terms) ports visits all_held all_visited new drawn.right drawn

-- the same room, by other names of its parts
-- a machine of few wires has few nets
pub few_lists : (d : Defects) (i : ImageValue) (s : Seats) (p : Plan) (lists given : List (List ℕ)) (m : Shape) (wires : ℕ) → given ≡ lists → wires ≡ wires_of m → m ≡ i.config.shape → wires ≤ 1310720 → IsPlanOf d i s p → AreTerminalsOf i p lists → length given < 4294967296
few_lists d i s p lists given m wires e w shape few plan terms =
    let here : wires_of i.config.shape ≤ 1310720 = subst (λ k. k ≤ 1310720) (w ∙ ap wires_of shape) few in
    let given_are : length given ≡ length lists = ap length e in
    let sized = terms.sized in
    let nets = plan.nets_are.few in
    omega (arith, here, given_are, sized, nets)

pub room_as : (m k : Shape) (d : Defects) (lists others : List (List ℕ)) (tables more pins rest : Need) (q r : Room) → m ≡ k → lists ≡ others → tables ≡ more → pins ≡ rest → q ≡ r → IsRoom m d (length lists) (HasTerminal lists) tables pins q → IsRoom k d (length others) (HasTerminal others) more rest r
room_as m k d lists others tables more pins rest q r a b e f same is =
    subst (λ z. IsRoom z d (length others) (HasTerminal others) more rest r) a
    (subst (λ z. IsRoom m d (length z) (HasTerminal z) more rest r) b
    (subst (λ z. IsRoom m d (length lists) (HasTerminal lists) z rest r) e
    (subst (λ z. IsRoom m d (length lists) (HasTerminal lists) tables z r) f (subst (IsRoom m d (length lists) (HasTerminal lists) tables pins) same is))))

-- the same room beside what stays
pub room_beside_as : (d : Defects) (g : Configuration) (p : Plan) (lists others : List (List ℕ)) (tables pins : Need) (q r : Room) → lists ≡ others → q ≡ r → IsRoomBeside d g p lists tables pins q → IsRoomBeside d g p others tables pins r
room_beside_as d g p lists others tables pins q r same e is = subst (λ z. IsRoomBeside d g p z tables pins r) same (subst (IsRoomBeside d g p lists tables pins) e is)

-- lack of memory is a refusal
pub memory_fails : (d : Defects) (i : ImageValue) (r : Result ImageValue PlaceFail) → IfErr r (λ e. e ≡ refused.Memory) → IfErr r (IsRepairFail d i)
memory_fails d i (Ok new) is = tt
memory_fails d i (Err e) is = rw is tt

-- ---- what is short before a net is looked at

pub short_tables : (d : Defects) (i : ImageValue) (s : Seats) (q : Need) (short : Short) → AreSeats d i s → q ≡ need_of s.tables → q.have < q.need → short ≡ record { resource = Tables; node = record { 0 = 0 }; need = q.need; have = q.have; nets = [] } → IsShortPlan d i short
short_tables d i s q short are e fewer is = subst (IsShortPlan d i) (sym is) (record { seats = s; seats_are = are; first = (refl, (ap (λ (n : Need). n.need) e, ap (λ (n : Need). n.have) e, subst (λ (n : Need). n.have < n.need) e fewer, refl)) })

pub short_pins : (d : Defects) (i : ImageValue) (s : Seats) (q : Need) (short : Short) → AreSeats d i s → IsMet (need_of s.tables) → q ≡ need_of s.pins → q.have < q.need → short ≡ record { resource = PinsShort; node = record { 0 = 0 }; need = q.need; have = q.have; nets = [] } → IsShortPlan d i short
short_pins d i s q short are met e fewer is = subst (IsShortPlan d i) (sym is) (record { seats = s; seats_are = are; first = (met, refl, (ap (λ (n : Need). n.need) e, ap (λ (n : Need). n.have) e, subst (λ (n : Need). n.have < n.need) e fewer, refl)) })
