-- The steps of a route together.
use Rattle.std.proofs.Common.{◌≡◌, ◌≢◌, ◌⊎◌, ℕ, zero, suc, ◌*◌, ◌<◌, ◌≤◌, true, Some, None, Option, IsSome, List, replicate, length, get_or, max, refl, sym, ap, ◌∙◌, subst, inl, inr, arith}
use Rattle.place_route.proofs.Vocabulary.{All, AllPairs, BTreeMap, len-empty, nat_cmp, get_or-map, length-map, Shape, most_ticks, pins_of}
use Rattle.place_route.proofs.Vocabulary.{wires_of, crosses_of, tables_of, high_limits, Defects, IsFreeCross, Configuration, is_closed}
use Rattle.place_route.proofs.Vocabulary.{setting_of, cleared, with_ticks, Network, IsNetwork, Plan, Port, Visit, IsPlan, IsTerminal}
use Rattle.place_route.proofs.Vocabulary.{nets_in, places, place_of, number_of, terminal_within, terminal_net, sized_is}
use Rattle.std.specs.FinSet as set
use Rattle.machine_shape.specs.declared.Table.{Table}
use Rattle.machine_config.specs.declared.Setting.{Setting}
use Rattle.place_route.specs.Vocabulary.{IsSet, IsLaidOnTree, AreTerminals, AreOwners, HasLine, AreLines, Closes, IsOwnedJoint, SwitchesOn, no_seat, IsLaidBy, AreWiresOf, IsJoined, HasPortIn, IsRouted}
use Rattle.place_route.proofs.Terminals.{plan_terminals}
use Rattle.place_route.proofs.Seats.{terminal_tap}
use Rattle.place_route.proofs.Drawn.{Numbering, IsDrawnBy, drawn_wires, drawn_laid, drawn_free}

none_some : {X : Type 0} {o : Option X} {x : X} → o ≡ None → o ≡ Some x → ⊥
none_some e f = cc

none_is_some : {X : Type 0} {o : Option X} → o ≡ None → IsSome o → ⊥
none_is_some e h = cc

-- a table of which nothing is set is off
pub none_at : (none : Option Setting) (n t : ℕ) → get_or (replicate n none) t none ≡ none
none_at o zero t = refl
none_at o (suc n) zero = refl
none_at o (suc n) (suc t) = none_at o n t

abbrev off_setting : Option Setting
off_setting = None

none_on : (n t : ℕ) → get_or (replicate n off_setting) t off_setting ≡ off_setting
none_on n t = none_at off_setting n t

module _ (m : Shape) (d : Defects) (n : Network) (p : Plan) (nets : List (List ℕ)) (ports : List Port) (visits : List Visit) (laws : Numbering m) (network : IsNetwork n) (plan : IsPlan m d n p) (laid : IsLaidBy m d n p nets ports visits) where
  are : AreTerminals m (IsTerminal m n p)
  are = plan_terminals m d n p laws.numbered laws.tree network plan

  drawn : IsDrawnBy m d (nets_in n) (IsTerminal m n p) nets ports visits
  drawn = record {
    are = are;
    same = laid.nets_are.same;
    within = laid.nets_are.within;
    in_range = λ k w t. (terminal_net m d n p network plan laws.numbered k w t, terminal_within m d n p network plan laws.numbered k w t);
    at_node = λ a k t is at. terminal_tap m d n p laws.numbered laws.tree laws.parents network plan a k t is at;
    held_are = laid.held;
    visited = laid.visited;
  }

  -- what the steps ask for
  pub wires_are : AreWiresOf m nets ports visits
  wires_are = drawn_wires m d (nets_in n) (IsTerminal m n p) nets ports visits laws drawn

  pub tables_few : length n.tables ≤ 65535
  tables_few = let few = laid.few in let most = (high_limits m).ticks.1 in omega (arith, few, most)

  pub ticks_few : (ticks : ℕ) → ticks ≤ max 1 (length n.tables) → ticks ≤ most_ticks m
  ticks_few ticks le = let few = laid.few in let least = (high_limits m).ticks.0 in omega (arith, le, few, least)

  pub nets_few : tables_of m ≤ 65536 → pins_of m ≤ 16384 → length nets < 4294967296
  nets_few few_tables few_pins = omega (arith, (sized_is m d n p network plan few_tables few_pins).numbers, laid.nets_are.sized, plan.tables)

  seat_is : (j : ℕ) (t : Table) → j < length p.tables → get_or (places p) j 0 ≡ (get_or p.tables j t).0
  seat_is j t l = get_or-map number_of p.tables j t 0 l

  placed : (j : ℕ) → j < length p.tables → j < length (places p)
  placed j l = let e : length (places p) ≡ length p.tables = length-map p.tables number_of in omega arith

  pub seats_within : All (λ t. t.0 < tables_of m) p.tables
  seats_within j t l = subst (λ z. z < tables_of m) (seat_is j t l) (plan.tables_within j 0 (placed j l))

  pub seats_apart : AllPairs (λ t u. t.0 ≢ u.0) p.tables
  seats_apart i j t l h e = plan.tables_different i j 0 l (placed j h) (seat_is i t (omega arith) ∙ e ∙ sym (seat_is j t h))

  module _ (lines : BTreeMap (ℕ × ℕ) ℕ) (owners : List (Option ℕ)) (lines_are : AreLines visits lines) (owners_are : AreOwners m nets ports owners) (new : Configuration) (all : Closes (IsOwnedJoint m lines owners (wires_of m)) (2 * wires_of m) (cleared m) new) where
    joined : IsJoined m nets ports visits new
    joined = record { lines = lines; owners = owners; are_lines = lines_are; are_owners = owners_are; closed = all }

    lists_laid : IsLaidOnTree m (IsTerminal m n p) (is_closed new) (HasLine visits) (HasPortIn ports)
    lists_laid = drawn_laid m d (nets_in n) (IsTerminal m n p) nets ports visits laws drawn new joined

    lists_free : (x : ℕ) → is_closed new x ≡ true → (x < crosses_of m) × IsFreeCross m d x
    lists_free = drawn_free m d (nets_in n) (IsTerminal m n p) nets ports visits laws drawn new joined

    module _ (second : Configuration) (on : SwitchesOn p.tables n.tables (length p.tables) new second) (ticks : ℕ) where
      abbrev last : Configuration
      last = with_ticks second ticks

      made : with_ticks second ticks ≡ record (cleared m) { closed = new.closed; tables = second.tables; ticks = ticks }
      made = ap (λ (g : Configuration). with_ticks g ticks) (on.rest ∙ ap (λ (g : Configuration). record g { tables = second.tables }) all.rest)

      seat : (j : ℕ) → j < length p.tables → place_of p j ≡ (get_or p.tables j no_seat).0
      seat j l = seat_is j no_seat l

      was_off : (t : ℕ) → IsSome (setting_of new t) → ⊥
      was_off t is = none_is_some (ap (λ (g : Configuration). get_or g.tables t None) all.rest ∙ none_on (tables_of m) t) is

      sets : IsSet d n p last
      sets = record {
        settings = λ j h.
            let l : j < length p.tables = (let e = plan.tables in omega arith) in
            ap (setting_of second) (seat j l) ∙ on.on j l;
        no_others = λ t is. other t (on.others t is);
        crosses = λ x closed.
            let shape : second.shape ≡ m = ap (λ (g : Configuration). g.shape) (on.rest ∙ ap (λ (g : Configuration). record g { tables = second.tables }) all.rest) in
            let same : second.closed ≡ new.closed = ap (λ (g : Configuration). g.closed) on.rest in
            subst (λ s. (x < crosses_of s) × IsFreeCross s d x) (sym shape) (lists_free x (subst (λ (c : set.FinSet nat_cmp). set.contains c x ≡ true) same closed));
      }
        where
          other : (t : ℕ) → IsSome (setting_of new t) ⊎ ((j : ℕ) × (j < length p.tables) × ((get_or p.tables j no_seat).0 ≡ t)) → (j : ℕ) × (j < length n.tables) × (place_of p j ≡ t)
          other t (inl is) = absurd (was_off t is)
          other t (inr r) = (r.0, (let l = r.1 in let e = plan.tables in omega arith), seat r.0 r.1 ∙ r.2)

      pub routed : IsRouted m d n p ports visits (with_ticks second ticks)
      routed = record {
        shape = ap (λ (g : Configuration). g.shape) made;
        sets = sets;
        laid = subst (λ (c : set.FinSet nat_cmp). IsLaidOnTree m (IsTerminal m n p) (λ x. set.contains c x) (HasLine visits) (HasPortIn ports)) (sym (ap (λ (g : Configuration). g.closed) made)) lists_laid;
        few = subst (λ (c : set.FinSet nat_cmp). set.len c ≤ 2 * wires_of m) (sym (ap (λ (g : Configuration). g.closed) made)) (let l = all.few in let e = len-empty nat_cmp in omega arith);
      }

    -- the machine that the tables are switched on at
    pub on_shape : (second : Configuration) → SwitchesOn p.tables n.tables (length p.tables) new second → second.shape ≡ m
    on_shape second on = ap (λ (g : Configuration). g.shape) (on.rest ∙ ap (λ (g : Configuration). record g { tables = second.tables }) all.rest)

  -- the steps together
  pub made_of : (mid second : Configuration) (ticks : ℕ) → IsJoined m nets ports visits mid → SwitchesOn p.tables n.tables (length p.tables) mid second → IsRouted m d n p ports visits (with_ticks second ticks)
  made_of mid second ticks joined on = routed joined.lines joined.owners joined.are_lines joined.are_owners mid joined.closed second on ticks

  pub switched_shape : (mid second : Configuration) → IsJoined m nets ports visits mid → SwitchesOn p.tables n.tables (length p.tables) mid second → second.shape ≡ m
  switched_shape mid second joined on = on_shape joined.lines joined.owners joined.are_lines joined.are_owners mid joined.closed second on
