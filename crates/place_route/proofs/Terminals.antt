-- The terminals of a network's nets on a plan.
use Rattle.std.proofs.Common.{◌≡◌, ◌⊎◌, ℕ, ◌+◌, ◌<◌, ◌≤◌, cond, eqb, List, ◌++◌, length, get_or, map, refl, sym, ap, ◌∙◌, subst, inl, inr, arith}
use Rattle.place_route.proofs.Vocabulary.{range_with_len, ne_eqb, get_or-map-range_with_len, length-map-range_with_len, Shape, Defects}
use Rattle.place_route.proofs.Vocabulary.{Input, Table, Network, IsNetwork, no_table, table_at, Plan, different_at, reader_of, AreTerminals}
use Rattle.std.proofs.lemmas.List.{get_or_append_left, get_or-append-add, length-append, length-map, get_or_default}
use Rattle.machine_shape.specs.Vocabulary.{pin_wire, table_wire, pins_of, tables_of, wires_of, IsLine, IsPort, IsNumbered, IsTree}
use Rattle.place_plan.specs.Plans.{net_of, place_of, places, number_of, IsTerminal, drives, reads, shows, IsPlan}

-- the wire is a pin of the machine, or one of a table's pins
abbrev pub Wired : Shape → ℕ → Type 0
Wired m w = ((k : ℕ) × (k < pins_of m) × (pin_wire m k ≡ w)) ⊎ ((t : ℕ) × (q : ℕ) × (t < tables_of m) × (q < 7) × (table_wire m t q ≡ w))

module _ (m : Shape) (d : Defects) (n : Network) (p : Plan) (numbered : IsNumbered m) (tree : IsTree m) (formed : IsNetwork n) (plan : IsPlan m d n p) where
  pins : List ℕ
  pins = p.inputs ++ p.outputs

  -- the nets of the plan's pins, and of a table's pins
  pin_net : ℕ → ℕ
  pin_net i = net_of n (get_or (map Input (range_with_len 0 n.inputs) ++ n.outputs) i (Input 0))

  table_net : ℕ → ℕ → ℕ
  table_net j q = cond (eqb q 6) (n.inputs + j) (net_of n (get_or (table_at n j).ins q (Input 0)))

  -- a wire that a net has as a terminal, by where it is on the plan
  data Sits (k w : ℕ) : Type 0 where
    on_pin : (i : ℕ) → i < length pins → pin_wire m (get_or pins i 0) ≡ w → pin_net i ≡ k → Sits k w
    on_table : (j q : ℕ) → j < length n.tables → q < 7 → (q ≡ 6) ⊎ (q < length (table_at n j).ins) → table_wire m (place_of p j) q ≡ w → table_net j q ≡ k → Sits k w

  few : (j : ℕ) → j < length n.tables → length (table_at n j).ins ≤ 6
  few j h = formed.narrow j no_table h

  sits : {k w : ℕ} → IsTerminal m n p k w → Sits k w
  unfolding pins pin_net table_net
  sits (drives (Input i) h) =
      let l : i < length p.inputs = let e = plan.inputs in omega arith in
      on_pin i (rw length-append (omega arith)) (ap (pin_wire m) (get_or_append_left p.inputs p.outputs 0 i l))
      (ap (net_of n) (get_or_append_left (map Input (range_with_len 0 n.inputs)) n.outputs (Input 0) i (rw length-map-range_with_len h) ∙ get_or-map-range_with_len Input 0 n.inputs i i (Input 0) h (omega arith)))
  sits (drives (Table j) h) = on_table j 6 h (omega arith) (inl refl) refl refl
  sits (reads j q s h l e) =
      on_table j q h (let f = few j h in omega arith) (inr l) refl
      (rw (ne_eqb q 6 (λ x. let f = few j h in absurd (omega arith))) (ap (net_of n) (get_or_default (table_at n j).ins q (Input 0) s l ∙ e)))
  sits (shows o s h e) =
      let l : o < length p.outputs = let q = plan.outputs in omega arith in
      on_pin (length p.inputs + o) (rw length-append (omega arith)) (ap (pin_wire m) (get_or-append-add p.inputs p.outputs o 0))
      (ap (net_of n) (ap (λ x. get_or (map Input (range_with_len 0 n.inputs) ++ n.outputs) (x + o) (Input 0)) (plan.inputs ∙ sym (length-map-range_with_len Input 0 n.inputs)) ∙ get_or-append-add (map Input (range_with_len 0 n.inputs)) n.outputs o (Input 0) ∙ get_or_default n.outputs o (Input 0) s h ∙ e))

  pin_in : (i : ℕ) → i < length pins → get_or pins i 0 < pins_of m
  unfolding pins
  pin_in i h = plan.pins_within i 0 h

  placed : (j : ℕ) → j < length n.tables → j < length (places p)
  placed j h = let e = plan.tables in let l : length (places p) ≡ length p.tables = length-map p.tables number_of in omega arith

  table_in : (j : ℕ) → j < length n.tables → place_of p j < tables_of m
  table_in j h = plan.tables_within j 0 (placed j h)

  same_place : (j i : ℕ) → j < length n.tables → i < length n.tables → place_of p j ≡ place_of p i → j ≡ i
  same_place j i h l e = different_at (places p) plan.tables_different j i (placed j h) (placed i l) e

  same_pin : (i j : ℕ) → i < length pins → j < length pins → get_or pins i 0 ≡ get_or pins j 0 → i ≡ j
  unfolding pins
  same_pin i j h l e = different_at (p.inputs ++ p.outputs) plan.pins_different i j h l e

  one_seat : (k l w : ℕ) → Sits k w → Sits l w → k ≡ l
  one_seat k l w (on_pin i h e q) (on_pin j g f r) = sym q ∙ ap pin_net (same_pin i j h g (numbered.pins_apart _ _ (pin_in i h) (pin_in j g) (e ∙ sym f))) ∙ r
  one_seat k l w (on_pin i h e q) (on_table j b g c _ f r) = absurd (numbered.no_pin_is_table _ _ b (pin_in i h) (table_in j g) c (e ∙ sym f))
  one_seat k l w (on_table j b g c _ f r) (on_pin i h e q) = absurd (numbered.no_pin_is_table _ _ b (pin_in i h) (table_in j g) c (e ∙ sym f))
  one_seat k l w (on_table i a h b _ e q) (on_table j c g z _ f r) =
      let both = numbered.tables_apart _ _ a c (table_in i h) (table_in j g) b z (e ∙ sym f) in
      let same = same_place i j h g both.0 in
      sym q ∙ (λ t. table_net (same t) (both.1 t)) ∙ r

  -- a table's pin that has no source is no terminal
  unseated : (k w : ℕ) → Sits k w → (j q : ℕ) → j < length n.tables → length (table_at n j).ins ≤ q → q < 6 → w ≡ reader_of m p j q → ⊥
  unseated k w (on_pin i g f r) j q h l b e = numbered.no_pin_is_table _ _ q (pin_in i g) (table_in j h) (omega arith) (f ∙ e)
  unseated k w (on_table i a g c used f r) j q h l b e =
      let both = numbered.tables_apart _ _ a q (table_in i g) (table_in j h) c (omega arith) (f ∙ e) in
      unused (same_place i j g h both.0) both.1 used
    where
      unused : i ≡ j → a ≡ q → (a ≡ 6) ⊎ (a < length (table_at n i).ins) → ⊥
      unused s t (inl u) = absurd (omega arith)
      unused s t (inr u) = absurd (let v : a < length (table_at n j).ins = subst (λ x. a < length (table_at n x).ins) s u in omega arith)

  pub no_idle_terminal : (k j q : ℕ) → j < length n.tables → length (table_at n j).ins ≤ q → q < 6 → IsTerminal m n p k (reader_of m p j q) → ⊥
  no_idle_terminal k j q h l b t = unseated k _ (sits t) j q h l b refl

  pub is_wired : (k w : ℕ) → IsTerminal m n p k w → Wired m w
  is_wired k w t = by (sits t)
    where
      by : {k w : ℕ} → Sits k w → Wired m w
      by (on_pin i h e q) = inl (get_or pins i 0, pin_in i h, e)
      by (on_table j a h b c e q) = inr (place_of p j, a, table_in j h, b, e)

  pub plan_terminals : AreTerminals m (IsTerminal m n p)
  plan_terminals = record {
    apart = λ k l w a b. one_seat k l w (sits a) (sits b);
    no_line = λ k i w a is. at_line (sits a) i is;
    no_port = λ k i w a is. at_port (sits a) i is;
    below = λ k w a. tree.below w (within (sits a));
  }
    where
      at_line : {k w : ℕ} → Sits k w → (i : ℕ) → IsLine m i w → ⊥
      at_line (on_pin a h e q) i is = tree.no_pin_is_line _ i (pin_in a h) (subst (IsLine m i) (sym e) is)
      at_line (on_table j a h b _ e q) i is = tree.no_table_is_line _ a i (table_in j h) b (subst (IsLine m i) (sym e) is)

      at_port : {k w : ℕ} → Sits k w → (i : ℕ) → IsPort m i w → ⊥
      at_port (on_pin a h e q) i is = tree.no_pin_is_port _ i (pin_in a h) (subst (IsPort m i) (sym e) is)
      at_port (on_table j a h b _ e q) i is = tree.no_table_is_port _ a i (table_in j h) b (subst (IsPort m i) (sym e) is)

      within : {k w : ℕ} → Sits k w → w < wires_of m
      within (on_pin a h e q) = subst (λ x. x < wires_of m) e (numbered.pins _ (pin_in a h))
      within (on_table j a h b _ e q) = subst (λ x. x < wires_of m) e (numbered.tables _ a (table_in j h) b)
