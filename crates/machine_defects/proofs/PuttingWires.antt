-- A wire more is listed.
use Rattle.std.proofs.Common.{◌≡◌, ◌≢◌, ◌⊎◌, inl, inr, ℕ, zero, suc, ◌+◌, ◌<◌, ◌≤◌, Bool, true, false, not, ◌&&◌, ◌||◌, if◌then◌else◌, Option, Some, None, List, length, get_or, set, refl, sym, ap, ◌∙◌, subst, arith, eqb-true, ◌==◌, IfSome}
use Rattle.std.proofs.lemmas.List.{length-set, get_or_default}
use Rattle.machine_defects.proofs.Vocabulary.{eq-eqb, false_from_ne_true, nat_tests, and-false, or-true, has_number, Shape, Line, is_line}
use native.Mathlib.Decide.{ℕ_discrete, dec_lt}
use Rattle.machine_shape.specs.declared.Table.{Table}
use Rattle.machine_shape.specs.Vocabulary.{HasCrosses, HasTaps, HasParents, HasMeanings, IsTree, wires_of, crosses_of, tables_of, nodes_of, lines_of, own_ports_of, ends_of, node_of, parent_of, node_of_cross, line_at, port_at, table_wire, IsLine, IsPort}
use Rattle.machine_defects.specs.Vocabulary.{IsWithWire, how_many, all_below, touches_cross, touches_table, Marks, AreRight, IsSwept, IsRecounted, IsItOrAbove, Loses, listed_by, marked, is_barred, is_lost, is_clear_line, count_at, shut_at, clear_lines_at, free_ports_at, free_pins_in}
use Rattle.machine_defects.proofs.Marks.{in_marked, marked_more, put_again, all_each, each_all, all_same, unmarked_beyond, has_below}
use Rattle.machine_defects.proofs.Counting.{how_many_less, how_many_same, how_many_some}
use Rattle.machine_defects.proofs.Sweeping.{set_here, set_there, line_of, all_touched, touches_tap, touches_line, touched_by, AtNode, OnLine, AtAbove, some_one}

and_true : (b : Bool) → (b && true) ≡ b
and_true true = refl
and_true false = refl

true_is_no_false : true ≡ false → ⊥
true_is_no_false e = cc

-- the same counts, by other names of the lists
pub recounted_as : {m : Shape} {ws vs : List Bool} {ss ts : List ℕ} {n node : ℕ} {lines ls ports ps new_lines new_ports : List ℕ} → vs ≡ ws → ts ≡ ss → node ≡ n → ls ≡ lines → ps ≡ ports →
    IsRecounted m vs ts (IsItOrAbove m node) ls ps new_lines new_ports → IsRecounted m ws ss (IsItOrAbove m n) lines ports new_lines new_ports
recounted_as {m = m} {new_lines = new_lines} {new_ports = new_ports} wires shut at lines ports is =
    subst (λ (p : (List Bool × List ℕ) × (ℕ × (List ℕ × List ℕ))). IsRecounted m p.0.0 p.0.1 (IsItOrAbove m p.1.0) p.1.1.0 p.1.1.1 new_lines new_ports) (λ i. ((wires i, shut i), (at i, (lines i, ports i)))) is

-- ---- tables

-- the pins of a table that the wire isn't one of, and of the one that it is one of
untouched : (m : Shape) (w u : ℕ) → ((i : ℕ) → i < 7 → table_wire m u i ≢ w) → touches_table m w u ≡ false
untouched m w u apart = ap not (each_all (λ i. not (table_wire m u i == w)) 7 (λ i li. ap not (let e : (table_wire m u i == w) ≡ false = let ne = apart i li in grind (arith, nat_tests, ne) in e)))

touched : (m : Shape) (w u i : ℕ) → i < 7 → table_wire m u i ≡ w → touches_table m w u ≡ true
touched m w u i li e = ap not (false_from_ne_true _ (λ all. true_is_no_false (sym (all_each (λ i. not (table_wire m u i == w)) 7 i all li) ∙ ap not (eq-eqb (table_wire m u i) w e))))

module _ (k : Marks) (is : AreRight k) (w : ℕ) (lw : w < wires_of k.shape) where
  abbrev m : Shape
  m = k.shape

  abbrev pub wires_now : List Bool
  wires_now = set k.wires w true

  low : w < length k.wires
  low = subst (λ n. w < n) (sym is.wide.wires) lw

  wire_there : (u : ℕ) → u ≢ w → has_number wires_now u ≡ has_number k.wires u
  wire_there u ne = set_there k.wires w u true ne

  wire_here : (u : ℕ) → u ≡ w → has_number wires_now u ≡ true
  wire_here u e = ap (has_number wires_now) e ∙ set_here k.wires w true low

  -- what becomes of the tables
  record TablesAre (tables lost : List Bool) (free : ℕ) : Type 0 where
    pub tables_width : length tables ≡ tables_of m
    pub lost_width : length lost ≡ tables_of m
    pub pins : (u i : ℕ) → u < tables_of m → has_number tables u ≡ true → i < 7 → has_number wires_now (table_wire m u i) ≡ false
    pub lost_are : (u : ℕ) → u < tables_of m → has_number lost u ≡ is_lost m wires_now tables u
    pub counted : free ≡ how_many (λ u. not (has_number lost u)) (tables_of m)
    pub listed : (u : ℕ) → has_number tables u ≡ (has_number k.tables u && not (touches_table m w u))

  -- a table that the wire is no pin of stays as it was
  module _ (tables : List Bool) (u : ℕ) (apart : (i : ℕ) → i < 7 → table_wire m u i ≢ w) (same : has_number tables u ≡ has_number k.tables u) where
    other_pins : (i : ℕ) → u < tables_of m → has_number tables u ≡ true → i < 7 → has_number wires_now (table_wire m u i) ≡ false
    other_pins i lu on li = wire_there (table_wire m u i) (apart i li) ∙ is.pins u i lu (sym same ∙ on) li

    other_lost : is_lost m k.wires k.tables u ≡ is_lost m wires_now tables u
    other_lost = (λ j. sym same j || not (all_same (λ i. not (has_number k.wires (table_wire m u i))) (λ i. not (has_number wires_now (table_wire m u i))) 7 (λ i li. ap not (sym (wire_there (table_wire m u i) (apart i li)))) j))

    other_listed : has_number tables u ≡ (has_number k.tables u && not (touches_table m w u))
    other_listed = same ∙ sym (ap (λ b. has_number k.tables u && not b) (untouched m w u apart) ∙ and_true (has_number k.tables u))

  unowned_apart : get_or k.owners w None ≡ None → (u i : ℕ) → u < tables_of m → i < 7 → table_wire m u i ≢ w
  unowned_apart none u i lu li e = let g : ◌≡◌ {A = Option Table} None (Some (record { 0 = u })) = sym none ∙ ap (λ v. get_or k.owners v None) (sym e) ∙ is.owners.owned u i lu li in cc

  owned_apart : (t : Table) → get_or k.owners w None ≡ Some t → (u i : ℕ) → u < tables_of m → u ≢ t.0 → i < 7 → table_wire m u i ≢ w
  owned_apart t own u i lu ne li e =
      let g : ◌≡◌ {A = Option Table} (Some (record { 0 = u })) (Some t) = sym (is.owners.owned u i lu li) ∙ ap (λ v. get_or k.owners v None) e ∙ own in
      let h : u ≡ t.0 = cc in
      ne h

  beyond : (tables : List Bool) → length tables ≡ tables_of m → (u : ℕ) → tables_of m ≤ u → has_number tables u ≡ (has_number k.tables u && not (touches_table m w u))
  beyond tables long u le = unmarked_beyond tables u (subst (λ n. n ≤ u) (sym long) le) ∙ sym (ap (λ b. b && not (touches_table m w u)) (unmarked_beyond k.tables u (subst (λ n. n ≤ u) (sym is.wide.tables) le)))

  tables_none : get_or k.owners w None ≡ None → TablesAre k.tables k.lost k.free_tables
  tables_none none = record {
    tables_width = is.wide.tables;
    lost_width = is.wide.lost;
    pins = λ u i lu on li. other_pins k.tables u (λ i li. unowned_apart none u i lu li) refl i lu on li;
    lost_are = λ u lu. is.lost u lu ∙ other_lost k.tables u (λ i li. unowned_apart none u i lu li) refl;
    counted = is.free_tables;
    listed = λ u. by_place u (dec_lt u (tables_of m));
  }
    where
      by_place : (u : ℕ) → Dec (u < tables_of m) → has_number k.tables u ≡ (has_number k.tables u && not (touches_table m w u))
      by_place u (yes lu) = other_listed k.tables u (λ i li. unowned_apart none u i lu li) refl
      by_place u (no ge) = beyond k.tables is.wide.tables u (omega (arith, ge))

  module _ (t : Table) (own : get_or k.owners w None ≡ Some t) where
    lt : t.0 < tables_of m
    lt = (is.owners.others w t own).0

    pub table_low : (t.0 < length k.tables) × (t.0 < length k.lost)
    table_low = (subst (λ n. t.0 < n) (sym is.wide.tables) lt, subst (λ n. t.0 < n) (sym is.wide.lost) lt)

    pub table_free : has_number k.lost t.0 ≡ false → 0 < k.free_tables
    table_free off = let h = how_many_some (λ u. not (has_number k.lost u)) (tables_of m) t.0 lt (ap not off) in subst (λ n. 0 < n) (sym is.free_tables) h

    abbrev tables_now : List Bool
    tables_now = set k.tables t.0 false

    abbrev lost_now : List Bool
    lost_now = set k.lost t.0 true

    table_there : (u : ℕ) → u ≢ t.0 → has_number tables_now u ≡ has_number k.tables u
    table_there u ne = set_there k.tables t.0 u false ne

    table_here : (u : ℕ) → u ≡ t.0 → has_number tables_now u ≡ false
    table_here u e = ap (has_number tables_now) e ∙ set_here k.tables t.0 false table_low.0

    lost_here : (u : ℕ) → u ≡ t.0 → has_number lost_now u ≡ true
    lost_here u e = ap (has_number lost_now) e ∙ set_here k.lost t.0 true table_low.1

    pin_of : (i : ℕ) × (i < 7) × (table_wire m t.0 i ≡ w)
    pin_of = (is.owners.others w t own).1

    pin_marked : all_below 7 (λ i. not (has_number wires_now (table_wire m t.0 i))) ≡ false
    pin_marked = false_from_ne_true _ (λ all. true_is_no_false (sym (all_each (λ i. not (has_number wires_now (table_wire m t.0 i))) 7 pin_of.0 all pin_of.1) ∙ ap not (wire_here (table_wire m t.0 pin_of.0) pin_of.2)))

    counted_now : (free : ℕ) → (b : Bool) → has_number k.lost t.0 ≡ b → free + (if b then 0 else 1) ≡ k.free_tables → free ≡ how_many (λ u. not (has_number lost_now u)) (tables_of m)
    counted_now free true on e =
        let same = how_many_same (λ u. not (has_number k.lost u)) (λ u. not (has_number lost_now u)) (tables_of m) (λ u lu. ap not (by_place u (ℕ_discrete u t.0))) in
        omega (arith, e, same, is.free_tables)
      where
        by_place : (u : ℕ) → Dec (u ≡ t.0) → has_number k.lost u ≡ has_number lost_now u
        by_place u (yes g) = ap (has_number k.lost) g ∙ on ∙ sym (lost_here u g)
        by_place u (no ne) = sym (set_there k.lost t.0 u true ne)
    counted_now free false off e =
        let less = how_many_less (λ u. not (has_number k.lost u)) (λ u. not (has_number lost_now u)) (tables_of m) t.0 lt (ap not off) (ap not (lost_here t.0 refl)) (λ u lu ne. ap not (sym (set_there k.lost t.0 u true ne))) in
        omega (arith, e, less, is.free_tables)

    tables_one : (free : ℕ) → free + (if has_number k.lost t.0 then 0 else 1) ≡ k.free_tables → TablesAre tables_now lost_now free
    tables_one free e = record {
      tables_width = width;
      lost_width = length-set k.lost t.0 true ∙ is.wide.lost;
      pins = λ u i lu on li. pins u i lu on li (ℕ_discrete u t.0);
      lost_are = λ u lu. lost u lu (ℕ_discrete u t.0);
      counted = counted_now free (has_number k.lost t.0) refl e;
      listed = λ u. by_place u (dec_lt u (tables_of m)) (ℕ_discrete u t.0);
    }
      where
        width : length tables_now ≡ tables_of m
        width = length-set k.tables t.0 false ∙ is.wide.tables

        pins : (u i : ℕ) → u < tables_of m → has_number tables_now u ≡ true → i < 7 → Dec (u ≡ t.0) → has_number wires_now (table_wire m u i) ≡ false
        pins u i lu on li (no ne) = other_pins tables_now u (λ i li. owned_apart t own u i lu ne li) (table_there u ne) i lu on li
        pins u i lu on li (yes g) = absurd (true_is_no_false (sym on ∙ table_here u g))

        lost : (u : ℕ) → u < tables_of m → Dec (u ≡ t.0) → has_number lost_now u ≡ is_lost m wires_now tables_now u
        lost u lu (no ne) = set_there k.lost t.0 u true ne ∙ is.lost u lu ∙ other_lost tables_now u (λ i li. owned_apart t own u i lu ne li) (table_there u ne)
        lost u lu (yes g) = lost_here u g ∙ sym (ap (λ b. has_number tables_now u || not b) (ap (λ v. all_below 7 (λ i. not (has_number wires_now (table_wire m v i)))) g ∙ pin_marked) ∙ or-true (has_number tables_now u))

        by_place : (u : ℕ) → Dec (u < tables_of m) → Dec (u ≡ t.0) → has_number tables_now u ≡ (has_number k.tables u && not (touches_table m w u))
        by_place u (no ge) d = beyond tables_now width u (omega (arith, ge))
        by_place u (yes lu) (no ne) = other_listed tables_now u (λ i li. owned_apart t own u i lu ne li) (table_there u ne)
        by_place u (yes lu) (yes g) = table_here u g ∙ sym (ap (λ b. has_number k.tables u && not b) (ap (touches_table m w) g ∙ touched m w t.0 pin_of.0 pin_of.1 pin_of.2) ∙ and-false (has_number k.tables u))

  -- the owner as it is read
  pub owner_read : (o : Option Table) → o ≡ get_or k.owners w o → get_or k.owners w None ≡ o
  owner_read o e = get_or_default k.owners w None o (subst (λ n. w < n) (sym is.wide.owners) lw) ∙ sym e

  pub owner_low : (o : Option Table) → get_or k.owners w None ≡ o → IfSome o (λ t. (t.0 < length k.tables) × (t.0 < length k.lost))
  owner_low None e = tt
  owner_low (Some t) e = table_low t e

  pub owner_free : (o : Option Table) → get_or k.owners w None ≡ o → IfSome o (λ t. has_number k.lost t.0 ≡ false → 0 < k.free_tables)
  owner_free None e = tt
  owner_free (Some t) e = table_free t e

  tables_are : (owner : Option Table) → get_or k.owners w None ≡ owner → (tables lost : List Bool) (free : ℕ) → Loses owner k.tables k.lost k.free_tables tables lost free → TablesAre tables lost free
  tables_are None own tables lost free h = subst (λ (p : (List Bool × List Bool) × ℕ). TablesAre p.0.0 p.0.1 p.1) (λ i. ((sym h.0 i, sym h.1 i), sym h.2 i)) (tables_none own)
  tables_are (Some t) own tables lost free h = subst (λ (p : List Bool × List Bool). TablesAre p.0 p.1 free) (λ i. (sym h.0 i, sym h.1 i)) (tables_one t own free h.2)

  -- ---- crosspoints, lines and ports

  module _ (crosses barred : List Bool) (shut : List ℕ) (swept : IsSwept m w (λ x. touches_cross m w x ≡ true) k.crosses k.barred crosses barred shut) where
    ends_apart : (x : ℕ) → touches_cross m w x ≡ false → ((ends_of m x).0 ≢ w) × ((ends_of m x).1 ≢ w)
    ends_apart x off = ((λ e. true_is_no_false (sym (touches_tap m w x e) ∙ off)), (λ e. true_is_no_false (sym (touches_line m w x e) ∙ off)))

    ends_now : (x : ℕ) → x < crosses_of m → has_number crosses x ≡ true → (has_number wires_now (ends_of m x).0 ≡ false) × (has_number wires_now (ends_of m x).1 ≡ false)
    ends_now x lx on =
        let off : touches_cross m w x ≡ false = false_from_ne_true _ (λ h. true_is_no_false (sym on ∙ swept.done_crosses x lx h)) in
        let apart = ends_apart x off in
        let was = is.ends x lx (swept.fewer x on) in
        (wire_there (ends_of m x).0 apart.0 ∙ was.0, wire_there (ends_of m x).1 apart.1 ∙ was.1)

    barred_now : (x : ℕ) → x < crosses_of m → (b : Bool) → touches_cross m w x ≡ b → has_number barred x ≡ is_barred m wires_now crosses x
    barred_now x lx false off =
        let apart = ends_apart x off in
        swept.other_barred x off ∙ is.barred x lx ∙ (λ i. sym (swept.other_crosses x off) i || (sym (wire_there (ends_of m x).0 apart.0) i || sym (wire_there (ends_of m x).1 apart.1) i))
    barred_now x lx true on = swept.done_barred x lx on ∙ sym (by_end (touched_by m w x on))
      where
        by_end : ((ends_of m x).0 ≡ w) ⊎ ((ends_of m x).1 ≡ w) → is_barred m wires_now crosses x ≡ true
        by_end (inl e) = ap (λ b. has_number crosses x || (b || has_number wires_now (ends_of m x).1)) (wire_here (ends_of m x).0 e) ∙ or-true (has_number crosses x)
        by_end (inr e) = ap (λ b. has_number crosses x || (has_number wires_now (ends_of m x).0 || b)) (wire_here (ends_of m x).1 e) ∙ ap (λ b. has_number crosses x || b) (or-true (has_number wires_now (ends_of m x).0)) ∙ or-true (has_number crosses x)

    crosses_listed : (x : ℕ) → has_number crosses x ≡ (has_number k.crosses x && not (touches_cross m w x))
    crosses_listed x = by_place (dec_lt x (crosses_of m)) (touches_cross m w x) refl
      where
        by_place : Dec (x < crosses_of m) → (b : Bool) → touches_cross m w x ≡ b → has_number crosses x ≡ (has_number k.crosses x && not b)
        by_place d false off = swept.other_crosses x off ∙ sym (and_true (has_number k.crosses x))
        by_place (yes lx) true on = swept.done_crosses x lx on ∙ sym (and-false (has_number k.crosses x))
        by_place (no ge) true on = unmarked_beyond crosses x (let l = swept.crosses_width in omega (arith, ge, l)) ∙ sym (and-false (has_number k.crosses x))

    module _ (laws : HasCrosses m) (taps : HasTaps m) (tree : IsTree m) (parents : HasParents m) (meanings : HasMeanings m) where
      abbrev node : ℕ
      node = node_of m w

      line_of_node : (n i : ℕ) → n < nodes_of m → i < lines_of m n → node_of m (line_at m n i) ≡ n
      unfolding IsLine
      line_of_node n i ln li = tree.line_node n (line_at m n i) (ln, (i, li, refl))

      port_of_node : (n i : ℕ) → n < nodes_of m → i < own_ports_of m n → node_of m (port_at m n i) ≡ n
      unfolding IsPort own_ports_of
      port_of_node zero i ln li = absurd (let no : ⊥ = omega (arith, li) in no)
      port_of_node (suc n) i ln li = tree.port_node (suc n) (port_at m (suc n) i) (omega arith, ln, (i, li, refl))

      -- the crosspoints of a line of another node are as they were
      cross_elsewhere : (n x : ℕ) → x < crosses_of m → n ≢ node → parent_of m node ≢ Some n → node_of_cross m x ≡ n → has_number crosses x ≡ has_number k.crosses x
      cross_elsewhere n x lx ne above at = swept.other_crosses x (false_from_ne_true _ (λ on. by_case (all_touched m laws tree parents taps w x lx on)))
        where
          by_case : AtNode m node w x ⊎ (OnLine m node w x ⊎ AtAbove m node w x) → ⊥
          by_case (inl h) = ne (sym at ∙ h.0)
          by_case (inr (inl h)) = ne (sym at ∙ h.0)
          by_case (inr (inr h)) = above (h.0 ∙ ap (λ v. Some v) at)

      shut_elsewhere_ : (n line : ℕ) → n ≢ node → parent_of m node ≢ Some n → node_of m line ≡ n → shut_at m k.crosses line ≡ shut_at m crosses line
      shut_elsewhere_ n line ne above at = how_many_same (λ x. has_number k.crosses x && ((ends_of m x).1 == line)) (λ x. has_number crosses x && ((ends_of m x).1 == line)) (crosses_of m) (λ x lx. by_line x lx ((ends_of m x).1 == line) refl)
        where
          by_line : (x : ℕ) → x < crosses_of m → (b : Bool) → ((ends_of m x).1 == line) ≡ b → (has_number k.crosses x && b) ≡ (has_number crosses x && b)
          by_line x lx false e = and-false (has_number k.crosses x) ∙ sym (and-false (has_number crosses x))
          by_line x lx true e = ap (λ b. b && true) (sym (cross_elsewhere n x lx ne above (sym (line_of m laws tree x lx) ∙ ap (node_of m) (eqb-true (ends_of m x).1 line e) ∙ at)))

      lines_elsewhere : (n : ℕ) → n < nodes_of m → n ≢ node → parent_of m node ≢ Some n → clear_lines_at m k.wires k.shut n ≡ clear_lines_at m wires_now shut n
      lines_elsewhere n ln ne above = how_many_same (λ i. is_clear_line k.wires k.shut (line_at m n i)) (λ i. is_clear_line wires_now shut (line_at m n i)) (lines_of m n) (λ i li.
          let at = line_of_node n i ln li in
          let within = meanings.within _ (Line n i) (is_line n i ln li refl) in
          let wire = wire_there (line_at m n i) (λ e. ne (sym at ∙ ap (node_of m) e)) in
          let count : count_at k.shut (line_at m n i) ≡ count_at shut (line_at m n i) = is.shut (line_at m n i) within ∙ shut_elsewhere_ n (line_at m n i) ne above at ∙ sym (swept.counted (line_at m n i) within) in
          (λ j. not (sym wire j) && (count j == 0)))

      it_or_above : (n : ℕ) → Dec (IsItOrAbove m node n)
      it_or_above n = by_above (ℕ_discrete n node) (parent_of m node) refl
        where
          at_most : n ≢ node → (a : ℕ) → parent_of m node ≡ Some a → Dec (n ≡ a) → Dec (IsItOrAbove m node n)
          at_most ne a e (yes g) = yes (inr (e ∙ ap (λ v. Some v) (sym g)))
          at_most ne a e (no na) = no (λ h. not_either ne a e na h)
            where
              not_either : n ≢ node → (a : ℕ) → parent_of m node ≡ Some a → n ≢ a → IsItOrAbove m node n → ⊥
              not_either ne a e na (inl g) = ne g
              not_either ne a e na (inr g) = na (some_one a n (parent_of m node) e g)

          neither : n ≢ node → parent_of m node ≡ None → IsItOrAbove m node n → ⊥
          neither ne e (inl g) = ne g
          neither ne e (inr g) = let h : ◌≡◌ {A = Option ℕ} None (Some n) = sym e ∙ g in cc

          by_above : Dec (n ≡ node) → (o : Option ℕ) → parent_of m node ≡ o → Dec (IsItOrAbove m node n)
          by_above (yes g) o e = yes (inl g)
          by_above (no ne) (Some a) e = at_most ne a e (ℕ_discrete n a)
          by_above (no ne) None e = no (neither ne e)

      ports_elsewhere : (n : ℕ) → n < nodes_of m → n ≢ node → free_ports_at m k.wires n ≡ free_ports_at m wires_now n
      ports_elsewhere n ln ne = how_many_same (λ i. not (has_number k.wires (port_at m n i))) (λ i. not (has_number wires_now (port_at m n i))) (own_ports_of m n) (λ i li.
          ap not (sym (wire_there (port_at m n i) (λ e. ne (sym (port_of_node n i ln li) ∙ ap (node_of m) e)))))

      module _ (lines ports : List ℕ) (again : IsRecounted m wires_now shut (IsItOrAbove m node) k.open_lines k.free_ports lines ports) where
        lines_are : (n : ℕ) → n < nodes_of m → count_at lines n ≡ clear_lines_at m wires_now shut n
        lines_are n l = by_node (it_or_above n)
          where
            by_node : Dec (IsItOrAbove m node n) → count_at lines n ≡ clear_lines_at m wires_now shut n
            by_node (yes h) = again.these_lines n h
            by_node (no h) = again.other_lines n h ∙ is.open_lines n l ∙ lines_elsewhere n l (λ e. h (inl e)) (λ e. h (inr e))

        ports_are : (n : ℕ) → n < nodes_of m → count_at ports n ≡ free_ports_at m wires_now n
        ports_are n l = by_node (it_or_above n)
          where
            by_node : Dec (IsItOrAbove m node n) → count_at ports n ≡ free_ports_at m wires_now n
            by_node (yes h) = again.these_ports n h
            by_node (no h) = again.other_ports n h ∙ is.free_ports n l ∙ ports_elsewhere n l (λ e. h (inl e))

        -- ---- all of it
        module _ (owner : Option Table) (own : get_or k.owners w None ≡ owner) (tables lost : List Bool) (free pins : ℕ) (loses : Loses owner k.tables k.lost k.free_tables tables lost free) (e_pins : pins ≡ free_pins_in m wires_now) where
          abbrev pub with_listed_wire : Marks
          with_listed_wire = record k { wires = wires_now; crosses = crosses; tables = tables; barred = barred; lost = lost; shut = shut; open_lines = lines; free_ports = ports; free_tables = free; free_pins = pins }

          pub wire_right : AreRight with_listed_wire
          wire_right =
              let t = tables_are owner own tables lost free loses in
              record {
                wide = record {
                  wires = length-set k.wires w true ∙ is.wide.wires;
                  crosses = swept.crosses_width;
                  tables = t.tables_width;
                  barred = swept.barred_width;
                  lost = t.lost_width;
                  owners = is.wide.owners;
                  shut = swept.shut_width;
                  open_lines = again.lines_width;
                  free_ports = again.ports_width;
                };
                owners = is.owners;
                ends = ends_now;
                pins = t.pins;
                barred = λ x lx. barred_now x lx (touches_cross m w x) refl;
                lost = t.lost_are;
                shut = swept.counted;
                open_lines = lines_are;
                free_ports = ports_are;
                free_tables = t.counted;
                free_pins = e_pins;
              }

          pub wire_listed : IsWithWire (listed_by k) w (listed_by with_listed_wire)
          wire_listed =
              let t = tables_are owner own tables lost free loses in
              record {
                shape = refl;
                wires = marked_more k.wires w low;
                crosses = λ x. in_marked crosses x ∙ crosses_listed x ∙ ap (λ b. b && not (touches_cross m w x)) (sym (in_marked k.crosses x));
                tables = λ u. in_marked tables u ∙ t.listed u ∙ ap (λ b. b && not (touches_table m w u)) (sym (in_marked k.tables u));
              }

  -- a wire that is listed already
  pub wire_as_it_is : has_number k.wires w ≡ true → IsWithWire (listed_by k) w (listed_by k)
  wire_as_it_is on = record {
    shape = refl;
    wires = sym (put_again (marked k.wires) w (in_marked k.wires w ∙ on));
    crosses = λ x. in_marked k.crosses x ∙ cross x (has_number k.crosses x) refl ∙ ap (λ b. b && not (touches_cross m w x)) (sym (in_marked k.crosses x));
    tables = λ u. in_marked k.tables u ∙ table u (has_number k.tables u) refl ∙ ap (λ b. b && not (touches_table m w u)) (sym (in_marked k.tables u));
  }
    where
      below_crosses : (x : ℕ) → has_number k.crosses x ≡ true → x < crosses_of m
      below_crosses x e = subst (λ n. x < n) is.wide.crosses (has_below k.crosses x e)

      below_tables : (u : ℕ) → has_number k.tables u ≡ true → u < tables_of m
      below_tables u e = subst (λ n. u < n) is.wide.tables (has_below k.tables u e)

      by_end : (x : ℕ) → has_number k.crosses x ≡ true → ((ends_of m x).0 ≡ w) ⊎ ((ends_of m x).1 ≡ w) → ⊥
      by_end x e (inl at) = true_is_no_false (sym on ∙ ap (has_number k.wires) (sym at) ∙ (is.ends x (below_crosses x e) e).0)
      by_end x e (inr at) = true_is_no_false (sym on ∙ ap (has_number k.wires) (sym at) ∙ (is.ends x (below_crosses x e) e).1)

      cross : (x : ℕ) (b : Bool) → has_number k.crosses x ≡ b → b ≡ (b && not (touches_cross m w x))
      cross x false e = refl
      cross x true e = sym (ap not (false_from_ne_true (touches_cross m w x) (λ h. by_end x e (touched_by m w x h))))

      table : (u : ℕ) (b : Bool) → has_number k.tables u ≡ b → b ≡ (b && not (touches_table m w u))
      table u false e = refl
      table u true e = sym (ap not (untouched m w u (λ i li at. true_is_no_false (sym on ∙ ap (has_number k.wires) (sym at) ∙ is.pins u i (below_tables u e) e li))))
