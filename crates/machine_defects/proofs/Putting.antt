-- A table or a crosspoint more is listed.
use Rattle.std.proofs.Common.{◌≡◌, ◌≢◌, ℕ, ◌+◌, ◌-◌, ◌<◌, ◌≤◌, Bool, true, false, not, ◌&&◌, ◌||◌, if◌then◌else◌, List, length, set, refl, sym, ap, ◌∙◌, subst, arith, eqb-true, ◌==◌}
use Rattle.std.specs.FinSet as sets
use Rattle.machine_defects.proofs.Vocabulary.{length-set, nat_tests, has_number, Shape, crosses_are, Line, is_line}
use Rattle.std.proofs.lemmas.Bool.{eq-eqb, or_parts, not-false}
use native.Mathlib.Decide.{ℕ_discrete}
use Rattle.machine_shape.specs.Vocabulary.{HasCrosses, HasMeanings, levels_of, wires_of, crosses_of, tables_of, nodes_of, lines_of, ends_of, node_of_cross, line_position, line_at, table_wire}
use Rattle.machine_defects.specs.Vocabulary.{all_below, is_free_wire, has_free_ends, has_free_pins, with_cross, with_table, Marks, IsWide, AreRight, AreShutBy, listed_by, marked, is_barred, is_lost, is_clear_line, count_at, shut_at, clear_lines_at}
use Rattle.machine_defects.proofs.Marks.{in_marked, marked_more, put_again, all_each, all_same}
use Rattle.machine_defects.proofs.Counting.{how_many_less, how_many_same, how_many_some, how_many_at_most}
use Rattle.machine_defects.proofs.Sweeping.{count_set, set_here, set_there, shut_less, shut_elsewhere, ends_are}

pub few_crosses : (m : Shape) → crosses_of m ≤ 268435456
few_crosses m = (crosses_are m).1

-- lists of the lengths that they had
still_wide : {k l : Marks} → IsWide k → l.shape ≡ k.shape → length l.wires ≡ length k.wires → length l.crosses ≡ length k.crosses → length l.tables ≡ length k.tables → length l.barred ≡ length k.barred → length l.lost ≡ length k.lost → length l.owners ≡ length k.owners → length l.shut ≡ length k.shut → length l.open_lines ≡ length k.open_lines → length l.free_ports ≡ length k.free_ports → IsWide l
still_wide is shape wires crosses tables barred lost owners shut open_lines free_ports = record {
  wires = wires ∙ is.wires ∙ ap wires_of (sym shape);
  crosses = crosses ∙ is.crosses ∙ ap crosses_of (sym shape);
  tables = tables ∙ is.tables ∙ ap tables_of (sym shape);
  barred = barred ∙ is.barred ∙ ap crosses_of (sym shape);
  lost = lost ∙ is.lost ∙ ap tables_of (sym shape);
  owners = owners ∙ is.owners ∙ ap wires_of (sym shape);
  shut = shut ∙ is.shut ∙ ap wires_of (sym shape);
  open_lines = open_lines ∙ is.open_lines ∙ ap nodes_of (sym shape);
  free_ports = free_ports ∙ is.free_ports ∙ ap nodes_of (sym shape);
}

-- ---- tables

pub pins_marked : (k : Marks) (t : ℕ) → has_free_pins k.shape (listed_by k).list t ≡ all_below 7 (λ j. not (has_number k.wires (table_wire k.shape t j)))
pins_marked k t = all_same (λ j. is_free_wire (listed_by k).list (table_wire k.shape t j)) (λ j. not (has_number k.wires (table_wire k.shape t j))) 7 (λ j lj. ap not (in_marked k.wires (table_wire k.shape t j)))

module _ (k : Marks) (is : AreRight k) (t : ℕ) (lt : t < tables_of k.shape) where
  -- one that isn't free is listed, or has a listed pin
  pub table_as_it_is : has_number k.lost t ≡ true → with_table k.shape (listed_by k).list t ≡ (listed_by k).list
  table_as_it_is on = by_pins (has_free_pins k.shape (listed_by k).list t) refl
    where
      listed : (a b : Bool) → (a || not b) ≡ true → b ≡ true → a ≡ true
      listed true b e f = refl
      listed false true e f = absurd cc
      listed false false e f = absurd cc

      by_pins : (b : Bool) → has_free_pins k.shape (listed_by k).list t ≡ b → (if b then record (listed_by k).list { tables = sets.insert (marked k.tables) t } else (listed_by k).list) ≡ (listed_by k).list
      by_pins false e = refl
      by_pins true e = ap (λ s. record (listed_by k).list { tables = s }) (put_again (marked k.tables) t (in_marked k.tables t ∙ listed (has_number k.tables t) _ (sym (is.lost t lt) ∙ on) (sym (pins_marked k t) ∙ e)))

  module _ (off : has_number k.lost t ≡ false) where
    parts : (has_number k.tables t ≡ false) × (all_below 7 (λ j. not (has_number k.wires (table_wire k.shape t j))) ≡ true)
    parts = let p = or_parts (has_number k.tables t) _ (sym (is.lost t lt) ∙ off) in (p.0, not-false _ p.1)

    low : t < length k.tables
    low = subst (λ n. t < n) (sym is.wide.tables) lt

    low_lost : t < length k.lost
    low_lost = subst (λ n. t < n) (sym is.wide.lost) lt

    pub table_counted : 1 ≤ k.free_tables
    table_counted = let h = how_many_some (λ u. not (has_number k.lost u)) (tables_of k.shape) t lt (ap not off) in omega (arith, h, is.free_tables)

    abbrev pub with_listed_table : Marks
    with_listed_table = record k { tables = set k.tables t true; lost = set k.lost t true; free_tables = k.free_tables - 1 }

    pub table_right : AreRight with_listed_table
    table_right = record {
      wide = still_wide is.wide refl refl refl (length-set k.tables t true) refl (length-set k.lost t true) refl refl refl refl;
      owners = is.owners;
      ends = is.ends;
      pins = λ u i lu on li. pins u i lu on li (ℕ_discrete u t);
      barred = is.barred;
      lost = λ u lu. lost u lu (ℕ_discrete u t);
      shut = is.shut;
      open_lines = is.open_lines;
      free_ports = is.free_ports;
      free_tables =
          let h = how_many_less (λ u. not (has_number k.lost u)) (λ u. not (has_number (set k.lost t true) u)) (tables_of k.shape) t lt (ap not off) (ap not (set_here k.lost t true low_lost)) (λ u lu ne. ap not (sym (set_there k.lost t u true ne))) in
          omega (arith, h, is.free_tables);
      free_pins = is.free_pins;
    }
      where
        pins : (u i : ℕ) → u < tables_of k.shape → has_number (set k.tables t true) u ≡ true → i < 7 → Dec (u ≡ t) → has_number k.wires (table_wire k.shape u i) ≡ false
        pins u i lu on li (no ne) = is.pins u i lu (sym (set_there k.tables t u true ne) ∙ on) li
        pins u i lu on li (yes e) = free (has_number k.wires (table_wire k.shape u i)) (ap (λ v. not (has_number k.wires (table_wire k.shape v i))) e ∙ all_each (λ j. not (has_number k.wires (table_wire k.shape t j))) 7 i parts.1 li)
          where
            free : (b : Bool) → not b ≡ true → b ≡ false
            free false e = refl
            free true e = absurd cc

        lost : (u : ℕ) → u < tables_of k.shape → Dec (u ≡ t) → has_number (set k.lost t true) u ≡ is_lost k.shape k.wires (set k.tables t true) u
        lost u lu (no ne) = set_there k.lost t u true ne ∙ is.lost u lu ∙ ap (λ b. b || not (all_below 7 (λ j. not (has_number k.wires (table_wire k.shape u j))))) (sym (set_there k.tables t u true ne))
        lost u lu (yes e) = ap (has_number (set k.lost t true)) e ∙ set_here k.lost t true low_lost ∙ sym (ap (λ b. b || not (all_below 7 (λ j. not (has_number k.wires (table_wire k.shape u j))))) (ap (has_number (set k.tables t true)) e ∙ set_here k.tables t true low))

    pub table_listed : listed_by with_listed_table ≡ record { shape = k.shape; list = with_table k.shape (listed_by k).list t }
    table_listed =
        ap (λ s. record { shape = k.shape; list = record { wires = marked k.wires; crosses = marked k.crosses; tables = s } }) (marked_more k.tables t low)
        ∙ sym (ap (λ b. record { shape = k.shape; list = if b then record (listed_by k).list { tables = sets.insert (marked k.tables) t } else (listed_by k).list }) (pins_marked k t ∙ parts.1))

-- ---- crosspoints

both_parts : (a b : Bool) → a ≡ false → b ≡ false → (not a && not b) ≡ true
both_parts true b e f = absurd cc
both_parts false true e f = absurd cc
both_parts false false e f = refl

pub ends_marked : (k : Marks) (x : ℕ) → has_free_ends k.shape (listed_by k).list x ≡ (not (has_number k.wires (ends_of k.shape x).0) && not (has_number k.wires (ends_of k.shape x).1))
ends_marked k x = (λ i. not (in_marked k.wires (ends_of k.shape x).0 i) && not (in_marked k.wires (ends_of k.shape x).1 i))

module _ (k : Marks) (is : AreRight k) (x : ℕ) (lt : x < crosses_of k.shape) where
  pub cross_as_it_is : has_number k.barred x ≡ true → with_cross k.shape (listed_by k).list x ≡ (listed_by k).list
  cross_as_it_is on = by_ends (has_free_ends k.shape (listed_by k).list x) refl
    where
      listed : (a b c : Bool) → (a || (b || c)) ≡ true → (not b && not c) ≡ true → a ≡ true
      listed true b c e f = refl
      listed false true c e f = absurd cc
      listed false false true e f = absurd cc
      listed false false false e f = absurd cc

      by_ends : (b : Bool) → has_free_ends k.shape (listed_by k).list x ≡ b → (if b then record (listed_by k).list { crosses = sets.insert (marked k.crosses) x } else (listed_by k).list) ≡ (listed_by k).list
      by_ends false e = refl
      by_ends true e = ap (λ s. record (listed_by k).list { crosses = s }) (put_again (marked k.crosses) x (in_marked k.crosses x ∙ listed (has_number k.crosses x) (has_number k.wires (ends_of k.shape x).0) (has_number k.wires (ends_of k.shape x).1) (sym (is.barred x lt) ∙ on) (sym (ends_marked k x) ∙ e)))

  module _ (off : has_number k.barred x ≡ false) (crosses : HasCrosses k.shape) (meanings : HasMeanings k.shape) where
    abbrev m : Shape
    m = k.shape

    abbrev line : ℕ
    line = (ends_of m x).1

    abbrev node : ℕ
    node = node_of_cross m x

    unlisted : (has_number k.crosses x ≡ false) × ((has_number k.wires (ends_of m x).0 ≡ false) × (has_number k.wires line ≡ false))
    unlisted =
        let p = or_parts (has_number k.crosses x) _ (sym (is.barred x lt) ∙ off) in
        (p.0, or_parts (has_number k.wires (ends_of m x).0) (has_number k.wires line) p.1)

    low_cross : x < length k.crosses
    low_cross = subst (λ n. x < n) (sym is.wide.crosses) lt

    low_barred : x < length k.barred
    low_barred = subst (λ n. x < n) (sym is.wide.barred) lt

    line_is : line ≡ line_at m node (line_position m x)
    line_is = ap (λ (p : ℕ × ℕ). p.1) (ends_are m crosses x lt)

    pub line_within : line < wires_of m
    line_within = subst (λ w. w < wires_of m) (sym line_is) (meanings.within _ (Line node (line_position m x)) (is_line node (line_position m x) (crosses.node x lt) (crosses.line x lt) refl))

    low_line : line < length k.shut
    low_line = subst (λ n. line < n) (sym is.wide.shut) line_within

    low_node : node < length k.open_lines
    low_node = subst (λ n. node < n) (sym is.wide.open_lines) (crosses.node x lt)

    -- a line of a node that is this one is at this node and position
    same_place : (n i : ℕ) → n < nodes_of m → i < lines_of m n → line_at m n i ≡ line → (n ≡ node) × (i ≡ line_position m x)
    same_place n i ln li e =
        let one : Line n i ≡ Line node (line_position m x) = meanings.one (line_at m n i) (Line n i) (Line node (line_position m x)) (is_line n i ln li refl) (is_line node (line_position m x) (crosses.node x lt) (crosses.line x lt) (e ∙ line_is)) in
        (cc, cc)

    pub few_shut : count_at k.shut line ≤ crosses_of m
    few_shut = let h = how_many_at_most (λ y. has_number k.crosses y && ((ends_of m y).1 == line)) (crosses_of m) in subst (λ n. n ≤ crosses_of m) (sym (is.shut line line_within)) h

    -- while the line has no listed crosspoint, it is clear
    clear_now : count_at k.shut line ≡ 0 → is_clear_line k.wires k.shut (line_at m node (line_position m x)) ≡ true
    clear_now none = subst (λ l. is_clear_line k.wires k.shut l ≡ true) line_is (λ i. not (unlisted.1.1 i) && eq-eqb (count_at k.shut line) 0 none i)

    pub some_open : count_at k.shut line ≡ 0 → 0 < count_at k.open_lines node
    some_open none = subst (λ n. 0 < n) (sym (is.open_lines node (crosses.node x lt))) (how_many_some (λ i. is_clear_line k.wires k.shut (line_at m node i)) (lines_of m node) (line_position m x) (crosses.line x lt) (clear_now none))

    abbrev shut_now : List ℕ
    shut_now = set k.shut line (count_at k.shut line + 1)

    abbrev open_now : List ℕ
    open_now = if count_at k.shut line == 0 then set k.open_lines node (count_at k.open_lines node - 1) else k.open_lines

    abbrev pub with_listed_cross : Marks
    with_listed_cross = record k { crosses = set k.crosses x true; barred = set k.barred x true; shut = shut_now; open_lines = open_now }

    others : (y : ℕ) → y ≢ x → has_number k.crosses y ≡ has_number (set k.crosses x true) y
    others y ne = sym (set_there k.crosses x y true ne)

    shut_is : AreShutBy m (set k.crosses x true) shut_now
    shut_is l ll = count_set k.shut line l (count_at k.shut line + 1) low_line ∙ by_line (ℕ_discrete l line)
      where
        by_line : Dec (l ≡ line) → (if l == line then count_at k.shut line + 1 else count_at k.shut l) ≡ shut_at m (set k.crosses x true) l
        by_line (yes e) =
            let more = shut_less m (set k.crosses x true) k.crosses x lt others (set_here k.crosses x true low_cross) unlisted.0 in
            let was = is.shut line line_within in
            ap (λ b. if b then count_at k.shut line + 1 else count_at k.shut l) (eq-eqb l line e) ∙ (let g : count_at k.shut line + 1 ≡ shut_at m (set k.crosses x true) line = omega (arith, more, was) in g) ∙ ap (shut_at m (set k.crosses x true)) (sym e)
        by_line (no ne) =
            let apart : (l == line) ≡ false = grind (arith, nat_tests, ne) in
            ap (λ b. if b then count_at k.shut line + 1 else count_at k.shut l) apart ∙ is.shut l ll ∙ shut_elsewhere m (set k.crosses x true) k.crosses x lt others l (λ e. ne (sym e))

    clear_there : (l : ℕ) → l ≢ line → is_clear_line k.wires shut_now l ≡ is_clear_line k.wires k.shut l
    clear_there l ne =
        let apart : (l == line) ≡ false = grind (arith, nat_tests, ne) in
        ap (λ c. not (has_number k.wires l) && (c == 0)) (count_set k.shut line l (count_at k.shut line + 1) low_line ∙ ap (λ b. if b then count_at k.shut line + 1 else count_at k.shut l) apart)

    clear_here : (l : ℕ) → l ≡ line → is_clear_line k.wires shut_now l ≡ false
    clear_here l e =
        let more : (count_at shut_now l == 0) ≡ false = ap (λ c. c == 0) (count_set k.shut line l (count_at k.shut line + 1) low_line ∙ ap (λ b. if b then count_at k.shut line + 1 else count_at k.shut l) (eq-eqb l line e)) ∙ (let g : (count_at k.shut line + 1 == 0) ≡ false = grind (arith, nat_tests) in g) in
        ap (λ b. not (has_number k.wires l) && b) more ∙ and_none (not (has_number k.wires l))
      where
        and_none : (b : Bool) → (b && false) ≡ false
        and_none true = refl
        and_none false = refl

    open_is : (n : ℕ) → n < nodes_of m → (b : Bool) → (count_at k.shut line == 0) ≡ b → count_at (if b then set k.open_lines node (count_at k.open_lines node - 1) else k.open_lines) n ≡ clear_lines_at m k.wires shut_now n
    open_is n ln false e = is.open_lines n ln ∙ how_many_same (λ i. is_clear_line k.wires k.shut (line_at m n i)) (λ i. is_clear_line k.wires shut_now (line_at m n i)) (lines_of m n) (λ i li. by_line (line_at m n i) (ℕ_discrete (line_at m n i) line))
      where
        by_line : (l : ℕ) → Dec (l ≡ line) → is_clear_line k.wires k.shut l ≡ is_clear_line k.wires shut_now l
        by_line l (no ne) = sym (clear_there l ne)
        by_line l (yes g) = ap (λ b. not (has_number k.wires l) && b) (ap (λ z. count_at k.shut z == 0) g ∙ e) ∙ and_off (not (has_number k.wires l)) ∙ sym (clear_here l g)
          where
            and_off : (b : Bool) → (b && false) ≡ false
            and_off true = refl
            and_off false = refl
    open_is n ln true e = count_set k.open_lines node n (count_at k.open_lines node - 1) low_node ∙ by_node (ℕ_discrete n node)
      where
        none : count_at k.shut line ≡ 0
        none = eqb-true (count_at k.shut line) 0 e

        by_node : Dec (n ≡ node) → (if n == node then count_at k.open_lines node - 1 else count_at k.open_lines n) ≡ clear_lines_at m k.wires shut_now n
        by_node (no ne) =
            let apart : (n == node) ≡ false = grind (arith, nat_tests, ne) in
            ap (λ b. if b then count_at k.open_lines node - 1 else count_at k.open_lines n) apart ∙ is.open_lines n ln
            ∙ how_many_same (λ i. is_clear_line k.wires k.shut (line_at m n i)) (λ i. is_clear_line k.wires shut_now (line_at m n i)) (lines_of m n) (λ i li. sym (clear_there (line_at m n i) (λ g. ne (same_place n i ln li g).0)))
        by_node (yes g) =
            let less = how_many_less (λ i. is_clear_line k.wires k.shut (line_at m node i)) (λ i. is_clear_line k.wires shut_now (line_at m node i)) (lines_of m node) (line_position m x) (crosses.line x lt) (clear_now none) (clear_here (line_at m node (line_position m x)) (sym line_is)) (λ i li ne. sym (clear_there (line_at m node i) (λ h. ne (same_place node i (crosses.node x lt) li h).1))) in
            let was = is.open_lines node (crosses.node x lt) in
            ap (λ b. if b then count_at k.open_lines node - 1 else count_at k.open_lines n) (eq-eqb n node g) ∙ (let h : count_at k.open_lines node - 1 ≡ clear_lines_at m k.wires shut_now node = omega (arith, less, was) in h) ∙ ap (clear_lines_at m k.wires shut_now) (sym g)

    open_width : (b : Bool) → length (if b then set k.open_lines node (count_at k.open_lines node - 1) else k.open_lines) ≡ length k.open_lines
    open_width true = length-set k.open_lines node _
    open_width false = refl

    pub cross_right : AreRight with_listed_cross
    cross_right = record {
      wide = still_wide is.wide refl refl (length-set k.crosses x true) refl (length-set k.barred x true) refl refl (length-set k.shut line _) (open_width (count_at k.shut line == 0)) refl;
      owners = is.owners;
      ends = λ y ly on. ends y ly on (ℕ_discrete y x);
      pins = is.pins;
      barred = λ y ly. barred y ly (ℕ_discrete y x);
      lost = is.lost;
      shut = shut_is;
      open_lines = λ n ln. open_is n ln (count_at k.shut line == 0) refl;
      free_ports = is.free_ports;
      free_tables = is.free_tables;
      free_pins = is.free_pins;
    }
      where
        ends : (y : ℕ) → y < crosses_of m → has_number (set k.crosses x true) y ≡ true → Dec (y ≡ x) → (has_number k.wires (ends_of m y).0 ≡ false) × (has_number k.wires (ends_of m y).1 ≡ false)
        ends y ly on (no ne) = is.ends y ly (others y ne ∙ on)
        ends y ly on (yes e) = (ap (λ z. has_number k.wires (ends_of m z).0) e ∙ unlisted.1.0, ap (λ z. has_number k.wires (ends_of m z).1) e ∙ unlisted.1.1)

        barred : (y : ℕ) → y < crosses_of m → Dec (y ≡ x) → has_number (set k.barred x true) y ≡ is_barred m k.wires (set k.crosses x true) y
        barred y ly (no ne) = set_there k.barred x y true ne ∙ is.barred y ly ∙ ap (λ b. b || (has_number k.wires (ends_of m y).0 || has_number k.wires (ends_of m y).1)) (others y ne)
        barred y ly (yes e) = ap (has_number (set k.barred x true)) e ∙ set_here k.barred x true low_barred ∙ sym (ap (λ b. b || (has_number k.wires (ends_of m y).0 || has_number k.wires (ends_of m y).1)) (ap (has_number (set k.crosses x true)) e ∙ set_here k.crosses x true low_cross))

    pub cross_listed : listed_by with_listed_cross ≡ record { shape = k.shape; list = with_cross k.shape (listed_by k).list x }
    cross_listed =
        ap (λ s. record { shape = k.shape; list = record { wires = marked k.wires; crosses = s; tables = marked k.tables } }) (marked_more k.crosses x low_cross)
        ∙ sym (ap (λ b. record { shape = k.shape; list = if b then record (listed_by k).list { crosses = sets.insert (marked k.crosses) x } else (listed_by k).list }) (ends_marked k x ∙ both_parts (has_number k.wires (ends_of m x).0) (has_number k.wires line) unlisted.1.0 unlisted.1.1))
