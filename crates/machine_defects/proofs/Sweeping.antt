-- The crosspoints of a wire are barred one by one.
use Rattle.std.proofs.Common.{◌≡◌, ◌≢◌, ◌⊎◌, ℕ, ◌+◌, ◌-◌, ◌<◌, ◌≤◌, Bool, true, false, ◌&&◌, ◌||◌, if◌then◌else◌, Option, Some, None, List, length, set, refl, sym, ap, ◌∙◌, subst, arith, eqb-true, inl, inr, ◌==◌}
use Rattle.std.proofs.lemmas.List.{get_or-set_same, get_or-set_other, length-set}
use Rattle.machine_defects.proofs.Vocabulary.{eq-eqb, nat_tests, and-false, has_number, Shape, tap_pin, tap_port, tap_child, tap_table}
use native.Mathlib.Decide.{ℕ_discrete}
use Rattle.machine_shape.specs.Vocabulary.{HasCrosses, HasTaps, HasParents, IsTree, wires_of, crosses_of, nodes_of, lines_of, taps_of, ends_of, node_of, parent_of, node_of_cross, tap_position, line_position, tap_at, line_at, cross_at, IsLine, IsTap}
use Rattle.machine_defects.specs.Vocabulary.{touches_cross, IsSwept, AreShutBy, count_at, shut_at}
use Rattle.machine_defects.proofs.Counting.{how_many_less, how_many_same, how_many_some}

-- ---- counts at a number that is set

pub count_set : (xs : List ℕ) (i q v : ℕ) → i < length xs → count_at (set xs i v) q ≡ (if q == i then v else count_at xs q)
count_set xs i q v lt = by_place (ℕ_discrete q i)
  where
    by_place : Dec (q ≡ i) → count_at (set xs i v) q ≡ (if q == i then v else count_at xs q)
    by_place (yes e) =
        let one : (q == i) ≡ true = grind (arith, nat_tests, e) in
        ap (count_at (set xs i v)) e ∙ get_or-set_same xs i v 0 lt ∙ sym (ap (λ c. if c then v else count_at xs q) one)
    by_place (no ne) =
        let apart : (q == i) ≡ false = grind (arith, nat_tests, ne) in
        get_or-set_other xs i q v 0 ne ∙ sym (ap (λ c. if c then v else count_at xs q) apart)

pub set_here : (marks : List Bool) (i : ℕ) (b : Bool) → i < length marks → has_number (set marks i b) i ≡ b
set_here marks i b lt = get_or-set_same marks i b false lt

pub set_there : (marks : List Bool) (i q : ℕ) (b : Bool) → q ≢ i → has_number (set marks i b) q ≡ has_number marks q
set_there marks i q b ne = get_or-set_other marks i q b false ne

-- ---- one crosspoint more, or less, of a line

abbrev on_line : Shape → List Bool → ℕ → ℕ → Bool
on_line m crosses line x = has_number crosses x && ((ends_of m x).1 == line)

-- the marks differ at one crosspoint alone, where the second has none
module _ (m : Shape) (more less : List Bool) (x : ℕ) (lt : x < crosses_of m) (others : (y : ℕ) → y ≢ x → has_number less y ≡ has_number more y) where
  pub shut_elsewhere : (line : ℕ) → (ends_of m x).1 ≢ line → shut_at m less line ≡ shut_at m more line
  shut_elsewhere line apart = how_many_same (on_line m less line) (on_line m more line) (crosses_of m) (λ y ly. by_place y (ℕ_discrete y x))
    where
      by_place : (y : ℕ) → Dec (y ≡ x) → on_line m less line y ≡ on_line m more line y
      by_place y (no ne) = ap (λ b. b && ((ends_of m y).1 == line)) (others y ne)
      by_place y (yes e) =
          let off : ((ends_of m y).1 == line) ≡ false = ap (λ z. (ends_of m z).1 == line) e ∙ (grind (arith, nat_tests, apart)) in
          ap (λ b. has_number less y && b) off ∙ and-false (has_number less y) ∙ sym (and-false (has_number more y)) ∙ ap (λ b. has_number more y && b) (sym off)

  pub shut_less : has_number more x ≡ true → has_number less x ≡ false → shut_at m less (ends_of m x).1 + 1 ≡ shut_at m more (ends_of m x).1
  shut_less is off =
      let line = (ends_of m x).1 in
      how_many_less (on_line m more line) (on_line m less line) (crosses_of m) x lt
      (λ i. is i && eq-eqb line line refl i)
      (ap (λ b. b && (line == line)) off)
      (λ y ly ne. ap (λ b. b && ((ends_of m y).1 == line)) (sym (others y ne)))

pub shut_some : (m : Shape) (crosses : List Bool) (x : ℕ) → x < crosses_of m → has_number crosses x ≡ true → 0 < shut_at m crosses (ends_of m x).1
shut_some m crosses x lt is = how_many_some (on_line m crosses (ends_of m x).1) (crosses_of m) x lt (λ i. is i && eq-eqb (ends_of m x).1 (ends_of m x).1 refl i)

-- ---- what a wire touches

pub touched_by : (m : Shape) (w x : ℕ) → touches_cross m w x ≡ true → ((ends_of m x).0 ≡ w) ⊎ ((ends_of m x).1 ≡ w)
touched_by m w x e = by_end ((ends_of m x).0 == w) refl e
  where
    by_end : (b : Bool) → ((ends_of m x).0 == w) ≡ b → (b || ((ends_of m x).1 == w)) ≡ true → ((ends_of m x).0 ≡ w) ⊎ ((ends_of m x).1 ≡ w)
    by_end true g h = inl (eqb-true (ends_of m x).0 w g)
    by_end false g h = inr (eqb-true (ends_of m x).1 w h)

or_true : (a : Bool) → (a || true) ≡ true
or_true true = refl
or_true false = refl

pub touches_tap : (m : Shape) (w x : ℕ) → (ends_of m x).0 ≡ w → touches_cross m w x ≡ true
touches_tap m w x e = ap (λ b. b || ((ends_of m x).1 == w)) (eq-eqb (ends_of m x).0 w e)

pub touches_line : (m : Shape) (w x : ℕ) → (ends_of m x).1 ≡ w → touches_cross m w x ≡ true
touches_line m w x e = ap (λ b. ((ends_of m x).0 == w) || b) (eq-eqb (ends_of m x).1 w e) ∙ or_true ((ends_of m x).0 == w)

-- ---- the sweep

module _ (m : Shape) (w : ℕ) where
  pub sweep_none : (p : ℕ → Type 0) (c b : List Bool) (s : List ℕ) → length c ≡ crosses_of m → length b ≡ crosses_of m → length s ≡ wires_of m → AreShutBy m c s → ((x : ℕ) → p x → ⊥) → IsSwept m w p c b c b s
  sweep_none p c b s lc lb ls counted none = record {
    crosses_width = lc;
    barred_width = lb;
    shut_width = ls;
    fewer = λ x e. e;
    more = λ x e. e;
    done_crosses = λ x lt h. absurd (none x h);
    done_barred = λ x lt h. absurd (none x h);
    other_crosses = λ x e. refl;
    other_barred = λ x e. refl;
    counted = counted;
  }

  pub swept_by : (p q : ℕ → Type 0) (c0 b0 c b : List Bool) (s : List ℕ) → IsSwept m w p c0 b0 c b s → ((x : ℕ) → x < crosses_of m → q x → p x) → IsSwept m w q c0 b0 c b s
  swept_by p q c0 b0 c b s k sub = record {
    crosses_width = k.crosses_width;
    barred_width = k.barred_width;
    shut_width = k.shut_width;
    fewer = k.fewer;
    more = k.more;
    done_crosses = λ x lt h. k.done_crosses x lt (sub x lt h);
    done_barred = λ x lt h. k.done_barred x lt (sub x lt h);
    other_crosses = k.other_crosses;
    other_barred = k.other_barred;
    counted = k.counted;
  }

  stays_off : (c d : List Bool) → ((x : ℕ) → has_number d x ≡ true → has_number c x ≡ true) → (x : ℕ) → has_number c x ≡ false → has_number d x ≡ false
  stays_off c d sub x off = by_mark (has_number d x) refl
    where
      by_mark : (b : Bool) → has_number d x ≡ b → b ≡ false
      by_mark false e = refl
      by_mark true e = sym (sub x e) ∙ off

  pub swept_then : (p q r : ℕ → Type 0) (c0 b0 c b c2 b2 : List Bool) (s s2 : List ℕ) → IsSwept m w p c0 b0 c b s → IsSwept m w q c b c2 b2 s2 → ((x : ℕ) → x < crosses_of m → r x → p x ⊎ q x) → IsSwept m w r c0 b0 c2 b2 s2
  swept_then p q r c0 b0 c b c2 b2 s s2 k l either = record {
    crosses_width = l.crosses_width;
    barred_width = l.barred_width;
    shut_width = l.shut_width;
    fewer = λ x e. k.fewer x (l.fewer x e);
    more = λ x e. l.more x (k.more x e);
    done_crosses = λ x lt h. off x lt (either x lt h);
    done_barred = λ x lt h. on x lt (either x lt h);
    other_crosses = λ x e. l.other_crosses x e ∙ k.other_crosses x e;
    other_barred = λ x e. l.other_barred x e ∙ k.other_barred x e;
    counted = l.counted;
  }
    where
      off : (x : ℕ) → x < crosses_of m → p x ⊎ q x → has_number c2 x ≡ false
      off x lt (inl h) = stays_off c c2 l.fewer x (k.done_crosses x lt h)
      off x lt (inr h) = l.done_crosses x lt h

      on : (x : ℕ) → x < crosses_of m → p x ⊎ q x → has_number b2 x ≡ true
      on x lt (inl h) = l.more x (k.done_barred x lt h)
      on x lt (inr h) = l.done_barred x lt h

  -- one crosspoint is barred
  pub bar_counted : (c d : List Bool) (s t : List ℕ) (x : ℕ) → x < crosses_of m → length c ≡ crosses_of m → length s ≡ wires_of m → (ends_of m x).1 < wires_of m → AreShutBy m c s
      → d ≡ set c x false → t ≡ (if has_number c x then set s (ends_of m x).1 (count_at s (ends_of m x).1 - 1) else s) → AreShutBy m d t
  bar_counted c d s t x lt lc ls within counted ed et line ll = by_mark (has_number c x) refl et
    where
      low : x < length c
      low = subst (λ n. x < n) (sym lc) lt

      here : (b : Bool) → b ≡ has_number d x → b ≡ false
      here b e = e ∙ ap (λ z. has_number z x) ed ∙ set_here c x false low

      others : (y : ℕ) → y ≢ x → has_number d y ≡ has_number c y
      others y ne = ap (λ z. has_number z y) ed ∙ set_there c x y false ne

      same : has_number c x ≡ false → (y : ℕ) → has_number d y ≡ has_number c y
      same off y = by_place (ℕ_discrete y x)
        where
          by_place : Dec (y ≡ x) → has_number d y ≡ has_number c y
          by_place (no ne) = others y ne
          by_place (yes e) = ap (has_number d) e ∙ here (has_number d x) refl ∙ sym off ∙ ap (has_number c) (sym e)

      at_line : has_number c x ≡ true → Dec (line ≡ (ends_of m x).1) → (if line == (ends_of m x).1 then count_at s (ends_of m x).1 - 1 else count_at s line) ≡ shut_at m d line
      at_line is (yes e) =
          let one : (line == (ends_of m x).1) ≡ true = eq-eqb line (ends_of m x).1 e in
          let less = shut_less m c d x lt others is (here (has_number d x) refl) in
          let was = counted (ends_of m x).1 within in
          ap (λ b. if b then count_at s (ends_of m x).1 - 1 else count_at s line) one ∙ (let g : count_at s (ends_of m x).1 - 1 ≡ shut_at m d (ends_of m x).1 = omega (arith, less, was) in g) ∙ ap (shut_at m d) (sym e)
      at_line is (no ne) =
          let apart : (line == (ends_of m x).1) ≡ false = grind (arith, nat_tests, ne) in
          ap (λ b. if b then count_at s (ends_of m x).1 - 1 else count_at s line) apart ∙ counted line ll ∙ sym (shut_elsewhere m c d x lt others line (λ e. ne (sym e)))

      by_mark : (b : Bool) → has_number c x ≡ b → t ≡ (if b then set s (ends_of m x).1 (count_at s (ends_of m x).1 - 1) else s) → count_at t line ≡ shut_at m d line
      by_mark true is e = ap (λ z. count_at z line) e ∙ count_set s (ends_of m x).1 line (count_at s (ends_of m x).1 - 1) (subst (λ n. (ends_of m x).1 < n) (sym ls) within) ∙ at_line is (ℕ_discrete line (ends_of m x).1)
      by_mark false off e = ap (λ z. count_at z line) e ∙ counted line ll ∙ how_many_same (on_line m c line) (on_line m d line) (crosses_of m) (λ y ly. ap (λ b. b && ((ends_of m y).1 == line)) (sym (same off y)))

  pub bar_more : (p q : ℕ → Type 0) (c0 b0 c b c2 b2 : List Bool) (s s2 : List ℕ) (x : ℕ) → IsSwept m w p c0 b0 c b s → x < crosses_of m → (ends_of m x).1 < wires_of m → touches_cross m w x ≡ true
      → c2 ≡ set c x false → b2 ≡ set b x true → s2 ≡ (if has_number c x then set s (ends_of m x).1 (count_at s (ends_of m x).1 - 1) else s) → ((y : ℕ) → y < crosses_of m → q y → p y ⊎ (y ≡ x)) → IsSwept m w q c0 b0 c2 b2 s2
  bar_more p q c0 b0 c b c2 b2 s s2 x k lt within touch ec eb es sub = record {
    crosses_width = ap length ec ∙ length-set c x false ∙ k.crosses_width;
    barred_width = ap length eb ∙ length-set b x true ∙ k.barred_width;
    shut_width = ap length es ∙ width (has_number c x);
    fewer = λ y e. k.fewer y (was_on y (ℕ_discrete y x) e);
    more = λ y e. now_on y (ℕ_discrete y x) (k.more y e);
    done_crosses = λ y ly h. off y ly (sub y ly h) (ℕ_discrete y x);
    done_barred = λ y ly h. on y ly (sub y ly h) (ℕ_discrete y x);
    other_crosses = λ y e. other y e ∙ k.other_crosses y e;
    other_barred = λ y e. other_b y e ∙ k.other_barred y e;
    counted = bar_counted c c2 s s2 x lt k.crosses_width k.shut_width within k.counted ec es;
  }
    where
      low : x < length c
      low = subst (λ n. x < n) (sym k.crosses_width) lt

      low_b : x < length b
      low_b = subst (λ n. x < n) (sym k.barred_width) lt

      width : (h : Bool) → length (if h then set s (ends_of m x).1 (count_at s (ends_of m x).1 - 1) else s) ≡ wires_of m
      width true = length-set s (ends_of m x).1 _ ∙ k.shut_width
      width false = k.shut_width

      there : (y : ℕ) → y ≢ x → has_number c2 y ≡ has_number c y
      there y ne = ap (λ z. has_number z y) ec ∙ set_there c x y false ne

      there_b : (y : ℕ) → y ≢ x → has_number b2 y ≡ has_number b y
      there_b y ne = ap (λ z. has_number z y) eb ∙ set_there b x y true ne

      here : (y : ℕ) → y ≡ x → has_number c2 y ≡ false
      here y e = ap (has_number c2) e ∙ ap (λ z. has_number z x) ec ∙ set_here c x false low

      here_b : (y : ℕ) → y ≡ x → has_number b2 y ≡ true
      here_b y e = ap (has_number b2) e ∙ ap (λ z. has_number z x) eb ∙ set_here b x true low_b

      was_on : (y : ℕ) → Dec (y ≡ x) → has_number c2 y ≡ true → has_number c y ≡ true
      was_on y (no ne) e = sym (there y ne) ∙ e
      was_on y (yes g) e = absurd (let h : true ≡ false = sym e ∙ here y g in cc)

      now_on : (y : ℕ) → Dec (y ≡ x) → has_number b y ≡ true → has_number b2 y ≡ true
      now_on y (no ne) e = there_b y ne ∙ e
      now_on y (yes g) e = here_b y g

      off : (y : ℕ) → y < crosses_of m → p y ⊎ (y ≡ x) → Dec (y ≡ x) → has_number c2 y ≡ false
      off y ly (inr e) d = here y e
      off y ly (inl h) (yes e) = here y e
      off y ly (inl h) (no ne) = there y ne ∙ k.done_crosses y ly h

      on : (y : ℕ) → y < crosses_of m → p y ⊎ (y ≡ x) → Dec (y ≡ x) → has_number b2 y ≡ true
      on y ly (inr e) d = here_b y e
      on y ly (inl h) (yes e) = here_b y e
      on y ly (inl h) (no ne) = there_b y ne ∙ k.done_barred y ly h

      differs : (y : ℕ) → touches_cross m w y ≡ false → y ≢ x
      differs y e g = let h : true ≡ false = sym touch ∙ ap (touches_cross m w) (sym g) ∙ e in cc

      other : (y : ℕ) → touches_cross m w y ≡ false → has_number c2 y ≡ has_number c y
      other y e = there y (differs y e)

      other_b : (y : ℕ) → touches_cross m w y ≡ false → has_number b2 y ≡ has_number b y
      other_b y e = there_b y (differs y e)

  pub sweep_some : (p : ℕ → Type 0) (c0 b0 c b : List Bool) (s : List ℕ) (x : ℕ) → IsSwept m w p c0 b0 c b s → x < crosses_of m → (ends_of m x).1 < wires_of m → has_number c x ≡ true → 0 < count_at s (ends_of m x).1
  sweep_some p c0 b0 c b s x k lt within is = subst (λ n. 0 < n) (sym (k.counted (ends_of m x).1 within)) (shut_some m c x lt is)

-- ---- where a wire's crosspoints are

module _ (m : Shape) (crosses : HasCrosses m) where
  pub ends_are : (x : ℕ) → x < crosses_of m → ends_of m x ≡ (tap_at m (node_of_cross m x) (tap_position m x), line_at m (node_of_cross m x) (line_position m x))
  ends_are x lt = ap (ends_of m) (sym (crosses.back x lt)) ∙ crosses.ends (node_of_cross m x) (tap_position m x) (line_position m x) (crosses.node x lt) (crosses.tap x lt) (crosses.line x lt)

  -- with one crosspoint of a tap at a node there is one at each line
  pub at_each_line : (n w i x : ℕ) → n < nodes_of m → i < lines_of m n → x < crosses_of m → node_of_cross m x ≡ n → (ends_of m x).0 ≡ w → (y : ℕ) × (y < crosses_of m) × (ends_of m y ≡ (w, line_at m n i))
  at_each_line n w i x ln li lt at e =
      let la : tap_position m x < taps_of m n = subst (λ k. tap_position m x < taps_of m k) at (crosses.tap x lt) in (
        cross_at m n (tap_position m x) i,
        crosses.within n (tap_position m x) i ln la li,
        crosses.ends n (tap_position m x) i ln la li ∙ ap (λ t. (t, line_at m n i)) (ap (λ k. tap_at m k (tap_position m x)) (sym at) ∙ sym (ap (λ p. p.0) (ends_are x lt)) ∙ e),
      )

  -- the crosspoint of a tap and the line at a position is the one that is there
  pub one_at_line : (n w i x y : ℕ) → n < nodes_of m → i < lines_of m n → x < crosses_of m → y < crosses_of m → node_of_cross m y ≡ n → (ends_of m y).0 ≡ w → line_position m y ≡ i → ends_of m x ≡ (w, line_at m n i) → y ≡ x
  one_at_line n w i x y ln li lx ly at e p is = crosses.one y x ly lx (ends_are y ly ∙ (λ j. (tap j, line j)) ∙ sym is)
    where
      tap : tap_at m (node_of_cross m y) (tap_position m y) ≡ w
      tap = sym (ap (λ p. p.0) (ends_are y ly)) ∙ e

      line : line_at m (node_of_cross m y) (line_position m y) ≡ line_at m n i
      line = (λ j. line_at m (at j) (p j))

  pub one_at_tap : (n w i x y : ℕ) → n < nodes_of m → i < taps_of m n → x < crosses_of m → y < crosses_of m → node_of_cross m y ≡ n → (ends_of m y).1 ≡ w → tap_position m y ≡ i → ends_of m x ≡ (tap_at m n i, w) → y ≡ x
  one_at_tap n w i x y ln li lx ly at e p is = crosses.one y x ly lx (ends_are y ly ∙ (λ j. (tap j, line j)) ∙ sym is)
    where
      tap : tap_at m (node_of_cross m y) (tap_position m y) ≡ tap_at m n i
      tap = (λ j. tap_at m (at j) (p j))

      line : line_at m (node_of_cross m y) (line_position m y) ≡ w
      line = sym (ap (λ p. p.1) (ends_are y ly)) ∙ e

  pub line_of : IsTree m → (x : ℕ) → x < crosses_of m → node_of m (ends_of m x).1 ≡ node_of_cross m x
  unfolding IsLine
  line_of tree x lt = tree.line_node (node_of_cross m x) (ends_of m x).1 (crosses.node x lt, (line_position m x, crosses.line x lt, ap (λ p. p.1) (ends_are x lt)))

  pub tap_of : IsTree m → HasParents m → HasTaps m → (x : ℕ) → x < crosses_of m → (node_of_cross m x ≡ node_of m (ends_of m x).0) ⊎ (parent_of m (node_of m (ends_of m x).0) ≡ Some (node_of_cross m x))
  tap_of tree parents taps x lt = by_tap (subst (IsTap m (node_of_cross m x)) (sym (ap (λ p. p.0) (ends_are x lt))) (taps.is_tap (node_of_cross m x) (tap_position m x) (crosses.node x lt) (crosses.tap x lt)))
    where
      by_tap : IsTap m (node_of_cross m x) (ends_of m x).0 → (node_of_cross m x ≡ node_of m (ends_of m x).0) ⊎ (parent_of m (node_of m (ends_of m x).0) ≡ Some (node_of_cross m x))
      by_tap (tap_pin k at lk e) = inl (at ∙ sym (parents.pin_node k lk) ∙ ap (node_of m) (sym e))
      by_tap (tap_port p) = inl (sym (tree.port_node (node_of_cross m x) (ends_of m x).0 p))
      by_tap (tap_child c e p) = inr (ap (parent_of m) (tree.port_node c (ends_of m x).0 p) ∙ e)
      by_tap (tap_table t k lt2 at lk e) = inl (sym at ∙ sym (parents.table_node t k lt2 lk) ∙ ap (node_of m) (sym e))

-- ---- the two loops

module _ (m : Shape) (crosses : HasCrosses m) (n w : ℕ) (c0 b0 c b : List Bool) (s : List ℕ) (ln : n < nodes_of m) where
  abbrev pub TapsTo : ℕ → ℕ → Type 0
  TapsTo i x = (node_of_cross m x ≡ n) × ((ends_of m x).0 ≡ w) × (line_position m x < i)

  abbrev pub LinesTo : ℕ → ℕ → Type 0
  LinesTo i x = (node_of_cross m x ≡ n) × ((ends_of m x).1 ≡ w) × (tap_position m x < i)

  abbrev pub Taps : ℕ → Type 0
  Taps x = (node_of_cross m x ≡ n) × ((ends_of m x).0 ≡ w)

  abbrev pub Lines : ℕ → Type 0
  Lines x = (node_of_cross m x ≡ n) × ((ends_of m x).1 ≡ w)

  pub tap_some : (p : ℕ → Type 0) (x line : ℕ) → IsSwept m w p c0 b0 c b s → (x < crosses_of m) × (ends_of m x ≡ (w, line)) → line < wires_of m → has_number c x ≡ true → 0 < count_at s line
  tap_some p x line k found within is =
      let e : (ends_of m x).1 ≡ line = ap (λ (q : ℕ × ℕ). q.1) found.1 in
      subst (λ l. 0 < count_at s l) e (sweep_some m w p c0 b0 c b s x k found.0 (subst (λ l. l < wires_of m) (sym e) within) is)

  pub line_some : (p : ℕ → Type 0) (x tap : ℕ) → IsSwept m w p c0 b0 c b s → (x < crosses_of m) × (ends_of m x ≡ (tap, w)) → w < wires_of m → has_number c x ≡ true → 0 < count_at s w
  line_some p x tap k found within is =
      let e : (ends_of m x).1 ≡ w = ap (λ (q : ℕ × ℕ). q.1) found.1 in
      subst (λ l. 0 < count_at s l) e (sweep_some m w p c0 b0 c b s x k found.0 (subst (λ l. l < wires_of m) (sym e) within) is)

  module _ (c2 b2 : List Bool) (s2 : List ℕ) (x : ℕ) (ec : c2 ≡ set c x false) (eb : b2 ≡ set b x true) where
    pub tap_more : (i line : ℕ) → i < lines_of m n → (x < crosses_of m) × (ends_of m x ≡ (w, line)) → line ≡ line_at m n i → line < wires_of m → IsSwept m w (TapsTo i) c0 b0 c b s
        → s2 ≡ (if has_number c x then set s line (count_at s line - 1) else s) → IsSwept m w (TapsTo (i + 1)) c0 b0 c2 b2 s2
    tap_more i line li found at within k es =
        let e : (ends_of m x).1 ≡ line = ap (λ (q : ℕ × ℕ). q.1) found.1 in
        bar_more m w (TapsTo i) (TapsTo (i + 1)) c0 b0 c b c2 b2 s s2 x k found.0 (subst (λ l. l < wires_of m) (sym e) within) (touches_tap m w x (ap (λ (q : ℕ × ℕ). q.0) found.1))
        ec eb (subst (λ l. s2 ≡ (if has_number c x then set s l (count_at s l - 1) else s)) (sym e) es) (λ y ly h. by_place y ly h (ℕ_discrete (line_position m y) i))
      where
        by_place : (y : ℕ) → y < crosses_of m → TapsTo (i + 1) y → Dec (line_position m y ≡ i) → TapsTo i y ⊎ (y ≡ x)
        by_place y ly h (yes p) = inr (one_at_line m crosses n w i x y ln li found.0 ly h.0 h.1 p (found.1 ∙ ap (λ l. (w, l)) at))
        by_place y ly h (no ne) = inl (h.0, h.1, omega (arith, h.2, ne))

    pub line_more : (i tap : ℕ) → i < taps_of m n → (x < crosses_of m) × (ends_of m x ≡ (tap, w)) → tap ≡ tap_at m n i → w < wires_of m → IsSwept m w (LinesTo i) c0 b0 c b s
        → s2 ≡ (if has_number c x then set s w (count_at s w - 1) else s) → IsSwept m w (LinesTo (i + 1)) c0 b0 c2 b2 s2
    line_more i tap li found at within k es =
        let e : (ends_of m x).1 ≡ w = ap (λ (q : ℕ × ℕ). q.1) found.1 in
        bar_more m w (LinesTo i) (LinesTo (i + 1)) c0 b0 c b c2 b2 s s2 x k found.0 (subst (λ l. l < wires_of m) (sym e) within) (touches_line m w x e)
        ec eb (subst (λ l. s2 ≡ (if has_number c x then set s l (count_at s l - 1) else s)) (sym e) es) (λ y ly h. by_place y ly h (ℕ_discrete (tap_position m y) i))
      where
        by_place : (y : ℕ) → y < crosses_of m → LinesTo (i + 1) y → Dec (tap_position m y ≡ i) → LinesTo i y ⊎ (y ≡ x)
        by_place y ly h (yes p) = inr (one_at_tap m crosses n w i x y ln li found.0 ly h.0 h.1 p (found.1 ∙ ap (λ l. (l, w)) at))
        by_place y ly h (no ne) = inl (h.0, h.1, omega (arith, h.2, ne))

  -- all lines are done
  pub taps_done : (i : ℕ) → lines_of m n ≤ i → IsSwept m w (TapsTo i) c0 b0 c b s → IsSwept m w Taps c0 b0 c b s
  taps_done i le k = swept_by m w (TapsTo i) Taps c0 b0 c b s k (λ x lt h. (h.0, h.1, let l = subst (λ z. line_position m x < lines_of m z) h.0 (crosses.line x lt) in omega (arith, l, le)))

  pub lines_done : (i : ℕ) → taps_of m n ≤ i → IsSwept m w (LinesTo i) c0 b0 c b s → IsSwept m w Lines c0 b0 c b s
  lines_done i le k = swept_by m w (LinesTo i) Lines c0 b0 c b s k (λ x lt h. (h.0, h.1, let l = subst (λ z. tap_position m x < taps_of m z) h.0 (crosses.tap x lt) in omega (arith, l, le)))

  -- the wire is no tap here
  pub no_tap : (i line : ℕ) → i < lines_of m n → line ≡ line_at m n i → ((y : ℕ) → y < crosses_of m → ends_of m y ≢ (w, line)) → IsSwept m w (TapsTo i) c0 b0 c b s → IsSwept m w Taps c0 b0 c b s
  no_tap i line li at none k = swept_by m w (TapsTo i) Taps c0 b0 c b s k (λ x lt h. absurd (let y = at_each_line m crosses n w i x ln li lt h.0 h.1 in none y.0 y.1 (y.2 ∙ ap (λ l. (w, l)) (sym at))))

-- ---- all of a wire's crosspoints

pub all_touched : (m : Shape) → HasCrosses m → IsTree m → HasParents m → HasTaps m → (w x : ℕ) → x < crosses_of m → touches_cross m w x ≡ true
    → ((node_of_cross m x ≡ node_of m w) × ((ends_of m x).0 ≡ w)) ⊎ (((node_of_cross m x ≡ node_of m w) × ((ends_of m x).1 ≡ w)) ⊎ ((parent_of m (node_of m w) ≡ Some (node_of_cross m x)) × ((ends_of m x).0 ≡ w)))
all_touched m crosses tree parents taps w x lt touch = by_end (touched_by m w x touch)
  where
    by_node : (ends_of m x).0 ≡ w → (node_of_cross m x ≡ node_of m (ends_of m x).0) ⊎ (parent_of m (node_of m (ends_of m x).0) ≡ Some (node_of_cross m x))
        → ((node_of_cross m x ≡ node_of m w) × ((ends_of m x).0 ≡ w)) ⊎ (((node_of_cross m x ≡ node_of m w) × ((ends_of m x).1 ≡ w)) ⊎ ((parent_of m (node_of m w) ≡ Some (node_of_cross m x)) × ((ends_of m x).0 ≡ w)))
    by_node e (inl h) = inl (h ∙ ap (node_of m) e, e)
    by_node e (inr h) = inr (inr (ap (λ v. parent_of m (node_of m v)) (sym e) ∙ h, e))

    by_end : ((ends_of m x).0 ≡ w) ⊎ ((ends_of m x).1 ≡ w)
        → ((node_of_cross m x ≡ node_of m w) × ((ends_of m x).0 ≡ w)) ⊎ (((node_of_cross m x ≡ node_of m w) × ((ends_of m x).1 ≡ w)) ⊎ ((parent_of m (node_of m w) ≡ Some (node_of_cross m x)) × ((ends_of m x).0 ≡ w)))
    by_end (inl e) = by_node e (tap_of m crosses tree parents taps x lt)
    by_end (inr e) = inr (inl (sym (line_of m crosses tree x lt) ∙ ap (node_of m) e, e))

abbrev pub AtNode : Shape → ℕ → ℕ → ℕ → Type 0
AtNode m n w x = (node_of_cross m x ≡ n) × ((ends_of m x).0 ≡ w)

abbrev pub OnLine : Shape → ℕ → ℕ → ℕ → Type 0
OnLine m n w x = (node_of_cross m x ≡ n) × ((ends_of m x).1 ≡ w)

abbrev pub AtAbove : Shape → ℕ → ℕ → ℕ → Type 0
AtAbove m n w x = (parent_of m n ≡ Some (node_of_cross m x)) × ((ends_of m x).0 ≡ w)

pub all_swept : (m : Shape) → HasCrosses m → IsTree m → HasParents m → HasTaps m → (w n : ℕ) → n ≡ node_of m w → (c0 b0 c b c2 b2 c3 b3 : List Bool) (s s2 s3 : List ℕ)
    → IsSwept m w (AtNode m n w) c0 b0 c b s → IsSwept m w (OnLine m n w) c b c2 b2 s2 → IsSwept m w (AtAbove m n w) c2 b2 c3 b3 s3
    → IsSwept m w (λ x. touches_cross m w x ≡ true) c0 b0 c3 b3 s3
all_swept m crosses tree parents taps w n at c0 b0 c b c2 b2 c3 b3 s s2 s3 k l j =
    swept_then m w (AtNode m n w) (λ x. OnLine m n w x ⊎ AtAbove m n w x) (λ x. touches_cross m w x ≡ true) c0 b0 c b c3 b3 s s3 k
    (swept_then m w (OnLine m n w) (AtAbove m n w) (λ x. OnLine m n w x ⊎ AtAbove m n w x) c b c2 b2 c3 b3 s2 s3 l j (λ x lt h. h))
    (λ x lt h. subst (λ v. AtNode m v w x ⊎ (OnLine m v w x ⊎ AtAbove m v w x)) (sym at) (all_touched m crosses tree parents taps w x lt h))

-- the node above is one at most
pub some_one : (a b : ℕ) (o : Option ℕ) → o ≡ Some a → o ≡ Some b → b ≡ a
some_one a b o e f = let g : ◌≡◌ {A = Option ℕ} (Some b) (Some a) = sym f ∙ e in cc

pub swept_above : (m : Shape) (n w above : ℕ) (c0 b0 c b : List Bool) (s : List ℕ) → parent_of m n ≡ Some above → IsSwept m w (AtNode m above w) c0 b0 c b s → IsSwept m w (AtAbove m n w) c0 b0 c b s
swept_above m n w above c0 b0 c b s e k = swept_by m w (AtNode m above w) (AtAbove m n w) c0 b0 c b s k (λ x lt h. (some_one above (node_of_cross m x) (parent_of m n) e h.0, h.1))

pub none_above : (m : Shape) (n w : ℕ) (c b : List Bool) (s : List ℕ) → parent_of m n ≡ None → length c ≡ crosses_of m → length b ≡ crosses_of m → length s ≡ wires_of m → AreShutBy m c s → IsSwept m w (AtAbove m n w) c b c b s
none_above m n w c b s e lc lb ls counted = sweep_none m w (AtAbove m n w) c b s lc lb ls counted (λ x h. let g : ◌≡◌ {A = Option ℕ} None (Some (node_of_cross m x)) = sym e ∙ h.0 in cc)
