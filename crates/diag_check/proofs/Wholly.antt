-- All of an unharmed image's skeleton is known, and its tables are seated.
use Rattle.std.proofs.Common.{◌≡◌, ◌≢◌, ◌⊎◌, ℕ, zero, suc, ◌<◌, true, Some, None, List, refl, sym, ap, ◌∙◌, subst, inl, inr, arith, IsSome}
use Rattle.std.specs.FinMap as map
use Rattle.std.specs.FinSet as set
use Rattle.diag_check.proofs.Vocabulary.{nat_cmp, has_number, Shape, setting_of, Kept, keeps_cross, IsFieldOf, IsClosed, HasWire}
use Rattle.diag_check.proofs.Vocabulary.{IsKeptCrossOf, Field, VerifiedWire, AreRoutesKnown, IsUnharmed, marked_within, known_or}
use Rattle.machine_shape.specs.Vocabulary.{IsNumbered, IsTree, HasMeetings, HasParents, wires_of, crosses_of, nodes_of, pins_of, tables_of, pin_wire, table_wire, ends_of, node_of, parent_of, hextant_of, IsLine, IsPort, IsTap, tap_table, IsAbove, itself, below, Ends, in_order, turned, HasHomes}
use Rattle.machine_meaning.specs.Vocabulary.{Faults, IsFaultless, stuck_cross, stuck_wire, pair_cmp, IsSoundWire, IsSoundTable, IsServed, IsClear, StandsBy, pin_stands, on_two, IsOutside, Meets, IsSeated, HasStandingParts, IsAlone, HasFeet, two}
use Rattle.machine_image.specs.Vocabulary.{ImageValue, Uses, at_tap, at_line, at_table, IsInvolved, by_wire, by_cross, IsSurroundingWire, used_wire, node_line, node_port, root_pin}
use Rattle.diag_check.specs.Skeleton.{IsMet, IsOwn, own_pin, own_port, HasSkeleton}

-- what is above a node is above those below it
pub above_too : {m : Shape} {k n c : ℕ} → IsAbove m k n → IsAbove m n c → IsAbove m k c
above_too a itself = a
above_too a (below b e) = below (above_too a b) e

pub involved_too : (i : ImageValue) {k n : ℕ} → IsAbove i.config.shape k n → IsInvolved i n → IsInvolved i k
involved_too i a (by_wire w uses b) = by_wire w uses (above_too a b)
involved_too i a (by_cross x closed b) = by_cross x closed (above_too a b)

-- closed, over the shape of the image
pub record IsClosedOver (m : Shape) (k : Kept) (f : Faults) (a : Field) (known : ℕ → Type 0) : Type 0 where
  pub pins : (j : ℕ) → j < pins_of m → has_number a.wires (pin_wire m j) ≡ true → IsClear m f (pin_wire m j) → IsAlone m f known (pin_wire m j) → known (pin_wire m j)
  pub wires : (w : ℕ) → has_number a.wires w ≡ true → IsClear m f w → IsAlone m f known w → HasFeet m f (λ x. has_number a.crosses x ≡ true) known w → known w
  pub crosses : (x : ℕ) → has_number a.crosses x ≡ true → known (ends_of m x).0 → known (ends_of m x).1 → stuck_cross f x ≡ None → keeps_cross k x ≡ true

pub closed_over : (m : Shape) (k : Kept) (f : Faults) (a : Field) (known : ℕ → Type 0) → k.shape ≡ m → IsClosed k f a known → IsClosedOver m k f a known
closed_over m k f a known e c = record {
  pins = subst (λ s. (j : ℕ) → j < pins_of s → has_number a.wires (pin_wire s j) ≡ true → IsClear s f (pin_wire s j) → IsAlone s f known (pin_wire s j) → known (pin_wire s j)) e c.pins;
  wires = subst (λ s. (w : ℕ) → has_number a.wires w ≡ true → IsClear s f w → IsAlone s f known w → HasFeet s f (λ x. has_number a.crosses x ≡ true) known w → known w) e c.wires;
  crosses = subst (λ s. (x : ℕ) → has_number a.crosses x ≡ true → known (ends_of s x).0 → known (ends_of s x).1 → stuck_cross f x ≡ None → keeps_cross k x ≡ true) e c.crosses;
}

-- what the laws say of a machine
pub record AreLaws (m : Shape) : Type 0 where
  pub numbered : IsNumbered m
  pub tree : IsTree m
  pub parents : HasParents m
  pub meetings : HasMeetings m
  pub homes : HasHomes m
  pub wires : (f : Faults) → IsFaultless f → (w : ℕ) → IsSoundWire m f w
  pub tables : (f : Faults) → IsFaultless f → (t : ℕ) → IsSoundTable m f t
  pub standing : (f : Faults) → HasStandingParts m f

-- no faults at all
no_faults : Faults
no_faults = record { wires = map.empty; crosses = map.empty; cells = map.empty; registers = map.empty; bridges = set.empty }

without : IsFaultless no_faults
unfolding no_faults
without = record {
  wires = λ w. map.get-empty nat_cmp w;
  crosses = λ x. map.get-empty nat_cmp x;
  cells = λ t a. map.get-empty pair_cmp (t, a);
  registers = λ t. map.get-empty nat_cmp t;
  bridges = λ p. set.contains-empty pair_cmp p;
}

module _ (i : ImageValue) (laws : AreLaws i.config.shape) (within : (w : ℕ) → Uses i w → w < wires_of i.config.shape)
    (f : Faults) (unharmed : IsUnharmed f i) (a : Field) (fits : IsFieldOf i.config.shape a) (sk : HasSkeleton i a)
    (k : Kept) (shape : k.shape ≡ i.config.shape) (ss : List VerifiedWire) (grown : IsClosed k f a (HasWire ss)) where
  abbrev m : Shape
  m = i.config.shape

  abbrev known : ℕ → Type 0
  known = HasWire ss

  -- the wires of the surroundings
  abbrev near : ℕ → Type 0
  near = IsSurroundingWire i

  over : IsClosedOver m k f a known
  over = closed_over m k f a known shape grown

  sound : (w : ℕ) → near w → IsSoundWire m f w
  sound = unharmed.surroundings.wires

  clear : (w : ℕ) → near w → IsClear m f w
  clear w is u s = subst (λ v. stuck_wire f v ≡ None) (sym ((sound w is).alone u s)) (sound w is).not_stuck

  alone : (w : ℕ) → near w → (known w → ⊥) → IsAlone m f known w
  alone w is never u h s = never (subst known ((sound w is).alone u s) h)

  line_near : (n w : ℕ) → IsInvolved i n → IsLine m n w → near w
  line_near n w is l = node_line n is l

  own_near : (n w : ℕ) → IsInvolved i n → IsOwn m n w → near w
  own_near n w is (own_pin j z l e) = root_pin j (subst (IsInvolved i) z is) l e
  own_near n w is (own_port p) = node_port n is p

  -- a met crosspoint of a tap and a line of the surroundings is one of them
  not_stuck : (n t l : ℕ) → IsInvolved i n → IsLine m n l → near t → (x : IsMet m a.crosses t l) → stuck_cross f x.cross ≡ None
  not_stuck n t l is line tap x =
      let lt : x.cross < crosses_of m = (let marked = marked_within a.crosses x.cross x.marked in let len = fits.crosses in omega (arith, marked, len)) in
      (unharmed.surroundings.crosses x.cross (record {
        within = lt;
        node = subst (IsInvolved i) (sym (laws.homes.cross_of_line n l x.cross lt (ap (λ e. e.1) x.ends) line)) is;
        tap = subst near (sym (ap (λ e. e.0) x.ends)) tap;
        line = subst near (sym (ap (λ e. e.1) x.ends)) (line_near n l is line);
      })).not_stuck

  known_pin : (j : ℕ) → j < pins_of m → near (pin_wire m j) → has_number a.wires (pin_wire m j) ≡ true → known (pin_wire m j)
  known_pin j l is_near h = by (known_or ss (pin_wire m j))
    where
      by : known (pin_wire m j) ⊎ (known (pin_wire m j) → ⊥) → known (pin_wire m j)
      by (inl is) = is
      by (inr never) = over.pins j l h (clear (pin_wire m j) is_near) (alone (pin_wire m j) is_near never)

  known_on : (w : ℕ) → near w → has_number a.wires w ≡ true → HasFeet m f (λ x. has_number a.crosses x ≡ true) known w → known w
  known_on w is_near h feet = by (known_or ss w)
    where
      by : known w ⊎ (known w → ⊥) → known w
      by (inl is) = is
      by (inr never) = over.wires w h (clear w is_near) (alone w is_near never) feet

  ends_are : (x t l : ℕ) → ends_of m x ≡ (t, l) → Ends (ends_of m x) t l
  ends_are x t l e = in_order (ap (λ p. p.0) e) (ap (λ p. p.1) e)

  ends_turn : (x t l : ℕ) → ends_of m x ≡ (t, l) → Ends (ends_of m x) l t
  ends_turn x t l e = turned (ap (λ p. p.0) e) (ap (λ p. p.1) e)

  -- over two known taps a line of an involved node is known
  line_known : (n l p q : ℕ) → IsInvolved i n → IsLine m n l → has_number a.wires l ≡ true → near p → near q → IsMet m a.crosses p l → IsMet m a.crosses q l → p ≢ q → known p → known q → known l
  line_known n l p q is line h np nq x y differ kp kq = known_on l (line_near n l is line) h (two x.cross y.cross p q x.marked y.marked (ends_are _ _ _ x.ends) (ends_are _ _ _ y.ends) differ kp kq (not_stuck n p l is line np x) (not_stuck n q l is line nq y))

  -- .. and over two known lines a tap
  tap_known : (n t p q : ℕ) → IsInvolved i n → near t → has_number a.wires t ≡ true → IsLine m n p → IsLine m n q → IsMet m a.crosses t p → IsMet m a.crosses t q → p ≢ q → known p → known q → known t
  tap_known n t p q is nt h lp lq x y differ kp kq = known_on t nt h (two x.cross y.cross p q x.marked y.marked (ends_turn _ _ _ x.ends) (ends_turn _ _ _ y.ends) differ kp kq (not_stuck n t p is lp nt x) (not_stuck n t q is lq nt y))

  record AreKnownAt (n : ℕ) : Type 0 where
    port_one : known (sk.ports n).0
    port_two : known (sk.ports n).1
    line_one : known (sk.lines n).0
    line_two : known (sk.lines n).1

  node_within : (n : ℕ) → IsInvolved i n → n < nodes_of m
  node_within n is = laws.meetings.line_within n (sk.lines n).0 (sk.two_lines n is).1

  zero_or : (n : ℕ) → (n ≡ 0) ⊎ (0 < n)
  zero_or zero = inl refl
  zero_or (suc n) = inr (omega arith)

  -- with its ports a node's lines are known
  with_lines : (n : ℕ) → IsInvolved i n → known (sk.ports n).0 → known (sk.ports n).1 → AreKnownAt n
  with_lines n is p q =
      let own = sk.two_ports n is in
      let lines = sk.two_lines n is in
      let met = sk.own n is in
      let one = own_near n (sk.ports n).0 is own.1 in
      let other = own_near n (sk.ports n).1 is own.2 in
      record {
        port_one = p;
        port_two = q;
        line_one = line_known n (sk.lines n).0 (sk.ports n).0 (sk.ports n).1 is lines.1 lines.0.first one other met.first_first met.second_first own.0.differ p q;
        line_two = line_known n (sk.lines n).1 (sk.ports n).0 (sk.ports n).1 is lines.2 lines.0.second one other met.first_second met.second_second own.0.differ p q;
      }

  root_known : (n w : ℕ) → n ≡ 0 → IsInvolved i n → has_number a.wires w ≡ true → IsOwn m n w → known w
  root_known n w z is h (own_pin j e l s) = subst known (sym s) (known_pin j l (subst near s (own_near n w is (own_pin j e l s))) (subst (λ u. has_number a.wires u ≡ true) s h))
  root_known n w z is h (own_port p) = absurd (let above = (laws.meetings.port_within n w p).0 in let no : ⊥ = omega (arith, above, z) in no)

  known_by : (bound n : ℕ) → n < bound → IsInvolved i n → AreKnownAt n
  known_by zero n l is = absurd (let no : ⊥ = omega (arith, l) in no)
  known_by (suc bound) n l is = by (λ p b j. known_by bound p b j) (zero_or n)
    where
      by : ((p : ℕ) → p < bound → IsInvolved i p → AreKnownAt p) → (n ≡ 0) ⊎ (0 < n) → AreKnownAt n
      by again (inl z) =
          let own = sk.two_ports n is in
          with_lines n is (root_known n (sk.ports n).0 z is own.0.first own.1) (root_known n (sk.ports n).1 z is own.0.second own.2)
      by again (inr above) =
          let p = laws.parents.others n above (node_within n is) in
          let up = involved_too i (below itself p.1) is in
          let there = again p.0 (let before = laws.parents.before n p.0 p.1 in omega (arith, before, l)) up in
          let own = sk.two_ports n is in
          let lines = sk.two_lines p.0 up in
          let met = sk.above n p.0 is p.1 in
          with_lines n is
          (tap_known p.0 (sk.ports n).0 (sk.lines p.0).0 (sk.lines p.0).1 up (own_near n (sk.ports n).0 is own.1) own.0.first lines.1 lines.2 met.first_first met.first_second lines.0.differ there.line_one there.line_two)
          (tap_known p.0 (sk.ports n).1 (sk.lines p.0).0 (sk.lines p.0).1 up (own_near n (sk.ports n).1 is own.2) own.0.second lines.1 lines.2 met.second_first met.second_second lines.0.differ there.line_one there.line_two)

  known_at : (n : ℕ) → IsInvolved i n → AreKnownAt n
  known_at n is = known_by (suc n) n (omega arith) is

  used_known : (w : ℕ) → Uses i w → known w
  used_known w uses = by (laws.homes.home w (within w uses))
    where
      is : IsInvolved i (node_of m w)
      is = by_wire w uses itself

      there : AreKnownAt (node_of m w)
      there = known_at (node_of m w) is

      by : IsTap m (node_of m w) w ⊎ IsLine m (node_of m w) w → known w
      by (inl tap) =
          let met = sk.used_taps w uses tap in
          let lines = sk.two_lines (node_of m w) is in
          tap_known (node_of m w) w (sk.lines (node_of m w)).0 (sk.lines (node_of m w)).1 is (used_wire uses) (sk.used w uses) lines.1 lines.2 met.0 met.1 lines.0.differ there.line_one there.line_two
      by (inr line) =
          let met = sk.used_lines w uses line in
          let own = sk.two_ports (node_of m w) is in
          line_known (node_of m w) w (sk.ports (node_of m w)).0 (sk.ports (node_of m w)).1 is line (sk.used w uses) (own_near _ _ is own.1) (own_near _ _ is own.2) met.0 met.1 own.0.differ there.port_one there.port_two

  pub routes_known : AreRoutesKnown k ss i
  routes_known = record {
    wires = used_known;
    crosses = λ x c. over.crosses x (sk.closed x c) (used_known _ (at_tap x c refl)) (used_known _ (at_line x c refl)) (unharmed.parts.crosses x c).not_stuck;
  }

  -- ---- seats

  -- a met crosspoint between known wires is kept
  met_kept : (n t l : ℕ) → IsInvolved i n → IsLine m n l → near t → IsMet m a.crosses t l → known t → known l → Meets m (IsKeptCrossOf k) t l
  met_kept n t l is line tap x p q = (
    x.cross,
    (
      subst (λ s. x.cross < crosses_of s) (sym shape) (let below = marked_within a.crosses x.cross x.marked in let len = fits.crosses in omega (arith, below, len)),
      over.crosses x.cross x.marked (subst known (sym (ap (λ e. e.0) x.ends)) p) (subst known (sym (ap (λ e. e.1) x.ends)) q) (not_stuck n t l is line tap x),
    ),
    x.ends,
  )

  port_of : (n w : ℕ) → 0 < n → IsOwn m n w → IsPort m n w
  port_of n w above (own_pin j z l e) = absurd (let no : ⊥ = omega (arith, above, z) in no)
  port_of n w above (own_port p) = p

  above_zero : (n : ℕ) → n ≢ 0 → 0 < n
  above_zero zero other = absurd (other refl)
  above_zero (suc n) other = omega arith

  -- without faults the involved nodes would be served
  all_sound : (w : ℕ) → IsSoundWire m no_faults w
  all_sound = laws.wires no_faults without

  served : (n : ℕ) → IsInvolved i n → IsServed m no_faults n
  served n is = record {
    pins = record { one = 0; two = 1; different = λ e. let no : ⊥ = omega (arith, e) in no; first = (let h = unharmed.wide.pins in omega (arith, h), all_sound (pin_wire m 0)); second = (let h = unharmed.wide.pins in omega (arith, h), all_sound (pin_wire m 1)) };
    lines = λ c above. (let up = involved_too i above is in let l = sk.two_lines c up in
        record {
          one = (sk.lines c).0;
          two = (sk.lines c).1;
          different = l.0.differ;
          first = (l.1, record { sound = all_sound (sk.lines c).0; crosses = λ x b e. without.crosses x });
          second = (l.2, record { sound = all_sound (sk.lines c).1; crosses = λ x b e. without.crosses x });
        });
    ports = λ c above other. (let up = involved_too i above is in let l = sk.two_ports c up in
        record {
          one = (sk.ports c).0;
          two = (sk.ports c).1;
          different = l.0.differ;
          first = (port_of c (sk.ports c).0 (above_zero c other) l.1, all_sound (sk.ports c).0);
          second = (port_of c (sk.ports c).1 (above_zero c other) l.2, all_sound (sk.ports c).1);
        });
  }

  module _ (t : ℕ) (on : IsSome (setting_of i.config t)) (below_all : t < tables_of m) where
    abbrev H : ℕ
    H = hextant_of m t

    table_used : (j : ℕ) → j < 7 → Uses i (table_wire m t j)
    table_used j l = at_table t j on l refl

    table_at : (j : ℕ) → j < 7 → node_of m (table_wire m t j) ≡ H
    table_at j l = laws.parents.table_node t j below_all l

    here : IsInvolved i H
    here = by_wire (table_wire m t 0) (table_used 0 (omega arith)) (subst (IsAbove m H) (sym (table_at 0 (omega arith))) itself)

    -- a hextant isn't the root
    inner : 0 < H
    inner = let seat = (laws.standing no_faults).tables t below_all (served H here) (laws.tables no_faults without t) in (laws.meetings.port_within H seat.near seat.near_port).0

    abbrev W : ℕ → Type 0
    W u = known u × IsOutside m H u

    abbrev Stand : ℕ → Type 0
    Stand w = StandsBy m W (IsKeptCrossOf k) w

    line_outside : (n l : ℕ) → n < H → IsLine m n l → IsOutside m H l
    line_outside n l lt line = record {
      no_line = λ other. let node : n ≡ H = sym (laws.tree.line_node n l line) ∙ laws.tree.line_node H l other in let no : ⊥ = omega (arith, node, lt) in no;
      no_pin = λ u j b e c is. laws.tree.no_table_is_line u j n b c (subst (IsLine m n) is line);
    }

    own_outside : (n w : ℕ) → IsOwn m n w → IsOutside m H w
    own_outside n w (own_pin j z l e) = record {
      no_line = λ line. laws.tree.no_pin_is_line j H l (subst (IsLine m H) e line);
      no_pin = λ u c b s d is. laws.numbered.no_pin_is_table j u c l b d (sym e ∙ is);
    }
    own_outside n w (own_port p) = record {
      no_line = λ line. laws.tree.no_line_is_port H n w line p;
      no_pin = λ u j b e c is. laws.tree.no_table_is_port u j n b c (subst (IsPort m n) is p);
    }

    line_stands : (n l p q : ℕ) → IsInvolved i n → IsLine m n l → W l → near p → near q → IsMet m a.crosses p l → IsMet m a.crosses q l → p ≢ q → known p → known q → Stand p → Stand q → Stand l
    line_stands n l p q is line at np nq x y differ kp kq sp sq =
        let one = met_kept n p l is line np x kp at.0 in
        let other = met_kept n q l is line nq y kq at.0 in
        on_two l one.0 other.0 p q at one.1 other.1 (ends_are _ _ _ one.2) (ends_are _ _ _ other.2) differ sp sq

    tap_stands : (n w p q : ℕ) → IsInvolved i n → near w → W w → IsLine m n p → IsLine m n q → IsMet m a.crosses w p → IsMet m a.crosses w q → p ≢ q → known p → known q → Stand p → Stand q → Stand w
    tap_stands n w p q is nw at lp lq x y differ kp kq sp sq =
        let one = met_kept n w p is lp nw x at.0 kp in
        let other = met_kept n w q is lq nw y at.0 kq in
        on_two w one.0 other.0 p q at one.1 other.1 (ends_turn _ _ _ one.2) (ends_turn _ _ _ other.2) differ sp sq

    record TwoStand (n : ℕ) : Type 0 where
      first : Stand (sk.lines n).0
      second : Stand (sk.lines n).1

    -- where its ports stand, so do the lines of a node in front of the hextant
    lines_stand : (n : ℕ) → n < H → IsInvolved i n → Stand (sk.ports n).0 → Stand (sk.ports n).1 → TwoStand n
    lines_stand n lt is sp sq =
        let own = sk.two_ports n is in
        let lines = sk.two_lines n is in
        let met = sk.own n is in
        let at = known_at n is in
        let np = own_near n (sk.ports n).0 is own.1 in
        let nq = own_near n (sk.ports n).1 is own.2 in
        record {
          first = line_stands n (sk.lines n).0 (sk.ports n).0 (sk.ports n).1 is lines.1 (at.line_one, line_outside n (sk.lines n).0 lt lines.1) np nq met.first_first met.second_first own.0.differ at.port_one at.port_two sp sq;
          second = line_stands n (sk.lines n).1 (sk.ports n).0 (sk.ports n).1 is lines.2 (at.line_two, line_outside n (sk.lines n).1 lt lines.2) np nq met.first_second met.second_second own.0.differ at.port_one at.port_two sp sq;
        }

    -- the ports of a node stand on the lines above it
    record PortsStand (n : ℕ) : Type 0 where
      first : Stand (sk.ports n).0
      second : Stand (sk.ports n).1

    ports_on : (n p : ℕ) → IsInvolved i n → parent_of m n ≡ Some p → TwoStand p → PortsStand n
    ports_on n p is e up =
        let above = involved_too i (below itself e) is in
        let own = sk.two_ports n is in
        let lines = sk.two_lines p above in
        let met = sk.above n p is e in
        let at = known_at n is in
        let there = known_at p above in
        record {
          first = tap_stands p (sk.ports n).0 (sk.lines p).0 (sk.lines p).1 above (own_near n (sk.ports n).0 is own.1) (at.port_one, own_outside n (sk.ports n).0 own.1) lines.1 lines.2 met.first_first met.first_second lines.0.differ there.line_one there.line_two up.first up.second;
          second = tap_stands p (sk.ports n).1 (sk.lines p).0 (sk.lines p).1 above (own_near n (sk.ports n).1 is own.2) (at.port_two, own_outside n (sk.ports n).1 own.2) lines.1 lines.2 met.second_first met.second_second lines.0.differ there.line_one there.line_two up.first up.second;
        }

    root_stands : (n w : ℕ) → n ≡ 0 → known w → IsOwn m n w → Stand w
    root_stands n w z is (own_pin j e l s) = subst Stand (sym s) (pin_stands j l (subst W s (is, own_outside n w (own_pin j e l s))))
    root_stands n w z is (own_port p) = absurd (let above = (laws.meetings.port_within n w p).0 in let no : ⊥ = omega (arith, above, z) in no)

    stand_by : (bound n : ℕ) → n < bound → n < H → IsInvolved i n → TwoStand n
    stand_by zero n l lt is = absurd (let no : ⊥ = omega (arith, l) in no)
    stand_by (suc bound) n l lt is = by (λ p b c j. stand_by bound p b c j) (zero_or n)
      where
        by : ((p : ℕ) → p < bound → p < H → IsInvolved i p → TwoStand p) → (n ≡ 0) ⊎ (0 < n) → TwoStand n
        by again (inl z) =
            let own = sk.two_ports n is in
            let at = known_at n is in
            lines_stand n lt is (root_stands n (sk.ports n).0 z at.port_one own.1) (root_stands n (sk.ports n).1 z at.port_two own.2)
        by again (inr above) =
            let p = laws.parents.others n above (node_within n is) in
            let before = laws.parents.before n p.0 p.1 in
            let there = again p.0 (omega (arith, before, l)) (omega (arith, before, lt)) (involved_too i (below itself p.1) is) in
            let ports = ports_on n p.0 is p.1 there in
            lines_stand n lt is ports.first ports.second

    stand_here : PortsStand H
    stand_here =
        let p = laws.parents.others H inner (node_within H here) in
        ports_on H p.0 here p.1 (stand_by (suc p.0) p.0 (omega arith) (laws.parents.before H p.0 p.1) (involved_too i (below itself p.1) here))

    table_met : (j : ℕ) → j < 7 → IsMet m a.crosses (table_wire m t j) (sk.lines H).0 × IsMet m a.crosses (table_wire m t j) (sk.lines H).1
    table_met j l = subst (λ n. IsMet m a.crosses (table_wire m t j) (sk.lines n).0 × IsMet m a.crosses (table_wire m t j) (sk.lines n).1) (table_at j l)
        (sk.used_taps (table_wire m t j) (table_used j l) (tap_table t j below_all (sym (table_at j l)) l refl))

    seated_over : IsSeated m known (IsKeptCrossOf k) t
    seated_over =
        let own = sk.two_ports H here in
        let lines = sk.two_lines H here in
        let met = sk.own H here in
        let at = known_at H here in
        let stand = stand_here in
        record {
          pins = λ j l. used_known (table_wire m t j) (table_used j l);
          near = (sk.ports H).0;
          far = (sk.ports H).1;
          line = (sk.lines H).1;
          near_port = port_of H (sk.ports H).0 inner own.1;
          far_port = port_of H (sk.ports H).1 inner own.2;
          different = own.0.differ;
          near_stands = stand.first;
          far_stands = stand.second;
          out = (
            lines.2,
            at.line_two,
            met_kept H (sk.ports H).1 (sk.lines H).1 here lines.2 (own_near H (sk.ports H).1 here own.2) met.second_second at.port_two at.line_two,
            met_kept H (table_wire m t 6) (sk.lines H).1 here lines.2 (used_wire (table_used 6 (omega arith))) (table_met 6 (omega arith)).1 (used_known (table_wire m t 6) (table_used 6 (omega arith))) at.line_two,
          );
          inputs = λ j l. (
            (sk.lines H).0,
            lines.1,
            at.line_one,
            lines.0.differ,
            met_kept H (sk.ports H).0 (sk.lines H).0 here lines.1 (own_near H (sk.ports H).0 here own.1) met.first_first at.port_one at.line_one,
            met_kept H (table_wire m t j) (sk.lines H).0 here lines.1 (used_wire (table_used j (omega (arith, l)))) (table_met j (omega (arith, l))).0 (used_known (table_wire m t j) (table_used j (omega (arith, l)))) at.line_one,
          );
        }

    pub seated : IsSeated k.shape known (IsKeptCrossOf k) t
    seated = subst (λ s. IsSeated s known (IsKeptCrossOf k) t) (sym shape) seated_over
