-- Trunks over known wires, and when there is none.
use Rattle.std.proofs.Common.{◌≡◌, ◌≢◌, ◌⊎◌, ℕ, ◌+◌, ◌*◌, ◌<◌, ◌≤◌, Bool, true, false, Some, None, Option, Result, Ok, Err, IfOk, List, length, refl, sym, ap, ◌∙◌, subst, inl, inr, arith, AllPairs, IfSome}
use Rattle.diag_published.proofs.Vocabulary.{cases_eq, false≢true, has_number, size_of, Shape, Wire, clear_of_sound, among, LeadsTo-start}
use Rattle.diag_published.proofs.Vocabulary.{Walk, Trunk, holds_untried, Kept, HoldsFor, few_wide, Field, known_or, AreLaws}
use Rattle.machine_shape.specs.Shape.{pin_wire, pins_of, parent_of, node_of, port_at, own_ports_of, IsPort, tap_child, itself}
use Rattle.machine_meaning.specs.Vocabulary.{Faults, IsFaultless, IsSoundWire, HasTwo, IsClear, IsAlone}
use Rattle.diag_known.specs.Vocabulary.{IsClosed, ClosedIf, TakesFew, Gets, IsWireBefore, KnownWires, HasWire, IsKnownRoute, AreRoutesTo}
use Rattle.diag_known.specs.declared.verified_wire.VerifiedWire.{VerifiedWire}
use Rattle.diag_published.specs.Bars.{IsListOf, IsAtOneOf, IsKnownOf, IsTrunkTo, IsTrunkOf, AreTwoOf, FewPins, SoundPinsAreKnown}
use Rattle.diag_published.specs.Held.{Findings, IsTrunkEnd, at_pin, at_port, IsHeldRoute, IsHeldTrunk, IsHeld, IsUnserved, LoadsAtMost, UnservedIf, wire_numbers}
use Rattle.diag_published.proofs.Fielding.{before_of, ports_are}

-- ---- trunks

held_route : {k : Kept} {known : KnownWires} {r : Walk} → IsKnownRoute k known.steps r → AllPairs (λ w u. w ≢ u) r.wires → IsHeldRoute k known r
held_route {k} {known} {r} h once = record {
  route = h.route;
  once = once;
  crosses = h.crosses;
  wires = λ w is. let at = h.wires w is in record { place = at.place; at = at.at };
}

pub trunk_is : {k : Kept} {known : KnownWires} {a b : ℕ} {p q : Walk} → AreRoutesTo k known.steps a b p q → IsTrunkTo k known a b p q
trunk_is {k} {known} r = record {
  left_end = r.left_end;
  held = λ n one other. record {
    left_route = held_route r.routes.left r.left_once;
    right_route = held_route r.routes.right r.right_once;
    apart = r.routes.apart;
    left_end = subst (IsTrunkEnd k.shape n) (sym r.left_end) one;
    right_end = subst (IsTrunkEnd k.shape n) (sym r.right_end) other;
  };
}

-- routes without a common wire begin at different pins
pub pins_differ : {k : Kept} {ss : List VerifiedWire} {a b : ℕ} {p q : Walk} → AreRoutesTo k ss a b p q → p.pin ≢ q.pin
pins_differ {k} {ss} {a} {b} {p} {q} r e =
    let on : among q.wires (pin_wire k.shape q.pin) ≡ true = LeadsTo-start r.routes.right.route.leads in
    let off : among q.wires (pin_wire k.shape p.pin) ≡ false = r.routes.apart _ (LeadsTo-start r.routes.left.route.leads) in
    false≢true (sym off ∙ subst (λ j. among q.wires (pin_wire k.shape j) ≡ true) (sym e) on)

pub trunk_of_those : {k : Kept} {known : KnownWires} (ws those : List ℕ) (a b : ℕ) {p q : Walk} → IsListOf (IsKnownOf known ws) those → AreTwoOf those a b → IsTrunkTo k known a b p q → IsTrunkOf k known ws p q
trunk_of_those ws those a b list two trunk = record {
  left_end = subst (λ w. among ws w ≡ true) (sym trunk.left_end) ((list.each a two.first).0);
  held = λ n all. trunk.held n (all a ((list.each a two.first).0)) (all b ((list.each b two.second).0));
}

pub one_known : (known : KnownWires) (ws those : List ℕ) → IsListOf (IsKnownOf known ws) those → ((w u : ℕ) → among those w ≡ true → among those u ≡ true → w ≡ u) →
    (w u : ℕ) → IsKnownOf known ws w → IsKnownOf known ws u → w ≡ u
one_known known ws those list one w u p q = one w u (list.all w p) (list.all u q)

pub end_node : (m : Shape) → AreLaws m → (n w : ℕ) → IsTrunkEnd m n w → node_of m w ≡ n
end_node m laws n w (at_pin j z h e) = ap (node_of m) e ∙ laws.parents.pin_node j h ∙ sym z
end_node m laws n w (at_port p) = laws.tree.port_node n w p

-- ---- pins

pub pin_end : (m : Shape) (count : ℕ) (ws : List ℕ) → count ≤ pins_of m → IsListOf (IsAtOneOf (pin_wire m) count) ws → (w : ℕ) → among ws w ≡ true → IsTrunkEnd m 0 w
pin_end m count ws few list w is = let p = list.each w is in at_pin p.position refl (let early = p.early in omega (arith, early, few)) p.is

-- a sound wire that isn't known is shorted to no known one
pub sound_alone : {m : Shape} {f : Faults} {ss : List VerifiedWire} {w : ℕ} → IsSoundWire m f w → (HasWire ss w → ⊥) → IsAlone m f (HasWire ss) w
sound_alone {ss = ss} sound never u h s = never (subst (HasWire ss) (sound.alone u s) h)

-- a sound pin of the field is known
pub pin_known : {m : Shape} {k : Kept} {f : Faults} {a : Field} {ss : List VerifiedWire} (j : ℕ) → m ≡ k.shape → IsClosed k f a (HasWire ss) → j < pins_of m → has_number a.wires (pin_wire m j) ≡ true → IsSoundWire m f (pin_wire m j) → HasWire ss (pin_wire m j)
pin_known {m} {k} {f} {a} {ss} j e closed within marked sound = by (known_or ss (pin_wire m j))
  where
    by : HasWire ss (pin_wire m j) ⊎ (HasWire ss (pin_wire m j) → ⊥) → HasWire ss (pin_wire m j)
    by (inl h) = h
    by (inr never) = subst (λ s. HasWire ss (pin_wire s j)) (sym e)
        (closed.pins j (subst (λ s. j < pins_of s) e within) (subst (λ s. has_number a.wires (pin_wire s j) ≡ true) e marked) (subst (λ s. IsClear s f (pin_wire s j)) e (clear_of_sound sound))
        (subst (λ s. IsAlone s f (HasWire ss) (pin_wire s j)) e (sound_alone sound never)))

pub pins_grown : (told : Option Faults) (k l : Kept) (known : KnownWires) (count : ℕ) (ws : List Wire) (start : List Bool) (field : Field) → l.shape ≡ k.shape → ((f : Faults) → told ≡ Some f → HoldsFor k f → HoldsFor l f) → count ≤ pins_of k.shape →
    IsListOf (IsAtOneOf (pin_wire k.shape) count) (wire_numbers ws) → Gets (IsWireBefore ws (length ws)) (length ws) start field.wires → ClosedIf told l field known.steps → SoundPinsAreKnown told k known count
pins_grown told k l known count ws start field shape later few list got closed = record {
  at = λ f is holds j below sound.
      pin_known j (sym shape) (closed.at f is (holds_untried (later f is holds))) (omega (arith, below, few)) (got.all (pin_wire k.shape j) (before_of ws (pin_wire k.shape j) (list.all (pin_wire k.shape j) (record { position = j; early = below; is = refl })))) sound;
}

pub few_loads : (told : Option Faults) (k : Kept) (field : Field) (ws : List Wire) (start : List Bool) (before after count : ℕ) → length ws ≡ count → size_of start ≡ 0 → size_of field.crosses ≡ 0 → Gets (IsWireBefore ws (length ws)) (length ws) start field.wires →
    TakesFew told k field before after → LoadsAtMost told k before after (3 * count)
few_loads told k field ws start before after count len none no_crosses got few = record {
  at = λ f is faultless holds. (let most = few_wide few is faultless holds in let new = got.few in omega (arith, most, new, len, none, no_crosses));
}

-- two sound ones of the pins would both be known
pub few_pins : (told : Option Faults) (k : Kept) (known : KnownWires) (count : ℕ) (ws : List ℕ) → AreLaws k.shape → count ≤ pins_of k.shape → IsListOf (IsAtOneOf (pin_wire k.shape) count) ws → SoundPinsAreKnown told k known count →
    ((w u : ℕ) → IsKnownOf known ws w → IsKnownOf known ws u → w ≡ u) → FewPins told k count
few_pins told k known count ws laws few list found one = record {
  at = λ f is holds two. two.different (laws.numbered.pins_apart two.one two.two (let l = two.first.0 in omega (arith, l, few)) (let l = two.second.0 in omega (arith, l, few))
      (one _ _ (pin f is holds two.one two.first) (pin f is holds two.two two.second)));
}
  where
    pin : (f : Faults) → told ≡ Some f → HoldsFor k f → (j : ℕ) → (j < count) × IsSoundWire k.shape f (pin_wire k.shape j) → IsKnownOf known ws (pin_wire k.shape j)
    pin f is holds j p = (list.all (pin_wire k.shape j) (record { position = j; early = p.0; is = refl }), found.at f is holds j p.0 p.1)

pub unserved_by : (told : Option Faults) (k l : Kept) (pins : ℕ) → l.shape ≡ k.shape → ((f : Faults) → told ≡ Some f → HoldsFor k f → HoldsFor l f) → pins ≡ pins_of k.shape → FewPins told l pins → UnservedIf told k 0
unserved_by told k l pins shape later e few = record {
  at = λ f is holds served. few.at f is (later f is holds)
      (subst (λ s. HasTwo (λ j. (j < pins) × IsSoundWire s f (pin_wire s j))) (sym shape) (subst (λ n. HasTwo (λ j. (j < n) × IsSoundWire k.shape f (pin_wire k.shape j))) (sym e) served.pins));
}

-- without faults a trunk is found among the first two pins, if there are two
pub root_by : (told : Option Faults) (k l : Kept) (first pins before mid after : ℕ) → ((f : Faults) → told ≡ Some f → HoldsFor k f → HoldsFor l f) → first ≤ 2 → (first < 2 → first ≡ pins) → ((f : Faults) → IsFaultless f → (w : ℕ) → IsSoundWire k.shape f w) →
    FewPins told k first → LoadsAtMost told k before mid (3 * first) → LoadsAtMost told l mid after (3 * pins) → LoadsAtMost told k before after 6
root_by told k l first pins before mid after later few all sound none one other = record {
  at = λ f is faultless holds. by f is faultless holds (cases_eq first 2);
}
  where
    by : (f : Faults) → told ≡ Some f → IsFaultless f → HoldsFor k f → (first ≡ 2) ⊎ (first ≡ 2 → ⊥) → after ≤ before + 6
    by f is faultless holds (inl e) = absurd (none.at f is holds (record {
      one = 0;
      two = 1;
      different = λ e. let no : ⊥ = omega (arith, e) in no;
      first = (omega (arith, e), sound f faultless (pin_wire k.shape 0));
      second = (omega (arith, e), sound f faultless (pin_wire k.shape 1));
    }))
    by f is faultless holds (inr other_count) =
        let x = one.at f is faultless holds in
        let y = other.at f is faultless (later f is holds) in
        let s : first ≡ pins = all (omega (arith, few, other_count)) in
        omega (arith, x, y, s, few, other_count)

pub at_most_six : (told : Option Faults) (k : Kept) (before after first : ℕ) → first ≤ 2 → LoadsAtMost told k before after (3 * first) → LoadsAtMost told k before after 6
at_most_six told k before after first few h = record { at = λ f is faultless holds. (let most = h.at f is faultless holds in omega (arith, most, few)) }

-- ---- ports

pub port_end : (m : Shape) (n : ℕ) (ws : List ℕ) → IsListOf (IsPort m n) ws → (w : ℕ) → among ws w ≡ true → IsTrunkEnd m n w
port_end m n ws list w is = at_port (list.each w is)

-- the ports of a child, over a shape that is that of the machine
pub child_ports : (m : Shape) (laws : AreLaws m) (n : ℕ) (ws : List ℕ) {p : ℕ} {s : Shape} → parent_of m n ≡ Some p → s ≡ m → IsListOf (IsAtOneOf (port_at s n) (own_ports_of s n)) ws → IsListOf (IsPort m n) ws
child_ports m laws n ws {p} up same list = ports_are m laws n ws (laws.parents.within n p up) (subst (λ (s : Shape). IsListOf (IsAtOneOf (port_at s n) (own_ports_of s n)) ws) same list)

-- a served node below a full crossbar has two known ports
pub unserved_child : (k : Kept) (known : KnownWires) (t : Findings) (n : ℕ) (ws : List ℕ) → AreLaws k.shape → parent_of k.shape n ≡ Some t.node → IsHeld k known t → IsListOf (IsPort k.shape n) ws →
    ((w u : ℕ) → IsKnownOf known ws w → IsKnownOf known ws u → w ≡ u) → IsUnserved k t n
unserved_child k known t n ws laws up held list one f full served = ports.different (one ports.one ports.two (is_known ports.one ports.first) (is_known ports.two ports.second))
  where
    not_root : n ≢ 0
    not_root e = let before = laws.parents.before n t.node up in let no : ⊥ = omega (arith, e, before) in no

    ports : HasTwo (λ w. IsPort k.shape n w × IsSoundWire k.shape f w)
    ports = served.ports n itself not_root

    is_known : (w : ℕ) → IsPort k.shape n w × IsSoundWire k.shape f w → IsKnownOf known ws w
    is_known w p = (list.all w p.0, held.known_taps w ((full (laws.served.above f n t.node up served)).taps w (tap_child n up p.0) p.1))

-- ---- answers

pub trunks_end : {E : Type 0} (k : Kept) (known : KnownWires) (n : ℕ) (r : Result (Option Trunk) E) (m : Shape) → AreLaws m → k.shape ≡ m → IfOk r (λ found. IfSome found (λ t. IsHeldTrunk k known n t.left t.right)) →
    IfOk r (λ found. IfSome found (λ t. node_of m t.left.end ≡ n))
trunks_end k known n (Err e) m laws same h = tt
trunks_end k known n (Ok None) m laws same h = tt
trunks_end k known n (Ok (Some t)) m laws same h = end_node m laws n t.left.end (subst (λ s. IsTrunkEnd s n t.left.end) same h.left_end)
