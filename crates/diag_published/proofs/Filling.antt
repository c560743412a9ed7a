-- Where all that can be known of a crossbar is known, what is known of it is full.
use Rattle.std.proofs.Common.{◌≡◌, ◌≢◌, ◌⊎◌, ℕ, ◌+◌, ◌*◌, ◌<◌, ◌≤◌, true, None, Some, Option, refl, sym, ap, ◌∙◌, subst, inl, inr, arith, IsSome}
use Rattle.diag_published.proofs.Vocabulary.{has_number, size_of, Shape, clear_of_sound, among, LeadsTo-end, holds_untried, Kept, HoldsFor}
use Rattle.diag_published.proofs.Vocabulary.{keeps_cross, few_wide, takes_wide, Field, IsOpenOf, IsBarField, HasKnown, AreLaws, known_or}
use Rattle.machine_shape.specs.Shape.{in_order, turned, ends_of, crosses_of, nodes_of, node_of_cross, taps_of, IsLine, IsTap, itself}
use Rattle.machine_meaning.specs.Vocabulary.{Faults, stuck_cross, IsSoundWire, IsSoundCross, IsWholeLine, HasTwo, IsServed, IsOfUse, HasFeet, two}
use Rattle.diag_known.specs.Vocabulary.{IsClosed, ClosedIf, TakesFew, fresh, pins_in, KnownWires, HasWire}
use Rattle.diag_published.specs.Held.{Findings, IsTrunkEnd, IsHeld, HasAll, FullIf, LoadsForBar, FewLoadsForBar}
use Rattle.diag_published.proofs.Holding.{end_tap}
use Rattle.diag_published.proofs.Trunking.{sound_alone}

module _ (k : Kept) (f : Faults) (known : KnownWires) (laws : AreLaws k.shape) (a : Field) (t : Findings) (bar : IsBarField k.shape t.node a) (closed : IsClosed k f a (HasWire known.steps)) (held : IsHeld k known t) (all : HasKnown k known t)
    (served : IsServed k.shape f t.node) where
  abbrev m : Shape
  m = k.shape

  abbrev n : ℕ
  n = t.node

  abbrev K : ℕ → Type 0
  K = HasWire known.steps

  sound_known : (w : ℕ) → IsSoundWire m f w → has_number a.wires w ≡ true → HasFeet m f (λ x. has_number a.crosses x ≡ true) K w → K w
  sound_known w sound marked feet = by (known_or known.steps w)
    where
      by : K w ⊎ (K w → ⊥) → K w
      by (inl h) = h
      by (inr never) = closed.wires w marked (clear_of_sound sound) (sound_alone sound never) feet

  -- a line with two crosspoints that aren't stuck to known taps is known
  line_known : (l x y : ℕ) → IsLine m n l → IsSoundWire m f l → x ≢ y → x < crosses_of m → y < crosses_of m → (ends_of m x).1 ≡ l → (ends_of m y).1 ≡ l → stuck_cross f x ≡ None → stuck_cross f y ≡ None → K (ends_of m x).0 → K (ends_of m y).0 → K l
  line_known l x y line sound differ h i e g free clear p q = sound_known l sound (bar.lines l line) (two x y (ends_of m x).0 (ends_of m y).0
      (bar.crosses x h (laws.homes.cross_of_line n l x h e line)) (bar.crosses y i (laws.homes.cross_of_line n l y i g line)) (in_order refl e) (in_order refl g)
      (λ same. differ (laws.crosses.one x y h i (ends_same same))) p q free clear)
    where
      ends_same : (ends_of m x).0 ≡ (ends_of m y).0 → ends_of m x ≡ ends_of m y
      ends_same s = λ j. (s j, (e ∙ sym g) j)

  -- the ends of the trunk
  left_known : K t.left.end
  left_known = held.known_taps t.left.end held.left_tap

  right_known : K t.right.end
  right_known = held.known_taps t.right.end held.right_tap

  ends_differ : t.left.end ≢ t.right.end
  ends_differ e =
      let off = held.trunk.apart t.left.end (LeadsTo-end held.trunk.left_route.route.leads) in
      let on : among t.right.wires t.left.end ≡ true = subst (λ w. among t.right.wires w ≡ true) (sym e) (LeadsTo-end held.trunk.right_route.route.leads) in
      let no : ⊥ = cc (off, on) in no

  -- over these each whole line is known
  whole_known : (l : ℕ) → IsLine m n l → IsWholeLine m f l → K l
  whole_known l line whole =
      let x = laws.meetings.meet n t.left.end l (held.taps t.left.end held.left_tap) line in
      let y = laws.meetings.meet n t.right.end l (held.taps t.right.end held.right_tap) line in
      let left : (ends_of m x.0).0 ≡ t.left.end = ap (λ p. p.0) x.2 in
      let right : (ends_of m y.0).0 ≡ t.right.end = ap (λ p. p.0) y.2 in
      let at : (ends_of m x.0).1 ≡ l = ap (λ p. p.1) x.2 in
      let on : (ends_of m y.0).1 ≡ l = ap (λ p. p.1) y.2 in
      line_known l x.0 y.0 line whole.sound (λ e. ends_differ (sym left ∙ ap (λ c. (ends_of m c).0) e ∙ right)) x.1 y.1 at on (whole.crosses x.0 x.1 at) (whole.crosses y.0 y.1 on)
      (subst K (sym left) left_known) (subst K (sym right) right_known)

  wholes : HasTwo (λ w. IsLine m n w × IsWholeLine m f w)
  wholes = served.lines n itself

  -- over these each sound tap
  tap_known : (w : ℕ) → IsTap m n w → IsSoundWire m f w → K w
  tap_known w tap sound =
      let x = laws.meetings.meet n w wholes.one tap wholes.first.0 in
      let y = laws.meetings.meet n w wholes.two tap wholes.second.0 in
      sound_known w sound (bar.taps w tap) (two x.0 y.0 wholes.one wholes.two (bar.crosses x.0 x.1 x.3) (bar.crosses y.0 y.1 y.3)
      (turned (ap (λ p. p.0) x.2) (ap (λ p. p.1) x.2)) (turned (ap (λ p. p.0) y.2) (ap (λ p. p.1) y.2)) wholes.different
      (whole_known wholes.one wholes.first.0 wholes.first.1) (whole_known wholes.two wholes.second.0 wholes.second.1)
      (wholes.first.1.crosses x.0 x.1 (ap (λ p. p.1) x.2)) (wholes.second.1.crosses y.0 y.1 (ap (λ p. p.1) y.2)))

  cross_tap : (x : ℕ) → x < crosses_of m → node_of_cross m x ≡ n → IsTap m n (ends_of m x).0
  cross_tap x h e = subst (λ j. IsTap m j (ends_of m x).0) e (laws.meetings.tap x h)

  -- over these each sound line with two sound crosspoints
  useful_known : (l : ℕ) → IsLine m n l → IsSoundWire m f l → IsOfUse m f l → K l
  useful_known l line sound useful =
      let use_ = useful.crosses (subst (λ j. IsLine m j l) (sym (laws.tree.line_node n l line)) line) in
      let x = use_.first in
      let y = use_.second in
      line_known l use_.one use_.two line sound use_.different x.0 y.0 x.1 y.1 x.2.not_stuck y.2.not_stuck
      (tap_known _ (cross_tap use_.one x.0 (laws.homes.cross_of_line n l use_.one x.0 x.1 line)) x.2.tap)
      (tap_known _ (cross_tap use_.two y.0 (laws.homes.cross_of_line n l use_.two y.0 y.1 line)) y.2.tap)

  cross_kept : (x : ℕ) → x < crosses_of m → node_of_cross m x ≡ n → IsSoundCross m f x → IsOfUse m f (ends_of m x).1 → keeps_cross k x ≡ true
  cross_kept x h e sound useful = closed.crosses x (bar.crosses x h e) (tap_known _ (cross_tap x h e) sound.tap)
      (useful_known _ (subst (λ j. IsLine m j (ends_of m x).1) e (laws.meetings.line x h)) sound.line useful) sound.not_stuck

  -- and whole lines are good at all known taps
  whole_open : (l : ℕ) → IsLine m n l → IsWholeLine m f l → IsOpenOf k t.taps t.lines l
  whole_open l line whole = (
    all.lines l line (whole_known l line whole),
    λ x h e on. closed.crosses x (bar.crosses x h (laws.homes.cross_of_line n l x h e line)) (held.known_taps _ on)
        (subst K (sym e) (whole_known l line whole)) (whole.crosses x h e),
  )

  has_pair : IsSome t.open_pair
  has_pair = by all.open_pair
    where
      by : IsSome t.open_pair ⊎ ((x y : ℕ) → IsOpenOf k t.taps t.lines x → IsOpenOf k t.taps t.lines y → x ≡ y) → IsSome t.open_pair
      by (inl is) = is
      by (inr one) = absurd (wholes.different (one wholes.one wholes.two (whole_open wholes.one wholes.first.0 wholes.first.1) (whole_open wholes.two wholes.second.0 wholes.second.1)))

  pub all_known : HasAll k f t
  all_known = record {
    taps = λ w tap sound. all.taps w tap (tap_known w tap sound);
    lines = λ w line sound useful. all.lines w line (useful_known w line sound useful);
    crosses = cross_kept;
    open_pair = has_pair;
  }

pub full_is : (told : Option Faults) (k l : Kept) (known : KnownWires) (field : Field) (t : Findings) → AreLaws l.shape → ((f : Faults) → told ≡ Some f → HoldsFor k f → HoldsFor l f) → IsBarField l.shape t.node field → ClosedIf told l field known.steps →
    IsHeld l known t → HasKnown l known t → FullIf told k l t
full_is told k l known field t laws later bar closed held all = record {
  at = λ f is holds served. all_known l f known laws field t bar (closed.at f is (holds_untried (later f is holds))) held all served;
}

-- the same, of the same node
pub bar_at : {m s : Shape} {n j : ℕ} {a : Field} → m ≡ s → n ≡ j → IsBarField m n a → IsBarField s j a
bar_at {m} {s} {n} {j} {a} e f bar = subst (λ x. IsBarField x j a) e (subst (λ i. IsBarField m i a) f bar)

-- ---- loads

module _ (n : ℕ) (field : Field) (before after : ℕ) where
  pub bar_loads : (k : Kept) → IsBarField k.shape n field → after + pins_in k.shape field ≤ before + (8 * fresh k field + 3 * size_of field.wires) → LoadsForBar k.shape n before after
  bar_loads k bar loads = let most = takes_wide k field before loads in let wires = bar.few_wires in let crosses = bar.few_crosses in omega (arith, most, wires, crosses)

  pub bar_few : (told : Option Faults) (k : Kept) → IsBarField k.shape n field → TakesFew told k field before after → FewLoadsForBar told k n before after
  bar_few told k bar few = record {
    at = λ f is faultless holds. (let most = few_wide few is faultless holds in let wires = bar.few_wires in let crosses = bar.few_crosses in omega (arith, most, wires, crosses));
  }

-- no loads are few
pub no_loads : (m : Shape) (n before : ℕ) → LoadsForBar m n before before
no_loads m n before = omega arith

pub no_few : (told : Option Faults) (k : Kept) (n before : ℕ) → FewLoadsForBar told k n before before
no_few told k n before = record { at = λ f is faultless holds. omega arith }

-- ---- the node of a trunk

pub trunk_node : (m : Shape) → AreLaws m → (n w : ℕ) → IsTrunkEnd m n w → n < nodes_of m
trunk_node m laws n w end = laws.homes.tap_node n w (end_tap m n w end)

pub trunk_taps : (m : Shape) → AreLaws m → (n w : ℕ) → IsTrunkEnd m n w → 0 < taps_of m n
trunk_taps m laws n w end = let p = laws.taps.has_position n w (trunk_node m laws n w end) (end_tap m n w end) in let below = p.1 in omega (arith, below)
