-- The field that is a crossbar, as it is marked.
use Rattle.std.proofs.Common.{◌≡◌, ◌≢◌, ◌⊎◌, ℕ, zero, suc, ◌+◌, ◌*◌, ◌-◌, ◌<◌, ◌≤◌, Bool, true, false, List, [], ◌∷◌, All, length, refl, sym, ap, ◌∙◌, subst, inl, inr, arith, ◌==◌, slice_get}
use Rattle.std.proofs.{Math.ListN.set, Math.Nat.mul_comm, Math.Nat.suc-mul, lemmas.Bool.Decides.nat_tests, lemmas.Nat.mul-add-lt}
use Rattle.diag_published.proofs.Vocabulary.{false≢true, or_cases, has_number, size_of, Shape, Wire, among, Gets, IsWireBefore, Field}
use Rattle.diag_published.proofs.Vocabulary.{IsListOf, IsAtOneOf, AreBarOf, IsFrom, IsCrossOfNode, IsBarField, wire_numbers, AreLaws}
use Rattle.machine_shape.specs.Vocabulary.{HasRows, first_cross_of, crosses_of, wires_of, nodes_of, taps_of, lines_of, own_ports_of, tap_at, line_at, port_at, cross_at, tap_position, line_position, IsTap, IsLine, IsPort}
use Rattle.diag_known.proofs.Getting.{below_or, gets_none, gets_one, gets_fewer}
use Rattle.diag_published.proofs.Listing.{list_same}

-- ---- ranges

pub range_none : (first : ℕ) {marks : List Bool} → Gets (IsFrom first first) (first - first) marks marks
range_none first = gets_fewer (gets_none (λ x p. let low = p.0 in let high = p.1 in let no : ⊥ = omega (arith, low, high) in no)) (λ x p. p) (omega arith)

pub range_next : (first x : ℕ) {old mid : List Bool} → first ≤ x → x < length mid → Gets (IsFrom first x) (x - first) old mid → Gets (IsFrom first (x + 1)) (x + 1 - first) old (set mid x true)
range_next first x low within g = gets_one {Q = IsFrom first (x + 1)} x g within (λ y p. by y p (below_or x y p.1)) (omega (arith, low))
  where
    by : (y : ℕ) → IsFrom first (x + 1) y → (y < x) ⊎ (y ≡ x) → IsFrom first x y ⊎ (y ≡ x)
    by y p (inl l) = inl (p.0, l)
    by y p (inr e) = inr e

pub range_end : (first end x : ℕ) {old new : List Bool} → x ≤ end → end ≤ x → Gets (IsFrom first x) (x - first) old new → Gets (IsFrom first end) (end - first) old new
range_end first end x {old} {new} high past g = subst (λ y. Gets (IsFrom first y) (y - first) old new) (let e : x ≡ end = omega (arith, high, past) in e) g

-- ---- the crosspoints of a node

-- they end among those of the machine
pub end_within : (m : Shape) (n t l : ℕ) → HasRows m → n < nodes_of m → taps_of m n ≡ t → lines_of m n ≡ l → 0 < t → 0 < l → first_cross_of m n + t * l ≤ crosses_of m
end_within m n zero l rows node e f some lines = absurd (let no : ⊥ = omega (arith, some) in no)
end_within m n (suc t) zero rows node e f some lines = absurd (let no : ⊥ = omega (arith, lines) in no)
end_within m n (suc t) (suc l) rows node e f some lines =
    let last = rows.within n t l node (let h : t < taps_of m n = rw e (omega arith) in h) (let h : l < lines_of m n = rw f (omega arith) in h) in
    let last_is : first_cross_of m n + t * suc l + l < crosses_of m = subst (λ (k : ℕ). first_cross_of m n + t * k + l < crosses_of m) f last in
    let row = suc-mul t (suc l) in
    omega (arith, last_is, row)

module _ (m : Shape) (laws : AreLaws m) (n : ℕ) where
  pub crosses_from : (x : ℕ) → IsCrossOfNode m n x → IsFrom (first_cross_of m n) (first_cross_of m n + taps_of m n * lines_of m n) x
  crosses_from x p =
      let i = tap_position m x in
      let j = line_position m x in
      let is : x ≡ first_cross_of m n + i * lines_of m n + j = sym (laws.crosses.back x p.0) ∙ ap (λ k. cross_at m k i j) p.1 ∙ laws.rows.cross n i j in
      let tap : i < taps_of m n = subst (λ k. i < taps_of m k) p.1 (laws.crosses.tap x p.0) in
      let line : j < lines_of m n = subst (λ k. j < lines_of m k) p.1 (laws.crosses.line x p.0) in
      let below = mul-add-lt i (lines_of m n) j (taps_of m n) tap line in
      let turned = mul_comm (lines_of m n) (taps_of m n) in
      (omega (arith, is), omega (arith, is, below, turned))

  pub crosses_got : (first end : ℕ) {old new : List Bool} → first ≡ first_cross_of m n → end ≡ first_cross_of m n + taps_of m n * lines_of m n → Gets (IsFrom first end) (end - first) old new →
      Gets (IsCrossOfNode m n) (taps_of m n * lines_of m n) old new
  crosses_got first end e f g = gets_fewer g (λ x p. from x (crosses_from x p)) (omega (arith, e, f))
    where
      from : (x : ℕ) → IsFrom (first_cross_of m n) (first_cross_of m n + taps_of m n * lines_of m n) x → IsFrom first end x
      from x p = (let low = p.0 in omega (arith, e, low), let high = p.1 in omega (arith, f, high))

  -- ---- taps and lines by their positions

  pub taps_are : (ws : List ℕ) → n < nodes_of m → IsListOf (IsAtOneOf (tap_at m n) (taps_of m n)) ws → IsListOf (IsTap m n) ws
  taps_are ws node list = list_same (IsAtOneOf (tap_at m n) (taps_of m n)) (IsTap m n) ws list
      (λ v p. subst (IsTap m n) (sym p.is) (laws.taps.is_tap n p.position node p.early))
      (λ v t. let p = laws.taps.has_position n v node t in record { position = p.0; early = p.1; is = sym p.2 })

  pub lines_are : (ws : List ℕ) → n < nodes_of m → IsListOf (IsAtOneOf (line_at m n) (lines_of m n)) ws → IsListOf (IsLine m n) ws
  lines_are ws node list = list_same (IsAtOneOf (line_at m n) (lines_of m n)) (IsLine m n) ws list
      (λ v p. subst (IsLine m n) (sym p.is) (laws.sites.line n p.position node p.early))
      (λ v l. let p = laws.sites.some_line n v l in record { position = p.0; early = p.1; is = p.2 })

  pub ports_are : (ws : List ℕ) → n < nodes_of m → IsListOf (IsAtOneOf (port_at m n) (own_ports_of m n)) ws → IsListOf (IsPort m n) ws
  ports_are ws node list = list_same (IsAtOneOf (port_at m n) (own_ports_of m n)) (IsPort m n) ws list
      (λ v p. subst (IsPort m n) (sym p.is) (laws.sites.port n p.position node p.early))
      (λ v l. let p = laws.sites.some_port n v l in record { position = p.0; early = p.1; is = p.2 })

-- ---- the wires of a list

pub before_of : (ws : List Wire) (v : ℕ) → among (wire_numbers ws) v ≡ true → IsWireBefore ws (length ws) v
before_of [] v is = absurd (false≢true is)
before_of (w ∷ ws) v is = by (λ h. before_of ws v h) (or_cases (w.0 == v) (among (wire_numbers ws) v) is)
  where
    by : (among (wire_numbers ws) v ≡ true → IsWireBefore ws (length ws) v) → ((w.0 == v) ≡ true) ⊎ (among (wire_numbers ws) v ≡ true) → IsWireBefore (w ∷ ws) (length (w ∷ ws)) v
    by again (inl e) = record { place = 0; wire = w; early = omega arith; here = refl; is = grind (arith, nat_tests, e) }
    by again (inr h) = let p = again h in record { place = suc p.place; wire = p.wire; early = (let early = p.early in omega (arith, early)); here = p.here; is = p.is }

-- as many more wires of the machine may be marked
pub within_marks : (m : Shape) (ws : List Wire) (marks : List Bool) → length marks ≡ wires_of m → All (λ w. w.0 < wires_of m) ws → All (λ w. w.0 < length marks) ws
within_marks m ws marks e all = subst (λ k. All (λ (w : Wire). w.0 < k) ws) (sym e) all

-- the field is that of the crossbar
pub bar_is_field : (m : Shape) (n : ℕ) (ts ls : List Wire) (start mid cs : List Bool) (a : Field) → AreBarOf m n (wire_numbers ts) (wire_numbers ls) → length ts ≡ taps_of m n → length ls ≡ lines_of m n →
    length start ≡ wires_of m → size_of start ≡ 0 → length cs ≡ crosses_of m → size_of cs ≡ 0 → Gets (IsWireBefore ts (length ts)) (length ts) start mid → Gets (IsWireBefore ls (length ls)) (length ls) mid a.wires →
    Gets (IsCrossOfNode m n) (taps_of m n * lines_of m n) cs a.crosses → IsBarField m n a
bar_is_field m n ts ls start mid cs a bar tap_count line_count len none cross_len no_crosses with_taps with_lines with_crosses = record {
  field = record { wires = with_lines.len ∙ with_taps.len ∙ len; crosses = with_crosses.len ∙ cross_len };
  taps = λ w t. with_lines.stays w (with_taps.all w (before_of ts w (bar.taps.all w t)));
  lines = λ w l. with_lines.all w (before_of ls w (bar.lines.all w l));
  crosses = λ x h e. with_crosses.all x (h, e);
  few_wires = (let one = with_taps.few in let two = with_lines.few in omega (arith, one, two, none, tap_count, line_count));
  few_crosses = (let few = with_crosses.few in omega (arith, few, no_crosses));
}
