-- The field of an image, as it is marked.
use Rattle.std.proofs.Common.{◌≡◌, ◌≢◌, ◌⊎◌, ℕ, ◌+◌, ◌*◌, ◌<◌, ◌≤◌, Bool, true, false, Some, None, List, All, length, take, sym, ap, ◌∙◌, subst, inl, inr, arith, slice_get}
use Rattle.diag_check.proofs.Vocabulary.{set, false≢true, count_by_more_yes, count_by_more_no, slice_get_within, get_or_from_slice_get}
use Rattle.diag_check.proofs.Vocabulary.{has_number, size_of, Shape, Cross, Wire, HasCrosses, crosses_of, ends_of, node_of, parent_of}
use Rattle.diag_check.proofs.Vocabulary.{IsFieldOf, Gets, IsWireBefore, Field, IsAmong, Frame, Picks, some_same}
use Rattle.std.proofs.Math.Nat.{mul-le-mul_left, mul-le-mul_right}
use Rattle.diag_check.specs.Fields.{IsCrossOf, IsOnLines, IsBetween, IsCrossBefore, IsPicksOf, IsOfEither, of_own, of_lines, IsPickOf, IsJointOf, own_joint, up_joint, OfMarked, IsHungAt, IsHungOn}
use Rattle.diag_known.proofs.Getting.{below_or, gets_none, gets_one, gets_more, gets_fewer}

-- what holds of each element holds of that at a place
pub all_at : {A : Type 0} (P : A → Type 0) (xs : List A) (i : ℕ) (x : A) → All P xs → slice_get xs i ≡ Some x → P x
all_at P xs i x all e = subst P (get_or_from_slice_get xs i x x e) (all i x (slice_get_within xs i x e))

-- ---- wires and crosspoints of lists

module _ (ws : List Wire) where
  pub among_before : {w : ℕ} → IsAmong ws w → IsWireBefore ws (length ws) w
  among_before a = record { place = a.place; wire = a.wire; early = slice_get_within ws a.place a.wire a.here; here = a.here; is = a.is }

module _ (xs : List Cross) where
  pub crosses_next : (n : ℕ) (c : Cross) {old mid : List Bool} → Gets (IsCrossBefore xs n) n old mid → slice_get xs n ≡ Some c → c.0 < length mid → Gets (IsCrossBefore xs (n + 1)) (n + 1) old (set mid c.0 true)
  crosses_next n c g here within = gets_one c.0 g within from (omega arith)
    where
      from : (y : ℕ) → IsCrossBefore xs (n + 1) y → IsCrossBefore xs n y ⊎ (y ≡ c.0)
      from y p = by (below_or n p.place p.early)
        where
          by : (p.place < n) ⊎ (p.place ≡ n) → IsCrossBefore xs n y ⊎ (y ≡ c.0)
          by (inl l) = inl (record { place = p.place; cross = p.cross; early = l; here = p.here; is = p.is })
          by (inr e) = inr (sym p.is ∙ ap (λ (z : Cross). z.0) (some_same (sym p.here ∙ ap (slice_get xs) e ∙ here)))

-- ---- crosspoints of taps with lines

module _ (m : Shape) where
  pub meet_some : (t l c : ℕ) {marks : List Bool} → HasCrosses m → c < crosses_of m → ends_of m c ≡ (t, l) → c < length marks → Gets (IsCrossOf m t l) 1 marks (set marks c true)
  meet_some t l c crosses below e within = gets_one {P = λ _. ⊥} c (gets_none (λ x no. no)) within from (omega arith)
    where
      from : (y : ℕ) → IsCrossOf m t l y → ⊥ ⊎ (y ≡ c)
      from y p = inr (let at : ends_of m y ≡ (t, l) = λ j. (p.tap j, p.line j) in crosses.one y c p.within below (at ∙ sym e))

  -- with one more tap, whose crosspoints with all lines were marked
  pub between_next : (taps lines : List Wire) (n : ℕ) (t : Wire) {old mid new : List Bool} → Gets (IsBetween m taps lines n) (n * length lines) old mid → slice_get taps n ≡ Some t →
      Gets (IsOnLines m t.0 lines (length lines)) (length lines) mid new → Gets (IsBetween m taps lines (n + 1)) ((n + 1) * length lines) old new
  between_next taps lines n t g here h = gets_more g h from (omega arith)
    where
      from : (y : ℕ) → IsBetween m taps lines (n + 1) y → IsBetween m taps lines n y ⊎ IsOnLines m t.0 lines (length lines) y
      from y p = by (below_or n p.place p.early)
        where
          by : (p.place < n) ⊎ (p.place ≡ n) → IsBetween m taps lines n y ⊎ IsOnLines m t.0 lines (length lines) y
          by (inl l) = inl (record { place = p.place; tap = p.tap; early = l; here = p.here; cross = p.cross })
          by (inr e) = inr (subst (λ (z : Wire). IsOnLines m z.0 lines (length lines) y) (some_same (sym p.here ∙ ap (slice_get taps) e ∙ here)) p.cross)

-- ---- what is picked of a node

pub either_wires : (p : Picks) {old mid new : List Bool} → Gets (IsWireBefore p.own.items (length p.own.items)) (length p.own.items) old mid →
    Gets (IsWireBefore p.lines.items (length p.lines.items)) (length p.lines.items) mid new → Gets (IsOfEither p) (length p.own.items + length p.lines.items) old new
either_wires p g h = gets_more g h from (omega arith)
  where
    from : (y : ℕ) → IsOfEither p y → IsWireBefore p.own.items (length p.own.items) y ⊎ IsWireBefore p.lines.items (length p.lines.items) y
    from y (of_own a) = inl (among_before p.own.items a)
    from y (of_lines a) = inr (among_before p.lines.items a)

-- at most so many ports with at most so many lines
product_few : (x y most : ℕ) → x ≤ most → y ≤ most → x * y ≤ most * most
product_few x y most a b =
    let one = mul-le-mul_left x b in
    let other = mul-le-mul_right most a in omega (arith, one, other)

module _ (m : Shape) (f : Frame) (k : ℕ) (p : Picks) (here : slice_get f.picks.items k ≡ Some p) (is : IsPicksOf m f.most p) where
  same_pick : (q : Picks) → slice_get f.picks.items k ≡ Some q → q ≡ p
  same_pick q e = some_same (sym e ∙ here)

  pub pick_wires : {old new : List Bool} → Gets (IsOfEither p) (length p.own.items + length p.lines.items) old new → Gets (IsPickOf f.picks.items k) (2 * f.most) old new
  pick_wires g = gets_fewer g (λ y q. subst (λ (z : Picks). IsOfEither z y) (same_pick q.picks_here q.here) q.is) (let a = is.few_own in let b = is.few_lines in omega (arith, a, b))

  own_between : {old new : List Bool} → Gets (IsBetween m p.own.items p.lines.items (length p.own.items)) (length p.own.items * length p.lines.items) old new → Gets (IsBetween m p.own.items p.lines.items (length p.own.items)) (f.most * f.most) old new
  own_between g = gets_fewer g (λ y q. q) (product_few (length p.own.items) (length p.lines.items) f.most is.few_own is.few_lines)

  -- a node with none above it has its own joints alone
  pub root_joints : {old new : List Bool} → Gets (IsBetween m p.own.items p.lines.items (length p.own.items)) (length p.own.items * length p.lines.items) old new → parent_of m k ≡ None → Gets (IsJointOf m f.picks.items k) (2 * f.most * f.most) old new
  root_joints g none = gets_fewer (own_between g) from (omega arith)
    where
      from : (y : ℕ) → IsJointOf m f.picks.items k y → IsBetween m p.own.items p.lines.items (length p.own.items) y
      from y (own_joint q e b) = subst (λ (z : Picks). IsBetween m z.own.items z.lines.items (length z.own.items) y) (same_pick q e) b
      from y (up_joint q r n e parent h b) = absurd (let no : None ≡ Some n = sym none ∙ parent in cc)

  pub up_joints : (n : ℕ) (r : Picks) {old mid new : List Bool} → Gets (IsBetween m p.own.items p.lines.items (length p.own.items)) (length p.own.items * length p.lines.items) old mid → parent_of m k ≡ Some n → slice_get f.picks.items n ≡ Some r → IsPicksOf m f.most r →
      Gets (IsBetween m p.own.items r.lines.items (length p.own.items)) (length p.own.items * length r.lines.items) mid new → Gets (IsJointOf m f.picks.items k) (2 * f.most * f.most) old new
  up_joints n r g parent there up h = gets_more (own_between g) (gets_fewer h (λ y q. q) (product_few (length p.own.items) (length r.lines.items) f.most is.few_own up.few_lines)) from (omega arith)
    where
      from : (y : ℕ) → IsJointOf m f.picks.items k y → IsBetween m p.own.items p.lines.items (length p.own.items) y ⊎ IsBetween m p.own.items r.lines.items (length p.own.items) y
      from y (own_joint q e b) = inl (subst (λ (z : Picks). IsBetween m z.own.items z.lines.items (length z.own.items) y) (same_pick q e) b)
      from y (up_joint q s j e parent_too h_too b) =
          let at : j ≡ n = some_same (sym parent_too ∙ parent) in
          let over : s ≡ r = some_same (sym h_too ∙ ap (slice_get f.picks.items) at ∙ there) in
          inr (subst (λ (z : Picks). IsBetween m z.own.items r.lines.items (length z.own.items) y) (same_pick q e) (subst (λ (z : Picks). IsBetween m q.own.items z.lines.items (length q.own.items) y) over b))

pub hung_on : (m : Shape) (f : Frame) (w : ℕ) (p : Picks) → slice_get f.picks.items (node_of m w) ≡ Some p → IsPicksOf m f.most p → {old new : List Bool} → Gets (IsHungAt m p w) (length p.lines.items + length p.own.items) old new →
    Gets (IsHungOn m f.picks.items w) (2 * f.most) old new
hung_on m f w p here is g = gets_fewer g (λ y q. subst (λ (z : Picks). IsHungAt m z w y) (some_same (sym q.here ∙ here)) q.is) (let a = is.few_own in let b = is.few_lines in omega (arith, a, b))

-- one wire alone
pub one_wire : (w : ℕ) {marks : List Bool} → w < length marks → Gets (λ u. u ≡ w) 1 marks (set marks w true)
one_wire w within = gets_one {P = λ _. ⊥} w (gets_none (λ x no. no)) within (λ y e. inr e) (omega arith)

-- ---- over all marked places

module _ (marks : List Bool) (these : ℕ → ℕ → Type 0) where
  from_next : (n : ℕ) (y : ℕ) → OfMarked marks these (n + 1) y → OfMarked marks these n y ⊎ ((has_number marks n ≡ true) × these n y)
  from_next n y p = by (below_or n p.place p.early)
    where
      by : (p.place < n) ⊎ (p.place ≡ n) → OfMarked marks these n y ⊎ ((has_number marks n ≡ true) × these n y)
      by (inl l) = inl (record { place = p.place; early = l; marked = p.marked; is = p.is })
      by (inr e) = inr (ap (has_number marks) (sym e) ∙ p.marked, subst (λ j. these j y) e p.is)

  pub marked_next : (each n : ℕ) {old mid new : List Bool} → n < length marks → Gets (OfMarked marks these n) (each * size_of (take n marks)) old mid → has_number marks n ≡ true → Gets (these n) each mid new →
      Gets (OfMarked marks these (n + 1)) (each * size_of (take (n + 1) marks)) old new
  marked_next each n within g marked h = gets_more g h from
      (let e : each * size_of (take (n + 1) marks) ≡ each * (size_of (take n marks) + 1) = ap (λ z. each * z) (count_by_more_yes (λ b. b) marks n false within marked) in omega (arith, e))
    where
      from : (y : ℕ) → OfMarked marks these (n + 1) y → OfMarked marks these n y ⊎ these n y
      from y p = by (from_next n y p)
        where
          by : OfMarked marks these n y ⊎ ((has_number marks n ≡ true) × these n y) → OfMarked marks these n y ⊎ these n y
          by (inl q) = inl q
          by (inr q) = inr q.1

  pub marked_pass : (each n : ℕ) {old mid : List Bool} → n < length marks → Gets (OfMarked marks these n) (each * size_of (take n marks)) old mid → has_number marks n ≡ false →
      Gets (OfMarked marks these (n + 1)) (each * size_of (take (n + 1) marks)) old mid
  marked_pass each n within g out = gets_fewer g from
      (let e : each * size_of (take (n + 1) marks) ≡ each * size_of (take n marks) = ap (λ z. each * z) (count_by_more_no (λ b. b) marks n false within out) in omega (arith, e))
    where
      from : (y : ℕ) → OfMarked marks these (n + 1) y → OfMarked marks these n y
      from y p = by (from_next n y p)
        where
          by : OfMarked marks these n y ⊎ ((has_number marks n ≡ true) × these n y) → OfMarked marks these n y
          by (inl q) = q
          by (inr q) = absurd (false≢true (sym out ∙ q.0))

-- of a field: the wires and the crosspoints for each of the first n marked places
pub record HasMarked (m : Shape) (marks : List Bool) (n : ℕ) (ws xs : ℕ → ℕ → Type 0) (few most : ℕ) (old new : Field) : Type 0 where
  pub field_of : IsFieldOf m new
  pub wires : Gets (OfMarked marks ws n) (few * size_of (take n marks)) old.wires new.wires
  pub crosses : Gets (OfMarked marks xs n) (most * size_of (take n marks)) old.crosses new.crosses

pub field_next : {m : Shape} {marks : List Bool} {ws xs : ℕ → ℕ → Type 0} (few most n : ℕ) {old mid new : Field} → HasMarked m marks n ws xs few most old mid → n < length marks → has_number marks n ≡ true →
    Gets (ws n) few mid.wires new.wires → Gets (xs n) most mid.crosses new.crosses → HasMarked m marks (n + 1) ws xs few most old new
field_next {marks = marks} {ws} {xs} few most n has within marked w c = record {
  field_of = record { wires = w.len ∙ has.field_of.wires; crosses = c.len ∙ has.field_of.crosses };
  wires = marked_next marks ws few n within has.wires marked w;
  crosses = marked_next marks xs most n within has.crosses marked c;
}

pub field_pass : {m : Shape} {marks : List Bool} {ws xs : ℕ → ℕ → Type 0} (few most n : ℕ) {old mid : Field} → HasMarked m marks n ws xs few most old mid → n < length marks → has_number marks n ≡ false →
    HasMarked m marks (n + 1) ws xs few most old mid
field_pass {marks = marks} {ws} {xs} few most n has within out = record {
  field_of = has.field_of;
  wires = marked_pass marks ws few n within has.wires out;
  crosses = marked_pass marks xs most n within has.crosses out;
}
