-- The links of a wire, row by row.
use Rattle.std.proofs.Common.{◌≡◌, ◌≢◌, ◌⊎◌, ℕ, zero, suc, ◌+◌, ◌*◌, ◌<◌, true, false, Option, Some, None, List, [], ◌∷◌, ◌++◌, length, refl, sym, ap, ◌∙◌, subst, inl, inr, arith, slice_get}
use Rattle.diag_known.proofs.Vocabulary.{false≢true, has_number, Shape, Ends-swap, Support, ends_of, crosses_of}
use Rattle.machine_shape.specs.Vocabulary.{HasCrosses, HasMeetings, HasParents, HasRows, HasSites, HasTaps, IsLine, IsTap, IsTree, cross_at, first_cross_of, line_at, line_position, lines_of, node_of, node_of_cross, nodes_of, parent_of, tap_at, tap_position, taps_of}
use Rattle.diag_known.specs.Vocabulary.{AreBelow, AreInField, AreInOrder, AreLinksOf, AreListed, AreOfEarlier, HasLink, HasMore, IsInField, IsRow, MissesRow, Precedes, across_at, across_of, by_node, by_number, ends_by}
use Rattle.diag_known.specs.declared.{field.Field.Field, links.Row.Row, looks.Across.Across}
use Rattle.diag_known.specs.declared.looks.Across.TheVariants as across
use Rattle.diag_known.proofs.Crosswise.{between_across, ends_here, line_around, line_here, line_not, tap_around}
use Rattle.std.proofs.lemmas.Option.{slice_get_within}
use Rattle.diag_known.proofs.Places.{get_before, get_last, get_pushed, one_more, some_same}

-- none is listed yet
pub none_listed : (m : Shape) (a : Field) (w : ℕ) (links : List Support) → links ≡ [] → AreInField m a w links
none_listed m a w links none j link here = absurd (let no_link = subst (λ ls. slice_get ls j ≡ Some link) none here in by no_link)
  where
    by : slice_get [] j ≡ Some link → ⊥
    by e = cc

pub none_in_order : (m : Shape) (links : List Support) → links ≡ [] → AreInOrder m links
none_in_order m links none i j a b less at = absurd (let no_link = subst (λ ls. slice_get ls i ≡ Some a) none at in by no_link)
  where
    by : slice_get [] i ≡ Some a → ⊥
    by e = cc

pub none_earlier : (m : Shape) (links : List Support) (n : ℕ) → links ≡ [] → AreOfEarlier m links n
none_earlier m links n none j link here = absurd (let no_link = subst (λ ls. slice_get ls j ≡ Some link) none here in by no_link)
  where
    by : slice_get [] j ≡ Some link → ⊥
    by e = cc

has_pushed : {ls : List Support} {x u : ℕ} (link : Support) → HasLink ls x u → HasLink (ls ++ link ∷ []) x u
has_pushed {ls} link h = record { place = h.place; link = h.link; here = get_before ls (link ∷ []) h.place h.link h.here; cross = h.cross; wire = h.wire }

has_last : (ls : List Support) (link : Support) → HasLink (ls ++ link ∷ []) link.cross.0 link.wire.0
has_last ls link = record { place = length ls; link = link; here = get_last ls link; cross = refl; wire = refl }

-- one more is listed
pub more_pushed : {old new : List Support} (link : Support) → new ≡ old ++ link ∷ [] → HasMore old new
more_pushed link pushed x u h = subst (λ ls. HasLink ls x u) (sym pushed) (has_pushed link h)

pub right_pushed : {new : List Support} (m : Shape) (a : Field) (w : ℕ) (old : List Support) (link : Support) → new ≡ old ++ link ∷ [] → AreInField m a w old → IsInField m a link.cross.0 link.wire.0 w → AreInField m a w new
right_pushed m a w old link pushed right this j l here = by (get_pushed old link j l (subst (λ ls. slice_get ls j ≡ Some l) pushed here))
  where
    by : (slice_get old j ≡ Some l) ⊎ ((j ≡ length old) × (link ≡ l)) → IsInField m a l.cross.0 l.wire.0 w
    by (inl h) = right j l h
    by (inr h) = subst (λ (z : Support). IsInField m a z.cross.0 z.wire.0 w) h.1 this

-- one more that each listed one precedes
pub ordered_pushed : {new : List Support} (m : Shape) (old : List Support) (link : Support) → new ≡ old ++ link ∷ [] → AreInOrder m old → ((j : ℕ) (l : Support) → slice_get old j ≡ Some l → Precedes m l.cross.0 link.cross.0) → AreInOrder m new
ordered_pushed m old link pushed order first i j a b less at on = by (get_pushed old link i a (subst (λ ls. slice_get ls i ≡ Some a) pushed at)) (get_pushed old link j b (subst (λ ls. slice_get ls j ≡ Some b) pushed on))
  where
    by : (slice_get old i ≡ Some a) ⊎ ((i ≡ length old) × (link ≡ a)) → (slice_get old j ≡ Some b) ⊎ ((j ≡ length old) × (link ≡ b)) → Precedes m a.cross.0 b.cross.0
    by (inl p) (inl q) = order i j a b less p q
    by (inl p) (inr q) = subst (λ (z : Support). Precedes m a.cross.0 z.cross.0) q.1 (first i a p)
    by (inr p) (inl q) = absurd (let last = p.0 in let within = slice_get_within old j b q in let no : ⊥ = omega (arith, less, last, within) in no)
    by (inr p) (inr q) = absurd (let last = p.0 in let too = q.0 in let no : ⊥ = omega (arith, less, last, too) in no)

-- what is of earlier nodes, or below a crosspoint of this one
pub precedes_row : {m : Shape} (links : List Support) {n x : ℕ} → AreBelow m links n x → node_of_cross m x ≡ n → (j : ℕ) (l : Support) → slice_get links j ≡ Some l → Precedes m l.cross.0 x
precedes_row {m} links {n} {x} below node j l here = by (below j l here)
  where
    by : (node_of_cross m l.cross.0 < n) ⊎ ((node_of_cross m l.cross.0 ≡ n) × (l.cross.0 < x)) → Precedes m l.cross.0 x
    by (inl less) = by_node (subst (λ k. node_of_cross m l.cross.0 < k) (sym node) less)
    by (inr h) = by_number (h.0 ∙ sym node) h.1

pub below_first : (m : Shape) (links : List Support) (n x : ℕ) → AreOfEarlier m links n → AreBelow m links n x
below_first m links n x earlier j l here = inl (earlier j l here)

pub below_past : (m : Shape) (links : List Support) (n : ℕ) {x y : ℕ} → x < y → AreBelow m links n x → AreBelow m links n y
below_past m links n {x} {y} more below j l here = by (below j l here)
  where
    by : (node_of_cross m l.cross.0 < n) ⊎ ((node_of_cross m l.cross.0 ≡ n) × (l.cross.0 < x)) → (node_of_cross m l.cross.0 < n) ⊎ ((node_of_cross m l.cross.0 ≡ n) × (l.cross.0 < y))
    by (inl less) = inl less
    by (inr h) = inr (h.0, (let less = h.1 in omega (arith, less, more)))

pub below_pushed : {new : List Support} (m : Shape) (old : List Support) (link : Support) (n : ℕ) {y : ℕ} → new ≡ old ++ link ∷ [] → node_of_cross m link.cross.0 ≡ n → link.cross.0 < y → AreBelow m old n link.cross.0 → AreBelow m new n y
below_pushed m old link n {y} pushed node more below j l here = by (get_pushed old link j l (subst (λ ls. slice_get ls j ≡ Some l) pushed here))
  where
    by : (slice_get old j ≡ Some l) ⊎ ((j ≡ length old) × (link ≡ l)) → (node_of_cross m l.cross.0 < n) ⊎ ((node_of_cross m l.cross.0 ≡ n) × (l.cross.0 < y))
    by (inl h) = below_past m old n more below j l h
    by (inr h) = inr (subst (λ (z : Support). (node_of_cross m z.cross.0 ≡ n) × (z.cross.0 < y)) h.1 (node, more))

pub below_earlier : (m : Shape) (links : List Support) {n x : ℕ} → AreBelow m links n x → AreOfEarlier m links (n + 1)
below_earlier m links {n} {x} below j l here = by (below j l here)
  where
    by : (node_of_cross m l.cross.0 < n) ⊎ ((node_of_cross m l.cross.0 ≡ n) × (l.cross.0 < x)) → node_of_cross m l.cross.0 < n + 1
    by (inl less) = omega (arith, less)
    by (inr h) = let same = h.0 in omega (arith, same)

pub earlier_more : (m : Shape) (links : List Support) {n k : ℕ} → n < k + 1 → AreOfEarlier m links n → AreOfEarlier m links k
earlier_more m links more earlier j l here = let less = earlier j l here in omega (arith, less, more)

-- a row ascends
step_more : (f i s : ℕ) → 0 < s → f + i * s < f + (i + 1) * s
step_more f i s some = omega (arith, some)

pub row_ascends : {m : Shape} {c : Across} {u n : ℕ} {r : Row} → IsRow m c u n r → (i : ℕ) → r.first + i * r.step < r.first + (i + 1) * r.step
row_ascends {r = r} row i = step_more r.first i r.step row.ascends

-- the crosspoint with the ends of one of a row is that one
here_is : {m : Shape} {c : Across} {u n i x : ℕ} {r : Row} → HasCrosses m → IsRow m c u n r → i < across_of m c n → x < crosses_of m → ends_of m x ≡ ends_by c u (across_at m c n i) → x ≡ r.first + i * r.step
here_is {i = i} {x = x} {r = r} crosses row low less e = crosses.one x (r.first + i * r.step) less (row.within i low) (e ∙ sym (row.ends i low))

-- what was listed of a row still is, and one crosspoint more of it, which isn't of the field
pub listed_past : {m : Shape} {c : Across} {u n i : ℕ} {r : Row} (a : Field) (links : List Support) → HasCrosses m → IsRow m c u n r → i < across_of m c n → AreListed m a links c u n i → has_number a.crosses (r.first + i * r.step) ≡ false → AreListed m a links c u n (i + 1)
listed_past {m} {c} {u} {n} {i} {r} a links crosses row low was off j x less = one_more (λ k. x < crosses_of m → ends_of m x ≡ ends_by c u (across_at m c n k) → has_number a.crosses x ≡ true → HasLink links x (across_at m c n k)) i (λ k before. was k x before)
    (λ within e on. absurd (false≢true (sym off ∙ ap (has_number a.crosses) (sym (here_is crosses row low within e)) ∙ on))) j less

-- .. or is, and was put
pub listed_more : {m : Shape} {c : Across} {u n i : ℕ} {r : Row} {new : List Support} (a : Field) (old : List Support) (link : Support) → HasCrosses m → IsRow m c u n r → i < across_of m c n → AreListed m a old c u n i → new ≡ old ++ link ∷ [] →
    link.cross.0 ≡ r.first + i * r.step → link.wire.0 ≡ across_at m c n i → AreListed m a new c u n (i + 1)
listed_more {m} {c} {u} {n} {i} {r} {new} a old link crosses row low was pushed cross wire j x less = one_more (λ k. x < crosses_of m → ends_of m x ≡ ends_by c u (across_at m c n k) → has_number a.crosses x ≡ true → HasLink new x (across_at m c n k)) i
    (λ k before within e on. more_pushed link pushed x (across_at m c n k) (was k x before within e on))
    (λ within e on. subst (λ v. HasLink new x v) wire (subst (λ y. HasLink new y link.wire.0) (cross ∙ sym (here_is crosses row low within e)) (subst (λ ls. HasLink ls link.cross.0 link.wire.0) (sym pushed) (has_last old link)))) j less

pub listed_first : (m : Shape) (a : Field) (links : List Support) (c : Across) (u n : ℕ) → AreListed m a links c u n 0
listed_first m a links c u n i x less = absurd (let no : ⊥ = omega (arith, less) in no)

-- no crosspoint has such ends
pub listed_none : (m : Shape) (a : Field) (links : List Support) (c : Across) (u n : ℕ) → MissesRow m c u n → AreListed m a links c u n (across_of m c n)
listed_none m a links c u n misses i x less within e = absurd (misses i x less within e)

-- what is listed still is
pub listed_still : (m : Shape) (a : Field) {old new : List Support} (c : Across) (u n count : ℕ) → HasMore old new → AreListed m a old c u n count → AreListed m a new c u n count
listed_still m a c u n count more was i x less within e on = more x (across_at m c n i) (was i x less within e on)

-- a link of a row leads to the wire
pub link_in_field : {m : Shape} {a : Field} {c : Across} {u n i : ℕ} {r : Row} {w x : ℕ} → IsRow m c u n r → i < across_of m c n → x ≡ r.first + i * r.step → w ≡ across_at m c n i → has_number a.crosses x ≡ true → IsInField m a x w u
link_in_field {m} {a} {c} {u} {n} {i} {r} {w} {x} row low cross wire on = subst (λ y. IsInField m a y w u) (sym cross) (subst (λ v. IsInField m a (r.first + i * r.step) v u) (sym wire) (record {
  within = row.within i low;
  has = ap (has_number a.crosses) (sym cross) ∙ on;
  at = (between_across c (row.within i low) (row.ends i low)).at;
}))

-- the place of a node's line among its lines
line_zero : {m : Shape} → HasRows m → (n j : ℕ) → line_at m n j ≡ line_at m n 0 → j ≡ 0
line_zero {m} rows n j e = let at = rows.line n j in omega (arith, at, e)

tap_zero : {m : Shape} → HasTaps m → (n j : ℕ) → n < nodes_of m → j < taps_of m n → tap_at m n j ≡ tap_at m n 0 → j ≡ 0
tap_zero {m} taps n zero within low e = refl
tap_zero {m} taps n (suc j) within low e = absurd (let more : 0 < suc j = omega arith in let up = taps.ascend n 0 (suc j) within more low in let no : ⊥ = omega (arith, up, e) in no)

-- a crosspoint at a place of a node's crossbar, by its number
number_here : {m : Shape} → HasCrosses m → HasRows m → (n c i j : ℕ) → c < crosses_of m → node_of_cross m c ≡ n → tap_position m c ≡ i → line_position m c ≡ j → c ≡ first_cross_of m n + i * lines_of m n + j
number_here {m} crosses rows n c i j less at tap line =
    sym (crosses.back c less) ∙ ap (λ k. cross_at m k (tap_position m c) (line_position m c)) at ∙ ap (λ k. cross_at m n k (line_position m c)) tap ∙ ap (cross_at m n i) line ∙ rows.cross n i j

along : (f p i c : ℕ) → c ≡ f + p + 0 → c + i * 1 ≡ f + p + i
along f p i c e = omega (arith, e)

across_rows : (f l p j c : ℕ) → c ≡ f + 0 * l + j → c + p ≡ f + p + j
across_rows f l p j c e = omega (arith, e)

-- The crosspoints of a tap with the lines of a node, from the first one on.
module _ {m : Shape} (tree : IsTree m) (crosses : HasCrosses m) (meetings : HasMeetings m) (rows : HasRows m) (sites : HasSites m) (n u line : ℕ) (node : n < nodes_of m) (is_first : line ≡ line_at m n 0) where
  line_node_is : (x i : ℕ) → i < lines_of m n → x < crosses_of m → (ends_of m x).1 ≡ line_at m n i → node_of_cross m x ≡ n
  line_node_is x i low less e = sym (tree.line_node (node_of_cross m x) (line_at m n i) (subst (IsLine m (node_of_cross m x)) e (meetings.line x less))) ∙ tree.line_node n (line_at m n i) (sites.line n i node low)

  pub tap_row_is : (first : ℕ) → 0 < lines_of m n → (first < crosses_of m) × (ends_of m first ≡ (u, line)) → (r : Row) → r.first ≡ first → r.step ≡ 1 → IsRow m across.Lines u n r
  tap_row_is first some found r begins step = record { ascends = (let one = step in omega (arith, one)); node = λ i low. subst (λ x. node_of_cross m x ≡ n) (sym (number i)) (rows.node n a i node a_low low); within = λ i low. subst (λ x. x < crosses_of m) (sym (number i)) (rows.within n a i node a_low low); ends = λ i low. ap (ends_of m) (number i) ∙ rows.ends n a i node a_low low ∙ ap (λ w. (w, line_at m n i)) is_tap }
    where
      ends_first : ends_of m first ≡ (u, line_at m n 0)
      ends_first = found.1 ∙ ap (λ w. (u, w)) is_first

      at : node_of_cross m first ≡ n
      at = line_node_is first 0 some found.0 (ap (λ (p : ℕ × ℕ). p.1) ends_first)

      a : ℕ
      a = tap_position m first

      a_low : a < taps_of m n
      a_low = subst (λ k. a < taps_of m k) at (crosses.tap first found.0)

      here : ends_of m first ≡ (tap_at m n a, line_at m n (line_position m first))
      here = ends_here m crosses first found.0 ∙ ap (λ k. (tap_at m k a, line_at m k (line_position m first))) at

      is_tap : tap_at m n a ≡ u
      is_tap = ap (λ (p : ℕ × ℕ). p.0) (sym here ∙ ends_first)

      begin : line_position m first ≡ 0
      begin = line_zero rows n (line_position m first) (ap (λ (p : ℕ × ℕ). p.1) (sym here ∙ ends_first))

      number : (i : ℕ) → r.first + i * r.step ≡ first_cross_of m n + a * lines_of m n + i
      number i = rw (begins, step) (along (first_cross_of m n) (a * lines_of m n) i first (number_here crosses rows n first a 0 found.0 at refl begin))

  pub tap_row_none : 0 < lines_of m n → ((x : ℕ) → x < crosses_of m → ends_of m x ≢ (u, line)) → MissesRow m across.Lines u n
  tap_row_none some none i x low less e = none met.0 met.1 (met.2 ∙ ap (λ w. (u, w)) (sym is_first))
    where
      at : node_of_cross m x ≡ n
      at = line_node_is x i low less (ap (λ (p : ℕ × ℕ). p.1) e)

      tap : IsTap m n u
      tap = subst (λ k. IsTap m k u) at (subst (IsTap m (node_of_cross m x)) (ap (λ (p : ℕ × ℕ). p.0) e) (meetings.tap x less))

      met : (y : ℕ) × (y < crosses_of m) × (ends_of m y ≡ (u, line_at m n 0))
      met = let y = meetings.meet n u (line_at m n 0) tap (sites.line n 0 node some) in (y.0, y.1, y.2)

-- The crosspoints of a line of its node with the taps, from the first one on.
module _ {m : Shape} (tree : IsTree m) (crosses : HasCrosses m) (meetings : HasMeetings m) (rows : HasRows m) (taps : HasTaps m) (n u tap : ℕ) (node : n < nodes_of m) (home : n ≡ node_of m u) (is_first : tap ≡ tap_at m n 0) where
  pub line_row_is : (first : ℕ) → (first < crosses_of m) × (ends_of m first ≡ (tap, u)) → (r : Row) → r.first ≡ first → r.step ≡ lines_of m n → IsRow m across.Taps u n r
  line_row_is first found r begins step = record { ascends = (let lines = step in let some = b_low in omega (arith, lines, some)); node = λ i low. subst (λ x. node_of_cross m x ≡ n) (sym (number i)) (rows.node n i b node low b_low); within = λ i low. subst (λ x. x < crosses_of m) (sym (number i)) (rows.within n i b node low b_low); ends = λ i low. ap (ends_of m) (number i) ∙ rows.ends n i b node low b_low ∙ ap (λ w. (tap_at m n i, w)) is_line }
    where
      ends_first : ends_of m first ≡ (tap_at m n 0, u)
      ends_first = found.1 ∙ ap (λ w. (w, u)) is_first

      at : node_of_cross m first ≡ n
      at = line_here m tree meetings first u n home found.0 (ap (λ (p : ℕ × ℕ). p.1) ends_first)

      b : ℕ
      b = line_position m first

      b_low : b < lines_of m n
      b_low = subst (λ k. b < lines_of m k) at (crosses.line first found.0)

      here : ends_of m first ≡ (tap_at m n (tap_position m first), line_at m n b)
      here = ends_here m crosses first found.0 ∙ ap (λ k. (tap_at m k (tap_position m first), line_at m k b)) at

      is_line : line_at m n b ≡ u
      is_line = ap (λ (p : ℕ × ℕ). p.1) (sym here ∙ ends_first)

      begin : tap_position m first ≡ 0
      begin = tap_zero taps n (tap_position m first) node (subst (λ k. tap_position m first < taps_of m k) at (crosses.tap first found.0)) (ap (λ (p : ℕ × ℕ). p.0) (sym here ∙ ends_first))

      number : (i : ℕ) → r.first + i * r.step ≡ first_cross_of m n + i * lines_of m n + b
      number i = rw (begins, step) (across_rows (first_cross_of m n) (lines_of m n) (i * lines_of m n) b first (number_here crosses rows n first 0 b found.0 at begin refl))

  pub line_row_none : (count : ℕ) → count ≡ taps_of m n → count ≢ 0 → ((x : ℕ) → x < crosses_of m → ends_of m x ≢ (tap, u)) → MissesRow m across.Taps u n
  line_row_none count many some none i x low less e =
      line_not m taps meetings n tap u count node many some is_first none x less (line_here m tree meetings x u n home less (ap (λ (p : ℕ × ℕ). p.1) e)) (ap (λ (p : ℕ × ℕ). p.1) e)

pub no_taps_row : (m : Shape) (u n count : ℕ) → count ≡ taps_of m n → count ≡ 0 → MissesRow m across.Taps u n
no_taps_row m u n count many none i x low = absurd (let no : ⊥ = omega (arith, many, none, low) in no)

-- all links of a wire
abbrev Listed : Field → List Support → ℕ → ℕ → Type 0
Listed a links x u = has_number a.crosses x ≡ true → HasLink links x u

module _ {m : Shape} {a : Field} (w node : ℕ) {links : List Support} (tree : IsTree m) (crosses : HasCrosses m) (meetings : HasMeetings m) (home : node ≡ node_of m w) (right : AreInField m a w links) (ordered : AreInOrder m links) where
  pub links_of_line : ((x : ℕ) → x < crosses_of m → (ends_of m x).0 ≢ w) → AreListed m a links across.Taps w node (taps_of m node) → AreLinksOf m a w links
  links_of_line no_tap listed = record { right = right; whole = λ x u i. line_around (Listed a links) refl w node tree crosses meetings home no_tap listed x u i.within (Ends-swap i.at) i.has; ordered = ordered }

  pub links_of_tap : HasParents m → ((x : ℕ) → x < crosses_of m → node_of_cross m x ≡ node → (ends_of m x).1 ≢ w) →
      ((n : ℕ) → parent_of m node ≡ Some n → AreListed m a links across.Lines w n (lines_of m n)) → AreListed m a links across.Lines w node (lines_of m node) → AreLinksOf m a w links
  links_of_tap parents no_line above here = record { right = right; whole = λ x u i. tap_around (Listed a links) refl w node tree crosses meetings home parents no_line above here x u i.within (Ends-swap i.at) i.has; ordered = ordered }

-- a node without one above, and with one
pub none_above : (m : Shape) (node : ℕ) {n : ℕ} → parent_of m node ≡ None → parent_of m node ≡ Some n → ⊥
none_above m node {n} none up = by (sym none ∙ up)
  where
    by : ◌≡◌ {A = Option ℕ} None (Some n) → ⊥
    by e = cc

pub listed_above : (m : Shape) (a : Field) (links : List Support) (u node : ℕ) {p n : ℕ} → parent_of m node ≡ Some p → parent_of m node ≡ Some n → AreListed m a links across.Lines u p (lines_of m p) → AreListed m a links across.Lines u n (lines_of m n)
listed_above m a links u node at up listed = subst (λ i. AreListed m a links across.Lines u i (lines_of m i)) (some_same (sym at ∙ up)) listed
