-- How many numbers are marked, or stand in a list, that are all in another list.
use Rattle.std.proofs.Common.{◌≡◌, ◌≢◌, ◌⊎◌, ℕ, zero, suc, ◌+◌, ◌*◌, ◌<◌, ◌≤◌, ◌==◌, ◌||◌, eqb, if◌then◌else◌, Bool, true, false, cond, List, [], ◌∷◌, length, map, refl, sym, ap, ◌∙◌, subst, inl, inr, arith, Contains, slice_index_or}
use Rattle.diag_check.proofs.Vocabulary.{count_by, AllByRecursion, IsDistinct, set, cases_eq, false≢true, get_or-set_same, get_or-set_other}
use Rattle.diag_check.proofs.Vocabulary.{length-map, sum_by-cons, list_any-from_Contains, has_number, size_of, ImageValue, Part, WirePart}
use Rattle.diag_check.proofs.Vocabulary.{CrossPart, TablePart, TakesAtMost, TakesAround, AreUsed, AreInvolved, marked_within}
use Rattle.std.specs.Set.{is_member}
use Rattle.std.proofs.lemmas.{Bool.Decides.nat_tests, Cmp.nat_eq_equiv, Map.Made.length-le_from_is_member}
use Rattle.base_bits.proofs.NumbersLemmas.{size_of-taken}
use Rattle.diag_check.specs.Soundly.{AreAllOf, HasSurroundings, TakesForParts, TakesForWays}

-- ---- marks

nothing_marked : (marks : List Bool) → ((n : ℕ) → has_number marks n ≡ true → ⊥) → size_of marks ≡ 0
nothing_marked [] none = refl
nothing_marked (b ∷ marks) none =
    let rest = nothing_marked marks (λ n h. none (suc n) h) in
    let split = sum_by-cons (λ c. cond c 1 0) b marks in
    let first : ◌≡◌ {A = ℕ} (cond b 1 0) 0 = by b (none 0) in omega (arith, rest, split, first)
  where
    by : (c : Bool) → (c ≡ true → ⊥) → ◌≡◌ {A = ℕ} (cond c 1 0) 0
    by true never = absurd (never refl)
    by false never = refl

tail_of : (x : ℕ) (xs : List ℕ) (y : ℕ) → (y ≡ x → ⊥) → Contains (x ∷ xs) y → Contains xs y
tail_of x xs y other (zero, lt, e) = absurd (other (sym e))
tail_of x xs y other (suc k, lt, e) = (k, omega arith, e)

-- as many are marked as the list has, if it has each of them
pub marks_fit : (xs : List ℕ) (marks : List Bool) → ((n : ℕ) → has_number marks n ≡ true → Contains xs n) → size_of marks ≤ length xs
marks_fit [] marks each = omega (arith, nothing_marked marks (λ n h. let c = each n h in let l = c.1 in let no : ⊥ = omega (arith, l) in no))
marks_fit (x ∷ xs) marks each = by (λ ms h. marks_fit xs ms h) (has_number marks x) refl
  where
    by_number : x < length marks → (n : ℕ) → has_number (set marks x false) n ≡ true → (n ≡ x) ⊎ (n ≡ x → ⊥) → Contains xs n
    by_number within n h (inl same) = absurd (false≢true (sym (ap (has_number (set marks x false)) same ∙ get_or-set_same marks x false false within) ∙ h))
    by_number within n h (inr other) = tail_of x xs n other (each n (sym (get_or-set_other marks x n false false other) ∙ h))

    by : ((ms : List Bool) → ((n : ℕ) → has_number ms n ≡ true → Contains xs n) → size_of ms ≤ length xs) → (b : Bool) → has_number marks x ≡ b → size_of marks ≤ length (x ∷ xs)
    by again true e =
        let within = marked_within marks x e in
        let rest = again (set marks x false) (λ n h. by_number within n h (cases_eq n x)) in
        omega (arith, rest, size_of-taken marks x within e)
    by again false e =
        let rest = again marks (λ n h. tail_of x xs n (λ same. false≢true (sym e ∙ ap (has_number marks) (sym same) ∙ h)) (each n h)) in
        omega (arith, rest)

then_in : (x : ℕ) (xs : List ℕ) (y : ℕ) → Contains xs y → Contains (x ∷ xs) y
then_in x xs y (k, lt, e) = (suc k, omega arith, e)

head_in : (x : ℕ) (xs : List ℕ) (y : ℕ) → x ≡ y → Contains (x ∷ xs) y
head_in x xs y e = (0, omega arith, e)

all_in : (P : ℕ → Type 0) (xs : List ℕ) (y : ℕ) → AllByRecursion P xs → Contains xs y → P y
all_in P [] y all (k, lt, e) = absurd (let no : ⊥ = omega (arith, lt) in no)
all_in P (x ∷ xs) y all (zero, lt, e) = subst P e all.0
all_in P (x ∷ xs) y all (suc k, lt, e) = all_in P xs y all.1 (k, omega arith, e)

-- a list is no longer than there are marks, where each has a mark of its own
module _ (place : ℕ → ℕ) where
  marks_hold : (ts : List ℕ) (marks : List Bool) → IsDistinct eqb ts → ((t : ℕ) → Contains ts t → has_number marks (place t) ≡ true) →
      ((t u : ℕ) → Contains ts t → Contains ts u → place t ≡ place u → t ≡ u) → length ts ≤ size_of marks
  unfolding IsDistinct
  marks_hold [] marks distinct each apart = omega arith
  marks_hold (t ∷ ts) marks distinct each apart =
      let on = each t (head_in t ts t refl) in
      let within = marked_within marks (place t) on in
      let rest = marks_hold ts (set marks (place t) false) distinct.1
      (λ u c. get_or-set_other marks (place t) (place u) false false (λ same. other u c (apart u t (then_in t ts u c) (head_in t ts t refl) same)) ∙ each u (then_in t ts u c))
      (λ u v p q. apart u v (then_in t ts u p) (then_in t ts v q)) in
      omega (arith, rest, size_of-taken marks (place t) within on)
    where
      other : (u : ℕ) → Contains ts u → u ≡ t → ⊥
      other u c same = let yes : eqb t u ≡ true = grind (arith, nat_tests, same) in false≢true (sym (all_in (λ y. eqb t y ≡ false) ts u distinct.0 c) ∙ yes)

-- ---- lists in which each stands once

module _ {X : Type 0} (key : X → ℕ) where
  counted_head : (x : X) (xs : List X) (q : ℕ) → count_by (λ y. key y == q) (x ∷ xs) ≡ (if key x == q then 1 else 0) + count_by (λ y. key y == q) xs
  counted_head x xs q = sum_by-cons (λ y. cond (key y == q) 1 0) x xs

  none_equal : (q : ℕ) (xs : List X) → count_by (λ y. key y == q) xs ≡ 0 → AllByRecursion (λ y. eqb q y ≡ false) (map key xs)
  none_equal q [] e = tt
  none_equal q (x ∷ xs) e = (by (cases_eq (key x) q), none_equal q xs (let h = counted_head x xs q in omega (arith, h, e)))
    where
      by : (key x ≡ q) ⊎ (key x ≡ q → ⊥) → eqb q (key x) ≡ false
      by (inl same) = absurd (let one : ◌≡◌ {A = ℕ} (if key x == q then 1 else 0) 1 = (let t : (key x == q) ≡ true = grind (arith, nat_tests, same) in ap {B = ℕ} (λ b. if b then 1 else 0) t) in let h = counted_head x xs q in let no : ⊥ = omega (arith, h, e, one) in no)
      by (inr other) = grind (arith, nat_tests, other)

  distinct_once : (xs : List X) → ((q : ℕ) → count_by (λ y. key y == q) xs ≤ 1) → IsDistinct eqb (map key xs)
  unfolding IsDistinct
  distinct_once [] few = tt
  distinct_once (x ∷ xs) few = (
    none_equal (key x) xs (let one : ◌≡◌ {A = ℕ} (if key x == key x then 1 else 0) 1 = (let t : (key x == key x) ≡ true = grind (arith, nat_tests) in ap {B = ℕ} (λ b. if b then 1 else 0) t) in let h = counted_head x xs (key x) in let f = few (key x) in omega (arith, h, f, one)),
    distinct_once xs (λ q. let h = counted_head x xs q in let f = few q in omega (arith, h, f)),
  )

  -- a number that is counted is one that is told
  module _ (xs : List X) (f : ℕ → Bool) (counts : (q : ℕ) → count_by (λ x. key x == q) xs ≡ (if f q then 1 else 0)) where
    once : (q : ℕ) → count_by (λ x. key x == q) xs ≤ 1
    once q = by (f q) (counts q)
      where
        by : (b : Bool) → count_by (λ x. key x == q) xs ≡ (if b then 1 else 0) → count_by (λ x. key x == q) xs ≤ 1
        by true e = omega (arith, e)
        by false e = omega (arith, e)

    counted_member : (ys : List X) (q : ℕ) → is_member eqb (map key ys) q ≡ true → 0 < count_by (λ x. key x == q) ys
    counted_member [] q h = absurd (false≢true h)
    counted_member (y ∷ ys) q h = by (λ g. counted_member ys q g) (cases_eq (key y) q)
      where
        by : (is_member eqb (map key ys) q ≡ true → 0 < count_by (λ x. key x == q) ys) → (key y ≡ q) ⊎ (key y ≡ q → ⊥) → 0 < count_by (λ x. key x == q) (y ∷ ys)
        by again (inl same) = let one : ◌≡◌ {A = ℕ} (if key y == q then 1 else 0) 1 = (let t : (key y == q) ≡ true = grind (arith, nat_tests, same) in ap {B = ℕ} (λ b. if b then 1 else 0) t) in let e = counted_head y ys q in omega (arith, e, one)
        by again (inr other) =
            let out : eqb q (key y) ≡ false = grind (arith, nat_tests, other) in
            let rest = again (sym (ap (λ b. b || is_member eqb (map key ys) q) out) ∙ h) in
            let e = counted_head y ys q in omega (arith, e, rest)

    told : (q : ℕ) → 0 < count_by (λ x. key x == q) xs → f q ≡ true
    told q l = by (f q) (counts q)
      where
        by : (b : Bool) → count_by (λ x. key x == q) xs ≡ (if b then 1 else 0) → b ≡ true
        by true e = refl
        by false e = absurd (let no : ⊥ = omega (arith, e, l) in no)

    pub list_marks : (place : ℕ → ℕ) (marks : List Bool) → ((q : ℕ) → f q ≡ true → has_number marks (place q) ≡ true) → ((p q : ℕ) → f p ≡ true → f q ≡ true → place p ≡ place q → p ≡ q) → length xs ≤ size_of marks
    list_marks place marks each apart =
        let holds = marks_hold place (map key xs) marks (distinct_once xs once) (λ q c. each q (is_told q c)) (λ p q a b. apart p q (is_told p a) (is_told q b)) in
        omega (arith, holds, length-map xs key)
      where
        is_told : (q : ℕ) → Contains (map key xs) q → f q ≡ true
        is_told q c = told q (counted_member xs q (list_any-from_Contains nat_eq_equiv q (map key xs) c))

    pub list_fits : (ys : List ℕ) → ((q : ℕ) → f q ≡ true → Contains ys q) → length xs ≤ length ys
    list_fits ys each =
        let fits = length-le_from_is_member nat_eq_equiv (map key xs) ys (distinct_once xs once) (λ q h. list_any-from_Contains nat_eq_equiv q ys (each q (told q (counted_member xs q h)))) in
        omega (arith, fits, length-map xs key)

-- ---- the parts of an image by their kinds

abbrev wires_in : List Part → List ℕ
wires_in [] = []
wires_in (WirePart w ∷ ps) = w ∷ wires_in ps
wires_in (CrossPart x ∷ ps) = wires_in ps
wires_in (TablePart t ∷ ps) = wires_in ps

abbrev crosses_in : List Part → List ℕ
crosses_in [] = []
crosses_in (WirePart w ∷ ps) = crosses_in ps
crosses_in (CrossPart x ∷ ps) = x ∷ crosses_in ps
crosses_in (TablePart t ∷ ps) = crosses_in ps

abbrev tables_in : List Part → List ℕ
tables_in [] = []
tables_in (WirePart w ∷ ps) = tables_in ps
tables_in (CrossPart x ∷ ps) = tables_in ps
tables_in (TablePart t ∷ ps) = t ∷ tables_in ps

kinds_add_up : (ps : List Part) → length (wires_in ps) + length (crosses_in ps) + length (tables_in ps) ≡ length ps
kinds_add_up [] = refl
kinds_add_up (WirePart w ∷ ps) = let e = kinds_add_up ps in omega (arith, e)
kinds_add_up (CrossPart x ∷ ps) = let e = kinds_add_up ps in omega (arith, e)
kinds_add_up (TablePart t ∷ ps) = let e = kinds_add_up ps in omega (arith, e)

wire_in : (w : ℕ) (ps : List Part) → Contains ps (WirePart w) → Contains (wires_in ps) w
wire_in w [] (k, lt, e) = absurd (let no : ⊥ = omega (arith, lt) in no)
wire_in w (WirePart v ∷ ps) (zero, lt, e) = head_in v (wires_in ps) w cc
wire_in w (CrossPart v ∷ ps) (zero, lt, e) = cc
wire_in w (TablePart v ∷ ps) (zero, lt, e) = cc
wire_in w (WirePart v ∷ ps) (suc k, lt, e) = then_in v (wires_in ps) w (wire_in w ps (k, omega arith, e))
wire_in w (CrossPart v ∷ ps) (suc k, lt, e) = wire_in w ps (k, omega arith, e)
wire_in w (TablePart v ∷ ps) (suc k, lt, e) = wire_in w ps (k, omega arith, e)

cross_in : (x : ℕ) (ps : List Part) → Contains ps (CrossPart x) → Contains (crosses_in ps) x
cross_in x [] (k, lt, e) = absurd (let no : ⊥ = omega (arith, lt) in no)
cross_in x (WirePart v ∷ ps) (zero, lt, e) = cc
cross_in x (CrossPart v ∷ ps) (zero, lt, e) = head_in v (crosses_in ps) x cc
cross_in x (TablePart v ∷ ps) (zero, lt, e) = cc
cross_in x (WirePart v ∷ ps) (suc k, lt, e) = cross_in x ps (k, omega arith, e)
cross_in x (CrossPart v ∷ ps) (suc k, lt, e) = then_in v (crosses_in ps) x (cross_in x ps (k, omega arith, e))
cross_in x (TablePart v ∷ ps) (suc k, lt, e) = cross_in x ps (k, omega arith, e)

table_in : (t : ℕ) (ps : List Part) → Contains ps (TablePart t) → Contains (tables_in ps) t
table_in t [] (k, lt, e) = absurd (let no : ⊥ = omega (arith, lt) in no)
table_in t (WirePart v ∷ ps) (zero, lt, e) = cc
table_in t (CrossPart v ∷ ps) (zero, lt, e) = cc
table_in t (TablePart v ∷ ps) (zero, lt, e) = head_in v (tables_in ps) t cc
table_in t (WirePart v ∷ ps) (suc k, lt, e) = table_in t ps (k, omega arith, e)
table_in t (CrossPart v ∷ ps) (suc k, lt, e) = table_in t ps (k, omega arith, e)
table_in t (TablePart v ∷ ps) (suc k, lt, e) = then_in v (tables_in ps) t (table_in t ps (k, omega arith, e))

-- so many loads for the marks are so many for the parts
pub for_parts : (i : ImageValue) (nodes used : List Bool) (before after : ℕ) → AreUsed i used → AreInvolved i nodes → TakesAtMost i nodes used before after → TakesForParts i before after
for_parts i nodes used before after are involved takes = record { few = few }
  where
    few : (parts : List Part) (ns : List ℕ) → AreAllOf i parts ns → after ≤ before + 256 * (length parts + length ns)
    few parts ns all =
        let loads = takes.few (crosses_in parts) (tables_in parts) (λ x e. cross_in x parts (all.each_part (CrossPart x) e)) (λ t e. table_in t parts (all.each_part (TablePart t) e)) in
        let wires = marks_fit (wires_in parts) used (λ w h. wire_in w parts (all.each_part (WirePart w) (are.only w h))) in
        let marked = marks_fit ns nodes (λ n h. all.each_node n (involved.only n h)) in
        let sum = kinds_add_up parts in
        omega (arith, loads, wires, marked, sum)

pub for_ways : (i : ImageValue) (nodes used : List Bool) (before after : ℕ) → AreUsed i used → AreInvolved i nodes → TakesAround i nodes used before after → TakesForWays i before after
for_ways i nodes used before after are involved takes = record { few = few }
  where
    few : (parts : List Part) (ns crosses wires : List ℕ) → AreAllOf i parts ns → HasSurroundings i crosses wires → after ≤ before + 256 * (length parts + length ns) + (8 * length crosses + 3 * length wires)
    few parts ns crosses wires all around =
        let loads = takes.few (crosses_in parts) (tables_in parts) crosses wires (λ x e. cross_in x parts (all.each_part (CrossPart x) e)) (λ t e. table_in t parts (all.each_part (TablePart t) e)) around in
        let marks = marks_fit (wires_in parts) used (λ w h. wire_in w parts (all.each_part (WirePart w) (are.only w h))) in
        let marked = marks_fit ns nodes (λ n h. all.each_node n (involved.only n h)) in
        let sum = kinds_add_up parts in
        omega (arith, loads, marks, marked, sum)
