-- The entries of a list, in order.
use Rattle.std.proofs.Common.{◌≡◌, ◌≢◌, ◌⊎◌, inl, inr, ℕ, zero, suc, ◌<◌, ◌≤◌, Bool, true, false, not, ◌&&◌, ◌||◌, if◌then◌else◌, nat_lt, Option, Some, None, List, [], ◌∷◌, ◌++◌, map, refl, sym, ap, ◌∙◌, subst, arith, append_assoc, append-nil, eqb-true, ltb-true, lt-ltb, ◌==◌}
use Rattle.machine_defects.proofs.Vocabulary.{AllByRecursion, contains-empty, nat_cmp, map-append, eq-eqb, and_parts, nat_tests, or_more}
use Rattle.machine_defects.proofs.Vocabulary.{Shape, wires_of, crosses_of, tables_of, Entry, Wire, Cross, Table, IsFreeCross, IsFreeTable}
use Rattle.std.specs.FinSet as sets
use native.Mathlib.Decide.{ℕ_discrete, dec_lt}
use Rattle.machine_defects.specs.Vocabulary.{DefectList, IsDefectList, IsWithWire, no_defects, those, touches_cross, touches_table, with_cross, with_table, has_free_ends, has_free_pins, IsEntryOf, IsFreeEntry, kind_of, entry_number, is_before, as_wire, as_cross, as_table, entries_of, is_listed, is_same, is_behind, IsLast, IsBeyond, IsAdded}
use Rattle.machine_defects.proofs.Telling.{cross_tells, table_tells}

-- ---- numbers that pass a test

pub those_same : (f g : ℕ → Bool) (n : ℕ) → ((k : ℕ) → k < n → f k ≡ g k) → those f n ≡ those g n
those_same f g zero h = refl
those_same f g (suc n) h = (λ i. those_same f g n (λ k lt. h k (omega (arith, lt))) i ++ (if h n (omega arith) i then n ∷ [] else []))

pub those_none : (f : ℕ → Bool) (n : ℕ) → ((k : ℕ) → f k ≡ false) → those f n ≡ []
those_none f zero h = refl
those_none f (suc n) h = (λ i. those_none f n h i ++ (if h n i then n ∷ [] else []))

-- one more, behind all others
pub those_more : (f g : ℕ → Bool) (n j : ℕ) → j < n → ((k : ℕ) → g k ≡ ((k == j) || f k)) → ((k : ℕ) → f k ≡ true → k < j) → those g n ≡ those f n ++ j ∷ []
those_more f g zero j lt more beyond = absurd (let no : ⊥ = omega (arith, lt) in no)
those_more f g (suc n) j lt more beyond = by_place (ℕ_discrete n j) (λ l. those_more f g n j l more beyond)
  where
    off : (k : ℕ) → j ≤ k → (b : Bool) → f k ≡ b → b ≡ false
    off k le false e = refl
    off k le true e = absurd (let h = beyond k e in let no : ⊥ = omega (arith, h, le) in no)

    by_place : Dec (n ≡ j) → (j < n → those g n ≡ those f n ++ j ∷ []) → those g (suc n) ≡ those f (suc n) ++ j ∷ []
    by_place (yes e) step =
        let fn : f n ≡ false = off n (omega (arith, e)) (f n) refl in
        let gn : g n ≡ true = more n ∙ (λ i. eq-eqb n j e i || f n) in
        let below : those g n ≡ those f n = those_same g f n (λ k lk. more k ∙ ap (λ b. b || f k) (let a : (k == j) ≡ false = grind (arith, nat_tests, e, lk) in a)) in
        (λ i. below i ++ (if gn i then n ∷ [] else [])) ∙ ap (λ k. those f n ++ k ∷ []) e ∙ ap (λ t. t ++ j ∷ []) (sym (append-nil (those f n)) ∙ ap (λ b. those f n ++ (if b then n ∷ [] else [])) (sym fn))
    by_place (no ne) step =
        let fn : f n ≡ false = off n (omega (arith, lt)) (f n) refl in
        let gn : g n ≡ false = more n ∙ (λ i. (let a : (n == j) ≡ false = grind (arith, nat_tests, ne) in a) i || fn i) in
        (λ i. step (omega (arith, lt, ne)) i ++ (if gn i then n ∷ [] else [])) ∙ append-nil (those f n ++ j ∷ []) ∙ ap (λ t. t ++ j ∷ []) (sym (append-nil (those f n)) ∙ ap (λ b. those f n ++ (if b then n ∷ [] else [])) (sym fn))

-- ---- membership and order

abbrev pub In : {A : Type 0} → A → List A → Type 0
In a [] = ⊥
In a (x ∷ xs) = (a ≡ x) ⊎ In a xs

pub in_append : {A : Type 0} (a : A) (xs ys : List A) → In a xs ⊎ In a ys → In a (xs ++ ys)
in_append a [] ys (inl h) = absurd h
in_append a [] ys (inr h) = h
in_append a (x ∷ xs) ys (inl (inl e)) = inl e
in_append a (x ∷ xs) ys (inl (inr h)) = inr (in_append a xs ys (inl h))
in_append a (x ∷ xs) ys (inr h) = inr (in_append a xs ys (inr h))

pub in_map : {A B : Type 0} (f : A → B) (a : A) (xs : List A) → In a xs → In (f a) (map f xs)
in_map f a [] h = h
in_map f a (x ∷ xs) (inl e) = inl (ap f e)
in_map f a (x ∷ xs) (inr h) = inr (in_map f a xs h)

pub in_those : (f : ℕ → Bool) (n k : ℕ) → k < n → f k ≡ true → In k (those f n)
in_those f zero k lt is = absurd (let no : ⊥ = omega (arith, lt) in no)
in_those f (suc n) k lt is = in_append k (those f n) (if f n then n ∷ [] else []) (by_place (ℕ_discrete k n) (λ l. in_those f n k l is))
  where
    by_place : Dec (k ≡ n) → (k < n → In k (those f n)) → In k (those f n) ⊎ In k (if f n then n ∷ [] else [])
    by_place (yes e) more = inr (subst (λ b. In k (if b then n ∷ [] else [])) (sym (ap f (sym e) ∙ is)) (inl e))
    by_place (no ne) more = inl (more (omega (arith, lt, ne)))

-- each is before all behind it
abbrev pub Ascends : List Entry → Type 0
Ascends [] = Unit {0}
Ascends (x ∷ xs) = AllByRecursion (λ y. is_before x y ≡ true) xs × Ascends xs

pub all_append : {A : Type 0} (P : A → Type 0) (xs ys : List A) → AllByRecursion P xs → AllByRecursion P ys → AllByRecursion P (xs ++ ys)
all_append P [] ys h g = g
all_append P (x ∷ xs) ys h g = (h.0, all_append P xs ys h.1 g)

pub all_in : {A : Type 0} (P : A → Type 0) (xs : List A) → ((a : A) → In a xs → P a) → AllByRecursion P xs
all_in P [] h = tt
all_in P (x ∷ xs) h = (h x (inl refl), all_in P xs (λ a g. h a (inr g)))

pub ascends_append : (xs ys : List Entry) → Ascends xs → Ascends ys → ((x y : Entry) → In x xs → In y ys → is_before x y ≡ true) → Ascends (xs ++ ys)
ascends_append [] ys p q h = q
ascends_append (x ∷ xs) ys p q h = (all_append (λ y. is_before x y ≡ true) xs ys p.0 (all_in (λ y. is_before x y ≡ true) ys (λ y g. h x y (inl refl) g)), ascends_append xs ys p.1 q (λ a b g. h a b (inr g)))

-- what stands in lists that are put together
pub in_parts : {A : Type 0} (a : A) (xs ys : List A) → In a (xs ++ ys) → In a xs ⊎ In a ys
in_parts a [] ys g = inr g
in_parts a (x ∷ xs) ys (inl e) = inl (inl e)
in_parts {A} a (x ∷ xs) ys (inr g) = by_side (in_parts a xs ys g)
  where
    by_side : In a xs ⊎ In a ys → In a (x ∷ xs) ⊎ In a ys
    by_side (inl h) = inl (inr h)
    by_side (inr h) = inr h

pub from_those : (f : ℕ → Bool) (n k : ℕ) → In k (those f n) → (k < n) × (f k ≡ true)
from_those f zero k h = absurd h
from_those f (suc n) k h = by_part (in_parts k (those f n) (if f n then n ∷ [] else []) h) (λ g. from_those f n k g)
  where
    last : (b : Bool) → f n ≡ b → In k (if b then n ∷ [] else []) → (k < suc n) × (f k ≡ true)
    last true is (inl e) = (omega (arith, e), ap f e ∙ is)
    last true is (inr g) = absurd g
    last false is g = absurd g

    by_part : In k (those f n) ⊎ In k (if f n then n ∷ [] else []) → (In k (those f n) → (k < n) × (f k ≡ true)) → (k < suc n) × (f k ≡ true)
    by_part (inl g) more = let h = more g in (let l = h.0 in omega (arith, l), h.1)
    by_part (inr g) more = last (f n) refl g

pub from_map : {A B : Type 0} (f : A → B) (b : B) (xs : List A) → In b (map f xs) → (a : A) × In a xs × (b ≡ f a)
from_map f b [] h = absurd h
from_map f b (x ∷ xs) (inl e) = (x, inl refl, e)
from_map f b (x ∷ xs) (inr h) = let r = from_map f b xs h in (r.0, inr r.1, r.2)

-- ---- the order of entries

before_parts : (ka na kb nb : ℕ) → (nat_lt ka kb || ((ka == kb) && nat_lt na nb)) ≡ true → (ka < kb) ⊎ ((ka ≡ kb) × (na < nb))
before_parts ka na kb nb e = by_kind (nat_lt ka kb) refl e
  where
    by_number : (b : Bool) → (ka == kb) ≡ b → (b && nat_lt na nb) ≡ true → (ka < kb) ⊎ ((ka ≡ kb) × (na < nb))
    by_number true p g = inr (eqb-true ka kb p, ltb-true na nb g)
    by_number false p g = absurd cc

    by_kind : (b : Bool) → nat_lt ka kb ≡ b → (b || ((ka == kb) && nat_lt na nb)) ≡ true → (ka < kb) ⊎ ((ka ≡ kb) × (na < nb))
    by_kind true p g = inl (ltb-true ka kb p)
    by_kind false p g = by_number (ka == kb) refl g

before_from : (ka na kb nb : ℕ) → (ka < kb) ⊎ ((ka ≡ kb) × (na < nb)) → (nat_lt ka kb || ((ka == kb) && nat_lt na nb)) ≡ true
before_from ka na kb nb (inl lt) = ap (λ b. b || ((ka == kb) && nat_lt na nb)) (lt-ltb ka kb lt)
before_from ka na kb nb (inr h) = (λ i. nat_lt ka kb || (eq-eqb ka kb h.0 i && lt-ltb na nb h.1 i)) ∙ or_true (nat_lt ka kb)
  where
    or_true : (b : Bool) → (b || true) ≡ true
    or_true true = refl
    or_true false = refl

abbrev pub Precedes : Entry → Entry → Type 0
Precedes a b = (kind_of a < kind_of b) ⊎ ((kind_of a ≡ kind_of b) × (entry_number a < entry_number b))

pub precedes : (a b : Entry) → is_before a b ≡ true → Precedes a b
precedes a b e = before_parts (kind_of a) (entry_number a) (kind_of b) (entry_number b) e

pub is_before_of : (a b : Entry) → Precedes a b → is_before a b ≡ true
is_before_of a b h = before_from (kind_of a) (entry_number a) (kind_of b) (entry_number b) h

pub in_turn : (a b c : Entry) → Precedes a b → Precedes b c → Precedes a c
in_turn a b c (inl p) (inl q) = inl (omega (arith, p, q))
in_turn a b c (inl p) (inr q) = inl (let g = q.0 in omega (arith, p, g))
in_turn a b c (inr p) (inl q) = inl (let g = p.0 in omega (arith, g, q))
in_turn a b c (inr p) (inr q) = inr (let g = p.0 in let h = q.0 in omega (arith, g, h), let g = p.1 in let h = q.1 in omega (arith, g, h))

pub same_entry : (a b : Entry) → kind_of a ≡ kind_of b → entry_number a ≡ entry_number b → a ≡ b
same_entry (Wire w) (Wire u) k n = λ i. Wire (record { 0 = n i })
same_entry (Cross w) (Cross u) k n = λ i. Cross (record { 0 = n i })
same_entry (Table w) (Table u) k n = λ i. Table (record { 0 = n i })
same_entry (Wire w) (Cross u) k n = absurd (let no : ⊥ = omega (arith, k) in no)
same_entry (Wire w) (Table u) k n = absurd (let no : ⊥ = omega (arith, k) in no)
same_entry (Cross w) (Wire u) k n = absurd (let no : ⊥ = omega (arith, k) in no)
same_entry (Cross w) (Table u) k n = absurd (let no : ⊥ = omega (arith, k) in no)
same_entry (Table w) (Wire u) k n = absurd (let no : ⊥ = omega (arith, k) in no)
same_entry (Table w) (Cross u) k n = absurd (let no : ⊥ = omega (arith, k) in no)

-- one that isn't before another is the other, or behind it
pub not_before : (a b : Entry) → is_before a b ≡ false → (a ≡ b) ⊎ Precedes b a
not_before a b e = by_kinds (ℕ_discrete (kind_of a) (kind_of b)) (ℕ_discrete (entry_number a) (entry_number b))
  where
    none : Precedes a b → ⊥
    none h = let g : true ≡ false = sym (is_before_of a b h) ∙ e in cc

    by_number : (kind_of a ≡ kind_of b) → (entry_number a ≢ entry_number b) → Dec (entry_number b < entry_number a) → Precedes b a
    by_number k ne (yes lt) = inr (sym k, lt)
    by_number k ne (no ge) = absurd (none (inr (k, omega (arith, ge, ne))))

    by_kind : (kind_of a ≢ kind_of b) → Dec (kind_of b < kind_of a) → Precedes b a
    by_kind ne (yes lt) = inl lt
    by_kind ne (no ge) = absurd (none (inl (omega (arith, ge, ne))))

    by_kinds : Dec (kind_of a ≡ kind_of b) → Dec (entry_number a ≡ entry_number b) → (a ≡ b) ⊎ Precedes b a
    by_kinds (yes k) (yes n) = inl (same_entry a b k n)
    by_kinds (yes k) (no ne) = inr (by_number k ne (dec_lt (entry_number b) (entry_number a)))
    by_kinds (no ne) d = inr (by_kind ne (dec_lt (kind_of b) (kind_of a)))

ascends_those : (mk : ℕ → Entry) → ((k j : ℕ) → k < j → is_before (mk k) (mk j) ≡ true) → (f : ℕ → Bool) (n : ℕ) → Ascends (map mk (those f n))
ascends_those mk h f zero = tt
ascends_those mk h f (suc n) = subst Ascends (sym (map-append mk (those f n) (if f n then n ∷ [] else []))) (ascends_append (map mk (those f n)) (map mk (if f n then n ∷ [] else [])) (ascends_those mk h f n) (last (f n)) (λ x y p q.
    let a = from_map mk x (those f n) p in
    let b = from_map mk y (if f n then n ∷ [] else []) q in
    (λ i. is_before (a.2 i) (b.2 i)) ∙ h a.0 b.0 (let l = (from_those f n a.0 a.1).0 in let g = place (f n) b.0 b.1 in omega (arith, l, g))))
  where
    last : (b : Bool) → Ascends (map mk (if b then n ∷ [] else []))
    last true = (tt, tt)
    last false = tt

    place : (b : Bool) (k : ℕ) → In k (if b then n ∷ [] else []) → k ≡ n
    place true k (inl e) = e
    place true k (inr g) = absurd g
    place false k g = absurd g

module _ (d : DefectList) where
  abbrev pub wire_entries : List Entry
  wire_entries = map as_wire (those (sets.contains d.list.wires) (wires_of d.shape))

  abbrev pub cross_entries : List Entry
  cross_entries = map as_cross (those (sets.contains d.list.crosses) (crosses_of d.shape))

  abbrev pub table_entries : List Entry
  table_entries = map as_table (those (sets.contains d.list.tables) (tables_of d.shape))

  wires_then_crosses : (x y : Entry) → In x wire_entries → In y cross_entries → is_before x y ≡ true
  wires_then_crosses x y p q = let a = from_map as_wire x _ p in let b = from_map as_cross y _ q in (λ i. is_before (a.2 i) (b.2 i))

  then_tables : (x y : Entry) → In x wire_entries ⊎ In x cross_entries → In y table_entries → is_before x y ≡ true
  then_tables x y (inl p) q = let a = from_map as_wire x _ p in let b = from_map as_table y _ q in (λ i. is_before (a.2 i) (b.2 i))
  then_tables x y (inr p) q = let a = from_map as_cross x _ p in let b = from_map as_table y _ q in (λ i. is_before (a.2 i) (b.2 i))

  pub entries_ascend : Ascends (entries_of d)
  entries_ascend = ascends_append (wire_entries ++ cross_entries) table_entries
      (ascends_append wire_entries cross_entries (ascends_those as_wire (λ k j lt. lt-ltb k j lt) (sets.contains d.list.wires) (wires_of d.shape)) (ascends_those as_cross (λ k j lt. lt-ltb k j lt) (sets.contains d.list.crosses) (crosses_of d.shape)) wires_then_crosses)
      (ascends_those as_table (λ k j lt. lt-ltb k j lt) (sets.contains d.list.tables) (tables_of d.shape))
      (λ x y p q. then_tables x y (in_parts x wire_entries cross_entries p) q)

  -- what is listed stands among the entries, and no other
  pub listed_in : IsDefectList d → (a : Entry) → is_listed d a ≡ true → In a (entries_of d)
  listed_in right (Wire w) is = in_append _ (wire_entries ++ cross_entries) table_entries (inl (in_append _ wire_entries cross_entries (inl (in_map as_wire w.0 _ (in_those _ _ w.0 (right.wires w.0 is) is)))))
  listed_in right (Cross x) is = in_append _ (wire_entries ++ cross_entries) table_entries (inl (in_append _ wire_entries cross_entries (inr (in_map as_cross x.0 _ (in_those _ _ x.0 (right.crosses x.0 is) is)))))
  listed_in right (Table t) is = in_append _ (wire_entries ++ cross_entries) table_entries (inr (in_map as_table t.0 _ (in_those _ _ t.0 (right.tables t.0 is) is)))

  among_wires : (a : Entry) → In a wire_entries → (is_listed d a ≡ true) × IsEntryOf d.shape a
  among_wires a p = let r = from_map as_wire a _ p in let k = from_those _ _ r.0 r.1 in (ap (is_listed d) r.2 ∙ k.1, subst (IsEntryOf d.shape) (sym r.2) k.0)

  among_crosses : (a : Entry) → In a cross_entries → (is_listed d a ≡ true) × IsEntryOf d.shape a
  among_crosses a p = let r = from_map as_cross a _ p in let k = from_those _ _ r.0 r.1 in (ap (is_listed d) r.2 ∙ k.1, subst (IsEntryOf d.shape) (sym r.2) k.0)

  among_tables : (a : Entry) → In a table_entries → (is_listed d a ≡ true) × IsEntryOf d.shape a
  among_tables a p = let r = from_map as_table a _ p in let k = from_those _ _ r.0 r.1 in (ap (is_listed d) r.2 ∙ k.1, subst (IsEntryOf d.shape) (sym r.2) k.0)

  among_first : (a : Entry) → In a wire_entries ⊎ In a cross_entries → (is_listed d a ≡ true) × IsEntryOf d.shape a
  among_first a (inl p) = among_wires a p
  among_first a (inr p) = among_crosses a p

  among_all : (a : Entry) → In a (wire_entries ++ cross_entries) ⊎ In a table_entries → (is_listed d a ≡ true) × IsEntryOf d.shape a
  among_all a (inl p) = among_first a (in_parts a wire_entries cross_entries p)
  among_all a (inr p) = among_tables a p

  pub in_listed : (a : Entry) → In a (entries_of d) → (is_listed d a ≡ true) × IsEntryOf d.shape a
  in_listed a h = among_all a (in_parts a (wire_entries ++ cross_entries) table_entries h)

pub all_of : {A : Type 0} (P : A → Type 0) (xs : List A) → AllByRecursion P xs → (a : A) → In a xs → P a
all_of P [] h a g = absurd g
all_of P (x ∷ xs) h a (inl e) = subst P (sym e) h.0
all_of P (x ∷ xs) h a (inr g) = all_of P xs h.1 a g

pub last_most : (above : List Entry) (l a : Entry) → Ascends (above ++ l ∷ []) → In a (above ++ l ∷ []) → (a ≡ l) ⊎ (is_before a l ≡ true)
last_most [] l a asc (inl e) = inl e
last_most [] l a asc (inr g) = absurd g
last_most (x ∷ above) l a asc (inl e) = inr (ap (λ z. is_before z l) e ∙ all_of (λ y. is_before x y ≡ true) (above ++ l ∷ []) asc.0 l (in_append l above (l ∷ []) (inr (inl refl))))
last_most (x ∷ above) l a asc (inr g) = last_most above l a asc.1 g

-- an entry that isn't before the last one, and isn't listed, is behind all that is
pub beyond_all : (d : DefectList) → IsDefectList d → (last : Option Entry) → IsLast (entries_of d) last → (e : Entry) → is_behind e last ≡ false → is_listed d e ≡ false → IsBeyond d e
beyond_all d right None none e not_ free a is = absurd (subst (In a) none (listed_in d right a is))
beyond_all d right (Some l) last e not_ free a is = by_place (last_most last.0 l a (subst Ascends last.1 (entries_ascend d)) (subst (In a) last.1 (listed_in d right a is))) (not_before e l not_)
  where
    listed_last : is_listed d l ≡ true
    listed_last = (in_listed d l (subst (In l) (sym last.1) (in_append l last.0 (l ∷ []) (inr (inl refl))))).0

    differs : e ≡ l → ⊥
    differs g = let h : true ≡ false = sym listed_last ∙ ap (is_listed d) (sym g) ∙ free in cc

    by_place : (a ≡ l) ⊎ (is_before a l ≡ true) → (e ≡ l) ⊎ Precedes l e → is_before a e ≡ true
    by_place p (inl g) = absurd (differs g)
    by_place (inl p) (inr q) = is_before_of a e (subst (λ z. Precedes z e) (sym p) q)
    by_place (inr p) (inr q) = is_before_of a e (in_turn a l e (precedes a l p) q)

-- ---- one entry more

three_wires : (v w c s t u : List Entry) (e : Entry) → v ≡ w ++ e ∷ [] → s ≡ [] → c ≡ [] → u ≡ [] → t ≡ [] → (v ++ s) ++ u ≡ ((w ++ c) ++ t) ++ e ∷ []
three_wires v w c s t u e p q r x y =
    (λ i. (p i ++ q i) ++ x i) ∙ append-nil ((w ++ e ∷ []) ++ []) ∙ append-nil (w ++ e ∷ [])
    ∙ ap (λ z. z ++ e ∷ []) (sym ((λ i. (w ++ r i) ++ y i) ∙ append-nil (w ++ []) ∙ append-nil w))

three_crosses : (v w c s t u : List Entry) (e : Entry) → v ≡ w → s ≡ c ++ e ∷ [] → u ≡ [] → t ≡ [] → (v ++ s) ++ u ≡ ((w ++ c) ++ t) ++ e ∷ []
three_crosses v w c s t u e p q x y =
    (λ i. (p i ++ q i) ++ x i) ∙ append-nil (w ++ (c ++ e ∷ [])) ∙ sym (append_assoc w c (e ∷ []))
    ∙ ap (λ z. z ++ e ∷ []) (sym ((λ i. (w ++ c) ++ y i) ∙ append-nil (w ++ c)))

three_tables : (v w c s t u : List Entry) (e : Entry) → v ≡ w → s ≡ c → u ≡ t ++ e ∷ [] → (v ++ s) ++ u ≡ ((w ++ c) ++ t) ++ e ∷ []
three_tables v w c s t u e p q x = (λ i. (p i ++ q i) ++ x i) ∙ sym (append_assoc (w ++ c) t (e ∷ []))

off : (d : DefectList) (e a : Entry) → IsBeyond d e → is_before a e ≡ false → (b : Bool) → is_listed d a ≡ b → b ≡ false
off d e a beyond not_ false is = refl
off d e a beyond not_ true is = sym (beyond a is) ∙ not_

pub entries_added : (d d2 : DefectList) (e : Entry) → IsEntryOf d.shape e → IsBeyond d e → IsAdded d e d2 → entries_of d2 ≡ entries_of d ++ e ∷ []
entries_added d d2 (Wire w) is beyond added =
    let none_x : (k : ℕ) → sets.contains d.list.crosses k ≡ false = λ k. off d (Wire w) (as_cross k) beyond refl (sets.contains d.list.crosses k) refl in
    let none_t : (k : ℕ) → sets.contains d.list.tables k ≡ false = λ k. off d (Wire w) (as_table k) beyond refl (sets.contains d.list.tables k) refl in
    three_wires (wire_entries d2) (wire_entries d) (cross_entries d) (cross_entries d2) (table_entries d) (table_entries d2) (Wire w)
    (ap (λ m. map as_wire (those (sets.contains d2.list.wires) (wires_of m))) added.shape ∙ ap (map as_wire) (those_more (sets.contains d.list.wires) (sets.contains d2.list.wires) (wires_of d.shape) w.0 is (λ k. added.more (as_wire k)) (λ k on. ltb-true k w.0 (beyond (as_wire k) on))) ∙ map-append as_wire (those (sets.contains d.list.wires) (wires_of d.shape)) (w.0 ∷ []))
    (ap (map as_cross) (those_none (sets.contains d2.list.crosses) (crosses_of d2.shape) (λ k. added.more (as_cross k) ∙ none_x k)))
    (ap (map as_cross) (those_none (sets.contains d.list.crosses) (crosses_of d.shape) none_x))
    (ap (map as_table) (those_none (sets.contains d2.list.tables) (tables_of d2.shape) (λ k. added.more (as_table k) ∙ none_t k)))
    (ap (map as_table) (those_none (sets.contains d.list.tables) (tables_of d.shape) none_t))
entries_added d d2 (Cross x) is beyond added =
    let none_t : (k : ℕ) → sets.contains d.list.tables k ≡ false = λ k. off d (Cross x) (as_table k) beyond refl (sets.contains d.list.tables k) refl in
    three_crosses (wire_entries d2) (wire_entries d) (cross_entries d) (cross_entries d2) (table_entries d) (table_entries d2) (Cross x)
    (ap (λ m. map as_wire (those (sets.contains d2.list.wires) (wires_of m))) added.shape ∙ ap (map as_wire) (those_same (sets.contains d2.list.wires) (sets.contains d.list.wires) (wires_of d.shape) (λ k lk. added.more (as_wire k))))
    (ap (λ m. map as_cross (those (sets.contains d2.list.crosses) (crosses_of m))) added.shape ∙ ap (map as_cross) (those_more (sets.contains d.list.crosses) (sets.contains d2.list.crosses) (crosses_of d.shape) x.0 is (λ k. added.more (as_cross k)) (λ k on. ltb-true k x.0 (beyond (as_cross k) on))) ∙ map-append as_cross (those (sets.contains d.list.crosses) (crosses_of d.shape)) (x.0 ∷ []))
    (ap (map as_table) (those_none (sets.contains d2.list.tables) (tables_of d2.shape) (λ k. added.more (as_table k) ∙ none_t k)))
    (ap (map as_table) (those_none (sets.contains d.list.tables) (tables_of d.shape) none_t))
entries_added d d2 (Table t) is beyond added =
    three_tables (wire_entries d2) (wire_entries d) (cross_entries d) (cross_entries d2) (table_entries d) (table_entries d2) (Table t)
    (ap (λ m. map as_wire (those (sets.contains d2.list.wires) (wires_of m))) added.shape ∙ ap (map as_wire) (those_same (sets.contains d2.list.wires) (sets.contains d.list.wires) (wires_of d.shape) (λ k lk. added.more (as_wire k))))
    (ap (λ m. map as_cross (those (sets.contains d2.list.crosses) (crosses_of m))) added.shape ∙ ap (map as_cross) (those_same (sets.contains d2.list.crosses) (sets.contains d.list.crosses) (crosses_of d.shape) (λ k lk. added.more (as_cross k))))
    (ap (λ m. map as_table (those (sets.contains d2.list.tables) (tables_of m))) added.shape ∙ ap (map as_table) (those_more (sets.contains d.list.tables) (sets.contains d2.list.tables) (tables_of d.shape) t.0 is (λ k. added.more (as_table k)) (λ k on. ltb-true k t.0 (beyond (as_table k) on))) ∙ map-append as_table (those (sets.contains d.list.tables) (tables_of d.shape)) (t.0 ∷ []))

pub none_listed : (m : Shape) → entries_of (record { shape = m; list = no_defects }) ≡ []
none_listed m = (λ i. (map as_wire (those_none (sets.contains no_defects.wires) (wires_of m) (contains-empty nat_cmp) i) ++ map as_cross (those_none (sets.contains no_defects.crosses) (crosses_of m) (contains-empty nat_cmp) i)) ++ map as_table (those_none (sets.contains no_defects.tables) (tables_of m) (contains-empty nat_cmp) i))

-- ---- what listing makes

pub added_wire : (d d2 : DefectList) (w : ℕ) → IsWithWire d w d2 → IsBeyond d (as_wire w) → IsAdded d (as_wire w) d2
added_wire d d2 w h beyond = record { shape = h.shape; more = more }
  where
    more : (a : Entry) → is_listed d2 a ≡ (is_same a (as_wire w) || is_listed d a)
    more (Wire u) = ap (λ s. sets.contains s u.0) h.wires ∙ or_more d.list.wires w u.0
    more (Cross x) = h.crosses x.0 ∙ ap (λ b. b && not (touches_cross d.shape w x.0)) (off d (as_wire w) (Cross x) beyond refl (is_listed d (Cross x)) refl) ∙ sym (off d (as_wire w) (Cross x) beyond refl (is_listed d (Cross x)) refl)
    more (Table t) = h.tables t.0 ∙ ap (λ b. b && not (touches_table d.shape w t.0)) (off d (as_wire w) (Table t) beyond refl (is_listed d (Table t)) refl) ∙ sym (off d (as_wire w) (Table t) beyond refl (is_listed d (Table t)) refl)

pub added_cross : (d d2 : DefectList) (x : ℕ) → d2 ≡ record { shape = d.shape; list = with_cross d.shape d.list x } → has_free_ends d.shape d.list x ≡ true → IsAdded d (as_cross x) d2
added_cross d d2 x e free = record { shape = ap (λ (v : DefectList). v.shape) e; more = λ a. ap (λ (v : DefectList). is_listed v a) (e ∙ ap (λ b. record { shape = d.shape; list = if b then record d.list { crosses = sets.insert d.list.crosses x } else d.list }) free) ∙ more a }
  where
    more : (a : Entry) → is_listed (record { shape = d.shape; list = record d.list { crosses = sets.insert d.list.crosses x } }) a ≡ (is_same a (as_cross x) || is_listed d a)
    more (Wire u) = refl
    more (Cross y) = or_more d.list.crosses x y.0
    more (Table t) = refl

pub added_table : (d d2 : DefectList) (t : ℕ) → d2 ≡ record { shape = d.shape; list = with_table d.shape d.list t } → has_free_pins d.shape d.list t ≡ true → IsAdded d (as_table t) d2
added_table d d2 t e free = record { shape = ap (λ (v : DefectList). v.shape) e; more = λ a. ap (λ (v : DefectList). is_listed v a) (e ∙ ap (λ b. record { shape = d.shape; list = if b then record d.list { tables = sets.insert d.list.tables t } else d.list }) free) ∙ more a }
  where
    more : (a : Entry) → is_listed (record { shape = d.shape; list = record d.list { tables = sets.insert d.list.tables t } }) a ≡ (is_same a (as_table t) || is_listed d a)
    more (Wire u) = refl
    more (Cross y) = refl
    more (Table u) = or_more d.list.tables t u.0

-- a crosspoint that is free has free ends, and a table free pins
pub free_ends : (d : DefectList) (x : ℕ) → IsFreeCross d.shape d.list x → has_free_ends d.shape d.list x ≡ true
free_ends d x f = (and_parts (not (sets.contains d.list.crosses x)) (has_free_ends d.shape d.list x) ((cross_tells d.shape d.list x).1 f)).1

pub free_pins : (d : DefectList) (t : ℕ) → IsFreeTable d.shape d.list t → has_free_pins d.shape d.list t ≡ true
free_pins d t f = (and_parts (not (sets.contains d.list.tables t)) (has_free_pins d.shape d.list t) ((table_tells d.shape d.list t).1 f)).1

pub free_unlisted : (d : DefectList) (e : Entry) → IsFreeEntry d e → is_listed d e ≡ false
free_unlisted d (Wire w) f = f
free_unlisted d (Cross x) f = f.itself
free_unlisted d (Table t) f = f.itself
