-- The text of a list has no fault, and is that of no other list.
use Rattle.std.proofs.Common.{◌≡◌, ◌≢◌, inl, inr, ℕ, ◌≤◌, Bool, true, false, List, [], ◌∷◌, ◌++◌, length, map, drop, get_or, refl, sym, ap, ◌∙◌, subst, arith, append_assoc, append-nil, length-append, Result, Ok, Err, IfOk, IfErr}
use Rattle.machine_defects.proofs.Vocabulary.{decimal, AllByRecursion, both_ways, Shape, HasNames, HasCrosses, IsNumbered, ends_of}
use Rattle.machine_defects.proofs.Vocabulary.{table_wire, IsFreeWire, spaced, written, written_line, Entry, Wire, Cross, Table, DefectsKind}
use Rattle.machine_defects.proofs.Vocabulary.{first_form, shape_form, entry_form, end_form, wire_form, cross_form, table_form, formless}
use Rattle.machine_defects.proofs.Vocabulary.{other_machine, nameless, earlier, again, nothing, begun, listed}
use Rattle.std.specs.FinSet as sets
use Rattle.machine_defects.specs.declared.kind.DefectsFault.{DefectsFault, TheVariants.At, TheVariants.Memory}
use Rattle.machine_defects.specs.Vocabulary.{DefectList, IsDefectList, IsEntryOf, IsFreeEntry, entry_words, is_before, entries_of, counts_of, first_row, shape_row, end_row, rows_of, text_of, IsEntryForm, AreCounts, IsBeforeLast, IsLineFault, AreAbove, IsFaultBehind, IsFirstFault, IsText, GivesOrLacks, is_listed, IsFirst}
use Rattle.machine_defects.proofs.Marks.{same_members}
use Rattle.machine_defects.proofs.Rows.{IsCleanRow, AreCleanRows, first_rows, front, clean_append}
use Rattle.machine_defects.proofs.Plain.{wire_is_word, table_is_word}
use Rattle.machine_defects.proofs.Numerals.{one_number}
use Rattle.machine_defects.proofs.Entries.{In, in_append, all_in, all_of, Ascends, entries_ascend, listed_in, in_listed, Precedes, precedes}
use Rattle.machine_defects.proofs.Reading.{tap_within, line_within, clean_form, written-more}

pub record IsTold (m : Shape) : Type 0 where
  pub names : HasNames m
  pub crosses : HasCrosses m
  pub numbered : IsNumbered m
  pub counts : AreCounts (counts_of m.counts)

-- ---- words of entries

abbrev head_byte : List (List ℕ) → ℕ
head_byte row = get_or (get_or row 0 []) 0 0

module _ (m : Shape) (k : IsTold m) where
  pub entry_has_form : (e : Entry) → IsEntryOf m e → IsEntryForm (entry_words m e)
  entry_has_form (Wire w) is = wire_form (wire_is_word m w.0 is)
  entry_has_form (Cross x) is = cross_form (wire_is_word m (ends_of m x.0).0 (tap_within m k.numbered x.0 is)) (wire_is_word m (ends_of m x.0).1 (line_within m k.numbered x.0 is))
  entry_has_form (Table t) is = table_form (table_is_word m t.0 is)

  entry_clean : (e : Entry) → IsEntryOf m e → IsCleanRow (entry_words m e)
  entry_clean e is = clean_form 2 (entry_words m e) (entry_form (omega arith) (entry_has_form e is))

  no_end : (e : Entry) → entry_words m e ≢ end_row
  no_end (Wire w) e = let h = ap head_byte e in let no : ⊥ = omega (arith, h) in no
  no_end (Cross x) e = let h = ap head_byte e in let no : ⊥ = omega (arith, h) in no
  no_end (Table t) e = let h = ap head_byte e in let no : ⊥ = omega (arith, h) in no

  one_entry : (a b : Entry) → IsEntryOf m a → IsEntryOf m b → entry_words m a ≡ entry_words m b → a ≡ b
  one_entry (Wire w) (Wire u) p q e = let n = k.names.one_wire w.0 u.0 p q (ap (λ ws. get_or ws 1 []) e) in λ i. Wire (record { 0 = n i })
  one_entry (Cross x) (Cross y) p q e =
      let t = k.names.one_wire (ends_of m x.0).0 (ends_of m y.0).0 (tap_within m k.numbered x.0 p) (tap_within m k.numbered y.0 q) (ap (λ ws. get_or ws 1 []) e) in
      let l = k.names.one_wire (ends_of m x.0).1 (ends_of m y.0).1 (line_within m k.numbered x.0 p) (line_within m k.numbered y.0 q) (ap (λ ws. get_or ws 2 []) e) in
      let n = k.crosses.one x.0 y.0 p q (λ i. (t i, l i)) in
      λ i. Cross (record { 0 = n i })
  one_entry (Table t) (Table u) p q e = let n = k.names.one_table t.0 u.0 p q (ap (λ ws. get_or ws 1 []) e) in λ i. Table (record { 0 = n i })
  one_entry (Wire w) (Cross y) p q e = absurd (let h = ap head_byte e in let no : ⊥ = omega (arith, h) in no)
  one_entry (Wire w) (Table y) p q e = absurd (let h = ap head_byte e in let no : ⊥ = omega (arith, h) in no)
  one_entry (Cross w) (Wire y) p q e = absurd (let h = ap head_byte e in let no : ⊥ = omega (arith, h) in no)
  one_entry (Cross w) (Table y) p q e = absurd (let h = ap head_byte e in let no : ⊥ = omega (arith, h) in no)
  one_entry (Table w) (Wire y) p q e = absurd (let h = ap head_byte e in let no : ⊥ = omega (arith, h) in no)
  one_entry (Table w) (Cross y) p q e = absurd (let h = ap head_byte e in let no : ⊥ = omega (arith, h) in no)

  clean_entries : (es : List Entry) → AllByRecursion (IsEntryOf m) es → AreCleanRows (map (entry_words m) es)
  clean_entries [] h = tt
  clean_entries (e ∷ es) h = (entry_clean e h.0, clean_entries es h.1)

  shape_clean : IsCleanRow (shape_row (counts_of m.counts))
  shape_clean = clean_form 1 (shape_row (counts_of m.counts)) (shape_form refl k.counts)

  first_clean : IsCleanRow first_row
  first_clean = clean_form 0 first_row (first_form refl)

  end_clean : IsCleanRow end_row
  end_clean = clean_form 2 end_row (end_form (omega arith))

  -- the lines of a list's text
  abbrev rows_at : List Entry → List (List (List ℕ))
  rows_at es = first_row ∷ shape_row (counts_of m.counts) ∷ map (entry_words m) es

  clean_rows : (es : List Entry) → AllByRecursion (IsEntryOf m) es → AreCleanRows (rows_at es)
  clean_rows es h = (first_clean, (shape_clean, clean_entries es h))

  clean_whole : (es : List Entry) → AllByRecursion (IsEntryOf m) es → AreCleanRows (rows_at es ++ end_row ∷ [])
  clean_whole es h = clean_append (rows_at es) (end_row ∷ []) (clean_rows es h) (end_clean, tt)

  -- the entries of a text, of which some stand above
  entries_split : (es ds : List Entry) (c : List (List (List ℕ))) → AllByRecursion (IsEntryOf m) es → AllByRecursion (IsEntryOf m) ds → map (entry_words m) es ++ end_row ∷ [] ≡ map (entry_words m) ds ++ c → (fs : List Entry) × (es ≡ ds ++ fs) × (c ≡ map (entry_words m) fs ++ end_row ∷ [])
  entries_split es [] c p q e = (es, refl, sym e)
  entries_split [] (x ∷ ds) c p q e = absurd (no_end x (sym (ap (λ rs. get_or rs 0 []) e)))
  entries_split (y ∷ es) (x ∷ ds) c p q e =
      let same : y ≡ x = one_entry y x p.0 q.0 (ap (λ rs. get_or rs 0 []) e) in
      let more = entries_split es ds c p.1 q.1 (ap (drop 1) e) in
      (more.0, (λ i. same i ∷ more.1 i), more.2)

  -- no line behind the last
  none_behind : (es ds : List Entry) (c : List (List ℕ)) (cs : List (List (List ℕ))) → AllByRecursion (IsEntryOf m) es → AllByRecursion (IsEntryOf m) ds → map (entry_words m) es ++ end_row ∷ [] ≡ map (entry_words m) ds ++ (end_row ∷ c ∷ cs) → ⊥
  none_behind es ds c cs p q e = by_rest (entries_split es ds (end_row ∷ c ∷ cs) p q e)
    where
      by_list : (fs : List Entry) → end_row ∷ c ∷ cs ≡ map (entry_words m) fs ++ end_row ∷ [] → ⊥
      by_list [] g = let h = ap length g in let no : ⊥ = omega (arith, h) in no
      by_list (f ∷ fs) g = no_end f (sym (ap (λ rs. get_or rs 0 []) g))

      by_rest : (fs : List Entry) × (es ≡ ds ++ fs) × (end_row ∷ c ∷ cs ≡ map (entry_words m) fs ++ end_row ∷ []) → ⊥
      by_rest r = by_list r.0 r.2

-- ---- a list and its entries

pub all_entries : (m : Shape) (d : DefectList) → d.shape ≡ m → AllByRecursion (IsEntryOf m) (entries_of d)
all_entries m d same = all_in (IsEntryOf m) (entries_of d) (λ a h. subst (λ n. IsEntryOf n a) same (in_listed d a h).1)

rows_same : (m : Shape) (k : IsTold m) (d : DefectList) → d.shape ≡ m → rows_of d ≡ rows_at m k (entries_of d)
rows_same m k d same = (λ i. first_row ∷ shape_row (counts_of (same i).counts) ∷ map (entry_words (same i)) (entries_of d))

text_rows : (m : Shape) (k : IsTold m) (d : DefectList) → d.shape ≡ m → text_of d ≡ written (rows_at m k (entries_of d) ++ end_row ∷ [])
unfolding text_of
text_rows m k d same = sym (written-more (rows_of d) end_row) ∙ ap (λ rs. written (rs ++ end_row ∷ [])) (rows_same m k d same)

in_same : (a : Entry) (es ds : List Entry) → es ≡ ds → In a es → In a ds
in_same a es ds e h = subst (In a) e h

-- lists with the same entries are one
pub one_by_entries : (d e : DefectList) → IsDefectList d → IsDefectList e → d.shape ≡ e.shape → entries_of d ≡ entries_of e → d ≡ e
one_by_entries d e p q same entries = (λ i. record { shape = same i; list = record { wires = wires i; crosses = crosses i; tables = tables i } })
  where
    forth : (a : Entry) → is_listed d a ≡ true → is_listed e a ≡ true
    forth a h = (in_listed e a (in_same a (entries_of d) (entries_of e) entries (listed_in d p a h))).0

    back : (a : Entry) → is_listed e a ≡ true → is_listed d a ≡ true
    back a h = (in_listed d a (in_same a (entries_of e) (entries_of d) (sym entries) (listed_in e q a h))).0

    wires : d.list.wires ≡ e.list.wires
    wires = same_members d.list.wires e.list.wires (λ w. both_ways _ _ (forth (Wire (record { 0 = w }))) (back (Wire (record { 0 = w }))))

    crosses : d.list.crosses ≡ e.list.crosses
    crosses = same_members d.list.crosses e.list.crosses (λ x. both_ways _ _ (forth (Cross (record { 0 = x }))) (back (Cross (record { 0 = x }))))

    tables : d.list.tables ≡ e.list.tables
    tables = same_members d.list.tables e.list.tables (λ t. both_ways _ _ (forth (Table (record { 0 = t }))) (back (Table (record { 0 = t }))))

-- ---- the order of a text's entries

irreflexive : (a : Entry) → Precedes a a → ⊥
irreflexive a (inl lt) = let no : ⊥ = omega (arith, lt) in no
irreflexive a (inr h) = let lt = h.1 in let no : ⊥ = omega (arith, lt) in no

asymmetric : (a b : Entry) → Precedes a b → Precedes b a → ⊥
asymmetric a b (inl p) (inl q) = let no : ⊥ = omega (arith, p, q) in no
asymmetric a b (inl p) (inr q) = let g = q.0 in let no : ⊥ = omega (arith, p, g) in no
asymmetric a b (inr p) (inl q) = let g = p.0 in let no : ⊥ = omega (arith, g, q) in no
asymmetric a b (inr p) (inr q) = let g = p.1 in let h = q.1 in let no : ⊥ = omega (arith, g, h) in no

-- each entry above is before one below
above_before : (ds fs : List Entry) (f a : Entry) → Ascends (ds ++ f ∷ fs) → In a ds → Precedes a f
above_before [] fs f a asc h = absurd h
above_before (x ∷ ds) fs f a asc (inl e) = precedes a f (ap (λ z. is_before z f) e ∙ all_of (λ y. is_before x y ≡ true) (ds ++ f ∷ fs) asc.0 f (in_append f ds (f ∷ fs) (inr (inl refl))))
above_before (x ∷ ds) fs f a asc (inr h) = above_before ds fs f a asc.1 h

module _ (d e : DefectList) (p : IsDefectList d) (q : IsDefectList e) (same : d.shape ≡ e.shape) (f : Entry) (fs : List Entry) (parts : entries_of e ≡ entries_of d ++ f ∷ fs) where
  ascends : Ascends (entries_of d ++ f ∷ fs)
  ascends = subst Ascends parts (entries_ascend e)

  onward : (a : Entry) → is_listed d a ≡ true → is_listed e a ≡ true
  onward a h = (in_listed e a (subst (In a) (sym parts) (in_append a (entries_of d) (f ∷ fs) (inl (listed_in d p a h))))).0

  listed_there : is_listed e f ≡ true
  listed_there = (in_listed e f (subst (In f) (sym parts) (in_append f (entries_of d) (f ∷ fs) (inr (inl refl))))).0

  not_yet : (b : Bool) → is_listed d f ≡ b → b ≡ false
  not_yet false h = refl
  not_yet true h = absurd (irreflexive f (above_before (entries_of d) fs f f ascends (listed_in d p f h)))

  free_wire : (w : ℕ) → IsFreeWire e.list w → IsFreeWire d.list w
  free_wire w free = by_test (sets.contains d.list.wires w) refl
    where
      by_test : (b : Bool) → sets.contains d.list.wires w ≡ b → b ≡ false
      by_test false h = refl
      by_test true h = let g : true ≡ false = sym (onward (Wire (record { 0 = w })) h) ∙ free in cc

  is_free : (g : Entry) → g ≡ f → is_listed d g ≡ false → is_listed e g ≡ true → IsFreeEntry d g
  is_free (Wire w) at off on = off
  is_free (Cross x) at off on = record {
    itself = off;
    tap = subst (λ (m : Shape). IsFreeWire d.list (ends_of m x.0).0) (sym same) (free_wire _ (q.taps x.0 on));
    line = subst (λ (m : Shape). IsFreeWire d.list (ends_of m x.0).1) (sym same) (free_wire _ (q.lines x.0 on));
  }
  is_free (Table t) at off on = record {
    itself = off;
    pins = λ k lk. subst (λ (m : Shape). IsFreeWire d.list (table_wire m t.0 k)) (sym same) (free_wire _ (q.pins t.0 k on lk));
  }

  pub next_free : IsFreeEntry d f
  next_free = is_free f refl (not_yet (is_listed d f) refl) listed_there

  pub next_behind : ¬ IsBeforeLast f d
  next_behind h = asymmetric f h.last (precedes f h.last h.before_it) (above_before (entries_of d) fs f h.last ascends (subst (In h.last) (sym h.parts) (in_append h.last h.above (h.last ∷ []) (inr (inl refl)))))

-- ---- no fault

numbers_one : (ns ks : List ℕ) → AllByRecursion (λ n. n ≤ 65535) ns → AllByRecursion (λ n. n ≤ 65535) ks → map decimal ns ≡ map decimal ks → ns ≡ ks
numbers_one [] [] p q e = refl
numbers_one [] (k ∷ ks) p q e = absurd (let h = ap length e in let no : ⊥ = omega (arith, h) in no)
numbers_one (n ∷ ns) [] p q e = absurd (let h = ap length e in let no : ⊥ = omega (arith, h) in no)
numbers_one (n ∷ ns) (k ∷ ks) p q e =
    let same = one_number n k p.0 q.0 (ap (λ ws. get_or ws 0 []) e) in
    let more = numbers_one ns ks p.1 q.1 (ap (drop 1) e) in
    (λ i. same i ∷ more i)

module _ (m : Shape) (k : IsTold m) (e : DefectList) (is : e.shape ≡ m) (right : IsDefectList e) where
  all : AllByRecursion (IsEntryOf m) (entries_of e)
  all = all_entries m e is

  -- the first line, and that of the shape
  first_right : (d : DefectList) (rest left : List ℕ) (kind : DefectsKind) → left ≡ written_line first_row ++ rest → IsLineFault d 0 left kind → ⊥
  first_right d rest left _ f (formless none) = none first_row rest (first_form refl) f
  first_right d rest left _ f (other_machine ns more one are g ne) = let no : ⊥ = omega (arith, one) in no
  first_right d rest left _ f (nameless row more two form g none) = let no : ⊥ = omega (arith, two) in no
  first_right d rest left _ f (earlier a more two of_m g h) = let no : ⊥ = omega (arith, two) in no
  first_right d rest left _ f (again a more two of_m g h free) = let no : ⊥ = omega (arith, two) in no

  shape_right : (d : DefectList) → d.shape ≡ m → (rest left : List ℕ) (kind : DefectsKind) → left ≡ written_line (shape_row (counts_of m.counts)) ++ rest → IsLineFault d 1 left kind → ⊥
  shape_right d same rest left _ f (formless none) = none (shape_row (counts_of m.counts)) rest (shape_form refl k.counts) f
  shape_right d same rest left _ f (other_machine ns more one are g ne) =
      let rows = first_rows (shape_row ns) (shape_row (counts_of m.counts)) more rest (clean_form 1 (shape_row ns) (shape_form refl are)) (shape_clean m k) (sym g ∙ f) in
      ne (numbers_one ns (counts_of m.counts) are.small k.counts.small (ap (drop 1) rows.0) ∙ ap (λ (n : Shape). counts_of n.counts) (sym same))
  shape_right d same rest left _ f (nameless row more two form g none) = let no : ⊥ = omega (arith, two) in no
  shape_right d same rest left _ f (earlier a more two of_m g h) = let no : ⊥ = omega (arith, two) in no
  shape_right d same rest left _ f (again a more two of_m g h free) = let no : ⊥ = omega (arith, two) in no

  -- the entry of a line is the one that stands there
  at_shape : (d : DefectList) → d.shape ≡ m → (b : Entry) (more left : List ℕ) → IsEntryOf d.shape b → left ≡ written_line (entry_words d.shape b) ++ more → IsEntryOf m b × (left ≡ written_line (entry_words m b) ++ more)
  at_shape d same b more left of_b g = (subst (λ n. IsEntryOf n b) same of_b, g ∙ ap (λ n. written_line (entry_words n b) ++ more) same)

  this : (d : DefectList) → d.shape ≡ m → (rest left : List ℕ) (a : Entry) → IsEntryOf m a → (b : Entry) (more : List ℕ) → IsEntryOf d.shape b → left ≡ written_line (entry_words d.shape b) ++ more → left ≡ written_line (entry_words m a) ++ rest → b ≡ a
  this d same rest left a of_a b more of_b g f =
      let h = at_shape d same b more left of_b g in
      one_entry m k b a h.0 of_a (first_rows (entry_words m b) (entry_words m a) more rest (entry_clean m k b h.0) (entry_clean m k a of_a) (sym h.1 ∙ f)).0

  ended : (d : DefectList) → d.shape ≡ m → (rest left : List ℕ) (b : Entry) (more : List ℕ) → IsEntryOf d.shape b → left ≡ written_line (entry_words d.shape b) ++ more → left ≡ written_line end_row ++ rest → ⊥
  ended d same rest left b more of_b g f =
      let h = at_shape d same b more left of_b g in
      no_end m k b (first_rows (entry_words m b) end_row more rest (entry_clean m k b h.0) (end_clean m k) (sym h.1 ∙ f)).0

  -- the line behind the last entry
  end_right : (d : DefectList) → d.shape ≡ m → (above : ℕ) (rest left : List ℕ) (kind : DefectsKind) → 2 ≤ above → left ≡ written_line end_row ++ rest → IsLineFault d above left kind → ⊥
  end_right d same above rest left _ two f (formless none) = none end_row rest (end_form two) f
  end_right d same above rest left _ two f (other_machine ns more one are g ne) = let no : ⊥ = omega (arith, one, two) in no
  end_right d same above rest left _ two f (nameless row more t form g none) = no_form row form (first_rows row end_row more rest (clean_form 2 row (entry_form (omega arith) form)) (end_clean m k) (sym g ∙ f)).0
    where
      no_form : (row : List (List ℕ)) → IsEntryForm row → row ≢ end_row
      no_form _ (wire_form p) h = let g = ap head_byte h in let no : ⊥ = omega (arith, g) in no
      no_form _ (cross_form p q) h = let g = ap head_byte h in let no : ⊥ = omega (arith, g) in no
      no_form _ (table_form p) h = let g = ap head_byte h in let no : ⊥ = omega (arith, g) in no
  end_right d same above rest left _ two f (earlier a more t of_m g h) = ended d same rest left a more of_m g f
  end_right d same above rest left _ two f (again a more t of_m g h free) = ended d same rest left a more of_m g f

  -- the next entry
  next_right : (d : DefectList) → d.shape ≡ m → IsDefectList d → (a : Entry) (fs : List Entry) → IsEntryOf m a → entries_of e ≡ entries_of d ++ a ∷ fs → (above : ℕ) (rest left : List ℕ) (kind : DefectsKind) → 2 ≤ above → left ≡ written_line (entry_words m a) ++ rest → IsLineFault d above left kind → ⊥
  next_right d same p a fs of_a parts above rest left _ two f (formless none) = none (entry_words m a) rest (entry_form two (entry_has_form m k a of_a)) f
  next_right d same p a fs of_a parts above rest left _ two f (other_machine ns more one are g ne) = let no : ⊥ = omega (arith, one, two) in no
  next_right d same p a fs of_a parts above rest left _ two f (nameless row more t form g none) =
      none a (subst (λ n. IsEntryOf n a) (sym same) of_a) (ap (λ n. entry_words n a) same ∙ sym (first_rows row (entry_words m a) more rest (clean_form 2 row (entry_form (omega arith) form)) (entry_clean m k a of_a) (sym g ∙ f)).0)
  next_right d same p a fs of_a parts above rest left _ two f (earlier b more t of_b g h) = next_behind d e p right (same ∙ sym is) a fs parts (subst (λ z. IsBeforeLast z d) (this d same rest left a of_a b more of_b g f) h)
  next_right d same p a fs of_a parts above rest left _ two f (again b more t of_b g h free) = free (subst (IsFreeEntry d) (sym (this d same rest left a of_a b more of_b g f)) (next_free d e p right (same ∙ sym is) a fs parts))

  -- below the lines above, what the text goes on with
  goes_on : (bytes left : List ℕ) (above : List (List (List ℕ))) → AreCleanRows above → bytes ≡ text_of e → bytes ≡ written above ++ left → (c : List (List (List ℕ))) × (rows_at m k (entries_of e) ++ end_row ∷ [] ≡ above ++ c) × (left ≡ written c)
  goes_on bytes left above clean spelled parts = front above (rows_at m k (entries_of e) ++ end_row ∷ []) left clean (clean_whole m k (entries_of e) all) (sym parts ∙ spelled ∙ text_rows m k e is)

  listed_right : (d : DefectList) → d.shape ≡ m → IsDefectList d → (left : List ℕ) (kind : DefectsKind) → (c : List (List (List ℕ))) → rows_at m k (entries_of e) ++ end_row ∷ [] ≡ rows_of d ++ c → left ≡ written c → IsLineFault d (length (rows_of d)) left kind → ⊥
  listed_right d same p left kind c rows is_left fault = by_rest (entries_split m k (entries_of e) (entries_of d) c all (all_entries m d same) (ap (drop 2) (rows ∙ ap (λ rs. rs ++ c) (rows_same m k d same))))
    where
      by_list : (fs : List Entry) → entries_of e ≡ entries_of d ++ fs → c ≡ map (entry_words m) fs ++ end_row ∷ [] → ⊥
      by_list [] parts g = end_right d same (length (rows_of d)) [] left kind (omega arith) (is_left ∙ ap written g) fault
      by_list (a ∷ fs) parts g = next_right d same p a fs (subst (λ n. IsEntryOf n a) is (in_listed e a (subst (In a) (sym parts) (in_append a (entries_of d) (a ∷ fs) (inr (inl refl))))).1) parts (length (rows_of d)) (written (map (entry_words m) fs ++ end_row ∷ [])) left kind (omega arith) (is_left ∙ ap written g) fault

      by_rest : (fs : List Entry) × (entries_of e ≡ entries_of d ++ fs) × (c ≡ map (entry_words m) fs ++ end_row ∷ []) → ⊥
      by_rest r = by_list r.0 r.1 r.2

  nothing_right : (left : List ℕ) (kind : DefectsKind) (d : DefectList) (c : List (List (List ℕ))) → rows_at m k (entries_of e) ++ end_row ∷ [] ≡ c → left ≡ written c → IsLineFault d 0 left kind → ⊥
  nothing_right left kind d c rows is_left fault = first_right d (written (drop 1 (rows_at m k (entries_of e) ++ end_row ∷ []))) left kind (is_left ∙ ap written (sym rows)) fault

  begun_right : (left : List ℕ) (kind : DefectsKind) (d : DefectList) → d.shape ≡ m → (c : List (List (List ℕ))) → rows_at m k (entries_of e) ++ end_row ∷ [] ≡ first_row ∷ c → left ≡ written c → IsLineFault d 1 left kind → ⊥
  begun_right left kind d same c rows is_left fault = shape_right d same (written (map (entry_words m) (entries_of e) ++ end_row ∷ [])) left kind (is_left ∙ ap written (sym (ap (drop 1) rows))) fault

  clean_above : (d : DefectList) (above : List (List (List ℕ))) → AreAbove m d above → AreCleanRows above
  clean_above _ _ nothing = tt
  clean_above _ _ begun = (first_clean m k, tt)
  clean_above _ _ (listed d same p) = subst AreCleanRows (sym (rows_same m k d same)) (clean_rows m k (entries_of d) (all_entries m d same))

  line_right : (bytes left : List ℕ) (d : DefectList) (above : List (List (List ℕ))) (kind : DefectsKind) → bytes ≡ text_of e → bytes ≡ written above ++ left → AreAbove m d above → IsLineFault d (length above) left kind → ⊥
  line_right bytes left d _ kind spelled parts nothing fault = let g = goes_on bytes left [] tt spelled parts in nothing_right left kind d g.0 g.1 g.2 fault
  line_right bytes left d _ kind spelled parts begun fault = let g = goes_on bytes left (first_row ∷ []) (first_clean m k, tt) spelled parts in begun_right left kind d refl g.0 g.1 g.2 fault
  line_right bytes left _ _ kind spelled parts (listed d same p) fault = let g = goes_on bytes left (rows_of d) (clean_above d (rows_of d) (listed d same p)) spelled parts in listed_right d same p left kind g.0 g.1 g.2 fault

  behind_right : (bytes : List ℕ) (number : ℕ) (kind : DefectsKind) → bytes ≡ text_of e → IsFaultBehind m bytes number kind → ⊥
  behind_right bytes number kind spelled h =
      let g = goes_on bytes h.left (rows_at m k (entries_of h.list) ++ end_row ∷ []) (clean_whole m k (entries_of h.list) (all_entries m h.list h.shape)) spelled (h.parts ∙ ap (λ t. t ++ h.left) (text_rows m k h.list h.shape)) in
      by_rest h g.0 g.1 g.2
    where
      by_rest : (h : IsFaultBehind m bytes number kind) → (c : List (List (List ℕ))) → rows_at m k (entries_of e) ++ end_row ∷ [] ≡ (rows_at m k (entries_of h.list) ++ end_row ∷ []) ++ c → h.left ≡ written c → ⊥
      by_rest h [] rows g = let l = ap length g in let s = h.some in let no : ⊥ = omega (arith, l, s) in no
      by_rest h (r ∷ cs) rows g = none_behind m k (entries_of e) (entries_of h.list) r cs all (all_entries m h.list h.shape) (ap (drop 2) (rows ∙ append_assoc (rows_at m k (entries_of h.list)) (end_row ∷ []) (r ∷ cs)))

  pub no_fault : (bytes : List ℕ) (number : ℕ) (kind : DefectsKind) → bytes ≡ text_of e → IsFirstFault m bytes number kind → ⊥
  no_fault bytes number kind spelled (inl h) = line_right bytes h.left h.list h.above kind spelled h.parts h.right h.fault
  no_fault bytes number kind spelled (inr h) = behind_right bytes number kind spelled h

-- ---- one list

pub one_text : (m : Shape) → IsTold m → (bytes : List ℕ) (d e : DefectList) → IsText m bytes d → IsText m bytes e → d ≡ e
one_text m k bytes d e p q = one_by_entries d e p.right q.right (p.shape ∙ sym q.shape) (sym (by_rest (front (rows_at m k (entries_of d) ++ end_row ∷ []) (rows_at m k (entries_of e) ++ end_row ∷ []) [] (clean_whole m k (entries_of d) (all_entries m d p.shape)) (clean_whole m k (entries_of e) (all_entries m e q.shape))
    (append-nil (written (rows_at m k (entries_of d) ++ end_row ∷ [])) ∙ sym (text_rows m k d p.shape) ∙ sym p.spelled ∙ q.spelled ∙ text_rows m k e q.shape))))
  where
    by_list : (fs : List Entry) → entries_of e ≡ entries_of d ++ fs → end_row ∷ [] ≡ map (entry_words m) fs ++ end_row ∷ [] → entries_of e ≡ entries_of d
    by_list [] parts g = parts ∙ append-nil (entries_of d)
    by_list (f ∷ fs) parts g = absurd (no_end m k f (sym (ap (λ rs. get_or rs 0 []) g)))

    split : rows_at m k (entries_of e) ++ end_row ∷ [] ≡ rows_at m k (entries_of d) ++ end_row ∷ [] → entries_of e ≡ entries_of d
    split rows = let r = entries_split m k (entries_of e) (entries_of d) (end_row ∷ []) (all_entries m e q.shape) (all_entries m d p.shape) (ap (drop 2) rows) in by_list r.0 r.1 r.2

    by_rows : (c : List (List (List ℕ))) → rows_at m k (entries_of e) ++ end_row ∷ [] ≡ (rows_at m k (entries_of d) ++ end_row ∷ []) ++ c → [] ≡ written c → entries_of e ≡ entries_of d
    by_rows [] rows g = split (rows ∙ append-nil (rows_at m k (entries_of d) ++ end_row ∷ []))
    by_rows (r ∷ c) rows g = absurd (let l = ap length g in let a = length-append (written_line r) (written c) in let b = length-append (spaced r) (10 ∷ []) in let no : ⊥ = omega (arith, l, a, b) in no)

    by_rest : (c : List (List (List ℕ))) × (rows_at m k (entries_of e) ++ end_row ∷ [] ≡ (rows_at m k (entries_of d) ++ end_row ∷ []) ++ c) × ([] ≡ written c) → entries_of e ≡ entries_of d
    by_rest r = by_rows r.0 r.1 r.2

-- the text of a list is read
pub only_is : (m : Shape) → IsTold m → (bytes : List ℕ) (r : Result DefectList DefectsFault) → IfOk r (IsText m bytes) → IfErr r (IsFirst m bytes) → (d : DefectList) → IsText m bytes d → GivesOrLacks d r
only_is m k bytes (Ok e) found refused d p = one_text m k bytes e d found p
only_is m k bytes (Err Memory) found refused d p = tt
only_is m k bytes (Err (At number kind)) found refused d p = no_fault m k d p.shape p.right bytes number kind p.spelled refused
