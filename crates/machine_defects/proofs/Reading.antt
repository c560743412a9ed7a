-- What reading a text line by line makes of it.
use Rattle.std.proofs.Common.{◌≡◌, ◌≢◌, inl, inr, ℕ, ◌+◌, ◌<◌, ◌≤◌, true, false, Option, Some, None, List, [], ◌∷◌, ◌++◌, length, map, drop, get_or, refl, sym, ap, ◌∙◌, subst, arith, append_assoc, append-nil, length-append}
use Rattle.std.specs.FinSet as sets
use Rattle.machine_defects.proofs.Vocabulary.{contains-empty, nat_cmp, decimal, AllByRecursion, map-append, Shape, spaced, written}
use Rattle.machine_defects.proofs.Vocabulary.{written_line, Entry, Wire, Cross, Table, DefectsKind, first_form, shape_form, entry_form}
use Rattle.machine_defects.proofs.Vocabulary.{end_form, wire_form, cross_form, table_form, formless, nothing, begun, listed}
use Rattle.machine_shape.specs.Vocabulary.{HasNames, IsNumbered, wires_of, crosses_of, ends_of, wire_name}
use Rattle.machine_shape.specs.Shape.Ends.{in_order, turned}
use Rattle.machine_defects.specs.declared.kind.DefectsKind.TheVariants as kinds
use Rattle.machine_defects.specs.Vocabulary.{DefectList, IsDefectList, no_defects, IsEntryOf, entry_words, is_before, entries_of, counts_of, first_row, shape_row, end_row, rows_of, text_of, IsForm, IsEntryForm, AreCounts, IsBeforeLast, IsLineFault, IsFirstFault, IsText, without, is_behind, IsLast, IsReadTo}
use Rattle.machine_defects.proofs.Rows.{IsCleanRow, AreClean, from_word, same_line, whole_line, rows_short}
use Rattle.machine_defects.proofs.Numerals.{clean_decimal}
use Rattle.machine_defects.proofs.Entries.{none_listed}

-- ---- the words of right lines

clean_numerals : (ns : List ℕ) → AllByRecursion (λ n. n ≤ 65535) ns → AreClean (map decimal ns)
clean_numerals [] h = tt
clean_numerals (n ∷ ns) h = (clean_decimal n h.0, clean_numerals ns h.1)

pub clean_form : (above : ℕ) (row : List (List ℕ)) → IsForm above row → IsCleanRow row
clean_form above _ (first_form e) = (record { spaceless = refl; feedless = refl }, (record { spaceless = refl; feedless = refl }, tt))
clean_form above _ (shape_form {ns} e are) = (record { spaceless = refl; feedless = refl }, clean_numerals ns are.small)
clean_form above _ (entry_form e (wire_form {w} p)) = (record { spaceless = refl; feedless = refl }, (from_word w p, tt))
clean_form above _ (entry_form e (cross_form {t} {l} p q)) = (record { spaceless = refl; feedless = refl }, (from_word t p, (from_word l q, tt)))
clean_form above _ (entry_form e (table_form {t} p)) = (record { spaceless = refl; feedless = refl }, (from_word t p, tt))
clean_form above _ (end_form e) = (record { spaceless = refl; feedless = refl }, tt)

-- a line that isn't one of a form
pub no_line : (d : DefectList) (above : ℕ) (left : List ℕ) → ((line more : List ℕ) → left ≢ line ++ 10 ∷ more) → IsLineFault d above left kinds.Word
no_line d above left none = formless (λ row more f e. none (spaced row) more (e ∙ append_assoc (spaced row) (10 ∷ []) more))

pub other_line : (d : DefectList) (above : ℕ) (left line rest : List ℕ) → left ≡ line ++ 10 ∷ rest → without 10 line ≡ true → ((row : List (List ℕ)) → IsForm above row → spaced row ≢ line) → IsLineFault d above left kinds.Word
other_line d above left line rest e p none = formless (λ row more f g. none row f (sym (same_line line rest left row more p (clean_form above row f) e g).0))

-- below the first two lines
pub no_later : (above : ℕ) (line : List ℕ) → 2 ≤ above → line ≢ 101 ∷ 110 ∷ 100 ∷ [] → ((row : List (List ℕ)) → IsEntryForm row → spaced row ≢ line) → (row : List (List ℕ)) → IsForm above row → spaced row ≢ line
no_later above line two other none _ (first_form e) f = let no : ⊥ = omega (arith, two, e) in no
no_later above line two other none _ (shape_form e are) f = let no : ⊥ = omega (arith, two, e) in no
no_later above line two other none _ (entry_form e p) f = none _ p f
no_later above line two other none _ (end_form e) f = other (sym f)

-- the line of the shape
pub no_shape : (line : List ℕ) → ((ns : List ℕ) → AreCounts ns → spaced (shape_row ns) ≢ line) → (row : List (List ℕ)) → IsForm 1 row → spaced row ≢ line
no_shape line none _ (first_form e) f = let no : ⊥ = omega (arith, e) in no
no_shape line none _ (shape_form {ns} e are) f = none ns are f
no_shape line none _ (entry_form e p) f = let no : ⊥ = omega (arith, e) in no
no_shape line none _ (end_form e) f = let no : ⊥ = omega (arith, e) in no

-- the first line
pub no_first : (d : DefectList) (bytes : List ℕ) → ((rest : List ℕ) → bytes ≢ written_line first_row ++ rest) → IsLineFault d 0 bytes kinds.Word
no_first d bytes none = formless by_form
  where
    by_form : (row : List (List ℕ)) (more : List ℕ) → IsForm 0 row → bytes ≢ written_line row ++ more
    by_form _ more (first_form e) f = none more f
    by_form _ more (shape_form e are) f = let no : ⊥ = omega (arith, e) in no
    by_form _ more (entry_form e p) f = let no : ⊥ = omega (arith, e) in no
    by_form _ more (end_form e) f = let no : ⊥ = omega (arith, e) in no

-- ---- crosspoints by names

pub no_cross_named : (m : Shape) (tap line : List ℕ) → ((x : ℕ) → x < crosses_of m → wire_name m (ends_of m x).0 ≡ tap → wire_name m (ends_of m x).1 ≡ line → ⊥) → (e : Entry) → IsEntryOf m e → entry_words m e ≢ (99 ∷ 114 ∷ 111 ∷ 115 ∷ 115 ∷ []) ∷ tap ∷ line ∷ []
no_cross_named m tap line none (Wire w) is e = let h : 119 ≡ 99 = ap (λ (ws : List (List ℕ)). get_or (get_or ws 0 []) 0 0) e in let no : ⊥ = omega (arith, h) in no
no_cross_named m tap line none (Cross x) is e = none x.0 is (ap (λ ws. get_or ws 1 []) e) (ap (λ ws. get_or ws 2 []) e)
no_cross_named m tap line none (Table t) is e = let h : 116 ≡ 99 = ap (λ (ws : List (List ℕ)). get_or (get_or ws 0 []) 0 0) e in let no : ⊥ = omega (arith, h) in no

module _ (m : Shape) (numbered : IsNumbered m) where
  pub tap_within : (x : ℕ) → x < crosses_of m → (ends_of m x).0 < wires_of m
  tap_within x lt = numbered.ends x (ends_of m x).0 (ends_of m x).1 lt (in_order refl refl)

  pub line_within : (x : ℕ) → x < crosses_of m → (ends_of m x).1 < wires_of m
  line_within x lt = numbered.ends x (ends_of m x).1 (ends_of m x).0 lt (turned refl refl)

  pub no_tap_named : (tap line : List ℕ) → ((w : ℕ) → w < wires_of m → wire_name m w ≢ tap) → (e : Entry) → IsEntryOf m e → entry_words m e ≢ (99 ∷ 114 ∷ 111 ∷ 115 ∷ 115 ∷ []) ∷ tap ∷ line ∷ []
  no_tap_named tap line none = no_cross_named m tap line (λ x lt p q. none (ends_of m x).0 (tap_within x lt) p)

  pub no_line_named : (tap line : List ℕ) → ((w : ℕ) → w < wires_of m → wire_name m w ≢ line) → (e : Entry) → IsEntryOf m e → entry_words m e ≢ (99 ∷ 114 ∷ 111 ∷ 115 ∷ 115 ∷ []) ∷ tap ∷ line ∷ []
  no_line_named tap line none = no_cross_named m tap line (λ x lt p q. none (ends_of m x).1 (line_within x lt) q)

  pub apart_named : HasNames m → (tap line : List ℕ) (w u : ℕ) → w < wires_of m → u < wires_of m → wire_name m w ≡ tap → wire_name m u ≡ line → ((x : ℕ) → x < crosses_of m → ends_of m x ≢ (w, u)) → (e : Entry) → IsEntryOf m e → entry_words m e ≢ (99 ∷ 114 ∷ 111 ∷ 115 ∷ 115 ∷ []) ∷ tap ∷ line ∷ []
  apart_named names tap line w u lw lu nw nu none = no_cross_named m tap line (λ x lt p q.
      let a = names.one_wire (ends_of m x).0 w (tap_within x lt) lw (p ∙ sym nw) in
      let b = names.one_wire (ends_of m x).1 u (line_within x lt) lu (q ∙ sym nu) in
      none x lt (λ i. (a i, b i)))

-- ---- a line of the list

-- the last of some entries is one
one_last : (a b : List Entry) (x y : Entry) → a ++ x ∷ [] ≡ b ++ y ∷ [] → x ≡ y
one_last [] [] x y e = ap (λ es. get_or es 0 x) e
one_last [] (b ∷ []) x y e = absurd (let h = ap length e in let no : ⊥ = omega (arith, h) in no)
one_last [] (b ∷ c ∷ bs) x y e = absurd (let h = ap length e in let no : ⊥ = omega (arith, h) in no)
one_last (a ∷ []) [] x y e = absurd (let h = ap length e in let no : ⊥ = omega (arith, h) in no)
one_last (a ∷ c ∷ at) [] x y e = absurd (let h = ap length e in let no : ⊥ = omega (arith, h) in no)
one_last (a ∷ at) (b ∷ bs) x y e = one_last at bs x y (ap (drop 1) e)

pub before_last : (d : DefectList) (last : Option Entry) (e : Entry) → IsLast (entries_of d) last → is_behind e last ≡ true → IsBeforeLast e d
before_last d None e is b = absurd cc
before_last d (Some l) e is b = record { above = is.0; last = l; parts = is.1; before_it = b }

pub not_before_last : (d : DefectList) (last : Option Entry) (e : Entry) → IsLast (entries_of d) last → is_behind e last ≡ false → ¬ IsBeforeLast e d
not_before_last d None e is b h = let l = ap length (sym is ∙ h.parts) ∙ length-append h.above (h.last ∷ []) in let no : ⊥ = omega (arith, l) in no
not_before_last d (Some l) e is b h =
    let same : l ≡ h.last = one_last is.0 h.above l h.last (sym is.1 ∙ h.parts) in
    let g : true ≡ false = sym h.before_it ∙ ap (is_before e) (sym same) ∙ b in cc

-- ---- the lines one after another

pub written-more : (rows : List (List (List ℕ))) (r : List (List ℕ)) → written (rows ++ r ∷ []) ≡ written rows ++ written_line r
written-more [] r = append-nil (written_line r)
written-more (s ∷ rows) r = ap (λ t. written_line s ++ t) (written-more rows r) ∙ sym (append_assoc (written_line s) (written rows) (written_line r))

pub rows_more : (d d2 : DefectList) (e : Entry) → d2.shape ≡ d.shape → entries_of d2 ≡ entries_of d ++ e ∷ [] → rows_of d2 ≡ rows_of d ++ entry_words d.shape e ∷ []
rows_more d d2 e same more = (λ i. first_row ∷ shape_row (counts_of (same i).counts) ∷ map (entry_words (same i)) (more i)) ∙ ap (λ t. first_row ∷ shape_row (counts_of d.shape.counts) ∷ t) (map-append (entry_words d.shape) (entries_of d) (e ∷ []))

module _ (m : Shape) (bytes left : List ℕ) (d : DefectList) (last : Option Entry) (k : IsReadTo m bytes left d last) where
  pub reads_on : (rest : List ℕ) (d2 : DefectList) (last2 : Option Entry) (e : Entry) → left ≡ written_line (entry_words d.shape e) ++ rest → d2.shape ≡ d.shape → IsDefectList d2 → entries_of d2 ≡ entries_of d ++ e ∷ [] → IsLast (entries_of d2) last2 → IsReadTo m bytes rest d2 last2
  reads_on rest d2 last2 e line same right more is_last = record {
    shape = same ∙ k.shape;
    right = right;
    parts = k.parts ∙ ap (λ t. written (rows_of d) ++ t) line ∙ sym (append_assoc (written (rows_of d)) (written_line (entry_words d.shape e)) rest) ∙ ap (λ t. t ++ rest) (sym (written-more (rows_of d) (entry_words d.shape e)) ∙ ap written (sym (rows_more d d2 e same more)));
    is_last = is_last;
  }

  pub one_row_more : (d2 : DefectList) (e : Entry) → d2.shape ≡ d.shape → entries_of d2 ≡ entries_of d ++ e ∷ [] → length (rows_of d2) ≡ length (rows_of d) + 1
  one_row_more d2 e same more = ap length (rows_more d d2 e same more) ∙ length-append (rows_of d) (entry_words d.shape e ∷ [])

  pub rows_within : length (rows_of d) ≤ length bytes
  rows_within = let h = rows_short (rows_of d) in let l = ap length k.parts ∙ length-append (written (rows_of d)) left in omega (arith, h, l)

  pub shorter : (rest : List ℕ) (e : Entry) → left ≡ written_line (entry_words d.shape e) ++ rest → length rest < length left
  shorter rest e line = let l = ap length line ∙ length-append (written_line (entry_words d.shape e)) rest in let j = length-append (spaced (entry_words d.shape e)) (10 ∷ []) in omega (arith, l, j)

  whole : (rest : List ℕ) → left ≡ written_line end_row ++ rest → bytes ≡ text_of d ++ rest
  unfolding text_of
  whole rest line = k.parts ∙ ap (λ t. written (rows_of d) ++ t) line ∙ sym (append_assoc (written (rows_of d)) (written_line end_row) rest)

  pub ends_here : (rest : List ℕ) → left ≡ written_line end_row ++ rest → rest ≡ [] → IsText m bytes d
  ends_here rest line none = record { shape = k.shape; right = k.right; spelled = whole rest line ∙ ap (λ t. text_of d ++ t) none ∙ append-nil (text_of d) }

  pub ends_early : (rest : List ℕ) (number : ℕ) → left ≡ written_line end_row ++ rest → 0 < length rest → number ≡ length (rows_of d) + 2 → IsFirstFault m bytes number kinds.After
  ends_early rest number line some here = inr (record { list = d; left = rest; shape = k.shape; right = k.right; parts = whole rest line; some = some; here = here; kind_is = refl })

  pub stops : (number : ℕ) (kind : DefectsKind) → number ≡ length (rows_of d) + 1 → IsLineFault d (length (rows_of d)) left kind → IsFirstFault m bytes number kind
  stops number kind here fault = inl (record { list = d; above = rows_of d; left = left; right = listed d k.shape k.right; parts = k.parts; here = here; fault = fault })

  pub two_rows : 2 ≤ length (rows_of d)
  two_rows = omega arith

-- ---- the first two lines

pub no_start : (m : Shape) (bytes : List ℕ) → ((rest : List ℕ) → bytes ≢ written_line first_row ++ rest) → IsFirstFault m bytes 1 kinds.Word
no_start m bytes none = inl (record { list = record { shape = m; list = no_defects }; above = []; left = bytes; right = nothing; parts = refl; here = refl; fault = no_first (record { shape = m; list = no_defects }) bytes none })

pub no_second : (m : Shape) (bytes left : List ℕ) (kind : DefectsKind) → bytes ≡ written_line first_row ++ left → IsLineFault (record { shape = m; list = no_defects }) 1 left kind → IsFirstFault m bytes 2 kind
no_second m bytes left kind e fault = inl (record { list = record { shape = m; list = no_defects }; above = first_row ∷ []; left = left; right = begun; parts = e ∙ ap (λ t. t ++ left) (sym (append-nil (written_line first_row))); here = refl; fault = fault })

pub reads_from : (m : Shape) (bytes left below : List ℕ) (d : DefectList) → IsDefectList d → d ≡ record { shape = m; list = no_defects } → bytes ≡ written_line first_row ++ left → left ≡ written_line (shape_row (counts_of m.counts)) ++ below → IsReadTo m bytes below d None
reads_from m bytes left below d right is e f =
    let none : entries_of d ≡ [] = ap entries_of is ∙ none_listed m in
    record {
      shape = ap (λ (v : DefectList). v.shape) is;
      right = right;
      parts =
          e ∙ ap (λ t. written_line first_row ++ t) f
          ∙ sym ((λ i. (written_line first_row ++ (written_line (shape_row (counts_of (is i).shape.counts)) ++ written (map (entry_words (is i).shape) (entries_of (is i))))) ++ below)
          ∙ ap (λ es. (written_line first_row ++ (written_line (shape_row (counts_of m.counts)) ++ written (map (entry_words m) es))) ++ below) (none_listed m)
          ∙ tidy (written_line first_row) (written_line (shape_row (counts_of m.counts))) below);
      is_last = none;
    }
  where
    tidy : (a b c : List ℕ) → (a ++ (b ++ [])) ++ c ≡ a ++ (b ++ c)
    tidy a b c = append_assoc a (b ++ []) c ∙ ap (λ t. a ++ (t ++ c)) (append-nil b)

-- the entry of a line, at the list's own shape
pub entry_here : (d : DefectList) (m : Shape) → m ≡ d.shape → (e : Entry) (row : List (List ℕ)) (line rest left : List ℕ) → left ≡ line ++ 10 ∷ rest → spaced row ≡ line → IsEntryOf m e × (entry_words m e ≡ row) → IsEntryOf d.shape e × (left ≡ written_line (entry_words d.shape e) ++ rest)
entry_here d m same e row line rest left p q h = (
  subst (λ n. IsEntryOf n e) same h.0,
  whole_line line rest left row p q ∙ ap (λ ws. written_line ws ++ rest) (sym h.1 ∙ ap (λ n. entry_words n e) same),
)

pub none_right : (m : Shape) → IsDefectList (record { shape = m; list = no_defects })
none_right m = record {
  wires = λ w e. absurd (empty w e);
  crosses = λ x e. absurd (empty x e);
  tables = λ t e. absurd (empty t e);
  taps = λ x e. absurd (empty x e);
  lines = λ x e. absurd (empty x e);
  pins = λ t k e lt. absurd (empty t e);
}
  where
    empty : (q : ℕ) → sets.contains {R = nat_cmp} sets.empty q ≡ true → ⊥
    empty q e = let h : false ≡ true = sym (contains-empty nat_cmp q) ∙ e in cc
