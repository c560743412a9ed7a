-- Tables that were put into readers, where nothing that stands reads one of them: each had one reader.
use Rattle.std.proofs.Common.{◌≡◌, ◌⊎◌, Bool, ℕ, zero, suc, ◌<◌, ◌≤◌, List, [], ◌∷◌, ◌++◌, true, false, length, get_or, set, replicate, refl, sym, ap, subst, ◌∙◌, inl, inr, arith}
use Rattle.map_network.proofs.Vocabulary.{Contains, cases_eq, cases_lt, Source, Table, NetTable, Network}
use Rattle.std.proofs.lemmas.List.{get_or-set_same, get_or-set_other, get_or-replicate, length-replicate, get_or_past}
use Rattle.std.proofs.lemmas.List.Elements.{Contains-append_left, Contains-append_right}
use Rattle.map_network.specs.Vocabulary.{IsNetwork, Reads, in_tables, IsPutOn, Puts, none, more, is_dropped, IsClosed, StillReads, IsMerge, Merges, merges}
use Rattle.map_network.proofs.SourceLemmas.{has_both, of_among}
use Rattle.map_network.proofs.CompactLemmas.{kept_of}
use Rattle.map_network.proofs.PutLemmas.{net, at_reader, at_other, apart, same_length, same_marks, same_tables, after_puts}

no_both : true ≡ false → ⊥
no_both e = cc

-- nothing that stands reads what is gone, and no output does
pub record IsClean (n : Network) (gone : List Bool) : Type 0 where
  pub tables : (i x : ℕ) → is_dropped gone i ≡ false → Reads n i x → is_dropped gone x ≡ false
  pub outputs : (x : ℕ) → Contains n.outputs (Table x) → is_dropped gone x ≡ false

pub clean_of : (inputs : ℕ) (ts : List NetTable) (outputs : List Source) (gone : List Bool) → IsClosed gone ts outputs → IsClean (net inputs ts outputs) gone
clean_of inputs ts outputs gone closed = record {
  tables = λ i x stands q. kept_of gone (in_tables ts i).ins x (closed.tables i q.within stands) q.at;
  outputs = λ x c. kept_of gone outputs x closed.outputs c;
}

-- at the start none is gone
pub none_is_gone : (count i : ℕ) → is_dropped (replicate count false) i ≡ false
none_is_gone count i = elim (cases_lt i count) [
  | inl l ↦ get_or-replicate count i false false l
  | inr g ↦ get_or_past (replicate count false) i false (omega (arith, length-replicate count false))
]

-- marks beyond the list change nothing
pub set_past : (xs : List Bool) (i : ℕ) (b : Bool) → length xs ≤ i → set xs i b ≡ xs
set_past [] i b le = refl
set_past (x ∷ xs) zero b le = absurd (omega arith)
set_past (x ∷ xs) (suc i) b le = ap (λ ys. x ∷ ys) (set_past xs i b (omega arith))

module _ (inputs : ℕ) (outputs : List Source) (old : List NetTable) (gone : List Bool) (j r : ℕ) (new : List NetTable) (now : List Bool) (w : IsPutOn old gone j r new now) (is : IsNetwork (net inputs old outputs)) (len : length gone ≡ length old) (clean : IsClean (net inputs new outputs) now) where
  is_gone : is_dropped now j ≡ true
  is_gone = ap (λ g. get_or g j false) w.marked ∙ get_or-set_same gone j true false (omega (arith, len, w.put.may.within))

  as_before : (i : ℕ) → (i ≡ j → ⊥) → is_dropped now i ≡ is_dropped gone i
  as_before i d = ap (λ g. get_or g i false) w.marked ∙ get_or-set_other gone j i true false d

  -- what stands now stood before
  stood : (x : ℕ) → is_dropped now x ≡ false → is_dropped gone x ≡ false
  stood x e = elim (cases_eq x j) [
    | inl f ↦ absurd (no_both (sym is_gone ∙ ap (is_dropped now) (sym f) ∙ e))
    | inr d ↦ sym (as_before x d) ∙ e
  ]

  not_by_itself : Contains (in_tables old j).ins (Table j) → ⊥
  not_by_itself c = apart inputs old outputs j r new w.put is c

  table_name : (a b : ℕ) → Table a ≡ Table b → a ≡ b
  table_name a b e = cc

  -- the reader reads what both read
  by_reader : (x : ℕ) → (x ≡ j → ⊥) → Contains (in_tables old r).ins (Table x) ⊎ Contains (in_tables old j).ins (Table x) → is_dropped gone x ≡ false
  by_reader x d c = stood x (clean.tables r x (as_before r (λ e. w.put.may.apart (sym e)) ∙ w.reader) (record {
    within = subst (λ n. r < n) (sym (same_length inputs old outputs j r new w.put)) w.put.may.reader;
    at = subst (λ (t : NetTable). Contains t.ins (Table x)) (sym (at_reader inputs old outputs j r new w.put)) (of_among w.put.table.ins (Table x) (has_both j (in_tables old r).ins (in_tables old j).ins w.put.table.ins w.put.joined.ins (Table x) (λ e. d (table_name x j e)) (both c)));
  }))
    where
      both : Contains (in_tables old r).ins (Table x) ⊎ Contains (in_tables old j).ins (Table x) → Contains ((in_tables old r).ins ++ (in_tables old j).ins) (Table x)
      both (inl a) = Contains-append_left (in_tables old r).ins (in_tables old j).ins (Table x) a
      both (inr b) = Contains-append_right (in_tables old r).ins (in_tables old j).ins (Table x) b

  -- another one reads what it read
  by_other : (i x : ℕ) → (i ≡ r → ⊥) → (i ≡ j → ⊥) → is_dropped gone i ≡ false → Reads (net inputs old outputs) i x → is_dropped now x ≡ false
  by_other i x d e stands q = clean.tables i x (as_before i e ∙ stands) (record {
    within = subst (λ n. i < n) (sym (same_length inputs old outputs j r new w.put)) q.within;
    at = subst (λ (t : NetTable). Contains t.ins (Table x)) (sym (at_other inputs old outputs j r new w.put i d)) q.at;
  })

  before : (i x : ℕ) → (i ≡ r) ⊎ (i ≡ r → ⊥) → (i ≡ j) ⊎ (i ≡ j → ⊥) → (x ≡ j) ⊎ (x ≡ j → ⊥) → is_dropped gone i ≡ false → Reads (net inputs old outputs) i x → is_dropped gone x ≡ false
  before i x a b (inl e) stands q = subst (λ y. is_dropped gone y ≡ false) (sym e) w.stands
  before i x (inl e) b (inr d) stands q = by_reader x d (inl (subst (λ y. Contains (in_tables old y).ins (Table x)) e q.at))
  before i x (inr a) (inl e) (inr d) stands q = by_reader x d (inr (subst (λ y. Contains (in_tables old y).ins (Table x)) e q.at))
  before i x (inr a) (inr b) (inr d) stands q = stood x (by_other i x a b stands q)

  pub clean_before : IsClean (net inputs old outputs) gone
  clean_before = record {
    tables = λ i x stands q. before i x (cases_eq i r) (cases_eq i j) (cases_eq x j) stands q;
    outputs = λ x c. stood x (clean.outputs x c);
  }

  one_reader : (i : ℕ) → (i ≡ r) ⊎ (i ≡ r → ⊥) → (i ≡ j) ⊎ (i ≡ j → ⊥) → StillReads (net inputs old outputs) gone i j → i ≡ r
  one_reader i (inl e) b q = e
  one_reader i (inr d) (inl e) q = absurd (not_by_itself (subst (λ y. Contains (in_tables old y).ins (Table j)) e q.reads.at))
  one_reader i (inr d) (inr b) q = absurd (no_both (sym is_gone ∙ by_other i j d b q.stands q.reads))

  pub merged_once : IsMerge (net inputs old outputs) gone j r (net inputs new outputs)
  merged_once = record {
    can = record {
      stands = w.stands;
      combinational = record { within = w.put.may.within; latched = w.put.may.latched };
      reads = record { stands = w.reader; reads = record { within = w.put.may.reader; at = w.put.may.reads } };
      alone = λ i q. one_reader i (cases_eq i r) (cases_eq i j) q;
      unshown = λ c. no_both (sym is_gone ∙ clean.outputs j c);
      few = w.put.may.few;
    };
    table = w.put.table;
    composed = w.put.joined;
    is = ap (λ ts. net inputs ts outputs) w.put.set;
  }

-- so each step was one of a table into its one reader
module _ (start : Network) (inputs : ℕ) (outputs : List Source) where
  pub merged_by : {a b : List NetTable} {f g : List Bool} → Puts a f b g → IsNetwork (net inputs a outputs) → length f ≡ length a → IsClean (net inputs b outputs) g → Merges start (net inputs a outputs) f → Merges start (net inputs b outputs) g
  merged_by none is len clean begun = begun
  merged_by (more {a = a} {b = b} {c = c} {f = f} {g = g} {h = h} {j = j} {r = r} ps p) is len clean begun =
      let here = after_puts inputs outputs ps is in
      let many : length g ≡ length b = same_marks ps ∙ len ∙ sym (same_tables ps) in
      let before = clean_before inputs outputs b g j r c h p here.network many clean in
      subst (Merges start (net inputs c outputs)) (sym p.marked) (merges (merged_by ps is len before begun) (merged_once inputs outputs b g j r c h p here.network many clean))
