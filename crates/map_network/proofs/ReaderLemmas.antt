-- Who reads a table, by the counts.
use Rattle.std.proofs.Common.{◌≡◌, ◌⊎◌, ℕ, zero, suc, ◌+◌, ◌<◌, ◌≤◌, ◌&&◌, List, [], ◌∷◌, Option, None, Some, true, false, length, get_or, set, replicate, refl, sym, ap, subst, ◌∙◌, inl, inr, arith, slice_index_or, nat_lt, ◌==◌, if◌then◌else◌, is_some, MatchOption}
use Rattle.map_network.proofs.Vocabulary.{Contains, cases_eq, cases_lt, false≢true, nat_tests, Source, Input, Table, NetTable, Network}
use Rattle.std.proofs.lemmas.List.{length-set, get_or-set_same, get_or-set_other, get_or-replicate, length-replicate}
use Rattle.map_network.specs.declared.readers.Readers.{Readers}
use Rattle.map_network.specs.Vocabulary.{no_table, table_at, IsSourceOf, IsCombinational, IsNetwork, IsSourceIn, AreSourcesIn, Reads, CanJoin, MayPut, unread, readers_at, one_more, with_reader, noted_one, noted, noted_tables, all_readers}
use Rattle.map_network.proofs.CellLemmas.{eqb_true, eqb_false}
use Rattle.map_network.proofs.PathLemmas.{no_loop}

-- those of whom P holds are as many
pub record IsReaders (P : ℕ → Type 0) (x : Readers) : Type 0 where
  pub none : x.count ≡ 0 → (i : ℕ) → P i → ⊥
  pub one : x.count ≡ 1 → (i : ℕ) → P i → i ≡ x.last
  pub several : 2 ≤ x.count → (a : ℕ) × (b : ℕ) × P a × P b × (a ≡ b → ⊥)
  pub last : 1 ≤ x.count → P x.last

alike : (P Q : ℕ → Type 0) (x : Readers) → ((i : ℕ) → P i → Q i) → ((i : ℕ) → Q i → P i) → IsReaders P x → IsReaders Q x
alike P Q x to from h = record {
  none = λ e i q. h.none e i (from i q);
  one = λ e i q. h.one e i (from i q);
  several = λ l. (let s = h.several l in (s.0, s.1, to s.0 s.2, to s.1 s.3, s.4));
  last = λ l. to x.last (h.last l);
}

more_none : (c : ℕ) → c ≡ 0 → one_more c ≡ 1
more_none c e = ap one_more e

more_some : (c : ℕ) → 1 ≤ c → 2 ≤ one_more c
more_some c l = elim (cases_lt c 4294967295) [
  | inl a ↦ (let e : nat_lt c 4294967295 ≡ true = grind (arith, nat_tests) in subst (λ b. 2 ≤ (if b then c + 1 else c)) (sym e) (omega arith))
  | inr a ↦ (let e : nat_lt c 4294967295 ≡ false = grind (arith, nat_tests) in subst (λ b. 2 ≤ (if b then c + 1 else c)) (sym e) (omega arith))
]

new_reader : ℕ → ℕ → Readers
new_reader c r = record { count = one_more c; last = r }

with_old : (x : Readers) (r : ℕ) → 1 ≤ x.count → x.last ≡ r → with_reader x r ≡ x
unfolding new_reader
with_old x r l e =
    let t : nat_lt 0 x.count ≡ true = grind (arith, nat_tests) in
    ap (λ b. if b && (x.last == r) then x else new_reader x.count r) t
    ∙ ap (λ b. if b then x else new_reader x.count r) (eqb_true x.last r e)

with_first : (x : Readers) (r : ℕ) → x.count ≡ 0 → with_reader x r ≡ new_reader x.count r
unfolding new_reader
with_first x r z =
    let t : nat_lt 0 x.count ≡ false = grind (arith, nat_tests) in
    ap (λ b. if b && (x.last == r) then x else new_reader x.count r) t

with_next : (x : Readers) (r : ℕ) → 1 ≤ x.count → (x.last ≡ r → ⊥) → with_reader x r ≡ new_reader x.count r
unfolding new_reader
with_next x r l d =
    let t : nat_lt 0 x.count ≡ true = grind (arith, nat_tests) in
    ap (λ b. if b && (x.last == r) then x else new_reader x.count r) t
    ∙ ap (λ b. if b then x else new_reader x.count r) (eqb_false x.last r d)

module _ (P Q : ℕ → Type 0) (x : Readers) (r : ℕ) (h : IsReaders P x) (to : (i : ℕ) → P i → Q i) (here : Q r) (from : (i : ℕ) → Q i → P i ⊎ (i ≡ r)) where
  first_now : x.count ≡ 0 → IsReaders Q (new_reader x.count r)
  unfolding new_reader
  first_now z = record {
    none = λ e i q. absurd (let f = more_none x.count z in let no : ⊥ = omega arith in no);
    one = λ e i q. elim (from i q) [ inl p ↦ absurd (h.none z i p) | inr s ↦ s ];
    several = λ l. absurd (let f = more_none x.count z in let no : ⊥ = omega arith in no);
    last = λ l. here;
  }

  next_now : 1 ≤ x.count → (x.last ≡ r → ⊥) → IsReaders Q (new_reader x.count r)
  unfolding new_reader
  next_now some d = record {
    none = λ e i q. absurd (let f = more_some x.count some in let no : ⊥ = omega arith in no);
    one = λ e i q. absurd (let f = more_some x.count some in let no : ⊥ = omega arith in no);
    several = λ l. (x.last, r, to x.last (h.last some), here, d);
    last = λ l. here;
  }

  old_now : x.last ≡ r → 1 ≤ x.count → IsReaders Q x
  old_now e some = record {
    none = λ z i q. absurd (let no : ⊥ = omega arith in no);
    one = λ o i q. elim (from i q) [ inl p ↦ h.one o i p | inr s ↦ s ∙ sym e ];
    several = λ l. (let s = h.several l in (s.0, s.1, to s.0 s.2, to s.1 s.3, s.4));
    last = λ l. to x.last (h.last l);
  }

  pub reader_step : IsReaders Q (with_reader x r)
  reader_step = elim (cases_lt 0 x.count) [
    | inr z ↦ (let e : x.count ≡ 0 = omega arith in subst (IsReaders Q) (sym (with_first x r e)) (first_now e))
    | inl l ↦ elim (cases_eq x.last r) [
      | inl e ↦ subst (IsReaders Q) (sym (with_old x r l e)) (old_now e l)
      | inr d ↦ subst (IsReaders Q) (sym (with_next x r l d)) (next_now l d)
    ]
  ]

input_table : (a b : ℕ) → Input a ≡ Table b → ⊥
input_table a b e = cc

table_name : (a b : ℕ) → Table a ≡ Table b → a ≡ b
table_name a b e = cc

-- beside P, r reads table x if it is this source
one_right : (P : ℕ → Type 0) (r x : ℕ) (s : Source) (rs : List Readers) → x < length rs → IsReaders P (readers_at rs x) → IsReaders (λ i. P i ⊎ ((i ≡ r) × (s ≡ Table x))) (readers_at (noted_one r s rs) x)
one_right P r x (Input k) rs lx h = alike P _ (readers_at rs x) (λ i p. inl p) (λ i q. elim q [ inl p ↦ p | inr f ↦ absurd (input_table k x f.1) ]) h
one_right P r x (Table t) rs lx h = by (cases_eq t x)
  where
    by : (t ≡ x) ⊎ (t ≡ x → ⊥) → IsReaders (λ i. P i ⊎ ((i ≡ r) × (Table t ≡ Table x))) (readers_at (noted_one r (Table t) rs) x)
    by (inl e) =
        let f : readers_at (noted_one r (Table t) rs) x ≡ with_reader (readers_at rs x) r = ap (λ y. get_or (set rs y (with_reader (readers_at rs y) r)) x unread) e ∙ get_or-set_same rs x (with_reader (readers_at rs x) r) unread lx in
        subst (IsReaders (λ i. P i ⊎ ((i ≡ r) × (Table t ≡ Table x)))) (sym f) (reader_step P (λ i. P i ⊎ ((i ≡ r) × (Table t ≡ Table x))) (readers_at rs x) r h (λ i p. inl p) (inr (refl, ap Table e)) (λ i q. elim q [ inl p ↦ inl p | inr g ↦ inr g.0 ]))
    by (inr d) =
        let f : readers_at (noted_one r (Table t) rs) x ≡ readers_at rs x = get_or-set_other rs t x (with_reader (readers_at rs t) r) unread (λ g. d (sym g)) in
        subst (IsReaders (λ i. P i ⊎ ((i ≡ r) × (Table t ≡ Table x)))) (sym f) (alike P (λ i. P i ⊎ ((i ≡ r) × (Table t ≡ Table x))) (readers_at rs x) (λ i p. inl p) (λ i q. elim q [ inl p ↦ p | inr g ↦ absurd (d (table_name t x g.1)) ]) h)

pub length_one : (r : ℕ) (s : Source) (rs : List Readers) → length (noted_one r s rs) ≡ length rs
length_one r (Input k) rs = refl
length_one r (Table t) rs = length-set rs t (with_reader (readers_at rs t) r)

length_noted : (r : ℕ) (ss : List Source) (rs : List Readers) → length (noted r ss rs) ≡ length rs
length_noted r [] rs = refl
length_noted r (s ∷ ss) rs = length_noted r ss (noted_one r s rs) ∙ length_one r s rs

noted_right : (P : ℕ → Type 0) (r x : ℕ) (ss : List Source) (rs : List Readers) → x < length rs → IsReaders P (readers_at rs x) → IsReaders (λ i. P i ⊎ ((i ≡ r) × Contains ss (Table x))) (readers_at (noted r ss rs) x)
noted_right P r x [] rs lx h = alike P _ (readers_at rs x) (λ i p. inl p) (λ i q. elim q [ inl p ↦ p | inr f ↦ absurd (let l = f.1.1 in let no : ⊥ = omega arith in no) ]) h
noted_right P r x (s ∷ ss) rs lx h =
    alike (λ i. (P i ⊎ ((i ≡ r) × (s ≡ Table x))) ⊎ ((i ≡ r) × Contains ss (Table x))) (λ i. P i ⊎ ((i ≡ r) × Contains (s ∷ ss) (Table x))) (readers_at (noted r (s ∷ ss) rs) x) to from (noted_right (λ i. P i ⊎ ((i ≡ r) × (s ≡ Table x))) r x ss (noted_one r s rs) (omega (arith, lx, length_one r s rs)) (one_right P r x s rs lx h))
  where
    to : (i : ℕ) → (P i ⊎ ((i ≡ r) × (s ≡ Table x))) ⊎ ((i ≡ r) × Contains ss (Table x)) → P i ⊎ ((i ≡ r) × Contains (s ∷ ss) (Table x))
    to i (inl (inl p)) = inl p
    to i (inl (inr f)) = inr (f.0, (0, omega arith, f.1))
    to i (inr g) = inr (g.0, (suc g.1.0, omega (arith, g.1.1), g.1.2))

    split : (k : ℕ) → k < length (s ∷ ss) → slice_index_or (s ∷ ss) k (Table x) ≡ Table x → (s ≡ Table x) ⊎ Contains ss (Table x)
    split zero lk e = inl e
    split (suc k) lk e = inr (k, omega arith, e)

    from : (i : ℕ) → P i ⊎ ((i ≡ r) × Contains (s ∷ ss) (Table x)) → (P i ⊎ ((i ≡ r) × (s ≡ Table x))) ⊎ ((i ≡ r) × Contains ss (Table x))
    from i (inl p) = inl (inl p)
    from i (inr g) = elim (split g.1.0 g.1.1 g.1.2) [ inl e ↦ inl (inr (g.0, e)) | inr c ↦ inr (g.0, c) ]

-- one of these tables, with numbers from r on, reads x
abbrev ReadIn : List NetTable → ℕ → ℕ → ℕ → Type 0
ReadIn ts r x i = (k : ℕ) × (k < length ts) × (i ≡ r + k) × Contains (get_or ts k no_table).ins (Table x)

length_tables : (r : ℕ) (ts : List NetTable) (rs : List Readers) → length (noted_tables r ts rs) ≡ length rs
length_tables r [] rs = refl
length_tables r (t ∷ ts) rs = length_tables (r + 1) ts (noted r t.ins rs) ∙ length_noted r t.ins rs

tables_right : (P : ℕ → Type 0) (r x : ℕ) (ts : List NetTable) (rs : List Readers) → x < length rs → IsReaders P (readers_at rs x) → IsReaders (λ i. P i ⊎ ReadIn ts r x i) (readers_at (noted_tables r ts rs) x)
tables_right P r x [] rs lx h = alike P _ (readers_at rs x) (λ i p. inl p) (λ i q. elim q [ inl p ↦ p | inr f ↦ absurd (let l = f.1 in let no : ⊥ = omega arith in no) ]) h
tables_right P r x (t ∷ ts) rs lx h =
    alike (λ i. (P i ⊎ ((i ≡ r) × Contains t.ins (Table x))) ⊎ ReadIn ts (r + 1) x i) (λ i. P i ⊎ ReadIn (t ∷ ts) r x i) (readers_at (noted_tables r (t ∷ ts) rs) x) to from (tables_right (λ i. P i ⊎ ((i ≡ r) × Contains t.ins (Table x))) (r + 1) x ts (noted r t.ins rs) (omega (arith, lx, length_noted r t.ins rs)) (noted_right P r x t.ins rs lx h))
  where
    to : (i : ℕ) → (P i ⊎ ((i ≡ r) × Contains t.ins (Table x))) ⊎ ReadIn ts (r + 1) x i → P i ⊎ ReadIn (t ∷ ts) r x i
    to i (inl (inl p)) = inl p
    to i (inl (inr f)) = inr (0, omega arith, omega (arith, f.0), f.1)
    to i (inr g) = inr (suc g.0, omega (arith, g.1), omega (arith, g.2), g.3)

    split : (i k : ℕ) → k < length (t ∷ ts) → i ≡ r + k → Contains (get_or (t ∷ ts) k no_table).ins (Table x) → ((i ≡ r) × Contains t.ins (Table x)) ⊎ ReadIn ts (r + 1) x i
    split i zero lk e c = inl (omega arith, c)
    split i (suc k) lk e c = inr (k, omega arith, omega arith, c)

    from : (i : ℕ) → P i ⊎ ReadIn (t ∷ ts) r x i → (P i ⊎ ((i ≡ r) × Contains t.ins (Table x))) ⊎ ReadIn ts (r + 1) x i
    from i (inl p) = inl (inl p)
    from i (inr g) = elim (split i g.0 g.1 g.2 g.3) [ inl e ↦ inl (inr e) | inr c ↦ inr c ]

module _ (n : Network) where
  -- table i reads x, or the outputs do, which have the number behind the last table
  abbrev pub ReadsOrShows : ℕ → ℕ → Type 0
  ReadsOrShows x i = Reads n i x ⊎ ((i ≡ length n.tables) × Contains n.outputs (Table x))

  nobody : IsReaders (λ i. ⊥) unread
  nobody = record {
    none = λ e i p. p;
    one = λ e i p. absurd p;
    several = λ l. absurd (let no : ⊥ = omega arith in no);
    last = λ l. absurd (let no : ⊥ = omega arith in no);
  }

  pub all_right : (x : ℕ) → x < length n.tables → IsReaders (ReadsOrShows x) (readers_at (all_readers n.tables n.outputs) x)
  unfolding all_readers
  all_right x lx =
      let none : IsReaders (λ i. ⊥) (readers_at (replicate (length n.tables) unread) x) = subst (IsReaders (λ i. ⊥)) (sym (get_or-replicate (length n.tables) x unread unread lx)) nobody in
      let len : x < length (replicate (length n.tables) unread) = omega (arith, lx, length-replicate (length n.tables) unread) in
      let some = tables_right (λ i. ⊥) 0 x n.tables (replicate (length n.tables) unread) len none in
      let all = noted_right (λ i. ⊥ ⊎ ReadIn n.tables 0 x i) (length n.tables) x n.outputs (noted_tables 0 n.tables (replicate (length n.tables) unread)) (omega (arith, len, length_tables 0 n.tables (replicate (length n.tables) unread))) some in
      alike (λ i. (⊥ ⊎ ReadIn n.tables 0 x i) ⊎ ((i ≡ length n.tables) × Contains n.outputs (Table x))) (ReadsOrShows x) (readers_at (noted (length n.tables) n.outputs (noted_tables 0 n.tables (replicate (length n.tables) unread))) x) to from all
    where
      to : (i : ℕ) → (⊥ ⊎ ReadIn n.tables 0 x i) ⊎ ((i ≡ length n.tables) × Contains n.outputs (Table x)) → ReadsOrShows x i
      to i (inl (inl p)) = absurd p
      to i (inl (inr g)) = let e : g.0 ≡ i = omega (arith, g.2) in inl (record { within = omega (arith, g.1, e); at = subst (λ y. Contains (table_at n y).ins (Table x)) e g.3 })
      to i (inr g) = inr g

      from : (i : ℕ) → ReadsOrShows x i → (⊥ ⊎ ReadIn n.tables 0 x i) ⊎ ((i ≡ length n.tables) × Contains n.outputs (Table x))
      from i (inl q) = inl (inr (i, q.within, omega arith, q.at))
      from i (inr g) = inr g

  module _ (x : ℕ) (lx : x < length n.tables) where
    pub joins : MayPut n.tables x (readers_at (all_readers n.tables n.outputs) x).last → (readers_at (all_readers n.tables n.outputs) x).count ≡ 1 → CanJoin n x (readers_at (all_readers n.tables n.outputs) x).last
    joins may one = let h = all_right x lx in record {
      combinational = record { within = may.within; latched = may.latched };
      reads = record { within = may.reader; at = may.reads };
      alone = λ i q. h.one one i (inl q);
      unshown = λ c. (let e = h.one one (length n.tables) (inr (refl, c)) in let l = may.reader in omega arith);
      few = may.few;
    }

    only : (r : ℕ) → CanJoin n x r → (i : ℕ) → ReadsOrShows x i → i ≡ r
    only r can i (inl q) = can.alone i q
    only r can i (inr g) = absurd (can.unshown g.1)

    pub not_one : ((readers_at (all_readers n.tables n.outputs) x).count ≡ 1 → ⊥) → (r : ℕ) → CanJoin n x r → ⊥
    not_one other r can = elim (cases_lt 1 (readers_at (all_readers n.tables n.outputs) x).count) [
      | inl l ↦ (let s = (all_right x lx).several (omega arith) in s.4 (only r can s.0 s.2 ∙ sym (only r can s.1 s.3)))
      | inr l ↦ elim (cases_eq (readers_at (all_readers n.tables n.outputs) x).count 1) [
        | inl e ↦ other e
        | inr d ↦ (all_right x lx).none (omega arith) r (inl can.reads)
      ]
    ]

    pub may_put : IsNetwork n → (r : ℕ) → CanJoin n x r → MayPut n.tables x r
    may_put is r can = record {
      within = lx;
      reader = can.reads.within;
      apart = λ e. no_loop n is.acyclic.0 is.acyclic.1 (λ i. i ≡ x) (λ i f. subst (IsCombinational n) (sym f) can.combinational) (λ i f. (x, refl, subst (λ y. Contains (table_at n y).ins (Table x)) (sym (f ∙ e)) can.reads.at)) x refl;
      latched = can.combinational.latched;
      reads = can.reads.at;
      few = can.few;
    }

    pub not_put : IsNetwork n → (readers_at (all_readers n.tables n.outputs) x).count ≡ 1 → (MayPut n.tables x (readers_at (all_readers n.tables n.outputs) x).last → ⊥) → (r : ℕ) → CanJoin n x r → ⊥
    not_put is one never r can = never (subst (MayPut n.tables x) ((all_right x lx).one one r (inl can.reads)) (may_put is r can))

-- sources of a network are in range
pub in_count : (n : Network) (s : Source) → IsSourceOf n s → IsSourceIn (length n.tables) s
in_count n (Input k) of = tt
in_count n (Table j) of = of

pub ins_in : (n : Network) → IsNetwork n → (j : ℕ) → j < length n.tables → AreSourcesIn (length n.tables) (table_at n j).ins
ins_in n is j lj k lk = in_count n (get_or (table_at n j).ins k (Input 0)) (is.sources j no_table lj k (Input 0) lk)

pub outputs_in_range : (n : Network) → IsNetwork n → AreSourcesIn (length n.tables) n.outputs
outputs_in_range n is k lk = in_count n (get_or n.outputs k (Input 0)) (is.outputs k (Input 0) lk)

pub length_all : (n : Network) → length (all_readers n.tables n.outputs) ≡ length n.tables
unfolding all_readers
length_all n = length_noted (length n.tables) n.outputs (noted_tables 0 n.tables (replicate (length n.tables) unread)) ∙ length_tables 0 n.tables (replicate (length n.tables) unread) ∙ length-replicate (length n.tables) unread

pub some_case : {X : Type 0} (A B : Type 0) (P : X → Type 0) (o : Option X) → is_some o ≡ true → MatchOption o A (λ x. B × P x) → B
some_case A B P None e m = absurd (false≢true e)
some_case A B P (Some x) e m = m.0

pub none_case : {X : Type 0} (A : Type 0) (P : X → Type 0) (o : Option X) → is_some o ≡ false → MatchOption o A P → A
none_case A P None e m = m
none_case A P (Some x) e m = absurd (false≢true (sym e))
