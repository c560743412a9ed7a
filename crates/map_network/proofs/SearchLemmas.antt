-- Each step of the search for the depth keeps what it knows.
use Rattle.std.proofs.Common.{◌≡◌, ◌⊎◌, Bool, ℕ, suc, ◌+◌, ◌-◌, ◌<◌, ◌≤◌, List, [], ◌∷◌, ◌++◌, None, Some, true, false, length, take, get_or, refl, sym, ap, subst, ◌∙◌, inl, inr, arith, slice_set}
use Rattle.map_network.proofs.Vocabulary.{Contains, cases_lt, cases_eq, sum_by-set, sum_by-cons, Source, Input, Table, NetTable, Network}
use Rattle.std.proofs.lemmas.List.{length-set, get_or-set_same, get_or-set_other, get_or_append_left, get_or_at, length_push, get_or-take, length-take-le, get_or_past, get_or_default}
use Rattle.design_netlist.specs.Valuations.{number_at}
use Rattle.map_network.specs.declared.longest.Mark.{Mark, TheVariants.New, TheVariants.Open, TheVariants.Done}
use Rattle.map_network.specs.Vocabulary.{no_table, table_at, IsCombinational, IsPath, alone, onward, IsNetwork, IsSourceOf, IsDepth, mark_at, source_at, IsLevel, cost, work_of, is_done, done_in, IsSearch, AreMarks, StaysSeen, IsLastOf, IsReadByLast, level_of, level_in, source_level, level_at, IsMost, IsDoneIn, new_table, if_new}
use Rattle.map_network.proofs.PathLemmas.{last_is, no_loop}

-- marks at the start

latched_or : (b : Bool) → (b ≡ true) ⊎ (b ≡ false)
latched_or true = inl refl
latched_or false = inr refl

different : (a b : Mark) → a ≡ b → (a ≡ New → ⊥) → b ≡ New → ⊥
different a b e h f = h (e ∙ f)

open_not_new : Open ≡ New → ⊥
open_not_new e = cc

done_not_new : (v : ℕ) → Done v ≡ New → ⊥
done_not_new v e = cc

done_not_open : (v : ℕ) → Done v ≡ Open → ⊥
done_not_open v e = cc

true_not_false : true ≡ false → ⊥
true_not_false e = cc

module _ (tables : List NetTable) (m : ℕ) (marks : List Mark) (h : AreMarks tables m marks) (lm : m < length tables) where
  pub marks_set : (get_or tables m no_table).latched ≡ true → AreMarks tables (m + 1) (slice_set marks m (Done 0))
  marks_set is = record {
    len = length-set marks m (Done 0) ∙ h.len;
    latched = λ j lj e. elim (cases_eq j m) [ inl s ↦ subst (λ x. mark_at (slice_set marks m (Done 0)) x ≡ Done 0) (sym s) same | inr s ↦ get_or-set_other marks m j (Done 0) (Done 0) s ∙ h.latched j (omega arith) e ];
    combinational = λ j lj e. elim (cases_eq j m) [ inl s ↦ absurd (true_not_false (sym is ∙ ap (λ x. (get_or tables x no_table).latched) (sym s) ∙ e)) | inr s ↦ get_or-set_other marks m j (Done 0) (Done 0) s ∙ h.combinational j (omega arith) e ];
    later = λ j lo lj. get_or-set_other marks m j (Done 0) (Done 0) (λ s. omega arith) ∙ h.later j (omega arith) lj;
  }
    where
      same : mark_at (slice_set marks m (Done 0)) m ≡ Done 0
      same = get_or-set_same marks m (Done 0) (Done 0) (omega (arith, h.len))

  pub marks_kept : (get_or tables m no_table).latched ≡ false → AreMarks tables (m + 1) marks
  marks_kept is = record {
    len = h.len;
    latched = λ j lj e. elim (cases_eq j m) [ inl s ↦ absurd (true_not_false (sym e ∙ ap (λ x. (get_or tables x no_table).latched) s ∙ is)) | inr s ↦ h.latched j (omega arith) e ];
    combinational = λ j lj e. elim (cases_eq j m) [ inl s ↦ subst (λ x. mark_at marks x ≡ New) (sym s) (h.later m (omega arith) lm) | inr s ↦ h.combinational j (omega arith) e ];
    later = λ j lo lj. h.later j (omega arith) lj;
  }

-- the search begins
module _ (n : Network) (marks : List Mark) (h : AreMarks n.tables (length n.tables) marks) where
  pub no_path_yet : (path : List ℕ) → path ≡ [] → IsSearch n marks path
  no_path_yet path e = subst (λ p. IsSearch n marks p) (sym e) (record {
    len = h.len;
    opens = λ k lk. absurd (omega arith);
    opened = λ j o. absurd (never_open j o);
    apart = λ i j lt lj. absurd (omega arith);
    along = λ k lk. absurd (omega arith);
    waiting = λ j w. elim w [ inl f ↦ fresh j f | inr o ↦ absurd (never_open j o) ];
    level = λ j v lj e. is_level j v lj e (latched_or (table_at n j).latched);
    few = λ j v lj e. is_few j v lj e (latched_or (table_at n j).latched);
  })
    where
      inside : (j : ℕ) → (mark_at marks j ≡ New) ⊎ (mark_at marks j ≡ Open) → j < length n.tables
      inside j w = elim (cases_lt j (length n.tables)) [ inl l ↦ l | inr g ↦ absurd (past g w) ]
        where
          past : length n.tables ≤ j → (mark_at marks j ≡ New) ⊎ (mark_at marks j ≡ Open) → ⊥
          past g (inl e) = done_not_new 0 (sym (get_or_past marks j (Done 0) (omega (arith, h.len))) ∙ e)
          past g (inr e) = done_not_open 0 (sym (get_or_past marks j (Done 0) (omega (arith, h.len))) ∙ e)

      never_open : (j : ℕ) → mark_at marks j ≡ Open → ⊥
      never_open j o = by (inside j (inr o)) (latched_or (table_at n j).latched)
        where
          by : j < length n.tables → ((table_at n j).latched ≡ true) ⊎ ((table_at n j).latched ≡ false) → ⊥
          by l (inl e) = done_not_open 0 (sym (h.latched j l e) ∙ o)
          by l (inr e) = open_not_new (sym o ∙ h.combinational j l e)

      fresh : (j : ℕ) → mark_at marks j ≡ New → IsCombinational n j
      fresh j f = by (inside j (inl f)) (latched_or (table_at n j).latched)
        where
          by : j < length n.tables → ((table_at n j).latched ≡ true) ⊎ ((table_at n j).latched ≡ false) → IsCombinational n j
          by l (inl e) = absurd (done_not_new 0 (sym (h.latched j l e) ∙ f))
          by l (inr e) = record { within = l; latched = e }

      no_value : (v : ℕ) → Done 0 ≡ Done v → v ≡ 0
      no_value v e = cc

      is_level : (j v : ℕ) → j < length n.tables → mark_at marks j ≡ Done v → ((table_at n j).latched ≡ true) ⊎ ((table_at n j).latched ≡ false) → IsLevel n j v
      is_level j v lj e (inl l) = record { longest = λ k p. absurd (true_not_false (sym l ∙ (last_is p).latched)); reached = inl (no_value v (sym (h.latched j lj l) ∙ e)) }
      is_level j v lj e (inr l) = absurd (done_not_new v (sym e ∙ h.combinational j lj l))

      is_few : (j v : ℕ) → j < length n.tables → mark_at marks j ≡ Done v → ((table_at n j).latched ≡ true) ⊎ ((table_at n j).latched ≡ false) → v ≤ done_in marks
      is_few j v lj e (inl l) = let z : v ≡ 0 = no_value v (sym (h.latched j lj l) ∙ e) in omega arith
      is_few j v lj e (inr l) = absurd (done_not_new v (sym e ∙ h.combinational j lj l))

module _ (n : Network) (marks : List Mark) (path : List ℕ) (s : IsSearch n marks path) where
  -- a table that is new goes on the path
  module _ (t : ℕ) (fresh : mark_at marks t ≡ New) where
    is_combinational : IsCombinational n t
    is_combinational = s.waiting t (inl fresh)

    pub within : t < length marks
    within = let l = is_combinational.within in omega (arith, s.len)

    at_t : mark_at (slice_set marks t Open) t ≡ Open
    at_t = get_or-set_same marks t Open (Done 0) within

    at_other : (j : ℕ) → (j ≡ t → ⊥) → mark_at (slice_set marks t Open) j ≡ mark_at marks j
    at_other j d = get_or-set_other marks t j Open (Done 0) d

    mark_now : (j : ℕ) → (j ≡ t) ⊎ (mark_at (slice_set marks t Open) j ≡ mark_at marks j)
    mark_now j = elim (cases_eq j t) [ inl e ↦ inl e | inr e ↦ inr (at_other j e) ]

    same_done : done_in (slice_set marks t Open) ≡ done_in marks
    same_done = let e = sum_by-set is_done marks t Open (Done 0) within in let z : is_done (get_or marks t (Done 0)) ≡ 0 = ap is_done fresh in omega arith

    pub opened_less : work_of (slice_set marks t Open) < work_of marks
    opened_less = let e = sum_by-set cost marks t Open (Done 0) within in let z : cost (get_or marks t (Done 0)) ≡ 2 = ap cost fresh in omega arith

    pub opened_seen : StaysSeen marks (slice_set marks t Open)
    opened_seen j e = elim (mark_now j) [ inl i ↦ subst (λ x. mark_at marks x ≡ New) (sym i) fresh | inr i ↦ sym i ∙ e ]

    pub opened_itself : mark_at (slice_set marks t Open) t ≡ New → ⊥
    opened_itself e = open_not_new (sym at_t ∙ e)

    not_on_path : (k : ℕ) → k < length path → number_at path k ≡ t → ⊥
    not_on_path k lk e = open_not_new (sym (s.opens k lk) ∙ ap (λ x. mark_at marks x) e ∙ fresh)

    old_at : (k : ℕ) → k < length path → number_at (path ++ t ∷ []) k ≡ number_at path k
    old_at k lk = get_or_append_left path (t ∷ []) 0 k lk

    new_at : number_at (path ++ t ∷ []) (length path) ≡ t
    new_at = get_or_at path t [] 0 (length path) refl

    module _ (read : IsReadByLast n path t) where
      pub opened : IsSearch n (slice_set marks t Open) (path ++ t ∷ [])
      opened = record {
        len = length-set marks t Open ∙ s.len;
        opens = λ k lk. elim (cases_lt k (length path)) [
          | inl l ↦ ap (λ x. mark_at (slice_set marks t Open) x) (old_at k l) ∙ at_other (number_at path k) (not_on_path k l) ∙ s.opens k l
          | inr g ↦ (let e : k ≡ length path = omega (arith, length_push path t) in ap (λ x. mark_at (slice_set marks t Open) (number_at (path ++ t ∷ []) x)) e ∙ ap (λ x. mark_at (slice_set marks t Open) x) new_at ∙ at_t)
        ];
        opened = λ j o. elim (mark_now j) [
          | inl e ↦ (length path, omega (arith, length_push path t), new_at ∙ sym e)
          | inr e ↦ (let p = s.opened j (sym e ∙ o) in (p.0, omega (arith, p.1, length_push path t), old_at p.0 p.1 ∙ p.2))
        ];
        apart = λ i j lt lj e. elim (cases_lt j (length path)) [
          | inl l ↦ s.apart i j lt l (sym (old_at i (omega arith)) ∙ e ∙ old_at j l)
          | inr g ↦ (let f : j ≡ length path = omega (arith, length_push path t) in not_on_path i (omega arith) (sym (old_at i (omega arith)) ∙ e ∙ ap (λ x. number_at (path ++ t ∷ []) x) f ∙ new_at))
        ];
        along = λ k lk. elim (cases_lt (suc k) (length path)) [
          | inl l ↦ subst (λ x. Contains (table_at n x).ins (Table (number_at (path ++ t ∷ []) (suc k)))) (sym (old_at k (omega arith))) (subst (λ x. Contains (table_at n (number_at path k)).ins (Table x)) (sym (old_at (suc k) l)) (s.along k l))
          | inr g ↦ (let f : suc k ≡ length path = omega (arith, length_push path t) in subst (λ x. Contains (table_at n x).ins (Table (number_at (path ++ t ∷ []) (suc k)))) (sym (old_at k (omega arith))) (subst (λ x. Contains (table_at n (number_at path k)).ins (Table x)) (sym (ap (λ x. number_at (path ++ t ∷ []) x) f ∙ new_at)) (read k f)))
        ];
        waiting = λ j w. elim (mark_now j) [
          | inl e ↦ subst (λ x. IsCombinational n x) (sym e) is_combinational
          | inr e ↦ s.waiting j (elim w [ inl a ↦ inl (sym e ∙ a) | inr a ↦ inr (sym e ∙ a) ])
        ];
        level = λ j v lj d. elim (mark_now j) [ inl e ↦ absurd (done_not_open v (sym d ∙ ap (λ x. mark_at (slice_set marks t Open) x) e ∙ at_t)) | inr e ↦ s.level j v lj (sym e ∙ d) ];
        few = λ j v lj d. elim (mark_now j) [ inl e ↦ absurd (done_not_open v (sym d ∙ ap (λ x. mark_at (slice_set marks t Open) x) e ∙ at_t)) | inr e ↦ rw same_done (s.few j v lj (sym e ∙ d)) ];
      }

      pub opened_to : (others : List ℕ) → others ≡ path ++ t ∷ [] → IsSearch n (slice_set marks t Open) others
      opened_to others e = subst (λ p. IsSearch n (slice_set marks t Open) p) (sym e) opened

mark_cases : (m : Mark) → (m ≡ New) ⊎ ((m ≡ Open) ⊎ ((v : ℕ) × (m ≡ Done v)))
mark_cases New = inl refl
mark_cases Open = inr (inl refl)
mark_cases (Done v) = inr (inr (v, refl))

-- a source of a table of the network is one of the network
pub source_within : (n : Network) (i t k : ℕ) → IsNetwork n → t < length n.tables → k < length (table_at n t).ins → source_at (table_at n t).ins k ≡ Table i → i < length n.tables
source_within n i t k net lt lk e = subst (λ s. IsSourceOf n s) e (net.sources t no_table lt k (Input 0) lk)

at_source : (ins : List Source) (x : Source) (c : Contains ins x) → source_at ins c.0 ≡ x
at_source ins x c = get_or_default ins c.0 (Input 0) x c.1 ∙ c.2

value_of : (v w : ℕ) → Done v ≡ Done w → v ≡ w
value_of v w e = cc

-- it stands on the path, from a place on
abbrev OnFrom : List ℕ → ℕ → ℕ → Type 0
OnFrom path m x = (k : ℕ) × (m ≤ k) × (k < length path) × (number_at path k ≡ x)

done_le : (marks : List Mark) → done_in marks ≤ length marks
done_le [] = omega arith
done_le (m ∷ ms) = let e = sum_by-cons is_done m ms in let h = done_le ms in let l = one m in omega arith
  where
    one : (m : Mark) → is_done m ≤ 1
    one New = omega arith
    one Open = omega arith
    one (Done v) = omega arith

module _ (n : Network) (net : IsNetwork n) (marks : List Mark) (path : List ℕ) (s : IsSearch n marks path) (t : ℕ) (last : IsLastOf path t) where
  is_open : mark_at marks t ≡ Open
  is_open = subst (λ x. mark_at marks x ≡ Open) last.last (s.opens (length path - 1) (let h = last.some in omega arith))

  combinational : IsCombinational n t
  combinational = s.waiting t (inr is_open)

  pub last_within : t < length marks
  last_within = let l = combinational.within in omega (arith, s.len)

  -- it reads nothing of the path
  not_open : (i k : ℕ) → k < length (table_at n t).ins → source_at (table_at n t).ins k ≡ Table i → mark_at marks i ≡ Open → ⊥
  not_open i k lk e o =
      let m = s.opened i o in
      no_loop n net.acyclic.0 net.acyclic.1 (OnFrom path m.0) (λ x p. s.waiting x (inr (subst (λ y. mark_at marks y ≡ Open) p.3 (s.opens p.0 p.2)))) (λ x p. more m.0 m.1 m.2 x p) i (m.0, omega arith, m.1, m.2)
    where
      more : (m : ℕ) → m < length path → number_at path m ≡ i → (x : ℕ) → OnFrom path m x → (y : ℕ) × OnFrom path m y × Contains (table_at n x).ins (Table y)
      more m lm at x p = elim (cases_lt (suc p.0) (length path)) [
        | inl l ↦ (number_at path (suc p.0), (suc p.0, omega (arith, p.1), l, refl), subst (λ z. Contains (table_at n z).ins (Table (number_at path (suc p.0)))) p.3 (s.along p.0 l))
        | inr g ↦ (i, (m, omega arith, lm, at), subst (λ z. Contains (table_at n z).ins (Table i)) (sym last.last ∙ ap (λ z. number_at path z) (let f : length path - 1 ≡ p.0 = omega (arith, p.2) in f) ∙ p.3) (k, lk, get_or_default (table_at n t).ins k (Table i) (Input 0) lk ∙ e))
      ]

  pub all_done : ((k : ℕ) → k < length (table_at n t).ins → new_table marks (source_at (table_at n t).ins k) ≡ None) → (k : ℕ) → k < length (table_at n t).ins → IsDoneIn marks (source_at (table_at n t).ins k)
  all_done old k lk = by (source_at (table_at n t).ins k) refl (old k lk)
    where
      is_some : (i : ℕ) → Some i ≡ None → ⊥
      is_some i e = cc

      by : (x : Source) → source_at (table_at n t).ins k ≡ x → new_table marks x ≡ None → IsDoneIn marks x
      by (Input i) e none = tt
      by (Table i) e none = elim (mark_cases (mark_at marks i)) [
        | inl f ↦ absurd (is_some i (sym (ap (λ m. if_new i m) f) ∙ none))
        | inr r ↦ elim r [ inl o ↦ absurd (not_open i k lk e o) | inr d ↦ d ]
      ]

  module _ (visited : (k : ℕ) → k < length (table_at n t).ins → IsDoneIn marks (source_at (table_at n t).ins k)) (best : ℕ) (most : IsMost (source_level marks (table_at n t).ins) (length (table_at n t).ins) best) where
    -- what is known of a table that it reads
    read : (i k : ℕ) → k < length (table_at n t).ins → source_at (table_at n t).ins k ≡ Table i → (v : ℕ) × IsLevel n i v × (v ≤ done_in marks) × (source_level marks (table_at n t).ins k ≡ v)
    read i k lk e =
        let d = subst (λ x. IsDoneIn marks x) e (visited k lk) in
        let li = source_within n i t k net combinational.within lk e in
        (d.0, s.level i d.0 li d.1, s.few i d.0 li d.1, ap (λ x. level_in marks x) e ∙ ap level_of d.1)

    at_first : best ≡ 0 → IsPath n t (best + 1)
    at_first e = subst (λ x. IsPath n t x) (let f : 1 ≡ best + 1 = omega arith in f) (alone combinational)

    reached : (k : ℕ) → k < length (table_at n t).ins → source_level marks (table_at n t).ins k ≡ best → (x : Source) → source_at (table_at n t).ins k ≡ x → IsPath n t (best + 1) × (best ≤ done_in marks)
    reached k lk at (Input i) e = let z : best ≡ 0 = sym at ∙ ap (λ x. level_in marks x) e in (at_first z, omega arith)
    reached k lk at (Table i) e =
        let r = read i k lk e in
        let same : best ≡ r.0 = sym at ∙ r.3 in (
          elim r.1.reached [
            | inl z ↦ at_first (same ∙ z)
            | inr p ↦ subst (λ x. IsPath n t x) (let f : suc r.0 ≡ best + 1 = omega arith in f) (onward p combinational (k, lk, get_or_default (table_at n t).ins k (Table i) (Input 0) lk ∙ e))
          ],
          omega (arith, r.2),
        )

    ends : IsPath n t (best + 1) × (best ≤ done_in marks)
    ends = elim most.one [ inl z ↦ (at_first z, omega arith) | inr o ↦ reached o.0 o.1 o.2 (source_at (table_at n t).ins o.0) refl ]

    longest : (k : ℕ) → IsPath n t k → k ≤ best + 1
    longest k (alone is) = omega arith
    longest (suc k) (onward {i} p is at) =
        let e : source_at (table_at n t).ins at.0 ≡ Table i = at_source (table_at n t).ins (Table i) at in
        let r = read i at.0 at.1 e in
        let l = r.1.longest k p in
        let m = most.most at.0 at.1 in
        omega (arith, r.3)

    at_t_done : mark_at (slice_set marks t (Done (best + 1))) t ≡ Done (best + 1)
    at_t_done = get_or-set_same marks t (Done (best + 1)) (Done 0) last_within

    mark_then : (j : ℕ) → (j ≡ t) ⊎ (mark_at (slice_set marks t (Done (best + 1))) j ≡ mark_at marks j)
    mark_then j = elim (cases_eq j t) [ inl e ↦ inl e | inr e ↦ inr (get_or-set_other marks t j (Done (best + 1)) (Done 0) e) ]

    at_then : (j : ℕ) → j ≡ t → mark_at (slice_set marks t (Done (best + 1))) j ≡ Done (best + 1)
    at_then j e = ap (λ x. mark_at (slice_set marks t (Done (best + 1))) x) e ∙ at_t_done

    more_done : done_in (slice_set marks t (Done (best + 1))) ≡ done_in marks + 1
    more_done = let e = sum_by-set is_done marks t (Done (best + 1)) (Done 0) last_within in let z : is_done (get_or marks t (Done 0)) ≡ 0 = ap is_done is_open in omega arith

    pub closed_less : work_of (slice_set marks t (Done (best + 1))) < work_of marks
    closed_less = let e = sum_by-set cost marks t (Done (best + 1)) (Done 0) last_within in let z : cost (get_or marks t (Done 0)) ≡ 1 = ap cost is_open in omega arith

    pub closed_seen : StaysSeen marks (slice_set marks t (Done (best + 1)))
    closed_seen j e = elim (mark_then j) [ inl i ↦ absurd (done_not_new (best + 1) (sym (at_then j i) ∙ e)) | inr i ↦ sym i ∙ e ]

    pub level_fits : best + 1 < 4294967296
    level_fits = let l = done_le (slice_set marks t (Done (best + 1))) in let f = net.few in omega (arith, ends.1, more_done, length-set marks t (Done (best + 1)), s.len)

    front_at : (k : ℕ) → k < length path - 1 → number_at (take (length path - 1) path) k ≡ number_at path k
    front_at k lk = get_or-take (length path - 1) path k 0 lk

    front_length : length (take (length path - 1) path) ≡ length path - 1
    front_length = length-take-le (length path - 1) path (omega arith)

    front_apart : (k : ℕ) → k < length path - 1 → number_at path k ≡ t → ⊥
    front_apart k lk e = s.apart k (length path - 1) lk (omega arith) (e ∙ sym last.last)

    pub closed : IsSearch n (slice_set marks t (Done (best + 1))) (take (length path - 1) path)
    closed = record {
      len = length-set marks t (Done (best + 1)) ∙ s.len;
      opens = λ k lk. (let l : k < length path - 1 = rw front_length at lk in elim (mark_then (number_at path k)) [
        | inl e ↦ absurd (front_apart k l e)
        | inr e ↦ ap (λ x. mark_at (slice_set marks t (Done (best + 1))) x) (front_at k l) ∙ e ∙ s.opens k (omega arith)
      ]);
      opened = λ j o. elim (mark_then j) [
        | inl e ↦ absurd (done_not_open (best + 1) (sym (at_then j e) ∙ o))
        | inr e ↦ (let p = s.opened j (sym e ∙ o) in elim (cases_lt p.0 (length path - 1)) [
          | inl l ↦ (p.0, rw front_length l, front_at p.0 l ∙ p.2)
          | inr g ↦ absurd (let same : p.0 ≡ length path - 1 = omega (arith, p.1) in done_not_open (best + 1) (sym (at_then j (sym p.2 ∙ ap (λ x. number_at path x) same ∙ last.last)) ∙ o))
        ])
      ];
      apart = λ i j lt lj e. (let l : j < length path - 1 = rw front_length at lj in s.apart i j lt (omega arith) (sym (front_at i (omega arith)) ∙ e ∙ front_at j l));
      along = λ k lk. (let l : suc k < length path - 1 = rw front_length at lk in subst (λ x. Contains (table_at n x).ins (Table (number_at (take (length path - 1) path) (suc k)))) (sym (front_at k (omega arith))) (subst (λ x. Contains (table_at n (number_at path k)).ins (Table x)) (sym (front_at (suc k) l)) (s.along k (omega arith))));
      waiting = λ j w. elim (mark_then j) [
        | inl e ↦ absurd (elim w [ inl a ↦ done_not_new (best + 1) (sym (at_then j e) ∙ a) | inr a ↦ done_not_open (best + 1) (sym (at_then j e) ∙ a) ])
        | inr e ↦ s.waiting j (elim w [ inl a ↦ inl (sym e ∙ a) | inr a ↦ inr (sym e ∙ a) ])
      ];
      level = λ j v lj d. elim (mark_then j) [
        | inl e ↦ (let same : best + 1 ≡ v = value_of (best + 1) v (sym (at_then j e) ∙ d) in subst (λ x. IsLevel n x v) (sym e) (subst (λ x. IsLevel n t x) same (record { longest = λ k p. longest k p; reached = inr ends.0 })))
        | inr e ↦ s.level j v lj (sym e ∙ d)
      ];
      few = λ j v lj d. elim (mark_then j) [
        | inl e ↦ (let same : best + 1 ≡ v = value_of (best + 1) v (sym (at_then j e) ∙ d) in omega (arith, more_done, ends.1))
        | inr e ↦ (let l : v ≤ done_in marks = s.few j v lj (sym e ∙ d) in omega (arith, more_done))
      ];
    }

    pub closed_to : (others : List ℕ) → others ≡ take (length path - 1) path → IsSearch n (slice_set marks t (Done (best + 1))) others
    closed_to others e = subst (λ p. IsSearch n (slice_set marks t (Done (best + 1))) p) (sym e) closed

-- all is done
pub depth_is : (n : Network) (marks : List Mark) (path : List ℕ) → IsSearch n marks path → path ≡ [] → ((j : ℕ) → j < length n.tables → mark_at marks j ≡ New → ⊥) → (best : ℕ) → IsMost (level_at marks) (length marks) best → IsDepth n best
depth_is n marks path s ended seen best most = record {
  longest = λ j k p. (let l = (last_is p).within in let d = done j l in let m = most.most j (omega (arith, s.len)) in let up = (s.level j d.0 l d.1).longest k p in let e : level_at marks j ≡ d.0 = ap level_of d.1 in omega arith);
  reached = elim most.one [
    | inl z ↦ inl z
    | inr o ↦ (let l : o.0 < length n.tables = omega (arith, o.1, s.len) in let d = done o.0 l in let e : d.0 ≡ best = sym (ap level_of d.1) ∙ o.2 in elim ((s.level o.0 d.0 l d.1).reached) [ inl z ↦ inl (sym e ∙ z) | inr p ↦ inr (o.0, subst (λ x. IsPath n o.0 x) e p) ])
  ];
}
  where
    done : (j : ℕ) → j < length n.tables → (v : ℕ) × (mark_at marks j ≡ Done v)
    done j l = elim (mark_cases (mark_at marks j)) [
      | inl f ↦ absurd (seen j l f)
      | inr r ↦ elim r [ inl o ↦ absurd (let p = s.opened j o in omega (arith, p.1, ap length ended)) | inr d ↦ d ]
    ]
