-- The search for the tables that lead to an output.
use Rattle.std.proofs.Common.{◌≡◌, ◌⊎◌, Bool, ℕ, zero, suc, ◌+◌, ◌<◌, List, [], ◌∷◌, ◌++◌, true, false, length, get_or, set, replicate, refl, sym, ap, subst, ◌∙◌, inl, inr, arith}
use Rattle.map_network.proofs.Vocabulary.{Contains, cases_eq, cases_lt, sum_by-set, Source, Input, Table, NetTable, Network}
use Rattle.std.proofs.lemmas.List.{get_or_default, get_or-replicate, get_or-set_same, get_or-set_other, get_or_past, length-replicate, length-set, length_push}
use Rattle.std.proofs.lemmas.List.Elements.{Contains-append_left, Contains-append_right, Contains-append_cases, Contains-get_or}
use Rattle.map_network.specs.Vocabulary.{IsNetwork, no_table, table_at, is_dropped, IsClosed, IsCompacted, IsKept, AreKept, AreUseless, LeadsToOutput, is_read, is_shown, prunes, AreUsed, IsUsed, IsFollowing, IsPruned, if_marked, marked_in}
use Rattle.map_network.proofs.CompactLemmas.{compacted_leads, compacted_reduced, kept_of, reduced_same, same_none}

no_both : true ≡ false → ⊥
no_both e = cc

none_in : (x : ℕ) → Contains {X = ℕ} [] x → ⊥
none_in x c = let l = c.1 in omega arith

-- what has a mark is there
marked_within : (marks : List Bool) (t : ℕ) → is_dropped marks t ≡ true → t < length marks
marked_within marks t e = elim (cases_lt t (length marks)) [ inl l ↦ l | inr g ↦ absurd (no_both (sym e ∙ get_or_past marks t false g)) ]

-- ---- sources that are used

pub used_none : (sources : List Source) (marks : List Bool) (queue : List ℕ) → AreUsed sources 0 marks queue marks queue
used_none sources marks queue = record {
  len = refl;
  stays = λ j e. e;
  fresh = λ j e. inl e;
  waits = λ j c. c;
  waited = λ j c. inl c;
  kept = λ i li. absurd (let no : ⊥ = omega arith in no);
  less = refl;
}

pub used_nothing : (sources : List Source) (marks now : List Bool) (queue waiting : List ℕ) → sources ≡ [] → now ≡ marks → waiting ≡ queue → AreUsed sources (length sources) marks queue now waiting
used_nothing sources marks now queue waiting e f g = subst (λ k. AreUsed sources k marks queue now waiting) (sym (ap length e)) (subst (λ ws. AreUsed sources 0 marks queue now ws) (sym g) (subst (λ ms. AreUsed sources 0 marks queue ms queue) (sym f) (used_none sources marks queue)))

kept_on : (old new : List Bool) → ((j : ℕ) → is_dropped old j ≡ false → is_dropped new j ≡ false) → (s : Source) → IsKept old s → IsKept new s
kept_on old new stays (Input k) kept = tt
kept_on old new stays (Table j) kept = stays j kept

-- one more source, which is no marked table
module _ (sources : List Source) (k : ℕ) (marks : List Bool) (queue : List ℕ) (mid : List Bool) (between : List ℕ) (u : AreUsed sources k marks queue mid between) where
  same_used : IsKept mid (get_or sources k (Input 0)) → AreUsed sources (k + 1) marks queue mid between
  same_used here = record {
    len = u.len;
    stays = u.stays;
    fresh = u.fresh;
    waits = u.waits;
    waited = u.waited;
    kept = λ i li. elim (cases_eq i k) [ inl e ↦ subst (λ x. IsKept mid (get_or sources x (Input 0))) (sym e) here | inr d ↦ u.kept i (omega arith) ];
    less = u.less;
  }

  -- or is one
  module _ (lk : k < length sources) (t : ℕ) (is : get_or sources k (Input 0) ≡ Table t) (marked : is_dropped mid t ≡ true) where
    abbrev then_marks : List Bool
    then_marks = set mid t false

    abbrev then_waiting : List ℕ
    then_waiting = between ++ t ∷ []

    free : is_dropped then_marks t ≡ false
    free = get_or-set_same mid t false false (marked_within mid t marked)

    stays_free : (j : ℕ) → is_dropped mid j ≡ false → is_dropped then_marks j ≡ false
    stays_free j e = elim (cases_eq j t) [
      | inl s ↦ ap (is_dropped then_marks) s ∙ free
      | inr d ↦ get_or-set_other mid t j false false d ∙ e
    ]

    here_used : Contains sources (Table t)
    here_used = (k, lk, get_or_default sources k (Table t) (Input 0) lk ∙ is)

    last_waits : Contains then_waiting t
    last_waits = Contains-append_right between (t ∷ []) t (0, omega arith, refl)

    new_fresh : (j : ℕ) → is_dropped then_marks j ≡ false → (j ≡ t) ⊎ (j ≡ t → ⊥) → (is_dropped marks j ≡ false) ⊎ (Contains then_waiting j × Contains sources (Table j))
    new_fresh j e (inl s) = inr (subst (Contains then_waiting) (sym s) last_waits, subst (λ x. Contains sources (Table x)) (sym s) here_used)
    new_fresh j e (inr d) = elim (u.fresh j (sym (get_or-set_other mid t j false false d) ∙ e)) [
      | inl f ↦ inl f
      | inr b ↦ inr (Contains-append_left between (t ∷ []) j b.0, b.1)
    ]

    the_last : (j : ℕ) → Contains (t ∷ []) j → t ≡ j
    the_last j c = at c.0 c.1 c.2
      where
        at : (i : ℕ) → i < 1 → get_or (t ∷ []) i j ≡ j → t ≡ j
        at zero li e = e
        at (suc i) li e = absurd (omega arith)

    new_waited : (j : ℕ) → Contains then_waiting j → Contains queue j ⊎ (is_dropped then_marks j ≡ false)
    new_waited j c = elim (Contains-append_cases between (t ∷ []) j c) [
      | inl a ↦ elim (u.waited j a) [ inl q ↦ inl q | inr e ↦ inr (stays_free j e) ]
      | inr b ↦ inr (subst (λ x. is_dropped then_marks x ≡ false) (the_last j b) free)
    ]

    now_less : marked_in then_marks + 1 ≡ marked_in mid
    now_less = let e = sum_by-set if_marked mid t false false (marked_within mid t marked) in let o : if_marked (get_or mid t false) ≡ 1 = ap if_marked marked in omega arith

    one_used : AreUsed sources (k + 1) marks queue then_marks then_waiting
    one_used = record {
      len = length-set mid t false ∙ u.len;
      stays = λ j e. stays_free j (u.stays j e);
      fresh = λ j e. new_fresh j e (cases_eq j t);
      waits = λ j c. Contains-append_left between (t ∷ []) j (u.waits j c);
      waited = new_waited;
      kept = λ i li. elim (cases_eq i k) [
        | inl e ↦ subst (IsKept then_marks) (sym (ap (λ x. get_or sources x (Input 0)) e ∙ is)) free
        | inr d ↦ kept_on mid then_marks stays_free (get_or sources i (Input 0)) (u.kept i (omega arith))
      ];
      less = (let l = now_less in let m = length_push between t in let e = u.less in omega arith);
    }

  pub used_more : (now : List Bool) (waiting : List ℕ) → k < length sources → IsUsed (get_or sources k (Input 0)) mid between now waiting → AreUsed sources (k + 1) marks queue now waiting
  used_more now waiting lk (inl b) = subst (λ ws. AreUsed sources (k + 1) marks queue now ws) (sym b.queue_same) (subst (λ ms. AreUsed sources (k + 1) marks queue ms between) (sym b.marks_same) (same_used b.kept))
  used_more now waiting lk (inr b) = subst (λ ws. AreUsed sources (k + 1) marks queue now ws) (sym b.put) (subst (λ ms. AreUsed sources (k + 1) marks queue ms (between ++ b.table ∷ [])) (sym b.taken) (one_used lk b.table b.is b.marked))

-- ---- the search

all_marked : (count j : ℕ) → j < count → is_dropped (replicate count true) j ≡ false → ⊥
all_marked count j lj e = no_both (sym (get_or-replicate count j true false lj) ∙ e)

started : (n : Network) (now : List Bool) (waiting : List ℕ) → AreUsed n.outputs (length n.outputs) (replicate (length n.tables) true) [] now waiting → IsFollowing n now waiting
started n now waiting u = record {
  len = u.len ∙ length-replicate (length n.tables) true;
  lead = λ j lj e. elim (u.fresh j e) [ inl f ↦ absurd (all_marked (length n.tables) j lj f) | inr b ↦ is_shown b.1 ];
  waiting = λ j c. elim (u.waited j c) [ inl q ↦ absurd (none_in j q) | inr e ↦ e ];
  followed = λ j lj e. elim (u.fresh j e) [ inl f ↦ absurd (all_marked (length n.tables) j lj f) | inr b ↦ inl b.0 ];
  outputs = u.kept;
}

pub follow_start : (n : Network) (sources : List Source) (marks now : List Bool) (queue waiting : List ℕ) → sources ≡ n.outputs → marks ≡ replicate (length n.tables) true → queue ≡ [] → AreUsed sources (length sources) marks queue now waiting → IsFollowing n now waiting
follow_start n sources marks now queue waiting e f g u = started n now waiting (subst (λ qs. AreUsed n.outputs (length n.outputs) (replicate (length n.tables) true) qs now waiting) g (subst (λ ms. AreUsed n.outputs (length n.outputs) ms queue now waiting) f (subst (λ ss. AreUsed ss (length ss) marks queue now waiting) e u)))

-- what a table reads is used that waited
module _ (n : Network) (marks : List Bool) (rest : List ℕ) (t : ℕ) (f : IsFollowing n marks (rest ++ t ∷ [])) (now : List Bool) (waiting : List ℕ) (u : AreUsed (table_at n t).ins (length (table_at n t).ins) marks rest now waiting) where
  was_last : Contains (rest ++ t ∷ []) t
  was_last = Contains-append_right rest (t ∷ []) t (0, omega arith, refl)

  -- a table that isn't there reads nothing
  reads_there : (j : ℕ) → Contains (table_at n t).ins (Table j) → t < length n.tables
  reads_there j c = elim (cases_lt t (length n.tables)) [ inl l ↦ l | inr g ↦ absurd (nothing (ap (λ (x : NetTable). length x.ins) (get_or_past n.tables t no_table g)) c) ]
    where
      nothing : length (table_at n t).ins ≡ 0 → Contains (table_at n t).ins (Table j) → ⊥
      nothing e c = let l = c.1 in omega arith

  new_lead : (j : ℕ) → j < length n.tables → is_dropped now j ≡ false → LeadsToOutput n j
  new_lead j lj e = elim (u.fresh j e) [
    | inl o ↦ f.lead j lj o
    | inr b ↦ (let lt = reads_there j b.1 in is_read (record { within = lt; at = b.1 }) (f.lead t lt (f.waiting t was_last)))
  ]

  the_one : (j : ℕ) → Contains (t ∷ []) j → t ≡ j
  the_one j c = at c.0 c.1 c.2
    where
      at : (i : ℕ) → i < 1 → get_or (t ∷ []) i j ≡ j → t ≡ j
      at zero li e = e
      at (suc i) li e = absurd (omega arith)

  kept_still : (ss : List Source) → AreKept marks ss → AreKept now ss
  kept_still ss all i li = kept_on marks now u.stays (get_or ss i (Input 0)) (all i li)

  before_followed : (j : ℕ) → Contains (rest ++ t ∷ []) j ⊎ AreKept marks (table_at n j).ins → Contains waiting j ⊎ AreKept now (table_at n j).ins
  before_followed j (inr k) = inr (kept_still (table_at n j).ins k)
  before_followed j (inl c) = elim (Contains-append_cases rest (t ∷ []) j c) [
    | inl a ↦ inl (u.waits j a)
    | inr b ↦ inr (subst (λ x. AreKept now (table_at n x).ins) (the_one j b) u.kept)
  ]

  pub follow_step : IsFollowing n now waiting
  follow_step = record {
    len = u.len ∙ f.len;
    lead = new_lead;
    waiting = λ j c. elim (u.waited j c) [ inl q ↦ u.stays j (f.waiting j (Contains-append_left rest (t ∷ []) j q)) | inr e ↦ e ];
    followed = λ j lj e. elim (u.fresh j e) [ inl o ↦ before_followed j (f.followed j lj o) | inr b ↦ inl b.0 ];
    outputs = kept_still n.outputs f.outputs;
  }

module _ (n : Network) (marks : List Bool) (queue : List ℕ) (ended : length queue ≡ 0) (f : IsFollowing n marks queue) where
  none_waits : (j : ℕ) → Contains queue j → ⊥
  none_waits j c = let l = c.1 in omega arith

  all_kept : (j : ℕ) → j < length n.tables → is_dropped marks j ≡ false → AreKept marks (table_at n j).ins
  all_kept j lj e = elim (f.followed j lj e) [ inl c ↦ absurd (none_waits j c) | inr k ↦ k ]

  leads_unmarked : {x : ℕ} → LeadsToOutput n x → is_dropped marks x ≡ false
  leads_unmarked (is_shown {j = x} c) = kept_of marks n.outputs x f.outputs c
  leads_unmarked (is_read {i = i} {j = x} q l) = kept_of marks (table_at n i).ins x (all_kept i q.within (leads_unmarked l)) q.at

  pub follow_end : AreUseless n marks
  follow_end = record { len = f.len; others = f.lead; unmarked = λ j l. leads_unmarked l }

-- ---- without them

module _ (n : Network) (marks : List Bool) (u : AreUseless n marks) where
  kept_source : (s : Source) → ((x : ℕ) → s ≡ Table x → LeadsToOutput n x) → IsKept marks s
  kept_source (Input k) leads = tt
  kept_source (Table x) leads = u.unmarked x (leads x refl)

  useless_closed : IsClosed marks n.tables n.outputs
  useless_closed = record {
    len = u.len;
    tables = λ j lj e k lk. kept_source (get_or (table_at n j).ins k (Input 0)) (λ x is. is_read (record { within = lj; at = subst (Contains (table_at n j).ins) is (Contains-get_or (table_at n j).ins k (Input 0) lk) }) (u.others j lj e));
    outputs = λ k lk. kept_source (get_or n.outputs k (Input 0)) (λ x is. is_shown (subst (Contains n.outputs) is (Contains-get_or n.outputs k (Input 0) lk)));
  }

  pub pruned_none : IsNetwork n → ((j : ℕ) → j < length marks → is_dropped marks j ≡ false) → IsPruned n n
  pruned_none is none = record { same = same_none n is; lead = λ j lj. u.others j lj (none j (omega (arith, u.len))); merged = λ start from. from }

  pub pruned_some : (m : Network) → IsNetwork n → IsCompacted n marks m → (j : ℕ) → j < length marks → is_dropped marks j ≡ true → IsPruned n m
  pruned_some m is comp j lj at = record {
    same = reduced_same n m (compacted_reduced n m marks is useless_closed comp j (omega (arith, u.len)) at);
    lead = compacted_leads n m marks is useless_closed comp u.others;
    merged = λ start from. prunes from u comp;
  }
