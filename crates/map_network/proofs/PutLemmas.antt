-- The network with a table put into its reader.
use Rattle.std.proofs.Common.{◌≡◌, ◌⊎◌, ◌↔◌, Bool, ℕ, suc, ◌<◌, ◌≤◌, List, [], true, length, get_or, refl, sym, ap, subst, ◌∙◌, inl, inr, arith}
use Rattle.map_network.proofs.Vocabulary.{Contains, All, cases_eq, Contains-get_or, All-set, Source, Input, Table, NetTable, Network}
use Rattle.std.proofs.lemmas.List.{length-set, get_or-set_same, get_or-set_other}
use Rattle.map_network.specs.Vocabulary.{no_table, IsSourceOf, IsCombinational, IsLatched, IsPath, alone, onward, IsNetwork, IsNoDeeper, truth, IsNetworkValuation, AreRows, Reads, CanJoin, in_tables, IsPut, Puts, none, more, IsUnread}
use Rattle.map_network.proofs.PathLemmas.{no_loop}
use Rattle.map_network.proofs.SourceLemmas.{not_itself, from_both}
use Rattle.map_network.proofs.JoinLemmas.{joined_value, IsLike, like_rows}

abbrev pub net : ℕ → List NetTable → List Source → Network
net inputs tables outputs = record { inputs = inputs; tables = tables; outputs = outputs }

module _ (inputs : ℕ) (old : List NetTable) (outputs : List Source) (j r : ℕ) (new : List NetTable) (p : IsPut old j r new) where
  pub at_reader : in_tables new r ≡ p.table
  at_reader = ap (λ ts. get_or ts r no_table) p.set ∙ get_or-set_same old r p.table no_table p.may.reader

  pub at_other : (i : ℕ) → (i ≡ r → ⊥) → in_tables new i ≡ in_tables old i
  at_other i d = ap (λ ts. get_or ts i no_table) p.set ∙ get_or-set_other old r i p.table no_table d

  pub same_length : length new ≡ length old
  same_length = ap length p.set ∙ length-set old r p.table

  few_ins : length p.table.ins ≤ 6
  few_ins = p.joined.few

  latched_same : (i : ℕ) → (in_tables new i).latched ≡ (in_tables old i).latched
  latched_same i = elim (cases_eq i r) [
    | inl e ↦ subst (λ x. (in_tables new x).latched ≡ (in_tables old x).latched) (sym e) (ap (λ t. t.latched) at_reader ∙ p.joined.latched)
    | inr d ↦ ap (λ t. t.latched) (at_other i d)
  ]

  init_same : (i : ℕ) → (in_tables new i).init ≡ (in_tables old i).init
  init_same i = elim (cases_eq i r) [
    | inl e ↦ subst (λ x. (in_tables new x).init ≡ (in_tables old x).init) (sym e) (ap (λ t. t.init) at_reader ∙ p.joined.init)
    | inr d ↦ ap (λ t. t.init) (at_other i d)
  ]

  to_new : (i : ℕ) → IsCombinational (net inputs old outputs) i → IsCombinational (net inputs new outputs) i
  to_new i c = record { within = subst (λ n. i < n) (sym same_length) c.within; latched = latched_same i ∙ c.latched }

  to_old : (i : ℕ) → IsCombinational (net inputs new outputs) i → IsCombinational (net inputs old outputs) i
  to_old i c = record { within = subst (λ n. i < n) same_length c.within; latched = sym (latched_same i) ∙ c.latched }

  latched_new : (i : ℕ) → IsLatched (net inputs old outputs) i → IsLatched (net inputs new outputs) i
  latched_new i c = record { within = subst (λ n. i < n) (sym same_length) c.within; latched = latched_same i ∙ c.latched }

  latched_old : (i : ℕ) → IsLatched (net inputs new outputs) i → IsLatched (net inputs old outputs) i
  latched_old i c = record { within = subst (λ n. i < n) same_length c.within; latched = sym (latched_same i) ∙ c.latched }

  inner_is : IsCombinational (net inputs old outputs) j
  inner_is = record { within = p.may.within; latched = p.may.latched }

  -- what is read now was read before, by the reader or through the table
  pub read_before : (i : ℕ) (s : Source) → Contains (in_tables new i).ins s → Contains (in_tables old i).ins s ⊎ ((i ≡ r) × Contains (in_tables old j).ins s)
  read_before i s c = by (cases_eq i r)
    where
      by : (i ≡ r) ⊎ (i ≡ r → ⊥) → Contains (in_tables old i).ins s ⊎ ((i ≡ r) × Contains (in_tables old j).ins s)
      by (inr d) = inl (subst (λ (t : NetTable). Contains t.ins s) (at_other i d) c)
      by (inl e) = which (from_both j (in_tables old r).ins (in_tables old j).ins p.table.ins p.joined.ins s (subst (λ (t : NetTable). Contains t.ins s) (ap (in_tables new) e ∙ at_reader) c))
        where
          which : Contains (in_tables old r).ins s ⊎ Contains (in_tables old j).ins s → Contains (in_tables old i).ins s ⊎ ((i ≡ r) × Contains (in_tables old j).ins s)
          which (inl a) = inl (subst (λ x. Contains (in_tables old x).ins s) (sym e) a)
          which (inr b) = inr (e, b)

  -- a table that nothing reads is read by nothing then
  pub still_unread : (x : ℕ) → IsUnread (net inputs old outputs) x → IsUnread (net inputs new outputs) x
  still_unread x u = record {
    tables = λ i q. elim (read_before i (Table x) q.at) [
      | inl a ↦ u.tables i (record { within = subst (λ n. i < n) same_length q.within; at = a })
      | inr b ↦ u.tables j (record { within = p.may.within; at = b.1 })
    ];
    outputs = u.outputs;
  }

  -- what only the reader read is read by nothing then
  pub unread_now : CanJoin (net inputs old outputs) j r → IsUnread (net inputs new outputs) j
  unread_now can = record { tables = λ i q. by i q (cases_eq i r); outputs = can.unshown }
    where
      by : (i : ℕ) → Reads (net inputs new outputs) i j → (i ≡ r) ⊎ (i ≡ r → ⊥) → ⊥
      by i q (inl e) = not_itself j (in_tables old r).ins (in_tables old j).ins p.table.ins p.joined.ins (subst (λ (t : NetTable). Contains t.ins (Table j)) (ap (in_tables new) e ∙ at_reader) q.at)
      by i q (inr d) = d (can.alone i (record { within = subst (λ n. i < n) same_length q.within; at = subst (λ (t : NetTable). Contains t.ins (Table j)) (at_other i d) q.at }))

  -- a path is as long in the old network at least
  pub old_path : {i k : ℕ} → IsPath (net inputs new outputs) i k → (m : ℕ) × (k ≤ m) × IsPath (net inputs old outputs) i m
  old_path (alone {j = i} c) = (1, omega arith, alone (to_old i c))
  old_path (onward {i = a} {j = i} {k = k} q c at) = by (old_path q) (read_before i (Table a) at)
    where
      by : (m : ℕ) × (k ≤ m) × IsPath (net inputs old outputs) a m → Contains (in_tables old i).ins (Table a) ⊎ ((i ≡ r) × Contains (in_tables old j).ins (Table a)) → (m : ℕ) × (suc k ≤ m) × IsPath (net inputs old outputs) i m
      by o (inl b) = (suc o.0, omega (arith, o.1), onward o.2 (to_old i c) b)
      by o (inr b) = (suc (suc o.0), omega (arith, o.1), onward (onward o.2 inner_is b.1) (to_old i c) (subst (λ x. Contains (in_tables old x).ins (Table j)) (sym b.0) p.may.reads))

  module _ (is : IsNetwork (net inputs old outputs)) where
    pub apart : Contains (in_tables old j).ins (Table j) → ⊥
    apart c = no_loop (net inputs old outputs) is.acyclic.0 is.acyclic.1 (λ i. i ≡ j) (λ i e. subst (IsCombinational (net inputs old outputs)) (sym e) inner_is) (λ i e. (j, refl, subst (λ x. Contains (in_tables old x).ins (Table j)) (sym e) c)) j refl

    same_truth : (vector : List Bool) (given : ℕ → Bool) → given j ≡ truth vector given (in_tables old j) → (i : ℕ) → truth vector given (in_tables new i) ≡ truth vector given (in_tables old i)
    same_truth vector given value i = elim (cases_eq i r) [
      | inl e ↦ subst (λ x. truth vector given (in_tables new x) ≡ truth vector given (in_tables old x)) (sym e) (ap (truth vector given) at_reader ∙ joined_value vector given j (in_tables old j) (in_tables old r) p.table p.joined few_ins apart value)
      | inr d ↦ ap (truth vector given) (at_other i d)
    ]

    old_right : (state : ℕ → Bool) (vector : List Bool) (given : ℕ → Bool) → IsNetworkValuation (net inputs old outputs) state vector given → IsNetworkValuation (net inputs new outputs) state vector given
    old_right state vector given q = record {
      inputs = q.inputs;
      latched = λ i c. q.latched i (latched_old i c);
      combinational = λ i c. q.combinational i (to_old i c) ∙ sym (same_truth vector given (q.combinational j inner_is) i);
    }

    inner_value : (state : ℕ → Bool) (vector : List Bool) (given : ℕ → Bool) → IsNetworkValuation (net inputs new outputs) state vector given → given j ≡ truth vector given (in_tables old j)
    inner_value state vector given q = q.combinational j (to_new j inner_is) ∙ ap (truth vector given) (at_other j p.may.apart)

    new_right : (state : ℕ → Bool) (vector : List Bool) (given : ℕ → Bool) → IsNetworkValuation (net inputs new outputs) state vector given → IsNetworkValuation (net inputs old outputs) state vector given
    new_right state vector given q = record {
      inputs = q.inputs;
      latched = λ i c. q.latched i (latched_new i c);
      combinational = λ i c. q.combinational i (to_new i c) ∙ same_truth vector given (inner_value state vector given q) i;
    }

    old_like : IsLike (net inputs old outputs) (net inputs new outputs)
    old_like = record {
      inputs = refl;
      outputs = refl;
      inits = λ i. sym (init_same i);
      right = old_right;
      next = λ state vector given q i. sym (same_truth vector given (q.combinational j inner_is) i);
    }

    new_like : IsLike (net inputs new outputs) (net inputs old outputs)
    new_like = record {
      inputs = refl;
      outputs = refl;
      inits = init_same;
      right = new_right;
      next = λ state vector given q i. same_truth vector given (inner_value state vector given q) i;
    }

    pub put_rows : (vectors rows : List (List Bool)) → AreRows (net inputs old outputs) vectors rows ↔ AreRows (net inputs new outputs) vectors rows
    put_rows vectors rows = (like_rows (net inputs old outputs) (net inputs new outputs) old_like vectors rows, like_rows (net inputs new outputs) (net inputs old outputs) new_like vectors rows)

    in_range : (s : Source) → IsSourceOf (net inputs old outputs) s → IsSourceOf (net inputs new outputs) s
    in_range (Input k) of = of
    in_range (Table i) of = subst (λ n. i < n) (sym same_length) of

    source_of_old : (i : ℕ) → i < length old → (s : Source) → Contains (in_tables old i).ins s → IsSourceOf (net inputs old outputs) s
    source_of_old i li s c = subst (IsSourceOf (net inputs old outputs)) c.2 (is.sources i no_table li c.0 s c.1)

    all_in_range : (ss : List Source) → ((s : Source) → Contains ss s → IsSourceOf (net inputs old outputs) s) → All (IsSourceOf (net inputs new outputs)) ss
    all_in_range ss each = λ k d lk. in_range (get_or ss k d) (each (get_or ss k d) (Contains-get_or ss k d lk))

    ins_of_new : (s : Source) → Contains p.table.ins s → IsSourceOf (net inputs old outputs) s
    ins_of_new s c = elim (from_both j (in_tables old r).ins (in_tables old j).ins p.table.ins p.joined.ins s c) [
      | inl a ↦ source_of_old r p.may.reader s a
      | inr b ↦ source_of_old j p.may.within s b
    ]

    pub put_network : IsNetwork (net inputs new outputs)
    put_network = record {
      few = let l = is.few in omega (arith, same_length);
      narrow = subst (All (λ (t : NetTable). length t.ins ≤ 6)) (sym p.set) (All-set (λ (t : NetTable). length t.ins ≤ 6) old r p.table few_ins is.narrow);
      sources = subst (All (λ (t : NetTable). All (IsSourceOf (net inputs new outputs)) t.ins)) (sym p.set) (All-set (λ (t : NetTable). All (IsSourceOf (net inputs new outputs)) t.ins) old r p.table (all_in_range p.table.ins ins_of_new) (λ i d li. all_in_range (get_or old i d).ins (λ s c. subst (IsSourceOf (net inputs old outputs)) c.2 (is.sources i d li c.0 s c.1))));
      outputs = λ k d lk. in_range (get_or outputs k d) (is.outputs k d lk);
      acyclic = (is.acyclic.0, λ i k q. (let o = old_path q in let l : o.0 ≤ is.acyclic.0 = is.acyclic.1 i o.0 o.2 in omega (arith, o.1)));
    }

-- after some of these steps
pub record IsAfter (inputs : ℕ) (outputs : List Source) (old new : List NetTable) : Type 0 where
  pub len : length new ≡ length old
  pub network : IsNetwork (net inputs new outputs)
  pub rows : (vectors rows : List (List Bool)) → AreRows (net inputs old outputs) vectors rows ↔ AreRows (net inputs new outputs) vectors rows
  pub unread : (x : ℕ) → IsUnread (net inputs old outputs) x → IsUnread (net inputs new outputs) x
  pub shallow : IsNoDeeper (net inputs old outputs) (net inputs new outputs)

module _ (inputs : ℕ) (outputs : List Source) where
  pub after_none : (old : List NetTable) → IsNetwork (net inputs old outputs) → IsAfter inputs outputs old old
  after_none old is = record { len = refl; network = is; rows = λ vectors rows. (λ p. p, λ p. p); unread = λ x u. u; shallow = λ depth deep. deep }

  put_shallow : (mid new : List NetTable) (j r : ℕ) → IsPut mid j r new → IsNoDeeper (net inputs mid outputs) (net inputs new outputs)
  put_shallow mid new j r p depth deep i k q = let o = old_path inputs mid outputs j r new p q in let l : o.0 ≤ depth = deep i o.0 o.2 in omega (arith, o.1)

  pub after_put : (old mid new : List NetTable) (j r : ℕ) → IsAfter inputs outputs old mid → IsPut mid j r new → IsAfter inputs outputs old new
  after_put old mid new j r a p = record {
    len = same_length inputs mid outputs j r new p ∙ a.len;
    network = put_network inputs mid outputs j r new p a.network;
    rows = λ vectors rows. (let f = a.rows vectors rows in let g = put_rows inputs mid outputs j r new p a.network vectors rows in (λ q. g.0 (f.0 q), λ q. f.1 (g.1 q)));
    unread = λ x u. still_unread inputs mid outputs j r new p x (a.unread x u);
    shallow = λ depth deep. put_shallow mid new j r p depth (a.shallow depth deep);
  }

  pub after_puts : {old new : List NetTable} {f g : List Bool} → Puts old f new g → IsNetwork (net inputs old outputs) → IsAfter inputs outputs old new
  after_puts (none {tables = ts}) is = after_none ts is
  after_puts (more {a = a} {b = b} {c = c} {j = j} {r = r} ps p) is = after_put a b c j r (after_puts ps is) p.put

pub puts_on : {a b c : List NetTable} {f g h : List Bool} → Puts a f b g → Puts b g c h → Puts a f c h
puts_on p none = p
puts_on p (more q s) = more (puts_on p q) s

-- so many tables, and so many marks of those that are gone
pub same_marks : {a b : List NetTable} {f g : List Bool} → Puts a f b g → length g ≡ length f
same_marks none = refl
same_marks (more {g = g} {j = j} ps p) = ap length p.marked ∙ length-set g j true ∙ same_marks ps

pub same_tables : {a b : List NetTable} {f g : List Bool} → Puts a f b g → length b ≡ length a
same_tables none = refl
same_tables (more {b = b} {c = c} {j = j} {r = r} ps p) = same_length 0 b [] j r c p.put ∙ same_tables ps
