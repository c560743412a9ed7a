-- What leads to an output still does where tables are put into readers.
use Rattle.std.proofs.Common.{◌≡◌, ◌⊎◌, Bool, ℕ, ◌<◌, List, ◌++◌, true, false, length, get_or, sym, ap, subst, ◌∙◌, inl, inr, arith}
use Rattle.map_network.proofs.Vocabulary.{Contains, cases_eq, get_or-set_same, get_or-set_other, Source, Table, NetTable, Network}
use Rattle.std.proofs.lemmas.List.Elements.{Contains-append_left, Contains-append_right}
use Rattle.map_network.specs.Vocabulary.{Reads, in_tables, IsPut, IsPutOn, Puts, none, more, is_dropped, LeadsToOutput, is_read, is_shown}
use Rattle.map_network.proofs.SourceLemmas.{has_both, of_among}
use Rattle.map_network.proofs.PutLemmas.{net, at_reader, at_other, same_length, same_marks, same_tables}

no_both : true ≡ false → ⊥
no_both e = cc

table_name : (a b : ℕ) → Table a ≡ Table b → a ≡ b
table_name a b e = cc

module _ (inputs : ℕ) (outputs : List Source) (old : List NetTable) (j r : ℕ) (new : List NetTable) (p : IsPut old j r new) where
  abbrev first : Network
  first = net inputs old outputs

  abbrev second : Network
  second = net inputs new outputs

  -- the reader reads what both read
  reader_reads : (x : ℕ) → (x ≡ j → ⊥) → Contains ((in_tables old r).ins ++ (in_tables old j).ins) (Table x) → Reads second r x
  reader_reads x d c = record {
    within = subst (λ n. r < n) (sym (same_length inputs old outputs j r new p)) p.may.reader;
    at = subst (λ (t : NetTable). Contains t.ins (Table x)) (sym (at_reader inputs old outputs j r new p)) (of_among p.table.ins (Table x) (has_both j (in_tables old r).ins (in_tables old j).ins p.table.ins p.joined.ins (Table x) (λ e. d (table_name x j e)) c));
  }

  -- another one what it read
  others_read : (i x : ℕ) → (i ≡ r → ⊥) → Reads first i x → Reads second i x
  others_read i x d q = record {
    within = subst (λ n. i < n) (sym (same_length inputs old outputs j r new p)) q.within;
    at = subst (λ (t : NetTable). Contains t.ins (Table x)) (sym (at_other inputs old outputs j r new p i d)) q.at;
  }

  through : (i x : ℕ) → Reads first i x → LeadsToOutput second i ⊎ ((i ≡ j) × LeadsToOutput second r) → (i ≡ r) ⊎ (i ≡ r → ⊥) → (x ≡ j) ⊎ (x ≡ j → ⊥) → LeadsToOutput second x ⊎ ((x ≡ j) × LeadsToOutput second r)
  through i x q (inl l) (inl e) (inl f) = inr (f, subst (LeadsToOutput second) e l)
  through i x q (inl l) (inl e) (inr d) = inl (is_read (reader_reads x d (Contains-append_left (in_tables old r).ins (in_tables old j).ins (Table x) (subst (λ y. Contains (in_tables old y).ins (Table x)) e q.at))) (subst (LeadsToOutput second) e l))
  through i x q (inl l) (inr d) f = inl (is_read (others_read i x d q) l)
  through i x q (inr l) e (inl f) = inr (f, l.1)
  through i x q (inr l) e (inr d) = inl (is_read (reader_reads x d (Contains-append_right (in_tables old r).ins (in_tables old j).ins (Table x) (subst (λ y. Contains (in_tables old y).ins (Table x)) l.0 q.at))) l.1)

  -- what led to an output does, or is the table that was put away, whose reader does
  pub put_leads : {x : ℕ} → LeadsToOutput first x → LeadsToOutput second x ⊎ ((x ≡ j) × LeadsToOutput second r)
  put_leads (is_shown c) = inl (is_shown c)
  put_leads (is_read {i = i} {j = x} q l) = through i x q (put_leads l) (cases_eq i r) (cases_eq x j)

module _ (inputs : ℕ) (outputs : List Source) where
  -- what isn't gone leads to an output
  abbrev pub AllStandingLead : List NetTable → List Bool → Type 0
  AllStandingLead ts gone = (x : ℕ) → x < length ts → is_dropped gone x ≡ false → LeadsToOutput (net inputs ts outputs) x

  put_lead : (old new : List NetTable) (gone now : List Bool) (j r : ℕ) → IsPutOn old gone j r new now → length gone ≡ length old → AllStandingLead old gone → AllStandingLead new now
  put_lead old new gone now j r w len all x lx stands = by (cases_eq x j)
    where
      is_gone : is_dropped now j ≡ true
      is_gone = ap (λ g. get_or g j false) w.marked ∙ get_or-set_same gone j true false (omega (arith, len, w.put.may.within))

      stood : (x ≡ j → ⊥) → is_dropped gone x ≡ false
      stood d = sym (ap (λ g. get_or g x false) w.marked ∙ get_or-set_other gone j x true false d) ∙ stands

      within : x < length old
      within = subst (λ n. x < n) (same_length inputs old outputs j r new w.put) lx

      by : (x ≡ j) ⊎ (x ≡ j → ⊥) → LeadsToOutput (net inputs new outputs) x
      by (inl e) = absurd (no_both (sym is_gone ∙ ap (is_dropped now) (sym e) ∙ stands))
      by (inr d) = elim (put_leads inputs outputs old j r new w.put (all x within (stood d))) [ inl l ↦ l | inr b ↦ absurd (d b.0) ]

  pub puts_lead : {a b : List NetTable} {f g : List Bool} → Puts a f b g → length f ≡ length a → AllStandingLead a f → AllStandingLead b g
  puts_lead none len all = all
  puts_lead (more {b = b} {c = c} {g = g} {h = h} {j = j} {r = r} ps p) len all =
      let many : length g ≡ length b = same_marks ps ∙ len ∙ sym (same_tables ps) in
      put_lead b c g h j r p many (puts_lead ps len all)
