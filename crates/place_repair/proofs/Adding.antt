-- Terminals are added to nets.
use Rattle.std.proofs.Common.{◌≡◌, ◌≢◌, ◌⊎◌, ℕ, ◌+◌, ◌<◌, ◌≤◌, List, [], ◌∷◌, ◌++◌, length, get_or, set, replicate, refl, sym, ap, ◌∙◌, subst, inl, inr, arith, is_some, ◌==◌, if◌then◌else◌, count_by}
use Rattle.place_repair.proofs.Vocabulary.{Contains, cases_eq, cases_lt, Table, pin_wire, table_wire, Configuration, setting_of, ImageValue}
use Rattle.place_repair.proofs.Vocabulary.{nth_of, HasTerminal, not_in_nil, Plan, HasMark, HasWire, listed}
use Rattle.std.proofs.lemmas.List.{get_or-set_same, get_or-set_other, get_or_past, get_or-replicate, get_or_default, length-set, length-replicate}
use Rattle.std.proofs.lemmas.List.Elements.{Contains-append_left, Contains-push, Contains-push_cases, Contains-get_or, Contains-append_right, Contains-append_cases}
use Rattle.place_repair.specs.Making.{IsAdded, IsNetWire, IsMovedTo, IsPinTerminal, IsFirstPinTerminal, IsTablePinTerminal, IsFirstTableTerminal, IsTableTerminal, AreTerminalsOf, no_table}
use Rattle.place_repair.proofs.Using.{is_on, listed_on}

pub added_none : (claims : ℕ → ℕ → Type 0) (lists : List (List ℕ)) → ((k w : ℕ) → claims k w → ⊥) → IsAdded claims lists lists
added_none claims lists never = record { sized = refl; only = λ k w t. inl t; each = λ k w c. absurd (never k w c); kept = λ k w t. t }

pub added_then : (A B C : ℕ → ℕ → Type 0) (old mid new : List (List ℕ)) → IsAdded A old mid → IsAdded B mid new → ((k w : ℕ) → A k w → C k w) → ((k w : ℕ) → B k w → C k w) → ((k w : ℕ) → C k w → A k w ⊎ B k w) → IsAdded C old new
added_then A B C old mid new p q from_a from_b to = record {
  sized = q.sized ∙ p.sized;
  only = λ k w t. by_new k w (q.only k w t);
  each = λ k w c. by_claim k w (to k w c);
  kept = λ k w t. q.kept k w (p.kept k w t);
}
  where
    by_mid : (k w : ℕ) → HasTerminal old k w ⊎ A k w → HasTerminal old k w ⊎ C k w
    by_mid k w (inl t) = inl t
    by_mid k w (inr a) = inr (from_a k w a)

    by_new : (k w : ℕ) → HasTerminal mid k w ⊎ B k w → HasTerminal old k w ⊎ C k w
    by_new k w (inl t) = by_mid k w (p.only k w t)
    by_new k w (inr b) = inr (from_b k w b)

    by_claim : (k w : ℕ) → A k w ⊎ B k w → HasTerminal new k w
    by_claim k w (inl a) = q.kept k w (p.each k w a)
    by_claim k w (inr b) = q.each k w b

pub added_same : (A B : ℕ → ℕ → Type 0) (old new : List (List ℕ)) → IsAdded A old new → ((k w : ℕ) → A k w → B k w) → ((k w : ℕ) → B k w → A k w) → IsAdded B old new
added_same A B old new p to from = added_then A (λ k w. ⊥) B old new new p (added_none (λ k w. ⊥) new (λ k w no. no)) to (λ k w no. absurd no) (λ k w b. inl (from k w b))

pub added_one : (lists : List (List ℕ)) (net wire : ℕ) → net < length lists → IsAdded (IsNetWire net wire) lists (set lists net (get_or lists net [] ++ wire ∷ []))
added_one lists net wire within = record {
  sized = length-set lists net (get_or lists net [] ++ wire ∷ []);
  only = λ k w t. only k w t (cases_eq k net);
  each = λ k w c. subst (λ z. HasTerminal (set lists net (get_or lists net [] ++ wire ∷ [])) z w) c.0 (subst (λ xs. Contains xs w) (sym here) (subst (Contains (get_or lists net [] ++ wire ∷ [])) c.1 (Contains-push (get_or lists net []) wire)));
  kept = λ k w t. kept k w t (cases_eq k net);
}
  where
    here : get_or (set lists net (get_or lists net [] ++ wire ∷ [])) net [] ≡ get_or lists net [] ++ wire ∷ []
    here = get_or-set_same lists net (get_or lists net [] ++ wire ∷ []) [] within

    other : (k : ℕ) → k ≢ net → get_or (set lists net (get_or lists net [] ++ wire ∷ [])) k [] ≡ get_or lists k []
    other k ne = get_or-set_other lists net k (get_or lists net [] ++ wire ∷ []) [] ne

    at_net : (k : ℕ) → k ≡ net → get_or (set lists net (get_or lists net [] ++ wire ∷ [])) k [] ≡ get_or lists net [] ++ wire ∷ []
    at_net k e = ap (λ z. get_or (set lists net (get_or lists net [] ++ wire ∷ [])) z []) e ∙ here

    only : (k w : ℕ) → HasTerminal (set lists net (get_or lists net [] ++ wire ∷ [])) k w → (k ≡ net) ⊎ (k ≢ net) → HasTerminal lists k w ⊎ IsNetWire net wire k w
    only k w t (inl e) = elim (Contains-push_cases (get_or lists net []) wire w (subst (λ xs. Contains xs w) (at_net k e) t)) [ inl before ↦ inl (subst (λ z. HasTerminal lists z w) (sym e) before) | inr same ↦ inr (sym e, same) ]
    only k w t (inr ne) = inl (subst (λ xs. Contains xs w) (other k ne) t)

    kept : (k w : ℕ) → HasTerminal lists k w → (k ≡ net) ⊎ (k ≢ net) → HasTerminal (set lists net (get_or lists net [] ++ wire ∷ [])) k w
    kept k w t (inl e) = subst (λ xs. Contains xs w) (sym (at_net k e)) (Contains-append_left (get_or lists net []) (wire ∷ []) w (subst (λ z. HasTerminal lists z w) e t))
    kept k w t (inr ne) = subst (λ xs. Contains xs w) (sym (other k ne)) t

-- the net that has the first wire moves, and no other has it
pub added_to : (g : Configuration) (p : Plan) (from to net : ℕ) (lists : List (List ℕ)) → HasMark p.moves.items net → HasWire g p.nets.lowest net from → ((k : ℕ) → HasWire g p.nets.lowest k from → k ≡ net) → net < length lists →
    IsAdded (IsMovedTo g p from to) lists (set lists net (get_or lists net [] ++ to ∷ []))
added_to g p from to net lists moves wire one within = added_same (IsNetWire net to) (IsMovedTo g p from to) lists (set lists net (get_or lists net [] ++ to ∷ [])) (added_one lists net to within)
    (λ k w c. (subst (HasMark p.moves.items) c.0 moves, subst (λ z. HasWire g p.nets.lowest z from) c.0 wire, c.1))
    (λ k w m. (sym (one k m.1), m.2))

-- ---- one after the other

module _ (g : Configuration) (p : Plan) where
  none_below : (j : ℕ) → j < 0 → ⊥
  none_below j l = omega arith

  pub no_pins : (pins : List ℕ) (k w : ℕ) → IsFirstPinTerminal g p pins 0 k w → ⊥
  no_pins pins k w c = none_below c.0 c.1

  pub no_table_pins : (t u k w : ℕ) → IsTablePinTerminal g p t u 0 k w → ⊥
  no_table_pins t u k w c = none_below c.0 c.1

  pub no_tables : (tables : List Table) (k w : ℕ) → IsFirstTableTerminal g p tables 0 k w → ⊥
  no_tables tables k w c = none_below c.0 c.1

  -- of the first numbers the last one, or one before
  last_or : (P : ℕ → ℕ → ℕ → Type 0) (n k w : ℕ) → (j : ℕ) × (j < n + 1) × P j k w → ((j : ℕ) × (j < n) × P j k w) ⊎ P n k w
  last_or P n k w c = by (cases_eq c.0 n)
    where
      by : (c.0 ≡ n) ⊎ (c.0 ≢ n) → ((j : ℕ) × (j < n) × P j k w) ⊎ P n k w
      by (inl e) = inr (subst (λ j. P j k w) e c.2)
      by (inr ne) = inl (c.0, omega (arith, c.1, ne), c.2)

  added_more : (P : ℕ → ℕ → ℕ → Type 0) (n : ℕ) (old mid new : List (List ℕ)) → IsAdded (λ k w. (j : ℕ) × (j < n) × P j k w) old mid → IsAdded (P n) mid new → IsAdded (λ k w. (j : ℕ) × (j < n + 1) × P j k w) old new
  added_more P n old mid new a b = added_then (λ k w. (j : ℕ) × (j < n) × P j k w) (P n) (λ k w. (j : ℕ) × (j < n + 1) × P j k w) old mid new a b
      (λ k w c. (c.0, omega (arith, c.1), c.2)) (λ k w c. (n, omega arith, c)) (last_or P n)

  pub pins_more : (pins : List ℕ) (n : ℕ) (old mid new : List (List ℕ)) → IsAdded (IsFirstPinTerminal g p pins n) old mid → IsAdded (IsMovedTo g p (pin_wire g.shape (nth_of pins n)) (pin_wire g.shape (nth_of p.pins.items (nth_of pins n)))) mid new → IsAdded (IsFirstPinTerminal g p pins (n + 1)) old new
  pins_more pins n old mid new a b = added_more (λ j. IsMovedTo g p (pin_wire g.shape (nth_of pins j)) (pin_wire g.shape (nth_of p.pins.items (nth_of pins j)))) n old mid new a b

  pub table_pins_more : (t u n : ℕ) (old mid new : List (List ℕ)) → IsAdded (IsTablePinTerminal g p t u n) old mid → IsAdded (IsMovedTo g p (table_wire g.shape t n) (table_wire g.shape u n)) mid new → IsAdded (IsTablePinTerminal g p t u (n + 1)) old new
  table_pins_more t u n old mid new a b = added_more (λ j. IsMovedTo g p (table_wire g.shape t j) (table_wire g.shape u j)) n old mid new a b

  pub tables_more : (tables : List Table) (n : ℕ) (old mid new : List (List ℕ)) → IsAdded (IsFirstTableTerminal g p tables n) old mid →
      IsAdded (IsTablePinTerminal g p (get_or tables n no_table).0 (nth_of p.tables.items (get_or tables n no_table).0) 7) mid new → IsAdded (IsFirstTableTerminal g p tables (n + 1)) old new
  tables_more tables n old mid new a b = added_more (λ j. IsTablePinTerminal g p (get_or tables j no_table).0 (nth_of p.tables.items (get_or tables j no_table).0) 7) n old mid new a b

  pub pins_all : (pins : List ℕ) (n : ℕ) → length pins ≤ n → n ≤ length pins → (old new : List (List ℕ)) → IsAdded (IsFirstPinTerminal g p pins n) old new → IsAdded (IsPinTerminal g p pins) old new
  pins_all pins n ge le old new a = added_same (IsFirstPinTerminal g p pins n) (IsPinTerminal g p pins) old new a
      (λ k w c. (nth_of pins c.0, Contains-get_or pins c.0 0 (omega (arith, c.1, le)), c.2))
      (λ k w c. let has = c.1 in (has.0, omega (arith, has.1, ge), subst (λ q. IsMovedTo g p (pin_wire g.shape q) (pin_wire g.shape (nth_of p.pins.items q)) k w) (sym (get_or_default pins has.0 0 c.0 has.1 ∙ has.2)) c.2))

  pub tables_all : (tables : List Table) → ((t : ℕ) → count_by (λ (c : Table). c.0 == t) tables ≡ (if is_some (setting_of g t) then 1 else 0)) → (n : ℕ) → length tables ≤ n → n ≤ length tables → (old new : List (List ℕ)) →
      IsAdded (IsFirstTableTerminal g p tables n) old new → IsAdded (IsTableTerminal g p) old new
  tables_all tables counts n ge le old new a = added_same (IsFirstTableTerminal g p tables n) (IsTableTerminal g p) old new a
      (λ k w c. ((get_or tables c.0 no_table).0, listed_on g tables counts c.0 (omega (arith, c.1, le)), c.2))
      (λ k w c. let r = listed (λ (x : Table). x.0) tables (λ t. is_some (setting_of g t)) counts c.0 no_table (is_on (setting_of g c.0) c.1) in
      (r.0, omega (arith, r.1, ge), subst (λ t. IsTablePinTerminal g p t (nth_of p.tables.items t) 7 k w) (sym r.2) c.2))

none_there : (n k w : ℕ) → HasTerminal (replicate n []) k w → ⊥
none_there n k w t = by (cases_lt k n)
  where
    by : (k < n) ⊎ (n ≤ k) → ⊥
    by (inl l) = not_in_nil w (subst (λ xs. Contains xs w) (get_or-replicate n k [] [] l) t)
    by (inr l) = not_in_nil w (subst (λ xs. Contains xs w) (get_or_past (replicate n []) k [] (rw length-replicate l)) t)

pub terminals_made : (i : ImageValue) (p : Plan) (one two new : List (List ℕ)) → IsAdded (IsPinTerminal i.config p i.inputs) (replicate (length p.nets.lowest) []) one → IsAdded (IsPinTerminal i.config p i.outputs) one two → IsAdded (IsTableTerminal i.config p) two new → AreTerminalsOf i p new
terminals_made i p one two new ins outs tables = record {
  sized = tables.sized ∙ outs.sized ∙ ins.sized ∙ length-replicate (length p.nets.lowest) [];
  only = λ k w t. by_tables k w (tables.only k w t);
  by_pin = λ k w c. tables.kept k w (elim (Contains-append_cases i.inputs i.outputs c.0 c.1) [ inl a ↦ outs.kept k w (ins.each k w (c.0, a, c.2)) | inr b ↦ outs.each k w (c.0, b, c.2) ]);
  by_table = tables.each;
}
  where
    by_ins : (k w : ℕ) → HasTerminal (replicate (length p.nets.lowest) []) k w ⊎ IsPinTerminal i.config p i.inputs k w → IsPinTerminal i.config p (i.inputs ++ i.outputs) k w
    by_ins k w (inl t) = absurd (none_there (length p.nets.lowest) k w t)
    by_ins k w (inr c) = (c.0, Contains-append_left i.inputs i.outputs c.0 c.1, c.2)

    by_outs : (k w : ℕ) → HasTerminal one k w ⊎ IsPinTerminal i.config p i.outputs k w → IsPinTerminal i.config p (i.inputs ++ i.outputs) k w
    by_outs k w (inl t) = by_ins k w (ins.only k w t)
    by_outs k w (inr c) = (c.0, Contains-append_right i.inputs i.outputs c.0 c.1, c.2)

    by_tables : (k w : ℕ) → HasTerminal two k w ⊎ IsTableTerminal i.config p k w → IsPinTerminal i.config p (i.inputs ++ i.outputs) k w ⊎ IsTableTerminal i.config p k w
    by_tables k w (inl t) = inl (by_outs k w (outs.only k w t))
    by_tables k w (inr c) = inr c
