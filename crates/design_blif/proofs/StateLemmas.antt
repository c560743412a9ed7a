-- What the reader holds is what the lines so far say.
use Rattle.design_blif.proofs.Vocabulary.{Piece, Cover, flat_map, option_or, option_to_list, lt-ltb, append-nil, map_push, length-map}
use Rattle.design_blif.proofs.Vocabulary.{LogicalLine, DesignKind, PortDef, Head, names_after, name_number, with_name, Names, Latch, Inst}
use Rattle.design_blif.proofs.Vocabulary.{Lit, Seen, IsNew, placed_fault, line_fault, row_fault, same_bool}
use Rattle.std.proofs.Common.{nat_le, ◌≡◌, ℕ, ◌-◌, ◌<◌, Bool, true, false, not, cond, List, [], ◌∷◌, ◌++◌, Option, Some, None, length, map, take, drop, slice_index, refl, sym, ap, ◌∙◌, subst, arith, append_assoc, inl, inr, ◌&&◌, ◌==◌, option_map}
use Rattle.std.proofs.lemmas.List.{Concat.flat_map-append, Sums.fold-append}
use Rattle.design_netlist.specs.declared.fault.DesignKind.TheVariants as kind
use Rattle.design_netlist.specs.declared.netlist_data.LatchDef.{LatchDef}
use Rattle.design_blif.specs.declared.head.Head.TheVariants as head
use Rattle.design_blif.specs.Parts.{formal_of, actual_of, pairs_of, nth_word, port_defs, new_sum, with_row, pattern, lit_of, is_off, row_words, is_right_row, init_of, control_of}
use Rattle.design_blif.specs.Steps.{State, after_head, new_latch, new_inst, closed_pieces}
use Rattle.design_blif.specs.Grammar.{Statement, kind_of, signals, statement_signals, names_of, port_of, inputs_on, outputs_on, clocks_on, pair_from, cover_of, lists_off, inputs_of, outputs_of, clocks_of, parts_of, is_end, ended_by, last_cover, latch_control_on, control_by, is_some_statement, seen_by, statements_of}
use Rattle.design_blif.proofs.NamesLemmas.{numbers_are, names_after-extends}
use Rattle.design_blif.proofs.GrammarLemmas.{add_to_last, last_split, add_to_last-at, ended_by-at, last_cover-at, some-at, closed_on, closed_parts, closed_parts-at, closed_on-rows, parts_by_last, grouped-passed, statements-row, statements-new}

-- what a line of a new statement adds, with the numbers of the moment
module _ (names : List (List ℕ)) (l : LogicalLine) where
  abbrev pub new_inputs : Head → List PortDef
  new_inputs head.Inputs = port_defs names (drop 1 l.words) l.number
  new_inputs _ = []

  abbrev pub new_outputs : Head → List PortDef
  new_outputs head.Outputs = port_defs names (drop 1 l.words) l.number
  new_outputs _ = []

  abbrev pub new_parts : Head → List Piece
  new_parts head.Latch = Latch (new_latch names l.words l.number) (control_of l.words) ∷ []
  new_parts head.Subckt = new_inst names l.words l.number ∷ []
  new_parts _ = []

  abbrev pub new_current : Head → Option Cover
  new_current head.Names = Some (new_sum names (drop 1 l.words) l.number)
  new_current _ = None

map-map : {A B C : Type 0} (g : B → C) (f : A → B) (xs : List A) → map g (map f xs) ≡ map (λ x. g (f x)) xs
map-map g f [] = refl
map-map g f (x ∷ xs) = ap (λ ys. g (f x) ∷ ys) (map-map g f xs)

pairs_are : (names words : List (List ℕ)) → pairs_of (map formal_of words) (map (name_number names) (map actual_of words)) ≡ map (pair_from names) words
pairs_are names [] = refl
pairs_are names (w ∷ words) = ap (λ ps. pair_from names w ∷ ps) (pairs_are names words)

-- it adds the same with the numbers of the end
module _ (names more : List (List ℕ)) (l : LogicalLine) where
  abbrev all : Head → List (List ℕ)
  all h = names_after names (signals h l.words) ++ more

  ports_are : port_defs names (drop 1 l.words) l.number ≡ map (port_of (names_after names (drop 1 l.words) ++ more) l.number) (drop 1 l.words)
  ports_are = ap (map (λ k. record { signal = k; line = l.number })) (numbers_are (drop 1 l.words) names more) ∙ map-map (λ k. record { signal = k; line = l.number }) (name_number (names_after names (drop 1 l.words) ++ more)) (drop 1 l.words)

  pub inputs_are : (h : Head) → new_inputs names l h ≡ inputs_on (all h) h l
  inputs_are head.Inputs = ports_are
  inputs_are _ = refl

  pub outputs_are : (h : Head) → new_outputs names l h ≡ outputs_on (all h) h l
  outputs_are head.Outputs = ports_are
  outputs_are _ = refl

  latch_from : List ℕ → LatchDef
  latch_from ns = record { from = slice_index ns 0; out = slice_index ns 1; init = init_of l.words; line = l.number }

  inst_from : List ℕ → Piece
  inst_from ns = Inst (nth_word 1 l.words) (pairs_of (map formal_of (drop 2 l.words)) ns) l.number

  pub parts_are : (h : Head) → new_parts names l h ≡ closed_on (all h) h (record { head = l; rows = [] })
  unfolding latch_from inst_from
  parts_are head.Latch = ap (λ ns. Latch (latch_from ns) (control_of l.words) ∷ []) (numbers_are (nth_word 1 l.words ∷ nth_word 2 l.words ∷ []) names more)
  parts_are head.Subckt = ap (λ ns. inst_from ns ∷ []) (numbers_are (map actual_of (drop 2 l.words)) names more) ∙ ap (λ ps. Inst (nth_word 1 l.words) ps l.number ∷ []) (pairs_are (all head.Subckt) (drop 2 l.words))
  parts_are head.Names = refl
  parts_are _ = refl

  cover_from : List ℕ → Cover
  cover_from ns = record { out = slice_index ns (length ns - 1); ins = take (length ns - 1) ns; rows = []; off = false; line = l.number }

  pub current_is : (h : Head) → new_current names l h ≡ cover_of (all h) h (record { head = l; rows = [] })
  unfolding cover_from
  current_is head.Names = ap (λ ns. Some (cover_from ns)) (numbers_are (drop 1 l.words) names more)
  current_is _ = refl

-- the state after the line of a new statement
abbrev after_new : State → Head → LogicalLine → State
after_new s h l = record {
  seen = record { begun = true; ended = is_end h; names = names_after s.seen.names (signals h l.words); current = new_current s.seen.names l h; control = option_or s.seen.control (latch_control_on h l) };
  inputs = s.inputs ++ new_inputs s.seen.names l h;
  outputs = s.outputs ++ new_outputs s.seen.names l h;
  clocks = s.clocks ++ clocks_on h l;
  pieces = closed_pieces s ++ new_parts s.seen.names l h;
}

or_none : (o : Option (List ℕ)) → option_or o None ≡ o
or_none None = refl
or_none (Some c) = refl

after_head-new : (s : State) (h : Head) (l : LogicalLine) → IsNew h → s.seen.ended ≡ false → after_head s h l.number l.words ≡ after_new s h l
after_head-new s head.Passed l n e = absurd n
after_head-new s head.Unknown l n e = absurd n
after_head-new s head.Row l n e = absurd n
after_head-new s head.LeftOut l n e = absurd n
after_head-new s head.End l n e = simp (append-nil, or_none)
after_head-new s _ l n e = simp (e, append-nil, or_none)

-- the state holds what the statements say, whatever names still come
pub record IsState (ss : List Statement) (s : State) : Type 0 where
  pub begun : s.seen.begun ≡ is_some_statement ss
  pub ended : s.seen.ended ≡ ended_by ss
  pub names : s.seen.names ≡ names_of ss
  pub control : s.seen.control ≡ control_by ss
  pub current : (more : List (List ℕ)) → s.seen.current ≡ last_cover (s.seen.names ++ more) ss
  pub inputs : (more : List (List ℕ)) → s.inputs ≡ inputs_of (s.seen.names ++ more) ss
  pub outputs : (more : List (List ℕ)) → s.outputs ≡ outputs_of (s.seen.names ++ more) ss
  pub clocks : s.clocks ≡ clocks_of ss
  pub pieces : (more : List (List ℕ)) → s.pieces ≡ closed_parts (s.seen.names ++ more) ss

seen_eq : {a b : Seen} → a.begun ≡ b.begun → a.ended ≡ b.ended → a.names ≡ b.names → a.current ≡ b.current → a.control ≡ b.control → a ≡ b
seen_eq p q r t u = λ i. record { begun = p i; ended = q i; names = r i; current = t i; control = u i }

pub seen_is : (ss : List Statement) (s : State) → IsState ss s → s.seen ≡ seen_by ss
seen_is ss s h = seen_eq h.begun h.ended h.names (h.current [] ∙ ap (λ ns. last_cover ns ss) (append-nil s.seen.names ∙ h.names)) h.control

-- a list of what each statement adds, with one more
added : {A : Type 0} (f : List (List ℕ) → Statement → List A) (old new : List A) (names late more : List (List ℕ)) (ss : List Statement) (x : Statement) → ((m : List (List ℕ)) → old ≡ flat_map (f (names ++ m)) ss) → new ≡ f ((names ++ late) ++ more) x → old ++ new ≡ flat_map (f ((names ++ late) ++ more)) (ss ++ x ∷ [])
added f old new names late more ss x before here =
    (λ i. (before (late ++ more) ∙ ap (λ ns. flat_map (f ns) ss) (sym (append_assoc names late more))) i ++ (here ∙ sym (append-nil (f ((names ++ late) ++ more) x))) i)
    ∙ sym (flat_map-append (f ((names ++ late) ++ more)) ss (x ∷ []))

or-assoc : (o p q : Option (List ℕ)) → option_or (option_or o p) q ≡ option_or o (option_or p q)
or-assoc None p q = refl
or-assoc (Some c) p q = refl

control_by-push : (ss : List Statement) (x : Statement) → control_by (ss ++ x ∷ []) ≡ option_or (control_by ss) (latch_control_on (kind_of x.head) x.head)
control_by-push [] x = or_none (latch_control_on (kind_of x.head) x.head)
control_by-push (s ∷ ss) x = ap (option_or (latch_control_on (kind_of s.head) s.head)) (control_by-push ss x) ∙ sym (or-assoc (latch_control_on (kind_of s.head) s.head) (control_by ss) (latch_control_on (kind_of x.head) x.head))

-- after the line of a new statement
new_state : (ss : List Statement) (s : State) (h : Head) (l : LogicalLine) → IsState ss s → kind_of l ≡ h → IsState (ss ++ record { head = l; rows = [] } ∷ []) (after_new s h l)
new_state ss s h l is k =
    let x : Statement = record { head = l; rows = [] } in
    let ext = names_after-extends (signals h l.words) s.seen.names in
    record {
      begun = sym (some-at x ss);
      ended = sym (ended_by-at x ss ∙ ap is_end k);
      names = ap (λ ns. names_after ns (signals h l.words)) is.names
          ∙ sym (ap (names_after []) (flat_map-append statement_signals ss (x ∷ []) ∙ ap (λ ws. flat_map statement_signals ss ++ ws) (append-nil (statement_signals x) ∙ ap (λ g. signals g l.words) k))
          ∙ fold-append with_name [] (flat_map statement_signals ss) (signals h l.words));
      control = ap (λ c. option_or c (latch_control_on h l)) is.control ∙ sym (control_by-push ss x ∙ ap (λ g. option_or (control_by ss) (latch_control_on g l)) k);
      current = λ more. current_is s.seen.names more l h ∙ sym (last_cover-at x (names_after s.seen.names (signals h l.words) ++ more) ss ∙ ap (λ g. cover_of (names_after s.seen.names (signals h l.words) ++ more) g x) k);
      inputs = λ more. rw ext.1 (added (λ ns t. inputs_on ns (kind_of t.head) t.head) s.inputs (new_inputs s.seen.names l h) s.seen.names ext.0 more ss x is.inputs (rw (← ext.1, k) (inputs_are s.seen.names more l h)));
      outputs = λ more. rw ext.1 (added (λ ns t. outputs_on ns (kind_of t.head) t.head) s.outputs (new_outputs s.seen.names l h) s.seen.names ext.0 more ss x is.outputs (rw (← ext.1, k) (outputs_are s.seen.names more l h)));
      clocks = (λ i. is.clocks i ++ (ap (λ g. clocks_on g l) (sym k) ∙ sym (append-nil (clocks_on (kind_of l) l))) i) ∙ sym (flat_map-append (λ t. clocks_on (kind_of t.head) t.head) ss (x ∷ []));
      pieces = λ more.
          let names = (s.seen.names ++ ext.0) ++ more in
          let parts : new_parts s.seen.names l h ≡ closed_on names (kind_of l) x = rw (← ext.1, k) (parts_are s.seen.names more l h) in
          let before : closed_pieces s ≡ parts_of names ss =
          (λ j. is.pieces (ext.0 ++ more) j ++ option_to_list (option_map Names (is.current (ext.0 ++ more) j)))
          ∙ parts_by_last (s.seen.names ++ (ext.0 ++ more)) ss
          ∙ ap (λ ns. parts_of ns ss) (sym (append_assoc s.seen.names ext.0 more)) in
          rw ext.1 ((λ i. before i ++ parts i) ∙ sym (closed_parts-at names ss x));
    }

-- ---- a row

pub same_bool-is : (a b : Bool) → same_bool a b ≡ true → a ≡ b
same_bool-is true true h = refl
same_bool-is true false h = absurd cc
same_bool-is false true h = absurd cc
same_bool-is false false h = refl

-- a row without a fault has the output of those above it
row_same : (c : Cover) (words : List (List ℕ)) → row_fault c words ≡ None → 0 < length c.rows → c.off ≡ is_off (length c.ins) words
row_same c words h some =
    same_bool-is c.off (is_off (length c.ins) words) (by (not (length words == row_words (length c.ins))) (not (is_right_row (length c.ins) words)) (same_bool c.off (is_off (length c.ins) words)) (subst (λ b. cond (not (length words == row_words (length c.ins))) (Some kind.Word) (cond (not (is_right_row (length c.ins) words)) (Some kind.Row) (cond (b && not (same_bool c.off (is_off (length c.ins) words))) (Some kind.RowMixed) (cond (nat_le 4096 (length c.rows)) (Some kind.Limit) None))) ≡ None) (lt-ltb 0 (length c.rows) some) h))
  where
    rest : Option DesignKind
    rest = cond (nat_le 4096 (length c.rows)) (Some kind.Limit) None

    by : (a b m : Bool) → cond a (Some kind.Word) (cond b (Some kind.Row) (cond (true && not m) (Some kind.RowMixed) rest)) ≡ None → m ≡ true
    by true b m h = absurd cc
    by false true m h = absurd cc
    by false false true h = refl
    by false false false h = absurd cc

off_more : (n : ℕ) (l : LogicalLine) (rows : List LogicalLine) → (0 < length rows → lists_off n rows ≡ is_off n l.words) → is_off n l.words ≡ lists_off n (rows ++ l ∷ [])
off_more n l [] h = refl
off_more n l (r ∷ rows) h = sym (h (omega arith))

row_more : (names : List (List ℕ)) (h : Head) (st : Statement) (l : LogicalLine) (c : Cover) → Some c ≡ cover_of names h st → row_fault c l.words ≡ None → Some (with_row c l.words) ≡ cover_of names h (record { head = st.head; rows = st.rows ++ l ∷ [] })
row_more names head.Names st l c e none =
    let ns = map (name_number names) (drop 1 st.head.words) in
    let ins = take (length ns - 1) ns in
    let row : LogicalLine → List Lit = λ r. map lit_of (pattern (length ins) r.words) in
    let whole : Cover = record { out = slice_index ns (length ns - 1); ins = ins; rows = map row st.rows; off = lists_off (length ins) st.rows; line = st.head.number } in
    let is : c ≡ whole = some_injective c whole e in
    let fits : row_fault whole l.words ≡ None = subst (λ d. row_fault d l.words ≡ None) is none in
    let off : is_off (length ins) l.words ≡ lists_off (length ins) (st.rows ++ l ∷ []) = off_more (length ins) l st.rows (λ some. row_same whole l.words fits (omega (arith, length-map st.rows row))) in
    ap (λ d. Some (with_row d l.words)) is ∙ (λ i. Some (record { out = whole.out; ins = ins; rows = sym (map_push row st.rows l) i; off = off i; line = st.head.number }))
  where
    some_injective : (x y : Cover) → Some x ≡ Some y → x ≡ y
    some_injective x y e = cc
row_more names _ st l c e none = absurd cc

-- what only reads the heads stays
same_heads : {A : Type 0} (f : Statement → List A) (front : List Statement) (s t : Statement) → f s ≡ f t → flat_map f (front ++ s ∷ []) ≡ flat_map f (front ++ t ∷ [])
same_heads f front s t e = flat_map-append f front (s ∷ []) ∙ ap (λ y. flat_map f front ++ (y ++ [])) e ∙ sym (flat_map-append f front (t ∷ []))

row_state_at : (front : List Statement) (st : Statement) (s : State) (l : LogicalLine) (c : Cover) → IsState (front ++ st ∷ []) s → s.seen.current ≡ Some c → row_fault c l.words ≡ None → IsState (front ++ record { head = st.head; rows = st.rows ++ l ∷ [] } ∷ []) (after_head s head.Row l.number l.words)
row_state_at front st s l c is cur none =
    let t : Statement = record { head = st.head; rows = st.rows ++ l ∷ [] } in
    record {
      begun = is.begun ∙ some-at st front ∙ sym (some-at t front);
      ended = is.ended ∙ ended_by-at st front ∙ sym (ended_by-at t front);
      control = is.control ∙ control_by-push front st ∙ sym (control_by-push front t);
      names = is.names ∙ ap (names_after []) (same_heads statement_signals front st t refl);
      current = λ more. ap (option_map (λ d. with_row d l.words)) cur
          ∙ row_more (s.seen.names ++ more) (kind_of st.head) st l c (sym cur ∙ is.current more ∙ last_cover-at st (s.seen.names ++ more) front) none
          ∙ sym (last_cover-at t (s.seen.names ++ more) front);
      inputs = λ more. is.inputs more ∙ same_heads (λ x. inputs_on (s.seen.names ++ more) (kind_of x.head) x.head) front st t refl;
      outputs = λ more. is.outputs more ∙ same_heads (λ x. outputs_on (s.seen.names ++ more) (kind_of x.head) x.head) front st t refl;
      clocks = is.clocks ∙ same_heads (λ x. clocks_on (kind_of x.head) x.head) front st t refl;
      pieces = λ more. is.pieces more ∙ closed_parts-at (s.seen.names ++ more) front st ∙ ap (λ ps. parts_of (s.seen.names ++ more) front ++ ps) (closed_on-rows (s.seen.names ++ more) (kind_of st.head) st.head st.rows t.rows) ∙ sym (closed_parts-at (s.seen.names ++ more) front t);
    }

row_state : (ss : List Statement) (s : State) (l : LogicalLine) (c : Cover) → IsState ss s → s.seen.current ≡ Some c → row_fault c l.words ≡ None → IsState (add_to_last ss l) (after_head s head.Row l.number l.words)
row_state ss s l c is cur none =
    elim (last_split ss) [
      | inl e ↦ absurd (nothing (sym cur ∙ is.current [] ∙ ap (last_cover (s.seen.names ++ [])) e))
      | inr h ↦ rw (h.2, add_to_last-at h.1 h.0 l) (row_state_at h.0 h.1 s l c (subst (λ x. IsState x s) h.2 is) cur none)
    ]
  where
    nothing : Some c ≡ None → ⊥
    nothing e = cc

-- ---- any line

pub placed_row : (e b : Bool) (names : List (List ℕ)) (o : Option Cover) (control : Option (List ℕ)) (words : List (List ℕ)) → placed_fault (record { begun = b; ended = e; names = names; current = o; control = control }) head.Row words ≡ None → (c : Cover) × (o ≡ Some c) × (row_fault c words ≡ None)
placed_row true b names o control words h = absurd cc
placed_row false false names o control words h = absurd cc
placed_row false true names None control words h = absurd cc
placed_row false true names (Some c) control words h = (c, refl, h)

abbrev is_wrong : Head → Type 0
is_wrong head.Unknown = Unit {0}
is_wrong head.LeftOut = Unit {0}
is_wrong _ = ⊥

placed_wrong : (h : Head) (e b : Bool) (names : List (List ℕ)) (o : Option Cover) (control : Option (List ℕ)) (words : List (List ℕ)) → is_wrong h → placed_fault (record { begun = b; ended = e; names = names; current = o; control = control }) h words ≡ None → ⊥
placed_wrong head.Unknown true b names o control words w h = cc
placed_wrong head.Unknown false true names o control words w h = cc
placed_wrong head.Unknown false false names o control words w h = cc
placed_wrong head.LeftOut true b names o control words w h = cc
placed_wrong head.LeftOut false true names o control words w h = cc
placed_wrong head.LeftOut false false names o control words w h = cc
placed_wrong _ e b names o control words w h = absurd w

not_ended : (seen : Seen) (h : Head) (words : List (List ℕ)) → IsNew h → placed_fault seen h words ≡ None → seen.ended ≡ false
not_ended seen head.Passed words n p = absurd n
not_ended seen head.Unknown words n p = absurd n
not_ended seen head.Row words n p = absurd n
not_ended seen head.LeftOut words n p = absurd n
not_ended seen h words n p = by seen.ended p
  where
    by : (e : Bool) → cond e (Some kind.Word) (cond (not seen.begun) (Some kind.NoModel) (line_fault seen h words)) ≡ None → e ≡ false
    by true p = absurd cc
    by false p = refl

-- the line of a new statement, where it may stand
pub step_new : (lines : List LogicalLine) (s : State) (l : LogicalLine) (h : Head) → IsState (statements_of lines) s → kind_of l ≡ h → IsNew h → s.seen.ended ≡ false → IsState (statements_of (lines ++ l ∷ [])) (after_head s h l.number l.words)
step_new lines s l h is k new open_ = rw (statements-new lines l (subst IsNew (sym k) new), after_head-new s h l new open_) (new_state (statements_of lines) s h l is k)

-- any line of a model without a fault
pub step : (lines : List LogicalLine) (s : State) (l : LogicalLine) (h : Head) → IsState (statements_of lines) s → kind_of l ≡ h → placed_fault s.seen h l.words ≡ None → IsState (statements_of (lines ++ l ∷ [])) (after_head s h l.number l.words)
step lines s l head.Passed is k p = let e : statements_of (lines ++ l ∷ []) ≡ statements_of lines = ap (λ g. g.statements) (grouped-passed lines l k) in rw e is
step lines s l head.Row is k p =
    let r = placed_row s.seen.ended s.seen.begun s.seen.names s.seen.current s.seen.control l.words p in
    rw (statements-row lines l k) (row_state (statements_of lines) s l r.0 is r.1 r.2)
step lines s l head.Unknown is k p = absurd (placed_wrong head.Unknown s.seen.ended s.seen.begun s.seen.names s.seen.current s.seen.control l.words tt p)
step lines s l head.LeftOut is k p = absurd (placed_wrong head.LeftOut s.seen.ended s.seen.begun s.seen.names s.seen.current s.seen.control l.words tt p)
step lines s l h is k p = step_new lines s l h is k tt (not_ended s.seen h l.words tt p)
