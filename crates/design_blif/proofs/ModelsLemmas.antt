-- A line after the others, in a text of models.
use Rattle.design_blif.proofs.Vocabulary.{Model, option_to_list, append-nil, map_push, LogicalLine, is_bad_line, DesignKind, Head, nth_word}
use Rattle.design_blif.proofs.Vocabulary.{Names, Seen, fault_of, head_fault, placed_fault, State, after_head}
use Rattle.std.proofs.Common.{option_map, ◌≡◌, ℕ, Bool, true, false, cond, List, [], ◌∷◌, ◌++◌, Option, Some, None, Result, Ok, Err, map, refl, sym, ap, ◌∙◌, subst, inl, inr, ◌⊎◌}
use Rattle.design_netlist.specs.declared.fault.DesignKind.TheVariants as kind
use Rattle.design_blif.specs.declared.head.Head.TheVariants as head
use Rattle.design_blif.specs.Runs.{TextState, start, text_start, last_model, text_after_head, text_after, model_from, above_of, run}
use Rattle.design_blif.specs.Grammar.{statements_of, kind_of, names_of, inputs_of, outputs_of, parts_of, spelled, ModelText, Parted, onto, parted, models_of, model_lines, name_of, spelled_model, is_some_model, last_lines, above_by}
use Rattle.design_blif.proofs.GrammarLemmas.{onto_last, onto_last-at, last_split, parts_by_last}
use Rattle.design_blif.proofs.StateLemmas.{IsState, seen_is, step, step_new}

-- ---- the last model

abbrev pub add_line : List ModelText → LogicalLine → List ModelText
add_line ms l = onto_last (λ m. record { first = m.first; rest = m.rest ++ l ∷ [] }) ms

abbrev add_other : Parted → LogicalLine → Parted
add_other p l = by p.models
  where
    by : List ModelText → Parted
    by [] = record { front = p.front ++ l ∷ []; models = [] }
    by (m ∷ ms) = record { front = p.front; models = add_line (m ∷ ms) l }

abbrev add_model : Parted → LogicalLine → Parted
add_model p l = record { front = p.front; models = p.models ++ record { first = l; rest = [] } ∷ [] }

abbrev IsOther : Head → Type 0
IsOther head.Model = ⊥
IsOther _ = Unit {0}

onto-add_other : (a l : LogicalLine) (h : Head) (front : List LogicalLine) (ms : List ModelText) → onto a h (add_other (record { front = front; models = ms }) l) ≡ add_other (onto a h (record { front = front; models = ms })) l
onto-add_other a l head.Model front [] = refl
onto-add_other a l head.Model front (m ∷ ms) = refl
onto-add_other a l _ front [] = refl
onto-add_other a l _ front (m ∷ ms) = refl

onto-add_model : (a l : LogicalLine) (h : Head) (p : Parted) → onto a h (add_model p l) ≡ add_model (onto a h p) l
onto-add_model a l head.Model p = refl
onto-add_model a l _ p = refl

onto-other : (l : LogicalLine) (h : Head) → IsOther h → onto l h (record { front = []; models = [] }) ≡ record { front = l ∷ []; models = [] }
onto-other l head.Model o = absurd o
onto-other l _ o = refl

parted-model : (above : List LogicalLine) (l : LogicalLine) → kind_of l ≡ head.Model → parted (above ++ l ∷ []) ≡ add_model (parted above) l
parted-model [] l e = rw e refl
parted-model (a ∷ above) l e = ap (onto a (kind_of a)) (parted-model above l e) ∙ onto-add_model a l (kind_of a) (parted above)

parted-other : (above : List LogicalLine) (l : LogicalLine) → IsOther (kind_of l) → parted (above ++ l ∷ []) ≡ add_other (parted above) l
parted-other [] l o = onto-other l (kind_of l) o
parted-other (a ∷ above) l o = ap (onto a (kind_of a)) (parted-other above l o) ∙ onto-add_other a l (kind_of a) (parted above).front (parted above).models

other_added : (p : Parted) (ms : List ModelText) (l : LogicalLine) → (add_other (record { front = p.front; models = ms }) l).models ≡ add_line ms l
other_added p [] l = refl
other_added p (m ∷ ms) l = refl

models-model : (above : List LogicalLine) (l : LogicalLine) → kind_of l ≡ head.Model → models_of (above ++ l ∷ []) ≡ models_of above ++ record { first = l; rest = [] } ∷ []
models-model above l e = ap (λ p. p.models) (parted-model above l e)

models-other : (above : List LogicalLine) (l : LogicalLine) → IsOther (kind_of l) → models_of (above ++ l ∷ []) ≡ add_line (models_of above) l
models-other above l o = ap (λ p. p.models) (parted-other above l o) ∙ other_added (parted above) (models_of above) l

abbrev pub but_last_model : List ModelText → List ModelText
but_last_model [] = []
but_last_model (m ∷ []) = []
but_last_model (m ∷ n ∷ ms) = m ∷ but_last_model (n ∷ ms)

abbrev pub last_name : List ModelText → List ℕ
last_name [] = []
last_name (m ∷ []) = name_of m
last_name (m ∷ n ∷ ms) = last_name (n ∷ ms)

module _ (m : ModelText) where
  add_line-at : (front : List ModelText) (l : LogicalLine) → add_line (front ++ m ∷ []) l ≡ front ++ record { first = m.first; rest = m.rest ++ l ∷ [] } ∷ []
  add_line-at front l = onto_last-at (λ m. record { first = m.first; rest = m.rest ++ l ∷ [] }) m front

  but_last_model-at : (front : List ModelText) → but_last_model (front ++ m ∷ []) ≡ front
  but_last_model-at [] = refl
  but_last_model-at (t ∷ []) = refl
  but_last_model-at (t ∷ u ∷ front) = ap (λ x. t ∷ x) (but_last_model-at (u ∷ front))

  last_name-at : (front : List ModelText) → last_name (front ++ m ∷ []) ≡ name_of m
  last_name-at [] = refl
  last_name-at (t ∷ []) = refl
  last_name-at (t ∷ u ∷ front) = last_name-at (u ∷ front)

  last_lines-at : (front : List ModelText) → last_lines (front ++ m ∷ []) ≡ model_lines m
  last_lines-at [] = refl
  last_lines-at (t ∷ []) = refl
  last_lines-at (t ∷ u ∷ front) = last_lines-at (u ∷ front)

  some_model-at : (front : List ModelText) → is_some_model (front ++ m ∷ []) ≡ true
  some_model-at [] = refl
  some_model-at (t ∷ front) = refl

-- ---- the state of a text

start_is : IsState [] start
start_is = record {
  begun = refl;
  ended = refl;
  names = refl;
  control = refl;
  current = λ more. refl;
  inputs = λ more. refl;
  outputs = λ more. refl;
  clocks = refl;
  pieces = λ more. refl;
}

named_eq : {a b : Model} → a.name ≡ b.name → a.names ≡ b.names → a.inputs ≡ b.inputs → a.outputs ≡ b.outputs → a.clocks ≡ b.clocks → a.pieces ≡ b.pieces → a ≡ b
named_eq o p q r t u = λ i. record { name = o i; names = p i; inputs = q i; outputs = r i; clocks = t i; pieces = u i }

model_is : (n name : List ℕ) (lines : List LogicalLine) (s : State) → n ≡ name → IsState (statements_of lines) s → model_from n s ≡ spelled name lines
model_is n name lines s same is =
    let ss = statements_of lines in
    let whole : s.seen.names ++ [] ≡ names_of ss = append-nil s.seen.names ∙ is.names in
    named_eq same is.names
    (is.inputs [] ∙ ap (λ ns. inputs_of ns ss) whole)
    (is.outputs [] ∙ ap (λ ns. outputs_of ns ss) whole)
    is.clocks
    ((λ i. is.pieces [] i ++ option_to_list (option_map Names (is.current [] i))) ∙ parts_by_last (s.seen.names ++ []) ss ∙ ap (λ ns. parts_of ns ss) whole)

pub record IsText (ms : List ModelText) (t : TextState) : Type 0 where
  pub done : t.done ≡ map spelled_model (but_last_model ms)
  pub models : t.models ≡ map name_of ms
  pub begun : t.this.seen.begun ≡ is_some_model ms
  pub name : t.name ≡ last_name ms
  pub this : IsState (statements_of (last_lines ms)) t.this

pub text_start_is : IsText [] text_start
text_start_is = record { done = refl; models = refl; begun = refl; name = refl; this = start_is }

pub above_is : (ms : List ModelText) (t : TextState) → IsText ms t → above_of t ≡ above_by ms
above_is ms t is = λ i. record { models = is.models i; this = seen_is (statements_of (last_lines ms)) t.this is.this i }

-- all the models
pub models_are : (ms : List ModelText) (t : TextState) → IsText ms t → t.done ++ last_model t ≡ map spelled_model ms
models_are ms t is =
    elim (last_split ms) [
      | inl e ↦ none e
      | inr h ↦ some h.0 h.1 h.2
    ]
  where
    none : ms ≡ [] → t.done ++ last_model t ≡ map spelled_model ms
    none e =
        let begun : t.this.seen.begun ≡ false = is.begun ∙ ap is_some_model e in
        let done : t.done ≡ [] = is.done ∙ ap (λ x. map spelled_model (but_last_model x)) e in
        rw (begun, done, e) refl

    some : (front : List ModelText) (m : ModelText) → ms ≡ front ++ m ∷ [] → t.done ++ last_model t ≡ map spelled_model ms
    some front m e =
        let begun : t.this.seen.begun ≡ true = is.begun ∙ ap is_some_model e ∙ some_model-at m front in
        let done : t.done ≡ map spelled_model front = is.done ∙ ap (map spelled_model) (ap but_last_model e ∙ but_last_model-at m front) in
        let name : t.name ≡ name_of m = is.name ∙ ap last_name e ∙ last_name-at m front in
        let lines : last_lines ms ≡ model_lines m = ap last_lines e ∙ last_lines-at m front in
        let one : model_from t.name t.this ≡ spelled_model m = model_is t.name (name_of m) (last_lines ms) t.this name is.this ∙ ap (spelled (name_of m)) lines in
        rw (begun, e) ((λ i. done i ++ one i ∷ []) ∙ sym (map_push spelled_model front m))

-- a `.model` line
model_step : (ms : List ModelText) (t : TextState) (l : LogicalLine) → IsText ms t → kind_of l ≡ head.Model → IsText (ms ++ record { first = l; rest = [] } ∷ []) (text_after_head t head.Model l.number l.words)
model_step ms t l is k =
    let m : ModelText = record { first = l; rest = [] } in
    record {
      done = models_are ms t is ∙ ap (map spelled_model) (sym (but_last_model-at m ms));
      models = (λ i. is.models i ++ nth_word 1 l.words ∷ []) ∙ sym (map_push name_of ms m);
      begun = sym (some_model-at m ms);
      name = sym (last_name-at m ms);
      this = rw (last_lines-at m ms) (step_new [] start l head.Model start_is k tt refl);
    }

begun_stays : (s : State) (h : Head) (line : ℕ) (words : List (List ℕ)) → s.seen.begun ≡ true → (after_head s h line words).seen.begun ≡ true
begun_stays s head.Passed line words e = e
begun_stays s head.Unknown line words e = e
begun_stays s head.LeftOut line words e = e
begun_stays s head.Row line words e = e
begun_stays s _ line words e = refl

-- with no model only a line that is passed over has no fault
only_passed : (h : Head) (e b : Bool) (seen : Seen) (words : List (List ℕ)) → seen.begun ≡ false → placed_fault seen h words ≡ None → h ≡ head.Passed
only_passed head.Passed e b seen words n p = refl
only_passed h e b seen words n p = absurd (by seen.ended (rw n at p))
  where
    by : (e : Bool) → cond e (Some kind.Word) (Some kind.NoModel) ≡ None → ⊥
    by true p = cc
    by false p = cc

-- another line
other_step : (ms : List ModelText) (t : TextState) (l : LogicalLine) (h : Head) → IsText ms t → kind_of l ≡ h → placed_fault t.this.seen h l.words ≡ None → IsText (add_line ms l) (record t { this = after_head t.this h l.number l.words })
other_step ms t l h is k p =
    elim (last_split ms) [
      | inl e ↦
          let passed : h ≡ head.Passed = only_passed h false false t.this.seen l.words (is.begun ∙ ap is_some_model e) p in
          let same : add_line ms l ≡ ms = ap (λ x. add_line x l) e ∙ sym e in
          rw (passed, same) is
      | inr f ↦
          let front = f.0 in
          let m = f.1 in
          let n : ModelText = record { first = m.first; rest = m.rest ++ l ∷ [] } in
          let lines : last_lines ms ≡ model_lines m = ap last_lines f.2 ∙ last_lines-at m front in
          let added : add_line ms l ≡ front ++ n ∷ [] = ap (λ x. add_line x l) f.2 ∙ add_line-at m front l in
          rw added (record {
            done = is.done ∙ ap (map spelled_model) (ap but_last_model f.2 ∙ but_last_model-at m front ∙ sym (but_last_model-at n front));
            models = is.models ∙ ap (map name_of) f.2 ∙ map_push name_of front m ∙ sym (map_push name_of front n);
            begun = begun_stays t.this h l.number l.words (is.begun ∙ ap is_some_model f.2 ∙ some_model-at m front) ∙ sym (some_model-at n front);
            name = is.name ∙ ap last_name f.2 ∙ last_name-at m front ∙ sym (last_name-at n front);
            this = rw (last_lines-at n front) (subst (λ x. IsState (statements_of (x ++ l ∷ [])) (after_head t.this h l.number l.words)) lines (step (last_lines ms) t.this l h is.this k p));
          })
    ]

pub not_bad : (b : Bool) (o : Option DesignKind) → cond b (Some kind.Byte) o ≡ None → o ≡ None
not_bad true o h = absurd cc
not_bad false o h = h

pub text_step : (above : List LogicalLine) (t : TextState) (l : LogicalLine) → IsText (models_of above) t → fault_of (above_of t) l ≡ None → IsText (models_of (above ++ l ∷ [])) (text_after t l)
text_step above t l is none = by_kind (kind_of l) refl (not_bad (is_bad_line l) (head_fault (above_of t) (kind_of l) l.words) none)
  where
    by_kind : (h : Head) → kind_of l ≡ h → head_fault (above_of t) h l.words ≡ None → IsText (models_of (above ++ l ∷ [])) (text_after_head t h l.number l.words)
    by_kind head.Model k p = rw (models-model above l k) (model_step (models_of above) t l is k)
    by_kind h k p = rw (models-other above l (subst IsOther (sym k) tt)) (other_step (models_of above) t l h is k p)

-- what holds of no lines, and of a line without a fault before others, holds of all that are run
pub run_by : (P : TextState → List LogicalLine → TextState → Type 0) → ((t : TextState) → P t [] t) → ((t u : TextState) (l : LogicalLine) (lines : List LogicalLine) → fault_of (above_of t) l ≡ None → P (text_after t l) lines u → P t (l ∷ lines) u) →
    (lines : List LogicalLine) (t u : TextState) → run t lines ≡ Ok u → P t lines u
unfolding run
run_by P none more [] t u e = let same : t ≡ u = cc in subst (P t []) same (none t)
run_by P none more (l ∷ lines) t u e = by (fault_of (above_of t) l) refl (run_by P none more lines (text_after t l) u)
  where
    by : (f : Option DesignKind) → fault_of (above_of t) l ≡ f → (run (text_after t l) lines ≡ Ok u → P (text_after t l) lines u) → P t (l ∷ lines) u
    by None free below = more t u l lines free (below (rw free at e))
    by (Some k) some below =
        let f : ℕ × DesignKind = (l.number, k) in
        let h : Err f ≡ Ok u = rw some at e in
        absurd cc
