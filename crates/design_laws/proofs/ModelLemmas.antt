-- A model that uses no other is the netlist of its lines.
use Rattle.std.proofs.Common.{◌≡◌, ℕ, zero, suc, zero-add, ◌+◌, ◌<◌, ◌≤◌, Bool, true, false, ◌||◌, nat_lt, List, [], ◌∷◌, ◌++◌, length, map, refl, sym, ap, ◌∙◌, subst, arith}
use Rattle.design_laws.proofs.Vocabulary.{flat_map, sum_by, option_to_list, ltb-false, le-ltb, sum_by-append, map-append, length-map}
use Rattle.design_laws.proofs.Vocabulary.{NetlistData, Model, Signal, Head, covers_of, latches_on, latches_of, rows_size, IsSpelledBy}
use Rattle.std.proofs.lemmas.Grind.{flat_map-append}
use Rattle.design_netlist.specs.declared.netlist_data.Cover.{Cover}
use Rattle.design_flatten.specs.Vocabulary.{Part, InputPart, OutputPart, CoverPart, LatchPart, UsePart, Line, NamedControl, input_line, output_line, piece_line, number_of_line, ordered_lines, with_place, with_places, next_place, lines_of_model, is_use, in_order, through, at_first, after, is_left, IsSubstituted, words_on, signals_of, with_signals, size_in, size_of, is_over, Use, use_on, uses_of, KeepsRules, Clocked, control_at, control_on, control_is, controls_of, AreOneControl, input_on, output_on, cover_on, latch_on, printed, IsReadFrom, IsNetlistOf}
use Rattle.design_flatten.proofs.SubstitutionLemmas.{one_design}
use Rattle.design_blif.specs.declared.head.Head.TheVariants as head
use Rattle.design_blif.specs.Grammar.{Statement, kind_of, statement_signals, names_of, inputs_on, outputs_on, inputs_of, outputs_of, clocks_of, cover_of, part_on, parts_of}
use Rattle.design_laws.proofs.AscendingLemmas.{Ascend, statement_number}
use Rattle.design_laws.proofs.OrderedLemmas.{Each, each-append, sum-cons, in_turn}
use Rattle.design_laws.proofs.NumberLemmas.{Has, has_words, sig, with_sigs, printed_names}
use Rattle.design_laws.proofs.LineLemmas.{IsFine, KeepsTo, HasControl, IsNoUse, said, in_lines, out_lines, piece_lines, out_through, here, words_said, inputs_said, outputs_said, covers_said, latches_said, no_use, ins_stand, outs_stand, pieces_stand, controls_said}

-- ---- lists

map_flat : {S A B : Type 0} (f : A → B) (g : S → List A) (ss : List S) → map f (flat_map g ss) ≡ flat_map (λ s. map f (g s)) ss
map_flat f g [] = refl
map_flat f g (s ∷ ss) = map-append f (g s) (flat_map g ss) ∙ ap (λ x. map f (g s) ++ x) (map_flat f g ss)

flat_flat : {S A B : Type 0} (f : A → List B) (g : S → List A) (ss : List S) → flat_map f (flat_map g ss) ≡ flat_map (λ s. flat_map f (g s)) ss
flat_flat f g [] = refl
flat_flat f g (s ∷ ss) = flat_map-append f (g s) (flat_map g ss) ∙ ap (λ x. flat_map f (g s) ++ x) (flat_flat f g ss)

alike : {S A : Type 0} (f g : S → List A) (ss : List S) → Each (λ s. f s ≡ g s) ss → flat_map f ss ≡ flat_map g ss
alike f g [] all = refl
alike f g (s ∷ ss) all = λ i. all.0 i ++ alike f g ss all.1 i

each_flat : {S A : Type 0} (P : A → Type 0) (f : S → List A) (ss : List S) → Each (λ s. Each P (f s)) ss → Each P (flat_map f ss)
each_flat P f [] all = tt
each_flat P f (s ∷ ss) all = each-append P (f s) (flat_map f ss) all.0 (each_flat P f ss all.1)

each_left : {X : Type 0} (P : X → Type 0) (xs ys : List X) → Each P (xs ++ ys) → Each P xs
each_left P [] ys all = tt
each_left P (x ∷ xs) ys all = (all.0, each_left P xs ys all.1)

each_right : {X : Type 0} (P : X → Type 0) (xs ys : List X) → Each P (xs ++ ys) → Each P ys
each_right P [] ys all = all
each_right P (x ∷ xs) ys all = each_right P xs ys all.1

apart : {S X : Type 0} (P : X → Type 0) (f : S → List X) (ss : List S) → Each P (flat_map f ss) → Each (λ s. Each P (f s)) ss
apart P f [] all = tt
apart P f (s ∷ ss) all = (each_left P (f s) (flat_map f ss) all, apart P f ss (each_right P (f s) (flat_map f ss) all))

both : {S : Type 0} (P Q R : S → Type 0) → ((s : S) → P s → Q s → R s) → (ss : List S) → Each P ss → Each Q ss → Each R ss
both P Q R f [] a b = tt
both P Q R f (s ∷ ss) a b = (f s a.0 b.0, both P Q R f ss a.1 b.1)

one_by_one : {S : Type 0} (P R : S → Type 0) → ((s : S) → P s → R s) → (ss : List S) → Each P ss → Each R ss
one_by_one P R f [] a = tt
one_by_one P R f (s ∷ ss) a = (f s a.0, one_by_one P R f ss a.1)

-- ---- lines that use no model

same_part : (k : ℕ) (p : Part ℕ) → is_use p ≡ false → with_place k p ≡ p
same_part k (InputPart s) e = refl
same_part k (OutputPart s) e = refl
same_part k (CoverPart out ins rows off) e = refl
same_part k (LatchPart from out init control) e = refl
same_part k (UsePart m pairs way) e = absurd cc

places_stay : (names : List (List ℕ)) (k : ℕ) (ls : List (Line ℕ)) → Each (IsNoUse names) ls → with_places k ls ≡ ls
places_stay names k [] all = refl
places_stay names k (l ∷ ls) all = λ i. record { number = l.number; part = same_part k l.part all.0 i } ∷ places_stay names (next_place k l.part) ls all.1 i

part_not_left : (names : List (List ℕ)) (n : ℕ) (p : Part ℕ) → is_use p ≡ false → is_use (out_through names (record { number = n; part = p })).part ≡ false
part_not_left names n (InputPart s) e = refl
part_not_left names n (OutputPart s) e = refl
part_not_left names n (CoverPart out ins rows off) e = refl
part_not_left names n (LatchPart from out init control) e = refl
part_not_left names n (UsePart m pairs way) e = absurd cc

none_left_in : (names : List (List ℕ)) (ls : List (Line ℕ)) → Each (IsNoUse names) ls → is_left (map (out_through names) ls) ≡ false
none_left_in names [] all = refl
none_left_in names (l ∷ ls) all = λ i. part_not_left names l.number l.part all.0 i || none_left_in names ls all.1 i

no_uses_on : (names : List (List ℕ)) (name : List ℕ) (h : Head) (s : Statement) → IsFine h s.head.words → flat_map (use_on name) (option_to_list (part_on names h s)) ≡ []
no_uses_on names name head.Subckt s fine = absurd fine
no_uses_on names name head.Names s fine = refl
no_uses_on names name head.Latch s fine = refl
no_uses_on names name _ s fine = refl

-- ---- the characters of rows

part_size : (signals : List Signal) (n : ℕ) (p : Part Signal) → size_in p ≡ sum_by rows_size (cover_on signals (record { number = n; part = p }))
part_size signals n (InputPart s) = refl
part_size signals n (OutputPart s) = refl
part_size signals n (CoverPart out ins rows off) = sym (zero-add (sum_by (λ row. length row + 1) rows))
part_size signals n (LatchPart from out init control) = refl
part_size signals n (UsePart m pairs way) = refl

line_size : (signals : List Signal) (l : Line Signal) → size_in l.part ≡ sum_by rows_size (cover_on signals l)
line_size signals l = part_size signals l.number l.part

sum-append : (xs ys : List Cover) → sum_by rows_size (xs ++ ys) ≡ sum_by rows_size xs + sum_by rows_size ys
sum-append xs ys = sum_by-append rows_size xs ys

lines_size : (signals : List Signal) (ls : List (Line Signal)) → size_of ls ≡ sum_by rows_size (flat_map (cover_on signals) ls)
lines_size signals [] = refl
lines_size signals (l ∷ ls) = sum-cons (λ (x : Line Signal). size_in x.part) l ls ∙ (λ i. line_size signals l i + lines_size signals ls i) ∙ sym (sum-append (cover_on signals l) (flat_map (cover_on signals) ls))

neither : (a b : Bool) → (a || b) ≡ false → (a ≡ false) × (b ≡ false)
neither true b h = absurd cc
neither false b h = (refl, h)

over_parts : (ls : List (Line Signal)) → is_over ls ≡ false → (length (signals_of ls) ≤ 65535) × (size_of ls ≤ 16777216)
over_parts ls h =
    let p = neither (nat_lt 65535 (length (signals_of ls))) (nat_lt 16777216 (size_of ls)) h in
    (ltb-false 65535 (length (signals_of ls)) p.0, ltb-false 16777216 (size_of ls) p.1)

not_over : (ls : List (Line Signal)) → length (signals_of ls) ≤ 65535 → size_of ls ≤ 16777216 → is_over ls ≡ false
not_over ls few small =
    let a : nat_lt 65535 (length (signals_of ls)) ≡ false = le-ltb 65535 (length (signals_of ls)) few in
    let b : nat_lt 16777216 (size_of ls) ≡ false = le-ltb 16777216 (size_of ls) small in
    rw (a, b) refl

-- ---- controls

controls_at : (names : List (List ℕ)) (one : List ℕ) (cs : List Clocked) → Each (HasControl names one) cs → (k : ℕ) → k < length cs → control_at cs k ≡ control_is names (NamedControl one)
controls_at names one [] all k lt = absurd (let no : ⊥ = omega (arith, lt) in no)
controls_at names one (c ∷ cs) all zero lt = all.0
controls_at names one (c ∷ cs) all (suc k) lt = controls_at names one cs all.1 k (omega (arith, lt))

-- ---- the model

module _ (name : List ℕ) (ss : List Statement) (fine : Each (λ s. IsFine (kind_of s.head) s.head.words) ss) (ascends : Ascend statement_number 1 ss) (one : List ℕ) (keeps : Each (λ s. KeepsTo one (kind_of s.head) s.head.words) ss) where
  abbrev names : List (List ℕ)
  names = names_of ss

  abbrev pub the_model : Model
  the_model = record { name = name; names = names; inputs = inputs_of names ss; outputs = outputs_of names ss; clocks = clocks_of ss; pieces = parts_of names ss }

  abbrev models : List Model
  models = the_model ∷ []

  abbrev said_by : Statement → List (Line ℕ)
  said_by s = said names (kind_of s.head) s

  abbrev all_said : List (Line ℕ)
  all_said = flat_map said_by ss

  abbrev lines : List (Line Signal)
  lines = map (out_through names) all_said

  ordered : ordered_lines the_model ≡ all_said
  ordered =
      let a = map_flat input_line (λ s. inputs_on names (kind_of s.head) s.head) ss in
      let b = map_flat output_line (λ s. outputs_on names (kind_of s.head) s.head) ss in
      let c = map_flat piece_line (λ s. option_to_list (part_on names (kind_of s.head) s)) ss in
      (λ i. in_order number_of_line ((a i ++ b i) ++ c i))
      ∙ in_turn number_of_line statement_number (λ s. in_lines names (kind_of s.head) s) (λ s. out_lines names (kind_of s.head) s) (λ s. piece_lines names (kind_of s.head) s) (λ s. ins_stand names (kind_of s.head) s) (λ s. outs_stand names (kind_of s.head) s) (λ s. pieces_stand names (kind_of s.head) s) 1 ss ascends

  no_uses : Each (IsNoUse names) all_said
  no_uses = each_flat (IsNoUse names) said_by ss (one_by_one (λ s. IsFine (kind_of s.head) s.head.words) (λ s. Each (IsNoUse names) (said_by s)) (λ s f. no_use names (kind_of s.head) s f) ss fine)

  in_place : lines_of_model the_model ≡ all_said
  in_place = ap (with_places 0) ordered ∙ places_stay names 0 all_said no_uses

  substituted : IsSubstituted models 0 lines
  unfolding after
  substituted = record { reached = sym (ap (map (through at_first names)) in_place); none_left = none_left_in names all_said no_uses }

  none_used : uses_of models ≡ []
  none_used =
      let one_model : flat_map (use_on name) (parts_of names ss) ≡ [] =
      flat_flat (use_on name) (λ s. option_to_list (part_on names (kind_of s.head) s)) ss
      ∙ alike (λ s. flat_map (use_on name) (option_to_list (part_on names (kind_of s.head) s))) (λ s. []) ss (one_by_one (λ s. IsFine (kind_of s.head) s.head.words) (λ s. flat_map (use_on name) (option_to_list (part_on names (kind_of s.head) s)) ≡ []) (λ s f. no_uses_on names name (kind_of s.head) s f) ss fine)
      ∙ empty ss in
      ap (λ x. x ++ []) one_model
    where
      empty : (xs : List Statement) → flat_map {X = Statement} {A = Use} (λ s. []) xs ≡ []
      empty [] = refl
      empty (x ∷ xs) = empty xs

  no_place : (k : ℕ) → k < length (uses_of models) → ⊥
  no_place k lt = let none : k < 0 = subst (λ us. k < length us) none_used lt in (let no : ⊥ = omega (arith, none) in no)

  rules : KeepsRules models
  rules = record { known = λ k lt. absurd (no_place k lt); given = λ k lt. absurd (no_place k lt); ends = λ k lt r. no_place k lt }

  -- ---- lists over the lines

  over_lines : {A : Type 0} (g : Line Signal → List A) → flat_map g lines ≡ flat_map (λ s. flat_map g (here names (kind_of s.head) s)) ss
  over_lines g = ap (flat_map g) (map_flat (out_through names) said_by ss) ∙ flat_flat g (λ s. here names (kind_of s.head) s) ss

  has_signals : Each (λ s. Each (Has names) (statement_signals s)) ss
  has_signals = apart (Has names) statement_signals ss (has_words (flat_map statement_signals ss) [])

  signals_are : signals_of lines ≡ map (sig names) names
  signals_are =
      ap (with_signals []) (over_lines words_on
      ∙ alike (λ s. flat_map words_on (here names (kind_of s.head) s)) (λ s. map (sig names) (statement_signals s)) ss (one_by_one (λ s. IsFine (kind_of s.head) s.head.words) (λ s. flat_map words_on (here names (kind_of s.head) s) ≡ map (sig names) (statement_signals s)) (λ s f. words_said names (kind_of s.head) s f) ss fine)
      ∙ sym (map_flat (sig names) statement_signals ss))
      ∙ with_sigs names (flat_map statement_signals ss) [] (has_words (flat_map statement_signals ss) []) tt

  named : map (printed models) (signals_of lines) ≡ names
  named = ap (map (printed models)) signals_are ∙ printed_names names the_model refl

  module _ {A : Type 0} (g : Line Signal → List A) (f : Statement → List A) (on : (s : Statement) → IsFine (kind_of s.head) s.head.words → Each (Has names) (statement_signals s) → flat_map g (here names (kind_of s.head) s) ≡ f s) where
    each_list : flat_map g lines ≡ flat_map f ss
    each_list = over_lines g ∙ alike (λ s. flat_map g (here names (kind_of s.head) s)) f ss (both (λ s. IsFine (kind_of s.head) s.head.words) (λ s. Each (Has names) (statement_signals s)) (λ s. flat_map g (here names (kind_of s.head) s) ≡ f s) on ss fine has_signals)

  inputs_are : flat_map (input_on (signals_of lines)) lines ≡ inputs_of names ss
  inputs_are = ap (λ x. flat_map (input_on x) lines) signals_are ∙ each_list (input_on (map (sig names) names)) (λ s. inputs_on names (kind_of s.head) s.head) (λ s f h. inputs_said names (kind_of s.head) s f h)

  outputs_are : flat_map (output_on (signals_of lines)) lines ≡ outputs_of names ss
  outputs_are = ap (λ x. flat_map (output_on x) lines) signals_are ∙ each_list (output_on (map (sig names) names)) (λ s. outputs_on names (kind_of s.head) s.head) (λ s f h. outputs_said names (kind_of s.head) s f h)

  covers_are : flat_map (cover_on (signals_of lines)) lines ≡ covers_of names ss
  covers_are = ap (λ x. flat_map (cover_on x) lines) signals_are ∙ each_list (cover_on (map (sig names) names)) (λ s. option_to_list (cover_of names (kind_of s.head) s)) (λ s f h. covers_said names (kind_of s.head) s f h)

  latches_are : flat_map (latch_on (signals_of lines)) lines ≡ latches_of names ss
  latches_are = ap (λ x. flat_map (latch_on x) lines) signals_are ∙ each_list (latch_on (map (sig names) names)) (λ s. latches_on names (kind_of s.head) s.head) (λ s f h. latches_said names (kind_of s.head) s f h)

  few_are : length (signals_of lines) ≡ length names
  few_are = ap length signals_are ∙ length-map names (sig names)

  size_are : size_of lines ≡ sum_by rows_size (covers_of names ss)
  size_are = lines_size (signals_of lines) lines ∙ ap (sum_by rows_size) covers_are

  one_of_all : AreOneControl (controls_of models lines)
  one_of_all =
      let cs = controls_of models lines in
      let each : Each (HasControl names one) cs = subst (Each (HasControl names one)) (sym (over_lines (control_on names))) (each_flat (HasControl names one) (λ s. flat_map (control_on names) (here names (kind_of s.head) s)) ss (both (λ s. IsFine (kind_of s.head) s.head.words) (λ s. KeepsTo one (kind_of s.head) s.head.words) (λ s. Each (HasControl names one) (flat_map (control_on names) (here names (kind_of s.head) s))) (λ s f k. controls_said names one (kind_of s.head) s f k) ss fine keeps)) in
      λ j k a b. controls_at names one cs each j a ∙ sym (controls_at names one cs each k b)

  -- ---- both ways

  pub spelled_by : (d : NetlistData) → IsNetlistOf models d → IsSpelledBy ss d × (length d.names ≤ 65535) × (sum_by rows_size d.covers ≤ 16777216)
  spelled_by d h =
      let same : h.lines ≡ lines = one_design models h.read.design.replaced 0 h.lines lines h.read.design.substituted substituted in
      let r : IsReadFrom models lines d = subst (λ x. IsReadFrom models x d) same h.read.netlist in
      let within : is_over lines ≡ false = ap is_over (sym same) ∙ h.read.design.within in
      let parts = over_parts lines within in
      let ns : d.names ≡ names = r.names ∙ named in
      let cs : d.covers ≡ covers_of names ss = r.covers ∙ covers_are in (
        record { names = ns; inputs = r.inputs ∙ inputs_are; outputs = r.outputs ∙ outputs_are; covers = cs; latches = r.latches ∙ latches_are },
        omega (arith, parts.0, few_are, ap length ns),
        omega (arith, parts.1, size_are, ap (sum_by rows_size) cs),
      )

  pub is_netlist : (d : NetlistData) → IsSpelledBy ss d → length d.names ≤ 65535 → sum_by rows_size d.covers ≤ 16777216 → IsNetlistOf models d
  is_netlist d s few small =
      let within : is_over lines ≡ false = not_over lines (omega (arith, few, few_are, ap length s.names)) (omega (arith, small, size_are, ap (sum_by rows_size) s.covers)) in
      let most : 0 ≤ 65535 = omega arith in
      record {
        lines = lines;
        read = record {
          rules = rules;
          design = record { replaced = 0; most = most; substituted = substituted; within = within };
          one_control = one_of_all;
          netlist = record { names = s.names ∙ sym named; inputs = s.inputs ∙ sym inputs_are; outputs = s.outputs ∙ sym outputs_are; covers = s.covers ∙ sym covers_are; latches = s.latches ∙ sym latches_are };
        };
      }
