-- What the lines of one statement say.
use Rattle.std.proofs.Common.{option_map, ◌≡◌, ℕ, ◌-◌, ◌<◌, Bool, false, List, [], ◌∷◌, ◌++◌, Option, Some, None, length, map, take, drop, refl, ap, ◌∙◌, arith, suc, zero, slice_index}
use Rattle.design_laws.proofs.Vocabulary.{flat_map, option_to_list, append-nil, Signal, Head, latches_on}
use Rattle.design_flatten.specs.Vocabulary.{NamedControl, InputPart, OutputPart, LatchPart, Line, input_line, output_line, piece_line, is_use, through, at_first, words_on, signal_number, Clocked, control_is, control_on, input_on, output_on, cover_on, latch_on}
use Rattle.design_blif.specs.declared.head.Head.TheVariants as head
use Rattle.design_blif.specs.{Names.name_number, Parts.nth_word, Parts.control_of, Parts.lit_of, Parts.pattern}
use Rattle.design_blif.specs.Grammar.{Statement, port_of, inputs_on, outputs_on, cover_of, lists_off, latch_of, part_on, signals}
use Rattle.design_laws.proofs.OrderedLemmas.{Each, each-append}
use Rattle.design_laws.proofs.NumberLemmas.{Has, sig, sig_number}

-- ---- the last of some words

last_of : (ns : List ℕ) → 0 < length ns → take (length ns - 1) ns ++ slice_index ns (length ns - 1) ∷ [] ≡ ns
last_of [] lt = absurd (let no : ⊥ = omega arith in no)
last_of (n ∷ []) lt = refl
last_of (n ∷ k ∷ ns) lt =
    let some : 0 < length (k ∷ ns) = omega arith in
    let less : length (n ∷ k ∷ ns) - 1 ≡ suc (length (k ∷ ns) - 1) = omega arith in
    rw less (ap (λ x. n ∷ x) (last_of (k ∷ ns) some))

last_in : (P : ℕ → Type 0) (ns : List ℕ) → 0 < length ns → Each P ns → P (slice_index ns (length ns - 1))
last_in P [] lt all = absurd (let no : ⊥ = omega arith in no)
last_in P (n ∷ []) lt all = all.0
last_in P (n ∷ k ∷ ns) lt all =
    let some : 0 < length (k ∷ ns) = omega arith in
    let less : length (n ∷ k ∷ ns) - 1 ≡ suc (length (k ∷ ns) - 1) = omega arith in
    rw less (last_in P (k ∷ ns) some all.1)

each_take : (P : ℕ → Type 0) (n : ℕ) (ns : List ℕ) → Each P ns → Each P (take n ns)
each_take P zero ns all = tt
each_take P (suc n) [] all = tt
each_take P (suc n) (k ∷ ns) all = (all.0, each_take P n ns all.1)

nothing : {X A : Type 0} (xs : List X) → flat_map {X = X} {A = A} (λ x. []) xs ≡ []
nothing [] = refl
nothing (x ∷ xs) = nothing xs

-- a `.names` line has an output, and no line uses a model
abbrev pub IsFine : Head → List (List ℕ) → Type 0
IsFine head.Names words = 0 < length (drop 1 words)
IsFine head.Subckt words = ⊥
IsFine _ words = Unit {0}

-- the control of a latch, if it is a name, is this one
abbrev pub IsThis : List ℕ → Option (List ℕ) → Type 0
IsThis one None = Unit {0}
IsThis one (Some w) = w ≡ one

abbrev pub KeepsTo : List ℕ → Head → List (List ℕ) → Type 0
KeepsTo one head.Latch words = IsThis one (control_of words)
KeepsTo one _ words = Unit {0}

module _ (names : List (List ℕ)) where
  abbrev pub in_lines : Head → Statement → List (Line ℕ)
  in_lines h s = map input_line (inputs_on names h s.head)

  abbrev pub out_lines : Head → Statement → List (Line ℕ)
  out_lines h s = map output_line (outputs_on names h s.head)

  abbrev pub piece_lines : Head → Statement → List (Line ℕ)
  piece_lines h s = map piece_line (option_to_list (part_on names h s))

  -- what a statement says, as lines
  abbrev pub said : Head → Statement → List (Line ℕ)
  said h s = (in_lines h s ++ out_lines h s) ++ piece_lines h s

  abbrev pub out_through : Line ℕ → Line Signal
  out_through l = through at_first names l

  abbrev pub here : Head → Statement → List (Line Signal)
  here h s = map out_through (said h s)

  module _ {A : Type 0} (g : Line Signal → List A) (n : ℕ) where
    of_inputs : (words : List (List ℕ)) → flat_map g (map out_through (map input_line (map (port_of names n) words))) ≡ flat_map (λ w. g (record { number = n; part = InputPart (sig names w) })) words
    of_inputs [] = refl
    of_inputs (w ∷ words) = ap (λ x. g (record { number = n; part = InputPart (sig names w) }) ++ x) (of_inputs words)

    of_outputs : (words : List (List ℕ)) → flat_map g (map out_through (map output_line (map (port_of names n) words))) ≡ flat_map (λ w. g (record { number = n; part = OutputPart (sig names w) })) words
    of_outputs [] = refl
    of_outputs (w ∷ words) = ap (λ x. g (record { number = n; part = OutputPart (sig names w) }) ++ x) (of_outputs words)

    on_inputs : (s : Statement) → s.head.number ≡ n → flat_map g (here head.Inputs s) ≡ flat_map (λ w. g (record { number = n; part = InputPart (sig names w) })) (drop 1 s.head.words)
    on_inputs s e =
        let xs = map input_line (map (port_of names s.head.number) (drop 1 s.head.words)) in
        ap (λ x. flat_map g (map out_through x)) (append-nil (xs ++ []) ∙ append-nil xs)
        ∙ ap (λ k. flat_map g (map out_through (map input_line (map (port_of names k) (drop 1 s.head.words))))) e
        ∙ of_inputs (drop 1 s.head.words)

    on_outputs : (s : Statement) → s.head.number ≡ n → flat_map g (here head.Outputs s) ≡ flat_map (λ w. g (record { number = n; part = OutputPart (sig names w) })) (drop 1 s.head.words)
    on_outputs s e =
        let xs = map output_line (map (port_of names s.head.number) (drop 1 s.head.words)) in
        ap (λ x. flat_map g (map out_through x)) (append-nil xs)
        ∙ ap (λ k. flat_map g (map out_through (map output_line (map (port_of names k) (drop 1 s.head.words))))) e
        ∙ of_outputs (drop 1 s.head.words)

  -- ---- the words of a line

  each_word : (words : List (List ℕ)) → flat_map (λ w. sig names w ∷ []) words ≡ map (sig names) words
  each_word [] = refl
  each_word (w ∷ words) = ap (λ x. sig names w ∷ x) (each_word words)

  numbered : (words : List (List ℕ)) → map (λ k. record { used = 0; own = k }) (map (name_number names) words) ≡ map (sig names) words
  numbered [] = refl
  numbered (w ∷ words) = ap (λ x. sig names w ∷ x) (numbered words)

  abbrev own : ℕ → Signal
  own k = record { used = 0; own = k }

  cover_words : (ns : List ℕ) → 0 < length ns → map own (take (length ns - 1) ns) ++ own (slice_index ns (length ns - 1)) ∷ [] ≡ map own ns
  cover_words ns lt = mapped (take (length ns - 1) ns) (slice_index ns (length ns - 1)) ∙ ap (map own) (last_of ns lt)
    where
      mapped : (ks : List ℕ) (k : ℕ) → map own ks ++ own k ∷ [] ≡ map own (ks ++ k ∷ [])
      mapped [] k = refl
      mapped (j ∷ ks) k = ap (λ x. own j ∷ x) (mapped ks k)

  same_length : (words : List (List ℕ)) → length (map (name_number names) words) ≡ length words
  same_length [] = refl
  same_length (w ∷ words) = omega (arith, same_length words)

  pub words_said : (h : Head) (s : Statement) → IsFine h s.head.words → flat_map words_on (here h s) ≡ map (sig names) (signals h s.head.words)
  words_said head.Inputs s fine = on_inputs words_on s.head.number s refl ∙ each_word (drop 1 s.head.words)
  words_said head.Outputs s fine = on_outputs words_on s.head.number s refl ∙ each_word (drop 1 s.head.words)
  words_said head.Names s fine =
      let ns = map (name_number names) (drop 1 s.head.words) in
      append-nil (map own (take (length ns - 1) ns) ++ own (slice_index ns (length ns - 1)) ∷ [])
      ∙ cover_words ns (omega (arith, fine, same_length (drop 1 s.head.words))) ∙ numbered (drop 1 s.head.words)
  words_said head.Latch s fine = refl
  words_said head.Subckt s fine = absurd fine
  words_said _ s fine = refl

  -- ---- the lists of the netlist

  abbrev sigs : List Signal
  sigs = map (sig names) names

  ported : (n : ℕ) (words : List (List ℕ)) → Each (Has names) words → flat_map (λ w. record { signal = signal_number sigs (sig names w); line = n } ∷ []) words ≡ map (port_of names n) words
  ported n [] all = refl
  ported n (w ∷ words) all = λ i. record { signal = sig_number names w all.0 i; line = n } ∷ ported n words all.1 i

  pub inputs_said : (h : Head) (s : Statement) → IsFine h s.head.words → Each (Has names) (signals h s.head.words) → flat_map (input_on sigs) (here h s) ≡ inputs_on names h s.head
  inputs_said head.Inputs s fine all = on_inputs (input_on sigs) s.head.number s refl ∙ ported s.head.number (drop 1 s.head.words) all
  inputs_said head.Outputs s fine all = on_outputs (input_on sigs) s.head.number s refl ∙ nothing (drop 1 s.head.words)
  inputs_said head.Names s fine all = refl
  inputs_said head.Latch s fine all = refl
  inputs_said head.Subckt s fine all = absurd fine
  inputs_said _ s fine all = refl

  pub outputs_said : (h : Head) (s : Statement) → IsFine h s.head.words → Each (Has names) (signals h s.head.words) → flat_map (output_on sigs) (here h s) ≡ outputs_on names h s.head
  outputs_said head.Inputs s fine all = on_inputs (output_on sigs) s.head.number s refl ∙ nothing (drop 1 s.head.words)
  outputs_said head.Outputs s fine all = on_outputs (output_on sigs) s.head.number s refl ∙ ported s.head.number (drop 1 s.head.words) all
  outputs_said head.Names s fine all = refl
  outputs_said head.Latch s fine all = refl
  outputs_said head.Subckt s fine all = absurd fine
  outputs_said _ s fine all = refl

  -- numbers that are a signal's
  abbrev IsKept : ℕ → Type 0
  IsKept k = signal_number sigs (own k) ≡ k

  kept : (words : List (List ℕ)) → Each (Has names) words → Each IsKept (map (name_number names) words)
  kept [] all = tt
  kept (w ∷ words) all = (sig_number names w all.0, kept words all.1)

  all_kept : (ks : List ℕ) → Each IsKept ks → map (signal_number sigs) (map own ks) ≡ ks
  all_kept [] all = refl
  all_kept (k ∷ ks) all = λ i. all.0 i ∷ all_kept ks all.1 i

  pub covers_said : (h : Head) (s : Statement) → IsFine h s.head.words → Each (Has names) (signals h s.head.words) → flat_map (cover_on sigs) (here h s) ≡ option_to_list (cover_of names h s)
  covers_said head.Inputs s fine all = on_inputs (cover_on sigs) s.head.number s refl ∙ nothing (drop 1 s.head.words)
  covers_said head.Outputs s fine all = on_outputs (cover_on sigs) s.head.number s refl ∙ nothing (drop 1 s.head.words)
  covers_said head.Names s fine all =
      let ns = map (name_number names) (drop 1 s.head.words) in
      let ks = kept (drop 1 s.head.words) all in
      let some : 0 < length ns = omega (arith, fine, same_length (drop 1 s.head.words)) in
      let out = last_in IsKept ns some ks in
      let ins = all_kept (take (length ns - 1) ns) (each_take IsKept (length ns - 1) ns ks) in
      let rows = map (λ row. map lit_of (pattern (length (take (length ns - 1) ns)) row.words)) s.rows in
      let off = lists_off (length (take (length ns - 1) ns)) s.rows in
      λ i. record { out = out i; ins = ins i; rows = rows; off = off; line = s.head.number } ∷ []
  covers_said head.Latch s fine all = refl
  covers_said head.Subckt s fine all = absurd fine
  covers_said _ s fine all = refl

  pub latches_said : (h : Head) (s : Statement) → IsFine h s.head.words → Each (Has names) (signals h s.head.words) → flat_map (latch_on sigs) (here h s) ≡ latches_on names h s.head
  latches_said head.Inputs s fine all = on_inputs (latch_on sigs) s.head.number s refl ∙ nothing (drop 1 s.head.words)
  latches_said head.Outputs s fine all = on_outputs (latch_on sigs) s.head.number s refl ∙ nothing (drop 1 s.head.words)
  latches_said head.Names s fine all = refl
  latches_said head.Latch s fine all = λ i. record { from = sig_number names (nth_word 1 s.head.words) all.0 i; out = sig_number names (nth_word 2 s.head.words) all.1.0 i; init = (latch_of names s.head).init; line = s.head.number } ∷ []
  latches_said head.Subckt s fine all = absurd fine
  latches_said _ s fine all = refl

  -- ---- no line uses a model, and all stand at the statement's number

  abbrev pub IsNoUse : Line ℕ → Type 0
  IsNoUse l = is_use l.part ≡ false

  no_use_in : (n : ℕ) (words : List (List ℕ)) → Each IsNoUse (map input_line (map (port_of names n) words))
  no_use_in n [] = tt
  no_use_in n (w ∷ words) = (refl, no_use_in n words)

  no_use_out : (n : ℕ) (words : List (List ℕ)) → Each IsNoUse (map output_line (map (port_of names n) words))
  no_use_out n [] = tt
  no_use_out n (w ∷ words) = (refl, no_use_out n words)

  pub no_use : (h : Head) (s : Statement) → IsFine h s.head.words → Each IsNoUse (said h s)
  no_use head.Inputs s fine = each-append IsNoUse (in_lines head.Inputs s ++ []) [] (each-append IsNoUse (in_lines head.Inputs s) [] (no_use_in s.head.number (drop 1 s.head.words)) tt) tt
  no_use head.Outputs s fine = each-append IsNoUse (out_lines head.Outputs s) [] (no_use_out s.head.number (drop 1 s.head.words)) tt
  no_use head.Names s fine = (refl, tt)
  no_use head.Latch s fine = (refl, tt)
  no_use head.Subckt s fine = absurd fine
  no_use _ s fine = tt

  abbrev pub StandsAt : ℕ → Line ℕ → Type 0
  StandsAt n l = l.number ≡ n

  stand_in : (n : ℕ) (words : List (List ℕ)) → Each (StandsAt n) (map input_line (map (port_of names n) words))
  stand_in n [] = tt
  stand_in n (w ∷ words) = (refl, stand_in n words)

  stand_out : (n : ℕ) (words : List (List ℕ)) → Each (StandsAt n) (map output_line (map (port_of names n) words))
  stand_out n [] = tt
  stand_out n (w ∷ words) = (refl, stand_out n words)

  pub ins_stand : (h : Head) (s : Statement) → Each (StandsAt s.head.number) (in_lines h s)
  ins_stand head.Inputs s = stand_in s.head.number (drop 1 s.head.words)
  ins_stand _ s = tt

  pub outs_stand : (h : Head) (s : Statement) → Each (StandsAt s.head.number) (out_lines h s)
  outs_stand head.Outputs s = stand_out s.head.number (drop 1 s.head.words)
  outs_stand _ s = tt

  pub pieces_stand : (h : Head) (s : Statement) → Each (StandsAt s.head.number) (piece_lines h s)
  pieces_stand head.Names s = (refl, tt)
  pieces_stand head.Latch s = (refl, tt)
  pieces_stand head.Subckt s = (refl, tt)
  pieces_stand _ s = tt

  -- ---- controls

  abbrev pub HasControl : List ℕ → Clocked → Type 0
  HasControl one c = c.control ≡ control_is names (NamedControl one)

  of_control : (one : List ℕ) (n : ℕ) (o : Option (List ℕ)) (from out : ℕ) (init : Bool) → IsThis one o → Each (HasControl one) (flat_map (control_on names) (map out_through (record { number = n; part = LatchPart from out init (option_map NamedControl o) } ∷ [])))
  of_control one n None from out init this = tt
  of_control one n (Some w) from out init this = (ap (λ v. control_is names (NamedControl v)) this, tt)

  none_each : (one : List ℕ) (cs : List Clocked) → cs ≡ [] → Each (HasControl one) cs
  none_each one cs e = rw e tt

  pub controls_said : (one : List ℕ) (h : Head) (s : Statement) → IsFine h s.head.words → KeepsTo one h s.head.words → Each (HasControl one) (flat_map (control_on names) (here h s))
  controls_said one head.Inputs s fine this = none_each one (flat_map (control_on names) (here head.Inputs s)) (on_inputs (control_on names) s.head.number s refl ∙ nothing (drop 1 s.head.words))
  controls_said one head.Outputs s fine this = none_each one (flat_map (control_on names) (here head.Outputs s)) (on_outputs (control_on names) s.head.number s refl ∙ nothing (drop 1 s.head.words))
  controls_said one head.Names s fine this = tt
  controls_said one head.Latch s fine this = of_control one s.head.number (control_of s.head.words) (latch_of names s.head).from (latch_of names s.head).out (latch_of names s.head).init this
  controls_said one head.Subckt s fine this = absurd fine
  controls_said one _ s fine this = tt
