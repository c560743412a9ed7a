-- The outputs of the models that are read are no more than the bytes of their text.
use Rattle.std.proofs.Common.{◌≡◌, ℕ, ◌+◌, ◌-◌, ◌≤◌, ◌&&◌, ◌==◌, Bool, true, false, cond, nat_lt, List, [], ◌∷◌, ◌++◌, Option, Some, None, Result, Ok, Err, length, map, filter, take, drop, slice_index, refl, ap, arith, inl, inr, IfOk}
use Rattle.design_blif.proofs.Vocabulary.{Vec, ltb-true, PortDef, DesignFault, DesignKind, Model, first_model, Head, head_of, with_name}
use Rattle.design_blif.proofs.Vocabulary.{numbers, nth_word, port_defs, fault_of, State, after_head}
use Rattle.std.specs.List.{slice_split, onto_first, position_or_len, suffix_len}
use Rattle.std.proofs.lemmas.List.{length-take, length-drop, length-map, length-append}
use Rattle.base_text.specs.Vocabulary.{is_blank, physical_lines, uncommented, joining_part, words_of, Text, LogicalLine, line_of, texts_of, in_front, onto_next, with_words, logical_lines}
use Rattle.base_text.proofs.LinesLemmas.{cases_part}
use Rattle.design_netlist.specs.declared.fault.DesignKind.TheVariants as kind
use Rattle.design_blif.specs.declared.head.Head.TheVariants as head
use Rattle.design_blif.specs.Runs.{Gives, TextState, text_start, text_after_head, text_after, above_of, last_model, model_from, run, ended, whole}
use Rattle.design_blif.proofs.ModelsLemmas.{run_by}

-- ---- words of a text

abbrev bytes_in : List (List ℕ) → ℕ
bytes_in [] = 0
bytes_in (w ∷ ws) = length w + bytes_in ws

onto_size : (b : ℕ) (ws : List (List ℕ)) → bytes_in (onto_first b ws) ≤ 1 + bytes_in ws
onto_size b [] = omega arith
onto_size b (w ∷ ws) = omega arith

split_size : (p : ℕ → Bool) (xs : List ℕ) → bytes_in (slice_split p xs) ≤ length xs
split_size p [] = omega arith
split_size p (x ∷ xs) = by (p x) (split_size p xs)
  where
    by : (t : Bool) → bytes_in (slice_split p xs) ≤ length xs → bytes_in (cond t ([] ∷ slice_split p xs) (onto_first x (slice_split p xs))) ≤ length (x ∷ xs)
    by true h = omega arith
    by false h = omega (arith, onto_size x (slice_split p xs))

physical_size : (bs : List ℕ) → bytes_in (physical_lines bs) ≤ length bs
unfolding physical_lines
physical_size [] = omega arith
physical_size (b ∷ bs) = by (b == 10) (physical_size bs)
  where
    by : (t : Bool) → bytes_in (physical_lines bs) ≤ length bs → bytes_in (cond t ([] ∷ physical_lines bs) (onto_first b (physical_lines bs))) ≤ length (b ∷ bs)
    by true h = omega arith
    by false h = omega (arith, onto_size b (physical_lines bs))

words_few : (ws : List (List ℕ)) → length (filter (λ w. nat_lt 0 (length w)) ws) ≤ bytes_in ws
words_few [] = omega arith
words_few (w ∷ ws) = by (nat_lt 0 (length w)) refl (words_few ws)
  where
    by : (t : Bool) → nat_lt 0 (length w) ≡ t → length (filter (λ v. nat_lt 0 (length v)) ws) ≤ bytes_in ws → length (cond t (w ∷ filter (λ v. nat_lt 0 (length v)) ws) (filter (λ v. nat_lt 0 (length v)) ws)) ≤ length w + bytes_in ws
    by true e h = let lt = ltb-true _ _ e in omega arith
    by false e h = omega arith

text_words : (text : List ℕ) → length (words_of text) ≤ length text
text_words text = omega (arith, words_few (slice_split is_blank text), split_size is_blank text)

-- ---- logical lines

abbrev size : List Text → ℕ
size [] = 0
size (t ∷ texts) = length t.bytes + size texts

joins_size : (text part : List ℕ) → joining_part text ≡ Some part → length part + 1 ≤ length text
joins_size text part e = by (nat_lt (suffix_len is_blank text) (length text)) (slice_index text (length text - suffix_len is_blank text - 1) == 92) refl e
  where
    by : (a b : Bool) → nat_lt (suffix_len is_blank text) (length text) ≡ a → cond (a && b) (Some (take (length text - suffix_len is_blank text - 1) text)) None ≡ Some part → length part + 1 ≤ length text
    by true true lt h =
        let is : take (length text - suffix_len is_blank text - 1) text ≡ part = cc in
        let less = ltb-true _ _ lt in
        omega (arith, ap length is, length-take (length text - suffix_len is_blank text - 1) text)
    by true false lt h = absurd cc
    by false b lt h = absurd cc

onto_next_size : (n : ℕ) (part : List ℕ) (texts : List Text) → size (onto_next (record { number = n; bytes = part }) texts) ≤ length part + 1 + size texts
onto_next_size n part [] = omega arith
onto_next_size n part (t ∷ texts) = omega (arith, length-append part (32 ∷ t.bytes))

joined_is : (joined : Bool) (bytes part : List ℕ) → cond joined (joining_part bytes) None ≡ Some part → joining_part bytes ≡ Some part
joined_is true bytes part e = e
joined_is false bytes part e = absurd cc

in_front_size : (joined : Bool) (n : ℕ) (bytes : List ℕ) (texts : List Text) → size (in_front joined n bytes texts) ≤ length bytes + size texts
in_front_size joined n bytes texts = elim (cases_part (cond joined (joining_part bytes) None)) [
  | inl e ↦ rw e (let le : length bytes + size texts ≤ length bytes + size texts = omega arith in le)
  | inr h ↦
      let less = joins_size bytes h.0 (joined_is joined bytes h.0 h.1) in
      rw h.1 (let le : size (onto_next (record { number = n; bytes = h.0 }) texts) ≤ length bytes + size texts = omega (arith, onto_next_size n h.0 texts, less) in le)
]

texts_size : (joined : Bool) (n : ℕ) (ps : List (List ℕ)) → size (texts_of joined n ps) ≤ bytes_in ps
unfolding texts_of
texts_size joined n [] = omega arith
texts_size joined n (p ∷ ps) = omega (
  arith,
  in_front_size joined n (uncommented p) (texts_of joined (n + 1) ps),
  texts_size joined (n + 1) ps,
  length-take (position_or_len (λ b. b == 35) p) p,
)

abbrev words_total : List LogicalLine → ℕ
words_total [] = 0
words_total (l ∷ lines) = length l.words + words_total lines

lines_size : (texts : List Text) → words_total (with_words (map line_of texts)) ≤ size texts
lines_size [] = omega arith
lines_size (t ∷ texts) = by (nat_lt 0 (length (words_of t.bytes))) (lines_size texts)
  where
    by : (b : Bool) → words_total (with_words (map line_of texts)) ≤ size texts → words_total (cond b (line_of t ∷ with_words (map line_of texts)) (with_words (map line_of texts))) ≤ length t.bytes + size texts
    by true h = omega (arith, text_words t.bytes)
    by false h = omega arith

words_within : (joined : Bool) (bytes : List ℕ) → words_total (logical_lines joined bytes) ≤ length bytes
words_within joined bytes = omega (arith, lines_size (texts_of joined 1 (physical_lines bytes)), texts_size joined 1 (physical_lines bytes), physical_size bytes)

-- ---- outputs

length-numbers : (names words : List (List ℕ)) → length (numbers names words) ≡ length words
length-numbers names [] = refl
length-numbers names (w ∷ words) = omega (arith, length-numbers (with_name names w) words)

outputs_few : (names words : List (List ℕ)) (line : ℕ) → length (port_defs names (drop 1 words) line) ≤ length words
outputs_few names words line =
    let port : ℕ → PortDef = λ k. record { signal = k; line = line } in
    omega (arith, length-map (numbers names (drop 1 words)) port, length-numbers names (drop 1 words), length-drop 1 words)

abbrev outputs_in : List Model → ℕ
outputs_in [] = 0
outputs_in (m ∷ ms) = length m.outputs + outputs_in ms

outputs-append : (ms ns : List Model) → outputs_in (ms ++ ns) ≡ outputs_in ms + outputs_in ns
outputs-append [] ns = omega arith
outputs-append (m ∷ ms) ns = omega (arith, outputs-append ms ns)

after_few : (s : State) (h : Head) (line : ℕ) (words : List (List ℕ)) → length (after_head s h line words).outputs ≤ length s.outputs + length words
after_few s head.Model line words = omega arith
after_few s head.Inputs line words = omega arith
after_few s head.Outputs line words = omega (arith, length-append s.outputs (port_defs s.seen.names (drop 1 words) line), outputs_few s.seen.names words line)
after_few s head.Names line words = omega arith
after_few s head.Latch line words = omega arith
after_few s head.End line words = omega arith
after_few s head.Clock line words = omega arith
after_few s head.Subckt line words = omega arith
after_few s head.LeftOut line words = omega arith
after_few s head.Passed line words = omega arith
after_few s head.Unknown line words = omega arith
after_few s head.Row line words = omega arith

abbrev total : TextState → ℕ
total t = outputs_in t.done + length t.this.outputs

last_few : (t : TextState) → outputs_in (t.done ++ last_model t) ≤ total t
last_few t = by t.this.seen.begun
  where
    by : (b : Bool) → outputs_in (t.done ++ cond b (model_from t.name t.this ∷ []) []) ≤ total t
    by true = omega (arith, outputs-append t.done (model_from t.name t.this ∷ []))
    by false = omega (arith, outputs-append t.done [])

text_few : (t : TextState) (l : LogicalLine) → total (text_after t l) ≤ total t + length l.words
text_few t l = by (head_of (nth_word 0 l.words))
  where
    by : (h : Head) → total (text_after_head t h l.number l.words) ≤ total t + length l.words
    by head.Model = omega (arith, last_few t)
    by head.Inputs = omega (arith, after_few t.this head.Inputs l.number l.words)
    by head.Outputs = omega (arith, after_few t.this head.Outputs l.number l.words)
    by head.Names = omega (arith, after_few t.this head.Names l.number l.words)
    by head.Latch = omega (arith, after_few t.this head.Latch l.number l.words)
    by head.End = omega (arith, after_few t.this head.End l.number l.words)
    by head.Clock = omega (arith, after_few t.this head.Clock l.number l.words)
    by head.Subckt = omega (arith, after_few t.this head.Subckt l.number l.words)
    by head.LeftOut = omega (arith, after_few t.this head.LeftOut l.number l.words)
    by head.Passed = omega (arith, after_few t.this head.Passed l.number l.words)
    by head.Unknown = omega (arith, after_few t.this head.Unknown l.number l.words)
    by head.Row = omega (arith, after_few t.this head.Row l.number l.words)

run_few : (lines : List LogicalLine) (t u : TextState) → run t lines ≡ Ok u → total u ≤ total t + words_total lines
run_few = run_by (λ t lines u. total u ≤ total t + words_total lines) (λ t. omega arith) (λ t u l lines none below. omega (arith, below, text_few t l))

abbrev no_line : ℕ × DesignKind
no_line = (0, kind.NoModel)

whole_few : (lines : List LogicalLine) (models : List Model) → whole lines ≡ Ok models → outputs_in models ≤ words_total lines
whole_few lines models e = by (run text_start lines) refl e
  where
    by : (r : Result TextState (ℕ × DesignKind)) → run text_start lines ≡ r → ended r ≡ Ok models → outputs_in models ≤ words_total lines
    by (Err f) is h = absurd cc
    by (Ok t) is h = with_begun t.this.seen.begun h
      where
        few : total t ≤ total text_start + words_total lines
        few = run_few lines text_start t is

        with_begun : (b : Bool) → cond b (Ok (t.done ++ last_model t)) (Err no_line) ≡ Ok models → outputs_in models ≤ words_total lines
        with_begun true h = let same : t.done ++ last_model t ≡ models = cc in omega (arith, ap outputs_in same, last_few t, few)
        with_begun false h = absurd cc

first_few : (ms : List Model) → length (first_model ms).outputs ≤ outputs_in ms
first_few [] = omega arith
first_few (m ∷ ms) = omega arith

pub few_outputs : (bytes : List ℕ) (r : Result (Vec Model) DesignFault) → Gives (λ v. v.items) r (whole (logical_lines true bytes)) → IfOk r (λ v. length (first_model v.items).outputs ≤ length bytes)
few_outputs bytes (Ok v) h = omega (arith, first_few v.items, whole_few (logical_lines true bytes) v.items h, words_within true bytes)
few_outputs bytes (Err e) h = tt
