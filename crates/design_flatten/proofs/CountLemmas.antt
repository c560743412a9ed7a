-- How often words have a signal, which no order changes.
use Rattle.std.proofs.Common.{◌≡◌, ℕ, zero, suc, ◌+◌, ◌<◌, ◌≤◌, cond, eqb, List, [], ◌∷◌, ◌++◌, length, map, refl, sym, ap, ◌∙◌, arith, inl, inr, ◌⊎◌}
use Rattle.design_flatten.proofs.Vocabulary.{flat_map, NetlistData, Cover, LatchDef, PortDef, not_itself, Signal, Model}
use Rattle.std.proofs.lemmas.Bool.{cases_eq, cases_lt, eq-eqb, ne_eqb}
use Rattle.design_netlist.specs.Vocabulary.{IsBefore, word, signal_at, line_at, cover_drive, latch_drive, cover_reads, latch_read, drive_words, reads_of, IsDoubledIn}
use Rattle.design_flatten.specs.Vocabulary.{Part, InputPart, OutputPart, CoverPart, LatchPart, UsePart, Line, signal_number, signals_of, input_on, output_on, cover_on, latch_on, IsReadFrom, drive_on, read_on, drives_in, reads_in, IsUndrivenIn}

abbrev has : ℕ → PortDef → ℕ
has s w = cond (eqb w.signal s) 1 0

-- how many words have the signal
abbrev pub count : ℕ → List PortDef → ℕ
count s [] = 0
count s (w ∷ words) = has s w + count s words

has_it : (s : ℕ) (w : PortDef) → w.signal ≡ s → has s w ≡ 1
has_it s w e = ap (λ b. cond b 1 0) (eq-eqb w.signal s e)

has_other : (s : ℕ) (w : PortDef) → (w.signal ≡ s → ⊥) → has s w ≡ 0
has_other s w e = ap (λ b. cond b 1 0) (ne_eqb w.signal s e)

pub count-append : (s : ℕ) (xs ys : List PortDef) → count s (xs ++ ys) ≡ count s xs + count s ys
count-append s [] ys = omega arith
count-append s (x ∷ xs) ys = omega (arith, count-append s xs ys)

-- ---- places and counts

pub one_of : (s k : ℕ) (words : List PortDef) → k < length words → signal_at words k ≡ s → 1 ≤ count s words
one_of s k [] lk e = absurd (let no : ⊥ = omega arith in no)
one_of s zero (w ∷ words) lk e = omega (arith, has_it s w e)
one_of s (suc k) (w ∷ words) lk e = omega (arith, one_of s k words (omega arith) e)

two_of : (s j k : ℕ) (words : List PortDef) → j < k → k < length words → signal_at words j ≡ s → signal_at words k ≡ s → 2 ≤ count s words
two_of s j k [] lt lk d e = absurd (let no : ⊥ = omega arith in no)
two_of s j zero (w ∷ words) lt lk d e = absurd (let no : ⊥ = omega arith in no)
two_of s zero (suc k) (w ∷ words) lt lk d e = omega (arith, has_it s w d, one_of s k words (omega arith) e)
two_of s (suc j) (suc k) (w ∷ words) lt lk d e = omega (arith, two_of s j k words (omega arith) (omega arith) d e)

pub find_one : (s : ℕ) (words : List PortDef) → 1 ≤ count s words → (k : ℕ) × (k < length words) × (signal_at words k ≡ s)
find_one s [] h = absurd (let no : ⊥ = omega arith in no)
find_one s (w ∷ words) h = elim (cases_eq w.signal s) [
  | inl e ↦ (0, omega arith, e)
  | inr n ↦ let r = find_one s words (omega (arith, has_other s w n)) in let lt = r.1 in (suc r.0, omega arith, r.2)
]

find_two : (s : ℕ) (words : List PortDef) → 2 ≤ count s words → (j k : ℕ) × (j < k) × (k < length words) × (signal_at words j ≡ s) × (signal_at words k ≡ s)
find_two s [] h = absurd (let no : ⊥ = omega arith in no)
find_two s (w ∷ words) h = elim (cases_eq w.signal s) [
  | inl e ↦ let r = find_one s words (omega (arith, has_it s w e)) in let lt = r.1 in (0, suc r.0, omega arith, omega arith, e, r.2)
  | inr n ↦ let r = find_two s words (omega (arith, has_other s w n)) in let lt = r.2 in let lk = r.3 in (suc r.0, suc r.1, omega arith, omega arith, r.4, r.5)
]

-- ---- doubled words

abbrev pub NoneDoubled : List PortDef → Type 0
NoneDoubled words = (k : ℕ) → k < length words → IsDoubledIn words k → ⊥

before_or_after : (words : List PortDef) (j k : ℕ) → j < k → IsBefore (line_at words) j k ⊎ IsBefore (line_at words) k j
before_or_after words j k lt = elim (cases_lt (line_at words k) (line_at words j)) [
  | inl a ↦ inr (inl a)
  | inr le ↦ inl (by (cases_lt (line_at words j) (line_at words k)) le)
]
  where
    by : (line_at words j < line_at words k) ⊎ (line_at words k ≤ line_at words j) → line_at words j ≤ line_at words k → IsBefore (line_at words) j k
    by (inl a) le = inl a
    by (inr a) le = inr (omega arith, lt)

twice : (words : List PortDef) (k : ℕ) → k < length words → IsDoubledIn words k → 2 ≤ count (signal_at words k) words
twice words k lk d = elim (cases_lt d.0 k) [
  | inl lt ↦ two_of (signal_at words k) d.0 k words lt lk d.3 (λ i. signal_at words k)
  | inr le ↦ elim (cases_lt k d.0) [
    | inl lt ↦ two_of (signal_at words k) k d.0 words lt d.1 (λ i. signal_at words k) d.3
    | inr ge ↦
        let same : d.0 ≡ k = omega arith in
        let before : IsBefore (line_at words) k k = rw same at d.2 in
        absurd (not_itself (line_at words) k before)
  ]
]

doubled_from : (words : List PortDef) (s : ℕ) → 2 ≤ count s words → NoneDoubled words → ⊥
doubled_from words s two none =
    let r = find_two s words two in
    let lt = r.2 in
    let lk = r.3 in
    elim (before_or_after words r.0 r.1 lt) [
      | inl b ↦ none r.1 lk (r.0, omega arith, b, r.4 ∙ sym r.5)
      | inr b ↦ none r.0 (omega arith) (r.1, lk, b, r.5 ∙ sym r.4)
    ]

-- words that are as many for each signal
abbrev pub AreAsMany : List PortDef → List PortDef → Type 0
AreAsMany xs ys = (s : ℕ) → count s xs ≡ count s ys

pub swapped : (xs ys : List PortDef) → AreAsMany xs ys → AreAsMany ys xs
swapped xs ys h s = sym (h s)

pub none_doubled : (xs ys : List PortDef) → AreAsMany xs ys → NoneDoubled xs → NoneDoubled ys
none_doubled xs ys same none k lk d =
    let two = twice ys k lk d in
    let e = same (signal_at ys k) in
    doubled_from xs (signal_at ys k) (omega arith) none

-- ---- words that nothing drives

abbrev pub NoneUndriven : List PortDef → List PortDef → Type 0
NoneUndriven drives reads = (k : ℕ) → k < length reads → IsUndrivenIn drives reads k → ⊥

pub none_undriven : (xs ys rs qs : List PortDef) → AreAsMany xs ys → AreAsMany rs qs → NoneUndriven xs rs → NoneUndriven ys qs
none_undriven xs ys rs qs drives reads none k lk undriven =
    let s = signal_at qs k in
    let one : 1 ≤ count s rs = let there = one_of s k qs lk (λ i. signal_at qs k) in let e = reads s in omega arith in
    let r = find_one s rs one in
    none r.0 r.1 (λ d.
    let found : 1 ≤ count s xs = one_of s d.0 xs d.1 (d.2 ∙ r.2) in
    let e = drives s in
    undriven (find_one s ys (omega arith)))

-- ---- the words of a netlist and those of the lines that it is read from

input_words : (signals : List Signal) (n : ℕ) (ins : List Signal) → map (word n) (map (signal_number signals) ins) ≡ map (λ t. word n (signal_number signals t)) ins
input_words signals n [] = refl
input_words signals n (t ∷ ins) = ap (λ ws. word n (signal_number signals t) ∷ ws) (input_words signals n ins)

module _ (signals : List Signal) (s : ℕ) where
  abbrev inputs : List (Line Signal) → List PortDef
  inputs lines = flat_map (input_on signals) lines

  abbrev outputs : List (Line Signal) → List PortDef
  outputs lines = flat_map (output_on signals) lines

  abbrev covers : List (Line Signal) → List Cover
  covers lines = flat_map (cover_on signals) lines

  abbrev latches : List (Line Signal) → List LatchDef
  latches lines = flat_map (latch_on signals) lines

  -- words of ports, of covers and of latches are as many as those on the lines
  abbrev AreCounted : (List (Line Signal) → List PortDef) → (List Cover → List PortDef) → (List LatchDef → List PortDef) → (Line Signal → List PortDef) → List (Line Signal) → Type 0
  AreCounted of_ports of_covers of_latches on lines = count s (of_ports lines) + (count s (of_covers (covers lines)) + count s (of_latches (latches lines))) ≡ count s (flat_map on lines)

  drives_are : (lines : List (Line Signal)) → AreCounted inputs (map cover_drive) (map latch_drive) (drive_on signals) lines
  drives_are [] = omega arith
  drives_are (l ∷ lines) = by l.part (drives_are lines)
    where
      by : (p : Part Signal) → AreCounted inputs (map cover_drive) (map latch_drive) (drive_on signals) lines → AreCounted inputs (map cover_drive) (map latch_drive) (drive_on signals) (record { number = l.number; part = p } ∷ lines)
      by (InputPart t) e = omega arith
      by (OutputPart t) e = e
      by (CoverPart out ins rows off) e = omega arith
      by (LatchPart from out init control) e = omega arith
      by (UsePart m pairs way) e = e

  reads_are : (lines : List (Line Signal)) → AreCounted outputs (flat_map cover_reads) (map latch_read) (read_on signals) lines
  reads_are [] = omega arith
  reads_are (l ∷ lines) = by l.part (reads_are lines)
    where
      by : (p : Part Signal) → AreCounted outputs (flat_map cover_reads) (map latch_read) (read_on signals) lines → AreCounted outputs (flat_map cover_reads) (map latch_read) (read_on signals) (record { number = l.number; part = p } ∷ lines)
      by (InputPart t) e = e
      by (OutputPart t) e = omega arith
      by (CoverPart out ins rows off) e = omega (
        arith,
        count-append s (map (word l.number) (map (signal_number signals) ins)) (flat_map cover_reads (covers lines)),
        count-append s (map (λ t. word l.number (signal_number signals t)) ins) (flat_map (read_on signals) lines),
        ap (count s) (input_words signals l.number ins),
      )
      by (LatchPart from out init control) e = omega arith
      by (UsePart m pairs way) e = e

-- words in three lists are as many as in the one list
in_three : (s : ℕ) (all xs ys zs words : List PortDef) → all ≡ (xs ++ ys) ++ zs → count s xs + (count s ys + count s zs) ≡ count s words → count s all ≡ count s words
in_three s all xs ys zs words e h = omega (arith, ap (count s) e, count-append s (xs ++ ys) zs, count-append s xs ys, h)

module _ (ms : List Model) (lines : List (Line Signal)) (d : NetlistData) (h : IsReadFrom ms lines d) where
  abbrev S : List Signal
  S = signals_of lines

  pub drives_as_many : AreAsMany (drive_words d) (drives_in lines)
  drives_as_many s =
      in_three s (drive_words d) (inputs S s lines) (map cover_drive (covers S s lines)) (map latch_drive (latches S s lines)) (drives_in lines)
      (λ i. (h.inputs i ++ map cover_drive (h.covers i)) ++ map latch_drive (h.latches i)) (drives_are S s lines)

  pub reads_as_many : AreAsMany (reads_of d) (reads_in lines)
  reads_as_many s =
      in_three s (reads_of d) (outputs S s lines) (flat_map cover_reads (covers S s lines)) (map latch_read (latches S s lines)) (reads_in lines)
      (λ i. (h.outputs i ++ flat_map cover_reads (h.covers i)) ++ map latch_read (h.latches i)) (reads_are S s lines)
