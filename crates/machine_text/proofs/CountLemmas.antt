-- Which words are counts, and which counts make a shape.
use Rattle.std.proofs.Common.{◌≡◌, ℕ, zero, suc, get_or, ◌+◌, ◌<◌, ◌≤◌, ◌^◌, Bool, true, false, not, ◌==◌, ◌&&◌, nat_lt, nat_le, List, [], ◌∷◌, Option, Some, None, length, map, refl, sym, ap, ◌∙◌, arith, inl, inr, ◌⊎◌, if◌then◌else◌, Bor, take, take_all}
use Rattle.machine_text.proofs.Vocabulary.{set, decimal, list_all, All, bytes_eq, bytes_eq-Decides, MachineKind, Said, PassesLimit, IsForm}
use Rattle.machine_text.proofs.Vocabulary.{KeepsLimits, Counts, small_within, within_small}
use Rattle.std.proofs.lemmas.Bool.{cases_eq, cases_Bool, and_parts, and_cases, and_from, or_cases, or_left, or_right, or_parts, false≢true}
use Rattle.std.proofs.lemmas.Bool.{ltb-true, lt-ltb, leb-true, leb-false, le-leb, eq-eqb, eqb-true, ne_eqb, not-true, not-false, not_from_false}
use Rattle.std.proofs.lemmas.Grind.{same_number_lists, get_or_default_zero}
use Rattle.std.proofs.lemmas.List.{length-map, get_or-map, get_or-set_same, get_or-set_other, Folds.list_all_at, Folds.list_all_more}
use Rattle.std.specs.Bool.{Decides}
use Rattle.std.proofs.lemmas.Bool.Decides.{Decides-and, Decides-ltb, Decides-by_and}
use Rattle.base_text.proofs.NumberLemmas.{read_on-decimal}
use Rattle.machine_text.specs.declared.kind.MachineKind.TheVariants as kind
use Rattle.machine_text.specs.Reading.{value_of, is_count, is_form, counts_fault, form_fault, is_full, is_within, is_shape, keeps_large}
use Rattle.machine_shape.specs.declared.{Field.Field, LimitedCount.LimitedCount, ShapeFault.TheVariants.Zero, ShapeFault.TheVariants.Limit}
use Rattle.machine_shape.specs.declared.Field.TheVariants as field
use Rattle.machine_shape.specs.declared.LimitedCount.TheVariants as which
use Rattle.machine_shape.specs.declared.ShapeFault.{ShapeFault}
use Rattle.machine_shape.specs.Limits.{HasZero, IsShapeFault, IsSmallFault, MakeShape, MakeSmall, amount_of, is_small, most_of_large}

abbrev IsCount : List ℕ → Type 0
IsCount w = (w ≡ decimal (value_of w)) × ((0 < value_of w) × (value_of w < 65536))

count_decides : (w : List ℕ) → Decides (is_count w) (IsCount w)
count_decides w = Decides-and (bytes_eq w (decimal (value_of w))) (nat_lt 0 (value_of w) && nat_lt (value_of w) 65536) (bytes_eq-Decides w (decimal (value_of w))) (Decides-and (nat_lt 0 (value_of w)) (nat_lt (value_of w) 65536) (Decides-ltb 0 (value_of w)) (Decides-ltb (value_of w) 65536))

pub value-decimal : (w : List ℕ) (n : ℕ) → n < 2 ^ 64 → w ≡ decimal n → value_of w ≡ n
value-decimal w n fits e = ap value_of e ∙ read_on-decimal n fits

pub is_count-decimal : (w : List ℕ) (n : ℕ) → w ≡ decimal n → 0 < n → n ≤ 65535 → is_count w ≡ true
is_count-decimal w n e some small =
    let value : value_of w ≡ n = value-decimal w n (omega arith) e in
    (count_decides w).1 (e ∙ ap decimal (sym value), (omega arith, omega arith))

pub count_parts : (w : List ℕ) → is_count w ≡ true → IsCount w
count_parts w h = (count_decides w).0 h

not_count : (w : List ℕ) → (IsCount w → ⊥) → is_count w ≡ false
not_count w bad = elim (cases_Bool (is_count w)) [ inl h ↦ absurd (bad (count_parts w h)) | inr h ↦ h ]

not_form : (w : List ℕ) → (is_form w ≡ true → ⊥) → is_form w ≡ false
not_form w bad = elim (cases_Bool (is_form w)) [ inl h ↦ absurd (bad h) | inr h ↦ h ]

-- the fault of one word, by what reading its number gave
pub no_number : (w : List ℕ) → ((n : ℕ) → n ≤ 65535 → w ≡ decimal n → ⊥) → counts_fault (w ∷ []) ≡ Some kind.Number
no_number w none = ap (λ t. if t && true then None else Some kind.Number) (not_count w (λ p. none (value_of w) (omega (arith, p.1.1)) p.0))

pub zero_number : (w : List ℕ) (n : ℕ) → w ≡ decimal n → n ≡ 0 → counts_fault (w ∷ []) ≡ Some kind.Number
zero_number w n e none = ap (λ t. if t && true then None else Some kind.Number) (not_count w (λ p. let value : value_of w ≡ n = value-decimal w n (omega arith) e in omega (arith, p.1.0)))

pub one_number : (w : List ℕ) (n : ℕ) → w ≡ decimal n → n ≤ 65535 → (n ≡ 0 → ⊥) → (counts_fault (w ∷ []) ≡ None) × (n ≡ value_of w)
one_number w n e small some =
    (ap (λ t. if t && true then None else Some kind.Number) (is_count-decimal w n e (omega arith) small), sym (value-decimal w n (omega arith) e))

-- ---- some words

abbrev if_counts : Bool → Option MachineKind
if_counts t = if t then None else Some kind.Number

count_from : (w : List ℕ) → counts_fault (w ∷ []) ≡ None → is_count w ≡ true
count_from w h = elim (cases_Bool (is_count w)) [ inl is ↦ is | inr other ↦ let k : Some kind.Number ≡ None = sym (ap (λ t. if_counts (t && true)) other) ∙ h in absurd cc ]

fault_from : (w : List ℕ) (k : MachineKind) → counts_fault (w ∷ []) ≡ Some k → (is_count w ≡ false) × (k ≡ kind.Number)
fault_from w k h =
    elim (cases_Bool (is_count w)) [
      | inl is ↦ let e : None ≡ Some k = sym (ap (λ t. if_counts (t && true)) is) ∙ h in absurd cc
      | inr other ↦ let e : Some kind.Number ≡ Some k = sym (ap (λ t. if_counts (t && true)) other) ∙ h in (other, cc)
    ]

module _ (words : List (Bor (List ℕ))) (i : ℕ) (d : Bor (List ℕ)) (inside : i < length words) where
  abbrev all : List (List ℕ)
  all = map (λ w. w.now) words

  this_word : get_or all i [] ≡ (get_or words i d).now
  this_word = get_or-map (λ w. w.now) words i d [] inside

  long : i < length all
  long = omega (arith, length-map words (λ (w : Bor (List ℕ)). w.now))

  pub fault_at : (k : MachineKind) → counts_fault ((get_or words i d).now ∷ []) ≡ Some k → counts_fault all ≡ Some k
  fault_at k h =
      let this = fault_from (get_or words i d).now k h in
      ap if_counts (list_all_at is_count all i [] long (ap is_count this_word ∙ this.0)) ∙ ap Some (sym this.1)

  pub sound_more : list_all is_count (take i all) ≡ true → counts_fault ((get_or words i d).now ∷ []) ≡ None → list_all is_count (take (i + 1) all) ≡ true
  sound_more before h = list_all_more is_count all i [] long ∙ and_from (list_all is_count (take i all)) (is_count (get_or all i [])) before (ap is_count this_word ∙ count_from (get_or words i d).now h)

  pub values_more : (counts : List ℕ) (n : ℕ) → length counts ≡ length words → ((k : ℕ) → k < i → get_or counts k 0 ≡ value_of (get_or all k [])) → n ≡ value_of (get_or words i d).now
      → (k : ℕ) → k < i + 1 → get_or (set counts i n) k 0 ≡ value_of (get_or all k [])
  values_more counts n size before this k lt =
      elim (cases_eq k i) [
        | inl e ↦ ap (λ j. get_or (set counts i n) j 0) e ∙ get_or-set_same counts i n 0 (omega arith) ∙ this ∙ ap value_of (sym this_word) ∙ ap (λ j. value_of (get_or all j [])) (sym e)
        | inr other ↦ get_or-set_other counts i k n 0 other ∙ before k (omega arith)
      ]

pub values_all : (counts : List ℕ) (ws : List (List ℕ)) → length counts ≡ length ws → ((k : ℕ) → k < length ws → get_or counts k 0 ≡ value_of (get_or ws k [])) → counts ≡ map value_of ws
values_all counts ws size each =
    same_number_lists counts (map value_of ws) (size ∙ sym (length-map ws value_of))
    (λ k lt. each k (omega arith) ∙ sym (get_or-map value_of ws k [] 0 (omega arith)))

pub sound_all : (ws : List (List ℕ)) (i : ℕ) → length ws ≤ i → list_all is_count (take i ws) ≡ true → counts_fault ws ≡ None
sound_all ws i le h = ap if_counts (sym (ap (list_all is_count) (take_all i ws le)) ∙ h)

-- ---- forms

one_or_two : (n : ℕ) → 0 < n → n < 3 → IsForm n
one_or_two zero some few = absurd (omega arith)
one_or_two (suc zero) some few = inl refl
one_or_two (suc (suc zero)) some few = inr refl
one_or_two (suc (suc (suc n))) some few = absurd (omega arith)

pub few_form : (n : ℕ) → IsForm n → (0 < n) × (n < 3)
few_form n (inl e) = (omega (arith, e), omega (arith, e))
few_form n (inr e) = (omega (arith, e), omega (arith, e))

-- what a word is that is taken for the number of a form
pub form_parts : (w : List ℕ) → is_form w ≡ true → (is_count w ≡ true) × (w ≡ decimal (value_of w)) × IsForm (value_of w)
form_parts w h =
    let parts = and_parts (is_count w) (nat_lt (value_of w) 3) h in
    let this = count_parts w parts.0 in
    (parts.0, this.0, one_or_two (value_of w) this.1.0 (ltb-true (value_of w) 3 parts.1))

pub form_word : (w : List ℕ) (n : ℕ) → IsForm n → w ≡ decimal n → is_form w ≡ true
form_word w n known is =
    let few = few_form n known in
    let value : value_of w ≡ n = value-decimal w n (omega (arith, few.1)) is in
    and_from (is_count w) (nat_lt (value_of w) 3) (is_count-decimal w n is few.0 (omega (arith, few.1))) (lt-ltb (value_of w) 3 (omega (arith, value, few.1)))

-- the fault of a word that is to be the number of a form, by what reading it as a count gave
pub form_read : (w : List ℕ) (n : ℕ) → counts_fault (w ∷ []) ≡ None → n ≡ value_of w → n < 3 → form_fault w ≡ None
form_read w n sound value few =
    ap (λ t. if t then None else Some kind.Word) (and_from (is_count w) (nat_lt (value_of w) 3) (count_from w sound) (lt-ltb (value_of w) 3 (omega (arith, value, few))))

pub form_over : (w : List ℕ) (n : ℕ) → n ≡ value_of w → (n < 3 → ⊥) → form_fault w ≡ Some kind.Word
form_over w n value over =
    ap (λ t. if t then None else Some kind.Word) (not_form w (λ is. over (let few = (few_form (value_of w) (form_parts w is).2).1 in omega (arith, value, few))))

pub form_uncounted : (w : List ℕ) (k : MachineKind) → counts_fault (w ∷ []) ≡ Some k → form_fault w ≡ Some kind.Word
form_uncounted w k fault =
    ap (λ t. if t then None else Some kind.Word) (not_form w (λ is. false≢true (sym (fault_from w k fault).0 ∙ (form_parts w is).0)))

-- ---- shapes

some_decides : (xs : List ℕ) → Decides (list_all (nat_lt 0) xs) (All (λ n. 0 < n) xs)
some_decides xs = Decides-by_and (nat_lt 0) (λ n. 0 < n) (list_all (nat_lt 0)) (λ n. Decides-ltb 0 n) refl (λ _ _. refl) xs

-- the limits of shapes that aren't small
large_keeps : (c : Counts) → keeps_large c ≡ true → (kind : LimitedCount) → amount_of c kind ≤ most_of_large kind
large_keeps c h = by
  where
    one : (nat_le (amount_of c which.Tables) 65536 ≡ true) × ((nat_le (amount_of c which.Wires) 1310720 && (nat_le (amount_of c which.Crosspoints) 268435456 && nat_le (amount_of c which.Pins) 8192)) ≡ true)
    one = and_parts (nat_le (amount_of c which.Tables) 65536) (nat_le (amount_of c which.Wires) 1310720 && (nat_le (amount_of c which.Crosspoints) 268435456 && nat_le (amount_of c which.Pins) 8192)) h

    two : (nat_le (amount_of c which.Wires) 1310720 ≡ true) × ((nat_le (amount_of c which.Crosspoints) 268435456 && nat_le (amount_of c which.Pins) 8192) ≡ true)
    two = and_parts (nat_le (amount_of c which.Wires) 1310720) (nat_le (amount_of c which.Crosspoints) 268435456 && nat_le (amount_of c which.Pins) 8192) one.1

    three : (nat_le (amount_of c which.Crosspoints) 268435456 ≡ true) × (nat_le (amount_of c which.Pins) 8192 ≡ true)
    three = and_parts (nat_le (amount_of c which.Crosspoints) 268435456) (nat_le (amount_of c which.Pins) 8192) two.1

    by : (kind : LimitedCount) → amount_of c kind ≤ most_of_large kind
    by which.Tables = leb-true (amount_of c which.Tables) 65536 one.0
    by which.Wires = leb-true (amount_of c which.Wires) 1310720 two.0
    by which.Crosspoints = leb-true (amount_of c which.Crosspoints) 268435456 three.0
    by which.Pins = leb-true (amount_of c which.Pins) 8192 three.1

large_from : (c : Counts) → ((kind : LimitedCount) → amount_of c kind ≤ most_of_large kind) → keeps_large c ≡ true
large_from c h =
    and_from (nat_le (amount_of c which.Tables) 65536) (nat_le (amount_of c which.Wires) 1310720 && (nat_le (amount_of c which.Crosspoints) 268435456 && nat_le (amount_of c which.Pins) 8192)) (le-leb (amount_of c which.Tables) 65536 (h which.Tables))
    (and_from (nat_le (amount_of c which.Wires) 1310720) (nat_le (amount_of c which.Crosspoints) 268435456 && nat_le (amount_of c which.Pins) 8192) (le-leb (amount_of c which.Wires) 1310720 (h which.Wires))
    (and_from (nat_le (amount_of c which.Crosspoints) 268435456) (nat_le (amount_of c which.Pins) 8192) (le-leb (amount_of c which.Crosspoints) 268435456 (h which.Crosspoints)) (le-leb (amount_of c which.Pins) 8192 (h which.Pins))))

over_large : (c : Counts) → keeps_large c ≡ false → (kind : LimitedCount) × (most_of_large kind < amount_of c kind)
over_large c h = elim (and_cases (nat_le (amount_of c which.Tables) 65536) (nat_le (amount_of c which.Wires) 1310720 && (nat_le (amount_of c which.Crosspoints) 268435456 && nat_le (amount_of c which.Pins) 8192)) h) [
  | inl t ↦ (which.Tables, leb-false (amount_of c which.Tables) 65536 t)
  | inr rest ↦ elim (and_cases (nat_le (amount_of c which.Wires) 1310720) (nat_le (amount_of c which.Crosspoints) 268435456 && nat_le (amount_of c which.Pins) 8192) rest) [
    | inl w ↦ (which.Wires, leb-false (amount_of c which.Wires) 1310720 w)
    | inr more ↦ elim (and_cases (nat_le (amount_of c which.Crosspoints) 268435456) (nat_le (amount_of c which.Pins) 8192) more) [
      | inl x ↦ (which.Crosspoints, leb-false (amount_of c which.Crosspoints) 268435456 x)
      | inr p ↦ (which.Pins, leb-false (amount_of c which.Pins) 8192 p)
    ]
  ]
]

module _ (c : Said) where
  abbrev singles : List ℕ
  singles = c.counts.modules ∷ c.counts.chips ∷ c.counts.hextants ∷ c.counts.tables ∷ c.counts.pins ∷ []

  abbrev AreSome : Type 0
  AreSome = All (λ n. 0 < n) singles × (All (λ n. 0 < n) c.counts.ports × All (λ n. 0 < n) c.counts.lines)

  full_decides : Decides (is_full c.counts) AreSome
  full_decides = Decides-and (list_all (nat_lt 0) singles) (list_all (nat_lt 0) c.counts.ports && list_all (nat_lt 0) c.counts.lines) (some_decides singles) (Decides-and (list_all (nat_lt 0) c.counts.ports) (list_all (nat_lt 0) c.counts.lines) (some_decides c.counts.ports) (some_decides c.counts.lines))

  shape_parts : is_shape c ≡ true → AreSome × (is_within c ≡ true)
  unfolding is_shape
  shape_parts h = let parts = and_parts (is_full c.counts) (is_within c) h in (full_decides.0 parts.0, parts.1)

  shape_from : AreSome → is_within c ≡ true → is_shape c ≡ true
  unfolding is_shape
  shape_from some within = and_from (is_full c.counts) (is_within c) (full_decides.1 some) within

  no_zero : AreSome → (field : Field) → HasZero c.counts field → ⊥
  no_zero s field.Modules e = let k = s.0 0 0 (omega arith) in omega arith
  no_zero s field.Chips e = let k = s.0 1 0 (omega arith) in omega arith
  no_zero s field.Hextants e = let k = s.0 2 0 (omega arith) in omega arith
  no_zero s field.Tables e = let k = s.0 3 0 (omega arith) in omega arith
  no_zero s field.Ports e = omega (arith, s.1.0 e.0 0 e.1, e.2)
  no_zero s field.Lines e = omega (arith, s.1.1 e.0 0 e.1, e.2)
  no_zero s field.Pins e = let k = s.0 4 0 (omega arith) in omega arith

  pub made : is_shape c ≡ true → KeepsLimits c
  made e = record {
    shape = record {
      full = no_zero parts.0;
      within = λ large. elim within [
        | inl small ↦ absurd (false≢true (sym large ∙ small))
        | inr keeps ↦ large_keeps c.counts (and_parts (not (c.form == 1)) (keeps_large c.counts) keeps).1
      ];
    };
    small = λ first. elim within [
      | inl small ↦ small
      | inr keeps ↦ absurd (false≢true (sym (not-true (c.form == 1) (and_parts (not (c.form == 1)) (keeps_large c.counts) keeps).0) ∙ eq-eqb c.form 1 first))
    ];
  }
    where
      parts : AreSome × (is_within c ≡ true)
      parts = shape_parts e

      within : (is_small c.counts ≡ true) ⊎ ((not (c.form == 1) && keeps_large c.counts) ≡ true)
      within = or_cases (is_small c.counts) (not (c.form == 1) && keeps_large c.counts) parts.1

  -- where no count is 0, counts that make no shape pass a limit
  pub passed : All (λ n. 0 < n) singles → All (λ n. 0 < n) c.counts.ports → All (λ n. 0 < n) c.counts.lines → is_shape c ≡ false → PassesLimit c
  passed single ports lines unshaped = (
    outside.0,
    elim (and_cases (not (c.form == 1)) (keeps_large c.counts) outside.1) [
      | inl first ↦ inl (eqb-true c.form 1 (not-false (c.form == 1) first))
      | inr over ↦ inr (over_large c.counts over)
    ],
  )
    where
      outside : (is_small c.counts ≡ false) × ((not (c.form == 1) && keeps_large c.counts) ≡ false)
      outside = or_parts (is_small c.counts) (not (c.form == 1) && keeps_large c.counts) (elim (cases_Bool (is_within c)) [
        | inl is ↦ absurd (false≢true (sym unshaped ∙ shape_from (single, (ports, lines)) is))
        | inr other ↦ other
      ])

  -- counts that pass a limit make no shape
  pub no_shape : PassesLimit c → is_shape c ≡ false
  no_shape p = elim (cases_Bool (is_shape c)) [
    | inl is ↦ absurd (elim p.1 [
      | inl first ↦ false≢true (sym p.0 ∙ (made is).small first)
      | inr over ↦ let le = (made is).shape.within p.0 over.0 in let lt = over.1 in omega (arith, le, lt)
    ])
    | inr other ↦ other
  ]

  pub is_shape-made : KeepsLimits c → is_shape c ≡ true
  is_shape-made m = shape_from (
    λ k d lt. one k d lt,
    (
      λ k d lt. from_not (get_or c.counts.ports k d) (λ e. m.shape.full field.Ports (k, lt, sym (get_or_default_zero c.counts.ports k d lt) ∙ e)),
      λ k d lt. from_not (get_or c.counts.lines k d) (λ e. m.shape.full field.Lines (k, lt, sym (get_or_default_zero c.counts.lines k d lt) ∙ e)),
    ),
  ) (elim (cases_Bool (is_small c.counts)) [
    | inl small ↦ or_left (is_small c.counts) (not (c.form == 1) && keeps_large c.counts) small
    | inr large ↦
        or_right (is_small c.counts) (not (c.form == 1) && keeps_large c.counts)
        (and_from (not (c.form == 1)) (keeps_large c.counts)
        (not_from_false (c.form == 1) (ne_eqb c.form 1 (λ first. false≢true (sym large ∙ m.small first))))
        (large_from c.counts (m.shape.within large)))
  ])
    where
      from_not : (n : ℕ) → (n ≡ 0 → ⊥) → 0 < n
      from_not n other = omega arith

      one : (k d : ℕ) → k < 5 → 0 < get_or singles k d
      one zero d lt = from_not c.counts.modules (m.shape.full field.Modules)
      one (suc zero) d lt = from_not c.counts.chips (m.shape.full field.Chips)
      one (suc (suc zero)) d lt = from_not c.counts.hextants (m.shape.full field.Hextants)
      one (suc (suc (suc zero))) d lt = from_not c.counts.tables (m.shape.full field.Tables)
      one (suc (suc (suc (suc zero)))) d lt = from_not c.counts.pins (m.shape.full field.Pins)
      one (suc (suc (suc (suc (suc k))))) d lt = absurd (omega arith)

  -- what the two ways to a shape give and refuse
  pub small_made : MakeSmall c.counts → KeepsLimits c
  small_made m =
      let small = within_small c.counts m.within in
      record { shape = record { full = m.full; within = λ large. absurd (false≢true (sym large ∙ small)) }; small = λ first. small }

  pub large_made : (c.form ≡ 1 → ⊥) → MakeShape c.counts → KeepsLimits c
  large_made other m = record { shape = m; small = λ first. absurd (other first) }

  pub small_fault : c.form ≡ 1 → (fault : ShapeFault) → IsSmallFault c.counts fault → is_shape c ≡ false
  small_fault first fault h = elim (cases_Bool (is_shape c)) [ inl is ↦ absurd (no_fault (made is) fault h) | inr other ↦ other ]
    where
      no_fault : KeepsLimits c → (fault : ShapeFault) → IsSmallFault c.counts fault → ⊥
      no_fault m (Zero f) h = m.shape.full f h.zero
      no_fault m (Limit kind n) h = let le = small_within c.counts (m.small first) kind in let lt = h.1.passed in omega (arith, le, lt)

  pub large_fault : (fault : ShapeFault) → IsShapeFault c.counts fault → is_shape c ≡ false
  large_fault fault h = elim (cases_Bool (is_shape c)) [ inl is ↦ absurd (no_fault (made is) fault h) | inr other ↦ other ]
    where
      no_fault : KeepsLimits c → (fault : ShapeFault) → IsShapeFault c.counts fault → ⊥
      no_fault m (Zero f) h = m.shape.full f h.zero
      no_fault m (Limit kind n) h = let le = m.shape.within h.1 kind in let lt = h.2.passed in omega (arith, le, lt)
