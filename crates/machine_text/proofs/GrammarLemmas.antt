-- What is read without a fault is the text of a machine, and the text of a machine is read.
use Rattle.std.proofs.Common.{◌≡◌, ℕ, zero, suc, ◌+◌, ◌*◌, ◌++◌, length-append, ◌<◌, ◌≤◌, ◌==◌, Bool, true, false, not, nat_lt, List, [], ◌∷◌, Option, Some, None, Result, Ok, Err, length, map, drop, get_or, refl, sym, ap, ◌∙◌, subst, arith, inl, inr, if◌then◌else◌, find, take, Contains, ◌&&◌}
use Rattle.machine_text.proofs.Vocabulary.{decimal, list_all, flat_map, All, bytes_eq, nil_from_length, length-map, get_or-map, take_more}
use Rattle.machine_text.proofs.Vocabulary.{map-append, append-nil, bytes_eq-Decides, Counts, MachineFault, At, Memory, GivesOrLacks}
use Rattle.machine_text.proofs.Vocabulary.{IsReadFault, IsReadShape, Head, MachineKind, heads, word_of, place_of, follow_of, head_of, Said}
use Rattle.std.proofs.lemmas.Bool.{cases_Bool, and_parts, and_from, ltb-true, eqb-true, eq-eqb, not-false, false≢true, lt-ltb}
use Rattle.std.proofs.lemmas.{List.Elements.All-append, Grind.flat_map-append, Grind.get_or_default_zero, Fmt.length-decimal-le}
use Rattle.machine_shape.specs.declared.Field.TheVariants as field
use Rattle.machine_shape.specs.{Limits.MakeShape, Limits.is_small, declared.Shape.Shape}
use Rattle.base_text.specs.Vocabulary.{LogicalLine, logical_lines, is_bad_line, has_bad_byte, IsWord, AreRows, numbered, written, written_line, spaced, most_bytes}
use Rattle.base_text.proofs.WrittenLemmas.{decimal_word, sound_words, lines_back}
use Rattle.machine_text.specs.declared.head.Head.TheVariants as head
use Rattle.machine_text.specs.declared.kind.MachineKind.TheVariants as kind
use Rattle.machine_text.specs.Machine.{IsForm, KeepsLimits, said_in, form_of, numbers_of, count_row, count_rows, text_of, IsMachine}
use Rattle.machine_text.specs.Reading.{State, start, value_of, is_count, is_form, counts_fault, words_fault, head_fault, said_fault, fault_of, with_numbers, with_line, after, if_sound, reading, is_shape}
use Rattle.machine_text.proofs.CountLemmas.{count_parts, few_form, form_parts, form_word, is_count-decimal, value-decimal, is_shape-made}

-- ---- heads

abbrev pub at_place : ℕ → Head
at_place k = get_or heads k head.End

pub at_place-place_of : (h : Head) → at_place (place_of h) ≡ h
at_place-place_of head.Teramac = refl
at_place-place_of head.Modules = refl
at_place-place_of head.Chips = refl
at_place-place_of head.Hextants = refl
at_place-place_of head.Tables = refl
at_place-place_of head.Ports = refl
at_place-place_of head.Lines = refl
at_place-place_of head.Pins = refl
at_place-place_of head.End = refl

pub one_place : (h g : Head) → place_of h ≡ place_of g → h ≡ g
one_place h g e = sym (at_place-place_of h) ∙ ap at_place e ∙ at_place-place_of g

pub place_below : (h : Head) → place_of h < 9
place_below head.Teramac = omega arith
place_below head.Modules = omega arith
place_below head.Chips = omega arith
place_below head.Hextants = omega arith
place_below head.Tables = omega arith
place_below head.Ports = omega arith
place_below head.Lines = omega arith
place_below head.Pins = omega arith
place_below head.End = omega arith

found : {X : Type 0} (p : X → Bool) (xs : List X) (x : X) → find p xs ≡ Some x → p x ≡ true
found p [] x e = absurd cc
found p (y ∷ xs) x e = by (p y) refl e (found p xs x)
  where
    by : (b : Bool) → p y ≡ b → (if b then Some y else find p xs) ≡ Some x → (find p xs ≡ Some x → p x ≡ true) → p x ≡ true
    by true is same rest = let one : y ≡ x = cc in ap p (sym one) ∙ is
    by false is same rest = rest same

word_from : (w : List ℕ) (h : Head) → head_of w ≡ Some h → w ≡ word_of h
unfolding head_of
word_from w h e = (bytes_eq-Decides w (word_of h)).0 (found (λ g. bytes_eq w (word_of g)) heads h e)

pub head_of-word_of : (h : Head) → head_of (word_of h) ≡ Some h
unfolding head_of
head_of-word_of head.Teramac = refl
head_of-word_of head.Modules = refl
head_of-word_of head.Chips = refl
head_of-word_of head.Hextants = refl
head_of-word_of head.Tables = refl
head_of-word_of head.Ports = refl
head_of-word_of head.Lines = refl
head_of-word_of head.Pins = refl
head_of-word_of head.End = refl

-- ---- a line without a fault

pub if_none : {K : Type 0} (b : Bool) (k : K) (rest : Option K) → (if b then Some k else rest) ≡ None → (b ≡ false) × (rest ≡ None)
if_none true k rest e = absurd cc
if_none false k rest e = (refl, e)

then_none : {K : Type 0} (b : Bool) (k : K) → (if b then None else Some k) ≡ None → b ≡ true
then_none true k e = refl
then_none false k e = absurd cc

record HeadParts (s : State) (o : Option Head) (ws : List (List ℕ)) : Type 0 where
  h : Head
  is : o ≡ Some h
  place : place_of h ≡ s.read
  size : length ws ≡ follow_of h
  sound : words_fault s.said h ws ≡ None

head_parts : (s : State) (o : Option Head) (ws : List (List ℕ)) → head_fault s o ws ≡ None → HeadParts s o ws
head_parts s None ws e = absurd cc
head_parts s (Some h) ws e =
    let placed = if_none (not (place_of h == s.read)) kind.Order (if not (length ws == follow_of h) then Some kind.Word else words_fault s.said h ws) e in
    let sized = if_none (not (length ws == follow_of h)) kind.Word (words_fault s.said h ws) placed.1 in
    record { h = h; is = refl; place = eqb-true _ _ (not-false _ placed.0); size = eqb-true _ _ (not-false _ sized.0); sound = sized.1 }

-- the numbers of the words behind the first
abbrev numbers_in : Head → List (List ℕ) → List ℕ
numbers_in h ws = map value_of ws

pub counts_are : (ws : List (List ℕ)) → list_all is_count ws ≡ true → (ws ≡ map decimal (map value_of ws)) × All (λ n. (0 < n) × (n ≤ 65535)) (map value_of ws)
counts_are [] h = (refl, λ k d lt. absurd (omega arith))
counts_are (w ∷ ws) h =
    let parts = and_parts (is_count w) (list_all is_count ws) h in
    let this = count_parts w parts.0 in
    let rest = counts_are ws parts.1 in
    ((λ i. this.0 i ∷ rest.0 i), all (this.1.0, omega (arith, this.1.1)) rest.1)
  where
    all : (0 < value_of w) × (value_of w ≤ 65535) → All (λ n. (0 < n) × (n ≤ 65535)) (map value_of ws) → All (λ n. (0 < n) × (n ≤ 65535)) (value_of w ∷ map value_of ws)
    all first rest zero d lt = first
    all first rest (suc k) d lt = rest k d (omega arith)

record Numbers (c : Said) (h : Head) (ws : List (List ℕ)) : Type 0 where
  words : ws ≡ map decimal (numbers_in h ws)
  size : length (numbers_in h ws) ≡ follow_of h
  small : All (λ n. (0 < n) × (n ≤ 65535)) (numbers_in h ws)
  given : with_numbers c h (map value_of ws) ≡ with_numbers c h (numbers_in h ws)

-- the words are those of counts, as those of all lines but the first and the last
by_counts : (c : Said) (h : Head) (ws : List (List ℕ)) → length ws ≡ follow_of h → counts_fault ws ≡ None → numbers_in h ws ≡ map value_of ws → Numbers c h ws
by_counts c h ws size e same =
    let are = counts_are ws (then_none (list_all is_count ws) kind.Number e) in
    record {
      words = are.0 ∙ ap (map decimal) (sym same);
      size = ap length same ∙ length-map ws value_of ∙ size;
      small = subst (All (λ n. (0 < n) × (n ≤ 65535))) (sym same) are.1;
      given = ap (with_numbers c h) (sym same);
    }

pub one_word : (ws : List (List ℕ)) → length ws ≡ 1 → ws ≡ get_or ws 0 [] ∷ []
one_word [] e = absurd (omega arith)
one_word (w ∷ ws) e = ap (λ r. w ∷ r) (nil_from_length ws (omega arith))

-- the form that the only word gives
form_from : (c : Said) (h : Head) (ws : List (List ℕ)) → h ≡ head.Teramac → length ws ≡ follow_of h → words_fault c h ws ≡ None → IsForm (get_or (map value_of ws) 0 0)
form_from c head.Teramac ws is size e =
    subst IsForm (sym (get_or-map value_of ws 0 [] 0 (omega (arith, size)))) (form_parts (get_or ws 0 []) (then_none (is_form (get_or ws 0 [])) kind.Word e)).2
form_from c head.Modules ws is size e = absurd cc
form_from c head.Chips ws is size e = absurd cc
form_from c head.Hextants ws is size e = absurd cc
form_from c head.Tables ws is size e = absurd cc
form_from c head.Ports ws is size e = absurd cc
form_from c head.Lines ws is size e = absurd cc
form_from c head.Pins ws is size e = absurd cc
form_from c head.End ws is size e = absurd cc

numbers_from : (c : Said) (h : Head) (ws : List (List ℕ)) → length ws ≡ follow_of h → words_fault c h ws ≡ None → Numbers c h ws
numbers_from c head.Teramac ws size e =
    let counted = (form_parts (get_or ws 0 []) (then_none (is_form (get_or ws 0 [])) kind.Word e)).0 in
    let all : list_all is_count ws ≡ true = ap (list_all is_count) (one_word ws size) ∙ ap (λ t. t && true) counted in
    by_counts c head.Teramac ws size (ap (λ t. if t then None else Some kind.Number) all) refl
numbers_from c head.Modules ws size e = by_counts c head.Modules ws size e refl
numbers_from c head.Chips ws size e = by_counts c head.Chips ws size e refl
numbers_from c head.Hextants ws size e = by_counts c head.Hextants ws size e refl
numbers_from c head.Tables ws size e = by_counts c head.Tables ws size e refl
numbers_from c head.Ports ws size e = by_counts c head.Ports ws size e refl
numbers_from c head.Lines ws size e = by_counts c head.Lines ws size e refl
numbers_from c head.Pins ws size e = by_counts c head.Pins ws size e refl
numbers_from c head.End ws size e =
    let none = nil_from_length ws size in
    record { words = none ∙ ap (λ ws. map decimal (map value_of ws)) (sym none); size = length-map ws value_of ∙ size; small = λ k d lt. absurd (omega (arith, length-map ws value_of)); given = refl }

-- ---- the next line, where the rest is read

-- the state after a line of this kind with these numbers
abbrev pub moved : State → Head → List ℕ → State
moved s h ns = record { read = s.read + 1; said = with_numbers s.said h ns }

record Next (s : State) (lines : List LogicalLine) (c : Said) (h : Head) : Type 0 where
  line : LogicalLine
  rest : List LogicalLine
  lines_are : lines ≡ line ∷ rest
  numbers : List ℕ
  words : line.words ≡ word_of h ∷ map decimal numbers
  size : length numbers ≡ follow_of h
  small : All (λ n. (0 < n) × (n ≤ 65535)) numbers
  format : h ≡ head.Teramac → IsForm (get_or numbers 0 0)
  goes_on : reading (moved s h numbers) rest ≡ Ok c

sound_ok : (n : ℕ) (f : Option MachineKind) (rest : Result Said (ℕ × MachineKind)) (c : Said) → if_sound n f rest ≡ Ok c → (f ≡ None) × (rest ≡ Ok c)
sound_ok n None rest c e = (refl, e)
sound_ok n (Some k) rest c e = absurd cc

abbrev missing : ℕ × MachineKind
missing = (0, kind.Missing)

ok_none : (b : Bool) (c d : Said) → (if b then Err missing else Ok c) ≡ Ok d → (b ≡ false) × (c ≡ d)
ok_none true c d e = absurd cc
ok_none false c d e = (refl, cc)

pub word_first : (words : List (List ℕ)) (h : Head) → head_of (get_or words 0 []) ≡ Some h → words ≡ word_of h ∷ drop 1 words
word_first [] h e = let k = word_from [] h e in absurd (no_word h k)
  where
    no_word : (h : Head) → [] ≡ word_of h → ⊥
    no_word head.Teramac k = absurd cc
    no_word head.Modules k = absurd cc
    no_word head.Chips k = absurd cc
    no_word head.Hextants k = absurd cc
    no_word head.Tables k = absurd cc
    no_word head.Ports k = absurd cc
    no_word head.Lines k = absurd cc
    no_word head.Pins k = absurd cc
    no_word head.End k = absurd cc
word_first (w ∷ words) h e = ap (λ v. v ∷ words) (word_from w h e)

-- a line without a fault, and the state after it
pub record Sound (s : State) (l : LogicalLine) : Type 0 where
  pub h : Head
  pub place : place_of h ≡ s.read
  pub numbers : List ℕ
  pub words : l.words ≡ word_of h ∷ map decimal numbers
  pub size : length numbers ≡ follow_of h
  pub small : All (λ n. (0 < n) × (n ≤ 65535)) numbers
  pub format : h ≡ head.Teramac → IsForm (get_or numbers 0 0)
  pub ready : h ≡ head.End → is_shape s.said ≡ true
  pub moves : after s l.words ≡ moved s h numbers

pub sound_line : (s : State) (l : LogicalLine) → fault_of s l ≡ None → Sound s l
sound_line s l e =
    let said = (if_none (is_bad_line l) kind.Byte (said_fault s l.words) e).1 in
    let headed = (if_none (nat_lt 8 s.read) kind.After (head_fault s (head_of (get_or l.words 0 [])) (drop 1 l.words)) said).1 in
    let parts = head_parts s (head_of (get_or l.words 0 [])) (drop 1 l.words) headed in
    let numbers = numbers_from s.said parts.h (drop 1 l.words) parts.size parts.sound in
    record {
      h = parts.h;
      place = parts.place;
      numbers = numbers_in parts.h (drop 1 l.words);
      words = word_first l.words parts.h parts.is ∙ ap (λ ws. word_of parts.h ∷ ws) numbers.words;
      size = numbers.size;
      small = numbers.small;
      format = λ first. form_from s.said parts.h (drop 1 l.words) first parts.size parts.sound;
      ready = λ last. then_none (is_shape s.said) kind.Limit (subst (λ g. words_fault s.said g (drop 1 l.words) ≡ None) last parts.sound);
      moves = ap (λ k. record { read = s.read + 1; said = k }) (ap (λ o. with_line s.said o (drop 1 l.words)) parts.is ∙ numbers.given);
    }

next : (s : State) (lines : List LogicalLine) (c : Said) (h : Head) → s.read ≡ place_of h → reading s lines ≡ Ok c → Next s lines c h
unfolding reading
next s [] c h place e = let k = ok_none (nat_lt s.read 9) s.said c e in absurd (false≢true (sym k.0 ∙ lt-ltb s.read 9 (omega (arith, place_below h))))
next s (l ∷ lines) c h place e =
    let go = sound_ok l.number (fault_of s l) (reading (after s l.words) lines) c e in
    let this = sound_line s l go.0 in
    subst (Next s (l ∷ lines) c) (one_place this.h h (this.place ∙ place)) (record {
      line = l;
      rest = lines;
      lines_are = refl;
      numbers = this.numbers;
      words = this.words;
      size = this.size;
      small = this.small;
      format = this.format;
      goes_on = subst (λ t. reading t lines ≡ Ok c) this.moves go.1;
    })

last : (s : State) (lines : List LogicalLine) (c : Said) → s.read ≡ 9 → reading s lines ≡ Ok c → (lines ≡ []) × (s.said ≡ c)
unfolding reading
last s [] c full e = (refl, (ok_none (nat_lt s.read 9) s.said c e).1)
last s (l ∷ lines) c full e =
    let go = sound_ok l.number (fault_of s l) (reading (after s l.words) lines) c e in
    let said = (if_none (is_bad_line l) kind.Byte (said_fault s l.words) go.0).1 in
    let over = (if_none (nat_lt 8 s.read) kind.After (head_fault s (head_of (get_or l.words 0 [])) (drop 1 l.words)) said).0 in
    let k : nat_lt 8 s.read ≡ true = lt-ltb 8 s.read (omega arith) in
    absurd (false≢true (sym over ∙ k))

-- ---- what is read is a machine's text

abbrev words_of_lines : List LogicalLine → List (List (List ℕ))
words_of_lines lines = map (λ l. l.words) lines

pub record Spelled (lines : List LogicalLine) (c : Said) : Type 0 where
  known : IsForm c.form
  rows : words_of_lines lines ≡ count_rows c
  three : length c.counts.ports ≡ 3
  four : length c.counts.lines ≡ 4
  small : (h : Head) → All (λ n. (0 < n) × (n ≤ 65535)) (numbers_of c h)

pub only_number : (ns : List ℕ) → length ns ≡ 1 → ns ≡ get_or ns 0 0 ∷ []
only_number [] e = absurd (omega arith)
only_number (n ∷ ns) e = ap (λ r. n ∷ r) (nil_from_length ns (omega arith))

-- a line in front of others, with the numbers that the counts have
row_in_front : {s : State} {lines : List LogicalLine} {c : Said} {h : Head} (n : Next s lines c h) (d : Said) (rows : List (List (List ℕ))) → n.numbers ≡ numbers_of d h → words_of_lines n.rest ≡ rows → words_of_lines lines ≡ count_row d h ∷ rows
row_in_front {h = h} n d rows same below = ap words_of_lines n.lines_are ∙ (λ i. (n.words ∙ ap (λ ns. word_of h ∷ map decimal ns) same) i ∷ below i)

abbrev Small : List ℕ → Type 0
Small ns = All (λ n. (0 < n) × (n ≤ 65535)) ns

by_head : (c : Said) → Small (c.form ∷ []) → Small (c.counts.modules ∷ []) → Small (c.counts.chips ∷ []) → Small (c.counts.hextants ∷ []) → Small (c.counts.tables ∷ []) → Small c.counts.ports → Small c.counts.lines → Small (c.counts.pins ∷ []) → Small [] → (h : Head) → Small (numbers_of c h)
by_head c n0 n1 n2 n3 n4 n5 n6 n7 n8 head.Teramac = n0
by_head c n0 n1 n2 n3 n4 n5 n6 n7 n8 head.Modules = n1
by_head c n0 n1 n2 n3 n4 n5 n6 n7 n8 head.Chips = n2
by_head c n0 n1 n2 n3 n4 n5 n6 n7 n8 head.Hextants = n3
by_head c n0 n1 n2 n3 n4 n5 n6 n7 n8 head.Tables = n4
by_head c n0 n1 n2 n3 n4 n5 n6 n7 n8 head.Ports = n5
by_head c n0 n1 n2 n3 n4 n5 n6 n7 n8 head.Lines = n6
by_head c n0 n1 n2 n3 n4 n5 n6 n7 n8 head.Pins = n7
by_head c n0 n1 n2 n3 n4 n5 n6 n7 n8 head.End = n8

-- the next line as a variable, so that terms stay short
with_next : {P : Type 0} (s : State) (lines : List LogicalLine) (c : Said) (h : Head) → s.read ≡ place_of h → reading s lines ≡ Ok c → ((n : Next s lines c h) → P) → P
with_next s lines c h place e f = f (next s lines c h place e)

pub spelled : (lines : List LogicalLine) (c : Said) → reading start lines ≡ Ok c → Spelled lines c
spelled lines c e =
    with_next start lines c head.Teramac refl e (λ n0.
    let s1 : State = moved start head.Teramac n0.numbers in
    with_next s1 n0.rest c head.Modules refl n0.goes_on (λ n1.
    let s2 : State = moved s1 head.Modules n1.numbers in
    with_next s2 n1.rest c head.Chips refl n1.goes_on (λ n2.
    let s3 : State = moved s2 head.Chips n2.numbers in
    with_next s3 n2.rest c head.Hextants refl n2.goes_on (λ n3.
    let s4 : State = moved s3 head.Hextants n3.numbers in
    with_next s4 n3.rest c head.Tables refl n3.goes_on (λ n4.
    let s5 : State = moved s4 head.Tables n4.numbers in
    with_next s5 n4.rest c head.Ports refl n4.goes_on (λ n5.
    let s6 : State = moved s5 head.Ports n5.numbers in
    with_next s6 n5.rest c head.Lines refl n5.goes_on (λ n6.
    let s7 : State = moved s6 head.Lines n6.numbers in
    with_next s7 n6.rest c head.Pins refl n6.goes_on (λ n7.
    let s8 : State = moved s7 head.Pins n7.numbers in
    with_next s8 n7.rest c head.End refl n7.goes_on (λ n8.
    let s9 : State = moved s8 head.End n8.numbers in
    let end = last s9 n8.rest c refl n8.goes_on in
    subst (Spelled lines) end.1 (record {
      known = n0.format refl;
      rows =
          row_in_front n0 s9.said _ (only_number n0.numbers n0.size) (
          row_in_front n1 s9.said _ (only_number n1.numbers n1.size) (
          row_in_front n2 s9.said _ (only_number n2.numbers n2.size) (
          row_in_front n3 s9.said _ (only_number n3.numbers n3.size) (
          row_in_front n4 s9.said _ (only_number n4.numbers n4.size) (
          row_in_front n5 s9.said _ refl (
          row_in_front n6 s9.said _ refl (
          row_in_front n7 s9.said _ (only_number n7.numbers n7.size) (
          row_in_front n8 s9.said [] (nil_from_length n8.numbers n8.size) (ap words_of_lines end.0)))))))));
      three = n5.size;
      four = n6.size;
      small = by_head s9.said
          (subst Small (only_number n0.numbers n0.size) n0.small)
          (subst Small (only_number n1.numbers n1.size) n1.small)
          (subst Small (only_number n2.numbers n2.size) n2.small)
          (subst Small (only_number n3.numbers n3.size) n3.small)
          (subst Small (only_number n4.numbers n4.size) n4.small)
          n5.small
          n6.small
          (subst Small (only_number n7.numbers n7.size) n7.small)
          (subst Small (nil_from_length n8.numbers n8.size) n8.small);
    }))))))))))

-- ---- a machine's text is read

pub some_counts : (ns : List ℕ) → Small ns → list_all is_count (map decimal ns) ≡ true
some_counts [] small = refl
some_counts (n ∷ ns) small =
    let this = small 0 0 (omega arith) in
    and_from (is_count (decimal n)) (list_all is_count (map decimal ns)) (is_count-decimal (decimal n) n refl this.0 this.1) (some_counts ns (λ k d lt. small (suc k) d (omega arith)))

same_values : (ns : List ℕ) → Small ns → map value_of (map decimal ns) ≡ ns
same_values [] small = refl
same_values (n ∷ ns) small =
    let this = small 0 0 (omega arith) in
    let value : value_of (decimal n) ≡ n = value-decimal (decimal n) n (omega (arith, this.1)) refl in
    (λ i. value i ∷ same_values ns (λ k d lt. small (suc k) d (omega arith)) i)

word_is_word : (h : Head) → IsWord (word_of h)
word_is_word head.Teramac = (omega arith, refl)
word_is_word head.Modules = (omega arith, refl)
word_is_word head.Chips = (omega arith, refl)
word_is_word head.Hextants = (omega arith, refl)
word_is_word head.Tables = (omega arith, refl)
word_is_word head.Ports = (omega arith, refl)
word_is_word head.Lines = (omega arith, refl)
word_is_word head.Pins = (omega arith, refl)
word_is_word head.End = (omega arith, refl)

numerals_are_words : (ns : List ℕ) → Small ns → All IsWord (map decimal ns)
numerals_are_words [] small k d lt = absurd (omega arith)
numerals_are_words (n ∷ ns) small zero d lt = decimal_word n (omega (arith, (small 0 0 (omega arith)).1))
numerals_are_words (n ∷ ns) small (suc k) d lt = numerals_are_words ns (λ j e within. small (suc j) e (omega arith)) k d (omega arith)

row_is_words : (c : Said) (h : Head) → Small (numbers_of c h) → All IsWord (count_row c h)
row_is_words c h small zero d lt = word_is_word h
row_is_words c h small (suc k) d lt = numerals_are_words (numbers_of c h) small k d (omega arith)

-- the form is one of the two, where the first line stands, and the counts above make a shape, where the last does
abbrev pub IsReady : Said → Said → Head → Type 0
IsReady c d head.Teramac = IsForm c.form
IsReady c d head.End = is_shape d ≡ true
IsReady c d _ = Unit {0}

no_fault : (d c : Said) (h : Head) → Small (numbers_of c h) → IsReady c d h → words_fault d h (map decimal (numbers_of c h)) ≡ None
no_fault d c head.Teramac small ready = ap (λ t. if t then None else Some kind.Word) (form_word (decimal c.form) c.form ready refl)
no_fault d c head.Modules small ready = ap (λ t. if t then None else Some kind.Number) (some_counts (numbers_of c head.Modules) small)
no_fault d c head.Chips small ready = ap (λ t. if t then None else Some kind.Number) (some_counts (numbers_of c head.Chips) small)
no_fault d c head.Hextants small ready = ap (λ t. if t then None else Some kind.Number) (some_counts (numbers_of c head.Hextants) small)
no_fault d c head.Tables small ready = ap (λ t. if t then None else Some kind.Number) (some_counts (numbers_of c head.Tables) small)
no_fault d c head.Ports small ready = ap (λ t. if t then None else Some kind.Number) (some_counts (numbers_of c head.Ports) small)
no_fault d c head.Lines small ready = ap (λ t. if t then None else Some kind.Number) (some_counts (numbers_of c head.Lines) small)
no_fault d c head.Pins small ready = ap (λ t. if t then None else Some kind.Number) (some_counts (numbers_of c head.Pins) small)
no_fault d c head.End small ready = ap (λ t. if t then None else Some kind.Limit) ready

pub not_past : (k : ℕ) → k < 9 → nat_lt 8 k ≡ false
not_past k lt = elim (cases_Bool (nat_lt 8 k)) [ inl over ↦ absurd (omega (arith, ltb-true 8 k over)) | inr within ↦ within ]

head_sound : (s : State) (c : Said) (h : Head) → s.read ≡ place_of h → length (numbers_of c h) ≡ follow_of h → Small (numbers_of c h) → IsReady c s.said h → head_fault s (Some h) (map decimal (numbers_of c h)) ≡ None
head_sound s c h place size small ready =
    let placed : (place_of h == s.read) ≡ true = eq-eqb (place_of h) s.read (sym place) in
    let sized : (length (map decimal (numbers_of c h)) == follow_of h) ≡ true = eq-eqb _ _ (length-map (numbers_of c h) decimal ∙ size) in
    rw (placed, sized) (no_fault s.said c h small ready)

pub row_sound : (s : State) (c : Said) (h : Head) (l : LogicalLine) → l.words ≡ count_row c h → s.read ≡ place_of h → length (numbers_of c h) ≡ follow_of h → Small (numbers_of c h) → IsReady c s.said h → fault_of s l ≡ None
row_sound s c h l words place size small ready =
    let good : is_bad_line l ≡ false = ap has_bad_byte words ∙ sound_words (count_row c h) (row_is_words c h small) in
    let within : nat_lt 8 s.read ≡ false = not_past s.read (omega (arith, place_below h)) in
    ap (λ t. if t then Some kind.Byte else said_fault s l.words) good
    ∙ ap (λ t. if t then Some kind.After else head_fault s (head_of (get_or l.words 0 [])) (drop 1 l.words)) within
    ∙ ap (λ ws. head_fault s (head_of (get_or ws 0 [])) (drop 1 ws)) words
    ∙ ap (λ o. head_fault s o (map decimal (numbers_of c h))) (head_of-word_of h)
    ∙ head_sound s c h place size small ready

pub after_row : (s : State) (c : Said) (h : Head) (words : List (List ℕ)) → words ≡ count_row c h → Small (numbers_of c h) → after s words ≡ moved s h (numbers_of c h)
after_row s c h words is small =
    ap (after s) is
    ∙ ap (λ o. record { read = s.read + 1; said = with_line s.said o (map decimal (numbers_of c h)) }) (head_of-word_of h)
    ∙ ap (moved s h) (same_values (numbers_of c h) small)

record Read (s : State) (c : Said) (h : Head) (lines : List LogicalLine) (rows : List (List (List ℕ))) : Type 0 where
  rest : List LogicalLine
  rows_are : words_of_lines rest ≡ rows
  same : reading s lines ≡ reading (moved s h (numbers_of c h)) rest

row_read : (s : State) (c : Said) (h : Head) (lines : List LogicalLine) (rows : List (List (List ℕ))) → words_of_lines lines ≡ count_row c h ∷ rows → s.read ≡ place_of h → length (numbers_of c h) ≡ follow_of h → Small (numbers_of c h) → IsReady c s.said h → Read s c h lines rows
unfolding reading
row_read s c h [] rows is place size small ready = absurd cc
row_read s c h (l ∷ lines) rows is place size small ready =
    let words : l.words ≡ count_row c h = cc in
    record {
      rest = lines;
      rows_are = cc;
      same = ap (λ f. if_sound l.number f (reading (after s l.words) lines)) (row_sound s c h l words place size small ready) ∙ ap (λ t. reading t lines) (after_row s c h l.words words small);
    }

with_row : {P : Type 0} (s : State) (c : Said) (h : Head) (lines : List LogicalLine) (rows : List (List (List ℕ))) → words_of_lines lines ≡ count_row c h ∷ rows → s.read ≡ place_of h → length (numbers_of c h) ≡ follow_of h → Small (numbers_of c h) → IsReady c s.said h → ((r : Read s c h lines rows) → P) → P
with_row s c h lines rows is place size small ready f = f (row_read s c h lines rows is place size small ready)

all_read : (s : State) (lines : List LogicalLine) → s.read ≡ 9 → words_of_lines lines ≡ [] → reading s lines ≡ Ok s.said
unfolding reading
all_read s [] full is = rw full refl
all_read s (l ∷ lines) full is = absurd cc

pub read_back : (lines : List LogicalLine) (c : Said) → words_of_lines lines ≡ count_rows c → length c.counts.ports ≡ 3 → length c.counts.lines ≡ 4 → ((h : Head) → Small (numbers_of c h)) → IsForm c.form → is_shape c ≡ true → reading start lines ≡ Ok c
read_back lines c rows three four small known shape =
    with_row start c head.Teramac lines _ rows refl refl (small head.Teramac) known (λ r0.
    let s1 : State = moved start head.Teramac (numbers_of c head.Teramac) in
    with_row s1 c head.Modules r0.rest _ r0.rows_are refl refl (small head.Modules) tt (λ r1.
    let s2 : State = moved s1 head.Modules (numbers_of c head.Modules) in
    with_row s2 c head.Chips r1.rest _ r1.rows_are refl refl (small head.Chips) tt (λ r2.
    let s3 : State = moved s2 head.Chips (numbers_of c head.Chips) in
    with_row s3 c head.Hextants r2.rest _ r2.rows_are refl refl (small head.Hextants) tt (λ r3.
    let s4 : State = moved s3 head.Hextants (numbers_of c head.Hextants) in
    with_row s4 c head.Tables r3.rest _ r3.rows_are refl refl (small head.Tables) tt (λ r4.
    let s5 : State = moved s4 head.Tables (numbers_of c head.Tables) in
    with_row s5 c head.Ports r4.rest _ r4.rows_are refl three (small head.Ports) tt (λ r5.
    let s6 : State = moved s5 head.Ports (numbers_of c head.Ports) in
    with_row s6 c head.Lines r5.rest _ r5.rows_are refl four (small head.Lines) tt (λ r6.
    let s7 : State = moved s6 head.Lines (numbers_of c head.Lines) in
    with_row s7 c head.Pins r6.rest _ r6.rows_are refl refl (small head.Pins) tt (λ r7.
    let s8 : State = moved s7 head.Pins (numbers_of c head.Pins) in
    with_row s8 c head.End r7.rest _ r7.rows_are refl refl (small head.End) shape (λ r8.
    let s9 : State = moved s8 head.End (numbers_of c head.End) in
    r0.same ∙ r1.same ∙ r2.same ∙ r3.same ∙ r4.same ∙ r5.same ∙ r6.same ∙ r7.same ∙ r8.same ∙ all_read s9 r8.rest refl r8.rows_are)))))))))

-- ---- texts

pub is_machine : (bytes : List ℕ) (c : Said) → reading start (logical_lines false bytes) ≡ Ok c → KeepsLimits c → IsMachine bytes c.counts
is_machine bytes c e limits =
    let s = spelled (logical_lines false bytes) c e in
    record { form = c.form; known = s.known; rows = s.rows; three = s.three; four = s.four; small = s.small; limits = limits }

pub machine_is_read : (bytes : List ℕ) (c : Counts) (m : IsMachine bytes c) → reading start (logical_lines false bytes) ≡ Ok (said_in m.form c)
machine_is_read bytes c m =
    read_back (logical_lines false bytes) (said_in m.form c) m.rows m.three m.four m.small m.known (is_shape-made (said_in m.form c) m.limits)

pub found_is : (bytes : List ℕ) (said : Said) (s : Shape) → length bytes ≤ most_bytes → IsReadShape (logical_lines false bytes) said s → IsMachine bytes s.counts × (length bytes ≤ most_bytes)
found_is bytes said s few h = (subst (IsMachine bytes) (sym h.1) (is_machine bytes said h.0 h.2), few)

pub only_is : (bytes : List ℕ) (said : Said) (s : Shape) → IsReadShape (logical_lines false bytes) said s → (c : Counts) → IsMachine bytes c → GivesOrLacks c (Ok s)
only_is bytes said s h c m =
    let one : ◌≡◌ {A = Result Said (ℕ × MachineKind)} (Ok said) (Ok (said_in m.form c)) = sym h.0 ∙ machine_is_read bytes c m in
    let same : said ≡ said_in m.form c = cc in
    h.1 ∙ ap (λ (x : Said). x.counts) same

pub none_is : (bytes : List ℕ) (fault : MachineFault) → IsReadFault (logical_lines false bytes) fault → (c : Counts) → IsMachine bytes c → GivesOrLacks c (Err fault)
none_is bytes Memory first c m = tt
none_is bytes (At line kind) first c m = let e : ◌≡◌ {A = Result Said (ℕ × MachineKind)} (Err (line, kind)) (Ok (said_in m.form c)) = sym first ∙ machine_is_read bytes c m in absurd cc

-- ---- what is written

rows_from : (c : Said) (hs : List Head) → ((h : Head) → Small (numbers_of c h)) → AreRows (map (count_row c) hs)
rows_from c [] small k d lt = absurd (omega arith)
rows_from c (h ∷ hs) small zero d lt = (omega arith, row_is_words c h (small h))
rows_from c (h ∷ hs) small (suc k) d lt = rows_from c hs small k d (omega arith)

words_numbered : (n : ℕ) (rows : List (List (List ℕ))) → words_of_lines (numbered n rows) ≡ rows
words_numbered n [] = refl
words_numbered n (r ∷ rows) = ap (λ rs. r ∷ rs) (words_numbered (n + 1) rows)

-- each number has five digits at most, and four stand in a line
short_numbers : (ns : List ℕ) → Small ns → length (flat_map (λ v. 32 ∷ v) (map decimal ns)) ≤ 6 * length ns
short_numbers [] small = omega arith
short_numbers (n ∷ ns) small =
    let this = small 0 0 (omega arith) in
    omega (arith, length-append (decimal n) (flat_map (λ v. 32 ∷ v) (map decimal ns)), length-decimal-le 5 n (omega arith) (omega (arith, this.1)) (omega (arith, this.1)), short_numbers ns (λ k d lt. small (suc k) d (omega arith)))

few_follow : (h : Head) → (follow_of h ≤ 4) × (length (word_of h) ≤ 8)
few_follow head.Teramac = (omega arith, omega arith)
few_follow head.Modules = (omega arith, omega arith)
few_follow head.Chips = (omega arith, omega arith)
few_follow head.Hextants = (omega arith, omega arith)
few_follow head.Tables = (omega arith, omega arith)
few_follow head.Ports = (omega arith, omega arith)
few_follow head.Lines = (omega arith, omega arith)
few_follow head.Pins = (omega arith, omega arith)
few_follow head.End = (omega arith, omega arith)

short_rows : (c : Said) (hs : List Head) → ((h : Head) → Small (numbers_of c h)) → ((h : Head) → length (numbers_of c h) ≡ follow_of h) → length (written (map (count_row c) hs)) ≤ 33 * length hs
short_rows c [] small size = omega arith
short_rows c (h ∷ hs) small size =
    let behind = flat_map (λ v. 32 ∷ v) (map decimal (numbers_of c h)) in
    omega (
      arith,
      length-append (spaced (count_row c h) ++ 10 ∷ []) (written (map (count_row c) hs)),
      length-append (spaced (count_row c h)) (10 ∷ []),
      length-append (word_of h) behind,
      short_numbers (numbers_of c h) (small h),
      size h,
      (few_follow h).0,
      (few_follow h).1,
      short_rows c hs small size,
    )

follow_are : (c : Said) → length c.counts.ports ≡ 3 → length c.counts.lines ≡ 4 → (h : Head) → length (numbers_of c h) ≡ follow_of h
follow_are c three four head.Teramac = refl
follow_are c three four head.Modules = refl
follow_are c three four head.Chips = refl
follow_are c three four head.Hextants = refl
follow_are c three four head.Tables = refl
follow_are c three four head.Ports = three
follow_are c three four head.Lines = four
follow_are c three four head.Pins = refl
follow_are c three four head.End = refl

pub written_is : (c : Said) → IsForm c.form → length c.counts.ports ≡ 3 → length c.counts.lines ≡ 4 → ((h : Head) → Small (numbers_of c h)) → KeepsLimits c → IsMachine (written (count_rows c)) c.counts × (length (written (count_rows c)) ≤ most_bytes)
written_is c known three four small limits = (
  record {
    form = c.form;
    known = known;
    rows = ap words_of_lines (lines_back 1 (count_rows c) (rows_from c heads small)) ∙ words_numbered 1 (count_rows c);
    three = three;
    four = four;
    small = small;
    limits = limits;
  },
  omega (arith, short_rows c heads small (follow_are c three four)),
)

pub written_more : (c : Said) (hs : List Head) (i : ℕ) (d : Head) → i < length hs → written (map (count_row c) (take (i + 1) hs)) ≡ written (map (count_row c) (take i hs)) ++ written_line (count_row c (get_or hs i d))
written_more c hs i d lt =
    ap (λ gs. written (map (count_row c) gs)) (take_more hs i d lt)
    ∙ ap written (map-append (count_row c) (take i hs) (get_or hs i d ∷ []))
    ∙ flat_map-append written_line (map (count_row c) (take i hs)) (count_row c (get_or hs i d) ∷ [])
    ∙ ap (λ bs. written (map (count_row c) (take i hs)) ++ bs) (append-nil (written_line (count_row c (get_or hs i d))))

-- ---- the numbers of a shape

abbrev AllFit : Said → Head → Type 0
AllFit c h = All (λ n. n < 65536) (numbers_of c h)

one_small : (n : ℕ) → (n ≡ 0 → ⊥) → All (λ n. n < 65536) (n ∷ []) → Small (n ∷ [])
one_small n some fits zero d within = let lt : n < 65536 = fits 0 0 (omega arith) in (omega arith, omega arith)
one_small n some fits (suc k) d within = absurd (omega arith)

list_small : (ns : List ℕ) → (Contains ns 0 → ⊥) → All (λ n. n < 65536) ns → Small ns
list_small ns some fits k d within = (above (get_or ns k d) (λ e. some (k, within, sym (get_or_default_zero ns k d within) ∙ e)), omega (arith, fits k d within))
  where
    above : (n : ℕ) → (n ≡ 0 → ⊥) → 0 < n
    above n other = omega arith

small_from : (c : Said) → IsForm c.form → KeepsLimits c → ((h : Head) → AllFit c h) → (h : Head) → Small (numbers_of c h)
small_from c known made fits head.Teramac = one_small c.form (λ e. let few = few_form c.form known in omega (arith, few.0, e)) (fits head.Teramac)
small_from c known made fits head.Modules = one_small c.counts.modules (made.shape.full field.Modules) (fits head.Modules)
small_from c known made fits head.Chips = one_small c.counts.chips (made.shape.full field.Chips) (fits head.Chips)
small_from c known made fits head.Hextants = one_small c.counts.hextants (made.shape.full field.Hextants) (fits head.Hextants)
small_from c known made fits head.Tables = one_small c.counts.tables (made.shape.full field.Tables) (fits head.Tables)
small_from c known made fits head.Ports = list_small c.counts.ports (made.shape.full field.Ports) (fits head.Ports)
small_from c known made fits head.Lines = list_small c.counts.lines (made.shape.full field.Lines) (fits head.Lines)
small_from c known made fits head.Pins = one_small c.counts.pins (made.shape.full field.Pins) (fits head.Pins)
small_from c known made fits head.End = λ k d lt. absurd (omega arith)

-- each line is among them
each_head : (P : Head → Type 0) → All P heads → (h : Head) → P h
each_head P all h = subst P (at_place-place_of h) (all (place_of h) head.End (place_below h))

-- the form of a shape's text
form_known : (b : Bool) → IsForm (if b then 1 else 2)
form_known true = inl refl
form_known false = inr refl

one_is_small : (b : Bool) → ◌≡◌ {A = ℕ} (if b then 1 else 2) 1 → b ≡ true
one_is_small true e = refl
one_is_small false e = absurd (omega (arith, e))

pub shape_written : (c : Counts) → length c.ports ≡ 3 → length c.lines ≡ 4 → MakeShape c → All (AllFit (said_in (form_of c) c)) heads → IsMachine (text_of c) c × (length (text_of c) ≤ most_bytes)
unfolding text_of
shape_written c three four made fits =
    let s : Said = said_in (form_of c) c in
    let limits : KeepsLimits s = record { shape = made; small = one_is_small (is_small c) } in
    written_is s (form_known (is_small c)) three four (small_from s (form_known (is_small c)) limits (each_head (AllFit s) fits)) limits

pub all_more : (P : Head → Type 0) (hs : List Head) (i : ℕ) (d : Head) → i < length hs → All P (take i hs) → P (get_or hs i d) → All P (take (i + 1) hs)
all_more P hs i d lt before this = subst (All P) (sym (take_more hs i d lt)) (All-append P (take i hs) (get_or hs i d ∷ []) before (one this))
  where
    one : P (get_or hs i d) → All P (get_or hs i d ∷ [])
    one p zero e within = p
    one p (suc k) e within = absurd (omega arith)
