-- The fault that reading comes to is the first of the text.
use Rattle.std.proofs.Common.{◌≡◌, ℕ, zero, suc, ◌++◌, length-append, ◌<◌, ◌≤◌, ◌==◌, Bool, true, false, not, nat_lt, List, [], ◌∷◌, Option, Some, None, Result, Ok, Err, length, map, drop, take, get_or, refl, sym, ap, ◌∙◌, subst, arith, inl, inr, ◌⊎◌, if◌then◌else◌}
use Rattle.machine_text.proofs.Vocabulary.{decimal, list_all, All, AllByRecursion, LogicalLine, logical_lines, is_bad_line, most_bytes}
use Rattle.machine_text.proofs.Vocabulary.{Head, MachineKind, MachineFault, At, Memory, heads, word_of, place_of, follow_of, head_of, Said}
use Rattle.machine_text.proofs.Vocabulary.{IsForm, KeepsLimits, numbers_of, count_row, IsReadFault}
use Rattle.std.proofs.lemmas.Bool.{ltb-true, ltb-false, eq-eqb, eqb-true, not-true, not-false, false≢true}
use Rattle.std.proofs.lemmas.List.{nil_from_length, take_more, map-append, append-nil, append_assoc}
use Rattle.machine_text.specs.declared.head.Head.TheVariants as head
use Rattle.machine_text.specs.declared.kind.MachineKind.TheVariants as kind
use Rattle.machine_text.specs.Faults.{AreCounts, HasCounts, AreFirstLines, PassesLimit, IsRestFault, size, format, number, limit, IsWordsFault, over, unknown, not_due, due, IsLineFault, bad, words, IsFirstFault, at_line, at_end, IsRefusedAs}
use Rattle.machine_text.specs.Reading.{State, start, is_count, is_form, counts_fault, words_fault, head_fault, said_fault, fault_of, with_numbers, after, if_sound, reading, is_shape}
use Rattle.machine_text.proofs.CountLemmas.{form_word, made, passed}
use Rattle.machine_text.proofs.GrammarLemmas.{at_place-place_of, one_place, place_below, word_first, head_of-word_of, moved, some_counts, only_number, Sound, sound_line}

if_some : {K : Type 0} (b : Bool) (k j : K) (rest : Option K) → (if b then Some k else rest) ≡ Some j → ((b ≡ true) × (k ≡ j)) ⊎ ((b ≡ false) × (rest ≡ Some j))
if_some true k j rest e = inl (refl, cc)
if_some false k j rest e = inr (refl, e)

else_some : {K : Type 0} (b : Bool) (k j : K) → (if b then None else Some k) ≡ Some j → (b ≡ false) × (k ≡ j)
else_some true k j e = absurd cc
else_some false k j e = (refl, cc)

-- ---- what a line changes

kept_rows : (c : Said) (h : Head) (ns : List ℕ) → map (count_row (with_numbers c h ns)) (take (place_of h) heads) ≡ map (count_row c) (take (place_of h) heads)
kept_rows c head.Teramac ns = refl
kept_rows c head.Modules ns = refl
kept_rows c head.Chips ns = refl
kept_rows c head.Hextants ns = refl
kept_rows c head.Tables ns = refl
kept_rows c head.Ports ns = refl
kept_rows c head.Lines ns = refl
kept_rows c head.Pins ns = refl
kept_rows c head.End ns = refl

kept_counts : (c : Said) (h : Head) (ns : List ℕ) → AllByRecursion (HasCounts c) (take (place_of h) heads) → AllByRecursion (HasCounts (with_numbers c h ns)) (take (place_of h) heads)
kept_counts c head.Teramac ns all = all
kept_counts c head.Modules ns all = all
kept_counts c head.Chips ns all = all
kept_counts c head.Hextants ns all = all
kept_counts c head.Tables ns all = all
kept_counts c head.Ports ns all = all
kept_counts c head.Lines ns all = all
kept_counts c head.Pins ns all = all
kept_counts c head.End ns all = all

numbers_given : (c : Said) (h : Head) (ns : List ℕ) → length ns ≡ follow_of h → numbers_of (with_numbers c h ns) h ≡ ns
numbers_given c head.Teramac ns e = sym (only_number ns e)
numbers_given c head.Modules ns e = sym (only_number ns e)
numbers_given c head.Chips ns e = sym (only_number ns e)
numbers_given c head.Hextants ns e = sym (only_number ns e)
numbers_given c head.Tables ns e = sym (only_number ns e)
numbers_given c head.Ports ns e = refl
numbers_given c head.Lines ns e = refl
numbers_given c head.Pins ns e = sym (only_number ns e)
numbers_given c head.End ns e = sym (nil_from_length ns e)

-- the form is that of the first line, and stays
form_kept : (c : Said) (h : Head) (ns : List ℕ) → (h ≡ head.Teramac → IsForm (get_or ns 0 0)) → ((h ≡ head.Teramac → ⊥) → IsForm c.form) → IsForm (with_numbers c h ns).form
form_kept c head.Teramac ns new old = new refl
form_kept c head.Modules ns new old = old (λ is. cc)
form_kept c head.Chips ns new old = old (λ is. cc)
form_kept c head.Hextants ns new old = old (λ is. cc)
form_kept c head.Tables ns new old = old (λ is. cc)
form_kept c head.Ports ns new old = old (λ is. cc)
form_kept c head.Lines ns new old = old (λ is. cc)
form_kept c head.Pins ns new old = old (λ is. cc)
form_kept c head.End ns new old = old (λ is. cc)

later : (h : Head) → (h ≡ head.Teramac → ⊥) → 0 < place_of h
later head.Teramac other = absurd (other refl)
later head.Modules other = omega arith
later head.Chips other = omega arith
later head.Hextants other = omega arith
later head.Tables other = omega arith
later head.Ports other = omega arith
later head.Lines other = omega arith
later head.Pins other = omega arith
later head.End other = omega arith

all_and : {A : Type 0} (P : A → Type 0) (xs : List A) (x : A) → AllByRecursion P xs → P x → AllByRecursion P (xs ++ x ∷ [])
all_and P [] x all one = (one, tt)
all_and P (y ∷ ys) x all one = (all.0, all_and P ys x all.1 one)

-- the lines above are the first of a machine's text, and the state is that after them
record Standing (s : State) (above : List LogicalLine) : Type 0 where
  read : s.read ≡ length above
  few : length above ≤ 9
  first : AreFirstLines s.said above

stands_on : (s : State) (above : List LogicalLine) (l : LogicalLine) → Standing s above → (n : Sound s l) → Standing (moved s n.h n.numbers) (above ++ l ∷ [])
stands_on s above l st n = record {
  read = let e = st.read in let more = length-append above (l ∷ []) in omega (arith, e, more);
  few = let e = st.read in let more = length-append above (l ∷ []) in let low = place_below n.h in let at = n.place in omega (arith, e, more, low, at);
  first = record {
    rows =
        map-append (λ l. l.words) above (l ∷ [])
        ∙ (λ i. above_rows i ++ its_row i ∷ [])
        ∙ sym (map-append (count_row d) (take (place_of n.h) heads) (n.h ∷ []))
        ∙ ap (map (count_row d)) (sym taken);
    counts = subst (AllByRecursion (HasCounts d)) (sym taken) (all_and (HasCounts d) (take (place_of n.h) heads) n.h above_counts its_counts);
    form = λ some. form_kept s.said n.h n.numbers n.format (λ other. st.first.form (let e = many in let some_place = later n.h other in omega (arith, e, some_place)));
    shape = λ many_lines. by_last (one_place n.h head.End (let more = length-append above (l ∷ []) in let e = many in let low = place_below n.h in omega (arith, many_lines, more, e, low)));
  };
}
  where
    d : Said
    d = with_numbers s.said n.h n.numbers

    by_last : n.h ≡ head.End → KeepsLimits d
    by_last last = subst KeepsLimits (sym (ap (λ g. with_numbers s.said g n.numbers) last)) (made s.said (n.ready last))

    many : length above ≡ place_of n.h
    many = sym st.read ∙ sym n.place

    taken : take (length (above ++ l ∷ [])) heads ≡ take (place_of n.h) heads ++ n.h ∷ []
    taken =
        ap (λ k. take k heads) (let more = length-append above (l ∷ []) in let e = many in omega (arith, more, e))
        ∙ take_more heads (place_of n.h) head.End (place_below n.h)
        ∙ ap (λ g. take (place_of n.h) heads ++ g ∷ []) (at_place-place_of n.h)

    given : numbers_of d n.h ≡ n.numbers
    given = numbers_given s.said n.h n.numbers n.size

    above_rows : map (λ l. l.words) above ≡ map (count_row d) (take (place_of n.h) heads)
    above_rows = st.first.rows ∙ ap (λ k. map (count_row s.said) (take k heads)) many ∙ sym (kept_rows s.said n.h n.numbers)

    its_row : l.words ≡ count_row d n.h
    its_row = n.words ∙ ap (λ ns. word_of n.h ∷ map decimal ns) (sym given)

    above_counts : AllByRecursion (HasCounts d) (take (place_of n.h) heads)
    above_counts = kept_counts s.said n.h n.numbers (subst (λ k. AllByRecursion (HasCounts s.said) (take k heads)) many st.first.counts)

    its_counts : HasCounts d n.h
    its_counts = (ap length given ∙ n.size, subst AreCounts (sym given) n.small)

-- ---- what is wrong with a line

above_zero : (ns : List ℕ) → AreCounts ns → All (λ n. 0 < n) ns
above_zero ns are k d lt = (are k d lt).0

-- the counts of the eight lines above the last
over_limit : (c : Said) → AllByRecursion (HasCounts c) (take 8 heads) → is_shape c ≡ false → PassesLimit c
over_limit c all e = passed c single (above_zero c.counts.ports all.1.1.1.1.1.0.1) (above_zero c.counts.lines all.1.1.1.1.1.1.0.1) e
  where
    single : All (λ n. 0 < n) (c.counts.modules ∷ c.counts.chips ∷ c.counts.hextants ∷ c.counts.tables ∷ c.counts.pins ∷ [])
    single zero d lt = (all.1.0.1 0 d (omega arith)).0
    single (suc zero) d lt = (all.1.1.0.1 0 d (omega arith)).0
    single (suc (suc zero)) d lt = (all.1.1.1.0.1 0 d (omega arith)).0
    single (suc (suc (suc zero))) d lt = (all.1.1.1.1.0.1 0 d (omega arith)).0
    single (suc (suc (suc (suc zero)))) d lt = (all.1.1.1.1.1.1.1.0.1 0 d (omega arith)).0
    single (suc (suc (suc (suc (suc k))))) d lt = absurd (omega arith)

no_counts : (ws : List (List ℕ)) → list_all is_count ws ≡ false → (ns : List ℕ) → AreCounts ns → ws ≡ map decimal ns → ⊥
no_counts ws e ns are is = false≢true (sym e ∙ ap (list_all is_count) is ∙ some_counts ns are)

by_counts : (c : Said) (h : Head) (ws : List (List ℕ)) (k : MachineKind) → length ws ≡ follow_of h → (h ≡ head.Teramac → ⊥) → counts_fault ws ≡ Some k → IsRestFault c h ws k
by_counts c h ws k sized other e =
    let none = else_some (list_all is_count ws) kind.Number k e in
    subst (IsRestFault c h ws) none.1 (number sized other (no_counts ws none.0))

rest_fault : (c : Said) (h : Head) (ws : List (List ℕ)) (k : MachineKind) → length ws ≡ follow_of h → AllByRecursion (HasCounts c) (take (place_of h) heads) → words_fault c h ws ≡ Some k → IsRestFault c h ws k
rest_fault c head.Teramac ws k sized counts e =
    let other = else_some (is_form (get_or ws 0 [])) kind.Word k e in
    subst (IsRestFault c head.Teramac ws) other.1 (format sized (λ n known is. false≢true (sym other.0 ∙ form_word (get_or ws 0 []) n known (ap (λ v. get_or v 0 []) is))))
rest_fault c head.Modules ws k sized counts e = by_counts c head.Modules ws k sized (λ is. cc) e
rest_fault c head.Chips ws k sized counts e = by_counts c head.Chips ws k sized (λ is. cc) e
rest_fault c head.Hextants ws k sized counts e = by_counts c head.Hextants ws k sized (λ is. cc) e
rest_fault c head.Tables ws k sized counts e = by_counts c head.Tables ws k sized (λ is. cc) e
rest_fault c head.Ports ws k sized counts e = by_counts c head.Ports ws k sized (λ is. cc) e
rest_fault c head.Lines ws k sized counts e = by_counts c head.Lines ws k sized (λ is. cc) e
rest_fault c head.Pins ws k sized counts e = by_counts c head.Pins ws k sized (λ is. cc) e
rest_fault c head.End ws k sized counts e =
    let unshaped = else_some (is_shape c) kind.Limit k e in
    subst (IsRestFault c head.End ws) unshaped.1 (limit (nil_from_length ws sized) (over_limit c counts unshaped.0))

module _ (s : State) (above : List LogicalLine) (st : Standing s above) where
  headed_fault : (ws : List (List ℕ)) (k : MachineKind) → length above < 9 → (o : Option Head) → head_of (get_or ws 0 []) ≡ o → head_fault s o (drop 1 ws) ≡ Some k → IsWordsFault s.said (length above) ws k
  headed_fault ws k low None is e =
      subst (IsWordsFault s.said (length above) ws) (let same : Some kind.Word ≡ Some k = e in cc)
      (unknown low (λ h rest its. some_none (sym is ∙ ap (λ v. head_of (get_or v 0 [])) its ∙ head_of-word_of h)))
    where
      some_none : {h : Head} → None ≡ Some h → ⊥
      some_none e = cc
  headed_fault ws k low (Some h) is e = by_place (if_some (not (place_of h == s.read)) kind.Order k (if not (length (drop 1 ws) == follow_of h) then Some kind.Word else words_fault s.said h (drop 1 ws)) e)
    where
      by_size : place_of h ≡ length above → ((not (length (drop 1 ws) == follow_of h) ≡ true) × (kind.Word ≡ k)) ⊎ ((not (length (drop 1 ws) == follow_of h) ≡ false) × (words_fault s.said h (drop 1 ws) ≡ Some k)) → IsWordsFault s.said (length above) ws k
      by_size at (inl (off, same)) = subst (IsWordsFault s.said (length above) ws) same (due h (drop 1 ws) (word_first ws h is) at (size (λ q. false≢true (sym (not-true _ off) ∙ eq-eqb _ _ q))))
      by_size at (inr (on, fault)) = due h (drop 1 ws) (word_first ws h is) at (rest_fault s.said h (drop 1 ws) k (eqb-true _ _ (not-false _ on)) (subst (λ n. AllByRecursion (HasCounts s.said) (take n heads)) (sym at) st.first.counts) fault)

      by_place : ((not (place_of h == s.read) ≡ true) × (kind.Order ≡ k)) ⊎ ((not (place_of h == s.read) ≡ false) × ((if not (length (drop 1 ws) == follow_of h) then Some kind.Word else words_fault s.said h (drop 1 ws)) ≡ Some k)) → IsWordsFault s.said (length above) ws k
      by_place (inl (off, same)) = subst (IsWordsFault s.said (length above) ws) same (not_due low h (drop 1 ws) (word_first ws h is) (λ q. false≢true (sym (not-true _ off) ∙ eq-eqb _ _ (q ∙ sym st.read))))
      by_place (inr (on, rest)) = by_size (eqb-true _ _ (not-false _ on) ∙ st.read) (if_some (not (length (drop 1 ws) == follow_of h)) kind.Word k (words_fault s.said h (drop 1 ws)) rest)

  spoken_fault : (ws : List (List ℕ)) (k : MachineKind) → said_fault s ws ≡ Some k → IsWordsFault s.said (length above) ws k
  spoken_fault ws k e = by (if_some (nat_lt 8 s.read) kind.After k (head_fault s (head_of (get_or ws 0 [])) (drop 1 ws)) e)
    where
      not_past : nat_lt 8 s.read ≡ false → length above < 9
      not_past within = let e = st.read in let le = ltb-false 8 s.read within in omega (arith, e, le)

      by : ((nat_lt 8 s.read ≡ true) × (kind.After ≡ k)) ⊎ ((nat_lt 8 s.read ≡ false) × (head_fault s (head_of (get_or ws 0 [])) (drop 1 ws) ≡ Some k)) → IsWordsFault s.said (length above) ws k
      by (inl (past, same)) = subst (IsWordsFault s.said (length above) ws) same (over (let lt = ltb-true 8 s.read past in let e = st.read in let few = st.few in omega (arith, lt, e, few)))
      by (inr (within, rest)) = headed_fault ws k (not_past within) (head_of (get_or ws 0 [])) refl rest

  line_fault : (l : LogicalLine) (k : MachineKind) → fault_of s l ≡ Some k → IsLineFault s.said (length above) l k
  line_fault l k e = by (if_some (is_bad_line l) kind.Byte k (said_fault s l.words) e)
    where
      by : ((is_bad_line l ≡ true) × (kind.Byte ≡ k)) ⊎ ((is_bad_line l ≡ false) × (said_fault s l.words ≡ Some k)) → IsLineFault s.said (length above) l k
      by (inl (is, same)) = subst (IsLineFault s.said (length above) l) same (bad is)
      by (inr (good, rest)) = words good (spoken_fault l.words k rest)

-- ---- the first fault

ended : (b : Bool) (c : Said) (n : ℕ) (k : MachineKind) → ◌≡◌ {A = Result Said (ℕ × MachineKind)} (if b then Err (0, kind.Missing) else Ok c) (Err (n, k)) → (b ≡ true) × (n ≡ 0) × (k ≡ kind.Missing)
ended true c n k e = let same : ◌≡◌ {A = ℕ × MachineKind} (0, kind.Missing) (n, k) = cc in (refl, sym (ap (λ (p : ℕ × MachineKind). p.0) same), sym (ap (λ (p : ℕ × MachineKind). p.1) same))
ended false c n k e = absurd cc

pub stopped : (j : ℕ) (h : MachineKind) (n : ℕ) (k : MachineKind) → ◌≡◌ {A = Result Said (ℕ × MachineKind)} (Err (j, h)) (Err (n, k)) → (j ≡ n) × (h ≡ k)
stopped j h n k e = let same : ◌≡◌ {A = ℕ × MachineKind} (j, h) (n, k) = cc in (ap (λ (p : ℕ × MachineKind). p.0) same, ap (λ (p : ℕ × MachineKind). p.1) same)

first_from : (s : State) (above left lines : List LogicalLine) (n : ℕ) (k : MachineKind) → above ++ left ≡ lines → Standing s above → reading s left ≡ Err (n, k) → IsFirstFault lines n k
unfolding reading
first_from s above [] lines n k parts st e =
    let end = ended (nat_lt s.read 9) s.said n k e in
    let all : above ≡ lines = sym (append-nil above) ∙ parts in
    let low : length above < 9 = let lt = ltb-true s.read 9 end.0 in let r = st.read in omega (arith, lt, r) in
    subst (λ j. IsFirstFault lines j k) (sym end.1) (subst (IsFirstFault lines 0) (sym end.2) (at_end s.said (subst (AreFirstLines s.said) all st.first) (subst (λ ls. length ls < 9) all low)))
first_from s above (l ∷ left) lines n k parts st e = by (fault_of s l) refl e (λ t more its stands rest. first_from t more left lines n k its stands rest)
  where
    by : (o : Option MachineKind) → fault_of s l ≡ o → if_sound l.number o (reading (after s l.words) left) ≡ Err (n, k) →
        ((t : State) (more : List LogicalLine) → more ++ left ≡ lines → Standing t more → reading t left ≡ Err (n, k) → IsFirstFault lines n k) → IsFirstFault lines n k
    by (Some j) is e on =
        let same = stopped l.number j n k e in
        subst (λ m. IsFirstFault lines m k) same.0 (subst (IsFirstFault lines l.number) same.1 (at_line s.said above l left parts st.first (line_fault s above st l j is)))
    by None is e on =
        let line = sound_line s l is in
        on (moved s line.h line.numbers) (above ++ l ∷ []) (append_assoc above (l ∷ []) left ∙ parts) (stands_on s above l st line) (subst (λ t. reading t left ≡ Err (n, k)) line.moves e)

pub first_of : (lines : List LogicalLine) (n : ℕ) (k : MachineKind) → reading start lines ≡ Err (n, k) → IsFirstFault lines n k
first_of lines n k e = first_from start [] lines lines n k refl (record { read = refl; few = omega arith; first = record { rows = refl; counts = tt; form = λ lt. absurd (omega (arith, lt)); shape = λ lt. absurd (omega (arith, lt)) } }) e

pub refused_is : (bytes : List ℕ) (fault : MachineFault) → length bytes ≤ most_bytes → IsReadFault (logical_lines false bytes) fault → IsRefusedAs bytes fault
refused_is bytes Memory few h = tt
refused_is bytes (At line kind) few h = inr (few, first_of (logical_lines false bytes) line kind h)
