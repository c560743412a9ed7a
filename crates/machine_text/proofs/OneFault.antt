-- A text has one first fault: reading comes to it.
use Rattle.std.proofs.Common.{◌≡◌, ◌≢◌, ℕ, zero, suc, ◌+◌, ◌++◌, ◌<◌, ◌==◌, true, false, not, nat_lt, List, [], ◌∷◌, Option, Some, None, Ok, Err, length, map, drop, take, get_or, refl, sym, ap, ◌∙◌, subst, arith, inl, inr, ◌⊎◌, if◌then◌else◌}
use Rattle.machine_text.proofs.Vocabulary.{decimal, list_all, AllByRecursion, LogicalLine, Head, MachineKind, heads, word_of, place_of}
use Rattle.machine_text.proofs.Vocabulary.{follow_of, head_of, Said, IsForm, KeepsLimits, numbers_of, count_row}
use Rattle.std.proofs.lemmas.Bool.{cases_Bool, ltb-true, ltb-false, lt-ltb, eq-eqb, eqb-true, false≢true}
use Rattle.std.proofs.lemmas.List.{nil_from_length, length-map, append-nil, take-take}
use Rattle.machine_text.specs.declared.head.Head.TheVariants as head
use Rattle.machine_text.specs.declared.kind.MachineKind.TheVariants as kind
use Rattle.machine_text.specs.Faults.{AreCounts, HasCounts, AreFirstLines, PassesLimit, IsRestFault, size, format, number, limit, IsWordsFault, over, unknown, not_due, due, IsLineFault, bad, words, IsFirstFault, at_line, at_end}
use Rattle.machine_text.specs.Reading.{State, start, is_count, is_form, words_fault, said_fault, fault_of, after, if_sound, reading, is_shape}
use Rattle.machine_text.proofs.CountLemmas.{form_parts, is_shape-made, no_shape}
use Rattle.machine_text.proofs.GrammarLemmas.{place_below, word_first, head_of-word_of, moved, IsReady, not_past, row_sound, after_row, counts_are, one_word}
use Rattle.machine_text.proofs.FaultLemmas.{stopped}

-- ---- right lines are read

module _ (c : Said) where
  -- the state after lines of these kinds
  abbrev after_heads : State → List Head → State
  after_heads s [] = s
  after_heads s (h ∷ hs) = after_heads (moved s h (numbers_of c h)) hs

  -- each stands in its place, and at the last line the counts make a shape
  abbrev Fits : State → List Head → Type 0
  Fits s [] = Unit {0}
  Fits s (h ∷ hs) = (s.read ≡ place_of h) × (IsReady c s.said h × Fits (moved s h (numbers_of c h)) hs)

  fits_take : (n : ℕ) (s : State) (hs : List Head) → Fits s hs → Fits s (take n hs)
  fits_take zero s hs f = tt
  fits_take (suc n) s [] f = tt
  fits_take (suc n) s (h ∷ hs) f = (f.0, (f.1.0, fits_take n (moved s h (numbers_of c h)) hs f.1.1))

  eight_fit : IsForm c.form → Fits start (take 8 heads)
  eight_fit known = (refl, (known, (refl, (tt, (refl, (tt, (refl, (tt, (refl, (tt, (refl, (tt, (refl, (tt, (refl, (tt, tt))))))))))))))))

  nine_fit : IsForm c.form → is_shape c ≡ true → Fits start heads
  nine_fit known e = (refl, (known, (refl, (tt, (refl, (tt, (refl, (tt, (refl, (tt, (refl, (tt, (refl, (tt, (refl, (tt, (refl, (e, tt))))))))))))))))))

  fit : (n : ℕ) → (0 < n → IsForm c.form) → (8 < n → KeepsLimits c) → Fits start (take n heads)
  fit zero form shape = tt
  fit (suc n) form shape = by (cases_Bool (nat_lt 8 (suc n)))
    where
      known : IsForm c.form
      known = form (omega arith)

      by : (nat_lt 8 (suc n) ≡ true) ⊎ (nat_lt 8 (suc n) ≡ false) → Fits start (take (suc n) heads)
      by (inl past) = fits_take (suc n) start heads (nine_fit known (is_shape-made c (shape (ltb-true 8 (suc n) past))))
      by (inr within) = subst (Fits start) (take-take (suc n) 8 heads (ltb-false 8 (suc n) within)) (fits_take (suc n) start (take 8 heads) (eight_fit known))

  read_after : (s : State) (hs : List Head) → (after_heads s hs).read ≡ s.read + length hs
  read_after s [] = omega arith
  read_after s (h ∷ hs) = let e = read_after (moved s h (numbers_of c h)) hs in omega (arith, e)

  walk : (s : State) (hs : List Head) (above rest : List LogicalLine) → map (λ l. l.words) above ≡ map (count_row c) hs → AllByRecursion (HasCounts c) hs → Fits s hs → reading s (above ++ rest) ≡ reading (after_heads s hs) rest
  unfolding reading
  walk s [] [] rest e has fits = refl
  walk s [] (l ∷ ls) rest e has fits = absurd cc
  walk s (h ∷ hs) [] rest e has fits = absurd cc
  walk s (h ∷ hs) (l ∷ ls) rest e has fits =
      let its : l.words ≡ count_row c h = cc in
      let others : map (λ l. l.words) ls ≡ map (count_row c) hs = cc in
      ap (λ f. if_sound l.number f (reading (after s l.words) (ls ++ rest))) (row_sound s c h l its fits.0 has.0.0 has.0.1 fits.1.0)
      ∙ ap (λ t. reading t (ls ++ rest)) (after_row s c h l.words its has.0.1)
      ∙ walk (moved s h (numbers_of c h)) hs ls rest others has.1 fits.1.1

  module _ (above : List LogicalLine) (first : AreFirstLines c above) where
    abbrev stood : State
    stood = after_heads start (take (length above) heads)

    many : length (take (length above) heads) ≡ length above
    many = sym (length-map (take (length above) heads) (count_row c)) ∙ sym (ap length first.rows) ∙ length-map above (λ l. l.words)

    read_is : stood.read ≡ length above
    read_is = let e = read_after start (take (length above) heads) in let m = many in omega (arith, e, m)

    on : (rest : List LogicalLine) → reading start (above ++ rest) ≡ reading stood rest
    on rest = walk start (take (length above) heads) above rest first.rows first.counts (fit (length above) first.form first.shape)

    counts_at_last : length above ≡ 8 → stood.said ≡ c
    counts_at_last e = ap (λ n. (after_heads start (take n heads)).said) e

    -- ---- a fault is read

    not_equal : (a b : ℕ) → a ≢ b → (a == b) ≡ false
    not_equal a b other = elim (cases_Bool (a == b)) [ inl is ↦ absurd (other (eqb-true a b is)) | inr is ↦ is ]

    some_head : (ws : List (List ℕ)) (h : Head) (rest : List (List ℕ)) → ws ≡ word_of h ∷ rest → head_of (get_or ws 0 []) ≡ Some h
    some_head ws h rest is = ap (λ v. head_of (get_or v 0 [])) is ∙ head_of-word_of h

    no_head : (ws : List (List ℕ)) → ((h : Head) (rest : List (List ℕ)) → ws ≢ word_of h ∷ rest) → (o : Option Head) → head_of (get_or ws 0 []) ≡ o → head_of (get_or ws 0 []) ≡ None
    no_head ws none None e = e
    no_head ws none (Some h) e = absurd (none h (drop 1 ws) (word_first ws h e))

    unformed : (rest : List (List ℕ)) → length rest ≡ 1 → ((n : ℕ) → IsForm n → rest ≢ decimal n ∷ []) → is_form (get_or rest 0 []) ≡ false
    unformed rest sized other = elim (cases_Bool (is_form (get_or rest 0 []))) [
      | inl is ↦ let parts = form_parts (get_or rest 0 []) is in absurd (other _ parts.2 (one_word rest sized ∙ ap (λ w. w ∷ []) parts.1))
      | inr is ↦ is
    ]

    uncounted : (rest : List (List ℕ)) → ((ns : List ℕ) → AreCounts ns → rest ≢ map decimal ns) → list_all is_count rest ≡ false
    uncounted rest none = elim (cases_Bool (list_all is_count rest)) [
      | inl is ↦ let are = counts_are rest is in absurd (none _ are.1 are.0)
      | inr is ↦ is
    ]

    no_number : (d : Said) (h : Head) (rest : List (List ℕ)) → length rest ≡ follow_of h → h ≢ head.Teramac → list_all is_count rest ≡ false → words_fault d h rest ≡ Some kind.Number
    no_number d head.Teramac rest sized other e = absurd (other refl)
    no_number d head.Modules rest sized other e = rw e refl
    no_number d head.Chips rest sized other e = rw e refl
    no_number d head.Hextants rest sized other e = rw e refl
    no_number d head.Tables rest sized other e = rw e refl
    no_number d head.Ports rest sized other e = rw e refl
    no_number d head.Lines rest sized other e = rw e refl
    no_number d head.Pins rest sized other e = rw e refl
    no_number d head.End rest sized other e = absurd (false≢true (sym e ∙ ap (list_all is_count) (nil_from_length rest sized)))

    -- of words behind the first that are as many as they are to be
    sized_fault : {h : Head} {rest : List (List ℕ)} {k : MachineKind} → place_of h ≡ length above → IsRestFault c h rest k → (if not (length rest == follow_of h) then Some kind.Word else words_fault stood.said h rest) ≡ Some k
    sized_fault {h} {rest} at (size other) = rw (not_equal (length rest) (follow_of h) other) refl
    sized_fault {rest = rest} at (format sized other) =
        ap (λ t. if not t then Some kind.Word else words_fault stood.said head.Teramac rest) (eq-eqb (length rest) 1 sized)
        ∙ ap (λ t. if t then None else Some kind.Word) (unformed rest sized other)
    sized_fault {h} {rest} at (number sized other none) = rw (eq-eqb (length rest) (follow_of h) sized) (no_number stood.said h rest sized other (uncounted rest none))
    sized_fault {rest = rest} at (limit nil passes) =
        rw (eq-eqb (length rest) 0 (ap length nil), no_shape stood.said (subst PassesLimit (sym (counts_at_last (sym at))) passes)) refl

    words_read : {ws : List (List ℕ)} {k : MachineKind} → IsWordsFault c (length above) ws k → said_fault stood ws ≡ Some k
    words_read (over e) = let r = read_is in rw (lt-ltb 8 stood.read (omega (arith, e, r))) refl
    words_read {ws} (unknown low none) =
        let r = read_is in
        rw (not_past stood.read (omega (arith, low, r)), no_head ws none (head_of (get_or ws 0 [])) refl) refl
    words_read {ws} (not_due low h rest is other) =
        let r = read_is in
        rw (not_past stood.read (omega (arith, low, r)), some_head ws h rest is, not_equal (place_of h) stood.read (λ e. other (e ∙ r))) refl
    words_read {ws} {k} (due h rest is at fault) =
        let r = read_is in
        let low = place_below h in
        rw (not_past stood.read (omega (arith, low, r, at)), some_head ws h rest is, eq-eqb (place_of h) stood.read (at ∙ sym r))
        (subst (λ v. (if not (length v == follow_of h) then Some kind.Word else words_fault stood.said h v) ≡ Some k) (sym (ap (drop 1) is)) (sized_fault at fault))

    line_read : {l : LogicalLine} {k : MachineKind} → IsLineFault c (length above) l k → fault_of stood l ≡ Some k
    line_read (bad is) = rw is refl
    line_read (words good fault) = rw good (words_read fault)

    at_line_read : (l : LogicalLine) (below : List LogicalLine) (k : MachineKind) → IsLineFault c (length above) l k → reading start (above ++ l ∷ below) ≡ Err (l.number, k)
    unfolding reading
    at_line_read l below k fault = on (l ∷ below) ∙ ap (λ f. if_sound l.number f (reading (after stood l.words) below)) (line_read fault)

    at_end_read : length above < 9 → reading start above ≡ Err (0, kind.Missing)
    unfolding reading
    at_end_read low = ap (reading start) (sym (append-nil above)) ∙ on [] ∙ ap (λ t. if t then Err (0, kind.Missing) else Ok stood.said) (let r = read_is in lt-ltb stood.read 9 (omega (arith, low, r)))

pub fault_read : (lines : List LogicalLine) (n : ℕ) (k : MachineKind) → IsFirstFault lines n k → reading start lines ≡ Err (n, k)
fault_read lines n k (at_line c above line below parts first fault) = subst (λ ls. reading start ls ≡ Err (line.number, k)) parts (at_line_read c above first line below k fault)
fault_read lines n k (at_end c first low) = at_end_read c lines first low

pub one_fault : (lines : List LogicalLine) (n m : ℕ) (k j : MachineKind) → IsFirstFault lines n k → IsFirstFault lines m j → (n ≡ m) × (k ≡ j)
one_fault lines n m k j p q = stopped n k m j (sym (fault_read lines n k p) ∙ fault_read lines m j q)
