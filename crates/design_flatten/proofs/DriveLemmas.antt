-- The words that drive, with a word more.
use Rattle.std.proofs.Common.{◌≡◌, ℕ, zero, suc, ◌+◌, ◌<◌, ◌≤◌, ◌==◌, ◌&&◌, nat_lt, cond, eqb, Bool, true, false, List, [], ◌∷◌, ◌++◌, Option, None, Some, length, length-append, refl, sym, ap, subst, ◌∙◌, arith, inl, inr, ◌⊎◌, set, option_map}
use Rattle.std.proofs.lemmas.Bool.{cases_eq, cases_lt, ltb-true, ltb-false, eqb-true, eq-eqb, or_parts, or_cases, and_parts}
use Rattle.std.proofs.lemmas.List.{get_or_append_left, get_or-set_same, get_or-set_other}
use Rattle.design_flatten.proofs.Vocabulary.{get_or-append_seam, PortDef, not_itself, first_more, first_all, Driver}
use Rattle.design_netlist.specs.Vocabulary.{IsBefore, IsFirst, is_sooner, word, word_at, signal_at, line_at, IsDoubledIn, place_at, AreFirstWords}
use Rattle.design_flatten.specs.declared.drives.Drives.{Drives}
use Rattle.design_flatten.specs.Drives.{IsFirstWord, first_at, AreDrives, places_of, is_nearer, nearest, first_with, doubled_with}
use Rattle.design_flatten.proofs.FirstLemmas.{Comes, comes_comes, before_to, before_from, first_to}

-- ---- the table

pub push_none : (xs : List (Option Driver)) (s : ℕ) → first_at (xs ++ None ∷ []) s ≡ first_at xs s
push_none [] zero = refl
push_none [] (suc s) = refl
push_none (x ∷ xs) zero = refl
push_none (x ∷ xs) (suc s) = push_none xs s

pub set_at : (xs : List (Option Driver)) (i s : ℕ) (f : Driver) → i < length xs → first_at (set xs i (Some f)) s ≡ cond (eqb s i) (Some f) (first_at xs s)
set_at xs i s f lt = elim (cases_eq s i) [
  | inl e ↦ ap (λ k. first_at (set xs i (Some f)) k) e ∙ get_or-set_same xs i (Some f) None lt ∙ sym (ap (λ b. cond b (Some f) (first_at xs s)) (eq-eqb s i e))
  | inr n ↦ get_or-set_other xs i s (Some f) None n ∙ sym (other (eqb s i) refl n)
]
  where
    other : (b : Bool) → eqb s i ≡ b → (s ≡ i → ⊥) → cond b (Some f) (first_at xs s) ≡ first_at xs s
    other true e n = absurd (n (eqb-true s i e))
    other false e n = refl

-- ---- which of two comes first

module _ (line : ℕ → ℕ) where
  abbrev pub place_in : Option Driver → Option ℕ
  place_in found = option_map (λ (d : Driver). d.place) found

  -- the word stands at its place
  abbrev pub IsOn : Driver → Type 0
  IsOn d = d.word.line ≡ line d.place

  abbrev pub AreOn : Option Driver → Type 0
  AreOn None = Unit {0}
  AreOn (Some d) = IsOn d

  nearer_is : (a b : Driver) → IsOn a → IsOn b → is_nearer a b ≡ true → IsBefore line a.place b.place
  nearer_is a b at_a at_b h = elim (or_cases (nat_lt a.word.line b.word.line) ((a.word.line == b.word.line) && nat_lt a.place b.place) h) [
    | inl lt ↦ inl (omega (arith, ltb-true _ _ lt, at_a, at_b))
    | inr both ↦
        let two = and_parts (a.word.line == b.word.line) (nat_lt a.place b.place) both in
        inr (sym at_a ∙ eqb-true a.word.line b.word.line two.0 ∙ at_b, ltb-true _ _ two.1)
  ]

  not_nearer : (a b : Driver) → IsOn a → IsOn b → is_nearer a b ≡ false → Comes line b.place a.place
  not_nearer a b at_a at_b h =
      let two = or_parts (nat_lt a.word.line b.word.line) ((a.word.line == b.word.line) && nat_lt a.place b.place) h in
      elim (cases_eq a.word.line b.word.line) [
        | inr n ↦ elim (cases_lt b.word.line a.word.line) [
          | inl lt ↦ inr (inl (omega (arith, lt, at_a, at_b)))
          | inr le ↦ absurd (n (omega (arith, le, ltb-false _ _ two.0)))
        ]
        | inl e ↦
            let le = ltb-false _ _ (sym (ap (λ t. t && nat_lt a.place b.place) (eq-eqb a.word.line b.word.line e)) ∙ two.1) in
            elim (cases_eq a.place b.place) [
              | inl same ↦ inl same
              | inr n ↦ inr (inr (sym at_b ∙ sym e ∙ at_a, by le n))
            ]
      ]
    where
      by : b.place ≤ a.place → (a.place ≡ b.place → ⊥) → b.place < a.place
      by le n = elim (cases_lt b.place a.place) [ inl lt ↦ lt | inr ge ↦ absurd (n (omega arith)) ]

  -- what holds of a place is one of two things, and the first of each is known
  module _ (count : ℕ) (A B D : ℕ → Type 0) (of_a : (k : ℕ) → k < count → A k → D k) (of_b : (k : ℕ) → k < count → B k → D k) (from : (k : ℕ) → k < count → D k → A k ⊎ B k) where
    pub first_of_two : (a b : Option Driver) → AreOn a → AreOn b → IsFirst line count A (place_in a) → IsFirst line count B (place_in b) → IsFirst line count D (place_in (nearest a b))
    first_of_two None None at_a at_b ha hb = λ k lt d. elim (from k lt d) [ inl x ↦ ha k lt x | inr y ↦ hb k lt y ]
    first_of_two None (Some b) at_a at_b ha hb = (hb.0, of_b b.place hb.0 hb.1, λ k lt d. elim (from k lt d) [ inl x ↦ absurd (ha k lt x) | inr y ↦ hb.2 k lt y ])
    first_of_two (Some a) None at_a at_b ha hb = (ha.0, of_a a.place ha.0 ha.1, λ k lt d. elim (from k lt d) [ inl x ↦ ha.2 k lt x | inr y ↦ absurd (hb k lt y) ])
    first_of_two (Some a) (Some b) at_a at_b ha hb = by (is_nearer b a) refl
      where
        by : (t : Bool) → is_nearer b a ≡ t → IsFirst line count D (place_in (cond t (Some b) (Some a)))
        by true e = (
          hb.0,
          of_b b.place hb.0 hb.1,
          λ k lt d. elim (from k lt d) [
            | inl x ↦ comes_comes line b.place a.place k (inr (nearer_is b a at_b at_a e)) (ha.2 k lt x)
            | inr y ↦ hb.2 k lt y
          ],
        )
        by false e = (
          ha.0,
          of_a a.place ha.0 ha.1,
          λ k lt d. elim (from k lt d) [
            | inl x ↦ ha.2 k lt x
            | inr y ↦ comes_comes line a.place b.place k (not_nearer b a at_b at_a e) (hb.2 k lt y)
          ],
        )

-- ---- a word more

module _ (words : List PortDef) (w : PortDef) where
  abbrev more : List PortDef
  more = words ++ w ∷ []

  abbrev n : ℕ
  n = length words

  abbrev L : ℕ → ℕ
  L = line_at words

  abbrev M : ℕ → ℕ
  M = line_at more

  abbrev last : Driver
  last = record { word = w; place = n }

  longer : n + 1 ≡ length more
  longer = sym (length-append words (w ∷ []))

  old_word : (k : ℕ) → k < n → word_at more k ≡ word_at words k
  old_word k lt = get_or_append_left words (w ∷ []) (word 0 0) k lt

  new_word : word_at more n ≡ w
  new_word = get_or-append_seam words w [] (word 0 0)

  old_line : (k : ℕ) → k < n → M k ≡ L k
  old_line k lt = ap (λ (x : PortDef). x.line) (old_word k lt)

  new_line : M n ≡ w.line
  new_line = ap (λ (x : PortDef). x.line) new_word

  old_signal : (k : ℕ) → k < n → signal_at more k ≡ signal_at words k
  old_signal k lt = ap (λ (x : PortDef). x.signal) (old_word k lt)

  new_signal : signal_at more n ≡ w.signal
  new_signal = ap (λ (x : PortDef). x.signal) new_word

  abbrev Has : ℕ → ℕ → Type 0
  Has s k = signal_at words k ≡ s

  abbrev HasMore : ℕ → ℕ → Type 0
  HasMore s k = signal_at more k ≡ s

  has_to : (s : ℕ) (found : Option ℕ) → IsFirst L n (Has s) found → IsFirst M n (HasMore s) found
  has_to s found h = first_to n L M old_line (Has s) (HasMore s) found (λ k lt e. old_signal k lt ∙ e) (λ k lt e. sym (old_signal k lt) ∙ e) h

  -- the first of its signal
  pub first_is : (f : Option Driver) → IsFirstWord words (Has w.signal) f → IsFirstWord more (HasMore w.signal) (Some (first_with f last))
  first_is None h = (
    first_all M (HasMore w.signal) (length more) (n + 1) (Some n) longer (first_more M (HasMore w.signal) n None true true (has_to w.signal None h) (λ e. new_signal) (λ p. refl) refl),
    sym new_word,
  )
  first_is (Some f) h =
      let lf = h.0.0 in
      let at : f.word.line ≡ M f.place = ap (λ (x : PortDef). x.line) h.1 ∙ sym (old_line f.place lf) in
      let tests : nat_lt w.line f.word.line ≡ is_sooner M n (Some f.place) = (λ i. nat_lt (sym new_line i) (at i)) in
      by (nat_lt w.line f.word.line) lf (first_all M (HasMore w.signal) (length more) (n + 1) _ longer (first_more M (HasMore w.signal) n (Some f.place) true (nat_lt w.line f.word.line) (has_to w.signal (Some f.place) h.0) (λ e. new_signal) (λ p. refl) tests))
    where
      by : (t : Bool) → f.place < n → IsFirst M (length more) (HasMore w.signal) (cond t (Some n) (Some f.place)) → IsFirstWord more (HasMore w.signal) (Some (cond t last f))
      by true lf first = (first, sym new_word)
      by false lf first = (first, h.1 ∙ sym (old_word f.place lf))

  -- the first of another
  pub first_stays : (s : ℕ) (f : Option Driver) → (w.signal ≡ s → ⊥) → IsFirstWord words (Has s) f → IsFirstWord more (HasMore s) f
  first_stays s None other h =
      first_all M (HasMore s) (length more) (n + 1) None longer (first_more M (HasMore s) n None false true (has_to s None h) (λ e. absurd (let no : false ≡ true = e in cc)) (λ p. absurd (other (sym new_signal ∙ p))) refl)
  first_stays s (Some f) other h = (
    first_all M (HasMore s) (length more) (n + 1) (Some f.place) longer (first_more M (HasMore s) n (Some f.place) false (is_sooner M n (Some f.place)) (has_to s (Some f.place) h.0) (λ e. absurd (let no : false ≡ true = e in cc)) (λ p. absurd (other (sym new_signal ∙ p))) refl),
    h.1 ∙ sym (old_word f.place h.0.0),
  )

  -- ---- which are doubled

  abbrev Was : ℕ → Type 0
  Was k = (k < n) × IsDoubledIn words k

  module _ (f : Option Driver) (first : IsFirstWord words (Has w.signal) f) where
    abbrev Newly : ℕ → Type 0
    Newly k = place_in M (doubled_with f last) ≡ Some k

    was_is : (k : ℕ) → k < n + 1 → Was k → IsDoubledIn more k
    was_is k lt h =
        let d = h.1 in
        let lj = d.1 in
        (d.0, omega (arith, lj, longer), before_to n L M old_line d.0 k lj h.0 d.2, old_signal d.0 lj ∙ d.3 ∙ sym (old_signal k h.0))

    newly_is : (g : Option Driver) → IsFirstWord words (Has w.signal) g → (k : ℕ) → k < n + 1 → place_in M (doubled_with g last) ≡ Some k → IsDoubledIn more k
    newly_is None h k lt e = absurd cc
    newly_is (Some g) h k lt e =
        let lg = h.0.0 in
        let at : g.word.line ≡ M g.place = ap (λ (x : PortDef). x.line) h.1 ∙ sym (old_line g.place lg) in
        let has : signal_at more g.place ≡ w.signal = old_signal g.place lg ∙ h.0.1 in
        by (nat_lt w.line g.word.line) refl e lg at has
      where
        by : (t : Bool) → nat_lt w.line g.word.line ≡ t → place_in M (cond t (Some g) (Some last)) ≡ Some k → g.place < n → g.word.line ≡ M g.place → signal_at more g.place ≡ w.signal → IsDoubledIn more k
        by true test e lg at has =
            let is : g.place ≡ k = cc in
            let lt = ltb-true _ _ test in
            subst (λ x. IsDoubledIn more x) is (n, omega (arith, longer), inl (omega (arith, new_line, at, lt)), new_signal ∙ sym has)
        by false test e lg at has =
            let is : n ≡ k = cc in
            let le = ltb-false _ _ test in
            subst (λ x. IsDoubledIn more x) is (g.place, omega (arith, longer, lg), behind le at lg, has ∙ sym new_signal)
          where
            behind : g.word.line ≤ w.line → g.word.line ≡ M g.place → g.place < n → IsBefore M g.place n
            behind le at lg = elim (cases_lt g.word.line w.line) [
              | inl lt ↦ inl (omega (arith, lt, new_line, at))
              | inr ge ↦ inr (omega (arith, ge, le, new_line, at), lg)
            ]

    -- a word that the new one makes doubled, or the new one
    one_of_both : (g : Option Driver) → IsFirstWord words (Has w.signal) g → (k : ℕ) → k < n + 1 → IsDoubledIn more k → Was k ⊎ (place_in M (doubled_with g last) ≡ Some k)
    one_of_both g h k lt d = elim (cases_eq k n) [
      | inl e ↦ inr (at_end g h e)
      | inr other ↦ elim (cases_eq d.0 n) [ inl e ↦ by_end g h (omega (arith, lt, below other)) e | inr inner ↦ inl (both (below other) (inside inner)) ]
    ]
      where
        below : (k ≡ n → ⊥) → k < n
        below other = elim (cases_lt k n) [ inl l ↦ l | inr ge ↦ absurd (other (omega arith)) ]

        inside : (d.0 ≡ n → ⊥) → d.0 < n
        inside inner = let lj = d.1 in elim (cases_lt d.0 n) [ inl l ↦ l | inr ge ↦ absurd (inner (omega (arith, lj, longer))) ]

        both : k < n → d.0 < n → Was k
        both lk lj = (lk, (d.0, lj, before_from n L M old_line d.0 k lj lk d.2, sym (old_signal d.0 lj) ∙ d.3 ∙ old_signal k lk))

        not_later : (j : ℕ) → IsBefore M j k → k ≡ n → M j ≤ w.line
        not_later j (inl b) e = omega (arith, ap M e, new_line)
        not_later j (inr b) e = let same = b.0 in omega (arith, same, ap M e, new_line)

        at_end : (g : Option Driver) → IsFirstWord words (Has w.signal) g → k ≡ n → place_in M (doubled_with g last) ≡ Some k
        at_end g h e =
            let lj = inside (λ i. not_itself M k (subst (λ x. IsBefore M x k) (i ∙ sym e) d.2)) in
            let has : signal_at words d.0 ≡ w.signal = sym (old_signal d.0 lj) ∙ d.3 ∙ ap (signal_at more) e ∙ new_signal in
            let le = not_later d.0 d.2 e in
            by g h (omega (arith, le, old_line d.0 lj)) lj has
          where
            by : (g : Option Driver) → IsFirstWord words (Has w.signal) g → L d.0 ≤ w.line → d.0 < n → signal_at words d.0 ≡ w.signal → place_in M (doubled_with g last) ≡ Some k
            by None h le lj has = absurd (h d.0 lj has)
            by (Some g) h le lj has = to (nat_lt w.line g.word.line) refl (no_later (h.0.2 d.0 lj has))
              where
                no_later : Comes L g.place d.0 → g.word.line ≤ w.line
                no_later (inl i) = omega (arith, ap L i, le, ap (λ (x : PortDef). x.line) h.1)
                no_later (inr (inl b)) = omega (arith, b, le, ap (λ (x : PortDef). x.line) h.1)
                no_later (inr (inr b)) = let same = b.0 in omega (arith, same, le, ap (λ (x : PortDef). x.line) h.1)

                to : (t : Bool) → nat_lt w.line g.word.line ≡ t → g.word.line ≤ w.line → place_in M (cond t (Some g) (Some last)) ≡ Some k
                to true test low = absurd (let l = ltb-true _ _ test in let no : ⊥ = omega (arith, l, low) in no)
                to false test low = ap Some (sym e)

        by_end : (g : Option Driver) → IsFirstWord words (Has w.signal) g → k < n → d.0 ≡ n → Was k ⊎ (place_in M (doubled_with g last) ≡ Some k)
        by_end g h lk e =
            let has : signal_at words k ≡ w.signal = sym (old_signal k lk) ∙ sym d.3 ∙ ap (signal_at more) e ∙ new_signal in
            by g h lk has (lower (subst (λ x. IsBefore M x k) e d.2) lk)
          where
            lower : IsBefore M n k → k < n → w.line < L k
            lower (inl b) lk = omega (arith, b, new_line, old_line k lk)
            lower (inr b) lk = absurd (let l = b.1 in let no : ⊥ = omega (arith, l, lk) in no)

            by : (g : Option Driver) → IsFirstWord words (Has w.signal) g → k < n → signal_at words k ≡ w.signal → w.line < L k → Was k ⊎ (place_in M (doubled_with g last) ≡ Some k)
            by None h lk has low = absurd (h k lk has)
            by (Some g) h lk has low = at_place (h.0.2 k lk has)
              where
                at_place : Comes L g.place k → Was k ⊎ (place_in M (doubled_with (Some g) last) ≡ Some k)
                at_place (inr b) = inl (lk, (g.place, h.0.0, b, h.0.1 ∙ sym has))
                at_place (inl i) = inr (to (nat_lt w.line g.word.line) refl)
                  where
                    to : (t : Bool) → nat_lt w.line g.word.line ≡ t → place_in M (cond t (Some g) (Some last)) ≡ Some k
                    to true test = ap Some (sym i)
                    to false test = absurd (let l = ltb-false _ _ test in let no : ⊥ = omega (arith, l, low, ap L i, ap (λ (x : PortDef). x.line) h.1) in no)

    -- ---- the first of them

    was_first : (o : Option Driver) → IsFirstWord words (IsDoubledIn words) o → IsFirst M (n + 1) Was (place_in M o)
    was_first None h = λ k lt a. h k a.0 a.1
    was_first (Some o) h =
        let lo = h.0.0 in
        (omega (arith, lo), (lo, h.0.1), λ k lt a. elim (h.0.2 k a.0 a.1) [ inl e ↦ inl e | inr b ↦ inr (before_to n L M old_line o.place k lo a.0 b) ])

    abbrev Fits : Option Driver → Type 0
    Fits None = Unit {0}
    Fits (Some c) = (c.place < n + 1) × (c.word ≡ word_at more c.place)

    only_one : (c : Option Driver) → Fits c → IsFirst M (n + 1) (λ k. place_in M c ≡ Some k) (place_in M c)
    only_one None fits = λ k lt e. absurd cc
    only_one (Some c) fits = (fits.0, refl, λ k lt e. inl (let is : k ≡ c.place = cc in is))

    fits_old : (P : ℕ → Type 0) (o : Option Driver) → IsFirstWord words P o → Fits o
    fits_old P None h = tt
    fits_old P (Some o) h = let lo = h.0.0 in (omega (arith, lo), h.1 ∙ sym (old_word o.place lo))

    fits_newly : (g : Option Driver) → Fits g → Fits (doubled_with g last)
    fits_newly None h = tt
    fits_newly (Some g) h = by (nat_lt w.line g.word.line)
      where
        by : (t : Bool) → Fits (cond t (Some g) (Some last))
        by true = h
        by false = (omega arith, sym new_word)

    fits_nearest : (a b : Option Driver) → Fits a → Fits b → Fits (nearest a b)
    fits_nearest None b ha hb = hb
    fits_nearest (Some a) None ha hb = ha
    fits_nearest (Some a) (Some b) ha hb = by (is_nearer b a)
      where
        by : (t : Bool) → Fits (cond t (Some b) (Some a))
        by true = hb
        by false = ha

    on_line : (o : Option Driver) → Fits o → AreOn M o
    on_line None h = tt
    on_line (Some o) h = ap (λ (x : PortDef). x.line) h.1

    whole_word : (o : Option Driver) → Fits o → IsFirst M (n + 1) (IsDoubledIn more) (place_in M o) → IsFirstWord more (IsDoubledIn more) o
    whole_word None fits h = first_all M (IsDoubledIn more) (length more) (n + 1) None longer h
    whole_word (Some o) fits h = (first_all M (IsDoubledIn more) (length more) (n + 1) (Some o.place) longer h, fits.1)

    pub doubled_is : (o : Option Driver) → IsFirstWord words (IsDoubledIn words) o → IsFirstWord more (IsDoubledIn more) (nearest o (doubled_with f last))
    doubled_is o h =
        let c = doubled_with f last in
        let fits_o = fits_old (IsDoubledIn words) o h in
        let fits_c = fits_newly f (fits_old (Has w.signal) f first) in
        whole_word (nearest o c) (fits_nearest o c fits_o fits_c)
        (first_of_two M (n + 1) Was Newly (IsDoubledIn more) was_is (newly_is f first) (one_of_both f first) o c (on_line o fits_o) (on_line c fits_c) (was_first o h) (only_one c fits_c))

-- what is kept, with a word more
pub drives_more : (words : List PortDef) (w : PortDef) (old new : Drives) → AreDrives words old → new.count ≡ old.count + 1
    → ((s : ℕ) → first_at new.firsts.items s ≡ cond (eqb s w.signal) (Some (first_with (first_at old.firsts.items w.signal) (record { word = w; place = old.count }))) (first_at old.firsts.items s))
    → new.doubled ≡ nearest old.doubled (doubled_with (first_at old.firsts.items w.signal) (record { word = w; place = old.count }))
    → AreDrives (words ++ w ∷ []) new
drives_more words w old new h count firsts doubled =
    let f = first_at old.firsts.items w.signal in
    record {
      count = count ∙ ap (λ k. k + 1) h.count ∙ sym (length-append words (w ∷ []));
      firsts = λ s. subst (λ o. IsFirstWord (words ++ w ∷ []) (λ k. signal_at (words ++ w ∷ []) k ≡ s) o) (sym (firsts s ∙ ap (λ p. cond (eqb s w.signal) (Some (first_with f (record { word = w; place = p }))) (first_at old.firsts.items s)) h.count)) (by s (eqb s w.signal) refl);
      doubled = subst (λ o. IsFirstWord (words ++ w ∷ []) (IsDoubledIn (words ++ w ∷ [])) o) (sym (doubled ∙ ap (λ p. nearest old.doubled (doubled_with f (record { word = w; place = p }))) h.count)) (doubled_is words w f (h.firsts w.signal) old.doubled h.doubled);
    }
  where
    by : (s : ℕ) (t : Bool) → eqb s w.signal ≡ t → IsFirstWord (words ++ w ∷ []) (λ k. signal_at (words ++ w ∷ []) k ≡ s) (cond t (Some (first_with (first_at old.firsts.items w.signal) (record { word = w; place = length words }))) (first_at old.firsts.items s))
    by s true e =
        subst (λ x. IsFirstWord (words ++ w ∷ []) (λ k. signal_at (words ++ w ∷ []) k ≡ x) (Some (first_with (first_at old.firsts.items w.signal) (record { word = w; place = length words })))) (sym (eqb-true s w.signal e))
        (first_is words w (first_at old.firsts.items w.signal) (h.firsts w.signal))
    by s false e = first_stays words w s (first_at old.firsts.items s) (λ same. let no : true ≡ false = sym (eq-eqb s w.signal (sym same)) ∙ e in cc) (h.firsts s)

pub no_drives : (d : Drives) → d.count ≡ 0 → d.firsts.items ≡ [] → d.doubled ≡ None → AreDrives [] d
no_drives d count firsts doubled = record {
  count = count;
  firsts = λ s. subst (λ o. IsFirstWord [] (λ k. signal_at [] k ≡ s) o) (sym (ap (λ xs. first_at xs s) firsts)) (λ k lt p. omega arith);
  doubled = subst (λ o. IsFirstWord [] (IsDoubledIn []) o) (sym doubled) (λ k lt p. omega arith);
}

pub still_none : (a b o : Option Driver) → o ≡ nearest a b → o ≡ None → a ≡ None
still_none None b o e n = refl
still_none (Some a) b o e n = absurd (by b (sym e ∙ n))
  where
    by : (b : Option Driver) → nearest (Some a) b ≡ None → ⊥
    by None h = cc
    by (Some b) h = either (is_nearer b a) h
      where
        either : (t : Bool) → cond t (Some b) (Some a) ≡ None → ⊥
        either true h = cc
        either false h = cc

-- ---- the table as places

place_at_is : (firsts : List (Option Driver)) (s : ℕ) → place_at (places_of firsts) s ≡ option_map (λ (d : Driver). d.place) (first_at firsts s)
place_at_is [] zero = refl
place_at_is [] (suc s) = refl
place_at_is (f ∷ firsts) zero = refl
place_at_is (f ∷ firsts) (suc s) = place_at_is firsts s

pub table_is : (words : List PortDef) (d : Drives) (count : ℕ) → AreDrives words d → AreFirstWords words (length words) count (places_of d.firsts.items)
table_is words d count h s lt =
    subst (λ o. IsFirst (line_at words) (length words) (λ k. signal_at words k ≡ s) o) (sym (place_at_is d.firsts.items s)) (by (first_at d.firsts.items s) (h.firsts s))
  where
    by : (f : Option Driver) → IsFirstWord words (λ k. signal_at words k ≡ s) f → IsFirst (line_at words) (length words) (λ k. signal_at words k ≡ s) (option_map (λ (d : Driver). d.place) f)
    by None h = h
    by (Some f) h = h.0
