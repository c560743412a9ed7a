-- Controls of latches.
use Rattle.std.proofs.Common.{◌≡◌, ℕ, ◌+◌, ◌<◌, ◌||◌, Bool, true, false, cond, not, nat_lt, List, [], ◌∷◌, ◌++◌, Option, Some, None, length, length-append, refl, ap, sym, ◌∙◌, subst, arith, inl, inr, ◌⊎◌, is_some, get_or}
use Rattle.std.proofs.{Math.Dec.eqb, lemmas.Bool.eqb-true, lemmas.Bool.cases_eq, lemmas.Bool.cases_lt, lemmas.Bool.and_parts}
use Rattle.design_flatten.proofs.Vocabulary.{get_or-append_seam, get_or_append_left, list_any, position_or_len, option_or, bytes_eq}
use Rattle.design_flatten.proofs.Vocabulary.{IsBefore, IsFirst, is_sooner, first_more, first_all, Signal}
use Rattle.design_flatten.specs.{declared.clocks.Clock.Clock, declared.clocks.Clocks.Clocks, Clocks.number_in}
use Rattle.design_flatten.specs.Vocabulary.{Control, GivenControl, NamedControl, same_signal, Clocked, no_control, control_is, control_at, AreOneControl, IsOtherControl, IsFirstOther, same_control, clocked_in, control_in, place_in, at_name, IsUnlike, IsFirstUnlike, IsFirstClock, AreFirstClocks, AreClocks, nearer_line, other_with, earlier_clock, IsControlAnswer}
use Rattle.design_flatten.proofs.FirstLemmas.{before_before, before_to, first_to}
use Rattle.design_flatten.proofs.KnownLemmas.{same_self, place_stays}
use Rattle.design_flatten.proofs.NameLemmas.{name_is, same_name}
use Rattle.design_flatten.proofs.UseLemmas.{added_lookup}

-- ---- places of names

any_push : (p : List ℕ → Bool) (xs : List (List ℕ)) (y : List ℕ) → list_any p (xs ++ y ∷ []) ≡ (list_any p xs || p y)
any_push p [] y = by (p y)
  where
    by : (b : Bool) → (b || false) ≡ (false || b)
    by true = refl
    by false = refl
any_push p (x ∷ xs) y = ap (λ b. p x || b) (any_push p xs y) ∙ by (p x)
  where
    by : (b : Bool) → (b || (list_any p xs || p y)) ≡ ((b || list_any p xs) || p y)
    by true = refl
    by false = refl

place_new : (p : List ℕ → Bool) (xs : List (List ℕ)) (y : List ℕ) → list_any p xs ≡ false → p y ≡ true → position_or_len p (xs ++ y ∷ []) ≡ length xs
place_new p [] y h e = rw e refl
place_new p (x ∷ xs) y h e = by (p x) h (λ k. place_new p xs y k e)
  where
    by : (b : Bool) → (b || list_any p xs) ≡ false → (list_any p xs ≡ false → position_or_len p (xs ++ y ∷ []) ≡ length xs) → cond (not b) (1 + position_or_len p (xs ++ y ∷ [])) 0 ≡ length (x ∷ xs)
    by true h rest = absurd cc
    by false h rest = let r = rest h in omega arith

pub place_push : (xs : List (List ℕ)) (y w : List ℕ) → place_in (xs ++ y ∷ []) w ≡ option_or (place_in xs w) (cond (bytes_eq w y) (Some (length xs)) None)
place_push xs y w = ap (λ b. cond b (Some (position_or_len (bytes_eq w) (xs ++ y ∷ []))) None) (any_push (bytes_eq w) xs y) ∙ by (list_any (bytes_eq w) xs) (bytes_eq w y) refl refl
  where
    by : (a b : Bool) → list_any (bytes_eq w) xs ≡ a → bytes_eq w y ≡ b → cond (a || b) (Some (position_or_len (bytes_eq w) (xs ++ y ∷ []))) None ≡ option_or (cond a (Some (position_or_len (bytes_eq w) xs)) None) (cond b (Some (length xs)) None)
    by true b d e = ap Some (place_stays (bytes_eq w) xs y d)
    by false true d e = ap Some (place_new (bytes_eq w) xs y d e)
    by false false d e = refl

pub added_place : (old : List ℕ → Option ℕ) (new : Option ℕ) (name w : List ℕ) (k : ℕ) → old name ≡ None → new ≡ cond (bytes_eq name w) (Some k) (old w) → new ≡ option_or (old w) (cond (bytes_eq w name) (Some k) None)
added_place = added_lookup

pub absent_place : (o : Option ℕ) → is_some o ≡ false → o ≡ None
absent_place None h = refl
absent_place (Some k) h = absurd cc

-- ---- whether controls are one

signal_is : (s t : Signal) → same_signal s t ≡ true → s ≡ t
signal_is s t h =
    let both = and_parts (eqb s.used t.used) (eqb s.own t.own) h in
    λ i. record { used = eqb-true s.used t.used both.0 i; own = eqb-true s.own t.own both.1 i }

control_eq : (a b : Control Signal) → same_control a b ≡ true → a ≡ b
control_eq (GivenControl s) (GivenControl t) h = ap GivenControl (signal_is s t h)
control_eq (NamedControl v) (NamedControl w) h = ap NamedControl (name_is v w h)
control_eq (GivenControl s) (NamedControl w) h = absurd cc
control_eq (NamedControl v) (GivenControl t) h = absurd cc

control_same : (a : Control Signal) → same_control a a ≡ true
control_same (GivenControl s) = same_self s
control_same (NamedControl w) = same_name w

differ : (a b : Control Signal) → same_control a b ≡ false → a ≡ b → ⊥
differ a b h e = let f : true ≡ false = sym (control_same a) ∙ ap (same_control a) e ∙ h in cc

module _ (cs : List Clocked) (n : ℕ) (len : n ≡ length cs) (m : ℕ) (first : IsFirst (number_in cs) n (λ k. Unit {0}) (Some m)) where
  same_all : IsFirst (number_in cs) n (λ k. same_control (control_at cs m) (control_at cs k) ≡ false) None → (k : ℕ) → k < length cs → control_at cs m ≡ control_at cs k
  same_all none k lt = by (same_control (control_at cs m) (control_at cs k)) refl
    where
      by : (b : Bool) → same_control (control_at cs m) (control_at cs k) ≡ b → control_at cs m ≡ control_at cs k
      by true e = control_eq (control_at cs m) (control_at cs k) e
      by false e = absurd (none k (omega arith) e)

  pub are_one : IsFirst (number_in cs) n (λ k. same_control (control_at cs m) (control_at cs k) ≡ false) None → AreOneControl cs
  are_one none j k jlt klt = sym (same_all none j jlt) ∙ same_all none k klt

  -- the first line that differs from the first of all is the first that differs from an earlier one
  pub is_other : (i : ℕ) → IsFirst (number_in cs) n (λ k. same_control (control_at cs m) (control_at cs k) ≡ false) (Some i) → IsFirstOther cs (Some i)
  is_other i h = (
    omega (arith, h.0),
    (m, omega (arith, first.0), before i (omega (arith, h.0)) (λ e. differ (control_at cs m) (control_at cs i) h.1 (ap (control_at cs) e)), differ (control_at cs m) (control_at cs i) h.1),
    λ k lt other. later k lt other (same_control (control_at cs m) (control_at cs k)) refl,
  )
    where
      before : (k : ℕ) → k < n → (m ≡ k → ⊥) → IsBefore (number_in cs) m k
      before k lt not_it = elim (first.2 k lt tt) [ inl e ↦ absurd (not_it (sym e)) | inr b ↦ b ]

      later : (k : ℕ) → k < length cs → IsOtherControl cs k → (b : Bool) → same_control (control_at cs m) (control_at cs k) ≡ b → (k ≡ i) ⊎ IsBefore (number_in cs) i k
      later k lt other false e = h.2 k (omega arith) e
      later k lt other true e = by (same_control (control_at cs m) (control_at cs other.0)) refl
        where
          by : (b : Bool) → same_control (control_at cs m) (control_at cs other.0) ≡ b → (k ≡ i) ⊎ IsBefore (number_in cs) i k
          by true d = absurd (other.3 (sym (control_eq (control_at cs m) (control_at cs other.0) d) ∙ control_eq (control_at cs m) (control_at cs k) e))
          by false d = inr (elim (h.2 other.0 (omega (arith, other.1)) d) [ inl same ↦ subst (λ x. IsBefore (number_in cs) x k) same other.2 | inr b ↦ before_before (number_in cs) i other.0 k b other.2 ])

-- ---- a control more

module _ (cs : List Clocked) (d : Clock) where
  abbrev c : Clocked
  c = clocked_in d

  abbrev more : List Clocked
  more = cs ++ c ∷ []

  abbrev n : ℕ
  n = length cs

  abbrev M : ℕ → ℕ
  M = number_in more

  longer : n + 1 ≡ length more
  longer = sym (length-append cs (c ∷ []))

  old_clock : (k : ℕ) → k < n → get_or more k no_control ≡ get_or cs k no_control
  old_clock k lt = get_or_append_left cs (c ∷ []) no_control k lt

  new_clock : get_or more n no_control ≡ c
  new_clock = get_or-append_seam cs c [] no_control

  old_number : (k : ℕ) → k < n → number_in more k ≡ number_in cs k
  old_number k lt = ap (λ (x : Clocked). x.number) (old_clock k lt)

  new_number : number_in more n ≡ d.number
  new_number = ap (λ (x : Clocked). x.number) new_clock

  old_control : (k : ℕ) → k < n → control_in more k ≡ control_in cs k
  old_control k lt = ap (λ (x : Clocked). x.control) (old_clock k lt)

  new_control : control_in more n ≡ c.control
  new_control = ap (λ (x : Clocked). x.control) new_clock

  abbrev Any : ℕ → Type 0
  Any k = Unit {0}

  any_to : (found : Option ℕ) → IsFirst (number_in cs) n Any found → IsFirst M n Any found
  any_to found h = first_to n (number_in cs) M old_number Any Any found (λ k lt e. tt) (λ k lt e. tt) h

  unlike_to : (one : Control Signal) (found : Option ℕ) → IsFirst (number_in cs) n (IsUnlike cs one) found → IsFirst M n (IsUnlike more one) found
  unlike_to one found h =
      first_to n (number_in cs) M old_number (IsUnlike cs one) (IsUnlike more one) found
      (λ k lt e. ap (same_control one) (old_control k lt) ∙ e) (λ k lt e. sym (ap (same_control one) (old_control k lt)) ∙ e) h

  first_clock_more : (f : Clock) → IsFirstClock cs (clocked_in f) → IsFirstClock more (clocked_in (earlier_clock f d))
  first_clock_more f h =
      let m = h.0 in
      let lm = h.1.0 in
      let tests : nat_lt d.number f.number ≡ is_sooner M n (Some m) = (λ i. nat_lt (sym new_number i) ((ap (λ (x : Clocked). x.number) h.2 ∙ sym (old_number m lm)) i)) in
      by (nat_lt d.number f.number) (first_all M Any (length more) (n + 1) _ longer (first_more M Any n (Some m) true (nat_lt d.number f.number) (any_to (Some m) h.1) (λ e. tt) (λ p. refl) tests))
    where
      by : (t : Bool) → IsFirst M (length more) Any (cond t (Some n) (Some h.0)) → IsFirstClock more (clocked_in (cond t d f))
      by true first = (n, first, sym new_clock)
      by false first = (h.0, first, h.2 ∙ sym (old_clock h.0 h.1.0))

  -- it is as the first
  unlike_stays : (one : Control Signal) (other : Option ℕ) → same_control one c.control ≡ true → IsFirstUnlike cs one other → IsFirstUnlike more one other
  unlike_stays one None same h =
      first_all M (IsUnlike more one) (length more) (n + 1) None longer (first_more M (IsUnlike more one) n None false true (unlike_to one None h) (λ e. absurd (let no : false ≡ true = e in cc)) (λ p. absurd (let no : true ≡ false = sym same ∙ sym (ap (same_control one) new_control) ∙ p in cc)) refl)
  unlike_stays one (Some line) same h = (
    h.0,
    first_all M (IsUnlike more one) (length more) (n + 1) (Some h.0) longer (first_more M (IsUnlike more one) n (Some h.0) false (is_sooner M n (Some h.0)) (unlike_to one (Some h.0) h.1) (λ e. absurd (let no : false ≡ true = e in cc)) (λ p. absurd (let no : true ≡ false = sym same ∙ sym (ap (same_control one) new_control) ∙ p in cc)) refl),
    h.2 ∙ sym (old_number h.0 h.1.0),
  )

  -- it is another than the first, and on no earlier line
  unlike_more : (one : Control Signal) (other : Option ℕ) → same_control one c.control ≡ false → IsFirstUnlike cs one other → IsFirstUnlike more one (Some (nearer_line other d.number))
  unlike_more one None other_is h = (
    n,
    first_all M (IsUnlike more one) (length more) (n + 1) (Some n) longer (first_more M (IsUnlike more one) n None true true (unlike_to one None h) (λ e. ap (same_control one) new_control ∙ other_is) (λ p. refl) refl),
    sym new_number,
  )
  unlike_more one (Some line) other_is h =
      let o = h.0 in
      let tests : nat_lt d.number line ≡ is_sooner M n (Some o) = (λ i. nat_lt (sym new_number i) ((h.2 ∙ sym (old_number o h.1.0)) i)) in
      by (nat_lt d.number line) (first_all M (IsUnlike more one) (length more) (n + 1) _ longer (first_more M (IsUnlike more one) n (Some o) true (nat_lt d.number line) (unlike_to one (Some o) h.1) (λ e. ap (same_control one) new_control ∙ other_is) (λ p. refl) tests))
    where
      by : (t : Bool) → IsFirst M (length more) (IsUnlike more one) (cond t (Some n) (Some h.0)) → IsFirstUnlike more one (Some (cond t d.number line))
      by true first = (n, first, sym new_number)
      by false first = (h.0, first, h.2 ∙ sym (old_number h.0 h.1.0))

  -- it comes first, and the first was another
  unlike_first : (f : Clock) → same_control (clocked_in f).control c.control ≡ false → IsFirstClock cs (clocked_in f) → IsFirstUnlike more c.control (Some f.number)
  unlike_first f other_is h =
      let m = h.0 in
      let lm = h.1.0 in (
        m,
        (
          omega (arith, lm, longer),
          ap (same_control c.control) (old_control m lm ∙ sym (ap (λ (x : Clocked). x.control) h.2)) ∙ turned (same_control c.control (clocked_in f).control) refl,
          λ k lt p. elim (cases_eq k n) [
            | inl e ↦ absurd (let no : true ≡ false = sym (control_same c.control) ∙ sym (ap (same_control c.control) (ap (control_in more) e ∙ new_control)) ∙ p in cc)
            | inr other ↦ let lk = below k lt other in elim (h.1.2 k lk tt) [ inl e ↦ inl e | inr b ↦ inr (before_to n (number_in cs) M old_number m k lm lk b) ]
          ],
        ),
        ap (λ (x : Clocked). x.number) h.2 ∙ sym (old_number m lm),
      )
    where
      below : (k : ℕ) → k < length more → (k ≡ n → ⊥) → k < n
      below k lt other = elim (cases_lt k n) [ inl l ↦ l | inr ge ↦ absurd (other (omega (arith, lt, ge, longer))) ]

      turned : (t : Bool) → same_control c.control (clocked_in f).control ≡ t → t ≡ false
      turned false e = refl
      turned true e = absurd (differ (clocked_in f).control c.control other_is (sym (control_eq c.control (clocked_in f).control e)))

  other_clock_more : (f : Clock) (other : Option ℕ) → AreFirstClocks cs (Some f) other → IsFirstUnlike more (clocked_in (earlier_clock f d)).control (other_with (clocked_in f) other c)
  other_clock_more f other h = by (same_control (clocked_in f).control c.control) (nat_lt d.number f.number) refl
    where
      by : (s t : Bool) → same_control (clocked_in f).control c.control ≡ s → IsFirstUnlike more (clocked_in (cond t d f)).control (cond s other (cond t (Some f.number) (Some (nearer_line other d.number))))
      by true true e = subst (λ one. IsFirstUnlike more one other) (control_eq (clocked_in f).control c.control e) (unlike_stays (clocked_in f).control other e h.1)
      by true false e = unlike_stays (clocked_in f).control other e h.1
      by false true e = unlike_first f e h.0
      by false false e = unlike_more (clocked_in f).control other e h.1

  pub clock_more : (f : Clock) (other : Option ℕ) → AreFirstClocks cs (Some f) other → AreFirstClocks more (Some (earlier_clock f d)) (other_with (clocked_in f) other c)
  clock_more f other h = (first_clock_more f h.0, other_clock_more f other h)

only_clock : (d : Clock) → AreFirstClocks ([] ++ clocked_in d ∷ []) (Some d) None
only_clock d = (
  (0, (omega arith, tt, λ k lt p. inl (omega arith)), refl),
  λ k lt p. let zero_is : k ≡ 0 = omega arith in absurd (let no : true ≡ false = sym (control_same (clocked_in d).control) ∙ sym (ap (λ x. same_control (clocked_in d).control (control_in (clocked_in d ∷ []) x)) zero_is) ∙ p in cc),
)

pub clock_one : (cs : List Clocked) (d : Clock) (other : Option ℕ) → AreFirstClocks cs None other → AreFirstClocks (cs ++ clocked_in d ∷ []) (Some d) other
clock_one cs d other h = subst (λ o. AreFirstClocks (cs ++ clocked_in d ∷ []) (Some d) o) (sym h.1) (subst (λ xs. AreFirstClocks (xs ++ clocked_in d ∷ []) (Some d) None) (sym h.0) (only_clock d))

-- what they say of all controls
pub answer_is : (cs : List Clocked) (first : Option Clock) (other : Option ℕ) → AreFirstClocks cs first other → IsControlAnswer cs other
answer_is cs None other h = subst (IsControlAnswer cs) (sym h.1) (λ j k lj lk. absurd (let no : ⊥ = omega (arith, lj, ap length h.0) in no))
answer_is cs (Some f) None h =
    let m = h.0.0 in
    are_one cs (length cs) refl m h.0.1 (subst (λ one. IsFirst (number_in cs) (length cs) (IsUnlike cs one) None) (ap (λ (x : Clocked). x.control) h.0.2) h.1)
answer_is cs (Some f) (Some line) h =
    let m = h.0.0 in
    let i = h.1.0 in
    (i, is_other cs (length cs) refl m h.0.1 i (subst (λ one. IsFirst (number_in cs) (length cs) (IsUnlike cs one) (Some i)) (ap (λ (x : Clocked). x.control) h.0.2) h.1.1), h.1.2)

-- ---- a name in the table

abbrev pub control_by : Option ℕ → List ℕ → Control Signal
control_by None w = NamedControl w
control_by (Some k) w = GivenControl (record { used = 0; own = k })

pub named_is : (names : List (List ℕ)) (w : List ℕ) (found : Option ℕ) → found ≡ place_in names w → control_is names (NamedControl w) ≡ control_by found w
named_is names w found e = by (list_any (bytes_eq w) names) ∙ ap (λ o. control_by o w) (sym e)
  where
    by : (b : Bool) → cond b (GivenControl (record { used = 0; own = position_or_len (bytes_eq w) names })) (NamedControl w) ≡ control_by (cond b (Some (position_or_len (bytes_eq w) names)) None) w
    by true = refl
    by false = refl

pub no_clocks : (names : List (List ℕ)) (c : Clocks) → ((w : List ℕ) → at_name c.places w ≡ place_in names w) → c.first ≡ None → c.other ≡ None → AreClocks names [] c
no_clocks names c places first other = record { places = places; firsts = subst (λ f. AreFirstClocks [] f c.other) (sym first) (refl, other) }
