-- Sources by their numbers, and the sources of a table that is put into its reader.
use Rattle.std.proofs.Common.{◌≡◌, ◌⊎◌, Bool, ℕ, zero, suc, ◌+◌, ◌*◌, ◌<◌, ◌≤◌, ◌||◌, List, [], ◌∷◌, ◌++◌, true, false, length, map, get_or, refl, sym, ap, ◌∙◌, inl, inr, arith, slice_index_or, ◌==◌, if◌then◌else◌}
use Rattle.map_network.proofs.Vocabulary.{Contains, cases_eq, Contains-append_cases, Source, Input, Table}
use Rattle.map_network.specs.Vocabulary.{distinct, pin_named, is_among, number, numbers_without, bit_with}
use Rattle.map_network.proofs.CellLemmas.{eqb_true, eqb_false, named_here, named_skip}
use Rattle.map_network.proofs.NameLemmas.{among_same, among_other, among_without, without, without_same, without_other, no_both}

input_is : (a b : ℕ) → 2 * a ≡ 2 * b → a ≡ b
input_is a b e = omega arith

table_is : (a b : ℕ) → 2 * a + 1 ≡ 2 * b + 1 → a ≡ b
table_is a b e = omega arith

odd : (a b : ℕ) → 2 * a ≡ 2 * b + 1 → ⊥
odd a b e = omega arith

pub number_same : (s t : Source) → number s ≡ number t → s ≡ t
number_same (Input a) (Input b) e = ap Input (input_is a b e)
number_same (Input a) (Table b) e = absurd (odd a b e)
number_same (Table a) (Input b) e = absurd (odd b a (sym e))
number_same (Table a) (Table b) e = ap Table (table_is a b e)

or_true : (b c : Bool) → c ≡ true → (b || c) ≡ true
or_true true c e = refl
or_true false c e = e

pub among_of : (ss : List Source) (s : Source) → Contains ss s → is_among (map number ss) (number s) ≡ true
among_of ss s c = at ss c.0 c.1 c.2
  where
    at : (ss : List Source) (k : ℕ) → k < length ss → slice_index_or ss k s ≡ s → is_among (map number ss) (number s) ≡ true
    at [] k lk e = absurd (omega arith)
    at (y ∷ ys) zero lk e = among_same (number y) (number s) (map number ys) (ap number e)
    at (y ∷ ys) (suc k) lk e = or_true (number y == number s) (is_among (map number ys) (number s)) (at ys k (omega arith) e)

pub of_among : (ss : List Source) (s : Source) → is_among (map number ss) (number s) ≡ true → Contains ss s
of_among [] s e = absurd (no_both (sym e))
of_among (y ∷ ys) s e = by (cases_eq (number y) (number s)) (of_among ys s)
  where
    by : (number y ≡ number s) ⊎ (number y ≡ number s → ⊥) → (is_among (map number ys) (number s) ≡ true → Contains ys s) → Contains (y ∷ ys) s
    by (inl f) again = (0, omega arith, number_same y s f)
    by (inr d) again = let r = again (sym (among_other (number y) (number s) (map number ys) d) ∙ e) in (suc r.0, omega (arith, r.1), r.2)

pub among_distinct_too : (xs : List ℕ) (x : ℕ) → is_among (distinct xs) x ≡ is_among xs x
among_distinct_too [] x = refl
among_distinct_too (s ∷ ss) x = by (cases_eq s x) (among_distinct_too ss x)
  where
    by : (s ≡ x) ⊎ (s ≡ x → ⊥) → is_among (distinct ss) x ≡ is_among ss x → is_among (distinct (s ∷ ss)) x ≡ is_among (s ∷ ss) x
    by (inl e) again = among_same s x (without s (distinct ss)) e ∙ sym (among_same s x ss e)
    by (inr d) again = among_other s x (without s (distinct ss)) d ∙ among_without s x (distinct ss) d ∙ again ∙ sym (among_other s x ss d)

pub among_gone : (s : ℕ) (ys : List ℕ) → is_among (without s ys) s ≡ false
among_gone s [] = refl
among_gone s (y ∷ ys) = by (cases_eq y s) (among_gone s ys)
  where
    by : (y ≡ s) ⊎ (y ≡ s → ⊥) → is_among (without s ys) s ≡ false → is_among (without s (y ∷ ys)) s ≡ false
    by (inl e) again = ap (λ xs. is_among xs s) (without_same s y ys e) ∙ again
    by (inr d) again = ap (λ xs. is_among xs s) (without_other s y ys d) ∙ among_other y s (without s ys) d ∙ again

-- the sources of both tables
module _ (j : ℕ) (first second ins : List Source) (e : map number ins ≡ distinct (numbers_without j first second)) where
  same_among : (s : Source) → is_among (map number ins) (number s) ≡ is_among (numbers_without j first second) (number s)
  same_among s = ap (λ xs. is_among xs (number s)) e ∙ among_distinct_too (numbers_without j first second) (number s)

  pub has_both : (s : Source) → (s ≡ Table j → ⊥) → Contains (first ++ second) s → is_among (map number ins) (number s) ≡ true
  has_both s d c = same_among s ∙ among_without (2 * j + 1) (number s) (map number (first ++ second)) (λ f. d (number_same s (Table j) (sym f))) ∙ among_of (first ++ second) s c

  pub not_itself : Contains ins (Table j) → ⊥
  not_itself c = no_both (sym (among_of ins (Table j) c) ∙ same_among (Table j) ∙ among_gone (2 * j + 1) (map number (first ++ second)))

  pub from_both : (s : Source) → Contains ins s → Contains first s ⊎ Contains second s
  from_both s c = by (cases_eq (2 * j + 1) (number s))
    where
      by : (2 * j + 1 ≡ number s) ⊎ (2 * j + 1 ≡ number s → ⊥) → Contains first s ⊎ Contains second s
      by (inl f) = absurd (no_both (sym (among_of ins s c) ∙ same_among s ∙ ap (is_among (numbers_without j first second)) (sym f) ∙ among_gone (2 * j + 1) (map number (first ++ second))))
      by (inr d) = Contains-append_cases first second s (of_among (first ++ second) s (sym (among_without (2 * j + 1) (number s) (map number (first ++ second)) d) ∙ sym (same_among s) ∙ among_of ins s c))

-- the pin of a source has its bit
pub named_value : (b : Source → Bool) (ss : List Source) (bits : List Bool) → length ss ≤ length bits → ((k : ℕ) → k < length ss → get_or bits k true ≡ b (get_or ss k (Input 0))) → (s : Source) → is_among (map number ss) (number s) ≡ true → pin_named (map number ss) bits (number s) ≡ b s
named_value b [] bits le each s e = absurd (no_both (sym e))
named_value b (y ∷ ys) [] le each s e = absurd (omega arith)
named_value b (y ∷ ys) (c ∷ cs) le each s e = by (cases_eq (number y) (number s)) (named_value b ys cs (omega arith) (λ k lk. each (suc k) (omega arith)) s)
  where
    by : (number y ≡ number s) ⊎ (number y ≡ number s → ⊥) → (is_among (map number ys) (number s) ≡ true → pin_named (map number ys) cs (number s) ≡ b s) → pin_named (map number (y ∷ ys)) (c ∷ cs) (number s) ≡ b s
    by (inl f) again = named_here (map number ys) cs (number y) (number s) c f ∙ each 0 (omega arith) ∙ ap b (number_same y s f)
    by (inr d) again = named_skip (map number ys) cs (number y) (number s) c d ∙ again (sym (among_other (number y) (number s) (map number ys) d) ∙ e)

pub with_given : (numbers : List ℕ) (pins : List Bool) (j : ℕ) (given : Bool) (s : Source) → s ≡ Table j → bit_with numbers pins j given s ≡ given
with_given numbers pins j given s e = ap (λ b. if b then given else pin_named numbers pins (number s)) (eqb_true (number s) (2 * j + 1) (ap number e))

pub with_pin : (numbers : List ℕ) (pins : List Bool) (j : ℕ) (given : Bool) (s : Source) → (s ≡ Table j → ⊥) → bit_with numbers pins j given s ≡ pin_named numbers pins (number s)
with_pin numbers pins j given s d = ap (λ b. if b then given else pin_named numbers pins (number s)) (eqb_false (number s) (2 * j + 1) (λ f. d (number_same s (Table j) f)))
