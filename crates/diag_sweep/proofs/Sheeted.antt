-- What hangs of tables, from lists of pins.
use Rattle.std.proofs.Common.{◌≡◌, ◌≢◌, ◌⊎◌, inl, inr, ℕ, zero, suc, ◌<◌, ◌≤◌, ◌+◌, Bool, true, false, ◌||◌, Some, None, Option, List, [], ◌∷◌, ◌++◌, length, get_or, take, refl, sym, ap, ◌∙◌, subst, arith, ◌==◌, All, map, slice_get, slice_index_or}
use Rattle.diag_sweep.proofs.Vocabulary.{list_any, IsDistinct, false≢true, or_cases, nat_tests, take_all, map-append, Table, table_wire}
use Rattle.diag_sweep.proofs.Vocabulary.{tables_of, AreOn, InputsOn, OutputOn, Seen, SeesMore}
use Rattle.std.proofs.lemmas.Map.Keys.{apart_from_distinct}
use native.Mathlib.Decide.{ℕ_discrete, dec_lt}
use Rattle.diag_evidence.specs.Vocabulary.{Trees, HangsOn, AreTablesOn, is_one_of, output_pin}
use Rattle.diag_sweep.proofs.Footed.{one_more}

same_number : (n : ℕ) → (n == n) ≡ true
same_number n = grind (arith, nat_tests)

-- the place of a table in a list
pub record IsPlaced (ts : List Table) (t : ℕ) : Type 0 where
  pub place : ℕ
  pub below : place < length ts
  pub is : (d : Table) → (get_or ts place d).0 ≡ t

placed_later : {t : ℕ} (a : Table) {ts : List Table} → IsPlaced ts t → IsPlaced (a ∷ ts) t
placed_later a p = record { place = suc p.place; below = (let less = p.below in omega (arith, less)); is = p.is }

pub placed : (ts : List Table) (t : ℕ) → is_one_of ts t ≡ true → IsPlaced ts t
placed [] t on = absurd (false≢true on)
placed (a ∷ ts) t on = by (placed ts t) (or_cases (a.0 == t) (is_one_of ts t) on)
  where
    same : (a.0 == t) ≡ true → a.0 ≡ t
    same e = grind (arith, nat_tests, e)

    by : (is_one_of ts t ≡ true → IsPlaced ts t) → ((a.0 == t) ≡ true) ⊎ (is_one_of ts t ≡ true) → IsPlaced (a ∷ ts) t
    by later (inl here) = record { place = 0; below = omega arith; is = λ d. same here }
    by later (inr more) = placed_later a (later more)

same_pin : {p q : ℕ} → Some p ≡ Some q → p ≡ q
same_pin e = cc

module _ {trees : Trees} {ins : List ℕ} {ts : List Table} (six : length ins ≡ 6) (on : AreOn trees ins ts) where
  abbrev outs : List ℕ
  outs = map (λ t. output_pin trees t.0) ts

  abbrev all_pins : List ℕ
  all_pins = ins ++ map (λ t. output_pin trees t.0) ts

  input : (t j : ℕ) → is_one_of ts t ≡ true → j < 6 → HangsOn trees (table_wire trees.shape t j) (slice_index_or ins j 0)
  input t j is less = by (placed ts t is)
    where
      by : IsPlaced ts t → HangsOn trees (table_wire trees.shape t j) (slice_index_or ins j 0)
      by p = subst (λ u. HangsOn trees (table_wire trees.shape u j) (slice_index_or ins j 0)) (p.is (record { 0 = 0 })) (on.inputs p.place (record { 0 = 0 }) p.below j less)

  output : (t : ℕ) → is_one_of ts t ≡ true → HangsOn trees (table_wire trees.shape t 6) (output_pin trees t)
  output t is = by (placed ts t is)
    where
      by : IsPlaced ts t → HangsOn trees (table_wire trees.shape t 6) (output_pin trees t)
      by p = subst (λ u. HangsOn trees (table_wire trees.shape u 6) (output_pin trees u)) (p.is (record { 0 = 0 })) (on.outputs p.place (record { 0 = 0 }) p.below)

  -- places of pins in the list
  at_input : (xs ys : List ℕ) (j : ℕ) → j < length xs → get_or (xs ++ ys) j 0 ≡ get_or xs j 0
  at_input [] ys j less = absurd (omega (arith, less))
  at_input (x ∷ xs) ys zero less = refl
  at_input (x ∷ xs) ys (suc j) less = at_input xs ys j (omega (arith, less))

  at_output : (xs ys : List ℕ) (i : ℕ) → get_or (xs ++ ys) (length xs + i) 0 ≡ get_or ys i 0
  at_output [] ys i = ap (λ n. get_or ys n 0) (let e : 0 + i ≡ i = omega arith in e)
  at_output (x ∷ xs) ys i = subst (λ n. get_or ((x ∷ xs) ++ ys) n 0 ≡ get_or ys i 0) (let e : suc (length xs + i) ≡ suc (length xs) + i = omega arith in e) (at_output xs ys i)

  long : (xs ys : List ℕ) → length (xs ++ ys) ≡ length xs + length ys
  long [] ys = (let e : length ys ≡ 0 + length ys = omega arith in e)
  long (x ∷ xs) ys = (let h = long xs ys in let e : suc (length (xs ++ ys)) ≡ suc (length xs) + length ys = omega (arith, h) in e)

  out_len : (us : List Table) → length (map (λ t. output_pin trees t.0) us) ≡ length us
  out_len [] = refl
  out_len (u ∷ us) = ap suc (out_len us)

  out_at : (us : List Table) (i : ℕ) (d : Table) → i < length us → get_or (map (λ t. output_pin trees t.0) us) i 0 ≡ output_pin trees (get_or us i d).0
  out_at [] i d less = absurd (omega (arith, less))
  out_at (u ∷ us) zero d less = refl
  out_at (u ∷ us) (suc i) d less = out_at us i d (omega (arith, less))

  -- equal pins stand at one place
  one_place : (i j : ℕ) → i < length all_pins → j < length all_pins → get_or all_pins i 0 ≡ get_or all_pins j 0 → i ≡ j
  one_place i j low high e = by (dec_lt i j) (dec_lt j i)
    where
      differ : (a b : ℕ) → a < b → b < length all_pins → get_or all_pins a 0 ≡ get_or all_pins b 0 → ⊥
      differ a b less within same = false≢true (sym (apart_from_distinct (λ x y. x == y) all_pins a b 0 on.once less within) ∙ ap (λ x. x == get_or all_pins b 0) same ∙ same_number (get_or all_pins b 0))

      by : Dec (i < j) → Dec (j < i) → i ≡ j
      by (yes h) o = absurd (differ i j h high e)
      by (no h) (yes o) = absurd (differ j i o low (sym e))
      by (no h) (no o) = omega (arith, h, o)

  whole : length all_pins ≡ 6 + length ts
  whole = long ins outs ∙ (let e = out_len ts in omega (arith, six, e))

  input_at : (j : ℕ) → j < 6 → get_or all_pins j 0 ≡ get_or ins j 0
  input_at j less = at_input ins outs j (omega (arith, less, six))

  output_at : (i : ℕ) (d : Table) → i < length ts → get_or all_pins (6 + i) 0 ≡ output_pin trees (get_or ts i d).0
  output_at i d less = subst (λ n. get_or all_pins (n + i) 0 ≡ output_pin trees (get_or ts i d).0) six (at_output ins outs i ∙ out_at ts i d less)

  pub tables_on : 0 < length ts → AreTablesOn trees ts
  tables_on some = record {
    some = some;
    within = on.within;
    hang = λ t k is less. by_pin t k is less (dec_lt k 6);
    inputs = λ t u j p q is also less hp hq. same_pin (sym hp ∙ input t j is less) ∙ same_pin (sym (input u j also less) ∙ hq);
    differ = λ t i j p is li lj hp hq. one_place i j (omega (arith, li, whole)) (omega (arith, lj, whole)) (input_at i li ∙ same_pin (sym (input t i is li) ∙ hp) ∙ same_pin (sym hq ∙ input t j is lj) ∙ sym (input_at j lj));
    apart = λ t u j p is also less hp hq. absurd (meets t u j p is also less hp hq (placed ts u also));
    own = λ t u p is also hp hq. owned t u p is also hp hq (placed ts t is) (placed ts u also);
  }
    where
      zero_table : Table
      zero_table = record { 0 = 0 }

      by_pin : (t k : ℕ) → is_one_of ts t ≡ true → k < 7 → Dec (k < 6) → (p : ℕ) × HangsOn trees (table_wire trees.shape t k) p
      by_pin t k is less (yes h) = (slice_index_or ins k 0, input t k is h)
      by_pin t k is less (no n) = (output_pin trees t, subst (λ i. HangsOn trees (table_wire trees.shape t i) (output_pin trees t)) (let e : 6 ≡ k = omega (arith, less, n) in e) (output t is))

      meets : (t u j p : ℕ) → is_one_of ts t ≡ true → is_one_of ts u ≡ true → j < 6 → HangsOn trees (table_wire trees.shape t j) p → HangsOn trees (table_wire trees.shape u 6) p → IsPlaced ts u → ⊥
      meets t u j p is also less hp hq at =
          let e = one_place j (6 + at.place) (omega (arith, less, whole)) (let b = at.below in omega (arith, b, whole))
          (input_at j less ∙ same_pin (sym (input t j is less) ∙ hp) ∙ same_pin (sym hq ∙ output u also) ∙ ap (output_pin trees) (sym (at.is zero_table)) ∙ sym (output_at at.place zero_table at.below)) in
          omega (arith, e, less)

      owned : (t u p : ℕ) → is_one_of ts t ≡ true → is_one_of ts u ≡ true → HangsOn trees (table_wire trees.shape t 6) p → HangsOn trees (table_wire trees.shape u 6) p → IsPlaced ts t → IsPlaced ts u → t ≡ u
      owned t u p is also hp hq a b =
          let e = one_place (6 + a.place) (6 + b.place) (let l = a.below in omega (arith, l, whole)) (let l = b.below in omega (arith, l, whole))
          (output_at a.place zero_table a.below ∙ ap (output_pin trees) (a.is zero_table) ∙ same_pin (sym (output t is) ∙ hp) ∙ same_pin (sym hq ∙ output u also) ∙ ap (output_pin trees) (sym (b.is zero_table)) ∙ sym (output_at b.place zero_table b.below)) in
          sym (a.is zero_table) ∙ ap (λ i. (get_or ts i zero_table).0) (let f : a.place ≡ b.place = omega (arith, e) in f) ∙ b.is zero_table

-- one table more
module _ (trees : Trees) (ts : List Table) (k : ℕ) (t : Table) (below : k < length ts) (here : slice_get ts k ≡ Some t) where
  pub outs_more : {old new : List Bool} (ins : List ℕ) → Seen old (ins ++ map (λ t. output_pin trees t.0) (take k ts)) → SeesMore old new (output_pin trees t.0 ∷ []) → Seen new (ins ++ map (λ t. output_pin trees t.0) (take (k + 1) ts))
  outs_more {old} {new} ins s more = subst (Seen new) (assoc ins (map (λ t. output_pin trees t.0) (take k ts)) (output_pin trees t.0 ∷ []) ∙ ap (λ ps. ins ++ ps) (sym (ap (map (λ t. output_pin trees t.0)) (one_more ts k t below here) ∙ map-append (λ t. output_pin trees t.0) (take k ts) (t ∷ [])))) (more.at _ s)
    where
      assoc : (xs ys zs : List ℕ) → (xs ++ ys) ++ zs ≡ xs ++ (ys ++ zs)
      assoc [] ys zs = refl
      assoc (x ∷ xs) ys zs = ap (λ s. x ∷ s) (assoc xs ys zs)

pub seen_alone : {old : List Bool} (ns : List ℕ) → Seen old ns → Seen old (ns ++ [])
seen_alone {old} ns s = subst (Seen old) (sym (alone ns)) s
  where
    alone : (xs : List ℕ) → xs ++ [] ≡ xs
    alone [] = refl
    alone (x ∷ xs) = ap (λ ys. x ∷ ys) (alone xs)

-- all tables were looked at
pub on_all : {trees : Trees} {ins : List ℕ} {ts : List Table} {seen : List Bool} (k : ℕ) → length ts ≤ k → All (λ (t : Table). t.0 < tables_of trees.shape) (take k ts) → All (InputsOn trees ins) (take k ts) → All (OutputOn trees) (take k ts) →
    Seen seen (ins ++ map (λ (t : Table). output_pin trees t.0) (take k ts)) → AreOn trees ins ts
on_all {trees} {ins} {ts} {seen} k whole within inputs outputs s = record {
  within = subst (All (λ (t : Table). t.0 < tables_of trees.shape)) same within;
  inputs = subst (All (InputsOn trees ins)) same inputs;
  outputs = subst (All (OutputOn trees)) same outputs;
  once = subst (λ us. IsDistinct (λ a b. a == b) (ins ++ map (λ (t : Table). output_pin trees t.0) us)) same s.once;
}
  where
    same : take k ts ≡ ts
    same = take_all k ts whole
