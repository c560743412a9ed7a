-- What the readings of tables show of their cells and registers.
use Rattle.std.proofs.Common.{◌≡◌, ◌≢◌, ◌⊎◌, inl, inr, ℕ, zero, suc, ◌<◌, Bool, true, false, not, ◌&&◌, ◌||◌, Some, None, Option, List, [], ◌∷◌, length, get_or, refl, sym, ap, ◌∙◌, subst, arith, ◌==◌, nat_lt, if◌then◌else◌, unwrap_or, map}
use Rattle.diag_evidence.proofs.Vocabulary.{bit_at, range_with_len, false≢true, and_parts, or_cases, nat_tests, has_number, Table}
use Rattle.diag_evidence.proofs.Vocabulary.{table_wire, Setting, Configuration, cell_of, IsRun, number_of}
use Rattle.std.proofs.lemmas.Nat.Bits.{bit_at-lt}
use native.Mathlib.Decide.{ℕ_discrete}
use Rattle.machine_meaning.specs.Vocabulary.{Pins, Faults, stuck_register, wrong_cell, IsRightTable}
use Rattle.diag_evidence.specs.Vocabulary.{Trees, IsForest, KnowsForest, pin_of, Kept, Gains, HoldsFor, AreTablesOn, AreAddressDrives, AreOpposite, IsTableConfig, IsTableLoad, MarksWrong, WrongIf, is_one_of, is_right_before, is_right_in, output_pin, right_parts, read_at}
use Rattle.diag_evidence.proofs.KeptLemmas.{GainHoldsFor, held_before}
use Rattle.diag_evidence.proofs.Nets.{IsNet, AreHung, IsInputDrive, shown, shows, address_of}
use Rattle.diag_evidence.proofs.Planted.{net_of_forest, same_pin}

bit_value : (n : ℕ) → n < 2 → (if n == 1 then 1 else 0) ≡ n
bit_value n h = by (n == 1) refl
  where
    by : (b : Bool) → (n == 1) ≡ b → (if b then 1 else 0) ≡ n
    by true e = let s : n ≡ 1 = grind (arith, nat_tests, e) in sym s
    by false e = let s : n ≢ 1 = (λ s. grind (arith, nat_tests)) in omega arith

-- an address is the number of its bits
pub address_is : (a : ℕ) → a < 64 → number_of (map (λ j. bit_at a j == 1) (range_with_len 0 6)) ≡ a
address_is a h =
    let v = λ (j : ℕ). bit_value (bit_at a j) (bit_at-lt a j) in
    rw (v 0, v 1, v 2, v 3, v 4, v 5) (omega arith)

-- what a table with these faults shows in a cycle
abbrev pub given_by : Faults → Setting → ℕ → ℕ → Bool
given_by f s t zero = unwrap_or (stuck_register f t) s.init
given_by f s t (suc a) = unwrap_or (stuck_register f t) (unwrap_or (wrong_cell f t a) (cell_of s a))

or_zero : (o : Option ℕ) {p : ℕ} → o ≡ Some p → o ≡ Some (unwrap_or o 0)
or_zero None e = cc
or_zero (Some q) e = refl

first_one : (us : List Table) → 0 < length us → (t : ℕ) × (is_one_of us t ≡ true)
first_one [] less = absurd (omega arith)
first_one (u ∷ us) less = (u.0, (let e : (u.0 == u.0) ≡ true = grind (arith, nat_tests) in ap (λ b. b || is_one_of us u.0) e))

module _ (f : Faults) (k : Kept) (trees : Trees) (ts : List Table) (forest : IsForest trees) (known : KnowsForest k trees) (on : AreTablesOn trees ts) (holds : HoldsFor k f) where
  some_one : (t : ℕ) × (is_one_of ts t ≡ true)
  some_one = first_one ts on.some

  abbrev ins : ℕ → ℕ
  ins j = unwrap_or (pin_of trees (table_wire trees.shape some_one.0 j)) 0

  abbrev hang : ℕ → Option ℕ
  hang = pin_of trees

  input_on : (t j : ℕ) → is_one_of ts t ≡ true → j < 6 → hang (table_wire trees.shape t j) ≡ Some (ins j)
  input_on t j i b =
      let h = on.hang t j i (omega (arith, b)) in
      let first = on.hang some_one.0 j some_one.1 (omega (arith, b)) in
      h.1 ∙ ap Some (on.inputs t some_one.0 j h.0 (ins j) i some_one.1 b h.1 (or_zero _ first.1))

  output_on : (t : ℕ) → is_one_of ts t ≡ true → hang (table_wire trees.shape t 6) ≡ Some (output_pin trees t)
  output_on t i = or_zero _ (on.hang t 6 i (omega arith)).1

  -- the pins that a drive pulls have inputs
  input_drives : {drives : List Pins} → AreAddressDrives trees ts drives → (n : ℕ) → IsInputDrive ins (get_or drives n [])
  input_drives d n p low = let i = d.only n p low in (i.input, (i.below, same_pin (sym (input_on i.table i.input i.is_one i.below) ∙ i.hangs)))

  module _ (s : Setting) (latched : s.latched ≡ true) (g : Configuration) (laid : IsTableConfig trees ts s g) where
    net : IsNet f g hang
    net = net_of_forest f g k trees forest known holds laid.shape laid.closed

    hung : AreHung g hang (is_one_of ts) s ins (output_pin trees)
    hung = record {
      on = laid.on;
      off = laid.off;
      latched = latched;
      one = laid.one;
      inputs = λ t j i b. subst (λ m. hang (table_wire m t j) ≡ Some (ins j)) (sym laid.shape) (input_on t j i b);
      outputs = λ t i. subst (λ m. hang (table_wire m t 6) ≡ Some (output_pin trees t)) (sym laid.shape) (output_on t i);
      apart = λ t j i b e. on.apart t t j (ins j) i i b (input_on t j i b) (output_on t i ∙ ap Some (sym e));
      own = λ t u i o e. on.own t u (output_pin trees t) i o (output_on t i) (output_on u o ∙ ap Some (sym e));
      some = some_one.0;
      is_some = some_one.1;
    }

    module _ {drives reads : List Pins} (d : AreAddressDrives trees ts drives) (run : IsRun f g drives reads) where
      address : (a : ℕ) → a < 64 → address_of f g hang net hung (get_or drives a []) ≡ a
      address a h =
          let e : (j : ℕ) → j < 6 → get_or (get_or drives a []) (ins j) true ≡ (bit_at a j == 1) = λ j b. d.bits a some_one.0 j (ins j) h some_one.1 b (input_on some_one.0 j some_one.1 b) in
          (λ i. number_of (e 0 (omega arith) i ∷ e 1 (omega arith) i ∷ e 2 (omega arith) i ∷ e 3 (omega arith) i ∷ e 4 (omega arith) i ∷ e 5 (omega arith) i ∷ [])) ∙ address_is a h

      -- each table reads what its faults leave of its setting
      reads_given : (t n : ℕ) → is_one_of ts t ≡ true → n < 65 → read_at reads n (output_pin trees t) ≡ given_by f s t n
      reads_given t n i b = shown f g hang net hung (λ m h. input_drives d m) run t n i (let l = d.many in omega (arith, b, l)) ∙ by n b
        where
          by : (n : ℕ) → n < 65 → shows f g hang net hung (unwrap_or (stuck_register f t) s.init) drives t n ≡ given_by f s t n
          by zero b = refl
          by (suc a) b = ap (λ e. unwrap_or (stuck_register f t) (unwrap_or (wrong_cell f t e) (cell_of s e))) (address a (omega (arith, b)))

free_of : (o : Option Bool) (b r q : Bool) → r ≡ unwrap_or o b → q ≡ unwrap_or o (not b) → (if b then r && not q else not r && q) ≡ true → o ≡ None
free_of None b r q e d h = refl
free_of (Some v) b r q e d h = absurd (none_right v b (sym (ap (λ x. if b then x && not q else not x && q) e ∙ ap (λ y. if b then v && not y else not v && y) d) ∙ h))
  where
    none_right : (v b : Bool) → (if b then v && not v else not v && v) ≡ true → ⊥
    none_right true true h = false≢true h
    none_right true false h = false≢true h
    none_right false true h = false≢true h
    none_right false false h = false≢true h

right_of : (o : Option Bool) (b r q : Bool) → r ≡ unwrap_or o b → q ≡ unwrap_or o (not b) → o ≡ None → (if b then r && not q else not r && q) ≡ true
right_of (Some v) b r q e d n = cc
right_of None b r q e d n = ap (λ x. if b then x && not q else not x && q) e ∙ ap (λ y. if b then b && not y else not b && y) d ∙ is_right b
  where
    is_right : (b : Bool) → (if b then b && not (not b) else not b && not b) ≡ true
    is_right true = refl
    is_right false = refl

not_true : (b : Bool) → not b ≡ true → b ≡ false
not_true true e = absurd (false≢true e)
not_true false e = refl

and_true : (a b : Bool) → a ≡ true → b ≡ true → (a && b) ≡ true
and_true a b p q = rw (p, q) refl

module _ (told : Option Faults) (k : Kept) (trees : Trees) (ts : List Table) (forest : IsForest trees) (known : KnowsForest k trees) (on : AreTablesOn trees ts) (s z : Setting) (latched : s.latched ≡ true) (opposed : AreOpposite s z) (drives reads opposite : List Pins) (d : AreAddressDrives trees ts drives) (first : IsTableLoad told trees ts s drives reads) (second : IsTableLoad told trees ts z drives opposite) where
  module _ (f : Faults) (is : told ≡ Some f) (holds : HoldsFor k f) (t : ℕ) (one : is_one_of ts t ≡ true) where
    abbrev pin : ℕ
    pin = output_pin trees t

    read : (n : ℕ) → n < 65 → read_at reads n pin ≡ given_by f s t n
    read n b = reads_given f k trees ts forest known on holds s latched first.config first.laid d (first.run f is) t n one b

    other : (n : ℕ) → n < 65 → read_at opposite n pin ≡ given_by f z t n
    other n b = reads_given f k trees ts forest known on holds z (opposed.latched ∙ latched) second.config second.laid d (second.run f is) t n one b

    other_first : read_at opposite 0 pin ≡ unwrap_or (stuck_register f t) (not s.init)
    other_first = other 0 (omega arith) ∙ ap (unwrap_or (stuck_register f t)) opposed.init

    -- one that is right in the first cycle has no stuck register
    register_free : is_right_in s reads opposite pin 0 ≡ true → stuck_register f t ≡ None
    register_free right = free_of (stuck_register f t) s.init _ _ (read 0 (omega arith)) other_first right

    with_none : (o : Option Bool) (b : Bool) → o ≡ None → unwrap_or o b ≡ b
    with_none None b e = refl
    with_none (Some v) b e = cc

    cell_read : (a : ℕ) → a < 64 → stuck_register f t ≡ None → read_at reads (suc a) pin ≡ unwrap_or (wrong_cell f t a) (cell_of s a)
    cell_read a h free = read (suc a) (omega (arith, h)) ∙ with_none _ _ free

    cell_other : (a : ℕ) → a < 64 → stuck_register f t ≡ None → read_at opposite (suc a) pin ≡ unwrap_or (wrong_cell f t a) (not (cell_of s a))
    cell_other a h free = other (suc a) (omega (arith, h)) ∙ with_none _ _ free ∙ ap (unwrap_or (wrong_cell f t a)) (opposed.cells a h)

    -- and where it is right in the cycle of a cell, this isn't wrong
    cell_free : (a : ℕ) → a < 64 → is_right_in s reads opposite pin 0 ≡ true → is_right_in s reads opposite pin (suc a) ≡ true → wrong_cell f t a ≡ None
    cell_free a h right then_right = let free = register_free right in free_of (wrong_cell f t a) (cell_of s a) _ _ (cell_read a h free) (cell_other a h free) then_right

    -- a right table is right in each cycle
    right_in : IsRightTable f t → (n : ℕ) → n < 65 → is_right_in s reads opposite pin n ≡ true
    right_in r zero b = right_of (stuck_register f t) s.init _ _ (read 0 (omega arith)) other_first r.register
    right_in r (suc a) b = let h : a < 64 = omega (arith, b) in right_of (wrong_cell f t a) (cell_of s a) _ _ (cell_read a h r.register) (cell_other a h r.register) (r.cells a h)

    right_before : IsRightTable f t → (n : ℕ) → n < 66 → is_right_before s reads opposite pin n ≡ true
    unfolding is_right_before
    right_before r zero b = refl
    right_before r (suc n) b = and_true _ _ (right_before r n (omega (arith, b))) (right_in r n (omega (arith, b)))

  -- what is kept is true
  pub right_holds : (f : Faults) → told ≡ Some f → HoldsFor k f → GainHoldsFor k (right_parts trees ts s reads opposite) f
  right_holds f is holds = record {
    crosses = λ x on. absurd (false≢true on);
    wires = λ w on. absurd (false≢true on);
    joined = λ a b on. absurd (false≢true on);
    joins = λ a b on. absurd (false≢true on);
    row = λ a b t on. absurd (false≢true on);
    cells = λ t a on. by_cell t a on;
    registers = λ t on. let p = and_parts (is_one_of ts t) _ on in register_free f is holds t p.0 p.1;
  }
    where
      by_cell : (t a : ℕ) → (is_one_of ts t && (nat_lt a 64 && (is_right_in s reads opposite (output_pin trees t) 0 && is_right_in s reads opposite (output_pin trees t) (suc a)))) ≡ true → wrong_cell f t a ≡ None
      by_cell t a on =
          let p = and_parts (is_one_of ts t) _ on in
          let q = and_parts (nat_lt a 64) _ p.1 in
          let r = and_parts (is_right_in s reads opposite (output_pin trees t) 0) _ q.1 in
          let low = q.0 in
          let h : a < 64 = grind (arith, nat_tests, low) in
          cell_free f is holds t p.0 a h r.0 r.1

  -- and a table that isn't right is wrong
  not_right_wrong : (f : Faults) → told ≡ Some f → HoldsFor k f → (t : ℕ) → (is_one_of ts t && not (is_right_before s reads opposite (output_pin trees t) 65)) ≡ true → ¬ IsRightTable f t
  not_right_wrong f same held t h r =
      let p = and_parts (is_one_of ts t) (not (is_right_before s reads opposite (output_pin trees t) 65)) h in
      false≢true (sym (not_true _ p.1) ∙ right_before f same held t p.0 r 65 (omega arith))

  -- so what is newly marked is
  pub newly_wrong : (was is : List Bool) → ((t : ℕ) → has_number is t ≡ ((is_one_of ts t && not (is_right_before s reads opposite (output_pin trees t) 65)) || has_number was t)) → MarksWrong told k was is
  newly_wrong was is marks f same holds t off on = by (or_cases (is_one_of ts t && not (is_right_before s reads opposite (output_pin trees t) 65)) (has_number was t) (sym (marks t) ∙ on))
    where
      by : ((is_one_of ts t && not (is_right_before s reads opposite (output_pin trees t) 65)) ≡ true) ⊎ (has_number was t ≡ true) → ¬ IsRightTable f t
      by (inl h) = not_right_wrong f same holds t h
      by (inr h) = absurd (false≢true (sym off ∙ h))

  -- and all, where the older marks are true
  pub marks_wrong : (was is : List Bool) (l : Kept) → Gains (right_parts trees ts s reads opposite) k l →
      ((t : ℕ) → has_number is t ≡ ((is_one_of ts t && not (is_right_before s reads opposite (output_pin trees t) 65)) || has_number was t)) → WrongIf told k was → WrongIf told l is
  marks_wrong was is l gains marks before f same holds t on = by (or_cases (is_one_of ts t && not (is_right_before s reads opposite (output_pin trees t) 65)) (has_number was t) (sym (marks t) ∙ on))
    where
      held : HoldsFor k f
      held = held_before (right_parts trees ts s reads opposite) k l f gains holds

      by : ((is_one_of ts t && not (is_right_before s reads opposite (output_pin trees t) 65)) ≡ true) ⊎ (has_number was t ≡ true) → ¬ IsRightTable f t
      by (inl h) = not_right_wrong f same held t h
      by (inr h) = before f same held t h
