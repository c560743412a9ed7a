-- Drives for the addresses of tables.
use Rattle.std.proofs.Common.{◌≡◌, ◌≢◌, ℕ, zero, suc, ◌<◌, ◌+◌, Bool, true, false, Some, None, List, [], ◌∷◌, ◌++◌, length, get_or, set, refl, sym, ap, ◌∙◌, subst, arith, ◌==◌, All, replicate, slice_set}
use Rattle.diag_evidence.proofs.Vocabulary.{bit_at, nat_tests, Cross, Table, Pins, table_wire, crosses_of, among, cross_numbers}
use Rattle.std.proofs.lemmas.Bool.{false≢true, or_left, or_right}
use Rattle.std.proofs.lemmas.List.{get_or-set_same, get_or-set_other, get_or-replicate, get_or_past, length-replicate, length-append}
use native.Mathlib.Decide.{ℕ_discrete, dec_lt}
use Rattle.diag_evidence.specs.Vocabulary.{Trees, HangsOn, IsForest, pin_of, AreAddressesOf, AreTableDrives, HasAddress, HasInputs, HaveWidth, IsPinOf, AreAddressDrives, AreTablesOn, IsInputPin, is_one_of}
use Rattle.diag_evidence.proofs.Planted.{same_pin}

-- all pins are released
pub released_at : (n p : ℕ) → get_or (replicate n true) p true ≡ true
released_at n p = by (dec_lt p n)
  where
    by : Dec (p < n) → get_or (replicate n true) p true ≡ true
    by (yes h) = get_or-replicate n p true true h
    by (no h) = get_or_past (replicate n true) p true (let l = length-replicate n true in omega (arith, h, l))

-- an input more
module _ (trees : Trees) (t a n : ℕ) (drive : Pins) (inputs : HasInputs trees t) (below : n < 6) (h : HasAddress trees t a n drive) where
  pub input_set : (p : ℕ) (b : Bool) → HangsOn trees (table_wire trees.shape t n) p → p < length drive → b ≡ (bit_at a n == 1) → HasAddress trees t a (n + 1) (set drive p b)
  input_set p b hangs room is = record {
    bits = λ j q less on. by j q less on (ℕ_discrete j n);
    only = λ q low. by_low q low (ℕ_discrete q p);
  }
    where
      by : (j q : ℕ) → j < n + 1 → HangsOn trees (table_wire trees.shape t j) q → Dec (j ≡ n) → get_or (set drive p b) q true ≡ (bit_at a j == 1)
      by j q less on (yes e) =
          let same : q ≡ p = same_pin (sym on ∙ ap (λ i. pin_of trees (table_wire trees.shape t i)) e ∙ hangs) in
          subst (λ r. get_or (set drive p b) r true ≡ (bit_at a j == 1)) (sym same) (get_or-set_same drive p b true room ∙ is ∙ ap (λ i. bit_at a i == 1) (sym e))
      by j q less on (no m) =
          get_or-set_other drive p q b true (λ e. m (inputs.differ j n p (omega (arith, less, below)) below (on ∙ ap Some e) hangs)) ∙ h.bits j q (omega (arith, less, m)) on

      by_low : (q : ℕ) → get_or (set drive p b) q true ≡ false → Dec (q ≡ p) → IsPinOf trees t (n + 1) q
      by_low q low (yes e) = record { input = n; below = omega arith; hangs = hangs ∙ ap Some (sym e) }
      by_low q low (no m) =
          let o = h.only q (sym (get_or-set_other drive p q b true m) ∙ low) in
          let less = o.below in
          record { input = o.input; below = omega (arith, less); hangs = o.hangs }

  pub input_loose : pin_of trees (table_wire trees.shape t n) ≡ None → HasAddress trees t a (n + 1) drive
  input_loose none = record {
    bits = λ j q less on. by j q less on (ℕ_discrete j n);
    only = λ q low. let o = h.only q low in let less = o.below in record { input = o.input; below = omega (arith, less); hangs = o.hangs };
  }
    where
      by : (j q : ℕ) → j < n + 1 → HangsOn trees (table_wire trees.shape t j) q → Dec (j ≡ n) → get_or drive q true ≡ (bit_at a j == 1)
      by j q less on (yes e) = absurd (let no : ⊥ = hung (sym none ∙ ap (λ i. pin_of trees (table_wire trees.shape t i)) (sym e) ∙ on) in no)
        where
          hung : None ≡ Some q → ⊥
          hung e = cc
      by j q less on (no m) = h.bits j q (omega (arith, less, m)) on

-- a drive more
behind : (xs : List Pins) (x d : Pins) (k : ℕ) → k ≡ length xs → get_or (xs ++ x ∷ []) k d ≡ x
behind [] x d zero e = refl
behind [] x d (suc k) e = absurd (omega (arith, e))
behind (y ∷ xs) x d zero e = absurd (omega (arith, e))
behind (y ∷ xs) x d (suc k) e = behind xs x d k (omega (arith, e))

before : (xs : List Pins) (x d : Pins) (k : ℕ) → k < length xs → get_or (xs ++ x ∷ []) k d ≡ get_or xs k d
before [] x d k h = absurd (omega (arith, h))
before (y ∷ xs) x d zero h = refl
before (y ∷ xs) x d (suc k) h = before xs x d k (omega (arith, h))

module _ (trees : Trees) (t n : ℕ) (drives : List Pins) (h : AreAddressesOf trees t n drives) (drive : Pins) where
  pub all_drives : n ≡ 64 → ((p : ℕ) → get_or drive p true ≡ true) → AreTableDrives trees t (drives ++ drive ∷ [])
  all_drives whole free = record {
    many = let l = length-append drives (drive ∷ []) in let m = h.many in omega (arith, l, m, whole);
    each = λ a less. subst (λ r. HasAddress trees t a 6 r) (sym (before drives drive [] a (let l = h.many in omega (arith, less, l, whole)))) (h.each a [] (omega (arith, less, whole)));
    last = λ p. ap (λ r. get_or r p true) (behind drives drive [] 64 (let l = h.many in omega (arith, l, whole))) ∙ free p;
  }

pub width_more : (n : ℕ) (rows : List Pins) (row : Pins) → HaveWidth n rows → length row ≡ n → HaveWidth n (rows ++ row ∷ [])
width_more n rows row wide is k d less = by (dec_lt k (length rows))
  where
    by : Dec (k < length rows) → length (get_or (rows ++ row ∷ []) k d) ≡ n
    by (yes h) = ap length (before rows row d k h) ∙ wide k d h
    by (no h) = ap length (behind rows row d k (let l = length-append rows (row ∷ []) in omega (arith, less, h, l))) ∙ is

-- the drives of one table are those of all that hang where it does
module _ (trees : Trees) (ts : List Table) (t : ℕ) (on : AreTablesOn trees ts) (one : is_one_of ts t ≡ true) (drives : List Pins) (h : AreTableDrives trees t drives) where
  pub drives_of_all : AreAddressDrives trees ts drives
  drives_of_all = record {
    many = h.many;
    bits = λ a u j p less is below hangs. by a u j p less is below hangs (on.hang t j one (omega (arith, below)));
    only = λ n p low. by_place n p low (dec_lt n 64) (ℕ_discrete n 64);
    last = h.last;
  }
    where
      by : (a u j p : ℕ) → a < 64 → is_one_of ts u ≡ true → j < 6 → HangsOn trees (table_wire trees.shape u j) p → (q : ℕ) × HangsOn trees (table_wire trees.shape t j) q → get_or (get_or drives a []) p true ≡ (bit_at a j == 1)
      by a u j p less is below hangs (q, here) = (h.each a less).bits j p below (here ∙ ap Some (on.inputs t u j q p one is below here hangs))

      by_place : (n p : ℕ) → get_or (get_or drives n []) p true ≡ false → Dec (n < 64) → Dec (n ≡ 64) → IsInputPin trees ts p
      by_place n p low (yes less) e = let i = (h.each n less).only p low in record { table = t; input = i.input; is_one = one; below = i.below; hangs = i.hangs }
      by_place n p low (no m) (yes e) = absurd (false≢true (sym low ∙ ap (λ k. get_or (get_or drives k []) p true) e ∙ h.last p))
      by_place n p low (no m) (no o) = absurd (false≢true (sym low ∙ ap (λ r. get_or r p true) (get_or_past drives n [] (let l = h.many in omega (arith, m, o, l)))))

-- each crosspoint of a list is among their numbers
pub numbered : (xs : List Cross) (k : ℕ) (d : Cross) → k < length xs → among (cross_numbers xs) (get_or xs k d).0 ≡ true
numbered [] k d h = absurd (omega (arith, h))
numbered (x ∷ xs) zero d h = or_left (x.0 == x.0) _ (let e : (x.0 == x.0) ≡ true = grind (arith, nat_tests) in e)
numbered (x ∷ xs) (suc k) d h = or_right (x.0 == (get_or xs k d).0) _ (numbered xs k d (omega (arith, h)))

-- .. and those of a forest are crosspoints of the machine
pub laid_below : (trees : Trees) → IsForest trees → All (λ (x : Cross). x.0 < crosses_of trees.shape) trees.crosses
laid_below trees forest = λ k d h. (forest.crosses _ (numbered trees.crosses k d h)).below
