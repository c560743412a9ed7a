-- Cells as masks, and the cells of a function.
use Rattle.std.proofs.Common.{◌≡◌, Bool, ℕ, zero, suc, ◌+◌, ◌-◌, ◌*◌, ◌^◌, ◌<◌, ◌≤◌, ◌&&◌, ◌||◌, List, [], ◌∷◌, true, false, length, drop, map, get_or, refl, sym, ap, subst, ◌∙◌, arith, bit_and, bit_or, w64, not, if◌then◌else◌, ◌==◌}
use Rattle.std.specs.Int.{bit_at}
use native.Mathlib.Numerals.{unary_clauses}
use Rattle.map_network.proofs.Vocabulary.{range_with_len, drop_more, drop_all, ext_get_or, length-map, get_or-map}
use Rattle.map_network.proofs.Vocabulary.{get_or-map-range_with_len, length-map-range_with_len, nat_tests, Lit, fits, matches, some_matches}
use Rattle.map_network.proofs.Vocabulary.{Want}
use Rattle.std.proofs.lemmas.Nat.Bits.{bit_at_not, bit_at_ones, bit_at-lt, bit_at-zero, bit_at-suc, bit_at_lowest, same_from_bits_below}
use Rattle.std.proofs.Math.Bool.{and_assoc, and-true, or_assoc, or-false}
use Rattle.design_netlist.proofs.BitLemmas.{halved, lowest, two_bits}
use Rattle.design_netlist.proofs.LaneLemmas.{and-bit, or-bit}
use Rattle.map_network.specs.Vocabulary.{number_of, cell_at, six_bits, cells_where, every, any, met, pin_named, Give, masks_at}

-- one bit

bits_not : (p : ℕ) → p < 2 → (1 - p == 1) ≡ not (p == 1)
bits_not zero lp = refl
bits_not (suc zero) lp = refl
bits_not (suc (suc p)) lp = absurd (omega arith)

pub cell_and : (x y a : ℕ) → cell_at (bit_and x y) a ≡ (cell_at x a && cell_at y a)
cell_and = and-bit

pub cell_or : (x y a : ℕ) → cell_at (bit_or x y) a ≡ (cell_at x a || cell_at y a)
cell_or = or-bit

pub cell_not : (x a : ℕ) → x < 18446744073709551616 → a < 64 → cell_at (18446744073709551615 - x) a ≡ not (cell_at x a)
cell_not x a lx la = ap (λ b. b == 1) (bit_at_not w64 x a lx la) ∙ bits_not (bit_at x a) (bit_at-lt x a)

pub cell_ones : (a : ℕ) → a < 64 → cell_at 18446744073709551615 a ≡ true
cell_ones a la = ap (λ b. b == 1) (bit_at_ones 64 a la)

pub cell_zero : (a : ℕ) → cell_at 0 a ≡ false
cell_zero a = ap (λ b. b == 1) (bit_at-zero a)

-- the bits of a number that is made of bits

pub cell_of_number : (bs : List Bool) (i : ℕ) → cell_at (number_of bs) i ≡ get_or bs i false
cell_of_number [] i = cell_zero i
cell_of_number (b ∷ bs) zero = ap (λ m. m == 1) (bit_at_lowest (number_of (b ∷ bs))) ∙ lowest b (number_of bs)
cell_of_number (b ∷ bs) (suc i) = ap (λ m. m == 1) (bit_at-suc (number_of (b ∷ bs)) i) ∙ ap (λ m. cell_at m i) (halved b (number_of bs)) ∙ cell_of_number bs i

pub number_fits : (bs : List Bool) → number_of bs < 2 ^ length bs
number_fits [] = omega arith
number_fits (b ∷ bs) = let h = number_fits bs in let p : 2 ^ suc (length bs) ≡ 2 * 2 ^ length bs = simp unary_clauses (omega arith) in by b p h
  where
    by : (b : Bool) → 2 ^ suc (length bs) ≡ 2 * 2 ^ length bs → number_of bs < 2 ^ length bs → number_of (b ∷ bs) < 2 ^ suc (length bs)
    by true p h = omega arith
    by false p h = omega arith

pub length_six : (a : ℕ) → length (six_bits a) ≡ 6
unfolding six_bits
length_six a = refl

-- a list of six bits is what its number has
pub six_of_number : (bits : List Bool) → length bits ≡ 6 → six_bits (number_of bits) ≡ bits
unfolding six_bits
six_of_number bits len = ext_get_or false _ _ (sym len) (λ i li. get_or-map-range_with_len (cell_at (number_of bits)) 0 6 i i false li (omega arith) ∙ cell_of_number bits i)

pub number_of_six : (bits : List Bool) → length bits ≡ 6 → number_of bits < 64
number_of_six bits len = let h : number_of bits < 2 ^ 6 = subst (λ n. number_of bits < 2 ^ n) len (number_fits bits) in h

-- the cell of a function at an address
pub cell_where : (f : List Bool → Bool) (a : ℕ) → a < 64 → cell_at (cells_where f) a ≡ f (six_bits a)
unfolding cells_where
cell_where f a la = cell_of_number (map (λ a. f (six_bits a)) (range_with_len 0 64)) a ∙ get_or-map-range_with_len (λ a. f (six_bits a)) 0 64 a a false la (omega arith)

-- a table gives f of what its pins read
pub gives_of : (f : List Bool → Bool) (bits : List Bool) → length bits ≡ 6 → cell_at (cells_where f) (number_of bits) ≡ f bits
gives_of f bits len = cell_where f (number_of bits) (number_of_six bits len) ∙ ap f (six_of_number bits len)

pub bit_of_cell : (p q : ℕ) → p < 2 → q < 2 → (p == 1) ≡ (q == 1) → p ≡ q
bit_of_cell = two_bits (λ p q. (p == 1) ≡ (q == 1) → p ≡ q) (λ e. refl) (λ e. absurd (let no : false ≡ true = e in cc)) (λ e. absurd (let no : true ≡ false = e in cc)) (λ e. refl)

pub cells_are : (x : ℕ) (f : List Bool → Bool) → x < 18446744073709551616 → Give x (λ a. f (six_bits a)) → x ≡ cells_where f
unfolding cells_where
cells_are x f lx h =
    same_from_bits_below 64 x (cells_where f) lx (subst (λ n. cells_where f < 2 ^ n) (length-map-range_with_len (λ a. f (six_bits a)) 0 64) (number_fits (map (λ a. f (six_bits a)) (range_with_len 0 64))))
    (λ i li. bit_of_cell (bit_at x i) (bit_at (cells_where f) i) (bit_at-lt x i) (bit_at-lt (cells_where f) i) (h i li ∙ sym (cell_where f i li)))

-- pins

-- a mask that has the bits of addresses at a pin's place
pub pin_gives : (p mask : ℕ) → p < 6 → ((a : ℕ) → a < 64 → cell_at mask a ≡ cell_at a p) → Give mask (λ a. get_or (six_bits a) p true)
unfolding six_bits
pin_gives p mask lp gives a la = gives a la ∙ sym (get_or-map-range_with_len (cell_at a) 0 6 p p true lp (omega arith))

-- one more of a loop

met_more : (ws : List Want) (bits : List Bool) (k : ℕ) (d : Want) → k < length ws → k < length bits → met (drop k ws) (drop k bits) ≡ fits (get_or ws k d).lit (get_or bits k true) ∷ met (drop (k + 1) ws) (drop (k + 1) bits)
met_more ws bits k d lw lb = ap (λ xs. met xs (drop k bits)) (drop_more ws k d lw) ∙ ap (λ bs. met (get_or ws k d ∷ drop (k + 1) ws) bs) (drop_more bits k true lb)

module _ (ws : List Want) (a : ℕ) (few : length ws ≤ 6) (la : a < 64) where
  pub all_more : (k x y z : ℕ) (d : Want) → k < length ws → Give y (λ a. get_or (six_bits a) k true) → Give z (λ a. fits (get_or ws k d).lit (cell_at y a)) → (cell_at x a && every (met (drop k ws) (drop k (six_bits a)))) ≡ every (met ws (six_bits a)) → (cell_at (bit_and x z) a && every (met (drop (k + 1) ws) (drop (k + 1) (six_bits a)))) ≡ every (met ws (six_bits a))
  all_more k x y z d lk hy hz old =
      ap (λ b. b && every (met (drop (k + 1) ws) (drop (k + 1) (six_bits a)))) (cell_and x z a)
      ∙ and_assoc (cell_at x a) (cell_at z a) (every (met (drop (k + 1) ws) (drop (k + 1) (six_bits a))))
      ∙ ap (λ b. cell_at x a && (b && every (met (drop (k + 1) ws) (drop (k + 1) (six_bits a))))) (hz a la ∙ ap (λ b. fits (get_or ws k d).lit b) (hy a la))
      ∙ ap (λ bs. cell_at x a && every bs) (sym (met_more ws (six_bits a) k d lk (omega (arith, length_six a))))
      ∙ old

  pub some_more : (k x y z : ℕ) (d : Want) → k < length ws → Give y (λ a. get_or (six_bits a) k true) → Give z (λ a. fits (get_or ws k d).lit (cell_at y a)) → (cell_at x a || any (met (drop k ws) (drop k (six_bits a)))) ≡ any (met ws (six_bits a)) → (cell_at (bit_or x z) a || any (met (drop (k + 1) ws) (drop (k + 1) (six_bits a)))) ≡ any (met ws (six_bits a))
  some_more k x y z d lk hy hz old =
      ap (λ b. b || any (met (drop (k + 1) ws) (drop (k + 1) (six_bits a)))) (cell_or x z a)
      ∙ or_assoc (cell_at x a) (cell_at z a) (any (met (drop (k + 1) ws) (drop (k + 1) (six_bits a))))
      ∙ ap (λ b. cell_at x a || (b || any (met (drop (k + 1) ws) (drop (k + 1) (six_bits a))))) (hz a la ∙ ap (λ b. fits (get_or ws k d).lit b) (hy a la))
      ∙ ap (λ bs. cell_at x a || any bs) (sym (met_more ws (six_bits a) k d lk (omega (arith, length_six a))))
      ∙ old

  pub all_ends : (k x : ℕ) → length ws ≤ k → (cell_at x a && every (met (drop k ws) (drop k (six_bits a)))) ≡ every (met ws (six_bits a)) → cell_at x a ≡ every (met ws (six_bits a))
  all_ends k x le old = sym (and-true (cell_at x a)) ∙ ap (λ xs. cell_at x a && every (met xs (drop k (six_bits a)))) (sym (drop_all k ws le)) ∙ old

  pub some_ends : (k x : ℕ) → length ws ≤ k → (cell_at x a || any (met (drop k ws) (drop k (six_bits a)))) ≡ any (met ws (six_bits a)) → cell_at x a ≡ any (met ws (six_bits a))
  some_ends k x le old = sym (or-false (cell_at x a)) ∙ ap (λ xs. cell_at x a || any (met xs (drop k (six_bits a)))) (sym (drop_all k ws le)) ∙ old

-- names

pub eqb_true : (n x : ℕ) → n ≡ x → (n == x) ≡ true
eqb_true n x e = grind (arith, nat_tests)

pub eqb_false : (n x : ℕ) → (n ≡ x → ⊥) → (n == x) ≡ false
eqb_false n x d = grind (arith, nat_tests)

pub named_skip : (names : List ℕ) (bits : List Bool) (n x : ℕ) (b : Bool) → (n ≡ x → ⊥) → pin_named (n ∷ names) (b ∷ bits) x ≡ pin_named names bits x
named_skip names bits n x b d = ap (λ t. if t then b else pin_named names bits x) (eqb_false n x d)

pub named_here : (names : List ℕ) (bits : List Bool) (n x : ℕ) (b : Bool) → n ≡ x → pin_named (n ∷ names) (b ∷ bits) x ≡ b
named_here names bits n x b e = ap (λ t. if t then b else pin_named names bits x) (eqb_true n x e)

module _ (names : List ℕ) (x : ℕ) (bits : List Bool) (few : length names ≤ length bits) where
  drop_named : (k : ℕ) → k < length names → pin_named (drop k names) (drop k bits) x ≡ pin_named (get_or names k 0 ∷ drop (k + 1) names) (get_or bits k true ∷ drop (k + 1) bits) x
  drop_named k lk = ap (λ xs. pin_named xs (drop k bits) x) (drop_more names k 0 lk) ∙ ap (λ bs. pin_named (get_or names k 0 ∷ drop (k + 1) names) bs x) (drop_more bits k true (omega arith))

  pub name_skip : (k : ℕ) → k < length names → (get_or names k 0 ≡ x → ⊥) → pin_named (drop k names) (drop k bits) x ≡ pin_named names bits x → pin_named (drop (k + 1) names) (drop (k + 1) bits) x ≡ pin_named names bits x
  name_skip k lk d old = sym (named_skip (drop (k + 1) names) (drop (k + 1) bits) (get_or names k 0) x (get_or bits k true) d) ∙ sym (drop_named k lk) ∙ old

  pub name_here : (k : ℕ) → k < length names → get_or names k 0 ≡ x → pin_named (drop k names) (drop k bits) x ≡ pin_named names bits x → get_or bits k true ≡ pin_named names bits x
  name_here k lk e old = sym (named_here (drop (k + 1) names) (drop (k + 1) bits) (get_or names k 0) x (get_or bits k true) e) ∙ sym (drop_named k lk) ∙ old

  pub name_ends : (k : ℕ) → length names ≤ k → pin_named (drop k names) (drop k bits) x ≡ pin_named names bits x → true ≡ pin_named names bits x
  name_ends k le old = ap (λ xs. pin_named xs (drop k bits) x) (sym (drop_all k names le)) ∙ old

-- rows

module _ (row : List Lit) (masks : List ℕ) (a : ℕ) (len : length row ≡ length masks) where
  bits_more : (k : ℕ) → k < length masks → drop k (masks_at masks a) ≡ cell_at (get_or masks k 0) a ∷ drop (k + 1) (masks_at masks a)
  bits_more k lk = drop_more (masks_at masks a) k true (omega (arith, length-map masks (λ m. cell_at m a))) ∙ ap (λ b. b ∷ drop (k + 1) (masks_at masks a)) (get_or-map (λ m. cell_at m a) masks k 0 true lk)

  pub row_more : (k x z : ℕ) (d : Lit) → k < length row → cell_at z a ≡ fits (get_or row k d) (cell_at (get_or masks k 0) a) → (cell_at x a && matches (drop k row) (drop k (masks_at masks a))) ≡ matches row (masks_at masks a) → (cell_at (bit_and x z) a && matches (drop (k + 1) row) (drop (k + 1) (masks_at masks a))) ≡ matches row (masks_at masks a)
  row_more k x z d lk hz old =
      ap (λ b. b && matches (drop (k + 1) row) (drop (k + 1) (masks_at masks a))) (cell_and x z a)
      ∙ and_assoc (cell_at x a) (cell_at z a) (matches (drop (k + 1) row) (drop (k + 1) (masks_at masks a)))
      ∙ ap (λ b. cell_at x a && (b && matches (drop (k + 1) row) (drop (k + 1) (masks_at masks a)))) hz
      ∙ ap (λ bs. cell_at x a && matches (get_or row k d ∷ drop (k + 1) row) bs) (sym (bits_more k (omega arith)))
      ∙ ap (λ xs. cell_at x a && matches xs (drop k (masks_at masks a))) (sym (drop_more row k d lk))
      ∙ old

  pub row_ends : (k x : ℕ) → length row ≤ k → (cell_at x a && matches (drop k row) (drop k (masks_at masks a))) ≡ matches row (masks_at masks a) → cell_at x a ≡ matches row (masks_at masks a)
  row_ends k x le old = sym (and-true (cell_at x a)) ∙ ap (λ xs. cell_at x a && matches xs (drop k (masks_at masks a))) (sym (drop_all k row le)) ∙ old

pub if_or : (b c : Bool) → (if b then true else c) ≡ (b || c)
if_or true c = refl
if_or false c = refl

module _ (rows : List (List Lit)) (bits : List Bool) where
  pub rows_more : (k x z a : ℕ) (d : List Lit) → k < length rows → cell_at z a ≡ matches (get_or rows k d) bits → (cell_at x a || some_matches (drop k rows) bits) ≡ some_matches rows bits → (cell_at (bit_or x z) a || some_matches (drop (k + 1) rows) bits) ≡ some_matches rows bits
  rows_more k x z a d lk hz old =
      ap (λ b. b || some_matches (drop (k + 1) rows) bits) (cell_or x z a)
      ∙ or_assoc (cell_at x a) (cell_at z a) (some_matches (drop (k + 1) rows) bits)
      ∙ ap (λ b. cell_at x a || (b || some_matches (drop (k + 1) rows) bits)) hz
      ∙ ap (λ b. cell_at x a || b) (sym (if_or (matches (get_or rows k d) bits) (some_matches (drop (k + 1) rows) bits)))
      ∙ ap (λ xs. cell_at x a || some_matches xs bits) (sym (drop_more rows k d lk))
      ∙ old

  pub rows_end : (k x a : ℕ) → length rows ≤ k → (cell_at x a || some_matches (drop k rows) bits) ≡ some_matches rows bits → cell_at x a ≡ some_matches rows bits
  rows_end k x a le old = sym (or-false (cell_at x a)) ∙ ap (λ xs. cell_at x a || some_matches xs bits) (sym (drop_all k rows le)) ∙ old
