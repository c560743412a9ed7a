-- Bits of words, lane by lane.
use Rattle.std.proofs.Common.{◌≡◌, ℕ, zero, suc, ◌<◌, ◌^◌, ◌-◌, ◌&&◌, ◌||◌, ◌==◌, min, max, Bool, true, false, List, [], ◌∷◌, length, take, get_or, map, refl, sym, ap, subst, ◌∙◌, arith, not, if◌then◌else◌, slice_set}
use Rattle.std.specs.Int.{w64, bit_not, Bits.bit_and, RustNames.bit_or}
use Rattle.design_netlist.proofs.Vocabulary.{range_with_len, map-set, Lit, Zero}
use Rattle.std.proofs.{lemmas.List.FromFn.get_or-map-range_with_len, Math.ListN.get_or-map}
use Rattle.std.proofs.lemmas.Nat.Bits.{bit_at_and, bit_at_or, bit_at_not, bit_at_ones, bit_at-zero, bit_at-lt}
use Rattle.design_netlist.proofs.BitLemmas.{two_bits, six_places}
use Rattle.design_netlist.specs.Vocabulary.{fits, matches, some_matches, number_at, bit_at, is_bit, lane_bits}

pub lane-set : (words : List ℕ) (s word j : ℕ) → lane_bits (slice_set words s word) j ≡ slice_set (lane_bits words j) s (is_bit word j)
lane-set words s word j = map-set (λ w. is_bit w j) words s word

pub no-bit : (j : ℕ) → is_bit 0 j ≡ false
no-bit j = ap (λ b. b == 1) (bit_at-zero j)

pub all-bits : (j : ℕ) → j < 64 → is_bit (2 ^ 64 - 1) j ≡ true
all-bits j lj = ap (λ b. b == 1) (bit_at_ones 64 j lj)

pub lane-at : (words : List ℕ) (j s : ℕ) → bit_at (lane_bits words j) s ≡ is_bit (number_at words s) j
lane-at words j s = subst (λ (d : Bool). get_or (lane_bits words j) s d ≡ is_bit (number_at words s) j) (no-bit j) (get_or-map (λ w. is_bit w j) words s 0)

least : (a b : ℕ) → a < 2 → b < 2 → (min a b == 1) ≡ ((a == 1) && (b == 1))
least = two_bits (λ a b. (min a b == 1) ≡ ((a == 1) && (b == 1))) refl refl refl refl

most : (a b : ℕ) → a < 2 → b < 2 → (max a b == 1) ≡ ((a == 1) || (b == 1))
most = two_bits (λ a b. (max a b == 1) ≡ ((a == 1) || (b == 1))) refl refl refl refl

turned : (a : ℕ) → a < 2 → ((1 - a) == 1) ≡ not (a == 1)
turned zero la = refl
turned (suc zero) la = refl
turned (suc (suc a)) la = absurd (omega arith)

pub and-bit : (a b j : ℕ) → is_bit (bit_and a b) j ≡ (is_bit a j && is_bit b j)
and-bit a b j = ap (λ x. x == 1) (bit_at_and a b j) ∙ least _ _ (bit_at-lt a j) (bit_at-lt b j)

pub or-bit : (a b j : ℕ) → is_bit (bit_or a b) j ≡ (is_bit a j || is_bit b j)
or-bit a b j = ap (λ x. x == 1) (bit_at_or a b j) ∙ most _ _ (bit_at-lt a j) (bit_at-lt b j)

pub not-bit : (a j : ℕ) → a < 2 ^ 64 → j < 64 → is_bit (bit_not w64 a) j ≡ not (is_bit a j)
not-bit a j la lj = ap (λ x. x == 1) (bit_at_not w64 a j la lj) ∙ turned _ (bit_at-lt a j)

and-assoc : (a b c : Bool) → (a && (b && c)) ≡ ((a && b) && c)
and-assoc true b c = refl
and-assoc false b c = refl

-- one more literal of a row
pub matches-more : (given : ℕ → Bool) (ls : List Lit) (ss : List ℕ) (k : ℕ) → length ls ≡ length ss → k < length ls → matches (take (suc k) ls) (map given (take (suc k) ss)) ≡ (matches (take k ls) (map given (take k ss)) && fits (get_or ls k Zero) (given (get_or ss k 0)))
matches-more given [] ss k e lk = absurd (omega arith)
matches-more given (l ∷ ls) [] k e lk = absurd (omega arith)
matches-more given (l ∷ ls) (s ∷ ss) zero e lk = by (fits l (given s))
  where
    by : (b : Bool) → (b && true) ≡ b
    by true = refl
    by false = refl
matches-more given (l ∷ ls) (s ∷ ss) (suc k) e lk = ap (λ b. fits l (given s) && b) (matches-more given ls ss k (omega arith) (omega arith)) ∙ and-assoc (fits l (given s)) _ _

-- one more row
pub some-more : (rows : List (List Lit)) (bits : List Bool) (k : ℕ) → k < length rows → some_matches (take (suc k) rows) bits ≡ (some_matches (take k rows) bits || matches (get_or rows k []) bits)
some-more [] bits k lk = absurd (omega arith)
some-more (r ∷ rs) bits zero lk = by (matches r bits)
  where
    by : (b : Bool) → (if b then true else false) ≡ b
    by true = refl
    by false = refl
some-more (r ∷ rs) bits (suc k) lk = ap (λ b. if matches r bits then true else b) (some-more rs bits k (omega arith)) ∙ by (matches r bits) _ _
  where
    by : (a b c : Bool) → (if a then true else (b || c)) ≡ ((if a then true else b) || c)
    by true b c = refl
    by false b c = refl

-- ---- words whose bits are those of their lanes' numbers

abbrev place_words : List ℕ
place_words = 12297829382473034410 ∷ 14757395258967641292 ∷ 17361641481138401520 ∷ 18374966859414961920 ∷ 18446462603027742720 ∷ 18446744069414584320 ∷ []

-- each word in all lanes
place_lanes : (p : ℕ) → p < 6 → map (λ a. is_bit (get_or place_words p 0) a) (range_with_len 0 64) ≡ map (λ a. is_bit a p) (range_with_len 0 64)
place_lanes = six_places (λ p. map (λ a. is_bit (get_or place_words p 0) a) (range_with_len 0 64) ≡ map (λ a. is_bit a p) (range_with_len 0 64)) refl refl refl refl refl refl

pub place_gives : (p : ℕ) → p < 6 → (a : ℕ) → a < 64 → is_bit (get_or place_words p 0) a ≡ is_bit a p
place_gives p lp a la =
    sym (get_or-map-range_with_len (λ a. is_bit (get_or place_words p 0) a) 0 64 a a false la (omega arith))
    ∙ ap (λ bs. get_or bs a false) (place_lanes p lp)
    ∙ get_or-map-range_with_len (λ a. is_bit a p) 0 64 a a false la (omega arith)
