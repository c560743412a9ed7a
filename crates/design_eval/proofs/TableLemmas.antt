-- Covers as tables.
use Rattle.std.proofs.Common.{◌≡◌, ◌⊎◌, ℕ, zero, suc, ◌+◌, ◌-◌, ◌*◌, ◌/◌, ◌%◌, ◌==◌, ◌<◌, ◌≤◌, Bool, true, false, List, [], ◌∷◌, ◌++◌, length, take, drop, get_or, map, refl, sym, ap, subst, ◌∙◌, inl, inr, arith, if◌then◌else◌, slice_set, get_or-set_same, get_or-set_other}
use Rattle.design_eval.proofs.Vocabulary.{cases_lt, cases_eq, Cover, no_cover, cover_at, truth, IsCoverOver, cover_of, bit_at, AreBelow}
use Rattle.design_eval.proofs.Vocabulary.{addresses, truth_at, address, six_bits, AreCells, AreWires, IsTable}
use Rattle.std.specs.Int.{from_bool}
use Rattle.std.proofs.lemmas.List.{take-map, get_or-take, length-take, drop_more, drop_all, length-drop, take_more, take_more_set, get_or_default}
use Rattle.design_netlist.specs.declared.netlist_data.Lit.{Lit}
use Rattle.design_netlist.proofs.BitLemmas.{halved, lowest}

pub address-half : (given : ℕ → Bool) (s : ℕ) (ss : List ℕ) → address given (s ∷ ss) / 2 ≡ address given ss
unfolding address
address-half given s ss = halved (given s) (address given ss)

pub address-low : (given : ℕ → Bool) (s : ℕ) (ss : List ℕ) → (address given (s ∷ ss) % 2 == 1) ≡ given s
unfolding address
address-low given s ss = lowest (given s) (address given ss)

pub address-nil : (given : ℕ → Bool) → address given [] ≡ 0
unfolding address
address-nil given = refl

pub address-more : (given : ℕ → Bool) (s : ℕ) (ss : List ℕ) → address given (s ∷ ss) ≡ (if given s then 1 else 0) + 2 * address given ss
unfolding address
address-more given s ss = refl

-- an address has the signals' bits
pub six-bits : (given : ℕ → Bool) (wires : List ℕ) → length wires ≡ 6 → six_bits (address given wires) ≡ map given wires
six-bits given [] size = absurd (omega arith)
six-bits given (a ∷ []) size = absurd (omega arith)
six-bits given (a ∷ b ∷ []) size = absurd (omega arith)
six-bits given (a ∷ b ∷ c ∷ []) size = absurd (omega arith)
six-bits given (a ∷ b ∷ c ∷ d ∷ []) size = absurd (omega arith)
six-bits given (a ∷ b ∷ c ∷ d ∷ e ∷ []) size = absurd (omega arith)
six-bits given (a ∷ b ∷ c ∷ d ∷ e ∷ f ∷ []) size =
    let h1 = address-half given a (b ∷ c ∷ d ∷ e ∷ f ∷ []) in
    let h2 = address-half given b (c ∷ d ∷ e ∷ f ∷ []) in
    let h3 = address-half given c (d ∷ e ∷ f ∷ []) in
    let h4 = address-half given d (e ∷ f ∷ []) in
    let h5 = address-half given e (f ∷ []) in
    rw (h1, h2, h3, h4, h5, address-low given a (b ∷ c ∷ d ∷ e ∷ f ∷ []), address-low given b (c ∷ d ∷ e ∷ f ∷ []), address-low given c (d ∷ e ∷ f ∷ []), address-low given d (e ∷ f ∷ []), address-low given e (f ∷ []), address-low given f []) refl
six-bits given (a ∷ b ∷ c ∷ d ∷ e ∷ f ∷ g ∷ gs) size = absurd (omega arith)

-- n inputs have so many addresses
pub address-below : (given : ℕ → Bool) (ss : List ℕ) → address given ss < addresses (length ss)
unfolding addresses
address-below given [] = rw (address-nil given) (omega arith)
address-below given (s ∷ ss) = rw (address-more given s ss) (by (given s) (address-below given ss))
  where
    by : (b : Bool) → address given ss < addresses (length ss) → (if b then 1 else 0) + 2 * address given ss < 2 * addresses (length ss)
    by true h = omega arith
    by false h = omega arith

pub address-small : (given : ℕ → Bool) (wires : List ℕ) → length wires ≡ 6 → address given wires < 64
unfolding addresses
address-small given wires size = let h : address given wires < addresses 6 = subst (λ (n : ℕ). address given wires < addresses n) size (address-below given wires) in h

pub address-sixteen : (given : ℕ → Bool) (wires : List ℕ) → length wires ≡ 4 → address given wires < 16
unfolding addresses
address-sixteen given wires size = let h : address given wires < addresses 4 = subst (λ (n : ℕ). address given wires < addresses n) size (address-below given wires) in h

few : (n : ℕ) → n ≤ 5 → addresses n ≤ 32
unfolding addresses
few zero h = omega arith
few (suc zero) h = omega arith
few (suc (suc zero)) h = omega arith
few (suc (suc (suc zero))) h = omega arith
few (suc (suc (suc (suc zero)))) h = omega arith
few (suc (suc (suc (suc (suc zero))))) h = omega arith
few (suc (suc (suc (suc (suc (suc n)))))) h = absurd (omega arith)

pub address-few : (given : ℕ → Bool) (ss : List ℕ) → length ss ≤ 5 → address given ss < 32
address-few given ss h = omega (arith, address-below given ss, few (length ss) h)

-- the bits of six places are the six bits
pub places-read : (n count : ℕ) → map (bit_at (six_bits n)) (take count (0 ∷ 1 ∷ 2 ∷ 3 ∷ 4 ∷ 5 ∷ [])) ≡ take count (six_bits n)
places-read n count = sym (take-map (bit_at (six_bits n)) count (0 ∷ 1 ∷ 2 ∷ 3 ∷ 4 ∷ 5 ∷ []))

pub cell-is : (rows : List (List Lit)) (off : Bool) (c : Cover) (ins : List ℕ) (bits : List Bool) (n count : ℕ) (b : Bool) → b ≡ truth (bit_at bits) (cover_of rows off ins) → bits ≡ six_bits n → rows ≡ c.rows → off ≡ c.off → count ≡ length c.ins → ins ≡ take count (0 ∷ 1 ∷ 2 ∷ 3 ∷ 4 ∷ 5 ∷ []) → b ≡ truth_at c (take (length c.ins) (six_bits n))
cell-is rows off c ins bits n count b is six r o e i =
    is ∙ ap (λ (bs : List Bool). truth (bit_at bs) (cover_of rows off ins)) six ∙
    ap (λ (rs : List (List Lit)). truth (bit_at (six_bits n)) (cover_of rs off ins)) r ∙
    ap (λ (x : Bool). truth (bit_at (six_bits n)) (cover_of c.rows x ins)) o ∙
    ap (λ (xs : List ℕ). truth (bit_at (six_bits n)) (cover_of c.rows c.off xs)) i ∙
    ap (truth_at c) (places-read n count ∙ ap (λ (m : ℕ). take m (six_bits n)) e)

place-below : (k : ℕ) → get_or (0 ∷ 1 ∷ 2 ∷ 3 ∷ 4 ∷ 5 ∷ []) k 0 < 6
place-below zero = omega arith
place-below (suc zero) = omega arith
place-below (suc (suc zero)) = omega arith
place-below (suc (suc (suc zero))) = omega arith
place-below (suc (suc (suc (suc zero)))) = omega arith
place-below (suc (suc (suc (suc (suc zero))))) = omega arith
place-below (suc (suc (suc (suc (suc (suc k)))))) = omega arith

pub places-below : (count : ℕ) → AreBelow 6 (take count (0 ∷ 1 ∷ 2 ∷ 3 ∷ 4 ∷ 5 ∷ []))
places-below count k lk = omega (arith, place-below k, get_or-take {A = ℕ} count (0 ∷ 1 ∷ 2 ∷ 3 ∷ 4 ∷ 5 ∷ []) k 0 (omega (arith, length-take {A = ℕ} count (0 ∷ 1 ∷ 2 ∷ 3 ∷ 4 ∷ 5 ∷ []))))

pub wires-below : (c : Cover) (wires : List ℕ) (n : ℕ) → AreWires c wires → IsCoverOver c n → AreBelow n wires
wires-below c wires n w made k lk = by (cases_lt k (length c.ins))
  where
    by : (k < length c.ins) ⊎ (length c.ins ≤ k) → get_or wires k 0 < n
    by (inl lt) = omega (arith, made.ins k lt, get_or-take (length c.ins) wires k 0 lt, ap (λ (xs : List ℕ). get_or xs k 0) w.ins)
    by (inr ge) = omega (arith, made.out, w.rest k ge (omega (arith, w.len)))

pub is-table : (c : Cover) (wires : List ℕ) (cells : List Bool) → AreWires c wires → AreCells c cells → IsTable (record { wires = wires; cells = cells }) c
is-table c wires cells w h = record {
  wires = w.len;
  size = h.len;
  below = λ n made. wires-below c wires n w made;
  cells = λ given.
      h.each (address given wires) (address-small given wires w.len) ∙
      ap (truth_at c) (ap (take (length c.ins)) (six-bits given wires w.len) ∙ take-map given (length c.ins) wires ∙ ap (map given) w.ins);
}

pub bool-small : (b : Bool) → from_bool b ≤ 1
bool-small true = omega arith
bool-small false = omega arith

pub bool-is : (b : Bool) → from_bool b ≡ (if b then 1 else 0)
bool-is true = refl
bool-is false = refl

pub address-start : (given : ℕ → Bool) (most : ℕ) (wires : List ℕ) → length wires ≡ most → 0 ≡ address given (drop most wires)
address-start given most wires size = sym (ap (address given) (drop_all most wires (omega arith)) ∙ address-nil given)

pub address-part : (given : ℕ → Bool) (most : ℕ) (wires : List ℕ) (k place : ℕ) → length wires ≡ most → most ≤ 6 → k < most → place ≡ address given (drop (most - k) wires) → place < 32
address-part given most wires k place size few lt e =
    omega (arith, e, address-few given (drop (most - k) wires) (omega (arith, length-drop (most - k) wires)))

-- the bit of the wire `at`, before the last k
pub address-step : (values : List Bool) (most : ℕ) (wires : List ℕ) (k at place bit : ℕ) → length wires ≡ most → k < most → at ≡ most - (k + 1) → place ≡ address (bit_at values) (drop (most - k) wires) → bit ≡ from_bool (bit_at values (get_or wires at 0)) → 2 * place + bit ≡ address (bit_at values) (drop (most - (k + 1)) wires)
address-step values most wires k at place bit size lt here e b =
    let next : at + 1 ≡ most - k = omega arith in
    let within : at < length wires = omega arith in
    let split : drop (most - (k + 1)) wires ≡ get_or wires at 0 ∷ drop (most - k) wires = ap (λ (n : ℕ). drop n wires) (sym here) ∙ drop_more wires at 0 within ∙ ap (λ (n : ℕ). get_or wires at 0 ∷ drop n wires) next in
    let is = b ∙ bool-is (bit_at values (get_or wires at 0)) in
    sym (ap (address (bit_at values)) split ∙ address-more (bit_at values) (get_or wires at 0) (drop (most - k) wires) ∙ sum _ _ place bit is e)
  where
    sum : (x y place bit : ℕ) → bit ≡ x → place ≡ y → x + 2 * y ≡ 2 * place + bit
    sum x y place bit p q = omega arith

pub cells-more : (c : Cover) (cells : List Bool) (a : ℕ) (b : Bool) → length cells ≡ 64 → a < 64 → ((j : ℕ) → j < a → get_or cells j false ≡ truth_at c (take (length c.ins) (six_bits j))) → b ≡ truth_at c (take (length c.ins) (six_bits a)) → (j : ℕ) → j < a + 1 → get_or (slice_set cells a b) j false ≡ truth_at c (take (length c.ins) (six_bits j))
cells-more c cells a b size lt h e j lj = by (cases_eq j a)
  where
    by : (j ≡ a) ⊎ (j ≡ a → ⊥) → get_or (slice_set cells a b) j false ≡ truth_at c (take (length c.ins) (six_bits j))
    by (inl same) = subst (λ (i : ℕ). get_or (slice_set cells a b) i false ≡ truth_at c (take (length c.ins) (six_bits i))) (sym same) (get_or-set_same cells a b false (omega arith) ∙ e)
    by (inr other) = get_or-set_other cells a j b false other ∙ h j (omega arith)

pub wires-more : (wires ins : List ℕ) (k : ℕ) → k < length wires → k < length ins → take k wires ≡ take k ins → take (k + 1) (slice_set wires k (get_or ins k 0)) ≡ take (k + 1) ins
wires-more wires ins k lw li e = take_more_set wires k (get_or ins k 0) lw ∙ ap (λ (xs : List ℕ). xs ++ get_or ins k 0 ∷ []) e ∙ sym (take_more ins k 0 li)

pub rest-more : (wires : List ℕ) (k x out : ℕ) → ((j : ℕ) → k ≤ j → j < 6 → get_or wires j 0 ≡ out) → (j : ℕ) → k + 1 ≤ j → j < 6 → get_or (slice_set wires k x) j 0 ≡ out
rest-more wires k x out h j lo hi = get_or-set_other wires k j x 0 (λ e. absurd (omega arith)) ∙ h j (omega arith) hi

-- a row of an element of a list of covers that are made well
pub rows-fit : (covers : List Cover) (i : ℕ) (c : Cover) → i < length covers → c ≡ get_or covers i c → (n : ℕ) × IsCoverOver (cover_at covers i) n → (k : ℕ) → k < length c.rows → length (get_or c.rows k []) ≡ length c.ins
rows-fit covers i c li is made = (subst (λ (x : Cover). IsCoverOver x made.0) (sym (is ∙ get_or_default covers i c no_cover li)) made.1).rows
