-- Seats stay free and different.
use Rattle.std.proofs.Common.{◌≡◌, ◌≢◌, ℕ, Bool, true, false, ◌<◌, ◌≤◌, ◌+◌, ◌==◌, List, [], ◌∷◌, ◌++◌, get_or, map, take, length, sym, ap, ◌∙◌, subst, arith, length-take}
use Rattle.place_anneal.proofs.Vocabulary.{All, AllPairs, All-permutation, IsPermutation-map, Shape, tables_of, pins_of, pin_wire, Defects}
use Rattle.place_anneal.proofs.Vocabulary.{IsFreeTable, IsFreeWire, Network, Plan, IsFreeTableOf, IsPlan, number_of, places, Seat}
use Rattle.std.specs.List.Sorted.{IsPermutation}
use Rattle.std.proofs.lemmas.Bool.Decides.{Decides-eqb}
use Rattle.std.proofs.lemmas.List.{get_or-map, get_or-take, length-map, map-append, take-map, take_more, Quantifiers.all_pairs_push}
use Rattle.std.proofs.lemmas.List.Elements.{All-map, All-more, All-push, All-take, All-weaker}
use Rattle.std.proofs.lemmas.Map.{Keys.IsDistinct-IsPermutation, Made.AllPairs-from_IsDistinct, Made.IsDistinct-from_AllPairs}
use Rattle.machine_shape.specs.declared.Table.{Table}
use Rattle.place_anneal.specs.Seats.{AreFreeTables, AreMarked, HasMark, number_at}

-- the number at the end of the numbers
pub numbers_push : (seats : List Seat) (s : Seat) → map number_at (seats ++ s ∷ []) ≡ map number_at seats ++ number_at s ∷ []
numbers_push seats s = map-append number_at seats (s ∷ [])

-- one more of a list that goes along with another
pub mapped_more : {X Y : Type 0} (f : X → ℕ) (g : Y → ℕ) (xs new : List X) (x : X) (ys : List Y) (i : ℕ) (d : Y) → i < length ys →
    map f xs ≡ take i (map g ys) → new ≡ xs ++ x ∷ [] → f x ≡ g (get_or ys i d) → map f new ≡ take (i + 1) (map g ys)
mapped_more f g xs new x ys i d lt so e is =
    ap (map f) e ∙ map-append f xs (x ∷ []) ∙ ap (λ zs. zs ++ f x ∷ []) so ∙
    ap (λ z. take i (map g ys) ++ z ∷ []) (is ∙ sym (get_or-map g ys i d 0 lt)) ∙
    sym (take_more (map g ys) i 0 (subst (λ z. i < z) (sym (length-map ys g)) lt))

-- free tables are tables of the machine
pub tables_within : (m n : Shape) (d : Defects) (ts : List Table) → n ≡ m → AreFreeTables m d (map number_of ts) →
    All (λ t. t.0 < tables_of n) ts
tables_within m n d ts e are i t l =
    subst (λ z. t_at.0 < tables_of z) (sym e) (subst (λ z. z < tables_of m) (get_or-map number_of ts i t 0 l)
    (are.free i 0 (subst (λ z. i < z) (sym (length-map ts number_of)) l)).0)
  where
    t_at : Table
    t_at = get_or ts i t

-- marks stay, and the next seat gets one
pub marked_more : (seats : List Seat) (s : Seat) (old new : List Bool) → AreMarked seats old →
    ((t : ℕ) → HasMark old t → HasMark new t) → HasMark new (number_at s) → AreMarked (seats ++ s ∷ []) new
marked_more seats s old new are kept this =
    All-push (λ r. HasMark new (number_at r)) seats s
    (All-weaker (λ r. HasMark old (number_at r)) (λ r. HasMark new (number_at r)) (λ r h. kept (number_at r) h) seats are) this

pub marked_on : (seats : List Seat) (i : ℕ) (d : Seat) (old new : List Bool) → i < length seats → AreMarked (take i seats) old →
    ((t : ℕ) → HasMark old t → HasMark new t) → HasMark new (number_at (get_or seats i d)) → AreMarked (take (i + 1) seats) new
marked_on seats i d old new lt are kept this =
    All-more (λ r. HasMark new (number_at r)) seats i d lt
    (All-weaker (λ r. HasMark old (number_at r)) (λ r. HasMark new (number_at r)) (λ r h. kept (number_at r) h) (take i seats) are) this

-- no seat is at a table without a mark
pub unmarked : (seats : List Seat) (marks : List Bool) (t : ℕ) → AreMarked seats marks → get_or marks t true ≡ false →
    All (λ s. number_at s ≢ t) seats
unmarked seats marks t are none =
    All-weaker (λ s. HasMark marks (number_at s)) (λ s. number_at s ≢ t) (λ s has same. let no : false ≡ true = sym none ∙ subst (λ z. HasMark marks z) same has in cc) seats are

module _ (m : Shape) (d : Defects) where
  pub free_push : (ts : List ℕ) (t : ℕ) → AreFreeTables m d ts → IsFreeTableOf m d t → All (λ u. u ≢ t) ts →
      AreFreeTables m d (ts ++ t ∷ [])
  free_push ts t are free others = record {
    free = All-push (IsFreeTableOf m d) ts t are.free free;
    different = all_pairs_push (λ a b. a ≢ b) ts t are.different (λ k e lt. others k e lt);
  }

  pub free_exchanged : (ts us : List ℕ) → IsPermutation ts us → AreFreeTables m d ts → AreFreeTables m d us
  free_exchanged ts us moved are = record {
    free = All-permutation (IsFreeTableOf m d) ts us moved are.free;
    different = AllPairs-from_IsDistinct Decides-eqb us
        (IsDistinct-IsPermutation (λ a b. a == b) flips ts us moved (IsDistinct-from_AllPairs Decides-eqb ts are.different));
  }
    where
      flips : (x y : ℕ) → (x == y) ≡ (y == x)
      flips x y = grind arith

  pub free_first : (k : ℕ) (ts : List ℕ) → AreFreeTables m d ts → AreFreeTables m d (take k ts)
  free_first k ts are = record {
    free = All-take (IsFreeTableOf m d) k ts are.free;
    different = λ i j x lt l e.
        let lk : j < k = omega (arith, l, length-take k ts) in
        let lx : j < length ts = omega (arith, l, length-take k ts) in
        are.different i j x lt lx (sym (get_or-take k ts i x (omega arith)) ∙ e ∙ get_or-take k ts j x lk);
  }

  pub plan_is_free : (n : Network) (p : Plan) → IsPlan m d n p → AreFreeTables m d (places p)
  plan_is_free n p is = record {
    free = λ i x l. (is.tables_within i x l, is.tables_free i x l);
    different = is.tables_different;
  }

  -- a plan whose tables sit elsewhere
  pub plan_on : (n : Network) (p q : Plan) → IsPlan m d n p → AreFreeTables m d (places q) →
      length (places q) ≡ length p.tables → q.inputs ≡ p.inputs → q.outputs ≡ p.outputs → IsPlan m d n q
  plan_on n p q is are many ins outs = record {
    tables = sym (length-map q.tables number_of) ∙ many ∙ is.tables;
    inputs = ap length ins ∙ is.inputs;
    outputs = ap length outs ∙ is.outputs;
    tables_within = All-weaker (IsFreeTableOf m d) (λ t. t < tables_of m) (λ t f. f.0) (places q) are.free;
    pins_within = subst (All (λ k. k < pins_of m)) (sym pins) is.pins_within;
    tables_free = All-weaker (IsFreeTableOf m d) (IsFreeTable m d) (λ t f. f.1) (places q) are.free;
    pins_free = subst (All (λ k. IsFreeWire d (pin_wire m k))) (sym pins) is.pins_free;
    tables_different = are.different;
    pins_different = subst (AllPairs (λ k l. k ≢ l)) (sym pins) is.pins_different;
  }
    where
      pins : q.inputs ++ q.outputs ≡ p.inputs ++ p.outputs
      pins = ap (λ z. z ++ q.outputs) ins ∙ ap (λ z. p.inputs ++ z) outs

  -- the seat at one more free table
  pub others_more : (seats new : List Seat) (s : Seat) (t : ℕ) → AreFreeTables m d (map number_at seats) →
      t < tables_of m → IsFreeTable m d t → All (λ r. number_at r ≢ t) seats → number_at s ≡ t → new ≡ seats ++ s ∷ [] → AreFreeTables m d (map number_at new)
  others_more seats new s t are lt free others is e =
      subst (AreFreeTables m d) (sym (ap (map number_at) e ∙ numbers_push seats s ∙ ap (λ z. map number_at seats ++ z ∷ []) is))
      (free_push (map number_at seats) t are (lt, free) (All-map (λ u. u ≢ t) number_at seats others))

  -- the plan of a search
  pub found_is : (n : Network) (p q : Plan) (seats moved first : List Seat) (k : ℕ) → IsPlan m d n p →
      AreFreeTables m d (map number_at seats) → IsPermutation seats moved → k ≡ length p.tables → k ≤ length moved → first ≡ take k moved → places q ≡ map number_at first →
      q.inputs ≡ p.inputs → q.outputs ≡ p.outputs → IsPlan m d n q
  found_is n p q seats moved first k is free perm kp lk fe at ins outs =
      plan_on n p q is (subst (AreFreeTables m d) (sym e) (free_first k (map number_at moved) free_moved)) (ap length e ∙ many) ins outs
    where
      e : places q ≡ take k (map number_at moved)
      e = at ∙ ap (map number_at) fe ∙ sym (take-map number_at k moved)

      free_moved : AreFreeTables m d (map number_at moved)
      free_moved = free_exchanged (map number_at seats) (map number_at moved) (IsPermutation-map number_at seats moved perm) free

      many : length (take k (map number_at moved)) ≡ length p.tables
      many = omega (arith, length-take k (map number_at moved), length-map moved number_at, lk, kp)
