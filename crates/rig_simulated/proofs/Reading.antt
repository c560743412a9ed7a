-- The readers of a class, found by their order.
use Rattle.std.proofs.Common.{◌≡◌, ◌⊎◌, inl, inr, ℕ, ◌+◌, ◌<◌, ◌≤◌, Bool, true, List, [], ◌∷◌, ◌++◌, length, get_or, sym, ap, ◌∙◌, subst, arith, slice_index}
use Rattle.std.specs.List.{Contains, All}
use Rattle.rig_simulated.proofs.Vocabulary.{IsNonDecreasingBy, IsPermutation, cases_eq, cases_lt, get_or_default, get_or_append_left}
use Rattle.rig_simulated.proofs.Vocabulary.{get_or_push, All-push, Contains-push, Contains-append_left, Contains-permutation, Gate, Reader}
use Rattle.rig_simulated.proofs.Vocabulary.{is_marked, reader_at, AreListed, StartsAt, AreStarts, HaveGrown}

-- a table was added to the readers of the classes of its first n inputs
pub record HaveGrownBy (gate : Gate) (place n : ℕ) (old new : List Reader) : Type 0 where
  pub kept : (x : Reader) → Contains old x → Contains new x
  pub more : (j : ℕ) → j < n → Contains new (record { class = slice_index gate.ins j; place = place })
  pub within : (m : ℕ) → place < m → All (λ (x : Reader). x.place < m) old → All (λ (x : Reader). x.place < m) new

pub grown_none : (gate : Gate) (place : ℕ) (old : List Reader) → HaveGrownBy gate place 0 old old
grown_none gate place old = record { kept = λ x c. c; more = λ j h. absurd (omega (arith, h)); within = λ m h all. all }

pub grown_more : (gate : Gate) (place n class : ℕ) (old mid new : List Reader) → HaveGrownBy gate place n old mid → class ≡ slice_index gate.ins n → new ≡ mid ++ record { class = class; place = place } ∷ [] → HaveGrownBy gate place (n + 1) old new
grown_more gate place n class old mid new h e is = record {
  kept = λ x c. subst (λ l. Contains l x) (sym is) (Contains-append_left mid (last ∷ []) x (h.kept x c));
  more = λ j l. subst (λ l. Contains l (record { class = slice_index gate.ins j; place = place })) (sym is) (by j l (cases_eq j n));
  within = λ m l all. subst (All (λ (x : Reader). x.place < m)) (sym is) (All-push (λ (x : Reader). x.place < m) mid last (h.within m l all) l);
}
  where
    last : Reader
    last = record { class = class; place = place }

    by : (j : ℕ) → j < n + 1 → (j ≡ n) ⊎ (j ≡ n → ⊥) → Contains (mid ++ last ∷ []) (record { class = slice_index gate.ins j; place = place })
    by j l (inl same) = subst (λ k. Contains (mid ++ last ∷ []) (record { class = k; place = place })) (e ∙ ap (slice_index gate.ins) (sym same)) (Contains-push mid last)
    by j l (inr other) = Contains-append_left mid (last ∷ []) _ (h.more j (omega (arith, l, other)))

pub grown_all : (gate : Gate) (place n : ℕ) (old new : List Reader) → HaveGrownBy gate place n old new → 6 ≤ n → HaveGrown gate place old new
grown_all gate place n old new h l = record { kept = h.kept; more = λ j k. h.more j (omega (arith, k, l)); within = h.within }

-- one table more is listed
pub listed_more : (gates : List Gate) (k : ℕ) (gate : Gate) (old new : List Reader) → AreListed gates k old → k < length gates → gate ≡ get_or gates k gate → HaveGrown gate k old new → AreListed gates (k + 1) new
listed_more gates k gate old new are h is grown i j d l m = by (cases_eq i k)
  where
    by : (i ≡ k) ⊎ (i ≡ k → ⊥) → Contains new (reader_at gates i j d)
    by (inl same) =
        let g : gate ≡ get_or gates i d = is ∙ get_or_default gates k gate d h ∙ ap (λ n. get_or gates n d) (sym same) in
        subst (λ (n : ℕ). Contains new (record { class = slice_index (get_or gates i d).ins j; place = n })) (sym same)
        (subst (λ (x : Gate). Contains new (record { class = slice_index x.ins j; place = k })) g (grown.more j m))
    by (inr other) = grown.kept (reader_at gates i j d) (are i j d (omega (arith, l, other)) m)

pub listed_sorted : (gates : List Gate) (n m : ℕ) (old new : List Reader) → IsPermutation old new → n ≤ m → AreListed gates m old → AreListed gates n new
listed_sorted gates n m old new p l are i j d h k = Contains-permutation old new (reader_at gates i j d) p (are i j d (omega (arith, h, l)) k)

-- the start of one table more
pub starts_more : (gates : List Gate) (k : ℕ) (gate : Gate) (list : List Reader) (starts new : List ℕ) (place : ℕ) → AreStarts gates k list starts → length starts ≡ k → k < length gates → gate ≡ get_or gates k gate → StartsAt list gate.out place → new ≡ starts ++ place ∷ [] → AreStarts gates (k + 1) list new
starts_more gates k gate list starts new place are len h is at e i d l = subst (λ ss. StartsAt list (get_or gates i d).out (get_or ss i 0)) (sym e) (by (cases_lt i k))
  where
    by : (i < k) ⊎ (k ≤ i) → StartsAt list (get_or gates i d).out (get_or (starts ++ place ∷ []) i 0)
    by (inl below) = subst (StartsAt list (get_or gates i d).out) (sym (get_or_append_left starts (place ∷ []) 0 i (omega (arith, below, len)))) (are i d below)
    by (inr above) =
        let s : i ≡ k = omega (arith, l, above) in
        let g : gate ≡ get_or gates i d = is ∙ get_or_default gates k gate d h ∙ ap (λ n. get_or gates n d) (sym s) in
        subst (StartsAt list (get_or gates i d).out) (sym (get_or_push starts place 0 i (omega (arith, len, s)))) (subst (λ (x : Gate). StartsAt list x.out place) g at)

-- between the start and a higher class stand all readers of a class
pub reader_found : (list : List Reader) (class from i : ℕ) (marks : List Bool) → IsNonDecreasingBy (λ (x : Reader). x.class) list → StartsAt list class from →
    ((p : ℕ) (d : Reader) → from ≤ p → p < i → is_marked marks (get_or list p d).place ≡ true) → ((d : Reader) → i < length list → class < (get_or list i d).class) → (k : ℕ) → Contains list (record { class = class; place = k }) → is_marked marks k ≡ true
reader_found list class from i marks sorted start done ends k c = by (cases_lt c.0 from) (cases_lt c.0 i)
  where
    x : Reader
    x = record { class = class; place = k }

    at : (get_or list c.0 x).class ≡ class
    at = ap (λ (y : Reader). y.class) c.2

    by : (c.0 < from) ⊎ (from ≤ c.0) → (c.0 < i) ⊎ (i ≤ c.0) → is_marked marks k ≡ true
    by (inl below) o = absurd (let s = start c.0 x below in omega (arith, s, at))
    by (inr l) (inl b) = ap (λ (y : Reader). is_marked marks y.place) (sym c.2) ∙ done c.0 x l b
    by (inr l) (inr b) = absurd (let u = sorted i c.0 x b c.1 in let e = ends x (let m = c.1 in omega (arith, b, m)) in omega (arith, u, e, at))
