-- Bits that are written at signals, and read again.
use Rattle.std.proofs.Common.{◌≡◌, ℕ, zero, suc, ◌+◌, ◌<◌, Bool, false, List, [], ◌∷◌, ◌++◌, length, take, get_or, map, refl, sym, ap, ◌∙◌, arith, get_or-set_same, get_or-set_other, slice_set}
use Rattle.std.proofs.lemmas.List.{length-set, set-set, set_comm, set-get_or, length-append, get_or-map, get_or_append_left, get_or-append-add}
use Rattle.design_eval.proofs.Vocabulary.{bit_at, bits_put, AreApart, AreBelow}

pub length-put : (values : List Bool) (ss : List ℕ) (bs : List Bool) → length (bits_put values ss bs) ≡ length values
unfolding bits_put
length-put values [] bs = refl
length-put values (s ∷ ss) [] = refl
length-put values (s ∷ ss) (b ∷ bs) = length-put (slice_set values s b) ss bs ∙ length-set values s b

pub put-none : (values : List Bool) → bits_put values [] [] ≡ values
unfolding bits_put
put-none values = refl

pub put-more : (values : List Bool) (ss : List ℕ) (bs : List Bool) (k : ℕ) → k < length ss → k < length bs → slice_set (bits_put values (take k ss) (take k bs)) (get_or ss k 0) (get_or bs k false) ≡ bits_put values (take (suc k) ss) (take (suc k) bs)
unfolding bits_put
put-more values [] bs k lk mk = absurd (omega arith)
put-more values (s ∷ ss) [] k lk mk = absurd (omega arith)
put-more values (s ∷ ss) (b ∷ bs) zero lk mk = refl
put-more values (s ∷ ss) (b ∷ bs) (suc k) lk mk = put-more (slice_set values s b) ss bs k (omega arith) (omega arith)

pub put-other : (values : List Bool) (ss : List ℕ) (bs : List Bool) (s : ℕ) → ((k : ℕ) → k < length ss → get_or ss k 0 ≡ s → ⊥) → bit_at (bits_put values ss bs) s ≡ bit_at values s
unfolding bits_put
put-other values [] bs s h = refl
put-other values (x ∷ ss) [] s h = refl
put-other values (x ∷ ss) (b ∷ bs) s h = put-other (slice_set values x b) ss bs s (λ k lk. h (suc k) (omega arith)) ∙ get_or-set_other values x s b false (λ e. h 0 (omega arith) (sym e))

pub put-read : (values : List Bool) (ss : List ℕ) (bs : List Bool) → AreApart ss → AreBelow (length values) ss → length bs ≡ length ss → map (bit_at (bits_put values ss bs)) ss ≡ bs
unfolding bits_put
put-read values [] [] apart below e = refl
put-read values [] (b ∷ bs) apart below e = absurd (omega arith)
put-read values (s ∷ ss) [] apart below e = absurd (omega arith)
put-read values (s ∷ ss) (b ∷ bs) apart below e =
    ap (λ (c : Bool). c ∷ map (bit_at (bits_put (slice_set values s b) ss bs)) ss)
    (put-other (slice_set values s b) ss bs s (λ k lk f. apart 0 (suc k) (omega arith) (omega arith) (sym f)) ∙ get_or-set_same values s b false (below 0 (omega arith))) ∙
    ap (λ (cs : List Bool). b ∷ cs)
    (put-read (slice_set values s b) ss bs (λ j k jk lk. apart (suc j) (suc k) (omega arith) (omega arith)) (λ k lk. omega (arith, below (suc k) (omega arith), length-set values s b)) (omega arith))

-- a signal that is given its bit before all are changes nothing
pub put-over : (values : List Bool) (ss : List ℕ) (bs : List Bool) (k : ℕ) → AreApart ss → k < length ss → k < length bs → bits_put (slice_set values (get_or ss k 0) (get_or bs k false)) ss bs ≡ bits_put values ss bs
unfolding bits_put
put-over values [] bs k apart lk mk = absurd (omega arith)
put-over values (s ∷ ss) [] k apart lk mk = absurd (omega arith)
put-over values (s ∷ ss) (b ∷ bs) zero apart lk mk = ap (λ (vs : List Bool). bits_put vs ss bs) (set-set values s b b)
put-over values (s ∷ ss) (b ∷ bs) (suc k) apart lk mk =
    ap (λ (vs : List Bool). bits_put vs ss bs) (set_comm values (get_or ss k 0) s (get_or bs k false) b (λ e. apart 0 (suc k) (omega arith) (omega arith) (sym e))) ∙
    put-over (slice_set values s b) ss bs k (λ j i ji li. apart (suc j) (suc i) (omega arith) (omega arith)) (omega arith) (omega arith)

-- signals that are given the bits that they have
pub put-same : (values : List Bool) (ss : List ℕ) (bs : List Bool) → ((k : ℕ) → k < length ss → bit_at values (get_or ss k 0) ≡ get_or bs k false) → bits_put values ss bs ≡ values
unfolding bits_put
put-same values [] bs h = refl
put-same values (s ∷ ss) [] h = refl
put-same values (s ∷ ss) (b ∷ bs) h =
    ap (λ (vs : List Bool). bits_put vs ss bs) (ap (slice_set values s) (sym (h 0 (omega arith))) ∙ set-get_or values s false) ∙
    put-same values ss bs (λ k lk. h (suc k) (omega arith))

-- signals that were given bits have them
pub put-has : (values : List Bool) (ss : List ℕ) (bs : List Bool) (k : ℕ) → AreApart ss → AreBelow (length values) ss → length bs ≡ length ss → k < length ss → bit_at (bits_put values ss bs) (get_or ss k 0) ≡ get_or bs k false
put-has values ss bs k apart below e lk =
    sym (get_or-map (bit_at (bits_put values ss bs)) ss k 0 false lk) ∙ ap (λ (cs : List Bool). get_or cs k false) (put-read values ss bs apart below e)

-- of signals that are all different, those of two parts
pub apart-left : (xs ys : List ℕ) → AreApart (xs ++ ys) → AreApart xs
apart-left xs ys h j k jk lk e = h j k jk (omega (arith, length-append xs ys)) (get_or_append_left xs ys 0 j (omega arith) ∙ e ∙ sym (get_or_append_left xs ys 0 k lk))

pub apart-right : (xs ys : List ℕ) → AreApart (xs ++ ys) → AreApart ys
apart-right xs ys h j k jk lk e = h (length xs + j) (length xs + k) (omega arith) (omega (arith, length-append xs ys)) (get_or-append-add xs ys j 0 ∙ e ∙ sym (get_or-append-add xs ys k 0))

pub apart-both : (xs ys : List ℕ) → AreApart (xs ++ ys) → (j k : ℕ) → j < length xs → k < length ys → get_or xs j 0 ≡ get_or ys k 0 → ⊥
apart-both xs ys h j k lj lk e = h j (length xs + k) (omega arith) (omega (arith, length-append xs ys)) (get_or_append_left xs ys 0 j lj ∙ e ∙ sym (get_or-append-add xs ys k 0))

pub below-left : (n : ℕ) (xs ys : List ℕ) → AreBelow n (xs ++ ys) → AreBelow n xs
below-left n xs ys h k lk = omega (arith, h k (omega (arith, length-append xs ys)), get_or_append_left xs ys 0 k lk)

pub below-right : (n : ℕ) (xs ys : List ℕ) → AreBelow n (xs ++ ys) → AreBelow n ys
below-right n xs ys h k lk = omega (arith, h (length xs + k) (omega (arith, length-append xs ys)), get_or-append-add xs ys k 0)
