-- A list is split at a byte.
use Rattle.std.proofs.Common.{◌≡◌, ◌≢◌, ◌⊎◌, inl, inr, ℕ, suc, ◌+◌, ◌<◌, ◌≤◌, Bool, true, false, not, ◌&&◌, List, [], ◌∷◌, ◌++◌, length, take, drop, refl, sym, ap, ◌∙◌, subst, arith, eqb-true, length-append, ◌==◌}
use Rattle.machine_defects.proofs.Vocabulary.{bytes_eq, position_or_len, without, eq-eqb, false≢true, and_parts}

pub without_head : (s b : ℕ) (bs : List ℕ) → without s (b ∷ bs) ≡ true → (b ≢ s) × (without s bs ≡ true)
without_head s b bs h =
    let p = and_parts (not (b == s)) (without s bs) h in
    ((λ e. false≢true (ap not (sym (eq-eqb b s e)) ∙ p.0)), p.1)

pub without_append : (s : ℕ) (a b : List ℕ) → without s a ≡ true → without s b ≡ true → without s (a ++ b) ≡ true
without_append s [] b p q = q
without_append s (x ∷ a) b p q =
    let h = and_parts (not (x == s)) (without s a) p in
    (λ i. h.0 i && without_append s a b h.1 q i)

-- the first place of a byte
place_here : (s b : ℕ) (bs : List ℕ) → (b == s) ≡ true → position_or_len (λ x. x == s) (b ∷ bs) ≡ 0
place_here s b bs e = rw e refl

place_there : (s b : ℕ) (bs : List ℕ) → (b == s) ≡ false → position_or_len (λ x. x == s) (b ∷ bs) ≡ suc (position_or_len (λ x. x == s) bs)
place_there s b bs e = rw e (omega arith)

pub found_at : (s : ℕ) (bs : List ℕ) (p : ℕ) → position_or_len (λ x. x == s) bs ≡ p → p < length bs → (bs ≡ take p bs ++ s ∷ drop (p + 1) bs) × (without s (take p bs) ≡ true)
found_at s [] p at lt = absurd (let no : ⊥ = omega (arith, lt) in no)
found_at s (b ∷ bs) p at lt = by_head (b == s) refl (found_at s bs (position_or_len (λ x. x == s) bs) refl)
  where
    by_head : (c : Bool) → (b == s) ≡ c → (position_or_len (λ x. x == s) bs < length bs → (bs ≡ take (position_or_len (λ x. x == s) bs) bs ++ s ∷ drop (position_or_len (λ x. x == s) bs + 1) bs) × (without s (take (position_or_len (λ x. x == s) bs) bs) ≡ true))
        → (b ∷ bs ≡ take p (b ∷ bs) ++ s ∷ drop (p + 1) (b ∷ bs)) × (without s (take p (b ∷ bs)) ≡ true)
    by_head true e more = subst (λ q. (b ∷ bs ≡ take q (b ∷ bs) ++ s ∷ drop (q + 1) (b ∷ bs)) × (without s (take q (b ∷ bs)) ≡ true)) (sym (place_here s b bs e) ∙ at) (ap (λ c. c ∷ bs) (eqb-true b s e), refl)
    by_head false e more =
        let q = position_or_len (λ x. x == s) bs in
        let step = sym (place_there s b bs e) ∙ at in
        let h = more (let l = lt in omega (arith, l, step)) in
        subst (λ k. (b ∷ bs ≡ take k (b ∷ bs) ++ s ∷ drop (k + 1) (b ∷ bs)) × (without s (take k (b ∷ bs)) ≡ true)) step
        (subst (λ k. b ∷ bs ≡ b ∷ take q bs ++ s ∷ drop k (b ∷ bs)) (let g : suc (q + 1) ≡ suc q + 1 = omega arith in g) (ap (λ z. b ∷ z) h.0), (λ i. ap not e i && h.1 i))

pub place_in : (s : ℕ) (a b : List ℕ) → position_or_len (λ x. x == s) (a ++ s ∷ b) ≤ length a
place_in s [] b = let e = place_here s s b (eq-eqb s s refl) in omega (arith, e)
place_in s (x ∷ a) b = by_head (x == s) refl (place_in s a b)
  where
    by_head : (c : Bool) → (x == s) ≡ c → position_or_len (λ x. x == s) (a ++ s ∷ b) ≤ length a → position_or_len (λ x. x == s) (x ∷ a ++ s ∷ b) ≤ length (x ∷ a)
    by_head true e more = let g = place_here s x (a ++ s ∷ b) e in omega (arith, g)
    by_head false e more = let g = place_there s x (a ++ s ∷ b) e in omega (arith, g, more)

pub not_found : (s : ℕ) (bs a b : List ℕ) → length bs ≤ position_or_len (λ x. x == s) bs → bs ≢ a ++ s ∷ b
not_found s bs a b le e =
    let h = place_in s a b in
    let g = ap (position_or_len (λ x. x == s)) e in
    let l = ap length e ∙ length-append a (s ∷ b) in
    let no : ⊥ = omega (arith, le, h, g, l) in no

pub bytes_same : (a : List ℕ) → bytes_eq a a ≡ true
bytes_same [] = refl
bytes_same (x ∷ a) = (λ i. eq-eqb x x refl i && bytes_same a i)

-- where a list has the byte once, it is split there in one way
pub one_split : (s : ℕ) (a c x y : List ℕ) → without s a ≡ true → without s c ≡ true → a ++ s ∷ x ≡ c ++ s ∷ y → (a ≡ c) × (x ≡ y)
one_split s [] [] x y p q e = (refl, cc)
one_split s [] (c ∷ cs) x y p q e = absurd ((without_head s c cs q).0 (let h : s ≡ c = cc in sym h))
one_split s (a ∷ at) [] x y p q e = absurd ((without_head s a at p).0 cc)
one_split s (a ∷ at) (c ∷ cs) x y p q e =
    let head : a ≡ c = cc in
    let tail : at ++ s ∷ x ≡ cs ++ s ∷ y = cc in
    let more = one_split s at cs x y (without_head s a at p).1 (without_head s c cs q).1 tail in
    ((λ i. head i ∷ more.0 i), more.1)

-- the list is empty, or the byte stands first in it
abbrev pub Starts : ℕ → List ℕ → Type 0
Starts s r = (r ≡ []) ⊎ ((bs : List ℕ) × (r ≡ s ∷ bs))

no_start : (s c : ℕ) (r cs : List ℕ) → c ≢ s → Starts s r → r ≢ c ∷ cs
no_start s c r cs ne (inl g) e = let h : ◌≡◌ {A = List ℕ} [] (c ∷ cs) = sym g ∙ e in cc
no_start s c r cs ne (inr g) e = let h : s ∷ g.0 ≡ c ∷ cs = sym g.1 ∙ e in ne (let k : s ≡ c = cc in sym k)

pub one_run : (s : ℕ) (a c r t : List ℕ) → without s a ≡ true → without s c ≡ true → Starts s r → Starts s t → a ++ r ≡ c ++ t → (a ≡ c) × (r ≡ t)
one_run s [] [] r t p q f g e = (refl, e)
one_run s [] (c ∷ cs) r t p q f g e = absurd (no_start s c r (cs ++ t) (without_head s c cs q).0 f e)
one_run s (a ∷ at) [] r t p q f g e = absurd (no_start s a t (at ++ r) (without_head s a at p).0 g (sym e))
one_run s (a ∷ at) (c ∷ cs) r t p q f g e =
    let head : a ≡ c = cc in
    let tail : at ++ r ≡ cs ++ t = cc in
    let more = one_run s at cs r t (without_head s a at p).1 (without_head s c cs q).1 f g tail in
    ((λ i. head i ∷ more.0 i), more.1)

-- what stands before the first such byte has none, and what follows begins with it
pub run_parts : (s : ℕ) (bs : List ℕ) (p : ℕ) → position_or_len (λ x. x == s) bs ≡ p → (without s (take p bs) ≡ true) × Starts s (drop p bs)
run_parts s [] p at = subst (λ q. (without s (take q []) ≡ true) × Starts s (drop q [])) at (refl, inl refl)
run_parts s (b ∷ bs) p at = by_head (b == s) refl (run_parts s bs (position_or_len (λ x. x == s) bs) refl)
  where
    by_head : (c : Bool) → (b == s) ≡ c → (without s (take (position_or_len (λ x. x == s) bs) bs) ≡ true) × Starts s (drop (position_or_len (λ x. x == s) bs) bs) → (without s (take p (b ∷ bs)) ≡ true) × Starts s (drop p (b ∷ bs))
    by_head true e more = subst (λ q. (without s (take q (b ∷ bs)) ≡ true) × Starts s (drop q (b ∷ bs))) (sym (place_here s b bs e) ∙ at) (refl, inr (bs, ap (λ c. c ∷ bs) (eqb-true b s e)))
    by_head false e more = subst (λ q. (without s (take q (b ∷ bs)) ≡ true) × Starts s (drop q (b ∷ bs))) (sym (place_there s b bs e) ∙ at) ((λ i. ap not e i && more.0 i), more.1)

pub same_bytes : (a b : List ℕ) → bytes_eq a b ≡ true → a ≡ b
same_bytes [] [] e = refl
same_bytes [] (y ∷ b) e = absurd cc
same_bytes (x ∷ a) [] e = absurd cc
same_bytes (x ∷ a) (y ∷ b) e =
    let p = and_parts (x == y) (bytes_eq a b) e in
    (λ i. eqb-true x y p.0 i ∷ same_bytes a b p.1 i)
