-- What is closed after what is gone was opened and what is new was closed.
use Rattle.std.proofs.Common.{◌≡◌, ℕ, suc, zero, ◌+◌, ◌≤◌, ◌<◌, Bool, true, false, List, [], ◌∷◌, ◌++◌, take, drop, length, get_or, refl, sym, ap, ◌∙◌, arith, subst, All, ◌==◌, if◌then◌else◌, count_by}
use Rattle.rig_port.proofs.Vocabulary.{false≢true, nat_tests, sum_by-cons, sum_by_push, All-append, take-suc}
use Rattle.std.specs.{FinSet.same_set, FinSet.nat_cmp-IsAntisymmetric, Cmp.nat_cmp_total}
use Rattle.machine_shape.specs.declared.Cross.{Cross}
use Rattle.machine_config.specs.Configuration.{Configuration, is_closed, with_closed, with_open}
use Rattle.machine_config.proofs.Changes.{is_closed-closed, is_closed-open}

abbrev pub times : ℕ → List Cross → ℕ
times x xs = count_by (λ c. c.0 == x) xs

abbrev pub one_at : ℕ → Cross → ℕ
one_at x c = if c.0 == x then 1 else 0

-- one that stands in a list is counted
pub counted : (xs : List Cross) (k : ℕ) (d : Cross) → k < length xs → 1 ≤ times (get_or xs k d).0 xs
counted [] k d lt = absurd (omega (arith, lt))
counted (x ∷ xs) zero d lt =
    let e = sum_by-cons (one_at x.0) x xs in
    grind (arith, nat_tests, e)
counted (x ∷ xs) (suc k) d lt =
    let shorter : k < length xs = omega (arith, lt) in
    let y = get_or xs k d in
    let e = sum_by-cons (one_at y.0) x xs in
    let below : 1 ≤ times y.0 xs = counted xs k d shorter in
    omega (arith, e, below)

-- so it is closed
pub closed_at : (g : Configuration) (xs : List Cross) (k : ℕ) (d : Cross) → ((x : ℕ) → times x xs ≡ (if is_closed g x then 1 else 0)) → k < length xs
    → is_closed g (get_or xs k d).0 ≡ true
closed_at g xs k d counts lt = by_bit (is_closed g (get_or xs k d).0) refl where
  by_bit : (b : Bool) → is_closed g (get_or xs k d).0 ≡ b → is_closed g (get_or xs k d).0 ≡ true
  by_bit true e = e
  by_bit false e =
      let none : times (get_or xs k d).0 xs ≡ 0 = counts (get_or xs k d).0 ∙ ap (λ b. if b then 1 else 0) e in
      let some = counted xs k d lt in
      absurd (omega (arith, none, some))

-- what is closed stands in the list
pub stands : (g : Configuration) (xs : List Cross) (x : ℕ) → ((x : ℕ) → times x xs ≡ (if is_closed g x then 1 else 0)) → is_closed g x ≡ true → times x xs ≡ 1
stands g xs x counts e = counts x ∙ ap (λ b. if b then 1 else 0) e

-- one more was looked at
pub taken_more : (xs : List Cross) (k x : ℕ) (d : Cross) → k < length xs → times x (take (k + 1) xs) ≡ times x (take k xs) + one_at x (get_or xs k d)
taken_more xs k x d lt =
    let next : k + 1 ≡ suc k = omega arith in
    ap (λ n. times x (take n xs)) next ∙ ap (times x) (take-suc xs k d lt) ∙ sum_by_push (one_at x) (take k xs) (get_or xs k d)

-- one that stays: it isn't the one that is sought
pub passed : (g : Configuration) (xs : List Cross) (k x n : ℕ) (d : Cross) → k < length xs → is_closed g (get_or xs k d).0 ≡ true → is_closed g x ≡ false
    → times x (take k xs) ≤ n → times x (take (k + 1) xs) ≤ n
passed g xs k x n d lt kept sought le = by_bit ((get_or xs k d).0 == x) refl where
  by_bit : (b : Bool) → ((get_or xs k d).0 == x) ≡ b → times x (take (k + 1) xs) ≤ n
  by_bit true e =
      let same : (get_or xs k d).0 ≡ x = grind (arith, nat_tests, e) in
      absurd (false≢true (sym sought ∙ ap (is_closed g) (sym same) ∙ kept))
  by_bit false e =
      let more = taken_more xs k x d lt in
      let none : one_at x (get_or xs k d) ≡ 0 = ap (λ b. if b then 1 else 0) e in
      omega (arith, more, none, le)

-- one that goes is counted in both lists
pub went : (xs gone : List Cross) (k x : ℕ) (d : Cross) → k < length xs → times x (take k xs) ≤ times x gone
    → times x (take (k + 1) xs) ≤ times x (gone ++ get_or xs k d ∷ [])
went xs gone k x d lt le =
    let more = taken_more xs k x d lt in
    let pushed = sum_by_push (one_at x) gone (get_or xs k d) in
    omega (arith, more, pushed, le)

-- one is opened: what is closed and shouldn't be stands further on
pub opened : (g : Configuration) (gone : List Cross) (k x : ℕ) (c : Cross) → k < length gone → c ≡ get_or gone k c → is_closed (with_open g c.0) x ≡ true
    → (is_closed g x ≡ true → 1 ≤ times x (drop k gone)) → 1 ≤ times x (drop (k + 1) gone)
opened g gone k x c lt at after further = by_bit (x == c.0) refl where
  split : (xs : List Cross) (k : ℕ) → k < length xs → drop k xs ≡ get_or xs k c ∷ drop (suc k) xs
  split [] k lt = absurd (omega (arith, lt))
  split (y ∷ xs) zero lt = refl
  split (y ∷ xs) (suc k) lt = split xs k (omega (arith, lt))

  by_bit : (b : Bool) → (x == c.0) ≡ b → 1 ≤ times x (drop (k + 1) gone)
  by_bit true e = absurd (false≢true (sym (is_closed-open g c.0 x ∙ ap (λ b. if b then false else is_closed g x) e) ∙ after))
  by_bit false e =
      let was : is_closed g x ≡ true = sym (is_closed-open g c.0 x ∙ ap (λ b. if b then false else is_closed g x) e) ∙ after in
      let some = further was in
      let next : k + 1 ≡ suc k = omega arith in
      let parts : times x (drop k gone) ≡ one_at x (get_or gone k c) + times x (drop (suc k) gone)
      = ap (times x) (split gone k lt) ∙ sum_by-cons (one_at x) (get_or gone k c) (drop (suc k) gone) in
      let other : (c.0 == x) ≡ false = grind (arith, nat_tests, e) in
      let none : one_at x (get_or gone k c) ≡ 0 = ap (one_at x) (sym at) ∙ ap (λ b. if b then 1 else 0) other in
      let same : times x (drop (k + 1) gone) ≡ times x (drop (suc k) gone) = ap (λ n. times x (drop n gone)) next in
      omega (arith, some, parts, none, same)

-- one is closed that should be
pub only_more : (g h : Configuration) (x c : ℕ) → is_closed h c ≡ true → (is_closed g x ≡ true → is_closed h x ≡ true) → is_closed (with_closed g c) x ≡ true → is_closed h x ≡ true
only_more g h x c due was after = by_bit (x == c) refl where
  by_bit : (b : Bool) → (x == c) ≡ b → is_closed h x ≡ true
  by_bit true e = let same : c ≡ x = grind (arith, nat_tests, e) in ap (is_closed h) (sym same) ∙ due
  by_bit false e = was (sym (is_closed-closed g c x ∙ ap (λ b. if b then true else is_closed g x) e) ∙ after)

pub closed_more : (g : Configuration) (xs : List Cross) (k x : ℕ) (c d : Cross) → k < length xs → c ≡ get_or xs k d → (1 ≤ times x (take k xs) → is_closed g x ≡ true)
    → 1 ≤ times x (take (k + 1) xs) → is_closed (with_closed g c.0) x ≡ true
closed_more g xs k x c d lt at was some = is_closed-closed g c.0 x ∙ by_bit (x == c.0) refl where
  by_bit : (b : Bool) → (x == c.0) ≡ b → (if x == c.0 then true else is_closed g x) ≡ true
  by_bit true e = ap (λ b. if b then true else is_closed g x) e
  by_bit false e =
      let other : (c.0 == x) ≡ false = grind (arith, nat_tests, e) in
      let more = taken_more xs k x d lt in
      let none : one_at x (get_or xs k d) ≡ 0 = ap (one_at x) (sym at) ∙ ap (λ b. if b then 1 else 0) other in
      let earlier : 1 ≤ times x (take k xs) = omega (arith, more, none, some) in
      ap (λ b. if b then true else is_closed g x) e ∙ was earlier

-- both ways
pub same_closed : (g h : Configuration) (xs : List Cross) → ((x : ℕ) → times x xs ≡ (if is_closed h x then 1 else 0))
    → ((x : ℕ) → is_closed g x ≡ true → is_closed h x ≡ true) → ((x : ℕ) → 1 ≤ times x xs → is_closed g x ≡ true) → g.closed ≡ h.closed
same_closed g h xs counts fewer all = same_set nat_cmp_total nat_cmp-IsAntisymmetric g.closed h.closed (λ x. by_bits x (is_closed g x) (is_closed h x) refl refl) where
  by_bits : (x : ℕ) (a b : Bool) → is_closed g x ≡ a → is_closed h x ≡ b → is_closed g x ≡ is_closed h x
  by_bits x true true e f = e ∙ sym f
  by_bits x false false e f = e ∙ sym f
  by_bits x true false e f = absurd (false≢true (sym f ∙ fewer x e))
  by_bits x false true e f = let one = stands h xs x counts f in absurd (false≢true (sym e ∙ all x (omega (arith, one))))

-- one more was looked at: it was kept, or it is gone
pub gone_next : (n : ℕ) (h : Configuration) (xs gone more : List Cross) (k : ℕ) (d : Cross) (b : Bool) → k < length xs → b ≡ is_closed h (get_or xs k d).0 → (get_or xs k d).0 < n
    → (b ≡ true → more ≡ gone) → (b ≡ false → more ≡ gone ++ get_or xs k d ∷ [])
    → All (λ c. c.0 < n) gone × ((x : ℕ) → is_closed h x ≡ false → times x (take k xs) ≤ times x gone)
    → All (λ c. c.0 < n) more × ((x : ℕ) → is_closed h x ≡ false → times x (take (k + 1) xs) ≤ times x more)
gone_next n h xs gone more k d true lt at within kept went inv = (
  subst (All (λ (c : Cross). c.0 < n)) (sym (kept refl)) inv.0,
  λ x sought. subst (λ l. times x (take (k + 1) xs) ≤ times x l) (sym (kept refl)) (passed h xs k x (times x gone) d lt (sym at) sought (inv.1 x sought)),
)
gone_next n h xs gone more k d false lt at within kept gone_is inv =
    let all : All (λ (c : Cross). c.0 < n) (gone ++ get_or xs k d ∷ []) = All-append (λ (c : Cross). c.0 < n) gone (get_or xs k d ∷ []) inv.0 (one within) in (
      subst (All (λ (c : Cross). c.0 < n)) (sym (gone_is refl)) all,
      λ x sought. subst (λ l. times x (take (k + 1) xs) ≤ times x l) (sym (gone_is refl)) (went xs gone k x d lt (inv.1 x sought)),
    ) where
      one : (get_or xs k d).0 < n → All (λ (c : Cross). c.0 < n) (get_or xs k d ∷ [])
      one p zero e lk = p
      one p (suc j) e lk = absurd (omega (arith, lk))
