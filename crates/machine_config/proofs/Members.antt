-- Lists in which each member stands once.
use Rattle.std.proofs.Common.{◌≡◌, ℕ, suc, ◌+◌, All, ◌<◌, ◌≤◌, Bool, true, false, ◌||◌, Some, None, Option, List, [], ◌∷◌, ◌++◌, map, length, get_or, set, refl, sym, ap, ◌∙◌, subst, replicate, eqb-true, arith, ◌==◌, if◌then◌else◌, is_some, count_by}
use Rattle.machine_config.proofs.Vocabulary.{list_any, swap_remove, nat_cmp, nat_cmp_total, nat_tests, false≢true, contains_more}
use Rattle.machine_config.proofs.Vocabulary.{contains_less, Setting, set_of, times, times_on, once_if, has_mark, AreMarked, AreListed}
use Rattle.std.specs.FinSet as set_
use Rattle.std.specs.FinSet.{len-empty, len-insert, contains-from_list_nat, same_set, nat_cmp-IsAntisymmetric}
use Rattle.std.proofs.lemmas.List.{get_or_default, get_or-set_same, get_or-set_other, get_or_past, length-set, ext_get_or, length-replicate, get_or-replicate}
use Rattle.std.proofs.lemmas.List.Sums.{sum_by-cons, sum_by_push, sum_by-swap_remove, sum_by-set, count_by-le-length}
use Rattle.std.proofs.lemmas.List.Folds.{sum_by-replicate}
use native.Mathlib.Decide.{ℕ_discrete, dec_lt}
use Rattle.machine_shape.specs.declared.{Cross.Cross, Table.Table}
use Rattle.machine_config.proofs.Marks.{mark_after}

-- a member more, and a member less
pub added : (n c q : ℕ) (m k : Bool) → n ≡ once_if m → (q ≡ c → m ≡ false) → k ≡ (if q == c then true else m) → n + once_if (c == q) ≡ once_if k
added n c q true k e h f = grind (arith, nat_tests, e, h, f)
added n c q false k e h f = grind (arith, nat_tests, e, h, f)

pub dropped : (n c q : ℕ) (m k : Bool) → n + once_if (c == q) ≡ once_if m → k ≡ (if q == c then false else m) → n ≡ once_if k
dropped n c q true k e f = grind (arith, nat_tests, e, f)
dropped n c q false k e f = grind (arith, nat_tests, e, f)

-- the crosspoints of a list are those with a mark
any_times : (xs : List Cross) (q : ℕ) (b : Bool) → times q xs ≡ once_if b → list_any (λ y. y == q) (map (λ x. x.0) xs) ≡ b
any_times [] q true e = cc
any_times [] q false e = refl
any_times (x ∷ xs) q b e = by_head (x.0 == q) refl b e (any_times xs q)
  where
    by_head : (t : Bool) → (x.0 == q) ≡ t → (b : Bool) → times q (x ∷ xs) ≡ once_if b → ((b : Bool) → times q xs ≡ once_if b → list_any (λ y. y == q) (map (λ x. x.0) xs) ≡ b) → ((x.0 == q) || list_any (λ y. y == q) (map (λ x. x.0) xs)) ≡ b
    by_head true f true e more = rw f refl
    by_head true f false e more = absurd (let g : times q (x ∷ xs) ≡ 1 + times q xs = sum_by-cons (λ y. if y.0 == q then 1 else 0) x xs ∙ ap (λ t. (if t then 1 else 0) + times q xs) f in omega (arith, e, g))
    by_head false f b e more = rw f (more b (let g : times q (x ∷ xs) ≡ 0 + times q xs = sum_by-cons (λ y. if y.0 == q then 1 else 0) x xs ∙ ap (λ t. (if t then 1 else 0) + times q xs) f in omega (arith, e, g)))

pub contains_times : (xs : List Cross) (q : ℕ) (b : Bool) → times q xs ≡ once_if b → set_.contains (set_of xs) q ≡ b
contains_times xs q b e = contains-from_list_nat (map (λ x. x.0) xs) q ∙ any_times xs q b e

pub contains_marked : (marks : List Bool) (xs : List Cross) → AreMarked marks xs → (q : ℕ) → set_.contains (set_of xs) q ≡ has_mark marks q
contains_marked marks xs are q = contains_times xs q (has_mark marks q) (are q)

-- two lists of which the second has one more, or one less
module _ (marks more : List Bool) (xs ys : List Cross) (c : ℕ) (are : AreMarked marks xs) (also : AreMarked more ys) where
  pub set_inserted : ((q : ℕ) → has_mark more q ≡ (if q == c then true else has_mark marks q)) → set_of ys ≡ set_.insert (set_of xs) c
  set_inserted h = same_set nat_cmp_total nat_cmp-IsAntisymmetric _ _ (λ q.
      contains_marked more ys also q ∙ h q ∙ ap (λ b. if q == c then true else b) (sym (contains_marked marks xs are q))
      ∙ sym (contains_more (set_of xs) c q))

  pub set_removed : ((q : ℕ) → has_mark more q ≡ (if q == c then false else has_mark marks q)) → set_of ys ≡ set_.remove (set_of xs) c
  set_removed h = same_set nat_cmp_total nat_cmp-IsAntisymmetric _ _ (λ q.
      contains_marked more ys also q ∙ h q ∙ ap (λ b. if q == c then false else b) (sym (contains_marked marks xs are q))
      ∙ sym (contains_less (set_of xs) c q))

-- a crosspoint more, and one less
pub AreMarked-push : (marks more : List Bool) (xs : List Cross) (c : Cross) → AreMarked marks xs → has_mark marks c.0 ≡ false →
    ((q : ℕ) → has_mark more q ≡ (if q == c.0 then true else has_mark marks q)) → AreMarked more (xs ++ c ∷ [])
AreMarked-push marks more xs c are unmarked after q =
    sum_by_push (λ x. if x.0 == q then 1 else 0) xs c ∙ added (times q xs) c.0 q (has_mark marks q) (has_mark more q) (are q) (λ e. subst (λ k. has_mark marks k ≡ false) (sym e) unmarked) (after q)

pub AreMarked-less : (marks less : List Bool) (xs ys : List Cross) (c : ℕ) → AreMarked marks xs → ((q : ℕ) → times q ys + once_if (c == q) ≡ times q xs) →
    ((q : ℕ) → has_mark less q ≡ (if q == c then false else has_mark marks q)) → AreMarked less ys
AreMarked-less marks less xs ys c are counts after q = dropped (times q ys) c q (has_mark marks q) (has_mark less q) (counts q ∙ are q) (after q)

pub times-pop : (xs ys : List Cross) (c : Cross) → xs ≡ ys ++ c ∷ [] → (q : ℕ) → times q ys + once_if (c.0 == q) ≡ times q xs
times-pop xs ys c e q = sym (ap (times q) e ∙ sum_by_push (λ x. if x.0 == q then 1 else 0) ys c)

pub times-swap_remove : (xs : List Cross) (i : ℕ) (d : Cross) (c : ℕ) → i < length xs → (get_or xs i d).0 ≡ c → (q : ℕ) → times q (swap_remove xs i d) + once_if (c == q) ≡ times q xs
times-swap_remove xs i d c h e q = ap (λ k. times q (swap_remove xs i d) + once_if (k == q)) (sym e) ∙ sum_by-swap_remove (λ x. if x.0 == q then 1 else 0) xs i d h

-- the same of tables
pub some_after : (tables : List (Option Setting)) (t q : ℕ) (o : Option Setting) → t < length tables →
    is_some (get_or (set tables t o) q None) ≡ (if q == t then is_some o else is_some (get_or tables q None))
some_after tables t q o h = by_place (ℕ_discrete q t)
  where
    by_place : Dec (q ≡ t) → is_some (get_or (set tables t o) q None) ≡ (if q == t then is_some o else is_some (get_or tables q None))
    by_place (no n) = ap is_some (get_or-set_other tables t q o None n) ∙ sym (ap (λ b. if b then is_some o else is_some (get_or tables q None)) (let e : (q == t) ≡ false = grind (arith, nat_tests, n) in e))
    by_place (yes e) = ap is_some (ap (λ k. get_or (set tables t o) k None) e ∙ get_or-set_same tables t o None h) ∙ sym (ap (λ b. if b then is_some o else is_some (get_or tables q None)) (let e : (q == t) ≡ true = grind (arith, nat_tests, e) in e))

pub AreListed-push : (tables : List (Option Setting)) (on : List Table) (t : Table) (s : Setting) → AreListed tables on → t.0 < length tables → is_some (get_or tables t.0 None) ≡ false →
    AreListed (set tables t.0 (Some s)) (on ++ t ∷ [])
AreListed-push tables on t s are h off q =
    sum_by_push (λ x. if x.0 == q then 1 else 0) on t
    ∙ added (times_on q on) t.0 q (is_some (get_or tables q None)) _ (are q) (λ e. subst (λ k. is_some (get_or tables k None) ≡ false) (sym e) off) (some_after tables t.0 q (Some s) h)

pub AreListed-same : (tables : List (Option Setting)) (on : List Table) (t : ℕ) (s : Setting) → AreListed tables on → t < length tables → is_some (get_or tables t None) ≡ true →
    AreListed (set tables t (Some s)) on
AreListed-same tables on t s are h is q = are q ∙ ap once_if (by_place (ℕ_discrete q t) ∙ sym (some_after tables t q (Some s) h))
  where
    by_place : Dec (q ≡ t) → is_some (get_or tables q None) ≡ (if q == t then true else is_some (get_or tables q None))
    by_place (yes e) = ap (λ k. is_some (get_or tables k None)) e ∙ is ∙ sym (ap (λ b. if b then true else is_some (get_or tables q None)) (let e : (q == t) ≡ true = grind (arith, nat_tests, e) in e))
    by_place (no n) = sym (ap (λ b. if b then true else is_some (get_or tables q None)) (let e : (q == t) ≡ false = grind (arith, nat_tests, n) in e))

pub AreListed-less : (tables : List (Option Setting)) (on ys : List Table) (t : ℕ) → AreListed tables on → t < length tables → ((q : ℕ) → times_on q ys + once_if (t == q) ≡ times_on q on) →
    AreListed (set tables t None) ys
AreListed-less tables on ys t are h counts q = dropped (times_on q ys) t q (is_some (get_or tables q None)) _ (counts q ∙ are q) (some_after tables t q None h)

pub times_on-pop : (xs ys : List Table) (t : Table) → xs ≡ ys ++ t ∷ [] → (q : ℕ) → times_on q ys + once_if (t.0 == q) ≡ times_on q xs
times_on-pop xs ys t e q = sym (ap (times_on q) e ∙ sum_by_push (λ x. if x.0 == q then 1 else 0) ys t)

pub times_on-swap_remove : (xs : List Table) (i : ℕ) (d : Table) (t : ℕ) → i < length xs → (get_or xs i d).0 ≡ t → (q : ℕ) → times_on q (swap_remove xs i d) + once_if (t == q) ≡ times_on q xs
times_on-swap_remove xs i d t h e q = ap (λ k. times_on q (swap_remove xs i d) + once_if (k == q)) (sym e) ∙ sum_by-swap_remove (λ x. if x.0 == q then 1 else 0) xs i d h

-- what is on has a place
pub below_of_some : (tables : List (Option Setting)) (t : ℕ) → is_some (get_or tables t None) ≡ true → t < length tables
below_of_some tables t is = by_place (dec_lt t (length tables))
  where
    by_place : Dec (t < length tables) → t < length tables
    by_place (yes h) = h
    by_place (no n) = absurd (false≢true (sym (ap is_some (get_or_past tables t None (omega arith))) ∙ is))

pub listed_below : (tables : List (Option Setting)) (on ys : List Table) (t : Table) → AreListed tables on → on ≡ ys ++ t ∷ [] → t.0 < length tables
listed_below tables on ys t are e = below_of_some tables t.0 (is_on (is_some (get_or tables t.0 None)) (are t.0))
  where
    is_on : (b : Bool) → times_on t.0 on ≡ once_if b → b ≡ true
    is_on true f = refl
    is_on false f = absurd (let g = times_on-pop on ys t e t.0 in let same : (t.0 == t.0) ≡ true = grind (arith, nat_tests) in let one : once_if (t.0 == t.0) ≡ 1 = ap once_if same in omega (arith, f, g, one))

-- all are off that no list has
pub all_off : (tables : List (Option Setting)) → AreListed tables [] → tables ≡ replicate (length tables) None
all_off tables are = ext_get_or None _ _ (sym (length-replicate _ _)) (λ k h. none (get_or tables k None) (are k) ∙ sym (get_or-replicate (length tables) k None None h))
  where
    none : (o : Option Setting) → 0 ≡ once_if (is_some o) → o ≡ None
    none None e = refl
    none (Some s) e = cc

-- how many are on, of which there are fewer than tables where one is off
pub counted_after : (tables : List (Option Setting)) (t : ℕ) (o : Option Setting) → t < length tables → count_by is_some (set tables t o) + once_if (is_some (get_or tables t None)) ≡ count_by is_some tables + once_if (is_some o)
counted_after tables t o h = sum_by-set (λ p. if is_some p then 1 else 0) tables t o None h

pub some_off : (tables : List (Option Setting)) (t : ℕ) (s : Setting) → t < length tables → is_some (get_or tables t None) ≡ false → count_by is_some tables < length tables
some_off tables t s h off =
    let one = counted_after tables t (Some s) h in
    let none : once_if (is_some (get_or tables t None)) ≡ 0 = ap once_if off in
    let few = count_by-le-length is_some (set tables t (Some s)) in
    let long = length-set tables t (Some s) in
    omega (arith, one, none, few, long)

-- a crosspoint is closed, and one is opened
pub closing : (marks more : List Bool) (xs ys : List Cross) (c : Cross) → AreMarked marks xs → c.0 < length marks → has_mark marks c.0 ≡ false → more ≡ set marks c.0 true → ys ≡ xs ++ c ∷ [] →
    AreMarked more ys × (set_of ys ≡ set_.insert (set_of xs) c.0)
closing marks more xs ys c are low unmarked e f =
    let after : (q : ℕ) → has_mark more q ≡ (if q == c.0 then true else has_mark marks q) = λ q. ap (λ m. has_mark m q) e ∙ mark_after marks c.0 q true low in
    let also : AreMarked more ys = subst (AreMarked more) (sym f) (AreMarked-push marks more xs c are unmarked after) in
    (also, set_inserted marks more xs ys c.0 are also after)

pub opening : (marks less : List Bool) (xs ys : List Cross) (i : ℕ) (d : Cross) (c : ℕ) → AreMarked marks xs → c < length marks → less ≡ set marks c false →
    i < length xs → ((get_or xs i d).0 == c) ≡ true → ys ≡ swap_remove xs i d → AreMarked less ys × (set_of ys ≡ set_.remove (set_of xs) c)
opening marks less xs ys i d c are low e h at f =
    let after : (q : ℕ) → has_mark less q ≡ (if q == c then false else has_mark marks q) = λ q. ap (λ m. has_mark m q) e ∙ mark_after marks c q false low in
    let counts : (q : ℕ) → times q ys + once_if (c == q) ≡ times q xs = λ q. ap (λ zs. times q zs + once_if (c == q)) f ∙ times-swap_remove xs i d c h (eqb-true _ _ at) q in
    let also : AreMarked less ys = AreMarked-less marks less xs ys c are counts after in
    (also, set_removed marks less xs ys c are also after)

-- what is in a list that has its marks is in the set
pub contains_at : (marks : List Bool) (xs : List Cross) (i : ℕ) (d : Cross) → AreMarked marks xs → i < length xs → set_.contains (set_of xs) (get_or xs i d).0 ≡ true
contains_at marks xs i d are h = contains_marked marks xs are _ ∙ is_marked (has_mark marks (get_or xs i d).0) (are _)
  where
    is_marked : (b : Bool) → times (get_or xs i d).0 xs ≡ once_if b → b ≡ true
    is_marked true e = refl
    is_marked false e = absurd (
        let less = times-swap_remove xs i d (get_or xs i d).0 h refl (get_or xs i d).0 in
        let same : ((get_or xs i d).0 == (get_or xs i d).0) ≡ true = grind (arith, nat_tests) in
        let one : once_if ((get_or xs i d).0 == (get_or xs i d).0) ≡ 1 = ap once_if same in
        omega (arith, e, less, one))

pub all_within : (marks : List Bool) (xs : List Cross) (n m : ℕ) → AreMarked marks xs → ((x : ℕ) → set_.contains (set_of xs) x ≡ true → x < n) → n ≤ m → All (λ c. c.0 < m) xs
all_within marks xs n m are within le i d h = let low = within (get_or xs i d).0 (contains_at marks xs i d are h) in omega (arith, low, le)

-- with no marks and nothing on there is nothing in the lists
pub AreMarked-none : (marks : List Bool) → ((q : ℕ) → has_mark marks q ≡ false) → AreMarked marks []
AreMarked-none marks none q = sym (ap once_if (none q))

abbrev off_list : ℕ → List (Option Setting)
off_list n = replicate n None

length-off : (n : ℕ) → length (off_list n) ≡ n
length-off n = length-replicate n None

off_at : (n t : ℕ) → is_some (get_or (off_list n) t None) ≡ false
off_at n t = by_place (dec_lt t n)
  where
    by_place : Dec (t < n) → is_some (get_or (off_list n) t None) ≡ false
    by_place (yes h) = ap is_some (get_or-replicate n t None None h)
    by_place (no k) = ap is_some (get_or_past (off_list n) t None (let long = length-off n in omega (arith, long)))

pub AreListed-none : (n : ℕ) → AreListed (off_list n) []
AreListed-none n t = sym (ap once_if (off_at n t))

pub none_on : (n : ℕ) → count_by is_some (off_list n) ≡ 0
none_on n = sum_by-replicate (λ (o : Option Setting). if is_some o then 1 else 0) n None ∙ omega arith

pub len-set_of : (xs : List Cross) → set_.len (set_of xs) ≤ length xs
len-set_of [] = let e = len-empty nat_cmp in omega (arith, e)
len-set_of (x ∷ xs) = by_place (set_.contains (set_of xs) x.0) (len-insert nat_cmp_total (set_of xs) x.0) (len-set_of xs)
  where
    by_place : (b : Bool) → set_.len (set_of (x ∷ xs)) ≡ (if b then set_.len (set_of xs) else set_.len (set_of xs) + 1) → set_.len (set_of xs) ≤ length xs → set_.len (set_of (x ∷ xs)) ≤ length (x ∷ xs)
    by_place true e le = omega (arith, e, le)
    by_place false e le = omega (arith, e, le)

-- no mark anywhere
pub unmarked : (n q : ℕ) → has_mark (replicate n false) q ≡ false
unmarked n q = by_place (dec_lt q n)
  where
    by_place : Dec (q < n) → has_mark (replicate n false) q ≡ false
    by_place (yes h) = get_or-replicate n q false false h
    by_place (no k) = get_or_past (replicate n false) q false (let long = length-replicate n false in omega (arith, long))

-- what has a mark, or is on, stands somewhere
no_times : {X : Type 0} (p : X → Bool) (xs : List X) → ((k : ℕ) (d : X) → k < length xs → p (get_or xs k d) ≡ false) → count_by p xs ≡ 0
no_times p [] none = refl
no_times p (x ∷ xs) none =
    sum_by-cons (λ y. if p y then 1 else 0) x xs ∙ ap (λ b. (if b then 1 else 0) + count_by p xs) (none 0 x (omega arith)) ∙ ap (λ n. 0 + n) (no_times p xs (λ k d h. none (suc k) d (omega arith))) ∙ omega arith

not_zero : (b : Bool) (n : ℕ) → n ≡ once_if b → b ≡ true → n ≡ 0 → ⊥
not_zero true n e is z = omega (arith, e, z)
not_zero false n e is z = false≢true is

pub unlisted : (marks : List Bool) (xs : List Cross) (c : Cross) → AreMarked marks xs → has_mark marks c.0 ≡ true → ((k : ℕ) (d : Cross) → k < length xs → ((get_or xs k d).0 == c.0) ≡ false) → ⊥
unlisted marks xs c are is none = not_zero (has_mark marks c.0) (times c.0 xs) (are c.0) is (no_times (λ x. x.0 == c.0) xs none)

pub unlisted_on : (tables : List (Option Setting)) (xs : List Table) (t : Table) → AreListed tables xs → is_some (get_or tables t.0 None) ≡ true → ((k : ℕ) (d : Table) → k < length xs → ((get_or xs k d).0 == t.0) ≡ false) → ⊥
unlisted_on tables xs t are is none = not_zero (is_some (get_or tables t.0 None)) (times_on t.0 xs) (are t.0) is (no_times (λ x. x.0 == t.0) xs none)

-- what an index read of the tables
pub some_read : (tables : List (Option Setting)) (t : ℕ) (x : Option Setting) (b : Bool) → t < length tables → x ≡ get_or tables t x → is_some x ≡ b → is_some (get_or tables t None) ≡ b
some_read tables t x b h e is = ap is_some (get_or_default tables t None x h ∙ sym e) ∙ is
