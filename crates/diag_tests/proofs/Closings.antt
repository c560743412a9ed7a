-- Closing crosspoints one by one.
use Rattle.std.proofs.Common.{◌≡◌, ℕ, Bool, true, false, List, refl, ap, ◌∙◌, arith, ◌+◌, ◌<◌, length, take, get_or, Some, None, Option, ◌≤◌, ◌==◌, ◌||◌, slice_get, replicate}
use native.Mathlib.Decide.{dec_lt}
use Rattle.diag_tests.proofs.Vocabulary.{among, Configuration, is_closed, with_closed, cleared, Closes, IsLoopConfig, Walk, nat_tests, gets}
use Rattle.diag_tests.proofs.Vocabulary.{get_or-replicate, get_or_past, length-replicate, Shape}
use Rattle.machine_config.specs.declared.Setting.{Setting}
use Rattle.std.proofs.lemmas.List.Folds.{list_any_more, list_any_at}
use Rattle.machine_config.proofs.Changes.{is_closed-closed}
use Rattle.std.specs.{FinSet.contains-empty, Ordering.nat_cmp}
use Rattle.machine_shape.specs.Shape.{tables_of}

one_more : (t u n b c : Bool) → u ≡ (t || n) → (n ≡ true → b ≡ true) → (n ≡ false → b ≡ (t || c)) → b ≡ (u || c)
one_more t u n b c e it not_it = by_test n refl
  where
    by_test : (v : Bool) → n ≡ v → b ≡ (u || c)
    by_test true p = rw (e, p, it p) (also t)
      where
        also : (t : Bool) → true ≡ ((t || true) || c)
        also true = refl
        also false = refl
    by_test false p = rw (e, p, not_it p) (also t)
      where
        also : (t : Bool) → (t || c) ≡ ((t || false) || c)
        also true = refl
        also false = refl

pub closes_none : (xs : List ℕ) (g : Configuration) → Closes (take 0 xs) g g
closes_none xs g = record { closed = λ x. refl; shape = refl; tables = refl; ticks = refl }

pub closes_next : (xs : List ℕ) (i x : ℕ) (g h : Configuration) → i < length xs → get_or xs i 0 ≡ x → Closes (take i xs) g h → Closes (take (i + 1) xs) g (with_closed h x)
closes_next xs i x g h below at p = record {
  closed = λ y. one_more (among (take i xs) y) _ (get_or xs i 0 == y) _ (is_closed g y) (list_any_more (λ z. z == y) xs i 0 below)
      (λ e. let same : (y == x) ≡ true = grind (arith, nat_tests) in rw (is_closed-closed, same) refl)
      (λ e. let other : (y == x) ≡ false = grind (arith, nat_tests) in rw (is_closed-closed, other) (p.closed y));
  shape = p.shape;
  tables = p.tables;
  ticks = p.ticks;
}

-- what stands in a list is among it
pub among_at : (xs : List ℕ) (k x : ℕ) → k < length xs → slice_get xs k ≡ Some x → among xs x ≡ true
among_at xs k x below e =
    let value : get_or xs k 0 ≡ x = grind (arith, gets, e) in
    list_any_at (λ y. y == x) xs k 0 below (grind (arith, nat_tests, value))

-- closing two routes and the ties makes a loop
pub laid : (m : Shape) (left right : Walk) (ties : List ℕ) (g h i j : Configuration) → g ≡ cleared m → Closes left.crosses g h → Closes right.crosses h i → Closes ties i j → IsLoopConfig m left right ties j
laid m left right ties g h i j e p q r = record {
  shape = r.shape ∙ q.shape ∙ p.shape ∙ ap (λ g. g.shape) e;
  closed = λ x. by_parts (among left.crosses x) (among right.crosses x) (among ties x) _ _ _ (none x) (p.closed x) (q.closed x) (r.closed x);
  tables = same_tables;
  off = λ t. rw same_tables (all_off t);
  ticks = r.ticks ∙ q.ticks ∙ p.ticks ∙ ap (λ g. g.ticks) e;
}
  where
    none : (x : ℕ) → is_closed g x ≡ false
    none x = ap (λ g. is_closed g x) e ∙ contains-empty nat_cmp x

    same_tables : j.tables ≡ replicate (tables_of m) None
    same_tables = r.tables ∙ q.tables ∙ p.tables ∙ ap (λ g. g.tables) e

    all_off : (t : ℕ) → get_or {A = Option Setting} (replicate (tables_of m) None) t None ≡ None
    all_off t = by_place (dec_lt t (tables_of m))
      where
        by_place : Dec (t < tables_of m) → get_or {A = Option Setting} (replicate (tables_of m) None) t None ≡ None
        by_place (yes h) = get_or-replicate (tables_of m) t None None h
        by_place (no h) = let past : tables_of m ≤ t = omega arith in get_or_past (replicate (tables_of m) None) t None (rw length-replicate past)

    by_parts : (a b c g h i : Bool) {j : Bool} → g ≡ false → h ≡ (a || g) → i ≡ (b || h) → j ≡ (c || i) → j ≡ (a || (b || c))
    by_parts a b c g h i n e f k = k ∙ ap (λ v. c || v) (f ∙ ap (λ v. b || v) (e ∙ ap (λ v. a || v) n)) ∙ back a b c
      where
        back : (a b c : Bool) → (c || (b || (a || false))) ≡ (a || (b || c))
        back true true true = refl
        back true true false = refl
        back true false true = refl
        back true false false = refl
        back false true true = refl
        back false true false = refl
        back false false true = refl
        back false false false = refl

-- what is among one more of a list
pub more_among : (ws : List ℕ) (k x y : ℕ) → k < length ws → slice_get ws k ≡ Some x → among (take (k + 1) ws) y ≡ (among (take k ws) y || (x == y))
more_among ws k x y below at =
    let value : get_or ws k 0 ≡ x = grind (arith, gets, at) in
    list_any_more (λ z. z == y) ws k 0 below ∙ ap (λ z. among (take k ws) y || (z == y)) value
