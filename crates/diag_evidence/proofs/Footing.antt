-- Feet, and what is closed at them.
use Rattle.std.proofs.Common.{◌≡◌, ◌<◌, ℕ, Bool, true, false, ◌||◌, Some, None, Option, List, [], ◌∷◌, All, length, get_or, unwrap_or, refl, sym, ap, ◌∙◌, subst, arith, ◌==◌, map, replicate, slice_get}
use Rattle.diag_evidence.proofs.Vocabulary.{nat_tests, list_any_at, contains-empty, nat_cmp, Shape, Cross, pins_of, crosses_of, tables_of}
use Rattle.diag_evidence.proofs.Vocabulary.{Setting, Configuration, is_closed, cleared, among, Closes, cross_numbers, WireTest}
use Rattle.std.proofs.lemmas.List.{get_or-map, length-map, get_or-replicate, get_or_past, length-replicate}
use Rattle.std.proofs.lemmas.Option.{get_or_from_slice_get, slice_get-get_or, slice_get_within}
use native.Mathlib.Decide.{dec_lt}
use Rattle.diag_evidence.specs.Vocabulary.{Trees, HangsOn, pin_of, is_laid, IsForest, Foot, IsFoot, over_of, overs, ClosesForest, ClosesJust, closes, feet_crosses, pin_at}

-- a wire hangs on a pin of the machine
pub pin_below : (trees : Trees) (w p : ℕ) → IsForest trees → HangsOn trees w p → p < pins_of trees.shape
pin_below trees w p is h = (is.led w p h).below

-- and so does the end of a foot
pub foot_below : (trees : Trees) (foot : Foot) → IsForest trees → IsFoot trees foot → pin_at trees foot < pins_of trees.shape
foot_below trees foot is at = pin_below trees _ (pin_at trees foot) is at.hangs

-- where the pins of all feet are listed, that of one
module _ (trees : Trees) (feet : List Foot) (k : ℕ) (foot : Foot) (at : slice_get feet k ≡ Some foot) where
  listed_within : k < length (map (pin_at trees) feet)
  listed_within = let low = slice_get_within feet k foot at in let many = length-map feet (pin_at trees) in omega (arith, low, many)

  listed_is : get_or (map (pin_at trees) feet) k 0 ≡ pin_at trees foot
  listed_is = get_or-map (pin_at trees) feet k foot 0 (slice_get_within feet k foot at) ∙ ap (pin_at trees) (get_or_from_slice_get feet k foot foot at)

  pub listed_below : (pins : List ℕ) → pins ≡ map (pin_at trees) feet → k < length pins
  listed_below pins e = subst (λ (xs : List ℕ). k < length xs) (sym e) listed_within

  pub listed_at : (pins : List ℕ) → pins ≡ map (pin_at trees) feet → get_or pins k 0 ≡ pin_at trees foot
  listed_at pins e = ap (λ (xs : List ℕ). get_or xs k 0) e ∙ listed_is

  pub listed_pin_below : IsForest trees → All (IsFoot trees) feet → pin_at trees foot < pins_of trees.shape
  listed_pin_below is all = foot_below trees foot is (subst (IsFoot trees) (get_or_from_slice_get feet k foot foot at) (all k foot (slice_get_within feet k foot at)))

-- the foot of a hang at a place
pub over_at : (hs : List WireTest) (k : ℕ) (h : WireTest) → slice_get hs k ≡ Some h → slice_get (overs hs) k ≡ Some (over_of h)
over_at hs k h at =
    let low = slice_get_within hs k h at in
    let many = length-map hs over_of in
    slice_get-get_or (overs hs) k (over_of h) (omega (arith, low, many)) ∙ ap (λ (f : Foot). Some f) (get_or-map over_of hs k h (over_of h) low ∙ ap over_of (get_or_from_slice_get hs k h h at))

-- the crosspoints of a forest are some of the machine
pub laid_below : (trees : Trees) → IsForest trees → All (λ c. c.0 < crosses_of trees.shape) trees.crosses
laid_below trees is k d below =
    let many = length-map trees.crosses (λ (c : Cross). c.0) in
    let at : get_or (cross_numbers trees.crosses) k 0 ≡ (get_or trees.crosses k d).0 = get_or-map (λ (c : Cross). c.0) trees.crosses k d 0 below in
    (is.crosses (get_or trees.crosses k d).0 (list_any_at (λ y. y == (get_or trees.crosses k d).0) (cross_numbers trees.crosses) k 0 (omega (arith, below, many)) (grind (arith, nat_tests, at)))).below

-- closing a forest's crosspoints closes just these
pub closed_forest : (m : Shape) (trees : Trees) (g h : Configuration) → g ≡ cleared m → m ≡ trees.shape → Closes (cross_numbers trees.crosses) g h → ClosesForest trees h
closed_forest m trees g h e same p = record {
  shape = p.shape ∙ ap (λ g. g.shape) e ∙ same;
  closed = λ x. p.closed x ∙ ap (λ t. is_laid trees x || t) (none x) ∙ or_false (is_laid trees x);
  off = λ t. ap (λ ts. get_or {A = Option Setting} ts t None) (p.tables ∙ ap (λ g. g.tables) e) ∙ all_off t;
  ticks = p.ticks ∙ ap (λ g. g.ticks) e;
}
  where
    none : (x : ℕ) → is_closed g x ≡ false
    none x = ap (λ g. is_closed g x) e ∙ contains-empty nat_cmp x

    or_false : (a : Bool) → (a || false) ≡ a
    or_false true = refl
    or_false false = refl

    all_off : (t : ℕ) → get_or {A = Option Setting} (replicate (tables_of m) None) t None ≡ None
    all_off t = by_place (dec_lt t (tables_of m))
      where
        by_place : Dec (t < tables_of m) → get_or {A = Option Setting} (replicate (tables_of m) None) t None ≡ None
        by_place (yes h) = get_or-replicate (tables_of m) t None None h
        by_place (no n) = get_or_past (replicate (tables_of m) None) t None (let e = length-replicate {A = Option Setting} (tables_of m) None in omega (arith, n, e))

-- .. and then those of feet, just these
pub closed_just : (trees : Trees) (feet : List Foot) (g h : Configuration) → ClosesForest trees g → Closes (feet_crosses feet) g h → ClosesJust trees feet h
closed_just trees feet g h p q = record {
  shape = q.shape ∙ p.shape;
  closed = λ x. q.closed x ∙ ap (λ t. among (feet_crosses feet) x || t) (p.closed x) ∙ turned (is_laid trees x) (among (feet_crosses feet) x);
  off = λ t. ap (λ ts. get_or {A = Option Setting} ts t None) q.tables ∙ p.off t;
  ticks = q.ticks ∙ p.ticks;
}
  where
    turned : (a b : Bool) → (b || a) ≡ (a || b)
    turned true true = refl
    turned true false = refl
    turned false true = refl
    turned false false = refl
