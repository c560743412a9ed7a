-- Wires that may be hung on a forest.
use Rattle.std.proofs.Common.{◌≡◌, ℕ, zero, suc, ◌+◌, ◌<◌, Bool, true, false, Option, Some, None, List, [], ◌∷◌, ◌++◌, length, take, get_or, refl, sym, ap, ◌∙◌, subst, append_assoc, arith, All, IfSome, ◌==◌, is_some, map, slice_get, unwrap_or}
use Rattle.diag_sweep.proofs.Vocabulary.{IsDistinct, false≢true, take_more, map-append, All-push, gets, Cross, other_end, WireTest}
use Rattle.machine_shape.specs.{declared.Wire.Wire, Shape.Ends, Shape.ends_of, Shape.wires_of, Shape.crosses_of}
use Rattle.diag_evidence.specs.Vocabulary.{Trees, pin_of, AreHangs, Foot, IsFoot, all_feet, others, over_of, overs, pin_at, turned}

-- the pin was found over the other end
pub over_end : (trees : Trees) (foot : Wire × Cross) (e : ℕ) (found : Option ℕ) → foot.0.0 < wires_of trees.shape → foot.1.0 < crosses_of trees.shape → is_some (pin_of trees foot.0.0) ≡ false →
    Ends (ends_of trees.shape foot.1.0) foot.0.0 e → e ≡ other_end trees.shape foot.1.0 foot.0.0 → found ≡ pin_of trees e → IfSome found (λ pin. IsFoot trees foot)
over_end trees foot e None wire cross loose ends same at = tt
over_end trees foot e (Some pin) wire cross loose ends same at = record {
  wire = wire;
  cross = cross;
  ends = subst (Ends (ends_of trees.shape foot.1.0) foot.0.0) same ends;
  hangs = here ∙ ap (λ (p : ℕ). Some p) (sym (ap (λ (o : Option ℕ). unwrap_or o 0) here));
  loose = none_of (pin_of trees foot.0.0) loose;
}
  where
    here : pin_of trees (other_end trees.shape foot.1.0 foot.0.0) ≡ Some pin
    here = ap (pin_of trees) (sym same) ∙ sym at

    none_of : (o : Option ℕ) → is_some o ≡ false → o ≡ None
    none_of None e = refl
    none_of (Some p) e = absurd (false≢true (sym e))

pub over_pin : (trees : Trees) (foot : Wire × Cross) (e : ℕ) (found : Option ℕ) → e ≡ other_end trees.shape foot.1.0 foot.0.0 → found ≡ pin_of trees e → IfSome found (λ pin. pin ≡ pin_at trees foot)
over_pin trees foot e None same at = tt
over_pin trees foot e (Some pin) same at = ap (λ (o : Option ℕ). unwrap_or o 0) (at ∙ ap (pin_of trees) same)

-- one more of a list
module _ {A : Type 0} (xs : List A) (k : ℕ) (x : A) (below : k < length xs) (here : slice_get xs k ≡ Some x) where
  pub one_more : take (k + 1) xs ≡ take k xs ++ x ∷ []
  one_more = take_more xs k x below ∙ ap (λ u. take k xs ++ u ∷ []) (got (grind (arith, gets, here)))
    where
      got : get_or xs k x ≡ x → get_or xs k x ≡ x
      got e = e

  pub all_more : (P : A → Type 0) → All P (take k xs) → P x → All P (take (k + 1) xs)
  all_more P all is = subst (All P) (sym one_more) (All-push P (take k xs) x all is)

  pub map_more : {B : Type 0} (f : A → B) (ys : List B) (y : B) → ys ≡ map f (take k xs) → y ≡ f x → ys ++ y ∷ [] ≡ map f (take (k + 1) xs)
  map_more f ys y same is = ap (λ zs. zs ++ y ∷ []) same ∙ ap (λ z. map f (take k xs) ++ z ∷ []) is ∙ sym (map-append f (take k xs) (x ∷ [])) ∙ ap (map f) (sym one_more)

-- one foot over a second crosspoint more
pub others_more : (hs : List WireTest) (k : ℕ) (h : WireTest) → k < length hs → slice_get hs k ≡ Some h → (xs ys : List Foot) → ys ≡ xs ++ others (take k hs) → ys ++ over_of (turned h) ∷ [] ≡ xs ++ others (take (k + 1) hs)
others_more hs k h below here xs ys same = ap (λ zs. zs ++ over_of (turned h) ∷ []) same ∙ append_assoc xs (others (take k hs)) (over_of (turned h) ∷ []) ∙ ap (λ zs. xs ++ zs) (sym (map-append over_of (map turned (take k hs)) (turned h ∷ [])) ∙ ap (map over_of) (map_more hs k h below here turned (map turned (take k hs)) (turned h) refl refl))

-- parts of lists
module _ {A : Type 0} (P : A → Type 0) where
  all_front : (xs ys : List A) → All P (xs ++ ys) → All P xs
  all_front [] ys all i d below = absurd (omega (arith, below))
  all_front (x ∷ xs) ys all zero d below = all 0 d (omega arith)
  all_front (x ∷ xs) ys all (suc i) d below = all_front xs ys (λ k e less. all (suc k) e (omega (arith, less))) i d (omega (arith, below))

  all_behind : (xs ys : List A) → All P (xs ++ ys) → All P ys
  all_behind [] ys all = all
  all_behind (x ∷ xs) ys all = all_behind xs ys (λ k e less. all (suc k) e (omega (arith, less)))

feet_each : (P : Foot → Type 0) (hs : List WireTest) → All P (overs hs) → All (λ h. P (over_of h)) hs
feet_each P [] all i d below = absurd (omega (arith, below))
feet_each P (h ∷ hs) all zero d below = all 0 (over_of h) (omega arith)
feet_each P (h ∷ hs) all (suc i) d below = feet_each P hs (λ k e less. all (suc k) e (omega (arith, less))) i d (omega (arith, below))

turned_each : (P : WireTest → Type 0) (hs : List WireTest) → All P (map turned hs) → All (λ h. P (turned h)) hs
turned_each P [] all i d below = absurd (omega (arith, below))
turned_each P (h ∷ hs) all zero d below = all 0 (turned h) (omega arith)
turned_each P (h ∷ hs) all (suc i) d below = turned_each P hs (λ k e less. all (suc k) e (omega (arith, less))) i d (omega (arith, below))

pub of_some : {A : Type 0} (P : A → Type 0) (o : Option A) (x : A) → o ≡ Some x → IfSome o P → P x
of_some P o x e h = subst (λ q. IfSome q P) e h

pub fits : {trees : Trees} (hs : List WireTest) {feet : List Foot} {pins wires : List ℕ} → feet ≡ all_feet hs → All (IsFoot trees) feet → pins ≡ map (pin_at trees) feet → IsDistinct (λ a b. a == b) pins →
    wires ≡ map (λ h. h.wire.0) hs → IsDistinct (λ a b. a == b) wires → AreHangs trees hs
fits {trees} hs same each at apart named differ = record {
  over = feet_each (IsFoot trees) hs (all_front (IsFoot trees) (overs hs) (others hs) (subst (All (IsFoot trees)) same each));
  other = turned_each (λ h. IsFoot trees (over_of h)) hs (feet_each (IsFoot trees) (map turned hs) (all_behind (IsFoot trees) (overs hs) (others hs) (subst (All (IsFoot trees)) same each)));
  wires = subst (λ ns. IsDistinct (λ a b. a == b) ns) named differ;
  pins = subst (λ ns. IsDistinct (λ a b. a == b) ns) (at ∙ ap (map (pin_at trees)) same) apart;
}
