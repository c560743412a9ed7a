-- What is closed by lists makes groups and loops.
use Rattle.std.proofs.Common.{◌≡◌, ◌≢◌, ◌⊎◌, ℕ, Bool, true, false, None, Option, List, [], ◌∷◌, ◌++◌, refl, sym, ◌∙◌, subst, inl, inr, arith, ◌||◌, ◌==◌, if◌then◌else◌}
use Rattle.diag_evidence.proofs.Vocabulary.{AllByRecursion, false≢true, nat_tests, Shape, Pins, Faults, stuck_cross, here, is_closed-open}
use Rattle.diag_evidence.proofs.Vocabulary.{LeadsTo-within, LeadsTo-start, LeadsTo-then, closed_before, driven_in}
use Rattle.machine_shape.specs.Shape.{Ends, in_order, turned, ends_of, pin_wire}
use Rattle.machine_config.specs.Vocabulary.{among, IsWithin, AreGroups, LeadsTo, Configuration, is_closed, with_open, IsLed, IsLoop, IsDrivenAlone, AreReleased}
use Rattle.diag_tests.specs.Vocabulary.{Walk, IsRoute, IsLoopConfig, is_laid}
use Rattle.diag_evidence.specs.Vocabulary.{Kept, keeps_cross, CrossPasses, SwingPasses, AreTied, IsLoopBy, LoopPasses, RoutePasses}
use Rattle.diag_evidence.proofs.Keeping.{untried_crosses}

all_append : (P : ℕ → Type 0) (xs ys : List ℕ) → AllByRecursion P xs → AllByRecursion P ys → AllByRecursion P (xs ++ ys)
all_append P [] ys p q = q
all_append P (x ∷ xs) ys p q = (p.0, all_append P xs ys p.1 q)

all_among : (P : ℕ → Type 0) (xs : List ℕ) → ((y : ℕ) → among xs y ≡ true → P y) → AllByRecursion P xs
all_among P [] h = tt
all_among P (x ∷ xs) h = (h x (grind (arith, nat_tests)), all_among P xs (λ y is. h y (grind (arith, nat_tests))))

all_map : (P Q : ℕ → Type 0) (xs : List ℕ) → ((y : ℕ) → P y → Q y) → AllByRecursion P xs → AllByRecursion Q xs
all_map P Q [] h p = tt
all_map P Q (x ∷ xs) h p = (h x p.0, all_map P Q xs h p.1)

still_closed : (g : Configuration) (x y : ℕ) → is_closed g y ≡ true → y ≢ x → is_closed (with_open g x) y ≡ true
still_closed g x y on n = is_closed-open g x y ∙ by_test (y == x) refl
  where
    by_test : (b : Bool) → (y == x) ≡ b → (if b then false else is_closed g y) ≡ true
    by_test true e = absurd (n (grind (arith, nat_tests)))
    by_test false e = on

-- what is closed with x open is another crosspoint
not_itself : (g : Configuration) (x : ℕ) → is_closed (with_open g x) x ≡ true → ⊥
not_itself g x on = let same : (x == x) ≡ true = grind (arith, nat_tests) in false≢true (rw same at (sym (is_closed-open g x x) ∙ on))

-- what is closed is on a route or a tie
pub laid_cases : (a b c : Bool) → (a || (b || c)) ≡ true → (a ≡ true) ⊎ ((b ≡ true) ⊎ (c ≡ true))
laid_cases true b c e = inl refl
laid_cases false true c e = inr (inl refl)
laid_cases false false c e = inr (inr e)

pub or_first : (a b c : Bool) → a ≡ true → (a || (b || c)) ≡ true
or_first true b c e = refl
or_first false b c e = cc

pub or_second : (a b c : Bool) → b ≡ true → (a || (b || c)) ≡ true
or_second true b c e = refl
or_second false true c e = refl
or_second false false c e = cc

pub or_third : (a b c : Bool) → c ≡ true → (a || (b || c)) ≡ true
or_third true b c e = refl
or_third false true c e = refl
or_third false false c e = e

-- what stands in the lists is closed
pub record AreOn (left right : Walk) (ties : List ℕ) (g : Configuration) : Type 0 where
  pub lefts : (y : ℕ) → among left.crosses y ≡ true → is_closed g y ≡ true
  pub rights : (y : ℕ) → among right.crosses y ≡ true → is_closed g y ≡ true
  pub tied : (y : ℕ) → among ties y ≡ true → is_closed g y ≡ true

pub all_on : {left right : Walk} {ties : List ℕ} {g : Configuration} → ((y : ℕ) → is_closed g y ≡ is_laid left right ties y) → AreOn left right ties g
all_on {left} {right} {ties} closed = record {
  lefts = λ y is. closed y ∙ or_first (among left.crosses y) (among right.crosses y) (among ties y) is;
  rights = λ y is. closed y ∙ or_second (among left.crosses y) (among right.crosses y) (among ties y) is;
  tied = λ y is. closed y ∙ or_third (among left.crosses y) (among right.crosses y) (among ties y) is;
}

pub grown : {m : Shape} {x : ℕ} {group : ℕ → Bool} (ws : List ℕ) → ((w : ℕ) → among ws w ≡ true → group w ≡ true) → IsWithin m (among ws) x → IsWithin m group x
grown {m} {x} ws h i = record { tap = h (ends_of m x).0 i.tap; line = h (ends_of m x).1 i.line }

module _ (f : Faults) (g : Configuration) (left right : Walk) (ties : List ℕ) (x : ℕ) (l r : ℕ → Bool)
    (config : IsLoopConfig g.shape left right ties g) (left_route : IsRoute g.shape left) (right_route : IsRoute g.shape right)
    (lefts_free : (y : ℕ) → among left.crosses y ≡ true → stuck_cross f y ≡ None) (rights_free : (y : ℕ) → among right.crosses y ≡ true → stuck_cross f y ≡ None)
    (tied : among ties x ≡ true) (p : IsLoopBy g.shape f left right ties x l r) where
  listed : AreOn left right ties g
  listed = all_on config.closed

  left_within : (y : ℕ) → among left.crosses y ≡ true → IsWithin g.shape l y
  left_within y is = grown left.wires p.left_in (LeadsTo-within left_route.leads y is)

  right_within : (y : ℕ) → among right.crosses y ≡ true → IsWithin g.shape r y
  right_within y is = grown right.wires p.right_in (LeadsTo-within right_route.leads y is)

  end_in : (group : ℕ → Bool) {y a b : ℕ} → IsWithin g.shape group y → Ends (ends_of g.shape y) a b → (group a ≡ true) × (group b ≡ true)
  end_in group i (in_order s t) = (subst (λ w. group w ≡ true) s i.tap, subst (λ w. group w ≡ true) t i.line)
  end_in group i (turned s t) = (subst (λ w. group w ≡ true) t i.line, subst (λ w. group w ≡ true) s i.tap)

  -- x is on neither route
  off_left : (y : ℕ) → among left.crosses y ≡ true → y ≢ x
  off_left y is e = p.apart p.far p.far (end_in l (left_within x (subst (λ z. among left.crosses z ≡ true) e is)) p.at).1 p.far_right here

  off_right : (y : ℕ) → among right.crosses y ≡ true → y ≢ x
  off_right y is e = p.apart p.near p.near p.near_left (end_in r (right_within x (subst (λ z. among right.crosses z ≡ true) e is)) p.at).0 here

  by_list : (y : ℕ) → y ≢ x → (among left.crosses y ≡ true) ⊎ ((among right.crosses y ≡ true) ⊎ (among ties y ≡ true)) → IsWithin g.shape l y ⊎ IsWithin g.shape r y
  by_list y n (inl h) = inl (left_within y h)
  by_list y n (inr (inl h)) = inr (right_within y h)
  by_list y n (inr (inr h)) = p.ties_in y h n

  groups : AreGroups g.shape f (is_closed (with_open g x)) l r
  groups = record {
    within = λ y on. by_list y (λ e. not_itself g x (subst (λ z. is_closed (with_open g x) z ≡ true) e on)) (laid_cases _ _ _ (sym (config.closed y) ∙ closed_before g x y on));
    left_clear = p.left_clear;
    right_clear = p.right_clear;
    apart = p.apart;
  }

  led : (from : Walk) (xs ws : List ℕ) (e : ℕ) → IsRoute g.shape from → ((y : ℕ) → among from.crosses y ≡ true → is_closed g y ≡ true) → ((y : ℕ) → among from.crosses y ≡ true → stuck_cross f y ≡ None) →
      ((y : ℕ) → among from.crosses y ≡ true → y ≢ x) → LeadsTo g.shape from.end xs ws e → AreTied f ties x xs → (us : List ℕ) × IsLed f (with_open g x) from.pin (from.crosses ++ xs) us e
  led from xs ws e route on free other leads tied =
      let whole = LeadsTo-then route.leads leads in (
        whole.0,
        record {
          leads = whole.1;
          closed = all_append (λ y. is_closed (with_open g x) y ≡ true) from.crosses xs (all_among _ from.crosses (λ y is. still_closed g x y (on y is) (other y is))) (all_map _ _ xs (λ y t. still_closed g x y (listed.tied y t.0) t.1.0) tied);
          free = all_append (λ y. stuck_cross f y ≡ None) from.crosses xs (all_among _ from.crosses free) (all_map _ _ xs (λ y t. t.1.1) tied);
        },
      )

  pub loop_of_lists : IsLoop f g x l r left.pin right.pin
  loop_of_lists =
      let a = led left p.lefts p.left_way p.near left_route listed.lefts lefts_free off_left p.leads_left p.left_ties in
      let b = led right p.rights p.right_way p.far right_route listed.rights rights_free off_right p.leads_right p.right_ties in
      record {
        off = config.off;
        closed = listed.tied x tied;
        free = p.free;
        groups = groups;
        k_pin = left_route.pin;
        l_pin = right_route.pin;
        k_left = p.left_in (pin_wire g.shape left.pin) (LeadsTo-start left_route.leads);
        l_right = p.right_in (pin_wire g.shape right.pin) (LeadsTo-start right_route.leads);
        near = p.near;
        far = p.far;
        at = p.at;
        near_left = p.near_left;
        far_right = p.far_right;
        lefts = left.crosses ++ p.lefts;
        left_wires = a.0;
        leads_left = a.1;
        rights = right.crosses ++ p.rights;
        right_wires = b.0;
        leads_right = b.1;
      }

-- a toggle of a tie between two routes whose crosspoints are kept
pub loop_passes : (told : Option Faults) (k : Kept) (g : Configuration) (left right : Walk) (ties : List ℕ) (x : ℕ) (drive : Pins) (answer : Bool) →
    IsLoopConfig k.shape left right ties g → IsRoute k.shape left → IsRoute k.shape right →
    ((y : ℕ) → among left.crosses y ≡ true → keeps_cross k y ≡ true) → ((y : ℕ) → among right.crosses y ≡ true → keeps_cross k y ≡ true) →
    among ties x ≡ true → IsDrivenAlone drive left.pin → CrossPasses told g x drive right.pin answer → LoopPasses told k left right ties x answer
loop_passes told k g left right ties x drive answer config on off lefts rights tied driven passes = record {
  at = λ f l r is h loop.
      let it = loop_of_lists f g left right ties x l r (turn (λ m. IsLoopConfig m left right ties g) config) (turn (λ m. IsRoute m left) on) (turn (λ m. IsRoute m right) off)
      (λ y a. untried_crosses k h y (lefts y a)) (λ y a. untried_crosses k h y (rights y a)) tied (turn (λ m. IsLoopBy m f left right ties x l r) loop) in
      passes.at f l r left.pin is it (driven_in g.shape drive left.pin l it.k_left driven);
}
  where
    turn : (P : Shape → Type 0) → P k.shape → P g.shape
    turn P p = subst P (sym config.shape) p

-- a swing of a route, where nothing else is closed
pub route_passes : (told : Option Faults) (m : Shape) (g : Configuration) (r : Walk) (low high : Pins) (answer : Bool) →
    IsLoopConfig m r r [] g → IsRoute m r → IsDrivenAlone low r.pin → AreReleased high → SwingPasses told g low high r.pin answer → RoutePasses told m r answer
route_passes told m g r low high answer config route driven released passes = record {
  at = λ f is clear. passes.at f (among r.wires) (λ _. false) is config.off
      (subst (λ n. AreGroups n f (is_closed g) (among r.wires) (λ _. false)) (sym config.shape) (record {
        within = λ x on. inl (LeadsTo-within route.leads x (by_cases x (laid_cases _ _ _ (sym (config.closed x) ∙ on))));
        left_clear = clear;
        right_clear = λ w h. absurd (false≢true h);
        apart = λ w u h o. absurd (false≢true o);
      }))
      (subst (λ n. among r.wires (pin_wire n r.pin) ≡ true) (sym config.shape) (LeadsTo-start route.leads)) driven.low released;
}
  where
    by_cases : (x : ℕ) → (among r.crosses x ≡ true) ⊎ ((among r.crosses x ≡ true) ⊎ (false ≡ true)) → among r.crosses x ≡ true
    by_cases x (inl h) = h
    by_cases x (inr (inl h)) = h
    by_cases x (inr (inr h)) = absurd (false≢true h)
