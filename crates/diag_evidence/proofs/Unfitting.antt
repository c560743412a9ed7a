-- What a look shows of wires that aren't fit is true.
use Rattle.std.proofs.Common.{◌≡◌, ◌≢◌, ◌⊎◌, inl, inr, ℕ, zero, suc, ◌<◌, ◌+◌, Bool, true, false, not, ◌&&◌, ◌||◌, Some, None, Option, List, [], ◌∷◌, All, length, get_or, refl, sym, ap, ◌∙◌, subst, arith, ◌==◌, is_some, map, unwrap_or}
use Rattle.diag_evidence.proofs.Vocabulary.{list_any, list_all, range_with_len, IsDistinct, option_map_or, false≢true, and_parts, or_cases}
use Rattle.diag_evidence.proofs.Vocabulary.{or_left, or_right, nat_tests, Shape, Joined-sym, Joined-trans, groups_turned, left_unstuck}
use Rattle.diag_evidence.proofs.Vocabulary.{left_apart, quiet_load, reads_low, reads_high, other_end}
use Rattle.std.proofs.lemmas.List.{get_or-set_same, get_or-set_other, get_or-replicate, get_or_past, length-replicate, length-set}
use Rattle.std.proofs.lemmas.List.FromFn.{get_or-range_with_len, length-range_with_len}
use native.Mathlib.Decide.{ℕ_discrete, dec_lt}
use Rattle.machine_shape.specs.Vocabulary.{IsNumbered, Ends, in_order, turned, ends_of, pin_wire, pins_of}
use Rattle.machine_meaning.specs.Vocabulary.{Pins, Outputs, Faults, stuck_cross, stuck_wire, Net, Linked, Joined, here, then, crossed, bridged, Shorted, net_of, IsClear, IsAlone}
use Rattle.machine_config.specs.Vocabulary.{Configuration, is_closed, circuit_of, IsRun, among, IsWithin, AreGroups, LeadsTo, ends, goes, Runs, Cycles, none, cycle, at_load}
use Rattle.diag_evidence.specs.Vocabulary.{Kept, HoldsFor, keeps_wire, keeps_pair, Trees, HangsOn, pin_of, is_hung, is_laid, IsOfTree, IsLedOver, IsForest, KnowsForest, IsLook, one_driven, none_driven, differ, parts, read_free, read_under, Foot, IsFoot, closes, pin_at, feet_crosses, others_part, falls_with_others, reads_oddly, reads_alike}
use Rattle.diag_evidence.proofs.Growing.{hung_by}
use Rattle.diag_evidence.proofs.Leading.{of_each}
use Rattle.diag_evidence.proofs.Found.{IsSome_of, some_of}
use Rattle.diag_evidence.proofs.Seeing.{g, row_free, row_under, standing, standing_on, foot_inside, pin_inside, part_unjoined}

-- what is joined to a wire stays so where crosspoints open of which none that isn't stuck has both ends joined to it
module _ (m : Shape) (f : Faults) (closed less : ℕ → Bool) (q : ℕ)
    (far : (y a b : ℕ) → closed y ≡ true → less y ≡ false → stuck_cross f y ≡ None → Ends (ends_of m y) a b → Joined (net_of m f closed) q a → Joined (net_of m f closed) q b → ⊥) where
  still : (y a b : ℕ) (o : Option Bool) (s : Bool) → stuck_cross f y ≡ o → less y ≡ s → unwrap_or o (closed y) ≡ true → Ends (ends_of m y) a b → Joined (net_of m f closed) q a → Joined (net_of m f closed) q b → unwrap_or o (less y) ≡ true
  still y a b (Some v) s e l on at j i = on
  still y a b None true e l on at j i = l
  still y a b None false e l on at j i = absurd (far y a b on l e at j i)

  pub stays_joined : {w : ℕ} → Joined (net_of m f closed) q w → Joined (net_of m f less) q w
  stays_joined here = here
  stays_joined (then j (bridged p is at)) = then (stays_joined j) (bridged p is at)
  stays_joined (then {b = b} {c = c} j (crossed y on at)) = then (stays_joined j) (crossed y (still y b c (stuck_cross f y) (less y) refl refl on at j (then j (crossed y on at))) at)

-- the drives of a look
none_low : (n j : ℕ) → get_or (none_driven n) j true ≡ true
none_low n j = by (dec_lt j n)
  where
    by : Dec (j < n) → get_or (none_driven n) j true ≡ true
    by (yes h) = get_or-replicate n j true true h
    by (no h) = get_or_past (none_driven n) j true (let e = length-replicate n true in omega (arith, h, e))

pub one_low : (n k : ℕ) → k < n → get_or (one_driven n k) k true ≡ false
one_low n k below = get_or-set_same (none_driven n) k false true (let e = length-replicate n true in omega (arith, below, e))

pub only_low : (n k j : ℕ) → get_or (one_driven n k) j true ≡ false → j ≡ k
only_low n k j low = by (ℕ_discrete j k)
  where
    by : Dec (j ≡ k) → j ≡ k
    by (yes e) = e
    by (no d) = absurd (false≢true (sym low ∙ get_or-set_other (none_driven n) k j false true d ∙ none_low n j))

-- of all others a test holds
pub all_pass : {A : Type 0} (p : A → Bool) (xs : List A) → list_all p xs ≡ true → (i : ℕ) (d : A) → i < length xs → p (get_or xs i d) ≡ true
all_pass p [] is i d below = absurd (omega (arith, below))
all_pass p (x ∷ xs) is zero d below = (and_parts (p x) (list_all p xs) is).0
all_pass p (x ∷ xs) is (suc i) d below = all_pass p xs (and_parts (p x) (list_all p xs) is).1 i d (omega (arith, below))

-- an element of a list of numbers made of another
pub record StandsAt {A : Type 0} (num : A → ℕ) (xs : List A) (x : ℕ) : Type 0 where
  pub place : ℕ
  pub below : place < length xs
  pub at : (d : A) → num (get_or xs place d) ≡ x

pub stands_at : {A : Type 0} (num : A → ℕ) (xs : List A) (x : ℕ) → among (map num xs) x ≡ true → StandsAt num xs x
stands_at num [] x is = absurd (false≢true is)
stands_at num (y ∷ ys) x is = by (or_cases (num y == x) (among (map num ys) x) is) (stands_at num ys x)
  where
    by : ((num y == x) ≡ true) ⊎ (among (map num ys) x ≡ true) → (among (map num ys) x ≡ true → StandsAt num ys x) → StandsAt num (y ∷ ys) x
    by (inl h) more = record { place = 0; below = omega arith; at = λ d. grind (arith, nat_tests, h) }
    by (inr h) more = let s = more h in let b = s.below in record { place = suc s.place; below = omega (arith, b); at = s.at }

-- a number of an element is among them
pub num_in : {A : Type 0} (num : A → ℕ) (xs : List A) (j : ℕ) (d : A) → j < length xs → among (map num xs) (num (get_or xs j d)) ≡ true
num_in num [] j d below = absurd (omega (arith, below))
num_in num (x ∷ xs) zero d below = or_left (num x == num x) (among (map num xs) (num x)) (grind (arith, nat_tests))
num_in num (x ∷ xs) (suc j) d below = or_right (num x == num (get_or xs j d)) (among (map num xs) (num (get_or xs j d))) (num_in num xs j d (omega (arith, below)))

-- in a list without doubles equal numbers are at one place
pub one_place : {A : Type 0} (num : A → ℕ) (xs : List A) → IsDistinct (λ a b. a == b) (map num xs) → (i j : ℕ) (d : A) → i < length xs → j < length xs → num (get_or xs i d) ≡ num (get_or xs j d) → i ≡ j
unfolding IsDistinct
one_place num [] once i j d hi hj e = absurd (omega (arith, hi))
one_place num (x ∷ xs) once zero zero d hi hj e = refl
one_place num (x ∷ xs) once zero (suc j) d hi hj e =
    let n : (num x == num (get_or xs j d)) ≡ false = of_each (λ y. (num x == y) ≡ false) (map num xs) once.0 (num (get_or xs j d)) (num_in num xs j d (omega (arith, hj))) in
    absurd (let b : ⊥ = grind (arith, nat_tests, n, e) in b)
one_place num (x ∷ xs) once (suc i) zero d hi hj e =
    let n : (num x == num (get_or xs i d)) ≡ false = of_each (λ y. (num x == y) ≡ false) (map num xs) once.0 (num (get_or xs i d)) (num_in num xs i d (omega (arith, hi))) in
    absurd (let b : ⊥ = grind (arith, nat_tests, n, e) in b)
one_place num (x ∷ xs) once (suc i) (suc j) d hi hj e = ap suc (one_place num xs once.1 i j d (omega (arith, hi)) (omega (arith, hj)) e)

-- the pin of a tree hangs
pub root_hangs : (trees : Trees) (w q : ℕ) → IsForest trees → HangsOn trees w q → HangsOn trees (pin_wire trees.shape q) q
root_hangs trees w q forest h = by refl h l.leads l.laid
  where
    l : IsLedOver trees w q
    l = forest.led w q h

    near : {r : ℕ × ℕ} {a b : ℕ} → Ends r a b → (P : ℕ → Type 0) → P r.0 → P r.1 → P a
    near (in_order s t) P p r = subst P s p
    near (turned s t) P p r = subst P t r

    by : {a e : ℕ} {xs ws : List ℕ} → a ≡ pin_wire trees.shape q → HangsOn trees e q → LeadsTo trees.shape a xs ws e → ((x : ℕ) → among xs x ≡ true → is_laid trees x ≡ true) → HangsOn trees (pin_wire trees.shape q) q
    by start own ends laid = subst (λ v. HangsOn trees v q) start own
    by start own (goes {x = x} {xs = xs} below at more) laid =
        let o = forest.crosses x (laid x (or_left (x == x) (among xs x) (grind (arith, nat_tests)))) in
        let first : HangsOn trees (pin_wire trees.shape q) o.pin = subst (λ v. HangsOn trees v o.pin) start (near at (λ v. HangsOn trees v o.pin) o.tap o.line) in
        subst (HangsOn trees (pin_wire trees.shape q)) (forest.pins q o.pin l.below first) first

-- one of two ends is one of the two others
pub end_is : {p : ℕ × ℕ} {a b w u : ℕ} → Ends p a b → Ends p w u → (u ≡ a) ⊎ (u ≡ b)
end_is (in_order s t) (in_order v x) = inr (sym x ∙ t)
end_is (in_order s t) (turned v x) = inl (sym v ∙ s)
end_is (turned s t) (in_order v x) = inl (sym x ∙ t)
end_is (turned s t) (turned v x) = inr (sym v ∙ s)

-- whether a wire hangs on this pin, and on another
abbrev hangs_here : Trees → ℕ → ℕ → Bool
hangs_here trees q w = option_map_or (λ p. p == q) (pin_of trees w) false

abbrev hangs_elsewhere : Trees → ℕ → ℕ → Bool
hangs_elsewhere trees q w = option_map_or (λ p. not (p == q)) (pin_of trees w) false

not_true : (b : Bool) → not b ≡ true → b ≡ false
not_true true e = absurd (false≢true e)
not_true false e = refl

here_so : (trees : Trees) (q w : ℕ) → hangs_here trees q w ≡ true → HangsOn trees w q
here_so trees q w is = by (pin_of trees w) refl is
  where
    by : (o : Option ℕ) → pin_of trees w ≡ o → option_map_or (λ p. p == q) o false ≡ true → HangsOn trees w q
    by None e no_ = absurd (false≢true no_)
    by (Some p) e h = e ∙ ap (λ (v : ℕ). Some v) (let s : p ≡ q = grind (arith, nat_tests, h) in s)

so_here : (trees : Trees) (q w : ℕ) → HangsOn trees w q → hangs_here trees q w ≡ true
so_here trees q w h = ap (λ o. option_map_or (λ p. p == q) o false) h ∙ (let s : (q == q) ≡ true = grind (arith, nat_tests) in s)

elsewhere_so : (trees : Trees) (q w : ℕ) → hangs_elsewhere trees q w ≡ true → (p : ℕ) × (HangsOn trees w p) × (p ≢ q)
elsewhere_so trees q w is = by (pin_of trees w) refl is
  where
    by : (o : Option ℕ) → pin_of trees w ≡ o → option_map_or (λ p. not (p == q)) o false ≡ true → (p : ℕ) × (HangsOn trees w p) × (p ≢ q)
    by None e no_ = absurd (false≢true no_)
    by (Some p) e h = (p, e, (λ same. let b : ⊥ = grind (arith, nat_tests, h, same) in b))

so_elsewhere : (trees : Trees) (q w p : ℕ) → HangsOn trees w p → p ≢ q → hangs_elsewhere trees q w ≡ true
so_elsewhere trees q w p h n = ap (λ o. option_map_or (λ p. not (p == q)) o false) h ∙ (let s : not (p == q) ≡ true = grind (arith, nat_tests, n) in s)

-- both ends of a crosspoint are in a group
ends_within : {m : Shape} {x a b : ℕ} (group : ℕ → Bool) → group a ≡ true → group b ≡ true → Ends (ends_of m x) a b → IsWithin m group x
ends_within group p r (in_order s t) = record { tap = ap group s ∙ p; line = ap group t ∙ r }
ends_within group p r (turned s t) = record { tap = ap group s ∙ r; line = ap group t ∙ p }

-- A look at a forest and feet, of which one is asked.
module _ {told : Option Faults} (trees : Trees) (feet : List Foot) (rows : List Pins) (forest : IsForest trees) (each : All (IsFoot trees) feet) (once : IsDistinct (λ a b. a == b) (map (λ (foot : Foot). foot.0.0) feet))
    (look : IsLook told trees.shape (closes trees feet) rows) (f : Faults) (is : told ≡ Some f) (k : Kept) (knows : KnowsForest k trees) (holds : HoldsFor k f)
    (i : ℕ) (d : Foot) (below : i < length feet) (part : others_part trees feet rows (get_or feet i d) ≡ true) where
  abbrev pub foot : Foot
  foot = get_or feet i d

  abbrev pub w : ℕ
  w = foot.0.0

  abbrev pub q : ℕ
  q = pin_at trees foot

  abbrev G : Configuration
  G = look.config

  abbrev m : Shape
  m = G.shape

  abbrev closed : ℕ → Bool
  closed = is_closed G

  abbrev less : ℕ → Bool
  less y = is_laid trees y || (foot.1.0 == y)

  to : trees.shape ≡ m
  to = sym look.shape

  at : IsFoot trees foot
  at = each i d below

  laid_free : (x : ℕ) → is_laid trees x ≡ true → stuck_cross f x ≡ None
  laid_free x on = holds.crosses x (knows.keeps.crosses x on)

  laid_shut : (x : ℕ) → is_laid trees x ≡ true → closes trees feet x ≡ true
  laid_shut x on = or_left (is_laid trees x) (among (feet_crosses feet) x) on

  stands : (v p : ℕ) → HangsOn trees v p → Joined (net_of m f closed) (pin_wire m p) v
  stands = standing look f is trees refl forest laid_free laid_shut

  inside : (v p : ℕ) → HangsOn trees v p → p < pins_of m
  inside v p h = subst (λ n. p < pins_of n) to (pin_inside look f is trees refl forest laid_free laid_shut v p h)

  q_inside : q < pins_of m
  q_inside = inside _ q at.hangs

  -- a crosspoint of another foot has an end that isn't joined to this pin
  far : (y a b : ℕ) → closed y ≡ true → less y ≡ false → stuck_cross f y ≡ None → Ends (ends_of m y) a b → Joined (net_of m f closed) (pin_wire m q) a → Joined (net_of m f closed) (pin_wire m q) b → ⊥
  far y a b on off open_ ends_ j l = by_part (or_cases (is_laid trees y) (among (feet_crosses feet) y) (sym (look.closed y) ∙ on))
    where
      unlaid : is_laid trees y ≡ false
      unlaid = first (is_laid trees y) (foot.1.0 == y) off
        where
          first : (a b : Bool) → (a || b) ≡ false → a ≡ false
          first true b e = absurd (false≢true (sym e))
          first false b e = refl

      other_cross : (foot.1.0 == y) ≡ false
      other_cross = second (is_laid trees y) (foot.1.0 == y) off
        where
          second : (a b : Bool) → (a || b) ≡ false → b ≡ false
          second true b e = absurd (false≢true (sym e))
          second false b e = e

      by_foot : StandsAt (λ (foot : Foot). foot.1.0) feet y → ⊥
      by_foot s = by (ℕ_discrete other.0.0 w)
        where
          other : Foot
          other = get_or feet s.place d

          ends_too : Ends (ends_of m y) other.0.0 (other_end trees.shape other.1.0 other.0.0)
          ends_too = subst (λ n. Ends (ends_of n y) other.0.0 (other_end trees.shape other.1.0 other.0.0)) to
              (subst (λ x. Ends (ends_of trees.shape x) other.0.0 (other_end trees.shape other.1.0 other.0.0)) (s.at d) (each s.place d s.below).ends)

          p : ℕ
          p = pin_at trees other

          by : Dec (other.0.0 ≡ w) → ⊥
          by (yes e) =
              let place = one_place (λ (foot : Foot). foot.0.0) feet once s.place i d s.below below e in
              let same : foot.1.0 ≡ y = ap (λ j. (get_or feet j d).1.0) (sym place) ∙ s.at d in
              let b : ⊥ = grind (arith, nat_tests, other_cross, same) in b
          by (no n) = by_end (end_is ends_ ends_too)
            where
              parted : parts rows p q ≡ true
              parted = pick (other.0.0 == w) (parts rows p q) (all_pass (λ other. (other.0.0 == w) || parts rows (pin_at trees other) q) feet part s.place d s.below) (let t : (other.0.0 == w) ≡ false = grind (arith, nat_tests, n) in t)
                where
                  pick : (a b : Bool) → (a || b) ≡ true → a ≡ false → b ≡ true
                  pick true b e f = absurd (false≢true (sym f))
                  pick false b e f = e

              apart : ¬ Joined (net_of m f closed) (pin_wire m p) (pin_wire m q)
              apart = part_unjoined look f is p q (subst (λ n. p < pins_of n) look.shape (inside _ p (each s.place d s.below).hangs)) (subst (λ n. q < pins_of n) look.shape q_inside) parted

              by_end : (other_end trees.shape other.1.0 other.0.0 ≡ a) ⊎ (other_end trees.shape other.1.0 other.0.0 ≡ b) → ⊥
              by_end (inl e) = apart (Joined-trans (stands _ p (each s.place d s.below).hangs) (Joined-sym (subst (Joined (net_of m f closed) (pin_wire m q)) (sym e) j)))
              by_end (inr e) = apart (Joined-trans (stands _ p (each s.place d s.below).hangs) (Joined-sym (subst (Joined (net_of m f closed) (pin_wire m q)) (sym e) l)))

      by_part : (is_laid trees y ≡ true) ⊎ (among (feet_crosses feet) y ≡ true) → ⊥
      by_part (inl h) = false≢true (sym unlaid ∙ h)
      by_part (inr h) = by_foot (stands_at (λ (foot : Foot). foot.1.0) feet y h)

  stays : {v : ℕ} → Joined (net_of m f closed) (pin_wire m q) v → Joined (net_of m f less) (pin_wire m q) v
  stays = stays_joined m f closed less (pin_wire m q) far

  root : HangsOn trees (pin_wire m q) q
  root = subst (λ n. HangsOn trees (pin_wire n q) q) to (root_hangs trees _ q forest at.hangs)

  -- in each reading the pin is read by what it is joined to with the other feet open
  module _ (left right : ℕ → Bool) (groups : AreGroups m f less left right) (own : left (pin_wire m q) ≡ true) where
    unstuck : (v : ℕ) → Joined (net_of m f closed) (pin_wire m q) v → stuck_wire f v ≡ None
    unstuck v j = left_unstuck groups own (stays j)

    pub own_low : read_under rows q q ≡ false
    own_low = by (row_under look f is q (subst (λ n. q < pins_of n) look.shape q_inside)).cycles
      where
        by : {x : Outputs} → Cycles (circuit_of f G) (at_load (circuit_of f G)) (one_driven (pins_of trees.shape) q ∷ []) (get_or rows (q + 1) [] ∷ []) x → read_under rows q q ≡ false
        by (cycle s none) = reads_low f G look.off (quiet_load f G look.off) s q q q_inside q_inside unstuck (one_low (pins_of trees.shape) q (subst (λ n. q < pins_of n) look.shape q_inside)) here

    pub free_high : read_free rows q ≡ true
    free_high = by (row_free look f is).cycles
      where
        by : {x : Outputs} → Cycles (circuit_of f G) (at_load (circuit_of f G)) (none_driven (pins_of trees.shape) ∷ []) (get_or rows 0 [] ∷ []) x → read_free rows q ≡ true
        by (cycle s none) = reads_high f G look.off (quiet_load f G look.off) s q q_inside unstuck (λ j low. absurd (false≢true (sym low ∙ none_low (pins_of trees.shape) j)))

    pub other_high : (j : ℕ) → j < pins_of m → right (pin_wire m j) ≡ true → read_under rows j q ≡ true
    other_high j less_ on = by (row_under look f is j (subst (λ n. j < pins_of n) look.shape less_)).cycles
      where
        by : {x : Outputs} → Cycles (circuit_of f G) (at_load (circuit_of f G)) (one_driven (pins_of trees.shape) j ∷ []) (get_or rows (j + 1) [] ∷ []) x → read_under rows j q ≡ true
        by (cycle s none) = reads_high f G look.off (quiet_load f G look.off) s q q_inside unstuck
            (λ i low joined. left_apart groups own on (stays (subst (λ i. Joined (net_of m f closed) (pin_wire m q) (pin_wire m i)) (only_low (pins_of trees.shape) j i low) joined)))

  -- its tree and its wire, and all other trees
  module _ (clear : IsClear m f w) where
    hung_clear : (v p : ℕ) → HangsOn trees v p → IsClear m f v
    hung_clear v p h = subst (λ n. IsClear n f v) (sym knows.keeps.shape ∙ to) (holds.wires v (knows.wires v p h))

    -- a wire that isn't clear shows by a pin that reads the same driven and not
    pub not_alike : reads_alike rows q ≡ true → ⊥
    not_alike alike = false≢true (sym (ap not (ap (λ t. differ t (read_free rows q)) (own_low left (λ _. false) groups own) ∙ ap (differ false) (free_high left (λ _. false) groups own))) ∙ alike)
      where
        left : ℕ → Bool
        left v = is_hung trees v || (w == v)

        own : left (pin_wire m q) ≡ true
        own = or_left (is_hung trees (pin_wire m q)) (w == pin_wire m q) (ap is_some root)

        hung_in : (v p : ℕ) → HangsOn trees v p → left v ≡ true
        hung_in v p h = or_left (is_hung trees v) (w == v) (ap is_some h)

        w_in : left w ≡ true
        w_in = or_right (is_hung trees w) (w == w) (grind (arith, nat_tests))

        within : (x : ℕ) → less x ≡ true → IsWithin trees.shape left x ⊎ IsWithin trees.shape (λ _. false) x
        within x on = by (or_cases (is_laid trees x) (foot.1.0 == x) on)
          where
            by : (is_laid trees x ≡ true) ⊎ ((foot.1.0 == x) ≡ true) → IsWithin trees.shape left x ⊎ IsWithin trees.shape (λ _. false) x
            by (inl h) = let o = forest.crosses x h in inl (record { tap = hung_in _ o.pin o.tap; line = hung_in _ o.pin o.line })
            by (inr h) = inl (subst (IsWithin trees.shape left) (let e : foot.1.0 ≡ x = grind (arith, nat_tests, h) in e) (ends_within left w_in (hung_in _ q at.hangs) at.ends))

        clear_in : (v : ℕ) → left v ≡ true → IsClear m f v
        clear_in v on = by (or_cases (is_hung trees v) (w == v) on)
          where
            by : (is_hung trees v ≡ true) ⊎ ((w == v) ≡ true) → IsClear m f v
            by (inl h) = let p = hung_by (pin_of trees v) h in hung_clear v p.0 p.1
            by (inr h) = subst (IsClear m f) (let e : w ≡ v = grind (arith, nat_tests, h) in e) clear

        groups : AreGroups m f less left (λ _. false)
        groups = record {
          within = λ x on. subst (λ n. IsWithin n left x ⊎ IsWithin n (λ _. false) x) to (within x on);
          left_clear = clear_in;
          right_clear = λ v no_. absurd (false≢true no_);
          apart = λ v u on no_. absurd (false≢true no_);
        }

    -- and one that is shorted to none that hangs shows by nothing
    pub not_odd : ((u : ℕ) → is_hung trees u ≡ true → ¬ Shorted m f w u) → reads_oddly trees rows q ≡ true → ⊥
    not_odd alone odd = by (or_cases (read_under rows q q) (not (read_free rows q) || falls_with_others trees rows q) odd)
      where
        left : ℕ → Bool
        left v = hangs_here trees q v || (w == v)

        right : ℕ → Bool
        right v = hangs_elsewhere trees q v

        own : left (pin_wire m q) ≡ true
        own = or_left (hangs_here trees q (pin_wire m q)) (w == pin_wire m q) (so_here trees q (pin_wire m q) root)

        here_in : (v : ℕ) → HangsOn trees v q → left v ≡ true
        here_in v h = or_left (hangs_here trees q v) (w == v) (so_here trees q v h)

        w_in : left w ≡ true
        w_in = or_right (hangs_here trees q w) (w == w) (grind (arith, nat_tests))

        within : (x : ℕ) → less x ≡ true → IsWithin trees.shape left x ⊎ IsWithin trees.shape right x
        within x on = by (or_cases (is_laid trees x) (foot.1.0 == x) on)
          where
            of_tree : (o : IsOfTree trees x) → Dec (o.pin ≡ q) → IsWithin trees.shape left x ⊎ IsWithin trees.shape right x
            of_tree o (yes e) = inl (record { tap = here_in _ (o.tap ∙ ap (λ (v : ℕ). Some v) e); line = here_in _ (o.line ∙ ap (λ (v : ℕ). Some v) e) })
            of_tree o (no n) = inr (record { tap = so_elsewhere trees q _ o.pin o.tap n; line = so_elsewhere trees q _ o.pin o.line n })

            by : (is_laid trees x ≡ true) ⊎ ((foot.1.0 == x) ≡ true) → IsWithin trees.shape left x ⊎ IsWithin trees.shape right x
            by (inl h) = let o = forest.crosses x h in of_tree o (ℕ_discrete o.pin q)
            by (inr h) = inl (subst (IsWithin trees.shape left) (let e : foot.1.0 ≡ x = grind (arith, nat_tests, h) in e) (ends_within left w_in (here_in _ at.hangs) at.ends))

        clear_in : (v : ℕ) → left v ≡ true → IsClear m f v
        clear_in v on = by (or_cases (hangs_here trees q v) (w == v) on)
          where
            by : (hangs_here trees q v ≡ true) ⊎ ((w == v) ≡ true) → IsClear m f v
            by (inl h) = hung_clear v q (here_so trees q v h)
            by (inr h) = subst (IsClear m f) (let e : w ≡ v = grind (arith, nat_tests, h) in e) clear

        apart : (v u : ℕ) → left v ≡ true → right u ≡ true → ¬ Shorted m f v u
        apart v u on other = by (or_cases (hangs_here trees q v) (w == v) on) (elsewhere_so trees q u other)
          where
            by : (hangs_here trees q v ≡ true) ⊎ ((w == v) ≡ true) → ((p : ℕ) × (HangsOn trees u p) × (p ≢ q)) → ¬ Shorted m f v u
            by (inl h) r = subst (λ n. ¬ Shorted n f v u) (sym knows.keeps.shape ∙ to)
                (holds.pairs v u (knows.pairs v u q r.0 (here_so trees q v h) r.1 (λ e. r.2 (let s : Some r.0 ≡ Some q = sym r.1 ∙ ap (pin_of trees) (sym e) ∙ here_so trees q v h in cc))))
            by (inr h) r = subst (λ x. ¬ Shorted m f x u) (let e : w ≡ v = grind (arith, nat_tests, h) in e) (alone u (ap is_some r.1))

        groups : AreGroups m f less left right
        groups = record {
          within = λ x on. subst (λ n. IsWithin n left x ⊎ IsWithin n right x) to (within x on);
          left_clear = clear_in;
          right_clear = λ v on. let r = elsewhere_so trees q v on in hung_clear v r.0 r.1;
          apart = apart;
        }

        falls : IsSome_of (λ k. not (k == q) && (is_hung trees (pin_wire trees.shape k) && not (read_under rows k q))) (range_with_len 0 (pins_of trees.shape)) → ⊥
        falls s = by_pin (hung_by (pin_of trees (pin_wire trees.shape j)) h.1.0)
          where
            j : ℕ
            j = get_or (range_with_len 0 (pins_of trees.shape)) s.place 0

            h : ((not (j == q)) ≡ true) × ((is_hung trees (pin_wire trees.shape j) ≡ true) × (not (read_under rows j q) ≡ true))
            h = let a = and_parts _ _ (s.holds 0) in (a.0, and_parts _ _ a.1)

            small : j < pins_of trees.shape
            small = let b = s.below in let l = length-range_with_len 0 (pins_of trees.shape) in
                let e : j ≡ 0 + s.place = get_or-range_with_len 0 (pins_of trees.shape) s.place 0 (omega (arith, b, l)) in omega (arith, b, l, e)

            by_pin : (p : ℕ) × HangsOn trees (pin_wire trees.shape j) p → ⊥
            by_pin p =
                let itself : p.0 ≡ j = forest.pins j p.0 small p.1 in
                let away : p.0 ≢ q = (λ e. let b : ⊥ = (let n = h.0 in grind (arith, nat_tests, n, e, itself)) in b) in
                false≢true (sym (not_true (read_under rows j q) h.1.1)
                ∙ other_high left right groups own j (subst (λ n. j < pins_of n) to small) (subst (λ n. right (pin_wire n j) ≡ true) to (so_elsewhere trees q (pin_wire trees.shape j) p.0 p.1 away)))

        by : (read_under rows q q ≡ true) ⊎ ((not (read_free rows q) || falls_with_others trees rows q) ≡ true) → ⊥
        by (inl h) = false≢true (sym (own_low left right groups own) ∙ h)
        by (inr h) = by_rest (or_cases (not (read_free rows q)) (falls_with_others trees rows q) h)
          where
            by_rest : (not (read_free rows q) ≡ true) ⊎ (falls_with_others trees rows q ≡ true) → ⊥
            by_rest (inl e) = false≢true (sym (not_true (read_free rows q) e) ∙ free_high left right groups own)
            by_rest (inr e) = falls (some_of _ (range_with_len 0 (pins_of trees.shape)) e)
