-- Of a whole's crosspoints those of one network.
use Rattle.std.proofs.Common.{◌≡◌, ◌⊎◌, ℕ, zero, suc, ◌+◌, ◌-◌, ◌<◌, ◌≤◌, Bool, true, false, not, cond, ◌||◌, ◌&&◌, None, Option, List, [], ◌∷◌, ◌++◌, length, get_or, refl, sym, ap, ◌∙◌, subst, inl, inr, arith, ◌==◌, ◌↔◌, if◌then◌else◌, count_by, IsSome}
use Rattle.place_pair.proofs.Vocabulary.{Contains, list_any, false≢true, Contains-append_left, Contains-push, Contains-push_cases, Shape}
use Rattle.place_pair.proofs.Vocabulary.{Cross, ends_of, Setting, Network, Closes, SwitchesOn, none_at, Site, IsHeldBy, IsHeldAmong}
use Rattle.place_pair.proofs.Vocabulary.{IsShare}
use Rattle.std.specs.{Ordering.nat_cmp, Ordering.eq_by_cmp, Cmp.nat_cmp_total, Cmp.unsigned_tied}
use Rattle.std.specs.FinSet as set_
use Rattle.std.specs.FinSet.{contains-empty, contains-items, contains-remove, len-remove, same_set, empty_of_len, nat_cmp-IsAntisymmetric}
use Rattle.std.proofs.lemmas.Bool.Decides.{nat_tests}
use Rattle.machine_shape.specs.declared.Table.{Table}
use Rattle.machine_config.specs.Configuration.{Configuration, is_closed, setting_of, cleared, with_closed, with_ticks}
use Rattle.machine_image.proofs.Keyed.{listed, of_list}
use Rattle.place_route.proofs.Joining.{closes_none, closes_then, closes_same, closes_one}

-- ---- a set is no larger than one that has all of it

equal : (x : ℕ) → eq_by_cmp nat_cmp x x ≡ true
equal x = unsigned_tied x x ∙ (let e : (x == x) ≡ true = grind (arith, nat_tests) in e)

some_more : (n : ℕ) (s t : set_.FinSet nat_cmp) → set_.len s ≡ n → ((x : ℕ) → set_.contains s x ≡ true → set_.contains t x ≡ true) → n ≤ set_.len t
some_more zero s t e h = omega arith
some_more (suc n) s t e h = by (set_.items s) refl (λ y a b f g. some_more n a b f g)
  where
    nothing : set_.items s ≡ [] → set_.len s ≡ 0
    nothing none = ap set_.len (same_set nat_cmp_total nat_cmp-IsAntisymmetric s set_.empty (λ q. contains-items s q ∙ ap (list_any (eq_by_cmp nat_cmp q)) none ∙ sym (contains-empty nat_cmp q))) ∙ set_.len-empty nat_cmp

    one_less : (u : set_.FinSet nat_cmp) (y : ℕ) → set_.contains u y ≡ true → set_.len u ≡ set_.len (set_.remove u y) + 1
    one_less u y is = less (set_.len u) refl (len-remove nat_cmp_total u y ∙ ap (λ b. cond b (set_.len u - 1) (set_.len u)) is)
      where
        less : (k : ℕ) → set_.len u ≡ k → set_.len (set_.remove u y) ≡ set_.len u - 1 → set_.len u ≡ set_.len (set_.remove u y) + 1
        less zero none f = absurd (false≢true (sym (contains-empty nat_cmp y) ∙ ap (λ v. set_.contains v y) (sym (empty_of_len u none)) ∙ is))
        less (suc k) some f = omega (arith, some, f)

    without : (y : ℕ) (x : ℕ) → set_.contains (set_.remove s y) x ≡ true → set_.contains (set_.remove t y) x ≡ true
    without y x is = contains-remove nat_cmp_total t y x ∙ on (eq_by_cmp nat_cmp x y) (set_.contains s x) (set_.contains t x) (h x) (sym (contains-remove nat_cmp_total s y x) ∙ is)
      where
        on : (e a b : Bool) → (a ≡ true → b ≡ true) → (not e && a) ≡ true → (not e && b) ≡ true
        on true a b to is = absurd (false≢true is)
        on false a b to is = to is

    by : (xs : List ℕ) → set_.items s ≡ xs → ((y : ℕ) (a b : set_.FinSet nat_cmp) → set_.len a ≡ n → ((x : ℕ) → set_.contains a x ≡ true → set_.contains b x ≡ true) → n ≤ set_.len b) → suc n ≤ set_.len t
    by [] none more = absurd (let z = nothing none in let no : ⊥ = omega (arith, z, e) in no)
    by (y ∷ ys) some more =
        let has : set_.contains s y ≡ true = contains-items s y ∙ ap (list_any (eq_by_cmp nat_cmp y)) some ∙ ap (λ b. b || list_any (eq_by_cmp nat_cmp y) ys) (equal y) in
        let p = one_less s y has in
        let q = one_less t y (h y has) in
        let l = more y (set_.remove s y) (set_.remove t y) (omega (arith, p, e)) (without y) in
        omega (arith, l, q)

pub no_more : (s t : set_.FinSet nat_cmp) → ((x : ℕ) → set_.contains s x ≡ true → set_.contains t x ≡ true) → set_.len s ≤ set_.len t
no_more s t h = some_more (set_.len s) s t refl h

-- ---- a list in which each number of a set stands once

module _ (closed : List Cross) (f : ℕ → Bool) (counts : (q : ℕ) → count_by (λ c. c.0 == q) closed ≡ (if f q then 1 else 0)) where
  pub to_list : (q : ℕ) → f q ≡ true → Contains closed (record { 0 = q })
  to_list q e = let r = listed (λ (c : Cross). c.0) closed f counts q (record { 0 = q }) e in (r.0, r.1, λ i. record { 0 = r.2 i })

  pub from_list : (k : ℕ) (d : Cross) → k < length closed → f (get_or closed k d).0 ≡ true
  from_list k d l = of_list (λ (c : Cross). c.0) closed f counts k d l

-- ---- crosspoints one after another

module _ (m : Shape) (s : Site) (n : Network) (owners : List (Option ℕ)) where
  pub held_none : (g : Configuration) → Closes (IsHeldAmong m s n owners []) 0 g g
  held_none g = closes_none (IsHeldAmong m s n owners []) 0 g (λ x h. never h.0)
    where
      never : {c : Cross} → Contains [] c → ⊥
      never has = absurd (let l = has.1 in let no : ⊥ = omega (arith, l) in no)

  pub held_more : (cs : List Cross) (c : Cross) (i : ℕ) (held : Bool) (old mid new : Configuration) → (held ≡ true) ↔ IsHeldBy s n owners (ends_of m c.0).0 → new ≡ (if held then with_closed mid c.0 else mid) →
      Closes (IsHeldAmong m s n owners cs) i old mid → Closes (IsHeldAmong m s n owners (cs ++ c ∷ [])) (i + 1) old new
  held_more cs c i true old mid new is e p = closes_then (IsHeldAmong m s n owners cs) (λ x. x ≡ c.0) (IsHeldAmong m s n owners (cs ++ c ∷ [])) i 1 (i + 1) old mid new p
      (closes_one (λ x. x ≡ c.0) c.0 mid new e refl (λ y j. j)) refl
      (λ x a. (Contains-append_left cs (c ∷ []) (record { 0 = x }) a.0, a.1))
      (λ x b. (subst (Contains (cs ++ c ∷ [])) (λ j. record { 0 = sym b j }) (Contains-push cs c), subst (λ z. IsHeldBy s n owners (ends_of m z).0) (sym b) (is.0 refl)))
      (λ x h. by x h.1 (Contains-push_cases cs c (record { 0 = x }) h.0))
    where
      by : (x : ℕ) → IsHeldBy s n owners (ends_of m x).0 → Contains cs (record { 0 = x }) ⊎ (c ≡ record { 0 = x }) → IsHeldAmong m s n owners cs x ⊎ (x ≡ c.0)
      by x h (inl has) = inl (has, h)
      by x h (inr same) = inr (sym (ap (λ (z : Cross). z.0) same))
  held_more cs c i false old mid new is e p = subst (Closes (IsHeldAmong m s n owners (cs ++ c ∷ [])) (i + 1) old) (sym e)
      (closes_same (IsHeldAmong m s n owners cs) (IsHeldAmong m s n owners (cs ++ c ∷ [])) i (i + 1) old mid p (omega arith)
      (λ x a. (Contains-append_left cs (c ∷ []) (record { 0 = x }) a.0, a.1))
      (λ x h. by x h.1 (Contains-push_cases cs c (record { 0 = x }) h.0)))
    where
      by : (x : ℕ) → IsHeldBy s n owners (ends_of m x).0 → Contains cs (record { 0 = x }) ⊎ (c ≡ record { 0 = x }) → IsHeldAmong m s n owners cs x
      by x h (inl has) = (has, h)
      by x h (inr same) = absurd (false≢true (is.1 (subst (λ z. IsHeldBy s n owners (ends_of m z).0) (sym (ap (λ (z : Cross). z.0) same)) h)))

-- ---- what a tenant's configuration is made of

abbrev off : Option Setting
off = None

pub share_of : (s : Site) (n : Network) (owners : List (Option ℕ)) (seats : List Table) (closed : List Cross) (whole mid second : Configuration) → ((q : ℕ) → count_by (λ c. c.0 == q) closed ≡ (if is_closed whole q then 1 else 0)) →
    Closes (IsHeldAmong whole.shape s n owners closed) (length closed) (cleared whole.shape) mid → SwitchesOn seats n.tables (length seats) mid second → length seats ≡ length n.tables →
    IsShare s n owners seats whole (with_ticks second whole.ticks)
share_of s n owners seats closed whole mid second counts closes on sized = record {
  shape = ap (λ (g : Configuration). g.shape) on.rest ∙ ap (λ (g : Configuration). g.shape) closes.rest;
  ticks = refl;
  only = only;
  each = λ x is held. subst (λ z. set_.contains z x ≡ true) (sym same) (closes.each x (to_list closed (is_closed whole) counts x is, held));
  on = λ j l. on.on j (omega (arith, l, sized));
  others = λ t is. let r = others t is in (r.0, (let l = r.1 in omega (arith, l, sized)), r.2);
  few = no_more second.closed whole.closed (λ x is. (only x is).0);
}
  where
    same : second.closed ≡ mid.closed
    same = ap (λ (g : Configuration). g.closed) on.rest

    only : (x : ℕ) → is_closed second x ≡ true → (is_closed whole x ≡ true) × IsHeldBy s n owners (ends_of whole.shape x).0
    only x is = by (closes.only x (subst (λ z. set_.contains z x ≡ true) same is))
      where
        by : (is_closed (cleared whole.shape) x ≡ true) ⊎ IsHeldAmong whole.shape s n owners closed x → (is_closed whole x ≡ true) × IsHeldBy s n owners (ends_of whole.shape x).0
        by (inl h) = absurd (false≢true (sym (contains-empty nat_cmp x) ∙ h))
        by (inr h) = (subst (λ (c : Cross). is_closed whole c.0 ≡ true) h.0.2 (from_list closed (is_closed whole) counts h.0.0 (record { 0 = x }) h.0.1), h.1)

    others : (t : ℕ) → IsSome (setting_of second t) → (j : ℕ) × (j < length seats) × ((get_or seats j (record { 0 = 0 })).0 ≡ t)
    others t is = by (on.others t is)
      where
        nothing : setting_of mid t ≡ off
        nothing = ap (λ (g : Configuration). setting_of g t) closes.rest ∙ none_at off _ t

        never : {o : Option Setting} → o ≡ off → IsSome o → ⊥
        never e h = cc

        by : IsSome (setting_of mid t) ⊎ ((j : ℕ) × (j < length seats) × ((get_or seats j (record { 0 = 0 })).0 ≡ t)) → (j : ℕ) × (j < length seats) × ((get_or seats j (record { 0 = 0 })).0 ≡ t)
        by (inl h) = absurd (never nothing h)
        by (inr r) = r
