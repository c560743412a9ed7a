-- Numbers tell which covers are on a cycle.
use Rattle.std.proofs.Common.{◌≡◌, ℕ, ◌<◌, ◌≤◌, List, Option, Some, length, refl, sym, ap, ◌∙◌, inl, inr, arith}
use Rattle.design_netlist.proofs.Vocabulary.{cases_lt, length-map, get_or-map, Cover, State, New, Done}
use Rattle.design_netlist.specs.Vocabulary.{cover_at, Reads, Reaches, here, onward, IsOnCycle, driver_at, AreDrivers, number_at, IsOrder, state_at, search_number, AreNumbered, IsListed, AreGroups, numbers_of}
use Rattle.design_netlist.proofs.StepLemmas.{reads_driver, read_at, driver_of}

module _ (covers : List Cover) (states : List State) (are : AreNumbered covers states) where
  -- numbers do not rise along a walk
  falls : {u v : ℕ} (k l : ℕ) → state_at states u ≡ Done k → state_at states v ≡ Done l → Reaches covers u v → l ≤ k
  falls k l e f here = let same : Done k ≡ Done l = sym e ∙ f in let n : k ≡ l = cc in omega arith
  falls {u} {v} k l e f (onward {j = j} r w) =
      let d = are.closed u j k e r in
      let h : l ≤ d.0 = falls d.0 l d.1 f w in
      omega (arith, d.2)

  -- a cover that reads one of its own number
  pub same_number : (u v : ℕ) → Reads covers u v → search_number (state_at states v) ≡ search_number (state_at states u) → IsOnCycle covers u
  same_number u v r e =
      let a = are.each u r.reader in
      let b = are.each v r.driver in
      let n : b.0 ≡ a.0 = sym (ap (λ x. search_number x) b.1) ∙ e ∙ ap (λ x. search_number x) a.1 in
      (v, r, are.together v u a.0 (b.1 ∙ ap (λ x. Done x) n) a.1)

  pub on_cycle_reads : (u : ℕ) → IsOnCycle covers u → (v : ℕ) × Reads covers u v × (search_number (state_at states v) ≡ search_number (state_at states u))
  on_cycle_reads u c =
      let a = are.each u c.1.reader in
      let d = are.closed u c.0 a.0 a.1 c.1 in
      let up : a.0 ≤ d.0 = falls d.0 a.0 d.1 a.1 c.2 in
      let n : d.0 ≡ a.0 = omega (arith, d.2) in
      (c.0, c.1, ap (λ x. search_number x) d.1 ∙ n ∙ sym (ap (λ x. search_number x) a.1))

  module _ (drivers : List (Option ℕ)) (drive : AreDrivers covers drivers) where
    -- none of the first m inputs is driven by a cover of the same number
    pub none_of_all : (u m : ℕ) → length (cover_at covers u).ins ≤ m → ((k d : ℕ) → k < m → driver_at drivers (number_at (cover_at covers u).ins k) ≡ Some d → search_number (state_at states d) ≡ search_number (state_at states u) → ⊥) → IsOnCycle covers u → ⊥
    none_of_all u m le none c =
        let r = on_cycle_reads u c in
        let a = read_at covers drivers drive u r.0 r.1 in
        none a.0 r.0 (omega (arith, a.1)) a.2 r.2

    pub one_of_all : (u k d : ℕ) → u < length covers → k < length (cover_at covers u).ins → driver_at drivers (number_at (cover_at covers u).ins k) ≡ Some d → search_number (state_at states d) ≡ search_number (state_at states u) → IsOnCycle covers u
    one_of_all u k d lu lk e n = same_number u d (reads_driver covers drivers drive u k d lu lk e) n

-- without a cycle the list is an order
module _ (covers : List Cover) (states : List State) (are : AreNumbered covers states) (drivers : List (Option ℕ)) (drive : AreDrivers covers drivers) (acyclic : (i : ℕ) → i < length covers → IsOnCycle covers i → ⊥) where
  one_number : (u v k : ℕ) → state_at states u ≡ Done k → state_at states v ≡ Done k → Reaches covers u v → u ≡ v
  one_number u v k e f here = refl
  one_number u v k e f (onward {j = j} r w) =
      absurd (let d = are.closed u j k e r in
      let up : k ≤ d.0 = falls covers states are d.0 k d.1 f w in
      let n : d.0 ≡ k = omega (arith, d.2) in
      acyclic u r.reader (same_number covers states are u j r (ap (λ x. search_number x) d.1 ∙ n ∙ sym (ap (λ x. search_number x) e))))

  at_number : (order : List ℕ) → IsListed covers states order → (u k : ℕ) → state_at states u ≡ Done k → number_at order k ≡ u
  at_number order li u k e = let m = li.first u k e in one_number (number_at order k) u k m.1 e (are.together (number_at order k) u k m.1 e)

  pub is_order : (order : List ℕ) → IsListed covers states order → IsOrder covers order
  is_order order li = record {
    within = li.within;
    all = λ i lt. (let a = are.each i lt in let m = li.first i a.0 a.1 in (a.0, m.0, at_number order li i a.0 a.1));
    once = λ j k lt lk e. li.apart j k lt lk (same_out (number_at order j) (number_at order k) (li.within j (omega arith)) (li.within k lk) e);
    earlier = λ k v lk r. (let m = li.numbered k lk in
        let d = are.closed (number_at order k) v m.0 m.1 r in
        let less : d.0 < m.0 = below (number_at order k) v m.0 d.0 m.1 d.1 d.2 r in
        (d.0, omega (arith, m.2), at_number order li v d.0 d.1));
  }
    where
      same_out : (a b : ℕ) → a < length covers → b < length covers → (cover_at covers a).out ≡ (cover_at covers b).out → a ≡ b
      same_out a b la lb e = let f : Some a ≡ Some b = sym (driver_of covers drivers drive a la) ∙ ap (λ x. driver_at drivers x) e ∙ driver_of covers drivers drive b lb in cc

      below : (u v m d : ℕ) → state_at states u ≡ Done m → state_at states v ≡ Done d → d ≤ m → Reads covers u v → d < m
      below u v m d e f le r = elim (cases_lt d m) [ inl l ↦ l | inr l ↦ absurd (let n : d ≡ m = omega arith in acyclic u r.reader (same_number covers states are u v r (ap (λ x. search_number x) f ∙ n ∙ sym (ap (λ x. search_number x) e)))) ]

-- numbers tell which covers reach one another
pub are_groups : (covers : List Cover) (states : List State) → AreNumbered covers states → AreGroups covers (numbers_of states)
are_groups covers states are = record {
  len = length-map states search_number ∙ are.len;
  same = λ u v lu lv. (
    λ e. (
        let a = are.each u lu in
        let b = are.each v lv in
        let n : a.0 ≡ b.0 = sym (ap (λ x. search_number x) a.1) ∙ sym (at u lu) ∙ e ∙ at v lv ∙ ap (λ x. search_number x) b.1 in
        (are.together u v b.0 (a.1 ∙ ap (λ x. Done x) n) b.1, are.together v u b.0 b.1 (a.1 ∙ ap (λ x. Done x) n))),
    λ r. (
        let a = are.each u lu in
        let b = are.each v lv in
        let down : b.0 ≤ a.0 = falls covers states are a.0 b.0 a.1 b.1 r.0 in
        let up : a.0 ≤ b.0 = falls covers states are b.0 a.0 b.1 a.1 r.1 in
        let n : a.0 ≡ b.0 = omega arith in
        at u lu ∙ ap (λ x. search_number x) a.1 ∙ n ∙ sym (ap (λ x. search_number x) b.1) ∙ sym (at v lv)),
  );
}
  where
    at : (u : ℕ) → u < length covers → number_at (numbers_of states) u ≡ search_number (state_at states u)
    at u lu = get_or-map search_number states u New 0 (omega (arith, are.len))
