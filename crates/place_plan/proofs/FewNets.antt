-- Where each node has lines and ports for as many nets as a network has, its tables are no more than may be on.
use Rattle.std.proofs.Common.{◌≡◌, ◌≢◌, ◌⊎◌, ℕ, ◌+◌, ◌*◌, ◌<◌, ◌≤◌, Bool, true, false, Some, length, get_or, map, refl, sym, ap, ◌∙◌, inl, inr, arith, if◌then◌else◌}
use Rattle.std.proofs.{Math.Nat.mul-le-mul_right, lemmas.List.FromFn.get_or-range_with_len, lemmas.List.FromFn.length-range_with_len}
use Rattle.place_plan.proofs.Vocabulary.{Contains, range_with_len, cases_lt, get_or-map, length-map, All-weaker, Shape, Defects, Network}
use Rattle.machine_shape.specs.Vocabulary.{most_ticks, is_small, levels_of, levels_from, nodes_of, lines_of, taps_of, tables_of, cross_at, line_at, tap_at, parent_of, tap_child, HasParents, HasTaps, HasCrosses, HasSites}
use Rattle.machine_shape.proofs.HighLimits.{small_is}
use Rattle.machine_shape.proofs.Totals.{nodes_are, crosses_are}
use Rattle.place_plan.specs.Vocabulary.{AtLeast, HasEnough, IsFreePort, IsFreeTableOf, IsOpenLineOf, nets_in}
use Rattle.place_plan.proofs.Counting.{pigeon}
use Rattle.place_plan.proofs.PlanNets.{few_below}

-- ---- those with P are no more than the numbers below a count, of which each of them is the value of one

value-in : (f : ℕ → ℕ) (count x a : ℕ) → a < count → f a ≡ x → Contains (map f (range_with_len 0 count)) x
value-in f count x a lt e = (
  a,
  (let l = length-map (range_with_len 0 count) f in let r = length-range_with_len 0 count in omega (arith, l, r, lt)),
  get_or-map f (range_with_len 0 count) a 0 x (let r = length-range_with_len 0 count in omega (arith, r, lt))
      ∙ ap f (get_or-range_with_len 0 count a 0 lt ∙ (let z : 0 + a ≡ a = omega arith in z)) ∙ e,
)

values-few : (P : ℕ → Type 0) (f : ℕ → ℕ) (count k : ℕ) → ((x : ℕ) → P x → (a : ℕ) × (a < count) × (f a ≡ x)) → AtLeast P k → k ≤ count
values-few P f count k value enough =
    let few = pigeon enough.each (map f (range_with_len 0 count)) enough.different (λ i e lt. inside (get_or enough.each i e) (value (get_or enough.each i e) (enough.have i e lt))) in
    let many = enough.many in
    let l = length-map (range_with_len 0 count) f in
    let r = length-range_with_len 0 count in
    omega (arith, few, many, l, r)
  where
    inside : (x : ℕ) → (a : ℕ) × (a < count) × (f a ≡ x) → Contains (map f (range_with_len 0 count)) x
    inside x v = value-in f count x v.0 v.1 v.2

-- ---- a machine has all its tables on, or 65,535 of them may be

small-tables : (m : Shape) → is_small m.counts ≡ true → tables_of m ≤ 4096
unfolding tables_of levels_of
small-tables m s = (small_is m.counts s).0

pub tables-on : (m : Shape) → (tables_of m ≤ most_ticks m) ⊎ (most_ticks m ≡ 65535)
unfolding most_ticks
tables-on m = by_size (is_small m.counts) refl
  where
    by_size : (b : Bool) → is_small m.counts ≡ b → (tables_of m ≤ (if b then 4096 else 65535)) ⊎ (◌≡◌ {A = ℕ} (if b then 4096 else 65535) 65535)
    by_size true e = inl (small-tables m e)
    by_size false e = inr refl

-- ---- there is a node below the root

one-more : (k r : ℕ) → 0 < k → 1 < 1 + k * (1 + r)
one-more k r some =
    let one : 1 ≤ k = omega (arith, some) in
    let more : 1 * (1 + r) ≤ k * (1 + r) = mul-le-mul_right (1 + r) one in
    omega (arith, more)

two_nodes : (m : Shape) → 1 < nodes_of m
unfolding nodes_of levels_of levels_from
two_nodes m = one-more m.counts.modules (m.counts.chips * (1 + m.counts.hextants * (1 + m.counts.tables * 0))) (m.full 0 (record { ports = 0; lines = 0; children = 0 }) (omega arith)).2

-- ---- a crosspoint far down at the root

pub cross-above : (m : Shape) → 4096 * lines_of m 0 ≤ cross_at m 0 4096 0
unfolding cross_at
cross-above m = omega arith

module _ (m : Shape) (d : Defects) (n : Network) (parents : HasParents m) (taps : HasTaps m) (crosses : HasCrosses m) (sites : HasSites m) (enough : HasEnough m d n) where
  root-within : 0 < nodes_of m
  root-within = (nodes_are m).2

  -- the node behind the root is below it
  below-root : parent_of m 1 ≡ Some 0
  below-root =
      let above = parents.others 1 (omega arith) (two_nodes m) in
      let before = parents.before 1 above.0 above.1 in
      above.1 ∙ ap (λ k. Some k) (let e : above.0 ≡ 0 = omega (arith, before) in e)

  lines-many : nets_in n ≤ lines_of m 0
  lines-many = values-few (IsOpenLineOf m d 0) (line_at m 0) (lines_of m 0) (nets_in n) (λ w is. at w (sites.some_line 0 w is.0)) (enough.lines 0 root-within)
    where
      at : (w : ℕ) → (k : ℕ) × (k < lines_of m 0) × (w ≡ line_at m 0 k) → (k : ℕ) × (k < lines_of m 0) × (line_at m 0 k ≡ w)
      at w s = (s.0, s.1, sym s.2)

  taps-many : nets_in n ≤ taps_of m 0
  taps-many = values-few (IsFreePort m d 1) (tap_at m 0) (taps_of m 0) (nets_in n) (λ w is. taps.has_position 0 w root-within (tap_child 1 below-root is.0)) (enough.ports 1 (omega arith) (two_nodes m))

  -- so many lines and ports at the root would be more crosspoints than any machine has
  nets-few : nets_in n < 65536
  nets-few = by (cases_lt (nets_in n) 65536)
    where
      by : (nets_in n < 65536) ⊎ (65536 ≤ nets_in n) → nets_in n < 65536
      by (inl less) = less
      by (inr more) =
          let lines = lines-many in
          let many = taps-many in
          let far = crosses.within 0 4096 0 root-within (omega (arith, many, more)) (omega (arith, lines, more)) in
          let above = cross-above m in
          let most = (crosses_are m).1 in
          absurd (let no : ⊥ = omega (arith, lines, more, far, above, most) in no)

  tables-fit : length n.tables ≤ tables_of m
  tables-fit =
      let few = few_below enough.tables.each (tables_of m) (All-weaker (IsFreeTableOf m d) (λ t. t < tables_of m) (λ t is. is.0) enough.tables.each enough.tables.have) enough.tables.different in
      let many = enough.tables.many in
      omega (arith, few, many)

  pub few-on : length n.tables ≤ most_ticks m
  few-on = by (tables-on m)
    where
      by : (tables_of m ≤ most_ticks m) ⊎ (most_ticks m ≡ 65535) → length n.tables ≤ most_ticks m
      by (inl all) = let fit = tables-fit in omega (arith, all, fit)
      by (inr most) = let nets = nets-few in omega (arith, most, nets)
