-- Groups of wires: roots are found and united.
use Rattle.std.proofs.Common.{◌≡◌, ◌≢◌, ◌⊎◌, ℕ, ◌+◌, ◌<◌, ◌≤◌, true, cond, eqb, List, [], ◌∷◌, ◌++◌, length, get_or, set, map, refl, sym, ap, ◌∙◌, subst, inl, inr, arith}
use Rattle.place_repair.proofs.Vocabulary.{range_with_len, cases_eq, ne_eqb, eq-eqb, Joined-trans, Joined-sym, Configuration, is_closed}
use Rattle.std.proofs.lemmas.List.{get_or-set_same, get_or-set_other, length-set, length_push, get_or_push, get_or_append_left}
use Rattle.std.proofs.lemmas.List.FromFn.{map-range_with_len_more, length-range_with_len, get_or-range_with_len}
use Rattle.machine_shape.specs.Vocabulary.{in_order, turned, wires_of, crosses_of, ends_of, IsNumbered}
use Rattle.machine_meaning.specs.Joined.{Net, Joined, here, then, crossed, plain_net}
use Rattle.place_repair.specs.Groups.{parent_at, AreLow, HasRoots, AreJoined, IsFound, IsMerged, IsUnited, HasJoined, IsForest, AreRootsTo, AreRootsOf, AreLowest}

-- ---- on the way up

module _ (ps : List ℕ) (low : AreLow ps) (at : ℕ) (within : at < length ps) (other : parent_at ps at ≢ at) where
  up_within : parent_at ps at < length ps
  up_within = (let l = low at within in omega arith)

  next_low : parent_at ps (parent_at ps at) < at
  next_low = (let l = low at within in let m = low (parent_at ps at) up_within in omega (arith, l, m, other))

  at_same : parent_at (set ps at (parent_at ps (parent_at ps at))) at ≡ parent_at ps (parent_at ps at)
  at_same = get_or-set_same ps at (parent_at ps (parent_at ps at)) 0 within

  at_other : (w : ℕ) → w ≢ at → parent_at (set ps at (parent_at ps (parent_at ps at))) w ≡ parent_at ps w
  at_other w ne = get_or-set_other ps at w (parent_at ps (parent_at ps at)) 0 ne

  sized : length (set ps at (parent_at ps (parent_at ps at))) ≡ length ps
  sized = length-set ps at (parent_at ps (parent_at ps at))

  pub one_step : IsFound ps (set ps at (parent_at ps (parent_at ps at))) at (parent_at ps (parent_at ps at))
  one_step = record {
    sized = sized;
    within = (let l = next_low in omega (arith, l, within, sized));
    low = λ w l. lower w l (cases_eq w at);
    tops = λ w l e. at_other w (λ s. other (subst (λ z. parent_at ps z ≡ z) s e)) ∙ e;
    roots = λ root r. (record { up = λ w l. rise root r w l (cases_eq w at); top = λ w l e. top root r w l e (cases_eq w at) }, r.up (parent_at ps at) up_within ∙ r.up at within);
    joined = λ net js. (λ w l. link net js w l (cases_eq w at), Joined-trans (js at within) (js (parent_at ps at) up_within));
  }
    where
      lower : (w : ℕ) → w < length (set ps at (parent_at ps (parent_at ps at))) → (w ≡ at) ⊎ (w ≢ at) → parent_at (set ps at (parent_at ps (parent_at ps at))) w ≤ w
      lower w l (inl e) = (let q = ap (parent_at (set ps at (parent_at ps (parent_at ps at)))) e ∙ at_same in let m = next_low in omega (arith, q, m, e))
      lower w l (inr ne) = (let q = at_other w ne in let m = low w (subst (λ n. w < n) sized l) in omega (arith, q, m))

      rise : (root : ℕ → ℕ) → HasRoots root ps → (w : ℕ) → w < length (set ps at (parent_at ps (parent_at ps at))) → (w ≡ at) ⊎ (w ≢ at) → root (parent_at (set ps at (parent_at ps (parent_at ps at))) w) ≡ root w
      rise root r w l (inl e) = ap root (ap (parent_at (set ps at (parent_at ps (parent_at ps at)))) e ∙ at_same) ∙ r.up (parent_at ps at) up_within ∙ r.up at within ∙ ap root (sym e)
      rise root r w l (inr ne) = ap root (at_other w ne) ∙ r.up w (subst (λ n. w < n) sized l)

      top : (root : ℕ → ℕ) → HasRoots root ps → (w : ℕ) → w < length (set ps at (parent_at ps (parent_at ps at))) → parent_at (set ps at (parent_at ps (parent_at ps at))) w ≡ w → (w ≡ at) ⊎ (w ≢ at) → root w ≡ w
      top root r w l e (inl s) = absurd (let q = sym (ap (parent_at (set ps at (parent_at ps (parent_at ps at)))) s ∙ at_same) ∙ e ∙ s in let m = next_low in omega (arith, q, m))
      top root r w l e (inr ne) = r.top w (subst (λ n. w < n) sized l) (sym (at_other w ne) ∙ e)

      link : (net : Net) → AreJoined net ps → (w : ℕ) → w < length (set ps at (parent_at ps (parent_at ps at))) → (w ≡ at) ⊎ (w ≢ at) → Joined net w (parent_at (set ps at (parent_at ps (parent_at ps at))) w)
      link net js w l (inl e) =
          subst (Joined net w) (sym (ap (parent_at (set ps at (parent_at ps (parent_at ps at)))) e ∙ at_same))
          (subst (λ z. Joined net z (parent_at ps (parent_at ps at))) (sym e) (Joined-trans (js at within) (js (parent_at ps at) up_within)))
      link net js w l (inr ne) = subst (Joined net w) (sym (at_other w ne)) (js w (subst (λ n. w < n) sized l))

pub found_here : (ps : List ℕ) (wire : ℕ) → AreLow ps → wire < length ps → IsFound ps ps wire wire
found_here ps wire low within = record { sized = refl; within = within; low = low; tops = λ w l e. e; roots = λ root r. (r, refl); joined = λ net js. (js, here) }

pub found_then : (old mid new : List ℕ) (wire at next : ℕ) → IsFound old mid wire at → IsFound mid new at next → IsFound old new wire next
found_then old mid new wire at next p q = record {
  sized = q.sized ∙ p.sized;
  within = q.within;
  low = q.low;
  tops = λ w l e. q.tops w (subst (λ n. w < n) (sym p.sized) l) (p.tops w l e);
  roots = λ root r. let a = p.roots root r in let b = q.roots root a.0 in (b.0, b.1 ∙ a.1);
  joined = λ net js. let a = p.joined net js in let b = q.joined net a.0 in (b.0, Joined-trans a.1 b.1);
}

-- ---- two roots become one

module _ (ps : List ℕ) (low : AreLow ps) (lo hi : ℕ) (order : lo ≤ hi) (within : hi < length ps) (lo_top : parent_at ps lo ≡ lo) (hi_top : parent_at ps hi ≡ hi) where
  hi_same : parent_at (set ps hi lo) hi ≡ lo
  hi_same = get_or-set_same ps hi lo 0 within

  hi_other : (w : ℕ) → w ≢ hi → parent_at (set ps hi lo) w ≡ parent_at ps w
  hi_other w ne = get_or-set_other ps hi w lo 0 ne

  hung_sized : length (set ps hi lo) ≡ length ps
  hung_sized = length-set ps hi lo

  -- what was of the higher root is of the lower
  abbrev lowered : (ℕ → ℕ) → ℕ → ℕ
  lowered root u = cond (eqb (root u) hi) lo (root u)

  lowered_hi : (root : ℕ → ℕ) (u : ℕ) → root u ≡ hi → lowered root u ≡ lo
  lowered_hi root u e = rw (eq-eqb (root u) hi e) refl

  lowered_other : (root : ℕ → ℕ) (u : ℕ) → root u ≢ hi → lowered root u ≡ root u
  lowered_other root u ne = rw (ne_eqb (root u) hi ne) refl

  module _ (root : ℕ → ℕ) (r : HasRoots root ps) where
    lowered_lo : lowered root lo ≡ lo
    lowered_lo = by (cases_eq (root lo) hi)
      where
        by : (root lo ≡ hi) ⊎ (root lo ≢ hi) → lowered root lo ≡ lo
        by (inl e) = lowered_hi root lo e
        by (inr ne) = lowered_other root lo ne ∙ r.top lo (omega (arith, order, within)) lo_top

    hung_up : (w : ℕ) → w < length (set ps hi lo) → (w ≡ hi) ⊎ (w ≢ hi) → lowered root (parent_at (set ps hi lo) w) ≡ lowered root w
    hung_up w l (inl e) = ap (lowered root) (ap (parent_at (set ps hi lo)) e ∙ hi_same) ∙ lowered_lo ∙ sym (lowered_hi root w (ap root e ∙ r.top hi within hi_top))
    hung_up w l (inr ne) = ap (lowered root) (hi_other w ne) ∙ ap (λ z. cond (eqb z hi) lo z) (r.up w (subst (λ n. w < n) hung_sized l))

    hung_top : (w : ℕ) → w < length (set ps hi lo) → parent_at (set ps hi lo) w ≡ w → (w ≡ hi) ⊎ (w ≢ hi) → lowered root w ≡ w
    hung_top w l t (inl e) = lowered_hi root w (ap root e ∙ r.top hi within hi_top) ∙ sym hi_same ∙ ap (parent_at (set ps hi lo)) (sym e) ∙ t
    hung_top w l t (inr ne) =
        let same : root w ≡ w = r.top w (subst (λ n. w < n) hung_sized l) (sym (hi_other w ne) ∙ t) in
        lowered_other root w (λ e. ne (sym same ∙ e)) ∙ same

    hung_roots : HasRoots (lowered root) (set ps hi lo)
    hung_roots = record { up = λ w l. hung_up w l (cases_eq w hi); top = λ w l t. hung_top w l t (cases_eq w hi) }

    hung_merged : IsMerged root (lowered root) lo hi
    hung_merged = record { now = lowered_lo ∙ sym (lowered_hi root hi (r.top hi within hi_top)); still = λ u v e. ap (λ z. cond (eqb z hi) lo z) e }

  pub hung : IsUnited ps (set ps hi lo) lo hi
  hung = record {
    sized = hung_sized;
    low = λ w l. lower w l (cases_eq w hi);
    roots = λ root r. (lowered root, hung_roots root r, hung_merged root r);
    joined = λ net js j w l. link net js j w l (cases_eq w hi);
  }
    where
      lower : (w : ℕ) → w < length (set ps hi lo) → (w ≡ hi) ⊎ (w ≢ hi) → parent_at (set ps hi lo) w ≤ w
      lower w l (inl e) = (let q = ap (parent_at (set ps hi lo)) e ∙ hi_same in omega (arith, q, order, e))
      lower w l (inr ne) = (let q = hi_other w ne in let m = low w (subst (λ n. w < n) hung_sized l) in omega (arith, q, m))

      link : (net : Net) → AreJoined net ps → Joined net lo hi → (w : ℕ) → w < length (set ps hi lo) → (w ≡ hi) ⊎ (w ≢ hi) → Joined net w (parent_at (set ps hi lo) w)
      link net js j w l (inl e) = subst (Joined net w) (sym (ap (parent_at (set ps hi lo)) e ∙ hi_same)) (subst (λ z. Joined net z lo) (sym e) (Joined-sym j))
      link net js j w l (inr ne) = subst (Joined net w) (sym (hi_other w ne)) (js w (subst (λ n. w < n) hung_sized l))

united_turned : (old new : List ℕ) (a b : ℕ) → IsUnited old new a b → IsUnited old new b a
united_turned old new a b u = record {
  sized = u.sized;
  low = u.low;
  roots = λ root r. let n = u.roots root r in (n.0, n.1, record { now = sym n.2.now; still = n.2.still });
  joined = λ net js j. u.joined net js (Joined-sym j);
}

-- so with the roots of two wires
united_by : (old one two new : List ℕ) (a b p q : ℕ) → IsFound old one a p → IsFound one two b q → IsUnited two new p q → IsUnited old new a b
united_by old one two new a b p q f g u = record {
  sized = u.sized ∙ g.sized ∙ f.sized;
  low = u.low;
  roots = λ root r. let x = f.roots root r in let y = g.roots root x.0 in let n = u.roots root y.0 in
      (n.0, n.1, record { now = n.2.still a p (sym x.1) ∙ n.2.now ∙ n.2.still q b y.1; still = n.2.still });
  joined = λ net js j. let x = f.joined net js in let y = g.joined net x.0 in u.joined net y.0 (Joined-trans (Joined-sym x.1) (Joined-trans j y.1));
}

module _ (old one two : List ℕ) (a b p q : ℕ) (f : IsFound old one a p) (g : IsFound one two b q) (p_top : parent_at one p ≡ p) (q_top : parent_at two q ≡ q) where
  p_still : parent_at two p ≡ p
  p_still = g.tops p f.within p_top

  p_within : p < length two
  p_within = subst (λ n. p < n) (sym g.sized) f.within

  pub united_low : p < q → IsUnited old (set two q p) a b
  united_low l = united_by old one two (set two q p) a b p q f g (hung two g.low p q (omega (arith, l)) g.within p_still q_top)

  pub united_high : q ≤ p → IsUnited old (set two p q) a b
  united_high l = united_by old one two (set two p q) a b p q f g (united_turned two (set two p q) q p (hung two g.low q p l p_within q_top p_still))

-- ---- crosspoint after crosspoint

module _ (g : Configuration) where
  pub joined_more : (joins more : ℕ → Type 0) (old new : List ℕ) (x : ℕ) → is_closed g x ≡ true → HasJoined g joins old → IsUnited old new (ends_of g.shape x).0 (ends_of g.shape x).1 →
      ((y : ℕ) → more y → joins y ⊎ (y ≡ x)) → HasJoined g more new
  joined_more joins more old new x on has u cases = record {
    sized = u.sized ∙ has.sized;
    low = u.low;
    root = n.0;
    roots = n.1;
    same = λ y m. by y (cases y m);
    joined = u.joined (plain_net g.shape (is_closed g)) has.joined (then here (crossed x on (in_order refl refl)));
  }
    where
      n : (next : ℕ → ℕ) × HasRoots next new × IsMerged has.root next (ends_of g.shape x).0 (ends_of g.shape x).1
      n = u.roots has.root has.roots

      by : (y : ℕ) → joins y ⊎ (y ≡ x) → n.0 (ends_of g.shape y).0 ≡ n.0 (ends_of g.shape y).1
      by y (inl j) = n.2.still (ends_of g.shape y).0 (ends_of g.shape y).1 (has.same y j)
      by y (inr e) = ap (λ z. n.0 (ends_of g.shape z).0) e ∙ n.2.now ∙ ap (λ z. n.0 (ends_of g.shape z).1) (sym e)

  pub joined_none : (joins : ℕ → Type 0) (ps : List ℕ) → length ps ≡ wires_of g.shape → ((w : ℕ) → w < length ps → parent_at ps w ≡ w) → ((x : ℕ) → joins x → ⊥) → HasJoined g joins ps
  joined_none joins ps len alone never = record {
    sized = len;
    low = λ w l. let e = alone w l in omega (arith, e);
    root = λ w. w;
    roots = record { up = λ w l. alone w l; top = λ w l e. refl };
    same = λ x j. absurd (never x j);
    joined = λ w l. subst (Joined (plain_net g.shape (is_closed g)) w) (sym (alone w l)) here;
  }

  pub joined_same : (joins more : ℕ → Type 0) (ps : List ℕ) → HasJoined g joins ps → ((x : ℕ) → more x → joins x) → HasJoined g more ps
  joined_same joins more ps has to = record { sized = has.sized; low = has.low; root = has.root; roots = has.roots; same = λ x m. has.same x (to x m); joined = has.joined }

-- ---- the roots of all

module _ (ps : List ℕ) (low : AreLow ps) where
  pub roots_none : AreRootsTo 0 ps []
  roots_none = record { sized = refl; low = λ w l. absurd (none w l); are = λ root r w l. absurd (none w l); joined = λ net js w l. absurd (none w l) }
    where
      none : (w : ℕ) → w < 0 → ⊥
      none w l = omega arith

  roots_push : (n v : ℕ) (rs : List ℕ) → n < length ps → AreRootsTo n ps rs → v ≤ n → ((root : ℕ → ℕ) → HasRoots root ps → v ≡ root n) → ((net : Net) → AreJoined net ps → Joined net n v) → AreRootsTo (n + 1) ps (rs ++ v ∷ [])
  roots_push n v rs within are le same joined = record {
    sized = length_push rs v ∙ ap (λ z. z + 1) are.sized;
    low = λ w l. lower w l (cases_eq w n);
    are = λ root r w l. by root r w l (cases_eq w n);
    joined = λ net js w l. link net js w l (cases_eq w n);
  }
    where
      at_end : parent_at (rs ++ v ∷ []) n ≡ v
      at_end = get_or_push rs v 0 n are.sized

      before : (w : ℕ) → w < n → parent_at (rs ++ v ∷ []) w ≡ parent_at rs w
      before w l = get_or_append_left rs (v ∷ []) 0 w (omega (arith, l, are.sized))

      earlier : (w : ℕ) → w < n + 1 → w ≢ n → w < n
      earlier w l ne = omega (arith, l, ne)

      lower : (w : ℕ) → w < n + 1 → (w ≡ n) ⊎ (w ≢ n) → parent_at (rs ++ v ∷ []) w ≤ w
      lower w l (inl e) = (let q = ap (parent_at (rs ++ v ∷ [])) e ∙ at_end in omega (arith, q, le, e))
      lower w l (inr ne) = (let q = before w (earlier w l ne) in let m = are.low w (earlier w l ne) in omega (arith, q, m))

      by : (root : ℕ → ℕ) → HasRoots root ps → (w : ℕ) → w < n + 1 → (w ≡ n) ⊎ (w ≢ n) → parent_at (rs ++ v ∷ []) w ≡ root w
      by root r w l (inl e) = ap (parent_at (rs ++ v ∷ [])) e ∙ at_end ∙ same root r ∙ ap root (sym e)
      by root r w l (inr ne) = before w (earlier w l ne) ∙ are.are root r w (earlier w l ne)

      link : (net : Net) → AreJoined net ps → (w : ℕ) → w < n + 1 → (w ≡ n) ⊎ (w ≢ n) → Joined net w (parent_at (rs ++ v ∷ []) w)
      link net js w l (inl e) = subst (Joined net w) (sym (ap (parent_at (rs ++ v ∷ [])) e ∙ at_end)) (subst (λ z. Joined net z v) (sym e) (joined net js))
      link net js w l (inr ne) = subst (Joined net w) (sym (before w (earlier w l ne))) (are.joined net js w (earlier w l ne))

  pub root_here : (n : ℕ) (rs : List ℕ) → n < length ps → parent_at ps n ≡ n → AreRootsTo n ps rs → AreRootsTo (n + 1) ps (rs ++ parent_at ps n ∷ [])
  root_here n rs within top are = roots_push n (parent_at ps n) rs within are (low n within) (λ root r. top ∙ sym (r.top n within top)) (λ net js. js n within)

  pub root_above : (n : ℕ) (rs : List ℕ) → n < length ps → parent_at ps n ≢ n → AreRootsTo n ps rs → AreRootsTo (n + 1) ps (rs ++ parent_at rs (parent_at ps n) ∷ [])
  root_above n rs within other are =
      let up : parent_at ps n < n = (let l = low n within in omega (arith, l, other)) in
      roots_push n (parent_at rs (parent_at ps n)) rs within are (let l = are.low (parent_at ps n) up in omega (arith, l, up))
      (λ root r. are.are root r (parent_at ps n) up ∙ r.up n within)
      (λ net js. Joined-trans (js n within) (are.joined net js (parent_at ps n) up))

pub lowest_are : (g : Configuration) (ps rs : List ℕ) → IsNumbered g.shape → ((x : ℕ) → is_closed g x ≡ true → x < crosses_of g.shape) → IsForest g ps → AreRootsOf ps rs → AreLowest g rs
lowest_are g ps rs numbered within forest are = record {
  sized = are.sized ∙ forest.sized;
  low = λ w l. are.low w (subst (λ n. w < n) (sym forest.sized) l);
  joined = λ w l. are.joined (plain_net g.shape (is_closed g)) forest.joined w (subst (λ n. w < n) (sym forest.sized) l);
  same = λ x on. at (ends_of g.shape x).0 (numbered.ends x _ _ (within x on) (in_order refl refl)) ∙ forest.same x on ∙ sym (at (ends_of g.shape x).1 (numbered.ends x _ _ (within x on) (turned refl refl)));
}
  where
    at : (w : ℕ) → w < wires_of g.shape → parent_at rs w ≡ forest.root w
    at w l = are.are forest.root forest.roots w (subst (λ n. w < n) (sym forest.sized) l)

pub step_up : (ps : List ℕ) (at up : ℕ) → AreLow ps → at < length ps → up ≡ parent_at ps at → up ≢ at → IsFound ps (set ps at (parent_at ps up)) at (parent_at ps up)
step_up ps at up low within same ne = subst (λ u. IsFound ps (set ps at (parent_at ps u)) at (parent_at ps u)) (sym same) (one_step ps low at within (λ e. ne (same ∙ e)))

pub range_more : (n : ℕ) → range_with_len 0 (n + 1) ≡ range_with_len 0 n ++ n ∷ []
range_more n = sym (map_same (range_with_len 0 (n + 1))) ∙ map-range_with_len_more (λ k. k) 0 n n (omega arith) ∙ ap (λ xs. xs ++ n ∷ []) (map_same (range_with_len 0 n))
  where
    map_same : (xs : List ℕ) → map (λ k. k) xs ≡ xs
    map_same [] = refl
    map_same (x ∷ xs) = ap (λ ys. x ∷ ys) (map_same xs)

pub range_alone : (ps : List ℕ) (n : ℕ) → ps ≡ range_with_len 0 n → (length ps ≡ n) × ((w : ℕ) → w < length ps → parent_at ps w ≡ w)
range_alone ps n e = (ap length e ∙ length-range_with_len 0 n, λ w l. ap (λ xs. get_or xs w 0) e ∙ get_or-range_with_len 0 n w 0 (subst (λ k. w < k) (ap length e ∙ length-range_with_len 0 n) l) ∙ (let z : 0 + w ≡ w = omega arith in z))
