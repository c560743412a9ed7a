-- The ports and lines of one more node.
use Rattle.std.proofs.Common.{◌≡◌, ◌≢◌, ℕ, ◌+◌, ◌-◌, ◌<◌, ◌≤◌, List, [], ◌++◌, length, map, get_or, inl, inr, refl, sym, ap, ◌∙◌, subst, arith, length-append}
use Rattle.place_plan.proofs.Vocabulary.{All, AllPairs, Contains, range_with_len, cases_eq, cases_lt, Shape, Defects, Port, Visit}
use Rattle.std.proofs.lemmas.List.{length-map, get_or-map, get_or_append_left, get_or-append_right, get_or_default}
use Rattle.std.proofs.lemmas.List.Elements.{All-nil, All-append, All-map, All-weaker, Contains-append_left, Contains-append_right}
use Rattle.place_plan.specs.Vocabulary.{Pick, AreThose, nth_of, CrossesAt, VisitsAt, HasPort, IsFreePort, Serves, NodeSuffices, AreVisits, AreHeld, GoOn, HoldOn, IsEnough, IsRoomAt, visit_of, port_by, visit_for, port_for}
use Rattle.place_plan.proofs.Ranges.{in_range, range_all}
use Rattle.place_plan.proofs.Serving.{contains_map}

all_pairs_append : {X : Type 0} → (R : X → X → Type 0) (xs ys : List X) → AllPairs R xs → AllPairs R ys → All (λ x. All (R x) ys) xs → AllPairs R (xs ++ ys)
all_pairs_append R xs ys l r b i j d lt lj = elim (cases_lt j (length xs)) [
  | inl jl ↦ (let il : i < length xs = omega arith in subst (R (get_or (xs ++ ys) i d)) (sym (get_or_append_left xs ys d j jl)) (subst (λ z. R z (get_or xs j d)) (sym (get_or_append_left xs ys d i il)) (l i j d lt jl)))
  | inr jr ↦ (let jy : j - length xs < length ys = omega (arith, length-append xs ys) in
      subst (R (get_or (xs ++ ys) i d)) (sym (get_or-append_right xs ys (length xs) j d refl jr)) (elim (cases_lt i (length xs)) [
        | inl il ↦ subst (λ z. R z (get_or ys (j - length xs) d)) (sym (get_or_append_left xs ys d i il)) (b i d il (j - length xs) d jy)
        | inr ir ↦ subst (λ z. R z (get_or ys (j - length xs) d)) (sym (get_or-append_right xs ys (length xs) i d refl ir)) (r (i - length xs) (j - length xs) d (omega arith) jy)
      ]))
]

no_pick : Pick
no_pick = record { net = 0; line = 0 }

none_below : (k : ℕ) → k < 0 → ⊥
none_below k lt = omega arith

module _ (m : Shape) (d : Defects) (count : ℕ) (terminal : ℕ → ℕ → Type 0) where
  abbrev IsServed : ℕ → Visit → Type 0
  IsServed n v = (v.node.0 < n) × VisitsAt m count terminal v.node.0 v.net.0 × Serves m d count terminal v.node.0 v.net.0 v.line.0

  abbrev IsPortBefore : ℕ → Port → Type 0
  IsPortBefore n p = (p.node.0 < n) × CrossesAt m count terminal p.node.0 p.net.0 × HasPort m d count terminal p.node.0 p.net.0 p.wire.0

  pub nothing_yet : IsEnough m d count terminal 0 [] []
  nothing_yet = record {
    suffice = λ i lt. absurd (none_below i lt);
    ports_are = record { given = λ n k lt. absurd (none_below n lt); each = All-nil (IsPortBefore 0) };
    visits_are = record { given = λ n k lt. absurd (none_below n lt); each = All-nil (IsServed 0); apart = λ i j x lt l. absurd (none_below j l) };
  }

  module _ (n : ℕ) where
    node_is : (picks : List Pick) (j : ℕ) (e : Visit) → j < length (map (visit_of n) picks) → (get_or (map (visit_of n) picks) j e).node.0 ≡ n
    node_is picks j e l = let lp : j < length picks = omega (arith, length-map picks (visit_of n)) in ap (λ v. v.node.0) (get_or-map (visit_of n) picks j no_pick e lp)

    differ : (a b : ℕ) → a < b → a ≡ b → ⊥
    differ a b lt e = omega arith

    visits_more : (vs new : List Visit) → AreVisits m d count terminal n vs → GoOn m d count terminal n vs new → AreVisits m d count terminal (n + 1) new
    visits_more vs new are go = subst (AreVisits m d count terminal (n + 1)) (sym go.2) (record {
      given = λ i k lt v. elim (cases_eq i n) [
        | inl e ↦ (let g = go.1.given k (subst (λ z. VisitsAt m count terminal z k) e v) in (g.0, Contains-append_right vs (map (visit_of n) go.0) (visit_for i k g.0) (subst (λ z. Contains (map (visit_of n) go.0) (visit_for z k g.0)) (sym e) (contains_map (visit_of n) go.0 (record { net = k; line = g.0 }) g.1))))
        | inr ne ↦ (let g = are.given i k (omega arith) v in (g.0, Contains-append_left vs (map (visit_of n) go.0) (visit_for i k g.0) g.1))
      ];
      each = All-append (IsServed (n + 1)) vs (map (visit_of n) go.0)
          (All-weaker (IsServed n) (IsServed (n + 1)) (λ v s. (omega (arith, s.0), s.1, s.2)) vs are.each)
          (All-map (IsServed (n + 1)) (visit_of n) go.0 (λ k p l. let s = go.1.each k p l in (omega arith, s.0, s.1)));
      apart = all_pairs_append (λ v u. v.node.0 ≡ u.node.0 → (v.net.0 ≢ u.net.0) × (v.line.0 ≢ u.line.0)) vs (map (visit_of n) go.0) are.apart
          (λ i j x lt l e.
          let lp : j < length go.0 = omega (arith, length-map go.0 (visit_of n)) in
          let ip : i < length go.0 = omega arith in
          let a : get_or (map (visit_of n) go.0) i x ≡ visit_of n (get_or go.0 i no_pick) = get_or-map (visit_of n) go.0 i no_pick x ip in
          let b : get_or (map (visit_of n) go.0) j x ≡ visit_of n (get_or go.0 j no_pick) = get_or-map (visit_of n) go.0 j no_pick x lp in
          (λ q. go.1.nets_apart i j no_pick lt lp (sym (ap (λ v. v.net.0) a) ∙ q ∙ ap (λ v. v.net.0) b), λ q. go.1.lines_apart i j no_pick lt lp (sym (ap (λ v. v.line.0) a) ∙ q ∙ ap (λ v. v.line.0) b)))
          (λ i x lt j y l q. absurd (differ (get_or vs i x).node.0 n (are.each i x lt).0 (q ∙ node_is go.0 j y l)));
    })

    held_more : (crossing free : List ℕ) (ps new : List Port) → AreThose (CrossesAt m count terminal n) crossing → AreThose (IsFreePort m d n) free → AreHeld m d count terminal n ps → HoldOn n crossing free ps new → AreHeld m d count terminal (n + 1) new
    held_more crossing free ps new cross these are hold = subst (AreHeld m d count terminal (n + 1)) (sym hold.1) (record {
      given = λ i k lt x. elim (cases_eq i n) [
        | inl e ↦ (let c = cross.each k (subst (λ z. CrossesAt m count terminal z k) e x) in
            let w : ℕ = nth_of free c.0 in
            let q : nth_of crossing c.0 ≡ k = get_or_default crossing c.0 0 k c.1 ∙ c.2 in
            let h : Contains (map (port_by n crossing free) (range_with_len 0 (length crossing))) (port_by n crossing free c.0) = contains_map (port_by n crossing free) (range_with_len 0 (length crossing)) c.0 (in_range (length crossing) c.0 c.1) in (
              w,
              Contains-append_right ps (map (port_by n crossing free) (range_with_len 0 (length crossing))) (port_for i k w)
                  (subst (λ z. Contains (map (port_by n crossing free) (range_with_len 0 (length crossing))) (port_for z k w)) (sym e) (subst (λ z. Contains (map (port_by n crossing free) (range_with_len 0 (length crossing))) (port_for n z w)) q h)),
            ))
        | inr ne ↦ (let g = are.given i k (omega arith) x in (g.0, Contains-append_left ps (map (port_by n crossing free) (range_with_len 0 (length crossing))) (port_for i k g.0) g.1))
      ];
      each = All-append (IsPortBefore (n + 1)) ps (map (port_by n crossing free) (range_with_len 0 (length crossing)))
          (All-weaker (IsPortBefore n) (IsPortBefore (n + 1)) (λ p s. (omega (arith, s.0), s.1, s.2)) ps are.each)
          (All-map (IsPortBefore (n + 1)) (port_by n crossing free) (range_with_len 0 (length crossing)) (All-weaker (λ j. j < length crossing) (λ j. IsPortBefore (n + 1) (port_by n crossing free j)) (λ j l.
          (omega arith, cross.only j 0 l, record { crossing = crossing; ports = free; are_crossing = cross; are_ports = these; place = j; net_is = (l, refl); port_is = (let le : length crossing ≤ length free = hold.0 in omega arith, refl) })) (range_with_len 0 (length crossing)) (range_all (length crossing))));
    })

    pub enough_more : (ps new_ps : List Port) (vs new_vs : List Visit) → IsEnough m d count terminal n ps vs → IsRoomAt m d count terminal n ps vs new_ps new_vs → IsEnough m d count terminal (n + 1) new_ps new_vs
    enough_more ps new_ps vs new_vs are room = record {
      suffice = λ i lt. elim (cases_eq i n) [
        | inl e ↦ subst (NodeSuffices m d count terminal) (sym e) (record {
          ports = record { need = length room.crossing; have = length room.free; are = record { crossing = room.crossing; ports = room.free; are_crossing = room.are_crossing; are_ports = room.are_free; need_is = refl; have_is = refl }; met = room.hold.0 };
          lines = (room.go.0, room.go.1);
        })
        | inr ne ↦ are.suffice i (omega arith)
      ];
      ports_are = held_more room.crossing room.free ps new_ps room.are_crossing room.are_free are.ports_are room.hold;
      visits_are = visits_more vs new_vs are.visits_are room.go;
    }
