-- The surroundings of an image, as they are marked.
use Rattle.std.proofs.Common.{◌≡◌, ◌⊎◌, ℕ, zero, suc, ◌+◌, ◌<◌, ◌&&◌, Bool, true, false, List, length, refl, sym, ap, ◌∙◌, subst, inl, inr, arith, replicate}
use Rattle.diag_check.proofs.Vocabulary.{set, false≢true, has_number, Shape, below_or, marked_within, none_marked, OfMarked, Adds}
use Rattle.diag_check.proofs.Vocabulary.{IsNearCross, IsNearBefore, AreUsed, AreInvolved, Own, Lines}
use Rattle.machine_shape.specs.Vocabulary.{HasMeetings, HasSites, nodes_of, crosses_of, own_ports_of, port_at, ends_of, node_of_cross, IsLine, IsPort}
use Rattle.machine_image.specs.Vocabulary.{ImageValue, IsInvolved, IsSurroundingWire, used_wire, node_line, node_port, root_pin, IsSurroundingCross}
use Rattle.diag_check.specs.Near.{IsOnSide, IsOfNode, on_own, on_lines, AreSurroundings}
use Rattle.diag_check.proofs.Marking.{adds_none, adds_one, adds_more, adds_same}

and_left : (a b : Bool) → (a && b) ≡ true → a ≡ true
and_left true b e = refl
and_left false b e = e

and_right : (a b : Bool) → (a && b) ≡ true → b ≡ true
and_right true b e = e
and_right false b e = absurd (false≢true e)

and_both : (a b : Bool) → a ≡ true → b ≡ true → (a && b) ≡ true
and_both true b p q = q
and_both false b p q = p

module _ (m : Shape) where
  pub node_wires : (n : ℕ) {old mid new : List Bool} → Adds (IsOnSide m Own n) old mid → Adds (IsOnSide m Lines n) mid new → Adds (IsOfNode m n) old new
  node_wires n a b = adds_more a b (λ y p. on_own p) (λ y p. on_lines p) from
    where
      from : (y : ℕ) → IsOfNode m n y → IsOnSide m Own n y ⊎ IsOnSide m Lines n y
      from y (on_own p) = inl p
      from y (on_lines p) = inr p

  module _ (nodes : List Bool) where
    abbrev OfNodes : ℕ → ℕ → Type 0
    OfNodes = OfMarked nodes (IsOfNode m)

    pub sides_none : {marks : List Bool} → Adds (OfNodes 0) marks marks
    sides_none = adds_none (λ x p. let early = p.early in let no : ⊥ = omega (arith, early) in no)

    later : (n y : ℕ) → OfNodes n y → OfNodes (n + 1) y
    later n y p = record { place = p.place; early = (let early = p.early in omega (arith, early)); marked = p.marked; is = p.is }

    pub sides_next : (n : ℕ) {old mid new : List Bool} → Adds (OfNodes n) old mid → has_number nodes n ≡ true → Adds (IsOfNode m n) mid new → Adds (OfNodes (n + 1)) old new
    sides_next n a on b = adds_more a b (later n) (λ y p. record { place = n; early = omega arith; marked = on; is = p }) from
      where
        from : (y : ℕ) → OfNodes (n + 1) y → OfNodes n y ⊎ IsOfNode m n y
        from y p = by (below_or n p.place p.early)
          where
            by : (p.place < n) ⊎ (p.place ≡ n) → OfNodes n y ⊎ IsOfNode m n y
            by (inl l) = inl (record { place = p.place; early = l; marked = p.marked; is = p.is })
            by (inr s) = inr (subst (λ j. IsOfNode m j y) s p.is)

    pub sides_pass : (n : ℕ) {old mid : List Bool} → Adds (OfNodes n) old mid → has_number nodes n ≡ false → Adds (OfNodes (n + 1)) old mid
    sides_pass n a out = adds_same a (later n) from
      where
        from : (y : ℕ) → OfNodes (n + 1) y → OfNodes n y
        from y p = by (below_or n p.place p.early)
          where
            by : (p.place < n) ⊎ (p.place ≡ n) → OfNodes n y
            by (inl l) = record { place = p.place; early = l; marked = p.marked; is = p.is }
            by (inr s) = absurd (false≢true (sym out ∙ ap (has_number nodes) (sym s) ∙ p.marked))

    module _ (wires : List Bool) where
      near_of : (x : ℕ) → (has_number nodes (node_of_cross m x) && (has_number wires (ends_of m x).0 && has_number wires (ends_of m x).1)) ≡ true → IsNearCross m nodes wires x
      near_of x e =
          let n = has_number nodes (node_of_cross m x) in
          let t = has_number wires (ends_of m x).0 in
          let l = has_number wires (ends_of m x).1 in
          record { node = and_left n (t && l) e; tap = and_left t l (and_right n (t && l) e); line = and_right t l (and_right n (t && l) e) }

      near_is : (x : ℕ) → IsNearCross m nodes wires x → (has_number nodes (node_of_cross m x) && (has_number wires (ends_of m x).0 && has_number wires (ends_of m x).1)) ≡ true
      near_is x p =
          let n = has_number nodes (node_of_cross m x) in
          let t = has_number wires (ends_of m x).0 in
          let l = has_number wires (ends_of m x).1 in
          and_both n (t && l) p.node (and_both t l p.tap p.line)

      pub near_none : {marks : List Bool} → Adds (IsNearBefore m nodes wires 0) marks marks
      near_none = adds_none (λ x p. let early = p.early in let no : ⊥ = omega (arith, early) in no)

      more : (n y : ℕ) → IsNearBefore m nodes wires n y → IsNearBefore m nodes wires (n + 1) y
      more n y p = record { early = (let early = p.early in omega (arith, early)); near = p.near }

      pub near_next : (x : ℕ) {old mid : List Bool} → Adds (IsNearBefore m nodes wires x) old mid → x < length mid →
          (has_number nodes (node_of_cross m x) && (has_number wires (ends_of m x).0 && has_number wires (ends_of m x).1)) ≡ true →
          Adds (IsNearBefore m nodes wires (x + 1)) old (set mid x true)
      near_next x a within e = adds_one x a within (more x) (record { early = omega arith; near = near_of x e }) from
        where
          from : (y : ℕ) → IsNearBefore m nodes wires (x + 1) y → IsNearBefore m nodes wires x y ⊎ (y ≡ x)
          from y p = by (below_or x y p.early)
            where
              by : (y < x) ⊎ (y ≡ x) → IsNearBefore m nodes wires x y ⊎ (y ≡ x)
              by (inl l) = inl (record { early = l; near = p.near })
              by (inr s) = inr s

      pub near_pass : (x : ℕ) {old mid : List Bool} → Adds (IsNearBefore m nodes wires x) old mid →
          (has_number nodes (node_of_cross m x) && (has_number wires (ends_of m x).0 && has_number wires (ends_of m x).1)) ≡ false →
          Adds (IsNearBefore m nodes wires (x + 1)) old mid
      near_pass x a out = adds_same a (more x) from
        where
          from : (y : ℕ) → IsNearBefore m nodes wires (x + 1) y → IsNearBefore m nodes wires x y
          from y p = by (below_or x y p.early)
            where
              by : (y < x) ⊎ (y ≡ x) → IsNearBefore m nodes wires x y
              by (inl l) = record { early = l; near = p.near }
              by (inr s) = absurd (false≢true (sym out ∙ near_is x (subst (IsNearCross m nodes wires) s p.near)))

module _ (i : ImageValue) (nodes first wires start crosses : List Bool) (used : AreUsed i first) (involved : AreInvolved i nodes)
    (sites : HasSites i.config.shape) (meetings : HasMeetings i.config.shape)
    (sides : Adds (OfMarked nodes (IsOfNode i.config.shape) (nodes_of i.config.shape)) first wires)
    (nothing : start ≡ replicate (crosses_of i.config.shape) false)
    (between : Adds (IsNearBefore i.config.shape nodes wires (crosses_of i.config.shape)) start crosses) where
  abbrev m : Shape
  m = i.config.shape

  node_within : (n : ℕ) → IsInvolved i n → n < nodes_of m
  node_within n is = let below = marked_within nodes n (involved.all n is) in let len = involved.len in omega (arith, below, len)

  of_node : (n w : ℕ) → IsInvolved i n → IsOfNode m n w → has_number wires w ≡ true
  of_node n w is p = sides.all w (record { place = n; early = node_within n is; marked = involved.all n is; is = p })

  port_on : (n w : ℕ) → 0 < n → (k : ℕ) × (k < own_ports_of m n) × (w ≡ port_at m n k) → IsOfNode m n w
  port_on zero w l s = absurd (let no : ⊥ = omega (arith, l) in no)
  port_on (suc n) w l s = on_own (record { place = s.0; early = s.1; wire = s.2 })

  all_wires : (w : ℕ) → IsSurroundingWire i w → has_number wires w ≡ true
  all_wires w (used_wire u) = sides.stays w (used.all w u)
  all_wires w (node_line n is l) = let s = sites.some_line n w l in of_node n w is (on_lines (record { place = s.0; early = s.1; wire = s.2 }))
  all_wires w (node_port n is p) = of_node n w is (port_on n w (meetings.port_within n w p).0 (sites.some_port n w p))
  all_wires w (root_pin k is b e) = of_node 0 w is (on_own (record { place = k; early = b; wire = e }))

  own_near : (n w : ℕ) → IsInvolved i n → n < nodes_of m → IsOnSide m Own n w → IsSurroundingWire i w
  own_near zero w is l q = root_pin q.place is q.early q.wire
  own_near (suc n) w is l q = node_port (suc n) is (subst (IsPort m (suc n)) (sym q.wire) (sites.port (suc n) q.place l q.early))

  near : (n w : ℕ) → IsInvolved i n → n < nodes_of m → IsOfNode m n w → IsSurroundingWire i w
  near n w is l (on_own q) = own_near n w is l q
  near n w is l (on_lines q) = node_line n is (subst (IsLine m n) (sym q.wire) (sites.line n q.place l q.early))

  only_wires : (w : ℕ) → has_number wires w ≡ true → IsSurroundingWire i w
  only_wires w h = by (sides.only w h)
    where
      by : (has_number first w ≡ true) ⊎ OfMarked nodes (IsOfNode m) (nodes_of m) w → IsSurroundingWire i w
      by (inl u) = used_wire (used.only w u)
      by (inr p) = near p.place w (involved.only p.place p.marked) p.early p.is

  all_crosses : (x : ℕ) → IsSurroundingCross i x → has_number crosses x ≡ true
  all_crosses x s = between.all x (record {
    early = s.within;
    near = record { node = involved.all (node_of_cross m x) s.node; tap = all_wires (ends_of m x).0 s.tap; line = all_wires (ends_of m x).1 s.line };
  })

  only_crosses : (x : ℕ) → has_number crosses x ≡ true → IsSurroundingCross i x
  only_crosses x h = by (between.only x h)
    where
      by : (has_number start x ≡ true) ⊎ IsNearBefore m nodes wires (crosses_of m) x → IsSurroundingCross i x
      by (inl none) = absurd (none_marked (crosses_of m) x (subst (λ (z : List Bool). has_number z x ≡ true) nothing none))
      by (inr p) = record {
        within = p.early;
        node = involved.only (node_of_cross m x) p.near.node;
        tap = only_wires (ends_of m x).0 p.near.tap;
        line = only_wires (ends_of m x).1 p.near.line;
      }

  pub surroundings : AreSurroundings i (record { wires = wires; crosses = crosses })
  surroundings = record { wires = all_wires; crosses = all_crosses; only_wires = only_wires; only_crosses = only_crosses }

-- the marks of the code, over the shape that it was lent
pub surroundings_over : (i : ImageValue) (m : Shape) (e : m ≡ i.config.shape) (nodes first wires start crosses : List Bool) → AreUsed i first → AreInvolved i nodes → HasSites i.config.shape → HasMeetings i.config.shape →
    Adds (OfMarked nodes (IsOfNode m) (nodes_of m)) first wires → start ≡ replicate (crosses_of i.config.shape) false → Adds (IsNearBefore m nodes wires (crosses_of m)) start crosses → AreSurroundings i (record { wires = wires; crosses = crosses })
surroundings_over i m e nodes first wires start crosses used involved sites meetings sides nothing between =
    surroundings i nodes first wires start crosses used involved sites meetings
    (subst (λ (s : Shape). Adds (OfMarked nodes (IsOfNode s) (nodes_of s)) first wires) e sides) nothing
    (subst (λ (s : Shape). Adds (IsNearBefore s nodes wires (crosses_of s)) start crosses) e between)
