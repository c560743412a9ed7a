-- The nodes that an image involves, as they are marked.
use Rattle.std.proofs.Common.{◌≡◌, ◌≢◌, ◌⊎◌, ℕ, ◌+◌, ◌<◌, ◌≤◌, Bool, true, false, Some, None, List, length, refl, sym, ap, ◌∙◌, subst, inl, inr, arith, replicate}
use Rattle.diag_check.proofs.Vocabulary.{set, cases_eq, false≢true, length-set, length-replicate, has_number, Shape, ImageValue, IsImage}
use Rattle.diag_check.proofs.Vocabulary.{IsInvolved, by_wire, by_cross, Uses, at_line, Adds, IsNodeAmong, Rises, AreUsed, AreInvolved}
use Rattle.diag_check.proofs.Vocabulary.{below_or, marked_within, marked_here, marked_still, marked_from, none_marked, some_same}
use Rattle.machine_shape.specs.Vocabulary.{IsTree, HasMeetings, HasParents, wires_of, nodes_of, node_of, node_of_cross, parent_of, ends_of, IsAbove, itself, below}
use Rattle.diag_check.proofs.Marking.{adds_none, adds_one, adds_same}

module _ (m : Shape) where
  module _ (used : List Bool) where
    pub nodes_none : {marks : List Bool} → Adds (IsNodeAmong m used 0) marks marks
    nodes_none = adds_none (λ x p. let early = p.early in let no : ⊥ = omega (arith, early) in no)

    later : (n y : ℕ) → IsNodeAmong m used n y → IsNodeAmong m used (n + 1) y
    later n y p = record { wire = p.wire; early = (let early = p.early in omega (arith, early)); marked = p.marked; is = p.is }

    pub nodes_next : (n node : ℕ) {old mid : List Bool} → Adds (IsNodeAmong m used n) old mid → has_number used n ≡ true → node ≡ node_of m n → node < length mid → Adds (IsNodeAmong m used (n + 1)) old (set mid node true)
    nodes_next n node a marked e within = adds_one node a within (later n) (record { wire = n; early = omega arith; marked = marked; is = e }) from
      where
        from : (y : ℕ) → IsNodeAmong m used (n + 1) y → IsNodeAmong m used n y ⊎ (y ≡ node)
        from y p = by (below_or n p.wire p.early)
          where
            by : (p.wire < n) ⊎ (p.wire ≡ n) → IsNodeAmong m used n y ⊎ (y ≡ node)
            by (inl l) = inl (record { wire = p.wire; early = l; marked = p.marked; is = p.is })
            by (inr s) = inr (p.is ∙ ap (node_of m) s ∙ sym e)

    pub nodes_pass : (n : ℕ) {old mid : List Bool} → Adds (IsNodeAmong m used n) old mid → has_number used n ≡ false → Adds (IsNodeAmong m used (n + 1)) old mid
    nodes_pass n a out = adds_same a (later n) from
      where
        from : (y : ℕ) → IsNodeAmong m used (n + 1) y → IsNodeAmong m used n y
        from y p = by (below_or n p.wire p.early)
          where
            by : (p.wire < n) ⊎ (p.wire ≡ n) → IsNodeAmong m used n y
            by (inl l) = record { wire = p.wire; early = l; marked = p.marked; is = p.is }
            by (inr s) = absurd (false≢true (sym out ∙ ap (has_number used) (sym s) ∙ p.marked))

  -- what is above a node is above those below it
  above_up : {p q c : ℕ} → parent_of m p ≡ Some q → IsAbove m p c → IsAbove m q c
  above_up e itself = below itself e
  above_up e (below a f) = below (above_up e a) f

  module _ (nodes : List Bool) where
    pub rises_first : length nodes ≡ nodes_of m → Rises m nodes nodes (nodes_of m)
    rises_first len = record {
      len = refl;
      stays = λ n h. h;
      above = λ n h. (n, h, itself);
      up = λ c p past h e. absurd (let within = marked_within nodes c h in let no : ⊥ = omega (arith, within, len, past) in no);
    }

    pub rises_pass : (p : ℕ) {marks : List Bool} → Rises m nodes marks (p + 1) → (has_number marks p ≡ false) ⊎ (parent_of m p ≡ None) → Rises m nodes marks p
    rises_pass p {marks} r why = record { len = r.len; stays = r.stays; above = r.above; up = λ c q from h e. by c q (cases_eq c p) from h e }
      where
        no_more : (q : ℕ) → (has_number marks p ≡ false) ⊎ (parent_of m p ≡ None) → has_number marks p ≡ true → parent_of m p ≡ Some q → ⊥
        no_more q (inl out) h e = false≢true (sym out ∙ h)
        no_more q (inr none) h e = let f : None ≡ Some q = sym none ∙ e in cc

        by : (c q : ℕ) → (c ≡ p) ⊎ (c ≡ p → ⊥) → p ≤ c → has_number marks c ≡ true → parent_of m c ≡ Some q → has_number marks q ≡ true
        by c q (inl s) from h e = absurd (no_more q why (ap (has_number marks) (sym s) ∙ h) (ap (parent_of m) (sym s) ∙ e))
        by c q (inr other) from h e = r.up c q (omega arith) h e

    pub rises_next : (p q : ℕ) {marks : List Bool} → HasParents m → Rises m nodes marks (p + 1) → has_number marks p ≡ true → parent_of m p ≡ Some q → q < length marks → Rises m nodes (set marks q true) p
    rises_next p q {marks} parents r marked parent within = record {
      len = length-set marks q true ∙ r.len;
      stays = λ n h. marked_still marks q within n (r.stays n h);
      above = λ n h. by_above n (marked_from marks q n h);
      up = λ c s from h e. by_up c s (marked_from marks q c h) (cases_eq c p) from e;
    }
      where
        by_above : (n : ℕ) → (has_number marks n ≡ true) ⊎ (n ≡ q) → (c : ℕ) × (has_number nodes c ≡ true) × IsAbove m n c
        by_above n (inl h) = r.above n h
        by_above n (inr s) = let a = r.above p marked in (a.0, a.1, subst (λ k. IsAbove m k a.0) (sym s) (above_up parent a.2))

        by_up : (c s : ℕ) → (has_number marks c ≡ true) ⊎ (c ≡ q) → (c ≡ p) ⊎ (c ≡ p → ⊥) → p ≤ c → parent_of m c ≡ Some s → has_number (set marks q true) s ≡ true
        by_up c s (inl h) (inl at) from e = ap (has_number (set marks q true)) (some_same (sym e ∙ ap (parent_of m) at ∙ parent)) ∙ marked_here marks q within
        by_up c s (inl h) (inr other) from e = marked_still marks q within s (r.up c s (omega arith) h e)
        by_up c s (inr at) k from e = absurd (let before = parents.before p q parent in let no : ⊥ = omega (arith, before, at, from) in no)

    -- at the end all that is above a marked node is marked
    rises_all : {marks : List Bool} → Rises m nodes marks 0 → {n c : ℕ} → IsAbove m n c → has_number marks c ≡ true → has_number marks n ≡ true
    rises_all r itself h = h
    rises_all r (below {p} {k} a e) h = rises_all r a (r.up k p (omega arith) h e)

module _ (i : ImageValue) (used nodes marks : List Bool) (is : IsImage i) (are : AreUsed i used) where
  abbrev m : Shape
  m = i.config.shape

  module _ (len : length nodes ≡ nodes_of m) (adds : Adds (IsNodeAmong m used (wires_of m)) (replicate (nodes_of m) false) nodes) (r : Rises m nodes marks 0) where
    involved_only : (n : ℕ) → has_number marks n ≡ true → IsInvolved i n
    involved_only n h = let a = r.above n h in by a.0 a.2 (adds.only a.0 a.1)
      where
        by : (c : ℕ) → IsAbove m n c → (has_number (replicate (nodes_of m) false) c ≡ true) ⊎ IsNodeAmong m used (wires_of m) c → IsInvolved i n
        by c above (inl none) = absurd (none_marked (nodes_of m) c none)
        by c above (inr p) = by_wire p.wire (are.only p.wire p.marked) (subst (IsAbove m n) p.is above)

    marked_above : (w n : ℕ) → Uses i w → IsAbove m n (node_of m w) → has_number marks n ≡ true
    marked_above w n uses above =
        let marked = are.all w uses in
        let within : w < wires_of m = omega (arith, marked_within used w marked, are.len) in
        rises_all m nodes r above (r.stays (node_of m w) (adds.all (node_of m w) (record { wire = w; early = within; marked = marked; is = refl })))

    pub involved : IsTree m → HasMeetings m → AreInvolved i marks
    involved tree meetings = record { len = r.len ∙ len; only = involved_only; all = by }
      where
        by : (n : ℕ) → IsInvolved i n → has_number marks n ≡ true
        by n (by_wire w uses above) = marked_above w n uses above
        by n (by_cross x closed above) =
            let line = meetings.line x (is.config.crosses x closed) in
            marked_above (ends_of m x).1 n (at_line x closed refl) (subst (IsAbove m n) (sym (tree.line_node (node_of_cross m x) (ends_of m x).1 line)) above)

-- the marks of the code, over the shape that it was lent
pub involved_of : (i : ImageValue) (m : Shape) (e : m ≡ i.config.shape) (used start nodes marks : List Bool) → IsImage i → AreUsed i used → start ≡ replicate (nodes_of i.config.shape) false → Adds (IsNodeAmong m used (wires_of m)) start nodes → Rises m nodes marks 0 →
    IsTree i.config.shape → HasMeetings i.config.shape → AreInvolved i marks
involved_of i m e used start nodes marks is are nothing adds r tree meetings = involved i used nodes marks is are
    (adds.len ∙ ap length nothing ∙ length-replicate (nodes_of i.config.shape) false)
    (subst (λ (s : Shape). Adds (IsNodeAmong s used (wires_of s)) (replicate (nodes_of i.config.shape) false) nodes) e (subst (λ (z : List Bool). Adds (IsNodeAmong m used (wires_of m)) z nodes) nothing adds))
    (subst (λ (s : Shape). Rises s nodes marks 0) e r) tree meetings
