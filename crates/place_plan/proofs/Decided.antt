-- What suffices isn't short, and one resource is the first to be short.
use Rattle.std.proofs.Common.{◌≡◌, ◌≢◌, ℕ, zero, suc, ◌<◌, ◌≤◌, List, [], ◌∷◌, length, get_or, ◌⊎◌, inl, inr, refl, sym, ap, ◌∙◌, subst, arith}
use Rattle.place_plan.proofs.Vocabulary.{All, AllPairs, Contains, get_or_default, All-head, All-tail, All-contains, Contains-get_or}
use Rattle.place_plan.proofs.Vocabulary.{cases_eq, cases_order, Shape, Defects, Need, Resource, Tables, Pins, Ports, Lines, Short}
use Rattle.place_plan.specs.Room.{Pick, CrossesAt, VisitsAt, IsFreePort, Serves, ArePorts, PortsSuffice, PortsAreShort, IsChoiceAt, AreShort, NodeSuffices, IsMet, IsUnmet, IsShortOf, Suffices}
use Rattle.place_plan.proofs.Counting.{pigeon}
use Rattle.place_plan.proofs.Those.{those_unique}

-- the lines of the nets of a set, in order
record Chosen (picks : List Pick) (set : List ℕ) : Type 0 where
  pub ws : List ℕ
  pub sized : length ws ≡ length set
  pub each : (i : ℕ) → i < length set → Contains picks (record { net = get_or set i 0; line = get_or ws i 0 })

chosen_more : (picks : List Pick) (n : ℕ) (ns : List ℕ) → (w : ℕ) × Contains picks (record { net = n; line = w }) → Chosen picks ns → Chosen picks (n ∷ ns)
chosen_more picks n ns first rest = record { ws = first.0 ∷ rest.ws; sized = ap suc rest.sized; each = at }
  where
    at : (i : ℕ) → i < suc (length ns) → Contains picks (record { net = get_or (n ∷ ns) i 0; line = get_or (first.0 ∷ rest.ws) i 0 })
    at zero lt = first.1
    at (suc i) lt = rest.each i (omega arith)

choose : (picks : List Pick) (set : List ℕ) → All (λ n. (w : ℕ) × Contains picks (record { net = n; line = w })) set → Chosen picks set
choose picks [] all = record { ws = []; sized = refl; each = λ i lt. absurd (none i lt) }
  where
    none : (i : ℕ) → i < 0 → ⊥
    none i lt = omega arith
choose picks (n ∷ ns) all = chosen_more picks n ns (All-head (λ n. (w : ℕ) × Contains picks (record { net = n; line = w })) n ns all)
    (choose picks ns (All-tail (λ n. (w : ℕ) × Contains picks (record { net = n; line = w })) n ns all))

-- two picks with different nets have different lines
lines_differ : (picks : List Pick) (n m w v : ℕ) → AllPairs (λ p q. p.line ≢ q.line) picks → Contains picks (record { net = n; line = w }) → Contains picks (record { net = m; line = v }) → n ≢ m → w ≢ v
lines_differ picks n m w v apart a b ne e = elim (cases_eq a.0 b.0) [
  | inl q ↦ (let f : get_or picks a.0 p ≡ get_or picks b.0 p = ap (λ i. get_or picks i p) q in ne (ap (λ z. z.net) (sym a.2 ∙ f ∙ sym bp ∙ b.2)))
  | inr k ↦ elim (order a.0 b.0 k) [
    | inl lt ↦ apart a.0 b.0 p lt b.1 (ap (λ z. z.line) a.2 ∙ e ∙ sym (ap (λ z. z.line) (sym bp ∙ b.2)))
    | inr gt ↦ apart b.0 a.0 p gt a.1 (ap (λ z. z.line) (sym bp ∙ b.2) ∙ sym e ∙ sym (ap (λ z. z.line) a.2))
  ]
]
  where
    p : Pick
    p = record { net = n; line = w }

    r : Pick
    r = record { net = m; line = v }

    bp : get_or picks b.0 r ≡ get_or picks b.0 p
    bp = get_or_default picks b.0 r p b.1

    order : (i k : ℕ) → i ≢ k → (i < k) ⊎ (k < i)
    order i k ne = grind arith

differ : (a b : ℕ) → a < b → a ≡ b → ⊥
differ a b lt e = omega arith

module _ (m : Shape) (d : Defects) (count : ℕ) (terminal : ℕ → ℕ → Type 0) where
  pub lines_clash : (n : ℕ) (picks : List Pick) (set : List ℕ) (need have : ℕ) → IsChoiceAt m d count terminal n picks → AreShort m d count terminal n set need have → ⊥
  lines_clash n picks set need have is short = omega (arith, many, short.fewer, short.need_is, short.have_is)
    where
      c : Chosen picks set
      c = choose picks set (λ k x lt. is.given (get_or set k x) (short.within k x lt))

      good : (i : ℕ) → i < length set → Contains short.lines (get_or c.ws i 0)
      good i lt =
          let e = All-contains (λ p. VisitsAt m count terminal n p.net × Serves m d count terminal n p.net p.line) picks (record { net = get_or set i 0; line = get_or c.ws i 0 }) is.each (c.each i lt) in
          short.lines_are.each (get_or c.ws i 0) (get_or set i 0, Contains-get_or set i 0 lt, e.1)

      many : length set ≤ length short.lines
      many = subst (λ z. z ≤ length short.lines) c.sized (pigeon c.ws short.lines
          (λ i k x lt l e.
          let lk : k < length set = omega (arith, c.sized) in
          let li : i < length set = omega arith in
          let up : get_or set i 0 < get_or set k 0 = short.ascending i k 0 lt lk in
          let ne : get_or set i 0 ≢ get_or set k 0 = λ q. differ _ _ up q in
          lines_differ picks (get_or set i 0) (get_or set k 0) (get_or c.ws i 0) (get_or c.ws k 0) is.lines_apart (c.each i li) (c.each k lk) ne (get_or_default c.ws i 0 x (omega arith) ∙ e ∙ get_or_default c.ws k x 0 l))
          (λ k x l. let lk : k < length set = omega (arith, c.sized) in subst (Contains short.lines) (get_or_default c.ws k 0 x l) (good k lk)))

  pub ports_clash : (n : ℕ) (need have : ℕ) → PortsSuffice m d count terminal n → ArePorts m d count terminal n need have → have < need → ⊥
  ports_clash n need have is are lt =
      let a : is.are.crossing ≡ are.crossing = those_unique (CrossesAt m count terminal n) is.are.crossing are.crossing is.are.are_crossing are.are_crossing in
      let b : is.are.ports ≡ are.ports = those_unique (IsFreePort m d n) is.are.ports are.ports is.are.are_ports are.are_ports in
      omega (arith, is.met, is.are.need_is, is.are.have_is, are.need_is, are.have_is, ap length a, ap length b)

  unmet : (q : Need) (s : Short) → IsMet q → IsUnmet q s → ⊥
  unmet q s met u = omega (arith, met, u.2)

  -- what is short breaks what suffices
  pub never_both : (tables pins : Need) (s : Short) → Suffices m d count terminal tables pins → (r : Resource) → IsShortOf r m d count terminal tables pins s → ⊥
  never_both tables pins s is Tables short = unmet tables s is.tables_met short.1
  never_both tables pins s is Pins short = unmet pins s is.pins_met short.2
  never_both tables pins s is Ports short = ports_clash s.node.0 s.need s.have (is.nodes_met s.node.0 short.0.2).ports short.1.0 short.1.1
  never_both tables pins s is Lines short = let q = (is.nodes_met s.node.0 short.0.2).lines in lines_clash s.node.0 q.0 s.nets s.need s.have q.1 short.2

  -- a node at which something is short doesn't suffice
  ports_break : (s : Short) → PortsAreShort m d count terminal s → NodeSuffices m d count terminal s.node.0 → ⊥
  ports_break s short is = ports_clash s.node.0 s.need s.have is.ports short.0 short.1

  lines_break : (s : Short) → AreShort m d count terminal s.node.0 s.nets s.need s.have → NodeSuffices m d count terminal s.node.0 → ⊥
  lines_break s short is = lines_clash s.node.0 is.lines.0 s.nets s.need s.have is.lines.1 short

  same_node : (s t : Short) → (NodeSuffices m d count terminal s.node.0 → ⊥) → (NodeSuffices m d count terminal t.node.0 → ⊥) → ((i : ℕ) → i < s.node.0 → NodeSuffices m d count terminal i) → ((i : ℕ) → i < t.node.0 → NodeSuffices m d count terminal i) → s.node.0 ≡ t.node.0
  same_node s t a b before earlier = by (cases_order s.node.0 t.node.0)
    where
      by : (s.node.0 ≡ t.node.0) ⊎ ((s.node.0 < t.node.0) ⊎ (t.node.0 < s.node.0)) → s.node.0 ≡ t.node.0
      by (inl e) = e
      by (inr (inl l)) = absurd (a (earlier s.node.0 l))
      by (inr (inr l)) = absurd (b (before t.node.0 l))

  abbrev Alike : Resource → Resource → Short → Short → Type 0
  Alike q r s t = (q ≡ r) × (s.node.0 ≡ t.node.0)

  -- one resource, at one node, is the first to be short
  pub one_first : (tables pins : Need) (s t : Short) (q r : Resource) → IsShortOf q m d count terminal tables pins s → IsShortOf r m d count terminal tables pins t → Alike q r s t
  one_first tables pins s t Tables Tables x y = (refl, x.0 ∙ sym y.0)
  one_first tables pins s t Tables Pins x y = absurd (unmet tables s y.0 x.1)
  one_first tables pins s t Tables Ports x y = absurd (unmet tables s y.0.0 x.1)
  one_first tables pins s t Tables Lines x y = absurd (unmet tables s y.0.0 x.1)
  one_first tables pins s t Pins Tables x y = absurd (unmet tables t x.0 y.1)
  one_first tables pins s t Pins Pins x y = (refl, x.1 ∙ sym y.1)
  one_first tables pins s t Pins Ports x y = absurd (unmet pins s y.0.1 x.2)
  one_first tables pins s t Pins Lines x y = absurd (unmet pins s y.0.1 x.2)
  one_first tables pins s t Ports Tables x y = absurd (unmet tables t x.0.0 y.1)
  one_first tables pins s t Ports Pins x y = absurd (unmet pins t x.0.1 y.2)
  one_first tables pins s t Ports Ports x y = (refl, same_node s t (ports_break s x.1) (ports_break t y.1) x.0.3 y.0.3)
  one_first tables pins s t Ports Lines x y =
      let e = same_node s t (ports_break s x.1) (lines_break t y.2) x.0.3 y.0.3 in
      absurd (ports_clash s.node.0 s.need s.have (subst (PortsSuffice m d count terminal) (sym e) y.1) x.1.0 x.1.1)
  one_first tables pins s t Lines Tables x y = absurd (unmet tables t x.0.0 y.1)
  one_first tables pins s t Lines Pins x y = absurd (unmet pins t x.0.1 y.2)
  one_first tables pins s t Lines Ports x y =
      let e = same_node s t (lines_break s x.2) (ports_break t y.1) x.0.3 y.0.3 in
      absurd (ports_clash t.node.0 t.need t.have (subst (PortsSuffice m d count terminal) e x.1) y.1.0 y.1.1)
  one_first tables pins s t Lines Lines x y = (refl, same_node s t (lines_break s x.2) (lines_break t y.2) x.0.3 y.0.3)
