-- The nets and the terminals of a network that stands in a joint one.
use Rattle.std.proofs.Common.{◌≡◌, ◌⊎◌, ℕ, ◌+◌, ◌-◌, ◌<◌, ◌≤◌, length, get_or, refl, sym, ap, ◌∙◌, subst, inl, inr, arith}
use Rattle.place_pair.proofs.Vocabulary.{cases_lt, get_or-map, get_or_default, length-map, Shape, pin_wire, table_wire, Defects, Source}
use Rattle.place_pair.proofs.Vocabulary.{Input, Table, NetTable, Network, no_table, table_at, IsSourceOf, IsNetwork, Plan, nth_of, Site}
use Rattle.place_pair.proofs.Vocabulary.{part, moved, moved_table, IsFrom, IsOwnSource, StandsIn, Owns}
use Rattle.place_plan.specs.Plans.{number_of, places, place_of, net_of, nets_in, IsTerminal, drives, reads, shows}
use Rattle.place_pair.proofs.Lists.{nth_part, map_part}
use Rattle.place_pair.proofs.Behaving.{table_there, within_there}

-- its part of a plan
abbrev pub plan_of : Site → Network → Plan → Plan
plan_of s n p = record { tables = part s.table (length n.tables) p.tables; inputs = part s.input n.inputs p.inputs; outputs = part s.output (length n.outputs) p.outputs }

-- net k of the network is net q of the joint one
abbrev pub IsNet : Site → Network → ℕ → ℕ → Type 0
IsNet s n k q = ((k < n.inputs) × (q ≡ s.input + k)) ⊎ ((n.inputs ≤ k) × (k < nets_in n) × (q + n.inputs ≡ s.net + k))

module _ (s : Site) (n joint : Network) (stands : StandsIn s n joint) where
  net_of_source : (x : Source) → IsSourceOf n x → IsNet s n (net_of n x) (net_of joint (moved s.input s.table x))
  net_of_source (Input k) h = inl (h, refl)
  net_of_source (Table j) h = inr (omega arith, omega (arith, h), let e = stands.net in omega (arith, e))

  pub net_one : (k q r : ℕ) → IsNet s n k q → IsNet s n k r → q ≡ r
  net_one k q r (inl x) (inl y) = x.1 ∙ sym y.1
  net_one k q r (inl x) (inr y) = absurd (let no : ⊥ = omega (arith, x.0, y.0) in no)
  net_one k q r (inr x) (inl y) = absurd (let no : ⊥ = omega (arith, x.0, y.0) in no)
  net_one k q r (inr x) (inr y) = omega (arith, x.2, y.2)

  pub one_net_of : (k l q : ℕ) → IsNet s n k q → IsNet s n l q → k ≡ l
  one_net_of k l q (inl x) (inl y) = omega (arith, x.1, y.1)
  one_net_of k l q (inl x) (inr y) = absurd (let e = stands.net in let i = stands.inputs in let no : ⊥ = omega (arith, x.0, x.1, y.0, y.2, e, i) in no)
  one_net_of k l q (inr x) (inl y) = absurd (let e = stands.net in let i = stands.inputs in let no : ⊥ = omega (arith, y.0, y.1, x.0, x.2, e, i) in no)
  one_net_of k l q (inr x) (inr y) = omega (arith, x.2, y.2)

  pub owns_net : (k q : ℕ) → IsNet s n k q → Owns s n q
  owns_net k q (inl x) = inl (omega (arith, x.1), omega (arith, x.0, x.1))
  owns_net k q (inr x) = inr (omega (arith, x.0, x.2), omega (arith, x.0, x.1, x.2))

  pub net_owned : (q : ℕ) → Owns s n q → (k : ℕ) × IsNet s n k q
  net_owned q (inl x) = (q - s.input, inl (omega (arith, x.0, x.1), omega (arith, x.0)))
  net_owned q (inr x) = (n.inputs + (q - s.net), inr (omega arith, omega (arith, x.0, x.1), omega (arith, x.0)))

  own_source : (x : Source) → IsSourceOf joint x → (k : ℕ) → IsNet s n k (net_of joint x) → IsOwnSource s n x
  own_source (Input i) h k (inl x) = (omega (arith, x.1), omega (arith, x.0, x.1))
  own_source (Input i) h k (inr x) = absurd (let e = stands.net in let no : ⊥ = omega (arith, h, x.0, x.2, e) in no)
  own_source (Table j) h k (inl x) = absurd (let i = stands.inputs in let no : ⊥ = omega (arith, x.0, x.1, i) in no)
  own_source (Table j) h k (inr x) = (let e = stands.net in omega (arith, x.0, x.2, e), let e = stands.net in omega (arith, x.0, x.1, x.2, e))

  module _ (m : Shape) (d : Defects) (p : Plan) (net : IsNetwork n) (all : IsNetwork joint) where
    pub seat : (j : ℕ) → j < length n.tables → place_of (plan_of s n p) j ≡ place_of p (s.table + j)
    seat j h = ap (λ xs. get_or xs j 0) (sym (map_part number_of s.table (length n.tables) p.tables)) ∙ nth_part s.table (length n.tables) (places p) j 0 h

    input_pin : (k : ℕ) → k < n.inputs → nth_of (plan_of s n p).inputs k ≡ nth_of p.inputs (s.input + k)
    input_pin k h = nth_part s.input n.inputs p.inputs k 0 h

    output_pin : (o : ℕ) → o < length n.outputs → nth_of (plan_of s n p).outputs o ≡ nth_of p.outputs (s.output + o)
    output_pin o h = nth_part s.output (length n.outputs) p.outputs o 0 h

    -- its terminals are those of its nets there
    pub terminal_there : {k w : ℕ} → IsTerminal m n (plan_of s n p) k w → (q : ℕ) × IsNet s n k q × IsTerminal m joint p q w
    terminal_there (drives (Input k) h) = (
      s.input + k,
      inl (h, refl),
      subst (IsTerminal m joint p (s.input + k)) (sym (ap (pin_wire m) (input_pin k h))) (drives (Input (s.input + k)) (let i = stands.inputs in omega (arith, h, i))),
    )
    terminal_there (drives (Table j) h) = (
      net_of joint (Table (s.table + j)),
      net_of_source (Table j) h,
      subst (IsTerminal m joint p (net_of joint (Table (s.table + j)))) (sym (ap (λ t. table_wire m t 6) (seat j h))) (drives (Table (s.table + j)) (within_there s n joint stands net j h)),
    )
    terminal_there (reads j c x h l e) = (
      net_of joint (moved s.input s.table x),
      net_of_source x (subst (IsSourceOf n) e (net.sources j no_table h c x l)),
      subst (IsTerminal m joint p (net_of joint (moved s.input s.table x))) (sym (ap (λ t. table_wire m t c) (seat j h)))
          (reads (s.table + j) c (moved s.input s.table x) (within_there s n joint stands net j h)
          (subst (λ (t : NetTable). c < length t.ins) (sym (table_there s n joint stands net j h)) (let k = length-map (table_at n j).ins (moved s.input s.table) in omega (arith, l, k)))
          (ap (λ (t : NetTable). get_or t.ins c (moved s.input s.table x)) (table_there s n joint stands net j h) ∙ get_or-map (moved s.input s.table) (table_at n j).ins c x (moved s.input s.table x) l ∙ ap (moved s.input s.table) e)),
    )
    terminal_there (shows o x h e) = (
      net_of joint (moved s.input s.table x),
      net_of_source x (subst (IsSourceOf n) e (net.outputs o x h)),
      subst (IsTerminal m joint p (net_of joint (moved s.input s.table x))) (sym (ap (pin_wire m) (output_pin o h)))
          (shows (s.output + o) (moved s.input s.table x) (let l = stands.outputs_within in omega (arith, h, l))
          (sym (nth_part s.output (length n.outputs) joint.outputs o (moved s.input s.table x) h) ∙ ap (λ xs. get_or xs o (moved s.input s.table x)) stands.outputs ∙ get_or-map (moved s.input s.table) n.outputs o x (moved s.input s.table x) h ∙ ap (moved s.input s.table) e)),
    )

    renamed_net : (k l w u : ℕ) → k ≡ l → w ≡ u → IsTerminal m n (plan_of s n p) k w → IsTerminal m n (plan_of s n p) l u
    renamed_net k l w u e f t = subst (IsTerminal m n (plan_of s n p) l) f (subst (λ z. IsTerminal m n (plan_of s n p) z w) e t)

    -- whether a table or an output there is one of its own
    inside : (first count j : ℕ) → IsFrom first count j ⊎ ¬ IsFrom first count j
    inside first count j = by (cases_lt j first) (cases_lt j (first + count))
      where
        by : (j < first) ⊎ (first ≤ j) → (j < first + count) ⊎ (first + count ≤ j) → IsFrom first count j ⊎ ¬ IsFrom first count j
        by (inl l) r = inr (λ is. let a = is.0 in omega (arith, l, a))
        by (inr g) (inl l) = inl (g, l)
        by (inr g) (inr h) = inr (λ is. let a = is.1 in omega (arith, h, a))

    -- a terminal of a net of its own is one of its terminals
    pub terminal_back : {q w : ℕ} → IsTerminal m joint p q w → (k : ℕ) → IsNet s n k q → IsTerminal m n (plan_of s n p) k w
    terminal_back (drives (Input i) h) k is = by is
      where
        by : IsNet s n k i → IsTerminal m n (plan_of s n p) k (pin_wire m (nth_of p.inputs i))
        by (inl r) = subst (IsTerminal m n (plan_of s n p) k) (ap (pin_wire m) (input_pin k r.0) ∙ ap (λ z. pin_wire m (nth_of p.inputs z)) (sym r.1)) (drives (Input k) r.0)
        by (inr r) = absurd (let e = stands.net in let no : ⊥ = omega (arith, h, r.0, r.2, e) in no)
    terminal_back (drives (Table j) h) k is = by is
      where
        by : IsNet s n k (joint.inputs + j) → IsTerminal m n (plan_of s n p) k (table_wire m (place_of p j) 6)
        by (inl r) = absurd (let i = stands.inputs in let no : ⊥ = omega (arith, r.0, r.1, i) in no)
        by (inr r) =
            let e = stands.net in
            let at : j ≡ s.table + (k - n.inputs) = omega (arith, r.0, r.2, e) in
            let l : k - n.inputs < length n.tables = omega (arith, r.0, r.1) in
            renamed_net (n.inputs + (k - n.inputs)) k (table_wire m (place_of (plan_of s n p) (k - n.inputs)) 6) (table_wire m (place_of p j) 6) (omega (arith, r.0))
            (ap (λ t. table_wire m t 6) (seat (k - n.inputs) l ∙ ap (place_of p) (sym at))) (drives (Table (k - n.inputs)) l)
    terminal_back (reads j c x h l e) k is = by (inside s.table (length n.tables) j)
      where
        own : IsOwnSource s n x
        own = own_source x (subst (IsSourceOf joint) e (all.sources j no_table h c x l)) k is

        by : IsFrom s.table (length n.tables) j ⊎ ¬ IsFrom s.table (length n.tables) j → IsTerminal m n (plan_of s n p) k (table_wire m (place_of p j) c)
        by (inr out) = absurd (stands.others j x h out (c, l, e) own)
        by (inl r) =
            let i : ℕ = j - s.table in
            let at : s.table + (j - s.table) ≡ j = omega (arith, r.0) in
            let li : j - s.table < length n.tables = omega (arith, r.0, r.1) in
            let here : table_at joint j ≡ moved_table s.input s.table (table_at n (j - s.table)) = ap (table_at joint) (sym at) ∙ table_there s n joint stands net (j - s.table) li in
            let lc : c < length (table_at n (j - s.table)).ins = (let q = length-map (table_at n (j - s.table)).ins (moved s.input s.table) in let z = subst (λ (t : NetTable). c < length t.ins) here l in omega (arith, z, q)) in
            let y : Source = get_or (table_at n (j - s.table)).ins c (Input 0) in
            let same : moved s.input s.table y ≡ x = sym (get_or-map (moved s.input s.table) (table_at n (j - s.table)).ins c (Input 0) x lc) ∙ sym (ap (λ (t : NetTable). get_or t.ins c x) here) ∙ e in
            let mine = net_of_source y (net.sources (j - s.table) no_table li c (Input 0) lc) in
            let num : net_of n y ≡ k = one_net_of (net_of n y) k (net_of joint x) (subst (λ z. IsNet s n (net_of n y) (net_of joint z)) same mine) is in
            renamed_net (net_of n y) k (table_wire m (place_of (plan_of s n p) (j - s.table)) c) (table_wire m (place_of p j) c) num
            (ap (λ t. table_wire m t c) (seat (j - s.table) li ∙ ap (place_of p) at)) (reads (j - s.table) c y li lc (get_or_default (table_at n (j - s.table)).ins c y (Input 0) lc))
    terminal_back (shows o x h e) k is = by (inside s.output (length n.outputs) o)
      where
        own : IsOwnSource s n x
        own = own_source x (subst (IsSourceOf joint) e (all.outputs o x h)) k is

        by : IsFrom s.output (length n.outputs) o ⊎ ¬ IsFrom s.output (length n.outputs) o → IsTerminal m n (plan_of s n p) k (pin_wire m (nth_of p.outputs o))
        by (inr out) = absurd (stands.other_outputs o x h out e own)
        by (inl r) =
            let at : s.output + (o - s.output) ≡ o = omega (arith, r.0) in
            let li : o - s.output < length n.outputs = omega (arith, r.0, r.1) in
            let y : Source = get_or n.outputs (o - s.output) (Input 0) in
            let same : moved s.input s.table y ≡ x = sym (get_or-map (moved s.input s.table) n.outputs (o - s.output) (Input 0) x li) ∙ sym (ap (λ xs. get_or xs (o - s.output) x) stands.outputs) ∙ nth_part s.output (length n.outputs) joint.outputs (o - s.output) x li ∙ ap (λ z. get_or joint.outputs z x) at ∙ e in
            let mine = net_of_source y (net.outputs (o - s.output) (Input 0) li) in
            let num : net_of n y ≡ k = one_net_of (net_of n y) k (net_of joint x) (subst (λ z. IsNet s n (net_of n y) (net_of joint z)) same mine) is in
            renamed_net (net_of n y) k (pin_wire m (nth_of (plan_of s n p).outputs (o - s.output))) (pin_wire m (nth_of p.outputs o)) num
            (ap (pin_wire m) (output_pin (o - s.output) li ∙ ap (nth_of p.outputs) at)) (shows (o - s.output) y li (get_or_default n.outputs (o - s.output) y (Input 0) li))
