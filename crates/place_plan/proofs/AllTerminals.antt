-- The list of terminals has the terminals.
use Rattle.std.proofs.Common.{◌≡◌, ◌⊎◌, ℕ, ◌<◌, List, [], ◌∷◌, ◌++◌, map, length, get_or, refl, sym, ap, ◌∙◌, subst, inl, inr, arith, ◌↔◌}
use Rattle.place_plan.proofs.Vocabulary.{Contains, flat_map, range_with_len, get_or_default, Contains-append_left, Contains-append_right}
use Rattle.place_plan.proofs.Vocabulary.{Contains-append_cases, Shape, Terminal, Plan, Network, table_at, pin_wire, table_wire, net_of}
use Rattle.std.proofs.lemmas.List.FromFn.{get_or-map-range_with_len, length-map-range_with_len}
use Rattle.map_network.specs.declared.source.Source.TheVariants as source
use Rattle.place_plan.specs.Vocabulary.{nth_of, places, place_of, IsTerminal, drives, reads, shows, first_input, drive_by, give_by, read_by, show_by, drive_terminals, gives_of, reads_at, reads_to, shows_of, all_terminals, terminal_for}
use Rattle.place_plan.proofs.Ranges.{in_range, range_below}

module _ {X : Type 0} where
  in_made : (f : ℕ → X) (n : ℕ) (x : X) → Contains (map f (range_with_len 0 n)) x → (i : ℕ) × (i < n) × (f i ≡ x)
  in_made f n x h =
      let l : h.0 < n = subst (λ k. h.0 < k) (length-map-range_with_len f 0 n) h.1 in
      (h.0, l, sym (get_or-map-range_with_len f 0 n h.0 h.0 x l (omega arith)) ∙ h.2)

  made_in : (f : ℕ → X) (n i : ℕ) → i < n → Contains (map f (range_with_len 0 n)) (f i)
  made_in f n i h = (i, subst (λ k. i < k) (sym (length-map-range_with_len f 0 n)) h, get_or-map-range_with_len f 0 n i i (f i) h (omega arith))

  in_flat : (f : ℕ → List X) (ys : List ℕ) (x : X) → Contains (flat_map f ys) x → (y : ℕ) × Contains ys y × Contains (f y) x
  in_flat f [] x h = absurd (let l = h.1 in omega arith)
  in_flat f (y ∷ ys) x h = by (Contains-append_cases (f y) (flat_map f ys) x h) (λ q. in_flat f ys x q)
    where
      by : Contains (f y) x ⊎ Contains (flat_map f ys) x → (Contains (flat_map f ys) x → (z : ℕ) × Contains ys z × Contains (f z) x) → (z : ℕ) × Contains (y ∷ ys) z × Contains (f z) x
      by (inl p) more = (y, (0, omega arith, refl), p)
      by (inr q) more = let r = more q in (r.0, Contains-append_right (y ∷ []) ys r.0 r.1, r.2)

  flat_in : (f : ℕ → List X) (ys : List ℕ) (y : ℕ) (x : X) → Contains ys y → Contains (f y) x → Contains (flat_map f ys) x
  flat_in f [] y x h p = absurd (let l = h.1 in omega arith)
  flat_in f (z ∷ ys) y x h p = by (Contains-append_cases (z ∷ []) ys y h) (λ q. flat_in f ys y x q p)
    where
      by : Contains (z ∷ []) y ⊎ Contains ys y → (Contains ys y → Contains (flat_map f ys) x) → Contains (f z ++ flat_map f ys) x
      by (inl q) more = Contains-append_left (f z) (flat_map f ys) x (only q.0 q.1 q.2)
        where
          only : (k : ℕ) → k < 1 → get_or (z ∷ []) k y ≡ y → Contains (f z) x
          only k l e = subst (λ w. Contains (f w) x) (sym (ap (λ k. get_or (z ∷ []) k y) (let s : 0 ≡ k = omega arith in s) ∙ e)) p
      by (inr q) more = Contains-append_right (f z) (flat_map f ys) x (more q)

module _ (m : Shape) (n : Network) (p : Plan) (tables : length p.tables ≡ length n.tables) (inputs : length p.inputs ≡ n.inputs) (outputs : length p.outputs ≡ length n.outputs) where
  Is : Terminal → Type 0
  Is t = IsTerminal m n p t.net.0 t.wire.0

  listed : (t : Terminal) → Contains (all_terminals m n p) t → Is t
  unfolding Is
  listed t h = by (Contains-append_cases ((drive_terminals m p.inputs (length p.inputs) ++ gives_of m n.inputs (places p) (length p.tables)) ++ reads_to m n (places p) (length p.tables)) (shows_of m n.inputs p.outputs n.outputs (length p.outputs)) t h)
    where
      at_read : (j : ℕ) → j < length n.tables → Contains (reads_at m n (places p) j) t → Is t
      at_read j l q = let r = in_made _ _ t q in subst Is r.2 (reads j r.0 (get_or (table_at n j).ins r.0 first_input) l r.1 (get_or_default (table_at n j).ins r.0 _ first_input r.1))

      at_drive : Contains (drive_terminals m p.inputs (length p.inputs)) t ⊎ Contains (gives_of m n.inputs (places p) (length p.tables)) t → Is t
      at_drive (inl q) = let r = in_made _ _ t q in subst Is r.2 (drives (source.Input r.0) (let l = r.1 in omega arith))
      at_drive (inr q) = let r = in_made _ _ t q in subst Is r.2 (drives (source.Table r.0) (let l = r.1 in omega arith))

      before : Contains (drive_terminals m p.inputs (length p.inputs) ++ gives_of m n.inputs (places p) (length p.tables)) t ⊎ Contains (reads_to m n (places p) (length p.tables)) t → Is t
      before (inl q) = at_drive (Contains-append_cases _ _ t q)
      before (inr q) = let r = in_flat _ _ t q in at_read r.0 (let l = range_below (length p.tables) r.0 r.1 in omega arith) r.2

      by : Contains ((drive_terminals m p.inputs (length p.inputs) ++ gives_of m n.inputs (places p) (length p.tables)) ++ reads_to m n (places p) (length p.tables)) t ⊎ Contains (shows_of m n.inputs p.outputs n.outputs (length p.outputs)) t → Is t
      by (inl q) = before (Contains-append_cases _ _ t q)
      by (inr q) = let r = in_made _ _ t q in let l : r.0 < length n.outputs = (let x = r.1 in omega arith) in subst Is r.2 (shows r.0 (get_or n.outputs r.0 first_input) l (get_or_default n.outputs r.0 _ first_input l))

  -- the four parts of the list, and their members
  Ds : List Terminal
  Ds = drive_terminals m p.inputs (length p.inputs)

  Gs : List Terminal
  Gs = gives_of m n.inputs (places p) (length p.tables)

  Rs : List Terminal
  Rs = reads_to m n (places p) (length p.tables)

  Ss : List Terminal
  Ss = shows_of m n.inputs p.outputs n.outputs (length p.outputs)

  drive_at : ℕ → Terminal
  drive_at = drive_by m p.inputs

  give_at : ℕ → Terminal
  give_at = give_by m n.inputs (places p)

  read_at : ℕ → ℕ → Terminal
  read_at j k = read_by m n.inputs (place_of p j) (table_at n j).ins k

  show_at : ℕ → Terminal
  show_at = show_by m n.inputs p.outputs n.outputs

  terminal_list : {k w : ℕ} → IsTerminal m n p k w → Contains (all_terminals m n p) (terminal_for k w)
  unfolding Ds Gs Rs Ss drive_at give_at read_at show_at
  terminal_list (drives (source.Input k) h) = Contains-append_left ((Ds ++ Gs) ++ Rs) Ss _ (Contains-append_left (Ds ++ Gs) Rs _ (Contains-append_left Ds Gs _ (made_in drive_at (length p.inputs) k (omega arith))))
  terminal_list (drives (source.Table j) h) = Contains-append_left ((Ds ++ Gs) ++ Rs) Ss _ (Contains-append_left (Ds ++ Gs) Rs _ (Contains-append_right Ds Gs _ (made_in give_at (length p.tables) j (omega arith))))
  terminal_list (reads j k s h l e) =
      let here : Contains (reads_at m n (places p) j) (read_at j k) = made_in (read_at j) (length (table_at n j).ins) k l in
      let all : Contains Rs (read_at j k) = flat_in (reads_at m n (places p)) (range_with_len 0 (length p.tables)) j (read_at j k) (in_range (length p.tables) j (omega arith)) here in
      let same : get_or (table_at n j).ins k first_input ≡ s = get_or_default (table_at n j).ins k first_input s l ∙ e in
      subst (λ q. Contains (all_terminals m n p) (terminal_for (net_of n q) (table_wire m (place_of p j) k))) same (Contains-append_left ((Ds ++ Gs) ++ Rs) Ss _ (Contains-append_right (Ds ++ Gs) Rs _ all))
  terminal_list (shows o s h e) =
      let same : get_or n.outputs o first_input ≡ s = get_or_default n.outputs o first_input s h ∙ e in
      subst (λ q. Contains (all_terminals m n p) (terminal_for (net_of n q) (pin_wire m (nth_of p.outputs o)))) same (Contains-append_right ((Ds ++ Gs) ++ Rs) Ss _ (made_in show_at (length p.outputs) o (omega arith)))

  pub all_are : (k w : ℕ) → Contains (all_terminals m n p) (terminal_for k w) ↔ IsTerminal m n p k w
  unfolding Is
  all_are k w = (λ h. listed (terminal_for k w) h, λ t. terminal_list t)
