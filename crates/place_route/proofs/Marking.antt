-- Giving wires to nets.
use Rattle.std.proofs.Common.{◌≡◌, ◌≢◌, ◌⊎◌, ℕ, ◌+◌, ◌<◌, ◌≤◌, Some, None, Option, List, [], ◌∷◌, ◌++◌, length, get_or, set, replicate, refl, sym, ap, ◌∙◌, subst, inl, inr, arith}
use Rattle.place_route.proofs.Vocabulary.{Contains, cases_eq, cases_lt, Shape, wires_of, Port, HasTerminal, port_for, not_in_nil}
use Rattle.std.proofs.lemmas.List.{get_or-set_same, get_or-set_other, get_or_past, get_or-replicate, length-set, length-replicate}
use Rattle.std.proofs.lemmas.List.Elements.{Contains-append_left, Contains-push, Contains-push_cases}
use Rattle.place_route.specs.Owners.{owner_at, IsMarked, IsClaimedBy, HoldsPort, Holds, AreOwners}

pub marked_none : (claims : ℕ → ℕ → Type 0) (owners : List (Option ℕ)) → ((k w : ℕ) → claims k w → ⊥) → IsMarked claims owners owners
marked_none claims owners never = record { sized = refl; only = λ w k e. inl e; each = λ k w c. absurd (never k w c); kept = λ k w e. (k, e, inl refl) }

pub marked_then : (A B C : ℕ → ℕ → Type 0) (old mid new : List (Option ℕ)) → IsMarked A old mid → IsMarked B mid new → ((k w : ℕ) → A k w → C k w) → ((k w : ℕ) → B k w → C k w) → ((k w : ℕ) → C k w → A k w ⊎ B k w) → IsMarked C old new
marked_then A B C old mid new p q from_a from_b to = record {
  sized = q.sized ∙ p.sized;
  only = λ w k e. by_new w k (q.only w k e);
  each = λ k w c. by_claim k w (to k w c);
  kept = λ k w e. let r = p.kept k w e in by_kept k w r.0 (q.kept r.0 w r.1) r.2;
}
  where
    by_mid : (w k : ℕ) → (owner_at old w ≡ Some k) ⊎ A k w → (owner_at old w ≡ Some k) ⊎ C k w
    by_mid w k (inl e) = inl e
    by_mid w k (inr a) = inr (from_a k w a)

    by_new : (w k : ℕ) → (owner_at mid w ≡ Some k) ⊎ B k w → (owner_at old w ≡ Some k) ⊎ C k w
    by_new w k (inl e) = by_mid w k (p.only w k e)
    by_new w k (inr b) = inr (from_b k w b)

    after : (l w : ℕ) → A l w → (j : ℕ) × (owner_at new w ≡ Some j) × ((j ≡ l) ⊎ B j w) → (j : ℕ) × (owner_at new w ≡ Some j) × C j w
    after l w a r = (r.0, r.1, by r.2)
      where
        by : (r.0 ≡ l) ⊎ B r.0 w → C r.0 w
        by (inl e) = from_a r.0 w (subst (λ j. A j w) (sym e) a)
        by (inr b) = from_b r.0 w b

    by_claim : (k w : ℕ) → A k w ⊎ B k w → (l : ℕ) × (owner_at new w ≡ Some l) × C l w
    by_claim k w (inl a) = let r = p.each k w a in after r.0 w r.2 (q.kept r.0 w r.1)
    by_claim k w (inr b) = let r = q.each k w b in (r.0, r.1, from_b r.0 w r.2)

    by_kept : (k w l : ℕ) → (j : ℕ) × (owner_at new w ≡ Some j) × ((j ≡ l) ⊎ B j w) → (l ≡ k) ⊎ A l w → (j : ℕ) × (owner_at new w ≡ Some j) × ((j ≡ k) ⊎ C j w)
    by_kept k w l r (inl e) = (r.0, r.1, by r.2)
      where
        by : (r.0 ≡ l) ⊎ B r.0 w → (r.0 ≡ k) ⊎ C r.0 w
        by (inl f) = inl (f ∙ e)
        by (inr b) = inr (from_b r.0 w b)
    by_kept k w l r (inr a) = let s = after l w a r in (s.0, s.1, inr s.2)

abbrev pub IsOne : ℕ → ℕ → ℕ → ℕ → Type 0
IsOne k w l v = (l ≡ k) × (v ≡ w)

some_same : (k l : ℕ) → Some k ≡ Some l → l ≡ k
some_same k l e = cc

pub marked_one : (owners : List (Option ℕ)) (k w : ℕ) → w < length owners → IsMarked (IsOne k w) owners (set owners w (Some k))
marked_one owners k w within = record {
  sized = length-set owners w (Some k);
  only = λ v l e. by_wire v l e (cases_eq v w);
  each = λ l v c. (k, subst (λ u. get_or (set owners w (Some k)) u None ≡ Some k) (sym c.1) here, (refl, c.1));
  kept = λ l v e. by_kept l v e (cases_eq v w);
}
  where
    here : get_or (set owners w (Some k)) w None ≡ Some k
    here = get_or-set_same owners w (Some k) None within

    by_wire : (v l : ℕ) → get_or (set owners w (Some k)) v None ≡ Some l → (v ≡ w) ⊎ (v ≢ w) → (get_or owners v None ≡ Some l) ⊎ IsOne k w l v
    by_wire v l e (inl s) = inr (some_same k l (sym (subst (λ u. get_or (set owners w (Some k)) u None ≡ Some k) (sym s) here) ∙ e), s)
    by_wire v l e (inr n) = inl (sym (get_or-set_other owners w v (Some k) None n) ∙ e)

    by_kept : (l v : ℕ) → get_or owners v None ≡ Some l → (v ≡ w) ⊎ (v ≢ w) → (j : ℕ) × (get_or (set owners w (Some k)) v None ≡ Some j) × ((j ≡ l) ⊎ IsOne k w j v)
    by_kept l v e (inl s) = (k, subst (λ u. get_or (set owners w (Some k)) u None ≡ Some k) (sym s) here, inr (refl, s))
    by_kept l v e (inr n) = (l, get_or-set_other owners w v (Some k) None n ∙ e, inl refl)

-- ---- one more wire, net or port

pub wire_more : (net : ℕ) (ws : List ℕ) (w : ℕ) (old mid : List (Option ℕ)) → w < length mid → IsMarked (IsClaimedBy net ws) old mid → IsMarked (IsClaimedBy net (ws ++ w ∷ [])) old (set mid w (Some net))
wire_more net ws w old mid within p = marked_then (IsClaimedBy net ws) (IsOne net w) (IsClaimedBy net (ws ++ w ∷ [])) old mid (set mid w (Some net)) p (marked_one mid net w within)
    (λ k v a. (a.0, Contains-append_left ws (w ∷ []) v a.1))
    (λ k v b. (b.0, subst (Contains (ws ++ w ∷ [])) (sym b.1) (Contains-push ws w)))
    (λ k v c. by k v c.0 (Contains-push_cases ws w v c.1))
  where
    by : (k v : ℕ) → k ≡ net → Contains ws v ⊎ (w ≡ v) → IsClaimedBy net ws k v ⊎ IsOne net w k v
    by k v e (inl h) = inl (e, h)
    by k v e (inr s) = inr (e, sym s)

-- the first nets' terminals
abbrev pub IsBefore : List (List ℕ) → ℕ → ℕ → ℕ → Type 0
IsBefore nets i k w = (k < i) × HasTerminal nets k w

pub net_more : (nets : List (List ℕ)) (i : ℕ) (old mid new : List (Option ℕ)) → IsMarked (IsBefore nets i) old mid → IsMarked (IsClaimedBy i (get_or nets i [])) mid new → IsMarked (IsBefore nets (i + 1)) old new
net_more nets i old mid new p q = marked_then (IsBefore nets i) (IsClaimedBy i (get_or nets i [])) (IsBefore nets (i + 1)) old mid new p q
    (λ k w a. (let l = a.0 in omega arith, a.1))
    (λ k w b. (let e = b.0 in omega arith, subst (λ j. HasTerminal nets j w) (sym b.0) b.1))
    (λ k w c. by k w c (cases_eq k i))
  where
    by : (k w : ℕ) → IsBefore nets (i + 1) k w → (k ≡ i) ⊎ (k ≢ i) → IsBefore nets i k w ⊎ IsClaimedBy i (get_or nets i []) k w
    by k w c (inl e) = inr (e, subst (λ j. HasTerminal nets j w) e c.1)
    by k w c (inr n) = inl (let l = c.0 in omega arith, c.1)

pub net_within : (nets : List (List ℕ)) (k w : ℕ) → HasTerminal nets k w → k < length nets
net_within nets k w has = by (cases_lt k (length nets))
  where
    by : (k < length nets) ⊎ (length nets ≤ k) → k < length nets
    by (inl h) = h
    by (inr h) = absurd (not_in_nil w (subst (λ ws. Contains ws w) (get_or_past nets k [] h) has))

pub nets_end : (nets : List (List ℕ)) (i : ℕ) (old new : List (Option ℕ)) → length nets ≤ i → IsMarked (IsBefore nets i) old new → IsMarked (HasTerminal nets) old new
nets_end nets i old new le p = marked_then (IsBefore nets i) (λ k w. ⊥) (HasTerminal nets) old new new p (marked_none (λ k w. ⊥) new (λ k w no. no))
    (λ k w a. a.1) (λ k w no. absurd no) (λ k w has. inl (let l = net_within nets k w has in omega arith, has))

pub port_more : (ps : List Port) (p : Port) (old mid : List (Option ℕ)) → p.wire.0 < length mid → IsMarked (HoldsPort ps) old mid → IsMarked (HoldsPort (ps ++ p ∷ [])) old (set mid p.wire.0 (Some p.net.0))
port_more ps p old mid within so_far = marked_then (HoldsPort ps) (IsOne p.net.0 p.wire.0) (HoldsPort (ps ++ p ∷ [])) old mid (set mid p.wire.0 (Some p.net.0)) so_far (marked_one mid p.net.0 p.wire.0 within)
    (λ k w a. (a.0, Contains-append_left ps (p ∷ []) _ a.1))
    (λ k w b. (p.node.0, subst (Contains (ps ++ p ∷ [])) (λ i. port_for p.node.0 (sym b.0 i) (sym b.1 i)) (Contains-push ps p)))
    (λ k w c. by k w c.0 (Contains-push_cases ps p (port_for c.0 k w) c.1))
  where
    by : (k w n : ℕ) → Contains ps (port_for n k w) ⊎ (p ≡ port_for n k w) → HoldsPort ps k w ⊎ IsOne p.net.0 p.wire.0 k w
    by k w n (inl h) = inl (n, h)
    by k w n (inr e) = inr (sym (ap (λ (q : Port). q.net.0) e), sym (ap (λ (q : Port). q.wire.0) e))

none_owned : (n w : ℕ) → owner_at (replicate n None) w ≡ None
none_owned n w = by (cases_lt w n)
  where
    by : (w < n) ⊎ (n ≤ w) → owner_at (replicate n None) w ≡ None
    by (inl h) = get_or-replicate n w None None h
    by (inr h) = get_or_past (replicate n None) w None (rw length-replicate h)

none_some : {o : Option ℕ} {k : ℕ} → o ≡ None → o ≡ Some k → ⊥
none_some e f = cc

pub owners_end : (m : Shape) (nets : List (List ℕ)) (ports : List Port) (mid new : List (Option ℕ)) → IsMarked (HasTerminal nets) (replicate (wires_of m) None) mid → IsMarked (HoldsPort ports) mid new → AreOwners m nets ports new
owners_end m nets ports mid new p q = record {
  sized = both.sized ∙ length-replicate (wires_of m) None;
  only = λ w k e. by w k (both.only w k e);
  each = both.each;
}
  where
    both : IsMarked (Holds nets ports) (replicate (wires_of m) None) new
    both = marked_then (HasTerminal nets) (HoldsPort ports) (Holds nets ports) (replicate (wires_of m) None) mid new p q (λ k w a. inl a) (λ k w b. inr b) (λ k w c. c)

    by : (w k : ℕ) → (owner_at (replicate (wires_of m) None) w ≡ Some k) ⊎ Holds nets ports k w → Holds nets ports k w
    by w k (inl e) = absurd (none_some (none_owned (wires_of m) w) e)
    by w k (inr h) = h
