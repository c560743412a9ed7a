-- Each step of the search keeps what it knows.
use Rattle.std.proofs.Common.{◌≡◌, ℕ, ◌+◌, ◌-◌, ◌<◌, ◌≤◌, ◌⊎◌, List, length, refl, sym, ap, subst, ◌∙◌, inl, inr, arith}
use Rattle.design_netlist.proofs.Vocabulary.{cases_eq, cases_lt, Cover, State, New, Open, Done, Group}
use Rattle.design_netlist.specs.Vocabulary.{Reads, Reaches, here, onward, number_at, state_at, start_at, waits_at, LeadsTo, IsHandled, is_done, is_open, is_waiting, is_spare, IsSource, IsSearch, AreHandled, IsListed, IsJoinedOn, IsOpened, IsFront, IsClosed, IsKept, cost}

pub and_on : {covers : List Cover} {i j k : ℕ} → Reaches covers i j → Reaches covers j k → Reaches covers i k
and_on here b = b
and_on (onward r a) b = onward r (and_on a b)

one_step : {covers : List Cover} {i j : ℕ} → Reads covers i j → Reaches covers i j
one_step r = onward r here

module _ (covers : List Cover) (states : List State) (path : List ℕ) (groups : List Group) (waiting : List ℕ) (count : ℕ) (s : IsSearch covers states path groups waiting count) where
  Last : ℕ
  Last = length groups - 1

  starts_rise : (i j : ℕ) → i ≤ j → j < length groups → start_at groups i ≤ start_at groups j
  starts_rise i j le lt = elim (cases_lt i j) [ inl h ↦ (let r = s.sorted i j h lt in omega (arith, r.0)) | inr h ↦ (let e : i ≡ j = omega arith in rw e (omega arith)) ]

  waits_rise : (i j : ℕ) → i ≤ j → j < length groups → waits_at groups i ≤ waits_at groups j
  waits_rise i j le lt = elim (cases_lt i j) [ inl h ↦ (s.sorted i j h lt).1 | inr h ↦ (let e : i ≡ j = omega arith in rw e (omega arith)) ]

  -- each cover of the path reaches each of the last group
  pub to_last : (p q : ℕ) → p < length path → q < length path → start_at groups (length groups - 1) ≤ q → Reaches covers (number_at path p) (number_at path q)
  to_last p q lp lq last = elim (cases_lt q p) [ inl h ↦ back h | inr h ↦ s.along p q h lq ]
    where
      back : q < p → Reaches covers (number_at path p) (number_at path q)
      back h =
          let r = s.rooted p lp in
          let up : start_at groups r.0 ≤ start_at groups (length groups - 1) = starts_rise r.0 (length groups - 1) (omega (arith, r.1)) (omega (arith, r.1)) in
          and_on r.3 (s.along (start_at groups r.0) q (omega arith) lq)

  -- a cover that is read from the last group
  pub to_read : (v q : ℕ) → q < length path → start_at groups (length groups - 1) ≤ q → Reads covers (number_at path q) v → LeadsTo covers path v
  to_read v q lq last reads = λ p lp. and_on (to_last p q lp lq last) (one_step reads)

  -- nothing is spare any more
  pub any_spare : (spare : ℕ) → AreHandled covers states path groups waiting (length covers) → AreHandled covers states path groups waiting spare
  any_spare spare all = λ q v lq r. by q v r.driver (all q v lq r)
    where
      by : (q v : ℕ) → v < length covers → IsHandled states groups waiting (length covers) q v → IsHandled states groups waiting spare q v
      by q v lt (is_done k e) = is_done k e
      by q v lt (is_open p e h) = is_open p e h
      by q v lt (is_waiting w lw e h) = is_waiting w lw e h
      by q v lt (is_spare e) = absurd (omega (arith, e))

  -- the spare one has a number
  pub skip : (spare k : ℕ) → state_at states spare ≡ Done k → AreHandled covers states path groups waiting spare → AreHandled covers states path groups waiting (length covers)
  skip spare k e all = λ q v lq r. by q v (all q v lq r)
    where
      by : (q v : ℕ) → IsHandled states groups waiting spare q v → IsHandled states groups waiting (length covers) q v
      by q v (is_done l h) = is_done l h
      by q v (is_open p h b) = is_open p h b
      by q v (is_waiting w lw h b) = is_waiting w lw h b
      by q v (is_spare h) = is_done k (ap (λ x. state_at states x) h ∙ e)

  -- other groups and others that wait, over the same path
  regrouped : (groups' : List Group) (waiting' : List ℕ) →
      ((q : ℕ) → q < length path → (i : ℕ) × (i < length groups') × (start_at groups' i ≤ q) × Reaches covers (number_at path q) (number_at path (start_at groups' i))) →
      ((i j : ℕ) → i < j → j < length groups' → (start_at groups' i < start_at groups' j) × (waits_at groups' i ≤ waits_at groups' j)) →
      ((i : ℕ) → i < length groups' → start_at groups' i < length path) →
      ((i : ℕ) → i < length groups' → waits_at groups' i ≤ length waiting') →
      ((w : ℕ) → w < length waiting' → (q : ℕ) × IsSource covers path groups' (number_at waiting' w) w q) →
      IsSearch covers states path groups' waiting' count
  regrouped groups' waiting' rooted sorted starts waits sources = record {
    len = s.len;
    within = s.within;
    opens = s.opens;
    opened = s.opened;
    dones = s.dones;
    closed = s.closed;
    together = s.together;
    along = s.along;
    rooted = rooted;
    sorted = sorted;
    starts = starts;
    waits = waits;
    sources = sources;
  }

  -- the last one that waits is taken
  module _ (rest : List ℕ) (t : ℕ) (more : length rest + 1 ≡ length waiting) (old : (w : ℕ) → w < length rest → number_at rest w ≡ number_at waiting w) (at : number_at waiting (length rest) ≡ t) (some : 0 < length groups) (last : waits_at groups (length groups - 1) ≤ length rest) where
    pub taken_source : (q : ℕ) × (q < length path) × (start_at groups (length groups - 1) ≤ q) × Reads covers (number_at path q) t
    taken_source =
        let r = s.sources (length rest) (omega arith) in
        (r.0, r.1.within, r.1.below (length groups - 1) (omega arith) last, subst (λ v. Reads covers (number_at path r.0) v) at r.1.reads)

    pub taken : IsSearch covers states path groups rest count
    taken = regrouped groups rest s.rooted s.sorted s.starts
        (λ i li. (let h : waits_at groups i ≤ waits_at groups (length groups - 1) = waits_rise i (length groups - 1) (omega arith) (omega arith) in omega arith))
        (λ w lw. (let r = s.sources w (omega arith) in (r.0, record { within = r.1.within; reads = subst (λ v. Reads covers (number_at path r.0) v) (sym (old w lw)) r.1.reads; below = r.1.below; above = r.1.above })))

    pub taken_handled : AreHandled covers states path groups waiting (length covers) → AreHandled covers states path groups rest t
    taken_handled all = λ q v lq r. by q v r.driver (all q v lq r)
      where
        by : (q v : ℕ) → v < length covers → IsHandled states groups waiting (length covers) q v → IsHandled states groups rest t q v
        by q v lt (is_done k e) = is_done k e
        by q v lt (is_open p e h) = is_open p e h
        by q v lt (is_waiting w lw e h) = elim (cases_lt w (length rest)) [ inl l ↦ is_waiting w l (old w l ∙ e) h | inr l ↦ is_spare (let same : w ≡ length rest = omega arith in sym e ∙ ap (λ x. number_at waiting x) same ∙ at) ]
        by q v lt (is_spare e) = absurd (omega (arith, e))

  -- the groups after a place are made one
  module _ (spare p n : ℕ) (fewer : List Group) (open_ : state_at states spare ≡ Open p) (kept : IsKept groups p n) (front : IsFront (record { start = 0; waits = 0 }) groups fewer n) (source : (q : ℕ) × (q < length path) × (start_at groups (length groups - 1) ≤ q) × Reads covers (number_at path q) spare) where
    start_same : (i : ℕ) → i < n → start_at fewer i ≡ start_at groups i
    start_same i li = ap (λ (g : Group). g.start) (front.same i li)

    waits_same : (i : ℕ) → i < n → waits_at fewer i ≡ waits_at groups i
    waits_same i li = ap (λ (g : Group). g.waits) (front.same i li)

    start_low : (i : ℕ) → i < n → start_at groups i ≤ p
    start_low i li = elim kept.last [ inl e ↦ absurd (omega arith) | inr h ↦ (let up : start_at groups i ≤ start_at groups (n - 1) = starts_rise i (n - 1) (omega arith) (omega (arith, kept.within)) in omega arith) ]

    joined_rooted : (q : ℕ) → q < length path → (i : ℕ) × (i < length fewer) × (start_at fewer i ≤ q) × Reaches covers (number_at path q) (number_at path (start_at fewer i))
    joined_rooted q lq =
        let r = s.rooted q lq in
        elim (cases_lt r.0 n) [ inl li ↦ (r.0, rw front.len li, rw (start_same r.0 li) r.2, rw (start_same r.0 li) r.3) | inr le ↦ back r.0 le r.1 r.2 ]
      where
        back : (i : ℕ) → n ≤ i → i < length groups → start_at groups i ≤ q → (i : ℕ) × (i < length fewer) × (start_at fewer i ≤ q) × Reaches covers (number_at path q) (number_at path (start_at fewer i))
        back i le li below =
            let at = s.opened spare p open_ in
            let above : p < start_at groups i = kept.later i le li in
            let root = s.rooted p at.0 in
            let here_ : root.0 < n = elim (cases_lt root.0 n) [ inl l ↦ l | inr l ↦ absurd (let a : p < start_at groups root.0 = kept.later root.0 l root.1 in omega (arith, root.2)) ] in
            let same : start_at fewer (n - 1) ≡ start_at groups (n - 1) = start_same (n - 1) (omega arith) in
            let low : start_at groups (n - 1) ≤ p = start_low (n - 1) (omega arith) in
            let up : start_at groups root.0 ≤ start_at groups (n - 1) = starts_rise root.0 (n - 1) (omega arith) (omega (arith, kept.within)) in
            let one : Reaches covers (number_at path q) spare = to_read spare source.0 source.1 source.2 source.3 q lq in
            let two : Reaches covers spare (number_at path (start_at groups root.0)) = subst (λ u. Reaches covers u (number_at path (start_at groups root.0))) at.1 root.3 in
            let three : Reaches covers (number_at path (start_at groups root.0)) (number_at path (start_at groups (n - 1))) = s.along (start_at groups root.0) (start_at groups (n - 1)) up (omega (arith, at.0)) in
            (n - 1, rw front.len (omega arith), rw same (omega arith), rw same (and_on one (and_on two three)))

    pub joined : IsSearch covers states path fewer waiting count
    joined = regrouped fewer waiting joined_rooted
        (λ i j lt lj. (let l : j < n = rw front.len at lj in let r = s.sorted i j lt (omega (arith, kept.within)) in (rw (start_same i (omega arith), start_same j l) r.0, rw (waits_same i (omega arith), waits_same j l) r.1)))
        (λ i li. (let l : i < n = rw front.len at li in rw (start_same i l) (s.starts i (omega (arith, kept.within)))))
        (λ i li. (let l : i < n = rw front.len at li in rw (waits_same i l) (s.waits i (omega (arith, kept.within)))))
        (λ w lw. (let r = s.sources w lw in (
          r.0,
          record {
            within = r.1.within;
            reads = r.1.reads;
            below = λ i li h. (let l : i < n = rw front.len at li in rw (start_same i l) (r.1.below i (omega (arith, kept.within)) (rw (waits_same i l) at h)));
            above = λ i li h. (let l : i < n = rw front.len at li in rw (waits_same i l) (r.1.above i (omega (arith, kept.within)) (rw (start_same i l) at h)));
          },
        )))

    pub joined_handled : AreHandled covers states path groups waiting spare → AreHandled covers states path fewer waiting (length covers)
    joined_handled all = λ q v lq r. by q v (all q v lq r)
      where
        by : (q v : ℕ) → IsHandled states groups waiting spare q v → IsHandled states fewer waiting (length covers) q v
        by q v (is_done l h) = is_done l h
        by q v (is_open o e h) = is_open o e (λ i li b. (let l : i < n = rw front.len at li in rw (start_same i l) (h i (omega (arith, kept.within)) (rw (start_same i l) at b))))
        by q v (is_waiting w lw e h) = is_waiting w lw e (λ i li b. (let l : i < n = rw front.len at li in rw (waits_same i l) (h i (omega (arith, kept.within)) (rw (start_same i l) at b))))
        by q v (is_spare e) = is_open p (ap (λ x. state_at states x) e ∙ open_) (λ i li b. (let l : i < n = rw front.len at li in rw (start_same i l) (start_low i l)))

  -- the last group is taken off the path
  module _ (states' : List State) (path' : List ℕ) (groups' : List Group) (count' : ℕ) (some : 0 < length groups) (later : count < count') (visited : length waiting ≤ waits_at groups (length groups - 1))
      (closing : IsClosed (start_at groups (length groups - 1)) (length path) count states states' path)
      (shorter : IsFront 0 path path' (start_at groups (length groups - 1)))
      (fewer : IsFront (record { start = 0; waits = 0 }) groups groups' (length groups - 1)) where
    start_is : (i : ℕ) → i < length groups - 1 → start_at groups' i ≡ start_at groups i
    start_is i li = ap (λ (g : Group). g.start) (fewer.same i li)

    waits_is : (i : ℕ) → i < length groups - 1 → waits_at groups' i ≡ waits_at groups i
    waits_is i li = ap (λ (g : Group). g.waits) (fewer.same i li)

    path_is : (p : ℕ) → p < start_at groups (length groups - 1) → number_at path' p ≡ number_at path p
    path_is p lp = shorter.same p lp

    -- a cover below stays as it is
    stays_open : (u p : ℕ) → state_at states u ≡ Open p → p < start_at groups (length groups - 1) → state_at states' u ≡ Open p
    stays_open u p e lp = closing.outside u (λ q lq h at. (let e' : Open q ≡ Open p = sym (s.opens q h) ∙ ap (λ x. state_at states x) at ∙ e in let same : q ≡ p = cc in omega arith)) ∙ e

    stays_done : (u k : ℕ) → state_at states u ≡ Done k → state_at states' u ≡ Done k
    stays_done u k e = closing.outside u (λ q lq h at. (let e' : Open q ≡ Done k = sym (s.opens q h) ∙ ap (λ x. state_at states x) at ∙ e in cc)) ∙ e

    stays_new : (u : ℕ) → state_at states u ≡ New → state_at states' u ≡ New
    stays_new u e = closing.outside u (λ q lq h at. (let e' : Open q ≡ New = sym (s.opens q h) ∙ ap (λ x. state_at states x) at ∙ e in cc)) ∙ e

    becomes_done : (u p : ℕ) → state_at states u ≡ Open p → start_at groups (length groups - 1) ≤ p → state_at states' u ≡ Done count
    becomes_done u p e lp = let at = s.opened u p e in ap (λ x. state_at states' x) (sym at.1) ∙ closing.inside p lp at.0

    -- what a cover was
    data Was (u : ℕ) : Type 0 where
      was_new : state_at states u ≡ New → state_at states' u ≡ New → Was u
      was_below : (p : ℕ) → state_at states u ≡ Open p → p < start_at groups (length groups - 1) → state_at states' u ≡ Open p → Was u
      was_inside : (p : ℕ) → state_at states u ≡ Open p → start_at groups (length groups - 1) ≤ p → state_at states' u ≡ Done count → Was u
      was_done : (k : ℕ) → state_at states u ≡ Done k → state_at states' u ≡ Done k → Was u

    was : (u : ℕ) → Was u
    was u = by (state_at states u) refl
      where
        by : (x : State) → state_at states u ≡ x → Was u
        by New e = was_new e (stays_new u e)
        by (Open p) e = elim (cases_lt p (start_at groups (length groups - 1))) [ inl h ↦ was_below p e h (stays_open u p e h) | inr h ↦ was_inside p e h (becomes_done u p e h) ]
        by (Done k) e = was_done k e (stays_done u k e)

    pub closed_seen : (u : ℕ) → state_at states' u ≡ New → state_at states u ≡ New
    closed_seen u e = by (was u)
      where
        by : Was u → state_at states u ≡ New
        by (was_new h h') = h
        by (was_below p h lp h') = absurd (cc)
        by (was_inside p h lp h') = absurd (cc)
        by (was_done k h h') = absurd (cc)

    pub closed_costs : (u : ℕ) (c : Cover) → cost (state_at states' u) c ≤ cost (state_at states u) c
    closed_costs u c = by (was u)
      where
        by : Was u → cost (state_at states' u) c ≤ cost (state_at states u) c
        by (was_new h h') = rw (h, h') (omega arith)
        by (was_below p h lp h') = rw (h, h') (omega arith)
        by (was_inside p h lp h') = rw (h, h') (omega arith)
        by (was_done k h h') = rw (h, h') (omega arith)

    closed_reads : AreHandled covers states path groups waiting (length covers) → (u v k : ℕ) → state_at states' u ≡ Done k → Reads covers u v → (l : ℕ) × (state_at states' v ≡ Done l) × (l ≤ k)
    closed_reads all u v k e reads = by (was u)
      where
        from : (p : ℕ) → p < length path → number_at path p ≡ u → start_at groups (length groups - 1) ≤ p → count ≡ k → IsHandled states groups waiting (length covers) p v → (l : ℕ) × (state_at states' v ≡ Done l) × (l ≤ k)
        from p lp at lo num (is_done l h) = (l, stays_done v l h, (let lt : l < count = s.dones v l h in omega arith))
        from p lp at lo num (is_open o h b) = (count, becomes_done v o h (b (length groups - 1) (omega arith) lo), omega arith)
        from p lp at lo num (is_waiting w lw h b) = absurd (let up : waits_at groups (length groups - 1) ≤ w = b (length groups - 1) (omega arith) lo in omega arith)
        from p lp at lo num (is_spare h) = absurd (let lt : v < length covers = reads.driver in omega arith)

        by : Was u → (l : ℕ) × (state_at states' v ≡ Done l) × (l ≤ k)
        by (was_new h h') = absurd (cc)
        by (was_below p h lp h') = absurd (cc)
        by (was_inside p h lp h') =
            let at = s.opened u p h in
            let num : count ≡ k = cc in
            from p at.0 at.1 lp num (all p v at.0 (subst (λ x. Reads covers x v) (sym at.1) reads))
        by (was_done l h h') =
            let num : l ≡ k = cc in
            let r = s.closed u v k (h ∙ ap (λ x. Done x) num) reads in
            (r.0, stays_done v r.0 r.1, r.2)

    closed_together : (u v k : ℕ) → state_at states' u ≡ Done k → state_at states' v ≡ Done k → Reaches covers u v
    closed_together u v k e f = by (was u) (was v)
      where
        by : Was u → Was v → Reaches covers u v
        by (was_new h h') w = absurd (cc)
        by (was_below p h lp h') w = absurd (cc)
        by (was_inside p h lp h') (was_new g g') = absurd (cc)
        by (was_inside p h lp h') (was_below q g lq g') = absurd (cc)
        by (was_inside p h lp h') (was_inside q g lq g') =
            let a = s.opened u p h in let b = s.opened v q g in
            subst (λ x. Reaches covers x v) a.1 (subst (λ x. Reaches covers (number_at path p) x) b.1 (to_last p q a.0 b.0 lq))
        by (was_inside p h lp h') (was_done l g g') = absurd (let same : count ≡ l = cc in let lt : l < count = s.dones v l g in omega arith)
        by (was_done l h h') (was_new g g') = absurd (cc)
        by (was_done l h h') (was_below q g lq g') = absurd (cc)
        by (was_done l h h') (was_inside q g lq g') = absurd (let same : count ≡ l = cc in let lt : l < count = s.dones u l h in omega arith)
        by (was_done l h h') (was_done m g g') = s.together u v k (h ∙ sym h' ∙ e) (g ∙ sym g' ∙ f)

    closed_opened : (u p : ℕ) → state_at states' u ≡ Open p → (p < length path') × (number_at path' p ≡ u)
    closed_opened u p e = by (was u)
      where
        by : Was u → (p < length path') × (number_at path' p ≡ u)
        by (was_new h h') = absurd (cc)
        by (was_below q h lq h') = let same : q ≡ p = cc in let at = s.opened u q h in rw (sym same) (rw shorter.len lq, path_is q lq ∙ at.1)
        by (was_inside q h lq h') = absurd (cc)
        by (was_done k h h') = absurd (cc)

    closed_dones : (u k : ℕ) → state_at states' u ≡ Done k → k < count'
    closed_dones u k e = by (was u)
      where
        by : Was u → k < count'
        by (was_new h h') = absurd (cc)
        by (was_below q h lq h') = absurd (cc)
        by (was_inside q h lq h') = let same : count ≡ k = cc in omega arith
        by (was_done l h h') = let same : l ≡ k = cc in let lt : l < count = s.dones u l h in omega arith

    closed_rooted : (q : ℕ) → q < length path' → (i : ℕ) × (i < length groups') × (start_at groups' i ≤ q) × Reaches covers (number_at path' q) (number_at path' (start_at groups' i))
    closed_rooted q lq' =
        let lq : q < start_at groups (length groups - 1) = rw shorter.len at lq' in
        let r = s.rooted q (omega (arith, shorter.within)) in
        let li : r.0 < length groups - 1 = elim (cases_lt r.0 (length groups - 1)) [ inl l ↦ l | inr l ↦ absurd (let up : start_at groups (length groups - 1) ≤ start_at groups r.0 = starts_rise (length groups - 1) r.0 l r.1 in omega (arith, r.2)) ] in
        let at : start_at groups' r.0 ≡ start_at groups r.0 = start_is r.0 li in
        (r.0, rw fewer.len li, rw at r.2, subst (λ x. Reaches covers (number_at path' q) (number_at path' x)) (sym at) (subst (λ x. Reaches covers x (number_at path' (start_at groups r.0))) (sym (path_is q lq)) (subst (λ x. Reaches covers (number_at path q) x) (sym (path_is (start_at groups r.0) (omega (arith, r.2)))) r.3)))

    pub closed_keeps : AreHandled covers states path groups waiting (length covers) → IsSearch covers states' path' groups' waiting count'
    closed_keeps all = record {
      len = closing.len ∙ s.len;
      within = λ p lp. (let l : p < start_at groups (length groups - 1) = rw shorter.len at lp in rw (path_is p l) (s.within p (omega (arith, shorter.within))));
      opens = λ p lp. (let l : p < start_at groups (length groups - 1) = rw shorter.len at lp in ap (λ x. state_at states' x) (path_is p l) ∙ stays_open (number_at path p) p (s.opens p (omega (arith, shorter.within))) l);
      opened = closed_opened;
      dones = closed_dones;
      closed = closed_reads all;
      together = closed_together;
      along = λ p q le lq. (let l : q < start_at groups (length groups - 1) = rw shorter.len at lq in subst (λ x. Reaches covers x (number_at path' q)) (sym (path_is p (omega arith))) (subst (λ x. Reaches covers (number_at path p) x) (sym (path_is q l)) (s.along p q le (omega (arith, shorter.within)))));
      rooted = closed_rooted;
      sorted = λ i j lt lj. (let l : j < length groups - 1 = rw fewer.len at lj in let r = s.sorted i j lt (omega arith) in (rw (start_is i (omega arith), start_is j l) r.0, rw (waits_is i (omega arith), waits_is j l) r.1));
      starts = λ i li. (let l : i < length groups - 1 = rw fewer.len at li in rw (start_is i l, shorter.len) (s.sorted i (length groups - 1) l (omega arith)).0);
      waits = λ i li. (let l : i < length groups - 1 = rw fewer.len at li in rw (waits_is i l) (s.waits i (omega arith)));
      sources = λ w lw. closed_source w lw;
    }
      where
        closed_source : (w : ℕ) → w < length waiting → (q : ℕ) × IsSource covers path' groups' (number_at waiting w) w q
        closed_source w lw =
            let r = s.sources w lw in
            let lq : r.0 < start_at groups (length groups - 1) = elim (cases_lt r.0 (start_at groups (length groups - 1))) [ inl l ↦ l | inr l ↦ absurd (let up : waits_at groups (length groups - 1) ≤ w = r.1.above (length groups - 1) (omega arith) l in omega arith) ] in (
              r.0,
              record {
                within = rw shorter.len lq;
                reads = subst (λ x. Reads covers x (number_at waiting w)) (sym (path_is r.0 lq)) r.1.reads;
                below = λ i li h. (let l : i < length groups - 1 = rw fewer.len at li in rw (start_is i l) (r.1.below i (omega arith) (rw (waits_is i l) at h)));
                above = λ i li h. (let l : i < length groups - 1 = rw fewer.len at li in rw (waits_is i l) (r.1.above i (omega arith) (rw (start_is i l) at h)));
              },
            )

    pub closed_listed : (order order' : List ℕ) → length order ≡ count → IsListed covers states order → IsJoinedOn path order order' (start_at groups (length groups - 1)) (length path) → IsListed covers states' order'
    closed_listed order order' cnt li jo = record {
      within = λ k lk. elim (cases_lt k (length order)) [ inl l ↦ rw (jo.old k l) (li.within k l) | inr l ↦ (let p = place k l lk in rw p.3 (s.within p.0 p.2)) ];
      numbered = λ k lk. elim (cases_lt k (length order)) [
        | inl l ↦ (let m = li.numbered k l in (m.0, ap (λ x. state_at states' x) (jo.old k l) ∙ stays_done (number_at order k) m.0 m.1, m.2))
        | inr l ↦ (let p = place k l lk in (count, ap (λ x. state_at states' x) p.3 ∙ closing.inside p.0 p.1 p.2, omega arith))
      ];
      first = λ u k e. firsts u k e (was u);
      apart = λ j k lt lk e. elim (cases_lt k (length order)) [
        | inl l ↦ li.apart j k lt l (sym (jo.old j (omega arith)) ∙ e ∙ jo.old k l)
        | inr l ↦ (let p = place k l lk in elim (cases_lt j (length order)) [
          | inl h ↦ (let m = li.numbered j h in let f : Done m.0 ≡ Open p.0 = sym m.1 ∙ ap (λ x. state_at states x) (sym (jo.old j h) ∙ e ∙ p.3) ∙ s.opens p.0 p.2 in absurd (cc))
          | inr h ↦ (let o = place j h (omega arith) in let f : Open o.0 ≡ Open p.0 = sym (s.opens o.0 o.2) ∙ ap (λ x. state_at states x) (sym o.3 ∙ e ∙ p.3) ∙ s.opens p.0 p.2 in let g : o.0 ≡ p.0 = cc in omega (arith, o.4, p.4))
        ])
      ];
    }
      where
        place : (k : ℕ) → length order ≤ k → k < length order' → (q : ℕ) × (start_at groups (length groups - 1) ≤ q) × (q < length path) × (number_at order' k ≡ number_at path q) × (q + length order ≡ start_at groups (length groups - 1) + k)
        place k le lk =
            let q : ℕ = start_at groups (length groups - 1) + (k - length order) in
            let lq : start_at groups (length groups - 1) + (k - length order) < length path = omega (arith, jo.len) in
            let at : k ≡ length order + (start_at groups (length groups - 1) + (k - length order) - start_at groups (length groups - 1)) = omega arith in
            (start_at groups (length groups - 1) + (k - length order), omega arith, lq, ap (λ x. number_at order' x) at ∙ jo.new (start_at groups (length groups - 1) + (k - length order)) (omega arith) lq, omega arith)

        firsts : (u k : ℕ) → state_at states' u ≡ Done k → Was u → (k < length order') × (state_at states' (number_at order' k) ≡ Done k)
        firsts u k e (was_new h h') = absurd (cc)
        firsts u k e (was_below p h lp h') = absurd (cc)
        firsts u k e (was_inside p h lp h') =
            let num : count ≡ k = cc in
            let up : start_at groups (length groups - 1) < length path = s.starts (length groups - 1) (omega arith) in
            let lk : k < length order' = omega (arith, jo.len, cnt) in
            let o = place k (omega (arith, cnt)) lk in
            (lk, ap (λ x. state_at states' x) o.3 ∙ closing.inside o.0 o.1 o.2 ∙ ap (λ x. Done x) num)
        firsts u k e (was_done l h h') =
            let num : l ≡ k = cc in
            let m = li.first u k (h ∙ ap (λ x. Done x) num) in
            (omega (arith, m.0, jo.len, shorter.within), ap (λ x. state_at states' x) (jo.old k m.0) ∙ stays_done (number_at order k) k m.1)

    pub closed_handled : AreHandled covers states path groups waiting (length covers) → AreHandled covers states' path' groups' waiting (length covers)
    closed_handled all = λ q v lq r. (let l : q < start_at groups (length groups - 1) = rw shorter.len at lq in by q v (all q v (omega (arith, shorter.within)) (subst (λ x. Reads covers x v) (path_is q l) r)))
      where
        by : (q v : ℕ) → IsHandled states groups waiting (length covers) q v → IsHandled states' groups' waiting (length covers) q v
        by q v (is_done l h) = is_done l (stays_done v l h)
        by q v (is_open o e h) = elim (cases_lt o (start_at groups (length groups - 1))) [
          | inl lo ↦ is_open o (stays_open v o e lo) (λ i li b. (let l : i < length groups - 1 = rw fewer.len at li in rw (start_is i l) (h i (omega arith) (rw (start_is i l) at b))))
          | inr lo ↦ is_done count (becomes_done v o e lo)
        ]
        by q v (is_waiting w lw e h) = is_waiting w lw e (λ i li b. (let l : i < length groups - 1 = rw fewer.len at li in rw (waits_is i l) (h i (omega arith) (rw (start_is i l) at b))))
        by q v (is_spare e) = is_spare e

  -- a cover is put on the path
  module _ (c : ℕ) (states' : List State) (path' : List ℕ) (groups' : List Group) (waiting' : List ℕ) (within : c < length covers) (fresh : state_at states c ≡ New) (led : LeadsTo covers path c) (opening : IsOpened covers c states states' path path' groups groups' waiting waiting') where
    not_itself : (u : ℕ) (x : State) → state_at states u ≡ x → (x ≡ New → ⊥) → state_at states' u ≡ x
    not_itself u x e h = opening.other u (λ same. h (sym e ∙ ap (λ y. state_at states y) same ∙ fresh)) ∙ e

    place_cases : (p : ℕ) → p < length path' → (p < length path) ⊎ (p ≡ length path)
    place_cases p lp = elim (cases_lt p (length path)) [ inl l ↦ inl l | inr l ↦ inr (omega (arith, opening.path_len)) ]

    group_cases : (i : ℕ) → i < length groups' → (i < length groups) ⊎ (i ≡ length groups)
    group_cases i li = elim (cases_lt i (length groups)) [ inl l ↦ inl l | inr l ↦ inr (omega (arith, opening.groups_len)) ]

    path_at_new : (p : ℕ) → p ≡ length path → number_at path' p ≡ c
    path_at_new p e = ap (λ x. number_at path' x) e ∙ opening.path_new

    start_at_new : (i : ℕ) → i ≡ length groups → start_at groups' i ≡ length path
    start_at_new i e = ap (λ x. start_at groups' x) e ∙ opening.start_new

    waits_at_new : (i : ℕ) → i ≡ length groups → waits_at groups' i ≡ length waiting
    waits_at_new i e = ap (λ x. waits_at groups' x) e ∙ opening.waits_new

    opened_within : (p : ℕ) → p < length path' → number_at path' p < length covers
    opened_within p lp = elim (place_cases p lp) [ inl l ↦ rw (opening.path_old p l) (s.within p l) | inr e ↦ rw (path_at_new p e) within ]

    opened_opens : (p : ℕ) → p < length path' → state_at states' (number_at path' p) ≡ Open p
    opened_opens p lp = elim (place_cases p lp) [
      | inl l ↦ ap (λ x. state_at states' x) (opening.path_old p l) ∙ not_itself (number_at path p) (Open p) (s.opens p l) (λ e. cc)
      | inr e ↦ ap (λ x. state_at states' x) (path_at_new p e) ∙ opening.itself ∙ ap (λ x. Open x) (sym e)
    ]

    opened_opened : (u p : ℕ) → state_at states' u ≡ Open p → (p < length path') × (number_at path' p ≡ u)
    opened_opened u p e = elim (cases_eq u c) [
      | inl same ↦ (let f : Open (length path) ≡ Open p = sym opening.itself ∙ ap (λ x. state_at states' x) (sym same) ∙ e in let at : length path ≡ p = cc in (omega (arith, opening.path_len), path_at_new p (sym at) ∙ sym same))
      | inr other ↦ (let at = s.opened u p (sym (opening.other u other) ∙ e) in (omega (arith, at.0, opening.path_len), opening.path_old p at.0 ∙ at.1))
    ]

    was_done_before : (u k : ℕ) → state_at states' u ≡ Done k → state_at states u ≡ Done k
    was_done_before u k e = elim (cases_eq u c) [ inl same ↦ absurd (let f : Open (length path) ≡ Done k = sym opening.itself ∙ ap (λ x. state_at states' x) (sym same) ∙ e in cc) | inr other ↦ sym (opening.other u other) ∙ e ]

    opened_along : (p q : ℕ) → p ≤ q → q < length path' → Reaches covers (number_at path' p) (number_at path' q)
    opened_along p q le lq = elim (place_cases q lq) [
      | inl l ↦ subst (λ x. Reaches covers x (number_at path' q)) (sym (opening.path_old p (omega arith))) (subst (λ x. Reaches covers (number_at path p) x) (sym (opening.path_old q l)) (s.along p q le l))
      | inr e ↦ subst (λ x. Reaches covers (number_at path' p) x) (sym (path_at_new q e)) (to_new p (omega arith))
    ]
      where
        to_new : (p : ℕ) → p ≤ length path → Reaches covers (number_at path' p) c
        to_new p le = elim (cases_lt p (length path)) [
          | inl l ↦ subst (λ x. Reaches covers x c) (sym (opening.path_old p l)) (led p l)
          | inr l ↦ subst (λ x. Reaches covers x c) (sym (path_at_new p (omega arith))) here
        ]

    opened_rooted : (q : ℕ) → q < length path' → (i : ℕ) × (i < length groups') × (start_at groups' i ≤ q) × Reaches covers (number_at path' q) (number_at path' (start_at groups' i))
    opened_rooted q lq = elim (place_cases q lq) [ inl l ↦ old l | inr e ↦ new e ]
      where
        old : q < length path → (i : ℕ) × (i < length groups') × (start_at groups' i ≤ q) × Reaches covers (number_at path' q) (number_at path' (start_at groups' i))
        old l =
            let r = s.rooted q l in
            let at : start_at groups' r.0 ≡ start_at groups r.0 = opening.start_old r.0 r.1 in
            (r.0, omega (arith, r.1, opening.groups_len), rw at r.2, subst (λ x. Reaches covers (number_at path' q) (number_at path' x)) (sym at) (subst (λ x. Reaches covers x (number_at path' (start_at groups r.0))) (sym (opening.path_old q l)) (subst (λ x. Reaches covers (number_at path q) x) (sym (opening.path_old (start_at groups r.0) (omega (arith, r.2)))) r.3)))

        new : q ≡ length path → (i : ℕ) × (i < length groups') × (start_at groups' i ≤ q) × Reaches covers (number_at path' q) (number_at path' (start_at groups' i))
        new e =
            let at : start_at groups' (length groups) ≡ q = opening.start_new ∙ sym e in
            (length groups, omega (arith, opening.groups_len), omega arith, subst (λ x. Reaches covers (number_at path' q) (number_at path' x)) (sym at) here)

    opened_source : (w : ℕ) → w < length waiting' → (q : ℕ) × IsSource covers path' groups' (number_at waiting' w) w q
    opened_source w lw = elim (cases_lt w (length waiting)) [ inl l ↦ old l | inr l ↦ new l ]
      where
        old : w < length waiting → (q : ℕ) × IsSource covers path' groups' (number_at waiting' w) w q
        old l =
            let r = s.sources w l in (
              r.0,
              record {
                within = omega (arith, r.1.within, opening.path_len);
                reads = subst (λ x. Reads covers (number_at path' r.0) x) (sym (opening.waiting_old w l)) (subst (λ x. Reads covers x (number_at waiting w)) (sym (opening.path_old r.0 r.1.within)) r.1.reads);
                below = λ i li h. elim (group_cases i li) [ inl k ↦ rw (opening.start_old i k) (r.1.below i k (rw (opening.waits_old i k) at h)) | inr k ↦ absurd (let f : waits_at groups' i ≡ length waiting = waits_at_new i k in omega arith) ];
                above = λ i li h. elim (group_cases i li) [ inl k ↦ rw (opening.waits_old i k) (r.1.above i k (rw (opening.start_old i k) at h)) | inr k ↦ absurd (let f : start_at groups' i ≡ length path = start_at_new i k in omega (arith, r.1.within)) ];
              },
            )

        new : length waiting ≤ w → (q : ℕ) × IsSource covers path' groups' (number_at waiting' w) w q
        new l = (
          length path,
          record {
            within = omega (arith, opening.path_len);
            reads = subst (λ x. Reads covers x (number_at waiting' w)) (sym opening.path_new) (opening.waiting_new w l lw);
            below = λ i li h. elim (group_cases i li) [ inl k ↦ (let f : start_at groups' i ≡ start_at groups i = opening.start_old i k in let g : start_at groups i < length path = s.starts i k in omega arith) | inr k ↦ (let f : start_at groups' i ≡ length path = start_at_new i k in omega arith) ];
            above = λ i li h. elim (group_cases i li) [ inl k ↦ (let f : waits_at groups' i ≡ waits_at groups i = opening.waits_old i k in let g : waits_at groups i ≤ length waiting = s.waits i k in omega arith) | inr k ↦ (let f : waits_at groups' i ≡ length waiting = waits_at_new i k in omega arith) ];
          },
        )

    opened_sorted : (i j : ℕ) → i < j → j < length groups' → (start_at groups' i < start_at groups' j) × (waits_at groups' i ≤ waits_at groups' j)
    opened_sorted i j lt lj = elim (group_cases j lj) [
      | inl k ↦ (let r = s.sorted i j lt k in (rw (opening.start_old i (omega arith), opening.start_old j k) r.0, rw (opening.waits_old i (omega arith), opening.waits_old j k) r.1))
      | inr k ↦ (rw (opening.start_old i (omega arith), start_at_new j k) (s.starts i (omega arith)), rw (opening.waits_old i (omega arith), waits_at_new j k) (s.waits i (omega arith)))
    ]

    pub opened_keeps : IsSearch covers states' path' groups' waiting' count
    opened_keeps = record {
      len = opening.len ∙ s.len;
      within = opened_within;
      opens = opened_opens;
      opened = opened_opened;
      dones = λ u k e. s.dones u k (was_done_before u k e);
      closed = λ u v k e r. (let d = s.closed u v k (was_done_before u k e) r in (d.0, not_itself v (Done d.0) d.1 (λ f. cc), d.2));
      together = λ u v k e f. s.together u v k (was_done_before u k e) (was_done_before v k f);
      along = opened_along;
      rooted = opened_rooted;
      sorted = opened_sorted;
      starts = λ i li. elim (group_cases i li) [ inl k ↦ (let f : start_at groups i < length path = s.starts i k in rw (opening.start_old i k, opening.path_len) (omega arith)) | inr k ↦ (let f : start_at groups' i ≡ length path = start_at_new i k in omega (arith, opening.path_len)) ];
      waits = λ i li. elim (group_cases i li) [ inl k ↦ (let f : waits_at groups i ≤ length waiting = s.waits i k in rw (opening.waits_old i k) (omega (arith, opening.waiting_len))) | inr k ↦ (let f : waits_at groups' i ≡ length waiting = waits_at_new i k in omega (arith, opening.waiting_len)) ];
      sources = opened_source;
    }

    pub opened_handled : AreHandled covers states path groups waiting c → AreHandled covers states' path' groups' waiting' (length covers)
    opened_handled all = λ q v lq r. elim (place_cases q lq) [
      | inl l ↦ by q v l (all q v l (subst (λ x. Reads covers x v) (opening.path_old q l) r))
      | inr e ↦ new q v e (opening.waiting_all v (subst (λ x. Reads covers x v) (path_at_new q e) r))
    ]
      where
        new : (q v : ℕ) → q ≡ length path → (w : ℕ) × (length waiting ≤ w) × (w < length waiting') × (number_at waiting' w ≡ v) → IsHandled states' groups' waiting' (length covers) q v
        new q v e a = is_waiting a.0 a.2 a.3 (λ i li h. elim (group_cases i li) [ inl k ↦ (let f : waits_at groups' i ≡ waits_at groups i = opening.waits_old i k in let g : waits_at groups i ≤ length waiting = s.waits i k in omega (arith, a.1)) | inr k ↦ (let f : waits_at groups' i ≡ length waiting = waits_at_new i k in omega (arith, a.1)) ])

        by : (q v : ℕ) → q < length path → IsHandled states groups waiting c q v → IsHandled states' groups' waiting' (length covers) q v
        by q v lq (is_done l h) = is_done l (not_itself v (Done l) h (λ f. cc))
        by q v lq (is_open o e h) = is_open o (not_itself v (Open o) e (λ f. cc)) (λ i li b. elim (group_cases i li) [ inl k ↦ rw (opening.start_old i k) (h i k (rw (opening.start_old i k) at b)) | inr k ↦ absurd (let f : start_at groups' i ≡ length path = start_at_new i k in omega arith) ])
        by q v lq (is_waiting w lw e h) = is_waiting w (omega (arith, opening.waiting_len)) (opening.waiting_old w lw ∙ e) (λ i li b. elim (group_cases i li) [ inl k ↦ rw (opening.waits_old i k) (h i k (rw (opening.start_old i k) at b)) | inr k ↦ absurd (let f : start_at groups' i ≡ length path = start_at_new i k in omega arith) ])
        by q v lq (is_spare e) = is_open (length path) (ap (λ x. state_at states' x) e ∙ opening.itself) (λ i li b. elim (group_cases i li) [ inl k ↦ (let f : start_at groups' i ≡ start_at groups i = opening.start_old i k in let g : start_at groups i < length path = s.starts i k in omega arith) | inr k ↦ (let f : start_at groups' i ≡ length path = start_at_new i k in omega arith) ])

    pub opened_seen : (u : ℕ) → state_at states' u ≡ New → state_at states u ≡ New
    opened_seen u e = elim (cases_eq u c) [ inl same ↦ ap (λ x. state_at states x) same ∙ fresh | inr other ↦ sym (opening.other u other) ∙ e ]

    pub opened_listed : (order : List ℕ) → IsListed covers states order → IsListed covers states' order
    opened_listed order li = record {
      within = li.within;
      numbered = λ k lk. (let m = li.numbered k lk in (m.0, not_itself (number_at order k) (Done m.0) m.1 (λ f. cc), m.2));
      first = λ u k e. (let m = li.first u k (was_done_before u k e) in (m.0, not_itself (number_at order k) (Done k) m.1 (λ f. cc)));
      apart = li.apart;
    }
