-- Lists of tables that differ in what they give alone, and what ticks make of them.
use Rattle.std.proofs.Common.{◌≡◌, ◌⊎◌, inl, inr, ⊎_elim, ℕ, zero, suc, ◌+◌, ◌<◌, ◌≤◌, Bool, true, false, not, ◌||◌, cond, List, ◌++◌, length, get_or, map, set, take, drop, refl, sym, ap, ◌∙◌, subst, arith}
use Rattle.rig_simulated.proofs.Vocabulary.{beq, false≢true, cases_Bool, cases_eq, not-false, All-map, map_over_more, same_bits, Faults}
use Rattle.rig_simulated.proofs.Vocabulary.{number_of, ClassNode, Gate, knot_at, IsTick, HaveTicked, not_yet, once_more}
use Rattle.std.specs.List.{All}
use Rattle.std.proofs.lemmas.List.{get_or-map, length-map, length-set, get_or-set_other, get_or-set_same, get_or_default, set-get_or, same_lists}
use Rattle.rig_simulated.specs.Gates.{is_low, IsClear, Fits, level_of, level_at, address_by, cell_by, ticked, clocked, IsPulledBy, IsOutputOf, AreMarkedToo}
use Rattle.rig_simulated.specs.Settling.{IsRankedOrLatched, Settles, IsTwin, AreTwins, IsLatched, IsWithin, AreAtOutputs}
use Rattle.rig_simulated.proofs.Levels.{no_gate, six_alike}
use Rattle.rig_simulated.proofs.Marking.{none_marked, no_pull, marked_more, marked_same, pull_here, pull_kept, pull_last, pull_not}

-- what has the same outputs, and is the same but for them, is the same
pub twin_is : (x y : Gate) → y ≡ record x { output = y.output } → y.output ≡ x.output → y ≡ x
twin_is x y same gives = same ∙ ap (λ o. record x { output = o }) gives

pub twins_alike : (P : Gate → Type 0) (xs : List Gate) → AreTwins P xs xs
twins_alike P xs = record { len = refl; each = λ k d h. record { same = refl; gives = λ p. refl } }

pub twins_on : (xs ys zs : List Gate) → AreTwins IsLatched xs ys → AreTwins IsLatched ys zs → AreTwins IsLatched xs zs
twins_on xs ys zs a b = record { len = b.len ∙ a.len; each = each }
  where
    each : (k : ℕ) (d : Gate) → k < length xs → IsTwin IsLatched (get_or xs k d) (get_or zs k d)
    each k d h =
        let one = a.each k d h in
        let two = b.each k d (let l = a.len in omega (arith, h, l)) in
        record {
          same = two.same ∙ ap (λ (y : Gate). record y { output = (get_or zs k d).output }) one.same;
          gives = λ p. two.gives (ap (λ y. y.setting.latched) one.same ∙ p) ∙ one.gives p;
        }

-- one table is evaluated
pub twins_set : (f : Faults) (level : ℕ → Bool) (xs : List Gate) (i : ℕ) (d : Gate) → i < length xs → AreTwins IsLatched xs (set xs i (ticked f level (get_or xs i d)))
twins_set f level xs i d h = record { len = length-set xs i _; each = λ k e l. by_case k e l (cases_eq k i) }
  where
    new : Gate
    new = ticked f level (get_or xs i d)

    by_case : (k : ℕ) (e : Gate) → k < length xs → (k ≡ i) ⊎ (¬ (k ≡ i)) → IsTwin IsLatched (get_or xs k e) (get_or (set xs i new) k e)
    by_case k e l (inl q) =
        let at : get_or (set xs i new) k e ≡ new = ap (λ j. get_or (set xs i new) j e) q ∙ get_or-set_same xs i new e h in
        let was : get_or xs i d ≡ get_or xs k e = get_or_default xs i d e h ∙ ap (λ j. get_or xs j e) (sym q) in
        subst (IsTwin IsLatched (get_or xs k e)) (sym at)
        (subst (λ x. IsTwin IsLatched x new) was
        (record { same = refl; gives = λ p. ap (λ b. cond b (get_or xs i d).output (cell_by f (get_or xs i d) (address_by level (get_or xs i d).ins))) p }))
    by_case k e l (inr n) = subst (IsTwin IsLatched (get_or xs k e)) (sym (get_or-set_other xs i k new e n)) (record { same = refl; gives = λ p. refl })

module _ (P : Gate → Type 0) (xs ys : List Gate) (twins : AreTwins P xs ys) where
  pub fits_beside : (t n : ℕ) → All (Fits t n) xs → All (Fits t n) ys
  fits_beside t n fits k d h =
      let l : k < length xs = (let e = twins.len in omega (arith, h, e)) in
      subst (Fits t n) (sym (twins.each k d l).same) (let x = fits k d l in record { table = x.table; ins = x.ins; out = x.out })

  pub outputs_beside : (r : ℕ) → IsOutputOf xs 0 r → IsOutputOf ys 0 r
  outputs_beside r o = record {
    place = o.place;
    from = o.from;
    within = (let e = twins.len in let h = o.within in omega (arith, h, e));
    out = λ d. ap (λ y. y.out) (twins.each o.place d o.within).same ∙ o.out d;
  }

  -- both pull a class that the tables of P alone give to
  module _ (r : ℕ) (sure : (x : Gate) → x.out ≡ r → P x) where
    pulled_beside : IsPulledBy xs (length xs) r → IsPulledBy ys (length ys) r
    pulled_beside p = record {
      place = p.place;
      below = (let e = twins.len in let h = p.below in omega (arith, h, e));
      out = λ d. ap (λ y. y.out) (twins.each p.place d p.below).same ∙ p.out d;
      low = λ d. (twins.each p.place d p.below).gives (sure _ (p.out d)) ∙ p.low d;
    }

    pulled_before : IsPulledBy ys (length ys) r → IsPulledBy xs (length xs) r
    pulled_before p = record { place = p.place; below = within; out = out; low = λ d. sym ((twins.each p.place d within).gives (sure _ (out d))) ∙ p.low d }
      where
        within : p.place < length xs
        within = let e = twins.len in let h = p.below in omega (arith, h, e)

        out : (d : Gate) → (get_or xs p.place d).out ≡ r
        out d = sym (ap (λ y. y.out) (twins.each p.place d within).same) ∙ p.out d

    module _ {clear other a b : List Bool} (is_clear : IsClear clear) (is_other : IsClear other) (marks : AreMarkedToo clear a (IsPulledBy xs (length xs))) (others : AreMarkedToo other b (IsPulledBy ys (length ys))) where
      marked_to : is_low a r ≡ true → is_low b r ≡ true
      marked_to e = ⊎_elim (λ o. absurd (false≢true (sym (is_clear r) ∙ o))) (λ p. others.more r (pulled_beside p)) (marks.only r e)

      marked_from : is_low b r ≡ true → is_low a r ≡ true
      marked_from e = ⊎_elim (λ o. absurd (false≢true (sym (is_other r) ∙ o))) (λ p. marks.more r (pulled_before p)) (others.only r e)

      marks_beside : is_low a r ≡ is_low b r
      marks_beside = ⊎_elim
          (λ e. e ∙ sym (marked_to e))
          (λ e. ⊎_elim (λ g. absurd (false≢true (sym e ∙ marked_from g))) (λ g. e ∙ sym g) (cases_Bool (is_low b r)))
          (cases_Bool (is_low a r))

      pub levels_beside : (knots : List ClassNode) (low : List Bool) → level_at knots low a r ≡ level_at knots low b r
      levels_beside knots low = ap (λ m. level_of (knot_at knots r).held (is_low low r || m)) marks_beside

-- a latched table, or one whose rank is this at most
abbrev IsSure : (ℕ → ℕ) → ℕ → Gate → Type 0
IsSure rank n x = (x.setting.latched ≡ true) ⊎ (rank x.out ≤ n)

module _ (f : Faults) (rank : ℕ → ℕ) (most : ℕ) where
  -- after a tick more, what has a rank one higher is sure
  tick_twin : (n : ℕ) (x y : Gate) (la lb : ℕ → Bool) → IsRankedOrLatched rank most x → IsTwin (IsSure rank n) x y → ((r : ℕ) → rank r ≤ n → la r ≡ lb r) → IsTwin (IsSure rank (suc n)) (ticked f la x) (ticked f lb y)
  tick_twin n x y la lb ranked twin agree = record { same = ap (λ (z : Gate). record z { output = (ticked f lb y).output }) twin.same; gives = gives }
    where
      latched_is : y.setting.latched ≡ x.setting.latched
      latched_is = ap (λ z. z.setting.latched) twin.same

      by_latch : x.setting.latched ≡ true → (ticked f lb y).output ≡ (ticked f la x).output
      by_latch e =
          ap (λ b. cond b y.output (cell_by f y (address_by lb y.ins))) (latched_is ∙ e)
          ∙ twin.gives (inl e)
          ∙ sym (ap (λ b. cond b x.output (cell_by f x (address_by la x.ins))) e)

      by_rank : x.setting.latched ≡ false → rank x.out ≤ suc n → (ticked f lb y).output ≡ (ticked f la x).output
      by_rank e h =
          let r = ranked e in
          let same : address_by lb x.ins ≡ address_by la x.ins =
          ap number_of (six_alike (λ j. lb (get_or x.ins j 0)) (λ j. la (get_or x.ins j 0)) (λ j l. sym (agree (get_or x.ins j 0) (let up = r.rises j l in omega (arith, up, h))))) in
          ap (λ b. cond b y.output (cell_by f y (address_by lb y.ins))) (latched_is ∙ e)
          ∙ ap (λ z. cell_by f z (address_by lb z.ins)) twin.same
          ∙ ap (λ a. cell_by f x a) same
          ∙ sym (ap (λ b. cond b x.output (cell_by f x (address_by la x.ins))) e)

      gives : IsSure rank (suc n) (ticked f la x) → (ticked f lb y).output ≡ (ticked f la x).output
      gives (inl e) = by_latch e
      gives (inr h) = ⊎_elim by_latch (λ e. by_rank e h) (cases_Bool x.setting.latched)

  tick_twins : (n : ℕ) (knots : List ClassNode) (low : List Bool) (xs ys xt yt : List Gate) → All (IsRankedOrLatched rank most) xs → AreTwins (IsSure rank n) xs ys → IsTick f knots low xs xt → IsTick f knots low ys yt → AreTwins (IsSure rank (suc n)) xt yt
  tick_twins n knots low xs ys xt yt ranked twins a b =
      subst (λ l. AreTwins (IsSure rank (suc n)) l yt) (sym a.next) (subst (AreTwins (IsSure rank (suc n)) (map (ticked f la) xs)) (sym b.next)
      (record { len = length-map ys (ticked f lb) ∙ twins.len ∙ sym (length-map xs (ticked f la)); each = each }))
    where
      la : ℕ → Bool
      la = level_at knots low a.marks

      lb : ℕ → Bool
      lb = level_at knots low b.marks

      agree : (r : ℕ) → rank r ≤ n → la r ≡ lb r
      agree r h = levels_beside (IsSure rank n) xs ys twins r (λ x e. inr (subst (λ q. rank q ≤ n) (sym e) h)) a.is_clear b.is_clear a.marked b.marked knots low

      each : (k : ℕ) (d : Gate) → k < length (map (ticked f la) xs) → IsTwin (IsSure rank (suc n)) (get_or (map (ticked f la) xs) k d) (get_or (map (ticked f lb) ys) k d)
      each k d h =
          let l : k < length xs = (let e = length-map xs (ticked f la) in omega (arith, h, e)) in
          let m : k < length ys = (let e = twins.len in omega (arith, l, e)) in
          subst (λ x. IsTwin (IsSure rank (suc n)) x (get_or (map (ticked f lb) ys) k d)) (sym (get_or-map (ticked f la) xs k d d l))
          (subst (IsTwin (IsSure rank (suc n)) (ticked f la (get_or xs k d))) (sym (get_or-map (ticked f lb) ys k d d m))
          (tick_twin n (get_or xs k d) (get_or ys k d) la lb (ranked k d l) (twins.each k d l) agree))

  ranked_tick : (level : ℕ → Bool) (xs : List Gate) → All (IsRankedOrLatched rank most) xs → All (IsRankedOrLatched rank most) (map (ticked f level) xs)
  ranked_tick level xs are = All-map (IsRankedOrLatched rank most) (ticked f level) xs (λ k d h e. let r = are k d h e in record { rises = r.rises; within = r.within })

-- the marks of what tables pull can be set
abbrev HasMarks : List Bool → List Gate → ℕ → Type 0
HasMarks clear gates n = (marks : List Bool) × AreMarkedToo clear marks (IsPulledBy gates n)

module _ (clear : List Bool) (gates : List Gate) (fits : All (λ x. x.out < length clear) gates) where
  one_more : (n : ℕ) → n < length gates → HasMarks clear gates n → ((get_or gates n no_gate).output ≡ true) ⊎ ((get_or gates n no_gate).output ≡ false) → HasMarks clear gates (n + 1)
  one_more n h m (inl e) = (m.0, marked_same clear m.0 (IsPulledBy gates n) (IsPulledBy gates (n + 1)) m.1 (pull_kept gates n) (pull_not gates n no_gate e))
  one_more n h m (inr e) =
      let x = (get_or gates n no_gate).out in
      (set m.0 x true, marked_more clear m.0 x (IsPulledBy gates n) (IsPulledBy gates (n + 1)) m.1 (fits n no_gate h) (pull_here gates n no_gate h e) (pull_kept gates n) (pull_last gates n no_gate))

  marks_of : (n : ℕ) → n ≤ length gates → HasMarks clear gates n
  marks_of zero h = (clear, none_marked clear (IsPulledBy gates 0) (no_pull gates))
  marks_of (suc n) h =
      let e : n + 1 ≡ suc n = omega arith in
      subst (HasMarks clear gates) e (one_more n (omega (arith, h)) (marks_of n (omega (arith, h))) (cases_Bool (get_or gates n no_gate).output))

  pub tick_of : (f : Faults) (knots : List ClassNode) (low : List Bool) → IsClear clear → (new : List Gate) × IsTick f knots low gates new
  tick_of f knots low is_clear =
      let m = marks_of (length gates) (omega arith) in
      (map (ticked f (level_at knots low m.0)) gates, record { clear = clear; is_clear = is_clear; marks = m.0; marked = m.1; next = refl })

-- where the tables of the first list stand after so many ticks
record IsBeside (f : Faults) (knots : List ClassNode) (low clear : List Bool) (rank : ℕ → ℕ) (most n : ℕ) (xs ys : List Gate) : Type 0 where
  new : List Gate
  ticked_on : HaveTicked f knots low xs n new
  ranked : All (IsRankedOrLatched rank most) new
  fits : All (λ x. x.out < length clear) new
  twins : AreTwins (IsSure rank n) new ys

module _ (f : Faults) (knots : List ClassNode) (low clear : List Bool) (is_clear : IsClear clear) (rank : ℕ → ℕ) (most : ℕ) (xs ys : List Gate) (ranked : All (IsRankedOrLatched rank most) xs) (fits : All (λ x. x.out < length clear) xs) (twins : AreTwins IsLatched xs ys) where
  -- no combinational table has the lowest rank
  first : AreTwins (IsSure rank 0) xs ys
  first = record { len = twins.len; each = λ k d h. record { same = (twins.each k d h).same; gives = sure k d h } }
    where
      sure : (k : ℕ) (d : Gate) → k < length xs → IsSure rank 0 (get_or xs k d) → (get_or ys k d).output ≡ (get_or xs k d).output
      sure k d h (inl e) = (twins.each k d h).gives e
      sure k d h (inr r) = ⊎_elim (twins.each k d h).gives (λ e. absurd (let up = (ranked k d h e).rises 0 (omega arith) in omega (arith, up, r))) (cases_Bool (get_or xs k d).setting.latched)

  beside : {n : ℕ} {zs : List Gate} → HaveTicked f knots low ys n zs → IsBeside f knots low clear rank most n xs zs
  beside not_yet = record { new = xs; ticked_on = not_yet; ranked = ranked; fits = fits; twins = first }
  beside (once_more {n} {mid} {new} h t) =
      let b = beside h in
      let s = tick_of clear b.new b.fits f knots low is_clear in
      record {
        new = s.0;
        ticked_on = once_more b.ticked_on s.1;
        ranked = subst (All (IsRankedOrLatched rank most)) (sym s.1.next) (ranked_tick f rank most (level_at knots low s.1.marks) b.new b.ranked);
        fits = subst (All (λ x. x.out < length clear)) (sym s.1.next) (All-map (λ x. x.out < length clear) (ticked f (level_at knots low s.1.marks)) b.new b.fits);
        twins = tick_twins f rank most n knots low b.new mid s.0 new b.ranked b.twins s.1 t;
      }

  -- after as many ticks as the highest rank both lists are one
  pub at_rest : (n : ℕ) (zs : List Gate) → most ≤ n → HaveTicked f knots low ys n zs → HaveTicked f knots low xs n zs
  at_rest n zs h t =
      let b = beside t in
      let same : b.new ≡ zs = same_lists b.new zs (sym b.twins.len) (λ k d l.
      let w = b.twins.each k d l in
      sym (twin_is (get_or b.new k d) (get_or zs k d) w.same (w.gives (⊎_elim (λ e. inl e) (λ e. inr (let r = (b.ranked k d l e).within in omega (arith, r, h))) (cases_Bool (get_or b.new k d).setting.latched))))) in
      subst (HaveTicked f knots low xs n) same b.ticked_on

-- ticks and the clock edge keep the ranks
pub settles_on : {f : Faults} {knots : List ClassNode} {low : List Bool} {old new : List Gate} {n : ℕ} (ticks : ℕ) → Settles old ticks → HaveTicked f knots low old n new → Settles new ticks
settles_on ticks s not_yet = s
settles_on {f} {knots} {low} ticks s (once_more {n} {mid} {new} h t) =
    let b = settles_on ticks s h in
    record { rank = b.rank; ranked = subst (All (IsRankedOrLatched b.rank ticks)) (sym t.next) (ranked_tick f b.rank ticks (level_at knots low t.marks) mid b.ranked) }

pub settles_clocked : (f : Faults) (level : ℕ → Bool) (ticks : ℕ) (xs ys : List Gate) → ys ≡ map (clocked f level) xs → Settles xs ticks → Settles ys ticks
settles_clocked f level ticks xs ys e s = record {
  rank = s.rank;
  ranked = subst (All (IsRankedOrLatched s.rank ticks)) (sym e) (All-map (IsRankedOrLatched s.rank ticks) (clocked f level) xs (λ k d h l. let r = s.ranked k d h l in record { rises = r.rises; within = r.within }));
}

-- a tick that changes nothing is every further one
pub all_further : {f : Faults} {knots : List ClassNode} {low : List Bool} {old mid : List Gate} {n : ℕ} (m : ℕ) → HaveTicked f knots low old n mid → IsTick f knots low mid mid → HaveTicked f knots low old (m + n) mid
all_further {f} {knots} {low} {old} {mid} {n} zero h t =
    let e : n ≡ 0 + n = omega arith in
    subst (λ k. HaveTicked f knots low old k mid) e h
all_further {f} {knots} {low} {old} {mid} {n} (suc m) h t =
    let e : suc (m + n) ≡ suc m + n = omega arith in
    subst (λ k. HaveTicked f knots low old k mid) e (once_more (all_further m h t) t)

pub within_by_fits : (t n : ℕ) (gates : List Gate) → All (Fits t n) gates → All (IsWithin n) gates
within_by_fits t n gates fits k d h = let x = fits k d h in record { ins = x.ins; out = x.out }

-- one mark more
pub marked_at : (low : List Bool) (gates : List Gate) (place : ℕ) (d : Gate) (x : ℕ) → AreAtOutputs low gates → place < length gates → (get_or gates place d).out ≡ x → AreAtOutputs (set low x true) gates
marked_at low gates place d x at h out r e = ⊎_elim
    (λ q. record { place = place; from = omega arith; within = h; out = λ b. ap (λ y. y.out) (get_or_default gates place b d h) ∙ out ∙ sym q })
    (λ n. at r (sym (get_or-set_other low x r true false n) ∙ e))
    (cases_eq r x)

-- a table that gives what it gave needn't be written
pub unwritten : (step : Gate → Gate) → ((x : Gate) → step x ≡ record x { output = (step x).output }) → (xs ys : List Gate) (i : ℕ) (d new : Gate) → i < length xs → i < length ys →
    ys ≡ map step (take i xs) ++ drop i xs → new ≡ step (get_or ys i d) → not (beq new.output (get_or ys i d).output) ≡ false → ys ≡ map step (take (i + 1) xs) ++ drop (i + 1) xs
unwritten step only xs ys i d new hx hy front is h =
    let x : Gate = get_or ys i d in
    let gives : (step x).output ≡ x.output = sym (ap (λ (y : Gate). y.output) is) ∙ same_bits new.output x.output (not-false (beq new.output x.output) h) in
    sym (set-get_or ys i d) ∙ ap (set ys i) (sym (twin_is x (step x) (only x) gives)) ∙ map_over_more step xs ys i x hx front (get_or_default ys i d x hy)
