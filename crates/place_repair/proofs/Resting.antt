-- What a list of defects and the nets that stay leave free, listed one after the other.
use Rattle.std.proofs.Common.{◌≡◌, ◌≢◌, ◌⊎◌, ℕ, ◌+◌, ◌<◌, Bool, true, false, not, ◌&&◌, ◌||◌, refl, sym, ap, ◌∙◌, subst, inl, inr, arith, ◌↔◌, if◌then◌else◌}
use Rattle.place_repair.proofs.Vocabulary.{nat_cmp_total, unsigned_tied, nat_cmp, eq_by_cmp, false≢true, cases_eq, or_cases, eq-eqb}
use Rattle.place_repair.proofs.Vocabulary.{Defects, AreDefectsOf, IsFreeWire, IsFreeCross, Configuration, IsConfiguration, Plan}
use Rattle.std.specs.FinSet as set
use Rattle.std.specs.FinSet.{contains-insert, contains-empty, same_set, nat_cmp-IsAntisymmetric}
use Rattle.machine_shape.specs.Vocabulary.{ends_of, wires_of, crosses_of, IsNumbered}
use Rattle.machine_defects.specs.Lists.{DefectList, IsWithWire, no_defects, is_free_wire, has_free_ends, with_cross}
use Rattle.machine_config.proofs.Changes.{same_number}
use Rattle.place_repair.specs.Making.{AreNetsOf, HasStayingWire, IsTaken, IsWireRest, IsCrossRest, IsRestOf}
use Rattle.place_repair.proofs.Hanging.{has_within}

true_or_false : {b : Bool} → b ≡ true → b ≡ false → ⊥
true_or_false e f = false≢true (sym f ∙ e)

or_left : (a b : Bool) → a ≡ true → (a || b) ≡ true
or_left true b e = refl
or_left false b e = absurd (false≢true e)

or_right : (a b : Bool) → b ≡ true → (a || b) ≡ true
or_right true b e = refl
or_right false b e = e

inserted : (s : set.FinSet nat_cmp) (n w : ℕ) → set.contains (set.insert s n) w ≡ true → (w ≡ n) ⊎ (set.contains s w ≡ true)
inserted s n w e = by (or_cases (eq_by_cmp nat_cmp w n) (set.contains s w) (sym (contains-insert nat_cmp_total s n w) ∙ e))
  where
    by : (eq_by_cmp nat_cmp w n ≡ true) ⊎ (set.contains s w ≡ true) → (w ≡ n) ⊎ (set.contains s w ≡ true)
    by (inl t) = inl (same_number w n t)
    by (inr t) = inr t

insert_has : (s : set.FinSet nat_cmp) (n : ℕ) → set.contains (set.insert s n) n ≡ true
insert_has s n = contains-insert nat_cmp_total s n n ∙ or_left (eq_by_cmp nat_cmp n n) (set.contains s n) (unsigned_tied n n ∙ eq-eqb n n refl)

insert_keeps : (s : set.FinSet nat_cmp) (n w : ℕ) → set.contains s w ≡ true → set.contains (set.insert s n) w ≡ true
insert_keeps s n w e = contains-insert nat_cmp_total s n w ∙ or_right (eq_by_cmp nat_cmp w n) (set.contains s w) e

and_false : (a b : Bool) → a ≡ false → (a && b) ≡ false
and_false true b e = absurd (false≢true (sym e))
and_false false b e = refl

-- ---- wires

module _ (d : Defects) (g : Configuration) (p : Plan) where
  none_below : (w : ℕ) → w < 0 → ⊥
  none_below w l = omega arith

  pub wires_begin : (rest : DefectList) → rest ≡ record { shape = g.shape; list = no_defects } → IsWireRest d g p 0 rest
  wires_begin rest e = record {
    shape = ap (λ (r : DefectList). r.shape) e;
    only = λ w has. absurd (false≢true (sym (ap (λ (r : DefectList). set.contains r.list.wires w) e ∙ contains-empty nat_cmp w) ∙ has));
    each = λ w l t. absurd (none_below w l);
    crosses = λ x. ap (λ (r : DefectList). set.contains r.list.crosses x) e ∙ contains-empty nat_cmp x;
    tables = λ t. ap (λ (r : DefectList). set.contains r.list.tables t) e ∙ contains-empty nat_cmp t;
  }

  more_taken : (n : ℕ) (old new : DefectList) → IsWireRest d g p n old → IsTaken d g p n → IsWithWire old n new → IsWireRest d g p (n + 1) new
  more_taken n old new rest taken with_wire = record {
    shape = with_wire.shape ∙ rest.shape;
    only = λ w has. by w (inserted old.list.wires n w (subst (λ s. set.contains s w ≡ true) with_wire.wires has));
    each = λ w l t. subst (λ s. set.contains s w ≡ true) (sym with_wire.wires) (has w l t (cases_eq w n));
    crosses = λ x. with_wire.crosses x ∙ and_false (set.contains old.list.crosses x) _ (rest.crosses x);
    tables = λ t. with_wire.tables t ∙ and_false (set.contains old.list.tables t) _ (rest.tables t);
  }
    where
      by : (w : ℕ) → (w ≡ n) ⊎ (set.contains old.list.wires w ≡ true) → (w < n + 1) × IsTaken d g p w
      by w (inl e) = (omega (arith, e), subst (IsTaken d g p) (sym e) taken)
      by w (inr h) = let r = rest.only w h in (omega (arith, r.0), r.1)

      has : (w : ℕ) → w < n + 1 → IsTaken d g p w → (w ≡ n) ⊎ (w ≢ n) → set.contains (set.insert old.list.wires n) w ≡ true
      has w l t (inl e) = subst (λ z. set.contains (set.insert old.list.wires n) z ≡ true) (sym e) (insert_has old.list.wires n)
      has w l t (inr ne) = insert_keeps old.list.wires n w (rest.each w (omega (arith, l, ne)) t)

  more_free : (n : ℕ) (old new : DefectList) → IsWireRest d g p n old → ¬ IsTaken d g p n → new ≡ old → IsWireRest d g p (n + 1) new
  more_free n old new rest free e = subst (IsWireRest d g p (n + 1)) (sym e) (record {
    shape = rest.shape;
    only = λ w has. let r = rest.only w has in (omega (arith, r.0), r.1);
    each = λ w l t. each w l t (cases_eq w n);
    crosses = rest.crosses;
    tables = rest.tables;
  })
    where
      each : (w : ℕ) → w < n + 1 → IsTaken d g p w → (w ≡ n) ⊎ (w ≢ n) → set.contains old.list.wires w ≡ true
      each w l t (inl q) = absurd (free (subst (IsTaken d g p) q t))
      each w l t (inr ne) = rest.each w (omega (arith, l, ne)) t

  pub wires_more : (n : ℕ) (taken : Bool) (old new : DefectList) → IsWireRest d g p n old → (taken ≡ true) ↔ IsTaken d g p n → (taken ≡ true → IsWithWire old n new) → (taken ≡ false → new ≡ old) → IsWireRest d g p (n + 1) new
  wires_more n true old new rest tells listed kept = more_taken n old new rest (tells.0 refl) (listed refl)
  wires_more n false old new rest tells listed kept = more_free n old new rest (λ t. false≢true (tells.1 t)) (kept refl)

-- ---- crosspoints

free_of : (d : Defects) (w : ℕ) → is_free_wire d w ≡ true → IsFreeWire d w
free_of d w e = by (set.contains d.wires w) e
  where
    by : (b : Bool) → not b ≡ true → b ≡ false
    by true q = absurd (false≢true q)
    by false q = refl

of_free : (d : Defects) (w : ℕ) → IsFreeWire d w → is_free_wire d w ≡ true
of_free d w e = ap not e

both_of : (a b : Bool) → (a && b) ≡ true → (a ≡ true) × (b ≡ true)
both_of true true e = (refl, refl)
both_of true false e = absurd (false≢true e)
both_of false b e = absurd (false≢true e)

of_both : (a b : Bool) → a ≡ true → b ≡ true → (a && b) ≡ true
of_both true true e f = refl
of_both true false e f = absurd (false≢true f)
of_both false b e f = absurd (false≢true e)

module _ (d old : DefectList) where
  pub crosses_begin : IsCrossRest d old 0 old
  crosses_begin = record { shape = refl; wires = refl; tables = refl; only = λ x has. inl has; each = λ x l unfree tap line. absurd (none x l) }
    where
      none : (x : ℕ) → x < 0 → ⊥
      none x l = omega arith

  -- a listed crosspoint, by one that was listed before or is among the first
  abbrev IsListed : ℕ → ℕ → Type 0
  IsListed n x = (set.contains old.list.crosses x ≡ true) ⊎ ((x < n) × (¬ IsFreeCross d.shape d.list x) × IsFreeWire old.list (ends_of d.shape x).0 × IsFreeWire old.list (ends_of d.shape x).1)

  so_far : (n x : ℕ) → IsListed n x → IsListed (n + 1) x
  so_far n x (inl h) = inl h
  so_far n x (inr r) = inr (omega (arith, r.0), r.1, r.2, r.3)

  more_kept : (n : ℕ) (cur new : DefectList) → IsCrossRest d old n cur → (¬ IsFreeCross d.shape d.list n → IsFreeWire old.list (ends_of d.shape n).0 → IsFreeWire old.list (ends_of d.shape n).1 → ⊥) → new ≡ cur → IsCrossRest d old (n + 1) new
  more_kept n cur new rest never e = subst (IsCrossRest d old (n + 1)) (sym e) (record {
    shape = rest.shape;
    wires = rest.wires;
    tables = rest.tables;
    only = λ x has. so_far n x (rest.only x has);
    each = λ x l unfree tap line. each x l unfree tap line (cases_eq x n);
  })
    where
      each : (x : ℕ) → x < n + 1 → ¬ IsFreeCross d.shape d.list x → IsFreeWire old.list (ends_of d.shape x).0 → IsFreeWire old.list (ends_of d.shape x).1 → (x ≡ n) ⊎ (x ≢ n) → set.contains cur.list.crosses x ≡ true
      each x l unfree tap line (inl q) = absurd (never (subst (λ z. ¬ IsFreeCross d.shape d.list z) q unfree) (subst (λ z. IsFreeWire old.list (ends_of d.shape z).0) q tap) (subst (λ z. IsFreeWire old.list (ends_of d.shape z).1) q line))
      each x l unfree tap line (inr ne) = rest.each x (omega (arith, l, ne)) unfree tap line

  more_listed : (n : ℕ) (cur : DefectList) → old.shape ≡ d.shape → IsCrossRest d old n cur → ¬ IsFreeCross d.shape d.list n → IsCrossRest d old (n + 1) (record { shape = cur.shape; list = with_cross cur.shape cur.list n })
  more_listed n cur same rest unfree = by (has_free_ends cur.shape cur.list n) refl
    where
      shapes : cur.shape ≡ d.shape
      shapes = rest.shape ∙ same

      as_old : (w : ℕ) → IsFreeWire cur.list w → IsFreeWire old.list w
      as_old w free = subst (λ s. set.contains s w ≡ false) rest.wires free

      as_cur : (w : ℕ) → IsFreeWire old.list w → IsFreeWire cur.list w
      as_cur w free = subst (λ s. set.contains s w ≡ false) (sym rest.wires) free

      ends_free : has_free_ends cur.shape cur.list n ≡ true → IsFreeWire old.list (ends_of d.shape n).0 × IsFreeWire old.list (ends_of d.shape n).1
      ends_free e =
          let r = both_of (is_free_wire cur.list (ends_of cur.shape n).0) (is_free_wire cur.list (ends_of cur.shape n).1) e in (
            as_old (ends_of d.shape n).0 (subst (λ z. IsFreeWire cur.list (ends_of z n).0) shapes (free_of cur.list (ends_of cur.shape n).0 r.0)),
            as_old (ends_of d.shape n).1 (subst (λ z. IsFreeWire cur.list (ends_of z n).1) shapes (free_of cur.list (ends_of cur.shape n).1 r.1)),
          )

      free_ends : IsFreeWire old.list (ends_of d.shape n).0 → IsFreeWire old.list (ends_of d.shape n).1 → has_free_ends cur.shape cur.list n ≡ true
      free_ends tap line = of_both (is_free_wire cur.list (ends_of cur.shape n).0) (is_free_wire cur.list (ends_of cur.shape n).1)
          (of_free cur.list (ends_of cur.shape n).0 (subst (λ z. IsFreeWire cur.list (ends_of z n).0) (sym shapes) (as_cur (ends_of d.shape n).0 tap)))
          (of_free cur.list (ends_of cur.shape n).1 (subst (λ z. IsFreeWire cur.list (ends_of z n).1) (sym shapes) (as_cur (ends_of d.shape n).1 line)))

      listed : has_free_ends cur.shape cur.list n ≡ true → IsCrossRest d old (n + 1) (record { shape = cur.shape; list = record { wires = cur.list.wires; crosses = set.insert cur.list.crosses n; tables = cur.list.tables } })
      listed e = record {
        shape = rest.shape;
        wires = rest.wires;
        tables = rest.tables;
        only = λ x has. only x (inserted cur.list.crosses n x has);
        each = λ x l unfree_x tap line. each x l unfree_x tap line (cases_eq x n);
      }
        where
          here : (n < n + 1) × (¬ IsFreeCross d.shape d.list n) × IsFreeWire old.list (ends_of d.shape n).0 × IsFreeWire old.list (ends_of d.shape n).1
          here = let r = ends_free e in (omega arith, unfree, r.0, r.1)

          only : (x : ℕ) → (x ≡ n) ⊎ (set.contains cur.list.crosses x ≡ true) → IsListed (n + 1) x
          only x (inl q) = inr (subst (λ z. (z < n + 1) × (¬ IsFreeCross d.shape d.list z) × IsFreeWire old.list (ends_of d.shape z).0 × IsFreeWire old.list (ends_of d.shape z).1) (sym q) here)
          only x (inr h) = so_far n x (rest.only x h)

          each : (x : ℕ) → x < n + 1 → ¬ IsFreeCross d.shape d.list x → IsFreeWire old.list (ends_of d.shape x).0 → IsFreeWire old.list (ends_of d.shape x).1 → (x ≡ n) ⊎ (x ≢ n) → set.contains (set.insert cur.list.crosses n) x ≡ true
          each x l unfree_x tap line (inl q) = subst (λ z. set.contains (set.insert cur.list.crosses n) z ≡ true) (sym q) (insert_has cur.list.crosses n)
          each x l unfree_x tap line (inr ne) = insert_keeps cur.list.crosses n x (rest.each x (omega (arith, l, ne)) unfree_x tap line)

      by : (b : Bool) → has_free_ends cur.shape cur.list n ≡ b → IsCrossRest d old (n + 1) (record { shape = cur.shape; list = if b then record cur.list { crosses = set.insert cur.list.crosses n } else cur.list })
      by true e = listed e
      by false e = more_kept n cur cur rest (λ u tap line. true_or_false (free_ends tap line) e) refl

  pub crosses_more : (n : ℕ) (free : Bool) (cur new : DefectList) → old.shape ≡ d.shape → IsCrossRest d old n cur → (free ≡ true) ↔ IsFreeCross d.shape d.list n →
      (free ≡ false → new ≡ record { shape = cur.shape; list = with_cross cur.shape cur.list n }) → (free ≡ true → new ≡ cur) → IsCrossRest d old (n + 1) new
  crosses_more n true cur new same rest tells listed kept = more_kept n cur new rest (λ unfree tap line. unfree (tells.0 refl)) (kept refl)
  crosses_more n false cur new same rest tells listed kept = subst (IsCrossRest d old (n + 1)) (sym (listed refl)) (more_listed n cur same rest (λ f. false≢true (tells.1 f)))

-- ---- both

module _ (d : DefectList) (g : Configuration) (numbered : IsNumbered g.shape) (right : IsConfiguration g) (p : Plan) (nets : AreNetsOf g p.nets) (are : AreDefectsOf d.shape d.list) (same : d.shape ≡ g.shape)
    (mid new : DefectList) (wires : IsWireRest d.list g p (wires_of g.shape) mid) (crosses : IsCrossRest d mid (crosses_of d.shape) new) where
  free_mid : (w : ℕ) → IsFreeWire new.list w → IsFreeWire mid.list w
  free_mid w free = subst (λ s. set.contains s w ≡ false) crosses.wires free

  free_new : (w : ℕ) → IsFreeWire mid.list w → IsFreeWire new.list w
  free_new w free = subst (λ s. set.contains s w ≡ false) (sym crosses.wires) free

  listed_within : (w : ℕ) → set.contains d.list.wires w ≡ true → w < wires_of g.shape
  listed_within w has = subst (λ m. w < wires_of m) same (are.wires w has)

  untaken : (w : ℕ) → IsFreeWire mid.list w → IsFreeWire d.list w × (¬ HasStayingWire g p w)
  untaken w free = (by (set.contains d.list.wires w) refl, λ stays. true_or_false (wires.each w (has_within g numbered right p.nets.lowest nets.lowest_are stays.0 w stays.2) (inr stays)) free)
    where
      by : (b : Bool) → set.contains d.list.wires w ≡ b → b ≡ false
      by false e = refl
      by true e = absurd (true_or_false (wires.each w (listed_within w e) (inl e)) free)

  stays_free : (w : ℕ) → IsFreeWire d.list w → ¬ HasStayingWire g p w → IsFreeWire mid.list w
  stays_free w free never = by (set.contains mid.list.wires w) refl
    where
      not_taken : IsTaken d.list g p w → ⊥
      not_taken (inl h) = true_or_false h free
      not_taken (inr stays) = never stays

      by : (b : Bool) → set.contains mid.list.wires w ≡ b → b ≡ false
      by false e = refl
      by true e = absurd (not_taken (wires.only w e).1)

  listed_before : (x : ℕ) → (set.contains mid.list.crosses x ≡ true) ⊎ ((x < crosses_of d.shape) × (¬ IsFreeCross d.shape d.list x) × IsFreeWire mid.list (ends_of d.shape x).0 × IsFreeWire mid.list (ends_of d.shape x).1) →
      (set.contains d.list.crosses x ≡ true) × IsFreeWire new.list (ends_of g.shape x).0 × IsFreeWire new.list (ends_of g.shape x).1
  listed_before x (inl h) = absurd (true_or_false h (wires.crosses x))
  listed_before x (inr r) = (
    by (set.contains d.list.crosses x) refl,
    subst (λ m. IsFreeWire new.list (ends_of m x).0) same (free_new (ends_of d.shape x).0 r.2),
    subst (λ m. IsFreeWire new.list (ends_of m x).1) same (free_new (ends_of d.shape x).1 r.3),
  )
    where
      by : (b : Bool) → set.contains d.list.crosses x ≡ b → b ≡ true
      by true e = refl
      by false e = absurd (r.1 (record { itself = e; tap = (untaken (ends_of d.shape x).0 r.2).0; line = (untaken (ends_of d.shape x).1 r.3).0 }))

  pub rest_made : IsRestOf d.list g p new
  rest_made = record {
    shape = crosses.shape ∙ wires.shape;
    wires = λ w. (λ free. untaken w (free_mid w free), λ r. free_new w (stays_free w r.0 r.1));
    crosses = λ x. (
      λ has. listed_before x (crosses.only x has),
      λ r. crosses.each x (are.crosses x r.0) (λ free. true_or_false r.0 free.itself) (subst (λ m. IsFreeWire mid.list (ends_of m x).0) (sym same) (free_mid (ends_of g.shape x).0 r.1)) (subst (λ m. IsFreeWire mid.list (ends_of m x).1) (sym same) (free_mid (ends_of g.shape x).1 r.2)),
    );
    tables = crosses.tables ∙ same_set nat_cmp_total nat_cmp-IsAntisymmetric mid.list.tables set.empty (λ t. wires.tables t ∙ sym (contains-empty nat_cmp t));
  }
