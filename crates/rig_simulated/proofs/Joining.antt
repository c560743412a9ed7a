-- What classes are once two of them are joined.
use Rattle.std.proofs.Common.{◌≡◌, ◌≢◌, ◌⊎◌, inl, inr, ⊎_elim, ℕ, ◌+◌, ◌<◌, ◌≤◌, Bool, true, false, Option, Some, None, List, length, refl, sym, ap, ◌∙◌, arith}
use Rattle.rig_simulated.proofs.Vocabulary.{cases_eq, Ends, in_order, turned, Net, Linked, Joined, here, then, ClassNode}
use Rattle.machine_meaning.proofs.JoinedLemmas.{Joined-trans, Joined-sym}
use Rattle.rig_simulated.specs.Classes.{knot_at, HasRoots, AreClasses, HoldsAt, IsHeldAs, AreKnots, AreTied, HasLink, HaveSameLinks, stronger, IsHung}
use Rattle.rig_simulated.proofs.ClassLemmas.{merged, merged-low, merged-other, merged-same, hung_roots}

pub Joined-kept : {old new : Net} → ((u v : ℕ) → Linked old u v → Linked new u v) → {a b : ℕ} → Joined old a b → Joined new a b
Joined-kept kept here = here
Joined-kept kept (then q l) = then (Joined-kept kept q) (kept _ _ l)

-- a link within a class changes nothing
pub within_class : {old new : Net} {root : ℕ → ℕ} {a b : ℕ} → AreClasses old root → HasLink old new a b → root a ≡ root b → AreClasses new root
within_class {old} {new} {root} {a} {b} are link e = record { joined = λ u v s. Joined-kept link.kept (are.joined u v s); same = along }
  where
    by_ends : (u v : ℕ) → Ends (a, b) u v → root u ≡ root v
    by_ends u v (in_order p q) = ap root (sym p) ∙ e ∙ ap root q
    by_ends u v (turned p q) = ap root (sym q) ∙ sym e ∙ ap root p

    step : (u v : ℕ) → Linked new u v → root u ≡ root v
    step u v l = ⊎_elim (λ o. are.same u v (then here o)) (by_ends u v) (link.only u v l)

    along : (u v : ℕ) → Joined new u v → root u ≡ root v
    along u v here = refl
    along u v (then q l) = along u _ q ∙ step _ v l

-- what only one more link joins
module _ {old new : Net} {root : ℕ → ℕ} {a b : ℕ} (are : AreClasses old root) (link : HasLink old new a b) where
  over : (u v : ℕ) → root u ≡ root a → root v ≡ root b → Joined new u v
  over u v e f = Joined-trans (then (Joined-kept link.kept (are.joined u a e)) link.more) (Joined-kept link.kept (are.joined b v (sym f)))

  -- the two roots, in either order
  module _ (low high : ℕ) (ends : ((root a ≡ low) × (root b ≡ high)) ⊎ ((root a ≡ high) × (root b ≡ low))) (apart : low ≢ high) where
    across : (u v : ℕ) → root u ≡ low → root v ≡ high → Joined new u v
    across u v e f = ⊎_elim (λ p. over u v (e ∙ sym p.0) (f ∙ sym p.1)) (λ p. Joined-sym (over v u (f ∙ sym p.0) (e ∙ sym p.1))) ends

    joined : (u v : ℕ) → merged root low high u ≡ merged root low high v → Joined new u v
    joined u v s = by_u (cases_eq (root u) low) (cases_eq (root v) low)
      where
        by_u : (root u ≡ low) ⊎ (root u ≢ low) → (root v ≡ low) ⊎ (root v ≢ low) → Joined new u v
        by_u (inl e) (inl f) = Joined-kept link.kept (are.joined u v (e ∙ sym f))
        by_u (inl e) (inr n) = across u v e (sym (merged-other root low high v n) ∙ sym s ∙ merged-low root low high u e)
        by_u (inr m) (inl f) = Joined-sym (across v u f (sym (merged-other root low high u m) ∙ s ∙ merged-low root low high v f))
        by_u (inr m) (inr n) = Joined-kept link.kept (are.joined u v (sym (merged-other root low high u m) ∙ s ∙ merged-other root low high v n))

    to_high : (w : ℕ) → (root w ≡ low) ⊎ (root w ≡ high) → merged root low high w ≡ high
    to_high w (inl e) = merged-low root low high w e
    to_high w (inr e) = merged-other root low high w (λ f. apart (sym f ∙ e)) ∙ e

    a_high : merged root low high a ≡ high
    a_high = to_high a (⊎_elim (λ p. inl p.0) (λ p. inr p.0) ends)

    b_high : merged root low high b ≡ high
    b_high = to_high b (⊎_elim (λ p. inr p.1) (λ p. inl p.1) ends)

    by_ends : (u v : ℕ) → Ends (a, b) u v → merged root low high u ≡ merged root low high v
    by_ends u v (in_order p q) = ap (merged root low high) (sym p) ∙ a_high ∙ sym b_high ∙ ap (merged root low high) q
    by_ends u v (turned p q) = ap (merged root low high) (sym q) ∙ b_high ∙ sym a_high ∙ ap (merged root low high) p

    step : (u v : ℕ) → Linked new u v → merged root low high u ≡ merged root low high v
    step u v l = ⊎_elim (λ o. merged-same root low high u v (are.same u v (then here o))) (by_ends u v) (link.only u v l)

    along : (u v : ℕ) → Joined new u v → merged root low high u ≡ merged root low high v
    along u v here = refl
    along u v (then q l) = along u _ q ∙ step _ v l

    pub joined_classes : AreClasses new (merged root low high)
    joined_classes = record { joined = joined; same = along }

-- what holds classes once one is put below another
module _ (stuck : ℕ → Option Bool) (root : ℕ → ℕ) (low high : ℕ) (apart : low ≢ high) where
  from_low : (v : Bool) → HoldsAt stuck root low v → HoldsAt stuck (merged root low high) high v
  from_low v h = record { place = h.place; member = merged-low root low high h.place h.member; stuck_at = h.stuck_at }

  from_other : (r : ℕ) → r ≢ low → (v : Bool) → HoldsAt stuck root r v → HoldsAt stuck (merged root low high) r v
  from_other r n v h = record { place = h.place; member = merged-other root low high h.place (λ e. n (sym h.member ∙ e)) ∙ h.member; stuck_at = h.stuck_at }

  from_high : (v : Bool) → HoldsAt stuck root high v → HoldsAt stuck (merged root low high) high v
  from_high v h = from_other high (λ e. apart (sym e)) v h

  to_either : (v : Bool) → HoldsAt stuck (merged root low high) high v → HoldsAt stuck root low v ⊎ HoldsAt stuck root high v
  to_either v h = ⊎_elim
      (λ e. inl (record { place = h.place; member = e; stuck_at = h.stuck_at }))
      (λ n. inr (record { place = h.place; member = sym (merged-other root low high h.place n) ∙ h.member; stuck_at = h.stuck_at }))
      (cases_eq (root h.place) low)

  to_other : (r : ℕ) → r ≢ high → (v : Bool) → HoldsAt stuck (merged root low high) r v → HoldsAt stuck root r v
  to_other r n v h = ⊎_elim
      (λ e. absurd (n (sym h.member ∙ merged-low root low high h.place e)))
      (λ m. record { place = h.place; member = sym (merged-other root low high h.place m) ∙ h.member; stuck_at = h.stuck_at })
      (cases_eq (root h.place) low)

  none_of : (v : Bool) → ¬ HoldsAt stuck root low v → ¬ HoldsAt stuck root high v → ¬ HoldsAt stuck (merged root low high) high v
  none_of v n m h = ⊎_elim n m (to_either v h)

  pub held_both : (x y : Option Bool) → IsHeldAs stuck root low x → IsHeldAs stuck root high y → IsHeldAs stuck (merged root low high) high (stronger x y)
  held_both None None p q = (none_of false p.0 q.0, none_of true p.1 q.1)
  held_both None (Some false) p q = from_high false q
  held_both None (Some true) p q = (none_of false p.0 q.0, from_high true q.1)
  held_both (Some false) y p q = from_low false p
  held_both (Some true) None p q = (none_of false p.0 q.0, from_low true p.1)
  held_both (Some true) (Some false) p q = from_high false q
  held_both (Some true) (Some true) p q = (none_of false p.0 q.0, from_low true p.1)

  pub held_other : (r : ℕ) → r ≢ low → r ≢ high → (x : Option Bool) → IsHeldAs stuck root r x → IsHeldAs stuck (merged root low high) r x
  held_other r n m None p = (λ h. p.0 (to_other r m false h), λ h. p.1 (to_other r m true h))
  held_other r n m (Some false) p = from_other r n false p
  held_other r n m (Some true) p = (λ h. p.0 (to_other r m false h), from_other r n true p.1)

module _ {old new : Net} {stuck : ℕ → Option Bool} {knots after : List ClassNode} {most : ℕ} {root : ℕ → ℕ} {a b : ℕ} (are : AreKnots old stuck knots most root) (link : HasLink old new a b) where
  pub joined_knots : (low high : ℕ) → ((root a ≡ low) × (root b ≡ high)) ⊎ ((root a ≡ high) × (root b ≡ low)) → IsHung knots after low high → low < length knots → high < length knots →
      (knot_at knots low).parent ≡ low → (knot_at knots high).parent ≡ high → low ≢ high → AreKnots new stuck after (most + 1) (merged root low high)
  joined_knots low high ends hung low_in high_in low_top high_top apart = record {
    roots = hung_roots are.roots low high hung low_in high_in low_top high_top apart;
    classes = joined_classes are.classes link low high ends apart;
    held = held;
  }
    where
      low_root : root low ≡ low
      low_root = are.roots.top low low_top

      high_root : root high ≡ high
      high_root = are.roots.top high high_top

      held : (r : ℕ) → merged root low high r ≡ r → IsHeldAs stuck (merged root low high) r (knot_at after r).held
      held r top = by_high (cases_eq r high)
        where
          not_low : r ≢ low
          not_low e = apart (sym e ∙ sym top ∙ merged-low root low high r (ap root e ∙ low_root))

          by_high : (r ≡ high) ⊎ (r ≢ high) → IsHeldAs stuck (merged root low high) r (knot_at after r).held
          by_high (inl e) = rw (e, hung.held) (held_both stuck root low high apart _ _ (are.held low low_root) (are.held high high_root))
          by_high (inr m) =
              let own : root r ≡ r = ⊎_elim (λ f. absurd (m (sym top ∙ merged-low root low high r f))) (λ f. sym (merged-other root low high r f) ∙ top) (cases_eq (root r) low) in
              rw (hung.others r not_low m) (held_other stuck root low high apart r not_low m _ (are.held r own))

pub raised : {knots : List ClassNode} {most : ℕ} {root : ℕ → ℕ} (n : ℕ) → most ≤ n → HasRoots knots most root → HasRoots knots n root
raised n le h = record { within = h.within; up = h.up; top = h.top; itself = h.itself; rises = h.rises; few = λ w. let f = h.few w in omega (arith, f, le) }

-- a link within a class leaves the knots
pub same_knots : {old new : Net} {stuck : ℕ → Option Bool} {knots : List ClassNode} {most : ℕ} {root : ℕ → ℕ} {a b : ℕ} → AreKnots old stuck knots most root → HasLink old new a b → root a ≡ root b → AreKnots new stuck knots (most + 1) root
same_knots {most} are link e = record { roots = raised (most + 1) (omega arith) are.roots; classes = within_class are.classes link e; held = are.held }

-- the same links make the same classes
pub with_same_links : {old new : Net} {root : ℕ → ℕ} → HaveSameLinks old new → AreClasses old root → AreClasses new root
with_same_links s are = record { joined = λ u v e. Joined-kept s.to (are.joined u v e); same = λ u v j. are.same u v (Joined-kept s.from j) }

pub tied_alike : {old new : Net} {stuck : ℕ → Option Bool} {knots : List ClassNode} {most : ℕ} (n : ℕ) → HaveSameLinks old new → most ≤ n → AreTied old stuck knots most → AreTied new stuck knots n
tied_alike n s le t = record { root = t.root; knots_are = record { roots = raised n le t.knots_are.roots; classes = with_same_links s t.knots_are.classes; held = t.knots_are.held } }

-- the knots once the classes of a and b, whose roots are these, are one
pub tied_roots : {old new : Net} {stuck : ℕ → Option Bool} {knots after : List ClassNode} {most a b x y : ℕ} (t : AreTied old stuck knots most) → HasLink old new a b →
    x ≡ t.root a → y ≡ t.root b → x < length knots → y < length knots → (knot_at knots x).parent ≡ x → (knot_at knots y).parent ≡ y → x ≢ y →
    IsHung knots after x y ⊎ IsHung knots after y x → AreTied new stuck after (most + 1)
tied_roots {x} {y} t link ex ey xin yin xtop ytop apart hung = ⊎_elim
    (λ h. record { root = merged t.root x y; knots_are = joined_knots t.knots_are link x y (inl (sym ex, sym ey)) h xin yin xtop ytop apart })
    (λ h. record { root = merged t.root y x; knots_are = joined_knots t.knots_are link y x (inr (sym ex, sym ey)) h yin xin ytop xtop (λ e. apart (sym e)) })
    hung
