-- Toggles over routes of known wires pass.
use Rattle.std.proofs.Common.{◌≡◌, ◌≢◌, ℕ, ◌<◌, Bool, true, false, None, Option, List, [], ◌∷◌, ◌++◌, refl, sym, ap, ◌∙◌, subst, inr, arith, ◌==◌, ◌||◌}
use Rattle.diag_known.proofs.Vocabulary.{false≢true, nat_tests, Shape, Ends, in_order, turned, ends_of, crosses_of, Faults, stuck_cross}
use Rattle.diag_known.proofs.Vocabulary.{Shorted, IsClear, Joined-sym, among, IsWithin, ends, goes, LeadsTo-end, Walk, among-push}
use Rattle.diag_known.proofs.Vocabulary.{among_both, pair_turned, holds_earlier, untried_crosses, untried_wires, untried_pairs}
use Rattle.diag_known.proofs.Vocabulary.{VerifiedWire}
use native.Mathlib.Decide.{dec_lt}
use Rattle.diag_evidence.specs.Vocabulary.{Kept, HoldsUntried, IsMore, keeps_cross, keeps_wire, keeps_pair, IsLoopBy, LoopPasses}
use Rattle.diag_known.specs.Vocabulary.{KnownWires, IsAt, HasWire, IsKnown, RestsOn, IsKnownRoute, AreRoutesTo, IsKeptRoute, IsFit, IsKeptUnlessStuck, IsLost}
use Rattle.diag_known.proofs.Places.{at_one}
use Rattle.diag_known.proofs.Rising.{among_one}

pub rests_known : {ss : List VerifiedWire} {on : ℕ → Type 0} {w : ℕ} → RestsOn ss on w → HasWire ss w
rests_known r = record { place = r.place; at = r.at }

pub kept_route : {k : Kept} {ss : List VerifiedWire} {r : Walk} → IsKnownRoute k ss r → IsKeptRoute k r
kept_route r = record { route = r.route; crosses = r.crosses }

or_true : (a b : Bool) → b ≡ true → (a || b) ≡ true
or_true true b e = refl
or_true false b e = e

pub among_last : (xs : List ℕ) (w : ℕ) → among (xs ++ w ∷ []) w ≡ true
among_last xs w = among-push xs w w ∙ or_true (among xs w) (w == w) (grind (arith, nat_tests))

pub among_before : (xs : List ℕ) (w u : ℕ) → among xs u ≡ true → among (xs ++ w ∷ []) u ≡ true
among_before xs w u on = among-push xs w u ∙ rw on refl

-- the second of two
pub among_two : (x y z : ℕ) → among (x ∷ y ∷ []) z ≡ true → z ≢ x → z ≡ y
among_two x y z on = among_both (λ z. z ≢ x → z ≡ y) (x ∷ []) y (λ z h n. absurd (n (sym (among_one x z h)))) (λ n. refl) z on

pub two_first : (x y : ℕ) → among (x ∷ y ∷ []) x ≡ true
two_first x y = among_before (x ∷ []) y x (among_last [] x)

-- one crosspoint doesn't lead from two wires to a third
pub two_ends : {p : ℕ × ℕ} {a b w : ℕ} → Ends p a w → Ends p b w → a ≢ b → a ≢ w → ⊥
two_ends (in_order s t) (in_order u v) differ other = differ (sym s ∙ u)
two_ends (in_order s t) (turned u v) differ other = other (sym s ∙ u)
two_ends (turned s t) (in_order u v) differ other = other (sym t ∙ v)
two_ends (turned s t) (turned u v) differ other = differ (sym t ∙ v)

-- both ends of a crosspoint are in a group
pub both_within : {m : Shape} {x a b : ℕ} {group : ℕ → Bool} → Ends (ends_of m x) a b → group a ≡ true → group b ≡ true → IsWithin m group x
both_within {group = group} (in_order s t) a b = record { tap = ap group s ∙ a; line = ap group t ∙ b }
both_within {group = group} (turned s t) a b = record { tap = ap group s ∙ b; line = ap group t ∙ a }

module _ {k : Kept} {known : KnownWires} (is : IsKnown k known) where
  pub known_wire : {u : ℕ} → HasWire known.steps u → keeps_wire k u ≡ true
  known_wire h = subst (λ v. keeps_wire k v ≡ true) h.at.wire ((is.steps h.place h.at.step h.at.here).kept)

  kept_later : {a b : ℕ} → (p : HasWire known.steps a) (q : HasWire known.steps b) → p.place < q.place → keeps_pair k a b ≡ true
  kept_later {a} {b} p q less = subst (λ x. keeps_pair k a x ≡ true) q.at.wire ((is.steps q.place q.at.step q.at.here).apart a (record { place = p.place; early = less; at = p.at }))

  pub known_pair : {u v : ℕ} → HasWire known.steps u → HasWire known.steps v → u ≢ v → keeps_pair k u v ≡ true
  known_pair {u} {v} h g differ = by_less (dec_lt h.place g.place) (dec_lt g.place h.place)
    where
      by_less : Dec (h.place < g.place) → Dec (g.place < h.place) → keeps_pair k u v ≡ true
      by_less (yes l) o = kept_later h g l
      by_less (no l) (yes o) = pair_turned k u v ∙ kept_later g h o
      by_less (no l) (no o) = let same : g.place ≡ h.place = omega arith in absurd (differ (at_one h.at (subst (λ i. IsAt known.steps i v) same g.at)))

  module _ {f : Faults} (holds : HoldsUntried k f) where
    pub known_clear : {u : ℕ} → HasWire known.steps u → IsClear k.shape f u
    known_clear {u} h = untried_wires k holds u (known_wire h)

    pub known_unshorted : {u v : ℕ} → HasWire known.steps u → HasWire known.steps v → u ≢ v → ¬ Shorted k.shape f u v
    known_unshorted {u} {v} h g differ = untried_pairs k holds u v differ (is.of_set u h) (is.of_set v g)

    module _ {a b : ℕ} {p q : Walk} (routes : AreRoutesTo k known.steps a b p q) where
      left_known : (w : ℕ) → among p.wires w ≡ true → HasWire known.steps w
      left_known w on = rests_known (routes.routes.left.wires w on)

      right_known : (w : ℕ) → among q.wires w ≡ true → HasWire known.steps w
      right_known w on = rests_known (routes.routes.right.wires w on)

      routes_unshorted : (w u : ℕ) → among p.wires w ≡ true → among q.wires u ≡ true → ¬ Shorted k.shape f w u
      routes_unshorted w u on other = known_unshorted (left_known w on) (right_known u other)
          (λ e. false≢true (sym (routes.routes.apart w on) ∙ subst (λ v. among q.wires v ≡ true) (sym e) other))

      pub known_loop : {x : ℕ} → Ends (ends_of k.shape x) a b → stuck_cross f x ≡ None → IsLoopBy k.shape f p q (x ∷ []) x (among p.wires) (among q.wires)
      known_loop {x} at free = record {
        left_in = λ w on. on;
        right_in = λ w on. on;
        ties_in = λ y on other. absurd (other (sym (among_one x y on)));
        left_clear = λ w on. known_clear (left_known w on);
        right_clear = λ w on. known_clear (right_known w on);
        apart = routes_unshorted;
        free = free;
        near = p.end;
        far = q.end;
        at = subst (λ e. Ends (ends_of k.shape x) p.end e) (sym routes.right_end) (subst (λ e. Ends (ends_of k.shape x) e b) (sym routes.left_end) at);
        near_left = LeadsTo-end routes.routes.left.route.leads;
        far_right = LeadsTo-end routes.routes.right.route.leads;
        lefts = [];
        left_way = p.end ∷ [];
        leads_left = ends;
        left_ties = tt;
        rights = [];
        right_way = q.end ∷ [];
        leads_right = ends;
        right_ties = tt;
      }

      pub over_loop : {w x g : ℕ} → a ≢ b → ¬ HasWire known.steps w → HasWire known.steps a → Ends (ends_of k.shape x) a w → Ends (ends_of k.shape g) b w → g < crosses_of k.shape → keeps_cross k g ≡ true →
          IsFit k.shape f known.steps w → stuck_cross f x ≡ None → IsLoopBy k.shape f p q (x ∷ g ∷ []) x (among p.wires) (among (q.wires ++ w ∷ []))
      over_loop {w} {x} {g} differ new old at over within kept fit free = record {
        left_in = λ u on. on;
        right_in = λ u on. among_before q.wires w u on;
        ties_in = λ y on other. inr (subst (IsWithin k.shape (among (q.wires ++ w ∷ []))) (sym (among_two x g y on other))
            (both_within over_end (among_before q.wires w q.end (LeadsTo-end routes.routes.right.route.leads)) (among_last q.wires w)));
        left_clear = λ u on. known_clear (left_known u on);
        right_clear = among_both (IsClear k.shape f) q.wires w (λ u on. known_clear (right_known u on)) fit.clear;
        apart = λ u v on other. among_both (λ v. ¬ Shorted k.shape f u v) q.wires w (λ v h. routes_unshorted u v on h) (λ s. fit.alone u (left_known u on) (Joined-sym s)) v other;
        free = free;
        near = p.end;
        far = w;
        at = subst (λ e. Ends (ends_of k.shape x) e w) (sym routes.left_end) at;
        near_left = LeadsTo-end routes.routes.left.route.leads;
        far_right = among_last q.wires w;
        lefts = [];
        left_way = p.end ∷ [];
        leads_left = ends;
        left_ties = tt;
        rights = g ∷ [];
        right_way = q.end ∷ w ∷ [];
        leads_right = goes within over_end ends;
        right_ties = ((among_last (x ∷ []) g, (other_cross, untried_crosses k holds g kept)), tt);
      }
        where
          over_end : Ends (ends_of k.shape g) q.end w
          over_end = subst (λ e. Ends (ends_of k.shape g) e w) (sym routes.right_end) over

          other_cross : g ≢ x
          other_cross e = two_ends at (subst (λ c. Ends (ends_of k.shape c) b w) e over) differ (λ same. new (subst (HasWire known.steps) same old))

-- what the toggles tell
pub known_passes : {told : Option Faults} {k l : Kept} {known : KnownWires} {a b x : ℕ} {p q : Walk} {yes : Bool} → IsKnown k known → AreRoutesTo k known.steps a b p q → Ends (ends_of k.shape x) a b →
    LoopPasses told k p q (x ∷ []) x yes → IsMore k l → (yes ≡ true → keeps_cross l x ≡ true) → IsKeptUnlessStuck told l x
known_passes {p = p} {q = q} is routes at passes more kept = record {
  at = λ f told holds free. let before = holds_earlier more holds in kept (passes.at f (among p.wires) (among q.wires) told before (known_loop is before routes at free));
}

pub over_lost : {told : Option Faults} {k l : Kept} {known : KnownWires} {a b w x g : ℕ} {p q : Walk} {yes : Bool} → IsKnown k known → AreRoutesTo k known.steps a b p q → a ≢ b → ¬ HasWire known.steps w →
    HasWire known.steps a → Ends (ends_of k.shape x) a w → Ends (ends_of k.shape g) b w → g < crosses_of k.shape → keeps_cross k g ≡ true →
    LoopPasses told k p q (x ∷ g ∷ []) x yes → IsMore k l → yes ≡ false → IsLost told l known.steps w x
over_lost {known = known} {w = w} {p = p} {q = q} is routes differ new old at over within kept passes more is_no = record {
  at = λ f told holds fit free. let before = holds_earlier more holds in
      false≢true (sym is_no ∙ passes.at f (among p.wires) (among (q.wires ++ w ∷ [])) told before
      (over_loop is before routes differ new old at over within kept (subst (λ (m : Shape). IsFit m f known.steps w) more.shape fit) free));
}
