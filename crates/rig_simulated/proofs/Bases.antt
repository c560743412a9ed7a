-- The classes before any crosspoint is closed.
use Rattle.std.proofs.Common.{◌≡◌, ◌≢◌, ◌⊎◌, ⊎_elim, ℕ, ◌<◌, ◌≤◌, Bool, true, false, Option, Some, None, IsSome, List, [], length, refl, sym, ap, ◌∙◌, subst, arith}
use Rattle.rig_simulated.proofs.Vocabulary.{false≢true, cases_lt, get_or_past, Shape, wires_of, ClassNode, bridged_net}
use Rattle.std.specs.FinSet as set
use Rattle.machine_meaning.specs.Vocabulary.{Faults, AreFaultsOf, stuck_wire, pair_cmp, Linked, crossed, bridged, Joined, here, then}
use Rattle.rig_simulated.specs.Classes.{knot_at, HasRoots, IsHeldAs, AreTied}

-- a knot of its own
abbrev pub lone : (ℕ → Option Bool) → ℕ → ClassNode
lone stuck w = record { parent = w; rank = 0; held = stuck w }

no_link : (m : Shape) (u v : ℕ) → Linked (bridged_net m []) u v → ⊥
no_link m u v (crossed y on at) = false≢true on
no_link m u v (bridged p is at) = false≢true (sym (set.contains-empty pair_cmp p) ∙ is)

only_itself : (m : Shape) (u v : ℕ) → Joined (bridged_net m []) u v → u ≡ v
only_itself m u v here = refl
only_itself m u v (then q l) = absurd (no_link m _ v l)

held_alone : (stuck : ℕ → Option Bool) (r : ℕ) (o : Option Bool) → stuck r ≡ o → IsHeldAs stuck (λ w. w) r o
held_alone stuck r None e = (λ h. let q = sym h.stuck_at ∙ ap stuck h.member ∙ e in cc, λ h. let q = sym h.stuck_at ∙ ap stuck h.member ∙ e in cc)
held_alone stuck r (Some false) e = record { place = r; member = refl; stuck_at = e }
held_alone stuck r (Some true) e = (λ h. let q = sym h.stuck_at ∙ ap stuck h.member ∙ e in cc, record { place = r; member = refl; stuck_at = e })

not_stuck : (stuck : ℕ → Option Bool) (n w : ℕ) → ((w : ℕ) → IsSome (stuck w) → w < n) → n ≤ w → stuck w ≡ None
not_stuck stuck n w within h = by_case (stuck w) (within w)
  where
    by_case : (o : Option Bool) → (IsSome o → w < n) → o ≡ None
    by_case None f = refl
    by_case (Some v) f = absurd (let l : w < n = f refl in omega (arith, l, h))

pub all_alone : (m : Shape) (f : Faults) (knots : List ClassNode) → AreFaultsOf m f → length knots ≡ wires_of m → ((k : ℕ) → k < length knots → knot_at knots k ≡ lone (stuck_wire f) k) → AreTied (bridged_net m []) (stuck_wire f) knots 0
all_alone m f knots are len each = record { root = λ w. w; knots_are = record { roots = roots; classes = record { joined = λ a b e. subst (Joined (bridged_net m []) a) e here; same = only_itself m }; held = λ r _. held r } }
  where
    is_lone : (w : ℕ) → knot_at knots w ≡ lone (stuck_wire f) w
    is_lone w = ⊎_elim (λ l. each w l) (λ l. get_or_past knots w _ l ∙ ap (λ o. record { parent = w; rank = 0; held = o }) (sym (not_stuck (stuck_wire f) (wires_of m) w are.wires (omega (arith, l, len))))) (cases_lt w (length knots))

    own : (w : ℕ) → (knot_at knots w).parent ≡ w
    own w = ap (λ k. k.parent) (is_lone w)

    roots : HasRoots knots 0 (λ w. w)
    roots = record {
      within = λ w h. rw (own w) h;
      up = own;
      top = λ w _. refl;
      itself = λ w. refl;
      rises = λ w n. absurd (n (own w));
      few = λ w. let e = ap (λ k. k.rank) (is_lone w) in omega (arith, e);
    }

    held : (r : ℕ) → IsHeldAs (stuck_wire f) (λ w. w) r (knot_at knots r).held
    held r = rw (ap (λ k. k.held) (is_lone r)) (held_alone (stuck_wire f) r (stuck_wire f r) refl)
