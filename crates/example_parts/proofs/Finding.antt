-- Tested crossbars stay as more is kept, and one more is found.
use Rattle.std.proofs.Common.{All, ◌≡◌, ◌<◌, ◌≤◌, ◌+◌, ℕ, true, false, Option, None, Result, Ok, Err, IfOk, IfNone, List, [], ◌∷◌, ◌++◌, length, get_or, Some, arith, subst, sym, ap, ◌∙◌, slice_get}
use native.Mathlib.Decide.{dec_lt}
use Rattle.example_parts.proofs.Vocabulary.{false≢true, get_or_append_left, length-append, Shape, Walk, Kept, HoldsFor, is_apart, more_then}
use Rattle.example_parts.proofs.Vocabulary.{of_told, known_none, IsFoundAt, AreFound}
use Rattle.std.proofs.Math.Seq.{get_or-append_seam}
use Rattle.machine_shape.specs.Vocabulary.{nodes_of, node_of, parent_of, HasParents}
use Rattle.machine_meaning.specs.Faults.{Faults}
use Rattle.rig.specs.Rig.{RigState, Explains, Narrows, ForEach}
use Rattle.diag_tests.specs.declared.trunk.Trunk.{Trunk}
use Rattle.diag_known.specs.Known.{KnownWires, IsKnown, KnowsAll}
use Rattle.diag_published.specs.Held.{Findings, IsHeld, IsHeldTrunk, FullIf, IsLater, UnservedIf}
use Rattle.diag_published.proofs.Staying.{held_later, full_later}

-- nothing is known and found at first
pub none_found : (rig : RigState) (k : Kept) (known : KnownWires) (found : List Findings) → known.shape ≡ k.shape → known.steps ≡ [] → found ≡ [] → ((w : ℕ) → is_apart k w ≡ false) → ((f : Faults) → HoldsFor k f) → AreFound rig k known found
none_found rig k known found shape none empty set holds = record {
  known = known_none shape none;
  all = λ w on. absurd (false≢true (sym (set w) ∙ on));
  holds = λ f e. holds f;
  each = λ n d below. absurd (let e = ap (λ (ts : List Findings). length ts) empty in let no : ⊥ = omega (arith, below, e) in no);
}

-- those found stay as more is read, kept and known
pub found_later : {a b : RigState} {k l : Kept} {old new : KnownWires} {found : List Findings} → Narrows a b → ((f : Faults) → Explains f b → HoldsFor k f → HoldsFor l f) → IsLater k l old new → IsKnown l new → KnowsAll l new.steps → AreFound a k old found → AreFound b l new found
found_later {a} {b} {k} {l} {old} {new} {found} narrows explained later is all p = record {
  known = is;
  all = all;
  holds = λ f e. explained f e (p.holds f (narrows f e));
  each = λ n d below. at n (get_or found n d) (p.each n d below);
}
  where
    at : (n : ℕ) (t : Findings) → IsFoundAt a k old n t → IsFoundAt b l new n t
    at n t was = record {
      node = was.node;
      held = held_later later t was.held;
      full = λ f e. record { at = λ h told holds. full_later later.kept ((was.full f (narrows f e)).at h told (of_told (λ g. HoldsFor k g) (p.holds f (narrows f e)) h told)) };
    }

-- what is full where what was kept before is true is so, where that is true
pub full_now : {f : Faults} {k l : Kept} {t : Findings} → HoldsFor k f → FullIf (Some f) k l t → FullIf (Some f) l l t
full_now {k = k} holds full = record { at = λ h is _. full.at h is (of_told (λ g. HoldsFor k g) holds h is) }

-- one step after the other
pub later_then : {k l n : Kept} {a b c : KnownWires} → IsLater k l a b → IsLater l n b c → IsLater k n a c
later_then p q = record { kept = more_then p.kept q.kept; known = λ w h. q.known w (p.known w h) }

-- a trunk of the node at which it ends
pub trunk_at : {k : Kept} {known : KnownWires} {n : ℕ} {left right : Walk} (m : Shape) → k.shape ≡ m → node_of m left.end ≡ n → IsHeldTrunk k known n left right → IsHeldTrunk k known (node_of k.shape left.end) left right
trunk_at {k} {known} {n} {left} {right} m same e held = subst (λ i. IsHeldTrunk k known i left right) (sym (ap (λ s. node_of s left.end) same ∙ e)) held

-- one more is found
pub found_next : {a b : RigState} {k l : Kept} {old new : KnownWires} {found : List Findings} (t : Findings) → Narrows a b → ((f : Faults) → Explains f b → HoldsFor k f → HoldsFor l f) → IsLater k l old new → IsKnown l new → KnowsAll l new.steps → AreFound a k old found → t.node ≡ length found → IsHeld l new t →
    ForEach b (λ told. FullIf told l l t) → AreFound b l new (found ++ t ∷ [])
found_next {a} {b} {k} {l} {old} {new} {found} t narrows explained later is all p node held full = record {
  known = is;
  all = all;
  holds = λ f e. explained f e (p.holds f (narrows f e));
  each = λ n d below. at n d below (dec_lt n (length found));
}
  where
    at : (n : ℕ) (d : Findings) → n < length (found ++ t ∷ []) → Dec (n < length found) → IsFoundAt b l new n (get_or (found ++ t ∷ []) n d)
    at n d below (yes within) = rw (get_or_append_left found (t ∷ []) d n within) ((found_later narrows explained later is all p).each n d within)
    at n d below (no past) =
        let last : n ≡ length found = omega (arith, below, past, length-append found (t ∷ [])) in
        subst (λ i. IsFoundAt b l new i (get_or (found ++ t ∷ []) i d)) (sym last)
        (rw (get_or-append_seam found t [] d) (record { node = node; held = held; full = full }))

-- all of them are held
pub all_held : {rig : RigState} {k : Kept} {known : KnownWires} {found : List Findings} → AreFound rig k known found → All (IsHeld k known) found
all_held p = λ n d below. (p.each n d below).held

-- below the root each node of the machine has a node above it, with a smaller number
pub has_one_above : (m : Shape) (n : ℕ) → HasParents m → 0 < n → n < nodes_of m → ((i : ℕ) → parent_of m n ≡ Some i → n ≤ i) → ⊥
has_one_above m n parents below_root within none =
    let above = parents.others n below_root within in
    let before = parents.before n above.0 above.1 in
    let past = none above.0 above.1 in
    omega (arith, before, past)

-- that no trunk is found says of each set of faults with P that the node isn't served
pub unserved_each : {E : Type 0} {rig : RigState} (k : Kept) (n : ℕ) (P : Option Faults → Type 0) (r : Result (Option Trunk) E) → IfOk r (λ found. ForEach rig (λ told. P told → IfNone found (UnservedIf told k n))) → ForEach rig P →
    IfOk r (λ found. IfNone found (ForEach rig (λ told. UnservedIf told k n)))
unserved_each k n P (Ok None) h p = λ f e. h f e (p f e)
unserved_each k n P (Ok (Some t)) h p = tt
unserved_each k n P (Err x) h p = tt
