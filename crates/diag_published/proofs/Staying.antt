-- What is held stays so as more is kept and known.
use Rattle.std.proofs.Common.{◌≡◌, ◌⊎◌, ◌<◌, ℕ, true, Some, None, Option, sym, subst, IfSome}
use Rattle.diag_published.proofs.Vocabulary.{ends_of, crosses_of, node_of_cross, IsTap, IsLine, IsOfUse, HasTwo, IsServed, IsSoundWire}
use Rattle.diag_published.proofs.Vocabulary.{IsSoundCross, Faults, among, Walk, Kept, keeps_cross, IsMore, KnownWires}
use Rattle.diag_published.specs.Held.{Findings, IsHeldRoute, IsHeldTrunk, IsHeld, IsFull, HasAll, IsLater}

module _ {k l : Kept} {old new : KnownWires} (later : IsLater k l old new) where
  route_later : {r : Walk} → IsHeldRoute k old r → IsHeldRoute l new r
  route_later h = record {
    route = rw later.kept.shape h.route;
    once = h.once;
    crosses = λ x is. later.kept.crosses x (h.crosses x is);
    wires = λ w is. later.known w (h.wires w is);
  }

  pub trunk_later : {n : ℕ} {left right : Walk} → IsHeldTrunk k old n left right → IsHeldTrunk l new n left right
  trunk_later h = record {
    left_route = route_later h.left_route;
    right_route = route_later h.right_route;
    apart = h.apart;
    left_end = rw later.kept.shape h.left_end;
    right_end = rw later.kept.shape h.right_end;
  }

  two_later : {P Q : ℕ → Type 0} → ((c : ℕ) → P c → Q c) → HasTwo P → HasTwo Q
  two_later h t = record { one = t.one; two = t.two; different = t.different; first = h t.one t.first; second = h t.two t.second }

  if_some_later : {T : Type 0} {P Q : T → Type 0} (o : Option T) → ((x : T) → P x → Q x) → IfSome o P → IfSome o Q
  if_some_later None h p = tt
  if_some_later (Some x) h p = h x p

  pub held_later : (t : Findings) → IsHeld k old t → IsHeld l new t
  held_later t h = record {
    node = rw later.kept.shape h.node;
    trunk = trunk_later h.trunk;
    left_tap = h.left_tap;
    right_tap = h.right_tap;
    taps = rw later.kept.shape h.taps;
    lines = rw later.kept.shape h.lines;
    known_taps = λ w is. later.known w (h.known_taps w is);
    known_lines = λ w is. later.known w (h.known_lines w is);
    joined = λ w is. subst (λ m. HasTwo (λ c. (c < crosses_of m) × ((ends_of m c).1 ≡ w) × (among t.taps (ends_of m c).0 ≡ true) × (keeps_cross l c ≡ true))) (sym later.kept.shape)
        (two_later (λ c p. (p.0, p.1, p.2, later.kept.crosses c p.3)) (h.joined w is));
    open_pair = if_some_later t.open_pair (λ p o. record {
      differ = o.differ;
      first = o.first;
      second = o.second;
      crosses = subst (λ m. (c : ℕ) → c < crosses_of m → ((ends_of m c).1 ≡ p.0) ⊎ ((ends_of m c).1 ≡ p.1) → among t.taps (ends_of m c).0 ≡ true → keeps_cross l c ≡ true) (sym later.kept.shape)
          (λ c below line tap. later.kept.crosses c (o.crosses c below line tap));
    }) h.open_pair;
  }

-- what is full stays full
pub full_later : {k l : Kept} {f : Faults} {t : Findings} → IsMore k l → IsFull k f t → IsFull l f t
full_later {k} {l} {f} {t} more full = λ served.
    let all : HasAll k f t = full (subst (λ m. IsServed m f t.node) more.shape served) in
    let crosses : (c : ℕ) → c < crosses_of k.shape → node_of_cross k.shape c ≡ t.node → IsSoundCross k.shape f c → IsOfUse k.shape f (ends_of k.shape c).1 → keeps_cross l c ≡ true =
    λ c below of sound useful. more.crosses c (all.crosses c below of sound useful) in
    record {
      taps = subst (λ m. (w : ℕ) → IsTap m t.node w → IsSoundWire m f w → among t.taps w ≡ true) (sym more.shape) all.taps;
      lines = subst (λ m. (w : ℕ) → IsLine m t.node w → IsSoundWire m f w → IsOfUse m f w → among t.lines w ≡ true) (sym more.shape) all.lines;
      crosses = subst (λ m. (c : ℕ) → c < crosses_of m → node_of_cross m c ≡ t.node → IsSoundCross m f c → IsOfUse m f (ends_of m c).1 → keeps_cross l c ≡ true) (sym more.shape) crosses;
      open_pair = all.open_pair;
    }
