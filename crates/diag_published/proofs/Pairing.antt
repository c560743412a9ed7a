-- Lines whose crosspoints to all taps are kept.
use Rattle.std.proofs.Common.{◌≡◌, ◌⊎◌, ◌↔◌, ℕ, ◌+◌, ◌<◌, ◌≤◌, Bool, true, false, List, [], length, take, get_or, refl, sym, ◌∙◌, subst, inl, inr}
use Rattle.diag_published.proofs.Vocabulary.{false≢true, Shape, Wire, among, Kept, keeps_cross, KeepsAll, wire_numbers, AreLaws}
use Rattle.machine_shape.specs.Shape.{ends_of, crosses_of}
use Rattle.diag_published.proofs.Listing.{taken_from, wire_at, numbers_all}

-- the crosspoints of a tap and a line are kept, of which there is one or none
abbrev pub KeepsMeeting : Kept → ℕ → ℕ → Type 0
KeepsMeeting k t l = (x : ℕ) → x < crosses_of k.shape → ends_of k.shape x ≡ (t, l) → keeps_cross k x ≡ true

pub meeting_some : (k : Kept) (m : Shape) (t l c : ℕ) (b : Bool) → m ≡ k.shape → AreLaws k.shape → (c < crosses_of m) × (ends_of m c ≡ (t, l)) → b ≡ keeps_cross k c → (b ≡ true) ↔ KeepsMeeting k t l
meeting_some k m t l c b e laws at is = (
  λ yes x h same. subst (λ y. keeps_cross k y ≡ true) (laws.crosses.one c x below h (ends ∙ sym same)) (sym is ∙ yes),
  λ all. is ∙ all c below ends,
)
  where
    below : c < crosses_of k.shape
    below = subst (λ (s : Shape). c < crosses_of s) e at.0

    ends : ends_of k.shape c ≡ (t, l)
    ends = subst (λ (s : Shape). ends_of s c ≡ (t, l)) e at.1

pub meeting_none : (k : Kept) (m : Shape) (t l : ℕ) → m ≡ k.shape → ((c : ℕ) → c < crosses_of m → ends_of m c ≡ (t, l) → ⊥) → (true ≡ true) ↔ KeepsMeeting k t l
meeting_none k m t l e none = (
  λ yes x h same. absurd (subst (λ (s : Shape). (c : ℕ) → c < crosses_of s → ends_of s c ≡ (t, l) → ⊥) e none x h same),
  λ all. refl,
)

module _ (k : Kept) (ws : List Wire) (i : ℕ) (d : Wire) (h : i < length ws) (line : ℕ) where
  pub keeps_next : KeepsAll k (wire_numbers (take i ws)) line → KeepsMeeting k (get_or ws i d).0 line → KeepsAll k (wire_numbers (take (i + 1) ws)) line
  keeps_next all one x within e on = by (taken_from ws i d h (ends_of k.shape x).0 on)
    where
      by : (among (wire_numbers (take i ws)) (ends_of k.shape x).0 ≡ true) ⊎ ((ends_of k.shape x).0 ≡ (get_or ws i d).0) → keeps_cross k x ≡ true
      by (inl is) = all x within e is
      by (inr s) = one x within (λ j. (s j, e j))

  pub keeps_one : KeepsAll k (wire_numbers ws) line → KeepsMeeting k (get_or ws i d).0 line
  keeps_one all x within e = all x within (λ j. (e j).1) (subst (λ v. among (wire_numbers ws) v ≡ true) (λ j. (sym e j).0) (wire_at ws i d h))

pub keeps_none : (k : Kept) (line : ℕ) → KeepsAll k [] line
keeps_none k line x within e on = absurd (false≢true on)

pub keeps_end : (k : Kept) (ws : List Wire) (i line : ℕ) → length ws ≤ i → KeepsAll k (wire_numbers (take i ws)) line → KeepsAll k (wire_numbers ws) line
keeps_end k ws i line past all = subst (λ (us : List ℕ). KeepsAll k us line) (numbers_all ws i past) all
