-- Known wires are kept apart.
use Rattle.std.proofs.Common.{◌≡◌, ◌≢◌, ℕ, ◌<◌, Bool, true, List, length, ◌∙◌, subst, arith}
use native.Mathlib.Decide.{dec_lt}
use Rattle.diag_known.specs.Known.{KnownWires, IsAt, HasWire, IsKnown, IsGood, InSet, AreApart}
use Rattle.diag_known.proofs.Places.{at_one}
use Rattle.diag_known.proofs.Vocabulary.{wires_of, Kept, is_apart, keeps_wire, keeps_pair, pair_turned, pair_apart}

pub known_pair : {k : Kept} {known : KnownWires} → IsKnown k known → (w u : ℕ) → HasWire known.steps w → HasWire known.steps u → u ≢ w → keeps_pair k u w ≡ true
known_pair {k} {known} is w u a b differ = by (dec_lt b.place a.place) (dec_lt a.place b.place)
  where
    by : Dec (b.place < a.place) → Dec (a.place < b.place) → keeps_pair k u w ≡ true
    by (yes h) o = subst (λ v. keeps_pair k u v ≡ true) a.at.wire ((is.steps a.place a.at.step a.at.here).apart u (record { place = b.place; early = h; at = b.at }))
    by (no h) (yes o) = pair_turned k u w ∙ subst (λ v. keeps_pair k w v ≡ true) b.at.wire ((is.steps b.place b.at.step b.at.here).apart w (record { place = a.place; early = o; at = a.at }))
    by (no h) (no o) = absurd (differ (at_one (subst (λ p. IsAt known.steps p u) (let same : b.place ≡ a.place = omega (arith, h, o) in same) b.at) a.at))

-- a wire of the set that isn't known is kept apart from each that is
pub good_of : {k : Kept} {known : KnownWires} {w : ℕ} → IsKnown k known → ¬ HasWire known.steps w → keeps_wire k w ≡ true → is_apart k w ≡ true → IsGood k known.steps w
good_of {k} {known} {w} is new kept of_set = record {
  kept = kept;
  of_set = of_set;
  apart = λ u has. pair_apart k u w (λ e. new (subst (HasWire known.steps) e has)) (is.of_set u has) of_set;
}

pub known_apart : {k : Kept} {known : KnownWires} (wires : List Bool) → IsKnown k known → length wires ≡ wires_of k.shape → ((w : ℕ) → InSet wires w → HasWire known.steps w) → AreApart k wires
known_apart {k} {known} wires is len all = record {
  len = len;
  kept = λ w h. kept w (all w h);
  of_set = λ w h. is.of_set w (all w h);
  pairs = λ w u h also differ. known_pair is w u (all w h) (all u also) differ;
}
  where
    kept : (w : ℕ) → HasWire known.steps w → keeps_wire k w ≡ true
    kept w h = subst (λ v. keeps_wire k v ≡ true) h.at.wire (is.steps h.place h.at.step h.at.here).kept
