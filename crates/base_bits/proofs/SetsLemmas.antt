-- What a set of numbers contains after a change, what a slice of a vector was left with, and bits that are the same.
use Rattle.std.proofs.Common.{◌≡◌, ℕ, Bool, true, false, not, ◌||◌, ◌&&◌, if◌then◌else◌, List, length, refl, sym, ap, ◌∙◌, ◌==◌, Vec}
use Rattle.std.specs.Vec.{with_items}
use Rattle.std.specs.{Ordering.nat_cmp, Cmp.nat_cmp_total, Cmp.unsigned_tied, FinSet.contains-insert, FinSet.contains-remove}
use Rattle.std.specs.FinSet as sets
use Rattle.std.proofs.{Math.Bool.beq, lemmas.List.with_items_is}

or_if : (t b : Bool) → (t || b) ≡ (if t then true else b)
or_if true b = refl
or_if false b = refl

and_if : (t b : Bool) → (not t && b) ≡ (if t then false else b)
and_if true b = refl
and_if false b = refl

pub or_more : (s : sets.FinSet nat_cmp) (i q : ℕ) → sets.contains (sets.insert s i) q ≡ ((q == i) || sets.contains s q)
or_more s i q = contains-insert nat_cmp_total s i q ∙ ap (λ t. t || sets.contains s q) (unsigned_tied q i)

pub contains_more : (s : sets.FinSet nat_cmp) (i q : ℕ) → sets.contains (sets.insert s i) q ≡ (if q == i then true else sets.contains s q)
contains_more s i q = or_more s i q ∙ or_if (q == i) (sets.contains s q)

pub contains_less : (s : sets.FinSet nat_cmp) (i q : ℕ) → sets.contains (sets.remove s i) q ≡ (if q == i then false else sets.contains s q)
contains_less s i q = contains-remove nat_cmp_total s i q ∙ ap (λ t. not t && sets.contains s q) (unsigned_tied q i) ∙ and_if (q == i) (sets.contains s q)

pub items_after : {X Z : Type 0} (v : Vec X Z) (ws : List X) → length ws ≡ length v.items → (with_items v ws).items ≡ ws
items_after v ws e = with_items_is v ws (e ∙ sym v.ok.0)

pub same_bits : (a b : Bool) → beq a b ≡ true → a ≡ b
same_bits true true e = refl
same_bits false false e = refl
same_bits true false e = absurd cc
same_bits false true e = absurd cc
