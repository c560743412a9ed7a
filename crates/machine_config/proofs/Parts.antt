-- Groups of wires that are clear and unshorted, part by part.
use Rattle.std.proofs.Common.{◌≡◌, ◌⊎◌, ℕ, Bool, true, false, [], ◌∷◌, subst, inl, inr, arith}
use Rattle.machine_config.proofs.Vocabulary.{nat_tests, or_cases, Shape, among, both, AreClear, AreUnshorted, IsLoose, Joined-sym}
use Rattle.machine_meaning.specs.Vocabulary.{Faults, Shorted, IsClear, IsSoundWire}
use Rattle.machine_meaning.proofs.Clear.{clear_of_sound, unshorted_of_sound}

in_one : (x w : ℕ) → among (x ∷ []) w ≡ true → x ≡ w
in_one x w e = grind (arith, nat_tests)

module _ (m : Shape) (f : Faults) where
  pub clear_both : (p q : ℕ → Bool) → AreClear m f p → AreClear m f q → AreClear m f (both p q)
  clear_both p q a b w is = by_side (or_cases (p w) (q w) is)
    where
      by_side : (p w ≡ true) ⊎ (q w ≡ true) → IsClear m f w
      by_side (inl h) = a w h
      by_side (inr h) = b w h

  pub clear_one : (x : ℕ) → IsClear m f x → AreClear m f (among (x ∷ []))
  clear_one x c w is = subst (IsClear m f) (in_one x w is) c

  pub unshorted_turned : (p q : ℕ → Bool) → AreUnshorted m f p q → AreUnshorted m f q p
  unshorted_turned p q a w u is on s = a u w on is (Joined-sym s)

  pub unshorted_left : (p q r : ℕ → Bool) → AreUnshorted m f p r → AreUnshorted m f q r → AreUnshorted m f (both p q) r
  unshorted_left p q r a b w u is on = by_side (or_cases (p w) (q w) is)
    where
      by_side : (p w ≡ true) ⊎ (q w ≡ true) → ¬ Shorted m f w u
      by_side (inl h) = a w u h on
      by_side (inr h) = b w u h on

  pub unshorted_right : (p q r : ℕ → Bool) → AreUnshorted m f p q → AreUnshorted m f p r → AreUnshorted m f p (both q r)
  unshorted_right p q r a b = unshorted_turned (both q r) p (unshorted_left q r p (unshorted_turned p q a) (unshorted_turned p r b))

  -- a sound wire, from wires that it isn't among
  pub unshorted_sound : (x : ℕ) (q : ℕ → Bool) → IsSoundWire m f x → q x ≡ false → AreUnshorted m f (among (x ∷ [])) q
  unshorted_sound x q s n w u is on = subst (λ v. ¬ Shorted m f v u) (in_one x w is) (unshorted_of_sound s (λ e. cc (subst (λ v. q v ≡ true) e on, n)))

  pub unshorted_one : (x : ℕ) (q : ℕ → Bool) → ((u : ℕ) → q u ≡ true → ¬ Shorted m f x u) → AreUnshorted m f (among (x ∷ [])) q
  unshorted_one x q a w u is on = subst (λ v. ¬ Shorted m f v u) (in_one x w is) (a u on)

  -- a sound wire may go with either side
  pub add_sound : (p q : ℕ → Bool) (x : ℕ) → AreUnshorted m f p q → IsSoundWire m f x → q x ≡ false → AreUnshorted m f (both p (among (x ∷ []))) q
  add_sound p q x a s n = unshorted_left p (among (x ∷ [])) q a (unshorted_sound x q s n)

  -- a sound wire that is in neither group is loose
  pub loose_of_sound : (p q : ℕ → Bool) (x : ℕ) → IsSoundWire m f x → p x ≡ false → q x ≡ false → IsLoose m f p q x
  loose_of_sound p q x s np nq = record {
    clear = clear_of_sound s;
    off_left = λ u is. unshorted_of_sound s (λ e. cc (subst (λ v. p v ≡ true) e is, np));
    off_right = λ u is. unshorted_of_sound s (λ e. cc (subst (λ v. q v ≡ true) e is, nq));
  }
