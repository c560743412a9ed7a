-- The pins of a tenant are pins of the machine, each named once.
use Rattle.std.proofs.Common.{◌≡◌, ◌≢◌, ℕ, ◌+◌, ◌<◌, ◌≤◌, ◌++◌, List, length, sym, subst}
use Rattle.place_pair.proofs.Vocabulary.{All, AllPairs, Shape, pins_of, ImageValue, IsImage, part}
use Rattle.place_pair.proofs.Lists.{all_pins, pairs_pins}

module _ (a b c e : ℕ) (w : ImageValue) (image : IsImage w) (left : a + b ≤ length w.inputs) (right : c + e ≤ length w.outputs)
    (ins outs : List ℕ) (ins_are : ins ≡ part a b w.inputs) (outs_are : outs ≡ part c e w.outputs) where
  pins_are : part a b w.inputs ++ part c e w.outputs ≡ ins ++ outs
  pins_are = λ i. sym ins_are i ++ sym outs_are i

  pub cut_within : (m : Shape) → m ≡ w.config.shape → All (λ k. k < pins_of m) (ins ++ outs)
  cut_within m same = subst (λ (z : Shape). All (λ k. k < pins_of z) (ins ++ outs)) (sym same) (subst (All (λ k. k < pins_of w.config.shape)) pins_are (all_pins a b c e w.inputs w.outputs left right (λ k. k < pins_of w.config.shape) image.within))

  pub cut_apart : AllPairs (λ j k. j ≢ k) (ins ++ outs)
  cut_apart = subst (AllPairs (λ j k. j ≢ k)) pins_are (pairs_pins a b c e w.inputs w.outputs left right image.apart)
