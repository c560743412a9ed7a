-- The levels below the first, as the code reaches them.
use Rattle.std.proofs.Common.{◌≡◌, ℕ, zero, suc, ◌+◌, ◌-◌, ◌<◌, ◌≤◌, List, [], ◌∷◌, length, take, drop, get_or, refl, ap, ◌∙◌, arith}
use Rattle.machine_shape.proofs.Vocabulary.{le-mul_of_pos_right, take-length, row_fits}
use Rattle.machine_shape.specs.Vocabulary.{AreFull, Levels, Path, Own, IsSpot, stop, step, size, start, place_in, taps_in, crosses_in}
use Rattle.machine_shape.proofs.Walks.{first_place}

-- all but the first
abbrev pub after_first : {A : Type 0} → List A → List A
after_first xs = take (length xs - 1) (drop 1 xs)

pub after_first-cons : {A : Type 0} (x : A) (xs : List A) → after_first (x ∷ xs) ≡ xs
after_first-cons x xs = ap (λ n. take n xs) (omega arith) ∙ take-length xs

pub length-after_first : {A : Type 0} (xs : List A) → length (after_first xs) ≡ length xs - 1
length-after_first [] = omega arith
length-after_first (x ∷ xs) = ap length (after_first-cons x xs) ∙ omega arith

-- a crossbar has a line at least, so its taps are no more than its crosspoints
pub taps_small : (ls : Levels) → AreFull ls → taps_in ls ≤ crosses_in ls
taps_small [] f = omega arith
taps_small (l ∷ ls) f = le-mul_of_pos_right (taps_in (l ∷ ls)) ((f 0 l (omega arith)).1)

module _ (own : Own) where
  pub own_small : (ls : Levels) → own ls ≤ size own ls
  own_small [] = omega arith
  own_small (l ∷ ls) = omega arith

  pub place_own : (ls : Levels) (x : ℕ) → x < own ls → place_in own ls x ≡ record { path = []; position = x }
  place_own [] x h = refl
  place_own (l ∷ ls) x h = first_place own l ls x h

  pub start_small : {ls : Levels} {p : Path} → IsSpot ls p → start own ls p ≤ size own ls
  start_small stop = omega arith
  start_small (step {l} {ls} {i} h s) = let r = start_small s in let f = row_fits i (size own ls) l.children (size own ls) h (omega arith) in omega arith

-- one step, and then the others
pub steps_under : (child len : ℕ) (s : List ℕ) → length s ≡ 4 → len < 4 → take (len + 1) (child ∷ get_or s 0 0 ∷ get_or s 1 0 ∷ get_or s 2 0 ∷ []) ≡ child ∷ take len s
steps_under child zero (a ∷ b ∷ c ∷ d ∷ []) h l = refl
steps_under child (suc zero) (a ∷ b ∷ c ∷ d ∷ []) h l = refl
steps_under child (suc (suc zero)) (a ∷ b ∷ c ∷ d ∷ []) h l = refl
steps_under child (suc (suc (suc zero))) (a ∷ b ∷ c ∷ d ∷ []) h l = refl
steps_under child (suc (suc (suc (suc len)))) s h l = absurd (omega arith)
steps_under child len [] h l = absurd (omega arith)
steps_under child len (a ∷ []) h l = absurd (omega arith)
steps_under child len (a ∷ b ∷ []) h l = absurd (omega arith)
steps_under child len (a ∷ b ∷ c ∷ []) h l = absurd (omega arith)
steps_under child len (a ∷ b ∷ c ∷ d ∷ e ∷ s) h l = absurd (omega arith)
