-- How many numbers are in a set, after one is put in or taken out.
use Rattle.std.proofs.Common.{◌≡◌, ℕ, ◌+◌, ◌<◌, ◌==◌, ◌⊎◌, inl, inr, if◌then◌else◌, Bool, true, false, cond, List, [], ◌∷◌, length, get_or, ap, arith, refl, ◌∙◌, replicate}
use Rattle.std.proofs.{lemmas.Bool.cases_eq, lemmas.Grind.get_or-set_at, Math.ListN.set, Math.ListN.length-set}
use Rattle.std.proofs.lemmas.List.{get_or-set_other, get_or-replicate, length-replicate, Sums.sum_by-set, Sums.count_by-le-length}
use Rattle.base_bits.specs.{Changes.after, Changes.last_said, Numbers.has_number, Numbers.size_of}

module _ (numbers : List Bool) (i : ℕ) (within : i < length numbers) where
  pub size_of-put : has_number numbers i ≡ false → size_of (set numbers i true) ≡ size_of numbers + 1
  size_of-put out = omega (arith, sum_by-set (λ b. cond b 1 0) numbers i true false within, ap {B = ℕ} (λ b. cond b 1 0) out)

  pub size_of-taken : has_number numbers i ≡ true → size_of (set numbers i false) + 1 ≡ size_of numbers
  size_of-taken inside = omega (arith, sum_by-set (λ b. cond b 1 0) numbers i false false within, ap {B = ℕ} (λ b. cond b 1 0) inside)

  pub room_for : has_number numbers i ≡ false → size_of numbers < length numbers
  room_for out = omega (arith, size_of-put out, count_by-le-length (λ b. b) (set numbers i true), length-set numbers i true)

pub number_after : (changes : List (ℕ × Bool)) (numbers : List Bool) (i : ℕ) → i < length numbers → has_number (after changes numbers) i ≡ last_said i changes (has_number numbers i)
number_after [] numbers i within = refl
number_after (change ∷ changes) numbers i within =
    number_after changes (set numbers change.0 change.1) i (omega (arith, length-set numbers change.0 change.1))
    ∙ ap (last_said i changes) (one_more (cases_eq i change.0))
  where
    one_more : ((i ≡ change.0) ⊎ (i ≡ change.0 → ⊥)) → get_or (set numbers change.0 change.1) i false ≡ (if i == change.0 then change.1 else get_or numbers i false)
    one_more (inl e) = grind (arith, get_or-set_at)
    one_more (inr differ) = grind (arith, get_or-set_other numbers change.0 i change.1 false differ)

pub put_in : (len i : ℕ) (changes : List (ℕ × Bool)) → i < len → has_number (after changes (replicate len false)) i ≡ last_said i changes false
put_in len i changes within = number_after changes (replicate len false) i (omega (arith, length-replicate {A = Bool} len false)) ∙ ap (last_said i changes) (get_or-replicate len i false false within)
