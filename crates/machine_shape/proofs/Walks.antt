-- Each number of a walk has one place.
use Rattle.std.proofs.Common.{◌≡◌, ℕ, ◌+◌, ◌*◌, ◌/◌, ◌%◌, ◌-◌, ◌<◌, ◌≤◌, ltb, [], ◌∷◌, sym, ap, ◌∙◌, subst, ⊎_elim, arith}
use Rattle.machine_shape.proofs.Vocabulary.{cases_lt, lt-ltb, le-ltb, cond-true, cond-false, mul_comm, Level}
use Rattle.std.proofs.lemmas.Nat.{div-mul-add, mod-mul-add, mul-add-lt, div-add-mod', div_below, mod_below}
use Rattle.machine_shape.specs.Walk.{Levels, Path, rest, IsSpot, stop, step, Own, size, start, Place, IsPlaceOf, under, place_in}

module _ (own : Own) where
  pub first_place : (l : Level) (ls : Levels) (x : ℕ) → x < own (l ∷ ls) → place_in own (l ∷ ls) x ≡ record { path = []; position = x }
  first_place l ls x h = cond-true (ltb x (own (l ∷ ls))) _ _ (lt-ltb x (own (l ∷ ls)) h)

  pub later_place : (l : Level) (ls : Levels) (i r : ℕ) → r < size own ls → place_in own (l ∷ ls) (own (l ∷ ls) + (i * size own ls + r)) ≡ under i (place_in own ls r)
  later_place l ls i r h =
      let off : own (l ∷ ls) + (i * size own ls + r) - own (l ∷ ls) ≡ i * size own ls + r = omega arith in
      cond-false (ltb (own (l ∷ ls) + (i * size own ls + r)) (own (l ∷ ls))) _ _ (le-ltb _ (own (l ∷ ls)) (omega arith))
      ∙ ap (λ y. under (y / size own ls) (place_in own ls (y % size own ls))) off
      ∙ ap (λ j. under j (place_in own ls ((i * size own ls + r) % size own ls))) (div-mul-add i (size own ls) r h)
      ∙ ap (λ j. under i (place_in own ls j)) (mod-mul-add i (size own ls) r h)

  pub number_below : {ls : Levels} {p : Path} → IsSpot ls p → (k : ℕ) → k < own (rest ls p) → start own ls p + k < size own ls
  number_below (stop {ls = []}) k h = omega arith
  number_below (stop {ls = l ∷ ls}) k h = omega arith
  number_below (step {l} {ls} {i} {p} hi spot) k h =
      let r = number_below spot k h in
      let b : i * size own ls + (start own ls p + k) < size own ls * l.children = mul-add-lt i (size own ls) (start own ls p + k) l.children hi r in
      let c = mul_comm (size own ls) l.children in omega arith

  -- a number is at its place
  place_at : {ls : Levels} {p : Path} → IsSpot ls p → (k : ℕ) → k < own (rest ls p) → place_in own ls (start own ls p + k) ≡ record { path = p; position = k }
  place_at (stop {ls = []}) k h = ap (λ x. record { path = []; position = x }) (omega arith)
  place_at (stop {ls = l ∷ ls}) k h = ap (place_in own (l ∷ ls)) (omega arith) ∙ first_place l ls k h
  place_at (step {l} {ls} {i} {p} hi spot) k h =
      ap (place_in own (l ∷ ls)) (omega arith)
      ∙ later_place l ls i (start own ls p + k) (number_below spot k h)
      ∙ ap (under i) (place_at spot k h)

  pub place_from : {ls : Levels} {x : ℕ} {q : Place} → IsPlaceOf own ls x q → (x < size own ls) × (place_in own ls x ≡ q)
  place_from {ls} {x} {q} is = (subst (λ y. y < size own ls) is.number (number_below is.spot q.position is.within), ap (place_in own ls) (sym is.number) ∙ place_at is.spot q.position is.within)

  later_placed : (l : Level) (ls : Levels) (x : ℕ) → x < size own (l ∷ ls) → own (l ∷ ls) ≤ x → ((r : ℕ) → r < size own ls → IsPlaceOf own ls r (place_in own ls r)) →
      IsPlaceOf own (l ∷ ls) x (place_in own (l ∷ ls) x)
  later_placed l ls x h e ih = subst (IsPlaceOf own (l ∷ ls) x) (sym same) (record { spot = step (div_below y s l.children positive within) here.spot; within = here.within; number = let n = here.number in let d = div-add-mod' y s in omega arith })
    where
      s : ℕ
      s = size own ls

      y : ℕ
      y = x - own (l ∷ ls)

      within : y < l.children * s
      within = omega arith

      positive : 0 < s
      positive = ⊎_elim (λ z. z) (λ z. absurd (let q : y < l.children * 0 = subst (λ k. y < l.children * k) (omega arith) within in let none : l.children * 0 ≡ 0 = omega arith in omega arith)) (cases_lt 0 s)

      here : IsPlaceOf own ls (y % s) (place_in own ls (y % s))
      here = ih (y % s) (mod_below y s positive)

      same : place_in own (l ∷ ls) x ≡ under (y / s) (place_in own ls (y % s))
      same = cond-false (ltb x (own (l ∷ ls))) _ _ (le-ltb x (own (l ∷ ls)) e)

  -- and each number has one
  pub placed : (ls : Levels) (x : ℕ) → x < size own ls → IsPlaceOf own ls x (place_in own ls x)
  placed [] x h = record { spot = stop; within = h; number = omega arith }
  placed (l ∷ ls) x h = ⊎_elim
      (λ e. subst (IsPlaceOf own (l ∷ ls) x) (sym (first_place l ls x e)) (record { spot = stop; within = e; number = omega arith }))
      (λ e. later_placed l ls x h e (λ r b. placed ls r b)) (cases_lt x (own (l ∷ ls)))
