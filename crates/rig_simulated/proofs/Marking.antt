-- Marks that are set and taken away in a loop.
use Rattle.std.proofs.Common.{◌≡◌, ◌≢◌, ◌⊎◌, inl, inr, ⊎_elim, ℕ, ◌+◌, ◌<◌, ◌≤◌, Bool, true, false, List, length, get_or, set, refl, sym, ap, ◌∙◌, arith}
use Rattle.rig_simulated.proofs.Vocabulary.{false≢true, cases_eq, cases_lt, false_from_ne_true, get_or-set_other, get_or-set_same}
use Rattle.rig_simulated.proofs.Vocabulary.{length-set, get_or_default, Gate, is_low, IsClear, IsPulledBy, IsOutputOf, IsPinOf}
use Rattle.rig_simulated.proofs.Vocabulary.{AreMarkedToo}

-- no mark yet
pub none_marked : (old : List Bool) (P : ℕ → Type 0) → ((r : ℕ) → ¬ P r) → AreMarkedToo old old P
none_marked old P no_ = record { len = refl; kept = λ r e. e; more = λ r p. absurd (no_ r p); only = λ r e. inl e }

-- one more mark
pub marked_more : (old new : List Bool) (x : ℕ) (P Q : ℕ → Type 0) → AreMarkedToo old new P → x < length old → Q x → ((r : ℕ) → P r → Q r) → ((r : ℕ) → Q r → P r ⊎ (r ≡ x)) → AreMarkedToo old (set new x true) Q
marked_more old new x P Q are h here_ more_ only_ = record { len = length-set new x true ∙ are.len; kept = λ r e. set_kept r (are.kept r e); more = λ r q. ⊎_elim (λ p. set_kept r (are.more r p)) (λ e. rw e at_x) (only_ r q); only = only }
  where
    at_x : is_low (set new x true) x ≡ true
    at_x = get_or-set_same new x true false (omega (arith, h, are.len))

    set_kept : (r : ℕ) → is_low new r ≡ true → is_low (set new x true) r ≡ true
    set_kept r e = ⊎_elim (λ q. rw q at_x) (λ n. get_or-set_other new x r true false n ∙ e) (cases_eq r x)

    only : (r : ℕ) → is_low (set new x true) r ≡ true → (is_low old r ≡ true) ⊎ Q r
    only r e = ⊎_elim (λ q. inr (rw q here_)) (λ n. ⊎_elim (λ o. inl o) (λ p. inr (more_ r p)) (are.only r (sym (get_or-set_other new x r true false n) ∙ e))) (cases_eq r x)

-- no mark more
pub marked_same : (old new : List Bool) (P Q : ℕ → Type 0) → AreMarkedToo old new P → ((r : ℕ) → P r → Q r) → ((r : ℕ) → Q r → P r) → AreMarkedToo old new Q
marked_same old new P Q are to from = record { len = are.len; kept = are.kept; more = λ r q. are.more r (from r q); only = λ r e. ⊎_elim (λ o. inl o) (λ p. inr (to r p)) (are.only r e) }

-- one mark less: those that are left are marks of what is left
low_later : (low : List Bool) (x : ℕ) (P Q : ℕ → Type 0) → x < length low → ((r : ℕ) → r ≢ x → P r → Q r) → ((r : ℕ) → is_low low r ≡ true → P r) → (r : ℕ) → is_low (set low x false) r ≡ true → Q r
low_later low x P Q within later only r e = by (cases_eq r x)
  where
    by : (r ≡ x) ⊎ (r ≢ x) → Q r
    by (inl q) = absurd (false≢true (sym (get_or-set_same low x false false within) ∙ ap (is_low (set low x false)) (sym q) ∙ e))
    by (inr m) = later r m (only r (sym (get_or-set_other low x r false false m) ∙ e))

module _ (gates : List Gate) where
  pub no_pull : (r : ℕ) → ¬ IsPulledBy gates 0 r
  no_pull r p = let h = p.below in omega (arith, h)

  pub pull_kept : (n r : ℕ) → IsPulledBy gates n r → IsPulledBy gates (n + 1) r
  pull_kept n r p = record { place = p.place; below = let h = p.below in omega (arith, h); out = p.out; low = p.low }

  -- the table at n pulls
  pub pull_here : (n : ℕ) (d : Gate) → n < length gates → (get_or gates n d).output ≡ false → IsPulledBy gates (n + 1) (get_or gates n d).out
  pull_here n d h low = record {
    place = n;
    below = omega arith;
    out = λ e. ap (λ g. g.out) (get_or_default gates n e d h);
    low = λ e. ap (λ g. g.output) (get_or_default gates n e d h) ∙ low;
  }

  pub pull_last : (n : ℕ) (d : Gate) (r : ℕ) → IsPulledBy gates (n + 1) r → IsPulledBy gates n r ⊎ (r ≡ (get_or gates n d).out)
  pull_last n d r p = ⊎_elim
      (λ l. inl (record { place = p.place; below = l; out = p.out; low = p.low }))
      (λ l. inr (let e : p.place ≡ n = (let h = p.below in omega (arith, h, l)) in sym (p.out d) ∙ ap (λ k. (get_or gates k d).out) e))
      (cases_lt p.place n)

  -- the table at n gives 1
  pub pull_not : (n : ℕ) (d : Gate) → (get_or gates n d).output ≡ true → (r : ℕ) → IsPulledBy gates (n + 1) r → IsPulledBy gates n r
  pull_not n d high r p = ⊎_elim
      (λ l. record { place = p.place; below = l; out = p.out; low = p.low })
      (λ l. let e : p.place ≡ n = (let h = p.below in omega (arith, h, l)) in absurd (false≢true (sym (p.low d) ∙ ap (λ k. (get_or gates k d).output) e ∙ high)))
      (cases_lt p.place n)

  -- a mark less
  pub output_later : (low : List Bool) (n : ℕ) (d : Gate) → (get_or gates n d).out < length low → ((r : ℕ) → is_low low r ≡ true → IsOutputOf gates n r) → (r : ℕ) → is_low (set low (get_or gates n d).out false) r ≡ true → IsOutputOf gates (n + 1) r
  output_later low n d within only = low_later low (get_or gates n d).out (IsOutputOf gates n) (IsOutputOf gates (n + 1)) within later only
    where
      later : (r : ℕ) → r ≢ (get_or gates n d).out → (o : IsOutputOf gates n r) → IsOutputOf gates (n + 1) r
      later r m o =
          let from : n + 1 ≤ o.place = ⊎_elim (λ q. absurd (m (sym (o.out d) ∙ ap (λ k. (get_or gates k d).out) q))) (λ q. let h = o.from in omega (arith, h, q)) (cases_eq o.place n) in
          record { place = o.place; from = from; within = o.within; out = o.out }

  pub outputs_done : (low : List Bool) (n : ℕ) → length gates ≤ n → ((r : ℕ) → is_low low r ≡ true → IsOutputOf gates n r) → IsClear low
  outputs_done low n h only r = false_from_ne_true (is_low low r) (λ e. let o = only r e in let f = o.from in let w = o.within in omega (arith, f, w, h))

module _ (pins : List ℕ) where
  pub pin_later : (low : List Bool) (n : ℕ) → get_or pins n 0 < length low → ((r : ℕ) → is_low low r ≡ true → IsPinOf pins n r) → (r : ℕ) → is_low (set low (get_or pins n 0) false) r ≡ true → IsPinOf pins (n + 1) r
  pin_later low n within only = low_later low (get_or pins n 0) (IsPinOf pins n) (IsPinOf pins (n + 1)) within later only
    where
      later : (r : ℕ) → r ≢ get_or pins n 0 → (o : IsPinOf pins n r) → IsPinOf pins (n + 1) r
      later r m o =
          let from : n + 1 ≤ o.place = ⊎_elim (λ q. absurd (m (sym o.root ∙ ap (λ k. get_or pins k 0) q))) (λ q. let h = o.from in omega (arith, h, q)) (cases_eq o.place n) in
          record { place = o.place; from = from; within = o.within; root = o.root }

  pub pins_done : (low : List Bool) (n : ℕ) → length pins ≤ n → ((r : ℕ) → is_low low r ≡ true → IsPinOf pins n r) → IsClear low
  pins_done low n h only r = false_from_ne_true (is_low low r) (λ e. let o = only r e in let f = o.from in let w = o.within in omega (arith, f, w, h))
