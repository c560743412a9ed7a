-- Lists over a range of numbers, and how they grow.
use Rattle.std.proofs.Common.{◌≡◌, ℕ, zero, suc, ◌+◌, ◌<◌, ◌≤◌, List, [], ◌∷◌, ◌++◌, true, false, Some, None, length, refl, sym, ap, ◌∙◌, arith, inl, inr, ◌⊎◌, ◌≢◌, ◌==◌, if◌then◌else◌}
use Rattle.machine_image.proofs.Vocabulary.{flat_map, range_with_len, cases_lt, nat_tests, append_assoc, append-nil, get_or-set_same}
use Rattle.machine_image.proofs.Vocabulary.{get_or-set_other, tables_of, crosses_of, Setting, is_closed-closed, on_at, tables_on, closed_in}
use Rattle.machine_config.specs.Configuration.{Configuration, is_closed, setting_of, with_closed, with_setting}

module _ {A : Type 0} where
  pub none_flat : (f : ℕ → List A) (a n : ℕ) → ((y : ℕ) → a ≤ y → f y ≡ []) → flat_map f (range_with_len a n) ≡ []
  none_flat f a zero h = refl
  none_flat f a (suc n) h = ap (λ r. r ++ flat_map f (range_with_len (a + 1) n)) (h a (omega arith)) ∙ none_flat f (a + 1) n (λ y l. h y (omega arith))

  -- a further item, behind all others
  pub grown : (f g : ℕ → List A) (x a n : ℕ) → a ≤ x → x < a + n → ((y : ℕ) → y < x → g y ≡ f y) → ((y : ℕ) → x < y → g y ≡ []) → ((y : ℕ) → x ≤ y → f y ≡ []) →
      flat_map g (range_with_len a n) ≡ flat_map f (range_with_len a n) ++ g x
  grown f g x a zero l u same past none = absurd (omega arith)
  grown f g x a (suc n) l u same past none = by_place (cases_lt a x) (λ lt. grown f g x (a + 1) n (omega (arith, lt)) (omega (arith, u)) same past none)
    where
      by_place : (a < x) ⊎ (x ≤ a) → (a < x → flat_map g (range_with_len (a + 1) n) ≡ flat_map f (range_with_len (a + 1) n) ++ g x) → flat_map g (range_with_len a (suc n)) ≡ flat_map f (range_with_len a (suc n)) ++ g x
      by_place (inl lt) more =
          ap (λ r. r ++ flat_map g (range_with_len (a + 1) n)) (same a lt)
          ∙ ap (λ r. f a ++ r) (more lt)
          ∙ sym (append_assoc (f a) (flat_map f (range_with_len (a + 1) n)) (g x))
      by_place (inr ge) more =
          let e : a ≡ x = omega (arith, l, ge) in
          ap (λ r. g a ++ r) (none_flat g (a + 1) n (λ y h. past y (omega (arith, h, ge))))
          ∙ append-nil (g a) ∙ ap g e
          ∙ sym (ap (λ r. r ++ g x) (none_flat f a (suc n) (λ y h. none y (omega (arith, h, ge)))))

-- one more closed crosspoint
pub closed_more : (g : Configuration) (x : ℕ) → x < crosses_of g.shape → ((y : ℕ) → x ≤ y → is_closed g y ≡ false) → closed_in (with_closed g x) ≡ closed_in g ++ x ∷ []
closed_more g x h off =
    grown (λ y. if is_closed g y then y ∷ [] else []) (λ y. if is_closed (with_closed g x) y then y ∷ [] else []) x 0 (crosses_of g.shape) (omega arith) (omega (arith, h))
    (λ y l. ap (λ b. if b then y ∷ [] else []) (other y (let n : (y == x) ≡ false = grind (arith, nat_tests, l) in n)))
    (λ y l. ap (λ b. if b then y ∷ [] else []) (other y (let n : (y == x) ≡ false = grind (arith, nat_tests, l) in n) ∙ off y (omega arith)))
    (λ y l. ap (λ b. if b then y ∷ [] else []) (off y l))
    ∙ ap (λ r. closed_in g ++ r) (ap (λ b. if b then x ∷ [] else []) (is_closed-closed g x x ∙ ap (λ b. if b then true else is_closed g x) (let n : (x == x) ≡ true = grind (arith, nat_tests) in n)))
  where
    other : (y : ℕ) → (y == x) ≡ false → is_closed (with_closed g x) y ≡ is_closed g y
    other y e = is_closed-closed g x y ∙ ap (λ b. if b then true else is_closed g y) e

-- one more switched-on table
pub tables_more : (g : Configuration) (t : ℕ) (s : Setting) → t < tables_of g.shape → length g.tables ≡ tables_of g.shape → ((y : ℕ) → t ≤ y → setting_of g y ≡ None) →
    tables_on (with_setting g t (Some s)) ≡ tables_on g ++ (t, s) ∷ []
tables_more g t s h len off =
    grown (λ y. on_at y (setting_of g y)) (λ y. on_at y (setting_of (with_setting g t (Some s)) y)) t 0 (tables_of g.shape) (omega arith) (omega (arith, h))
    (λ y l. ap (on_at y) (other y (λ e. omega (arith, e, l))))
    (λ y l. ap (on_at y) (other y (λ e. omega (arith, e, l)) ∙ off y (omega arith)))
    (λ y l. ap (on_at y) (off y l))
    ∙ ap (λ r. tables_on g ++ r) (ap (on_at t) (get_or-set_same g.tables t (Some s) None (omega (arith, h, len))))
  where
    other : (y : ℕ) → y ≢ t → setting_of (with_setting g t (Some s)) y ≡ setting_of g y
    other y n = get_or-set_other g.tables t y (Some s) None n

pub setting_after : (g : Configuration) (t : ℕ) (s : Setting) → ((y : ℕ) → t ≤ y → setting_of g y ≡ None) → (y : ℕ) → t < y → setting_of (with_setting g t (Some s)) y ≡ None
setting_after g t s off y l = get_or-set_other g.tables t y (Some s) None (λ e. omega (arith, e, l)) ∙ off y (omega arith)

pub closed_after : (g : Configuration) (x : ℕ) → ((y : ℕ) → x ≤ y → is_closed g y ≡ false) → (y : ℕ) → x < y → is_closed (with_closed g x) y ≡ false
closed_after g x off y l = is_closed-closed g x y ∙ ap (λ b. if b then true else is_closed g y) (let n : (y == x) ≡ false = grind (arith, nat_tests, l) in n) ∙ off y (omega arith)
