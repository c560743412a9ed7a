-- An image has one spelling, and what is an image's has no fault.
use Rattle.std.proofs.Common.{◌≡◌, ℕ, zero, suc, ◌+◌, ◌^◌, ◌<◌, ◌≤◌, List, [], ◌∷◌, ◌++◌, Bool, true, false, ◌||◌, Option, Some, None, length, take, drop, All, refl, sym, ap, ◌∙◌, subst, arith, inl, inr, ◌⊎◌, ◌≢◌, ◌==◌, codes, if◌then◌else◌}
use Rattle.machine_image.proofs.Vocabulary.{flat_map, range_with_len, list_any, AllPairs, nat_cmp_total, same_set, nat_cmp-IsAntisymmetric}
use Rattle.machine_image.proofs.Vocabulary.{false≢true, cases_lt, nat_tests, Decides-eqb, big_bytes, big_from, pins_of, tables_of}
use Rattle.machine_image.proofs.Vocabulary.{crosses_of, Setting, CellsFit, is_closed, setting_of}
use Rattle.std.specs.FinSet as set_
use Rattle.std.proofs.lemmas.Map.{Steps.length-le_from_distinct_below, Made.IsDistinct-from_AllPairs}
use Rattle.std.proofs.lemmas.List.{append_assoc, append-nil, drop_at, take_at, length-append, ext_get_or}
use Rattle.byteorder.specs.Numbers.{big_number-reads_back, length-bytes_high_first}
use Rattle.machine_image.specs.Vocabulary.{counts_of, ImageValue, two, four, on_at, tables_on, closed_in, flags_of, table_bytes, IsImage, image_bytes, Bounds}
use Rattle.machine_image.proofs.Counted.{at_most_len}

-- each item of a list
abbrev pub Each : {X : Type 0} → (X → Type 0) → List X → Type 0
Each P [] = Unit {0}
Each P (x ∷ xs) = P x × Each P xs

pub each_of : {X : Type 0} (P Q : X → Type 0) → ((x : X) → P x → Q x) → (xs : List X) → All P xs → Each Q xs
each_of P Q f [] all = tt
each_of P Q f (x ∷ xs) all = (f x (all 0 x (omega arith)), each_of P Q f xs (λ k d l. all (suc k) d (omega (arith, l))))

each_both : {X : Type 0} (P : X → Type 0) (xs ys : List X) → Each P xs → Each P ys → Each P (xs ++ ys)
each_both P [] ys a b = b
each_both P (x ∷ xs) ys a b = (a.0, each_both P xs ys a.1 b)

pub each_flat : {X : Type 0} (P : X → Type 0) (f : ℕ → List X) (a n : ℕ) → ((t : ℕ) → a ≤ t → t < a + n → Each P (f t)) → Each P (flat_map f (range_with_len a n))
each_flat P f a zero h = tt
each_flat P f a (suc n) h = each_both P (f a) (flat_map f (range_with_len (a + 1) n)) (h a (omega arith) (omega arith)) (each_flat P f (a + 1) n (λ t l u. h t (omega (arith, l)) (omega (arith, u))))

pub few_flat : {X : Type 0} (f : ℕ → List X) (a n : ℕ) → ((t : ℕ) → length (f t) ≤ 1) → length (flat_map f (range_with_len a n)) ≤ n
few_flat f a zero h = omega arith
few_flat f a (suc n) h = omega (arith, length-append (f a) (flat_map f (range_with_len (a + 1) n)), h a, few_flat f (a + 1) n h)

-- ---- equal bytes

pub cancel : (p xs ys : List ℕ) → p ++ xs ≡ p ++ ys → xs ≡ ys
cancel p xs ys e = sym (drop_at p xs (length p) refl) ∙ ap (drop (length p)) e ∙ drop_at p ys (length p) refl

pub same_bytes : (size a b : ℕ) (xs ys : List ℕ) → a < 256 ^ size → b < 256 ^ size → big_bytes size a ++ xs ≡ big_bytes size b ++ ys → (a ≡ b) × (xs ≡ ys)
same_bytes size a b xs ys ha hb e = (
  sym (big_number-reads_back size a xs ha) ∙ ap (big_from 0 size) e ∙ big_number-reads_back size b ys hb,
  sym (drop_at (big_bytes size a) xs size (length-bytes_high_first size a)) ∙ ap (drop size) e ∙ drop_at (big_bytes size b) ys size (length-bytes_high_first size b),
)

abbrev pub Cuts : {X : Type 0} → (X → List ℕ) → (X → Type 0) → Type 0
Cuts {X = X} f P = (x y : X) (r t : List ℕ) → P x → P y → f x ++ r ≡ f y ++ t → (x ≡ y) × (r ≡ t)

pub same_lists : {X : Type 0} (f : X → List ℕ) (P : X → Type 0) → Cuts f P → (xs ys : List X) (r t : List ℕ) → length xs ≡ length ys → Each P xs → Each P ys →
    flat_map f xs ++ r ≡ flat_map f ys ++ t → (xs ≡ ys) × (r ≡ t)
same_lists f P cut [] [] r t l a b e = (refl, e)
same_lists f P cut [] (y ∷ ys) r t l a b e = absurd (let no : ⊥ = omega (arith, l) in no)
same_lists f P cut (x ∷ xs) [] r t l a b e = absurd (let no : ⊥ = omega (arith, l) in no)
same_lists f P cut (x ∷ xs) (y ∷ ys) r t l a b e =
    let head = cut x y (flat_map f xs ++ r) (flat_map f ys ++ t) a.0 b.0 (sym (append_assoc (f x) (flat_map f xs) r) ∙ e ∙ append_assoc (f y) (flat_map f ys) t) in
    let rest = same_lists f P cut xs ys r t (omega (arith, l)) a.1 b.1 head.1 in
    (ap (λ z. z ∷ xs) head.0 ∙ ap (λ zs. y ∷ zs) rest.0, rest.1)

abbrev pub Small : ℕ → Type 0
Small n = n < 65536

abbrev pub Small4 : ℕ → Type 0
Small4 n = n < 4294967296

pub cut_two : Cuts two Small
cut_two x y r t a b e = same_bytes 2 x y r t (omega (arith, a)) (omega (arith, b)) e

pub cut_four : Cuts four Small4
cut_four x y r t a b e = same_bytes 4 x y r t (omega (arith, a)) (omega (arith, b)) e

-- a table's number and cells fit
pub record Fits (t : ℕ × Setting) : Type 0 where
  pub number : t.0 < 65536
  pub cells : t.1.cells < 18446744073709551616

pub few_flags : (s : Setting) → flags_of s ≤ 3
few_flags s = by_flags s.latched s.init
  where
    by_flags : (a b : Bool) → (if a then 1 else 0) + (if b then 2 else 0) ≤ 3
    by_flags true true = omega arith
    by_flags true false = omega arith
    by_flags false true = omega arith
    by_flags false false = omega arith

same_latched : (a b c d : Bool) → (if a then 1 else 0) + (if b then 2 else 0) ≡ (if c then 1 else 0) + (if d then 2 else 0) → a ≡ c
same_latched true b true d e = refl
same_latched false b false d e = refl
same_latched true true false true e = absurd (let no : ⊥ = omega (arith, e) in no)
same_latched true true false false e = absurd (let no : ⊥ = omega (arith, e) in no)
same_latched true false false true e = absurd (let no : ⊥ = omega (arith, e) in no)
same_latched true false false false e = absurd (let no : ⊥ = omega (arith, e) in no)
same_latched false true true true e = absurd (let no : ⊥ = omega (arith, e) in no)
same_latched false true true false e = absurd (let no : ⊥ = omega (arith, e) in no)
same_latched false false true true e = absurd (let no : ⊥ = omega (arith, e) in no)
same_latched false false true false e = absurd (let no : ⊥ = omega (arith, e) in no)

same_init : (a b c d : Bool) → (if a then 1 else 0) + (if b then 2 else 0) ≡ (if c then 1 else 0) + (if d then 2 else 0) → b ≡ d
same_init a true c true e = refl
same_init a false c false e = refl
same_init true true true false e = absurd (let no : ⊥ = omega (arith, e) in no)
same_init true true false false e = absurd (let no : ⊥ = omega (arith, e) in no)
same_init false true true false e = absurd (let no : ⊥ = omega (arith, e) in no)
same_init false true false false e = absurd (let no : ⊥ = omega (arith, e) in no)
same_init true false true true e = absurd (let no : ⊥ = omega (arith, e) in no)
same_init true false false true e = absurd (let no : ⊥ = omega (arith, e) in no)
same_init false false true true e = absurd (let no : ⊥ = omega (arith, e) in no)
same_init false false false true e = absurd (let no : ⊥ = omega (arith, e) in no)

same_setting : (s u : Setting) → s.cells ≡ u.cells → flags_of s ≡ flags_of u → s ≡ u
same_setting s u cells flags =
    ap (λ z. record { cells = z; latched = s.latched; init = s.init }) cells
    ∙ ap (λ z. record { cells = u.cells; latched = z; init = s.init }) (same_latched s.latched s.init u.latched u.init flags)
    ∙ ap (λ z. record { cells = u.cells; latched = u.latched; init = z }) (same_init s.latched s.init u.latched u.init flags)

pub cut_table : Cuts table_bytes Fits
cut_table x y r t a b e =
    let e1 = same_bytes 2 x.0 y.0 (big_bytes 1 (flags_of x.1) ++ (big_bytes 8 x.1.cells ++ r)) (big_bytes 1 (flags_of y.1) ++ (big_bytes 8 y.1.cells ++ t)) (omega (arith, a.number)) (omega (arith, b.number)) e in
    let e2 = same_bytes 1 (flags_of x.1) (flags_of y.1) (big_bytes 8 x.1.cells ++ r) (big_bytes 8 y.1.cells ++ t) (omega (arith, few_flags x.1)) (omega (arith, few_flags y.1)) e1.1 in
    let e3 = same_bytes 8 x.1.cells y.1.cells r t (omega (arith, a.cells)) (omega (arith, b.cells)) e2.1 in
    (ap (λ z. (z, x.1)) e1.0 ∙ ap (λ z. (y.0, z)) (same_setting x.1 y.1 e3.0 e2.0), e3.1)

-- ---- equal lists over a range

abbrev IsOne : {X : Type 0} → (X → ℕ) → ℕ → List X → Type 0
IsOne {X = X} tag t xs = (xs ≡ []) ⊎ ((x : X) × (tag x ≡ t) × (xs ≡ x ∷ []))

module _ {X : Type 0} (tag : X → ℕ) where
  abbrev head_of : List X → X → X
  head_of [] d = d
  head_of (z ∷ zs) d = z

  abbrev tail_of : List X → List X
  tail_of [] = []
  tail_of (z ∷ zs) = zs

  first_above : (f : ℕ → List X) → ((t : ℕ) → IsOne tag t (f t)) → (a n : ℕ) (x : X) (xs : List X) → flat_map f (range_with_len a n) ≡ x ∷ xs → a ≤ tag x
  first_above f one a zero x xs e = absurd (let no : ⊥ = omega (arith, ap length e) in no)
  first_above f one a (suc n) x xs e = by_one (one a) (λ g. omega (arith, first_above f one (a + 1) n x xs g))
    where
      by_one : IsOne tag a (f a) → (flat_map f (range_with_len (a + 1) n) ≡ x ∷ xs → a ≤ tag x) → a ≤ tag x
      by_one (inl none) more = more (sym (ap (λ r. r ++ flat_map f (range_with_len (a + 1) n)) none) ∙ e)
      by_one (inr one_is) more =
          let h : one_is.0 ≡ x = ap (λ zs. head_of zs one_is.0) (sym (ap (λ r. r ++ flat_map f (range_with_len (a + 1) n)) one_is.2) ∙ e) in
          omega (arith, one_is.1, ap tag h)

  -- the first pieces and what is behind them
  same_first : (a : ℕ) (p q fs gs : List X) → IsOne tag a p → IsOne tag a q → ((x : X) (xs : List X) → fs ≡ x ∷ xs → suc a ≤ tag x) → ((x : X) (xs : List X) → gs ≡ x ∷ xs → suc a ≤ tag x) →
      p ++ fs ≡ q ++ gs → (p ≡ q) × (fs ≡ gs)
  same_first a p q fs gs (inl np) (inl nq) fa ga e = (np ∙ sym nq, sym (ap (λ r. r ++ fs) np) ∙ e ∙ ap (λ r. r ++ gs) nq)
  same_first a p q fs gs (inl np) (inr oq) fa ga e =
      let h = fa oq.0 gs (sym (ap (λ r. r ++ fs) np) ∙ e ∙ ap (λ r. r ++ gs) oq.2) in absurd (let no : ⊥ = omega (arith, h, oq.1) in no)
  same_first a p q fs gs (inr op) (inl nq) fa ga e =
      let h = ga op.0 fs (sym (ap (λ r. r ++ gs) nq) ∙ sym e ∙ ap (λ r. r ++ fs) op.2) in absurd (let no : ⊥ = omega (arith, h, op.1) in no)
  same_first a p q fs gs (inr op) (inr oq) fa ga e =
      let f : op.0 ∷ fs ≡ oq.0 ∷ gs = sym (ap (λ r. r ++ fs) op.2) ∙ e ∙ ap (λ r. r ++ gs) oq.2 in
      (op.2 ∙ ap (λ z. z ∷ []) (ap (λ zs. head_of zs op.0) f) ∙ sym oq.2, ap tail_of f)

  pub same_pieces : (f g : ℕ → List X) → ((t : ℕ) → IsOne tag t (f t)) → ((t : ℕ) → IsOne tag t (g t)) → (a n : ℕ) → flat_map f (range_with_len a n) ≡ flat_map g (range_with_len a n) →
      (t : ℕ) → a ≤ t → t < a + n → f t ≡ g t
  same_pieces f g fone gone a zero e t l u = absurd (let no : ⊥ = omega (arith, l, u) in no)
  same_pieces f g fone gone a (suc n) e t l u =
      by_place (cases_lt a t)
      (same_first a (f a) (g a) (flat_map f (range_with_len (a + 1) n)) (flat_map g (range_with_len (a + 1) n)) (fone a) (gone a)
      (λ x xs h. omega (arith, first_above f fone (a + 1) n x xs h)) (λ x xs h. omega (arith, first_above g gone (a + 1) n x xs h)) e)
      (λ rest lt. same_pieces f g fone gone (a + 1) n rest t (omega (arith, lt)) (omega (arith, u)))
    where
      by_place : (a < t) ⊎ (t ≤ a) → (f a ≡ g a) × (flat_map f (range_with_len (a + 1) n) ≡ flat_map g (range_with_len (a + 1) n)) → (flat_map f (range_with_len (a + 1) n) ≡ flat_map g (range_with_len (a + 1) n) → a < t → f t ≡ g t) → f t ≡ g t
      by_place (inl lt) both more = more both.1 lt
      by_place (inr ge) both more = let same : a ≡ t = omega (arith, l, ge) in sym (ap f same) ∙ both.0 ∙ ap g same

one_on : (t : ℕ) (o : Option Setting) → IsOne (λ (x : ℕ × Setting). x.0) t (on_at t o)
one_on t None = inl refl
one_on t (Some s) = inr ((t, s), refl, refl)

same_on : (t : ℕ) (o u : Option Setting) → on_at t o ≡ on_at t u → o ≡ u
same_on t None None e = refl
same_on t None (Some s) e = absurd (let no : ⊥ = omega (arith, ap length e) in no)
same_on t (Some s) None e = absurd (let no : ⊥ = omega (arith, ap length e) in no)
same_on t (Some s) (Some u) e = ap (λ xs. setting_at xs) e
  where
    setting_at : List (ℕ × Setting) → Option Setting
    setting_at [] = Some s
    setting_at (x ∷ xs) = Some x.1

one_closed : (x : ℕ) (b : Bool) → IsOne (λ (y : ℕ). y) x (if b then x ∷ [] else [])
one_closed x true = inr (x, refl, refl)
one_closed x false = inl refl

same_closed : (x : ℕ) (a b : Bool) → ◌≡◌ {A = List ℕ} (if a then x ∷ [] else []) (if b then x ∷ [] else []) → a ≡ b
same_closed x true true e = refl
same_closed x false false e = refl
same_closed x true false e = absurd (let no : ⊥ = omega (arith, ap length e) in no)
same_closed x false true e = absurd (let no : ⊥ = omega (arith, ap length e) in no)

one_long : (t : ℕ) (o : Option Setting) → length (on_at t o) ≤ 1
one_long t None = omega arith
one_long t (Some s) = omega arith

closed_long : (x : ℕ) (b : Bool) → length (if b then x ∷ [] else []) ≤ 1
closed_long x true = omega arith
closed_long x false = omega arith

fits_on : (t : ℕ) (o : Option Setting) → t < 65536 → CellsFit o → Each Fits (on_at t o)
fits_on t None h e = tt
fits_on t (Some s) h e = (record { number = h; cells = e }, tt)

small_closed : (x : ℕ) (b : Bool) → x < 4294967296 → Each Small4 (if b then x ∷ [] else [])
small_closed x true h = (h, tt)
small_closed x false h = tt

any_below : (n q : ℕ) (xs : List ℕ) → Each (λ k. k < n) xs → list_any (λ p. q == p) xs ≡ true → q < n
any_below n q [] each e = absurd (false≢true e)
any_below n q (x ∷ xs) each e = by_head (q == x) refl e (any_below n q xs each.1)
  where
    by_head : (b : Bool) → (q == x) ≡ b → (b || list_any (λ p. q == p) xs) ≡ true → (list_any (λ p. q == p) xs ≡ true → q < n) → q < n
    by_head true f a more = let same : q ≡ x = grind (arith, nat_tests, f) in omega (arith, same, each.0)
    by_head false f a more = more a

-- numbers with no two equal, below a number, are at most so many
pub few_apart : (xs : List ℕ) (n : ℕ) → All (λ k. k < n) xs → AllPairs (λ j k. j ≢ k) xs → length xs ≤ n
few_apart xs n within apart = length-le_from_distinct_below xs n (IsDistinct-from_AllPairs Decides-eqb xs apart) (λ q e. any_below n q xs (each_of (λ k. k < n) (λ k. k < n) (λ k h. h) xs within) e)

-- ---- sizes of the parts of an image

pub on_within : (i : ImageValue) → length (tables_on i.config) ≤ tables_of i.config.shape
on_within i = few_flat (λ t. on_at t (setting_of i.config t)) 0 (tables_of i.config.shape) (λ t. one_long t (setting_of i.config t))

pub closed_within : (i : ImageValue) → length (closed_in i.config) ≤ crosses_of i.config.shape
closed_within i = few_flat (λ x. if is_closed i.config x then x ∷ [] else []) 0 (crosses_of i.config.shape) (λ x. closed_long x (is_closed i.config x))

pub closed_few : (i : ImageValue) → length (closed_in i.config) ≤ set_.len i.config.closed
closed_few i = at_most_len (λ x. is_closed i.config x) 0 (crosses_of i.config.shape) i.config.closed (λ x l e. e)

module _ (i : ImageValue) (t : IsImage i) (b : Bounds i.config.shape) where
  pub few_pins : length i.inputs + length i.outputs ≤ 16384
  few_pins = omega (arith, few_apart (i.inputs ++ i.outputs) (pins_of i.config.shape) t.within t.apart, length-append i.inputs i.outputs, b.pins)

  pub small_pins : Each Small (i.inputs ++ i.outputs)
  small_pins = each_of (λ k. k < pins_of i.config.shape) Small (λ x h. omega (arith, h, b.pins)) (i.inputs ++ i.outputs) t.within

  pub few_on : length (tables_on i.config) ≤ 65535
  few_on = omega (arith, t.few_on, b.ticks)

  pub few_closed : length (closed_in i.config) ≤ 268435456
  few_closed = omega (arith, few_flat (λ x. if is_closed i.config x then x ∷ [] else []) 0 (crosses_of i.config.shape) (λ x. closed_long x (is_closed i.config x)), b.crosses)

  pub fit_tables : Each Fits (tables_on i.config)
  fit_tables = each_flat Fits (λ t. on_at t (setting_of i.config t)) 0 (tables_of i.config.shape) (λ n l u. fits_on n (setting_of i.config n) (omega (arith, u, b.tables)) (t.config.cells n None (omega (arith, u, t.config.tables))))

  pub small_crosses : Each Small4 (closed_in i.config)
  small_crosses = each_flat Small4 (λ x. if is_closed i.config x then x ∷ [] else []) 0 (crosses_of i.config.shape) (λ x l u. small_closed x (is_closed i.config x) (omega (arith, u, b.crosses)))

-- ---- one spelling

abbrev pub tail : ImageValue → List ℕ
tail i =
    two i.config.ticks ++ (two (length i.inputs) ++ (two (length i.outputs) ++ (flat_map two (i.inputs ++ i.outputs)
    ++ (two (length (tables_on i.config)) ++ (flat_map table_bytes (tables_on i.config)
    ++ (four (length (closed_in i.config)) ++ flat_map four (closed_in i.config)))))))

module _ (i j : ImageValue) (ti : IsImage i) (tj : IsImage j) (same : j.config.shape ≡ i.config.shape) (b : Bounds i.config.shape) where
  bj : Bounds j.config.shape
  bj = subst Bounds (sym same) b

  same_tables : tables_on i.config ≡ tables_on j.config → i.config.tables ≡ j.config.tables
  same_tables e = ext_get_or None i.config.tables j.config.tables (ti.config.tables ∙ sym (tj.config.tables ∙ ap tables_of same))
      (λ k h. same_on k (setting_of i.config k) (setting_of j.config k)
      (same_pieces (λ (x : ℕ × Setting). x.0) (λ t. on_at t (setting_of i.config t)) (λ t. on_at t (setting_of j.config t)) (λ t. one_on t (setting_of i.config t)) (λ t. one_on t (setting_of j.config t)) 0 (tables_of i.config.shape)
      (e ∙ ap (λ m. flat_map (λ t. on_at t (setting_of j.config t)) (range_with_len 0 (tables_of m))) same) k (omega arith) (omega (arith, h, ti.config.tables))))

  off : (s : Bool) (q : ℕ) → (s ≡ true → q < crosses_of i.config.shape) → crosses_of i.config.shape ≤ q → s ≡ false
  off true q h l = absurd (let no : ⊥ = omega (arith, h refl, l) in no)
  off false q h l = refl

  same_cross : closed_in i.config ≡ closed_in j.config → (q : ℕ) → (q < crosses_of i.config.shape) ⊎ (crosses_of i.config.shape ≤ q) → set_.contains i.config.closed q ≡ set_.contains j.config.closed q
  same_cross e q (inl h) = same_closed q (is_closed i.config q) (is_closed j.config q)
      (same_pieces (λ (y : ℕ). y) (λ x. if is_closed i.config x then x ∷ [] else []) (λ x. if is_closed j.config x then x ∷ [] else []) (λ x. one_closed x (is_closed i.config x)) (λ x. one_closed x (is_closed j.config x)) 0 (crosses_of i.config.shape)
      (e ∙ ap (λ m. flat_map (λ x. if is_closed j.config x then x ∷ [] else []) (range_with_len 0 (crosses_of m))) same) q (omega arith) (omega (arith, h)))
  same_cross e q (inr h) =
      off (is_closed i.config q) q (ti.config.crosses q) h
      ∙ sym (off (is_closed j.config q) q (λ is. subst (λ m. q < crosses_of m) same (tj.config.crosses q is)) h)

  same_crosses : closed_in i.config ≡ closed_in j.config → i.config.closed ≡ j.config.closed
  same_crosses e = same_set nat_cmp_total nat_cmp-IsAntisymmetric i.config.closed j.config.closed (λ q. same_cross e q (cases_lt q (crosses_of i.config.shape)))

  same_inputs : length i.inputs ≡ length j.inputs → i.inputs ++ i.outputs ≡ j.inputs ++ j.outputs → i.inputs ≡ j.inputs
  same_inputs l e = sym (take_at i.inputs i.outputs (length i.inputs) refl) ∙ ap (take (length i.inputs)) e ∙ take_at j.inputs j.outputs (length i.inputs) (sym l)

  same_outputs : length i.inputs ≡ length j.inputs → i.inputs ++ i.outputs ≡ j.inputs ++ j.outputs → i.outputs ≡ j.outputs
  same_outputs l e = sym (drop_at i.inputs i.outputs (length i.inputs) refl) ∙ ap (drop (length i.inputs)) e ∙ drop_at j.inputs j.outputs (length i.inputs) (sym l)

  same_image : i.config.ticks ≡ j.config.ticks → length i.inputs ≡ length j.inputs → i.inputs ++ i.outputs ≡ j.inputs ++ j.outputs → tables_on i.config ≡ tables_on j.config → closed_in i.config ≡ closed_in j.config → j ≡ i
  same_image ticks l pins tables closed =
      ap (λ z. record { config = record { shape = z; closed = j.config.closed; tables = j.config.tables; ticks = j.config.ticks }; inputs = j.inputs; outputs = j.outputs }) same
      ∙ ap (λ z. record { config = record { shape = i.config.shape; closed = z; tables = j.config.tables; ticks = j.config.ticks }; inputs = j.inputs; outputs = j.outputs }) (sym (same_crosses closed))
      ∙ ap (λ z. record { config = record { shape = i.config.shape; closed = i.config.closed; tables = z; ticks = j.config.ticks }; inputs = j.inputs; outputs = j.outputs }) (sym (same_tables tables))
      ∙ ap (λ z. record { config = record { shape = i.config.shape; closed = i.config.closed; tables = i.config.tables; ticks = z }; inputs = j.inputs; outputs = j.outputs }) (sym ticks)
      ∙ ap (λ z. record { config = i.config; inputs = z; outputs = j.outputs }) (sym (same_inputs l pins))
      ∙ ap (λ z. record { config = i.config; inputs = i.inputs; outputs = z }) (sym (same_outputs l pins))

  pub one_spelling : image_bytes i ≡ image_bytes j → j ≡ i
  unfolding image_bytes
  one_spelling e =
      let t0 : tail i ≡ tail j = cancel (flat_map two (counts_of i.config.shape)) (tail i) (tail j) (cancel (codes "TERAIMG1") _ _ (e ∙ ap (λ z. codes "TERAIMG1" ++ (flat_map two (counts_of z) ++ tail j)) same)) in
      let t1 = same_bytes 2 i.config.ticks j.config.ticks _ _ (omega (arith, ti.config.few_ticks, b.ticks)) (omega (arith, tj.config.few_ticks, bj.ticks)) t0 in
      let t2 = same_bytes 2 (length i.inputs) (length j.inputs) _ _ (omega (arith, few_pins i ti b)) (omega (arith, few_pins j tj bj)) t1.1 in
      let t3 = same_bytes 2 (length i.outputs) (length j.outputs) _ _ (omega (arith, few_pins i ti b)) (omega (arith, few_pins j tj bj)) t2.1 in
      let t4 = same_lists two Small cut_two (i.inputs ++ i.outputs) (j.inputs ++ j.outputs) _ _ (omega (arith, t2.0, t3.0, length-append i.inputs i.outputs, length-append j.inputs j.outputs)) (small_pins i ti b) (small_pins j tj bj) t3.1 in
      let t5 = same_bytes 2 (length (tables_on i.config)) (length (tables_on j.config)) _ _ (omega (arith, few_on i ti b)) (omega (arith, few_on j tj bj)) t4.1 in
      let t6 = same_lists table_bytes Fits cut_table (tables_on i.config) (tables_on j.config) _ _ t5.0 (fit_tables i ti b) (fit_tables j tj bj) t5.1 in
      let t7 = same_bytes 4 (length (closed_in i.config)) (length (closed_in j.config)) _ _ (omega (arith, few_closed i ti b)) (omega (arith, few_closed j tj bj)) t6.1 in
      let t8 = same_lists four Small4 cut_four (closed_in i.config) (closed_in j.config) [] [] t7.0 (small_crosses i ti b) (small_crosses j tj bj) (append-nil _ ∙ t7.1 ∙ sym (append-nil _)) in
      same_image t1.0 t2.0 t4.0 t6.0 t8.0
