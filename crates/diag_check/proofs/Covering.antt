-- A list of all that an image doesn't use covers the faults, where its parts are kept.
use Rattle.std.proofs.Common.{◌≡◌, ◌≢◌, ◌⊎◌, ℕ, ◌+◌, ◌<◌, ◌≤◌, ◌++◌, ◌&&◌, Bool, true, false, not, Some, None, Option, List, length, get_or, refl, sym, ap, ◌∙◌, subst, inl, inr, arith, ◌==◌, IsSome, is_some}
use Rattle.diag_check.proofs.Vocabulary.{range_with_len, filter, nat_cmp, cases_eq, cases_lt, false≢true, get_or_past, any-filter_same}
use Rattle.diag_check.proofs.Vocabulary.{has_number, Shape, is_closed, setting_of, Kept, HoldsFor, KeepsParts, AreUsed, marked_within}
use Rattle.std.specs.FinMap as map
use Rattle.std.specs.FinSet as set
use Rattle.std.proofs.lemmas.Bool.Decides.{nat_tests}
use Rattle.std.proofs.lemmas.List.{Elements.Contains-get_or, Folds.list_any_at, FromFn.get_or-range_with_len, FromFn.length-range_with_len}
use Rattle.machine_shape.specs.Shape.{wires_of, crosses_of, tables_of}
use Rattle.machine_meaning.specs.Vocabulary.{Faults, stuck_register, Shorted, Defects, Covers, IsClear, IsFreeWire, IsFreeCross, IsFreeTable}
use Rattle.machine_config.specs.declared.Setting.{Setting}
use Rattle.machine_image.specs.Vocabulary.{ImageValue, IsImage, IsFreeImage, Uses, at_pin, at_tap, at_line, at_table}
use Rattle.machine_history.specs.Tenants.{LeavesAlone}

-- the numbers below n that are bad
abbrev listed : (ℕ → Bool) → ℕ → set.FinSet nat_cmp
listed bad n = set.from_list (filter bad (range_with_len 0 n))

and_true : (b : Bool) → (b && true) ≡ b
and_true true = refl
and_true false = refl

listed_is : (bad : ℕ → Bool) (n q : ℕ) → q < n → set.contains (listed bad n) q ≡ bad q
listed_is bad n q l =
    let within : q < length (range_with_len 0 n) = omega (arith, l, length-range_with_len 0 n) in
    let here : (get_or (range_with_len 0 n) q 0 == q) ≡ true = (let e = get_or-range_with_len 0 n q 0 l in grind (arith, nat_tests, e)) in
    set.contains-from_list_nat (filter bad (range_with_len 0 n)) q
    ∙ any-filter_same (λ y. y == q) bad (bad q) (λ y e. ap bad (let same : y ≡ q = grind (arith, nat_tests, e) in same)) (range_with_len 0 n)
    ∙ ap (λ b. bad q && b) (list_any_at (λ y. y == q) (range_with_len 0 n) q 0 within here)
    ∙ and_true (bad q)

not_open : {o : Option Bool} → o ≡ None → o ≡ Some false → ⊥
not_open e f = cc

unless : (b : Bool) → not b ≡ false → b ≡ true
unless true e = refl
unless false e = sym e

-- a table that is on is one of the machine
pub on_within : (i : ImageValue) → IsImage i → (t : ℕ) → IsSome (setting_of i.config t) → t < tables_of i.config.shape
on_within i is t on = by (cases_lt t (length i.config.tables))
  where
    by : (t < length i.config.tables) ⊎ (length i.config.tables ≤ t) → t < tables_of i.config.shape
    by (inl l) = let len = is.config.tables in omega (arith, l, len)
    by (inr l) = absurd (let off : setting_of i.config t ≡ None = get_or_past i.config.tables t None l in false≢true (sym (ap is_some off) ∙ on))

module _ (i : ImageValue) (used : List Bool) (is : IsImage i) (are : AreUsed i used) where
  abbrev m : Shape
  m = i.config.shape

  pub used_within : (w : ℕ) → Uses i w → w < wires_of m
  used_within w uses = let within = marked_within used w (are.all w uses) in let len = are.len in omega (arith, within, len)

  -- all but the image's parts
  abbrev pub others : Defects
  others = record {
    wires = listed (λ w. not (has_number used w)) (wires_of m);
    crosses = listed (λ x. not (is_closed i.config x)) (crosses_of m);
    tables = listed (λ t. not (is_some (setting_of i.config t))) (tables_of m);
  }

  wire_free : (w : ℕ) → Uses i w → IsFreeWire others w
  wire_free w uses = listed_is (λ u. not (has_number used u)) (wires_of m) w (used_within w uses) ∙ ap not (are.all w uses)

  wire_used : (w : ℕ) → w < wires_of m → IsFreeWire others w → Uses i w
  wire_used w l free = are.only w (unless (has_number used w) (sym (listed_is (λ u. not (has_number used u)) (wires_of m) w l) ∙ free))

  cross_closed : (x : ℕ) → x < crosses_of m → IsFreeCross m others x → is_closed i.config x ≡ true
  cross_closed x l free = unless (is_closed i.config x) (sym (listed_is (λ y. not (is_closed i.config y)) (crosses_of m) x l) ∙ free.itself)

  table_on : (t : ℕ) → t < tables_of m → IsFreeTable m others t → IsSome (setting_of i.config t)
  table_on t l free = unless (is_some (setting_of i.config t)) (sym (listed_is (λ u. not (is_some (setting_of i.config u))) (tables_of m) t l) ∙ free.itself)

  pub image_free : IsFreeImage others i
  image_free = record {
    crosses = λ x closed. record {
      itself = listed_is (λ y. not (is_closed i.config y)) (crosses_of m) x (is.config.crosses x closed) ∙ ap not closed;
      tap = wire_free _ (at_tap x closed refl);
      line = wire_free _ (at_line x closed refl);
    };
    tables = λ t on. record {
      itself = listed_is (λ u. not (is_some (setting_of i.config u))) (tables_of m) t (on_within i is t on) ∙ ap not on;
      pins = λ k l. wire_free _ (at_table t k on l refl);
    };
    pins = λ k d l. wire_free _ (at_pin (get_or (i.inputs ++ i.outputs) k d) (Contains-get_or (i.inputs ++ i.outputs) k d l) refl);
  }

  module _ (k : Kept) (f : Faults) (shape : k.shape ≡ m) (holds : HoldsFor k f) (keeps : KeepsParts k i) where
    -- without the stuck registers, which only latched tables feel
    abbrev pub no_registers : Faults
    no_registers = record f { registers = map.empty }

    clear_wire : (w : ℕ) → Uses i w → IsClear m f w
    clear_wire w uses = subst (λ (s : Shape). IsClear s f w) shape (holds.wires w (keeps.routes.wires w uses))

    apart : (w u : ℕ) → Uses i w → Uses i u → w ≢ u → Shorted m f w u → ⊥
    apart w u p q differ s = holds.pairs w u (keeps.routes.pairs w u p q differ) (subst (λ (z : Shape). Shorted z f w u) (sym shape) s)

    same_pair : (w u : ℕ) → Uses i w → Uses i u → Shorted m f w u → w ≡ u
    same_pair w u p q s = by (cases_eq w u)
      where
        by : (w ≡ u) ⊎ (w ≡ u → ⊥) → w ≡ u
        by (inl e) = e
        by (inr differ) = absurd (apart w u p q differ s)

    -- so they leave the image, in itself, alone
    pub left_alone : LeavesAlone f i i
    left_alone = record {
      crosses = λ x on e. not_open (holds.crosses x (keeps.routes.crosses x on)) e;
      clear = clear_wire;
      apart = same_pair;
      cells = λ t a on b. holds.cells t a (keeps.tables.cells t a on b);
      registers = λ t s on latched. holds.registers t (keeps.tables.registers t s on latched);
    }

    pub others_cover : Covers m others no_registers
    others_cover = record {
      crosses = λ x l free. holds.crosses x (keeps.routes.crosses x (cross_closed x l free));
      cells = λ t a l b free. holds.cells t a (keeps.tables.cells t a (table_on t l free) b);
      registers = λ t l free. map.get-empty nat_cmp t;
      wires = λ w l free. clear_wire w (wire_used w l free);
      pairs = λ w u l b p q s. same_pair w u (wire_used w l p) (wire_used u b q) s;
    }

    pub same_registers : (t : ℕ) (s : Setting) → setting_of i.config t ≡ Some s → s.latched ≡ true → stuck_register f t ≡ stuck_register no_registers t
    same_registers t s on latched = holds.registers t (keeps.tables.registers t s on latched) ∙ sym (map.get-empty nat_cmp t)
