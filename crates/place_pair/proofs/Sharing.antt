-- Each of two tenants is a tenant of the whole.
use Rattle.std.proofs.Common.{◌≡◌, ◌⊎◌, ◌↔◌, ℕ, ◌<◌, ◌++◌, true, Some, None, Option, List, refl, sym, ap, ◌∙◌, subst, inl, inr, arith, IsSome}
use Rattle.place_pair.proofs.Vocabulary.{Contains, false≢true, ends_of, pin_wire, table_wire, Setting, is_closed, setting_of, AreTenants}
use Rattle.std.proofs.lemmas.List.Elements.{Contains-append_cases, Contains-append_left, Contains-append_right}
use Rattle.machine_image.specs.Vocabulary.{ImageValue, Uses, at_pin, at_tap, at_line, at_table}
use Rattle.machine_history.specs.Vocabulary.{IsTenantOf}

on_of : {o : Option Setting} {s : Setting} → o ≡ Some s → IsSome o
on_of e = rw e refl

-- what the whole has is of the one or of the other, and these share no wire
record AreParts (whole one other : ImageValue) : Type 0 where
  shape : one.config.shape ≡ whole.config.shape
  other_shape : other.config.shape ≡ whole.config.shape
  ticks : one.config.ticks ≡ whole.config.ticks
  crosses : (x : ℕ) → is_closed one.config x ≡ true → is_closed whole.config x ≡ true
  all_crosses : (x : ℕ) → is_closed whole.config x ≡ true → (is_closed one.config x ≡ true) ⊎ (is_closed other.config x ≡ true)
  tables : (t : ℕ) (s : Setting) → setting_of one.config t ≡ Some s → setting_of whole.config t ≡ Some s
  all_tables : (t : ℕ) (s : Setting) → setting_of whole.config t ≡ Some s → (setting_of one.config t ≡ Some s) ⊎ (setting_of other.config t ≡ Some s)
  pins : (k : ℕ) → Contains (one.inputs ++ one.outputs) k → Contains (whole.inputs ++ whole.outputs) k
  all_pins : (k : ℕ) → Contains (whole.inputs ++ whole.outputs) k → Contains (one.inputs ++ one.outputs) k ⊎ Contains (other.inputs ++ other.outputs) k
  apart : (w : ℕ) → Uses one w → Uses other w → ⊥

module _ (whole one other : ImageValue) (are : AreParts whole one other) where
  own_tap : (x : ℕ) → Uses one (ends_of whole.config.shape x).0 → (is_closed one.config x ≡ true) ⊎ (is_closed other.config x ≡ true) → is_closed one.config x ≡ true
  own_tap x used (inl on) = on
  own_tap x used (inr on) = absurd (are.apart _ used (at_tap x on (ap (λ m. (ends_of m x).0) (sym are.other_shape))))

  own_line : (x : ℕ) → Uses one (ends_of whole.config.shape x).1 → (is_closed one.config x ≡ true) ⊎ (is_closed other.config x ≡ true) → is_closed one.config x ≡ true
  own_line x used (inl on) = on
  own_line x used (inr on) = absurd (are.apart _ used (at_line x on (ap (λ m. (ends_of m x).1) (sym are.other_shape))))

  own_table : (t k : ℕ) (s : Setting) → k < 7 → Uses one (table_wire whole.config.shape t k) → (setting_of one.config t ≡ Some s) ⊎ (setting_of other.config t ≡ Some s) → IsSome (setting_of one.config t)
  own_table t k s h used (inl e) = on_of e
  own_table t k s h used (inr e) = absurd (are.apart _ used (at_table t k (on_of e) h (ap (λ m. table_wire m t k) (sym are.other_shape))))

  table_on : (t k : ℕ) (o : Option Setting) → setting_of whole.config t ≡ o → IsSome o → k < 7 → Uses one (table_wire whole.config.shape t k) → IsSome (setting_of one.config t)
  table_on t k None e on h used = absurd (false≢true on)
  table_on t k (Some s) e on h used = own_table t k s h used (are.all_tables t s e)

  own_pin : (k : ℕ) → Uses one (pin_wire whole.config.shape k) → Contains (one.inputs ++ one.outputs) k ⊎ Contains (other.inputs ++ other.outputs) k → Contains (one.inputs ++ one.outputs) k
  own_pin k used (inl has) = has
  own_pin k used (inr has) = absurd (are.apart _ used (at_pin k has (ap (λ m. pin_wire m k) (sym are.other_shape))))

  tenant_of : IsTenantOf whole one
  tenant_of = record {
    shape = are.shape;
    ticks = are.ticks;
    crosses = are.crosses;
    tables = are.tables;
    pins = are.pins;
    own_taps = λ x on used. own_tap x used (are.all_crosses x on);
    own_lines = λ x on used. own_line x used (are.all_crosses x on);
    own_tables = λ t k on h used. table_on t k (setting_of whole.config t) refl on h used;
    own_pins = λ k has used. own_pin k used (are.all_pins k has);
  }

swap : {A B : Type 0} → A ⊎ B → B ⊎ A
swap (inl a) = inr a
swap (inr b) = inl b

module _ (whole first second : ImageValue) (are : AreTenants whole first second) where
  first_pins : (k : ℕ) → Contains (first.inputs ++ first.outputs) k → Contains (whole.inputs ++ whole.outputs) k
  first_pins k has = by (Contains-append_cases first.inputs first.outputs k has)
    where
      by : Contains first.inputs k ⊎ Contains first.outputs k → Contains (whole.inputs ++ whole.outputs) k
      by (inl h) = Contains-append_left whole.inputs whole.outputs k (subst (λ xs. Contains xs k) (sym are.inputs) (Contains-append_left first.inputs second.inputs k h))
      by (inr h) = Contains-append_right whole.inputs whole.outputs k (subst (λ xs. Contains xs k) (sym are.outputs) (Contains-append_left first.outputs second.outputs k h))

  second_pins : (k : ℕ) → Contains (second.inputs ++ second.outputs) k → Contains (whole.inputs ++ whole.outputs) k
  second_pins k has = by (Contains-append_cases second.inputs second.outputs k has)
    where
      by : Contains second.inputs k ⊎ Contains second.outputs k → Contains (whole.inputs ++ whole.outputs) k
      by (inl h) = Contains-append_left whole.inputs whole.outputs k (subst (λ xs. Contains xs k) (sym are.inputs) (Contains-append_right first.inputs second.inputs k h))
      by (inr h) = Contains-append_right whole.inputs whole.outputs k (subst (λ xs. Contains xs k) (sym are.outputs) (Contains-append_right first.outputs second.outputs k h))

  either_pin : (k : ℕ) → Contains (whole.inputs ++ whole.outputs) k → Contains (first.inputs ++ first.outputs) k ⊎ Contains (second.inputs ++ second.outputs) k
  either_pin k has = by (Contains-append_cases whole.inputs whole.outputs k has)
    where
      by_input : Contains first.inputs k ⊎ Contains second.inputs k → Contains (first.inputs ++ first.outputs) k ⊎ Contains (second.inputs ++ second.outputs) k
      by_input (inl h) = inl (Contains-append_left first.inputs first.outputs k h)
      by_input (inr h) = inr (Contains-append_left second.inputs second.outputs k h)

      by_output : Contains first.outputs k ⊎ Contains second.outputs k → Contains (first.inputs ++ first.outputs) k ⊎ Contains (second.inputs ++ second.outputs) k
      by_output (inl h) = inl (Contains-append_right first.inputs first.outputs k h)
      by_output (inr h) = inr (Contains-append_right second.inputs second.outputs k h)

      by : Contains whole.inputs k ⊎ Contains whole.outputs k → Contains (first.inputs ++ first.outputs) k ⊎ Contains (second.inputs ++ second.outputs) k
      by (inl h) = by_input (Contains-append_cases first.inputs second.inputs k (subst (λ xs. Contains xs k) are.inputs h))
      by (inr h) = by_output (Contains-append_cases first.outputs second.outputs k (subst (λ xs. Contains xs k) are.outputs h))

  pub first_is_tenant : IsTenantOf whole first
  first_is_tenant = tenant_of whole first second (record {
    shape = are.first_shape;
    other_shape = are.second_shape;
    ticks = are.first_ticks;
    crosses = λ x on. (are.closed x).1 (inl on);
    all_crosses = λ x on. (are.closed x).0 on;
    tables = λ t s e. (are.tables t s).1 (inl e);
    all_tables = λ t s e. (are.tables t s).0 e;
    pins = first_pins;
    all_pins = either_pin;
    apart = are.apart;
  })

  pub second_is_tenant : IsTenantOf whole second
  second_is_tenant = tenant_of whole second first (record {
    shape = are.second_shape;
    other_shape = are.first_shape;
    ticks = are.second_ticks;
    crosses = λ x on. (are.closed x).1 (inr on);
    all_crosses = λ x on. swap ((are.closed x).0 on);
    tables = λ t s e. (are.tables t s).1 (inr e);
    all_tables = λ t s e. swap ((are.tables t s).0 e);
    pins = second_pins;
    all_pins = λ k has. swap (either_pin k has);
    apart = λ w a b. are.apart w b a;
  })
