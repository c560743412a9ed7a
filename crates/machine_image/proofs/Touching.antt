-- What an image touches.
use Rattle.std.proofs.Common.{◌≡◌, ℕ, ◌+◌, ◌<◌, ◌≤◌, List, ◌++◌, true, false, Option, Some, None, length, All, refl, sym, ap, ◌∙◌, subst, arith, inl, inr, ◌⊎◌, IsSome, is_some}
use Rattle.machine_image.proofs.Vocabulary.{false≢true, cases_lt, length-append, get_or-append-add, get_or_past, get_or-append, All-append}
use Rattle.machine_image.proofs.Vocabulary.{Shape, pins_of, tables_of, pin_wire, Defects, IsFreeWire, IsFreeCross, IsFreeTable, Setting}
use Rattle.machine_image.proofs.Vocabulary.{Configuration, IsConfiguration, is_closed, setting_of, ImageValue, IsImage, IsFreeImage}

-- ---- the whole

-- a table is on
some_true : (o : Option Setting) → is_some o ≡ true → IsSome o
some_true (Some s) e = refl
some_true None e = e

pub true_some : (o : Option Setting) → IsSome o → is_some o ≡ true
true_some (Some s) e = refl
true_some None e = e

module _ (d : Defects) (i : ImageValue) where
  pub all_free : ((x : ℕ) → is_closed i.config x ≡ true → IsFreeCross i.config.shape d x) → ((t : ℕ) → is_some (setting_of i.config t) ≡ true → IsFreeTable i.config.shape d t) →
      (m : Shape) → m ≡ i.config.shape → (ins outs : List ℕ) → ins ≡ i.inputs → outs ≡ i.outputs → All (λ k. IsFreeWire d (pin_wire m k)) ins → All (λ k. IsFreeWire d (pin_wire m k)) outs → IsFreeImage d i
  all_free crosses tables m shape ins outs inputs outputs a b = record {
    crosses = crosses;
    tables = λ t is. tables t (true_some (setting_of i.config t) is);
    pins = subst (λ z. All (λ k. IsFreeWire d (pin_wire z k)) (i.inputs ++ i.outputs)) shape
        (All-append (λ k. IsFreeWire d (pin_wire m k)) i.inputs i.outputs (subst (All (λ k. IsFreeWire d (pin_wire m k))) inputs a) (subst (All (λ k. IsFreeWire d (pin_wire m k))) outputs b));
  }

  pub tables_of_free : IsFreeImage d i → (t : ℕ) → is_some (setting_of i.config t) ≡ true → IsFreeTable i.config.shape d t
  tables_of_free free t is = free.tables t (some_true (setting_of i.config t) is)

  module _ (m : Shape) (shape : m ≡ i.config.shape) (free : IsFreeImage d i) where
    pub inputs_of_free : (ins : List ℕ) → ins ≡ i.inputs → All (λ k. IsFreeWire d (pin_wire m k)) ins
    inputs_of_free ins e = subst (All (λ k. IsFreeWire d (pin_wire m k))) (sym e) (subst (λ z. All (λ k. IsFreeWire d (pin_wire z k)) i.inputs) (sym shape)
        (λ k x l. subst (λ z. IsFreeWire d (pin_wire i.config.shape z)) (get_or-append i.inputs i.outputs x k l) (free.pins k x (omega (arith, l, length-append i.inputs i.outputs)))))

    pub outputs_of_free : (outs : List ℕ) → outs ≡ i.outputs → All (λ k. IsFreeWire d (pin_wire m k)) outs
    outputs_of_free outs e = subst (All (λ k. IsFreeWire d (pin_wire m k))) (sym e) (subst (λ z. All (λ k. IsFreeWire d (pin_wire z k)) i.outputs) (sym shape)
        (λ k x l. subst (λ z. IsFreeWire d (pin_wire i.config.shape z)) (get_or-append-add i.inputs i.outputs k x) (free.pins (length i.inputs + k) x (omega (arith, l, length-append i.inputs i.outputs)))))

-- pins of an image are pins of the machine
pub inputs_within : (i : ImageValue) → IsImage i → (m : Shape) → m ≡ i.config.shape → (ins : List ℕ) → ins ≡ i.inputs → All (λ k. k < pins_of m) ins
inputs_within i is m shape ins e = subst (All (λ k. k < pins_of m)) (sym e) (subst (λ z. All (λ k. k < pins_of z) i.inputs) (sym shape)
    (λ k x l. subst (λ z. z < pins_of i.config.shape) (get_or-append i.inputs i.outputs x k l) (is.within k x (omega (arith, l, length-append i.inputs i.outputs)))))

pub outputs_within : (i : ImageValue) → IsImage i → (m : Shape) → m ≡ i.config.shape → (outs : List ℕ) → outs ≡ i.outputs → All (λ k. k < pins_of m) outs
outputs_within i is m shape outs e = subst (All (λ k. k < pins_of m)) (sym e) (subst (λ z. All (λ k. k < pins_of z) i.outputs) (sym shape)
    (λ k x l. subst (λ z. z < pins_of i.config.shape) (get_or-append-add i.inputs i.outputs k x) (is.within (length i.inputs + k) x (omega (arith, l, length-append i.inputs i.outputs)))))

-- a table that is on is one of the machine
pub on_below : (g : Configuration) → IsConfiguration g → (t : ℕ) → is_some (setting_of g t) ≡ true → t < tables_of g.shape
on_below g is t e = by_place (cases_lt t (length g.tables))
  where
    by_place : (t < length g.tables) ⊎ (length g.tables ≤ t) → t < tables_of g.shape
    by_place (inl h) = omega (arith, h, is.tables)
    by_place (inr h) = absurd (false≢true (sym (ap is_some (get_or_past g.tables t None h)) ∙ e))
