-- The marks of an image's used wires are right.
use Rattle.std.proofs.Common.{◌≡◌, ◌⊎◌, ℕ, ◌+◌, ◌<◌, if◌then◌else◌, Bool, true, false, List, All, length, get_or, refl, sym, ap, ◌∙◌, subst, inl, inr, arith, ◌==◌, slice_get, replicate, Contains, is_some}
use Rattle.diag_check.proofs.Vocabulary.{count_by, slice_get-get_or, has_number, Shape, Cross, Table, Configuration, is_closed, setting_of}
use Rattle.diag_check.proofs.Vocabulary.{ImageValue, IsImage, Uses, at_pin, at_tap, at_line, at_table, AreUsed, of_set, to_set, none_marked}
use Rattle.std.proofs.lemmas.List.{get_or_append_left, get_or-append-add, get_or_default, length-append, length-replicate}
use Rattle.std.proofs.lemmas.List.Elements.{Contains-get_or, Contains-append_left, Contains-append_right, Contains-append_cases}
use Rattle.machine_shape.specs.Shape.{wires_of, pins_of, crosses_of, tables_of, pin_wire, table_wire, ends_of}
use Rattle.diag_check.specs.Marks.{Adds, IsPinAmong, IsEndAmong, tap_among, line_among, IsTablePinAmong}
use Rattle.diag_check.proofs.Covering.{on_within}
use Rattle.diag_check.proofs.Fielding.{all_at}

module _ (i : ImageValue) (closed : List Cross) (tables : List Table)
    (closed_counts : (x : ℕ) → count_by (λ (y : Cross). y.0 == x) closed ≡ (if is_closed i.config x then 1 else 0))
    (table_counts : (t : ℕ) → count_by (λ (y : Table). y.0 == t) tables ≡ (if is_some (setting_of i.config t) then 1 else 0))
    (first second third last : List Bool)
    (inputs : Adds (IsPinAmong i.config.shape i.inputs (length i.inputs)) (replicate (wires_of i.config.shape) false) first)
    (outputs : Adds (IsPinAmong i.config.shape i.outputs (length i.outputs)) first second)
    (ends : Adds (IsEndAmong i.config.shape closed (length closed)) second third)
    (pins : Adds (IsTablePinAmong i.config.shape tables (length tables)) third last) where
  abbrev m : Shape
  m = i.config.shape

  by_inputs : (w : ℕ) → IsPinAmong m i.inputs (length i.inputs) w → Uses i w
  by_inputs w p = at_pin (get_or i.inputs p.place 0) (Contains-append_left i.inputs i.outputs _ (Contains-get_or i.inputs p.place 0 p.early)) p.wire

  by_outputs : (w : ℕ) → IsPinAmong m i.outputs (length i.outputs) w → Uses i w
  by_outputs w p = at_pin (get_or i.outputs p.place 0) (Contains-append_right i.inputs i.outputs _ (Contains-get_or i.outputs p.place 0 p.early)) p.wire

  are_closed : All (λ (y : Cross). is_closed i.config y.0 ≡ true) closed
  are_closed = of_set (λ (y : Cross). y.0) closed (is_closed i.config) closed_counts (λ q. is_closed i.config q ≡ true) (λ q e. e)

  are_on : All (λ (y : Table). is_some (setting_of i.config y.0) ≡ true) tables
  are_on = of_set (λ (y : Table). y.0) tables (λ q. is_some (setting_of i.config q)) table_counts (λ q. is_some (setting_of i.config q) ≡ true) (λ q e. e)

  by_ends : (w : ℕ) → IsEndAmong m closed (length closed) w → Uses i w
  by_ends w (tap_among j x l here e) = at_tap x.0 (all_at (λ (y : Cross). is_closed i.config y.0 ≡ true) closed j x are_closed here) e
  by_ends w (line_among j x l here e) = at_line x.0 (all_at (λ (y : Cross). is_closed i.config y.0 ≡ true) closed j x are_closed here) e

  by_tables : (w : ℕ) → IsTablePinAmong m tables (length tables) w → Uses i w
  by_tables w p = at_table p.table.0 p.pin.place (all_at (λ (y : Table). is_some (setting_of i.config y.0) ≡ true) tables p.place p.table are_on p.here) p.pin.early p.pin.wire

  only_last : (w : ℕ) → has_number last w ≡ true → Uses i w
  only_last w h = by_last (pins.only w h)
    where
      by_first : (has_number (replicate (wires_of m) false) w ≡ true) ⊎ IsPinAmong m i.inputs (length i.inputs) w → Uses i w
      by_first (inl none) = absurd (none_marked (wires_of m) w none)
      by_first (inr p) = by_inputs w p

      by_second : (has_number first w ≡ true) ⊎ IsPinAmong m i.outputs (length i.outputs) w → Uses i w
      by_second (inl before_) = by_first (inputs.only w before_)
      by_second (inr p) = by_outputs w p

      by_third : (has_number second w ≡ true) ⊎ IsEndAmong m closed (length closed) w → Uses i w
      by_third (inl before_) = by_second (outputs.only w before_)
      by_third (inr p) = by_ends w p

      by_last : (has_number third w ≡ true) ⊎ IsTablePinAmong m tables (length tables) w → Uses i w
      by_last (inl before_) = by_third (ends.only w before_)
      by_last (inr p) = by_tables w p

  -- what was marked stays marked to the end
  from_second : (w : ℕ) → has_number second w ≡ true → has_number last w ≡ true
  from_second w h = pins.stays w (ends.stays w h)

  all_last : (w : ℕ) → Uses i w → has_number last w ≡ true
  all_last w (at_pin k c e) = by (Contains-append_cases i.inputs i.outputs k c)
    where
      by : Contains i.inputs k ⊎ Contains i.outputs k → has_number last w ≡ true
      by (inl p) = from_second w (outputs.stays w (inputs.all w (record { place = p.0; early = p.1; wire = e ∙ ap (pin_wire m) (sym (get_or_default i.inputs p.0 0 k p.1 ∙ p.2)) })))
      by (inr p) = from_second w (outputs.all w (record { place = p.0; early = p.1; wire = e ∙ ap (pin_wire m) (sym (get_or_default i.outputs p.0 0 k p.1 ∙ p.2)) }))
  all_last w (at_tap x c e) = subst (λ u. has_number last u ≡ true) (sym e) (to_set (λ (y : Cross). y.0) closed (is_closed i.config) closed_counts (λ q. has_number last (ends_of m q).0 ≡ true)
      (λ j d l. pins.stays _ (ends.all _ (tap_among j (get_or closed j d) l (slice_get-get_or closed j d l) refl))) x c)
  all_last w (at_line x c e) = subst (λ u. has_number last u ≡ true) (sym e) (to_set (λ (y : Cross). y.0) closed (is_closed i.config) closed_counts (λ q. has_number last (ends_of m q).1 ≡ true)
      (λ j d l. pins.stays _ (ends.all _ (line_among j (get_or closed j d) l (slice_get-get_or closed j d l) refl))) x c)
  all_last w (at_table t k on l e) = subst (λ u. has_number last u ≡ true) (sym e) (to_set (λ (y : Table). y.0) tables (λ q. is_some (setting_of i.config q)) table_counts (λ q. has_number last (table_wire m q k) ≡ true)
      (λ j d b. pins.all _ (record { place = j; table = get_or tables j d; early = b; here = slice_get-get_or tables j d b; pin = record { place = k; early = l; wire = refl } })) t on)

  pub are_used : AreUsed i last
  are_used = record { len = pins.len ∙ ends.len ∙ outputs.len ∙ inputs.len ∙ length-replicate (wires_of m) false; only = only_last; all = all_last }

-- ---- what the code lends, of the image

module _ (i : ImageValue) (g : Configuration) (same : g ≡ i.config) where
  module _ (xs : List Cross) (counts : (x : ℕ) → count_by (λ (y : Cross). y.0 == x) xs ≡ (if is_closed g x then 1 else 0)) where
    pub closed_counts : (x : ℕ) → count_by (λ (y : Cross). y.0 == x) xs ≡ (if is_closed i.config x then 1 else 0)
    closed_counts x = counts x ∙ ap {B = ℕ} (λ (z : Configuration). if is_closed z x then 1 else 0) same

    pub closed_within : IsImage i → (m : Shape) → m ≡ i.config.shape → All (λ x. x.0 < crosses_of m) xs
    closed_within is m e = subst (λ (s : Shape). All (λ x. x.0 < crosses_of s) xs) (sym e) (of_set (λ (y : Cross). y.0) xs (is_closed i.config) closed_counts (λ q. q < crosses_of i.config.shape) is.config.crosses)

  module _ (ts : List Table) (counts : (t : ℕ) → count_by (λ (y : Table). y.0 == t) ts ≡ (if is_some (setting_of g t) then 1 else 0)) where
    pub table_counts : (t : ℕ) → count_by (λ (y : Table). y.0 == t) ts ≡ (if is_some (setting_of i.config t) then 1 else 0)
    table_counts t = counts t ∙ ap {B = ℕ} (λ (z : Configuration). if is_some (setting_of z t) then 1 else 0) same

    pub tables_within : IsImage i → (m : Shape) → m ≡ i.config.shape → All (λ t. t.0 < tables_of m) ts
    tables_within is m e = subst (λ (s : Shape). All (λ t. t.0 < tables_of s) ts) (sym e)
        (of_set (λ (y : Table). y.0) ts (λ q. is_some (setting_of i.config q)) table_counts (λ q. q < tables_of i.config.shape) (λ q on. on_within i is q on))

module _ (i : ImageValue) (is : IsImage i) (m : Shape) (e : m ≡ i.config.shape) (ps : List ℕ) where
  pub first_pins : ps ≡ i.inputs → All (λ k. k < pins_of m) ps
  first_pins same k d l =
      let at : k < length i.inputs = omega (arith, l, ap length same) in
      let within = is.within k d (let sum = length-append i.inputs i.outputs in omega (arith, at, sum)) in
      let this = subst (λ p. p < pins_of i.config.shape) (get_or_append_left i.inputs i.outputs d k at) within in
      subst (λ (s : Shape). get_or ps k d < pins_of s) (sym e) (subst (λ (qs : List ℕ). get_or qs k d < pins_of i.config.shape) (sym same) this)

  pub last_pins : ps ≡ i.outputs → All (λ k. k < pins_of m) ps
  last_pins same k d l =
      let at : k < length i.outputs = omega (arith, l, ap length same) in
      let within = is.within (length i.inputs + k) d (let sum = length-append i.inputs i.outputs in omega (arith, at, sum)) in
      let this = subst (λ p. p < pins_of i.config.shape) (get_or-append-add i.inputs i.outputs k d) within in
      subst (λ (s : Shape). get_or ps k d < pins_of s) (sym e) (subst (λ (qs : List ℕ). get_or qs k d < pins_of i.config.shape) (sym same) this)

-- the marks of the code, over what it was lent
pub used_of : (i : ImageValue) (m : Shape) (e : m ≡ i.config.shape) (ins outs : List ℕ) (closed : List Cross) (tables : List Table) (start first second third last : List Bool) → ins ≡ i.inputs → outs ≡ i.outputs →
    start ≡ replicate (wires_of i.config.shape) false →
    ((x : ℕ) → count_by (λ (y : Cross). y.0 == x) closed ≡ (if is_closed i.config x then 1 else 0)) → ((t : ℕ) → count_by (λ (y : Table). y.0 == t) tables ≡ (if is_some (setting_of i.config t) then 1 else 0)) →
    Adds (IsPinAmong m ins (length ins)) start first → Adds (IsPinAmong m outs (length outs)) first second → Adds (IsEndAmong m closed (length closed)) second third → Adds (IsTablePinAmong m tables (length tables)) third last → AreUsed i last
used_of i m e ins outs closed tables start first second third last same_ins same_outs nothing closed_ok tables_ok inputs outputs ends pins = are_used i closed tables closed_ok tables_ok first second third last
    (subst (λ (s : Shape). Adds (IsPinAmong s i.inputs (length i.inputs)) (replicate (wires_of i.config.shape) false) first) e
    (subst (λ (qs : List ℕ). Adds (IsPinAmong m qs (length qs)) (replicate (wires_of i.config.shape) false) first) same_ins (subst (λ (z : List Bool). Adds (IsPinAmong m ins (length ins)) z first) nothing inputs)))
    (subst (λ (s : Shape). Adds (IsPinAmong s i.outputs (length i.outputs)) first second) e (subst (λ (qs : List ℕ). Adds (IsPinAmong m qs (length qs)) first second) same_outs outputs))
    (subst (λ (s : Shape). Adds (IsEndAmong s closed (length closed)) second third) e ends)
    (subst (λ (s : Shape). Adds (IsTablePinAmong s tables (length tables)) third last) e pins)
