-- What stands behind the pins, and the whole.
use Rattle.std.proofs.Common.{◌≡◌, ℕ, ◌+◌, ◌<◌, ◌≤◌, List, [], ◌++◌, length, take, drop, inr, refl, sym, ap, ◌∙◌, subst, arith, codes}
use Rattle.machine_image.proofs.Vocabulary.{flat_map, Shape, Configuration, cleared, with_ticks, ImageKind, ImageFault, At, Memory}
use Rattle.std.specs.FinSet as set_
use Rattle.std.proofs.lemmas.List.{append_assoc, append-nil, drop_all, take-append-drop, length-take-le, length-drop}
use Rattle.machine_shape.specs.Vocabulary.{tables_of, crosses_of, most_ticks, most_closed}
use Rattle.machine_image.specs.declared.kind.ImageKind.TheVariants as kind
use Rattle.machine_image.specs.declared.read.Head.{Head}
use Rattle.machine_image.specs.Vocabulary.{counts_of, most_fault, closed_fault, InEnd, InCrosses, InTables, InPins, InImage, IsField, IsRefusedField, FaultIn, Passed, IsImage, two, four, table_bytes, tables_on, closed_in, image_bytes, IsFirstImageFault, IsRefusedAs, Reads, IsHead, ArePins, TablesRead, CrossesRead, AreSettings, Bounds, head_bytes, settings_bytes}
use Rattle.machine_image.proofs.Wrong.{closed_right, most_right}
use Rattle.machine_image.proofs.Passing.{refused_in, passed_in, pass_field, pass_both}
use Rattle.machine_image.proofs.Counted.{on_fits}
use Rattle.machine_image.proofs.Whole.{one_spelling}
use Rattle.machine_image.proofs.Faultless.{faultless}

-- a field by what the most is, under another name
pub field_as : {most tables : ℕ} {bytes : List ℕ} {at n : ℕ} → most ≡ tables → IsField 2 (most_fault most) bytes at n → IsField 2 (most_fault tables) bytes at n
field_as {bytes = bytes} {at = at} {n = n} same field = subst (λ (k : ℕ). IsField 2 (most_fault k) bytes at n) same field

module _ (m : Shape) (bytes : List ℕ) (start ticks : ℕ) where
  abbrev pub Whole : ℕ → ImageKind → Type 0
  Whole l k = InPins m bytes l k start 0 []

  pub many_refused : (f : ImageFault) → IsRefusedField 2 (most_fault (tables_of m)) bytes start f → FaultIn (λ l k. Whole l k) f
  many_refused f r = refused_in (λ l k n. InTables m bytes l k (start + 2) n 0) f r

  module _ (n : ℕ) (number : IsField 2 (most_fault (tables_of m)) bytes start n) (g0 : Configuration) (made : g0 ≡ with_ticks (cleared m) ticks) where
    passed_number : Passed bytes start (start + 2) (two n) (λ l k. Whole l k) (λ l k. InTables m bytes l k (start + 2) n 0)
    passed_number = pass_field (start + 2) (λ l k x. InTables m bytes l k (start + 2) x 0) refl number

    shape0 : g0.shape ≡ m
    shape0 = ap (λ g. g.shape) made

    pub tables_refused : (f : ImageFault) → FaultIn (λ l k. InTables g0.shape bytes l k (start + 2) n 0) f → FaultIn (λ l k. Whole l k) f
    tables_refused f r = passed_in passed_number f (subst (λ z. FaultIn (λ l k. InTables z bytes l k (start + 2) n 0) f) shape0 r)

    module _ (at : ℕ) (g1 : Configuration) (read : TablesRead g0.shape bytes (start + 2) at n g1) (kept : g1 ≡ record g0 { tables = g1.tables }) where
      shape1 : g1.shape ≡ m
      shape1 = ap (λ g. g.shape) kept ∙ shape0

      closed1 : g1.closed ≡ (cleared m).closed
      closed1 = ap (λ g. g.closed) kept ∙ ap (λ g. g.closed) made

      passed_tables : Passed bytes start at (two n ++ flat_map table_bytes (tables_on g1)) (λ l k. Whole l k) (λ l k. InTables m bytes l k at 0 0)
      passed_tables = pass_both passed_number (subst (λ z. TablesRead z bytes (start + 2) at n g1) shape0 read).passed

      pub closed_refused : (f : ImageFault) → IsRefusedField 4 (closed_fault (most_closed m) (crosses_of m)) bytes at f → FaultIn (λ l k. Whole l k) f
      closed_refused f r = passed_in passed_tables f (refused_in (λ l k x. InCrosses m bytes l k (at + 4) x 0) f r)

      module _ (c : ℕ) (closed : IsField 4 (closed_fault (most_closed m) (crosses_of m)) bytes at c) where
        passed_closed : Passed bytes start (at + 4) ((two n ++ flat_map table_bytes (tables_on g1)) ++ four c) (λ l k. Whole l k) (λ l k. InCrosses m bytes l k (at + 4) c 0)
        passed_closed = pass_both passed_tables (pass_field (at + 4) (λ l k x. InCrosses m bytes l k (at + 4) x 0) refl closed)

        pub crosses_refused : (f : ImageFault) → FaultIn (λ l k. InCrosses g1.shape bytes l k (at + 4) c 0) f → FaultIn (λ l k. Whole l k) f
        crosses_refused f r = passed_in passed_closed f (subst (λ z. FaultIn (λ l k. InCrosses z bytes l k (at + 4) c 0) f) shape1 r)

        module _ (end : ℕ) (g2 : Configuration) (crosses : CrossesRead g1.shape bytes (at + 4) end c g2) (kept2 : g2 ≡ record g1 { closed = g2.closed }) where
          passed_crosses : Passed bytes start end (((two n ++ flat_map table_bytes (tables_on g1)) ++ four c) ++ flat_map four (closed_in g2)) (λ l k. Whole l k) (λ l k. InEnd bytes l k end)
          passed_crosses = pass_both passed_closed (subst (λ z. CrossesRead z bytes (at + 4) end c g2) shape1 crosses).passed

          pub end_refused : (f : ImageFault) → end < length bytes → f ≡ At end kind.After → FaultIn (λ l k. Whole l k) f
          end_refused f h e = subst (FaultIn (λ l k. Whole l k)) (sym e) (passed_crosses.faults end kind.After (h, refl, refl))

          same_on : tables_on g2 ≡ tables_on g1
          same_on = ap tables_on kept2

          shape2 : g2.shape ≡ m
          shape2 = ap (λ g. g.shape) kept2 ∙ shape1

          on_len : length (tables_on g2) ≡ n
          on_len = ap length same_on ∙ read.len

          pub settings_read : length bytes ≤ end → AreSettings m bytes start ticks g2
          settings_read h = record {
            shape = shape2;
            ticks_are = ap (λ g. g.ticks) kept2 ∙ ap (λ g. g.ticks) kept ∙ ap (λ g. g.ticks) made;
            few = subst (λ (z : Shape). set_.len g2.closed ≤ most_closed z) (sym shape2) (omega (arith, crosses.few, (closed_right (most_closed m) (crosses_of m) c closed.right).1));
            few_on = subst (λ (z : Shape). length (tables_on g2) ≤ most_ticks z) (sym shape2) (on_fits m (length (tables_on g2)) (omega (arith, on_len, most_right (tables_of m) n number.right)) (omega (arith, on_len, number.stands.0)));
            text =
                passed_crosses.text ∙ ap (λ r. (((two n ++ flat_map table_bytes (tables_on g1)) ++ four c) ++ flat_map four (closed_in g2)) ++ r) (drop_all end bytes h) ∙ append-nil _
                ∙ append_assoc (two n ++ flat_map table_bytes (tables_on g1)) (four c) (flat_map four (closed_in g2))
                ∙ append_assoc (two n) (flat_map table_bytes (tables_on g1)) (four c ++ flat_map four (closed_in g2))
                ∙ ap (λ z. two z ++ (flat_map table_bytes (tables_on g1) ++ (four c ++ flat_map four (closed_in g2)))) (sym read.len)
                ∙ ap (λ z. two (length z) ++ (flat_map table_bytes z ++ (four c ++ flat_map four (closed_in g2)))) (sym same_on)
                ∙ ap (λ z. two (length (tables_on g2)) ++ (flat_map table_bytes (tables_on g2) ++ (four z ++ flat_map four (closed_in g2)))) (sym crosses.len);
          }

-- ---- the whole

module _ (m : Shape) (bytes : List ℕ) (b : Bounds m) (few : length bytes ≤ 16777216) where
  pub refused_as : (f : ImageFault) → FaultIn (λ l k. InImage m bytes l k) f → IsRefusedAs m bytes f
  unfolding IsFirstImageFault
  refused_as Memory h = tt
  refused_as (At l k) h = (
    inr (few, h),
    λ i is shape text within. faultless i is (subst Bounds (sym shape) b) bytes l k text (subst (λ z. InImage z bytes l k) (sym shape) h),
  )

  module _ (h : Head) (head : IsHead m bytes h) (at count : ℕ) (same : count ≡ h.inputs + h.outputs) where
    pub pins_refused : (f : ImageFault) → FaultIn (λ l k. InPins m bytes l k h.at count []) f → IsRefusedAs m bytes f
    pins_refused f r = refused_as f (passed_in head.passed f (subst (λ z. FaultIn (λ l k. InPins m bytes l k h.at z []) f) same r))

    module _ (pins : List ℕ) (are : ArePins m bytes h.at at count 0 pins) where
      passed_pins : Passed bytes 0 at (head_bytes m h.ticks h.inputs h.outputs ++ flat_map two pins) (λ l k. InImage m bytes l k) (λ l k. InPins m bytes l k at 0 [])
      passed_pins = pass_both head.passed (subst (λ z. ArePins m bytes h.at at z 0 pins) same are).passed

      pub settings_refused : (f : ImageFault) → FaultIn (λ l k. InPins m bytes l k at 0 []) f → IsRefusedAs m bytes f
      settings_refused f r = refused_as f (passed_in passed_pins f r)

      module _ (inputs outputs : List ℕ) (ins : inputs ≡ take h.inputs pins) (outs : outputs ≡ drop h.inputs pins) (g : Configuration) (is : IsImage (record { config = g; inputs = inputs; outputs = outputs })) (settings : AreSettings m bytes at h.ticks g) where
        all_pins : inputs ++ outputs ≡ pins
        all_pins = ap (λ z. z ++ outputs) ins ∙ ap (λ z. take h.inputs pins ++ z) outs ∙ take-append-drop h.inputs pins

        len : length pins ≡ h.inputs + h.outputs
        len = omega (arith, are.len, same)

        len_in : length inputs ≡ h.inputs
        len_in = ap length ins ∙ length-take-le h.inputs pins (omega (arith, len))

        len_out : length outputs ≡ h.outputs
        len_out = let e = ap length outs ∙ length-drop h.inputs pins in omega (arith, e, len)

        text_is : image_bytes (record { config = g; inputs = inputs; outputs = outputs }) ≡ bytes
        unfolding image_bytes
        text_is =
            ap (λ z. codes "TERAIMG1" ++ (flat_map two (counts_of z) ++ (two g.ticks ++ (two (length inputs) ++ (two (length outputs) ++ (flat_map two (inputs ++ outputs) ++ settings_bytes g)))))) settings.shape
            ∙ ap (λ z. codes "TERAIMG1" ++ (flat_map two (counts_of m) ++ (two z ++ (two (length inputs) ++ (two (length outputs) ++ (flat_map two (inputs ++ outputs) ++ settings_bytes g)))))) settings.ticks_are
            ∙ ap (λ z. codes "TERAIMG1" ++ (flat_map two (counts_of m) ++ (two h.ticks ++ (two z ++ (two (length outputs) ++ (flat_map two (inputs ++ outputs) ++ settings_bytes g)))))) len_in
            ∙ ap (λ z. codes "TERAIMG1" ++ (flat_map two (counts_of m) ++ (two h.ticks ++ (two h.inputs ++ (two z ++ (flat_map two (inputs ++ outputs) ++ settings_bytes g)))))) len_out
            ∙ ap (λ z. codes "TERAIMG1" ++ (flat_map two (counts_of m) ++ (two h.ticks ++ (two h.inputs ++ (two h.outputs ++ (flat_map two z ++ settings_bytes g)))))) all_pins
            ∙ sym (ap (λ z. codes "TERAIMG1" ++ z) (append_assoc (flat_map two (counts_of m)) (two h.ticks ++ (two h.inputs ++ two h.outputs)) (flat_map two pins ++ settings_bytes g)))
            ∙ sym (append_assoc (head_bytes m h.ticks h.inputs h.outputs) (flat_map two pins) (settings_bytes g))
            ∙ ap (λ z. (head_bytes m h.ticks h.inputs h.outputs ++ flat_map two pins) ++ z) (sym settings.text)
            ∙ sym passed_pins.text

        pub image_read : Reads m bytes (record { config = g; inputs = inputs; outputs = outputs })
        image_read = record {
          image = is;
          text = text_is;
          shape = settings.shape;
          within = few;
          only = λ j isj shape text.
              one_spelling (record { config = g; inputs = inputs; outputs = outputs }) j is isj (shape ∙ sym settings.shape) (subst Bounds (sym settings.shape) b) (text_is ∙ sym text);
        }
