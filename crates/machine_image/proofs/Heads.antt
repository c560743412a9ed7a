-- What stands before the pins, and a table.
use Rattle.std.proofs.Common.{◌≡◌, ℕ, zero, suc, ◌+◌, ◌≤◌, ◌%◌, List, [], ◌∷◌, ◌++◌, length, get_or, refl, sym, ap, ◌∙◌, subst, arith, ◌==◌, codes, nat_le, if◌then◌else◌}
use Rattle.machine_image.proofs.Vocabulary.{flat_map, big_bytes, Shape, tables_of, most_ticks, ImageKind, ImageFault}
use Rattle.machine_shape.specs.declared.Counts.{Counts}
use Rattle.machine_image.specs.Vocabulary.{Stands, counts_of, no_fault, magic_fault, ticks_fault, above_fault, flags_fault, InField, InTicks, InCounts, InPins, InTables, InImage, IsCut, IsField, IsRefusedField, FaultIn, Passed, two, IsHead, IsTable}
use Rattle.machine_image.proofs.Wrong.{magic_right, ticks_right, above_right, most_right}
use Rattle.machine_image.proofs.Passing.{refused_in, passed_in, pass_field, pass_both}

-- lists of three and of four
pub three_items : (xs : List ℕ) → length xs ≡ 3 → xs ≡ get_or xs 0 0 ∷ get_or xs 1 0 ∷ get_or xs 2 0 ∷ []
three_items (a ∷ b ∷ c ∷ []) e = refl
three_items [] e = absurd (let no : ⊥ = omega (arith, e) in no)
three_items (a ∷ []) e = absurd (let no : ⊥ = omega (arith, e) in no)
three_items (a ∷ b ∷ []) e = absurd (let no : ⊥ = omega (arith, e) in no)
three_items (a ∷ b ∷ c ∷ d ∷ xs) e = absurd (let no : ⊥ = omega (arith, e) in no)

pub four_items : (xs : List ℕ) → length xs ≡ 4 → xs ≡ get_or xs 0 0 ∷ get_or xs 1 0 ∷ get_or xs 2 0 ∷ get_or xs 3 0 ∷ []
four_items (a ∷ b ∷ c ∷ d ∷ []) e = refl
four_items [] e = absurd (let no : ⊥ = omega (arith, e) in no)
four_items (a ∷ []) e = absurd (let no : ⊥ = omega (arith, e) in no)
four_items (a ∷ b ∷ []) e = absurd (let no : ⊥ = omega (arith, e) in no)
four_items (a ∷ b ∷ c ∷ []) e = absurd (let no : ⊥ = omega (arith, e) in no)
four_items (a ∷ b ∷ c ∷ d ∷ f ∷ xs) e = absurd (let no : ⊥ = omega (arith, e) in no)

-- the counts, one by one
pub counts_listed : (m : Shape) (c : Counts) → c ≡ m.counts → length c.ports ≡ 3 → length c.lines ≡ 4 →
    c.modules ∷ c.chips ∷ c.hextants ∷ c.tables ∷ get_or c.ports 0 0 ∷ get_or c.ports 1 0 ∷ get_or c.ports 2 0 ∷ get_or c.lines 0 0 ∷ get_or c.lines 1 0 ∷ get_or c.lines 2 0 ∷ get_or c.lines 3 0 ∷ c.pins ∷ [] ≡ counts_of m
counts_listed m c e three four =
    ap (λ ls. c.modules ∷ c.chips ∷ c.hextants ∷ c.tables ∷ get_or c.ports 0 0 ∷ get_or c.ports 1 0 ∷ get_or c.ports 2 0 ∷ (ls ++ (c.pins ∷ []))) (sym (four_items c.lines four))
    ∙ ap (λ ps. c.modules ∷ c.chips ∷ c.hextants ∷ c.tables ∷ (ps ++ (c.lines ++ (c.pins ∷ [])))) (sym (three_items c.ports three))
    ∙ ap (λ d. d.modules ∷ d.chips ∷ d.hextants ∷ d.tables ∷ (d.ports ++ (d.lines ++ (d.pins ∷ [])))) e

-- a number that may be any
pub any_field : {size : ℕ} {bytes : List ℕ} {at : ℕ} (n : ℕ) → Stands size n bytes at → at + size ≤ length bytes → IsField size no_fault bytes at n
any_field n s h = record { stands = s; within = h; right = refl }

module _ (m : Shape) (bytes : List ℕ) where
  abbrev InOutputs : (l : ℕ) → ImageKind → (at inputs : ℕ) → Type 0
  InOutputs l k at inputs = InField bytes l k (at + 4) 2 no_fault (λ outputs. InPins m bytes l k (at + 6) (inputs + outputs) [])

  abbrev InInputs : (l : ℕ) → ImageKind → (at : ℕ) → Type 0
  InInputs l k at = InField bytes l k (at + 2) 2 no_fault (λ inputs. InOutputs l k at inputs)

  passed_magic : (n : ℕ) → IsField 8 magic_fault bytes 0 n → Passed bytes 0 8 (codes "TERAIMG1") (λ l k. InImage m bytes l k) (λ l k. InCounts m bytes l k 8 (counts_of m))
  passed_magic n f =
      subst (λ z. Passed bytes 0 8 (big_bytes 8 z) (λ l k. InImage m bytes l k) (λ l k. InCounts m bytes l k 8 (counts_of m))) (magic_right n f.right)
      (pass_field 8 (λ l k _. InCounts m bytes l k 8 (counts_of m)) refl f)

  pub magic_refused : (f : ImageFault) → IsRefusedField 8 magic_fault bytes 0 f → FaultIn (λ l k. InImage m bytes l k) f
  magic_refused f r = refused_in (λ l k _. InCounts m bytes l k 8 (counts_of m)) f r

  module _ (n : ℕ) (magic_is : IsField 8 magic_fault bytes 0 n) where
    pub counts_refused : (f : ImageFault) → FaultIn (λ l k. InCounts m bytes l k 8 (counts_of m)) f → FaultIn (λ l k. InImage m bytes l k) f
    counts_refused f r = passed_in (passed_magic n magic_is) f r

    module _ (at : ℕ) (counts : Passed bytes 8 at (flat_map two (counts_of m)) (λ l k. InCounts m bytes l k 8 (counts_of m)) (λ l k. InTicks m bytes l k at)) where
      pub ticks_refused : (f : ImageFault) → IsRefusedField 2 (ticks_fault (most_ticks m)) bytes at f → FaultIn (λ l k. InImage m bytes l k) f
      ticks_refused f r = passed_in (pass_both (passed_magic n magic_is) counts) f (refused_in (λ l k _. InInputs l k at) f r)

      module _ (ticks : ℕ) (ticks_are : IsField 2 (ticks_fault (most_ticks m)) bytes at ticks) where
        passed_ticks : Passed bytes at (at + 2) (two ticks) (λ l k. InTicks m bytes l k at) (λ l k. InInputs l k at)
        passed_ticks = pass_field (at + 2) (λ l k _. InInputs l k at) refl ticks_are

        pub inputs_refused : (f : ImageFault) → IsCut 2 bytes (at + 2) f → FaultIn (λ l k. InImage m bytes l k) f
        inputs_refused f r = passed_in (pass_both (passed_magic n magic_is) (pass_both counts passed_ticks)) f (refused_in (λ l k inputs. InOutputs l k at inputs) f (IsRefusedField.is_cut r))

        module _ (inputs : ℕ) (inputs_are : IsField 2 no_fault bytes (at + 2) inputs) where
          passed_inputs : Passed bytes (at + 2) (at + 4) (two inputs) (λ l k. InInputs l k at) (λ l k. InOutputs l k at inputs)
          passed_inputs = pass_field (at + 4) (λ l k x. InOutputs l k at x) (omega arith) inputs_are

          pub outputs_refused : (f : ImageFault) → IsCut 2 bytes (at + 4) f → FaultIn (λ l k. InImage m bytes l k) f
          outputs_refused f r = passed_in (pass_both (passed_magic n magic_is) (pass_both counts (pass_both passed_ticks passed_inputs))) f (refused_in (λ l k x. InPins m bytes l k (at + 6) (inputs + x) []) f (IsRefusedField.is_cut r))

          pub head_read : (outputs : ℕ) → IsField 2 no_fault bytes (at + 4) outputs → IsHead m bytes (record { ticks = ticks; inputs = inputs; outputs = outputs; at = at + 6 })
          head_read outputs outputs_are = record {
            some = (ticks_right (most_ticks m) ticks ticks_are.right).0;
            few = (ticks_right (most_ticks m) ticks ticks_are.right).1;
            passed = pass_both (passed_magic n magic_is) (pass_both counts (pass_both passed_ticks (pass_both passed_inputs (pass_field (at + 6) (λ l k x. InPins m bytes l k (at + 6) (inputs + x) []) (omega arith) outputs_are))));
          }

-- ---- a table

-- the flags of the setting that flags make
pub flags_back : (n : ℕ) → n ≤ 3 → (if (n % 2) == 1 then 1 else 0) + (if nat_le 2 n then 2 else 0) ≡ n
flags_back zero h = refl
flags_back (suc zero) h = refl
flags_back (suc (suc zero)) h = refl
flags_back (suc (suc (suc zero))) h = refl
flags_back (suc (suc (suc (suc n)))) h = absurd (let no : ⊥ = omega (arith, h) in no)

module _ (m : Shape) (bytes : List ℕ) (at least : ℕ) where
  abbrev InCells : (l : ℕ) → ImageKind → (left t : ℕ) → Type 0
  InCells l k left t = InField bytes l k (at + 3) 8 no_fault (λ _. InTables m bytes l k (at + 11) left (suc t))

  abbrev InFlags : (l : ℕ) → ImageKind → (left t : ℕ) → Type 0
  InFlags l k left t = InField bytes l k (at + 2) 1 flags_fault (λ _. InCells l k left t)

  pub table_number_refused : (f : ImageFault) → IsRefusedField 2 (above_fault (tables_of m) least) bytes at f → (left : ℕ) → FaultIn (λ l k. InTables m bytes l k at (suc left) least) f
  table_number_refused f r left = refused_in (λ l k t. InFlags l k left t) f r

  module _ (t : ℕ) (number : IsField 2 (above_fault (tables_of m) least) bytes at t) where
    passed_number : (left : ℕ) → Passed bytes at (at + 2) (two t) (λ l k. InTables m bytes l k at (suc left) least) (λ l k. InFlags l k left t)
    passed_number left = pass_field (at + 2) (λ l k x. InFlags l k left x) refl number

    pub flags_refused : (f : ImageFault) → IsRefusedField 1 flags_fault bytes (at + 2) f → (left : ℕ) → FaultIn (λ l k. InTables m bytes l k at (suc left) least) f
    flags_refused f r left = passed_in (passed_number left) f (refused_in (λ l k _. InCells l k left t) f r)

    module _ (flags : ℕ) (flags_are : IsField 1 flags_fault bytes (at + 2) flags) where
      passed_flags : (left : ℕ) → Passed bytes (at + 2) (at + 3) (big_bytes 1 flags) (λ l k. InFlags l k left t) (λ l k. InCells l k left t)
      passed_flags left = pass_field (at + 3) (λ l k _. InCells l k left t) (omega arith) flags_are

      pub cells_refused : (f : ImageFault) → IsCut 8 bytes (at + 3) f → (left : ℕ) → FaultIn (λ l k. InTables m bytes l k at (suc left) least) f
      cells_refused f r left = passed_in (pass_both (passed_number left) (passed_flags left)) f (refused_in (λ l k _. InTables m bytes l k (at + 11) left (suc t)) f (IsRefusedField.is_cut r))

      pub table_read : (cells : ℕ) → IsField 8 no_fault bytes (at + 3) cells → IsTable m bytes at least t (record { cells = cells; latched = (flags % 2) == 1; init = nat_le 2 flags })
      table_read cells cells_are = record {
        least_is = (above_right (tables_of m) least t number.right).1;
        passed = λ left. pass_both (passed_number left)
            (subst (λ z. Passed bytes (at + 2) (at + 11) (big_bytes 1 z ++ big_bytes 8 cells) (λ l k. InFlags l k left t) (λ l k. InTables m bytes l k (at + 11) left (suc t))) (sym (flags_back flags (most_right 3 flags flags_are.right)))
            (pass_both (passed_flags left) (pass_field (at + 11) (λ l k _. InTables m bytes l k (at + 11) left (suc t)) (omega arith) cells_are)));
      }
