-- Which wires are used, by lists of what uses them.
use Rattle.std.proofs.Common.{◌≡◌, ◌≢◌, ◌⊎◌, ℕ, ◌+◌, ◌<◌, ◌≤◌, Bool, true, false, Some, None, Option, List, ◌++◌, length, get_or, refl, sym, ap, ◌∙◌, subst, inl, inr, arith, IsSome, is_some, ◌==◌, if◌then◌else◌, count_by}
use Rattle.place_repair.proofs.Vocabulary.{cases_eq, false≢true, get_or_default, Cross, Shape, Table, pin_wire, table_wire, tables_of}
use Rattle.place_repair.proofs.Vocabulary.{wires_of, Setting, of_list, AreMarks, IsMarked, IsThis, IsOfFirst, IsEnd, as_tap, as_line}
use Rattle.std.proofs.lemmas.List.Elements.{Contains-get_or, Contains-append_left, Contains-append_right, Contains-append_cases}
use Rattle.machine_config.specs.Configuration.{Configuration, IsConfiguration, is_closed, setting_of}
use Rattle.machine_image.specs.Vocabulary.{ImageValue, Uses, at_pin, at_tap, at_line, at_table}
use Rattle.place_repair.specs.Making.{IsEndOf, IsPinOf, IsTablePin, IsOnPin, IsSeatPin, no_cross, no_table}
use Rattle.place_repair.proofs.Placed.{on_within}
use Rattle.place_repair.proofs.Marking.{marked_same, marked_then, marked_both, more_marks, first_all, all_first}

pub on_is : (o : Option Setting) → is_some o ≡ true → IsSome o
on_is (Some s) e = refl
on_is None e = e

pub is_on : (o : Option Setting) → IsSome o → is_some o ≡ true
is_on (Some s) e = refl
is_on None e = e

module _ (g : Configuration) (tables : List Table) (counts : (t : ℕ) → count_by (λ (c : Table). c.0 == t) tables ≡ (if is_some (setting_of g t) then 1 else 0)) (k : ℕ) (l : k < length tables) where
  -- a listed table is on, and so one of the machine
  pub listed_on : IsSome (setting_of g (get_or tables k no_table).0)
  listed_on = on_is (setting_of g (get_or tables k no_table).0) (of_list (λ (c : Table). c.0) tables (λ t. is_some (setting_of g t)) counts k no_table l)

  pub listed_within : IsConfiguration g → (get_or tables k no_table).0 < tables_of g.shape
  listed_within right = on_within g right (get_or tables k no_table).0 listed_on

module _ (g : Configuration) where
  pub ends_first : (s : Shape) → s ≡ g.shape → (xs : List Cross) → ((x : ℕ) → count_by (λ (c : Cross). c.0 == x) xs ≡ (if is_closed g x then 1 else 0)) → (k : ℕ) → length xs ≤ k → k ≤ length xs → (old new : List Bool) → IsMarked (IsOfFirst (λ (c : Cross). IsEndOf s c.0) no_cross xs k) old new → IsMarked (IsEnd g) old new
  ends_first s e xs counts k ge le old new marked = marked_same (IsOfFirst (λ (c : Cross). IsEndOf s c.0) no_cross xs k) (IsEnd g) old new marked to from
    where
      end_is : (x w : ℕ) → is_closed g x ≡ true → IsEndOf g.shape x w → IsEnd g w
      end_is x w on (inl t) = as_tap x on t
      end_is x w on (inr l) = as_line x on l

      to : (w : ℕ) → IsOfFirst (λ (c : Cross). IsEndOf s c.0) no_cross xs k w → IsEnd g w
      to w first = let r = first_all (λ (c : Cross). c.0) xs (is_closed g) counts (IsEndOf s) no_cross k w ge le first in end_is r.0 w r.1 (subst (λ z. IsEndOf z r.0 w) e r.2)

      from : (w : ℕ) → IsEnd g w → IsOfFirst (λ (c : Cross). IsEndOf s c.0) no_cross xs k w
      from w (as_tap x on t) = all_first (λ (c : Cross). c.0) xs (is_closed g) counts (IsEndOf s) no_cross k w ge x on (subst (λ z. IsEndOf z x w) (sym e) (inl t))
      from w (as_line x on l) = all_first (λ (c : Cross). c.0) xs (is_closed g) counts (IsEndOf s) no_cross k w ge x on (subst (λ z. IsEndOf z x w) (sym e) (inr l))

  pub on_first : (s : Shape) → s ≡ g.shape → (xs : List Table) → ((t : ℕ) → count_by (λ (c : Table). c.0 == t) xs ≡ (if is_some (setting_of g t) then 1 else 0)) → (k : ℕ) → length xs ≤ k → k ≤ length xs → (old new : List Bool) → IsMarked (IsOfFirst (λ (c : Table). IsTablePin s c.0 7) no_table xs k) old new → IsMarked (IsOnPin g) old new
  on_first s e xs counts k ge le old new marked = marked_same (IsOfFirst (λ (c : Table). IsTablePin s c.0 7) no_table xs k) (IsOnPin g) old new marked to from
    where
      to : (w : ℕ) → IsOfFirst (λ (c : Table). IsTablePin s c.0 7) no_table xs k w → IsOnPin g w
      to w first = let r = first_all (λ (c : Table). c.0) xs (λ t. is_some (setting_of g t)) counts (λ t v. IsTablePin s t 7 v) no_table k w ge le first in (r.0, on_is (setting_of g r.0) r.1, subst (λ z. IsTablePin z r.0 7 w) e r.2)

      from : (w : ℕ) → IsOnPin g w → IsOfFirst (λ (c : Table). IsTablePin s c.0 7) no_table xs k w
      from w (t, on, pin) = all_first (λ (c : Table). c.0) xs (λ t. is_some (setting_of g t)) counts (λ t v. IsTablePin s t 7 v) no_table k w ge t (is_on (setting_of g t) on) (subst (λ z. IsTablePin z t 7 w) (sym e) pin)

pub pins_first : (m : Shape) (pins : List ℕ) (k : ℕ) → length pins ≤ k → k ≤ length pins → (old new : List Bool) → IsMarked (IsOfFirst (λ p w. pin_wire m p ≡ w) 0 pins k) old new → IsMarked (IsPinOf m pins) old new
pins_first m pins k ge le old new marked = marked_same (IsOfFirst (λ p w. pin_wire m p ≡ w) 0 pins k) (IsPinOf m pins) old new marked
    (λ w first. (get_or pins first.0 0, Contains-get_or pins first.0 0 (omega (arith, first.1, le)), first.2))
    (λ w is. let has = is.1 in (has.0, omega (arith, has.1, ge), ap (pin_wire m) (get_or_default pins has.0 0 is.0 has.1 ∙ has.2) ∙ is.2))

pub table_more : (m : Shape) (t j : ℕ) (old mid new : List Bool) → IsMarked (IsTablePin m t j) old mid → IsMarked (IsThis (table_wire m t j)) mid new → IsMarked (IsTablePin m t (j + 1)) old new
table_more m t j old mid new p q = marked_then (IsTablePin m t j) (IsThis (table_wire m t j)) (IsTablePin m t (j + 1)) old mid new p q
    (λ w a. (a.0, omega (arith, a.1), a.2)) (λ w b. (j, omega arith, b)) (λ w c. by w c (cases_eq c.0 j))
  where
    by : (w : ℕ) → (c : IsTablePin m t (j + 1) w) → (c.0 ≡ j) ⊎ (c.0 ≢ j) → IsTablePin m t j w ⊎ IsThis (table_wire m t j) w
    by w c (inl e) = inr (ap (table_wire m t) (sym e) ∙ c.2)
    by w c (inr ne) = inl (c.0, omega (arith, c.1, ne), c.2)

-- inputs, outputs and tables
pub seats_marked : (i : ImageValue) (old one two new : List Bool) → IsMarked (IsPinOf i.config.shape i.inputs) old one → IsMarked (IsPinOf i.config.shape i.outputs) one two → IsMarked (IsOnPin i.config) two new → IsMarked (IsSeatPin i) old new
seats_marked i old one two new ins outs on = marked_both (IsPinOf i.config.shape (i.inputs ++ i.outputs)) (IsOnPin i.config) old two new pins on
  where
    pins : IsMarked (IsPinOf i.config.shape (i.inputs ++ i.outputs)) old two
    pins = marked_then (IsPinOf i.config.shape i.inputs) (IsPinOf i.config.shape i.outputs) (IsPinOf i.config.shape (i.inputs ++ i.outputs)) old one two ins outs
        (λ w a. (a.0, Contains-append_left i.inputs i.outputs a.0 a.1, a.2))
        (λ w b. (b.0, Contains-append_right i.inputs i.outputs b.0 b.1, b.2))
        (λ w c. elim (Contains-append_cases i.inputs i.outputs c.0 c.1) [ inl a ↦ inl (c.0, a, c.2) | inr b ↦ inr (c.0, b, c.2) ])

pub uses_marked : (i : ImageValue) (old new : List Bool) → AreMarks (wires_of i.config.shape) (IsEnd i.config) old → IsMarked (IsSeatPin i) old new → AreMarks (wires_of i.config.shape) (Uses i) new
uses_marked i old new are marked = more_marks (wires_of i.config.shape) (IsEnd i.config) (IsSeatPin i) (Uses i) old new are marked by_end by_seat cases
  where
    by_end : (w : ℕ) → IsEnd i.config w → Uses i w
    by_end w (as_tap x on e) = at_tap x on (sym e)
    by_end w (as_line x on e) = at_line x on (sym e)

    by_seat : (w : ℕ) → IsSeatPin i w → Uses i w
    by_seat w (inl (k, has, e)) = at_pin k has (sym e)
    by_seat w (inr (t, on, (j, l, e))) = at_table t j on l (sym e)

    cases : (w : ℕ) → Uses i w → IsEnd i.config w ⊎ IsSeatPin i w
    cases w (at_pin k has e) = inr (inl (k, has, sym e))
    cases w (at_tap x on e) = inl (as_tap x on (sym e))
    cases w (at_line x on e) = inl (as_line x on (sym e))
    cases w (at_table t j on l e) = inr (inr (t, on, (j, l, sym e)))

pub not_true_and : {b : Bool} → b ≡ false → b ≡ true → ⊥
not_true_and e f = false≢true (sym e ∙ f)
