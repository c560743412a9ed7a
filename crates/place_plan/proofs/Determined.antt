-- The in-order plan is determined, so that it doesn't both fit and fall short.
use Rattle.std.proofs.Common.{◌≡◌, ℕ, suc, List, [], ◌∷◌, map, length, take, drop, get_or, min, refl, sym, ap, ◌∙◌, subst, arith}
use Rattle.place_plan.proofs.Vocabulary.{Shape, most_ticks, Defects, Network, Plan, Need, Resource, Tables, Pins, Ports, Lines, Short}
use Rattle.machine_shape.specs.declared.Table.{Table}
use Rattle.place_plan.specs.Vocabulary.{number_of, nets_in, IsTerminal, IsFreeTableOf, IsFreePinOf, AreNeeds, IsInOrder, InOrderIsShort, IsShortInOrder, FitsInOrder, IsShortOf, Suffices}
use Rattle.place_plan.proofs.Decided.{never_both}
use Rattle.place_plan.proofs.Those.{those_unique}

-- lists of tables with the same numbers are the same
same_tables : (xs ys : List Table) → map number_of xs ≡ map number_of ys → xs ≡ ys
same_tables [] [] e = refl
same_tables [] (y ∷ ys) e = absurd (none (ap length e))
  where
    none : 0 ≡ suc (length (map number_of ys)) → ⊥
    none q = omega (arith, q)
same_tables (x ∷ xs) [] e = absurd (none (ap length e))
  where
    none : suc (length (map number_of xs)) ≡ 0 → ⊥
    none q = omega (arith, q)
same_tables (x ∷ xs) (y ∷ ys) e = joined (ap (λ l. get_or l 0 0) e) (same_tables xs ys (ap (drop 1) e))
  where
    joined : x.0 ≡ y.0 → xs ≡ ys → (x ∷ xs) ≡ (y ∷ ys)
    joined h t = ap (λ (k : ℕ). record { 0 = k } ∷ xs) h ∙ ap (λ l. y ∷ l) t

plan_by : List Table → List ℕ → List ℕ → Plan
plan_by ts is os = record { tables = ts; inputs = is; outputs = os }

same_plans : (p q : Plan) → p.tables ≡ q.tables → p.inputs ≡ q.inputs → p.outputs ≡ q.outputs → p ≡ q
unfolding plan_by
same_plans p q a b c = ap (λ ts. plan_by ts p.inputs p.outputs) a ∙ ap (λ is. plan_by q.tables is p.outputs) b ∙ ap (plan_by q.tables q.inputs) c

need_by : ℕ → ℕ → Need
need_by n h = record { need = n; have = h }

same_needs : (a b : Need) → a.need ≡ b.need → a.have ≡ b.have → a ≡ b
unfolding need_by
same_needs a b e f = ap (λ n. need_by n a.have) e ∙ ap (need_by b.need) f

module _ (m : Shape) (d : Defects) (n : Network) where
  -- one plan is in order
  pub in_order_unique : (p q : Plan) → IsInOrder m d n p → IsInOrder m d n q → p ≡ q
  in_order_unique p q a b = same_plans p q
      (same_tables p.tables q.tables (a.tables_are ∙ ap (take (length n.tables)) tables ∙ sym b.tables_are))
      (a.inputs_are ∙ ap (take n.inputs) pins ∙ sym b.inputs_are)
      (a.outputs_are ∙ ap (λ l. take (length n.outputs) (drop n.inputs l)) pins ∙ sym b.outputs_are)
    where
      tables : a.free_tables ≡ b.free_tables
      tables = those_unique (IsFreeTableOf m d) a.free_tables b.free_tables a.are_tables b.are_tables

      pins : a.free_pins ≡ b.free_pins
      pins = those_unique (IsFreePinOf m d) a.free_pins b.free_pins a.are_pins b.are_pins

  -- so are the needs
  pub tables_unique : (t u x y : Need) → AreNeeds m d n t x → AreNeeds m d n u y → t ≡ u
  tables_unique t u x y a b = same_needs t u (a.tables_need ∙ sym b.tables_need)
      (a.tables_have ∙ ap (λ (ts : List ℕ). min (length ts) (most_ticks m)) (those_unique (IsFreeTableOf m d) a.free_tables b.free_tables a.are_tables b.are_tables) ∙ sym b.tables_have)

  pub pins_unique : (t u x y : Need) → AreNeeds m d n t x → AreNeeds m d n u y → x ≡ y
  pins_unique t u x y a b = same_needs x y (a.pins_need ∙ sym b.pins_need)
      (a.pins_have ∙ ap length (those_unique (IsFreePinOf m d) a.free_pins b.free_pins a.are_pins b.are_pins) ∙ sym b.pins_have)

  -- a short in-order plan is short in the sense of room, for the plan that is in order
  short_of_plan : (p : Plan) (tables pins : Need) (s : Short) → IsInOrder m d n p → (r : Resource) → InOrderIsShort r m d n tables pins s → IsShortOf r m d (nets_in n) (IsTerminal m n p) tables pins s
  short_of_plan p tables pins s is Tables short = short
  short_of_plan p tables pins s is Pins short = short
  short_of_plan p tables pins s is Ports short = subst (λ q. IsShortOf Ports m d (nets_in n) (IsTerminal m n q) tables pins s) (in_order_unique short.0 p short.1 is) short.2
  short_of_plan p tables pins s is Lines short = subst (λ q. IsShortOf Lines m d (nets_in n) (IsTerminal m n q) tables pins s) (in_order_unique short.0 p short.1 is) short.2

  pub fits_or_is_short : (p : Plan) (s : Short) → FitsInOrder m d n p → IsShortInOrder m d n s → ⊥
  fits_or_is_short p s is short = never_both m d (nets_in n) (IsTerminal m n p) short.tables short.pins s
      (subst (λ t. Suffices m d (nets_in n) (IsTerminal m n p) t short.pins) (tables_unique is.fits.tables short.tables is.fits.pins short.pins is.fits.needs short.needs)
      (subst (λ x. Suffices m d (nets_in n) (IsTerminal m n p) is.fits.tables x) (pins_unique is.fits.tables short.tables is.fits.pins short.pins is.fits.needs short.needs) is.fits.suffices))
      s.resource (short_of_plan p short.tables short.pins s is.in_order s.resource short.short)
