-- There is one substituted design, and one netlist that is read from it.
use Rattle.std.proofs.Common.{◌≡◌, ℕ, zero, suc, ◌+◌, ◌-◌, false, ◌||◌, List, [], ◌∷◌, refl, sym, ap, ◌∙◌, subst, arith, inl, inr}
use Rattle.design_flatten.proofs.Vocabulary.{cases_lt, NetlistData, Model, Signal}
use Rattle.design_flatten.specs.Vocabulary.{Part, InputPart, OutputPart, CoverPart, LatchPart, UsePart, Line, is_use, replace, replace_first, after, is_left, IsSubstituted, IsReadFrom, IsNetlistOf}

-- where no line uses a model nothing changes
pub stays : (ms : List Model) (k : ℕ) (lines : List (Line Signal)) → is_left lines ≡ false → replace_first ms k lines ≡ lines
stays ms k [] h = refl
stays ms k (l ∷ lines) h = by l.part h (stays ms k lines)
  where
    by : (p : Part Signal) → (is_use p || is_left lines) ≡ false → (is_left lines ≡ false → replace_first ms k lines ≡ lines) → replace ms k l p lines (replace_first ms k lines) ≡ l ∷ lines
    by (UsePart m pairs way) h rest = absurd cc
    by (InputPart s) h rest = ap (λ xs. l ∷ xs) (rest h)
    by (OutputPart s) h rest = ap (λ xs. l ∷ xs) (rest h)
    by (CoverPart out ins rows off) h rest = ap (λ xs. l ∷ xs) (rest h)
    by (LatchPart from out init control) h rest = ap (λ xs. l ∷ xs) (rest h)

pub stays_after : (ms : List Model) (k : ℕ) → is_left (after ms k) ≡ false → (j : ℕ) → after ms (j + k) ≡ after ms k
unfolding after
stays_after ms k h zero = let n : 0 + k ≡ k = omega arith in ap (after ms) n
stays_after ms k h (suc j) =
    let n : suc j + k ≡ suc (j + k) = omega arith in
    ap (after ms) n ∙ ap (replace_first ms (suc (j + k))) (stays_after ms k h j) ∙ stays ms (suc (j + k)) (after ms k) h

module _ (ms : List Model) (j k : ℕ) (xs ys : List (Line Signal)) (one : IsSubstituted ms j xs) (other : IsSubstituted ms k ys) where
  none_after : is_left (after ms j) ≡ false
  none_after = ap is_left (sym one.reached) ∙ one.none_left

  none_after_other : is_left (after ms k) ≡ false
  none_after_other = ap is_left (sym other.reached) ∙ other.none_left

  pub one_design : xs ≡ ys
  one_design = elim (cases_lt j k) [
    | inl lt ↦ let same : (k - j) + j ≡ k = omega arith in one.reached ∙ sym (stays_after ms j none_after (k - j)) ∙ ap (after ms) same ∙ sym other.reached
    | inr le ↦ let same : (j - k) + k ≡ j = omega arith in one.reached ∙ ap (after ms) (sym same) ∙ stays_after ms k none_after_other (j - k) ∙ sym other.reached
  ]

draft_eq : {a b : NetlistData} → a.names ≡ b.names → a.inputs ≡ b.inputs → a.outputs ≡ b.outputs → a.covers ≡ b.covers → a.latches ≡ b.latches → a ≡ b
draft_eq p q r s t = λ i. record { names = p i; inputs = q i; outputs = r i; covers = s i; latches = t i }

one_reading : (ms : List Model) (lines : List (Line Signal)) (a b : NetlistData) → IsReadFrom ms lines a → IsReadFrom ms lines b → a ≡ b
one_reading ms lines a b h k = draft_eq (h.names ∙ sym k.names) (h.inputs ∙ sym k.inputs) (h.outputs ∙ sym k.outputs) (h.covers ∙ sym k.covers) (h.latches ∙ sym k.latches)

pub one_netlist : (ms : List Model) (a b : NetlistData) → IsNetlistOf ms a → IsNetlistOf ms b → a ≡ b
one_netlist ms a b h k =
    let same : h.lines ≡ k.lines = one_design ms h.read.design.replaced k.read.design.replaced h.lines k.lines h.read.design.substituted k.read.design.substituted in
    one_reading ms k.lines a b (subst (λ x. IsReadFrom ms x a) same h.read.netlist) k.read.netlist
