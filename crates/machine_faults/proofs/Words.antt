-- The words of entries tell the entries apart.
use Rattle.std.proofs.Common.{◌≡◌, ◌<◌, ℕ, Bool, true, false, List, [], ◌∷◌, length, map, get_or, refl, sym, ap, ◌∙◌, arith}
use Rattle.machine_faults.proofs.Vocabulary.{position_or_len, decimal_injective, Shape, in_order, turned, Fault, Stuck, CrossStuck, Cell}
use Rattle.machine_faults.proofs.Vocabulary.{Register, Bridge, Head, CanHave, word_of, follow_of, bit_word, head_of, rest_of, fault_words}
use Rattle.std.specs.Str.{bytes_eq}
use Rattle.machine_shape.specs.Vocabulary.{ends_of, wires_of, crosses_of, HasNames, HasCrosses, IsNumbered}
use Rattle.machine_faults.specs.declared.head.Head.TheVariants as head

-- ---- first words

heads : List Head
heads = head.Stuck0 ∷ head.Stuck1 ∷ head.Open ∷ head.Closed ∷ head.Cell ∷ head.Register ∷ head.Bridge ∷ []

head_at : List ℕ → Head
head_at w = get_or heads (position_or_len (λ v. bytes_eq v w) (map word_of heads)) head.Bridge

back : (h : Head) → head_at (word_of h) ≡ h
unfolding heads head_at
back head.Stuck0 = refl
back head.Stuck1 = refl
back head.Open = refl
back head.Closed = refl
back head.Cell = refl
back head.Register = refl
back head.Bridge = refl

pub one_head : (g h : Head) → word_of g ≡ word_of h → g ≡ h
one_head g h e = sym (back g) ∙ ap head_at e ∙ back h

-- what a head says of the kind of a fault, and of its value
class_of : Head → ℕ
class_of head.Stuck0 = 0
class_of head.Stuck1 = 0
class_of head.Open = 1
class_of head.Closed = 1
class_of head.Cell = 2
class_of head.Register = 3
class_of head.Bridge = 4

abbrev class_of_fault : Fault → ℕ
class_of_fault (Stuck w v) = 0
class_of_fault (CrossStuck x c) = 1
class_of_fault (Cell t a v) = 2
class_of_fault (Register t v) = 3
class_of_fault (Bridge a b) = 4

is_class : (x : Fault) → class_of (head_of x) ≡ class_of_fault x
unfolding class_of
is_class (Stuck w false) = refl
is_class (Stuck w true) = refl
is_class (CrossStuck x false) = refl
is_class (CrossStuck x true) = refl
is_class (Cell t a v) = refl
is_class (Register t v) = refl
is_class (Bridge a b) = refl

says : Head → Bool
says head.Stuck1 = true
says head.Closed = true
says _ = false

says_stuck : (w : _) (v : Bool) → says (head_of (Stuck w v)) ≡ v
unfolding says
says_stuck w false = refl
says_stuck w true = refl

says_crossing : (x : _) (c : Bool) → says (head_of (CrossStuck x c)) ≡ c
unfolding says
says_crossing x false = refl
says_crossing x true = refl

is_one : List ℕ → Bool
is_one w = bytes_eq w (bit_word true)

bit_back : (b : Bool) → is_one (bit_word b) ≡ b
unfolding is_one
bit_back false = refl
bit_back true = refl

pub one_bit : (a b : Bool) → bit_word a ≡ bit_word b → a ≡ b
one_bit a b e = sym (bit_back a) ∙ ap is_one e ∙ bit_back b

-- ---- entries

pub same_head : (m : Shape) (x y : Fault) → fault_words m x ≡ fault_words m y → head_of x ≡ head_of y
same_head m x y e = one_head (head_of x) (head_of y) (ap (λ ws. get_or ws 0 []) e)

same_class : (m : Shape) (x y : Fault) → fault_words m x ≡ fault_words m y → class_of_fault x ≡ class_of_fault y
same_class m x y e = sym (is_class x) ∙ ap class_of (same_head m x y e) ∙ is_class y

nth : (k : ℕ) (us vs : List (List ℕ)) → us ≡ vs → get_or us k [] ≡ get_or vs k []
nth k us vs e = ap (λ ws. get_or ws k []) e

pub record IsTold (m : Shape) : Type 0 where
  pub names : HasNames m
  pub crosses : HasCrosses m
  pub numbered : IsNumbered m

pub tap_in : (m : Shape) → IsTold m → (x : ℕ) → x < crosses_of m → (ends_of m x).0 < wires_of m
tap_in m k x lt = k.numbered.ends x (ends_of m x).0 (ends_of m x).1 lt (in_order refl refl)

pub line_in : (m : Shape) → IsTold m → (x : ℕ) → x < crosses_of m → (ends_of m x).1 < wires_of m
line_in m k x lt = k.numbered.ends x (ends_of m x).1 (ends_of m x).0 lt (turned refl refl)

pub one_fault : (m : Shape) → IsTold m → (x y : Fault) → CanHave m x → CanHave m y → fault_words m x ≡ fault_words m y → x ≡ y
one_fault m k (Stuck w v) (Stuck u q) p r e =
    let n = k.names.one_wire w.0 u.0 p r (nth 1 _ _ e) in
    let b = sym (says_stuck w v) ∙ ap says (same_head m (Stuck w v) (Stuck u q) e) ∙ says_stuck u q in
    λ i. Stuck (record { 0 = n i }) (b i)
one_fault m k (CrossStuck x c) (CrossStuck y d) p r e =
    let t = k.names.one_wire (ends_of m x.0).0 (ends_of m y.0).0 (tap_in m k x.0 p) (tap_in m k y.0 r) (nth 1 _ _ e) in
    let l = k.names.one_wire (ends_of m x.0).1 (ends_of m y.0).1 (line_in m k x.0 p) (line_in m k y.0 r) (nth 2 _ _ e) in
    let n = k.crosses.one x.0 y.0 p r (λ i. (t i, l i)) in
    let b = sym (says_crossing x c) ∙ ap says (same_head m (CrossStuck x c) (CrossStuck y d) e) ∙ says_crossing y d in
    λ i. CrossStuck (record { 0 = n i }) (b i)
one_fault m k (Cell t a v) (Cell s b w) p r e =
    let n = k.names.one_table t.0 s.0 p.0 r.0 (nth 1 _ _ e) in
    let q = decimal_injective a b (omega (arith, p.1)) (omega (arith, r.1)) (nth 2 _ _ e) in
    let z = one_bit v w (nth 3 _ _ e) in
    λ i. Cell (record { 0 = n i }) (q i) (z i)
one_fault m k (Register t v) (Register s w) p r e =
    let n = k.names.one_table t.0 s.0 p r (nth 1 _ _ e) in
    let z = one_bit v w (nth 2 _ _ e) in
    λ i. Register (record { 0 = n i }) (z i)
one_fault m k (Bridge a b) (Bridge c d) p r e =
    let n = k.names.one_wire a.0 c.0 p.0 r.0 (nth 1 _ _ e) in
    let z = k.names.one_wire b.0 d.0 p.1 r.1 (nth 2 _ _ e) in
    λ i. Bridge (record { 0 = n i }) (record { 0 = z i })
one_fault m k x y p r e = absurd (let c = same_class m x y e in omega arith)

pub right_size : (m : Shape) (x : Fault) → length (rest_of m x) ≡ follow_of (head_of x)
right_size m (Stuck w false) = refl
right_size m (Stuck w true) = refl
right_size m (CrossStuck x false) = refl
right_size m (CrossStuck x true) = refl
right_size m (Cell t a v) = refl
right_size m (Register t v) = refl
right_size m (Bridge a b) = refl
