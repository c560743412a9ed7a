-- Valuations of a graph: for each vector and each state of its latches there is one.
use Rattle.std.proofs.Common.{◌≡◌, ℕ, zero, suc, ◌+◌, ◌*◌, ◌/◌, ◌%◌, ◌<◌, ◌&&◌, ◌==◌, Bool, false, List, [], ◌∷◌, ◌++◌, length, get_or, refl, sym, ap, ◌∙◌, arith, not, if◌then◌else◌}
use Rattle.design_equal.proofs.Vocabulary.{get_or_append_left, get_or-append-add, length-append, Graph}
use Rattle.design_equal.specs.declared.graph.And.{And}
use Rattle.design_equal.specs.Graphs.{first_and, first_latch, literal_in, node_of, IsGraph, IsValued}

abbrev pub bit_of : List Bool → ℕ → Bool
bit_of bits n = get_or bits n false

pub same_literal : (f g : ℕ → Bool) (l : ℕ) → f (node_of l) ≡ g (node_of l) → literal_in f l ≡ literal_in g l
same_literal f g l e = ap (λ b. if l % 2 == 1 then not b else b) e

pub even_literal : (f : ℕ → Bool) (l n : ℕ) → l ≡ 2 * n → literal_in f l ≡ f n
even_literal f l n e =
    let odd : l % 2 ≡ 0 = omega (arith, e) in
    let half : l / 2 ≡ n = omega (arith, e) in
    ap (λ m. if m == 1 then not (f (node_of l)) else f (node_of l)) odd ∙ ap f half

-- a literal of node 0
pub constant_literal : (f : ℕ → Bool) (l : ℕ) → f 0 ≡ false → l < 2 → literal_in f l ≡ (l == 1)
constant_literal f zero e ll = e
constant_literal f (suc zero) e ll = ap not e
constant_literal f (suc (suc l)) e ll = absurd (omega arith)

-- the bits of nodes, and then those of ANDs behind them
abbrev pub and_bit : List Bool → And → Bool
and_bit bits x = literal_in (bit_of bits) x.left && literal_in (bit_of bits) x.right

abbrev pub with_ands : List And → List Bool → List Bool
with_ands [] bits = bits
with_ands (x ∷ xs) bits = with_ands xs (bits ++ and_bit bits x ∷ [])

pub ands_keep : (xs : List And) (bits : List Bool) (n : ℕ) → n < length bits → bit_of (with_ands xs bits) n ≡ bit_of bits n
ands_keep [] bits n ln = refl
ands_keep (x ∷ xs) bits n ln =
    ands_keep xs (bits ++ and_bit bits x ∷ []) n (omega (arith, length-append bits (and_bit bits x ∷ [])))
    ∙ get_or_append_left bits (and_bit bits x ∷ []) false n ln

no_and : And
no_and = record { left = 0; right = 0 }

pub and_is : (xs : List And) (bits : List Bool)
    → ((k : ℕ) → k < length xs → node_of (get_or xs k (record { left = 0; right = 0 })).left < length bits + k)
    → ((k : ℕ) → k < length xs → node_of (get_or xs k (record { left = 0; right = 0 })).right < length bits + k)
    → (k : ℕ) → k < length xs → bit_of (with_ands xs bits) (length bits + k) ≡ and_bit (with_ands xs bits) (get_or xs k (record { left = 0; right = 0 }))
and_is [] bits lefts rights k lk = absurd (omega arith)
and_is (x ∷ xs) bits lefts rights zero lk =
    let more : List Bool = bits ++ and_bit bits x ∷ [] in
    let len : length more ≡ length bits + 1 = length-append bits (and_bit bits x ∷ []) in
    let lit_is : (l : ℕ) → node_of l < length bits → literal_in (bit_of bits) l ≡ literal_in (bit_of (with_ands xs more)) l =
    (λ l ll. same_literal (bit_of bits) (bit_of (with_ands xs more)) l (sym (ands_keep xs more (node_of l) (omega arith) ∙ get_or_append_left bits (and_bit bits x ∷ []) false (node_of l) ll))) in
    ands_keep xs more (length bits + 0) (omega arith)
    ∙ get_or-append-add bits (and_bit bits x ∷ []) 0 false
    ∙ ap (λ b. b && literal_in (bit_of bits) x.right) (lit_is x.left (omega (arith, lefts 0 (omega arith))))
    ∙ ap (λ b. literal_in (bit_of (with_ands xs more)) x.left && b) (lit_is x.right (omega (arith, rights 0 (omega arith))))
and_is (x ∷ xs) bits lefts rights (suc k) lk =
    let more : List Bool = bits ++ and_bit bits x ∷ [] in
    let len : length more ≡ length bits + 1 = length-append bits (and_bit bits x ∷ []) in
    let at : length bits + suc k ≡ length more + k = omega arith in
    ap (bit_of (with_ands xs more)) at
    ∙ and_is xs more (λ j lj. omega (arith, lefts (suc j) (omega arith))) (λ j lj. omega (arith, rights (suc j) (omega arith))) k (omega arith)

-- the nodes' bits for a vector and a state
abbrev pub node_bits : Graph → List Bool → List Bool → List Bool
node_bits g state vector = with_ands g.ands (false ∷ (vector ++ state))

module _ (g : Graph) (state vector : List Bool) (sized : length state ≡ length g.latches) (wide : length vector ≡ g.inputs) where
  length_base : length (false ∷ (vector ++ state)) ≡ first_and g
  length_base = omega (arith, length-append vector state, sized, wide)

  pub bits_valued : IsGraph g → IsValued g (bit_of (node_bits g state vector))
  bits_valued is = record {
    zero = ands_keep g.ands (false ∷ (vector ++ state)) 0 (omega arith);
    ands = λ k lk. ap (λ n. bit_of (node_bits g state vector) (n + k)) (sym length_base)
        ∙ and_is g.ands (false ∷ (vector ++ state)) (λ j lj. omega (arith, is.lefts j lj, length_base)) (λ j lj. omega (arith, is.rights j lj, length_base)) k lk;
  }

  pub input_bit : (k : ℕ) → k < length vector → bit_of (node_bits g state vector) (1 + k) ≡ get_or vector k false
  input_bit k lk =
      let at : 1 + k ≡ suc k = omega arith in
      ap (bit_of (node_bits g state vector)) at
      ∙ ands_keep g.ands (false ∷ (vector ++ state)) (suc k) (omega (arith, length-append vector state))
      ∙ get_or_append_left vector state false k lk

  pub latch_bit : (k : ℕ) → k < length state → bit_of (node_bits g state vector) (first_latch g + k) ≡ get_or state k false
  latch_bit k lk =
      let at : first_latch g + k ≡ suc (length vector + k) = omega (arith, wide) in
      ap (bit_of (node_bits g state vector)) at
      ∙ ands_keep g.ands (false ∷ (vector ++ state)) (suc (length vector + k)) (omega (arith, length-append vector state))
      ∙ get_or-append-add vector state k false
