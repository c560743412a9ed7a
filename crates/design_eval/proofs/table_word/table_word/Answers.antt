use Rattle.std.proofs.Common.{◌≡◌, ℕ, ◌+◌, ◌-◌, ◌/◌, ◌<◌, ◌≤◌, Bool, false, List, [], length, take, drop, get_or, arith, ap, subst, sym, ◌∙◌}
use Rattle.std.proofs.lemmas.List.{length-take-le, length-drop, get_or-take, drop_all}
use Rattle.design_eval.proofs.Vocabulary.{number_at, bit_at, is_bit, lane_bits, addresses, address, lane-at}
use Rattle.design_eval.proofs.TableLemmas.{address-nil, address-below}
use Rattle.design_eval.proofs.TableWordLemmas.{few-addresses, half-addresses, part-kept}
use Rattle.design_eval.proofs.table_word.table_word.Goals as goal

pub put_cells-requires : goal.put_cells-requires
put_cells-requires c = subst (λ (n : ℕ). n ≤ 64) (sym c.size_of-size.ensures) (few-addresses c.args.count c.requires.count)

pub inputs-init : goal.inputs-init
inputs-init c =
    let ss : List ℕ = take c.args.count c.args.table.now.wires in
    let size : length ss ≡ c.args.count = length-take-le c.args.count c.args.table.now.wires (omega (arith, c.requires.count, c.requires.wires)) in (
      c.size_of-size.ensures ∙ ap addresses (omega arith),
      λ j lj.
          (let given : ℕ → Bool = bit_at (lane_bits c.args.words.now j) in
          c.put_cells.ensures (address given ss) j
          (subst (λ (n : ℕ). address given ss < n) (ap addresses size ∙ sym c.size_of-size.ensures) (address-below given ss)) lj),
    )

pub halve-requires : goal.halve-requires
halve-requires c = omega (arith, c.inputs.invariant.0, few-addresses (c.args.count - c.inputs.k) (omega (arith, c.requires.count)))

pub inputs-preserved : goal.inputs-preserved
inputs-preserved c =
    let ss : List ℕ = take c.args.count c.args.table.now.wires in
    let k : ℕ = c.inputs.k in
    let size : length ss ≡ c.args.count = length-take-le c.args.count c.args.table.now.wires (omega (arith, c.requires.count, c.requires.wires)) in
    let half : c.inputs.size / 2 ≡ addresses (c.args.count - (k + 1)) = omega (arith, half-addresses c.args.count k c.inputs.size c.inputs-test.true c.inputs.invariant.0) in (
      half,
      λ j lj.
          (let given : ℕ → Bool = bit_at (lane_bits c.args.words.now j) in
          let rest : ℕ = address given (drop (k + 1) ss) in
          let left : length (drop (k + 1) ss) ≡ c.args.count - (k + 1) = length-drop (k + 1) ss ∙ ap (λ (n : ℕ). n - (k + 1)) size in
          let below : rest < c.inputs.size / 2 = subst (λ (n : ℕ). rest < n) (ap addresses left ∙ sym half) (address-below given (drop (k + 1) ss)) in
          c.halve.ensures rest j below lj ∙
          part-kept given ss k (λ (a : ℕ). is_bit (number_at c.inputs.parts a) j) (is_bit (number_at c.args.words.now (number_at c.args.table.now.wires k)) j)
          (get_or c.args.table.now.cells (address given ss) false) (omega (arith, size, c.inputs-test.true))
          (sym (lane-at c.args.words.now j (number_at c.args.table.now.wires k)) ∙ ap given (sym (get_or-take c.args.count c.args.table.now.wires k 0 c.inputs-test.true)))
          (c.inputs.invariant.1 j lj)),
    )

pub returns : goal.returns
returns c =
    let ss : List ℕ = take c.args.count c.args.table.now.wires in
    let size : length ss ≡ c.args.count = length-take-le c.args.count c.args.table.now.wires (omega (arith, c.requires.count, c.requires.wires)) in
    let none : drop c.inputs.k ss ≡ [] = drop_all c.inputs.k ss (omega (arith, size, c.inputs-test.false)) in
    λ j lj.
    (let given : ℕ → Bool = bit_at (lane_bits c.args.words.now j) in
    ap (λ (a : ℕ). is_bit (number_at c.inputs.parts a) j) (sym (ap (address given) none ∙ address-nil given)) ∙ c.inputs.invariant.1 j lj)
