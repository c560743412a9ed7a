use Rattle.std.proofs.Common.{◌≡◌, ◌+◌, ◌-◌, ◌/◌, ◌^◌, ◌<◌, ℕ, Bool, true, List, [], length, drop, slice_index, sym, ap, subst, ◌∙◌, arith}
use Rattle.map_network.proofs.Vocabulary.{get_or-map, length-map, length-drop, drop_all, cell_at, number_of, masks_at}
use Rattle.map_network.proofs.CellLemmas.{number_fits}
use Rattle.map_network.proofs.ComposeLemmas.{sizes_are, size_within, half_size, part_kept, with_ones}
use Rattle.map_network.proofs.composing.compose_cells.Goals as goal

bits_len : (masks : List ℕ) (a : ℕ) → length (masks_at masks a) ≡ length masks
bits_len masks a = length-map masks (λ m. cell_at m a)

pub pins-init : goal.pins-init
pins-init c =
    let n : ℕ = length c.args.masks.now in
    let sizes = sizes_are n 0 c.requires in
    let none : n ≡ n - 0 = omega arith in (
      sizes ∙ ap (λ m. 2 ^ m) none,
      λ a la.
          (let bits : List Bool = masks_at c.args.masks.now a in
          let fits : number_of bits < 2 ^ n = subst (λ m. number_of bits < 2 ^ m) (bits_len c.args.masks.now a) (number_fits bits) in
          c.put_cells.ensures (number_of bits) a (subst (λ s. number_of bits < s) (sym sizes) fits) la
          ∙ ap (λ s. cell_at c.args.cells (64 - s + number_of bits)) sizes),
    )

pub halve-requires : goal.halve-requires
halve-requires c = omega (arith, c.pins.invariant.0, size_within (length c.args.masks.now - c.pins.k) (omega (arith, c.requires)))

pub pins-preserved : goal.pins-preserved
pins-preserved c =
    let n : ℕ = length c.args.masks.now in
    let k : ℕ = c.pins.k in
    let half : c.pins.size / 2 ≡ 2 ^ (n - (k + 1)) = omega (arith, half_size n k c.pins.size c.pins-test.true c.pins.invariant.0) in (
      half,
      λ a la.
          (let bits : List Bool = masks_at c.args.masks.now a in
          let len : length bits ≡ n = bits_len c.args.masks.now a in
          let rest : ℕ = number_of (drop (k + 1) bits) in
          let left : length (drop (k + 1) bits) ≡ n - (k + 1) = length-drop (k + 1) bits ∙ ap (λ m. m - (k + 1)) len in
          let below : rest < c.pins.size / 2 = subst (λ s. rest < s) (ap (λ m. 2 ^ m) left ∙ sym half) (number_fits (drop (k + 1) bits)) in
          c.halve.ensures rest a below la
          ∙ part_kept bits k (λ j. cell_at (slice_index c.pins.parts j) a) (cell_at (slice_index c.args.masks.now k) a) (cell_at c.args.cells (64 - 2 ^ n + number_of bits)) (omega (arith, len, c.pins-test.true))
          (sym (get_or-map (λ m. cell_at m a) c.args.masks.now k 0 true c.pins-test.true))
          (c.pins.invariant.1 a la)),
    )

pub returns : goal.returns
returns c = λ a la.
    let bits : List Bool = masks_at c.args.masks.now a in
    let len : length bits ≡ length c.args.masks.now = bits_len c.args.masks.now a in
    let none : drop c.pins.k bits ≡ [] = drop_all c.pins.k bits (omega (arith, len, c.pins-test.false)) in
    ap (λ bs. cell_at (slice_index c.pins.parts (number_of bs)) a) (sym none)
    ∙ c.pins.invariant.1 a la
    ∙ ap (λ m. cell_at c.args.cells (64 - 2 ^ m + number_of bits)) (sym len)
    ∙ ap (cell_at c.args.cells) (with_ones bits (omega (arith, len, c.requires)))
