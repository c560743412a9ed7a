use Rattle.std.proofs.Common.{◌≡◌, ◌<◌, ◌≤◌, ℕ, false, length, get_or, sym, ap, ◌∙◌, subst, arith}
use Rattle.place_repair.proofs.Vocabulary.{false≢true, get_or_read, wires_of, HasWire, IsEnd}
use Rattle.place_repair.proofs.Hanging.{number_has}
use Rattle.place_repair.proofs.nets.net_of.Goals as goal

pub index-number-requires : goal.index-number-requires
index-number-requires c =
    let n = c.args.nets.now in
    let w : ℕ = c.args.wire.0 in
    let lt : w < length n.lows.items = subst (λ z. w < z) (sym c.requires.nets.lows_are.sized) c.requires.within in
    let low : c.index-low.result.now ≡ get_or n.lows.items w 0 = get_or_read n.lows.items _ _ lt c.index-low.ensures 0 in
    let le : get_or n.lows.items w 0 ≤ w = c.requires.nets.lows_are.low w c.requires.within in
    let sized : length n.numbers.items ≡ wires_of c.args.config.now.config.shape = c.requires.nets.numbered in
    let within : w < wires_of c.args.config.now.config.shape = c.requires.within in
    omega (arith, low, le, sized, within)

pub returns-then-not-is_end-clause-none : goal.returns-then-not-is_end-clause-none
returns-then-not-is_end-clause-none c =
    let n = c.args.nets.now in
    let w : ℕ = c.args.wire.0 in
    let lt : w < length n.touched.items = subst (λ z. w < z) (sym c.requires.nets.touched_are.sized) c.requires.within in
    let mark : c.index-is_end.result.now ≡ get_or n.touched.items w false = get_or_read n.touched.items _ _ lt c.index-is_end.ensures false in
    λ end. false≢true (sym c.if-not-is_end.true ∙ mark ∙ c.requires.nets.touched_are.each w end)

pub returns-clause-some : goal.returns-clause-some
returns-clause-some c =
    let g = c.args.config.now.config in
    let n = c.args.nets.now in
    let w : ℕ = c.args.wire.0 in
    let touched : w < length n.touched.items = subst (λ z. w < z) (sym c.requires.nets.touched_are.sized) c.requires.within in
    let mark : c.index-is_end.result.now ≡ get_or n.touched.items w false = get_or_read n.touched.items _ _ touched c.index-is_end.ensures false in
    let end : IsEnd g w = c.requires.nets.touched_are.only w (sym mark ∙ c.if-not-is_end.false) in
    let lt : w < length n.lows.items = subst (λ z. w < z) (sym c.requires.nets.lows_are.sized) c.requires.within in
    let low : c.index-low.result.now ≡ get_or n.lows.items w 0 = get_or_read n.lows.items _ _ lt c.index-low.ensures 0 in
    let le : get_or n.lows.items w 0 ≤ w = c.requires.nets.lows_are.low w c.requires.within in
    let sized : length n.numbers.items ≡ wires_of g.shape = c.requires.nets.numbered in
    let within : w < wires_of g.shape = c.requires.within in
    let place : c.index-low.result.now < length n.numbers.items = omega (arith, low, le, sized, within) in
    let number : c.index-number.result.now ≡ get_or n.numbers.items c.index-low.result.now 0 = get_or_read n.numbers.items _ _ place c.index-number.ensures 0 in
    subst (λ k. HasWire g n.lowest k w) (sym (number ∙ ap (λ l. get_or n.numbers.items l 0) low)) (number_has g (c.the_numbering_is_sound.ensures.numbered g.shape) c.shape-shape.ensures.right n c.requires.nets w end)
