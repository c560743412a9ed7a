use Rattle.std.proofs.Common.{◌≡◌, ◌∙◌, ap, sym, map, false, []}
use Rattle.design_flatten.specs.Vocabulary.{UsePart, is_use, pair_of, part_in, lean_part, is_needed, with_pairs}
use Rattle.design_flatten.proofs.{LeanLemmas.filter-defs, LeanLemmas.lean_plain_part, BodyLemmas.plain_pairs, BodyLemmas.pairs_of}
use Rattle.design_flatten.proofs.bodies.needed_on.Goals as goal

pub returns-in_default : goal.returns-in_default
returns-in_default c =
    let ms = c.args.catalog.now.models.now in
    let none : is_use (part_in c.args.said) ≡ false = c.in_default.ensures in
    plain_pairs (map (λ p. pair_of p.now) c.new.result.items) (part_in c.args.said) none ∙ sym (lean_plain_part ms (part_in c.args.said) none)

pub returns : goal.returns
returns c =
    let ms = c.args.catalog.now.models.now in
    let m = c.in-Some.used.model.now in
    let ps = c.in-Some.used.pairs.now in
    let says : part_in c.args.said ≡ UsePart m (map pair_of ps) [] = c.in-Some.ensures in
    let pairs = pairs_of c.in_ok-needed.needed.items ∙ ap (map pair_of) c.in_ok-needed.ensures ∙ filter-defs (is_needed ms m) ps in
    ap (with_pairs (map (λ p. pair_of p.now) c.in_ok-needed.needed.items)) says
    ∙ ap (λ xs. UsePart m xs []) pairs
    ∙ sym (ap (lean_part ms) says)
