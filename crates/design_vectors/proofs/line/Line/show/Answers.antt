use Rattle.std.proofs.Common.{◌≡◌, ℕ, ◌+◌, ◌<◌, List, [], ◌∷◌, ◌++◌, length, take, ap, sym, subst, ◌∙◌, arith, true, false, slice_set}
use Rattle.design_vectors.proofs.Vocabulary.{length-take-le, take_more_set, is_vector_byte, vector_size, PartLine, part_line}
use Rattle.design_vectors.proofs.{InsideLemmas.IsSound-inside, LineLemmas.on-byte, LineLemmas.on-wrong, LineLemmas.on-extra}
use Rattle.design_vectors.proofs.line.Line.show.Goals as goal

pub returns-then-not-is_vector_byte : goal.returns-then-not-is_vector_byte
returns-then-not-is_vector_byte c =
    on-wrong _ _ (IsSound-inside _ _ c.self.invariant c.self.view_is) c.requires.limit c.requires.feed c.requires.mark c.requires.blank c.requires.comment
    (subst (λ (p : PartLine). is_vector_byte p.width c.args.byte ≡ false) c.self.view_is (sym c.is_vector_byte.ensures ∙ c.if-not-is_vector_byte.true))

pub returns-then-self-len : goal.returns-then-self-len
returns-then-self-len c =
    on-extra _ _ (IsSound-inside _ _ c.self.invariant c.self.view_is) c.requires.limit c.requires.feed c.requires.mark c.requires.blank c.requires.comment
    (subst (λ (p : PartLine). is_vector_byte p.width c.args.byte ≡ true) c.self.view_is (sym c.is_vector_byte.ensures ∙ c.if-not-is_vector_byte.false))
    (let full : length (take c.self.inside.count c.self.inside.bytes.items) ≡ vector_size c.self.inside.width = omega (arith, length-take-le c.self.inside.count c.self.inside.bytes.items c.self.invariant.count, c.self.invariant.size) in
    subst (λ (p : PartLine). length p.shown ≡ vector_size p.width) c.self.view_is full)

pub returns : goal.returns
returns c =
    on-byte _ _ _ (IsSound-inside _ _ c.self.invariant c.self.view_is) c.requires.limit c.requires.feed c.requires.comment
    (let within : c.self.inside.count < length c.self.inside.bytes.items = omega (arith, c.self.invariant.count) in
    subst (λ (p : PartLine). record (part_line c.self.inside) { at = c.self.inside.at + 1; shown = take (c.self.inside.count + 1) (slice_set c.self.inside.bytes.items c.self.inside.count c.args.byte) } ≡ record p { at = p.at + 1; shown = p.shown ++ c.args.byte ∷ [] }) c.self.view_is
    (ap (λ (s : List ℕ). record (part_line c.self.inside) { at = c.self.inside.at + 1; shown = s }) (take_more_set c.self.inside.bytes.items c.self.inside.count c.args.byte within)))
