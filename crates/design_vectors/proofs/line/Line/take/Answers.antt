use Rattle.std.proofs.Common.{ℕ, ◌+◌, [], ◌∷◌, refl, sym, subst, ◌∙◌, inl, inr, true}
use Rattle.design_vectors.proofs.Vocabulary.{ne_eqb, Onward, Fault, Limit, PartLine, HasRead, part_line}
use Rattle.design_vectors.proofs.{InsideLemmas.IsSound-of, LineLemmas.on-limit, LineLemmas.on-passed, LineLemmas.on-mark}
use Rattle.design_vectors.proofs.line.Line.take.Goals as goal
use Rattle.design_vectors.proofs.line.Line.take.Goals.{then-self-2-via-then-self-2, then-self-2-via-else-self-2+then-is_blank}

pub returns-then-self : goal.returns-then-self
returns-then-self c = subst (λ (p : PartLine). HasRead (Fault Limit) (c.args.byte ∷ []) 1 p p) c.self.view_is (on-limit (part_line c.self.inside) c.args.byte (IsSound-of c.self.inside c.self.invariant) c.if-self.true)

pub returns-then-self-2 : goal.returns-then-self-2
returns-then-self-2 c = subst (λ (p : PartLine). HasRead Onward (c.args.byte ∷ []) 1 p (record (part_line c.self.inside) { at = c.self.inside.at + 1 })) c.self.view_is
    (on-passed (part_line c.self.inside) (record (part_line c.self.inside) { at = c.self.inside.at + 1 }) c.args.byte (IsSound-of c.self.inside c.self.invariant) c.if-self.false (ne_eqb c.args.byte 10 c.if-byte-eq10.false)
    (elim c.then-self-2.branch [ then-self-2-via-then-self-2 w ↦ inl w.if-self-2.true | then-self-2-via-else-self-2+then-is_blank w ↦ inr (w.if-self-2.false, sym w.is_blank.ensures ∙ w.if-is_blank.true) ]) refl)

pub returns-then-byte-eq35 : goal.returns-then-byte-eq35
returns-then-byte-eq35 c = subst (λ (b : ℕ). HasRead Onward (b ∷ []) 1 c.args.self.now (record (part_line c.self.inside) { at = c.self.inside.at + 1; in_comment = true })) (sym c.if-byte-eq35.true)
    (subst (λ (p : PartLine). HasRead Onward (35 ∷ []) 1 p (record (part_line c.self.inside) { at = c.self.inside.at + 1; in_comment = true })) c.self.view_is
    (on-mark (part_line c.self.inside) (record (part_line c.self.inside) { at = c.self.inside.at + 1; in_comment = true }) (IsSound-of c.self.inside c.self.invariant) c.if-self.false c.if-self-2.false refl))
