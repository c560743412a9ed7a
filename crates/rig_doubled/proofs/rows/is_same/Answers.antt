use Rattle.rig_doubled.proofs.Vocabulary.{◌≡◌, ◌∙◌, true, sym, subst, beq}
use lib.Pointwise.{pointwise}
use Rattle.rig_doubled.proofs.Sameness.{same_bits, bits_same}
use Rattle.rig_doubled.proofs.rows.is_same.Goals as goal

pub returns : goal.returns
returns c =
    let row = c.as_slice.result.now in
    let other = c.as_slice-2.result.now in (
      λ yes. sym c.as_slice.ensures ∙ same_bits row other (sym c.eq.ensures ∙ yes) ∙ c.as_slice-2.ensures,
      λ same. c.eq.ensures ∙ subst (λ xs. pointwise beq row xs ≡ true) (c.as_slice.ensures ∙ same ∙ sym c.as_slice-2.ensures) (bits_same row),
    )
