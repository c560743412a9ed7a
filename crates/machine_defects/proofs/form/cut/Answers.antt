use Rattle.machine_defects.proofs.Vocabulary.{◌≤◌, ◌∙◌, ◌+◌, ◌++◌, ◌∷◌, take, length, ap, sym, subst, take_rest}
use Rattle.machine_defects.proofs.Splits.{found_at, not_found}
use Rattle.machine_defects.proofs.form.cut.Goals as goal

pub returns-then-place-bytes-clause-some : goal.returns-then-place-bytes-clause-some
returns-then-place-bytes-clause-some c =
    let h = found_at c.args.byte c.args.bytes.now c.place_of-place.result (sym c.place_of-place.ensures.place) c.if-place-bytes.true in
    (h.0 ∙ ap (λ bs. take c.place_of-place.result c.args.bytes.now ++ c.args.byte ∷ bs) (sym (take_rest c.args.bytes.now (c.place_of-place.result + 1))), h.1)

pub returns-else-place-bytes-clause-none : goal.returns-else-place-bytes-clause-none
returns-else-place-bytes-clause-none c = λ before after. not_found c.args.byte c.args.bytes.now before after (subst (λ n. length c.args.bytes.now ≤ n) c.place_of-place.ensures.place c.if-place-bytes.false)
