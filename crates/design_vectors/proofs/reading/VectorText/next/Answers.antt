use Rattle.design_vectors.proofs.Vocabulary.{◌≡◌, true, ◌∙◌, length, subst, err_from_is_err_and, PartLine, bits_of, vector_size}
use Rattle.design_vectors.proofs.Vocabulary.{VectorReading, NextGives, NextFails, reading_of, LineGives, LineFails}
use Rattle.design_vectors.proofs.ReadLemmas.{next-gives, next-fails}
use Rattle.design_vectors.proofs.reading.VectorText.next.Goals as goal
use Rattle.design_vectors.proofs.reading.VectorText.next.Goals.{then-more, else-more}

pub returns-in_err-more-clause-refused : goal.returns-in_err-more-clause-refused
returns-in_err-more-clause-refused g c =
    let state = g.S.Store.store_state in
    let p = err_from_is_err_and c.from_residual.result c.from_residual.ensures.1 in
    let fails = subst (λ (l : PartLine). LineFails c.in_err-more.field-0.0 l c.self.inside.feed (state c.args.store.now)
    (state c.read_vector.new.store)) c.begin.ensures c.in_err-more.ensures.answered.refused in
    rw (p.1, p.2) (subst (λ (r : VectorReading). NextFails c.in_err-more.field-0.0 r (state c.args.store.now)
    (state c.read_vector.new.store)) c.self.view_is
    (next-fails c.in_err-more.field-0.0 c.self.inside.line c.self.inside.feed (state c.args.store.now)
    (state c.read_vector.new.store) fails))

pub returns-clause-gives : goal.returns-clause-gives
returns-clause-gives g c =
    let state = g.S.Store.store_state in
    let new = c.read_vector.new.line in
    let gives = subst (λ (l : PartLine). LineGives c.in_ok-more.more l c.self.inside.feed new c.read_vector.new.feed
    (state c.args.store.now) (state c.read_vector.new.store)) c.begin.ensures c.in_ok-more.ensures.answered.gives in
    let spelled : c.in_ok-more.more ≡ true → length new.shown ≡ vector_size new.width → c.if-more.row ≡ bits_of new.width new.shown =
    elim c.if-more.branch [
      | then-more w ↦ (λ _ full. w.row-is ∙ w.put.ensures full)
      | else-more w ↦
          (λ yes _. absurd (let no = w.if-more.false in cc))
    ] in
    subst (λ (r : VectorReading). NextGives c.in_ok-more.more c.if-more.row r (reading_of new c.read_vector.new.feed)
    (state c.args.store.now) (state c.read_vector.new.store)) c.self.view_is
    (next-gives c.in_ok-more.more c.if-more.row c.self.inside.line new c.self.inside.feed c.read_vector.new.feed
    (state c.args.store.now) (state c.read_vector.new.store) gives spelled)
