use Rattle.design_vectors.proofs.Vocabulary.{◌≡◌, ◌∙◌, length, subst, bits_of, vector_size, VectorReading, GivesUnread, reading_of}
use Rattle.design_vectors.proofs.ReadLemmas.{gives-unread}
use Rattle.design_vectors.proofs.reading.VectorText.next_unread.Goals as goal
use Rattle.design_vectors.proofs.reading.VectorText.next_unread.Goals.{then-more, else-more}

pub returns-clause-vector : goal.returns-clause-vector
returns-clause-vector c = λ yes.
    let r = c.read_here-more.ensures in
    let new = c.read_here-more.new.line in
    let spelled : length new.shown ≡ vector_size new.width → c.if-more.row ≡ bits_of new.width new.shown =
    elim c.if-more.branch [
      | then-more w ↦ (λ full. w.row-is ∙ w.put.ensures full)
      | else-more w ↦
          (λ _. absurd (let unset = w.if-more.false in cc))
    ] in
    subst (λ (r : VectorReading). GivesUnread c.if-more.row r (reading_of new c.read_here-more.new.feed)) c.self.view_is
    (gives-unread c.if-more.row c.self.inside.line new c.self.inside.feed c.read_here-more.new.feed r.room (r.vector yes) spelled)

pub returns-clause-kept : goal.returns-clause-kept
returns-clause-kept c = λ none. (
  c.read_here-more.ensures.kept none ∙ c.self.view_is,
  elim c.if-more.branch [
    | then-more w ↦
        absurd (let set = w.if-more.true in cc)
    | else-more w ↦ w.row-is
  ],
)
