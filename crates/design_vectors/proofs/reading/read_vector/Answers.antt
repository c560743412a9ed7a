use Rattle.design_vectors.proofs.Vocabulary.{Bool, Result, subst, sym, ◌∙◌, ap, err_from_is_err_and, IsRefilled, HasAnswered, answer_of}
use Rattle.design_vectors.specs.declared.vectors.VectorsFail.{VectorsFail}
use Rattle.design_vectors.proofs.ReadLemmas.{goes-start, goes-on, answers-read, answers-end, answers-failed}
use Rattle.design_vectors.proofs.reading.read_vector.Goals as goal

pub pieces-init : goal.pieces-init
pieces-init g c = goes-start _ _ (g.S.Store.store_state c.args.store.now) c.requires.current

pub pieces-preserved : goal.pieces-preserved
pieces-preserved g c =
    let state = g.S.Store.store_state in
    let e = c.in_ok-refill.ensures in
    let r = subst (λ (more : Bool). IsRefilled more c.pieces.feed c.refill.new.feed (state c.pieces.store)
    (state c.refill.new.store)) c.if-not-branch.false e.gives in
    goes-on c.args.line.now c.pieces.line c.args.feed.now c.pieces.feed c.refill.new.feed (state c.args.store.now)
    (state c.pieces.store)
    (state c.refill.new.store) c.pieces.invariant e.contents e.asked e.later c.read_unread.new.line c.read_unread.new.feed
    c.number-number.ensures.sound e.room r c.in-Onward.ensures.read

pub returns-in_default-clause-answered : goal.returns-in_default-clause-answered
returns-in_default-clause-answered g c =
    let state = g.S.Store.store_state in
    let e = c.in_ok-refill.ensures in
    let r = subst (λ (more : Bool). IsRefilled more c.pieces.feed c.refill.new.feed (state c.pieces.store)
    (state c.refill.new.store)) c.if-not-branch.false e.gives in
    let is = c.answer-in_default.ensures ∙ ap (answer_of c.read_unread.result) c.number.ensures.value in
    subst (λ (r : Result Bool VectorsFail). HasAnswered r c.args.line.now c.args.feed.now c.read_unread.new.line c.read_unread.new.feed
    (state c.args.store.now) (state c.refill.new.store)) (sym is)
    (answers-read c.args.line.now c.pieces.line c.args.feed.now c.pieces.feed c.refill.new.feed (state c.args.store.now)
    (state c.pieces.store)
    (state c.refill.new.store) c.pieces.invariant e.contents e.asked e.later c.read_unread.result c.read_unread.new.line
    c.read_unread.new.feed c.number-number.ensures.sound e.room c.in_default.not-Onward r c.read_unread.ensures.read)

pub returns-in_err-refill-clause-answered : goal.returns-in_err-refill-clause-answered
returns-in_err-refill-clause-answered g c =
    let state = g.S.Store.store_state in
    let e = c.in_err-refill.ensures in
    let p = err_from_is_err_and c.from_residual.result c.from_residual.ensures.1 in
    rw (p.1, p.2) (answers-failed c.args.line.now c.pieces.line c.args.feed.now c.pieces.feed c.refill.new.feed (state c.args.store.now)
    (state c.pieces.store)
    (state c.refill.new.store) c.pieces.invariant e.contents e.asked e.later c.in_err-refill.field-0.0
    c.number-number.ensures.sound e.late e.refused)

pub returns-then-not-branch-clause-answered : goal.returns-then-not-branch-clause-answered
returns-then-not-branch-clause-answered g c =
    let state = g.S.Store.store_state in
    let e = c.in_ok-refill.ensures in
    let r = subst (λ (more : Bool). IsRefilled more c.pieces.feed c.refill.new.feed (state c.pieces.store)
    (state c.refill.new.store)) c.if-not-branch.true e.gives in
    let is = c.answer.ensures ∙ ap (answer_of c.end.result) c.number-number.ensures.value in
    subst (λ (r : Result Bool VectorsFail). HasAnswered r c.args.line.now c.args.feed.now c.pieces.line c.refill.new.feed
    (state c.args.store.now) (state c.refill.new.store)) (sym is)
    (answers-end c.args.line.now c.pieces.line c.args.feed.now c.pieces.feed c.refill.new.feed (state c.args.store.now)
    (state c.pieces.store)
    (state c.refill.new.store) c.pieces.invariant e.contents e.asked e.later c.end.result c.number-number.ensures.sound e.room r
    c.end.ensures.ends c.end.ensures.says)
