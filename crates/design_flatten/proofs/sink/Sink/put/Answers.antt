use Rattle.design_flatten.proofs.Vocabulary.{arith, err_from_is_err_and, placed_line}
use Rattle.design_flatten.proofs.SinkLemmas.{put_is, over_memory}
use Rattle.design_flatten.proofs.sink.Sink.put.Goals as goal

pub returns-in_err-put_drive-clause-refused : goal.returns-in_err-put_drive-clause-refused
returns-in_err-put_drive-clause-refused c =
    let p = err_from_is_err_and c.from_residual-in_err-put_drive.result c.from_residual-in_err-put_drive.ensures.1 in
    rw (p.1, p.2) (over_memory c.in_err-put_drive.field-0.0 c.args.self.now (placed_line c.args.line) c.in_err-put_drive.ensures.refused)

pub returns-in_err-put-clause-refused : goal.returns-in_err-put-clause-refused
returns-in_err-put-clause-refused c =
    let p = err_from_is_err_and c.from_residual-in_err-put.result c.from_residual-in_err-put.ensures.1 in
    rw (p.1, p.2) (over_memory c.in_err-put.field-0.0 c.args.self.now (placed_line c.args.line) c.in_err-put.ensures.refused)

pub returns-clause-ok : goal.returns-clause-ok
returns-clause-ok c =
    put_is c.args.self.now _ c.args.line c.in-Some.size c.in_ok-add_words.ensures.ok c.in-Some.ensures.0 (let le = c.in-Some.ensures.1 in omega arith)
    c.in_ok-put_drive.ensures.more c.in_ok-put.ensures.ok (λ none. (c.in_ok-put_drive.ensures.stays none, c.in_ok-hold.ensures none))
