use Rattle.rig_port.proofs.Vocabulary.{◌∙◌, ap, fresh_check, after, counts_body, counts_line, attach_body}
use Rattle.rig_port.proofs.question.put_question.Goals as goal

pub returns-clause-expected : goal.returns-clause-expected
returns-clause-expected c =
    let n = c.args.number in
    let asked = c.put_check-asked.ensures.behind ∙ ap (λ k. after k c.reserve.new.self.items) c.new.ensures
    ∙ ap (after fresh_check) (c.reserve.ensures.items ∙ c.in_ok-put_attach.ensures) in
    c.reserve-2.ensures.items ∙ c.in_ok-now.ensures.spelled ∙ ap (λ k. counts_line k n c.counts.result) asked
    ∙ ap (counts_line (after fresh_check (attach_body n)) n) c.counts.ensures

pub returns-clause-behind : goal.returns-clause-behind
returns-clause-behind c =
    let n = c.args.number in
    let asked = c.put_check-asked.ensures.behind ∙ ap (λ k. after k c.reserve.new.self.items) c.new.ensures
    ∙ ap (after fresh_check) (c.reserve.ensures.items ∙ c.in_ok-put_attach.ensures) in
    c.in_ok-now.ensures.behind ∙ ap (λ k. after k (counts_body n c.counts.result)) asked
    ∙ ap (λ m. after (after fresh_check (attach_body n)) (counts_body n m)) c.counts.ensures
