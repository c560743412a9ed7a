use Rattle.design_vectors.proofs.Vocabulary.{ℕ, List, length, ap, subst, ◌∙◌, HasRead}
use Rattle.design_vectors.proofs.StepLemmas.{read-on}
use Rattle.design_vectors.proofs.reading.read_unread.Goals as goal

pub returns-clause-read : goal.returns-clause-read
returns-clause-read c =
    let bytes = c.unread.ensures.bytes in
    read-on _ _ _ _ _ _ (subst (λ (bytes : List ℕ). HasRead c.read-count.result.1 bytes c.read-count.result.0 c.args.line.now c.read-count.new.self) bytes c.read-count.ensures.read) (λ e. c.read-count.ensures.all e ∙ ap length bytes) c.skip.ensures.bytes
