use Rattle.rig_simulated.proofs.Vocabulary.{◌<◌, ◌∙◌, ℕ, ap, subst, get_or_default, Reader}
use Rattle.rig_simulated.proofs.Reading.{reader_found}
use Rattle.rig_simulated.proofs.readers.add_readers.Goals as goal

pub returns-then-reader-class-clause-marked : goal.returns-then-reader-class-clause-marked
returns-then-reader-class-clause-marked c =
    reader_found c.args.readers.now.list.items c.args.class _ c.readers.i c.readers.queue.marks.items c.requires.sorted c.requires.start c.readers.invariant.marked
    (λ d h. subst (λ (n : ℕ). c.args.class < n) (ap (λ (x : Reader). x.class) (c.index-reader.ensures ∙ get_or_default c.args.readers.now.list.items c.readers.i _ d h)) c.if-reader-class.true)
