use Rattle.map_network.proofs.Vocabulary.{◌<◌, sym, subst, length, get_or_default, AreBelow}
use Rattle.map_network.proofs.CoverLemmas.{distinct_all}
use Rattle.map_network.proofs.covers.push_narrow.Goals as goal

pub sources_of-requires-clause-within : goal.sources_of-requires-clause-within
sources_of-requires-clause-within c =
    subst (λ xs. AreBelow (length c.args.sources.now) xs) (sym c.requires.names) (λ k lk. distinct_all (λ s. s < length c.args.sources.now) c.args.cover.now.ins (λ j d lj. subst (λ x. x < length c.args.sources.now) (get_or_default c.args.cover.now.ins j 0 d lj) (c.requires.made.ins j lj)) k 0 lk)
