use Rattle.map_network.proofs.Vocabulary.{◌≤◌, ◌∙◌, ap, sym, length, subst, arith, get_or_default, drop_all, NetTable}
use Rattle.map_network.specs.Vocabulary.{no_table, AreSourcesIn, all_readers, noted, noted_tables}
use Rattle.map_network.proofs.readers.readers_of.Goals as goal

pub note-requires : goal.note-requires
note-requires c =
    subst (λ m. AreSourcesIn m c.as_slice.result.now) (sym c.tables.invariant.1) (subst (λ ss. AreSourcesIn (length c.args.tables.now) ss) (sym (c.as_slice.ensures.sources ∙ ap (λ (t : NetTable). t.ins) (get_or_default c.args.tables.now c.tables.j c.index-tables-j.result no_table c.tables-test.true))) (c.requires.tables c.tables.j c.tables-test.true))

pub returns : goal.returns
unfolding all_readers
returns c =
    let le : length c.args.tables.now ≤ c.tables.j = omega (arith, c.tables-test.false) in
    c.note-2.ensures.noted
    ∙ ap (noted (length c.args.tables.now) c.args.outputs.now) (ap (λ ts. noted_tables c.tables.j ts c.tables.readers.items) (sym (drop_all c.tables.j c.args.tables.now le)) ∙ c.tables.invariant.0)
