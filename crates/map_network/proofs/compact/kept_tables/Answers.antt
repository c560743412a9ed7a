use Rattle.map_network.proofs.Vocabulary.{◌≡◌, ◌<◌, ◌+◌, ◌∙◌, ◌++◌, ◌∷◌, [], ap, sym, drop, length, subst, arith, get_or_default}
use Rattle.map_network.proofs.Vocabulary.{append_assoc, NetTable, no_table, AreSourcesIn, in_tables, kept_tables, named_by, renamed_table}
use Rattle.map_network.proofs.CompactLemmas.{kept_skip, kept_more}
use Rattle.map_network.proofs.compact.kept_tables.Goals as goal

pub renamed_table-requires : goal.renamed_table-requires
renamed_table-requires c =
    let at : c.index-tables-j.result ≡ in_tables c.args.tables.now c.tables.j = c.index-tables-j.is ∙ get_or_default c.args.tables.now c.tables.j c.index-tables-j.result no_table c.tables-test.true in
    subst (λ (t : NetTable). AreSourcesIn (length c.args.ranks.now) t.ins) (sym at) (c.requires.sources c.tables.j c.tables-test.true)

pub tables-preserved-then-dropped-j : goal.tables-preserved-then-dropped-j
tables-preserved-then-dropped-j c =
    let l : c.tables.j < length c.args.dropped.now = omega (arith, c.requires.len, c.tables-test.true) in
    ap (λ ts. c.tables.kept.items ++ ts) (sym (kept_skip (named_by c.args.ranks.now) c.args.dropped.now c.args.tables.now c.tables.j l c.tables-test.true c.if-dropped-j.true)) ∙ c.tables.invariant

pub tables-preserved : goal.tables-preserved
tables-preserved c =
    let l : c.tables.j < length c.args.dropped.now = omega (arith, c.requires.len, c.tables-test.true) in
    let at : c.index-tables-j.result ≡ in_tables c.args.tables.now c.tables.j = c.index-tables-j.is ∙ get_or_default c.args.tables.now c.tables.j c.index-tables-j.result no_table c.tables-test.true in
    let rest = kept_tables (named_by c.args.ranks.now) (drop (c.tables.j + 1) c.args.dropped.now) (drop (c.tables.j + 1) c.args.tables.now) in
    ap (λ ks. ks ++ rest) c.in_ok-push.ensures.items
    ∙ append_assoc c.tables.kept.items (c.renamed_table.result ∷ []) rest
    ∙ ap (λ t. c.tables.kept.items ++ t ∷ rest) (c.renamed_table.ensures ∙ ap (renamed_table (named_by c.args.ranks.now)) at)
    ∙ ap (λ ts. c.tables.kept.items ++ ts) (sym (kept_more (named_by c.args.ranks.now) c.args.dropped.now c.args.tables.now c.tables.j l c.tables-test.true c.if-dropped-j.false))
    ∙ c.tables.invariant
