use Rattle.std.proofs.Common.{◌≡◌, ◌<◌, ◌∙◌, sym, ap, map, length, subst, arith, MatchOption}
use Rattle.map_network.proofs.Vocabulary.{false≢true, get_or_default, length-map, Contains, Table, NetTable}
use Rattle.map_network.specs.Vocabulary.{no_table, distinct, is_among, number, numbers_without, in_tables, IsJoined, MayPut}
use Rattle.map_network.proofs.{AddressLemmas.match_map, SourceLemmas.among_of, SourceLemmas.of_among}
use Rattle.map_network.proofs.joining.joined_at.Goals as goal

pub returns-then-not-is_in : goal.returns-then-not-is_in
returns-then-not-is_in c = λ may.
    let l : c.args.reader < length c.args.tables.now = omega arith in
    let at : c.index-tables-reader.result ≡ in_tables c.args.tables.now c.args.reader = c.index-tables-reader.is ∙ get_or_default c.args.tables.now c.args.reader c.index-tables-reader.result no_table l in
    false≢true (sym c.if-not-is_in.true ∙ c.is_in.ensures ∙ ap (λ ss. is_among (map number ss) (number (Table c.args.table))) (c.as_slice.ensures.sources ∙ ap (λ (t : NetTable). t.ins) at) ∙ among_of (in_tables c.args.tables.now c.args.reader).ins (Table c.args.table) may.reads)

pub returns : goal.returns
returns c =
    let lt : c.args.table < length c.args.tables.now = omega arith in
    let lr : c.args.reader < length c.args.tables.now = omega arith in
    let inner : c.index-tables-table.result ≡ in_tables c.args.tables.now c.args.table = c.index-tables-table.is ∙ get_or_default c.args.tables.now c.args.table c.index-tables-table.result no_table lt in
    let outer : c.index-tables-reader.result ≡ in_tables c.args.tables.now c.args.reader = c.index-tables-reader.is ∙ get_or_default c.args.tables.now c.args.reader c.index-tables-reader.result no_table lr in
    let reads : Contains (in_tables c.args.tables.now c.args.reader).ins (Table c.args.table) = of_among (in_tables c.args.tables.now c.args.reader).ins (Table c.args.table) (ap (λ ss. is_among (map number ss) (number (Table c.args.table))) (sym (c.as_slice.ensures.sources ∙ ap (λ (t : NetTable). t.ins) outer)) ∙ sym c.is_in.ensures ∙ c.if-not-is_in.false) in
    let latched = ap (λ (t : NetTable). t.latched) (sym inner) ∙ c.if-inner.false in
    let apart = c.if-table-reader.false in
    let m : MatchOption c.joined.result (6 < length (distinct (numbers_without c.args.table (in_tables c.args.tables.now c.args.reader).ins (in_tables c.args.tables.now c.args.table).ins))) (λ j. IsJoined c.args.table (in_tables c.args.tables.now c.args.table) (in_tables c.args.tables.now c.args.reader) j) =
    subst (λ x. MatchOption c.joined.result (6 < length (distinct (numbers_without c.args.table (in_tables c.args.tables.now c.args.reader).ins x.ins))) (λ j. IsJoined c.args.table x (in_tables c.args.tables.now c.args.reader) j)) inner (subst (λ y. MatchOption c.joined.result (6 < length (distinct (numbers_without c.args.table y.ins c.index-tables-table.result.ins))) (λ j. IsJoined c.args.table c.index-tables-table.result y j)) outer c.joined.ensures) in
    match_map _ _ (λ j. IsJoined c.args.table (in_tables c.args.tables.now c.args.table) (in_tables c.args.tables.now c.args.reader) j) (λ joined. MayPut c.args.tables.now c.args.table c.args.reader × IsJoined c.args.table (in_tables c.args.tables.now c.args.table) (in_tables c.args.tables.now c.args.reader) joined) c.joined.result (λ many may. (let few = may.few in let no : ⊥ = omega arith in no)) (λ joined is. (record { within = lt; reader = lr; apart = apart; latched = latched; reads = reads; few = (let e = sym (length-map joined.ins number) ∙ ap length is.ins in let f = is.few in omega arith) }, is)) m
