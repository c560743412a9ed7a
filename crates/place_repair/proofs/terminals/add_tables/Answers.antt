use Rattle.place_repair.proofs.Vocabulary.{◌≡◌, ◌<◌, ℕ, List, length, get_or, sym, ◌∙◌, subst, arith, get_or_read, tables_of, nth_of}
use Rattle.place_repair.specs.Making.{IsAdded, IsFirstTableTerminal, IsTablePinTerminal, no_table}
use Rattle.place_repair.proofs.{Adding.added_none, Adding.no_tables, Adding.tables_more, Adding.tables_all, Using.listed_within}
use Rattle.place_repair.proofs.terminals.add_tables.Goals as goal

-- the place of a table of the machine
place_read : (places : List ℕ) (t count place : ℕ) → length places ≡ count → t < count → place ≡ get_or places t place → place ≡ nth_of places t
place_read places t count place sized within at = get_or_read places t place (subst (λ n. t < n) (sym sized) within) at 0

pub index-place-requires : goal.index-place-requires
index-place-requires c =
    let within = listed_within c.args.config.now.config c.tables_on-tables.result.now c.tables_on-tables.ensures c.loop-k.k c.loop-k-test.true c.shape-shape.ensures.right in
    let sized : length c.args.plan.now.tables.items ≡ tables_of c.args.config.now.config.shape = c.requires.plan.tables_sized in
    omega (arith, sized, within)

pub add_table-requires-clause-place : goal.add_table-requires-clause-place
add_table-requires-clause-place c =
    let within = listed_within c.args.config.now.config c.tables_on-tables.result.now c.tables_on-tables.ensures c.loop-k.k c.loop-k-test.true c.shape-shape.ensures.right in
    let place = place_read c.args.plan.now.tables.items _ _ c.index-place.result.now c.requires.plan.tables_sized within c.index-place.ensures in
    subst (λ n. n < tables_of c.args.config.now.config.shape) (sym place) (c.requires.plan.tables_within _ within)

pub add_table-requires-clause-sized : goal.add_table-requires-clause-sized
add_table-requires-clause-sized c = c.loop-k.invariant.sized ∙ c.requires.sized

pub add_table-requires-clause-table : goal.add_table-requires-clause-table
add_table-requires-clause-table c = listed_within c.args.config.now.config c.tables_on-tables.result.now c.tables_on-tables.ensures c.loop-k.k c.loop-k-test.true c.shape-shape.ensures.right

pub loop-k-init : goal.loop-k-init
loop-k-init c = added_none (IsFirstTableTerminal c.args.config.now.config c.args.plan.now c.tables_on-tables.result.now 0) c.args.lists.now (no_tables c.args.config.now.config c.args.plan.now c.tables_on-tables.result.now)

pub loop-k-preserved : goal.loop-k-preserved
loop-k-preserved c =
    let g = c.args.config.now.config in
    let p = c.args.plan.now in
    let t : ℕ = (get_or c.tables_on-tables.result.now c.loop-k.k no_table).0 in
    let place = place_read p.tables.items t _ c.index-place.result.now c.requires.plan.tables_sized (listed_within c.args.config.now.config c.tables_on-tables.result.now c.tables_on-tables.ensures c.loop-k.k c.loop-k-test.true c.shape-shape.ensures.right) c.index-place.ensures in
    tables_more g p c.tables_on-tables.result.now c.loop-k.k c.args.lists.now c.loop-k.lists c.add_table.new.lists c.loop-k.invariant
    (subst (λ u. IsAdded (IsTablePinTerminal g p t u 7) c.loop-k.lists c.add_table.new.lists) place c.in_ok-add_table.ensures)

pub returns : goal.returns
returns c = tables_all c.args.config.now.config c.args.plan.now c.tables_on-tables.result.now c.tables_on-tables.ensures c.loop-k.k (omega arith) (omega arith) c.args.lists.now c.loop-k.lists c.loop-k.invariant
