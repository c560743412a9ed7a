use Rattle.std.proofs.Common.{◌≡◌, ◌<◌, ◌≤◌, ◌+◌, ◌∙◌, ap, length, drop, arith, get_or}
use Rattle.map_network.specs.Vocabulary.{row_wants, source_in, rows_size, tree_size}
use Rattle.map_network.proofs.CoverLemmas.{row_tables, row_ends, row_room, rows_over, ends_over}
use Rattle.map_network.proofs.{PlainLemmas.tree_length, covers.push_rows.Goals.In_ok-gather}
use Rattle.map_network.proofs.covers.push_rows.Goals as goal

-- the row at hand, and what it wants
module _ (c : In_ok-gather) where
  within : c.rows.k < length c.args.cover.now.rows
  within = omega (arith, c.rows-test.true, ap length c.as_slice-rows.ensures)

  row_is : c.index-rows-k.result ≡ get_or c.args.cover.now.rows c.rows.k c.index-rows-k.result
  row_is = c.index-rows-k.is ∙ ap (λ xs. get_or xs c.rows.k c.index-rows-k.result) c.as_slice-rows.ensures

  wants_are : c.gather.new.wants.items ≡ row_wants (source_in c.args.sources.now) c.index-rows-k.result c.args.cover.now.ins
  wants_are = (c.in_ok-gather.ensures {u = tt}) ∙ ap (λ r. row_wants (source_in c.args.sources.now) r c.as_slice-ins.result.now) c.as_slice.ensures ∙ ap (λ i. row_wants (source_in c.args.sources.now) c.index-rows-k.result i) c.as_slice-ins.ensures

  room_is : length c.rows.tables.items + rows_size (drop c.rows.k c.args.cover.now.rows) ≡ length c.rows.tables.items + (tree_size (length c.gather.new.wants.items) + rows_size (drop (c.rows.k + 1) c.args.cover.now.rows))
  room_is = row_room (source_in c.args.sources.now) c.args.cover.now c.rows.k c.index-rows-k.result c.index-rows-k.result within row_is c.gather.new.wants.items wants_are c.requires.made.rows (length c.rows.tables.items)

pub push_row-requires : goal.push_row-requires
push_row-requires c =
    let r = room_is (goal.at.push_row-requires c).In_ok-gather in
    let i = c.rows.invariant.room in
    let q = c.requires.room in
    omega arith

pub rows-preserved : goal.rows-preserved
rows-preserved c =
    let row = (goal.at.rows-preserved c).In_ok-gather in
    let r = room_is row in
    let n = tree_length (length c.rows.tables.items) c.rows.tables.items c.push_row.new.tables.items c.gather.new.wants.items c.in_ok-push_row.ensures.tables in
    let i = c.rows.invariant.room in
    record {
      tables = row_tables (source_in c.args.sources.now) c.args.cover.now c.rows.k c.index-rows-k.result c.index-rows-k.result (within row) (row_is row) c.rows.tables.items c.push_row.new.tables.items c.gather.new.wants.items (wants_are row) c.in_ok-push_row.ensures.tables ∙ c.rows.invariant.tables;
      ends = row_ends (source_in c.args.sources.now) c.args.cover.now c.rows.k c.index-rows-k.result c.index-rows-k.result (within row) (row_is row) c.rows.tables.items c.push_row.new.tables.items c.gather.new.wants.items (wants_are row) c.in_ok-push_row.ensures.tables c.rows.ends.items c.push_row.new.ends.items c.in_ok-push_row.ensures.ends ∙ c.rows.invariant.ends;
      room = omega arith;
    }

pub returns-clause-tables : goal.returns-clause-tables
returns-clause-tables c =
    let le : length c.args.cover.now.rows ≤ c.rows.k = omega (arith, c.rows-test.false, ap length c.as_slice-rows.ensures) in
    rows_over (source_in c.args.sources.now) c.args.cover.now c.rows.k le c.rows.tables.items (length c.rows.tables.items) ∙ c.rows.invariant.tables

pub returns-clause-ends : goal.returns-clause-ends
returns-clause-ends c =
    let le : length c.args.cover.now.rows ≤ c.rows.k = omega (arith, c.rows-test.false, ap length c.as_slice-rows.ensures) in
    ends_over (source_in c.args.sources.now) c.args.cover.now c.rows.k le c.rows.ends.items (length c.rows.tables.items) ∙ c.rows.invariant.ends
