use Rattle.std.proofs.Common.{◌≡◌, ◌<◌, ◌≤◌, ◌+◌, ◌-◌, ◌/◌, ◌∙◌, ◌++◌, ◌∷◌, [], ap, sym, false, length, map, arith}
use Rattle.map_network.specs.Vocabulary.{gate_table, sixes, wants_from, tree_size}
use Rattle.map_network.proofs.TreeLemmas.{level_more, level_length, length-wants_from, tree_size_high, tree_low}
use Rattle.map_network.proofs.trees.push_tree.Goals as goal
use Rattle.map_network.proofs.trees.push_tree.Goals.{In_ok-push_groups}

-- a level of more than six wants was put behind the tables
module _ (c : In_ok-push_groups) where
  pushed : c.push_groups.new.tables.items ≡ c.levels.tables.items ++ map (gate_table c.args.gate false) (sixes c.levels.wants.items)
  pushed = (c.in_ok-push_groups.ensures {u = tt}) ∙ ap (λ ws. c.levels.tables.items ++ map (gate_table c.args.gate false) (sixes ws)) c.deref.ensures.value

  length_pushed : length c.push_groups.new.tables.items ≡ length c.levels.tables.items + (length c.levels.wants.items + 5) / 6
  length_pushed = level_length c.args.gate c.levels.tables.items c.push_groups.new.tables.items c.levels.wants.items pushed

  many : 6 < length c.levels.wants.items
  many = omega arith

  size_high : tree_size (length c.levels.wants.items) ≡ (length c.levels.wants.items + 5) / 6 + tree_size ((length c.levels.wants.items + 5) / 6)
  size_high = tree_size_high (length c.levels.wants.items) many

pub want_tables-requires : goal.want_tables-requires
want_tables-requires c =
    let before = (goal.at.want_tables-requires c).In_ok-push_groups in
    omega (arith, length_pushed before, many before, size_high before, c.levels.invariant.room)

pub levels-smaller : goal.levels-smaller
levels-smaller c =
    let before = (goal.at.levels-smaller c).In_ok-push_groups in
    let w : length c.want_tables.new.wants.items ≡ c.len-in-levels.result - c.len-first.result = ap length (c.in_ok-want_tables.ensures {u = tt}) ∙ length-wants_from c.len-first.result (c.len-in-levels.result - c.len-first.result) in
    omega (arith, length_pushed before, many before, w)

pub levels-preserved : goal.levels-preserved
levels-preserved c =
    let before = (goal.at.levels-preserved c).In_ok-push_groups in
    let n = length_pushed before in
    let t = size_high before in
    let r = c.levels.invariant.room in
    let first : c.len-first.result ≡ length c.levels.tables.items = omega arith in
    let count : c.len-in-levels.result - c.len-first.result ≡ length c.push_groups.new.tables.items - length c.levels.tables.items = omega arith in
    let w : length c.want_tables.new.wants.items ≡ c.len-in-levels.result - c.len-first.result = ap length (c.in_ok-want_tables.ensures {u = tt}) ∙ length-wants_from c.len-first.result (c.len-in-levels.result - c.len-first.result) in
    let g : length c.want_tables.new.wants.items ≡ (length c.levels.wants.items + 5) / 6 = omega arith in
    let s : tree_size (length c.want_tables.new.wants.items) ≡ tree_size ((length c.levels.wants.items + 5) / 6) = ap tree_size g in
    record {
      tables = level_more c.args.gate c.args.off c.levels.tables.items c.push_groups.new.tables.items c.levels.wants.items c.want_tables.new.wants.items (c.len-in-levels.result - c.len-first.result) (many before) (pushed before) count ((c.in_ok-want_tables.ensures {u = tt}) ∙ ap (λ f. wants_from f (c.len-in-levels.result - c.len-first.result)) first) ∙ c.levels.invariant.tables;
      room = omega arith;
    }

pub returns : goal.returns
returns c =
    let low : length c.levels.wants.items ≤ 6 = omega arith in
    (c.in_ok-push_gate.ensures {u = tt})
    ∙ ap (λ ws. c.levels.tables.items ++ gate_table c.args.gate c.args.off ws ∷ []) c.deref-2.ensures.value
    ∙ ap (λ ts. c.levels.tables.items ++ ts) (sym (tree_low c.args.gate c.args.off (length c.levels.tables.items) c.levels.wants.items low))
    ∙ c.levels.invariant.tables
