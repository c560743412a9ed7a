use Rattle.machine_defects.proofs.Vocabulary.{◌≡◌, ◌∙◌, ℕ, Bool, false, List, [], length, replicate, sym, ap, subst, length-replicate}
use Rattle.machine_defects.proofs.Vocabulary.{wires_of, crosses_of, tables_of, nodes_of, AreRight, AreRecounted, marked, DefectList}
use Rattle.machine_defects.proofs.Nothing.{empty_right, empty_listed}
use Rattle.machine_defects.proofs.kept.nothing.Goals as goal

pub counts_of-requires : goal.counts_of-requires
counts_of-requires c = ap length c.in_ok-listed.ensures.wires ∙ length-replicate (wires_of c.args.shape) false

pub returns-clause-none : goal.returns-clause-none
returns-clause-none c =
    let m = c.args.shape in
    let l = c.in_ok-listed.ensures in
    let now = c.in_ok-listed.listed in
    let list : ◌≡◌ {A = DefectList} (record { shape = m; list = record { wires = marked now.wires; crosses = marked now.crosses; tables = marked now.tables } }) (record { shape = m; list = record { wires = marked (replicate (wires_of m) false); crosses = marked (replicate (crosses_of m) false); tables = marked (replicate (tables_of m) false) } }) =
    (λ i. record { shape = m; list = record { wires = marked (l.wires i); crosses = marked (l.crosses i); tables = marked (l.tables i) } }) in
    list ∙ empty_listed m c.in_ok-owners.owners.items [] []

pub returns-clause-kept : goal.returns-clause-kept
returns-clause-kept c =
    let m = c.args.shape in
    let l = c.in_ok-listed.ensures in
    let h = c.in_ok-held.ensures in
    let o = c.in_ok-owners.ensures in
    let k = c.in_ok-counts.ensures in
    let counts = c.in_ok-counts.counts in
    let counted : AreRecounted m (replicate (wires_of m) false) (replicate (wires_of m) 0) (nodes_of m) counts.open_lines.items counts.free_ports.items =
    subst (λ (p : List Bool × List ℕ). AreRecounted m p.0 p.1 (nodes_of m) counts.open_lines.items counts.free_ports.items) (λ i. (l.wires i, k.shut i)) k.counted in
    subst AreRight (λ i. record {
      shape = m;
      wires = sym l.wires i;
      crosses = sym l.crosses i;
      tables = sym l.tables i;
      barred = sym h.barred i;
      lost = sym h.lost i;
      owners = c.in_ok-owners.owners.items;
      shut = sym k.shut i;
      open_lines = counts.open_lines.items;
      free_ports = counts.free_ports.items;
      free_tables = sym c.tables.ensures.tables i;
      free_pins = sym c.pins.ensures.pins i;
    }) (empty_right m c.in_ok-owners.owners.items counts.open_lines.items counts.free_ports.items o.wide o.owned counted)
