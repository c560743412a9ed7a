use Rattle.std.proofs.Common.{rules, ◌≡◌, ◌∙◌, ℕ, List, length, replicate, sym, ap, subst}
use Rattle.machine_defects.proofs.Vocabulary.{length-replicate, nodes_of, AreRecounted, items_after}
use Rattle.machine_defects.proofs.kept.counts_of.Goals as goal

pub returns-clause-shut : goal.returns-clause-shut
returns-clause-shut c =
    let shut : c.in_ok-shut.shut.items ≡ replicate c.wires-lines.result 0 = search rules in
    shut ∙ ap (λ (n : ℕ). replicate {A = ℕ} n 0) c.wires-lines.ensures.wires

pub returns-clause-counted : goal.returns-clause-counted
returns-clause-counted c =
    let m = c.args.shape.now in
    let zeros : c.in_ok-open_lines.open_lines.items ≡ replicate c.nodes-nodes.result 0 = search rules in
    let zeros_too : c.in_ok-free_ports.free_ports.items ≡ replicate c.nodes-nodes.result 0 = search rules in
    let lines = items_after c.in_ok-open_lines.open_lines c.count_nodes.new.open_lines (c.count_nodes.ensures.lines_width ∙ sym (ap length zeros ∙ length-replicate {A = ℕ} c.nodes-nodes.result 0 ∙ c.nodes-nodes.ensures.nodes)) in
    let ports = items_after c.in_ok-free_ports.free_ports c.count_nodes.new.free_ports_by (c.count_nodes.ensures.ports_width ∙ sym (ap length zeros_too ∙ length-replicate {A = ℕ} c.nodes-nodes.result 0 ∙ c.nodes-nodes.ensures.nodes)) in
    subst (λ (p : List ℕ × List ℕ × List ℕ). AreRecounted m c.args.wires.now p.0 (nodes_of m) p.1 p.2)
    (λ i. (c.deref.ensures.value i, sym lines i, sym ports i)) c.count_nodes.ensures
