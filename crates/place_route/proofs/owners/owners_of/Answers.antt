use Rattle.std.proofs.Common.{◌≡◌, ℕ, List, Option, length, None, replicate, sym, ap, ◌∙◌, subst, rules}
use Rattle.place_route.proofs.Vocabulary.{take_at, wires_of, HasTerminal, IsMarked, HoldsPort, AreOwners}
use Rattle.place_route.proofs.Marking.{owners_end}
use Rattle.place_route.proofs.owners.owners_of.Goals as goal

pub returns : goal.returns
returns c =
    let m = c.args.shape in
    let len = c.in_ok-owners.owners.len in
    let first : length c.mark_nets.new.owners ≡ len = c.mark_nets.ensures.sized ∙ c.deref_mut.ensures.len in
    let second : length c.mark_ports.new.owners ≡ len = c.mark_ports.ensures.sized ∙ c.deref_mut-2.ensures.len in
    let none : c.deref_mut.result.now ≡ replicate (wires_of m) None = c.deref_mut.ensures.value ∙ c.in_ok-owners.ensures.items_if_clones_equal (search rules) ∙ ap (λ n. replicate n None) c.wires.ensures.wires in
    let nets : IsMarked (HasTerminal c.args.nets.now) (replicate (wires_of m) None) c.mark_nets.new.owners = subst (λ (o : List (Option ℕ)). IsMarked (HasTerminal c.args.nets.now) o c.mark_nets.new.owners) none c.mark_nets.ensures in
    let ports : IsMarked (HoldsPort c.args.ports.now) c.mark_nets.new.owners c.mark_ports.new.owners = subst (λ (o : List (Option ℕ)). IsMarked (HoldsPort c.args.ports.now) o c.mark_ports.new.owners) (c.deref_mut-2.ensures.value ∙ take_at _ _ _ first) c.mark_ports.ensures in
    subst (AreOwners m c.args.nets.now c.args.ports.now) (sym (take_at _ _ _ second)) (owners_end m c.args.nets.now c.args.ports.now c.mark_nets.new.owners c.mark_ports.new.owners nets ports)
