use Rattle.std.proofs.Common.{◌<◌, ◌*◌, ◌^◌, ℕ, List, All, Option, length, sym, subst}
use Rattle.place_route.proofs.Vocabulary.{wires_of, Configuration, Port, Visit, AreWires, Closes, IsOwnedJoint, AreLines, AreOwners}
use Rattle.place_route.proofs.routing.join_nets.Goals as goal

pub owners_of-requires-clause-few : goal.owners_of-requires-clause-few
owners_of-requires-clause-few c = subst (λ (ns : List (List ℕ)). length ns < 2 ^ 32) (sym c.deref-2.ensures.value) c.requires.few

pub owners_of-requires-clause-terminals : goal.owners_of-requires-clause-terminals
owners_of-requires-clause-terminals c = subst (All (AreWires c.args.shape)) (sym c.deref-2.ensures.value) c.requires.wires.terminals

pub owners_of-requires-clause-ports : goal.owners_of-requires-clause-ports
owners_of-requires-clause-ports c = subst (All (λ (p : Port). p.wire.0 < wires_of c.args.shape)) (sym c.deref-3.ensures.value) c.requires.wires.ports_are

pub join_all-requires-clause-lines : goal.join_all-requires-clause-lines
join_all-requires-clause-lines c =
    let lines : AreLines c.args.layout.now.visits.items c.in_ok-lines.lines = subst (λ (vs : List Visit). AreLines vs c.in_ok-lines.lines) c.deref.ensures.value c.in_ok-lines.ensures in
    λ n k w e. c.requires.wires.lines_are n k w (lines.only n k w e)

pub returns : goal.returns
returns c =
    let m = c.args.shape in
    let l = c.args.layout.now in
    let owners = c.in_ok-owners.owners.items in
    let all : Closes (IsOwnedJoint m c.in_ok-lines.lines owners (wires_of m)) (2 * wires_of m) c.in_ok-config.config.config c.join_all.new.config.config = subst (λ (o : List (Option ℕ)). Closes (IsOwnedJoint m c.in_ok-lines.lines o (wires_of m)) (2 * wires_of m) c.in_ok-config.config.config c.join_all.new.config.config) c.deref-4.ensures.value c.in_ok-join_all.ensures in
    record {
      lines = c.in_ok-lines.lines;
      owners = owners;
      are_lines = subst (λ (vs : List Visit). AreLines vs c.in_ok-lines.lines) c.deref.ensures.value c.in_ok-lines.ensures;
      are_owners = subst (λ (ps : List Port). AreOwners m l.nets.items ps owners) c.deref-3.ensures.value (subst (λ (ns : List (List ℕ)). AreOwners m ns c.deref-3.result.now owners) c.deref-2.ensures.value c.in_ok-owners.ensures);
      closed = subst (λ (g : Configuration). Closes (IsOwnedJoint m c.in_ok-lines.lines owners (wires_of m)) (2 * wires_of m) g c.join_all.new.config.config) c.in_ok-config.ensures.cleared all;
    }
