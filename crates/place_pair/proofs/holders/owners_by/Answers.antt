use Rattle.place_pair.proofs.Vocabulary.{ℕ, ◌<◌, ◌^◌, List, length, sym, subst, IfOk, All, Shape, wires_of, Port, AreWires, AreOwners}
use Rattle.place_pair.proofs.holders.owners_by.Goals as goal

pub owners_of-requires-clause-few : goal.owners_of-requires-clause-few
owners_of-requires-clause-few c = subst (λ (ns : List (List ℕ)). length ns < 2 ^ 32) (sym c.deref.ensures.value) c.requires.few

pub owners_of-requires-clause-terminals : goal.owners_of-requires-clause-terminals
owners_of-requires-clause-terminals c =
    subst (λ (ns : List (List ℕ)). All (AreWires c.shape.result) ns) (sym c.deref.ensures.value)
    (subst (λ (m : Shape). All (AreWires m) c.args.layout.now.nets.items) (sym c.shape.ensures.shape) c.requires.wires.terminals)

pub owners_of-requires-clause-ports : goal.owners_of-requires-clause-ports
owners_of-requires-clause-ports c =
    subst (λ (ps : List Port). All (λ (q : Port). q.wire.0 < wires_of c.shape.result) ps) (sym c.deref-2.ensures.value)
    (subst (λ (m : Shape). All (λ (q : Port). q.wire.0 < wires_of m) c.args.layout.now.ports.items) (sym c.shape.ensures.shape) c.requires.wires.ports_are)

pub returns : goal.returns
returns c =
    let l = c.args.layout.now in
    subst (λ (z : Shape). IfOk c.owners_of.result (λ o. AreOwners z l.nets.items l.ports.items o.items)) c.shape.ensures.shape
    (subst (λ (ns : List (List ℕ)). IfOk c.owners_of.result (λ o. AreOwners c.shape.result ns l.ports.items o.items)) c.deref.ensures.value
    (subst (λ (ps : List Port). IfOk c.owners_of.result (λ o. AreOwners c.shape.result c.deref.result.now ps o.items)) c.deref-2.ensures.value
    c.owners_of.ensures))
