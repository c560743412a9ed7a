use Rattle.std.proofs.Common.{◌≡◌, ◌<◌, ℕ, List, length, IfSome, IfNone, ap, ◌∙◌, subst, arith}
use Rattle.place_plan.proofs.Vocabulary.{nodes_of, HasTerminal, IsEnough, IsRoomAt, NodeIsShort}
use Rattle.place_plan.proofs.{Given.at_none, Given.at_some, Lacks.first_lack, VisitsMore.enough_more}
use Rattle.place_plan.proofs.room.rooms.Goals as goal

pub returns-in-Some : goal.returns-in-Some
returns-in-Some c =
    let D = c.args.defects.now in
    let m = D.shape in
    let nets : List (List ℕ) = c.args.nets.now in
    let n : ℕ = c.loop-n.n in
    let nodes : c.nodes-n-end.result ≡ nodes_of m = c.nodes-n-end.ensures.nodes ∙ ap nodes_of c.shape.ensures.shape in
    let lt : n < nodes_of m = subst (λ z. n < z) nodes c.loop-n-test.true in
    let some : IfSome c.in_ok-short.field-0 (NodeIsShort m D.list (length nets) (HasTerminal nets) n) = c.in_ok-short.ensures.short in
    first_lack m D.list (length nets) (HasTerminal nets) n c.in-Some.short lt c.loop-n.invariant.suffice (at_some c.in_ok-short.field-0 (NodeIsShort m D.list (length nets) (HasTerminal nets) n) c.in-Some.short c.in-Some.is some)

pub loop-n-preserved : goal.loop-n-preserved
loop-n-preserved c =
    let D = c.args.defects.now in
    let nets : List (List ℕ) = c.args.nets.now in
    let R = IsRoomAt D.shape D.list (length nets) (HasTerminal nets) c.loop-n.n c.loop-n.held.ports.items c.loop-n.held.visits.items c.node_room.new.held.ports.items c.node_room.new.held.visits.items in
    let none : IfNone c.in_ok-short.field-0 R = c.in_ok-short.ensures.enough in
    enough_more D.shape D.list (length nets) (HasTerminal nets) c.loop-n.n c.loop-n.held.ports.items c.node_room.new.held.ports.items c.loop-n.held.visits.items c.node_room.new.held.visits.items c.loop-n.invariant (at_none c.in_ok-short.field-0 R c.in_default.not-Some none)

pub returns : goal.returns
returns c =
    let D = c.args.defects.now in
    let m = D.shape in
    let nets : List (List ℕ) = c.args.nets.now in
    let nodes : c.nodes-n-end.result ≡ nodes_of m = c.nodes-n-end.ensures.nodes ∙ ap nodes_of c.shape.ensures.shape in
    let e : c.loop-n.n ≡ c.nodes-n-end.result = omega arith in
    subst (λ (z : ℕ). IsEnough m D.list (length nets) (HasTerminal nets) z c.loop-n.held.ports.items c.loop-n.held.visits.items) (e ∙ nodes) c.loop-n.invariant
