use Rattle.place_plan.proofs.Vocabulary.{◌≡◌, ◌+◌, ◌++◌, [], ◌∷◌, sym, ap, ◌∙◌, subst, arith, nodes_of, AreThose, AreLists, IsFreePort}
use Rattle.place_plan.proofs.Sieves.{lists_push}
use Rattle.place_plan.proofs.ports.free_ports.Goals as goal

pub loop-n-preserved : goal.loop-n-preserved
loop-n-preserved c =
    let m = c.args.defects.now.shape in
    let d = c.args.defects.now.list in
    let e : c.push.new.self.items ≡ c.loop-n.lists.items ++ c.in_ok-ports_at.field-0 ∷ [] = (c.in_ok-push.ensures {u = tt}).items in
    let new : AreThose (IsFreePort m d c.loop-n.n) c.in_ok-ports_at.field-0 = c.in_ok-ports_at.ensures in
    subst (AreLists (c.loop-n.n + 1) (IsFreePort m d)) (sym e) (lists_push (IsFreePort m d) c.loop-n.n c.loop-n.lists.items c.in_ok-ports_at.field-0 c.loop-n.invariant new)

pub returns : goal.returns
returns c =
    let m = c.args.defects.now.shape in
    let d = c.args.defects.now.list in
    let nodes : c.nodes-n-end.result ≡ nodes_of m = c.nodes-n-end.ensures.nodes ∙ ap nodes_of c.shape.ensures.shape in
    let e : c.loop-n.n ≡ c.nodes-n-end.result = omega arith in
    subst (λ n. AreLists n (IsFreePort m d) c.loop-n.lists.items) (e ∙ nodes) c.loop-n.invariant
