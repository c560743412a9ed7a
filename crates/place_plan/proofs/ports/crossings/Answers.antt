use Rattle.std.proofs.Common.{◌≡◌, ◌<◌, ◌+◌, ◌++◌, ℕ, List, [], ◌∷◌, length, sym, ◌∙◌, subst}
use Rattle.place_plan.proofs.Vocabulary.{get_or_read, nodes_of, AreThose, AreLists, CrossesAt, HasTerminal, list_at, TouchesOf}
use Rattle.place_plan.proofs.Sieves.{lists_push}
use Rattle.place_plan.proofs.ports.crossings.Goals as goal

pub crossing_at-requires-clause-touched : goal.crossing_at-requires-clause-touched
crossing_at-requires-clause-touched c =
    let m = c.args.tree.now.shape in
    let nets : List (List ℕ) = c.args.nets.now in
    let touched : List (List ℕ) = c.args.touched.now in
    let n : ℕ = c.loop-n.n in
    let l : n < nodes_of m = subst (λ z. n < z) c.nodes-n-end.ensures.nodes c.loop-n-test.true in
    let lt : n < length touched = subst (λ z. n < z) (sym c.requires.touched.sized) l in
    let here : c.as_slice.result.now ≡ list_at touched n = c.as_slice.ensures ∙ get_or_read touched n _ lt c.index-touched-n.is [] in
    subst (AreThose (TouchesOf m nets (length nets) n)) (sym here) (c.requires.touched.those n l)

pub loop-n-preserved : goal.loop-n-preserved
loop-n-preserved c =
    let m = c.args.tree.now.shape in
    let nets : List (List ℕ) = c.args.nets.now in
    let e : c.push.new.self.items ≡ c.loop-n.lists.items ++ c.in_ok-crossing_at.field-0 ∷ [] = (c.in_ok-push.ensures {u = tt}).items in
    let new : AreThose (CrossesAt m (length nets) (HasTerminal nets) c.loop-n.n) c.in_ok-crossing_at.field-0 = c.in_ok-crossing_at.ensures in
    subst (AreLists (c.loop-n.n + 1) (CrossesAt m (length nets) (HasTerminal nets))) (sym e)
    (lists_push (CrossesAt m (length nets) (HasTerminal nets)) c.loop-n.n c.loop-n.lists.items c.in_ok-crossing_at.field-0 c.loop-n.invariant new)
