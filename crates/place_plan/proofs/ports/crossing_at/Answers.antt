use Rattle.std.proofs.Common.{◌≡◌, ◌+◌, ◌++◌, ℕ, List, [], ◌∷◌, Bool, length, get_or, if◌then◌else◌, sym, ◌∙◌, subst, arith}
use Rattle.place_plan.proofs.Vocabulary.{All, get_or_read, AreThose, IsAmongFirst, nth_of, IsInside, CrossesIn, IsAmong, list_at, TouchesOf}
use Rattle.place_plan.proofs.{Crossings.crosses_by, Crossings.never_crosses, Crossings.crossing_end, Sieves.elements_step}
use Rattle.place_plan.proofs.ports.crossing_at.Goals as goal

pub loop-k-preserved : goal.loop-k-preserved
loop-k-preserved c =
    let m = c.args.tree.now.shape in
    let nets : List (List ℕ) = c.args.nets.now in
    let touched : List ℕ = c.args.touched.now in
    let i : ℕ = c.loop-k.k-index in
    let k : ℕ = get_or touched i 0 in
    let t : TouchesOf m nets (length nets) c.args.node k = c.requires.touched.only i 0 c.loop-k-test.true in
    let b : Bool = c.leaves-crosses.result in
    let here : c.as_slice.result.now ≡ list_at nets k = c.as_slice.ensures ∙ get_or_read nets k _ t.0 c.index-nets-k.is [] in
    let e : c.push_if.new.numbers ≡ (if b then c.loop-k.crossing ++ k ∷ [] else c.loop-k.crossing) = c.in_ok-push_if.ensures in
    subst (AreThose (IsAmongFirst (nth_of touched) (i + 1) (CrossesIn m nets c.args.node))) (sym e)
    (elements_step touched (CrossesIn m nets c.args.node) i b c.loop-k.crossing c.requires.touched.ascending c.loop-k-test.true
    (λ q. let out = c.leaves-crosses.ensures.yes q in crosses_by m nets c.args.node k t.1 (out.0, subst (λ ws. IsAmong ws out.0) here out.1, out.2))
    (λ q. never_crosses m nets c.args.node k (subst (All (IsInside m c.args.node)) here (c.leaves-crosses.ensures.no q)))
    c.loop-k.invariant)

pub returns : goal.returns
returns c = crossing_end c.args.tree.now.shape c.args.nets.now c.args.node c.args.touched.now c.loop-k.crossing c.loop-k.k-index (omega arith) (omega arith) c.requires.touched c.loop-k.invariant
