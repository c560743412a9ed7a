use Rattle.place_plan.proofs.Vocabulary.{◌≡◌, ◌||◌, ℕ, Bool, false, sym, ◌∙◌, list_any_more, serves_by}
use Rattle.place_plan.proofs.assign.serves_some.Goals as goal

neither : (a b : Bool) → a ≡ false → b ≡ false → (a || b) ≡ false
neither a b e f = rw (e, f)

pub loop-k-preserved : goal.loop-k-preserved
loop-k-preserved c =
    let set = c.args.set.now in
    let p = λ (n : ℕ). serves_by c.args.defects.now c.args.asks.now n c.args.line in
    list_any_more p set c.loop-k.k-index 0 c.loop-k-test.true ∙ neither _ _ c.loop-k.invariant (sym (c.if-serves_ask.ensures {u = tt}))
