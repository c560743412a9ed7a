use Rattle.std.proofs.Common.{◌≡◌, ◌<◌, ◌+◌, ℕ, List, [], length, sym, ◌∙◌, subst, arith}
use Rattle.place_plan.proofs.Vocabulary.{All, common_steps, get_or_read, take_at, All-get_or, wires_of, AreTouched, IsSpread, list_at}
use Rattle.place_plan.proofs.Spreads.{touched_more}
use Rattle.place_plan.proofs.touch.touched_by.Goals as goal

pub loop-k-preserved : goal.loop-k-preserved
loop-k-preserved c =
    let m = c.args.tree.now.shape in
    let nets : List (List ℕ) = c.args.nets.now in
    let k : ℕ = c.loop-k.k in
    let le : length c.touch_net.new.touched ≡ c.loop-k.touched.len = grind (arith, common_steps) in
    let here : c.as_slice.result.now ≡ list_at nets k = c.as_slice.ensures ∙ get_or_read nets k _ c.loop-k-test.true c.index-nets-k.is [] in
    let step : IsSpread m c.as_slice.result.now k c.deref_mut.result.now c.touch_net.new.touched = c.in_ok-touch_net.ensures in
    let is : IsSpread m (list_at nets k) k c.loop-k.touched.items c.touch_net.new.touched = rw (here, c.deref_mut.ensures.value) at step in
    let all : All (λ (w : ℕ). w < wires_of m) (list_at nets k) = All-get_or (λ (ws : List ℕ). All (λ (w : ℕ). w < wires_of m) ws) nets k [] c.loop-k-test.true c.requires.within in
    subst (AreTouched m nets (k + 1)) (sym (take_at _ _ _ le)) (touched_more m (c.the_numbering_is_sound.ensures.parents m) nets k c.loop-k.touched.items c.touch_net.new.touched all c.loop-k.invariant is)

pub returns : goal.returns
returns c =
    let e : c.loop-k.k ≡ length c.args.nets.now = omega arith in
    subst (λ n. AreTouched c.args.tree.now.shape c.args.nets.now n c.loop-k.touched.items) e c.loop-k.invariant
