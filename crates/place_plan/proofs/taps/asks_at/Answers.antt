use Rattle.std.proofs.Common.{◌≡◌, ◌+◌, ◌++◌, ℕ, List, [], ◌∷◌, length, get_or, ap, sym, ◌∙◌, subst, arith}
use Rattle.place_plan.proofs.Vocabulary.{get_or_read, IsAmong, Visits, AreTaps, AreAsksOf, list_at, TouchesOf}
use Rattle.place_plan.proofs.{Tapping.asks_more, Tapping.asks_same, Asks.asks_end}
use Rattle.place_plan.proofs.taps.asks_at.Goals as goal
use Rattle.place_plan.proofs.taps.asks_at.Goals.{then-visits+in_ok-taps+in_ok-push, else-visits}

pub loop-k-preserved : goal.loop-k-preserved
loop-k-preserved c =
    let m = c.args.crossed.now.tree.now.shape in
    let nets : List (List ℕ) = c.args.nets.now in
    let x : List (List ℕ) = c.args.crossed.now.crossing.now in
    let p : List (List ℕ) = c.args.crossed.now.ports.now in
    let n : ℕ = c.args.node in
    let touched : List ℕ = c.args.touched.now in
    let i : ℕ = c.loop-k.k-index in
    let k : ℕ = get_or touched i 0 in
    let t : TouchesOf m nets (length nets) n k = c.requires.touched.only i 0 c.loop-k-test.true in
    let here : c.as_slice-wires.result.now ≡ list_at nets k = c.as_slice-wires.ensures ∙ get_or_read nets k _ t.0 c.index-nets-k.is [] in
    elim c.if-visits.branch [
      | then-visits+in_ok-taps+in_ok-push w ↦
          let e : c.if-visits.asks.items ≡ c.loop-k.asks.items ++ record { net = record { 0 = k }; taps = w.in_ok-taps.taps } ∷ [] = ap (λ v. v.items) w.asks-is ∙ (w.in_ok-push.ensures {u = tt}).items in
          let v : Visits m (IsAmong c.as_slice-wires.result.now) n = c.visits.ensures.yes w.if-visits.true in
          let is : AreTaps m x p n k c.as_slice-wires.result.now w.in_ok-taps.taps = w.in_ok-taps.ensures in
          subst (AreAsksOf m nets x p n touched (i + 1)) (sym e) (asks_more m nets x p n touched i c.loop-k.asks.items w.in_ok-taps.taps c.requires.touched.ascending c.loop-k-test.true c.loop-k.invariant
          (subst (λ (ws : List ℕ). Visits m (IsAmong ws) n) here v) (subst (λ (ws : List ℕ). AreTaps m x p n k ws w.in_ok-taps.taps) here is))
      | else-visits w ↦
          subst (AreAsksOf m nets x p n touched (i + 1)) (sym (ap (λ v. v.items) w.asks-is)) (asks_same m nets x p n touched i c.loop-k.asks.items c.requires.touched.ascending c.loop-k-test.true c.loop-k.invariant
          (λ v. c.visits.ensures.no w.if-visits.false (subst (λ (ws : List ℕ). Visits m (IsAmong ws) n) (sym here) v)))
    ]

pub returns : goal.returns
returns c = asks_end c.args.crossed.now.tree.now.shape c.args.nets.now c.args.crossed.now.crossing.now c.args.crossed.now.ports.now c.args.node c.args.touched.now c.loop-k.asks.items c.loop-k.k-index (omega arith) (omega arith) c.requires.touched c.loop-k.invariant
