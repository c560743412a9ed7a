-- Those who ask at a node are the nets that visit it, with their taps.
use Rattle.place_plan.proofs.Vocabulary.{ℕ, ◌≤◌, List, length, Shape, Ask}
use Rattle.place_plan.specs.Vocabulary.{AreThose, HasTerminal, VisitsAt, VisitsIn, AreAsksOf, AreAsks, TouchesOf}
use Rattle.place_plan.proofs.Places.{visits_inside}
use Rattle.place_plan.proofs.Sieves.{elements_end}

module _ (m : Shape) (nets crossing ports : List (List ℕ)) (n : ℕ) where
  pub asks_end : (touched : List ℕ) (asks : List Ask) (i : ℕ) → length touched ≤ i → i ≤ length touched → AreThose (TouchesOf m nets (length nets) n) touched → AreAsksOf m nets crossing ports n touched i asks → AreAsks m nets crossing ports n asks
  asks_end touched asks i ge le all are = record {
    nets_are = elements_end touched (VisitsIn m nets n) (TouchesOf m nets (length nets) n) (VisitsAt m (length nets) (HasTerminal nets) n) i _ ge le all
        (λ w t v. (t.0, v)) (λ w r. ((r.0, visits_inside m (HasTerminal nets w) n r.1), r.1)) are.nets_are;
    each = are.each;
  }
