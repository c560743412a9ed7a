use Rattle.diag_known.proofs.Vocabulary.{◌≡◌, ◌∙◌, subst, Shape, IsRoute, Extends}
use Rattle.diag_known.proofs.TwoWays.{ways_are}
use Rattle.diag_known.proofs.known.Known.ways_over.Goals as goal

pub returns : goal.returns
returns c =
    let same : c.shape-shape.result ≡ c.args.facts.now.shape = c.shape-shape.ensures ∙ c.requires.known.shape in
    ways_are c.requires.feet c.in_ok-left.ensures
    (subst (λ (m : Shape). Extends m c.args.first.cross.0 c.in_ok-left.left c.push_to.new.self) same c.in_ok-push_to.ensures.longer) (subst (λ (m : Shape). IsRoute m c.push_to.new.self) same c.in_ok-push_to.ensures.right)
    (subst (λ (m : Shape). Extends m c.args.second.cross.0 c.in_ok-left.right c.push_to-2.new.self) same c.in_ok-push_to-2.ensures.longer) (subst (λ (m : Shape). IsRoute m c.push_to-2.new.self) same c.in_ok-push_to-2.ensures.right)
