use Rattle.diag_known.proofs.Vocabulary.{◌≡◌, ◌<◌, List, sym, ◌∙◌, subst, Shape, Ends, ends_of, crosses_of, IsRoute, Extends, Down}
use Rattle.diag_known.proofs.Rising.{IsRising, rising_at, left_within, left_end, left_up, right_within, right_end, right_up}
use Rattle.diag_known.proofs.known.Known.routes.Goals as goal

pub up-init : goal.up-init
up-init c = rising_at c.requires.known c.shape-shape.result (c.shape-shape.ensures ∙ c.requires.known.shape) c.in_ok-descent.ensures
    c.in_ok-left.ensures.route c.in_ok-right.ensures.route c.in_ok-left.ensures.right c.in_ok-right.ensures.right

pub push_to-requires-clause-cross : goal.push_to-requires-clause-cross
push_to-requires-clause-cross c =
    let up = subst (λ (ds : List Down). IsRising c.args.facts.now c.args.self.now.steps c.place-from.result c.place-other.result ds c.up.left c.up.right) c.in-Some.ensures.items c.up.invariant in
    subst (λ (m : Shape). c.in-Some.down.foot.cross.0 < crosses_of m) (sym (c.shape-shape.ensures ∙ c.requires.known.shape)) (left_within c.requires.known c.pop.new.self.items c.in-Some.down up c.if-down.true)

pub push_to-requires-clause-at : goal.push_to-requires-clause-at
push_to-requires-clause-at c =
    let up = subst (λ (ds : List Down). IsRising c.args.facts.now c.args.self.now.steps c.place-from.result c.place-other.result ds c.up.left c.up.right) c.in-Some.ensures.items c.up.invariant in
    subst (λ (m : Shape). Ends (ends_of m c.in-Some.down.foot.cross.0) c.up.left.end c.in-Some.down.over.0) (sym (c.shape-shape.ensures ∙ c.requires.known.shape)) (left_end c.requires.known c.pop.new.self.items c.in-Some.down up c.if-down.true)

pub up-preserved-in-Continue-branch-4 : goal.up-preserved-in-Continue-branch-4
up-preserved-in-Continue-branch-4 c =
    let up = subst (λ (ds : List Down). IsRising c.args.facts.now c.args.self.now.steps c.place-from.result c.place-other.result ds c.up.left c.up.right) c.in-Some.ensures.items c.up.invariant in
    let same : c.shape-shape.result ≡ c.args.facts.now.shape = c.shape-shape.ensures ∙ c.requires.known.shape in
    left_up c.requires.known c.pop.new.self.items c.in-Some.down up c.if-down.true
    (subst (λ (m : Shape). Extends m c.in-Some.down.foot.cross.0 c.up.left c.push_to.new.self) same c.in_ok-push_to.ensures.longer) (subst (λ (m : Shape). IsRoute m c.push_to.new.self) same c.in_ok-push_to.ensures.right)

pub push_to-requires-else-down-clause-cross : goal.push_to-requires-else-down-clause-cross
push_to-requires-else-down-clause-cross c =
    let up = subst (λ (ds : List Down). IsRising c.args.facts.now c.args.self.now.steps c.place-from.result c.place-other.result ds c.up.left c.up.right) c.in-Some.ensures.items c.up.invariant in
    subst (λ (m : Shape). c.in-Some.down.foot.cross.0 < crosses_of m) (sym (c.shape-shape.ensures ∙ c.requires.known.shape)) (right_within c.requires.known c.pop.new.self.items c.in-Some.down up c.if-down.false)

pub push_to-requires-else-down-clause-at : goal.push_to-requires-else-down-clause-at
push_to-requires-else-down-clause-at c =
    let up = subst (λ (ds : List Down). IsRising c.args.facts.now c.args.self.now.steps c.place-from.result c.place-other.result ds c.up.left c.up.right) c.in-Some.ensures.items c.up.invariant in
    subst (λ (m : Shape). Ends (ends_of m c.in-Some.down.foot.cross.0) c.up.right.end c.in-Some.down.over.0) (sym (c.shape-shape.ensures ∙ c.requires.known.shape)) (right_end c.requires.known c.pop.new.self.items c.in-Some.down up c.if-down.false)

pub up-preserved : goal.up-preserved
up-preserved c =
    let up = subst (λ (ds : List Down). IsRising c.args.facts.now c.args.self.now.steps c.place-from.result c.place-other.result ds c.up.left c.up.right) c.in-Some.ensures.items c.up.invariant in
    let same : c.shape-shape.result ≡ c.args.facts.now.shape = c.shape-shape.ensures ∙ c.requires.known.shape in
    right_up c.requires.known c.pop.new.self.items c.in-Some.down up c.if-down.false
    (subst (λ (m : Shape). Extends m c.in-Some.down.foot.cross.0 c.up.right c.push_to-else-down.new.self) same c.in_ok-push_to-2.ensures.longer) (subst (λ (m : Shape). IsRoute m c.push_to-else-down.new.self) same c.in_ok-push_to-2.ensures.right)
