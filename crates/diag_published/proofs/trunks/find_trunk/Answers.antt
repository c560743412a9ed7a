use Rattle.diag_published.proofs.Vocabulary.{◌≡◌, ℕ, Some, refl, sym, subst, arith, FullIf, UnservedIf}
use Rattle.diag_published.proofs.{Trunking.trunks_end, Laid.if_ok, Laid.if_none, Laid.of_some}
use Rattle.diag_published.proofs.trunks.find_trunk.Goals as goal

pub returns-in-None-clause-held : goal.returns-in-None-clause-held
returns-in-None-clause-held g c =
    let root : c.args.node.0 ≡ 0 = rw c.in-None.is at c.requires.root in
    rw root c.root_trunk.ensures.held

pub returns-in-None-clause-none_each : goal.returns-in-None-clause-none_each
returns-in-None-clause-none_each g c =
    let root : c.args.node.0 ≡ 0 = rw c.in-None.is at c.requires.root in
    if_ok c.root_trunk.result c.root_trunk.ensures.none_each (λ found none f e full. if_none found (none f e) (subst (λ (n : ℕ). UnservedIf (Some f) c.args.facts.now n) (sym root)))

pub returns-in-None-clause-node : goal.returns-in-None-clause-node
returns-in-None-clause-node g c =
    let root : c.args.node.0 ≡ 0 = rw c.in-None.is at c.requires.root in
    rw root (trunks_end _ _ 0 c.root_trunk.result c.args.facts.now.shape (c.the_laws_hold.ensures c.args.facts.now.shape) c.root_trunk.ensures.advances.more.shape c.root_trunk.ensures.held)

pub returns-in-Some-clause-node : goal.returns-in-Some-clause-node
returns-in-Some-clause-node g c = trunks_end c.args.facts.now c.args.known.now c.args.node.0 c.child_trunk.result c.args.facts.now.shape (c.the_laws_hold.ensures c.args.facts.now.shape) refl c.child_trunk.ensures.held

pub returns-in-Some-clause-none_each : goal.returns-in-Some-clause-none_each
returns-in-Some-clause-none_each g c = if_ok c.child_trunk.result c.child_trunk.ensures.none
    (λ found none f e full. let above : FullIf (Some f) c.args.facts.now c.args.facts.now c.in-Some.tested.now = of_some _ c.in-Some.is full in
    if_none found none (λ unserved. record { at = λ h is holds. unserved h (above.at h is holds) }))

pub returns-in-Some-clause-loads_each : goal.returns-in-Some-clause-loads_each
returns-in-Some-clause-loads_each g c = λ f e. record { at = λ h is faultless holds. omega arith }
