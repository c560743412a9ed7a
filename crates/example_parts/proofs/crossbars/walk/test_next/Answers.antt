use Rattle.example_parts.proofs.Vocabulary.{◌∙◌, ap, Shape, node_of, advances_then}
use Rattle.example_parts.proofs.Finding.{found_later, found_next, later_then, trunk_at, full_now}
use Rattle.example_parts.proofs.crossbars.walk.test_next.Goals as goal

pub returns-in_err-found-clause-found : goal.returns-in_err-found-clause-found
returns-in_err-found-clause-found g c = rw c.in_err-found.ensures.same (found_later c.in_err-found.ensures.advances.narrows c.in_err-found.ensures.advances.explained (record { kept = c.in_err-found.ensures.advances.more; known = c.in_err-found.ensures.stays }) c.in_err-found.ensures.known c.in_err-found.ensures.all c.requires.found)

pub returns-in_default-clause-found : goal.returns-in_default-clause-found
returns-in_default-clause-found g c = rw c.in_ok-found.ensures.same (found_later c.in_ok-found.ensures.advances.narrows c.in_ok-found.ensures.advances.explained (record { kept = c.in_ok-found.ensures.advances.more; known = c.in_ok-found.ensures.stays }) c.in_ok-found.ensures.known c.in_ok-found.ensures.all c.requires.found)

pub test_crossbar-requires-clause-trunk : goal.test_crossbar-requires-clause-trunk
test_crossbar-requires-clause-trunk g c = trunk_at c.args.facts.now.shape c.in_ok-found.ensures.advances.more.shape (rw c.in-Some.is at c.in_ok-found.ensures.node) (rw c.in-Some.is at c.in_ok-found.ensures.held)

pub returns-in_err-tested-clause-found : goal.returns-in_err-tested-clause-found
returns-in_err-tested-clause-found g c = rw c.in_ok-found.ensures.same (found_later (λ f e. c.in_ok-found.ensures.advances.narrows f (c.in_err-tested.ensures.advances.narrows f e)) (advances_then c.in_ok-found.ensures.advances c.in_err-tested.ensures.advances).explained (later_then {b = c.next_trunk.new.walk.known} (record { kept = c.in_ok-found.ensures.advances.more; known = c.in_ok-found.ensures.stays }) (record { kept = c.in_err-tested.ensures.advances.more; known = c.in_err-tested.ensures.stays })) c.in_err-tested.ensures.known c.in_err-tested.ensures.all c.requires.found)

pub returns-in_err-add-clause-found : goal.returns-in_err-add-clause-found
returns-in_err-add-clause-found g c = rw (c.in_err-add.ensures.same, c.in_ok-found.ensures.same) (found_later (λ f e. c.in_ok-found.ensures.advances.narrows f (c.in_ok-tested.ensures.advances.narrows f e)) (advances_then c.in_ok-found.ensures.advances c.in_ok-tested.ensures.advances).explained (later_then {b = c.next_trunk.new.walk.known} (record { kept = c.in_ok-found.ensures.advances.more; known = c.in_ok-found.ensures.stays }) (record { kept = c.in_ok-tested.ensures.advances.more; known = c.in_ok-tested.ensures.stays })) c.in_ok-tested.ensures.known c.in_ok-tested.ensures.all c.requires.found)

pub returns-clause-found : goal.returns-clause-found
returns-clause-found g c = rw (c.in_ok-add.ensures.added, c.in_ok-found.ensures.same) (found_next c.in_ok-tested.tested (λ f e. c.in_ok-found.ensures.advances.narrows f (c.in_ok-tested.ensures.advances.narrows f e)) (advances_then c.in_ok-found.ensures.advances c.in_ok-tested.ensures.advances).explained (later_then {b = c.next_trunk.new.walk.known} (record { kept = c.in_ok-found.ensures.advances.more; known = c.in_ok-found.ensures.stays }) (record { kept = c.in_ok-tested.ensures.advances.more; known = c.in_ok-tested.ensures.stays }))
    c.in_ok-tested.ensures.known c.in_ok-tested.ensures.all c.requires.found (c.in_ok-tested.ensures.node ∙ ap (λ (s : Shape). node_of s c.in-Some.trunk.left.end) c.in_ok-found.ensures.advances.more.shape ∙ (rw c.in-Some.is at c.in_ok-found.ensures.node) ∙ c.requires.node) c.in_ok-tested.ensures.held (λ f e. let before = c.in_ok-tested.ensures.advances.narrows f e in full_now (c.in_ok-found.ensures.advances.explained f before (c.requires.found.holds f (c.in_ok-found.ensures.advances.narrows f before))) (c.in_ok-tested.ensures.full_each f e)))

pub returns-in_err-add-clause-advances : goal.returns-in_err-add-clause-advances
returns-in_err-add-clause-advances g c = advances_then c.in_ok-found.ensures.advances c.in_ok-tested.ensures.advances

pub returns-clause-advances : goal.returns-clause-advances
returns-clause-advances g c = advances_then c.in_ok-found.ensures.advances c.in_ok-tested.ensures.advances

pub returns-in_default-clause-unserved : goal.returns-in_default-clause-unserved
returns-in_default-clause-unserved g c = λ within is. rw c.in_default.is at (c.in_ok-found.ensures.none c.requires.node within)

pub returns-in_err-tested-clause-advances : goal.returns-in_err-tested-clause-advances
returns-in_err-tested-clause-advances g c = advances_then c.in_ok-found.ensures.advances c.in_err-tested.ensures.advances
