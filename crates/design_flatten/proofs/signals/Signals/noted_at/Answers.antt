use Rattle.design_flatten.proofs.NotedLemmas.{stands_in}
use Rattle.design_flatten.proofs.signals.Signals.noted_at.Goals as goal

pub returns-then-stands_at-clause-number : goal.returns-then-stands_at-clause-number
returns-then-stands_at-clause-number c =
    (stands_in c.self.inside.set.keys c.as_slice.result.now c.args.self.now c.noted_number-number.result c.args.signal c.self.view_is c.as_slice.ensures.keys c.as_slice.ensures.unique (c.stands_at.ensures c.if-stands_at.true)).number

pub returns-then-stands_at-clause-known : goal.returns-then-stands_at-clause-known
returns-then-stands_at-clause-known c _ =
    (stands_in c.self.inside.set.keys c.as_slice.result.now c.args.self.now c.noted_number-number.result c.args.signal c.self.view_is c.as_slice.ensures.keys c.as_slice.ensures.unique (c.stands_at.ensures c.if-stands_at.true)).known

pub returns-then-stands_at-clause-room : goal.returns-then-stands_at-clause-room
returns-then-stands_at-clause-room c =
    (stands_in c.self.inside.set.keys c.as_slice.result.now c.args.self.now c.noted_number-number.result c.args.signal c.self.view_is c.as_slice.ensures.keys c.as_slice.ensures.unique (c.stands_at.ensures c.if-stands_at.true)).within
