use Rattle.design_flatten.proofs.Vocabulary.{◌≡◌, subst, IfErr, OnOk, place_of, line_in, placed_line, IsPut, IsOverWith, through}
use Rattle.design_flatten.proofs.frames.put_line.Goals as goal

pub returns-in-Some-clause-ok : goal.returns-in-Some-clause-ok
returns-in-Some-clause-ok c way =
    let T = through (place_of c.args.frame.now.given way) c.args.frame.now.names.now in
    let placed : placed_line c.in-Some.placed ≡ T (line_in c.args.line.now) = (rw c.in-Some.is at c.in_ok-placed.ensures) way in
    subst (λ l. OnOk c.put.result (IsPut c.args.sink.now l c.put.new.self)) placed c.put.ensures.ok

pub returns-in-Some-clause-refused : goal.returns-in-Some-clause-refused
returns-in-Some-clause-refused c way =
    let T = through (place_of c.args.frame.now.given way) c.args.frame.now.names.now in
    let placed : placed_line c.in-Some.placed ≡ T (line_in c.args.line.now) = (rw c.in-Some.is at c.in_ok-placed.ensures) way in
    subst (λ l. IfErr c.put.result (IsOverWith c.args.sink.now l)) placed c.put.ensures.refused
