use Rattle.rig_port.proofs.Vocabulary.{◌≤◌, ◌∙◌, length, take, refl, arith, length-take-le, IsLine, HasHeard, ahead}
use Rattle.rig_port.proofs.Heard.{dropped_more, heard, nothing_dropped, where_whole}
use Rattle.rig_port.proofs.talk.listen.Goals as goal

pub parts-init : goal.parts-init
parts-init g c = record {
  length = refl;
  dropped = nothing_dropped c.args.is_cut.now c.args.request.now (ahead c.args.rest.now (g.F.Read.remaining c.args.from.now));
}

pub parts-preserved : goal.parts-preserved
parts-preserved g c = record {
  length = c.read_line.ensures.length ∙ c.parts.invariant.length;
  dropped = dropped_more c.args.is_cut.now c.parts.is_cut c.read_line.new.is_cut c.args.request.now (ahead c.args.rest.now (g.F.Read.remaining c.args.from.now))
      (ahead c.parts.rest (g.F.Read.remaining c.parts.from)) (ahead c.read_line.new.rest (g.F.Read.remaining c.read_line.new.from)) c.parts.dropped c.saturating_add-dropped.result
      (take c.in-Some.count c.read_line.new.into) c.in-Some.count c.parts.invariant.dropped c.in-Some.ensures.read (omega (arith, length-take-le c.in-Some.count c.read_line.new.into c.in-Some.ensures.within)) c.saturating_add-dropped.ensures (omega (arith, c.if-dropped-gt-MOST_DROPPED.false))
      (c.is_taken.ensures c.if-is_taken.false);
}

pub returns-then-is_taken-clause-within : goal.returns-then-is_taken-clause-within
returns-then-is_taken-clause-within g c = where_whole c.whole.result c.in-Some.count c.read_line.new.is_cut (λ n. n ≤ length c.read_line.new.into) c.whole.ensures (λ _. c.in-Some.ensures.within)

pub returns-then-is_taken-clause-line : goal.returns-then-is_taken-clause-line
returns-then-is_taken-clause-line g c = where_whole c.whole.result c.in-Some.count c.read_line.new.is_cut (λ n. IsLine (take n c.read_line.new.into)) c.whole.ensures c.in-Some.ensures.line

pub returns-then-is_taken-clause-heard : goal.returns-then-is_taken-clause-heard
returns-then-is_taken-clause-heard g c =
    let begun = ahead c.args.rest.now (g.F.Read.remaining c.args.from.now) in
    let ended = ahead c.read_line.new.rest (g.F.Read.remaining c.read_line.new.from) in
    where_whole c.whole.result c.in-Some.count c.read_line.new.is_cut (λ n. HasHeard c.args.is_cut.now c.args.request.now begun ended (take n c.read_line.new.into)) c.whole.ensures
    (λ _. heard c.args.is_cut.now c.parts.is_cut c.args.request.now begun (ahead c.parts.rest (g.F.Read.remaining c.parts.from)) ended c.parts.dropped (take c.in-Some.count c.read_line.new.into)
    c.parts.invariant.dropped c.in-Some.ensures.read)
