use Rattle.diag_published.proofs.Vocabulary.{subst, IsHeld}
use Rattle.std.proofs.lemmas.Option.{slice_get_within, get_or_from_slice_get}
use Rattle.diag_published.proofs.Holding.{kept_pair, wire_known}
use Rattle.diag_published.proofs.apart.separate_all.Goals as goal

pub returns : goal.returns
returns c = record {
  pairs = λ w u p q differ. kept_pair c.requires.known w u
      (wire_known (subst (IsHeld c.args.facts.now c.args.known.now) (get_or_from_slice_get c.args.tested.now p.place p.findings p.findings p.here) (c.requires.held p.place p.findings (slice_get_within c.args.tested.now p.place p.findings p.here))) p.is)
      (wire_known (subst (IsHeld c.args.facts.now c.args.known.now) (get_or_from_slice_get c.args.tested.now q.place q.findings q.findings q.here) (c.requires.held q.place q.findings (slice_get_within c.args.tested.now q.place q.findings q.here))) q.is)
      differ;
}
