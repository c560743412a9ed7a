use Rattle.diag_evidence.proofs.Vocabulary.{◌≡◌, true, None, IfSome, take, crosses_along, is_only_unkept}
use Rattle.diag_evidence.proofs.Only.{AllKept}
use Rattle.diag_evidence.proofs.facts.Facts.only_unkept.Given as goal

abbrev pub invariant-crosses : goal.invariant-crosses
invariant-crosses l = record {
  none : l.found ≡ None → AllKept l.self (take l.k (crosses_along l.lead));
  one : IfSome l.found (λ c. is_only_unkept l.self (take l.k (crosses_along l.lead)) c.0 ≡ true);
}
