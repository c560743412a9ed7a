use Rattle.diag_evidence.proofs.Vocabulary.{◌∙◌, sym, ap, parts}
use Rattle.diag_evidence.proofs.Rows.{parts_self}
use Rattle.diag_evidence.proofs.looks.Looks.parts.Goals as goal

pub returns-then-a-b : goal.returns-then-a-b
returns-then-a-b c = sym (ap (parts c.args.self.now.rows c.args.a) (sym c.if-a-b.true) ∙ parts_self c.args.self.now.rows c.args.a)
