use Rattle.diag_evidence.proofs.Vocabulary.{◌∙◌, ap, sym, Some, Roomy, with_setting}
use Rattle.diag_evidence.proofs.TableTests.{set_back}
use Rattle.diag_evidence.proofs.toggles.read_with.Goals as goal

pub returns-clause-config : goal.returns-clause-config
returns-clause-config g c =
    ap (λ (r : Roomy). r.config) c.switch_on-2.ensures
    ∙ ap (λ (r : Roomy). with_setting r.config c.args.switch.table.0 (Some c.in-Some.was)) c.switch_on.ensures
    ∙ set_back c.args.config.now.config c.args.switch.table.0 c.args.switch.setting c.in-Some.was (sym c.in-Some.ensures)
