use Rattle.design_blif.proofs.Vocabulary.{◌∙◌, true, subst, logical_lines, Gives}
use Rattle.design_blif.proofs.{RunLemmas.whole_is, RunLemmas.are_read, RunLemmas.found_are, RowLemmas.right_rows, SizeLemmas.few_outputs}
use Rattle.design_blif.proofs.read.read_models.Goals as goal

pub returns-clause-found : goal.returns-clause-found
returns-clause-found c = found_are c.args.bytes.now c.read_whole.result c.read_whole.ensures

pub returns-clause-only : goal.returns-clause-only
returns-clause-only c = λ d is. subst (λ r. Gives (λ v. v.items) c.read_whole.result r) (whole_is (logical_lines true c.args.bytes.now) ∙ are_read c.args.bytes.now d is) c.read_whole.ensures

pub returns-clause-exact : goal.returns-clause-exact
returns-clause-exact c = subst (λ r. Gives (λ v. v.items) c.read_whole.result r) (whole_is (logical_lines true c.args.bytes.now)) c.read_whole.ensures

pub returns-clause-rows : goal.returns-clause-rows
returns-clause-rows c = right_rows (logical_lines true c.args.bytes.now) c.read_whole.result c.read_whole.ensures

pub returns-clause-outputs : goal.returns-clause-outputs
returns-clause-outputs c = few_outputs c.args.bytes.now c.read_whole.result c.read_whole.ensures
