use Rattle.cmd_bench.proofs.{Text.bench_model, Text.text_is, Text.short, Netlist.is_netlist, Checked.is_checked}
use Rattle.cmd_bench.proofs.Vocabulary.{[], ◌∷◌, IsDesign, bench_design, bench_draft}
use Rattle.cmd_bench.proofs.design.the_bench_design_is_a_design.Goals as goal

is_design : IsDesign bench_design bench_draft
is_design = record { models = bench_model ∷ []; text = text_is; netlist = is_netlist; checked = is_checked }

pub returns-clause-design : goal.returns-clause-design
returns-clause-design c = is_design

pub returns-clause-only : goal.returns-clause-only
returns-clause-only c = λ d is. c.a_text_has_one_design.ensures bench_design d bench_draft is is_design

pub returns-clause-short : goal.returns-clause-short
returns-clause-short c = short
