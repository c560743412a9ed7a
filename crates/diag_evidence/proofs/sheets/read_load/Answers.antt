use Rattle.diag_evidence.proofs.Vocabulary.{◌∙◌, ◌+◌, arith, le-max_left, pins_of}
use Rattle.diag_evidence.proofs.Rows.{as_many, as_wide}
use Rattle.diag_evidence.proofs.sheets.read_load.Goals as goal

pub read_rows-requires-clause-few : goal.read_rows-requires-clause-few
read_rows-requires-clause-few g c = let low = le-max_left 65 (pins_of c.args.config.now.config.shape + 1) in omega (arith, c.requires.many, low)

pub returns-clause-made : goal.returns-clause-made
returns-clause-made g c = omega (arith, c.read_rows.ensures.made, c.requires.many)

pub returns-clause-width : goal.returns-clause-width
returns-clause-width g c = as_wide _ c.args.reads.now c.read_rows.new.rows c.read_rows.ensures.lengths c.requires.reads

pub returns-clause-as_many : goal.returns-clause-as_many
returns-clause-as_many g c = as_many c.args.reads.now c.read_rows.new.rows c.read_rows.ensures.lengths ∙ c.requires.as_many
