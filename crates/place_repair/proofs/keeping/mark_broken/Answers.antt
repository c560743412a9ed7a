use Rattle.place_repair.proofs.Vocabulary.{◌∙◌, IsUnfreeCross, IsUnfreeTable}
use Rattle.place_repair.proofs.Marking.{marked_both}
use Rattle.place_repair.proofs.keeping.mark_broken.Goals as goal

pub mark_tables-requires-clause-sized : goal.mark_tables-requires-clause-sized
mark_tables-requires-clause-sized c = c.mark_crosses.ensures.sized ∙ c.requires.sized

pub returns : goal.returns
returns c = marked_both (IsUnfreeCross c.args.defects.now.list c.args.config.now.config c.args.nets.now.lowest) (IsUnfreeTable c.args.defects.now.list c.args.config.now.config c.args.nets.now.lowest) c.args.marks.now c.mark_crosses.new.marks c.mark_tables.new.marks c.mark_crosses.ensures c.mark_tables.ensures
