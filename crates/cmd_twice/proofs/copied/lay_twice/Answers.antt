use Rattle.cmd_twice.proofs.Laying.{twice-took}
use Rattle.cmd_twice.proofs.copied.lay_twice.Goals as goal

pub returns : goal.returns
returns c = record {
  took = λ o. twice-took c.args.list.now c.args.design.now (λ vectors wide. c.designs_have_one_list_of_rows.ensures c.args.design.now vectors c.parts.ensures.checked wide) c.lay_both.result o (c.lay_both.ensures.took o);
}
