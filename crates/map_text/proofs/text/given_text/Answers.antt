use Rattle.map_text.proofs.text.given_text.Goals as goal

pub returns-in-Ok-clause-netlist : goal.returns-in-Ok-clause-netlist
returns-in-Ok-clause-netlist c = c.in-Ok.ensures.only c.args.netlist.now c.requires.design c.requires.short
