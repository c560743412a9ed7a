use Rattle.design_netlist.proofs.LaneLemmas.{place_gives}
use Rattle.design_netlist.proofs.word_truth.lane_word.Goals as goal

pub returns : goal.returns
returns c = λ lane ll. place_gives c.args.place c.requires lane ll
