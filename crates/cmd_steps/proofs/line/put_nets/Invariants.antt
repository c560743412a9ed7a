use Rattle.cmd_steps.proofs.Vocabulary.{◌≡◌, ◌++◌, take, nets_text}
use Rattle.cmd_steps.proofs.line.put_nets.Given as goal

abbrev pub invariant-nets : goal.invariant-nets
invariant-nets l = l.text.items ≡ l.fn.text.items ++ nets_text (take l.net-index l.nets)
