use Rattle.std.proofs.Common.{IsTrue, take}
use Rattle.std.specs.List.{All}
use Rattle.map_network.specs.Plain.{is_narrow}
use Rattle.map_text.proofs.check.have_few_inputs.Given as goal

abbrev pub invariant-covers : goal.invariant-covers
invariant-covers l = All (λ c. IsTrue (is_narrow c)) (take l.k l.covers)
