use Rattle.design_eval.proofs.Vocabulary.{◌≡◌, take, map, bit_at, lane_bits}
use Rattle.design_eval.proofs.lanes.stand_in.Given as goal

abbrev pub invariant-signals : goal.invariant-signals
invariant-signals l = map (bit_at (lane_bits l.words l.lane)) (take l.k l.signals) ≡ take l.k l.bits
