use Rattle.base_bits.proofs.NumbersLemmas.{put_in}
use Rattle.base_bits.proofs.bit_set.sets_hold_what_was_put_in.Goals as goal

pub returns : goal.returns
returns c = put_in
