use Rattle.base_text.proofs.Vocabulary.{arith, ◌<◌, length, ◌==◌, position_or_len, physical_lines}
use Rattle.base_text.proofs.BytesLemmas.{physical_first, physical_last}
use Rattle.base_text.proofs.bytes.first_physical.Goals as goal

pub returns-then-end-bytes-clause-parts : goal.returns-then-end-bytes-clause-parts
returns-then-end-bytes-clause-parts c =
    let within : position_or_len (λ b. b == 10) c.args.bytes.now < length c.args.bytes.now = omega arith in
    rw (c.bytes_after.ensures, c.place_of-end.ensures.place) (physical_first c.args.bytes.now within)

pub returns-else-end-bytes-clause-parts : goal.returns-else-end-bytes-clause-parts
unfolding physical_lines
returns-else-end-bytes-clause-parts c = physical_last c.args.bytes.now c.requires (omega arith)
