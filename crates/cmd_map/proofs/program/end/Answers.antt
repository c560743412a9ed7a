use Rattle.cmd_map.proofs.Vocabulary.{map, string_bytes, ends-so}
use Rattle.cmd_map.specs.Words.{asked_by}
use Rattle.cmd_map.proofs.program.end.Goals as goal

pub returns : goal.returns
returns g c =
    let e = c.end_of.ensures in
    λ rig. ends-so (asked_by (map string_bytes c.args.words.now)) c.work-done.result _ _ _ _ (c.work-done.ensures rig) e.all e.stopped e.later e.kind
