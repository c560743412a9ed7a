use Rattle.cmd_top.proofs.Vocabulary.{map, string_bytes, asked_by, ends-so}
use Rattle.cmd_top.proofs.program.end.Goals as goal

pub returns : goal.returns
returns g c =
    let e = c.end_of.ensures in
    ends-so (asked_by (map string_bytes c.args.words.now)) c.work-done.result _ _ _ _ c.work-done.ensures e.all e.stopped e.later e.kind
