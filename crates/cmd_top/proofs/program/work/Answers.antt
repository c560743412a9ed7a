use Rattle.cmd_top.proofs.Vocabulary.{string_bytes, Global, is_dashed, does-none, list_any-map}
use Rattle.cmd_top.proofs.program.work.Goals as goal

pub returns-then-some_begins_dashed : goal.returns-then-some_begins_dashed
returns-then-some_begins_dashed g c =
    let test = list_any-map is_dashed (string_bytes {Z = Global}) c.args.words.now in
    rw (test, ← c.some_begins_dashed.ensures, c.if-some_begins_dashed.true) (does-none _)

pub returns : goal.returns
returns g c =
    let test = list_any-map is_dashed (string_bytes {Z = Global}) c.args.words.now in
    rw (test, ← c.some_begins_dashed.ensures, c.if-some_begins_dashed.false) c.work_in.ensures
