use Rattle.cmd_top.proofs.Vocabulary.{◌∙◌, map, string_bytes, sym, codes, does-none, does-job}
use Rattle.cmd_top.proofs.WordLemmas.{begun}
use Rattle.cmd_top.proofs.program.work_in.Goals as goal

pub returns-then-begins : goal.returns-then-begins
returns-then-begins g c =
    let p = begun (map string_bytes c.args.words.now) 3 (codes "eval") (sym c.begins.ensures ∙ c.if-begins.true) in
    rw (p.0, p.1, ← c.word-first.ensures, ← c.word-second.ensures) (does-job _ _ _ _ c.eval.ensures.lawful (c.eval.ensures.does _))

pub returns-then-begins-2 : goal.returns-then-begins-2
returns-then-begins-2 g c =
    let p = begun (map string_bytes c.args.words.now) 4 (codes "compile") (sym c.begins-2.ensures ∙ c.if-begins-2.true) in
    rw (p.0, p.1, ← c.word-first.ensures, ← c.word-second.ensures, ← c.word-third.ensures)
    (does-job _ _ _ _ c.compile.ensures.lawful (c.compile.ensures.does _))

pub returns-then-begins-3 : goal.returns-then-begins-3
returns-then-begins-3 g c =
    let p = begun (map string_bytes c.args.words.now) 5 (codes "run") (sym c.begins-3.ensures ∙ c.if-begins-3.true) in
    rw (p.0, p.1, ← c.word-first.ensures, ← c.word-second.ensures, ← c.word-third.ensures, ← c.word-fourth.ensures)
    (does-job _ _ _ _ c.run.ensures.lawful c.run.ensures.does)

pub returns-then-begins-4 : goal.returns-then-begins-4
returns-then-begins-4 g c =
    let p = begun (map string_bytes c.args.words.now) 3 (codes "diagnose") (sym c.begins-4.ensures ∙ c.if-begins-4.true) in
    rw (p.0, p.1, ← c.word-first.ensures, ← c.word-second.ensures) (does-job _ _ _ _ c.diagnose.ensures.lawful c.diagnose.ensures.does)

pub returns-then-begins-5 : goal.returns-then-begins-5
returns-then-begins-5 g c =
    let p = begun (map string_bytes c.args.words.now) 5 (codes "go") (sym c.begins-5.ensures ∙ c.if-begins-5.true) in
    rw (p.0, p.1, ← c.word-first.ensures, ← c.word-second.ensures, ← c.word-third.ensures, ← c.word-fourth.ensures)
    (does-job _ _ _ _ c.go.ensures.lawful c.go.ensures.does)

pub returns-then-begins-6 : goal.returns-then-begins-6
returns-then-begins-6 g c =
    let p = begun (map string_bytes c.args.words.now) 2 (codes "bench") (sym c.begins-6.ensures ∙ c.if-begins-6.true) in
    rw (p.0, p.1, ← c.word-first.ensures) (c.bench_word.ensures _)

pub returns-then-begins-7 : goal.returns-then-begins-7
returns-then-begins-7 g c =
    let p = begun (map string_bytes c.args.words.now) 4 (codes "check") (sym c.begins-7.ensures ∙ c.if-begins-7.true) in
    rw (p.0, p.1, ← c.word-first.ensures, ← c.word-second.ensures, ← c.word-third.ensures)
    (does-job _ _ _ _ c.check.ensures.lawful c.check.ensures.does)

pub returns-then-begins-8 : goal.returns-then-begins-8
returns-then-begins-8 g c =
    let p = begun (map string_bytes c.args.words.now) 4 (codes "repair") (sym c.begins-8.ensures ∙ c.if-begins-8.true) in
    rw (p.0, p.1, ← c.word-first.ensures, ← c.word-second.ensures, ← c.word-third.ensures)
    (does-job _ _ _ _ c.repair.ensures.lawful (c.repair.ensures.does _))

pub returns-then-begins-9 : goal.returns-then-begins-9
returns-then-begins-9 g c =
    let p = begun (map string_bytes c.args.words.now) 6 (codes "pair") (sym c.begins-9.ensures ∙ c.if-begins-9.true) in
    rw (p.0, p.1, ← c.word-first.ensures, ← c.word-second.ensures, ← c.word-third.ensures, ← c.word-fourth.ensures, ← c.word-fifth.ensures)
    (does-job _ _ _ _ c.pair.ensures.lawful c.pair.ensures.does)

pub returns-then-begins-10 : goal.returns-then-begins-10
returns-then-begins-10 g c =
    let p = begun (map string_bytes c.args.words.now) 5 (codes "twice") (sym c.begins-10.ensures ∙ c.if-begins-10.true) in
    rw (p.0, p.1, ← c.word-first.ensures, ← c.word-second.ensures, ← c.word-third.ensures, ← c.word-fourth.ensures)
    (does-job _ _ _ _ c.twice.ensures.lawful c.twice.ensures.does)

pub returns : goal.returns
returns g c =
    rw (← c.begins.ensures, c.if-begins.false, ← c.begins-2.ensures, c.if-begins-2.false, ← c.begins-3.ensures, c.if-begins-3.false)
    (rw (← c.begins-4.ensures, c.if-begins-4.false, ← c.begins-5.ensures, c.if-begins-5.false, ← c.begins-6.ensures, c.if-begins-6.false)
    (rw (← c.begins-7.ensures, c.if-begins-7.false, ← c.begins-8.ensures, c.if-begins-8.false, ← c.begins-9.ensures, c.if-begins-9.false)
    (rw (← c.begins-10.ensures, c.if-begins-10.false)
    (does-none _))))
