use Rattle.std.proofs.Common.{◌≡◌, ◌∙◌, List, length, map, string_bytes, Bool, false, sym, subst, arith, Global}
use Rattle.cmd_map.proofs.Vocabulary.{list_any, outside, Asked, DoesAsked, is_dashed, does-none, does-job, list_any-map}
use Rattle.std.proofs.lemmas.List.{length-map}
use Rattle.cmd_map.proofs.Fronts.{one-asked, three-asked, none-asked}
use Rattle.cmd_map.proofs.program.work.Goals as goal

pub returns-then-some_begins_dashed : goal.returns-then-some_begins_dashed
returns-then-some_begins_dashed g c =
    let test = list_any-map is_dashed (string_bytes {Z = Global}) c.args.words.now in
    λ rig. rw (test, ← c.some_begins_dashed.ensures, c.if-some_begins_dashed.true) (does-none _)

pub returns-then-words-eq1 : goal.returns-then-words-eq1
returns-then-words-eq1 g c =
    let test = list_any-map is_dashed (string_bytes {Z = Global}) c.args.words.now in
    let dashed = test ∙ (sym c.some_begins_dashed.ensures ∙ c.if-some_begins_dashed.false) in
    let words = map (string_bytes {Z = Global}) c.args.words.now in
    let count = length-map c.args.words.now (string_bytes {Z = Global}) ∙ c.if-words-eq1.true in
    let asked = one-asked words dashed c.word-first.result.now count c.word-first.ensures in
    λ rig. rw (← asked) (does-job _ _ _ _ c.map_design.ensures.lawful (c.map_design.ensures.does rig))

pub returns-then-words-eq3 : goal.returns-then-words-eq3
returns-then-words-eq3 g c =
    let test = list_any-map is_dashed (string_bytes {Z = Global}) c.args.words.now in
    let dashed = test ∙ (sym c.some_begins_dashed.ensures ∙ c.if-some_begins_dashed.false) in
    let words = map (string_bytes {Z = Global}) c.args.words.now in
    let count = length-map c.args.words.now (string_bytes {Z = Global}) ∙ c.if-words-eq3.true in
    let asked = three-asked words dashed c.word-first.result.now c.word-second.result.now c.word-third.result.now count
    c.word-first.ensures c.word-second.ensures c.word-third.ensures in
    λ rig. rw (← asked) (does-job _ _ _ _ c.fit_design.ensures.lawful (c.fit_design.ensures.does rig))

pub returns : goal.returns
returns g c =
    let test = list_any-map is_dashed (string_bytes {Z = Global}) c.args.words.now in
    let dashed = test ∙ (sym c.some_begins_dashed.ensures ∙ c.if-some_begins_dashed.false) in
    let words = map (string_bytes {Z = Global}) c.args.words.now in
    let same = length-map c.args.words.now (string_bytes {Z = Global}) in
    let one = c.if-words-eq1.false in
    let three = c.if-words-eq3.false in
    let asked = none-asked words dashed (λ is. omega (arith, same, is, one)) (λ is. omega (arith, same, is, three)) in
    λ rig. rw (← asked) (does-none _)
