use Rattle.machine_shape.proofs.Vocabulary.{◌∙◌, refl, sym, ◌+◌, subst, arith, Level, stop, path_of, IsRead, IsReadable}
use Rattle.machine_shape.proofs.{Running.after_first, Dotted.dot_found, Dotted.dot_missing, Dotted.not_both}
use Rattle.machine_shape.proofs.Readable.{ends_without_levels, ends_without_letters, step_of, read_step}
use Rattle.machine_shape.proofs.reads.+read_steps.Goals as goal

-- the level that an index past the end would give
abbrev none : Level
none = record { ports = 0; lines = 0; children = 0 }

pub returns-in_default-clause-some : goal.returns-in_default-clause-some
returns-in_default-clause-some t c = record { spot = stop; within = omega arith; named = refl; undotted = dot_missing c.args.text.now c.in_default.ensures }

pub returns-in-empty-clause-none : goal.returns-in-empty-clause-none
returns-in-empty-clause-none t c = λ r. not_both c.args.text.now c.in-Some.dot (dot_found c.args.text.now c.in-Some.dot c.in-Some.ensures) (ends_without_levels c.args.levels.now c.args.letters.now c.args.text.now c.in-empty.len_below r)

pub returns-in-empty-letters-clause-none : goal.returns-in-empty-letters-clause-none
returns-in-empty-letters-clause-none t c = λ r. not_both c.args.text.now c.in-Some.dot (dot_found c.args.text.now c.in-Some.dot c.in-Some.ensures) (ends_without_letters c.args.levels.now c.args.letters.now c.args.text.now c.in-empty-letters.len_below r)

pub returns-in_default-read_numbered-clause-none : goal.returns-in_default-read_numbered-clause-none
returns-in_default-read_numbered-clause-none t c = λ r.
    let at = dot_found c.args.text.now c.in-Some.dot c.in-Some.ensures in
    let s = step_of c.args.levels.now c.args.letters.now c.args.text.now none c.in-Some.dot c.in-len1-up.len_at_least c.in-len1-up-letters.len_at_least c.requires.letters (omega arith) at r in
    c.in_default-read_numbered.ensures.none s.child s.within (c.text_before.ensures ∙ s.word)

pub returns-in_default-read_steps-clause-none : goal.returns-in_default-read_steps-clause-none
returns-in_default-read_steps-clause-none t c = λ r.
    let at = dot_found c.args.text.now c.in-Some.dot c.in-Some.ensures in
    let s = step_of c.args.levels.now c.args.letters.now c.args.text.now none c.in-Some.dot c.in-len1-up.len_at_least c.in-len1-up-letters.len_at_least c.requires.letters (omega arith) at r in
    c.in_default-read_steps.ensures.none (subst (IsReadable (after_first c.args.levels.now) (after_first c.args.letters.now)) (sym c.after.ensures) s.below)

pub returns-in-Some-read_steps-clause-some : goal.returns-in-Some-read_steps-clause-some
returns-in-Some-read_steps-clause-some t c =
    let at = dot_found c.args.text.now c.in-Some.dot c.in-Some.ensures in
    subst (λ p. IsRead c.args.levels.now c.args.letters.now c.args.text.now p (c.in-Some.dot + 1 + c.in-Some-read_steps.read.last)) (sym c.way_under.ensures.path)
    (read_step c.args.levels.now c.args.letters.now c.args.text.now none c.in-Some.dot c.in-Some-read_numbered.child c.in-Some-read_steps.read.last _ c.in-len1-up.len_at_least c.in-len1-up-letters.len_at_least at
    c.in-Some-read_numbered.ensures.some.1 (sym c.text_before.ensures ∙ c.in-Some-read_numbered.ensures.some.0)
    (subst (λ k. IsRead (after_first c.args.levels.now) (after_first c.args.letters.now) k (path_of c.in-Some-read_steps.read.way) c.in-Some-read_steps.read.last) c.after.ensures c.in-Some-read_steps.ensures.some))
