use Rattle.std.proofs.Common.{rules, ◌≡◌, ◌∙◌, ◌++◌, List, refl, sym, ap, subst, length, take, drop, arith}
use Rattle.rig_doubled.proofs.Vocabulary.{false≢true, Pins, GoesOnBy, Machine, HaveWidth, narrows_cycles}
use Rattle.rig_doubled.proofs.Keeping.{many_still, wide_still, refill}
use Rattle.rig_doubled.proofs.{Pairing.read_alike_by, Pairing.explained_reads_by, Pairing.both_go_on_by, pairs.drive_both_by.Given.Over}
use Rattle.rig_doubled.proofs.pairs.drive_both_by.Goals as goal

module _ (g : Over) (c : goal.After-are_same g) where
  abbrev rows : List Pins
  rows = c.read_others.new.others

  abbrev front : List Pins
  front = take (length c.args.drives.now) rows

  many : length rows ≡ length c.args.pair.now.others.items
  many = many_still c.deref_mut.result.now rows c.read_others.ensures.lengths ∙ ap length c.deref_mut.ensures.value

  full : take c.args.pair.now.others.len (rows ++ drop (length rows) c.args.pair.now.others.items) ≡ rows
  full = refill c.args.pair.now.others.len rows c.args.pair.now.others.items (many ∙ sym c.args.pair.now.others.ok.0)

  seen : take (length c.args.drives.now) c.deref.result.now ≡ front
  seen = ap (take (length c.args.drives.now)) (c.deref.ensures.value ∙ full)

  goes : GoesOnBy c.args.drives.now c.cycles.new.reads (g.A.Rig.rig_state c.args.first.now) (g.A.Rig.rig_state c.cycles.new.self)
  goes = search rules

  also : GoesOnBy c.args.drives.now front (g.B.Rig.rig_state c.args.second.now) (g.B.Rig.rig_state c.read_others.new.second)
  also = search rules

pub returns-clause-caused : goal.returns-clause-caused
returns-clause-caused g c = λ f one other differs.
    let same : c.cycles.new.reads ≡ front g c = read_alike_by c.requires.paired (ap (λ (m : Machine). m.faults) c.cycles.ensures.machine ∙ one) (ap (λ (m : Machine). m.faults) c.read_others.ensures.machine ∙ other)
    c.args.drives.now c.cycles.new.reads (front g c) (goes g c) (also g c) in
    absurd (false≢true (sym differs ∙ c.are_same.ensures.1 (same ∙ sym (seen g c))))

pub returns-clause-goes_on : goal.returns-clause-goes_on
returns-clause-goes_on g c = λ yes.
    let same : front g c ≡ c.cycles.new.reads = sym (c.are_same.ensures.0 yes ∙ seen g c) in
    let second = subst (λ (rs : List Pins). GoesOnBy c.args.drives.now rs (g.B.Rig.rig_state c.args.second.now) (g.B.Rig.rig_state c.read_others.new.second)) same (also g c) in
    let wide = wide_still (length c.args.pair.now.read) c.deref_mut.result.now (rows g c) c.read_others.ensures.lengths (subst (HaveWidth (length c.args.pair.now.read)) (sym c.deref_mut.ensures.value) c.requires.paired.rows) in
    both_go_on_by c.args.pair.now _ (g.A.Rig.rig_state c.args.first.now) (g.A.Rig.rig_state c.cycles.new.self) (g.B.Rig.rig_state c.args.second.now) (g.B.Rig.rig_state c.read_others.new.second)
    c.requires.paired (subst (HaveWidth (length c.args.pair.now.read)) (sym (full g c)) wide) (ap length (full g c) ∙ many g c) refl refl
    c.args.drives.now c.cycles.new.reads (omega (arith, c.requires.some)) (goes g c) second

pub returns-clause-no_alarm : goal.returns-clause-no_alarm
returns-clause-no_alarm g c = λ f one other differs.
    let same : c.cycles.new.reads ≡ front g c = explained_reads_by c.requires.paired one other c.args.drives.now c.cycles.new.reads (front g c) (goes g c) (also g c) in
    absurd (false≢true (sym differs ∙ c.are_same.ensures.1 (same ∙ sym (seen g c))))

pub returns-then-is_err-clause-first_narrows : goal.returns-then-is_err-clause-first_narrows
returns-then-is_err-clause-first_narrows g c = narrows_cycles c.args.drives.now c.cycles.new.reads c.cycles.result c.cycles.ensures.machine c.cycles.ensures.cycles c.cycles.ensures.refused

pub returns-then-is_err-2-clause-first_narrows : goal.returns-then-is_err-2-clause-first_narrows
returns-then-is_err-2-clause-first_narrows g c = narrows_cycles c.args.drives.now c.cycles.new.reads c.cycles.result c.cycles.ensures.machine c.cycles.ensures.cycles c.cycles.ensures.refused

pub returns-clause-first_narrows : goal.returns-clause-first_narrows
returns-clause-first_narrows g c = narrows_cycles c.args.drives.now c.cycles.new.reads c.cycles.result c.cycles.ensures.machine c.cycles.ensures.cycles c.cycles.ensures.refused
