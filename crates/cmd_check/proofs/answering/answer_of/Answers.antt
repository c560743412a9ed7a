use Rattle.cmd_check.proofs.Vocabulary.{ℕ, ◌<◌, ◌++◌, None, IsSome, length, refl, subst, ⊎_elim, false≢true, cases_lt, Shape, Faults}
use Rattle.cmd_check.proofs.Vocabulary.{Covers, IsTight, Configuration, setting_of, at_pin, at_tap, at_line, at_table, Answer}
use Rattle.std.proofs.lemmas.List.{get_or_past, Elements.Contains-get_or}
use Rattle.machine_defects.proofs.Marks.{has_below}
use Rattle.cmd_check.specs.Answers.{IsOfMachine, IsByList, WiresAreFree, CrossesAreFree, IsTrueUnder, IsAnswer}
use Rattle.cmd_check.specs.declared.answer.Answer.TheVariants as answer
use Rattle.cmd_check.proofs.answering.answer_of.Goals as goal
use Rattle.cmd_check.proofs.answering.answer_of.Goals.{In_ok-used, In_default, In_default-first_cross}

-- where no marked wire is in doubt, no used one is
wires : (c : In_default) → WiresAreFree c.args.list.now.list c.args.image.now
wires c w uses =
    let are = c.in_ok-used.ensures.used in
    let marked = are.all w uses in
    c.in_default.ensures.none w (rw c.requires (subst (λ n. w < n) are.len (has_below c.in_ok-used.used w marked))) marked

crosses : (c : In_default-first_cross) → CrossesAreFree c.args.list.now.list c.args.image.now
crosses c x closed =
    let none = rw (c.config-config.ensures.config, c.requires) at c.in_default-first_cross.ensures.none in
    none x (c.in_ok-used.ensures.right.config.crosses x closed) closed

some-within : (g : Configuration) (t : ℕ) → IsSome (setting_of g t) → t < length g.tables
some-within g t on = ⊎_elim (λ l. l) (λ l. absurd (false≢true (subst (λ o. IsSome o) (get_or_past g.tables t None l) on)))
    (cases_lt t (length g.tables))

-- what the list says is true of all faults that it covers and is tight to
module _ (c : In_ok-used) (f : Faults) (tight : IsTight c.args.image.now.config.shape c.args.list.now.list f) where
  is-true : (a : Answer) → IsOfMachine c.args.image.now.config.shape a → IsByList c.args.list.now.list c.args.image.now a →
      Covers c.args.image.now.config.shape c.args.list.now.list f → IsTrueUnder f c.args.image.now a
  is-true answer.Sound of free covers = c.free_images_run_soundly.ensures _ f _ c.in_ok-used.ensures.right free covers
  is-true (answer.Wire w) of first covers = record {
    not_standing = λ is. first.not_free (c.tight_lists_are_fair.ensures.wires _ _ f tight w.0 is);
    not_served = λ is. first.not_free ((c.tight_lists_are_fair.ensures.fair _ _ f tight).wires w.0 of is.1 is.0 is.2);
  }
  is-true (answer.Cross x) of by covers = record {
    not_standing = λ is. by.1.not_free (c.tight_lists_are_fair.ensures.between _ _ f tight x.0 of is.0 is.1 is.2);
    not_served = λ is. by.1.not_free (record {
      itself = (c.tight_lists_are_fair.ensures.fair _ _ f tight).crosses x.0 of is.1 is.0;
      tap = by.0 _ (at_tap x.0 by.1.itself refl);
      line = by.0 _ (at_line x.0 by.1.itself refl);
    });
  }
  is-true (answer.Table t) of by covers = record {
    not_standing = λ is. by.2.not_free (c.tight_lists_are_fair.ensures.tables _ _ f tight t.0 of is.0 is.1);
    not_served = λ is. by.2.not_free (record {
      itself = (c.tight_lists_are_fair.ensures.fair _ _ f tight).tables t.0 of is.1 is.0;
      pins = λ k l. by.0 _ (at_table t.0 k by.2.itself l refl);
    });
  }

answered : (c : In_ok-used) (a : Answer) → IsOfMachine c.args.list.now.shape a → IsByList c.args.list.now.list c.args.image.now a →
    IsAnswer c.args.list.now c.args.image.now a
answered c a of by =
    let within = subst (λ (m : Shape). IsOfMachine m a) c.requires of in
    record { by_list = by; right = λ f covers tight. is-true c f (rw c.requires at tight) a within by (rw c.requires at covers) }

pub returns-in-Some-clause-answer : goal.returns-in-Some-clause-answer
returns-in-Some-clause-answer c =
    let are = c.in_ok-used.ensures.used in
    let first = c.in-Some.ensures.first in
    answered (goal.at.returns-in-Some-clause-answer c).In_ok-used (answer.Wire c.in-Some.wire) c.in-Some.ensures.within
    (record { itself = are.only _ first.itself; not_free = first.not_free; before = λ u l uses. first.before u l (are.all u uses) })

pub returns-in-Some-first_cross-clause-answer : goal.returns-in-Some-first_cross-clause-answer
returns-in-Some-first_cross-clause-answer c =
    let at = goal.at.returns-in-Some-first_cross-clause-answer c in
    let e = c.in-Some-first_cross.ensures in
    answered at.In_ok-used (answer.Cross c.in-Some-first_cross.cross) e.within
    (wires at.In_default, rw (c.config-config.ensures.config, c.requires) at e.first)

pub returns-in-Some-first_table-clause-answer : goal.returns-in-Some-first_table-clause-answer
returns-in-Some-first_table-clause-answer c =
    let at = goal.at.returns-in-Some-first_table-clause-answer c in
    let e = c.in-Some-first_table.ensures in
    answered at.In_ok-used (answer.Table c.in-Some-first_table.table) e.within
    (wires at.In_default, crosses at.In_default-first_cross, rw (c.config-config.ensures.config, c.requires) at e.first)

pub returns-clause-answer : goal.returns-clause-answer
returns-clause-answer c =
    let at = goal.at.returns-clause-answer c in
    let i = c.args.image.now in
    let tables = c.in_ok-used.ensures.right.config.tables in
    let none = rw (c.config-config.ensures.config, c.requires) at c.in_default-first_table.ensures.none in
    answered at.In_ok-used answer.Sound tt (record {
      crosses = crosses at.In_default-first_cross;
      tables = λ t on. none t (subst (λ n. t < n) tables (some-within i.config t on)) on;
      pins = λ k e l. wires at.In_default _ (at_pin _ (Contains-get_or (i.inputs ++ i.outputs) k e l) refl);
    })
