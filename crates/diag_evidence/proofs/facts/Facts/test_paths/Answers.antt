use Rattle.diag_evidence.proofs.Vocabulary.{◌≡◌, ◌∙◌, ◌||◌, ℕ, All, ap, refl, subst, sym, has_number}
use Rattle.diag_evidence.specs.Vocabulary.{IsLeadOf, Kept, Gains, held_up_at, led_over, these_crosses}
use Rattle.diag_evidence.proofs.{Advancing.advances_by, Closing.leads_of, Led.led_holds, Led.marked_stuck, Led.newly_stuck}
use Rattle.diag_evidence.proofs.facts.Facts.test_paths.Goals as goal

pub look_along-requires-clause-leads : goal.look_along-requires-clause-leads
look_along-requires-clause-leads g c = leads_of c.args.forest.now c.args.leads.now c.shape-shape.ensures.forest c.requires.branch

pub mark_stuck-requires-clause-leads : goal.mark_stuck-requires-clause-leads
mark_stuck-requires-clause-leads g c =
    subst (λ m. All (IsLeadOf m) c.args.leads.now) (c.requires.knows.keeps.shape ∙ ap (λ (k : Kept). k.shape) (sym c.in_ok-look_along.ensures.same))
    (leads_of c.args.forest.now c.args.leads.now c.shape-shape.ensures.forest c.requires.branch)

pub keep_led-requires-clause-leads : goal.keep_led-requires-clause-leads
keep_led-requires-clause-leads g c =
    subst (λ m. All (IsLeadOf m) c.args.leads.now) (c.requires.knows.keeps.shape ∙ ap (λ (k : Kept). k.shape) (sym c.in_ok-look_along.ensures.same))
    (leads_of c.args.forest.now c.args.leads.now c.shape-shape.ensures.forest c.requires.branch)

pub returns-clause-led_each : goal.returns-clause-led_each
returns-clause-led_each g c = λ f e. record {
  rows = c.look_along.new.reads.rows;
  look = c.in_ok-look_along.ensures.looked_each f e;
  gains = subst (λ (k : Kept). Gains (these_crosses (led_over c.look_along.new.reads.rows c.args.leads.now)) k c.keep_led.new.self) c.in_ok-look_along.ensures.same c.keep_led.ensures;
  marks = subst (λ (k : Kept). (x : ℕ) → has_number c.mark_stuck.new.stuck x ≡ (held_up_at k c.look_along.new.reads.rows c.args.leads.now x || has_number c.args.stuck.now x)) c.in_ok-look_along.ensures.same c.mark_stuck.ensures.marks;
}

pub returns-clause-logged : goal.returns-clause-logged
returns-clause-logged g c = record {
  rows = c.look_along.new.reads.rows;
  look = c.in_ok-look_along.ensures.logged;
  gains = subst (λ (k : Kept). Gains (these_crosses (led_over c.look_along.new.reads.rows c.args.leads.now)) k c.keep_led.new.self) c.in_ok-look_along.ensures.same c.keep_led.ensures;
  marks = subst (λ (k : Kept). (x : ℕ) → has_number c.mark_stuck.new.stuck x ≡ (held_up_at k c.look_along.new.reads.rows c.args.leads.now x || has_number c.args.stuck.now x)) c.in_ok-look_along.ensures.same c.mark_stuck.ensures.marks;
}

pub returns-clause-advances : goal.returns-clause-advances
returns-clause-advances g c =
    advances_by (these_crosses (led_over c.look_along.new.reads.rows c.args.leads.now)) c.in_ok-look_along.ensures.loads.machine c.in_ok-look_along.ensures.loads.later c.in_ok-look_along.ensures.loads.counted c.in_ok-look_along.ensures.few
    (subst (λ (k : Kept). Gains (these_crosses (led_over c.look_along.new.reads.rows c.args.leads.now)) k c.keep_led.new.self) c.in_ok-look_along.ensures.same c.keep_led.ensures) c.in_ok-look_along.ensures.loads.narrows c.in_ok-look_along.ensures.loads.tells
    (λ f e. led_holds _ c.args.self.now c.args.forest.now c.look_along.new.reads.rows c.args.leads.now c.shape-shape.ensures.forest c.requires.branch c.requires.knows (c.in_ok-look_along.ensures.looked_each f e) f refl)

pub returns-clause-newly_each : goal.returns-clause-newly_each
returns-clause-newly_each g c = λ f e.
    newly_stuck _ c.args.self.now c.args.forest.now c.look_along.new.reads.rows c.args.leads.now c.shape-shape.ensures.forest c.requires.branch c.requires.knows (c.in_ok-look_along.ensures.looked_each f e)
    c.args.stuck.now c.mark_stuck.new.stuck
    (subst (λ (k : Kept). (x : ℕ) → has_number c.mark_stuck.new.stuck x ≡ (held_up_at k c.look_along.new.reads.rows c.args.leads.now x || has_number c.args.stuck.now x)) c.in_ok-look_along.ensures.same c.mark_stuck.ensures.marks)

pub returns-clause-stuck_each : goal.returns-clause-stuck_each
returns-clause-stuck_each g c = λ f e.
    marked_stuck _ c.args.self.now c.args.forest.now c.look_along.new.reads.rows c.args.leads.now c.shape-shape.ensures.forest c.requires.branch c.requires.knows (c.in_ok-look_along.ensures.looked_each f e)
    c.args.stuck.now c.mark_stuck.new.stuck c.keep_led.new.self
    (subst (λ (k : Kept). Gains (these_crosses (led_over c.look_along.new.reads.rows c.args.leads.now)) k c.keep_led.new.self) c.in_ok-look_along.ensures.same c.keep_led.ensures)
    (subst (λ (k : Kept). (x : ℕ) → has_number c.mark_stuck.new.stuck x ≡ (held_up_at k c.look_along.new.reads.rows c.args.leads.now x || has_number c.args.stuck.now x)) c.in_ok-look_along.ensures.same c.mark_stuck.ensures.marks)
