use Rattle.std.proofs.Common.{◌≡◌, ◌<◌, ◌+◌, ℕ, true, false, Some, None, length, get_or, take, subst, sym, ap, ◌∙◌, arith, ◌||◌}
use Rattle.diag_evidence.proofs.Vocabulary.{length-set, has_number, IsLeadOf, crosses_along, held_up_at, is_only_unkept, parts}
use Rattle.diag_evidence.proofs.{Only.only_of, facts.Facts.mark_stuck.Goals.in-Some, facts.Facts.mark_stuck.Goals.in_default}
use Rattle.diag_evidence.proofs.Led.{held_not, held_none, held_one}
use Rattle.diag_evidence.proofs.facts.Facts.mark_stuck.Goals as goal

pub leads-preserved-then-not-parts : goal.leads-preserved-then-not-parts
leads-preserved-then-not-parts c =
    let bit : parts c.args.reads.now.rows c.index-leads-k.result.from c.index-leads-k.result.to ≡ c.parts.result = sym c.parts.ensures in
    record {
      marks = held_not c.args.reads.now.rows c.args.leads.now c.leads.k c.index-leads-k.result (omega arith) c.index-leads-k.is c.args.self.now c.leads.stuck c.args.stuck.now c.leads.invariant.marks (bit ∙ c.if-not-parts.true);
      len = c.leads.invariant.len;
    }

pub leads-preserved : goal.leads-preserved
leads-preserved c =
    let bit : parts c.args.reads.now.rows c.index-leads-k.result.from c.index-leads-k.result.to ≡ true = sym c.parts.ensures ∙ c.if-not-parts.false in
    let lead = subst (IsLeadOf c.args.self.now.shape) (sym c.index-leads-k.is) (c.requires.leads c.leads.k c.index-leads-k.result (omega arith)) in
    elim c.match-only_unkept.branch [
      | in-Some w ↦ (
          let only : is_only_unkept c.args.self.now (crosses_along c.index-leads-k.result) w.in-Some.cross.0 ≡ true = w.in-Some.ensures.one in
          let at = lead.crosses w.in-Some.cross.0 (only_of c.args.self.now (crosses_along c.index-leads-k.result) w.in-Some.cross.0 only).is_in in
          let within : w.in-Some.cross.0 < length c.leads.stuck = (let a = c.leads.invariant.len in let b = c.requires.stuck in omega (arith, at, a, b)) in
          record {
            marks = subst (λ s. (x : ℕ) → has_number s x ≡ (held_up_at c.args.self.now c.args.reads.now.rows (take (c.leads.k + 1) c.args.leads.now) x || has_number c.args.stuck.now x)) (sym (w.stuck-is ∙ w.insert.ensures))
                (held_one c.args.reads.now.rows c.args.leads.now c.leads.k c.index-leads-k.result (omega arith) c.index-leads-k.is c.args.self.now c.leads.stuck c.args.stuck.now c.leads.invariant.marks bit w.in-Some.cross.0 only within);
            len = ap length (w.stuck-is ∙ w.insert.ensures) ∙ length-set c.leads.stuck _ _ ∙ c.leads.invariant.len;
          })
      | in_default w ↦ record {
        marks = subst (λ s. (x : ℕ) → has_number s x ≡ (held_up_at c.args.self.now c.args.reads.now.rows (take (c.leads.k + 1) c.args.leads.now) x || has_number c.args.stuck.now x)) (sym w.stuck-is)
            (held_none c.args.reads.now.rows c.args.leads.now c.leads.k c.index-leads-k.result (omega arith) c.index-leads-k.is c.args.self.now c.leads.stuck c.args.stuck.now c.leads.invariant.marks bit (c.only_unkept.ensures.none w.in_default.is));
        len = ap length w.stuck-is ∙ c.leads.invariant.len;
      }
    ]
