use Rattle.std.proofs.Common.{◌≡◌, ◌≢◌, ◌<◌, ◌+◌, true, false, Option, Some, None, IfSome, length, take, sym, ap, ◌∙◌, subst, arith}
use Rattle.diag_evidence.proofs.Vocabulary.{take_all, nat_tests, Cross, among_at, crosses_along, is_only_unkept}
use Rattle.diag_evidence.proofs.Only.{AllKept, none_kept, kept_more, none_only, found_more, only_again, only_this, only_of, no_only, among_front}
use Rattle.diag_evidence.proofs.facts.Facts.only_unkept.Goals as goal
use Rattle.diag_evidence.proofs.facts.Facts.only_unkept.Goals.{in-Some+else-other-cross, in_default}

pub crosses-init : goal.crosses-init
crosses-init c = record { none = λ _. none_kept c.args.self.now; one = tt }

pub keeps_cross-requires : goal.keeps_cross-requires
keeps_cross-requires c = c.requires.crosses c.cross_at-cross.result.0 (among_at (crosses_along c.args.lead.now) c.crosses.k _ (omega arith) c.cross_at-cross.ensures)

pub crosses-preserved-then-keeps_cross : goal.crosses-preserved-then-keeps_cross
crosses-preserved-then-keeps_cross c =
    let kept = sym c.keeps_cross.ensures ∙ c.if-keeps_cross.true in
    record {
      none = λ e. kept_more c.args.self.now (crosses_along c.args.lead.now) c.crosses.k c.cross_at-cross.result.0 (omega arith) c.cross_at-cross.ensures kept (c.crosses.invariant.none e);
      one = found_more c.args.self.now (crosses_along c.args.lead.now) c.crosses.k c.cross_at-cross.result.0 (omega arith) c.cross_at-cross.ensures kept c.crosses.found c.crosses.invariant.one;
    }

pub crosses-preserved : goal.crosses-preserved
crosses-preserved c =
    let unkept = sym c.keeps_cross.ensures ∙ c.if-keeps_cross.false in
    let below : c.crosses.k < length (crosses_along c.args.lead.now) = omega arith in
    elim c.match-found.branch [
      | in-Some+else-other-cross w ↦ record {
        none = λ e. cc;
        one = only_again c.args.self.now (crosses_along c.args.lead.now) c.crosses.k c.cross_at-cross.result.0 below c.cross_at-cross.ensures w.in-Some.other.0
            (grind (arith, nat_tests, w.if-other-cross.false))
            (subst (λ (o : Option Cross). IfSome o (λ c'. is_only_unkept c.args.self.now (take c.crosses.k (crosses_along c.args.lead.now)) c'.0 ≡ true)) w.in-Some.is c.crosses.invariant.one);
      }
      | in_default w ↦ record {
        none = λ e. cc;
        one = only_this c.args.self.now (crosses_along c.args.lead.now) c.crosses.k c.cross_at-cross.result.0 below c.cross_at-cross.ensures unkept (c.crosses.invariant.none w.in_default.is);
      }
    ]

pub returns-then-other-cross-clause-none : goal.returns-then-other-cross-clause-none
returns-then-other-cross-clause-none c e x =
    let only : is_only_unkept c.args.self.now (take c.crosses.k (crosses_along c.args.lead.now)) c.in-Some.other.0 ≡ true =
    subst (λ (o : Option Cross). IfSome o (λ c'. is_only_unkept c.args.self.now (take c.crosses.k (crosses_along c.args.lead.now)) c'.0 ≡ true)) c.in-Some.is c.crosses.invariant.one in
    no_only c.args.self.now (crosses_along c.args.lead.now) c.crosses.k c.cross_at-cross.result.0 (omega arith) c.cross_at-cross.ensures (sym c.keeps_cross.ensures ∙ c.if-keeps_cross.false) c.in-Some.other.0
    (λ same. (let n = c.if-other-cross.true in grind (arith, nat_tests))) only
    (among_front (crosses_along c.args.lead.now) c.crosses.k c.in-Some.other.0 (only_of c.args.self.now (take c.crosses.k (crosses_along c.args.lead.now)) c.in-Some.other.0 only).is_in)
    (among_at (crosses_along c.args.lead.now) c.crosses.k _ (omega arith) c.cross_at-cross.ensures) x

pub returns-clause-none : goal.returns-clause-none
returns-clause-none c e = none_only c.args.self.now (crosses_along c.args.lead.now) (subst (AllKept c.args.self.now) (take_all c.crosses.k (crosses_along c.args.lead.now) (omega arith)) (c.crosses.invariant.none e))
