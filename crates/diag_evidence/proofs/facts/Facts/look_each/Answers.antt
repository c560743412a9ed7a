use Rattle.diag_evidence.proofs.Vocabulary.{◌≡◌, subst, refl, Kept, Gains, seen_in}
use Rattle.diag_evidence.proofs.{Advancing.advances_by, Seeing.look_holds, Seeing.no_feet, Seeing.no_feet_logged}
use Rattle.diag_evidence.proofs.facts.Facts.look_each.Goals as goal

pub returns-clause-seen_each : goal.returns-clause-seen_each
returns-clause-seen_each g c = λ f e. record {
  rows = c.look.new.reads.rows;
  look = no_feet _ c.args.forest.now c.look.new.reads.rows (c.in_ok-look.ensures.looked_each f e);
  gains = subst (λ (k : Kept). Gains (seen_in c.args.forest.now c.look.new.reads.rows) k c.keep_seen.new.self) c.in_ok-look.ensures.same c.keep_seen.ensures;
}

pub returns-clause-logged : goal.returns-clause-logged
returns-clause-logged g c = record {
  rows = c.look.new.reads.rows;
  look = no_feet_logged c.args.forest.now c.look.new.reads.rows _ _ c.in_ok-look.ensures.logged;
  gains = subst (λ (k : Kept). Gains (seen_in c.args.forest.now c.look.new.reads.rows) k c.keep_seen.new.self) c.in_ok-look.ensures.same c.keep_seen.ensures;
}

pub returns-clause-advances : goal.returns-clause-advances
returns-clause-advances g c =
    advances_by (seen_in c.args.forest.now c.look.new.reads.rows) c.in_ok-look.ensures.loads.machine c.in_ok-look.ensures.loads.later c.in_ok-look.ensures.loads.counted c.in_ok-look.ensures.few
    (subst (λ (k : Kept). Gains (seen_in c.args.forest.now c.look.new.reads.rows) k c.keep_seen.new.self) c.in_ok-look.ensures.same c.keep_seen.ensures) c.in_ok-look.ensures.loads.narrows c.in_ok-look.ensures.loads.tells
    (λ f e. look_holds _ c.args.self.now c.args.forest.now c.look.new.reads.rows c.shape-shape.ensures.forest c.requires.forest c.requires.hang (no_feet _ c.args.forest.now c.look.new.reads.rows (c.in_ok-look.ensures.looked_each f e)) f refl)
