use Rattle.diag_evidence.proofs.Vocabulary.{◌≡◌, ◌≢◌, ℕ, true, false, sym, ◌∙◌, arith, false≢true, has_number}
use Rattle.diag_evidence.proofs.{KeptLemmas.number_below, Rows.below_next}
use Rattle.diag_evidence.proofs.trials.has_all.Goals as goal

pub wires-preserved-then-w-wire : goal.wires-preserved-then-w-wire
wires-preserved-then-w-wire c =
    below_next (λ u. has_number c.args.set.now u ≡ true → u ≢ c.args.wire → has_number c.args.row.now u ≡ true) c.wires.w c.wires.invariant (λ on differ. absurd (differ c.if-w-wire.true))

pub wires-preserved-then-not-has : goal.wires-preserved-then-not-has
wires-preserved-then-not-has c =
    below_next (λ u. has_number c.args.set.now u ≡ true → u ≢ c.args.wire → has_number c.args.row.now u ≡ true) c.wires.w c.wires.invariant
    (λ on differ. absurd (false≢true (sym (sym c.has.ensures ∙ c.if-not-has.true) ∙ on)))

pub returns-then-not-has-2-clause-no : goal.returns-then-not-has-2-clause-no
returns-then-not-has-2-clause-no c = λ e. (c.wires.w, sym c.has.ensures ∙ c.if-not-has.false, c.if-w-wire.false, sym c.has-in-wires.ensures ∙ c.if-not-has-2.true)

pub wires-preserved : goal.wires-preserved
wires-preserved c =
    below_next (λ u. has_number c.args.set.now u ≡ true → u ≢ c.args.wire → has_number c.args.row.now u ≡ true) c.wires.w c.wires.invariant
    (λ on differ. sym c.has-in-wires.ensures ∙ c.if-not-has-2.false)

pub returns-clause-yes : goal.returns-clause-yes
returns-clause-yes c = λ is w on differ. (let below = number_below c.args.set.now w on in c.wires.invariant w (omega (arith, below)) on differ)
