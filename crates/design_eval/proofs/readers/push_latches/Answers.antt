use Rattle.design_eval.proofs.Vocabulary.{◌+◌, ℕ, List, take, sym, subst, refl, arith, Contains, take_all, HaveKeys}
use Rattle.std.proofs.lemmas.List.Elements.{Contains-append_left}
use Rattle.design_eval.proofs.ReaderLemmas.{latches-more}
use Rattle.design_eval.proofs.readers.push_latches.Goals as goal

pub reads-preserved : goal.reads-preserved
reads-preserved c = (
  λ key has. subst (λ (xs : List ℕ). Contains xs key) (sym c.in_ok-push.ensures.items) (Contains-append_left c.reads.keys.items _ key (c.reads.invariant.0 key has)),
  subst (HaveKeys c.args.first (take (c.reads.k + 1) c.args.reads.now)) (sym c.in_ok-push.ensures.items)
      (latches-more c.args.first c.args.reads.now c.reads.k c.reads.keys.items _ c.reads-test.true c.reads.invariant.1 refl),
)

pub returns-clause-keys : goal.returns-clause-keys
returns-clause-keys c = subst (λ (xs : List ℕ). HaveKeys c.args.first xs c.reads.keys.items) (take_all c.reads.k c.args.reads.now (omega (arith, c.reads-test.false))) c.reads.invariant.1
