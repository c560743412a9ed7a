use Rattle.design_vectors.proofs.Vocabulary.{◌≡◌, ℕ, length, refl, subst, arith, Onward, HasRead}
use Rattle.design_vectors.proofs.StepLemmas.{none-read, one-more}
use Rattle.design_vectors.proofs.line.read_bytes.Goals as goal

pub returns-in_default : goal.returns-in_default
returns-in_default c = record {
  read = one-more _ _ _ _ _ _ _ c.bytes-test.true refl c.bytes.invariant c.take.ensures;
  all = λ e. absurd (c.in_default.not-Onward e);
}

pub returns : goal.returns
returns c = record {
  all = λ _. refl;
  read = let all : c.bytes.k ≡ length c.args.bytes.now = omega arith in
      subst (λ (n : ℕ). HasRead Onward c.args.bytes.now n c.args.line.now c.bytes.line) all c.bytes.invariant;
}

pub bytes-init : goal.bytes-init
bytes-init c = none-read _ _

pub bytes-preserved : goal.bytes-preserved
bytes-preserved c = one-more _ _ _ _ _ _ _ c.bytes-test.true refl c.bytes.invariant c.in-Onward.ensures
