use Rattle.design_eval.proofs.Vocabulary.{◌≡◌, ℕ, List, take, length, get_or, arith, ap, subst, ◌∙◌, length-set, take_all}
use Rattle.design_eval.proofs.TableLemmas.{wires-more, rest-more}
use Rattle.design_eval.proofs.tables.wires_of.Goals as goal

pub ins-preserved : goal.ins-preserved
ins-preserved c =
    let size = ap (λ (xs : List ℕ). length xs) c.as_slice-ins.ensures in
    let x : ℕ = get_or c.as_slice-ins.result.now c.ins.k 0 in (
      length-set c.ins.wires c.ins.k x ∙ c.ins.invariant.0,
      wires-more c.ins.wires c.as_slice-ins.result.now c.ins.k (omega (arith, c.ins.invariant.0, size, c.requires.few)) c.ins-test.true c.ins.invariant.1,
      rest-more c.ins.wires c.ins.k x c.args.cover.now.out c.ins.invariant.2,
    )

pub returns : goal.returns
returns c =
    let size = ap (λ (xs : List ℕ). length xs) c.as_slice-ins.ensures in
    let all : c.ins.k ≡ length c.args.cover.now.ins = omega (arith, size) in
    record {
      len = c.ins.invariant.0;
      ins = subst (λ (n : ℕ). take n c.ins.wires ≡ c.args.cover.now.ins) all (c.ins.invariant.1 ∙ take_all c.ins.k c.as_slice-ins.result.now c.ins-test.false ∙ c.as_slice-ins.ensures);
      rest = λ k lo hi. c.ins.invariant.2 k (omega arith) hi;
    }
