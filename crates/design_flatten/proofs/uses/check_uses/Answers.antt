use Rattle.design_flatten.proofs.Vocabulary.{subst, sym, None, err_from_is_err_and, IsUnknown, IsWronglyGiven, IsFirstUse}
use Rattle.design_flatten.proofs.RuleLemmas.{keeps, all_known, all_given}
use Rattle.design_flatten.proofs.uses.check_uses.Goals as goal

pub returns-in_err-check_names-clause-only : goal.returns-in_err-check_names-clause-only
returns-in_err-check_names-clause-only c =
    let p = err_from_is_err_and c.from_residual-in_err-check_names.result c.from_residual-in_err-check_names.ensures.1 in
    λ rules. rw (p.1, p.2) (c.in_err-check_names.ensures.only (subst (λ ms. IsFirstUse ms (IsUnknown ms) None) (sym c.in_ok-catalog.ensures.models) (all_known c.args.models.now rules)))

pub returns-in_err-check_formals-clause-only : goal.returns-in_err-check_formals-clause-only
returns-in_err-check_formals-clause-only c =
    let p = err_from_is_err_and c.from_residual-in_err-check_formals.result c.from_residual-in_err-check_formals.ensures.1 in
    λ rules. rw (p.1, p.2) (c.in_err-check_formals.ensures.only (subst (λ ms. IsFirstUse ms (IsWronglyGiven ms) None) (sym c.in_ok-catalog.ensures.models) (all_given c.args.models.now rules)))

pub returns-clause-ok : goal.returns-clause-ok
returns-clause-ok c =
    keeps c.args.models.now
    (subst (λ ms. IsFirstUse ms (IsUnknown ms) None) c.in_ok-catalog.ensures.models c.in_ok-check_names.ensures.ok)
    (subst (λ ms. IsFirstUse ms (IsWronglyGiven ms) None) c.in_ok-catalog.ensures.models c.in_ok-check_formals.ensures.ok)
    c.in_ok-check_recursion.ensures.ok
