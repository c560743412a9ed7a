use Rattle.machine_image.proofs.Vocabulary.{◌<◌, subst, sym, ap, ◌∙◌, Cross, crosses_of, IsFreeCross, is_closed}
use Rattle.machine_image.proofs.Keyed.{of_set, to_set}
use Rattle.machine_image.proofs.touch.crosses_are_free.Goals as goal

pub free_crosses-requires : goal.free_crosses-requires
free_crosses-requires c =
    let e = c.config-config.ensures.config in
    of_set (λ (x : Cross). x.0) c.closed.result.now (λ q. is_closed c.config-config.result.now.config q) c.closed.ensures (λ q. q < crosses_of c.args.defects.now.shape)
    (λ q is. subst (λ m. q < crosses_of m) (sym c.requires) (c.config-config.ensures.right.config.crosses q (ap (λ g. is_closed g q) (sym e) ∙ is)))

pub returns : goal.returns
returns c =
    let e = c.config-config.ensures.config in
    let m = c.args.defects.now.shape in
    let d = c.args.defects.now.list in (
      λ t x is. subst (λ z. IsFreeCross z d x) c.requires (to_set (λ (x : Cross). x.0) c.closed.result.now (λ q. is_closed c.config-config.result.now.config q) c.closed.ensures (λ q. IsFreeCross m d q) (c.free_crosses.ensures.0 t) x (ap (λ g. is_closed g x) e ∙ is)),
      λ h. c.free_crosses.ensures.1 (of_set (λ (x : Cross). x.0) c.closed.result.now (λ q. is_closed c.config-config.result.now.config q) c.closed.ensures (λ q. IsFreeCross m d q) (λ q is. subst (λ z. IsFreeCross z d q) (sym c.requires) (h q (ap (λ g. is_closed g q) (sym e) ∙ is)))),
    )
