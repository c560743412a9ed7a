use Rattle.place_repair.proofs.Vocabulary.{◌≡◌, ◌<◌, sym, ap, ◌∙◌, subst, arith, crosses_of, IsCrossRest}
use Rattle.place_repair.proofs.Resting.{crosses_begin, crosses_more}
use Rattle.place_repair.proofs.rest.list_crosses.Goals as goal

pub free_cross-free-requires : goal.free_cross-free-requires
free_cross-free-requires c = subst (λ n. c.loop-x.x < n) (c.crosses-x-end.ensures.crosses ∙ ap crosses_of c.shape.ensures.shape) c.loop-x-test.true

pub list_cross_unless-requires : goal.list_cross_unless-requires
list_cross_unless-requires c = subst (λ n. c.loop-x.x < n) (c.crosses-x-end.ensures.crosses ∙ ap crosses_of (c.shape.ensures.shape ∙ sym (c.loop-x.invariant.shape ∙ c.requires))) c.loop-x-test.true

pub loop-x-init : goal.loop-x-init
loop-x-init c = crosses_begin c.args.defects.now c.args.rest.now

pub loop-x-preserved : goal.loop-x-preserved
loop-x-preserved c = crosses_more c.args.defects.now c.args.rest.now c.loop-x.x c.free_cross-free.result c.loop-x.rest c.list_cross_unless.new.rest c.requires c.loop-x.invariant c.free_cross-free.ensures c.list_cross_unless.ensures.listed c.list_cross_unless.ensures.kept

pub returns : goal.returns
returns c =
    let e : c.crosses-x-end.result ≡ crosses_of c.args.defects.now.shape = c.crosses-x-end.ensures.crosses ∙ ap crosses_of c.shape.ensures.shape in
    let q : c.loop-x.x ≡ c.crosses-x-end.result = omega arith in
    subst (λ n. IsCrossRest c.args.defects.now c.args.rest.now n c.loop-x.rest) (q ∙ e) c.loop-x.invariant
