use Rattle.place_repair.proofs.Vocabulary.{◌≡◌, ◌<◌, All, length, sym, subst, arith, IsPut}
use Rattle.place_repair.proofs.Placing.{put_none, put_more}
use Rattle.place_repair.proofs.seats.put_all.Goals as goal

pub loop-k-init : goal.loop-k-init
loop-k-init c = put_none c.args.gone.now c.args.spare.now c.args.places.now

pub loop-k-preserved : goal.loop-k-preserved
loop-k-preserved c = put_more c.args.gone.now c.args.spare.now c.loop-k.k c.args.places.now c.loop-k.places c.loop-k-test.true c.requires.apart (subst (λ n. All (λ t. t < n) c.args.gone.now) (sym c.loop-k.invariant.sized) c.requires.within) c.loop-k.invariant

pub returns : goal.returns
returns c = subst (λ n. IsPut c.args.gone.now c.args.spare.now n c.args.places.now c.loop-k.places) (let e : c.loop-k.k ≡ length c.args.gone.now = omega arith in e) c.loop-k.invariant
