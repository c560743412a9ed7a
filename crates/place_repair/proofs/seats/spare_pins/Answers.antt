use Rattle.place_repair.proofs.Vocabulary.{◌≡◌, ◌<◌, sym, ap, ◌∙◌, subst, arith, pins_of, IsSparePin}
use Rattle.place_repair.proofs.Sieving.{sieve_next, sieve_all}
use Rattle.place_repair.proofs.seats.spare_pins.Goals as goal

pub is_spare_pin-is-requires-clause-within : goal.is_spare_pin-is-requires-clause-within
is_spare_pin-is-requires-clause-within c = subst (λ n. c.loop-p.p < n) (c.pins-p-end.ensures.pins ∙ ap pins_of (c.shape.ensures.shape ∙ c.requires.shape)) c.loop-p-test.true

pub loop-p-preserved : goal.loop-p-preserved
loop-p-preserved c = sieve_next (IsSparePin c.args.defects.now.list c.args.image.now) c.loop-p.p c.is_spare_pin-is.result c.loop-p.spare c.push_if.new.numbers c.is_spare_pin-is.ensures c.in_ok-push_if.ensures c.loop-p.invariant

pub returns : goal.returns
returns c =
    let e : c.pins-p-end.result ≡ pins_of c.args.image.now.config.shape = c.pins-p-end.ensures.pins ∙ ap pins_of (c.shape.ensures.shape ∙ c.requires.shape) in
    let q : c.loop-p.p ≡ c.pins-p-end.result = omega arith in
    sieve_all (IsSparePin c.args.defects.now.list c.args.image.now) c.loop-p.p c.loop-p.spare (λ p is. subst (λ n. p < n) (sym (q ∙ e)) is.within) c.loop-p.invariant
