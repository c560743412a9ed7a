use Rattle.cmd_repair.proofs.Vocabulary.{◌≡◌, ◌∙◌, refl, ap, arith, Shape, most_repaired, took-stop, took-value, takes_few}
use Rattle.machine_config.specs.Configuration.{Configuration}
use Rattle.cmd_repair.proofs.Counting.{counted}
use Rattle.cmd_repair.proofs.repairing.take_few.Goals as goal

pub returns-then-count-most : goal.returns-then-count-most
returns-then-count-most c =
    let same = counted c.closed-count.result.now c.config-config.ensures.config c.closed-count.ensures in
    let most : c.most_repaired-most.result ≡ most_repaired c.args.image.now.config.shape = c.most_repaired-most.ensures ∙ ap most_repaired (c.shape.ensures.shape ∙ ap (λ (g : Configuration). g.shape) c.config-config.ensures.config) in
    let step = takes_few c.args.image.now in
    record { took = λ o. took-stop step _ o (refl, refl, rw same (omega (arith, most, c.if-count-most.true))) tt }

pub returns : goal.returns
returns c =
    let same = counted c.closed-count.result.now c.config-config.ensures.config c.closed-count.ensures in
    let most : c.most_repaired-most.result ≡ most_repaired c.args.image.now.config.shape = c.most_repaired-most.ensures ∙ ap most_repaired (c.shape.ensures.shape ∙ ap (λ (g : Configuration). g.shape) c.config-config.ensures.config) in
    record { took = λ o. took-value (takes_few c.args.image.now) tt o (rw same (omega (arith, most, c.if-count-most.false))) }
