use Rattle.machine_defects.proofs.Vocabulary.{◌≡◌, ◌∙◌, length, take, ap, bytes_eq, false≢true}
use Rattle.std.proofs.Math.Seq.{take-append_seam}
use Rattle.machine_defects.proofs.Splits.{bytes_same}
use Rattle.machine_defects.proofs.form.behind.Goals as goal

pub returns-else-eq : goal.returns-else-eq
returns-else-eq c = λ rest e.
    let front : c.split_at.result.0.now ≡ c.args.front.now = c.split_at.ensures.front ∙ ap (take (length c.args.front.now)) e ∙ take-append_seam c.args.front.now rest in
    false≢true (c.if-eq.ensures ∙ ap (λ w. bytes_eq w c.args.front.now) front ∙ bytes_same c.args.front.now)
