use Rattle.design_flatten.proofs.Vocabulary.{◌≡◌, ◌∙◌, ap, arith, cond, eqb, Some, Driver, first_at, nearest, first_with, doubled_with}
use Rattle.design_flatten.proofs.DriveLemmas.{drives_more, still_none}
use Rattle.design_flatten.proofs.drives.Drives.put.Goals as goal

pub returns-clause-stays : goal.returns-clause-stays
returns-clause-stays c none = still_none c.args.self.now.doubled c.doubled_with-doubled.result c.nearest-self.result c.nearest-self.ensures none

pub returns-clause-more : goal.returns-clause-more
returns-clause-more c words h =
    let w = c.args.word in
    let old = c.args.self.now in
    let d : Driver = record { word = w; place = old.count } in
    let f : c.first_at-first.result ≡ first_at old.firsts.items w.signal = c.first_at-first.ensures ∙ ap (λ xs. first_at xs w.signal) c.deref.ensures.value in
    drives_more words w old _ h (omega (arith, c.in-Some.ensures))
    (λ s. c.in_ok-set_first.ensures s ∙ ap (λ k. cond (eqb s w.signal) (Some k) (first_at old.firsts.items s)) (c.first_with-kept.ensures ∙ ap (λ o. first_with o d) f))
    (c.nearest-self.ensures ∙ ap (nearest old.doubled) (c.doubled_with-doubled.ensures ∙ ap (λ o. doubled_with o d) f))
