use Rattle.diag_sweep.proofs.Leaving.{paid_alone, paid_few, paid_most}
use Rattle.diag_sweep.proofs.laws.growth_after_a_sweep_is_paid.Goals as goal

pub returns-clause-most : goal.returns-clause-most
returns-clause-most c = λ a rest tables k l b d before mid after more field without marks pays took.
    paid_most a rest k l b d more.shape field without more marks (c.the_numbering_is_sound.ensures.numbered k.shape) before mid after pays took

pub returns-clause-few : goal.returns-clause-few
returns-clause-few c = λ a rest tables k l b d before mid after more field without marks pays took.
    paid_few a rest k l b d more.shape field without more marks (c.the_numbering_is_sound.ensures.numbered k.shape) before mid after pays took

pub returns-clause-alone : goal.returns-clause-alone
returns-clause-alone c = λ a k l b d before after field pays. paid_alone a k l b d before after (c.the_numbering_is_sound.ensures.numbered k.shape) field pays
