use Rattle.std.proofs.Common.{refl}
use Rattle.diag_sweep.proofs.Leaving.{grown_few, grown_most, pins_size, undecided_all}
use Rattle.diag_sweep.proofs.laws.growth_without_bad_is_paid.Goals as goal

pub returns-clause-most : goal.returns-clause-most
returns-clause-most c = λ a rest k b before after field without took. grown_most a rest k k b b refl field without (c.the_numbering_is_sound.ensures.numbered k.shape) before after took

pub returns-clause-few : goal.returns-clause-few
returns-clause-few c = λ a rest k b before after field without took. grown_few a rest k k b b refl field without (c.the_numbering_is_sound.ensures.numbered k.shape) before after took

pub returns-clause-pins : goal.returns-clause-pins
returns-clause-pins c = λ a k field. pins_size a k (c.the_numbering_is_sound.ensures.numbered k.shape) field

pub returns-clause-all : goal.returns-clause-all
returns-clause-all c = undecided_all
