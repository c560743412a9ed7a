use Rattle.machine_config.proofs.Toggles.{cross_shows, cell_shows, register_shows}
use Rattle.machine_config.proofs.laws.toggles_show.Goals as goal

pub returns : goal.returns
returns c = record {
  cross = λ f g x drives reads others p q n. cross_shows f g x p q n;
  cell = λ f g t a s drives reads others p q n. cell_shows f g t s a p q n;
  register = λ f g t s drives reads others latched p q n. register_shows f g t s latched p q n;
}
