-- Configurations that close two routes, and more.
use Rattle.std.specs.Prelude.{◌≡◌, ℕ, true}
use Rattle.machine_shape.specs.declared.Shape.{Shape}
use Rattle.machine_config.specs.Vocabulary.{Configuration, is_closed, among}
use Rattle.diag_tests.specs.Routes.{Walk, IsRoute}

-- both are routes of the machine, and their crosspoints are closed
pub record IsLaid (m : Shape) (left right : Walk) (g : Configuration) : Type 0 where
  pub shape : g.shape ≡ m
  pub left_route : IsRoute m left
  pub right_route : IsRoute m right
  pub left_closed : (x : ℕ) → among left.crosses x ≡ true → is_closed g x ≡ true
  pub right_closed : (x : ℕ) → among right.crosses x ≡ true → is_closed g x ≡ true
