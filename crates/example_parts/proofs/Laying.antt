-- What is closed where two routes and more are.
use Rattle.example_parts.proofs.Vocabulary.{◌≡◌, ℕ, List, ◌∙◌, or_left, or_right, Shape, IsLoopConfig, IsCellConfig, is_laid, Walk, IsRoute}
use Rattle.machine_config.specs.Vocabulary.{Configuration, is_closed, among}
use Rattle.example_parts.specs.Laid.{IsLaid}

-- the crosspoints of both routes are closed where these are closed
pub laid_by : (m : Shape) (left right : Walk) (ties : List ℕ) (g : Configuration) → IsRoute m left → IsRoute m right → g.shape ≡ m → ((x : ℕ) → is_closed g x ≡ is_laid left right ties x) → IsLaid m left right g
laid_by m left right ties g left_route right_route shape closed = record {
  shape = shape;
  left_route = left_route;
  right_route = right_route;
  left_closed = λ x is. closed x ∙ or_left _ _ is;
  right_closed = λ x is. closed x ∙ or_right (among left.crosses x) _ (or_left _ _ is);
}

pub loop_is_laid : (m : Shape) (left right : Walk) (ties : List ℕ) (g : Configuration) → IsRoute m left → IsRoute m right → IsLoopConfig m left right ties g → IsLaid m left right g
loop_is_laid m left right ties g left_route right_route loop = laid_by m left right ties g left_route right_route loop.shape loop.closed

pub cell_is_laid : (m : Shape) (left right : Walk) (ties : List ℕ) (t cells : ℕ) (g : Configuration) → IsRoute m left → IsRoute m right → IsCellConfig m left right ties t cells g → IsLaid m left right g
cell_is_laid m left right ties t cells g left_route right_route cell = laid_by m left right ties g left_route right_route cell.shape cell.closed
