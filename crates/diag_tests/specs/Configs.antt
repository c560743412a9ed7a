-- The configurations of tests: two routes and further crosspoints, the ties, and at most one table.
use Rattle.std.specs.Prelude.{◌≡◌, ◌≢◌, ℕ, Bool, true, false, ◌||◌, Some, None, List, replicate, slice_set}
use Rattle.machine_shape.specs.{declared.Shape.Shape, Shape.tables_of}
use Rattle.machine_config.specs.declared.Setting.{Setting}
use Rattle.machine_config.specs.Vocabulary.{Configuration, is_closed, setting_of, among, AreOff}
use Rattle.diag_tests.specs.Routes.{Walk}

-- whether a crosspoint is one of a route or a tie
abbrev pub is_laid : Walk → Walk → List ℕ → ℕ → Bool
is_laid left right ties x = among left.crosses x || (among right.crosses x || among ties x)

-- just these crosspoints are closed, and nothing is on
pub record IsLoopConfig (m : Shape) (left right : Walk) (ties : List ℕ) (g : Configuration) : Type 0 where
  pub shape : g.shape ≡ m
  pub closed : (x : ℕ) → is_closed g x ≡ is_laid left right ties x
  pub tables : g.tables ≡ replicate (tables_of m) None
  pub off : AreOff g
  pub ticks : g.ticks ≡ 1

-- what the table under test does
abbrev pub cell_setting : ℕ → Setting
cell_setting cells = record { cells = cells; latched = false; init = true }

-- just these crosspoints are closed, and this table alone is on
pub record IsCellConfig (m : Shape) (left right : Walk) (ties : List ℕ) (t cells : ℕ) (g : Configuration) : Type 0 where
  pub shape : g.shape ≡ m
  pub closed : (x : ℕ) → is_closed g x ≡ is_laid left right ties x
  pub tables : g.tables ≡ slice_set (replicate (tables_of m) None) t (Some (cell_setting cells))
  pub on : setting_of g t ≡ Some (cell_setting cells)
  pub off : (u : ℕ) → u ≢ t → setting_of g u ≡ None
  pub ticks : g.ticks ≡ 1

-- these crosspoints are closed besides, and nothing else changes
pub record Closes (xs : List ℕ) (g h : Configuration) : Type 0 where
  pub closed : (x : ℕ) → is_closed h x ≡ (among xs x || is_closed g x)
  pub shape : h.shape ≡ g.shape
  pub tables : h.tables ≡ g.tables
  pub ticks : h.ticks ≡ g.ticks
