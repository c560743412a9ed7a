-- What the proofs here cite of the layers below, and of the specs.
pub use Rattle.std.proofs.Common.{List, [], ap, arith, cond, count_by, eqb, length, option_map, refl, rules, subst, sym, take, vec_len, ℕ}
pub use Rattle.std.proofs.Common.{◌++◌, ◌+◌, ◌∙◌, ◌∷◌, ◌≡◌, ◌≤◌}
pub use Rattle.std.specs.Option.{ForSome}
pub use Rattle.machine_shape.specs.declared.Shape.{Shape}
unfoldable pub use Rattle.machine_shape.specs.Vocabulary.{pins_of}
pub use Rattle.machine_meaning.specs.Vocabulary.{AreFaultsOf, Faults, Pins}
pub use Rattle.machine_config.specs.Vocabulary.{Configuration, IsRun, is_closed, set_of}
pub use Rattle.rig_board.specs.declared.kept.Kept.{Kept}
pub use Rattle.rig_board.specs.Boards.{BoardState, HasCycled, HasCycledAll}
pub use Rattle.rig_board.specs.Kept.{HasAdded, past_of, session_of}
pub use Rattle.rig_board.specs.Rows.{AreBlank}
