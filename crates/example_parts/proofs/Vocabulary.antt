-- What the proofs here cite of the layers below, and of the specs.
pub use Rattle.std.proofs.Common.{All, List, Some, [], ap, arith, length, refl, subst, sym, take, true, ℕ, ◌<◌, ◌∙◌, ◌≡◌, ◌≤◌}
pub use Rattle.std.proofs.lemmas.Bool.{false≢true, or_left, or_right}
pub use Rattle.std.proofs.lemmas.List.{append-nil, get_or_append_left, length-append}
pub use Rattle.machine_shape.specs.declared.Shape.{Shape}
unfoldable pub use Rattle.machine_shape.specs.Vocabulary.{crosses_of, node_of, nodes_of, parent_of, pins_of}
pub use Rattle.machine_config.specs.Vocabulary.{among}
pub use Rattle.diag_tests.specs.Vocabulary.{IsCellConfig, IsLoopConfig, IsRoute, Walk, is_laid}
pub use Rattle.diag_tests.proofs.Closings.{among_at, more_among}
pub use Rattle.diag_evidence.specs.Vocabulary.{HoldsFor, IsReady, Kept}
unfoldable pub use Rattle.diag_evidence.specs.Vocabulary.{is_apart, keeps_cross}
pub use Rattle.diag_evidence.proofs.Keeping.{advances_still, advances_then, begun_apart, more_then, of_told}
pub use Rattle.diag_known.proofs.Later.{known_later, known_none}
pub use Rattle.example_parts.specs.Found.{AreFound, IsFoundAt}
