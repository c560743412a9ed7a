-- What the proofs here cite of the layers below, and of the specs.
pub use Rattle.std.proofs.Common.{All, List, None, Some, [], ap, arith, drop, false, inl, inr, length, length-append, refl, slice_index_or}
pub use Rattle.std.proofs.Common.{subst, suc, sym, take, zero, ℕ, ◌%◌, ◌*◌, ◌++◌, ◌+◌, ◌/◌, ◌<◌, ◌^◌, ◌∙◌, ◌∷◌, ◌≡◌, ◌≢◌, ◌≤◌, ◌⊎◌}
pub use Rattle.std.proofs.Math.Logic.{⊎_elim}
pub use Rattle.std.proofs.Math.Nat.{le-mul_of_pos_right, mul-le-mul_left, mul_comm, pow-le-pow_right}
pub use Rattle.std.proofs.Math.Seq.{drop-append_seam, take-append_seam, take-length}
pub use Rattle.std.proofs.lemmas.Bool.{and_from, and_parts, both_ways, cases_Bool, cases_lt, cases_order, cond-false, cond-true, le-leb}
pub use Rattle.std.proofs.lemmas.Bool.{le-ltb, leb-true, lt-ltb}
pub use Rattle.std.proofs.lemmas.Bool.Decides.{nat_tests}
pub use Rattle.std.proofs.lemmas.Fmt.{decimal_by_steps, decimal_injective, decimal_nonempty, length-decimal-le}
pub use Rattle.std.proofs.lemmas.List.{append-nil, drop-drop, get_or-append-add, get_or_append_left, length-drop}
pub use Rattle.std.proofs.lemmas.Nat.{div-add-mod', div-mul-add, div_below, mod-mul-add, mod_below, mul-add-lt, row_fits}
pub use Rattle.std.specs.Fmt.{decimal}
pub use Rattle.std.specs.List.{position, position_or_len}
pub use Rattle.machine_shape.specs.declared.Counts.{Counts}
pub use Rattle.machine_shape.specs.declared.Level.{Level}
pub use Rattle.machine_shape.specs.declared.Shape.{Shape}
pub use Rattle.machine_shape.specs.declared.way.Crossbar.{Crossbar}
pub use Rattle.machine_shape.specs.declared.way.Kind.{Kind}
pub use Rattle.machine_shape.specs.Vocabulary.{AreFull, Fits, HasCrosses, HasTaps, IsBarAt, IsFull, IsRead, IsReadable, IsSpot, Levels}
pub use Rattle.machine_shape.specs.Vocabulary.{Means, NoDot, Place, above, crosses_in, meaning_of, next, numbered, numbers_in, part_name}
pub use Rattle.machine_shape.specs.Vocabulary.{path_of, rest, size, start, stop, trunk, way_name, wires_in}
unfoldable pub use Rattle.machine_shape.specs.Vocabulary.{ends_of, hextant_of, levels_from, levels_of, node_at, nodes_of, own_ports_of}
unfoldable pub use Rattle.machine_shape.specs.Vocabulary.{parent_of, pin_wire, tables_of, way_to, way_to_table, wires_of}
