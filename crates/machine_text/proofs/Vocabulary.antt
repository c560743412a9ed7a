-- What the proofs here cite of the layers below, and of the specs.
pub use Rattle.std.proofs.Common.{Bor, List, [], arith, false, get_or, length, map, sym, take, true, ℕ, ◌++◌, ◌<◌, ◌∙◌, ◌∷◌, ◌≡◌}
pub use Rattle.std.proofs.Math.ListN.{length-set, set}
pub use Rattle.std.proofs.lemmas.List.{append-nil, get_or-map, length-map, map-append, nil_from_length, take_more}
pub use Rattle.std.proofs.lemmas.Slice.Eq.{bytes_eq-Decides}
pub use Rattle.std.specs.Fmt.{decimal}
pub use Rattle.std.specs.List.{All, AllByRecursion, flat_map, list_all}
pub use Rattle.std.specs.Str.{bytes_eq}
pub use Rattle.base_text.specs.Vocabulary.{LogicalLine, is_bad_line, logical_lines, most_bytes, written, written_line}
pub use Rattle.machine_shape.specs.declared.Counts.{Counts}
pub use Rattle.machine_shape.proofs.HighLimits.{large_within, small_within, within_small}
pub use Rattle.machine_text.specs.declared.head.Head.{Head}
pub use Rattle.machine_text.specs.declared.kind.MachineFault.{MachineFault}
pub use Rattle.machine_text.specs.declared.kind.MachineFault.TheVariants.{At, Memory}
pub use Rattle.machine_text.specs.declared.kind.MachineKind.{MachineKind}
pub use Rattle.machine_text.specs.declared.said.Said.{Said}
pub use Rattle.machine_text.specs.Faults.{GivesOrLacks, PassesLimit}
pub use Rattle.machine_text.specs.Heads.{follow_of, heads, place_of, word_of}
unfoldable pub use Rattle.machine_text.specs.Heads.{head_of}
pub use Rattle.machine_text.specs.Machine.{IsForm, KeepsLimits, count_row, numbers_of}
pub use Rattle.machine_text.specs.Readers.{IsReadFault, IsReadShape, IsReader, state_of}
