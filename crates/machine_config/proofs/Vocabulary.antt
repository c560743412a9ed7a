-- What the proofs here cite of the layers below, and of the specs.
pub use Rattle.std.proofs.Common.{All, None, [], ap, length, replicate, rules, subst, sym, ◌<◌, ◌∙◌, ◌≡◌}
pub use Rattle.std.proofs.Math.Path.{fun_ext}
pub use Rattle.std.proofs.lemmas.Bool.{false≢true, or_cases, or_left, or_right}
pub use Rattle.std.proofs.lemmas.Bool.Decides.{nat_tests}
pub use Rattle.std.proofs.lemmas.List.{get_or-set_other, get_or-set_same, get_or_past, length-replicate, length-set, set-get_or, set-set}
pub use Rattle.std.proofs.lemmas.List.Elements.{All-replicate, All-set}
pub use Rattle.std.specs.Cmp.{Equal-is, nat_cmp_total}
pub use Rattle.std.specs.List.{AllByRecursion, list_any, swap_remove}
pub use Rattle.std.specs.Ordering.{eq_by_cmp, nat_cmp}
pub use Rattle.std.specs.Vec.{vec_capacity, with_item}
pub use Rattle.base_bits.proofs.SetsLemmas.{contains_less, contains_more, items_after}
pub use Rattle.machine_shape.specs.declared.Shape.{Shape}
pub use Rattle.machine_shape.specs.Vocabulary.{Ends, in_order, turned}
unfoldable pub use Rattle.machine_shape.specs.Vocabulary.{crosses_of, ends_of, pin_wire, pins_of, table_wire, tables_of, wires_of}
pub use Rattle.machine_meaning.proofs.JoinedLemmas.{Ends-swap, Joined-Shorted, Joined-mono, Joined-sym, Joined-trans}
pub use Rattle.machine_meaning.proofs.Values.{AreValues-unique, IsValue-unique, apart, swings}
pub use Rattle.machine_config.specs.declared.Setting.{Setting}
pub use Rattle.machine_config.specs.Vocabulary.{AreClear, AreGroups, AreListed, AreMarked, AreUnshorted, CellsFit, IsConfiguration, IsKept}
pub use Rattle.machine_config.specs.Vocabulary.{IsLoose, IsWithin, LeadsTo, among, both, ends, goes, has_mark, is_closed, once_if, set_of}
pub use Rattle.machine_config.specs.Vocabulary.{setting_of, times, times_on, with_bit, with_closed, with_open}
