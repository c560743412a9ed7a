-- What the proofs here cite of the layers below, and of the specs.
pub use Rattle.std.proofs.Common.{All, Bor, List, None, ap, arith, false, length, map, subst, sym, take, ℕ, ◌++◌, ◌+◌, ◌∙◌, ◌≡◌}
pub use Rattle.std.proofs.lemmas.Bool.{and_parts, eqb-false}
pub use Rattle.std.proofs.lemmas.Fmt.{decimal_injective, decimal_nonempty, length-decimal-le}
pub use Rattle.std.proofs.lemmas.List.{length-map, map-append}
pub use Rattle.std.proofs.lemmas.Map.Lookups.{CmpEqualImpliesEq, exact_unsigned}
pub use Rattle.std.proofs.lemmas.Map.Views.{tells_apart}
pub use Rattle.std.specs.declared.cmp.Ordering.{Ordering}
pub use Rattle.std.specs.Cmp.{IsTotalOrder, eq_by_cmp_equiv, nat_cmp_total}
pub use Rattle.std.specs.List.{AllByRecursion, flat_map, list_all, list_any, position_or_len}
pub use Rattle.std.specs.Map.{keys_of, lookup}
pub use Rattle.std.specs.Ordering.{eq_by_cmp, is_eq, nat_cmp}
pub use Rattle.base_text.specs.Vocabulary.{is_bad, is_blank, is_graphic, logical_lines, numbered, spaced, written, written_line}
pub use Rattle.machine_shape.specs.declared.Shape.{Shape}
pub use Rattle.machine_shape.specs.Shape.Ends.{in_order, turned}
pub use Rattle.machine_shape.specs.Vocabulary.{HasNames, IsNumbered}
unfoldable pub use Rattle.machine_shape.specs.Vocabulary.{crosses_of, ends_of, is_small, most_faults, most_text, table_name, tables_of}
unfoldable pub use Rattle.machine_shape.specs.Vocabulary.{wire_name, wires_of}
pub use Rattle.machine_shape.proofs.PlainNames.{AllPlain, IsPlainWord, plain-decimal, table_word, wire_word}
pub use Rattle.machine_meaning.specs.Vocabulary.{AreFaultsOf, Faults, is_bridge, pair_cmp}
pub use Rattle.machine_meaning.proofs.Pairs.{pairs_exact, pairs_total}
pub use Rattle.machine_faults.specs.declared.fault.AddFault.TheVariants.{Limit, Same}
pub use Rattle.machine_faults.specs.declared.fault.Fault.{Fault}
pub use Rattle.machine_faults.specs.declared.fault.Fault.TheVariants.{Bridge, Cell, CrossStuck, Register, Stuck}
pub use Rattle.machine_faults.specs.declared.head.Head.{Head}
pub use Rattle.machine_faults.specs.Adding.{CanHave, Faulty, IsFaultSet, IsRefusal, count_of, no_faults, refusal_of, with_fault}
pub use Rattle.machine_faults.specs.Heads.{follow_of, has_cross, has_wires, word_of}
pub use Rattle.machine_faults.specs.Stored.{Lists, faults_in, pair_of}
pub use Rattle.machine_faults.specs.Text.{AreAdded, IsFaultText, bit_word, end_names, fault_words, head_of, rest_of, with_all}
