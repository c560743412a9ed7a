-- What the proofs here cite of the layers below, and of the specs.
pub use Rattle.std.proofs.Common.{Bool, List, [], ap, arith, drop, false, length, map, refl, slice_index, subst, sym, take, true, vec_len}
pub use Rattle.std.proofs.Common.{ℕ, ◌++◌, ◌+◌, ◌==◌, ◌∙◌, ◌∷◌, ◌≡◌, ◌≤◌}
pub use Rattle.std.proofs.lemmas.Bool.{eqb-true, le-ltb, lt-ltb, ltb-true}
pub use Rattle.std.proofs.lemmas.List.{append-nil, length-map, map-append, map_push, take-append-drop, take_more}
pub use Rattle.std.proofs.lemmas.Result.{err_from_is_err_and}
pub use Rattle.std.specs.Global.{Vec}
pub use Rattle.std.specs.List.{All, flat_map, list_all, list_any, position_or_len}
pub use Rattle.std.specs.Option.{option_or, option_to_list}
pub use Rattle.std.specs.Str.{bytes_eq}
pub use Rattle.base_text.specs.Vocabulary.{LogicalLine, is_bad_line, logical_lines}
pub use Rattle.design_netlist.specs.declared.fault.DesignFault.{DesignFault}
pub use Rattle.design_netlist.specs.declared.fault.DesignKind.{DesignKind}
pub use Rattle.design_netlist.specs.declared.fault.DesignKind.TheVariants.{Limit, NoModel}
pub use Rattle.design_netlist.specs.declared.netlist_data.Cover.{Cover}
pub use Rattle.design_netlist.specs.declared.netlist_data.Lit.{Lit}
pub use Rattle.design_netlist.specs.declared.netlist_data.PortDef.{PortDef}
pub use Rattle.design_flatten.specs.declared.model.Model.{Model}
pub use Rattle.design_flatten.specs.declared.model.Piece.{Piece}
pub use Rattle.design_flatten.specs.declared.model.Piece.TheVariants.{Inst, Latch, Names}
pub use Rattle.design_flatten.specs.Vocabulary.{HaveRightRows, IsNetlistOf, IsRefusalOfModels, PiecesFit, RowsFit, first_model}
pub use Rattle.design_flatten.proofs.NameLemmas.{any_view, inserted_key}
pub use Rattle.design_blif.specs.declared.head.Head.{Head}
pub use Rattle.design_blif.specs.declared.kind.Refusal.{Refusal}
pub use Rattle.design_blif.specs.declared.kind.Refusal.TheVariants.{Kind, Memory}
pub use Rattle.design_blif.specs.Faults.{IsNew, fault_of, head_fault, line_fault, placed_fault, row_fault, row_shape_fault, same_bool}
unfoldable pub use Rattle.design_blif.specs.Heads.{head_of}
pub use Rattle.design_blif.specs.Names.{is_long, limit_at, name_number, names_after, numbers, with_name}
pub use Rattle.design_blif.specs.Parts.{actual_of, formal_of, is_pair, is_right_row, nth_word, pairs_of, port_defs, row_words}
pub use Rattle.design_blif.specs.Refusals.{IsRefusedAs}
pub use Rattle.design_blif.specs.Runs.{Gives, IsFaultAs, text_start}
unfoldable pub use Rattle.design_blif.specs.Runs.{run}
pub use Rattle.design_blif.specs.Seen.{Above, Seen}
pub use Rattle.design_blif.specs.Steps.{State, after_head, closed_pieces}
