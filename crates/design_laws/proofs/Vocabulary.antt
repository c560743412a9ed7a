-- What the proofs here cite of the layers below, and of the specs.
pub use Rattle.std.proofs.lemmas.Bool.{cases_Bool, eq-eqb, eqb-true, le-ltb, lt-ltb, ltb-false}
pub use Rattle.std.proofs.lemmas.List.{append-nil, length-drop, length-map, map-append, map_push}
pub use Rattle.std.proofs.lemmas.List.Sums.{sum_by-append}
pub use Rattle.std.specs.List.{count_by, flat_map, list_any, sum_by}
pub use Rattle.std.specs.Option.{option_or, option_to_list}
pub use Rattle.base_text.specs.Vocabulary.{LogicalLine, logical_lines}
pub use Rattle.design_netlist.specs.declared.netlist_data.NetlistData.{NetlistData}
pub use Rattle.design_flatten.specs.declared.model.Model.{Model}
pub use Rattle.design_flatten.specs.declared.model.Signal.{Signal}
pub use Rattle.design_flatten.specs.Vocabulary.{IsNetlistOf, in_order, put_in_order}
pub use Rattle.design_blif.specs.declared.head.Head.{Head}
pub use Rattle.design_laws.specs.ShortDesigns.{AreOfOneModel, IsShortDesign, IsSpelledBy, covers_of, is_model, is_subckt, latches_of}
pub use Rattle.design_laws.specs.ShortDesigns.{latches_on, rows_size}
