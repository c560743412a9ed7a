-- What the proofs here cite of the layers below, and of the specs.
pub use Rattle.hex.proofs.HexLemmas.{decode_of-encode_lower, decode_sized-encode_lower, length-encode_with}
pub use Rattle.std.proofs.Common.{All, IfSome, List, Some, [], ap, arith, count_by, decimal, drop, false, get_or, inr, length, refl, subst}
pub use Rattle.std.proofs.Common.{sym, take, true, vec_len, ℕ, ◌*◌, ◌++◌, ◌+◌, ◌-◌, ◌<◌, ◌==◌, ◌∙◌, ◌∷◌, ◌≡◌, ◌≢◌, ◌≤◌}
pub use Rattle.std.proofs.Math.Seq.{drop-append_seam, drop-nil, take-append_seam, take-length, take-suc}
pub use Rattle.std.proofs.lemmas.Bool.{false≢true, leb-true, not-false}
pub use Rattle.std.proofs.lemmas.Bool.Decides.{nat_tests}
pub use Rattle.std.proofs.lemmas.Grind.{flat_map-append, get_or-set_at}
pub use Rattle.std.proofs.lemmas.List.{append-nil, append_assoc, ext_get_or, get_or_past, length-append, length-drop, length-map}
pub use Rattle.std.proofs.lemmas.List.{length-set, length-take, length-take-le, take_more, take_more_set}
pub use Rattle.std.proofs.lemmas.List.Elements.{All-append, All-cons, All-drop, All-nil, All-set, All-take}
pub use Rattle.std.proofs.lemmas.List.Sums.{fold-append, sum_by-cons, sum_by-take-le, sum_by_push}
pub use Rattle.hex.specs.Hex.{IsBytes, decode_of, decode_sized, encode_lower, lower_digits}
unfoldable pub use Rattle.hex.specs.Hex.{encode_with}
pub use Rattle.std.specs.Int.{byte_at, bytes_high_first, div_ceil, from_be_bytes, to_be_bytes, w64}
pub use Rattle.std.specs.Io.KnownBytes.{Consumes}
pub use Rattle.std.specs.List.{join_by, sum_by}
pub use Rattle.std.specs.Option.{option_map_or}
pub use Rattle.std.specs.Vec.{vec_capacity}
pub use Rattle.base_io.specs.Vocabulary.{Rose}
pub use Rattle.machine_shape.specs.declared.Shape.{Shape}
unfoldable pub use Rattle.machine_shape.specs.Vocabulary.{crosses_of, levels_of, most_ticks, pins_of, tables_of}
pub use Rattle.machine_meaning.specs.Vocabulary.{AreFaultsOf, Faults, Pins}
pub use Rattle.machine_config.specs.declared.Setting.{Setting}
pub use Rattle.machine_config.specs.Vocabulary.{Configuration, Roomy, cleared, is_closed, setting_of, with_setting, with_ticks}
pub use Rattle.rig.specs.Rig.{Exchange, Explains, KeepLengths, RigState, Session, cycles_of, drives_of, readings_of}
pub use Rattle.rig_board.specs.Device.{Device, GoesOnWith, HasRunSession, IsInSession, WhereTold}
pub use Rattle.rig_board.specs.Machines.{EachWas, GoesOnBy, Narrows}
pub use Rattle.rig_board.proofs.OneByOne.{drives_more, lengths_kept, lengths_set, readings_more, told_more}
pub use Rattle.rig_port.specs.declared.again.Again.{Again}
pub use Rattle.rig_port.specs.declared.check.Check.{Check}
pub use Rattle.rig_port.specs.declared.link.Link.{Link}
pub use Rattle.rig_port.specs.Answers.{Answers, Drives, IsFresh, Loads, Reads, start_of}
pub use Rattle.rig_port.specs.Boards.{IsHeld, IsKeptUp, IsRequest, IsUp, state_of}
pub use Rattle.rig_port.specs.Checks.{after, check_bytes, fresh_check}
pub use Rattle.rig_port.specs.FilePorts.{AsksWhatItIs, HasHeard, IsLine, ahead}
pub use Rattle.rig_port.specs.Lines.{AreCounts, counts_body, counts_line, gap, line_of, numbers_of, octet_at, octets_below, pin_bit}
pub use Rattle.rig_port.specs.Lines.{pin_text, reading_body, reading_line, turn_room, word_room}
pub use Rattle.rig_port.specs.Linked.{AreEdited, HasTurned, IsLinked, IsPosted, PortBoardState, told_with, waiting}
pub use Rattle.rig_port.specs.Ports.{AskFails, PortState, machine_told}
pub use Rattle.rig_port.specs.Replays.{BeginsWith, HasReplayed, IsDue, recorded_of}
pub use Rattle.rig_port.specs.Requests.{AreWide, Close, IsEditOf, IsRequestOf, Off, On, Tick, attach_body, attach_line, drives_text, edited, edits_text}
pub use Rattle.rig_port.specs.RigPorts.{IsDriven, IsReady, IsShort, edit_of, edits_of}
pub use Rattle.rig_port.specs.Said.{Said, Sent, answered, said_if}
pub use Rattle.rig_port.specs.Sessions.{CanResume, HasMade, HasRows, IsOf, KeepsSession, SetsAnew, StaysLoaded, StaysPosted, kept_pairs}
pub use Rattle.rig_port.specs.Sessions.{paired}
pub use Rattle.rig_port.specs.Stands.{AllStandUp, Finds, HasStood, Makes, MayBe, StandsTold, Turns, as_told}
pub use Rattle.rig_port.specs.Transcripts.{Behind, GoOn, GoOnFor, HasSaid, MayStand, and_said, and_sent}
