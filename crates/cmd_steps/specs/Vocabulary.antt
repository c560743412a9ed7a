-- What the contracts of steps and of commands are made of.
pub use Rattle.base_io.specs.Store.{StoreState}
pub use Rattle.base_io.specs.Sink.{SinkState}
pub use Rattle.rig.specs.Rig.{RigState, shape_of, width_of}
pub use Rattle.cmd_steps.specs.Lines.{as_line, nets_text, output_text, outputs_line}
pub use Rattle.cmd_steps.specs.Faults.{ShortPlace}
pub use Rattle.cmd_steps.specs.Files.{AreAll, AreBeforeFault, AreFirst, AreRightVectors, HasEnded, IsBegun, IsNearEnd, IsNearNext}
pub use Rattle.cmd_steps.specs.Files.{NoRowWaits, end_at, file_of, most_ahead, most_vector_bytes, says_at, vectors_at}
pub use Rattle.cmd_steps.specs.Outside.{Around, IsLater, LogGoesOn, Outside, ReadFile, SomethingRose, StandsAmong, StandsIn, TellsTruly}
pub use Rattle.cmd_steps.specs.Outside.{around, list_file, outside, plain_file}
pub use Rattle.cmd_steps.specs.Courses.{Course, HasReadRows, HasRows, IsBeforeRow, Next, RowWork, Step, StopsAt, after, all_rows, done}
pub use Rattle.cmd_steps.specs.Courses.{ends, refuses, write, writes}
pub use Rattle.cmd_steps.specs.Texts.{AsksMachine, FailsOnRig, IsDefectsText, IsDesignText, IsImageText, IsMachineText, IsNoDesign}
pub use Rattle.cmd_steps.specs.Texts.{IsRefusedAt, IsRightFile, IsRightList, IsTextRead, LoadsOnce, MayAsk, NoDefects, NoDesign, NoImage, NoMachine}
pub use Rattle.cmd_steps.specs.Texts.{NotAttached, NotOpened, attaches, opens, reads_defects, reads_design, reads_image, reads_machine}
pub use Rattle.cmd_steps.specs.Texts.{reads_text}
pub use Rattle.cmd_steps.specs.Beginnings.{Unloaded, behind_list, behind_machine, list_files, listed_course, machine_attached, third_files}
pub use Rattle.cmd_steps.specs.Stops.{Asks, AsksSome, IsCounted, IsWritten, StepStops, StopWrote, WriteStops, refusal_text, status_of}
pub use Rattle.cmd_steps.specs.Stops.{stop_of_attach, stop_of_rig, stop_of_store, stop_of_vectors}
pub use Rattle.cmd_steps.specs.Took.{Follows, Puts, Took, TookAmong}
pub use Rattle.cmd_steps.specs.Jobs.{Does, EndsShort, EndsWell, Fronts, IsExcused, IsLawful, Job, Leads, quiet, wrong_words}
pub use Rattle.cmd_steps.specs.Ends.{EndWrote, Ended, Finishes, IsOfFronts, IsRefused, LacksBefore, Refuses, Stands, Unless, cut, cut_line}
pub use Rattle.cmd_steps.specs.Ends.{no_line, refused, whole}
pub use Rattle.cmd_steps.specs.NextVectors.{EndsFile, IsHeldUp, IsNotRead, IsPutOut, IsRead, IsReadAfter, NextOf, NextStops, RowsAt}
pub use Rattle.cmd_steps.specs.NextVectors.{StaysOpen, WaitsOrPuts, rows_at}
pub use Rattle.cmd_steps.specs.Words.{Asked, DoesAsked, HasNoJob, a_job, asked_if, is_dashed, job_of, no_job, word_at}
