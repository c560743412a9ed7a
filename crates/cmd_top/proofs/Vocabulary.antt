-- What the proofs here cite of the layers below, and of the specs.
pub use Rattle.std.proofs.Common.{Global, List, ap, arith, codes, map, refl, string_bytes, subst, sym, ℕ, ◌∙◌, ◌≡◌}
pub use Rattle.std.specs.Fmt.{decimal}
pub use Rattle.std.specs.List.{list_any}
pub use Rattle.cmd_steps.specs.Vocabulary.{around, is_dashed, outside, word_at}
pub use Rattle.cmd_steps.proofs.AskedLemmas.{does-job, does-none, ended-asked, ends-so, list_any-map}
pub use Rattle.cmd_bench.specs.Bench.{bench_job}
pub use Rattle.cmd_top.specs.Words.{asked_by, asked_in, begins_with, commands, number_of, of_number}
