-- The promises of a `bench`, from how it ended.
use Rattle.std.proofs.Common.{◌≡◌, ℕ, ◌<◌, ◌^◌, List, [], ◌∷◌, length, codes}
use Rattle.cmd_bench.proofs.Vocabulary.{decimal, plain_network, nets_in, bench_draft, Outside, bench_job}
use Rattle.cmd_steps.proofs.Done.{EndedAs, done-as}
use Rattle.cmd_bench.specs.Promises.{BenchPromises}
use Rattle.cmd_bench.proofs.BenchLaws.{IsOnly}
use Rattle.cmd_bench.proofs.Headlines.{benched}

pub bench-promises : length (plain_network bench_draft).tables ≡ 17 → nets_in (plain_network bench_draft) ≡ 18 → IsOnly
    → (words : List (List ℕ)) (status : ℕ) (old new : Outside)
    → ((n : ℕ) → n < 2 ^ 32 → words ≡ codes "bench" ∷ decimal n ∷ [] → EndedAs (bench_job n) old new status)
    → BenchPromises words status old new
bench-promises tables nets only words status old new ended = record {
  benched = λ n less is zero. done-as old new (ended n less is) zero (λ text asked. benched tables nets n only old new text);
}
