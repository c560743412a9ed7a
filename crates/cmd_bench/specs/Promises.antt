-- What a `bench` promises.
use Rattle.std.specs.Prelude.{◌≡◌, ℕ, ◌<◌, ◌^◌, List, [], ◌∷◌, codes}
use Rattle.std.specs.Fmt.{decimal}
use Rattle.cmd_steps.specs.Outside.{Outside}
use Rattle.cmd_bench.specs.Headline.{IsBenched}

-- if the words are these, to this status
pub record BenchPromises (words : List (List ℕ)) (status : ℕ) (old new : Outside) : Type 0 where
  -- at status 0: the vectors of the number were driven through an image that is right for the generated design, and the summary is
  -- written
  pub benched : (n : ℕ) → n < 2 ^ 32 → words ≡ codes "bench" ∷ decimal n ∷ [] → status ≡ 0 → IsBenched n old new
