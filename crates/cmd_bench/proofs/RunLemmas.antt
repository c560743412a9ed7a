-- How the rows of generated work go on, and how they end.
use Rattle.std.proofs.Common.{◌≡◌, ℕ, ◌+◌, ◌*◌, ◌<◌, ◌≤◌, Bool, List, [], ◌∷◌, ◌++◌, length, Some, option_map, arith, sym, ap, ◌∙◌, inl, inr, length-append, Ok, Err}
use Rattle.std.proofs.lemmas.List.Sums.{sum_by-append}
use Rattle.cmd_bench.proofs.Vocabulary.{map-range_with_len_more, Rows, pins_in, HasDriven, driven-more, outside, stop_of_rig, Took}
use Rattle.cmd_bench.proofs.Vocabulary.{rig-took, rig-stopped, RunsOnes, bench_rows, bench_vector, first_vectors, ones_in, ones_of, runs}
use Rattle.base_io.specs.Vocabulary.{next_count, StoreState, SinkState}
use Rattle.machine_shape.specs.Shape.{pins_of}
use Rattle.machine_config.specs.Configuration.{Configuration}
use Rattle.rig.specs.{Rig.RigState, Rig.LoadFails, Rig.CycleFails, Rig.Narrows, Rig.Tells, Rig.width_of, declared.rig.RigFail.RigFail}
use Rattle.rig.specs.declared.rig.RigFail.TheVariants.{Failed, Memory}
use Rattle.machine_image.specs.Images.{ImageValue}

-- so many vectors were driven
pub record IsRunning (n : ℕ) (i : ImageValue) (rig0 rig : RigState) (k ones : ℕ) : Type 0 where
  pub rows : List (List Bool)
  pub driven : HasDriven bench_rows i (first_vectors n k) rows rig
  pub count : length rows ≡ k
  pub ones_are : ones ≡ ones_of rows
  pub few : ones ≤ 2 * k
  pub machine : rig.machine ≡ rig0.machine
  pub later : rig0.failures ≤ rig.failures
  pub loads : rig.loads ≡ next_count rig0.loads
  pub narrows : Narrows rig0 rig
  pub tells : Tells rig0 rig

module _ (n : ℕ) (i : ImageValue) (r : Rows) (rig0 rig : RigState) (k ones : ℕ) (same : r ≡ pins_in i) (so_far : IsRunning n i rig0 rig k ones) where
  -- as wide as the session
  pub running-width : width_of rig ≡ Some r.pins
  running-width = ap (option_map (λ (g : Configuration). pins_of g.shape)) so_far.driven.config ∙ ap (λ (p : Rows). Some p.pins) (sym same)

  -- one more vector
  pub running-more : (rig' : RigState) (more : ℕ) → RunsOnes r (bench_vector n k) rig rig' more → rig'.machine ≡ rig.machine → rig.failures ≤ rig'.failures → rig'.loads ≡ rig.loads → Narrows rig rig' → Tells rig rig' → IsRunning n i rig0 rig' (k + 1) (ones + more)
  running-more rig' more one machine later loads narrows tells =
      let driven = driven-more bench_rows i (first_vectors n k) so_far.rows (bench_vector n k) one.row rig rig' so_far.driven (rw same at one.read) in
      record {
        rows = so_far.rows ++ one.row ∷ [];
        driven = rw (map-range_with_len_more (bench_vector n) 0 k k (omega arith)) driven;
        count = omega (arith, so_far.count, length-append so_far.rows (one.row ∷ []));
        ones_are = omega (arith, so_far.ones_are, one.ones_are, sum_by-append ones_in so_far.rows (one.row ∷ []));
        few = omega (arith, so_far.few, one.few);
        machine = machine ∙ so_far.machine;
        later = omega (arith, so_far.later, later);
        loads = loads ∙ so_far.loads;
        narrows = λ f e. so_far.narrows f (narrows f e);
        tells = λ told. tells (so_far.tells told);
      }

-- ---- how the run ends

module _ (n : ℕ) (i : ImageValue) (old new : RigState) (store : StoreState) (sink : SinkState) where
  pub run-done : (k ones : ℕ) → k ≡ 64 → IsRunning n i old new k ones → Took [] (runs n i old.loads new) (Ok ones) (outside store old sink) (outside store new sink)
  run-done k ones all is =
      let driven = rw all at is.driven in
      rig-took (runs n i old.loads new) old new store sink is.machine is.narrows is.tells is.later ones (record {
        config = driven.config;
        drives = driven.drives;
        ones_are = is.ones_are ∙ ap ones_of driven.rows_are;
        loads = is.loads;
      })

  pub load-stopped : (fail : RigFail) → new.machine ≡ old.machine → Narrows old new → Tells old new → old.failures ≤ new.failures → new.loads ≡ old.loads → LoadFails fail old new → Took [] (runs n i old.loads new) (Err (stop_of_rig fail)) (outside store old sink) (outside store new sink)
  load-stopped Failed machine narrows tells later same fails = rig-stopped (runs n i old.loads new) old new store sink machine narrows tells later (stop_of_rig Failed) (inl same) fails
  load-stopped Memory machine narrows tells later same fails = rig-stopped (runs n i old.loads new) old new store sink machine narrows tells later (stop_of_rig Memory) same tt

  -- there is room for each row, so memory is lacking for none
  pub row-stopped : (fail : RigFail) (mid : RigState) (k ones : ℕ) → k < 64 → IsRunning n i old mid k ones → new.machine ≡ mid.machine → Narrows mid new → Tells mid new → mid.failures ≤ new.failures → new.loads ≡ mid.loads → CycleFails fail mid new → Took [] (runs n i old.loads new) (Err (stop_of_rig fail)) (outside store old sink) (outside store new sink)
  row-stopped Failed mid k ones within is machine narrows tells later loads fails =
      rig-stopped (runs n i old.loads new) old new store sink (machine ∙ is.machine) (λ f e. is.narrows f (narrows f e)) (λ told. tells (is.tells told)) (omega (arith, is.later, later)) (stop_of_rig Failed) (inr (loads ∙ is.loads)) (omega (arith, is.later, fails.0))
  row-stopped Memory mid k ones within is machine narrows tells later loads fails =
      let left = is.driven.left in
      absurd (let no : ⊥ = omega (arith, within, left, is.count, fails.0) in no)
