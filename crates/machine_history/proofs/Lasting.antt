-- A tenant that is left alone for some cycles reads in them what it reads by itself.
use Rattle.std.proofs.Common.{◌≡◌, ℕ, zero, suc, ◌+◌, ◌<◌, ◌≤◌, Option, List, [], ◌∷◌, map, take, refl, sym, ap, ◌∙◌, subst, arith}
use Rattle.machine_history.proofs.Vocabulary.{All, AllByRecursion, nat_cmp, recursion_from_All, Faults, IsFaultless, Outputs, Pins, Setting}
use Rattle.std.specs.FinSet as set
use Rattle.machine_config.specs.Vocabulary.{circuit_of, IsRun, after_tick, after_edge, Ticks, unticked, tick, Cycle, Cycles, none, cycle}
use Rattle.machine_image.specs.Vocabulary.{ImageValue, IsImage, image_row}
use Rattle.machine_history.specs.Vocabulary.{History, settled, TicksOver, unticked_over, tick_over, CycleOver, CyclesOver, none_over, cycle_over, IsRunOver, IsTenantOf, LeavesAlone, LeavesAloneFor, IsDriveFor, drive_alone}
use Rattle.machine_history.proofs.Instants.{tenant, Alike, load_alike, settled_alike, tick_alike, edge_alike, row_alike}

module _ (whole : ImageValue) (closed : set.FinSet nat_cmp) (tables : List (Option Setting)) (inputs outputs : List ℕ) where
  abbrev part : ImageValue
  part = tenant whole closed tables inputs outputs

  abbrev Same : Outputs → Outputs → Type 0
  Same o own = Alike whole closed tables inputs outputs o own

  module _ (image : IsImage whole) (is : IsTenantOf whole part) (clean : Faults) (faultless : IsFaultless clean) where
    module _ (faults : ℕ → Faults) (alone : (instant : ℕ) → instant ≤ whole.config.ticks → LeavesAlone (faults instant) whole part) (drive : Pins) (quiet : IsDriveFor whole part drive) where
      same_ticks : {before own after last : Outputs} {n : ℕ} → n ≤ whole.config.ticks → Same before own → TicksOver faults whole.config drive before n after → Ticks (circuit_of clean part.config) (drive_alone part drive) own n last → Same after last
      same_ticks few alike unticked_over unticked = alike
      same_ticks few alike (tick_over {n = n} {mid = mid} v ps av q) (tick {mid = lone} u rs au r) =
          let left = alone n (omega (arith, few)) in
          let so_far = settled_alike whole closed tables inputs outputs image is (faults n) clean left faultless mid lone (same_ticks (omega (arith, few)) alike ps rs) in
          let next = tick_alike whole closed tables inputs outputs image is (faults n) clean left faultless drive quiet (settled (faults n) whole.config mid) lone so_far v u av au in
          subst (Same _) (sym r) (subst (λ o. Same o (after_tick (circuit_of clean part.config) u lone)) (sym q) next)

      same_cycle : {before own after last : Outputs} {read other : Pins} → Same before own → CycleOver faults whole.config before drive read after → Cycle (circuit_of clean part.config) own (drive_alone part drive) other last → (image_row part read ≡ image_row part other) × Same after last
      same_cycle alike s t =
          let ticks = whole.config.ticks in
          let left = alone ticks (omega arith) in
          let ticked = settled_alike whole closed tables inputs outputs image is (faults ticks) clean left faultless s.outputs t.outputs (same_ticks (omega arith) alike s.ticks t.ticks) in
          let row = row_alike whole closed tables inputs outputs image is (faults ticks) clean left faultless drive quiet (settled (faults ticks) whole.config s.outputs) t.outputs ticked s.value t.value s.values t.values in
          let edge = edge_alike whole closed tables inputs outputs image is (faults ticks) clean left faultless drive quiet (settled (faults ticks) whole.config s.outputs) t.outputs ticked s.value t.value s.values t.values in (
            ap (image_row part) s.reads ∙ row ∙ sym (ap (image_row part) t.reads),
            subst (Same _) (sym t.edge) (subst (λ o. Same o (after_edge (circuit_of clean part.config) t.value t.outputs)) (sym s.edge) edge),
          )

    module _ (h : History) where
      same_cycles : (n k : ℕ) {before own after last : Outputs} {reads others : List Pins} (drives : List Pins) → ((c instant : ℕ) → k ≤ c → c < k + n → instant ≤ whole.config.ticks → LeavesAlone (h c instant) whole part) → AllByRecursion (IsDriveFor whole part) drives → Same before own →
          CyclesOver h whole.config k before drives reads after → Cycles (circuit_of clean part.config) own (map (drive_alone part) drives) others last → map (image_row part) (take n reads) ≡ map (image_row part) (take n others)
      same_cycles zero k [] left quiet alike none_over none = refl
      same_cycles zero k (d ∷ ds) left quiet alike (cycle_over s ss) (cycle t ts) = refl
      same_cycles (suc n) k [] left quiet alike none_over none = refl
      same_cycles (suc n) k (d ∷ ds) left quiet alike (cycle_over s ss) (cycle t ts) =
          let one = same_cycle (h k) (λ instant few. left k instant (omega arith) (omega arith) few) d quiet.0 alike s t in
          let more = same_cycles n (suc k) ds (λ c instant from below few. left c instant (omega (arith, from)) (omega (arith, below)) few) quiet.1 one.1 ss ts in
          λ i. one.0 i ∷ more i

      none_taken : (xs ys : List Pins) → map (image_row part) (take zero xs) ≡ map (image_row part) (take zero ys)
      none_taken [] [] = refl
      none_taken [] (y ∷ ys) = refl
      none_taken (x ∷ xs) [] = refl
      none_taken (x ∷ xs) (y ∷ ys) = refl

      runs_alone : (n : ℕ) (drives reads others : List Pins) → LeavesAloneFor n h whole part → All (IsDriveFor whole part) drives → IsRunOver h whole.config drives reads → IsRun clean part.config (map (drive_alone part) drives) others →
          map (image_row part) (take n reads) ≡ map (image_row part) (take n others)
      runs_alone zero drives reads others left quiet p q = none_taken reads others
      runs_alone (suc n) drives reads others left quiet p q =
          same_cycles (suc n) 0 drives (λ c instant from below few. left c instant (omega (arith, below)) few) (recursion_from_All (IsDriveFor whole part) drives quiet)
          (load_alike whole closed tables inputs outputs image is (h 0 0) clean (left 0 0 (omega arith) (omega arith)) faultless) p.cycles q.cycles

-- what the law says of a tenant
abbrev pub RunsAlone : ImageValue → ImageValue → Type 0
RunsAlone whole tenant = (h : History) (clean : Faults) (n : ℕ) (drives reads alone : List Pins) → IsImage whole → IsTenantOf whole tenant → LeavesAloneFor n h whole tenant → IsFaultless clean → All (IsDriveFor whole tenant) drives →
    IsRunOver h whole.config drives reads → IsRun clean tenant.config (map (drive_alone tenant) drives) alone → map (image_row tenant) (take n reads) ≡ map (image_row tenant) (take n alone)

-- a tenant has the shape and the ticks of the whole, so it is one of these
module _ (whole tenant : ImageValue) (is : IsTenantOf whole tenant) where
  same_part : tenant ≡ part whole tenant.config.closed tenant.config.tables tenant.inputs tenant.outputs
  same_part = λ j. record { config = record { shape = is.shape j; closed = tenant.config.closed; tables = tenant.config.tables; ticks = is.ticks j }; inputs = tenant.inputs; outputs = tenant.outputs }

  pub tenant_runs_alone : RunsAlone whole tenant
  tenant_runs_alone = subst (RunsAlone whole) (sym same_part) (λ h clean n drives reads alone image is left faultless quiet p q.
      runs_alone whole tenant.config.closed tenant.config.tables tenant.inputs tenant.outputs image is clean faultless h n drives reads alone left quiet p q)
