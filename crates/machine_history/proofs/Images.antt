-- An image that is left alone in itself.
use Rattle.std.proofs.Common.{◌≡◌, ℕ, Bool, List, [], ◌∷◌, length, map, take, refl, sym, ap, ◌∙◌, subst, arith}
use Rattle.machine_history.proofs.Vocabulary.{take_all, All-map, Faults, IsFaultless, Pins, IsRun, circuit_of}
use Rattle.machine_config.proofs.Runs.{Cycles-length}
use Rattle.machine_image.specs.Vocabulary.{ImageValue, IsImage, drive_of, image_row}
use Rattle.machine_history.specs.Vocabulary.{History, IsRunOver, LeavesAlone, LeavesAloneFor, IsDriveFor, drive_alone}
use Rattle.machine_history.proofs.Driving.{drives_itself, alone_as_driven}
use Rattle.machine_history.proofs.Lasting.{tenant_runs_alone}
use Rattle.machine_history.proofs.Sharing.{tenant_of_itself}
use Rattle.machine_history.proofs.Unique.{CyclesOver-length}

module _ (i : ImageValue) (is : IsImage i) (h : History) (none : Faults) (faultless : IsFaultless none) where
  all_as_driven : (vectors : List (List Bool)) → map (drive_alone i) (map (drive_of i) vectors) ≡ map (drive_of i) vectors
  all_as_driven [] = refl
  all_as_driven (v ∷ vs) = λ j. alone_as_driven i is v j ∷ all_as_driven vs j

  pub image_runs_alone : (n : ℕ) (vectors : List (List Bool)) (reads alone : List Pins) → LeavesAloneFor n h i i → IsRunOver h i.config (map (drive_of i) vectors) reads → IsRun none i.config (map (drive_of i) vectors) alone →
      map (image_row i) (take n reads) ≡ map (image_row i) (take n alone)
  image_runs_alone n vectors reads alone left p q =
      tenant_runs_alone i i (tenant_of_itself i) h none n (map (drive_of i) vectors) reads alone is (tenant_of_itself i) left faultless (All-map (IsDriveFor i i) (drive_of i) vectors (λ k d l. drives_itself i is _)) p
      (subst (λ ds. IsRun none i.config ds alone) (sym (all_as_driven vectors)) q)

  pub always_alone : ((cycle instant : ℕ) → LeavesAlone (h cycle instant) i i) → (vectors : List (List Bool)) (reads alone : List Pins) → IsRunOver h i.config (map (drive_of i) vectors) reads → IsRun none i.config (map (drive_of i) vectors) alone → map (image_row i) reads ≡ map (image_row i) alone
  always_alone left vectors reads alone p q =
      let n = length (map (drive_of i) vectors) in
      let long = CyclesOver-length i.config h p.cycles in
      let other = Cycles-length (circuit_of none i.config) q.cycles in
      sym (ap (map (image_row i)) (take_all n reads (omega (arith, long))))
      ∙ image_runs_alone n vectors reads alone (λ cycle instant below few. left cycle instant) p q
      ∙ ap (map (image_row i)) (take_all n alone (omega (arith, other)))
