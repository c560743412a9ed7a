-- What the command `bench` comes to.
use Rattle.cmd_bench.proofs.Vocabulary.{◌≡◌, ℕ, [], refl, sym, subst, Shape, Faults, Defects, IsFair, NetlistData, IsDesign, bench_draft}
use Rattle.design_netlist.specs.Checks.{IsChecked}
use Rattle.map_network.specs.{declared.network.Network.Network, Vocabulary.IsNetwork, Vocabulary.plain_network}
use Rattle.place_plan.specs.{declared.short.Short.Short, Vocabulary.IsShortInOrder, Vocabulary.HasSoundParts}
use Rattle.machine_bench.specs.Work as work
use Rattle.machine_bench.specs.Faults.{AreBenchFaults}
use Rattle.cmd_steps.specs.Vocabulary.{ShortPlace, Around, IsLawful, IsExcused}
use Rattle.cmd_steps.specs.declared.refusal.Refusal.{Refusal}
use Rattle.cmd_steps.specs.declared.refusal.Refusal.TheVariants as refused
use Rattle.cmd_steps.proofs.Excused.{attach-excused, rig-excused}
use Rattle.cmd_steps.proofs.Well.{IsWell, well-after, well-write, well-done}
use Rattle.diag_list.specs.Lists.{Listed, IsListed}
use Rattle.place_design.specs.Laying.{IsNoRoom}
use Rattle.place_design.proofs.Rooms.{lay-excused}
use Rattle.cmd_bench.specs.Bench.{OnlyMemory, NotRun, BenchRight, bench_machine, bench_course, bench_job}

abbrev pub AreSure : Type 0
AreSure = (m : Shape) (d : Defects) (f : Faults) (n : Network) (s : Short) → IsNetwork n → IsFair m d f → HasSoundParts m f n → ¬ IsShortInOrder m d n s

abbrev pub IsOnly : Type 0
IsOnly = (d : NetlistData) → IsDesign work.bench_design d → d ≡ bench_draft

abbrev pub LeaveRoom : Type 0
LeaveRoom = (m : Shape) (n : ℕ) (f : Faults) → m.counts ≡ work.bench_counts → AreBenchFaults m n f → HasSoundParts m f (plain_network bench_draft)

abbrev pub AreNetworks : Type 0
AreNetworks = (d : NetlistData) → IsChecked d → IsNetwork (plain_network d)

module _ (sure : AreSure) (networks : AreNetworks) (only : IsOnly) (room : LeaveRoom) (n : ℕ) (old new : Around) (right : BenchRight n new.rig) where
  memory-excused : (refusal : Refusal) → OnlyMemory refusal → IsExcused refusal old new
  memory-excused refused.Memory stops = tt
  memory-excused refusal stops = absurd stops

  run-excused : (before : ℕ) (refusal : Refusal) → NotRun before new.rig refusal → IsExcused refusal old new
  run-excused before refused.Rig stops = tt
  run-excused before refused.Memory stops = tt
  run-excused before refusal stops = absurd stops

  never-short : (m : Shape) (draft : NetlistData) (l : Listed) → m.counts ≡ work.bench_counts → IsDesign work.bench_design draft → IsListed m old.rig.loads new.rig l → (place : ShortPlace) → IsNoRoom l.list draft place → ⊥
  never-short m draft l is design listed place short =
      let sound : HasSoundParts m right.faults (plain_network draft) = subst (λ (x : NetlistData). HasSoundParts m right.faults (plain_network x)) (sym (only draft design)) (room m n right.faults is (right.made m is)) in
      let lacks : IsShortInOrder m l.list.list (plain_network draft) place.short =
      subst (λ (x : Network). IsShortInOrder m l.list.list x place.short) short.plain (subst (λ (s : Shape). IsShortInOrder s l.list.list short.network place.short) listed.shape short.short) in
      sure m l.list.list right.faults (plain_network draft) place.short (networks draft design.checked) (listed.right.fair right.faults right.explained) sound lacks

  bench-well : IsWell old new (bench_course n old new)
  bench-well =
      well-after old new _ _ _ memory-excused
      (λ m counts. well-after old new _ _ _ (attach-excused old new (bench_machine n m))
      (λ _ _. well-after old new _ _ _ memory-excused
      (λ draft design. well-after old new _ _ _ (λ refusal stops. rig-excused old new refusal stops.0)
      (λ l listed. well-after old new _ _ _ (lay-excused l.list draft old new (never-short m draft l counts design listed))
      (λ i _. well-after old new _ _ _ (run-excused l.loads)
      (λ ones _. well-write old new _ _ _ (well-done old new _)))))))

pub bench-lawful : AreSure → AreNetworks → IsOnly → LeaveRoom → (n : ℕ) → IsLawful (bench_job n)
bench-lawful sure networks only room n = record {
  right = λ old new text next is at. (bench-well sure networks only room n old new (is [] text refl)).well text next at;
  short = λ old new text next is at. absurd (is [] text refl);
  few = λ old new few text begun at. begun;
}
