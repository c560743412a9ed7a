-- What the jobs of the mapper lead to.
use Rattle.cmd_map.proofs.Vocabulary.{ℕ, List, [], ◌∷◌, Around, IsLawful, EndsWell, Design, quiet-lawful, CompileRight, compile_files}
use Rattle.cmd_steps.proofs.Sure.{IsLed, led-after, led-sure, led-line, machine-sure, list-sure, text-sure}
use Rattle.place_design.proofs.Rooms.{AreDecided, never-refused, lay-excused}
use Rattle.cmd_map.specs.Maps.{MapRight, HasSameRig, map_course, map_job, fit_course, fit_job}
use Rattle.cmd_map.proofs.MapLemmas.{map-excused}

module _ (old new : Around) where
  -- a right design is remapped
  map-right : (design : List ℕ) → MapRight (old.store.contents design) → IsLed (EndsWell old new) (map_course design old.store new.store)
  map-right design right =
      led-sure (text-sure right.file.is_told right.file.within Design right.draft right.file.says) (λ refusal h. h)
      (led-after (map-excused old new) (λ r is. led-line tt tt))

  -- and where there is room for it, one with room
  fit-right : AreDecided → (machine defects design : List ℕ) → CompileRight (compile_files old.store machine defects design) →
      IsLed (EndsWell old new) (fit_course machine defects design old.store new.store)
  fit-right decided machine defects design right =
      let t = right.files in
      led-sure (machine-sure t.machine.is_told t.machine.within t.list.shape t.machine.says) (λ refusal h. h)
      (led-sure (list-sure t.list t.defects.is_told t.defects.within t.defects.says) (λ refusal h. h)
      (led-sure (text-sure t.design.is_told t.design.within Design t.draft t.design.says) (λ refusal h. h)
      (led-after (lay-excused t.list t.draft old new (never-refused decided t.list t.draft right.room)) (λ r is. led-line tt tt))))

pub map-lawful : (design : List ℕ) → IsLawful (map_job design)
map-lawful design =
    quiet-lawful (design ∷ []) HasSameRig (λ old new. map_course design old.store new.store) (λ old. MapRight (old.store.contents design))
    (λ old new right. record { well = (map-right old new design right).leads })

pub fit-lawful : AreDecided → (machine defects design : List ℕ) → IsLawful (fit_job machine defects design)
fit-lawful decided machine defects design =
    quiet-lawful (machine ∷ defects ∷ design ∷ []) HasSameRig (λ old new. fit_course machine defects design old.store new.store)
    (λ old. CompileRight (compile_files old.store machine defects design))
    (λ old new right. record { well = (fit-right old new decided machine defects design right).leads })
