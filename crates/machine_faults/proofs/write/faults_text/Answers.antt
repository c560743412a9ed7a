use Rattle.machine_faults.proofs.Vocabulary.{◌≡◌, ◌++◌, ◌∙◌, map, sym, subst, All, Shape, written, CanHave, fault_words}
use Rattle.machine_faults.proofs.Words.{IsTold}
use Rattle.machine_faults.proofs.{Writing.each_of_shape, Writing.text_is, Writing.few_bytes, write.faults_text.Goals.After-drop-faults-2}
use Rattle.machine_faults.proofs.write.faults_text.Goals as goal

pub put_faults-requires : goal.put_faults-requires
put_faults-requires c =
    let s = c.args.set.now in
    subst (λ m. All (CanHave m) c.deref.result.now) (sym c.shape-shape.ensures.shape)
    (subst (All (CanHave s.shape)) (sym c.deref.ensures.value) (each_of_shape s.shape s.faults c.shape-shape.ensures.kept c.in_ok-faults.faults.items c.in_ok-faults.ensures))

told : (c : After-drop-faults-2) → IsTold c.args.set.now.shape
told c =
    let m : Shape = c.args.set.now.shape in
    record { names = c.names_are_one_to_one.ensures m; crosses = c.the_crosspoints_are_sound.ensures.crosses m; numbered = c.the_numbering_is_sound.ensures.numbered m }

lines : (c : After-drop-faults-2) → c.put_faults.new.text.items ≡ written (map (fault_words c.args.set.now.shape) c.in_ok-faults.faults.items)
lines c = c.in_ok-put_faults.ensures ∙ (λ i. c.new-text.ensures.items i ++ written (map (fault_words (c.shape-shape.ensures.shape i)) (c.deref.ensures.value i)))

pub returns-clause-faults : goal.returns-clause-faults
returns-clause-faults c =
    let s = c.args.set.now in
    text_is s.shape s.faults c.shape-shape.ensures.kept c.in_ok-faults.faults.items c.in_ok-faults.ensures (told c) c.put_faults.new.text.items (lines c)

pub returns-clause-few : goal.returns-clause-few
returns-clause-few c =
    let s = c.args.set.now in
    few_bytes s.shape s.faults c.shape-shape.ensures.kept c.in_ok-faults.faults.items c.in_ok-faults.ensures (told c) c.put_faults.new.text.items (lines c)
