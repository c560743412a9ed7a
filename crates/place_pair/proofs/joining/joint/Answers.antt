use Rattle.place_pair.proofs.Vocabulary.{◌++◌, length, map, refl, sym, ap, ◌∙◌, subst, IsNetwork, moved, moved_table}
use Rattle.place_pair.proofs.{Moving.joint_is, Sounding.joint_sound}
use Rattle.place_pair.proofs.joining.joint.Goals as goal

pub returns-clause-joint : goal.returns-clause-joint
returns-clause-joint c =
    let n = c.args.first.now in
    let before = length c.as_slice.result.now in
    joint_is n c.args.second.now n.inputs before c.push_tables.new.tables.items c.new.result c.push_outputs.new.outputs.items c.new-2.result refl (ap length c.as_slice.ensures)
    (c.in_ok-push_tables.ensures ∙ (λ i. c.new-tables.ensures.items i ++ map (moved_table 0 0) (c.as_slice-2.ensures i)))
    (c.new.ensures ∙ c.in_ok-push_tables-2.ensures ∙ ap (λ ts. c.push_tables.new.tables.items ++ map (moved_table n.inputs before) ts) c.as_slice-3.ensures)
    (c.in_ok-push_outputs.ensures ∙ (λ i. c.new-outputs.ensures.items i ++ map (moved 0 0) (c.as_slice-4.ensures i)))
    (c.new-2.ensures ∙ c.in_ok-push_outputs-2.ensures ∙ ap (λ xs. c.push_outputs.new.outputs.items ++ map (moved n.inputs before) xs) c.as_slice-5.ensures)

pub returns-clause-network : goal.returns-clause-network
returns-clause-network c = subst IsNetwork (sym (returns-clause-joint c)) (joint_sound c.args.first.now c.args.second.now c.requires.first c.requires.second c.requires.tables)
