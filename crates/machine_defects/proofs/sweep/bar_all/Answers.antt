use Rattle.machine_defects.proofs.Sweeping.{all_swept}
use Rattle.machine_defects.proofs.sweep.bar_all.Goals as goal

pub returns : goal.returns
returns c =
    let m = c.args.shape.now in
    all_swept m (c.the_crosspoints_are_sound.ensures.crosses m) (c.the_numbering_is_sound.ensures.tree m) (c.the_numbering_is_sound.ensures.parents m) (c.the_crosspoints_are_sound.ensures.taps m)
    c.args.w.0 _ c.node_of-node.ensures.node _ _ _ _ _ _ _ _ _ _ _ c.bar_tap.ensures c.bar_line.ensures c.bar_above.ensures
