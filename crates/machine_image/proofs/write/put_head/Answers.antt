use Rattle.machine_image.proofs.Vocabulary.{◌++◌, ap, ◌∙◌, codes, flat_map, counts_of, two}
use Rattle.machine_image.proofs.Written.{both_put}
use Rattle.machine_image.proofs.write.put_head.Goals as goal

pub returns : goal.returns
returns c =
    let m = c.args.shape.now in
    let end = c.put2-3.new.out.items in
    both_put c.args.out.now.items c.put8.new.out.items end (codes "TERAIMG1") (flat_map two (counts_of m) ++ (two c.args.ticks ++ (two c.args.inputs ++ two c.args.outputs))) c.in_ok-put8.ensures
    (both_put c.put8.new.out.items c.put_counts.new.out.items end (flat_map two (counts_of m)) (two c.args.ticks ++ (two c.args.inputs ++ two c.args.outputs))
    (c.in_ok-put_counts.ensures ∙ ap (λ cs. c.put8.new.out.items ++ flat_map two cs) c.counts_of-counts.ensures)
    (both_put c.put_counts.new.out.items c.put2.new.out.items end (two c.args.ticks) (two c.args.inputs ++ two c.args.outputs) c.in_ok-put2.ensures
    (both_put c.put2.new.out.items c.put2-2.new.out.items end (two c.args.inputs) (two c.args.outputs) c.in_ok-put2-2.ensures c.in_ok-put2-3.ensures)))
