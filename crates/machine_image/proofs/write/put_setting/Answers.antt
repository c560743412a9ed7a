use Rattle.machine_image.proofs.Vocabulary.{◌++◌, ap, ◌∙◌, big_bytes, two, flags_of}
use Rattle.machine_image.proofs.Written.{both_put}
use Rattle.machine_image.proofs.write.put_setting.Goals as goal

pub returns : goal.returns
returns c =
    let s = c.args.setting in
    both_put c.args.out.now.items c.put2.new.out.items c.put8.new.out.items (two c.args.t) (big_bytes 1 (flags_of s) ++ big_bytes 8 s.cells) c.in_ok-put2.ensures
    (both_put c.put2.new.out.items c.put1.new.out.items c.put8.new.out.items (big_bytes 1 (flags_of s)) (big_bytes 8 s.cells)
    (c.in_ok-put1.ensures ∙ ap (λ n. c.put2.new.out.items ++ big_bytes 1 n) c.flags_of.ensures) c.in_ok-put8.ensures)
