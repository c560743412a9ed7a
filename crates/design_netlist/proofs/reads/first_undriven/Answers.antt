use Rattle.design_netlist.proofs.Vocabulary.{◌++◌, length, map, subst, sym, flat_map, cover_reads, latch_read, AreWithin}
use Rattle.design_netlist.proofs.WordLemmas.{within_right}
use Rattle.design_netlist.proofs.reads.first_undriven.Goals as goal

pub among_latches-requires : goal.among_latches-requires
among_latches-requires c =
    subst (λ ls. AreWithin (length c.args.firsts.now) (map latch_read ls)) (sym c.as_slice-3.ensures)
    (within_right (length c.args.firsts.now) (c.args.draft.now.outputs ++ flat_map cover_reads c.args.draft.now.covers) (map latch_read c.args.draft.now.latches) c.requires.reads)
