use Rattle.design_netlist.proofs.Vocabulary.{◌∙◌, ap, sym, arith, fold, take_all, cover_reads, sooner}
use Rattle.design_netlist.proofs.WordLemmas.{fold-flat_map}
use Rattle.design_netlist.proofs.reads.among_covers.Goals as goal

pub returns : goal.returns
returns c =
    c.covers.invariant ∙ ap (λ cs. fold (λ b x. fold (sooner c.args.firsts.now) b (cover_reads x)) c.args.found cs) (take_all c.covers.k c.args.covers.now (omega arith)) ∙ sym (fold-flat_map (sooner c.args.firsts.now) cover_reads c.args.found c.args.covers.now)
