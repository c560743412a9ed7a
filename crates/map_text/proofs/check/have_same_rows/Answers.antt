use Rattle.map_text.proofs.check.have_same_rows.Goals as goal

pub returns : goal.returns
returns c =
    λ yes.
    record {
      rows = λ vectors rows.
          c.labelled_alike.ensures c.args.graph.now c.args.design.now c.args.other.now c.args.labels.now c.args.other_labels.now vectors rows
          c.requires.design c.requires.other (c.in_ok-agreed.ensures yes);
    }
