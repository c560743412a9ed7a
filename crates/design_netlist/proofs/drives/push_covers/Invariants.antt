use Rattle.design_netlist.proofs.Vocabulary.{◌≡◌, ◌++◌, take, map, cover_drive}
use Rattle.design_netlist.proofs.drives.push_covers.Given as goal

abbrev pub invariant-covers : goal.invariant-covers
invariant-covers l = l.words.items ≡ l.fn.words.items ++ map cover_drive (take l.k l.covers)
