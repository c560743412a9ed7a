use Rattle.std.proofs.Common.{◌≡◌, ℕ, ◌<◌}
use Rattle.design_netlist.specs.Drafts.{name_at, signal_at}
use Rattle.map_text.proofs.names.have_same_names.Given as goal

abbrev pub invariant-words : goal.invariant-words
invariant-words l = (j : ℕ) → j < l.k → name_at l.design (signal_at l.words j) ≡ name_at l.other (signal_at l.other_words j)
