-- What the proofs here cite of the layers below, and of the specs.
pub use Rattle.std.proofs.Common.{Bool, List, ap, arith, false, get_or, if◌then◌else◌, inl, inr, length, map, not, refl, subst, sym, take}
pub use Rattle.std.proofs.Common.{true, ℕ, ◌&&◌, ◌*◌, ◌+◌, ◌-◌, ◌<◌, ◌^◌, ◌||◌, ◌∙◌, ◌≡◌, ◌≤◌}
pub use Rattle.std.proofs.lemmas.Bool.{cases_eq, cases_lt, eqb-true, le-ltb}
pub use Rattle.std.proofs.lemmas.List.{get_or-append-add, get_or_append_left, get_or_default, length-append, length-set, take-append-drop}
pub use Rattle.design_netlist.specs.Vocabulary.{bit_at, cover_at, fits, is_bit, lane_bits, latch_at, matches, number_at, signal_at}
pub use Rattle.design_netlist.specs.Vocabulary.{some_matches, truth}
pub use Rattle.design_netlist.proofs.LaneLemmas.{all-bits, and-bit, lane-at, matches-more, some-more}
pub use Rattle.design_equal.specs.declared.graph.Graph.{Graph}
pub use Rattle.design_equal.specs.declared.plan.Step.{Step}
pub use Rattle.design_equal.specs.Graphs.{IsValued, and_at, first_and, first_latch, graph_latch_at, literal_in, node_count, node_of}
pub use Rattle.design_equal.specs.Labels.{IsLatchOf, label_at, signal_bits}
pub use Rattle.design_equal.specs.Plans.{AreAt, AreInputs, AreSteps, HaveInputs, HaveWords, IsFrom, IsMet, IsMetIn, IsPlan, StandsFor}
pub use Rattle.design_equal.specs.Plans.{pin_bit, step_at}
pub use Rattle.design_equal.specs.Products.{found_holds, holds, some_holds, work_holds}
