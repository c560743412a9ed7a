-- The closed crosspoints that are kept are those that were loaded.
use Rattle.rig_board.proofs.Vocabulary.{◌≡◌, ℕ, List, cond, eqb, count_by, Configuration, is_closed, set_of}
use Rattle.std.specs.{FinSet.same_set, FinSet.nat_cmp-IsAntisymmetric, Cmp.nat_cmp_total}
use Rattle.machine_shape.specs.declared.Cross.{Cross}
use Rattle.machine_config.proofs.Members.{contains_times}

pub closed_is : (g : Configuration) (closed : List Cross) → ((x : ℕ) → count_by (λ c. eqb c.0 x) closed ≡ cond (is_closed g x) 1 0) → set_of closed ≡ g.closed
closed_is g closed counts = same_set nat_cmp_total nat_cmp-IsAntisymmetric _ _ (λ q. contains_times closed q (is_closed g q) (counts q))
