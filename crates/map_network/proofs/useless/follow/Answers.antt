use Rattle.map_network.proofs.Vocabulary.{◌++◌, ◌∷◌, [], List, ℕ, subst, arith, IsFollowing}
use Rattle.map_network.proofs.PruneLemmas.{follow_step, follow_end}
use Rattle.map_network.proofs.useless.follow.Goals as goal

pub tables-preserved : goal.tables-preserved
tables-preserved c =
    let n = c.args.network.now in
    let rest : List ℕ = c.pop.new.self.items in
    let t : ℕ = c.in-Some.table in
    let before : IsFollowing n c.tables.marks.items (rest ++ t ∷ []) = subst (IsFollowing n c.tables.marks.items) c.in-Some.ensures.items c.tables.invariant in
    follow_step n c.tables.marks.items rest t before c.use_ins.new.marks.items c.use_ins.new.queue.items (rw c.as_slice.ensures at (c.in_ok-use_ins.ensures {u = tt}))

pub returns : goal.returns
returns c = follow_end c.args.network.now c.tables.marks.items c.tables.queue.items (omega (arith, rw c.in_default.is at c.pop.ensures.cases)) c.tables.invariant
