use Rattle.place_anneal.proofs.Vocabulary.{◌∙◌, ℕ, List, length, ap, subst, sum_by, nodes_of, AreLists, CrossesAt, HasTerminal}
use Rattle.place_anneal.proofs.Counted.{crossings_are}
use Rattle.place_anneal.proofs.count.crossings_of.Goals as goal

pub returns : goal.returns
returns c =
    let D = c.args.defects.now in
    let t = c.in_ok-tree.tree.shape in
    let nets : List (List ℕ) = c.in_ok-nets.nets.items in
    let lists : List (List ℕ) = c.in_ok-lists.lists.items in
    let are : AreLists (nodes_of t) (CrossesAt t (length c.deref-2.result.now) (HasTerminal c.deref-2.result.now)) lists =
    c.in_ok-lists.ensures in
    let on : AreLists (nodes_of t) (CrossesAt t (length nets) (HasTerminal nets)) lists =
    subst (λ (z : List (List ℕ)). AreLists (nodes_of t) (CrossesAt t (length z) (HasTerminal z)) lists) c.deref-2.ensures.value are in
    record {
      crossing = lists;
      are = crossings_are D.shape D.list c.args.network.now c.args.plan.now nets lists c.in_ok-nets.ensures
          (subst (λ m. AreLists (nodes_of m) (CrossesAt m (length nets) (HasTerminal nets)) lists) (c.in_ok-tree.ensures ∙ c.shape.ensures.shape) on);
      sum_is = c.length_in_sum.ensures ∙ ap (sum_by length) c.deref-4.ensures.value;
    }
