use Rattle.place_plan.proofs.Vocabulary.{◌≡◌, ◌<◌, ◌^◌, ℕ, List, length, sym, subst, Shape, Defects, Need, IsRoom, HasTerminal, ArePlanNets}
use Rattle.place_plan.specs.declared.short.Room.{Room}
use Rattle.place_plan.proofs.Fitting.{plan_suffices, plan_first, plan_held, plan_visited, plan_choice}
use Rattle.place_plan.proofs.fit.laid.Goals as goal

pub look_for_room-requires-clause-few : goal.look_for_room-requires-clause-few
look_for_room-requires-clause-few c =
    let are : ArePlanNets c.args.defects.now.shape c.args.network.now c.args.plan.now c.in_ok-nets.nets.items = c.in_ok-nets.ensures in
    subst (λ (z : List (List ℕ)). length z < 2 ^ 32) (sym c.deref.ensures.value) are.few

-- what was found for these nets, which stood behind a reference
found_for : (m : Shape) (d : Defects) (given nets : List (List ℕ)) (tables pins : Need) (a b : Room) → given ≡ nets → a ≡ b → IsRoom m d (length given) (HasTerminal given) tables pins a → IsRoom m d (length nets) (HasTerminal nets) tables pins b
found_for m d given nets tables pins a b e f room = subst (IsRoom m d (length nets) (HasTerminal nets) tables pins) f (subst (λ (z : List (List ℕ)). IsRoom m d (length z) (HasTerminal z) tables pins a) e room)

pub returns-in-Enough : goal.returns-in-Enough
returns-in-Enough c =
    let D = c.args.defects.now in
    let m = D.shape in
    let n = c.args.network.now in
    let nets : List (List ℕ) = c.in_ok-nets.nets.items in
    let are : ArePlanNets m n c.args.plan.now nets = c.in_ok-nets.ensures in
    let on = found_for m D.list _ nets c.args.tables c.args.pins _ _ c.deref.ensures.value c.in-Enough.is c.in_ok-ports.ensures in (
      plan_suffices m D.list n c.args.plan.now nets are c.args.tables c.args.pins on.0,
      record {
        few = c.requires.few on.0.tables_met;
        nets = are;
        held = plan_held m D.list n c.args.plan.now nets are c.in-Enough.ports.items on.1;
        visited = plan_visited m D.list n c.args.plan.now nets are c.in-Enough.visits.items on.2;
        choice = plan_choice m D.list n c.args.plan.now nets are c.requires.network c.requires.plan (c.the_numbering_is_sound.ensures.numbered m) (c.the_numbering_is_sound.ensures.tree m) (c.the_numbering_is_sound.ensures.parents m) (c.the_crosspoints_are_sound.ensures.taps m) (c.the_crosspoints_are_sound.ensures.crosses m) (c.ports_and_lines_ascend.ensures m) c.in-Enough.ports.items c.in-Enough.visits.items on.1 on.2;
      },
    )

pub returns-in-Lacks : goal.returns-in-Lacks
returns-in-Lacks c =
    let D = c.args.defects.now in
    let nets : List (List ℕ) = c.in_ok-nets.nets.items in
    let on = found_for D.shape D.list _ nets c.args.tables c.args.pins _ _ c.deref.ensures.value c.in-Lacks.is c.in_ok-ports.ensures in
    plan_first D.shape D.list c.args.network.now c.args.plan.now nets c.in_ok-nets.ensures c.args.tables c.args.pins c.in-Lacks.short on
