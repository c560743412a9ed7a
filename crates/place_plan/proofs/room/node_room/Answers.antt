use Rattle.std.proofs.Common.{◌≤◌, ℕ, List, length, Option, Some, None, IfSome, IfNone}
use Rattle.std.proofs.lemmas.Option.{IfSome_then}
use Rattle.place_plan.specs.Vocabulary.{AreThose, CrossesAt, HasTerminal, IsFreePort, GoOn, LinesAreShort}
use Rattle.place_plan.proofs.{Boards.those_at, Given.at_none, Lacks.lack_is, Lacks.lines_lack, Lacks.ports_do}
use Rattle.place_plan.proofs.room.node_room.Goals as goal

pub returns-in-Some-clause-short : goal.returns-in-Some-clause-short
returns-in-Some-clause-short c =
    let D = c.args.defects.now in
    let crossing = those_at _ _ _ c.args.node _ _ c.requires.board.crossing c.requires.node c.index.ensures c.as_slice-crossing.ensures in
    let ports = those_at _ _ _ c.args.node _ _ c.requires.board.ports c.requires.node c.index-2.ensures c.as_slice-ports.ensures in
    lack_is D.shape D.list (length c.args.nets.now) _ c.args.node c.in-Some.short c.as_slice-crossing.result.now c.as_slice-ports.result.now crossing ports c.in-Some.ensures.short

none_then : {X : Type 0} (o : Option X) (P Q : Type 0) → IfNone o P → (P → Q) → IfNone o Q
none_then None P Q p f = f p
none_then (Some x) P Q p f = p

pub returns-clause-enough : goal.returns-clause-enough
returns-clause-enough c =
    let D = c.args.defects.now in
    let nets : List (List ℕ) = c.args.nets.now in
    let n : ℕ = c.args.node in
    let G = GoOn D.shape D.list (length nets) (HasTerminal nets) n c.args.held.now.visits.items c.choose_lines.new.visits.items in
    let given : IfNone c.in_ok-short.short G = c.in_ok-short.ensures.given in
    none_then c.in_ok-short.short G _ given (λ go. record {
      crossing = c.as_slice-crossing.result.now;
      free = c.as_slice-ports.result.now;
      are_crossing = those_at _ _ _ n _ _ c.requires.board.crossing c.requires.node c.index.ensures c.as_slice-crossing.ensures;
      are_free = those_at _ _ _ n _ _ c.requires.board.ports c.requires.node c.index-2.ensures c.as_slice-ports.ensures;
      hold = c.in_ok-push_ports.ensures;
      go = go;
    })

pub returns-clause-short : goal.returns-clause-short
returns-clause-short c =
    let D = c.args.defects.now in
    let nets : List (List ℕ) = c.args.nets.now in
    let xs = c.as_slice-crossing.result.now in
    let ps = c.as_slice-ports.result.now in
    let crossing : AreThose (CrossesAt D.shape (length nets) (HasTerminal nets) c.args.node) xs = those_at _ _ _ c.args.node _ _ c.requires.board.crossing c.requires.node c.index.ensures c.as_slice-crossing.ensures in
    let ports : AreThose (IsFreePort D.shape D.list c.args.node) ps = those_at _ _ _ c.args.node _ _ c.requires.board.ports c.requires.node c.index-2.ensures c.as_slice-ports.ensures in
    let enough : length xs ≤ length ps = at_none c.lack_of_ports.result (length xs ≤ length ps) c.in_default.not-Some c.lack_of_ports.ensures.enough in
    let short : IfSome c.in_ok-short.short (LinesAreShort D.shape D.list (length nets) (HasTerminal nets) c.args.node) = c.in_ok-short.ensures.short in
    IfSome_then c.in_ok-short.short short (λ s is. lines_lack D.shape D.list (length nets) (HasTerminal nets) c.args.node s (ports_do D.shape D.list (length nets) (HasTerminal nets) c.args.node xs ps crossing ports enough) is)
