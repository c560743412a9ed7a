use Rattle.std.proofs.Common.{rules, ◌≡◌, ◌∙◌, ℕ, Bool, true, List, All, length, refl, sym, ap, subst}
use Rattle.rig_simulated.proofs.Vocabulary.{with_items, with_items_is, Shape, wires_of, tables_of, Outputs, Pins, Configuration, Gate}
use Rattle.rig_simulated.proofs.Vocabulary.{ClassNode, Fits, IsClear, level_at, clocked, AreOutputs, IsLoaded, IsWired, AreDriven, IsEdge}
use Rattle.rig_simulated.proofs.Vocabulary.{HaveTicked, HasCycled, Settles, AreEvents, GivesCycle, IsTracked}
use Rattle.rig_simulated.proofs.{Eventing.alike_map, Eventing.events_stay, Cycling.whole_cycle, Twins.settles_on, Twins.settles_clocked}
use Rattle.rig_simulated.proofs.Tracking.{has_still}
use Rattle.rig_simulated.proofs.cycle.cycle.Goals as goal

module _ (c : goal.After-board-5-1) where
  low_is : (with_items c.args.board.now.low_pins c.drive_pins.new.low).items ≡ c.drive_pins.new.low
  low_is = with_items_is c.args.board.now.low_pins c.drive_pins.new.low (search rules)

  tables_is : (with_items c.args.board.now.low_tables c.settle.new.low_tables).items ≡ c.settle.new.low_tables
  tables_is = with_items_is c.args.board.now.low_tables c.settle.new.low_tables (search rules)

  gates_is : (with_items c.args.board.now.gates c.settle.new.gates).items ≡ c.settle.new.gates
  gates_is = with_items_is c.args.board.now.gates c.settle.new.gates (search rules)

  gates_end : (with_items (with_items c.args.board.now.gates c.settle.new.gates) c.clock.new.gates).items ≡ c.clock.new.gates
  gates_end = with_items_is (with_items c.args.board.now.gates c.settle.new.gates) c.clock.new.gates (search rules)

  tables_end : (with_items (with_items c.args.board.now.low_tables c.settle.new.low_tables) c.clock.new.low_tables).items ≡ c.clock.new.low_tables
  tables_end = with_items_is (with_items c.args.board.now.low_tables c.settle.new.low_tables) c.clock.new.low_tables (search rules)

  driven : AreDriven c.args.board.now.pins.items c.args.drive.now c.drive_pins.new.low
  driven = subst (λ (ps : List ℕ). AreDriven ps c.args.drive.now c.drive_pins.new.low) c.deref.ensures.value
      (subst (λ (d : Pins). AreDriven c.deref.result.now d c.drive_pins.new.low) c.drive_pins.ensures.drive c.drive_pins.ensures.tracked.driven)

  tracked : IsTracked c.args.board.now.classes.knots.items c.args.board.now.pins.items (with_items c.args.board.now.low_pins c.drive_pins.new.low).items c.drive_pins.new.kept
  tracked = subst (λ (low : List Bool). IsTracked c.args.board.now.classes.knots.items c.args.board.now.pins.items low c.drive_pins.new.kept) (sym low_is)
      (subst (λ (ks : List ClassNode). IsTracked ks c.args.board.now.pins.items c.drive_pins.new.low c.drive_pins.new.kept) c.deref-2.ensures.value
      (subst (λ (ps : List ℕ). IsTracked c.deref-2.result.now ps c.drive_pins.new.low c.drive_pins.new.kept) c.deref.ensures.value c.drive_pins.ensures.tracked))

  ticked : (c.args.board.now.ranked ≡ true → Settles c.args.board.now.gates.items c.args.ticks) → HaveTicked c.args.faults.now.faults c.args.board.now.classes.knots.items c.drive_pins.new.low c.args.board.now.gates.items c.args.ticks c.settle.new.gates
  ticked settles = subst (λ ks. HaveTicked c.args.faults.now.faults ks c.drive_pins.new.low c.args.board.now.gates.items c.args.ticks c.settle.new.gates) c.deref-3.ensures.value
      (subst (λ low. HaveTicked c.args.faults.now.faults c.deref-3.result.now low c.args.board.now.gates.items c.args.ticks c.settle.new.gates) (c.deref-4.ensures.value ∙ low_is)
      (subst (λ old. HaveTicked c.args.faults.now.faults c.deref-3.result.now c.deref-4.result.now old c.args.ticks c.settle.new.gates) c.deref_mut-3.ensures.value
      (c.settle.ensures.ticked (λ e. subst (λ gs. Settles gs c.args.ticks) (sym c.deref_mut-3.ensures.value) (settles e)))))

  edge : IsEdge c.args.faults.now.faults c.args.board.now.classes.knots.items c.drive_pins.new.low c.settle.new.low_tables c.args.board.now.pins.items c.clock.new.read c.settle.new.gates c.clock.new.gates
  edge = subst (λ ks. IsEdge c.args.faults.now.faults ks c.drive_pins.new.low c.settle.new.low_tables c.args.board.now.pins.items c.clock.new.read c.settle.new.gates c.clock.new.gates) c.deref-6.ensures.value
      (subst (λ low. IsEdge c.args.faults.now.faults c.deref-6.result.now low c.settle.new.low_tables c.args.board.now.pins.items c.clock.new.read c.settle.new.gates c.clock.new.gates) (c.deref-7.ensures.value ∙ low_is)
      (subst (λ ts. IsEdge c.args.faults.now.faults c.deref-6.result.now c.deref-7.result.now ts c.args.board.now.pins.items c.clock.new.read c.settle.new.gates c.clock.new.gates) (c.deref_mut-4.ensures.value ∙ tables_is)
      (subst (λ gs. IsEdge c.args.faults.now.faults c.deref-6.result.now c.deref-7.result.now c.deref_mut-4.result.now c.args.board.now.pins.items c.clock.new.read gs c.clock.new.gates) (c.deref_mut-5.ensures.value ∙ gates_is)
      (subst (λ ps. IsEdge c.args.faults.now.faults c.deref-6.result.now c.deref-7.result.now c.deref_mut-4.result.now ps c.clock.new.read c.deref_mut-5.result.now c.clock.new.gates) c.deref-8.ensures.value c.clock.ensures.edge))))

  module _ (g : Configuration) (before : Outputs) (shape : g.shape ≡ c.args.faults.now.shape) (ticks : g.ticks ≡ c.args.ticks) (loaded : IsLoaded c.args.faults.now.faults g c.args.board.now) (gives : AreOutputs g c.args.board.now.gates.items before) where
    went : HaveTicked c.args.faults.now.faults c.args.board.now.classes.knots.items c.drive_pins.new.low c.args.board.now.gates.items c.args.ticks c.settle.new.gates
    went = ticked (λ e. subst (Settles c.args.board.now.gates.items) ticks (loaded.settles e))

    cycled : HasCycled c.args.faults.now.faults g loaded.root c.args.board.now.classes.knots.items c.args.board.now.pins.items c.args.drive.now c.clock.new.read before c.clock.new.gates
    cycled =
        whole_cycle c.args.faults.now.faults g loaded.root c.args.board.now.classes.knots.items c.args.board.now.pins.items c.args.drive.now c.clock.new.read c.drive_pins.new.low c.settle.new.low_tables
        c.args.board.now.gates.items c.settle.new.gates c.clock.new.gates before c.args.ticks ticks driven c.settle.ensures.clear loaded.wired gives went edge

    settled : c.args.board.now.ranked ≡ true → Settles c.clock.new.gates g.ticks
    settled e = settles_clocked c.args.faults.now.faults (level_at c.args.board.now.classes.knots.items c.drive_pins.new.low edge.marks) g.ticks c.settle.new.gates c.clock.new.gates edge.next (settles_on g.ticks (loaded.settles e) went)

  events_on : c.settle.new.events.listed ≡ true → AreEvents c.clock.new.gates c.settle.new.events
  events_on e =
      events_stay c.settle.new.gates c.clock.new.gates c.settle.new.events
      (alike_map (clocked c.args.faults.now.faults (level_at c.args.board.now.classes.knots.items c.drive_pins.new.low edge.marks)) (λ x. refl) c.settle.new.gates c.clock.new.gates edge.next)
      (c.settle.ensures.events e)

pub returns-clause-cycled : goal.returns-clause-cycled
returns-clause-cycled c = λ g before shape ticks loaded gives.
    let h = cycled c g before shape ticks loaded gives in
    subst (λ gs. GivesCycle c.args.faults.now.faults g before c.args.drive.now c.clock.new.read gs) (sym (gates_end c)) (record { outputs = h.outputs; cycle = h.cycle; gives = h.gives })

pub returns-clause-loaded : goal.returns-clause-loaded
returns-clause-loaded c = λ g before shape ticks loaded gives.
    let h = cycled c g before shape ticks loaded gives in
    let len : length c.deref-6.result.now ≡ wires_of g.shape = ap length c.deref-6.ensures.value ∙ c.requires.prepared.knots ∙ ap wires_of (sym shape) in
    record {
      fitting = record {
        gates = subst (λ (gs : List Gate). All (Fits (tables_of g.shape) (wires_of g.shape)) gs) (sym (gates_end c))
            (subst (λ (n : ℕ). All (Fits (tables_of g.shape) n) c.clock.new.gates) len
            (subst (λ (s : Shape). All (Fits (tables_of s) (length c.deref-6.result.now)) c.clock.new.gates) (sym shape) c.clock.ensures.fits));
        pins = tracked c;
        events = λ e. subst (λ (gs : List Gate). AreEvents gs c.settle.new.events) (sym (gates_end c)) (events_on c e);
      };
      root = loaded.root;
      wired = subst (λ gs. IsWired c.args.faults.now.faults g loaded.root c.args.board.now.classes.knots.items c.args.board.now.pins.items gs) (sym (gates_end c)) h.wired;
      settles = λ e. subst (λ gs. Settles gs g.ticks) (sym (gates_end c)) (settled c g before shape ticks loaded gives e);
    }

pub returns-clause-prepared : goal.returns-clause-prepared
returns-clause-prepared c =
    let p = c.requires.prepared in
    record {
      closed = p.closed;
      knots = p.knots;
      stuck = p.stuck;
      pins = has_still c.args.faults.now.shape c.args.board.now.classes.knots.items c.args.board.now.pins.items c.args.board.now.low_pins.items (with_items c.args.board.now.low_pins c.drive_pins.new.low).items c.args.board.now.kept c.drive_pins.new.kept p.pins
          c.requires.fitting.pins p.knots (tracked c);
      low_tables = ap length (tables_end c) ∙ c.clock.ensures.tables ∙ ap length c.deref-6.ensures.value ∙ p.knots;
      ranks = p.ranks;
      tables_clear = subst IsClear (sym (tables_end c)) c.clock.ensures.clear;
      pulls = c.settle.ensures.pulls ∙ ap length c.deref-3.ensures.value ∙ p.knots;
      pulls_zero = c.settle.ensures.zero;
    }
