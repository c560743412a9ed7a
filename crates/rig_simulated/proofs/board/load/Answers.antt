use Rattle.rig_simulated.proofs.Vocabulary.{rules, ◌≡◌, ◌<◌, ◌+◌, ◌∙◌, ℕ, Bool, List, All, length, sym, ap, subst, with_items}
use Rattle.rig_simulated.proofs.Vocabulary.{with_items_is, Shape, Cross, wires_of, tables_of, crosses_of, pins_of, stuck_wire, ClassNode}
use Rattle.rig_simulated.proofs.Vocabulary.{Gate, base_most, closed_net, HasRoots, AreTied, ArePinsOf, Fits, AreGates, Settles, AreEvents}
use Rattle.rig_simulated.proofs.Vocabulary.{IsTracked, set_of}
use Rattle.rig_simulated.proofs.Sessions.{closed_is}
use Rattle.rig_simulated.proofs.{Counts.closed_below, Counts.among_closed, Loading.wired_by, Undoing.closed_now}
use Rattle.rig_simulated.proofs.board.load.Goals as goal

pub close_all-requires-clause-within : goal.close_all-requires-clause-within
close_all-requires-clause-within c =
    subst (λ (s : Shape). All (λ (x : Cross). x.0 < crosses_of s) c.closed.result.now) c.requires.shape (closed_below c.args.config.now.config c.closed.result.now c.closed.ensures c.shape-shape.ensures.right)

pub returns-clause-loaded : goal.returns-clause-loaded
returns-clause-loaded c =
    let g = c.args.config.now.config in
    let f = c.args.faults.now.faults in
    let m : Shape = c.args.faults.now.shape in
    let knots : List ClassNode = c.close_all.new.classes.knots.items in
    let n : ℕ = base_most + length c.close_all.new.classes.closed.items in
    let t = subst (λ (l : List Cross). AreTied (closed_net m f l) (stuck_wire f) knots n) (c.close_all.ensures.same ∙ c.in_ok-close_all.ensures.crosses) (closed_now m f c.close_all.new.classes.closed.items knots c.close_all.ensures.closed) in
    let same : c.shape-shape.result ≡ m = c.shape-shape.ensures.shape ∙ c.requires.shape in
    let low_is : (with_items c.args.board.now.low_pins c.load_pins.new.low).items ≡ c.load_pins.new.low = with_items_is c.args.board.now.low_pins c.load_pins.new.low (search rules) in
    let gates_are = subst (λ (ks : List ClassNode). (most : ℕ) (root : ℕ → ℕ) → HasRoots ks most root → AreGates f g root c.fill_gates.new.gates.items) c.deref.ensures.value c.in_ok-fill_gates.ensures.gates in
    let pins_are = subst (λ (s : Shape). ArePinsOf s knots c.load_pins.new.pins.items) same (subst (λ (ks : List ClassNode). ArePinsOf c.shape-shape.result ks c.load_pins.new.pins.items) c.deref-2.ensures.value c.in_ok-load_pins.ensures.roots) in
    record {
      fitting = record {
        gates = subst (λ (s : Shape). All (Fits (tables_of s) (wires_of s)) c.fill_gates.new.gates.items) (sym c.requires.shape) c.in_ok-fill_gates.ensures.fits;
        pins = subst (λ (low : List Bool). IsTracked knots c.load_pins.new.pins.items low c.load_pins.new.kept) (sym low_is)
            (subst (λ (ks : List ClassNode). IsTracked ks c.load_pins.new.pins.items c.load_pins.new.low c.load_pins.new.kept) c.deref-2.ensures.value c.in_ok-load_pins.ensures.tracked);
        events = λ e. subst (λ (gs : List Gate). AreEvents gs c.list_tables.new.events) c.deref-4.ensures.value (c.in_ok-list_tables.ensures.events e);
      };
      root = t.root;
      wired = wired_by m f g c.closed.result.now knots c.load_pins.new.pins.items c.fill_gates.new.gates.items n c.requires.shape (among_closed g c.closed.result.now c.closed.ensures) t gates_are
          (c.in_ok-load_pins.ensures.len ∙ ap pins_of same) pins_are;
      settles = λ e. subst (λ (gs : List Gate). Settles gs g.ticks) c.deref-3.ensures.value (subst (λ (n : ℕ). Settles c.deref-3.result.now n) c.ticks.ensures (c.in_ok-board.ensures.settles e));
    }

pub returns-clause-set : goal.returns-clause-set
returns-clause-set c = ap set_of c.in_ok-close_all.ensures.crosses ∙ closed_is c.args.config.now.config c.closed.result.now c.closed.ensures
