use Rattle.cmd_repair.proofs.Vocabulary.{◌≡◌, ◌∙◌, ◌<◌, List, Bool, All, map, length, sym, subst, Shape, nodes_of, Defects, Covers, Faults}
use Rattle.cmd_repair.proofs.Vocabulary.{AreFaultsOf, IsFaultless, ImageValue, drive_of, Short, Seats, took-value, repairs}
use Rattle.std.proofs.lemmas.Bool.{false≢true}
use Rattle.machine_shape.proofs.Totals.{nodes_are}
use Rattle.design_netlist.specs.Rows.{AreRows}
use Rattle.place_plan.specs.declared.short.Resource.{Resource, TheVariants.Tables, TheVariants.Pins, TheVariants.Ports, TheVariants.Lines}
use Rattle.place_repair.specs.Plans.{IsFirstShortBy}
use Rattle.cmd_repair.proofs.repairing.repaired.Goals as goal

-- no faults are faults of each machine
no-faults : (m : Shape) (f : Faults) → IsFaultless f → AreFaultsOf m f
no-faults m f none = record {
  wires = λ w some. absurd (false≢true (rw (none.wires w) at some));
  crosses = λ x some. absurd (false≢true (rw (none.crosses x) at some));
  cells = λ t a some. absurd (false≢true (rw (none.cells t a) at some));
  registers = λ t some. absurd (false≢true (rw (none.registers t) at some));
  bridges = λ w u is. absurd (false≢true (sym (none.bridges (w, u)) ∙ is));
}

-- so the old image has a run without faults, and the new one reads the same under all that the list covers
pub returns-in-Ok : goal.returns-in-Ok
returns-in-Ok c =
    let d = c.args.list.now in
    let i = c.args.image.now in
    let e = c.in-Ok.ensures in
    record {
      took = λ o. took-value (repairs d i) c.in-Ok.repaired o (record {
        image = c.config-in-Ok.ensures.right;
        repair = e.repair;
        free = e.free;
        rows = e.rows;
        right = λ f none draft covers faultless right vectors reads widths run.
            let on_shape = subst (λ (m : Shape). Covers m d.list f) c.requires.shape covers in
            let faults = no-faults i.config.shape none faultless in
            let drives = map (drive_of i) vectors in
            let old = c.runs_are_one.ensures.exists none i.config faults c.config.ensures.right.config drives in
            let same = e.rows f none on_shape faultless vectors reads old.0 run old.1 in
            let wide = subst (λ n. All (λ (v : List Bool). length v ≡ n) vectors) e.repair.inputs.sized widths in
            subst (λ t. AreRows draft vectors t) (sym same) (right vectors old.0 wide old.1);
      });
    }

-- what is short is short at a node of the machine
short-at : (r : Resource) (d : Defects) (i : ImageValue) (s : Seats) (short : Short) → IsFirstShortBy r d i s short →
    short.node.0 < nodes_of i.config.shape
short-at Tables d i s short first = rw first.0 (nodes_are i.config.shape).2
short-at Pins d i s short first = rw first.1 (nodes_are i.config.shape).2
short-at Ports d i s short first = first.2.0.2
short-at Lines d i s short first = first.2.0.2

pub new-requires : goal.new-requires
new-requires c =
    let short = rw c.in-Err-Short.field-0-is at c.in-Err-Short.ensures.fail in
    rw (c.shape.ensures.shape, c.requires.shape) (short-at c.in-Err-Short.short.resource _ _ _ _ short.first)
