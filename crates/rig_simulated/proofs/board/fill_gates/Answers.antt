use Rattle.std.proofs.Common.{◌≡◌, ◌<◌, ◌+◌, ◌∙◌, All, Some, None, List, [], ◌∷◌, ◌++◌, map, take, length, get_or, sym, ap, subst, arith, is_some, unwrap_or}
use Rattle.std.proofs.lemmas.List.{map-append, take_more, take_all, length-map, get_or-map}
use Rattle.rig_simulated.proofs.Vocabulary.{All-push, false≢true, setting_of, wires_of, tables_of, Table, Gate, Fits, IsGate}
use Rattle.rig_simulated.proofs.Counts.{on_below, on_is_some, stands_on}
use Rattle.rig_simulated.proofs.board.fill_gates.Goals as goal
use Rattle.rig_simulated.proofs.board.fill_gates.Goals.{in-Some+in_ok-push, in_default}

pub setting-requires : goal.setting-requires
setting-requires c = on_below c.args.config.now.config c.tables_on-tables.result.now c.tables_on-tables.ensures c.shape-shape.ensures.right c.tables.i (record { 0 = 0 }) c.tables-test.true

pub gate_of-requires-clause-table : goal.gate_of-requires-clause-table
gate_of-requires-clause-table c = subst (λ s. (get_or c.tables_on-tables.result.now c.tables.i (record { 0 = 0 })).0 < tables_of s) c.requires.shape
    (on_below c.args.config.now.config c.tables_on-tables.result.now c.tables_on-tables.ensures c.shape-shape.ensures.right c.tables.i (record { 0 = 0 }) c.tables-test.true)

pub tables-preserved : goal.tables-preserved
tables-preserved c =
    let g = c.args.config.now.config in
    let f = c.args.faults.now.faults in
    let on : List Table = c.tables_on-tables.result.now in
    let d : Table = record { 0 = 0 } in
    let gs : List Gate = c.tables.gates.items in
    elim c.match-setting.branch [
      | in-Some+in_ok-push w ↦
          let list : c.match-setting.gates.items ≡ gs ++ w.gate_of.result ∷ [] = ap (λ v. v.items) w.gates-is ∙ w.in_ok-push.ensures.items in
          let is : setting_of g (get_or on c.tables.i d).0 ≡ Some w.in-Some.setting = sym c.setting.ensures ∙ w.in-Some.is in
          record {
            tables = ap (λ l. map (λ (x : Gate). x.table) l) list ∙ map-append (λ (x : Gate). x.table) gs (w.gate_of.result ∷ [])
                ∙ ap (λ l. l ++ w.gate_of.result.table ∷ []) c.tables.invariant.tables ∙ ap (λ t. take c.tables.i on ++ t ∷ []) w.gate_of.ensures.table ∙ sym (take_more on c.tables.i d c.tables-test.true);
            fits = subst (All (Fits (tables_of c.args.faults.now.shape) (wires_of c.args.faults.now.shape))) (sym list) (All-push (Fits (tables_of c.args.faults.now.shape) (wires_of c.args.faults.now.shape)) gs w.gate_of.result c.tables.invariant.fits w.gate_of.ensures.fits);
            gates = λ most root roots. subst (All (IsGate f g root)) (sym list) (All-push (IsGate f g root) gs w.gate_of.result (c.tables.invariant.gates most root roots) (w.gate_of.ensures.gate g most root c.requires.shape is roots));
            first = subst (All (λ (x : Gate). x.output ≡ unwrap_or x.held x.setting.init)) (sym list) (All-push (λ (x : Gate). x.output ≡ unwrap_or x.held x.setting.init) gs w.gate_of.result c.tables.invariant.first w.gate_of.ensures.first);
          }
      | in_default w ↦
          let none : setting_of g (get_or on c.tables.i d).0 ≡ None = sym c.setting.ensures ∙ w.in_default.is in
          absurd (false≢true (sym (ap is_some none) ∙ on_is_some g on c.tables_on-tables.ensures c.tables.i d c.tables-test.true))
    ]

pub returns-clause-gates : goal.returns-clause-gates
returns-clause-gates c = λ most root roots.
    let g = c.args.config.now.config in
    let on : List Table = c.tables_on-tables.result.now in
    let gs : List Gate = c.tables.gates.items in
    let same : map (λ (x : Gate). x.table) gs ≡ on = c.tables.invariant.tables ∙ take_all c.tables.i on c.tables-test.false in
    let len : length gs ≡ length on = sym (length-map gs (λ (x : Gate). x.table)) ∙ ap length same in
    record {
      each = c.tables.invariant.gates most root roots;
      all = λ t is. let s = stands_on g on c.tables_on-tables.ensures t is in
          let within : s.0 < length gs = (let h = s.1 in omega (arith, h, len)) in
          record {
            place = s.0;
            within = within;
            here = λ d. ap (λ (x : Table). x.0) (sym (get_or-map (λ (x : Gate). x.table) gs s.0 d (record { 0 = 0 }) within) ∙ ap (λ l. get_or l s.0 (record { 0 = 0 })) same) ∙ s.2 (record { 0 = 0 });
          };
    }
