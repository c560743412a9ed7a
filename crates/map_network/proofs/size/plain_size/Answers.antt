use Rattle.map_network.proofs.Vocabulary.{◌≡◌, ◌∙◌, ◌+◌, sym, subst, ap, length, sum_by, arith, NetlistData, cover_size, AreCovers}
use Rattle.map_network.proofs.{DriveLemmas.all_tables, DriveLemmas.covers_are, NetworkLemmas.length_tables}
use Rattle.map_network.proofs.size.plain_size.Goals as goal

pub covers_size-requires : goal.covers_size-requires
covers_size-requires c =
    let d = c.args.netlist.now in
    (length d.names, subst (λ cs. AreCovers cs (length d.names)) (sym (c.as_slice.ensures ∙ ap (λ (x : NetlistData). x.covers) c.parts-draft.ensures.parts)) (covers_are d c.parts-draft.ensures.checked))

pub overflow_add-result : goal.overflow_add-result
overflow_add-result c =
    let d = c.args.netlist.now in
    let ec : c.in_ok-covers.covers ≡ sum_by cover_size d.covers = c.in_ok-covers.ensures {u = tt} ∙ ap (λ cs. sum_by cover_size cs) (c.as_slice.ensures ∙ ap (λ (x : NetlistData). x.covers) c.parts-draft.ensures.parts) in
    let el = ap length (c.as_slice-latches.ensures ∙ ap (λ (x : NetlistData). x.latches) c.parts-draft.ensures.parts) in
    omega (arith, all_tables d c.parts-draft.ensures.checked, el)

pub returns : goal.returns
returns c =
    let d = c.args.netlist.now in
    let ec : c.in_ok-covers.covers ≡ sum_by cover_size d.covers = c.in_ok-covers.ensures {u = tt} ∙ ap (λ cs. sum_by cover_size cs) (c.as_slice.ensures ∙ ap (λ (x : NetlistData). x.covers) c.parts-draft.ensures.parts) in
    let el = ap length (c.as_slice-latches.ensures ∙ ap (λ (x : NetlistData). x.latches) c.parts-draft.ensures.parts) in
    let all = length_tables d c.parts-draft.ensures.checked in
    omega arith
