use Rattle.map_network.proofs.Vocabulary.{◌≡◌, ◌∙◌, ◌++◌, ℕ, map, ap, sym, subst, length, arith, PortDef}
use Rattle.map_network.specs.Vocabulary.{covers_tables, latch_table, source_of, plain_network, source_in, AreCovers, AreLatches, ArePorts}
use Rattle.map_network.proofs.DriveLemmas.{covers_are, few_inputs, outputs_are, latches_are}
use Rattle.map_network.proofs.build.build.Goals as goal

pub push_covers-requires-clause-covers : goal.push_covers-requires-clause-covers
push_covers-requires-clause-covers c =
    subst (λ cs. AreCovers cs (length c.deref.result.now)) (sym c.as_slice.ensures) (subst (λ m. AreCovers c.args.draft.now.covers m) (sym (ap length c.deref.ensures.value ∙ c.in_ok-origins.ensures.len)) (covers_are c.args.draft.now c.requires))

pub push_latches-requires : goal.push_latches-requires
push_latches-requires c =
    subst (λ ls. AreLatches ls (length c.deref-2.result.now)) (sym c.as_slice-2.ensures) (subst (λ m. AreLatches c.args.draft.now.latches m) (sym (ap length c.deref-2.ensures.value ∙ c.in_ok-origins.ensures.len)) (latches_are c.args.draft.now c.requires))

pub outputs_of-requires : goal.outputs_of-requires
outputs_of-requires c =
    subst (λ ps. ArePorts ps (length c.deref-3.result.now)) (sym c.as_slice-3.ensures) (subst (λ m. ArePorts c.args.draft.now.outputs m) (sym (ap length c.deref-3.ensures.value ∙ c.in_ok-origins.ensures.len)) (outputs_are c.args.draft.now c.requires))

pub overflow_cast-result : goal.overflow_cast-result
overflow_cast-result c =
    omega (arith, few_inputs c.args.draft.now c.requires, ap length c.as_slice-4.ensures)

pub returns : goal.returns
unfolding plain_network
returns c =
    let same : (s : ℕ) → source_in c.in_ok-origins.origins.sources.items s ≡ source_of c.args.draft.now s = c.in_ok-origins.ensures.sources in
    let f : source_in c.in_ok-origins.origins.sources.items ≡ source_of c.args.draft.now = (λ i s. same s i) in
    let ts : c.new.result ≡ covers_tables (source_of c.args.draft.now) 0 c.args.draft.now.covers ++ map (latch_table (source_of c.args.draft.now)) c.args.draft.now.latches =
    c.new.ensures
    ∙ (c.in_ok-push_latches.ensures {u = tt})
    ∙ ap (λ xs. xs ++ map (latch_table (source_in c.deref-2.result.now)) c.as_slice-2.result.now) (c.in_ok-push_covers.ensures {u = tt})
    ∙ ap (λ ys. covers_tables (source_in ys) 0 c.as_slice.result.now ++ map (latch_table (source_in c.deref-2.result.now)) c.as_slice-2.result.now) c.deref.ensures.value
    ∙ ap (λ ys. covers_tables (source_in c.in_ok-origins.origins.sources.items) 0 c.as_slice.result.now ++ map (latch_table (source_in ys)) c.as_slice-2.result.now) c.deref-2.ensures.value
    ∙ ap (λ cs. covers_tables (source_in c.in_ok-origins.origins.sources.items) 0 cs ++ map (latch_table (source_in c.in_ok-origins.origins.sources.items)) c.as_slice-2.result.now) c.as_slice.ensures
    ∙ ap (λ ls. covers_tables (source_in c.in_ok-origins.origins.sources.items) 0 c.args.draft.now.covers ++ map (latch_table (source_in c.in_ok-origins.origins.sources.items)) ls) c.as_slice-2.ensures
    ∙ ap (λ g. covers_tables g 0 c.args.draft.now.covers ++ map (latch_table g) c.args.draft.now.latches) f in
    let os : c.new-2.result ≡ map (λ (p : PortDef). source_of c.args.draft.now p.signal) c.args.draft.now.outputs =
    c.new-2.ensures
    ∙ (c.in_ok-outputs.ensures {u = tt})
    ∙ ap (λ ys. map (λ (p : PortDef). source_in ys p.signal) c.as_slice-3.result.now) c.deref-3.ensures.value
    ∙ ap (λ ps. map (λ (p : PortDef). source_in c.in_ok-origins.origins.sources.items p.signal) ps) c.as_slice-3.ensures
    ∙ ap (λ g. map (λ (p : PortDef). g p.signal) c.args.draft.now.outputs) f in
    ap (λ n. record { inputs = n; tables = c.new.result; outputs = c.new-2.result }) (ap length c.as_slice-4.ensures)
    ∙ ap (λ xs. record { inputs = length c.args.draft.now.inputs; tables = xs; outputs = c.new-2.result }) ts
    ∙ ap (λ xs. record { inputs = length c.args.draft.now.inputs; tables = covers_tables (source_of c.args.draft.now) 0 c.args.draft.now.covers ++ map (latch_table (source_of c.args.draft.now)) c.args.draft.now.latches; outputs = xs }) os
