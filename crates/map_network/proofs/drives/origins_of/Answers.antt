use Rattle.map_network.proofs.Vocabulary.{◌≡◌, ◌∙◌, ℕ, ap, sym, subst, length, replicate, arith, sum_by, length-replicate, Input}
use Rattle.map_network.specs.Vocabulary.{cover_size, written, input_drives, cover_drives, latch_drives, AreCovers, AreLatches, ArePorts}
use Rattle.map_network.proofs.DriveLemmas.{length_inputs, length_covers, length_latches, all_written, covers_are, all_tables, few_inputs, inputs_are, latches_are}
use Rattle.map_network.proofs.drives.origins_of.Goals as goal

pub put_inputs-requires-clause-within : goal.put_inputs-requires-clause-within
put_inputs-requires-clause-within c =
    let ex : c.in_ok-sources.sources.items ≡ replicate (length c.args.draft.now.names) (Input 0) = c.in_ok-sources.ensures.items_if_clones_equal (λ y e. e) ∙ ap (λ (n : ℕ). replicate n (Input 0)) c.len.ensures in
    subst (λ ps. ArePorts ps (length c.in_ok-sources.sources.items)) (sym c.as_slice.ensures) (subst (λ m. ArePorts c.args.draft.now.inputs m) (sym (ap length ex ∙ length-replicate (length c.args.draft.now.names) (Input 0))) (inputs_are c.args.draft.now c.requires))

pub put_inputs-requires-clause-few : goal.put_inputs-requires-clause-few
put_inputs-requires-clause-few c =
    omega (arith, few_inputs c.args.draft.now c.requires, ap length c.as_slice.ensures)

pub put_covers-requires : goal.put_covers-requires
put_covers-requires c =
    let ex : c.in_ok-sources.sources.items ≡ replicate (length c.args.draft.now.names) (Input 0) = c.in_ok-sources.ensures.items_if_clones_equal (λ y e. e) ∙ ap (λ (n : ℕ). replicate n (Input 0)) c.len.ensures in
    let ea : c.put_inputs.new.sources.items ≡ written c.in_ok-sources.sources.items (input_drives 0 c.args.draft.now.inputs) = c.put_inputs.ensures ∙ ap (λ ps. written c.in_ok-sources.sources.items (input_drives 0 ps)) c.as_slice.ensures in
    subst (λ cs. AreCovers cs (length c.put_inputs.new.sources.items)) (sym c.as_slice-2.ensures) (subst (λ m. AreCovers c.args.draft.now.covers m) (sym (length_inputs c.args.draft.now c.requires c.in_ok-sources.sources.items c.put_inputs.new.sources.items c.put_inputs.new.sources.items c.put_inputs.new.sources.items 0 ex ea)) (covers_are c.args.draft.now c.requires))

pub put_latches-requires-clause-within : goal.put_latches-requires-clause-within
put_latches-requires-clause-within c =
    let ex : c.in_ok-sources.sources.items ≡ replicate (length c.args.draft.now.names) (Input 0) = c.in_ok-sources.ensures.items_if_clones_equal (λ y e. e) ∙ ap (λ (n : ℕ). replicate n (Input 0)) c.len.ensures in
    let ea : c.put_inputs.new.sources.items ≡ written c.in_ok-sources.sources.items (input_drives 0 c.args.draft.now.inputs) = c.put_inputs.ensures ∙ ap (λ ps. written c.in_ok-sources.sources.items (input_drives 0 ps)) c.as_slice.ensures in
    let eb : c.put_covers.new.sources.items ≡ written c.put_inputs.new.sources.items (cover_drives 0 c.args.draft.now.covers) = c.in_ok-count.ensures.sources ∙ ap (λ cs. written c.put_inputs.new.sources.items (cover_drives 0 cs)) c.as_slice-2.ensures in
    subst (λ ls. AreLatches ls (length c.put_covers.new.sources.items)) (sym c.as_slice-3.ensures) (subst (λ m. AreLatches c.args.draft.now.latches m) (sym (length_covers c.args.draft.now c.requires c.in_ok-sources.sources.items c.put_inputs.new.sources.items c.put_covers.new.sources.items c.put_covers.new.sources.items 0 ex ea eb)) (latches_are c.args.draft.now c.requires))

pub put_latches-requires-clause-few : goal.put_latches-requires-clause-few
put_latches-requires-clause-few c =
    let ec : c.in_ok-count.count ≡ sum_by cover_size c.args.draft.now.covers = c.in_ok-count.ensures.count ∙ ap (λ cs. sum_by cover_size cs) c.as_slice-2.ensures in
    omega (arith, all_tables c.args.draft.now c.requires, ap length c.as_slice-3.ensures)

-- what each pass writes
module _ (c : goal.After-as_slice-4) where
  at_first : c.in_ok-sources.sources.items ≡ replicate (length c.args.draft.now.names) (Input 0)
  at_first = c.in_ok-sources.ensures.items_if_clones_equal (λ y e. e) ∙ ap (λ (n : ℕ). replicate n (Input 0)) c.len.ensures

  with_inputs : c.put_inputs.new.sources.items ≡ written c.in_ok-sources.sources.items (input_drives 0 c.args.draft.now.inputs)
  with_inputs = c.put_inputs.ensures ∙ ap (λ ps. written c.in_ok-sources.sources.items (input_drives 0 ps)) c.as_slice.ensures

  with_covers : c.put_covers.new.sources.items ≡ written c.put_inputs.new.sources.items (cover_drives 0 c.args.draft.now.covers)
  with_covers = c.in_ok-count.ensures.sources ∙ ap (λ cs. written c.put_inputs.new.sources.items (cover_drives 0 cs)) c.as_slice-2.ensures

  count_is : c.in_ok-count.count ≡ sum_by cover_size c.args.draft.now.covers
  count_is = c.in_ok-count.ensures.count ∙ ap (λ cs. sum_by cover_size cs) c.as_slice-2.ensures

  with_latches : c.put_latches.new.sources.items ≡ written c.put_covers.new.sources.items (latch_drives c.in_ok-count.count c.args.draft.now.latches)
  with_latches = c.put_latches.ensures ∙ ap (λ ls. written c.put_covers.new.sources.items (latch_drives c.in_ok-count.count ls)) c.as_slice-3.ensures

pub returns-clause-len : goal.returns-clause-len
returns-clause-len c = length_latches c.args.draft.now c.requires c.in_ok-sources.sources.items c.put_inputs.new.sources.items c.put_covers.new.sources.items c.put_latches.new.sources.items c.in_ok-count.count (at_first c) (with_inputs c) (with_covers c) (count_is c) (with_latches c)

pub returns-clause-sources : goal.returns-clause-sources
returns-clause-sources c = all_written c.args.draft.now c.requires c.in_ok-sources.sources.items c.put_inputs.new.sources.items c.put_covers.new.sources.items c.put_latches.new.sources.items c.in_ok-count.count (at_first c) (with_inputs c) (with_covers c) (count_is c) (with_latches c)

pub overflow_add-result : goal.overflow_add-result
overflow_add-result c =
    let ec : c.in_ok-count.count ≡ sum_by cover_size c.args.draft.now.covers = c.in_ok-count.ensures.count ∙ ap (λ cs. sum_by cover_size cs) c.as_slice-2.ensures in
    omega (arith, all_tables c.args.draft.now c.requires, ap length c.as_slice-4.ensures)
