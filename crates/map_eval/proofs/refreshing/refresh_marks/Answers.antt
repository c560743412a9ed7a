use Rattle.map_eval.proofs.Vocabulary.{◌∙◌, List, ℕ, sym, ap, length, subst, arith, is_marked, differs, AreLow}
use Rattle.map_eval.proofs.StateLemmas.{whole_items}
use Rattle.map_eval.proofs.refreshing.refresh_marks.Goals as goal

pub mark_differing-requires-clause-marks : goal.mark_differing-requires-clause-marks
mark_differing-requires-clause-marks c =
    let d = ap length c.deref.ensures.value in
    let e = ap length c.deref_mut.ensures.value in
    let m = c.requires.sized.masks.len in
    let k = c.requires.sized.marks in
    let s = c.requires.plan.gates.size in
    omega arith

pub mark_differing-requires-clause-addresses : goal.mark_differing-requires-clause-addresses
mark_differing-requires-clause-addresses c = ap length c.deref-2.ensures.value ∙ c.requires.sized.pins.len ∙ sym c.requires.sized.masks.len ∙ sym (ap length c.deref.ensures.value)

pub mark_differing-requires-clause-low : goal.mark_differing-requires-clause-low
mark_differing-requires-clause-low c = subst AreLow (sym c.deref-2.ensures.value) c.requires.sized.pins.low

pub returns-clause-kept : goal.returns-clause-kept
returns-clause-kept c = (
    let state = c.args.state.now in
    let same = c.mark_differing.ensures.len ∙ ap length c.deref_mut.ensures.value in
    let all = whole_items state.marks c.mark_differing.new.marks same in
    record {
      sized = record {
        inputs = c.requires.sized.inputs;
        values = c.requires.sized.values;
        marks = ap length all ∙ same ∙ c.requires.sized.marks;
        pins = c.requires.sized.pins;
        masks = c.requires.sized.masks;
      };
      marked = λ t.
          ap (λ (ms : List ℕ). is_marked ms t) all
          ∙ c.mark_differing.ensures.marked t
          ∙ ap (λ (xs : List ℕ). differs xs c.deref-2.result.now t) c.deref.ensures.value
          ∙ ap (λ (xs : List ℕ). differs state.masks.items xs t) c.deref-2.ensures.value;
    })
