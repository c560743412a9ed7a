use Rattle.std.proofs.Common.{ℕ, Bool, List, map, filter, not, ap, ◌∙◌}
use Rattle.machine_faults.specs.Written.{stuck_wire_at, stuck_cross_at}
use Rattle.machine_faults.proofs.Writing.{seven}
use Rattle.machine_faults.proofs.write.in_order.Goals as goal

pub returns-clause-all : goal.returns-clause-all
returns-clause-all c = seven
    (c.in_ok-faults.ensures ∙ ap (λ (es : List (ℕ × Bool)). map stuck_wire_at (filter (λ e. not e.1) es)) (c.deref.ensures.value ∙ c.in_ok-wires.ensures.same))
    c.in_ok-extend_from_slice.ensures.items
    (c.deref-3.ensures.value ∙ c.in_ok-stuck_at.ensures ∙ ap (λ (es : List (ℕ × Bool)). map stuck_wire_at (filter (λ e. e.1) es)) (c.deref-2.ensures.value ∙ c.in_ok-wires.ensures.same))
    c.in_ok-extend_from_slice-2.ensures.items
    (c.deref-5.ensures.value ∙ c.in_ok-crosses_at.ensures ∙ ap (λ (es : List (ℕ × Bool)). map stuck_cross_at (filter (λ e. not e.1) es)) (c.deref-4.ensures.value ∙ c.in_ok-crosses.ensures.same))
    c.in_ok-extend_from_slice-3.ensures.items
    (c.deref-7.ensures.value ∙ c.in_ok-crosses_at-2.ensures ∙ ap (λ (es : List (ℕ × Bool)). map stuck_cross_at (filter (λ e. e.1) es)) (c.deref-6.ensures.value ∙ c.in_ok-crosses.ensures.same))
    c.in_ok-extend_from_slice-4.ensures.items
    (c.deref-8.ensures.value ∙ c.in_ok-cells_of.ensures.all)
    c.in_ok-extend_from_slice-5.ensures.items
    (c.deref-9.ensures.value ∙ c.in_ok-registers_of.ensures.all)
    c.in_ok-extend_from_slice-6.ensures.items
    (c.deref-10.ensures.value ∙ c.in_ok-bridges_of.ensures.all)
