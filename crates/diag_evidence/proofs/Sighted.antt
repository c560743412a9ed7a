-- What is seen of wires that hang.
use Rattle.diag_evidence.proofs.Vocabulary.{◌≡◌, ℕ, Bool, ◌||◌, List, refl, has_number, among, Pins}
use Rattle.diag_evidence.specs.Vocabulary.{Trees, Kept, Gains, keeps_cross, keeps_wire, is_apart, in_row, keeps_cell, keeps_register, hangs_swinging, seen_in, Foot, feet_crosses, seen_on, is_swinging_on}

-- marks in place are gains
pub gains_seen : (k : Kept) (trees : Trees) (rows : List Pins) (ws apart : List Bool) → ((w : ℕ) → has_number ws w ≡ (hangs_swinging trees rows w || has_number k.wires w)) →
    ((w : ℕ) → has_number apart w ≡ ((seen_in trees rows).apart w || has_number k.apart w)) → Gains (seen_in trees rows) k (record k { wires = ws; apart = apart })
unfolding keeps_cross keeps_wire is_apart in_row keeps_cell keeps_register
gains_seen k trees rows ws apart p q = record { shape = refl; crosses = λ x. refl; wires = p; apart = q; trial = refl; row = λ w. refl; cells = λ t a. refl; registers = λ t. refl }

pub gains_on : (k : Kept) (trees : Trees) (feet : List Foot) (rows : List Pins) (xs ws : List Bool) → ((x : ℕ) → has_number xs x ≡ (among (feet_crosses feet) x || has_number k.crosses x)) →
    ((w : ℕ) → has_number ws w ≡ (is_swinging_on trees feet rows w || has_number k.wires w)) → Gains (seen_on trees feet rows) k (record k { crosses = xs; wires = ws })
unfolding keeps_cross keeps_wire is_apart in_row keeps_cell keeps_register
gains_on k trees feet rows xs ws o p = record { shape = refl; crosses = o; wires = p; apart = λ w. refl; trial = refl; row = λ w. refl; cells = λ t a. refl; registers = λ t. refl }
