use Rattle.std.proofs.Common.{ℕ, ◌≡◌, ◌==◌, Bool, true, false, not, cond, List, Option, Some, None, length, map}
use Rattle.design_blif.proofs.Vocabulary.{err_from_is_err_and, Cover, DesignKind, Refusal, Memory, Kind, IsRefusedAs, row_words}
use Rattle.design_blif.proofs.Vocabulary.{is_right_row, row_fault, row_shape_fault}
use Rattle.design_netlist.specs.declared.fault.DesignKind.TheVariants as kind
use Rattle.design_blif.proofs.lines.push_row.Goals as goal

by_shape : (k : DesignKind) (later : Option DesignKind) (a b : Bool) → cond a (Some kind.Word) (cond b (Some kind.Row) None) ≡ Some k → cond a (Some kind.Word) (cond b (Some kind.Row) later) ≡ Some k
by_shape k later true b h = h
by_shape k later false true h = h
by_shape k later false false h = absurd cc

-- the shape of a row is looked at first
shape_first : (c : Cover) (words : List (List ℕ)) (e : Refusal) → IsRefusedAs (row_shape_fault (length c.ins) words) e → IsRefusedAs (row_fault c words) e
shape_first c words Memory h = tt
shape_first c words (Kind k) h = by_shape k _ (not (length words == row_words (length c.ins))) (not (is_right_row (length c.ins) words)) h

pub returns-in_err-row : goal.returns-in_err-row
returns-in_err-row c =
    let p = err_from_is_err_and c.from_residual.result c.from_residual.ensures.1 in
    record { steps = rw (p.1, p.2) (shape_first c.args.cover.now (map (λ w. w.now) c.args.words.now) c.in_err-row.field-0.0 (rw c.as_slice.ensures at c.in_err-row.ensures.steps)) }
