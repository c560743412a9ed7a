use Rattle.std.proofs.Common.{◌≡◌, ◌-◌, ◌<◌, List, length, sym, ◌∙◌, refl, subst, arith, slice_get, vec_len, Some}
use Rattle.diag_known.proofs.Vocabulary.{nat_tests, nil_from_length, slice_get_read, upper_of, Support}
use Rattle.diag_known.proofs.Touring.{upper_last}
use Rattle.diag_known.proofs.tour.upper.Goals as goal

pub returns-then-is_empty : goal.returns-then-is_empty
returns-then-is_empty c =
    let none : vec_len c.args.ups.now ≡ 0 = grind (arith, nat_tests, sym c.is_empty.ensures ∙ c.if-is_empty.true) in
    subst (λ (feet : List Support). c.args.w.0 ≡ upper_of c.args.w.0 feet) (sym (nil_from_length c.args.ups.now.items (omega (arith, none)))) refl

pub returns : goal.returns
returns c =
    let feet = c.args.ups.now.items in
    let some : 0 < vec_len c.args.ups.now = grind (arith, nat_tests, sym c.is_empty.ensures ∙ c.if-is_empty.false) in
    let all : c.len.result ≡ vec_len c.args.ups.now = c.len.ensures in
    let last = c.index-last.result.now in
    let here : slice_get feet (c.len.result - 1) ≡ Some last = slice_get_read feet (length feet) (c.len.result - 1) last refl (omega (arith, some, all)) c.index-last.ensures in
    sym (upper_last c.args.w.0 feet (c.len.result - 1) last (omega (arith, some, all)) here)
