use Rattle.std.proofs.Common.{◌≡◌, List, [], ◌∷◌, ◌++◌, false, set, sym, ap, ◌∙◌, arith, map}
use Rattle.diag_evidence.proofs.Vocabulary.{range_with_len, Pins, none_driven, one_driven}
use Rattle.std.proofs.lemmas.List.FromFn.{map-range_with_len_more}
use Rattle.diag_evidence.proofs.looks.look_drives.Goals as goal

pub pins-preserved : goal.pins-preserved
pins-preserved c =
    let n = c.args.pins in
    let one : c.set.new.self ≡ one_driven n c.pins.k = c.set.ensures ∙ ap (λ (row : Pins). set row c.pins.k false) c.in_ok-drive.ensures in
    c.in_ok-push-2.ensures.items ∙ ap (λ (rows : List Pins). rows ++ c.set.new.self ∷ []) c.pins.invariant
    ∙ ap (λ (row : Pins). none_driven n ∷ (map (one_driven n) (range_with_len 0 c.pins.k) ++ row ∷ [])) one
    ∙ ap (λ (rows : List Pins). none_driven n ∷ rows) (sym (map-range_with_len_more (one_driven n) 0 c.pins.k c.pins.k (omega arith)))
