use Rattle.std.proofs.Common.{◌≡◌, ◌≢◌, ◌<◌, ◌≤◌, ℕ, All, AllPairs, List, length, sym, ap, ◌∙◌, subst, arith}
use Rattle.place_repair.proofs.Vocabulary.{take_at, length-range_with_len, ArePlaces, IsPut}
use Rattle.place_repair.proofs.Placing.{places_are}
use Rattle.place_repair.proofs.seats.places_of.Goals as goal

pub put_all-requires-clause-few : goal.put_all-requires-clause-few
put_all-requires-clause-few c =
    let gone : length c.as_slice.result.now ≡ length c.args.moves.now.gone = ap length c.as_slice.ensures in
    let spare : length c.as_slice-2.result.now ≡ length c.args.moves.now.spare = ap length c.as_slice-2.ensures in
    let few : length c.args.moves.now.gone ≤ length c.args.moves.now.spare = c.requires.few in
    omega (arith, gone, spare, few)

pub put_all-requires-clause-within : goal.put_all-requires-clause-within
put_all-requires-clause-within c =
    let len : length c.deref_mut.result.now ≡ c.args.count = ap length (c.deref_mut.ensures.value ∙ c.in_ok-places.ensures) ∙ length-range_with_len 0 c.args.count in
    subst (λ n. All (λ t. t < n) c.as_slice.result.now) (sym len) (subst (All (λ t. t < c.args.count)) (sym c.as_slice.ensures) c.requires.within)

pub put_all-requires-clause-apart : goal.put_all-requires-clause-apart
put_all-requires-clause-apart c = subst (AllPairs (λ t u. t ≢ u)) (sym c.as_slice.ensures) c.requires.apart

pub returns : goal.returns
returns c =
    let moves = c.args.moves.now in
    let len : length c.put_all.new.places ≡ c.in_ok-places.places.len = c.put_all.ensures.sized ∙ c.deref_mut.ensures.len in
    let put : IsPut moves.gone moves.spare (length moves.gone) c.deref_mut.result.now c.put_all.new.places =
    subst (λ (xs : List ℕ). IsPut xs moves.spare (length xs) c.deref_mut.result.now c.put_all.new.places) c.as_slice.ensures
    (subst (λ (xs : List ℕ). IsPut c.as_slice.result.now xs (length c.as_slice.result.now) c.deref_mut.result.now c.put_all.new.places) c.as_slice-2.ensures c.put_all.ensures) in
    subst (ArePlaces c.args.count moves) (sym (take_at _ _ _ len)) (places_are c.args.count moves c.deref_mut.result.now c.put_all.new.places (c.deref_mut.ensures.value ∙ c.in_ok-places.ensures) put)
