use Rattle.std.proofs.Common.{◌≡◌, ℕ, arith, subst, sym, ap, ◌∙◌}
use Rattle.design_eval.proofs.Vocabulary.{get_or_default, Cover, cover_at, no_cover, AreBelow, turn_at, places}
use Rattle.design_eval.proofs.{TurnLemmas.place-within, TurnLemmas.cover-is, ReaderLemmas.keys-more}
use Rattle.design_eval.proofs.readers.cover_keys.Goals as goal

pub bounds-covers-turns : goal.bounds-covers-turns
bounds-covers-turns c = place-within c.args.covers.now c.args.turns.now c.requires.turns c.turns.k c.turns-test.true

pub push_keys-requires-clause-signals : goal.push_keys-requires-clause-signals
push_keys-requires-clause-signals c =
    let place : ℕ = (turn_at c.args.turns.now c.turns.k).place in
    let within = place-within c.args.covers.now c.args.turns.now c.requires.turns c.turns.k c.turns-test.true in
    let is : c.index-covers-turns.result ≡ cover_at c.args.covers.now place = c.index-covers-turns.is ∙ get_or_default c.args.covers.now place c.index-covers-turns.result no_cover within in
    let ins = c.as_slice.ensures ∙ ap (λ (x : Cover). x.ins) is in
    let below = subst (AreBelow 65535) (sym ins) (c.requires.made place within).ins in
    λ i li. omega (arith, below i li)

pub turns-preserved : goal.turns-preserved
turns-preserved c =
    let place : ℕ = (turn_at c.args.turns.now c.turns.k).place in
    let within = place-within c.args.covers.now c.args.turns.now c.requires.turns c.turns.k c.turns-test.true in
    let is : c.index-covers-turns.result ≡ cover_at c.args.covers.now place = c.index-covers-turns.is ∙ get_or_default c.args.covers.now place c.index-covers-turns.result no_cover within in
    keys-more c.args.covers.now (places c.args.turns.now) c.turns.k c.turns.keys.items c.push_keys.new.keys.items c.as_slice.result.now c.turns.invariant
    (c.as_slice.ensures ∙ ap (λ (x : Cover). x.ins) (is ∙ cover-is c.args.covers.now c.args.turns.now c.requires.turns c.turns.k c.turns-test.true))
    c.in_ok-push_keys.ensures

pub returns : goal.returns
returns c = λ k i lk li. c.turns.invariant k i (omega (arith, lk, c.turns-test.false)) li
