use Rattle.design_eval.proofs.Vocabulary.{ℕ, ◌+◌, List, length, arith, ap, subst, sym, ◌∙◌, length-map, length-set, Cover, cover_at, truth}
use Rattle.design_eval.proofs.Vocabulary.{IsCoverOver, bit_at, IsSettledTo, is_bit, lane_bits, turn_at, places, lane-set}
use Rattle.design_eval.proofs.TableWordLemmas.{not-own}
use Rattle.design_eval.proofs.TurnLemmas.{place-within, out-below, turn-settles, turns-settle}
use Rattle.design_eval.proofs.word_truth.settle_words.Goals as goal

pub turn_word-requires-clause-within : goal.turn_word-requires-clause-within
turn_word-requires-clause-within c = place-within c.args.covers.now c.args.turns.now c.requires.turns c.turns.k c.turns-test.true

pub turn_word-requires-clause-made : goal.turn_word-requires-clause-made
turn_word-requires-clause-made c =
    let place : ℕ = (turn_at c.args.turns.now c.turns.k).place in
    let within = place-within c.args.covers.now c.args.turns.now c.requires.turns c.turns.k c.turns-test.true in
    let size = ap (λ (ws : List ℕ). length ws) c.deref.ensures.value ∙ c.turns.invariant.0 in
    subst (IsCoverOver (cover_at c.args.covers.now place)) (sym size) (c.requires.made place within)

pub turn_word-requires-clause-apart : goal.turn_word-requires-clause-apart
turn_word-requires-clause-apart c = λ i li. not-own c.args.covers.now c.args.turns.now c.requires.turns c.turns.k i c.turns-test.true li

pub index_mut-requires : goal.index_mut-requires
index_mut-requires c = omega (arith, c.turns.invariant.0, out-below c.args.covers.now c.args.turns.now c.requires.turns c.turns.k (length c.args.words.now.items) c.turns-test.true c.requires.made)

pub turns-preserved : goal.turns-preserved
turns-preserved c =
    let covers : List Cover = c.args.covers.now in
    let turns = c.args.turns.now in
    let old : List ℕ = c.args.words.now.items in
    let now : List ℕ = c.turns.words.items in
    let k : ℕ = c.turns.k in
    let word : ℕ = c.turn_word.result in
    let place : ℕ = (turn_at turns k).place in (
      length-set now (turn_at turns k).out word ∙ c.turns.invariant.0,
      λ j lj.
          subst (IsSettledTo covers (places turns) (k + 1) (lane_bits old j)) (sym (lane-set now (turn_at turns k).out word j))
          (turn-settles covers turns c.requires.turns k (lane_bits old j) (lane_bits now j) (is_bit word j) c.turns-test.true
          (λ i li. subst (IsCoverOver (cover_at covers i)) (sym (length-map old (λ w. is_bit w j))) (c.requires.made i li)) (c.turns.invariant.1 j lj)
          (c.turn_word.ensures j lj ∙ ap (λ (ws : List ℕ). truth (bit_at (lane_bits ws j)) (cover_at covers place)) c.deref.ensures.value)),
    )

pub returns-clause-settled : goal.returns-clause-settled
returns-clause-settled c = λ j lj.
    turns-settle c.args.covers.now c.args.turns.now c.requires.turns c.turns.k (lane_bits c.args.words.now.items j) (lane_bits c.turns.words.items j) (omega arith) (omega arith) (c.turns.invariant.1 j lj)
