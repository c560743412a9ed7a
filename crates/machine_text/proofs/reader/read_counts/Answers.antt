use Rattle.machine_text.proofs.Vocabulary.{◌≡◌, ℕ, List, length, map, arith, Bor, ◌∙◌, sym, length-set, length-map}
use Rattle.machine_text.proofs.CountLemmas.{fault_at, sound_more, values_more, values_all, sound_all}
use Rattle.machine_text.proofs.reader.read_counts.Goals as goal

abbrev now : List (Bor (List ℕ)) → List (List ℕ)
now ws = map (λ w. w.now) ws

pub returns-in-Err : goal.returns-in-Err
returns-in-Err c = fault_at c.args.words.now c.loop-i.i _ c.loop-i-test.true c.in-Err.kind c.in-Err.ensures

pub loop-i-preserved : goal.loop-i-preserved
loop-i-preserved c = record {
  sound = sound_more c.args.words.now c.loop-i.i _ c.loop-i-test.true c.loop-i.invariant.sound c.in-Ok.ensures.0;
  values = values_more c.args.words.now c.loop-i.i _ c.loop-i-test.true c.loop-i.counts c.in-Ok.n c.loop-i.invariant.size c.loop-i.invariant.values c.in-Ok.ensures.1;
  size = length-set c.loop-i.counts c.loop-i.i c.in-Ok.n ∙ c.loop-i.invariant.size;
}

pub returns : goal.returns
returns c =
    let same : length (now c.args.words.now) ≡ length c.args.words.now = length-map c.args.words.now (λ (w : Bor (List ℕ)). w.now) in (
      sound_all (now c.args.words.now) c.loop-i.i (omega arith) c.loop-i.invariant.sound,
      values_all c.loop-i.counts (now c.args.words.now) (c.loop-i.invariant.size ∙ sym same) (λ k lt. c.loop-i.invariant.values k (omega arith)),
    )
