use Rattle.design_eval.proofs.Vocabulary.{◌+◌, ℕ, List, length, arith, subst, sym, refl, number_at, places, AreKeys, AreStarts}
use Rattle.design_eval.proofs.{TurnLemmas.turns-size, ReaderLemmas.readers-are, ReaderLemmas.latches-are}
use Rattle.design_eval.proofs.readers.readers_of.Goals as goal

pub returns-clause-covers : goal.returns-clause-covers
returns-clause-covers c =
    let order : List ℕ = places c.args.turns.now in
    let size = turns-size c.args.turns.now in
    let keys : List ℕ = c.in_ok-keys.keys.items in
    let starts : List ℕ = c.in_ok-starts.starts.items in
    readers-are c.args.covers.now order keys starts c.args.signals
    (subst (λ (n : ℕ). AreKeys c.args.covers.now order n keys) (sym size) c.in_ok-keys.ensures.keys)
    c.in_ok-keys.ensures.sorted
    (subst (λ (xs : List ℕ). AreStarts xs (c.args.signals + 1) starts) c.deref.ensures.value c.in_ok-starts.ensures)
    (omega (arith, size, c.requires.few))
    (λ k i lk li. (c.requires.made (number_at order k) (c.requires.turns.order.within k lk)).ins i li)
    _ refl refl

pub returns-clause-latches : goal.returns-clause-latches
returns-clause-latches c =
    let order : List ℕ = places c.args.turns.now in
    let keys : List ℕ = c.in_ok-keys.keys.items in
    let starts : List ℕ = c.in_ok-starts.starts.items in
    latches-are c.args.covers.now order keys starts c.args.signals
    (subst (λ (n : ℕ). AreKeys c.args.covers.now order n keys) (sym (turns-size c.args.turns.now)) c.in_ok-keys.ensures.keys)
    c.in_ok-keys.ensures.sorted
    (subst (λ (xs : List ℕ). AreStarts xs (c.args.signals + 1) starts) c.deref.ensures.value c.in_ok-starts.ensures)
    (length c.args.turns.now) c.args.reads.now c.in_ok-keys.ensures.latches c.requires.few c.requires.reads _ refl refl
