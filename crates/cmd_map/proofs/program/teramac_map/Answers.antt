use Rattle.cmd_map.proofs.Vocabulary.{map, string_bytes, [], ◌∷◌, refl, arith, outside, around, done-as, nothing}
use Rattle.cmd_map.proofs.Headlines.{mapped, fitted}
use Rattle.cmd_map.proofs.Fronts.{ended-as, right-files, is-status, never-differs, rig-rests, complete-so}
use Rattle.cmd_map.proofs.program.teramac_map.Goals as goal

pub returns-clause-statuses : goal.returns-clause-statuses
returns-clause-statuses g c =
    let e = c.end.ensures nothing.rig in
    is-status c.end.result e.statuses (λ four. rig-rests (e.rig four)) (λ seven. never-differs (map string_bytes c.args.words.now) _ _ (e.differ seven).0 (e.differ seven).1)

pub returns-clause-promises : goal.returns-clause-promises
returns-clause-promises g c =
    let words = map string_bytes c.args.words.now in
    let s0 = g.S.Store.store_state c.args.store.now in
    let s1 = g.S.Store.store_state c.end.new.store in
    let a0 = g.K.Sink.sink_state c.args.sink.now in
    let a1 = g.K.Sink.sink_state c.end.new.sink in
    λ rig.
    let old = outside s0 rig a0 in
    let new = outside s1 rig a1 in
    let still = outside s0 nothing.rig a0 in
    let ended = outside s1 nothing.rig a1 in
    let e = c.end.ensures rig in
    record {
      ends = e;
      mapped = λ design is zero. done-as old new (ended-as words old new e is refl) zero (mapped design old new);
      fitted = λ machine defects design is zero. done-as old new (ended-as words old new e is refl) zero (fitted machine defects design old new);
      complete = λ right.
          complete-so still ended refl refl refl refl
          ((c.end.ensures nothing.rig).complete (λ front rest wrote. right-files words s0 rig nothing.rig (around new) (around ended) front right));
    }
