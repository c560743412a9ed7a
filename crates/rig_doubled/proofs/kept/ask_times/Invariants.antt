use Rattle.rig_doubled.proofs.Vocabulary.{◌≡◌, ◌+◌, ◌-◌, ◌^◌, ◌≤◌, min, length, pins_of, next_count, Narrows, HaveWidth}
use Rattle.rig_doubled.proofs.kept.ask_times.Given as goal

abbrev pub invariant-times : goal.invariant-times
invariant-times g l = record {
  machine : (g.R.Rig.rig_state l.inner).machine ≡ (g.R.Rig.rig_state l.fn.inner).machine;
  later : (g.R.Rig.rig_state l.fn.inner).failures ≤ (g.R.Rig.rig_state l.inner).failures;
  loads : next_count (g.R.Rig.rig_state l.inner).loads ≡ min ((g.R.Rig.rig_state l.fn.inner).loads + l._k) (2 ^ 64 - 1);
  narrows : Narrows (g.R.Rig.rig_state l.fn.inner) (g.R.Rig.rig_state l.inner);
  again_pins : HaveWidth (pins_of l.config.config.shape) l.again;
  again : length l.again ≡ length l.drives;
}
