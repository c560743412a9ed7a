-- Without faults every wire is sound.
use Rattle.machine_meaning.proofs.Vocabulary.{◌≡◌, ℕ, false, refl, sym, ap, ◌∙◌, unwrap_or, false≢true, Shape}
use Rattle.machine_meaning.specs.Vocabulary.{Faults, IsFaultless, here, then, crossed, bridged, Shorted, IsSoundWire, Defects, Covers}
use Rattle.machine_meaning.proofs.Clear.{clear_of_sound}

shorted_to_itself : {m : Shape} {f : Faults} {w u : ℕ} → IsFaultless f → Shorted m f w u → u ≡ w
shorted_to_itself none here = refl
shorted_to_itself {f = f} none (then j (crossed x on at)) = absurd (false≢true (sym (ap (λ o. unwrap_or o false) (none.crosses x)) ∙ on))
shorted_to_itself {f = f} none (then j (bridged p is at)) = absurd (false≢true (sym (none.bridges p) ∙ is))

pub all_sound : {m : Shape} {f : Faults} → IsFaultless f → (w : ℕ) → IsSoundWire m f w
all_sound none w = record { not_stuck = none.wires w; alone = λ u s. shorted_to_itself none s }

-- so every list covers it
pub covers_none : {m : Shape} {d : Defects} {f : Faults} → IsFaultless f → Covers m d f
covers_none {m} {d} {f} none = record {
  crosses = λ x h is. none.crosses x;
  cells = λ t a h b is. none.cells t a;
  registers = λ t h is. none.registers t;
  wires = λ w h is. clear_of_sound (all_sound none w);
  pairs = λ w u h k is on s. sym ((all_sound none w).alone u s);
}
