-- A sound wire is shorted to no stuck wire, and to no other wire.
use Rattle.machine_meaning.proofs.Vocabulary.{◌≡◌, ◌≢◌, ℕ, None, sym, subst, Shape, Faults, stuck_wire, Shorted, IsClear, IsSoundWire}

pub clear_of_sound : {m : Shape} {f : Faults} {w : ℕ} → IsSoundWire m f w → IsClear m f w
clear_of_sound {f = f} s u j = subst (λ v. stuck_wire f v ≡ None) (sym (s.alone u j)) s.not_stuck

pub unshorted_of_sound : {m : Shape} {f : Faults} {w u : ℕ} → IsSoundWire m f w → u ≢ w → ¬ Shorted m f w u
unshorted_of_sound {u = u} s n j = n (s.alone u j)
