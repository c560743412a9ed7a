-- A machine that is read, attached and listed, as one step.
use Rattle.diag_list.proofs.Vocabulary.{◌≡◌, ◌∙◌, ℕ, List, [], ◌∷◌, Some, refl, sym, ap, subst, Result, Ok, Err, StoreState, SinkState}
use Rattle.diag_list.proofs.Vocabulary.{Told, IfTold, Shape, DefectList, RigState, Machine, Asked, Stop, later-later, stands-then}
use Rattle.cmd_steps.specs.Vocabulary.{Step, Outside, outside, StepStops, AsksMachine, IsMachineText, attaches, reads_machine, Took}
use Rattle.cmd_steps.specs.declared.refusal.Stop.TheVariants.{Refused, Sink}
use Rattle.cmd_steps.proofs.Counting.{counted-after}
use Rattle.cmd_steps.proofs.Machines.{named}
use Rattle.cmd_steps.proofs.WriteLemmas.{asks-after}
use Rattle.diag_list.specs.Lists.{IsListed, ListsMachine, unread, unattached, unlisted, lists_machine, lists_now}

-- ---- two steps as one, of which the first asks for this name

module _ {T U V : Type 0} (first : Step T) (second : Step U) (both : Step V) (name : List ℕ) (x : T) (old mid new : Outside) (took : Took (name ∷ []) first (Ok x) old mid) where
  both-stop : (stop : Stop) → Took [] second (Err stop) mid new → StepStops both stop → Took (name ∷ []) both (Err stop) old new
  both-stop stop then_took stops = record {
    later = later-later old mid new took.later then_took.later;
    silent = then_took.silent ∙ took.silent;
    asked = record { all = tt; some = (asks-after (name ∷ []) [] (Err stop) old.store mid.store new.store took.asked.all then_took.asked).some };
    place = stands-then (name ∷ []) [] old.store mid.store new.store took.place then_took.place;
    gives = tt;
    stops = stops;
    counted = counted-after {T = U} (Err stop) old mid new took.later then_took.counted;
  }

  both-give : (y : U) (z : V) → Took [] second (Ok y) mid new → both.gives z → Took (name ∷ []) both (Ok z) old new
  both-give y z then_took gives = record {
    later = later-later old mid new took.later then_took.later;
    silent = then_took.silent ∙ took.silent;
    asked = record { all = (asks-after (name ∷ []) [] (Ok y) old.store mid.store new.store took.asked.all then_took.asked).all; some = tt };
    place = stands-then (name ∷ []) [] old.store mid.store new.store took.place then_took.place;
    gives = gives;
    stops = tt;
    counted = tt;
  }

-- what was asked of the rig stays asked while the machine stays
pub asked-on : (is_shape : Shape → Type 0) (name : List ℕ) (old : List Asked) (mid new : Machine) → new ≡ mid → AsksMachine is_shape name old mid.asked → AsksMachine is_shape name old new.asked
asked-on is_shape name old mid new same asks = subst (λ (m : Machine). AsksMachine is_shape name old m.asked) (sym same) asks

-- ---- where it ends

-- what it gives, from the machine that was read and attached
listed-named : (name : List ℕ) (text : Told) (m : Shape) (old mid new : RigState) (d : DefectList) → IfTold text (λ bytes. IsMachineText bytes m)
    → mid.machine.attached ≡ Some (named name m) → mid.loads ≡ old.loads → new.machine ≡ mid.machine
    → IsListed m mid.loads new (record { list = d; loads = new.loads }) → ListsMachine name text old new d
listed-named name text m old mid new d read attached loads machine is = record {
  machine_is = subst (λ s. IfTold text (λ bytes. IsMachineText bytes s)) (sym is.shape) read;
  attached = ap (λ (x : Machine). x.attached) machine ∙ (attached ∙ ap (λ s. Some (named name s)) (sym is.shape));
  is_listed = subst (λ s. IsListed s old.loads new (record { list = d; loads = new.loads })) (sym is.shape) (subst (λ n. IsListed m n new (record { list = d; loads = new.loads })) loads is);
}

module _ (machine name : List ℕ) (s0 s1 : StoreState) (sink : SinkState) where
  abbrev text : Told
  text = s0.contents machine

  abbrev listing-step : RigState → RigState → Step DefectList
  listing-step old new = lists_machine name text old new

  unread-stops : (rig : RigState) (stop : Stop) → StepStops (reads_machine text) stop → StepStops (listing-step rig rig) stop
  unread-stops rig (Refused refusal) stops = unread stops refl
  unread-stops rig (Sink fail) stops = absurd stops

  -- the machine isn't read
  pub not-read : (rig : RigState) (stop : Stop) → Took (machine ∷ []) (reads_machine text) (Err stop) (outside s0 rig sink) (outside s1 rig sink) → Took (machine ∷ []) (listing-step rig rig) (Err stop) (outside s0 rig sink) (outside s1 rig sink)
  not-read rig stop took = record {
    later = took.later;
    silent = took.silent;
    asked = record { all = tt; some = took.asked.some };
    place = took.place;
    gives = tt;
    stops = unread-stops rig stop took.stops;
    counted = took.counted;
  }

  module _ (r0 r1 : RigState) (m : Shape) (read : Took (machine ∷ []) (reads_machine text) (Ok m) (outside s0 r0 sink) (outside s1 r0 sink)) (loads : r1.loads ≡ r0.loads) where
    unattached-stops : (stop : Stop) → StepStops (attaches (named name m) r0 r1) stop → StepStops (listing-step r0 r1) stop
    unattached-stops (Refused refusal) stops = unattached m read.gives stops loads
    unattached-stops (Sink fail) stops = absurd stops

    -- it isn't attached
    pub not-attached : (stop : Stop) → Took [] (attaches (named name m) r0 r1) (Err stop) (outside s1 r0 sink) (outside s1 r1 sink) → Took (machine ∷ []) (listing-step r0 r1) (Err stop) (outside s0 r0 sink) (outside s1 r1 sink)
    not-attached stop took =
        both-stop (reads_machine text) (attaches (named name m) r0 r1) (listing-step r0 r1) machine m (outside s0 r0 sink) (outside s1 r0 sink) (outside s1 r1 sink) read stop took (unattached-stops stop took.stops)

    module _ (attached : Took [] (attaches (named name m) r0 r1) (Ok tt) (outside s1 r0 sink) (outside s1 r1 sink)) (r2 : RigState) (same : r2.machine ≡ r1.machine) where
      read-attached : Took (machine ∷ []) (attaches (named name m) r0 r1) (Ok tt) (outside s0 r0 sink) (outside s1 r1 sink)
      read-attached =
          both-give (reads_machine text) (attaches (named name m) r0 r1) (attaches (named name m) r0 r1) machine m (outside s0 r0 sink) (outside s1 r0 sink) (outside s1 r1 sink) read tt tt attached attached.gives

      unlisted-stops : (stop : Stop) → StepStops (lists_now m r1 r2) stop → StepStops (listing-step r0 r2) stop
      unlisted-stops (Refused refusal) stops =
          unlisted m read.gives (ap (λ (x : Machine). x.attached) same ∙ attached.gives) stops.0 (rw (← loads) stops.1)
      unlisted-stops (Sink fail) stops = absurd stops

      -- it is listed, or not
      pub then-listed : (result : Result DefectList Stop) → Took [] (lists_now m r1 r2) result (outside s1 r1 sink) (outside s1 r2 sink) → Took (machine ∷ []) (listing-step r0 r2) result (outside s0 r0 sink) (outside s1 r2 sink)
      then-listed (Err stop) took =
          both-stop (attaches (named name m) r0 r1) (lists_now m r1 r2) (listing-step r0 r2) machine tt (outside s0 r0 sink) (outside s1 r1 sink) (outside s1 r2 sink) read-attached stop took (unlisted-stops stop took.stops)
      then-listed (Ok d) took =
          both-give (attaches (named name m) r0 r1) (lists_now m r1 r2) (listing-step r0 r2) machine tt (outside s0 r0 sink) (outside s1 r1 sink) (outside s1 r2 sink) read-attached d d took
          (listed-named name text m r0 r1 r2 d read.gives attached.gives loads same took.gives)
