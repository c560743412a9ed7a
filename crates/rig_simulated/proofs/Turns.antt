-- Several cycles, one after the other.
use Rattle.std.proofs.Common.{◌≡◌, ℕ, ◌+◌, ◌<◌, ◌≤◌, Option, Some, None, IsSome, IfSome, List, [], ◌∷◌, ◌++◌, length, refl, sym, ap, ◌∙◌, subst, arith, append-nil, append_assoc, Bool, true, false, Result, Ok, Err, OnOk, is_err, option_map, map, get_or, All}
use Rattle.rig_simulated.proofs.Vocabulary.{map-append, length-append, All-get_or, pins_of, Pins, Faults, IsRun, Past, Exchange, Session}
use Rattle.rig_simulated.proofs.Vocabulary.{Machine, GoesOnBy, drives_of, readings_of, GoesOnFrom, HasRoomFrom, GoesOnByFrom}
use Rattle.std.proofs.Math.ListN.{get_or-map}

module _ (f : Faults) (count : ℕ) where
  -- the session went on by these cycles, and there is room for the others
  pub record IsUnderWay (done : ℕ) (drives readings : List Pins) (old new : Session) : Type 0 where
    pub on : GoesOnByFrom f drives readings old new
    pub room : count ≤ new.spare + done

  abbrev pub AreUnderWay : ℕ → List Pins → List Pins → Option Session → Option Session → Type 0
  AreUnderWay done drives readings old new = IfSome old (λ s. IfSome new (λ t. IsUnderWay done drives readings s t))

  pub opens : (o m : Option Session) → IfSome o (λ s. IfSome m (λ t. HasRoomFrom f count s t)) → AreUnderWay 0 [] [] o m
  opens (Some s) (Some t) h = record {
    on = record { more = []; driven = refl; read = refl; config = h.config; cycles = h.cycles ∙ sym (append-nil s.cycles); spare = (let n = h.no_less in omega (arith, n)); run = h.run };
    room = (let r = h.room in omega (arith, r));
  }
  opens (Some s) None h = cc
  opens None m h = cc

  pub turns : (k : ℕ) (drives readings : List Pins) (drive reading : Pins) (o m n : Option Session) → IsSome m → AreUnderWay k drives readings o m → IfSome m (λ t. IfSome n (λ u. GoesOnFrom f drive reading t u)) →
      AreUnderWay (k + 1) (drives ++ drive ∷ []) (readings ++ reading ∷ []) o n
  turns k drives readings drive reading (Some s) (Some t) (Some u) is h g =
      let more : List Exchange = h.on.more ++ record { drive = drive; reading = reading } ∷ [] in
      record {
        on = record {
          more = more;
          driven = map-append (λ (c : Exchange). c.drive) h.on.more (record { drive = drive; reading = reading } ∷ []) ∙ ap (λ l. l ++ drive ∷ []) h.on.driven;
          read = map-append (λ (c : Exchange). c.reading) h.on.more (record { drive = drive; reading = reading } ∷ []) ∙ ap (λ l. l ++ reading ∷ []) h.on.read;
          config = g.config ∙ h.on.config;
          cycles = g.cycles ∙ ap (λ l. l ++ record { drive = drive; reading = reading } ∷ []) h.on.cycles ∙ append_assoc s.cycles h.on.more (record { drive = drive; reading = reading } ∷ []);
          spare = (let a = h.on.spare in let b = g.spare in let l = length-append drives (drive ∷ []) in omega (arith, a, b, l));
          run = g.run;
        };
        room = (let a = h.room in let b = g.spare in omega (arith, a, b));
      }
  turns k drives readings drive reading (Some s) (Some t) None is h g = cc
  turns k drives readings drive reading (Some s) None n is h g = cc
  turns k drives readings drive reading None m n is h g = cc

  -- while cycles are left there is room for one more
  pub has_room : (k : ℕ) (drives readings : List Pins) (o m : Option Session) → IsSome o → AreUnderWay k drives readings o m → k + 1 ≤ count → IfSome m (λ t. 1 ≤ t.spare)
  has_room k drives readings (Some s) (Some t) is h le = (let r = h.room in omega (arith, r, le))
  has_room k drives readings (Some s) None is h le = cc
  has_room k drives readings None m is h le = cc

  pub closes : (k : ℕ) (drives readings : List Pins) (o m : Option Session) → AreUnderWay k drives readings o m → IfSome o (λ s. IfSome m (λ t. GoesOnByFrom f drives readings s t))
  closes k drives readings (Some s) (Some t) h = h.on
  closes k drives readings (Some s) None h = cc
  closes k drives readings None m h = cc

  -- the machine of the session stays as wide as it was
  pub same_width : (k : ℕ) (drives readings : List Pins) (o m : Option Session) → IsSome m → IsSome o → AreUnderWay k drives readings o m → option_map (λ (s : Session). pins_of s.config.shape) m ≡ option_map (λ (s : Session). pins_of s.config.shape) o
  same_width k drives readings (Some s) (Some t) is was h = ap (λ g. Some (pins_of g.shape)) h.on.config
  same_width k drives readings (Some s) None is was h = cc
  same_width k drives readings None m is was h = cc

-- a row among rows that are as wide as the machine
pub row_at : (w : Option ℕ) (rows : List Pins) (k : ℕ) (d : Pins) → All (λ row. w ≡ Some (length row)) rows → k < length rows → w ≡ Some (length (get_or rows k d))
row_at w rows k d all h = All-get_or (λ row. w ≡ Some (length row)) rows k d h all

-- so where the rows were changed and kept their lengths
pub kept_row_at : (w : Option ℕ) (old new : List Pins) (k : ℕ) (d : Pins) → All (λ row. w ≡ Some (length row)) old → map length new ≡ map length old → k < length old → w ≡ Some (length (get_or new k d))
kept_row_at w old new k d all kept h = row_at w old k d all h ∙ ap Some (sym (get_or-map length old k d) ∙ ap (λ l. get_or l k (length d)) (sym kept) ∙ get_or-map length new k d)

-- an answer that isn't an error has what is said of an Ok
pub ok_of : {X E : Type 0} {P : Type 0} (r : Result X E) → OnOk r P → (b : Bool) → b ≡ is_err r → b ≡ false → P
ok_of (Ok x) p b e f = p
ok_of (Err x) p b e f = cc

-- the rig goes on as its machine does
pub rig_goes_on : (f : Faults) (drives readings : List Pins) (past : List Past) (m k : Machine) (o p : Option Session) (a b x y : ℕ) → IsSome o → IsSome p → k.faults ≡ Some f →
    IfSome o (λ s. IfSome p (λ t. GoesOnByFrom f drives readings s t)) →
    GoesOnBy drives readings (record { machine = m; session = o; past = past; loads = a; failures = x }) (record { machine = k; session = p; past = past; loads = b; failures = y })
rig_goes_on f drives readings past m k (Some s) (Some t) a b x y is on told h = record {
  more = h.more;
  driven = h.driven;
  read = h.read;
  config = ap Some h.config;
  cycles = h.cycles;
  spare = h.spare;
  past = refl;
  told = subst (λ (o : Option Faults). IfSome o (λ f. IsRun f t.config (drives_of t.cycles) (readings_of t.cycles))) (sym told) h.run;
}
rig_goes_on f drives readings past m k None p a b x y is on told h = cc
rig_goes_on f drives readings past m k (Some s) None a b x y is on told h = cc
