-- Files of the system as a port.
use Rattle.std.specs.Prelude.{◌≡◌, ◌≢◌, ◌⊎◌, ℕ, ◌-◌, ◌^◌, ◌≤◌, Bool, true, List, [], ◌∷◌, ◌++◌, get_or, codes, min, length, All, Option, None, IfSome, IsNone, MatchOption}
use Rattle.std.specs.Io.KnownBytes.{Appends, Consumes, prepend_known}
use Rattle.rig_port.specs.{Checks.fresh_check, Said.Sent, Ports.PortState, declared.talk.Ends.Ends}

-- what they mean as a port: no machine is told
abbrev pub file_port_state : Bool → List Sent → ℕ → PortState
file_port_state is_open talk failures =
    record { is_open = is_open; device = None; check = fresh_check; talk = talk; failures = min failures (2 ^ 64 - 1) }

-- what reads give from here on, where it is known: bytes that were read and not yet used, and then those that the file has left
abbrev pub ahead : List ℕ → Option (List ℕ) → Option (List ℕ)
ahead waiting left = prepend_known waiting left

-- its last byte is its one line feed
pub record IsLine (bytes : List ℕ) : Type 0 where
  pub front : List ℕ
  pub bytes_are : bytes ≡ front ++ 10 ∷ []
  pub one : All (λ byte. byte ≢ 10) front

-- it begins with the first of these bytes
abbrev pub BeginsAs : List ℕ → List ℕ → Type 0
BeginsAs words bytes = get_or bytes 0 0 ≡ get_or words 0 0

-- of the requests that alone begins so which asks what a machine is
abbrev pub AsksWhatItIs : List ℕ → Type 0
AsksWhatItIs request = BeginsAs (codes "a") request

-- so the other end says that it doesn't do what was asked
abbrev pub IsRefusal : List ℕ → Type 0
IsRefusal line = BeginsAs (codes "!") line

-- a line that is no refusal
pub record IsReply (bytes : List ℕ) : Type 0 where
  pub line : IsLine bytes
  pub taken : IsRefusal bytes → ⊥

-- of what was ahead some bytes were dropped, and then came this line: none were, unless the end of a line that was too long was still to
-- come, or it was asked what a machine is
pub record HasHeard (was_cut : Bool) (request : List ℕ) (old new : Option (List ℕ)) (line : List ℕ) : Type 0 where
  pub dropped : List ℕ
  pub read : Consumes old new (dropped ++ line)
  pub few : length dropped ≤ 1048576
  pub why : (dropped ≡ []) ⊎ ((was_cut ≡ true) ⊎ AsksWhatItIs request)

-- the request now stands behind what the one file held, and the line was ahead in the other
pub record HasTalkedByTwo {F : Type 0} (contents left : F → Option (List ℕ)) (to from : F) (waiting : List ℕ) (was_cut : Bool) (to_now from_now : F)
    (waiting_now request line : List ℕ) : Type 0 where
  pub wrote : Appends (contents to) (contents to_now) request
  pub heard : HasHeard was_cut request (ahead waiting (left from)) (ahead waiting_now (left from_now)) line

-- the request stood behind what the file held, and then the line was ahead in it: how a write moves what is ahead isn't said
pub record HasTalkedByOne {F : Type 0} (contents left : F → Option (List ℕ)) (file : F) (waiting : List ℕ) (was_cut : Bool) (file_now : F)
    (waiting_now request line : List ℕ) : Type 0 where
  pub between : F
  pub wrote : Appends (contents file) (contents between) request
  pub heard : HasHeard was_cut request (ahead waiting (left between)) (ahead waiting_now (left file_now)) line

-- by one file for both ways, or by one for each
pub record HasTalked {F : Type 0} (contents left : F → Option (List ℕ)) (old new : Ends F) (request line : List ℕ) : Type 0 where
  pub reply : IsReply line
  pub bytes : MatchOption old.from
      (IsNone new.from × HasTalkedByOne contents left old.to old.rest old.is_cut new.to new.rest request line)
      (λ from. IfSome new.from (λ from_now. HasTalkedByTwo contents left old.to from old.rest old.is_cut new.to from_now new.rest request line))

-- the same of files that are open before and after
abbrev pub HaveTalked : {F : Type 0} → (F → Option (List ℕ)) → (F → Option (List ℕ)) → Option (Ends F) → Option (Ends F) → List ℕ → List ℕ →
    Type 0
HaveTalked contents left old new request line = IfSome old (λ o. IfSome new (λ n. HasTalked contents left o n request line))

-- the whole request went out: to one file for both ways, of which more may have been read since, or to the one of two
abbrev pub HasWritten : {F : Type 0} → (F → Option (List ℕ)) → Ends F → Ends F → List ℕ → Type 0
HasWritten {F} contents old new request =
    MatchOption old.from ((between : F) × Appends (contents old.to) (contents between) request) (λ _. Appends (contents old.to) (contents new.to) request)

-- the same of files that are open before and after
abbrev pub HaveWritten : {F : Type 0} → (F → Option (List ℕ)) → Option (Ends F) → Option (Ends F) → List ℕ → Type 0
HaveWritten contents old new request = IfSome new (λ n. IfSome old (λ o. HasWritten contents o n request))
