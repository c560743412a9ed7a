-- The machine that a port tells stands behind what was said.
use Rattle.std.proofs.Common.{◌≡◌, ℕ, ◌^◌, ◌<◌, Bool, true, false, List, [], ◌∷◌, ◌++◌, Option, None, Some, refl, sym, ap, ◌∙◌, subst, IfSome, option_map, is_some}
use Rattle.rig_port.proofs.Vocabulary.{false≢true, Shape, Faults, Configuration, Device, WhereTold, Again, Check, Link, Answers, IsFresh}
use Rattle.rig_port.proofs.Vocabulary.{IsUp, IsHeld, state_of, PortBoardState, told_with, waiting, PortState, machine_told, attach_line}
use Rattle.rig_port.proofs.Vocabulary.{Said, CanResume, AllStandUp, HasStood, StandsTold, MayBe, as_told, and_said, HasSaid, MayStand}
use Rattle.rig_port.proofs.Answered.{attach_answers}
use Rattle.rig_port.proofs.Behind.{stands_faults, stands_shape}
use Rattle.rig_port.proofs.Resumed.{HasShape}
use Rattle.rig_port.proofs.Standing.{may_be}

-- one more answer
said_and : (talk : List Said) (request line : List ℕ) (d : Device) (c : Check) (x : Device) (y : Check) (e : Device) (k : Check) → HasSaid d c talk x y → Answers x y request line e k
    → HasSaid d c (and_said talk request line) e k
said_and [] request line d c x y e k h a =
    (e, k, subst (λ (b : Check). Answers d b request line e k) (sym h.1) (subst (λ (f : Device). Answers f y request line e k) (sym h.0) a), (refl, refl))
said_and (s ∷ talk) request line d c x y e k h a = (h.0, h.1, h.2, said_and talk request line h.0 h.1 x y e k h.3 a)

stands_and : (m : Shape) (f : Faults) (talk : List Said) (request line : List ℕ) (x : Device) (y : Check) (e : Device) (k : Check) → MayStand m f talk x y → Answers x y request line e k
    → MayStand e.shape e.faults (and_said talk request line) e k
stands_and m f talk request line x y e k s a =
    let shape : m ≡ e.shape = sym (a.shape ∙ stands_shape m f talk x y s) in
    let faults : f ≡ e.faults = sym (a.faults ∙ stands_faults m f talk x y s) in
    subst (λ (m : Shape). MayStand m e.faults (and_said talk request line) e k) shape (subst (λ (f : Faults). MayStand m f (and_said talk request line) e k) faults (record {
      first = s.first;
      check = s.check;
      shape = s.shape;
      faults = s.faults;
      said = said_and talk request line s.first s.check x y e k s.said a;
    }))

-- each device of a machine answers an attach as the one that is told
as_told_one : (t d e : Device) (c b k : Check) (n : ℕ) (request line : List ℕ) → n < 2 ^ 32 → request ≡ attach_line n → d.shape ≡ t.shape → d.faults ≡ t.faults → Answers t c request line e k
    → Answers d b request line e k
as_told_one t d e c b k n request line few asked shape faults a =
    attach_answers d e b k n request line (a.shape ∙ sym shape) (a.faults ∙ sym faults) few asked
    (subst (λ (m : Shape). IsFresh n m line e k) (sym shape) (a.attaches n few asked))

-- behind an attach that was answered the machine that is told stands
pub attach_stands : (old new : PortState) (n : ℕ) (talk now : List Said) (request line : List ℕ) → n < 2 ^ 32 → request ≡ attach_line n → now ≡ and_said talk request line
    → WhereTold (λ d e. Answers d old.check request line e new.check) old.device new.device → HasStood old talk → StandsTold new now
attach_stands old new n talk now request line few asked is told stood = by_told old.device new.device told stood where
  by_told : (o w : Option Device) → WhereTold (λ d e. Answers d old.check request line e new.check) o w → IfSome o (λ t. (d : Device) × (c : Check) × MayStand t.shape t.faults talk d c)
      → IfSome w (λ t. MayStand t.shape t.faults now t new.check)
  by_told None None a s = tt
  by_told None (Some e) a s = let no : Some e ≡ None = a in cc
  by_told (Some t) None a s = absurd a
  by_told (Some t) (Some e) a s =
      let st : MayStand t.shape t.faults talk s.0 s.1 = s.2 in
      let one = as_told_one t s.0 e old.check s.1 new.check n request line few asked (stands_shape t.shape t.faults talk s.0 s.1 st) (stands_faults t.shape t.faults talk s.0 s.1 st) a in
      subst (λ (l : List Said). MayStand e.shape e.faults l e new.check) (sym is) (stands_and t.shape t.faults talk request line s.0 s.1 e new.check st one)

-- and behind any other, where it stood before
pub answer_stands : (old new : PortState) (talk now : List Said) (request line : List ℕ) → now ≡ and_said talk request line
    → WhereTold (λ d e. Answers d old.check request line e new.check) old.device new.device → StandsTold old talk → StandsTold new now
answer_stands old new talk now request line is told stands = by_told old.device new.device told stands where
  by_told : (o w : Option Device) → WhereTold (λ d e. Answers d old.check request line e new.check) o w → IfSome o (λ t. MayStand t.shape t.faults talk t old.check)
      → IfSome w (λ t. MayStand t.shape t.faults now t new.check)
  by_told None None a s = tt
  by_told None (Some e) a s = let no : Some e ≡ None = a in cc
  by_told (Some t) None a s = absurd a
  by_told (Some t) (Some e) a s =
      subst (λ (l : List Said). MayStand e.shape e.faults l e new.check) (sym is) (stands_and t.shape t.faults talk request line t old.check e new.check s a)

pub stood_of : (p : PortState) (talk : List Said) → StandsTold p talk → HasStood p talk
stood_of p talk s = by_told p.device s where
  by_told : (o : Option Device) → IfSome o (λ t. MayStand t.shape t.faults talk t p.check) → IfSome o (λ t. (d : Device) × (c : Check) × MayStand t.shape t.faults talk d c)
  by_told None s = tt
  by_told (Some t) s = (t, p.check, s)

abbrev told_pair : Device → Shape × Faults
told_pair d = (d.shape, d.faults)

-- nothing more was said of the same machine
pub stood_on : (old new : PortState) (talk now : List Said) → machine_told new ≡ machine_told old → now ≡ talk → HasStood old talk → HasStood new now
stood_on old new talk now same is s = by_told old.device new.device same s where
  by_told : (o w : Option Device) → option_map told_pair w ≡ option_map told_pair o → IfSome o (λ t. (d : Device) × (c : Check) × MayStand t.shape t.faults talk d c)
      → IfSome w (λ t. (d : Device) × (c : Check) × MayStand t.shape t.faults now d c)
  by_told None None same s = tt
  by_told None (Some e) same s = absurd (false≢true (sym (ap is_some same)))
  by_told (Some t) None same s = tt
  by_told (Some t) (Some e) same s =
      let st : MayStand t.shape t.faults talk s.0 s.1 = s.2 in (
        s.0,
        s.1,
        subst (λ (l : List Said). MayStand e.shape e.faults l s.0 s.1) (sym is)
            (subst (λ (m : Shape). MayStand m e.faults talk s.0 s.1) (sym (shape same)) (subst (λ (f : Faults). MayStand t.shape f talk s.0 s.1) (sym (faults same)) st)),
      ) where
        pair_or : Option (Shape × Faults) → Shape × Faults
        pair_or None = told_pair t
        pair_or (Some p) = p

        shape : Some (told_pair e) ≡ Some (told_pair t) → e.shape ≡ t.shape
        shape s = ap (λ (o : Option (Shape × Faults)). (pair_or o).0) s

        faults : Some (told_pair e) ≡ Some (told_pair t) → e.faults ≡ t.faults
        faults s = ap (λ (o : Option (Shape × Faults)). (pair_or o).1) s

-- nothing was said yet
pub stood_first : (p : PortState) (talk : List Said) → talk ≡ [] → HasStood p talk
stood_first p talk empty = by_told p.device where
  by_told : (o : Option Device) → IfSome o (λ t. (d : Device) × (c : Check) × MayStand t.shape t.faults talk d c)
  by_told None = tt
  by_told (Some t) = (t, p.check, subst (λ (l : List Said). MayStand t.shape t.faults l t p.check) (sym empty) (record { first = t; check = p.check; shape = refl; faults = refl; said = (refl, refl) }))

-- an attach, answered rightly or not
pub attach_stood : (right : Bool) (old new : PortState) (n : ℕ) (talk now : List Said) (request line taken : List ℕ) → n < 2 ^ 32 → request ≡ attach_line n → (right ≡ true → line ≡ taken)
    → (right ≡ true → now ≡ and_said talk request taken) → (right ≡ false → now ≡ talk) → machine_told new ≡ machine_told old
    → WhereTold (λ d e. Answers d old.check request line e new.check) old.device new.device → HasStood old talk → HasStood new now
attach_stood true old new n talk now request line taken few asked same is left machine told stood =
    stood_of new now (attach_stands old new n talk now request line few asked (is refl ∙ ap (and_said talk request) (sym (same refl))) told stood)
attach_stood false old new n talk now request line taken few asked same is left machine told stood = stood_on old new talk now machine (left refl) stood

-- while a board is up, the machine that its port tells is one that it may be
pub told_here : {l : Link} {o : Option Link} (port : PortState) (found : Option Shape) (again : Again) → Some l ≡ o → IsUp port found o again → StandsTold port l.talk
told_here {l} port found again there up =
    let every : IsHeld port found l × CanResume port.device l again × AllStandUp l again × StandsTold port l.talk = subst (λ (x : Option Link). IsUp port found x again) (sym there) up in
    every.3

pub tells : (s : PortBoardState) (m : Shape) (g : Configuration) (due : Bool) (p : PortState) → s.found ≡ Some m → s.waits ≡ waiting due g → HasShape m p.device → StandsTold p s.talk
    → IfSome (told_with due g p.device) (MayBe s)
tells s m g due p found waits shaped stands = by_told due p.device waits shaped stands where
  one : (e : Device) → e.shape ≡ m → MayStand e.shape e.faults s.talk e p.check → MayBe s (as_told s.waits e)
  one e shape st = may_be s m e.faults e p.check found (subst (λ (m : Shape). MayStand m e.faults s.talk e p.check) shape st)

  by_told : (b : Bool) (o : Option Device) → s.waits ≡ waiting b g → HasShape m o → IfSome o (λ t. MayStand t.shape t.faults s.talk t p.check) → IfSome (told_with b g o) (MayBe s)
  by_told true None waits shape st = tt
  by_told false None waits shape st = tt
  by_told true (Some e) waits shape st = subst (λ (w : Option Configuration). MayBe s (as_told w e)) waits (one e shape st)
  by_told false (Some e) waits shape st = subst (λ (w : Option Configuration). MayBe s (as_told w e)) waits (one e shape st)

pub tells_held : (port : PortState) (found : Option Shape) (l : Link) (past : List Said) (n fs : ℕ) → IsHeld port found l → StandsTold port l.talk
    → IfSome (told_with l.due l.set.config port.device) (MayBe (state_of port found (Some l) past n fs))
tells_held port found l past n fs h s = tells (state_of port found (Some l) past n fs) l.set.config.shape l.set.config l.due port h.shape refl h.told s
