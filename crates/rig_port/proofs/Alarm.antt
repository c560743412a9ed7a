-- Over a told machine nothing is taken for a failure but a failure of the port.
use Rattle.std.proofs.Common.{◌≡◌, ℕ, suc, ◌≤◌, ◌<◌, ◌^◌, ◌+◌, Bool, true, false, List, [], ◌∷◌, ◌++◌, map, length, All, Option, None, Some, refl, sym, ap, ◌∙◌, arith, subst, IfSome, IsSome, is_some, option_map}
use Rattle.rig_port.proofs.Vocabulary.{false≢true, option_map_or, Shape, pins_of, Pins, Configuration, Rose, Device, HasRunSession}
use Rattle.rig_port.proofs.Vocabulary.{WhereTold, Check, fresh_check, after, line_of, reading_line, counts_line, Answers, Reads, Drives}
use Rattle.rig_port.proofs.Vocabulary.{PortState, AskFails, Link, IsLinked, told_with, IsRequest}
use Rattle.rig.specs.Rig.{Exchange, Session, KeepLengths, drives_of, readings_of}
use Rattle.rig_port.specs.Requests.{IsEditOf, AreWide, attach_body, attach_line, drives_text, led_drives, load_body, load_line}
use Rattle.rig_port.specs.declared.port.PortFail.{PortFail}
use Rattle.rig_port.specs.declared.port.PortFail.TheVariants as port
use Rattle.rig_port.proofs.Readings.{AreOf}

-- a count that rose later rose
pub rose_later : (a b c : ℕ) → a ≤ b → Rose b c → Rose a c
rose_later a b c le rose = omega (arith, le, rose)

pub rose_of : (e : PortFail) (old new : PortState) → AskFails e old new → Rose old.failures new.failures
rose_of port.Failed old new rose = rose
rose_of port.Memory old new none = absurd none

pub told_map : {X : Type 0} (f : Device → X) (device : Option Device) → is_some (option_map f device) ≡ is_some device
told_map f None = refl
told_map f (Some d) = refl

-- a port that tells a machine goes on telling it
pub still_told : {X : Type 0} (f : Device → X) (old new : Option Device) → option_map f new ≡ option_map f old → IsSome old → IsSome new
still_told f old new same some = sym (told_map f new) ∙ ap is_some same ∙ told_map f old ∙ some

pub told_port : (due : Bool) (g : Configuration) (device : Option Device) → IsSome (told_with due g device) → IsSome device
told_port true g None some = some
told_port true g (Some d) some = refl
told_port false g device some = some

-- the machine of a link that is there, as the board tells it
pub told_here : {link : Link} {o : Option Link} {told : Option Device} (device : Option Device) → Some link ≡ o → option_map_or (λ (l : Link). told_with l.due l.set.config device) o device ≡ told → told_with link.due link.set.config device ≡ told
told_here device there is = ap (λ (o : Option Link). option_map_or (λ (l : Link). told_with l.due l.set.config device) o device) there ∙ is

pub told_alarm : {link : Link} {o : Option Link} {told : Option Device} {before n after : ℕ} (device : Option Device) → Some link ≡ o → option_map_or (λ (l : Link). told_with l.due l.set.config device) o device ≡ told → before ≡ n →
    (IsSome device → Rose before after) → IsSome told → Rose n after
told_alarm {link} {after = after} device there is same rose some = subst (λ n. Rose n after) same (rose (told_port link.due link.set.config device (ap is_some (told_here device there is) ∙ some)))

-- the reply of a told machine is the line of a reading for each drive
pub record IsReply (c : Check) (n : ℕ) (drives : List Pins) (reply : List ℕ) : Type 0 where
  pub rows : List Pins
  pub wide : AreOf n rows
  pub many : length rows ≡ length drives
  pub is : reply ≡ reading_line c rows

length_both : (ps : List Exchange) → length (drives_of ps) ≡ length (readings_of ps)
length_both [] = refl
length_both (p ∷ ps) = ap suc (length_both ps)

of_reads : (c : Check) (g : Configuration) (cycles : List Exchange) (m : Shape) (drives : List Pins) (reply : List ℕ) (e : Device) (now : Check) → e.shape ≡ m
    → Reads c g cycles drives reply e now → IsReply c (pins_of m) drives reply
of_reads c g cycles m drives reply e now shape r = record {
  rows = readings_of r.pairs;
  wide = subst (λ s. AreOf (pins_of s) (readings_of r.pairs)) shape r.wide;
  many = sym (length_both r.pairs) ∙ ap length r.driven;
  is = r.reply_is;
}

-- a told machine answers behind the check that is kept
pub own_answers : (old new : Option Device) (c k now : Check) (request reply : List ℕ) → (IsSome old → c ≡ k) → WhereTold (λ d e. Answers d c request reply e now) old new
    → WhereTold (λ d e. Answers d k request reply e now) old new
own_answers None new c k now request reply same w = w
own_answers (Some d) None c k now request reply same w = w
own_answers (Some d) (Some e) c k now request reply same w = subst (λ z. Answers d z request reply e now) (same refl) w

-- what is asked of a told machine: a load where one is due, and drives where one isn't
pub record IsAsked (c : Check) (set : Configuration) (anew due : Bool) (line request : List ℕ) (drives : List Pins) (sent : Check) : Type 0 where
  pub wide : AreWide set.shape drives
  pub some : due ≡ false → 0 < length drives
  pub loads : due ≡ true → IsRequest c (line ++ 108 ∷ [] ++ led_drives drives) request sent
  pub goes : due ≡ false → line ≡ [] → IsRequest c (drives_text drives) request sent

told_reply : (d e : Device) (c now sent : Check) (set : Configuration) (anew running due : Bool) (line request reply : List ℕ) (drives : List Pins)
    → IsLinked (Some d) set line anew running due → IsAsked c set anew due line request drives sent → Answers d c request reply e now → running ≡ true
    → IsReply sent (pins_of set.shape) drives reply
told_reply d e c now sent set anew running due line request reply drives l asked a runs = by_due due refl where
  same_shape : e.shape ≡ set.shape
  same_shape = a.shape ∙ l.posted.told.0

  wide : AreWide d.shape drives
  wide = subst (λ m. AreWide m drives) (sym l.posted.told.0) asked.wide

  by_session : (k : Check) (s : Option Session) → IsSome s → IfSome s (λ s. Drives k d s.config s.cycles drives reply e now) → IsReply k (pins_of set.shape) drives reply
  by_session k None some made = absurd (false≢true some)
  by_session k (Some s) some made = of_reads k s.config s.cycles set.shape drives reply e now same_shape made.reads

  by_due : (b : Bool) → due ≡ b → IsReply sent (pins_of set.shape) drives reply
  by_due true at =
      let edits_too : All (IsEditOf d.shape) l.posted.edits = subst (λ m. All (IsEditOf m) l.posted.edits) (sym l.posted.told.0) l.posted.right in
      let body : line ++ 108 ∷ [] ++ led_drives drives ≡ load_body anew l.posted.edits drives = ap (λ t. t ++ 108 ∷ [] ++ led_drives drives) l.posted.line_is in
      let form : request ≡ load_line c anew l.posted.edits drives = (asked.loads at).line_is ∙ ap (line_of c) body in
      let made = a.loads anew l.posted.edits drives edits_too wide form in
      subst (λ k. IsReply k (pins_of set.shape) drives reply) (sym ((asked.loads at).check ∙ ap (after c) body))
      (of_reads (after c (load_body anew l.posted.edits drives)) e.set [] set.shape drives reply e now same_shape made.reads)
  by_due false at =
      let known : (line ≡ []) × ((set ≡ d.set) × IsSome d.session × HasRunSession d) = l.loaded runs at in
      let went = asked.goes at known.0 in
      subst (λ k. IsReply k (pins_of set.shape) drives reply) (sym went.check)
      (by_session (after c (drives_text drives)) d.session known.1.1 (a.goes_on drives (asked.some at, wide) went.line_is))

pub right_reply : (old new : Option Device) (c now sent : Check) (set : Configuration) (anew running due : Bool) (line request reply : List ℕ) (drives : List Pins)
    → IsLinked old set line anew running due → IsAsked c set anew due line request drives sent → WhereTold (λ d e. Answers d c request reply e now) old new → running ≡ true → IsSome old
    → IsReply sent (pins_of set.shape) drives reply
right_reply None new c now sent set anew running due line request reply drives l asked w runs some = absurd (false≢true some)
right_reply (Some d) None c now sent set anew running due line request reply drives l asked w runs some = absurd w
right_reply (Some d) (Some e) c now sent set anew running due line request reply drives l asked w runs some =
    told_reply d e c now sent set anew running due line request reply drives l asked w runs

-- rows of one width and number are as long
pub keep_of : (n : ℕ) (xs ys : List Pins) → AreOf n xs → AreOf n ys → length ys ≡ length xs → KeepLengths xs ys
keep_of n [] [] a b len = refl
keep_of n [] (y ∷ ys) a b len = absurd (omega (arith, len))
keep_of n (x ∷ xs) [] a b len = absurd (omega (arith, len))
keep_of n (x ∷ xs) (y ∷ ys) a b len =
    let heads : length y ≡ length x = b 0 [] (omega arith) ∙ sym (a 0 [] (omega arith)) in
    ap (λ m. m ∷ map length ys) heads
    ∙ ap (λ l. length x ∷ l) (keep_of n xs ys (λ k d lt. a (suc k) d (omega (arith, lt))) (λ k d lt. b (suc k) d (omega (arith, lt))) (omega (arith, len)))

-- a machine of the asked shape answers an attach with the right line
pub right_counts : (old new : Option Device) (c now : Check) (n : ℕ) (request reply expected : List ℕ) (m : Shape) (P : Type 0) → WhereTold (λ d e. Answers d c request reply e now) old new
    → n < 2 ^ 32 → request ≡ attach_line n → expected ≡ counts_line (after fresh_check (attach_body n)) n m.counts → (reply ≡ expected → ⊥) → IfSome new (λ d. d.shape ≡ m → P)
right_counts None new c now n request reply expected m P w few asked right wrong = rw w tt
right_counts (Some d) None c now n request reply expected m P w few asked right wrong = absurd w
right_counts (Some d) (Some e) c now n request reply expected m P w few asked right wrong = λ same.
    let fresh = w.attaches n few asked in
    absurd (wrong (fresh.reply_is ∙ ap (λ (s : Shape). counts_line (after fresh_check (attach_body n)) n s.counts) (sym w.shape ∙ same) ∙ sym right))

-- of every machine, where the count rose anyway
pub for_any : (device : Option Device) (m : Shape) (P : Type 0) → P → IfSome device (λ d. d.shape ≡ m → P)
for_any None m P p = tt
for_any (Some d) m P p = λ _. p

pub later_any : (device : Option Device) (m : Shape) (P Q : Type 0) → (P → Q) → IfSome device (λ d. d.shape ≡ m → P) → IfSome device (λ d. d.shape ≡ m → Q)
later_any None m P Q f p = tt
later_any (Some d) m P Q f p = λ same. f (p same)
