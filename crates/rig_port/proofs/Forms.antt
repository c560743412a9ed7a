-- What goes out is one of the four requests.
use Rattle.std.proofs.Common.{◌≡◌, ℕ, Bool, true, false, List, ◌∷◌, [], ◌++◌, Option, refl, ap, ◌∙◌}
use Rattle.rig_port.proofs.Vocabulary.{Pins, Configuration, Device, Check, IsLinked, IsRequestOf, line_of}
use Rattle.rig_port.specs.Requests.{led_drives, load_body, sends_drives, sends_load}
use Rattle.rig_port.proofs.Alarm.{IsAsked}

-- a load where one is due, and drives where one isn't
pub sent_form : (device : Option Device) (c sent : Check) (set : Configuration) (anew running due : Bool) (line request : List ℕ) (drives : List Pins)
    → IsLinked device set line anew running due → IsAsked c set anew due line request drives sent → running ≡ true → IsRequestOf set.shape request
sent_form device c sent set anew running due line request drives l asked runs = by_due due refl where
  by_due : (b : Bool) → due ≡ b → IsRequestOf set.shape request
  by_due true at =
      let body : line ++ 108 ∷ [] ++ led_drives drives ≡ load_body anew l.posted.edits drives = ap (λ t. t ++ 108 ∷ [] ++ led_drives drives) l.posted.line_is in
      sends_load c anew l.posted.edits drives l.posted.right asked.wide ((asked.loads at).line_is ∙ ap (line_of c) body)
  by_due false at = sends_drives c drives (asked.some at, asked.wide) (asked.goes at (l.loaded runs at).0).line_is
