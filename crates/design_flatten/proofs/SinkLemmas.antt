-- What is known of the lines, with a line more.
use Rattle.std.proofs.Common.{◌≡◌, ℕ, ◌+◌, ◌<◌, ◌||◌, false, List, [], ◌∷◌, ◌++◌, None, map, refl, sym, ap, ◌∙◌, subst, arith}
use Rattle.design_flatten.proofs.Vocabulary.{flat_map, map_push, PortDef, Signal, Placed, Refusal, Memory, Limit}
use Rattle.design_flatten.specs.declared.sink.Sink.{Sink}
use Rattle.design_flatten.specs.Vocabulary.{Line, Clocked, control_on, part_of, placed_line, with_signals, words_in, words_on, size_in, signals_of, size_of, drive_on, drives_in, AreClocks, AreDrives, IsPast, IsPut, IsOverWith}
use Rattle.design_flatten.proofs.SignalsLemmas.{signals_one, size_one, past_size, past_line}
use Rattle.design_flatten.proofs.KnownLemmas.{flat_one, drives_one}
use Rattle.design_flatten.proofs.WorkLemmas.{left_after, none_in}

-- a line is put
pub put_is : (old new : Sink) (p : Placed) (n : ℕ) → new.signals ≡ with_signals old.signals (words_on (placed_line p)) → n ≡ size_in (part_of p.part) → new.room + n ≡ old.room
    → ((words : List PortDef) → AreDrives words old.drives → AreDrives (words ++ drive_on new.signals (placed_line p)) new.drives)
    → ((names : List (List ℕ)) (controls : List Clocked) → AreClocks names controls old.clocks → AreClocks names (controls ++ control_on names (placed_line p)) new.clocks)
    → (new.drives.doubled ≡ None → (old.drives.doubled ≡ None) × (new.placed.items ≡ old.placed.items ++ p ∷ []))
    → IsPut old (placed_line p) new
put_is old new p n signals size room drives clocks held names lines h =
    let l = placed_line p in
    let S : new.signals ≡ signals_of (lines ++ l ∷ []) = signals ∙ ap (λ ss. with_signals ss (words_on l)) h.signals ∙ sym (signals_one lines l) in
    record {
      signals = S;
      room = omega (arith, size_one lines l, h.room, room, size);
      none_left = left_after lines (l ∷ []) h.none_left ∙ ap (λ b. b || false) (none_in p.part);
      drives = subst (λ ws. AreDrives ws new.drives) (ap (λ ss. drives_in lines ++ drive_on ss l) S ∙ sym (drives_one lines l)) (drives (drives_in lines) h.drives);
      clocks = subst (λ cs. AreClocks names cs new.clocks) (sym (flat_one (control_on names) lines l)) (clocks names (flat_map (control_on names) lines) h.clocks);
      held = λ none. let both = held none in ap (map placed_line) both.1 ∙ map_push placed_line old.placed.items p ∙ ap (λ ls. ls ++ l ∷ []) (h.held both.0);
    }

-- too many characters
pub over_by_room : (old : Sink) (p : Placed) → old.room < size_in (part_of p.part) → IsOverWith old (placed_line p) Limit
over_by_room old p lt names lines h = past_size (size_of lines) lines (placed_line p) refl (let r = h.room in omega arith)

-- too many signals
pub over_by_words : (e : Refusal) (old : Sink) (p : Placed) → IsPast (with_signals old.signals (words_in (part_of p.part))) e → IsOverWith old (placed_line p) e
over_by_words e old p past names lines h = past_line e old.signals lines (placed_line p) h.signals past

pub over_memory : (e : Refusal) (old : Sink) (l : Line Signal) → e ≡ Memory → IsOverWith old l e
over_memory e old l is names lines h = rw is tt
