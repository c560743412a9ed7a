use Rattle.std.proofs.Common.{◌≡◌, ◌<◌, ◌∙◌, ap, sym, arith, length, map, fold, None, [], get_or}
use Rattle.design_flatten.proofs.Vocabulary.{flat_map, length-map, PortDef, word, signal_at, sooner}
use Rattle.design_flatten.specs.Vocabulary.{printed, places_of, placed_line, signals_of, lines_of, read_on, drives_in, reads_in, name_in}
use Rattle.design_flatten.proofs.{MadeLemmas.reads_below, WordLemmas.undriven_word, WordLemmas.none_undriven, ReadLemmas.read_fault}
use Rattle.design_flatten.proofs.DriveLemmas.{table_is}
use Rattle.design_flatten.proofs.read.check_reads.Goals as goal

pub returns-in_default-clause-driven : goal.returns-in_default-clause-driven
returns-in_default-clause-driven c =
    let s = c.args.found.now.sink in
    let lines = lines_of c.args.models.now c.args.found.now in
    let h = c.requires.kept.sink in
    let placed : map placed_line c.deref-2.result.now ≡ lines = ap (map placed_line) c.deref-2.ensures.value ∙ c.requires.held in
    none_undriven (drives_in lines) (reads_in lines) (places_of s.drives.firsts.items) (length (signals_of lines)) (table_is (drives_in lines) s.drives (length (signals_of lines)) h.drives) (reads_below lines)
    (sym c.in_default.is ∙ c.first_undriven.ensures ∙ (λ i. fold (sooner (places_of (c.deref.ensures.value i))) None (flat_map (read_on (h.signals i)) (placed i))))

pub get-requires : goal.get-requires
get-requires c =
    let ms = c.args.models.now in
    let s = c.args.found.now.sink in
    let lines = lines_of ms c.args.found.now in
    let h = c.requires.kept.sink in
    let w = c.in-Some.word in
    let placed : map placed_line c.deref-2.result.now ≡ lines = ap (map placed_line) c.deref-2.ensures.value ∙ c.requires.held in
    let a = undriven_word (drives_in lines) (reads_in lines) (places_of s.drives.firsts.items) (length (signals_of lines)) (table_is (drives_in lines) s.drives (length (signals_of lines)) h.drives) (reads_below lines) w
    (sym c.in-Some.is ∙ c.first_undriven.ensures ∙ (λ i. fold (sooner (places_of (c.deref.ensures.value i))) None (flat_map (read_on (h.signals i)) (placed i)))) in
    let below : signal_at (reads_in lines) a.0 < length (signals_of lines) = reads_below lines a.0 (word 0 0) a.1.0 in
    omega (arith, below, ap (λ (x : PortDef). x.signal) a.2, ap length c.requires.names, length-map (signals_of lines) (printed ms))

pub returns-clause-refused : goal.returns-clause-refused
returns-clause-refused c =
    let ms = c.args.models.now in
    let s = c.args.found.now.sink in
    let lines = lines_of ms c.args.found.now in
    let h = c.requires.kept.sink in
    let w = c.in-Some.word in
    let placed : map placed_line c.deref-2.result.now ≡ lines = ap (map placed_line) c.deref-2.ensures.value ∙ c.requires.held in
    let a = undriven_word (drives_in lines) (reads_in lines) (places_of s.drives.firsts.items) (length (signals_of lines)) (table_is (drives_in lines) s.drives (length (signals_of lines)) h.drives) (reads_below lines) w
    (sym c.in-Some.is ∙ c.first_undriven.ensures ∙ (λ i. fold (sooner (places_of (c.deref.ensures.value i))) None (flat_map (read_on (h.signals i)) (placed i)))) in
    read_fault ms lines w.line c.in_ok-name.name a.0 c.requires.clean c.requires.undoubled a.1 (ap (λ (x : PortDef). x.line) a.2)
    (c.in_ok-name.ensures ∙ ap (λ ns. get_or ns w.signal []) c.requires.names ∙ ap (λ (x : PortDef). name_in ms lines x.signal) a.2)

pub returns-clause-only : goal.returns-clause-only
returns-clause-only c driven =
    let ms = c.args.models.now in
    let s = c.args.found.now.sink in
    let lines = lines_of ms c.args.found.now in
    let h = c.requires.kept.sink in
    let w = c.in-Some.word in
    let placed : map placed_line c.deref-2.result.now ≡ lines = ap (map placed_line) c.deref-2.ensures.value ∙ c.requires.held in
    let a = undriven_word (drives_in lines) (reads_in lines) (places_of s.drives.firsts.items) (length (signals_of lines)) (table_is (drives_in lines) s.drives (length (signals_of lines)) h.drives) (reads_below lines) w
    (sym c.in-Some.is ∙ c.first_undriven.ensures ∙ (λ i. fold (sooner (places_of (c.deref.ensures.value i))) None (flat_map (read_on (h.signals i)) (placed i)))) in
    absurd (driven a.0 a.1.0 a.1.1)
