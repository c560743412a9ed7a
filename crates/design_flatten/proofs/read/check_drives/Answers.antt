use Rattle.design_flatten.proofs.Vocabulary.{◌<◌, ◌∙◌, ap, arith, length, Some, [], get_or, subst, length-map, PortDef, word, signal_at}
use Rattle.design_flatten.proofs.Vocabulary.{IsDoubledIn, printed, IsFirstWord, signals_of, lines_of, drives_in, name_in}
use Rattle.design_flatten.proofs.{MadeLemmas.drives_below, ReadLemmas.word_fault}
use Rattle.design_flatten.proofs.read.check_drives.Goals as goal

pub returns-in_default-clause-undoubled : goal.returns-in_default-clause-undoubled
returns-in_default-clause-undoubled c =
    let words = drives_in (lines_of c.args.models.now c.args.found.now) in
    subst (IsFirstWord words (IsDoubledIn words)) c.in_default.is c.requires.kept.sink.drives.doubled

pub returns-in_default-clause-held : goal.returns-in_default-clause-held
returns-in_default-clause-held c = c.requires.kept.sink.held c.in_default.is

pub get-requires : goal.get-requires
get-requires c =
    let ms = c.args.models.now in
    let lines = lines_of ms c.args.found.now in
    let words = drives_in lines in
    let a : IsFirstWord words (IsDoubledIn words) (Some c.in-Some.driver) = subst (IsFirstWord words (IsDoubledIn words)) c.in-Some.is c.requires.kept.sink.drives.doubled in
    let below : signal_at words c.in-Some.driver.place < length (signals_of lines) = drives_below lines c.in-Some.driver.place (word 0 0) a.0.0 in
    omega (arith, below, ap (λ (x : PortDef). x.signal) a.1, ap length c.requires.names, length-map (signals_of lines) (printed ms))

pub returns-clause-refused : goal.returns-clause-refused
returns-clause-refused c =
    let ms = c.args.models.now in
    let lines = lines_of ms c.args.found.now in
    let words = drives_in lines in
    let d = c.in-Some.driver in
    let a : IsFirstWord words (IsDoubledIn words) (Some d) = subst (IsFirstWord words (IsDoubledIn words)) c.in-Some.is c.requires.kept.sink.drives.doubled in
    word_fault ms lines d.word.line c.in_ok-name.name d.place c.requires.clean a.0 (ap (λ (x : PortDef). x.line) a.1)
    (c.in_ok-name.ensures ∙ ap (λ ns. get_or ns d.word.signal []) c.requires.names ∙ ap (λ (x : PortDef). name_in ms lines x.signal) a.1)

pub returns-clause-only : goal.returns-clause-only
returns-clause-only c undoubled =
    let words = drives_in (lines_of c.args.models.now c.args.found.now) in
    let a : IsFirstWord words (IsDoubledIn words) (Some c.in-Some.driver) = subst (IsFirstWord words (IsDoubledIn words)) c.in-Some.is c.requires.kept.sink.drives.doubled in
    absurd (undoubled c.in-Some.driver.place a.0.0 a.0.1)
