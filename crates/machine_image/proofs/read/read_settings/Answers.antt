use Rattle.machine_image.proofs.Vocabulary.{◌≡◌, ◌≤◌, subst, sym, ap, ◌∙◌, arith, nat_cmp, contains-empty, len-empty, Configuration}
use Rattle.machine_image.proofs.Vocabulary.{cleared, with_ticks, most_closed, most_ticks, most_fault, closed_fault, IsField, IsRefusedField}
use Rattle.std.specs.FinSet as set_
use Rattle.machine_image.proofs.Ends.{field_as, many_refused, tables_refused, closed_refused, crosses_refused, end_refused, settings_read}
use Rattle.machine_image.proofs.read.read_settings.Goals as goal

pub set_ticks-requires-clause-few : goal.set_ticks-requires-clause-few
set_ticks-requires-clause-few c = subst (λ (g : Configuration). c.args.ticks ≤ most_ticks g.shape) (sym c.in-Ok-with_room.ensures.cleared) c.requires.few

pub returns-in-Err-clause-refused : goal.returns-in-Err-clause-refused
returns-in-Err-clause-refused c =
    many_refused c.args.shape.now c.args.bytes.now c.args.start c.args.ticks c.in-Err.fault
    (subst (λ z. IsRefusedField 2 (most_fault z) c.args.bytes.now c.args.start c.in-Err.fault) c.tables.ensures.tables c.in-Err.ensures.refused)

pub returns-in-Err-read_tables-clause-refused : goal.returns-in-Err-read_tables-clause-refused
returns-in-Err-read_tables-clause-refused c =
    let made : c.set_ticks.new.self.config ≡ with_ticks (cleared c.args.shape.now) c.args.ticks = ap (λ r. r.config) c.set_ticks.ensures ∙ ap (λ z. with_ticks z c.args.ticks) c.in-Ok-with_room.ensures.cleared in
    tables_refused c.args.shape.now c.args.bytes.now c.args.start c.args.ticks c.in-Ok.tables (field_as c.tables.ensures.tables c.in-Ok.ensures.found) c.set_ticks.new.self.config made c.in-Err-read_tables.fault c.in-Err-read_tables.ensures.refused

pub returns-in-Err-how_many_closed-clause-refused : goal.returns-in-Err-how_many_closed-clause-refused
returns-in-Err-how_many_closed-clause-refused c =
    let made : c.set_ticks.new.self.config ≡ with_ticks (cleared c.args.shape.now) c.args.ticks = ap (λ r. r.config) c.set_ticks.ensures ∙ ap (λ z. with_ticks z c.args.ticks) c.in-Ok-with_room.ensures.cleared in
    closed_refused c.args.shape.now c.args.bytes.now c.args.start c.args.ticks c.in-Ok.tables (field_as c.tables.ensures.tables c.in-Ok.ensures.found) c.set_ticks.new.self.config made c.read_tables.new.at c.read_tables.new.config.config c.in_default-read_tables.ensures.found c.in_default-read_tables.ensures.kept
    c.in-Err-how_many_closed.fault (subst (λ z. IsRefusedField 4 (closed_fault (most_closed c.args.shape.now) z) c.args.bytes.now c.read_tables.new.at c.in-Err-how_many_closed.fault) c.crosses.ensures.crosses
    (subst (λ z. IsRefusedField 4 (closed_fault z c.crosses.result) c.args.bytes.now c.read_tables.new.at c.in-Err-how_many_closed.fault) c.most_closed.ensures c.in-Err-how_many_closed.ensures.refused))

pub read_crosses-requires-clause-open_all : goal.read_crosses-requires-clause-open_all
read_crosses-requires-clause-open_all c x =
    let made : c.set_ticks.new.self.config ≡ with_ticks (cleared c.args.shape.now) c.args.ticks = ap (λ r. r.config) c.set_ticks.ensures ∙ ap (λ z. with_ticks z c.args.ticks) c.in-Ok-with_room.ensures.cleared in
    ap (λ (g : Configuration). set_.contains g.closed x) c.in_default-read_tables.ensures.kept ∙ ap (λ (g : Configuration). set_.contains g.closed x) made ∙ contains-empty nat_cmp x

pub read_crosses-requires-clause-none : goal.read_crosses-requires-clause-none
read_crosses-requires-clause-none c =
    let made : c.set_ticks.new.self.config ≡ with_ticks (cleared c.args.shape.now) c.args.ticks = ap (λ r. r.config) c.set_ticks.ensures ∙ ap (λ z. with_ticks z c.args.ticks) c.in-Ok-with_room.ensures.cleared in
    ap (λ (g : Configuration). set_.len g.closed) c.in_default-read_tables.ensures.kept ∙ ap (λ (g : Configuration). set_.len g.closed) made ∙ len-empty nat_cmp

pub returns-in-Err-read_crosses-clause-refused : goal.returns-in-Err-read_crosses-clause-refused
returns-in-Err-read_crosses-clause-refused c =
    let made : c.set_ticks.new.self.config ≡ with_ticks (cleared c.args.shape.now) c.args.ticks = ap (λ r. r.config) c.set_ticks.ensures ∙ ap (λ z. with_ticks z c.args.ticks) c.in-Ok-with_room.ensures.cleared in
    let closed = subst (λ z. IsField 4 (closed_fault (most_closed c.args.shape.now) z) c.args.bytes.now c.read_tables.new.at c.in-Ok-how_many_closed.closed) c.crosses.ensures.crosses
    (subst (λ z. IsField 4 (closed_fault z c.crosses.result) c.args.bytes.now c.read_tables.new.at c.in-Ok-how_many_closed.closed) c.most_closed.ensures c.in-Ok-how_many_closed.ensures.found) in
    crosses_refused c.args.shape.now c.args.bytes.now c.args.start c.args.ticks c.in-Ok.tables (field_as c.tables.ensures.tables c.in-Ok.ensures.found) c.set_ticks.new.self.config made c.read_tables.new.at c.read_tables.new.config.config c.in_default-read_tables.ensures.found c.in_default-read_tables.ensures.kept
    c.in-Ok-how_many_closed.closed closed c.in-Err-read_crosses.fault c.in-Err-read_crosses.ensures.refused

pub returns-then-at-bytes-clause-refused : goal.returns-then-at-bytes-clause-refused
returns-then-at-bytes-clause-refused c =
    let made : c.set_ticks.new.self.config ≡ with_ticks (cleared c.args.shape.now) c.args.ticks = ap (λ r. r.config) c.set_ticks.ensures ∙ ap (λ z. with_ticks z c.args.ticks) c.in-Ok-with_room.ensures.cleared in
    let closed = subst (λ z. IsField 4 (closed_fault (most_closed c.args.shape.now) z) c.args.bytes.now c.read_tables.new.at c.in-Ok-how_many_closed.closed) c.crosses.ensures.crosses
    (subst (λ z. IsField 4 (closed_fault z c.crosses.result) c.args.bytes.now c.read_tables.new.at c.in-Ok-how_many_closed.closed) c.most_closed.ensures c.in-Ok-how_many_closed.ensures.found) in
    end_refused c.args.shape.now c.args.bytes.now c.args.start c.args.ticks c.in-Ok.tables (field_as c.tables.ensures.tables c.in-Ok.ensures.found) c.set_ticks.new.self.config made c.read_tables.new.at c.read_tables.new.config.config c.in_default-read_tables.ensures.found c.in_default-read_tables.ensures.kept
    c.in-Ok-how_many_closed.closed closed c.read_crosses.new.at c.read_crosses.new.config.config c.in_default-read_crosses.ensures.found c.in_default-read_crosses.ensures.kept
    c.fault_at.result (omega (arith, c.if-at-bytes.true)) c.fault_at.ensures

pub returns-clause-found : goal.returns-clause-found
returns-clause-found c =
    let made : c.set_ticks.new.self.config ≡ with_ticks (cleared c.args.shape.now) c.args.ticks = ap (λ r. r.config) c.set_ticks.ensures ∙ ap (λ z. with_ticks z c.args.ticks) c.in-Ok-with_room.ensures.cleared in
    let closed = subst (λ z. IsField 4 (closed_fault (most_closed c.args.shape.now) z) c.args.bytes.now c.read_tables.new.at c.in-Ok-how_many_closed.closed) c.crosses.ensures.crosses
    (subst (λ z. IsField 4 (closed_fault z c.crosses.result) c.args.bytes.now c.read_tables.new.at c.in-Ok-how_many_closed.closed) c.most_closed.ensures c.in-Ok-how_many_closed.ensures.found) in
    settings_read c.args.shape.now c.args.bytes.now c.args.start c.args.ticks c.in-Ok.tables (field_as c.tables.ensures.tables c.in-Ok.ensures.found) c.set_ticks.new.self.config made c.read_tables.new.at c.read_tables.new.config.config c.in_default-read_tables.ensures.found c.in_default-read_tables.ensures.kept
    c.in-Ok-how_many_closed.closed closed c.read_crosses.new.at c.read_crosses.new.config.config c.in_default-read_crosses.ensures.found c.in_default-read_crosses.ensures.kept (omega (arith, c.if-at-bytes.false))
