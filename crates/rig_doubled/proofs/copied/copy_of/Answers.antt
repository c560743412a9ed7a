use Rattle.std.proofs.Common.{◌≡◌, ◌<◌, ◌≤◌, ◌∙◌, ap, sym, subst, get_or}
use Rattle.machine_shape.specs.declared.Shape.{Shape}
use Rattle.rig_doubled.proofs.Vocabulary.{most_ticks, crosses_of, Configuration, Roomy, cleared, with_ticks, with_crosses}
use Rattle.rig_doubled.proofs.Copying.{closed_is, is_listed}
use Rattle.rig_doubled.proofs.copied.copy_of.Goals as goal

pub close_all-requires-clause-within : goal.close_all-requires-clause-within
close_all-requires-clause-within c =
    let g = c.args.config.now.config in
    let same : c.in_ok-copy.copy.config.shape ≡ g.shape = ap (λ (h : Configuration). h.shape) c.in_ok-copy.ensures.cleared ∙ c.shape.ensures.shape in
    λ k d l. subst (λ (m : Shape). (get_or c.closed-closed.result.now k d).0 < crosses_of m) (sym same) (c.shape.ensures.right.crosses _ (is_listed g c.closed-closed.result.now c.closed-closed.ensures k d l))

pub set_ticks-requires-clause-few : goal.set_ticks-requires-clause-few
set_ticks-requires-clause-few c =
    let g = c.args.config.now.config in
    let closed = c.closed-closed.result.now in
    let start : c.in_ok-copy.copy.config ≡ cleared g.shape = c.in_ok-copy.ensures.cleared ∙ ap cleared c.shape.ensures.shape in
    let crosses : c.close_all.new.copy.config ≡ record (cleared g.shape) { closed = g.closed } =
    c.in_ok-close_all.ensures ∙ ap (λ (h : Configuration). with_crosses h closed) start ∙ ap (λ s. record (cleared g.shape) { closed = s }) (closed_is g closed c.closed-closed.ensures) in
    let same : c.set_tables.new.copy.config.shape ≡ g.shape = ap (λ (h : Configuration). h.shape) (c.set_tables.ensures ∙ ap (λ (h : Configuration). record h { tables = g.tables }) crosses) in
    subst (λ (m : Shape). c.ticks.result ≤ most_ticks m) (sym same) (subst (λ n. n ≤ most_ticks g.shape) (sym c.ticks.ensures) c.shape.ensures.right.few_ticks)

pub returns : goal.returns
returns c =
    let g = c.args.config.now.config in
    let closed = c.closed-closed.result.now in
    let start : c.in_ok-copy.copy.config ≡ cleared g.shape = c.in_ok-copy.ensures.cleared ∙ ap cleared c.shape.ensures.shape in
    let crosses : c.close_all.new.copy.config ≡ record (cleared g.shape) { closed = g.closed } =
    c.in_ok-close_all.ensures ∙ ap (λ (h : Configuration). with_crosses h closed) start ∙ ap (λ s. record (cleared g.shape) { closed = s }) (closed_is g closed c.closed-closed.ensures) in
    ap (λ (r : Roomy). r.config) c.set_ticks.ensures
    ∙ ap (λ (h : Configuration). with_ticks h c.ticks.result) (c.set_tables.ensures ∙ ap (λ (h : Configuration). record h { tables = g.tables }) crosses)
    ∙ ap (λ n. record g { ticks = n }) c.ticks.ensures
