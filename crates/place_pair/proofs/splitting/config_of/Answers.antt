use Rattle.place_pair.proofs.Vocabulary.{◌≡◌, ◌<◌, ◌≤◌, List, length, get_or, sym, ap, ◌∙◌, subst, Shape, most_ticks, crosses_of}
use Rattle.place_pair.proofs.Vocabulary.{Configuration, cleared, is_closed, with_ticks, NetTable, Closes, SwitchesOn, IsHeldAmong, IsShare}
use Rattle.place_pair.proofs.Keeping.{from_list, share_of}
use Rattle.place_pair.proofs.splitting.config_of.Goals as goal

pub close_held-requires-clause-within : goal.close_held-requires-clause-within
close_held-requires-clause-within c =
    let whole = c.args.whole.now.config in
    let same : c.in_ok-config.config.config.shape ≡ whole.shape = ap (λ (g : Configuration). g.shape) c.in_ok-config.ensures.cleared ∙ c.shape.ensures.shape in
    λ k d l. subst (λ (m : Shape). (get_or c.closed.result.now k d).0 < crosses_of m) (sym same) (c.shape.ensures.right.crosses _ (from_list c.closed.result.now (is_closed whole) c.closed.ensures k d l))

pub set_ticks-requires-clause-few : goal.set_ticks-requires-clause-few
set_ticks-requires-clause-few c =
    let whole = c.args.whole.now.config in
    let s = c.args.site.now in
    let n = c.args.network.now in
    let owners = c.args.owners.now in
    let seats = c.args.seats.now in
    let closed = c.closed.result.now in
    let mid = c.close_held.new.config.config in
    let second = c.switch_all_on.new.config.config in
    let start : c.in_ok-config.config.config ≡ cleared whole.shape = c.in_ok-config.ensures.cleared ∙ ap cleared c.shape.ensures.shape in
    let closes : Closes (IsHeldAmong whole.shape s n owners closed) (length closed) (cleared whole.shape) mid = subst (λ (g : Configuration). Closes (IsHeldAmong g.shape s n owners closed) (length closed) g mid) start c.in_ok-close_held.ensures in
    let on : SwitchesOn seats n.tables (length seats) mid second = subst (λ (ts : List NetTable). SwitchesOn seats ts (length seats) mid second) c.as_slice.ensures c.switch_all_on.ensures in
    let share : IsShare s n owners seats whole (with_ticks second whole.ticks) = share_of s n owners seats closed whole mid second c.closed.ensures closes on c.requires.lengths in
    subst (λ (m : Shape). c.ticks.result ≤ most_ticks m) (sym share.shape) (subst (λ t. t ≤ most_ticks whole.shape) (sym c.ticks.ensures) c.shape.ensures.right.few_ticks)

pub returns : goal.returns
returns c =
    let whole = c.args.whole.now.config in
    let s = c.args.site.now in
    let n = c.args.network.now in
    let owners = c.args.owners.now in
    let seats = c.args.seats.now in
    let closed = c.closed.result.now in
    let mid = c.close_held.new.config.config in
    let second = c.switch_all_on.new.config.config in
    let start : c.in_ok-config.config.config ≡ cleared whole.shape = c.in_ok-config.ensures.cleared ∙ ap cleared c.shape.ensures.shape in
    let closes : Closes (IsHeldAmong whole.shape s n owners closed) (length closed) (cleared whole.shape) mid = subst (λ (g : Configuration). Closes (IsHeldAmong g.shape s n owners closed) (length closed) g mid) start c.in_ok-close_held.ensures in
    let on : SwitchesOn seats n.tables (length seats) mid second = subst (λ (ts : List NetTable). SwitchesOn seats ts (length seats) mid second) c.as_slice.ensures c.switch_all_on.ensures in
    let share : IsShare s n owners seats whole (with_ticks second whole.ticks) = share_of s n owners seats closed whole mid second c.closed.ensures closes on c.requires.lengths in
    subst (IsShare s n owners seats whole) (sym (ap (λ r. r.config) c.set_ticks.ensures)) (subst (λ t. IsShare s n owners seats whole (with_ticks second t)) (sym c.ticks.ensures) share)
