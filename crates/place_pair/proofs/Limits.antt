-- The image of one of two networks is within the limits of its machine.
use Rattle.std.proofs.Common.{◌≡◌, ℕ, ◌+◌, ◌<◌, ◌≤◌, List, IsSome, length, get_or, map, sym, ◌∙◌, subst, Option, arith}
use Rattle.place_pair.proofs.Vocabulary.{Contains, get_or-map, length-map, most_closed, most_ticks, Configuration, setting_of, tables_on}
use Rattle.place_pair.proofs.Vocabulary.{Network, Plan, number_of, no_seat, Site, part, IsShare}
use Rattle.std.specs.FinSet as set
use Rattle.machine_shape.specs.declared.Table.{Table}
use Rattle.machine_image.proofs.Counted.{on_few}
use Rattle.place_pair.proofs.Lists.{length_part}

module _ (s : Site) (n : Network) (p : Plan) (owners : List (Option ℕ)) (whole g : Configuration) (share : IsShare s n owners (part s.table (length n.tables) p.tables) whole g) where
  pub closed_fit : set.len whole.closed ≤ most_closed whole.shape → set.len g.closed ≤ most_closed g.shape
  closed_fit most = subst (λ m. set.len g.closed ≤ most_closed m) (sym share.shape) (let few = share.few in omega (arith, few, most))

  module _ (within : s.table + length n.tables ≤ length p.tables) where
    abbrev seats : List Table
    seats = part s.table (length n.tables) p.tables

    seated : length (map number_of seats) ≡ length n.tables
    seated = length-map seats number_of ∙ length_part s.table (length n.tables) p.tables within

    -- a table that is on is one of the seats
    on_seat : (t : ℕ) → IsSome (setting_of g t) → Contains (map number_of seats) t
    on_seat t on = let r = share.others t on in at r.0 r.1 r.2
      where
        at : (j : ℕ) → j < length n.tables → (get_or seats j no_seat).0 ≡ t → Contains (map number_of seats) t
        at j l e = (
          j,
          (let many = seated in omega (arith, l, many)),
          get_or-map number_of seats j no_seat t (let many = length_part s.table (length n.tables) p.tables within in omega (arith, l, many)) ∙ e,
        )

    pub on_fit : length p.tables ≤ most_ticks whole.shape → length (tables_on g) ≤ most_ticks g.shape
    on_fit most =
        let on = on_few g (map number_of seats) on_seat in
        let many = seated in
        subst (λ m. length (tables_on g) ≤ most_ticks m) (sym share.shape) (omega (arith, on, many, within, most))
