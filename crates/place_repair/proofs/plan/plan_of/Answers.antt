use Rattle.place_repair.proofs.Vocabulary.{◌≡◌, ◌<◌, All, sym, ap, ◌∙◌, subst, tables_of, pins_of, Configuration, AreNetsOf, ArePlaces}
use Rattle.place_repair.proofs.Seating.{table_within, table_apart, pin_within, pin_apart}
use Rattle.place_repair.proofs.plan.plan_of.Goals as goal

pub moving-requires-clause-nets : goal.moving-requires-clause-nets
moving-requires-clause-nets c = subst (λ (g : Configuration). AreNetsOf g c.in_ok-nets.nets) c.config.ensures.config c.in_ok-nets.ensures

pub places_of-requires-clause-within : goal.places_of-requires-clause-within
places_of-requires-clause-within c =
    let count : c.tables.result ≡ tables_of c.args.image.now.config.shape = c.tables.ensures.tables ∙ ap tables_of (c.shape-shape.ensures.shape ∙ c.requires.shape) in
    subst (λ n. All (λ t. t < n) c.args.seats.now.tables.gone) (sym count) (table_within c.args.defects.now.list c.args.image.now c.config.ensures.right c.args.seats.now c.requires.seats)

pub places_of-requires-clause-apart : goal.places_of-requires-clause-apart
places_of-requires-clause-apart c = table_apart c.args.defects.now.list c.args.image.now c.config.ensures.right c.args.seats.now c.requires.seats

pub places_of-requires-2-clause-within : goal.places_of-requires-2-clause-within
places_of-requires-2-clause-within c =
    let count : c.pins.result ≡ pins_of c.args.image.now.config.shape = c.pins.ensures.pins ∙ ap pins_of (c.shape-shape.ensures.shape ∙ c.requires.shape) in
    subst (λ n. All (λ t. t < n) c.args.seats.now.pins.gone) (sym count) (pin_within c.args.defects.now.list c.args.image.now c.config.ensures.right c.args.seats.now c.requires.seats)

pub places_of-requires-2-clause-apart : goal.places_of-requires-2-clause-apart
places_of-requires-2-clause-apart c = pin_apart c.args.defects.now.list c.args.image.now c.config.ensures.right c.args.seats.now c.requires.seats

pub returns : goal.returns
returns c =
    let tables : c.tables.result ≡ tables_of c.args.image.now.config.shape = c.tables.ensures.tables ∙ ap tables_of (c.shape-shape.ensures.shape ∙ c.requires.shape) in
    let pins : c.pins.result ≡ pins_of c.args.image.now.config.shape = c.pins.ensures.pins ∙ ap pins_of (c.shape-shape.ensures.shape ∙ c.requires.shape) in
    record {
      nets_are = subst (λ (g : Configuration). AreNetsOf g c.in_ok-nets.nets) c.config.ensures.config c.in_ok-nets.ensures;
      moves_are = c.in_ok-moves.ensures;
      tables_are = subst (λ n. ArePlaces n c.args.seats.now.tables c.in_ok-tables.tables.items) tables c.in_ok-tables.ensures;
      pins_are = subst (λ n. ArePlaces n c.args.seats.now.pins c.in_ok-pins.pins.items) pins c.in_ok-pins.ensures;
    }
