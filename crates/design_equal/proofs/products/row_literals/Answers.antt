use Rattle.std.proofs.Common.{ℕ, ◌&&◌, Bool, get_or, ap, sym, ◌∙◌, add-one, map, take}
use Rattle.design_netlist.specs.declared.netlist_data.Lit.TheVariants.{Zero}
use Rattle.design_equal.proofs.Vocabulary.{fits, matches, matches-more, literal_in, signal_bits}
use Rattle.design_equal.proofs.products.row_literals.Goals as goal

pub places-preserved : goal.places-preserved
places-preserved c = λ bits.
    c.in_ok-add_wanted.ensures bits
    ∙ ap (λ (b : Bool). b && fits (get_or c.args.row.now c.places.k Zero) (literal_in bits c.label_at-label.result)) (c.places.invariant bits)
    ∙ ap (λ (label : ℕ). matches (take c.places.k c.args.row.now) (map (signal_bits bits c.args.labels.now) (take c.places.k c.args.ins.now)) && fits (get_or c.args.row.now c.places.k Zero) (literal_in bits label)) c.label_at-label.ensures
    ∙ rw add-one (sym (matches-more (signal_bits bits c.args.labels.now) c.args.row.now c.args.ins.now c.places.k c.requires c.places-test.true))
