use Rattle.design_netlist.proofs.Vocabulary.{length, arith, ap, refl, false≢true}
use Rattle.design_netlist.proofs.MadeLemmas.{inputs_of, outputs_of, latches_of, made_of}
use Rattle.design_netlist.proofs.netlist_data.NetlistData.is_well_made.Goals as goal

pub returns-then-not-are_ports_below : goal.returns-then-not-are_ports_below
returns-then-not-are_ports_below c = (λ h. absurd (false≢true h), λ made. c.if-not-are_ports_below.ensures.1 (rw (c.len-count.ensures, c.as_slice-3.ensures) (inputs_of c.args.self.now made)))

pub returns-then-not-are_ports_below-2 : goal.returns-then-not-are_ports_below-2
returns-then-not-are_ports_below-2 c = (λ h. absurd (false≢true h), λ made. c.if-not-are_ports_below-2.ensures.1 (rw (c.len-count.ensures, c.as_slice-4.ensures) (outputs_of c.args.self.now made)))

pub returns-then-not-are_latches_below : goal.returns-then-not-are_latches_below
returns-then-not-are_latches_below c = (λ h. absurd (false≢true h), λ made. c.if-not-are_latches_below.ensures.1 (rw (c.len-count.ensures, c.as_slice-5.ensures) (latches_of c.args.self.now made)))

pub returns : goal.returns
returns c = (
  λ h. made_of c.args.self.now
      (rw (← c.as_slice-2.ensures, ← c.len-count.ensures) (c.if-not-are_covers_over.ensures.0 refl))
      (rw (← c.as_slice-3.ensures, ← c.len-count.ensures) (c.if-not-are_ports_below.ensures.0 refl))
      (rw (← c.as_slice-4.ensures, ← c.len-count.ensures) (c.if-not-are_ports_below-2.ensures.0 refl))
      (rw (← c.as_slice-5.ensures, ← c.len-count.ensures) (c.if-not-are_latches_below.ensures.0 refl))
      (omega (arith, c.len-count.ensures, c.if-count-gt-MOST_NAMES.false))
      (omega (arith, ap length c.as_slice.ensures, c.if-as_slice-gt-MOST_OUTPUTS.false))
      (rw (← c.as_slice-6.ensures) (c.have_few_characters.ensures.0 h)),
  λ made. c.have_few_characters.ensures.1 (rw c.as_slice-6.ensures made.characters),
)
