use Rattle.machine_config.proofs.Changes as changes
use Rattle.machine_config.proofs.laws.closing_and_opening_are_exact.Goals as goal

pub returns : goal.returns
returns c = record {
  closed = changes.is_closed-closed;
  «open» = changes.is_closed-open;
  closed_already = changes.closed_already;
  open_already = changes.open_already;
  opened_again = changes.opened_again;
  closed_again = changes.closed_again;
}
