use Rattle.std.proofs.Common.{◌≡◌, ◌++◌, map, take}
use Rattle.design_blif.proofs.lines.push_ports.Given as goal

abbrev pub invariant-numbers : goal.invariant-numbers
invariant-numbers l = l.ports.items ≡ l.initial.ports.items ++ map (λ k. record { signal = k; line = l.line }) (take l.signal-index l.signal-items)
