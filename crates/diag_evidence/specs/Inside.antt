-- How the facts about one rig's faults are kept.
use Rattle.diag_evidence.specs.{Kept.Kept, declared.facts.Facts.TheInside.Inside}

abbrev pub kept_in : Inside → Kept
kept_in p = record {
  shape = p.shape;
  crosses = p.crosses;
  wires = p.wires;
  apart = p.apart;
  trial = p.trial;
  row = p.row;
  cells = p.cells;
  registers = p.registers;
}
