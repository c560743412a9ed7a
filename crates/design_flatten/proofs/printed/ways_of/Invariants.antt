use Rattle.design_flatten.proofs.Vocabulary.{◌≡◌, List, length, texts_of, Model, AreOrigins, AreWays}
use Rattle.design_flatten.proofs.printed.ways_of.Given as goal

abbrev pub invariant-origins : goal.invariant-origins
invariant-origins l = record {
  len : length (texts_of l.ways.items) ≡ l.used;
  ways : (models : List Model) → AreOrigins models l.origins → AreWays models l.used (texts_of l.ways.items);
}
