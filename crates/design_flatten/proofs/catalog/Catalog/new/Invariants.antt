use Rattle.design_flatten.proofs.Vocabulary.{◌≡◌, take, IsCatalog}
use Rattle.design_flatten.proofs.catalog.Catalog.new.Given as goal

abbrev pub invariant-models : goal.invariant-models
invariant-models l = record {
  models : l.catalog.models.now ≡ l.models;
  catalog : IsCatalog (take l.model-index l.models) l.catalog;
}
