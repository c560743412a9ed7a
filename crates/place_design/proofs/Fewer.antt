-- Networks with no more tables than the plain one, and plans with no more crossings.
use Rattle.std.proofs.Common.{◌≡◌, ◌≤◌, ◌⊎◌, ◌↔◌, Bool, ℕ, List, Option, Some, IfSome, length, inl, inr, sym, subst, arith, ◌∙◌}
use Rattle.place_design.proofs.Vocabulary.{Shape, Defects, NetlistData, Network, IsBetterLaid, Plan, Fits, IsFor, IsLeanFor}
use Rattle.map_network.specs.Vocabulary.{AllLead, IsNetwork, IsNoDeeper, AreRows, HasRowsOf, IsPlainNetwork, plain_network}
use Rattle.place_anneal.specs.Crossings.{HasCrossings, HasFewer, HasNoMore}
use Rattle.place_plan.specs.declared.layout.Placed.{Placed}
use Rattle.place_design.proofs.PlainWidths.{plain-inputs, plain-outputs}

-- the network with fewer tables has the design's rows
pub fewer-rows : (draft : NetlistData) (n m : Network) → HasRowsOf n draft → ((vectors rows : List (List Bool)) → AreRows n vectors rows ↔ AreRows m vectors rows) → HasRowsOf m draft
fewer-rows draft n m has same vectors rows = (let f = has vectors rows in let g = same vectors rows in (λ q. g.0 (f.0 q), λ q. f.1 (g.1 q)))

-- and no more tables than the design's plain network, as that itself has
pub no-more : (draft : NetlistData) (n m : Network) → IsPlainNetwork draft n → length m.tables ≤ length n.tables → length m.tables ≤ length (plain_network draft).tables
no-more draft n m plain fewer = subst (λ (x : Network). length m.tables ≤ length x.tables) plain fewer

pub just-as-many : (draft : NetlistData) (n : Network) → IsPlainNetwork draft n → length n.tables ≤ length (plain_network draft).tables
just-as-many draft n plain = no-more draft n n plain (omega arith)

-- a network with fewer tables than the plain one, and the same rows
pub lean-for : (draft : NetlistData) (n m : Network) → IsPlainNetwork draft n → HasRowsOf n draft → IsNetwork m → ((vectors rows : List (List Bool)) → AreRows n vectors rows ↔ AreRows m vectors rows) → length m.tables ≤ length n.tables → m.inputs ≡ n.inputs → length m.outputs ≡ length n.outputs → AllLead m → IsNoDeeper n m → IsLeanFor draft m
lean-for draft n m plain has network same fewer inputs outputs lead shallow = record {
  is = record {
    network = network;
    rows = fewer-rows draft n m has same;
    inputs = inputs ∙ plain-inputs draft n plain;
    outputs = outputs ∙ plain-outputs draft n plain;
    tables = no-more draft n m plain fewer;
  };
  lead = lead;
  shallow = subst (λ (x : Network). IsNoDeeper x m) plain shallow;
}

-- what holds of the value, if there is one, holds of this one
pub of_some : {A : Type 0} (P : A → Type 0) (o : Option A) (x : A) → o ≡ Some x → IfSome o P → P x
of_some P o x is holds = subst (λ q. IfSome q P) is holds

-- a plan that is as good or better fits where the first does
pub better-fits : (m : Shape) (d : Defects) (n : Network) (old new : Placed) → Fits m d n old.plan → (new ≡ old) ⊎ IsBetterLaid m d n old.plan new → Fits m d n new.plan
better-fits m d n old new fits (inl same) = subst (λ (x : Placed). Fits m d n x.plan) (sym same) fits
better-fits m d n old new fits (inr better) = better.better.fits

-- fewer crossings are no more
pub no-more-from : (m : Shape) (n : Network) (old new : Plan) → HasFewer m n old new → HasNoMore m n old new
no-more-from m n old new f = record {
  before = f.before;
  after = f.after;
  are_before = f.are_before;
  are_after = f.are_after;
  fewer = let l = f.fewer in omega arith;
}

-- and has no more crossings
pub no-more-crossings : (m : Shape) (d : Defects) (n : Network) (old new : Placed) (crossings : ℕ) → HasCrossings m n new.plan crossings → (new ≡ old) ⊎ IsBetterLaid m d n old.plan new → HasNoMore m n old.plan new.plan
no-more-crossings m d n old new crossings has (inl same) = record {
  before = crossings;
  after = crossings;
  are_before = subst (λ (x : Placed). HasCrossings m n x.plan crossings) same has;
  are_after = has;
  fewer = omega arith;
}
no-more-crossings m d n old new crossings has (inr better) = no-more-from m n old.plan new.plan better.better.crossings

-- the plain network itself
pub plain-for : (draft : NetlistData) (n : Network) → IsPlainNetwork draft n → IsNetwork n → HasRowsOf n draft → IsFor draft n
plain-for draft n plain is has = record {
  network = is;
  rows = has;
  inputs = plain-inputs draft n plain;
  outputs = plain-outputs draft n plain;
  tables = just-as-many draft n plain;
}
