-- Texts that stand for a design.
use Rattle.std.proofs.Common.{◌≡◌, ◌∙◌, ◌⊎◌, ℕ, ◌≤◌, List, length, refl, inl, inr, arith, Option, Some, IfSome}
use Rattle.base_text.specs.Size.{most_bytes}
use Rattle.design_netlist.specs.declared.netlist_data.NetlistData.{NetlistData}
use Rattle.design_blif.specs.Designs.{IsDesign}
use Rattle.map_text.specs.declared.text.Remapped.{Remapped}
use Rattle.map_text.specs.Remapped.{HaveSameRows, IsAnotherText, IsRemapped, MayStandFor, HasNarrowCovers, tables_in}

same-self : (d : NetlistData) → HaveSameRows d d
same-self d = record { rows = λ vectors rows. (λ h. h, λ h. h) }

same-then : (d e f : NetlistData) → HaveSameRows d e → HaveSameRows e f → HaveSameRows d f
same-then d e f first second = record {
  rows = λ vectors rows. let p = first.rows vectors rows in let q = second.rows vectors rows in (λ h. q.0 (p.0 h), λ h. p.1 (q.1 h));
}

pub own-text : (d : NetlistData) (text : List ℕ) → IsDesign text d → length text ≤ most_bytes → IsRemapped d text d
own-text d text is short = record {
  another = record { design = is; short = short; ports = record { inputs = refl; outputs = refl }; same = same-self d };
  fewer = omega arith;
}

-- another text of another text
pub another-then : (d e f : NetlistData) (text again : List ℕ) → IsAnotherText d text e → IsAnotherText e again f → IsAnotherText d again f
another-then d e f text again first second = record {
  design = second.design;
  short = second.short;
  ports = record { inputs = second.ports.inputs ∙ first.ports.inputs; outputs = second.ports.outputs ∙ first.ports.outputs };
  same = same-then d e f first.same second.same;
}

pub remapped-then : (d e f : NetlistData) (text again : List ℕ) → IsRemapped d text e → IsRemapped e again f → IsRemapped d again f
remapped-then d e f text again first second = record {
  another = another-then d e f text again first.another second.another;
  fewer = let a = first.fewer in let b = second.fewer in omega (arith, a, b);
}

-- ---- the best text so far

module _ (d : NetlistData) (given : List ℕ) (before r : Remapped) (found : Option Remapped) (so_far : MayStandFor d given before) where
  -- a text of `d` that was found has no more tables than the one before
  better : IsAnotherText d r.text r.netlist → HasNarrowCovers r.netlist → tables_in r.netlist ≤ tables_in before.netlist → MayStandFor d given r
  better another narrow less = record {
    remapped = record { another = another; fewer = let most = so_far.remapped.fewer in omega (arith, less, most) };
    narrow = inl narrow;
  }

  -- a round from the text before
  pub round-kept : IfSome found (λ f. IsAnotherText before.netlist f.text f.netlist) → IfSome found (λ f. HasNarrowCovers f.netlist)
      → (r ≡ before) ⊎ ((found ≡ Some r) × (tables_in r.netlist ≤ tables_in before.netlist)) → MayStandFor d given r
  round-kept another narrow (inl same) = rw same so_far
  round-kept another narrow (inr (is, less)) =
      better (another-then d before.netlist r.netlist before.text r.text so_far.remapped.another (rw is at another)) (rw is at narrow) less
