-- No text of a list goes on as another list does with the line `outputs` behind it.
use Rattle.std.proofs.Common.{◌≡◌, ℕ, ◌+◌, ◌<◌, ◌≤◌, slice_index_or, List, [], ◌++◌, length, refl, sym, ap, inr, ◌∙◌, arith, length-append}
use Rattle.diag_list.proofs.Vocabulary.{Shape, outputs_line}
use Rattle.machine_shape.specs.{declared.Counts.Counts, Laws.HasNames, Laws.HasCrosses, Laws.IsNumbered}
use Rattle.machine_text.specs.Machine.{IsMachine}
use Rattle.machine_text.specs.declared.head.Head.TheVariants as head
use Rattle.machine_defects.specs.Vocabulary.{DefectList, IsDefectList, text_of, counts_of, rows_of, AreCounts, IsFaultBehind}
use Rattle.machine_defects.specs.declared.kind.DefectsKind.TheVariants.{After}
use Rattle.machine_defects.proofs.Only.{IsTold, no_fault}

-- the counts of a text of a machine are small
small-counts : (bytes : List ℕ) (c : Counts) → IsMachine bytes c → AreCounts (counts_of c)
small-counts bytes c is = record {
  twelve = refl;
  small = ((is.small head.Modules 0 0 (omega arith)).1, ((is.small head.Chips 0 0 (omega arith)).1, ((is.small head.Hextants 0 0 (omega arith)).1, ((is.small head.Tables 0 0 (omega arith)).1, (port 0 (omega arith), (port 1 (omega arith), (port 2 (omega arith), (line 0 (omega arith), (line 1 (omega arith), (line 2 (omega arith), (line 3 (omega arith), ((is.small head.Pins 0 0 (omega arith)).1, tt))))))))))));
}
  where
    port : (k : ℕ) → k < 3 → slice_index_or c.ports k 0 ≤ 65535
    port k lt = (is.small head.Ports k 0 (let three = is.three in omega (arith, lt, three))).1

    line : (k : ℕ) → k < 4 → slice_index_or c.lines k 0 ≤ 65535
    line k lt = (is.small head.Lines k 0 (let four = is.four in omega (arith, lt, four))).1

-- what texts of lists rest on
pub record AreNamed : Type 0 where
  pub names : (m : Shape) → HasNames m
  pub crosses : (m : Shape) → HasCrosses m
  pub numbered : (m : Shape) → IsNumbered m

pub told-of : AreNamed → (bytes : List ℕ) (m : Shape) → IsMachine bytes m.counts → IsTold m
told-of named bytes m is = record { names = named.names m; crosses = named.crosses m; numbered = named.numbered m; counts = small-counts bytes m.counts is }

-- a list's text has nothing behind it
nothing-behind : (m : Shape) → IsTold m → (d e : DefectList) → d.shape ≡ m → IsDefectList d → e.shape ≡ m → IsDefectList e → (left : List ℕ) → 0 < length left → text_of e ≡ text_of d ++ left → ⊥
nothing-behind m told d e d_shape d_right e_shape e_right left some is =
    let behind : IsFaultBehind m (text_of e) (length (rows_of d) + 2) After = record {
      list = d;
      left = left;
      shape = d_shape;
      right = d_right;
      parts = is;
      some = some;
      here = refl;
      kind_is = refl;
    } in
    no_fault m told e e_shape e_right (text_of e) (length (rows_of d) + 2) After refl (inr behind)

-- the line is some bytes, whatever follows
outputs-some : (more : List ℕ) → 0 < length (outputs_line ++ more)
outputs-some more = rw (length-append outputs_line more) (omega arith)

pub never-empty : (front more text : List ℕ) → text ≡ front ++ (outputs_line ++ more) → text ≡ [] → ⊥
never-empty front more text is empty =
    let size : length text ≡ length front + length (outputs_line ++ more) = ap length is ∙ length-append front (outputs_line ++ more) in
    let none : length text ≡ 0 = ap length empty in
    let some = outputs-some more in
    omega (arith, size, none, some)

-- where a list alone stands there is no such line
pub never-alone : (m : Shape) → IsTold m → (d e : DefectList) → d.shape ≡ m → IsDefectList d → e.shape ≡ m → IsDefectList e → (more text : List ℕ) → text ≡ text_of d ++ (outputs_line ++ more) → text ≡ text_of e → ⊥
never-alone m told d e d_shape d_right e_shape e_right more text is alone =
    nothing-behind m told d e d_shape d_right e_shape e_right (outputs_line ++ more) (outputs-some more) (sym alone ∙ is)
