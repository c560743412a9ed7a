use Rattle.std.proofs.Common.{arith, ◌++◌, ◌<◌, ◌≤◌, ◌≡◌, All, List, ℕ, length, subst, sym, ap, ◌∙◌}
use Rattle.machine_text.proofs.Vocabulary.{Counts, large_within, written, most_bytes, heads, Said}
use Rattle.machine_shape.specs.Limits.{MakeShape}
use Rattle.machine_shape.proofs.Full.{no_zero}
use Rattle.machine_text.specs.Machine.{IsMachine, count_rows, form_of, numbers_of, said_in, text_of}
use Rattle.machine_text.proofs.{GrammarLemmas.shape_written, text.machine_text.Goals.In_ok-put_lines}
use Rattle.machine_text.proofs.text.machine_text.Goals as goal

same_counts : (c : In_ok-put_lines) → c.counts.result ≡ c.args.shape.now.counts
same_counts c = c.counts.ensures

three : (c : In_ok-put_lines) → length c.counts.result.ports ≡ 3
three c = omega arith

four : (c : In_ok-put_lines) → length c.counts.result.lines ≡ 4
four c = omega arith

made : (c : In_ok-put_lines) → MakeShape c.args.shape.now.counts
made c =
    let s = c.args.shape.now in
    let same = same_counts c in
    record {
      full = no_zero s.counts (ap (λ (k : Counts). length k.ports) (sym same) ∙ three c) (ap (λ (k : Counts). length k.lines) (sym same) ∙ four c) s.full;
      within = large_within s;
    }

-- what was said is the form and the counts of the shape
said_is : (c : In_ok-put_lines) → ◌≡◌ {A = Said} (record { form = c.form.result; counts = c.counts.result }) (said_in (form_of c.args.shape.now.counts) c.args.shape.now.counts)
said_is c = ap (λ n. said_in n c.counts.result) c.form.ensures ∙ ap (λ (k : Counts). said_in (form_of c.args.shape.now.counts) k) (same_counts c)

is_text : (c : In_ok-put_lines) → c.put_lines.new.text.items ≡ text_of c.args.shape.now.counts
unfolding text_of
is_text c =
    c.in_ok-put_lines.ensures.put
    ∙ ap (λ bs. bs ++ written (count_rows (record { form = c.form.result; counts = c.counts.result }))) c.new-text.ensures.items
    ∙ ap (λ (s : Said). written (count_rows s)) (said_is c)

both : (c : In_ok-put_lines) → IsMachine c.put_lines.new.text.items c.args.shape.now.counts × (length c.put_lines.new.text.items ≤ most_bytes)
both c =
    let s = c.args.shape.now in
    let same = same_counts c in
    let is = shape_written s.counts (ap (λ (k : Counts). length k.ports) (sym same) ∙ three c) (ap (λ (k : Counts). length k.lines) (sym same) ∙ four c) (made c)
    (subst (λ (z : Said). All (λ h. All (λ n. n < 65536) (numbers_of z h)) heads) (said_is c) c.in_ok-put_lines.ensures.small) in
    subst (λ (bs : List ℕ). IsMachine bs s.counts × (length bs ≤ most_bytes)) (sym (is_text c)) is

pub returns-clause-text : goal.returns-clause-text
returns-clause-text c = is_text c

pub returns-clause-machine : goal.returns-clause-machine
returns-clause-machine c = (both c).0

pub returns-clause-few : goal.returns-clause-few
returns-clause-few c = (both c).1
