-- Commands that look for no room: what they owe, and what stands written at their end.
use Rattle.std.proofs.Common.{◌≡◌, ◌∙◌, ℕ, ◌≤◌, List, [], ◌++◌, length, refl, ap, subst, append-nil, inl, inr}
use Rattle.cmd_steps.proofs.Vocabulary.{holds, Shape, IsMachine, most_bytes}
use Rattle.cmd_steps.specs.Vocabulary.{Around, Course, after, write, done, ends, IsLawful, quiet, reads_machine, attaches}
use Rattle.cmd_steps.proofs.Excused.{machine-excused, attach-excused}
use Rattle.cmd_steps.proofs.ShapeLemmas.{one-machine}
use Rattle.cmd_steps.proofs.Machines.{named}
use Rattle.cmd_steps.proofs.Well.{IsWell, well-after}

-- where all is right nothing is refused but what is excused
pub quiet-lawful : (files : List (List ℕ)) (asks : Around → Around → Type 0) (course : Around → Around → Course)
    (right : Around → Type 0) → ((old new : Around) → right old → IsWell old new (course old new)) →
    IsLawful (quiet files asks course right)
quiet-lawful files asks course right well = record {
  right = λ old new text next is at. (well old new (is [] text refl)).well text next at;
  short = λ old new text next is at. absurd (is [] text refl);
  few = λ old new few text begun at. begun;
}

-- a right machine is read and attached, and the rest is of its shape
pub machine-well : (old new : Around) (machine name : List ℕ) (near : Type 0) (rest : Shape → Course) (bytes : List ℕ) (m : Shape) →
    old.store.contents machine ≡ holds bytes → IsMachine bytes m.counts → length bytes ≤ most_bytes → IsWell old new (rest m) →
    IsWell old new (after (reads_machine (old.store.contents machine)) near
    (λ n. after (attaches (named name n) old.rig new.rig) near (λ _. rest n)))
machine-well old new machine name near rest bytes m told is within well =
    well-after old new (reads_machine (old.store.contents machine)) near
    (λ n. after (attaches (named name n) old.rig new.rig) near (λ _. rest n))
    (λ refusal stops. machine-excused old new bytes m.counts is within refusal (rw told at stops))
    (λ n read. well-after old new (attaches (named name n) old.rig new.rig) near (λ _. rest n)
    (λ refusal stops. attach-excused old new (named name n) refusal stops)
    (λ _ _. subst (λ (s : Shape). IsWell old new (rest s)) (one-machine (old.store.contents machine) bytes m n told is read) well))

-- at the end the line that is written last stands there
pub line-ended : (line : List ℕ) (here : Type 0) (text : List ℕ) → write line here (done here) text ends → (text ≡ line) × here
line-ended line here text (inl h) = let next = h.1 in absurd (cc)
line-ended line here text (inr (more, first, h)) = (first ∙ (ap (λ t. line ++ t) h.0 ∙ append-nil line), h.2)
