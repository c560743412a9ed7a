-- What the course of such a command leads to, where its files are right.
use Rattle.std.proofs.Common.{◌≡◌, ◌⊎◌, ◌∙◌, ℕ, ◌≤◌, Bool, List, [], ◌++◌, length, None, refl, sym, ap, subst, inl, inr, append-nil}
use Rattle.run_image.proofs.Vocabulary.{holds, Shape, IsMachine, DefectList, text_of, ImageValue, Refusal, step-leads, rig-excused, Listed}
use Rattle.run_image.proofs.Vocabulary.{IsListed, lists, most_rows, RowsBegin, DiffersBehind, Laid, rows_work, HasOutputs, machine_listed}
use Rattle.cmd_steps.specs.Vocabulary.{AreRightVectors, says_at, vectors_at, Around, Next, RowWork, refuses, status_of, reads_machine, Fronts, Leads, IsExcused, EndsWell, EndsShort}
use Rattle.cmd_steps.specs.declared.refusal.Refusal.TheVariants as refused
use Rattle.cmd_steps.proofs.ShapeLemmas.{one-machine}
use Rattle.diag_list.proofs.Texts.{AreNamed, told-of, never-empty, never-alone}
use Rattle.run_image.proofs.CourseLemmas.{image-well, image-few}
use Rattle.run_image.proofs.Scripts.{AreLaidOn, Words, IsRight, begin-at, run-course, run-leads}

module _ (w : Words) (old new : Around) where
  -- the vectors have no fault, and where such a list stands written nothing is refused but what is excused, and no copies differ
  pub record Fits (front : List ℕ) (m : Shape) (x : Laid) : Type 0 where
    pub vectors : AreRightVectors (old.store.contents w.vectors) x.width
    pub alike : (l : Listed) → IsListed m old.rig.loads new.rig l → front ≡ text_of l.list → (i : ImageValue) → (x.lays l.list).gives i
        → (vectors rows : List (List Bool)) → DiffersBehind x.copies (old.store.contents w.vectors) i new.rig vectors rows → ⊥
    pub room : (l : Listed) → IsListed m old.rig.loads new.rig l → front ≡ text_of l.list
        → (refusal : Refusal) → (x.lays l.list).stops refusal → IsExcused refusal old new

  -- or nothing is laid on it, for want of room
  pub record Lacks (front : List ℕ) (m : Shape) (x : Laid) : Type 0 where
    pub short : (d : DefectList) (refusal : Refusal) → (x.lays d).stops refusal → (status_of refusal ≡ 3) ⊎ IsExcused refusal old new
    pub never : (l : Listed) → IsListed m old.rig.loads new.rig l → front ≡ text_of l.list
        → (i : ImageValue) → (x.lays l.list).gives i → ⊥

  -- or there are few vectors
  pub record HasFew (m : Shape) (x : Laid) : Type 0 where
    pub file : List ℕ
    pub is_told : old.store.contents w.vectors ≡ holds file
    pub few : length (vectors_at x.width file) ≤ most_rows

  module _ (m : Shape) (files : List (List ℕ)) (x : Laid) (on : AreLaidOn x) where
    abbrev rows-of : ImageValue → RowWork
    rows-of i = rows_work x i (old.store.contents w.vectors) new.store old.rig.failures new.rig

    abbrev rows-begin : Listed → ImageValue → RowsBegin
    rows-begin l i = record { image = i; vectors = w.vectors; files = files; begun = old.store; before = l.loads }

    -- ---- there is room

    listed-well : (text : List ℕ) (next : Next) → Fronts (λ front. Fits front m x) text
        → machine_listed x m old.rig.loads (begin-at w old new files) new text next → EndsWell old new next
    listed-well text next is (inl h) =
        step-leads (lists m old.rig.loads new.rig) (EndsWell old new) (λ refusal stops. rig-excused old new refusal stops.0) next h.1
    listed-well text next is (inr (l, list, inl h)) = subst (λ (n : Next). EndsWell old new n) (sym h.1) tt
    listed-well text next is (inr (l, list, inr (more, eq, inl h))) =
        step-leads (x.lays l.list) (EndsWell old new) ((is (text_of l.list) more eq).room l list refl) next h.1
    listed-well text next is (inr (l, list, inr (more, eq, inr (i, gives, at)))) =
        let f = (is (text_of l.list) more eq).vectors in
        let no_fault = subst (λ (k : ℕ). (says_at k f.bytes).fault ≡ None) (sym (on l.list i gives).inputs) f.no_fault in
        image-well (rows-of i) (rows-begin l i) old new f.bytes f.is_told no_fault ((is (text_of l.list) more eq).alike l list refl i gives) more next tt at

    -- ---- there is no room

    listed-short : (text : List ℕ) (next : Next) → Fronts (λ front. Lacks front m x) text
        → machine_listed x m old.rig.loads (begin-at w old new files) new text next → EndsShort old new next
    listed-short text next is (inl h) =
        step-leads (lists m old.rig.loads new.rig) (EndsShort old new) (λ refusal stops. inr (rig-excused old new refusal stops.0)) next h.1
    listed-short text next is (inr (l, list, inl h)) = subst (λ (n : Next). EndsShort old new n) (sym h.1) tt
    listed-short text next is (inr (l, list, inr (more, eq, inl h))) =
        step-leads (x.lays l.list) (EndsShort old new) ((is (text_of l.list) more eq).short l.list) next h.1
    listed-short text next is (inr (l, list, inr (more, eq, inr (i, gives, at)))) =
        absurd ((is (text_of l.list) more eq).never l list refl i gives)

    -- ---- memory is taken before the line `outputs`

    module _ (named : AreNamed) (bytes : List ℕ) (right : IsMachine bytes m.counts) (few : HasFew m x) (text : List ℕ)
        (begun : HasOutputs (reads_machine (old.store.contents w.machine)).gives text) (same : begun.list.shape ≡ m) where
      -- behind the list alone nothing has begun
      not-begun : (l : Listed) → IsListed m old.rig.loads new.rig l → (more : List ℕ) → text ≡ text_of l.list ++ more → more ≡ [] → ⊥
      not-begun l list more is empty =
          let alone = is ∙ (ap (λ (t : List ℕ). text_of l.list ++ t) empty ∙ append-nil (text_of l.list)) in
          let told = told-of named bytes m right in
          never-alone m told begun.list l.list same begun.right list.shape list.kept begun.more text begun.text_is alone

      never-lacks : machine_listed x m old.rig.loads (begin-at w old new files) new text (refuses refused.Memory) → ⊥
      never-lacks (inl h) = never-empty (text_of begun.list) begun.more text begun.text_is h.0
      never-lacks (inr (l, list, inl h)) = never-empty (text_of begun.list) begun.more text begun.text_is h.0
      never-lacks (inr (l, list, inr (more, is, inl h))) = not-begun l list more is h.0
      never-lacks (inr (l, list, inr (more, is, inr (i, gives, inl h)))) = not-begun l list more is h.0
      never-lacks (inr (l, list, inr (more, is, inr (i, gives, inr (u, once, inl h))))) = not-begun l list more is h.0
      never-lacks (inr (l, list, inr (more, is, inr (i, gives, inr (u, once, inr (v, opened, inl h)))))) = not-begun l list more is h.0
      never-lacks (inr (l, list, inr (more, is, inr (i, gives, inr (u, once, inr (v, opened, inr (rest, first, at))))))) =
          let is_few = subst (λ (k : ℕ). length (vectors_at k few.file) ≤ most_rows) (sym (on l.list i gives).inputs) few.few in
          image-few (rows-of i) (rows-begin l i) new few.file few.is_told (λ count lacks. lacks) is_few more rest first
          (inr (u, once, inr (v, opened, inr (rest, first, at))))

  -- ---- the whole course

  pub run-well : Leads (Fronts (λ front. IsRight w old (Fits front))) (run-course w old new) (EndsWell old new)
  run-well text next is =
      run-leads w old new text next (EndsWell old new next) (λ refusal empty eq none why. rw eq (why (Fits []) (is [] text refl)))
      (λ m files x on c. listed-well m files x on text next (λ front more eq. c.right (Fits front) (is front more eq)))

  pub run-short : Leads (Fronts (λ front. IsRight w old (Lacks front))) (run-course w old new) (EndsShort old new)
  run-short text next is =
      run-leads w old new text next (EndsShort old new next) (λ refusal empty eq none why. rw eq (inr (why (Lacks []) (is [] text refl))))
      (λ m files x on c. listed-short m files x on text next (λ front more eq. c.right (Lacks front) (is front more eq)))

  pub run-few : AreNamed → IsRight w old HasFew → (text : List ℕ) → HasOutputs (reads_machine (old.store.contents w.machine)).gives text
      → run-course w old new text (refuses refused.Memory) → ⊥
  run-few named right text begun =
      let h = right.machine in
      let one = one-machine (old.store.contents w.machine) h.text.bytes h.shape in
      run-leads w old new text (refuses refused.Memory) ⊥
      (λ refusal empty eq none why. never-empty (text_of begun.list) begun.more text begun.text_is empty)
      (λ m files x on c. let same = one m h.text.is_told h.text.says c.machine_is in
      never-lacks m files x on named h.text.bytes (subst (λ (s : Shape). IsMachine h.text.bytes s.counts) same h.text.says) (c.right HasFew right) text begun
      (sym (one begun.list.shape h.text.is_told h.text.says begun.shape) ∙ same))
