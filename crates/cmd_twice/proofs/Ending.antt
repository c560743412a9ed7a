-- What a `twice` has written wherever it ends, and where the copies differ, from its course.
use Rattle.std.proofs.Common.{◌≡◌, ◌⊎◌, ◌+◌, ◌∙◌, ℕ, Bool, List, [], ◌∷◌, ◌++◌, flat_map, length, take, drop, refl, sym, ap, subst, inl, inr, arith, append_assoc, append-nil, length-append, take_all, Some}
use Rattle.cmd_twice.proofs.Vocabulary.{take_at, take-append-drop, map-append, Rose, Wrote, Shape, Covers, Faults, text_of, NetlistData}
use Rattle.cmd_twice.proofs.Vocabulary.{ImageValue, Asked, Explains, Design, Refusal, Adds, Listed, IsListed, lists, share, all_repeated}
use Rattle.cmd_twice.proofs.Vocabulary.{ReadsApart, loads, rows_work, Two, repeated-count, IsImageForTwice, lays_twice, twice_laid}
use Rattle.cmd_twice.proofs.Vocabulary.{twice_course}
use Rattle.design_vectors.specs.Rows.{row_line}
use Rattle.cmd_steps.specs.Vocabulary.{AreFirst, outputs_line, output_text, Outside, around, Next, RowWork, all_rows, HasReadRows, ends, refuses, writes, opens, attaches, reads_machine, reads_design, refusal_text}
use Rattle.cmd_steps.specs.declared.refusal.Refusal.TheVariants as refused
use Rattle.cmd_steps.proofs.Leading.{stopped}
use Rattle.cmd_twice.specs.Headline.{AreFirstRows, AreReadByBoth, StandsTwice, nothing, no_rows, some_rows, ReadDifferently}
use Rattle.cmd_twice.proofs.Reading.{read-by-both, never-alarmed, first-taken, more-taken, all-taken, logged-rows}

-- ---- the rows so far

module _ (vectors : List ℕ) (old new : Outside) (draft : NetlistData) (l : Listed) (i : ImageValue) (is : IsImageForTwice l.list draft i)
    (covers : (f : Faults) → Explains f new.rig → Covers l.list.shape l.list.list f) where
  abbrev work : RowWork
  work = rows_work (twice_laid draft) i (old.store.contents vectors) new.store old.rig.failures new.rig

  abbrev AreFirstOf : List (List Bool) → Type 0
  AreFirstOf driven = AreFirst (length draft.inputs) (old.store.contents vectors) driven

  pub record SoFar (text : List ℕ) : Type 0 where
    pub driven : List (List Bool)
    pub rows : List (List Bool)
    pub text_is : text ≡ flat_map row_line rows
    pub first : AreFirstOf driven
    pub outputs : (f : Faults) → Explains f new.rig → AreFirstRows draft driven rows
    pub read : AreReadByBoth l.list draft driven rows new.rig ⊎ Rose old.rig.failures new.rig.failures

  first-of : (driven : List (List Bool)) → AreFirst (share Two (length i.inputs)) (old.store.contents vectors) driven → AreFirstOf driven
  first-of driven first = subst (λ (k : ℕ). AreFirst k (old.store.contents vectors) driven) is.width first

  -- rows that the session has read
  by-session : (text : List ℕ) (driven rows : List (List Bool)) → text ≡ flat_map row_line rows → AreFirstOf driven → AreReadByBoth l.list draft driven rows new.rig → SoFar text
  by-session text driven rows text_is first read =
      record { driven = driven; rows = rows; text_is = text_is; first = first; outputs = read.exactly_the_outputs; read = inl read }

  from-read : (text : List ℕ) → HasReadRows work text → SoFar text
  from-read text h =
      by-session text h.has.vectors h.has.rows h.has.text_is (first-of h.has.vectors h.has.first)
      (read-by-both l.list draft i is h.has.vectors new.rig h.session.config h.session.drives h.has.are.read.widths covers h.has.rows
      (ap (take (length h.has.rows)) (sym h.session.rows_are) ∙ all-taken h.has.rows))

  -- the session is lost: what it had read stands in the log
  by-log : (text : List ℕ) (driven rows all : List (List Bool)) → text ≡ flat_map row_line rows → AreFirstOf driven → rows ≡ take (length rows) all → work.are driven all → Rose old.rig.failures new.rig.failures → SoFar text
  by-log text driven rows all text_is first front are lost =
      record { driven = driven; rows = rows; text_is = text_is; first = first; outputs = logged-rows draft l.list i is new.rig driven all rows are front; read = inr lost }

  -- one more reading differs, behind these rows and perhaps others that wait
  from-apart : (text : List ℕ) (driven rows more : List (List Bool)) → text ≡ flat_map row_line rows
      → (all : List (List Bool)) → take (length rows) (all_repeated Two all ++ more) ≡ all_repeated Two rows
      → (apart : ReadsApart (old.store.contents vectors) i new.rig driven all) → more ≡ apart.reading ∷ apart.read_behind → SoFar text
  from-apart text driven rows more text_is all taken apart behind =
      by-session text (driven ++ apart.vector ∷ apart.behind) rows text_is (first-of (driven ++ apart.vector ∷ apart.behind) apart.next)
      (read-by-both l.list draft i is (driven ++ apart.vector ∷ apart.behind) new.rig apart.session.config apart.session.drives apart.widths covers rows
      (ap (take (length rows)) (sym apart.session.rows_are ∙ ap (λ (m : List (List Bool)). all_repeated Two all ++ m) (sym behind)) ∙ taken))

  -- rows and those that wait, before a further reading
  some-taken : (rows others more : List (List Bool)) → take (length rows) (all_repeated Two (rows ++ others) ++ more) ≡ all_repeated Two rows
  some-taken rows others more =
      ap (take (length rows)) (ap (λ (rs : List (List Bool)). rs ++ more) (map-append (λ (row : List Bool). row ++ row) rows others)
      ∙ append_assoc (all_repeated Two rows) (all_repeated Two others) more) ∙ first-taken rows (all_repeated Two others ++ more)

  pub so-far : (text : List ℕ) (next : Next) → all_rows work text next → (next ≡ refuses refused.Rig → Rose old.rig.failures new.rig.failures) → SoFar text
  so-far text ends h rose = from-read text h.0
  so-far text (writes line) h rose = by-line h.session
    where
      by-line : work.session h.vectors (h.rows ++ h.row ∷ h.more) ⊎ (work.differs h.vectors (h.rows ++ h.row ∷ h.more) ⊎ work.lost) → SoFar text
      by-line (inl session) =
          by-session text h.vectors h.rows h.text_is (first-of h.vectors h.first)
          (read-by-both l.list draft i is h.vectors new.rig session.config session.drives h.are.read.widths covers h.rows
          (ap (take (length h.rows)) (sym session.rows_are) ∙ more-taken h.rows (h.row ∷ h.more)))
      by-line (inr (inl apart)) =
          from-apart text h.vectors h.rows (apart.reading ∷ apart.read_behind) h.text_is (h.rows ++ h.row ∷ h.more) (some-taken h.rows (h.row ∷ h.more) (apart.reading ∷ apart.read_behind)) apart refl
      by-line (inr (inr lost)) =
          by-log text h.vectors h.rows (h.rows ++ h.row ∷ h.more) h.text_is (first-of h.vectors h.first) (sym (take_at h.rows (h.row ∷ h.more) (length h.rows) refl)) h.are lost
  so-far text (refuses (refused.Vectors line kind)) h rose = from-read text h.0
  so-far text (refuses refused.Store) h rose = from-read text h.0
  so-far text (refuses refused.Rig) h rose =
      by-log text h.0.vectors h.0.rows h.0.rows h.0.text_is (first-of h.0.vectors h.0.first) (sym (take_all (length h.0.rows) h.0.rows (omega arith))) h.0.are (rose refl)
  so-far text (refuses refused.Memory) h rose = from-read text h.0
  so-far text (refuses refused.Differ) h rose =
      from-apart text h.0.vectors h.0.rows (h.1.reading ∷ h.1.read_behind) h.0.text_is h.0.rows (first-taken h.0.rows (h.1.reading ∷ h.1.read_behind)) h.1 refl
  so-far text (refuses refusal) h rose = absurd h

-- ---- wherever it ends

module _ (machine name design vectors : List ℕ) (old new : Outside) (text more : List ℕ) (next : Next) (adds : Adds next more) (wrote : Wrote old.sink.written new.sink.written (text ++ more))
    (rose : next ≡ refuses refused.Rig → Rose old.rig.failures new.rig.failures) where
  abbrev Stands : Type 0
  Stands = StandsTwice machine name design vectors old new

  abbrev HasWritten : List ℕ → Type 0
  HasWritten s = Wrote old.sink.written new.sink.written s

  wrote-as : (other : List ℕ) → text ++ more ≡ other → HasWritten other
  wrote-as other same = subst (λ (s : List ℕ). HasWritten s) same wrote

  line-of : (refusal : Refusal) → next ≡ refuses refusal → (n : ℕ) × (more ≡ take n (refusal_text refusal))
  line-of refusal same = subst (λ (x : Next). Adds x more) same adds

  -- a step before the list is refused
  refused-first : (refusal : Refusal) → text ≡ [] → next ≡ refuses refusal → Stands
  refused-first refusal empty same =
      let line = line-of refusal same in
      nothing refusal line.0 (wrote-as (take line.0 (refusal_text refusal)) (ap (λ (s : List ℕ). s ++ more) empty ∙ line.1))

  module _ (m : Shape) (read : (reads_machine (old.store.contents machine)).gives m) (attached : new.rig.machine.attached ≡ Some (record { shape = m; name = name }))
      (l : Listed) (list : IsListed m old.rig.loads new.rig l) where
    -- so much of the list and the line stands there, and as much of the line of a refusal
    no-rows : (front rest : List ℕ) (refusal : Refusal) (n : ℕ) → text_of l.list ++ outputs_line ≡ front ++ rest → text ++ more ≡ front ++ take n (refusal_text refusal) → Stands
    no-rows front rest refusal n split same =
        no_rows l front rest refusal n (record { shape = m; machine_is = read; attached = attached; is_listed = list }) split (wrote-as (front ++ take n (refusal_text refusal)) same)

    -- the list is written, in whole or in part
    in-list : text ≡ [] → Adds (writes (text_of l.list)) more → Stands
    in-list empty (inl (n, is)) =
        let all = text_of l.list in
        no-rows (take n all) (drop n all ++ outputs_line) refused.Words 0
        (ap (λ (s : List ℕ). s ++ outputs_line) (sym (take-append-drop n all)) ∙ append_assoc (take n all) (drop n all) outputs_line)
        (ap (λ (s : List ℕ). s ++ more) empty ∙ (is ∙ sym (append-nil (take n all))))
    in-list empty (inr (refusal, n, is)) = nothing refusal n (wrote-as (take n (refusal_text refusal)) (ap (λ (s : List ℕ). s ++ more) empty ∙ is))

    -- a step behind it is refused
    behind-list : (rest : List ℕ) → text ≡ text_of l.list ++ rest → rest ≡ [] → (refusal : Refusal) → next ≡ refuses refusal → Stands
    behind-list rest is empty refusal same =
        let line = line-of refusal same in
        let alone : text ≡ text_of l.list = is ∙ (ap (λ (s : List ℕ). text_of l.list ++ s) empty ∙ append-nil (text_of l.list)) in
        no-rows (text_of l.list) outputs_line refusal line.0 refl (ap (λ (s : List ℕ). s ++ more) alone ∙ ap (λ (s : List ℕ). text_of l.list ++ s) line.1)

    -- the line is written, in whole or in part
    in-line : (rest : List ℕ) → text ≡ text_of l.list ++ rest → rest ≡ [] → Adds (writes outputs_line) more → Stands
    in-line rest is empty (inl (n, part)) =
        let all = text_of l.list in
        let alone : text ≡ all = is ∙ (ap (λ (s : List ℕ). all ++ s) empty ∙ append-nil all) in
        no-rows (all ++ take n outputs_line) (drop n outputs_line) refused.Words 0
        (ap (λ (s : List ℕ). all ++ s) (sym (take-append-drop n outputs_line)) ∙ sym (append_assoc all (take n outputs_line) (drop n outputs_line)))
        (ap (λ (s : List ℕ). s ++ more) alone ∙ (ap (λ (s : List ℕ). all ++ s) part ∙ sym (append-nil (all ++ take n outputs_line))))
    in-line rest is empty (inr (refusal, n, part)) =
        let all = text_of l.list in
        let alone : text ≡ all = is ∙ (ap (λ (s : List ℕ). all ++ s) empty ∙ append-nil all) in
        no-rows all outputs_line refusal n refl (ap (λ (s : List ℕ). s ++ more) alone ∙ ap (λ (s : List ℕ). all ++ s) part)

    pub covers-all : (f : Faults) → Explains f new.rig → Covers l.list.shape l.list.list f
    covers-all f e = subst (λ (s : Shape). Covers s l.list.list f) (sym list.shape) (list.right.covers f e)

    -- rows are written
    in-rows : (draft : NetlistData) → (reads_design Design (old.store.contents design)).gives draft → (rest : List ℕ) → text ≡ text_of l.list ++ rest → (i : ImageValue) → IsImageForTwice l.list draft i
        → (lines : List ℕ) → rest ≡ outputs_line ++ lines → all_rows (rows_work (twice_laid draft) i (old.store.contents vectors) new.store old.rig.failures new.rig) lines next → Stands
    in-rows draft gives rest is i laid lines first at =
        let so = so-far vectors old new draft l i laid covers-all lines next at rose in
        let rows : rest ≡ output_text so.rows = first ∙ ap (λ (s : List ℕ). outputs_line ++ s) so.text_is in
        some_rows l draft so.driven so.rows more
        (record { list = record { shape = m; machine_is = read; attached = attached; is_listed = list }; design_is = gives; first = so.first })
        (wrote-as (text_of l.list ++ (output_text so.rows ++ more))
        (ap (λ (s : List ℕ). s ++ more) (is ∙ ap (λ (s : List ℕ). text_of l.list ++ s) rows) ∙ append_assoc (text_of l.list) (output_text so.rows) more))
        so.outputs so.read

  pub stands-twice : twice_course machine name design vectors (around old) (around new) text next → Stands
  stands-twice (inl h) = let s = stopped (reads_machine (old.store.contents machine)) next h.1 in refused-first s.0 h.0 s.1
  stands-twice (inr (m, read, inl h)) =
      let asked : Asked = record { shape = m; name = name } in
      let s = stopped (attaches asked old.rig new.rig) next h.1 in refused-first s.0 h.0 s.1
  stands-twice (inr (m, read, inr (u, attached, inl h))) =
      let s = stopped (reads_design Design (old.store.contents design)) next h.1 in refused-first s.0 h.0 s.1
  stands-twice (inr (m, read, inr (u, attached, inr (draft, gives, inl h)))) =
      let s = stopped (lists m old.rig.loads new.rig) next h.1 in refused-first s.0 h.0 s.1
  stands-twice (inr (m, read, inr (u, attached, inr (draft, gives, inr (l, list, inl h))))) =
      in-list m read attached l list h.0 (subst (λ (x : Next). Adds x more) h.1 adds)
  stands-twice (inr (m, read, inr (u, attached, inr (draft, gives, inr (l, list, inr (rest, is, inl h)))))) =
      let s = stopped (lays_twice l.list draft) next h.1 in behind-list m read attached l list rest is h.0 s.0 s.1
  stands-twice (inr (m, read, inr (u, attached, inr (draft, gives, inr (l, list, inr (rest, is, inr (i, laid, inl h))))))) =
      let s = stopped (loads l.loads new.rig) next h.1 in behind-list m read attached l list rest is h.0 s.0 s.1
  stands-twice (inr (m, read, inr (u, attached, inr (draft, gives, inr (l, list, inr (rest, is, inr (i, laid, inr (v, once, inl h)))))))) =
      let s = stopped (opens (old.store.contents vectors)) next h.1 in behind-list m read attached l list rest is h.0 s.0 s.1
  stands-twice (inr (m, read, inr (u, attached, inr (draft, gives, inr (l, list, inr (rest, is, inr (i, laid, inr (v, once, inr (w, opened, inl h))))))))) =
      in-line m read attached l list rest is h.0 (subst (λ (x : Next). Adds x more) h.1 adds)
  stands-twice (inr (m, read, inr (u, attached, inr (draft, gives, inr (l, list, inr (rest, is, inr (i, laid, inr (v, once, inr (w, opened, inr (lines, first, at)))))))))) =
      in-rows m read attached l list draft gives rest is i laid lines first at

-- ---- where the copies differ

module _ (machine name design vectors : List ℕ) (old new : Outside) (text : List ℕ) (wrote : Wrote old.sink.written new.sink.written (text ++ refusal_text refused.Differ)) where
  differ-at : (m : Shape) (read : (reads_machine (old.store.contents machine)).gives m) (attached : new.rig.machine.attached ≡ Some (record { shape = m; name = name }))
      (l : Listed) (list : IsListed m old.rig.loads new.rig l) (draft : NetlistData) → (reads_design Design (old.store.contents design)).gives draft → (rest : List ℕ) → text ≡ text_of l.list ++ rest
      → (i : ImageValue) → IsImageForTwice l.list draft i → (lines : List ℕ) → rest ≡ outputs_line ++ lines
      → all_rows (rows_work (twice_laid draft) i (old.store.contents vectors) new.store old.rig.failures new.rig) lines (refuses refused.Differ) → ReadDifferently machine name design vectors old new
  differ-at m read attached l list draft gives rest is i laid lines first h =
      let covers : (f : Faults) → Explains f new.rig → Covers l.list.shape l.list.list f = λ f e. subst (λ (s : Shape). Covers s l.list.list f) (sym list.shape) (list.right.covers f e) in
      let apart = h.1 in
      let rows = h.0.rows in
      let driven = h.0.vectors ++ apart.vector ∷ apart.behind in
      let wide = subst (λ (k : ℕ). AreFirst k (old.store.contents vectors) driven) laid.width apart.next in
      let size = h.0.are.read.count in
      let size_rows = repeated-count Two rows in
      let size_vectors = repeated-count Two h.0.vectors in
      let size_driven = length-append h.0.vectors (apart.vector ∷ apart.behind) in
      let written : text ≡ text_of l.list ++ output_text rows = is ∙ ap (λ (s : List ℕ). text_of l.list ++ s) (first ∙ ap (λ (s : List ℕ). outputs_line ++ s) h.0.text_is) in
      record {
        made = l;
        draft = draft;
        driven = driven;
        rows = rows;
        reading = apart.reading;
        read_behind = apart.read_behind;
        files = record { list = record { shape = m; machine_is = read; attached = attached; is_listed = list }; design_is = gives; first = wide };
        count = omega (arith, size, size_rows, size_vectors, size_driven);
        written = subst (λ (s : List ℕ). Wrote old.sink.written new.sink.written s)
            (ap (λ (s : List ℕ). s ++ refusal_text refused.Differ) written ∙ append_assoc (text_of l.list) (output_text rows) (refusal_text refused.Differ)) wrote;
        read = read-by-both l.list draft i laid driven new.rig apart.session.config apart.session.drives apart.widths covers rows
            (ap (take (length rows)) (sym apart.session.rows_are) ∙ first-taken rows (apart.reading ∷ apart.read_behind));
        readings_are = sym apart.session.rows_are;
        halves = apart.halves;
        no_false_alarm = never-alarmed l.list draft i laid driven new.rig apart.session.config apart.session.drives apart.widths covers (all_repeated Two rows) apart.read_behind apart.reading (sym apart.session.rows_are) apart.halves;
      }

  pub differ-twice : twice_course machine name design vectors (around old) (around new) text (refuses refused.Differ) → ReadDifferently machine name design vectors old new
  differ-twice (inl h) = absurd h.1
  differ-twice (inr (m, read, inl h)) = absurd h.1
  differ-twice (inr (m, read, inr (u, attached, inl h))) = absurd h.1
  differ-twice (inr (m, read, inr (u, attached, inr (draft, gives, inl h)))) = absurd h.1.0
  differ-twice (inr (m, read, inr (u, attached, inr (draft, gives, inr (l, list, inl h))))) = let line = h.1 in absurd (cc)
  differ-twice (inr (m, read, inr (u, attached, inr (draft, gives, inr (l, list, inr (rest, is, inl h)))))) = absurd h.1
  differ-twice (inr (m, read, inr (u, attached, inr (draft, gives, inr (l, list, inr (rest, is, inr (i, laid, inl h))))))) = absurd h.1.0
  differ-twice (inr (m, read, inr (u, attached, inr (draft, gives, inr (l, list, inr (rest, is, inr (i, laid, inr (v, once, inl h)))))))) = absurd h.1
  differ-twice (inr (m, read, inr (u, attached, inr (draft, gives, inr (l, list, inr (rest, is, inr (i, laid, inr (v, once, inr (w, opened, inl h))))))))) = let line = h.1 in absurd (cc)
  differ-twice (inr (m, read, inr (u, attached, inr (draft, gives, inr (l, list, inr (rest, is, inr (i, laid, inr (v, once, inr (w, opened, inr (lines, first, at)))))))))) =
      differ-at m read attached l list draft gives rest is i laid lines first at
