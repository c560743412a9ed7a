-- What such a command has done, from where its course stands.
use Rattle.std.proofs.Common.{◌≡◌, ◌∙◌, ℕ, All, List, [], ◌∷◌, ◌++◌, Bool, refl, sym, ap, subst, inl, inr, append_assoc, length, Some, Result}
use Rattle.run_image.proofs.Vocabulary.{next_count, IfTold, Wrote, Shape, Faults, Covers, text_of, ImageValue, ReadsRows, Explains}
use Rattle.run_image.proofs.Vocabulary.{cycles_of, drives_of, readings_of, Refusal, Stop, stopped, Adds, Standing, stands-done, Listed}
use Rattle.run_image.proofs.Vocabulary.{IsListed, MadeFewLoads, unloaded, few, lists, all_repeated, loads, RowsBegin, Laid, rows_work}
use Rattle.run_image.proofs.Vocabulary.{image_run, machine_listed, BeginsWithList, none, part, whole, IsWrittenWhole, UsesNothingListed}
use Rattle.run_image.proofs.Vocabulary.{IsAsRead}
use Rattle.machine_meaning.proofs.Faultless.{covers_none}
use Rattle.machine_history.specs.Vocabulary.{History, IsHistoryOf, IsRunOver}
use Rattle.machine_history.proofs.RowsOver.{clean, clean_faultless, covered_rows}
use Rattle.cmd_steps.specs.Vocabulary.{AreAll, Outside, around, Course, Next, ends, refuses, writes, IsWritten, IsMachineText, LoadsOnce, reads_machine}
use Rattle.run_image.proofs.Copied.{repeated-count}
use Rattle.run_image.proofs.CourseLemmas.{image-ends}
use Rattle.run_image.proofs.Scripts.{AreLaidOn, Words, AreRead, begin-at, run-course, run-leads}

module _ (w : Words) (old new : Outside) where
  abbrev course : Course
  course = run-course w (around old) (around new)

  abbrev HasWritten : List ℕ → Type 0
  HasWritten text = Wrote old.sink.written new.sink.written text

  wrote-as : (text other : List ℕ) → text ≡ other → HasWritten text → HasWritten other
  wrote-as text other same wrote = subst (λ (s : List ℕ). HasWritten s) same wrote

  abbrev Begins : Type 0
  Begins = BeginsWithList w.machine w.name old new

  abbrev FewMade : Type 0
  FewMade = MadeFewLoads w.machine w.name LoadsOnce (around old) (around new)

  -- nothing stands there but the line of a refusal
  refused-begins : (refusal : Refusal) (text more : List ℕ) (next : Next) → text ≡ [] → next ≡ refuses refusal → Adds next more
      → HasWritten (text ++ more) → Begins
  refused-begins refusal text more next empty is adds wrote =
      let some : Adds (refuses refusal) more = subst (λ (n : Next). Adds n more) is adds in
      none refusal some.0 (wrote-as (text ++ more) _ (ap (λ (s : List ℕ). s ++ more) empty ∙ some.1) wrote)

  -- Over a history of the machine at whose every instant the list covers the faults, if what the session has read is a run over it,
  -- the rows are those of what was laid
  abbrev pub OverHistories : Laid → Listed → ImageValue → (vectors rows : List (List Bool)) → Type 0
  OverHistories x made image vectors rows = (h : History) → IsHistoryOf made.list.shape h → ((cycle instant : ℕ) → Covers made.list.shape made.list.list (h cycle instant))
      → IsRunOver h image.config (drives_of (cycles_of new.rig)) (readings_of (cycles_of new.rig)) → x.rows vectors rows

  -- what x was run to its end
  pub record Ran (m : Shape) (x : Laid) : Type 0 where
    pub made : Listed
    pub image : ImageValue
    pub vectors : List (List Bool)
    pub rows : List (List Bool)
    pub rest : List ℕ
    pub list : IsListed m old.rig.loads new.rig made
    pub laid : (x.lays made.list).gives image
    pub machine_is : IfTold (old.store.contents w.machine) (λ bytes. IsMachineText bytes made.list.shape)
    pub stands : HasWritten (text_of made.list ++ rest)
    pub written_whole : IsWrittenWhole w.vectors made.list x.width vectors rows old new
    pub covers : (f : Faults) → Explains f new.rig → Covers made.list.shape made.list.list f
    pub uses_nothing_listed : UsesNothingListed made.list image new.rig
    pub right : (f : Faults) → Covers made.list.shape made.list.list f → ReadsRows f image x.rows
    pub widths : All (λ vector. length vector ≡ length image.inputs) (all_repeated x.copies vectors)
    pub as_read : IsAsRead image (all_repeated x.copies vectors) (all_repeated x.copies rows) new.rig
    pub outputs : (f : Faults) → Explains f new.rig → x.rows (all_repeated x.copies vectors) (all_repeated x.copies rows)
    pub over : OverHistories x made image (all_repeated x.copies vectors) (all_repeated x.copies rows)
    pub loaded : new.rig.loads ≡ next_count made.loads

  -- ---- of one that is laid

  module _ (m : Shape) (read : (reads_machine (old.store.contents w.machine)).gives m)
      (attached : new.rig.machine.attached ≡ Some (record { shape = m; name = w.name })) (files : List (List ℕ)) (x : Laid) where
    abbrev listed-course : Course
    listed-course = machine_listed x m old.rig.loads (begin-at w (around old) (around new) files) (around new)

    few-at : (text : List ℕ) (next : Next) → listed-course text next → FewMade
    few-at text next (inl h) = few m new.rig.loads read attached (stopped (lists m old.rig.loads new.rig) next h.1).2.1 (inl refl)
    few-at text next (inr (l, list, inl h)) = few m l.loads read attached list.few (inl h.2.1)
    few-at text next (inr (l, list, inr (more, is, inl h))) = few m l.loads read attached list.few (inl h.2.1)
    few-at text next (inr (l, list, inr (more, is, inr (i, gives, inl h)))) =
        few m l.loads read attached list.few (stopped (loads l.loads new.rig) next h.1).2.1
    few-at text next (inr (l, list, inr (more, is, inr (i, gives, inr (u, once, at))))) =
        few m l.loads read attached list.few (inr once)

    begins-at : (text more : List ℕ) (next : Next) → Adds next more → HasWritten (text ++ more) → listed-course text next → Begins
    begins-at text more next adds wrote (inl h) =
        let s = stopped (lists m old.rig.loads new.rig) next h.1 in
        refused-begins s.0 text more next h.0 s.1 adds wrote
    begins-at text more next adds wrote (inr (l, list, inl h)) =
        at-text (subst (λ (n : Next). Adds n more) h.1 adds) (wrote-as (text ++ more) more (ap (λ (s : List ℕ). s ++ more) h.0) wrote)
      where
        at-text : Adds (writes (text_of l.list)) more → HasWritten more → Begins
        at-text (inl (n, is)) all =
            part l n (record { shape = m; machine_is = read; attached = attached; is_listed = list }) (wrote-as more _ is all)
        at-text (inr (refusal, n, is)) all = none refusal n (wrote-as more _ is all)
    begins-at text more next adds wrote (inr (l, list, inr (rest, is, at))) =
        whole l (rest ++ more) (record { shape = m; machine_is = read; attached = attached; is_listed = list })
        (wrote-as (text ++ more) _ (ap (λ (s : List ℕ). s ++ more) is ∙ append_assoc (text_of l.list) rest more) wrote)

    -- all was done
    module _ (on : AreLaidOn x) (text : List ℕ) (wrote : HasWritten text) where
      ran : (l : Listed) → IsListed m old.rig.loads new.rig l → (rest : List ℕ) → text ≡ text_of l.list ++ rest
          → (i : ImageValue) → (x.lays l.list).gives i
          → image_run x (begin-at w (around old) (around new) files) (around new) l i rest ends → Ran m x
      ran l list rest is i gives at =
          let work = rows_work x i (old.store.contents w.vectors) new.store old.rig.failures new.rig in
          let from : RowsBegin = record { image = i; vectors = w.vectors; files = files; begun = old.store; before = l.loads } in
          let run = image-ends work from (around new) rest at in
          let has = run.rows.has in
          let o = on l.list i gives in
          let covers : (f : Faults) → Explains f new.rig → Covers l.list.shape l.list.list f = λ f e.
          subst (λ (s : Shape). Covers s l.list.list f) (sym list.shape) (list.right.covers f e) in
          record {
            made = l;
            image = i;
            vectors = has.vectors;
            rows = has.rows;
            rest = rest;
            list = list;
            laid = gives;
            machine_is = subst (λ (s : Shape). (reads_machine (old.store.contents w.machine)).gives s) (sym list.shape) read;
            stands = wrote-as text _ is wrote;
            written_whole = record {
              is_list = list.kept;
              are_all = subst (λ (k : ℕ). AreAll k (old.store.contents w.vectors) has.vectors) o.inputs run.all;
              count = sym (repeated-count x.copies has.rows) ∙ (has.are.read.count ∙ repeated-count x.copies has.vectors);
              written = wrote-as text _ (is ∙ ap (λ (s : List ℕ). text_of l.list ++ s) run.text_is) wrote;
            };
            covers = covers;
            uses_nothing_listed = record { is_image = o.image; shape = o.shape; config = run.rows.session.config; free = o.free };
            right = o.right;
            widths = has.are.read.widths;
            as_read = record { drives = run.rows.session.drives; rows_are = run.rows.session.rows_are };
            outputs = has.are.right;
            over = λ h faults covered ran_over.
                subst (λ (r : List (List Bool)). x.rows (all_repeated x.copies has.vectors) r) (sym run.rows.session.rows_are)
                (covered_rows x.rows i o.image (o.right clean (covers_none clean_faultless)) h (all_repeated x.copies has.vectors) _ has.are.read.widths
                (subst (λ ds. IsRunOver h i.config ds (readings_of (cycles_of new.rig))) run.rows.session.drives ran_over)
                l.list.list (subst (λ (s : Shape). IsHistoryOf s h) (sym o.shape) faults) o.free
                (λ cycle instant. subst (λ (s : Shape). Covers s l.list.list (h cycle instant)) (sym o.shape) (covered cycle instant)));
            loaded = run.loaded;
          }

      ran-at : listed-course text ends → Ran m x
      ran-at (inl h) = absurd h.1
      ran-at (inr (l, list, inl h)) = let line = h.1 in absurd (cc)
      ran-at (inr (l, list, inr (rest, is, inl h))) = absurd h.1
      ran-at (inr (l, list, inr (rest, is, inr (i, gives, at)))) = ran l list rest is i gives at

  -- ---- of the whole course

  -- few loads were made, and what stands written begins with a list: at the end of the program
  pub few-loads : Standing course old.sink new.sink → FewMade
  few-loads s =
      run-leads w (around old) (around new) s.text s.next FewMade (λ refusal empty is none_made why. unloaded none_made)
      (λ m files x on c. few-at m c.machine_is c.attached files x s.text s.next) s.at

  pub begins : Standing course old.sink new.sink → Begins
  begins s =
      run-leads w (around old) (around new) s.text s.next Begins
      (λ refusal empty is none_made why. refused-begins refusal s.text s.more s.next empty is s.adds s.wrote)
      (λ m files x on c. begins-at m c.machine_is c.attached files x s.text s.more s.next s.adds s.wrote) s.at

  -- or of a body
  pub begins-done : {U : Type 0} (result : Result U Stop) → IsWritten course result old.sink new.sink → Begins
  begins-done result is = begins (stands-done course old.sink new.sink result is)

  -- it has come to its end: the machine of the text is attached, and what the designs say was laid on it and run
  pub record HasDone : Type 0 where
    pub shape : Shape
    pub machine_is : (reads_machine (old.store.contents w.machine)).gives shape
    pub attached : new.rig.machine.attached ≡ Some (record { shape = shape; name = w.name })
    pub ran : AreRead old.store.contents w.script (w.machine ∷ []) (λ files x. Ran shape x)

  pub has-done : (text : List ℕ) → HasWritten text → course text ends → HasDone
  has-done text wrote =
      run-leads w (around old) (around new) text ends HasDone (λ refusal empty is none_made why. absurd (cc))
      (λ m files x on c at. record {
        shape = m;
        machine_is = c.machine_is;
        attached = c.attached;
        ran = c.whole (λ files x. Ran m x) (ran-at m c.machine_is c.attached files x on text wrote at);
      })
