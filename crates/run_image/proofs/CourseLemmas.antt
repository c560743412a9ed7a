-- What the course of an image comes to, whoever's rows they are.
use Rattle.run_image.proofs.Vocabulary.{◌≡◌, ℕ, ◌≤◌, Bool, List, ◌++◌, length, None, inl, inr, subst, arith, next_count, holds, after-leads}
use Rattle.run_image.proofs.Vocabulary.{rig-excused, most_rows, RowsBegin, IsAtOutputs, image_course, loaded_course, loads}
use Rattle.cmd_steps.specs.Vocabulary.{says_at, vectors_at, AreAll, IsNearNext, outputs_line, output_text, Around, StandsIn, RowWork, Next, all_rows, HasRows, HasReadRows, IsBeforeRow, ends, refuses, writes, Leads, EndsWell}
use Rattle.cmd_steps.specs.declared.refusal.Refusal.TheVariants as refused
use Rattle.cmd_steps.proofs.OpenedLaws.{opened-well, opened-lacks, opened-ends}

-- ---- rows of which more is known

-- the same work, of which the rows are such
abbrev pub with_rows : RowWork → (are : (vectors rows : List (List Bool)) → Type 0) → RowWork
with_rows w are = record { width = w.width; told = w.told; store = w.store; are = are; session = w.session; differs = w.differs; lost = w.lost; lacks = w.lacks }

module _ (w : RowWork) (are : (vectors rows : List (List Bool)) → Type 0) (also : (vectors rows : List (List Bool)) → w.are vectors rows → are vectors rows) where
  abbrev has-also : (text : List ℕ) → HasRows w text → HasRows (with_rows w are) text
  has-also text h = record {
    vectors = h.vectors;
    rows = h.rows;
    text_is = h.text_is;
    first = h.first;
    are = also h.vectors h.rows h.are;
    prompt = h.prompt;
  }

  abbrev read-also : (text : List ℕ) → HasReadRows w text → HasReadRows (with_rows w are) text
  read-also text h = record { has = has-also text h.has; session = h.session }

  before-also : (text line : List ℕ) → IsBeforeRow w text line → IsBeforeRow (with_rows w are) text line
  before-also text line h = record {
    vectors = h.vectors;
    rows = h.rows;
    row = h.row;
    more = h.more;
    text_is = h.text_is;
    line_is = h.line_is;
    first = h.first;
    are = also h.vectors _ h.are;
    session = h.session;
    near = h.near;
    prompt = h.prompt;
  }

  all-also : (text : List ℕ) (next : Next) → all_rows w text next → all_rows (with_rows w are) text next
  all-also text ends h = (read-also text h.0, h.1)
  all-also text (writes line) h = before-also text line h
  all-also text (refuses (refused.Vectors line kind)) h = (read-also text h.0, h.1)
  all-also text (refuses refused.Store) h = (read-also text h.0, h.1)
  all-also text (refuses refused.Rig) h = (has-also text h.0, h.1)
  all-also text (refuses refused.Memory) h = (read-also text h.0, h.1, h.2)
  all-also text (refuses refused.Differ) h = (has-also text h.0, h.1, h.2)
  all-also text (refuses refusal) h = absurd h

  pub rows-also : (b : RowsBegin) (new : Around) (text : List ℕ) (next : Next) → image_course w b new text next → image_course (with_rows w are) b new text next
  rows-also b new text next (inl h) = inl h
  rows-also b new text next (inr (u, loaded, inl h)) = inr (u, loaded, inl h)
  rows-also b new text next (inr (u, loaded, inr (v, opened, inl h))) = inr (u, loaded, inr (v, opened, inl h))
  rows-also b new text next (inr (u, loaded, inr (v, opened, inr (more, is, rows)))) =
      inr (u, loaded, inr (v, opened, inr (more, is, all-also more next rows)))

-- ---- what it leads to

module _ (w : RowWork) (b : RowsBegin) where
  -- of vectors without a fault, for copies that never differ, nothing is refused but what is excused
  pub image-well : (old new : Around) (bytes : List ℕ) → w.told ≡ holds bytes → (says_at w.width bytes).fault ≡ None → ((vectors rows : List (List Bool)) → w.differs vectors rows → ⊥) → Leads (λ text. Unit {0}) (image_course w b new) (EndsWell old new)
  image-well old new bytes told none alike =
      after-leads (loads b.before new.rig) (StandsIn b.files b.begun new.store) (λ _. loaded_course w b new) (λ text. Unit {0}) (EndsWell old new)
      (λ _ refusal stops. rig-excused old new refusal stops.0)
      (λ _ _. opened-well w w.told b.vectors b.files b.begun new.store (IsAtOutputs b.image b.vectors new) old new bytes told none alike)

  -- behind the line `outputs` memory is lacking only for more rows than there was room for
  pub image-few : (new : Around) (bytes : List ℕ) → w.told ≡ holds bytes → ((count : ℕ) → w.lacks count → most_rows ≤ count) → length (vectors_at w.width bytes) ≤ most_rows → (text more : List ℕ) → text ≡ outputs_line ++ more → image_course w b new text (refuses refused.Memory) → ⊥
  image-few new bytes told most few text more begins (inl h) = let empty = h.0 in absurd (cc)
  image-few new bytes told most few text more begins (inr (u, loaded, h)) =
      let at = (opened-lacks w w.told b.vectors b.files b.begun new.store (IsAtOutputs b.image b.vectors new) text more begins h).1 in
      let next = subst (λ t. IsNearNext w.width t w.store.current (length at.0.has.rows)) told at.2 in
      let lacks = most (length at.0.has.rows) at.1 in
      absurd (omega (arith, next.0, lacks, few))

  -- a course of an image that has come to its end
  pub record HasRun (new : Around) (text : List ℕ) : Type 0 where
    pub loaded : new.rig.loads ≡ next_count b.before
    pub more : List ℕ
    pub rows : HasReadRows w more
    pub all : AreAll w.width w.told rows.has.vectors
    pub text_is : text ≡ output_text rows.has.rows

  pub image-ends : (new : Around) (text : List ℕ) → image_course w b new text ends → HasRun new text
  image-ends new text (inl h) = absurd h.1
  image-ends new text (inr (u, loaded, h)) =
      let ended = opened-ends w w.told b.vectors b.files b.begun new.store (IsAtOutputs b.image b.vectors new) text h in
      record {
        loaded = loaded;
        more = ended.more;
        rows = ended.rows;
        all = ended.all;
        text_is = ended.text_is;
      }
