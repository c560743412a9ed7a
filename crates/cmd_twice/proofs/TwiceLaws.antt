-- What the command `twice` does with its words, and what it comes to.
use Rattle.cmd_twice.proofs.Vocabulary.{◌≡◌, ◌⊎◌, ℕ, Bool, List, ◌∷◌, ◌++◌, sym, subst, inl, inr, Shape, Covers, Faults, text_of}
use Rattle.cmd_twice.proofs.Vocabulary.{NetlistData, IsChecked, ImageValue, RigState, Explains, Told, Around, IsLawful, ShortPlace, Design}
use Rattle.cmd_twice.proofs.Vocabulary.{Listed, IsListed, IsNoRoomForBoth, all_repeated, Laid, ReadsApart, Two}
use Rattle.diag_list.proofs.Texts.{AreNamed}
use Rattle.place_design.proofs.Rooms.{AreDecided}
use Rattle.place_both.proofs.BothLemmas.{never-both-lack, never-both-refused, both-excused, both-short}
use Rattle.place_both.proofs.Certain.{AreNetworks, AreSure, both-certain}
use Rattle.run_image.proofs.Scripts.{Words, reads, runs, IsRight}
use Rattle.run_image.proofs.Ends.{Fits, Lacks, HasFew, run-well, run-short, run-few}
use Rattle.cmd_twice.specs.Twice.{twice_laid, twice_files, twice_job, IsImageForTwice, TwiceFiles, AreTwiceTexts, HasPartsForTwo, HasRoomAlike, ReadsAlike, TwiceRight, TwiceShort, TwiceFew}
use Rattle.cmd_twice.proofs.Laying.{twice-on}
use Rattle.cmd_twice.proofs.Reading.{never-alarmed}

-- copies that read alike don't differ
never-apart : (told : Told) (i : ImageValue) (rig : RigState) (vectors rows : List (List Bool)) → ReadsAlike i rig → ReadsApart told i rig vectors rows → ⊥
never-apart told i rig vectors rows alike apart =
    alike (vectors ++ apart.vector ∷ apart.behind) (all_repeated Two rows) apart.read_behind apart.reading apart.session.config apart.session.drives (sym apart.session.rows_are) apart.halves

module _ (machine name design vectors : List ℕ) where
  abbrev pub words : Words
  words = record {
    machine = machine;
    name = name;
    vectors = vectors;
    script = reads Design design (λ draft. runs (twice_laid draft) (λ d i is. twice-on draft d i is));
  }

  module _ (old new : Around) where
    abbrev files : TwiceFiles
    files = twice_files old machine design vectors

    -- the files are right, and this is so of what they say
    right-files : (t : AreTwiceTexts files) (P : Shape → Laid → Type 0) → P t.shape (twice_laid t.draft) → IsRight words old P
    right-files t P is = record {
      machine = record { shape = t.shape; text = t.machine };
      designs = (record { draft = t.draft; text = t.design }, is);
    }

    few-vectors : TwiceFew files → IsRight words old (HasFew words old new)
    few-vectors r =
        let t = r.texts in
        right-files t (HasFew words old new) (record { file = t.vectors.bytes; is_told = t.vectors.is_told; few = r.few })

    module _ (decided : AreDecided) (front : List ℕ) where
      module _ (sure : AreSure) (networks : AreNetworks) (m : Shape) (draft : NetlistData) (checked : IsChecked draft) where
        -- room on the list that stands there, or standing parts of the machine
        has-room : HasRoomAlike m draft new.rig front ⊎ HasPartsForTwo new.rig m draft
            → (l : Listed) → IsListed m old.rig.loads new.rig l → front ≡ text_of l.list
            → (place : ShortPlace) → IsNoRoomForBoth l.list draft draft place → ⊥
        has-room (inl room) l list same place none =
            never-both-refused l.list draft draft decided (room.room l.list list.shape list.kept same) place none
        has-room (inr parts) l list same place none =
            both-certain sure networks draft draft checked checked m l.list parts.faults list.shape (list.right.tight parts.faults parts.explained) parts.standing place none

        -- the copies read alike, as they do where some faults explain all that was read
        has-alike : HasRoomAlike m draft new.rig front ⊎ HasPartsForTwo new.rig m draft
            → (l : Listed) → IsListed m old.rig.loads new.rig l → front ≡ text_of l.list
            → (i : ImageValue) → IsImageForTwice l.list draft i
            → (vs rows : List (List Bool)) → ReadsApart (old.store.contents vectors) i new.rig vs rows → ⊥
        has-alike (inl room) l list same i laid vs rows apart =
            never-apart (old.store.contents vectors) i new.rig vs rows (room.alike l.list list.shape list.kept same i laid) apart
        has-alike (inr parts) l list same i laid vs rows apart =
            let covers : (f : Faults) → Explains f new.rig → Covers l.list.shape l.list.list f = λ f e. subst (λ (s : Shape). Covers s l.list.list f) (sym list.shape) (list.right.covers f e) in
            never-alarmed l.list draft i laid (vs ++ apart.vector ∷ apart.behind) new.rig apart.session.config apart.session.drives apart.widths covers (all_repeated Two rows) apart.read_behind apart.reading (sym apart.session.rows_are) apart.halves parts.faults parts.explained

      fits : AreSure → AreNetworks → TwiceRight files new.rig front → IsRight words old (Fits words old new front)
      fits sure networks r =
          let t = r.texts in
          right-files t (Fits words old new front) (record {
            vectors = t.vectors;
            alike = λ l list same i laid vs rows apart. has-alike sure networks t.shape t.draft t.design.says.checked r.room l list same i laid vs rows apart;
            room = λ l list same refusal stops.
                both-excused l.list t.draft t.draft old new (has-room sure networks t.shape t.draft t.design.says.checked r.room l list same) refusal stops;
          })

      lacks-room : TwiceShort files front → IsRight words old (Lacks words old new front)
      lacks-room r =
          let draft = r.texts.draft in
          right-files r.texts (Lacks words old new front) (record {
            short = λ d refusal stops. both-short d draft draft old new refusal stops;
            never = λ l list same i laid. never-both-lack l.list draft draft decided laid.room (r.room l.list list.shape list.kept same);
          })

  pub twice-lawful : AreDecided → AreSure → AreNetworks → AreNamed → IsLawful (twice_job machine name design vectors)
  twice-lawful decided sure networks named = record {
    right = λ old new text next is.
        run-well words old new text next (λ front more eq. fits old new decided front sure networks (is front more eq));
    short = λ old new text next is.
        run-short words old new text next (λ front more eq. lacks-room old new decided front (is front more eq));
    few = λ old new few text begun. run-few words old new named (few-vectors old new few) text begun;
  }
