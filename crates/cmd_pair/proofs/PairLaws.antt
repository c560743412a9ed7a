-- What the command `pair` does with its words, and what it comes to.
use Rattle.std.proofs.Common.{◌≡◌, ◌⊎◌, ℕ, List, refl, inl, inr}
use Rattle.machine_shape.specs.declared.Shape.{Shape}
use Rattle.machine_defects.specs.Text.{text_of}
use Rattle.design_netlist.specs.{declared.netlist_data.NetlistData.NetlistData, Checks.IsChecked}
use Rattle.cmd_steps.specs.Vocabulary.{Around, IsLawful, ShortPlace}
use Rattle.cmd_steps.specs.declared.design_file.DesignFile.TheVariants.{First, Second}
use Rattle.diag_list.specs.Lists.{Listed, IsListed}
use Rattle.diag_list.proofs.Texts.{AreNamed}
use Rattle.place_design.proofs.Rooms.{AreDecided}
use Rattle.run_image.specs.{Laid.Laid, Runs.IfList}
use Rattle.run_image.proofs.Scripts.{Words, reads, runs, IsRight}
use Rattle.run_image.proofs.Ends.{Fits, Lacks, HasFew, run-well, run-short, run-few}
use Rattle.cmd_pair.specs.Both.{both_laid}
use Rattle.cmd_pair.specs.Pair.{pair_files, pair_job, PairFiles, ArePairTexts, HasPartsForBoth, PairRight, PairShort, PairFew}
use Rattle.place_both.specs.Both.{BothHaveRoom, IsNoRoomForBoth}
use Rattle.place_both.proofs.BothLemmas.{never-both-lack, never-both-refused, both-excused, both-short}
use Rattle.place_both.proofs.Certain.{AreNetworks, AreSure, both-certain}

module _ (machine name first second vectors : List ℕ) where
  abbrev pub words : Words
  words = record {
    machine = machine;
    name = name;
    vectors = vectors;
    script = reads First first (λ one. reads Second second (λ other. runs (both_laid one other) (λ d i is.
        record { image = is.0.image; shape = is.0.shape; shares = record { inputs = refl; outputs = refl }; inputs = is.0.inputs; free = is.0.free; right = is.0.right })));
  }

  module _ (old new : Around) where
    abbrev files : PairFiles
    files = pair_files old machine first second vectors

    -- the files are right, and this is so of what they say
    right-files : (t : ArePairTexts files) (P : Shape → Laid → Type 0) → P t.shape (both_laid t.first_draft t.second_draft)
        → IsRight words old P
    right-files t P is = record {
      machine = record { shape = t.shape; text = t.machine };
      designs = (record { draft = t.first_draft; text = t.first }, (record { draft = t.second_draft; text = t.second }, is));
    }

    few-vectors : PairFew files → IsRight words old (HasFew words old new)
    few-vectors r =
        let t = r.texts in
        right-files t (HasFew words old new) (record { file = t.vectors.bytes; is_told = t.vectors.is_told; few = r.few })

    module _ (decided : AreDecided) (front : List ℕ) where
      module _ (sure : AreSure) (networks : AreNetworks) where
        -- room on the list that stands there, or standing parts of the machine
        has-room : (m : Shape) (one other : NetlistData) → IsChecked one → IsChecked other
            → IfList m front (λ d. BothHaveRoom d one other) ⊎ HasPartsForBoth new.rig m one other
            → (l : Listed) → IsListed m old.rig.loads new.rig l → front ≡ text_of l.list
            → (place : ShortPlace) → IsNoRoomForBoth l.list one other place → ⊥
        has-room m one other one_is other_is (inl room) l list same place none =
            never-both-refused l.list one other decided (room l.list list.shape list.kept same) place none
        has-room m one other one_is other_is (inr parts) l list same place none =
            both-certain sure networks one other one_is other_is m l.list parts.faults list.shape (list.right.tight parts.faults parts.explained) parts.standing place none

        fits : PairRight files new.rig front → IsRight words old (Fits words old new front)
        fits r =
            let t = r.texts in
            right-files t (Fits words old new front) (record {
              vectors = t.vectors;
              alike = λ l list same i laid vectors rows never. never;
              room = λ l list same refusal stops.
                  let never = has-room t.shape t.first_draft t.second_draft t.first.says.checked t.second.says.checked r.room l list same in
                  both-excused l.list t.first_draft t.second_draft old new never refusal stops;
            })

      lacks-room : PairShort files front → IsRight words old (Lacks words old new front)
      lacks-room r =
          let one = r.texts.first_draft in
          let other = r.texts.second_draft in
          right-files r.texts (Lacks words old new front) (record {
            short = λ d refusal stops. both-short d one other old new refusal stops;
            never = λ l list same i laid. never-both-lack l.list one other decided laid.1 (r.room l.list list.shape list.kept same);
          })

  pub pair-lawful : AreDecided → AreSure → AreNetworks → AreNamed → IsLawful (pair_job machine name first second vectors)
  pair-lawful decided sure networks named = record {
    right = λ old new text next is.
        run-well words old new text next (λ front more eq. fits old new decided front sure networks (is front more eq));
    short = λ old new text next is.
        run-short words old new text next (λ front more eq. lacks-room old new decided front (is front more eq));
    few = λ old new few text begun. run-few words old new named (few-vectors old new few) text begun;
  }
