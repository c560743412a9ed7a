-- What the command `go` does with its words, and what it comes to.
use Rattle.std.proofs.Common.{◌⊎◌, ◌∙◌, ◌≡◌, ℕ, true, List, refl, sym, subst, inl, inr}
use Rattle.machine_shape.specs.{declared.Shape.Shape, Limits.is_small}
use Rattle.machine_meaning.specs.Vocabulary.{Faults, Defects, IsTight}
use Rattle.machine_defects.specs.Text.{text_of}
use Rattle.design_netlist.specs.{declared.netlist_data.NetlistData.NetlistData, Checks.IsChecked}
use Rattle.map_network.specs.{declared.network.Network.Network, Vocabulary.IsNetwork, Vocabulary.plain_network}
use Rattle.place_plan.specs.{declared.short.Short.Short, Vocabulary.IsShortInOrder, Vocabulary.HasStandingRoom}
use Rattle.cmd_steps.specs.Vocabulary.{ShortPlace, Around, IsLawful}
use Rattle.cmd_steps.specs.declared.design_file.DesignFile.TheVariants.{Design}
use Rattle.diag_list.specs.Lists.{Listed, IsListed}
use Rattle.diag_list.proofs.Texts.{AreNamed}
use Rattle.place_design.specs.Laying.{IsNoRoom, HasRoom}
use Rattle.place_design.proofs.Rooms.{AreDecided, never-refused, never-lacks, lay-excused, lay-short}
use Rattle.run_image.specs.{Laid.Laid, Runs.IfList}
use Rattle.run_image.proofs.Scripts.{Words, reads, runs, IsRight}
use Rattle.run_image.proofs.Ends.{Fits, Lacks, HasFew, run-well, run-short, run-few}
use Rattle.cmd_go.specs.Go.{go_files, go_job, design_laid, GoFiles, AreGoTexts, HasPartsFor, GoRight, GoShort, GoFew}

-- sound parts and a want of room on a fair list exclude each other
abbrev pub AreSure : Type 0
AreSure = (m : Shape) (d : Defects) (f : Faults) (n : Network) (s : Short) → IsNetwork n → IsTight m d f → HasStandingRoom m f n → ¬ IsShortInOrder m d n s

abbrev pub AreNetworks : Type 0
AreNetworks = (d : NetlistData) → IsChecked d → IsNetwork (plain_network d)

module _ (machine name design vectors : List ℕ) where
  abbrev pub words : Words
  words = record {
    machine = machine;
    name = name;
    vectors = vectors;
    script = reads Design design (λ draft. runs (design_laid draft) (λ d i is.
        record { image = is.0.image; shape = is.0.shape; shares = record { inputs = refl; outputs = refl }; inputs = is.0.inputs; free = is.0.free; right = is.0.right }));
  }

  module _ (old new : Around) where
    abbrev files : GoFiles
    files = go_files old machine design vectors

    -- the files are right, and this is so of what they say
    right-files : (t : AreGoTexts files) (P : Shape → Laid → Type 0) → P t.shape (design_laid t.draft) → IsRight words old P
    right-files t P is = record {
      machine = record { shape = t.shape; text = t.machine };
      designs = (record { draft = t.draft; text = t.design }, is);
    }

    few-vectors : GoFew files → IsRight words old (HasFew words old new)
    few-vectors r =
        let t = r.texts in
        right-files t (HasFew words old new) (record { file = t.vectors.bytes; is_told = t.vectors.is_told; few = r.few })

    module _ (decided : AreDecided) where
      lacks-room : (front : List ℕ) → GoShort files front → IsRight words old (Lacks words old new front)
      lacks-room front r =
          let draft = r.texts.draft in
          right-files r.texts (Lacks words old new front) (record {
            short = λ d refusal stops. lay-short d draft old new refusal stops;
            never = λ l list same i laid.
                let small = subst (λ (s : Shape). is_small s.counts ≡ true) (sym list.shape) r.small in
                never-lacks decided l.list draft (laid.1 small) (r.room l.list list.shape list.kept same);
          })

      module _ (sure : AreSure) (networks : AreNetworks) where
        -- room on the list that stands there, or standing parts of the machine
        has-room : (front : List ℕ) (m : Shape) (draft : NetlistData) → IsChecked draft
            → IfList m front (λ d. HasRoom d draft) ⊎ HasPartsFor new.rig m draft
            → (l : Listed) → IsListed m old.rig.loads new.rig l → front ≡ text_of l.list
            → (place : ShortPlace) → IsNoRoom l.list draft place → ⊥
        has-room front m draft checked (inl room) l list same place none =
            never-refused decided l.list draft (room l.list list.shape list.kept same) place none
        has-room front m draft checked (inr parts) l list same place none =
            let n = parts.network in
            let d = l.list in
            let network : IsNetwork n = subst (λ (x : Network). IsNetwork x) (sym parts.plain) (networks draft checked) in
            let short = subst (λ (x : Network). IsShortInOrder d.shape d.list x place.short) (none.plain ∙ sym parts.plain) none.short in
            sure m d.list parts.faults n place.short network (list.right.tight parts.faults parts.explained) parts.standing
            (subst (λ (s : Shape). IsShortInOrder s d.list n place.short) list.shape short)

        fits : (front : List ℕ) → GoRight files new.rig front → IsRight words old (Fits words old new front)
        fits front r =
            let t = r.texts in
            right-files t (Fits words old new front) (record {
              vectors = t.vectors;
              alike = λ l list same i laid vectors rows never. never;
              room = λ l list same refusal stops.
                  let room = has-room front t.shape t.draft t.design.says.checked r.room l list same in
                  lay-excused l.list t.draft old new room refusal stops;
            })

  pub go-lawful : AreDecided → AreSure → AreNetworks → AreNamed → IsLawful (go_job machine name design vectors)
  go-lawful decided sure networks named = record {
    right = λ old new text next is.
        run-well words old new text next (λ front more eq. fits old new decided sure networks front (is front more eq));
    short = λ old new text next is.
        run-short words old new text next (λ front more eq. lacks-room old new decided front (is front more eq));
    few = λ old new few text begun. run-few words old new named (few-vectors old new few) text begun;
  }
