-- A right text is of one machine, one list, one design and one image.
use Rattle.cmd_steps.proofs.Vocabulary.{◌≡◌, ◌∙◌, ℕ, List, ap, sym, subst, Told, holds, Shape, IsMachine, DefectList, IsText, NetlistData}
use Rattle.cmd_steps.proofs.Vocabulary.{IsDesign, ImageValue, IsImage, Reads, image_bytes, DesignFile}
use Rattle.machine_shape.proofs.OneShape.{same-shape}
use Rattle.cmd_steps.specs.Texts.{reads_machine, reads_defects, reads_design, reads_text, reads_image, IsMachineText, IsDefectsText, IsDesignText}
use Rattle.cmd_steps.specs.declared.design.DesignText.{DesignText}

pub one-machine : (told : Told) (bytes : List ℕ) (m n : Shape) → told ≡ holds bytes → IsMachine bytes m.counts → (reads_machine told).gives n → m ≡ n
one-machine told bytes m n is right gives =
    let text : IsMachineText bytes n = rw is at gives in
    same-shape m n (text.only m.counts right)

pub one-design : (file : DesignFile) (told : Told) (bytes : List ℕ) (draft other : NetlistData) → told ≡ holds bytes → IsDesign bytes draft → (reads_design file told).gives other → draft ≡ other
one-design file told bytes draft other is right gives =
    let text : IsDesignText bytes other = rw is at gives in
    text.only draft right

abbrev pub with_text : List ℕ → NetlistData → DesignText
with_text text draft = record { text = text; netlist = draft }

pub one-text : (file : DesignFile) (told : Told) (bytes : List ℕ) (draft : NetlistData) (other : DesignText) → told ≡ holds bytes → IsDesign bytes draft → (reads_text file told).gives other → with_text bytes draft ≡ other
one-text file told bytes draft other is right gives =
    let same : other.text ≡ bytes = rw is at gives.file in
    let text : IsDesignText bytes other.netlist = subst (λ t. IsDesignText t other.netlist) same gives.design in
    ap (λ (d : NetlistData). with_text bytes d) (text.only draft right) ∙ ap (λ t. with_text t other.netlist) (sym same)

pub one-list : (told : Told) (bytes : List ℕ) (m : Shape) (d other : DefectList) → told ≡ holds bytes → d.shape ≡ m → IsText d.shape bytes d → (reads_defects told m).gives other → d ≡ other
one-list told bytes m d other is shape right gives =
    let text : IsDefectsText m bytes other = rw is at gives.1 in
    text.only d (subst (λ (s : Shape). IsText s bytes d) shape right)

pub one-image : (told : Told) (bytes : List ℕ) (m : Shape) (i other : ImageValue) → told ≡ holds bytes → i.config.shape ≡ m → IsImage i → image_bytes i ≡ bytes → (reads_image told m).gives other → i ≡ other
one-image told bytes m i other is shape right same gives =
    let text : Reads m bytes other = rw is at gives.2 in
    text.only i right shape same
