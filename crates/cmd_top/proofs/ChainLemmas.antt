-- What calls that follow one another come to.
use Rattle.std.proofs.Common.{◌≡◌, ◌∙◌, ℕ, List, Some, refl, sym, subst}
use Rattle.machine_shape.specs.declared.Shape.{Shape}
use Rattle.machine_meaning.specs.Vocabulary.{Covers}
use Rattle.machine_defects.specs.Vocabulary.{DefectList, IsText, text_of}
use Rattle.design_netlist.specs.Rows.{AreRows}
use Rattle.machine_image.specs.Images.{ImageValue, Reads, image_bytes}
use Rattle.machine_history.specs.Vocabulary.{IsRunOver, LeavesAlone}
use Rattle.machine_history.proofs.Images.{always_alone}
use Rattle.machine_history.proofs.Leaving.{fewer_alone}
use Rattle.place_route.specs.RightImages.{IsRightImage}
use Rattle.rig.specs.Rig.{cycles_of, readings_of}
use Rattle.cmd_steps.specs.Vocabulary.{Outside, IsMachineText, IsDefectsText}
use Rattle.machine_shape.proofs.OneShape.{same-shape}
use Rattle.diag_check.specs.Soundly.{IsSoundUnder}
use Rattle.run_image.specs.Rows.{AreRunRows}
use Rattle.cmd_check.specs.{Answers.IsTrueUnder, declared.answer.Answer.Answer}
use Rattle.cmd_top.specs.Chain.{RunsTheDesign, RunsOnItsMachine, IsCertified}

module _ (machine defects design name image vectors : List ℕ) (old compiled handed ran : Outside) where
  pub runs-the-design : RunsTheDesign machine defects design name image vectors old compiled handed ran
  runs-the-design c r h f e covers =
      let first : IsMachineText h.machine_file c.list.shape = rw h.machine_told at c.machine_is in
      let again : IsMachineText h.machine_file r.shape = rw h.machine_again at r.machine_is in
      let shapes : c.list.shape ≡ r.shape = same-shape c.list.shape r.shape (again.only c.list.shape.counts first.text) in
      let wrote : compiled.sink.written ≡ Some (image_bytes c.image) = rw h.empty at c.written in
      let bytes : image_bytes c.image ≡ h.bytes = cc in
      let reads : Reads r.shape h.bytes r.loaded = rw h.told at r.image_is in
      let same : c.image ≡ r.loaded = reads.only c.image c.image_for.image (c.image_for.shape ∙ shapes) bytes in
      let right : IsRightImage f r.loaded c.draft = subst (λ (i : ImageValue). IsRightImage f i c.draft) same (c.image_for.right f covers) in
      let rows : AreRunRows f r.loaded r.all_vectors r.rows = r.rows_right.read f e in
      subst (λ t. AreRows c.draft r.all_vectors t) (sym rows.2) (right r.all_vectors rows.0 r.rows_right.widths rows.1)

module _ (machine name defects design other image vectors : List ℕ) (old diagnosed listed compiled handed ran : Outside) where
  pub runs-on-its-machine : RunsOnItsMachine machine name defects design other image vectors old diagnosed listed compiled handed ran
  runs-on-its-machine d c r h k f was is =
      let l : DefectList = d.made.list in
      let first : IsMachineText h.machine_file d.shape = rw h.machine_told at d.machine_is in
      let again : IsMachineText h.machine_file c.list.shape = rw h.machine_again at c.machine_is in
      let shapes : d.shape ≡ c.list.shape = same-shape d.shape c.list.shape (again.only d.shape.counts first.text) in
      let wrote : diagnosed.sink.written ≡ Some (text_of l) = rw h.empty at d.written in
      let bytes : h.bytes ≡ text_of l = cc in
      let text : IsText c.list.shape h.bytes l = record { shape = d.is_listed.shape ∙ shapes; right = d.is_listed.kept; spelled = bytes } in
      let read : IsDefectsText c.list.shape h.bytes c.list = rw h.told at c.list_is in
      let same : l ≡ c.list = read.only l text in
      let covers : Covers l.shape l.list f = subst (λ (s : Shape). Covers s l.list f) (sym d.is_listed.shape) (d.is_listed.right.covers f was) in
      runs-the-design machine defects design other image vectors listed compiled handed ran c r k f is (subst (λ (x : DefectList). Covers x.shape x.list f) same covers)

module _ (machine name image vectors other : List ℕ) (old ran later checked : Outside) where
  pub is-certified : IsCertified machine name image vectors other old ran later checked
  is-certified r c sound h f e hist among ran_over none alone faultless run =
      let first : IsMachineText h.machine_file r.shape = rw h.machine_told at r.machine_is in
      let again : IsMachineText h.machine_file c.shape = rw h.machine_again at c.machine_is in
      let shapes : c.shape ≡ r.shape = same-shape c.shape r.shape (first.only c.shape.counts again.text) in
      let read : Reads r.shape h.image_file r.loaded = rw h.image_told at r.image_is in
      let read_again : Reads c.shape h.image_file c.given = rw h.image_again at c.image_is in
      let same : c.given ≡ r.loaded = read.only c.given c.is_image (c.image_of ∙ shapes) read_again.text in
      let good : IsSoundUnder f c.given = subst (λ (a : Answer). IsTrueUnder f c.given a) sound (c.right f e) in
      let left : LeavesAlone f r.loaded r.loaded = subst (λ (i : ImageValue). LeavesAlone f i i) same good.alone in
      r.rows_are ∙ always_alone r.loaded r.is_image hist none faultless (λ cycle instant. fewer_alone (hist cycle instant) f (among cycle instant) r.loaded r.loaded left)
      r.all_vectors (readings_of (cycles_of ran.rig)) alone (subst (λ ds. IsRunOver hist r.loaded.config ds (readings_of (cycles_of ran.rig))) r.drives ran_over) run
