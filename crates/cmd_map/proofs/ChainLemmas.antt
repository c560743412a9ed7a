-- A `compile` of what the mapper wrote.
use Rattle.cmd_map.proofs.Vocabulary.{◌≡◌, ℕ, List, sym, subst, Shape, NetlistData, HaveSameRows, CompileRight, compile_files}
use Rattle.machine_meaning.specs.Vocabulary.{Covers, Faults}
use Rattle.machine_defects.specs.Vocabulary.{DefectList, IsText}
use Rattle.machine_image.specs.Images.{ImageValue}
use Rattle.place_route.specs.RightImages.{IsRightImage}
use Rattle.cmd_steps.specs.Vocabulary.{Outside, IsMachineText, IsDefectsText, IsDesignText}
use Rattle.machine_shape.proofs.OneShape.{same-shape}
use Rattle.cmd_compile.specs.Headline.{IsCompiled}
use Rattle.cmd_map.specs.{Headline.IsFitted, Chain.HoldsText, Chain.WroteRightImage, Chain.FitsThenCompiles}

-- an image that is right for a design is right for one with the same rows
right-for : (f : Faults) (i : ImageValue) (d e : NetlistData) → HaveSameRows d e → IsRightImage f i e → IsRightImage f i d
right-for f i d e same right = λ vectors reads widths run. (same.rows vectors _).1 (right vectors reads widths run)

module _ (machine defects design name : List ℕ) (old new handed : Outside) (f : IsFitted machine defects design old new) (h : HoldsText machine defects name f.text old handed.store) where
  machine-text : IsMachineText h.machine_file f.list.shape
  machine-text = rw h.machine_told at f.machine_is

  defects-text : IsDefectsText f.list.shape h.defects_file f.list
  defects-text = rw h.defects_told at f.list_is

  all-right : CompileRight (compile_files handed.store machine defects name)
  all-right = record {
    files = record {
      list = f.list;
      draft = f.mapped;
      machine = record { bytes = h.machine_file; is_told = h.machine_again; says = machine-text.text; within = machine-text.within };
      defects = record { bytes = h.defects_file; is_told = h.defects_again; says = defects-text.text; within = defects-text.within };
      design = record {
        bytes = f.text;
        is_told = h.text_told;
        says = f.wrote.remapped.another.design;
        within = f.wrote.remapped.another.short;
      };
    };
    room = f.room;
  }

  right-image : (compiled : Outside) → IsCompiled machine defects name handed compiled → WroteRightImage f.list f.draft handed compiled
  right-image compiled c =
      let machine_read : IsMachineText h.machine_file c.list.shape = rw h.machine_again at c.machine_is in
      let shapes : f.list.shape ≡ c.list.shape = same-shape f.list.shape c.list.shape (machine_read.only f.list.shape.counts machine-text.text) in
      let list_read : IsDefectsText c.list.shape h.defects_file c.list = rw h.defects_again at c.list_is in
      let lists : f.list ≡ c.list = list_read.only f.list (subst (λ (s : Shape). IsText s h.defects_file f.list) shapes defects-text.text) in
      let design_read : IsDesignText f.text c.draft = rw h.text_told at c.design_is in
      let drafts : f.mapped ≡ c.draft = design_read.only f.mapped f.wrote.remapped.another.design in
      record {
        image = c.image;
        written = c.written;
        right = λ faults covers.
            let right : IsRightImage faults c.image c.draft = c.image_for.right faults (subst (λ (l : DefectList). Covers l.shape l.list faults) lists covers) in
            right-for faults c.image f.draft f.mapped f.wrote.remapped.another.same (subst (λ (d : NetlistData). IsRightImage faults c.image d) (sym drafts) right);
      }

  pub fits-then-compiles : FitsThenCompiles machine defects design name old new handed f
  fits-then-compiles = record { right = all-right; image = right-image }
