-- Edits one after another.
use Rattle.std.proofs.Common.{◌≡◌, ℕ, zero, suc, arith, List, [], ◌∷◌, ◌++◌, All, refl, sym, ap, ◌∙◌, subst}
use Rattle.rig_port.proofs.Vocabulary.{append-nil, append_assoc, All-append, flat_map-append, fold-append, Configuration, AreEdited}
use Rattle.rig_port.specs.Requests.{Edit, edited, edited_by, edit_text, edits_text, IsEditOf}

abbrev pub spelled : Edit → List ℕ
spelled e = edit_text e ++ 32 ∷ []

all_none : {X : Type 0} (P : X → Type 0) → All P []
all_none P k e lk = absurd (omega (arith, lk))

pub no_edit : (g : Configuration) (line : List ℕ) → AreEdited g line g line
no_edit g line = record { edits = []; right = all_none (IsEditOf g.shape); line_is = sym (append-nil line); set_is = refl }

all_one : {X : Type 0} (P : X → Type 0) (x : X) → P x → All P (x ∷ [])
all_one P x p zero e lk = p
all_one P x p (suc k) e lk = absurd (omega (arith, lk))

pub one_edit : (e : Edit) (g h : Configuration) (line more : List ℕ) → IsEditOf g.shape e → more ≡ line ++ spelled e → h ≡ edited_by g e → AreEdited g line h more
one_edit e g h line more right is set = record {
  edits = e ∷ [];
  right = all_one (IsEditOf g.shape) e right;
  line_is = is ∙ ap (λ l. line ++ l) (sym (append-nil (spelled e)));
  set_is = set;
}

pub more_edits : (g h i : Configuration) (line more most : List ℕ) → h.shape ≡ g.shape → AreEdited g line h more → AreEdited h more i most → AreEdited g line i most
more_edits g h i line more most same a b = record {
  edits = a.edits ++ b.edits;
  right = All-append (IsEditOf g.shape) a.edits b.edits a.right (subst (λ m. All (IsEditOf m) b.edits) same b.right);
  line_is = b.line_is ∙ ap (λ l. l ++ edits_text b.edits) a.line_is ∙ append_assoc line (edits_text a.edits) (edits_text b.edits)
      ∙ ap (λ l. line ++ l) (sym (flat_map-append spelled a.edits b.edits));
  set_is = b.set_is ∙ ap (λ s. edited s b.edits) a.set_is ∙ sym (fold-append edited_by g a.edits b.edits);
}
