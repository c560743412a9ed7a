-- A design has room on a list or lacks it, and never both.
use Rattle.place_design.proofs.Vocabulary.{◌≡◌, ◌⊎◌, ◌∙◌, sym, subst, refl, inl, inr, Shape, Defects, DefectList, NetlistData, Network}
use Rattle.place_design.proofs.Vocabulary.{IsPlainNetwork, Plan, Short, FitsInOrder, IsShortInOrder, HasRoom, LacksRoom, IsNoRoom, NotLaid}
use Rattle.cmd_steps.specs.Vocabulary.{ShortPlace, Around, status_of, IsExcused}
use Rattle.cmd_steps.specs.declared.refusal.Refusal.{Refusal}
use Rattle.cmd_steps.specs.declared.refusal.Refusal.TheVariants as refused

-- a plan and a want of room exclude each other
abbrev pub AreDecided : Type 0
AreDecided = (m : Shape) (d : Defects) (n : Network) (p : Plan) (s : Short) → FitsInOrder m d n p → ¬ IsShortInOrder m d n s

-- a design has one plain network
pub one-network : (draft : NetlistData) (n k : Network) → IsPlainNetwork draft n → IsPlainNetwork draft k → n ≡ k
one-network draft n k first second = first ∙ sym second

module _ (decided : AreDecided) (d : DefectList) (draft : NetlistData) where
  never-both : (room : HasRoom d draft) (k : Network) (s : Short) → IsPlainNetwork draft k → IsShortInOrder d.shape d.list k s → ⊥
  never-both room k s plain short =
      let same = one-network draft room.network k room.plain plain in
      decided d.shape d.list k room.plan s (subst (λ (x : Network). FitsInOrder d.shape d.list x room.plan) same room.fits) short

  pub never-lacks : HasRoom d draft → LacksRoom d draft → ⊥
  never-lacks room lacks = never-both room lacks.network lacks.short lacks.plain lacks.is_short

  pub never-refused : HasRoom d draft → (place : ShortPlace) → IsNoRoom d draft place → ⊥
  never-refused room place none = never-both room none.network place.short none.plain none.short

-- where room is never refused a design that isn't laid is excused
pub lay-excused : (d : DefectList) (draft : NetlistData) (old new : Around) → ((place : ShortPlace) → IsNoRoom d draft place → ⊥) → (refusal : Refusal) → NotLaid d draft refusal → IsExcused refusal old new
lay-excused d draft old new never (refused.Room place) stops = absurd (never place stops)
lay-excused d draft old new never refused.Memory stops = tt
lay-excused d draft old new never refusal stops = absurd stops

-- and otherwise the status is that of want of room
pub lay-short : (d : DefectList) (draft : NetlistData) (old new : Around) (refusal : Refusal) → NotLaid d draft refusal → (status_of refusal ≡ 3) ⊎ IsExcused refusal old new
lay-short d draft old new (refused.Room place) stops = inl refl
lay-short d draft old new refused.Memory stops = inr tt
lay-short d draft old new refusal stops = absurd stops
