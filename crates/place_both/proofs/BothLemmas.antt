-- Where two designs are laid, and where they aren't.
use Rattle.std.proofs.Common.{◌≡◌, ◌≤◌, ◌⊎◌, ◌+◌, ℕ, arith, [], map, length, ◌∙◌, subst, refl, inl, inr, length-append, Result, Ok, Err, IfOk, IfErr}
use Rattle.place_both.proofs.Vocabulary.{All, Covers, Faults, DefectList, NetlistData, Network, IsRightImage, ReadsRows, joint_network}
use Rattle.place_both.proofs.Vocabulary.{AreTenants, HasPinsOf, StandApart, IsLeanFor, plain-for}
use Rattle.map_network.specs.Vocabulary.{IsPlainNetwork, HasRowsOf, plain_network}
use Rattle.machine_image.specs.Vocabulary.{ImageValue, IsImage, image_row, IsFreeImage}
use Rattle.place_pair.specs.JointNetworks as joint
use Rattle.cmd_steps.specs.Vocabulary.{Around, Outside, StepStops, IsCounted, ShortPlace, status_of, Took, IsExcused}
use Rattle.cmd_steps.specs.declared.refusal.{Refusal.Refusal, Stop.Stop, Stop.TheVariants.Refused}
use Rattle.cmd_steps.specs.declared.refusal.Refusal.TheVariants as refused
use Rattle.cmd_steps.proofs.Taking.{took-stop, took-value}
use Rattle.place_design.specs.Wants.{PlanStops}
use Rattle.place_design.proofs.Rooms.{AreDecided}
use Rattle.place_plan.specs.{declared.plan.Plan.Plan, Plans.FitsInOrder}
use Rattle.place_both.specs.{declared.networks.TwoNetworks.TwoNetworks, Smaller.AreFor, Smaller.AreLeanFor, Smaller.ArePlainFor}
use Rattle.place_both.specs.Both.{AreLean, ArePlainInOrder, BothHaveRoom, BothLackRoom, IsImageForBoth, IsNoRoomForBoth, IsRoutedForBoth, NotBothLaid, joint_of, lays_both}
use Rattle.place_both.proofs.RowsOfBoth.{both-rows}

-- ---- what is laid

module _ (d : DefectList) (first second : NetlistData) (n o : Network) (first_is : IsPlainNetwork first n) (second_is : IsPlainNetwork second o) where
  -- there is no place
  joint-stops : (stop : Stop) → PlanStops d (joint_of first second) stop → StepStops (lays_both d first second) stop
  joint-stops (Refused (refused.Room place)) stops = record { shape = stops.0; short = stops.1 }
  joint-stops (Refused refused.Memory) stops = tt
  joint-stops stop stops = absurd stops

  place-stops : (stop : Stop) → PlanStops d (joint_network n o) stop → StepStops (lays_both d first second) stop
  place-stops stop stops = joint-stops stop (rw (first_is, second_is) at stops)

-- an image of both networks is one of both designs
module _ (d : DefectList) (first second : NetlistData) (networks : TwoNetworks) (are : AreFor first second networks) (whole one other : ImageValue) (tenants : AreTenants whole one other) (first_pins : HasPinsOf networks.first one) (second_pins : HasPinsOf networks.second other) where
  inputs-are : length whole.inputs ≡ networks.first.inputs + networks.second.inputs
  inputs-are = rw (tenants.inputs, length-append one.inputs other.inputs, first_pins.inputs, second_pins.inputs) refl

  outputs-are : length whole.outputs ≡ length networks.first.outputs + length networks.second.outputs
  outputs-are = rw (tenants.outputs, length-append one.outputs other.outputs, first_pins.outputs, second_pins.outputs) refl

  pub both-image : IsImage whole → IsImage one → IsImage other → whole.config.shape ≡ d.shape → IsFreeImage d.list whole → ((f : Faults) → Covers d.shape d.list f → StandApart f whole one other) → ((netlist : NetlistData) (f : Faults) → HasRowsOf networks.first netlist → Covers d.shape d.list f → IsRightImage f one netlist) → ((netlist : NetlistData) (f : Faults) → HasRowsOf networks.second netlist → Covers d.shape d.list f → IsRightImage f other netlist) → ((f : Faults) → Covers d.shape d.list f → ReadsRows f whole (joint.AreBothRows networks.first networks.second)) → IsRoutedForBoth d first second whole → IsImageForBoth d first second whole
  both-image image one_is other_is shape free apart first_right second_right rows routed = record {
    image = image;
    shape = shape;
    inputs = rw (inputs-are, are.first_for.inputs, are.second_for.inputs) refl;
    outputs = rw (outputs-are, are.first_for.outputs, are.second_for.outputs) refl;
    free = free;
    routed = routed;
    right = λ f covers vectors reads widths run.
        both-rows networks.first networks.second first second are.first_for.rows are.second_for.rows are.first_for.inputs vectors (map (image_row whole) reads)
        (subst (λ (k : ℕ). All (λ v. length v ≡ k) vectors) inputs-are widths) (rows f covers vectors reads widths run);
    first_image = one;
    second_image = other;
    first_is = one_is;
    second_is = other_is;
    first_inputs = first_pins.inputs ∙ are.first_for.inputs;
    first_outputs = first_pins.outputs ∙ are.first_for.outputs;
    second_inputs = second_pins.inputs ∙ are.second_for.inputs;
    second_outputs = second_pins.outputs ∙ are.second_for.outputs;
    tenants = tenants;
    apart = apart;
    first_right = λ f covers. first_right first f are.first_for.rows covers;
    second_right = λ f covers. second_right second f are.second_for.rows covers;
  }

-- the plain networks of two designs
module _ (first second : NetlistData) (networks : TwoNetworks) (are : ArePlainFor first second networks) where
  pub plain-are : AreFor first second networks
  plain-are = record {
    first_for = plain-for first networks.first are.first_plain are.first_is are.first_rows;
    second_for = plain-for second networks.second are.second_plain are.second_is are.second_rows;
    few = are.few;
  }

  -- networks for the designs with no more inputs and tables can be numbered together too
  pub fewer-are : (less : TwoNetworks) → IsLeanFor first less.first → IsLeanFor second less.second → less.first.inputs ≡ networks.first.inputs → less.second.inputs ≡ networks.second.inputs → length less.first.tables ≤ length networks.first.tables → length less.second.tables ≤ length networks.second.tables → AreLeanFor first second less
  fewer-are less one other i j t u = record { first_for = one; second_for = other; few = (let a = are.few.0 in omega arith, let b = are.few.1 in omega arith) }

  -- on the plan in order of their joint network
  module _ (d : DefectList) (p : Plan) (fits : FitsInOrder d.shape d.list (joint_network networks.first networks.second) p) where
    pub plain-choice : ArePlainInOrder d first second networks.first networks.second p ⊎ AreLean d first second networks.first networks.second p
    plain-choice = inl (record { first_plain = are.first_plain; second_plain = are.second_plain; fits = fits })

    pub have-room : BothHaveRoom d first second
    have-room = (
      p,
      subst (λ (x : Network). FitsInOrder d.shape d.list (joint_network x (plain_network second)) p) are.first_plain
          (subst (λ (x : Network). FitsInOrder d.shape d.list (joint_network networks.first x) p) are.second_plain fits),
    )

-- their joint network
module _ (d : DefectList) (first second : NetlistData) (networks : TwoNetworks) (network : Network) (joint-is : network ≡ joint_network networks.first networks.second) where
  pub joint-fits : (p : Plan) → FitsInOrder d.shape d.list network p → FitsInOrder d.shape d.list (joint_network networks.first networks.second) p
  joint-fits p fits = subst (λ (x : Network). FitsInOrder d.shape d.list x p) joint-is fits

  pub joint-refused : ArePlainFor first second networks → (stop : Stop) → PlanStops d network stop → StepStops (lays_both d first second) stop
  joint-refused are stop stops = place-stops d first second networks.first networks.second are.first_plain are.second_plain stop (subst (λ (x : Network). PlanStops d x stop) joint-is stops)

-- ---- the step

module _ (d : DefectList) (first second : NetlistData) where
  both-counted : (stop : Stop) (o : Outside) → StepStops (lays_both d first second) stop → IsCounted ⊥ stop o o
  both-counted (Refused (refused.Room place)) o stops = tt
  both-counted (Refused refused.Memory) o stops = tt
  both-counted stop o stops = absurd stops

  pub both-took : (result : Result ImageValue Stop) (o : Outside) → IfOk result (lays_both d first second).gives → IfErr result (StepStops (lays_both d first second)) → Took [] (lays_both d first second) result o o
  both-took (Ok i) o found stops = took-value (lays_both d first second) i o found
  both-took (Err stop) o found stops = took-stop (lays_both d first second) stop o stops (both-counted stop o stops)

  -- ---- they have room on a list or lack it, and never both

  pub never-both-lack : AreDecided → BothHaveRoom d first second → BothLackRoom d first second → ⊥
  never-both-lack decided room lacks = decided d.shape d.list (joint_of first second) room.0 lacks.0 room.1 lacks.1

  pub never-both-refused : AreDecided → BothHaveRoom d first second → (place : ShortPlace) → IsNoRoomForBoth d first second place → ⊥
  never-both-refused decided room place none = never-both-lack decided room (place.short, none.short)

  -- where room is never refused what isn't laid is excused
  pub both-excused : (old new : Around) → ((place : ShortPlace) → IsNoRoomForBoth d first second place → ⊥) → (refusal : Refusal) → NotBothLaid d first second refusal → IsExcused refusal old new
  both-excused old new never (refused.Room place) stops = absurd (never place stops)
  both-excused old new never refused.Memory stops = tt
  both-excused old new never refusal stops = absurd stops

  pub both-short : (old new : Around) (refusal : Refusal) → NotBothLaid d first second refusal → (status_of refusal ≡ 3) ⊎ IsExcused refusal old new
  both-short old new (refused.Room place) stops = inl refl
  both-short old new refused.Memory stops = inr tt
  both-short old new refusal stops = absurd stops
