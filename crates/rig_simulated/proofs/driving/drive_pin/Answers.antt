use Rattle.std.proofs.Common.{◌≡◌, ◌≢◌, ◌<◌, ◌∙◌, ℕ, Bool, true, false, List, All, length, get_or, set, refl, sym, ap, subst, arith, slice_index}
use Rattle.rig_simulated.proofs.Vocabulary.{length-set, get_or-set_same, get_or-set_other, Pins, same_bits, is_low, IsDrivenBy, AreDriven}
use Rattle.rig_simulated.proofs.Tracking.{driven_anew, shown_anew}
use Rattle.rig_simulated.proofs.driving.drive_pin.Goals as goal

pub returns-then-pulled-low-clause-tracked : goal.returns-then-pulled-low-clause-tracked
returns-then-pulled-low-clause-tracked c =
    let t = c.requires.tracked in
    let pins = c.args.pins.now in
    let low : List Bool = c.args.low.now in
    let drive : Pins = c.args.kept.now.drive in
    let class : ℕ = slice_index pins c.args.pin in
    let same : is_low low class ≡ c.is_pulled-pulled.result = sym (same_bits _ _ c.if-pulled-low.true) in
    record {
      within = t.within;
      marks = t.marks;
      last = t.last;
      few = t.few;
      before = t.before;
      chained = t.chained;
      drive = ap length c.set.ensures ∙ length-set drive c.args.pin c.args.bit ∙ t.drive;
      driven = subst (λ (d : Pins). AreDriven pins d low) (sym c.set.ensures)
          (driven_anew pins drive c.args.pin c.args.bit low low c.is_pulled-pulled.result t.driven (λ r n. refl) same
          (λ e. subst (λ (d : Pins). IsDrivenBy pins d (length pins) class) c.set.ensures (c.is_pulled-pulled.ensures.yes e))
          (λ e k h q. ap (λ (d : Pins). get_or d k true) (sym c.set.ensures) ∙ c.is_pulled-pulled.ensures.no e k h q));
      shown = t.shown;
    }

pub returns-clause-tracked : goal.returns-clause-tracked
returns-clause-tracked c =
    let t = c.requires.tracked in
    let pins = c.args.pins.now in
    let low : List Bool = c.args.low.now in
    let drive : Pins = c.args.kept.now.drive in
    let class : ℕ = slice_index pins c.args.pin in
    let pulled : Bool = c.is_pulled-pulled.result in
    let in_low : class < length low = (let h = t.within c.args.pin 0 c.requires.pin in omega (arith, h, t.marks)) in
    let here : is_low (set low class pulled) class ≡ pulled = get_or-set_same low class pulled false in_low in
    let others : (r : ℕ) → r ≢ class → is_low (set low class pulled) r ≡ is_low low r = λ r n. get_or-set_other low class r pulled false n in
    record {
      within = t.within;
      marks = length-set low class pulled ∙ t.marks;
      last = t.last;
      few = t.few;
      before = t.before;
      chained = t.chained;
      drive = ap length c.set.ensures ∙ length-set drive c.args.pin c.args.bit ∙ t.drive;
      driven = subst (λ (d : Pins). AreDriven pins d (set low class pulled)) (sym c.set.ensures)
          (driven_anew pins drive c.args.pin c.args.bit low (set low class pulled) pulled t.driven others here
          (λ e. subst (λ (d : Pins). IsDrivenBy pins d (length pins) class) c.set.ensures (c.is_pulled-pulled.ensures.yes e))
          (λ e k h q. ap (λ (d : Pins). get_or d k true) (sym c.set.ensures) ∙ c.is_pulled-pulled.ensures.no e k h q));
      shown = shown_anew c.args.knots.now pins low (set low class pulled) c.args.kept.now.levels c.put_level.new.read class c.level_by-level.result t.shown c.put_level.ensures.len c.put_level.ensures.these c.put_level.ensures.others c.level_by-level.ensures others;
    }
