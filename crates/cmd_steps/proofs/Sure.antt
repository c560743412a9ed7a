-- Courses that come to such ends whatever they have written, and steps of which it is sure what they give.
use Rattle.cmd_steps.proofs.Vocabulary.{◌≡◌, ℕ, ◌≤◌, List, length, refl, subst, Told, holds, Shape, most_text, IsMachine, DefectList}
use Rattle.cmd_steps.proofs.Vocabulary.{IsText, NetlistData, IsDesign, ImageValue, IsImage, image_bytes, most_bytes, DesignFile, Refusal}
use Rattle.cmd_steps.specs.Vocabulary.{Around, Course, Next, Step, after, write, done, ends, refuses, writes, IsExcused, reads_machine, reads_defects, reads_design, reads_text, reads_image}
use Rattle.cmd_steps.proofs.Leading.{after-leads, write-leads, done-leads}
use Rattle.cmd_steps.proofs.Excused.{machine-excused, defects-excused, design-excused, image-excused}
use Rattle.cmd_steps.proofs.ShapeLemmas.{one-machine, one-list, one-design, one-text, one-image, with_text}

-- such comes next, whatever was written
pub record IsLed (next_is : Next → Type 0) (course : Course) : Type 0 where
  pub leads : (text : List ℕ) (next : Next) → course text next → next_is next

-- the step gives this alone, and refuses nothing but what is excused
pub record IsSure {T : Type 0} (step : Step T) (x : T) (old new : Around) : Type 0 where
  pub only : (y : T) → step.gives y → x ≡ y
  pub excused : (refusal : Refusal) → step.stops refusal → IsExcused refusal old new

-- what is excused is allowed to come
abbrev pub Excuses : (old new : Around) → (Next → Type 0) → Type 0
Excuses old new next_is = (refusal : Refusal) → IsExcused refusal old new → next_is (refuses refusal)

-- ---- what a course leads to

module _ {T : Type 0} {step : Step T} {here : Type 0} {rest : T → Course} {next_is : Next → Type 0} where
  pub led-after : ((refusal : Refusal) → step.stops refusal → next_is (refuses refusal)) →
      ((x : T) → step.gives x → IsLed next_is (rest x)) → IsLed next_is (after step here rest)
  led-after stops gives = record {
    leads = λ text next. after-leads step here rest (λ _. Unit {0}) next_is (λ _. stops)
        (λ x is more further _. (gives x is).leads more further) text next tt;
  }

  -- of a sure step the rest is known
  pub led-sure : {old new : Around} {x : T} → IsSure step x old new → Excuses old new next_is → IsLed next_is (rest x) →
      IsLed next_is (after step here rest)
  led-sure sure excused led =
      led-after (λ refusal stops. excused refusal (sure.excused refusal stops))
      (λ y gives. subst (λ z. IsLed next_is (rest z)) (sure.only y gives) led)

-- the line that is written last
pub led-line : {line : List ℕ} {here there : Type 0} {next_is : Next → Type 0} →
    next_is (writes line) → next_is ends → IsLed next_is (write line here (done there))
led-line {line} {here} {there} {next_is} at end = record {
  leads = λ text next. write-leads line here (done there) (λ _. Unit {0}) next_is at
      (done-leads there (λ _. Unit {0}) next_is (λ _. end)) text next tt;
}

-- ---- of right files that are read it is sure

module _ {old new : Around} {told : Told} {bytes : List ℕ} (is : told ≡ holds bytes) (within : length bytes ≤ most_bytes) where
  pub machine-sure : (m : Shape) → IsMachine bytes m.counts → IsSure (reads_machine told) m old new
  machine-sure m right = record {
    only = λ n. one-machine told bytes m n is right;
    excused = λ refusal stops. machine-excused old new bytes m.counts right within refusal (rw is at stops);
  }

  pub design-sure : (file : DesignFile) (draft : NetlistData) → IsDesign bytes draft → IsSure (reads_design file told) draft old new
  design-sure file draft right = record {
    only = λ other. one-design file told bytes draft other is right;
    excused = λ refusal stops. design-excused old new file bytes draft right within refusal (rw is at stops);
  }

  pub text-sure : (file : DesignFile) (draft : NetlistData) → IsDesign bytes draft → IsSure (reads_text file told) (with_text bytes draft) old new
  text-sure file draft right = record {
    only = λ other. one-text file told bytes draft other is right;
    excused = λ refusal stops. design-excused old new file bytes draft right within refusal (rw is at stops);
  }

  pub image-sure : (m : Shape) (i : ImageValue) → IsImage i → i.config.shape ≡ m → image_bytes i ≡ bytes →
      IsSure (reads_image told m) i old new
  image-sure m i right shape same = record {
    only = λ other. one-image told bytes m i other is shape right same;
    excused = λ refusal stops. image-excused old new bytes m i right shape same within refusal (rw is at stops);
  }

-- and of a right list, whose limit goes by the machine
pub list-sure : {old new : Around} {told : Told} {bytes : List ℕ} (d : DefectList) → told ≡ holds bytes → length bytes ≤ most_text d.shape →
    IsText d.shape bytes d → IsSure (reads_defects told d.shape) d old new
list-sure {old} {new} {told} {bytes} d is within right = record {
  only = λ other. one-list told bytes d.shape d other is refl right;
  excused = λ refusal stops. defects-excused old new bytes d.shape d right within refusal (rw is at stops);
}
