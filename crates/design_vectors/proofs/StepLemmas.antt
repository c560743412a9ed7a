-- Bytes that are read one after the other, and blocks that are read one after the other.
use Rattle.std.proofs.Common.{◌≡◌, ℕ, ◌+◌, ◌<◌, ◌≤◌, List, [], ◌∷◌, ◌++◌, length, drop, get_or, refl, sym, ap, subst, ◌∙◌, arith}
use Rattle.design_vectors.proofs.Vocabulary.{drop_more, drop_all, Step, Onward, Vector, Fault, HasReadOn}
use Rattle.design_vectors.specs.Lines.{PartLine, says_on, SaysStep, IsStepTo, HasRead}

pub none-read : (bytes : List ℕ) (line : PartLine) → HasRead Onward bytes 0 line line
none-read bytes line = record { width = refl; limit = refl; within = omega arith; at = omega arith; room = λ _ some. absurd (omega arith); whole = λ same. absurd (cc); full = tt; says = λ rest. refl }

pub SaysStep-from : (step : Step) (old mid new : PartLine) (bytes later rest : List ℕ) → old.at ≤ mid.at → says_on old bytes ≡ says_on mid later → SaysStep step mid later new rest → SaysStep step old bytes new rest
SaysStep-from Onward old mid new bytes later rest from e s = e ∙ s
SaysStep-from Vector old mid new bytes later rest from e s = e ∙ s
SaysStep-from (Fault kind) old mid new bytes later rest from e s = (s.0, omega (arith, from, s.1), e ∙ s.2)

pub IsStepTo-from : (step : Step) (before from to : ℕ) → before ≡ from → IsStepTo step from to → IsStepTo step before to
IsStepTo-from Onward before from to e s = e ∙ s
IsStepTo-from Vector before from to e s = e ∙ s
IsStepTo-from (Fault kind) before from to e s = tt

-- one byte more
pub one-more : (step : Step) (bytes : List ℕ) (k b : ℕ) (old mid new : PartLine) → k < length bytes → b ≡ get_or bytes k 0 → HasRead Onward bytes k old mid → HasRead step (b ∷ []) 1 mid new → HasRead step bytes (k + 1) old new
one-more step bytes k b old mid new lt is h s = record {
  width = s.width ∙ h.width;
  limit = s.limit ∙ h.limit;
  within = omega arith;
  at = IsStepTo-from step (old.at + (k + 1)) (mid.at + 1) new.at (omega (arith, h.at)) s.at;
  room = λ same _. s.room same (omega arith);
  whole = λ same. (omega arith, (s.whole same).1);
  full = s.full;
  says = λ rest.
      SaysStep-from step old mid new (bytes ++ rest) (b ∷ (drop (k + 1) bytes ++ rest)) (drop (k + 1) bytes ++ rest) (omega (arith, h.at))
      (h.says rest ∙ ap (λ (t : List ℕ). says_on mid (t ++ rest)) (drop_more bytes k 0 lt ∙ ap (λ (x : ℕ). x ∷ drop (k + 1) bytes) (sym is)))
      (s.says (drop (k + 1) bytes ++ rest));
}

-- unread bytes that were read
pub read-on : (step : Step) (count : ℕ) (old new : PartLine) (unread left : List ℕ) → HasRead step unread count old new → (step ≡ Onward → count ≡ length unread) → left ≡ drop count unread → HasReadOn step old unread new left
read-on step count old new unread left h all is = record {
  width = h.width;
  limit = h.limit;
  count = count;
  within = h.within;
  rest = is;
  all = λ e. is ∙ drop_all count unread (omega (arith, all e));
  at = h.at;
  grows = λ e some. (let to = subst (λ (x : Step). IsStepTo x (old.at + count) new.at) e h.at in let all_of = all e in (omega arith, h.room e (omega arith)));
  whole = λ e. (let to = subst (λ (x : Step). IsStepTo x (old.at + count) new.at) e h.at in let w = h.whole e in (omega (arith, w.0, to), w.1));
  full = h.full;
  says = λ rest. rw is (h.says rest);
}
