-- Reading the words of a way one by one.
use Rattle.std.proofs.Common.{◌≡◌, ℕ, ◌+◌, ◌^◌, ◌<◌, ◌≤◌, List, [], ◌∷◌, ◌++◌, length, take, drop, get_or, sym, ap, ◌∙◌, subst, arith}
use Rattle.machine_shape.proofs.Vocabulary.{length-drop, drop-drop, Level}
use Rattle.machine_shape.specs.Vocabulary.{Levels, Path, IsSpot, step, numbered, NoDot, way_text, IsRead, IsReadable}
use Rattle.machine_shape.proofs.Running.{after_first, after_first-cons}
use Rattle.machine_shape.proofs.Dotted.{IsDotAt, no_dot-numbered, not_both, dot_after}

-- where no level is left, or no letter, there is only a last word
pub ends_without_levels : (ls : Levels) (letters text : List ℕ) → length ls < 1 → IsReadable ls letters text → NoDot text
ends_without_levels (l ∷ ls) letters text h r = absurd (omega arith)
ends_without_levels [] letters text h r = at_end r.path r.spot r.named
  where
    at_end : (p : Path) → IsSpot [] p → text ≡ way_text letters p r.last → NoDot text
    at_end [] s e = subst NoDot (sym e) r.undotted
    at_end (i ∷ p) s e = elim s [ ]

pub ends_without_letters : (ls : Levels) (letters text : List ℕ) → length letters < 1 → IsReadable ls letters text → NoDot text
ends_without_letters ls (c ∷ letters) text h r = absurd (omega arith)
ends_without_letters ls [] text h r = at_end r.path r.named
  where
    at_end : (p : Path) → text ≡ way_text [] p r.last → NoDot text
    at_end [] e = subst NoDot (sym e) r.undotted
    at_end (i ∷ p) e = subst NoDot (sym e) r.undotted

-- a word and what follows it
pub record IsStep (ls : Levels) (letters text : List ℕ) (d : Level) (i : ℕ) : Type 0 where
  pub child : ℕ
  pub within : child < (get_or ls 0 d).children
  pub word : take i text ≡ numbered (get_or letters 0 0) child
  pub below : IsReadable (after_first ls) (after_first letters) (drop (i + 1) text)

pub step_of : (ls : Levels) (letters text : List ℕ) (d : Level) (i : ℕ) → 1 ≤ length ls → 1 ≤ length letters → NoDot letters → (get_or ls 0 d).children < 2 ^ 64 → IsDotAt text i → IsReadable ls letters text → IsStep ls letters text d i
step_of [] letters text d i h g dots small at r = absurd (omega arith)
step_of (l ∷ ls) [] text d i h g dots small at r = absurd (omega arith)
step_of (l ∷ ls) (c ∷ letters) text d i h g dots small at r = by_path r.path r.spot r.named
  where
    by_path : (p : Path) → IsSpot (l ∷ ls) p → text ≡ way_text (c ∷ letters) p r.last → IsStep (l ∷ ls) (c ∷ letters) text d i
    by_path [] s e = absurd (not_both text i at (subst NoDot (sym e) r.undotted))
    by_path (j ∷ p) (step b s) e =
        let a = dot_after text (numbered c j) (way_text letters p r.last) i at e (no_dot-numbered c j dots.0 (omega arith)) in
        record {
          child = j;
          within = b;
          word = a.0;
          below = subst (λ k. IsReadable k (after_first (c ∷ letters)) (drop (i + 1) text)) (sym (after_first-cons l ls))
              (subst (λ k. IsReadable ls k (drop (i + 1) text)) (sym (after_first-cons c letters)) (record { path = p; last = r.last; spot = s; undotted = r.undotted; named = a.1 }));
        }

pub read_step : (ls : Levels) (letters text : List ℕ) (d : Level) (i child last : ℕ) (p : Path) → 1 ≤ length ls → 1 ≤ length letters → IsDotAt text i →
    child < (get_or ls 0 d).children → take i text ≡ numbered (get_or letters 0 0) child → IsRead (after_first ls) (after_first letters) (drop (i + 1) text) p last → IsRead ls letters text (child ∷ p) (i + 1 + last)
read_step [] letters text d i child last p h g at b w r = absurd (omega arith)
read_step (l ∷ ls) [] text d i child last p h g at b w r = absurd (omega arith)
read_step (l ∷ ls) (c ∷ letters) text d i child last p h g at b w r =
    let q : IsRead ls letters (drop (i + 1) text) p last = subst (λ k. IsRead k letters (drop (i + 1) text) p last) (after_first-cons l ls) (subst (λ k. IsRead (after_first (l ∷ ls)) k (drop (i + 1) text) p last) (after_first-cons c letters) r) in
    let e = drop-drop last (i + 1) text in
    record {
      spot = step b q.spot;
      within = let k = q.within in let n = length-drop (i + 1) text in let a = at.within in omega arith;
      named = at.round ∙ ap (λ k. k ++ 46 ∷ drop (i + 1) text) w ∙ ap (λ k. numbered c child ++ 46 ∷ k) (q.named ∙ ap (way_text letters p) e);
      undotted = subst NoDot e q.undotted;
    }
