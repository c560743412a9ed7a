-- What was read before a reply.
use Rattle.std.proofs.Common.{◌≡◌, ◌⊎◌, inl, inr, ℕ, ◌+◌, ◌-◌, ◌^◌, ◌≤◌, min, Bool, true, false, List, [], ◌++◌, length, Option, None, Some, refl, sym, ap, ◌∙◌, arith, subst, Result, Ok, Err, IfOk}
use Rattle.rig_port.proofs.Vocabulary.{append_assoc, length-append, Consumes, AsksWhatItIs, HasHeard}

-- so far these bytes were read and dropped
pub record HasDropped (was_cut is_cut : Bool) (request : List ℕ) (old new : Option (List ℕ)) (count : ℕ) : Type 0 where
  pub dropped : List ℕ
  pub read : Consumes old new dropped
  pub many : length dropped ≤ count
  pub few : count ≤ 1048576
  pub why : ((dropped ≡ []) × (is_cut ≡ was_cut)) ⊎ ((was_cut ≡ true) ⊎ AsksWhatItIs request)

consumed_more : (a b c : Option (List ℕ)) (xs ys : List ℕ) → Consumes a b xs → Consumes b c ys → Consumes a c (xs ++ ys)
consumed_more None b c xs ys p q = tt
consumed_more (Some l) None c xs ys p q = absurd p
consumed_more (Some l) (Some m) None xs ys p q = absurd q
consumed_more (Some l) (Some m) (Some n) xs ys p q = p ∙ ap (λ t. xs ++ t) q ∙ sym (append_assoc xs ys n)

consumed_none : (a : Option (List ℕ)) → Consumes a a []
consumed_none None = tt
consumed_none (Some l) = refl

pub nothing_dropped : (was_cut : Bool) (request : List ℕ) (known : Option (List ℕ)) → HasDropped was_cut was_cut request known known 0
nothing_dropped was_cut request known = record { dropped = []; read = consumed_none known; many = omega arith; few = omega arith; why = inl (refl, refl) }

-- a line that begins isn't the first one that began unless something was dropped for a reason
why_more : (was_cut is_cut : Bool) (request dropped : List ℕ) → ((dropped ≡ []) × (is_cut ≡ was_cut)) ⊎ ((was_cut ≡ true) ⊎ AsksWhatItIs request)
    → (is_cut ≡ true) ⊎ AsksWhatItIs request → (was_cut ≡ true) ⊎ AsksWhatItIs request
why_more was_cut is_cut request dropped (inr w) r = w
why_more was_cut is_cut request dropped (inl s) (inl cut) = inl (sym s.1 ∙ cut)
why_more was_cut is_cut request dropped (inl s) (inr asks) = inr asks

pub dropped_more : (was_cut is_cut cut_now : Bool) (request : List ℕ) (a b c : Option (List ℕ)) (count total : ℕ) (piece : List ℕ) (more : ℕ) → HasDropped was_cut is_cut request a b count → Consumes b c piece
    → length piece ≤ more → total ≡ min (count + more) (2 ^ 64 - 1) → total ≤ 1048576 → (is_cut ≡ true) ⊎ AsksWhatItIs request → HasDropped was_cut cut_now request a c total
dropped_more was_cut is_cut cut_now request a b c count total piece more d q short sum small reason = record {
  dropped = d.dropped ++ piece;
  read = consumed_more a b c d.dropped piece d.read q;
  many = omega (arith, length-append d.dropped piece, d.many, short, sum, small);
  few = small;
  why = inr (why_more was_cut is_cut request d.dropped d.why reason);
}

pub heard : (was_cut is_cut : Bool) (request : List ℕ) (a b c : Option (List ℕ)) (count : ℕ) (line : List ℕ) → HasDropped was_cut is_cut request a b count → Consumes b c line
    → HasHeard was_cut request a c line
heard was_cut is_cut request a b c count line d q = record {
  dropped = d.dropped;
  read = consumed_more a b c d.dropped line d.read q;
  few = omega (arith, d.many, d.few);
  why = why_of d.why;
} where
  why_of : ((d.dropped ≡ []) × (is_cut ≡ was_cut)) ⊎ ((was_cut ≡ true) ⊎ AsksWhatItIs request) → (d.dropped ≡ []) ⊎ ((was_cut ≡ true) ⊎ AsksWhatItIs request)
  why_of (inl s) = inl s.0
  why_of (inr w) = inr w

-- a line that is whole
pub where_whole : {E : Type 0} (r : Result ℕ E) (count : ℕ) (is_cut : Bool) (P : ℕ → Type 0) → IfOk r (λ n. (n ≡ count) × (is_cut ≡ false)) → (is_cut ≡ false → P count) → IfOk r P
where_whole (Ok n) count is_cut P is p = subst P (sym is.0) (p is.1)
where_whole (Err e) count is_cut P is p = tt
