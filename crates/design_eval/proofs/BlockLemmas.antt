-- Vectors that are evaluated at once.
use Rattle.std.proofs.Common.{◌≡◌, ◌⊎◌, ℕ, ◌+◌, ◌<◌, ◌≤◌, Bool, List, [], ◌∷◌, length, map, replicate, refl, sym, ap, subst, ◌∙◌, inl, inr, arith}
use Rattle.design_eval.proofs.Vocabulary.{cases_lt, length-replicate, get_or-replicate, get_or_past, map-map, Cover, NetlistData, LatchDef}
use Rattle.design_eval.proofs.Vocabulary.{PortDef, cover_place, cover_signal, lane-at, no-bit}
use Rattle.design_netlist.specs.Vocabulary.{IsChecked, IsDriven, number_at, bit_at, IsSettled, is_bit, lane_bits}
use Rattle.design_eval.specs.{declared.block.Block.Block, Blocks.HaveKept, Blocks.IsBlock, Blocks.IsRowOf}
use Rattle.design_eval.proofs.RunLemmas.{signals, input-driven}

zero-word : (n s : ℕ) → number_at (replicate n 0) s ≡ 0
zero-word n s = by (cases_lt s n)
  where
    by : (s < n) ⊎ (n ≤ s) → number_at (replicate n 0) s ≡ 0
    by (inl lt) = get_or-replicate n s 0 0 lt
    by (inr ge) = get_or_past (replicate n 0) s 0 (omega (arith, ge, length-replicate {A = ℕ} n 0))

pub block-first : (d draft : NetlistData) (b : Block) (n : ℕ) → draft ≡ d → n ≡ length draft.names → b.words.items ≡ replicate n 0 → b.count ≡ 0 → IsBlock d b
block-first d draft b n e size zeros none =
    subst (λ (x : NetlistData). IsBlock x b) e (record {
      size = ap (λ (ws : List ℕ). length ws) zeros ∙ length-replicate {A = ℕ} n 0 ∙ size;
      few = omega (arith, none);
      hold = λ j lj. absurd (omega (arith, none));
      others = λ j lj s free. lane-at b.words.items j s ∙ ap (λ (ws : List ℕ). is_bit (number_at ws s) j) zeros ∙ ap (λ (w : ℕ). is_bit w j) (zero-word n s) ∙ no-bit j;
    })

module _ (d : NetlistData) (is : IsChecked d) where
  -- words that changed at inputs alone, and were settled
  pub block-filled : (old b : Block) (ins mid : List ℕ) (covers : List Cover) → ins ≡ signals d.inputs → covers ≡ d.covers → IsBlock d old → length mid ≡ length old.words.items → HaveKept ins old.words.items mid → length b.words.items ≡ length mid → ((j : ℕ) → j < 64 → IsSettled covers (bit_at (lane_bits mid j)) (bit_at (lane_bits b.words.items j))) → b.count ≤ 64 → IsBlock d b
  block-filled old b ins mid covers i e block size kept len settled few = record {
    size = len ∙ size ∙ block.size;
    few = few;
    hold = λ j lj. (at j (omega (arith, few))).truths;
    others = λ j lj s none.
        (at j lj).others s (λ k lk f. none (length d.inputs + k, cover_place d k lk, cover_signal d k lk ∙ f)) ∙
        lane-at mid j s ∙ ap (λ (w : ℕ). is_bit w j) (kept-at s none) ∙ sym (lane-at old.words.items j s) ∙
        block.others j lj s none;
  }
    where
      at : (j : ℕ) → j < 64 → IsSettled d.covers (bit_at (lane_bits mid j)) (bit_at (lane_bits b.words.items j))
      at j lj = subst (λ (cs : List Cover). IsSettled cs (bit_at (lane_bits mid j)) (bit_at (lane_bits b.words.items j))) e (settled j lj)

      kept-at : (s : ℕ) → (IsDriven d s → ⊥) → number_at mid s ≡ number_at old.words.items s
      kept-at s none = subst (λ (ss : List ℕ). HaveKept ss old.words.items mid) i kept s (λ k lk f. none (input-driven d is s k lk f))

empty-map : {A B : Type 0} (f : A → B) (xs : List A) (bs : List B) → length xs ≡ 0 → length bs ≡ length xs → map f xs ≡ bs
empty-map f [] [] e h = refl
empty-map f [] (b ∷ bs) e h = absurd (omega arith)
empty-map f (x ∷ xs) bs e h = absurd (omega arith)

-- a lane in which the inputs have the vector has its row
pub row-of-lane : (d : NetlistData) (b : Block) (j : ℕ) (ins outs : List ℕ) (vector row : List Bool) → IsBlock d b → j < b.count → length d.latches ≡ 0 → ins ≡ signals d.inputs → outs ≡ signals d.outputs → map (bit_at (lane_bits b.words.items j)) ins ≡ vector → row ≡ map (bit_at (lane_bits b.words.items j)) outs → IsRowOf d vector row
row-of-lane d b j ins outs vector row block lj latches i o v r state len = record {
  given = given;
  right = record {
    inputs = sym (map-map given (λ (p : PortDef). p.signal) d.inputs) ∙ ap (λ (ss : List ℕ). map given ss) (sym i) ∙ v;
    latches = empty-map (λ (l : LatchDef). given l.out) d.latches state latches len;
    truths = block.hold j lj;
    others = block.others j (omega (arith, block.few));
  };
  outputs = r ∙ ap (λ (ss : List ℕ). map given ss) o ∙ map-map given (λ (p : PortDef). p.signal) d.outputs;
  next = ap (λ (t : List Bool). record { netlist = d; state = t }) (sym (empty-map (λ (l : LatchDef). given l.from) d.latches state latches len));
}
  where
    given : ℕ → Bool
    given = bit_at (lane_bits b.words.items j)
