-- The words of steps, and the word of a cover.
use Rattle.std.proofs.Common.{◌≡◌, ◌⊎◌, ℕ, ◌+◌, ◌%◌, ◌<◌, ◌&&◌, ◌==◌, Bool, List, length, sym, ap, subst, ◌∙◌, inl, inr, arith, get_or-set_same, get_or-set_other, not, if◌then◌else◌, slice_set}
use Rattle.design_equal.proofs.Vocabulary.{cases_eq, lane-at, Graph, Step, and_at, literal_in, node_of, label_at, signal_bits}
use Rattle.design_netlist.specs.declared.netlist_data.Cover.{Cover}
use Rattle.design_netlist.specs.Vocabulary.{truth, is_bit, lane_bits, number_at, bit_at}
use Rattle.design_netlist.proofs.ValuationLemmas.{same_truth}
use Rattle.design_equal.specs.declared.plan.{Plan.Plan, Source.TheVariants.Gate}
use Rattle.design_equal.specs.Plans.{step_node, StandsFor, IsFrom, AreAt, HaveInputs, HaveWords, IsMetIn, IsPlan}

-- the bit of a step's literal
abbrev pub local_bit : List ℕ → ℕ → ℕ → Bool
local_bit words lane local = literal_in (λ place. is_bit (number_at words place) lane) local

-- a literal of a step has the bit of what it stands for
pub stands : (steps : List Step) (words : List ℕ) (below local literal lane : ℕ) (bits : ℕ → Bool) → StandsFor steps below local literal
    → ((i : ℕ) → i < below → is_bit (number_at words i) lane ≡ bits (step_node steps i)) → local_bit words lane local ≡ literal_in bits literal
stands steps words below local literal lane bits for has =
    ap (λ m. if m == 1 then not (is_bit (number_at words (node_of local)) lane) else is_bit (number_at words (node_of local)) lane) for.sign
    ∙ ap (λ b. if literal % 2 == 1 then not b else b) (has (node_of local) for.within ∙ ap bits for.node)

pub gate_is : (g : Graph) (pins : List ℕ) (steps : List Step) (below node left right pass : ℕ) (words : List ℕ) → IsFrom g pins steps below node (Gate left right)
    → HaveWords g pins steps pass words below → (bits : ℕ → Bool) (lane : ℕ) → AreAt g pins pass lane bits
    → (local_bit words lane left && local_bit words lane right) ≡ bits node
gate_is g pins steps below node left right pass words (k, gate) have bits lane at =
    ap (λ b. b && local_bit words lane right) (stands steps words below left (and_at g k).left lane bits gate.one (have bits lane at))
    ∙ ap (λ b. literal_in bits (and_at g k).left && b) (stands steps words below right (and_at g k).right lane bits gate.other (have bits lane at))
    ∙ sym (at.valued.ands k gate.within) ∙ ap bits (sym gate.at)

-- one more step
pub more_words : (g : Graph) (pins : List ℕ) (steps : List Step) (pass : ℕ) (words : List ℕ) (k word : ℕ) → k < length words → HaveWords g pins steps pass words k
    → ((bits : ℕ → Bool) (lane : ℕ) → AreAt g pins pass lane bits → is_bit word lane ≡ bits (step_node steps k))
    → HaveWords g pins steps pass (slice_set words k word) (k + 1)
more_words g pins steps pass words k word lk have new bits lane at i li = by (cases_eq i k)
  where
    by : (i ≡ k) ⊎ (i ≡ k → ⊥) → is_bit (number_at (slice_set words k word) i) lane ≡ bits (step_node steps i)
    by (inl e) = subst (λ j. is_bit (number_at (slice_set words k word) j) lane ≡ bits (step_node steps j)) (sym e)
        (ap (λ w. is_bit w lane) (get_or-set_same words k word 0 lk) ∙ new bits lane at)
    by (inr ne) = ap (λ w. is_bit w lane) (get_or-set_other words k i word 0 ne) ∙ have bits lane at i (omega arith)

-- one more input
pub more_inputs : (g : Graph) (pins : List ℕ) (pass : ℕ) (ins labels signals : List ℕ) (k word : ℕ) → number_at ins k < length signals
    → HaveInputs g pins pass ins labels signals k
    → ((bits : ℕ → Bool) (lane : ℕ) → AreAt g pins pass lane bits → is_bit word lane ≡ literal_in bits (label_at labels (number_at ins k)))
    → HaveInputs g pins pass ins labels (slice_set signals (number_at ins k) word) (k + 1)
more_inputs g pins pass ins labels signals k word within have new bits lane at j lj = by (cases_eq (number_at ins j) (number_at ins k))
  where
    by : (number_at ins j ≡ number_at ins k) ⊎ (number_at ins j ≡ number_at ins k → ⊥)
        → is_bit (number_at (slice_set signals (number_at ins k) word) (number_at ins j)) lane ≡ literal_in bits (label_at labels (number_at ins j))
    by (inl e) = subst (λ s. is_bit (number_at (slice_set signals (number_at ins k) word) s) lane ≡ literal_in bits (label_at labels s)) (sym e)
        (ap (λ w. is_bit w lane) (get_or-set_same signals (number_at ins k) word 0 within) ∙ new bits lane at)
    by (inr ne) = ap (λ w. is_bit w lane) (get_or-set_other signals (number_at ins k) (number_at ins j) word 0 ne) ∙ have bits lane at j (earlier (cases_eq j k))
      where
        earlier : (j ≡ k) ⊎ (j ≡ k → ⊥) → j < k
        earlier (inl e) = absurd (ne (ap (number_at ins) e))
        earlier (inr far) = omega arith

-- equal words: the output's label has the cover's truth in all lanes
pub met_in : (g : Graph) (labels : List ℕ) (c : Cover) (p : Plan) (pass : ℕ) (words signals : List ℕ) (due word : ℕ) → due ≡ word → IsPlan g labels c p
    → HaveWords g p.pins.items p.steps.items pass words (length p.steps.items) → HaveInputs g p.pins.items pass c.ins labels signals (length c.ins)
    → ((lane : ℕ) → lane < 64 → is_bit due lane ≡ truth (bit_at (lane_bits signals lane)) c)
    → ((lane : ℕ) → lane < 64 → is_bit word lane ≡ local_bit words lane p.root)
    → IsMetIn g p.pins.items labels c pass
met_in g labels c p pass words signals due word e is have ins dues wordis bits lane at =
    sym (stands p.steps.items words (length p.steps.items) p.root (label_at labels c.out) lane bits is.root (have bits lane at))
    ∙ sym (wordis lane at.within) ∙ ap (λ w. is_bit w lane) (sym e) ∙ dues lane at.within
    ∙ same_truth (bit_at (lane_bits signals lane)) (signal_bits bits labels) c (λ k lk. lane-at signals lane (number_at c.ins k) ∙ ins bits lane at k lk)
