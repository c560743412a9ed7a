-- The steps of writing.
use Rattle.std.proofs.Common.{◌≡◌, ℕ, zero, suc, ◌+◌, ◌<◌, ◌≤◌, List, ◌++◌, length, take, get_or, All, sym, ap, ◌∙◌, arith, codes}
use Rattle.machine_image.proofs.Vocabulary.{flat_map, range_with_len, get_or-append, flat_map-append, Shape, pins_of, Configuration}
use Rattle.std.proofs.lemmas.List.{append_assoc, append-nil, take_more, length-append, flat_map_more, get_or-append-add}
use Rattle.machine_image.specs.Vocabulary.{counts_of, ImageValue, IsImage, two, image_bytes, head_bytes, settings_bytes}
use Rattle.machine_image.proofs.Whole.{few_apart}

-- a list over one more number
pub range_more : {X : Type 0} (f : ℕ → List X) (a n : ℕ) → flat_map f (range_with_len a (suc n)) ≡ flat_map f (range_with_len a n) ++ f (a + n)
range_more f a zero = append-nil (f a) ∙ ap f (let e : a ≡ a + 0 = omega arith in e)
range_more f a (suc n) =
    ap (λ r. f a ++ r) (range_more f (a + 1) n)
    ∙ sym (append_assoc (f a) (flat_map f (range_with_len (a + 1) n)) (f (a + 1 + n)))
    ∙ ap (λ k. (f a ++ flat_map f (range_with_len (a + 1) n)) ++ f k) (let e : a + 1 + n ≡ a + suc n = omega arith in e)

pub one_more : {X : Type 0} (f : ℕ → List X) (n j : ℕ) → j ≡ n + 1 → flat_map f (range_with_len 0 j) ≡ flat_map f (range_with_len 0 n) ++ f n
one_more f n j e = ap (λ k. flat_map f (range_with_len 0 k)) (let s : j ≡ suc n = omega (arith, e) in s) ∙ range_more f 0 n ∙ ap (λ k. flat_map f (range_with_len 0 n) ++ f k) (let s : 0 + n ≡ n = omega arith in s)

-- the pieces of one more number
pub put_piece : {X : Type 0} (put : X → List ℕ) (f : ℕ → List X) (start old new : List ℕ) (n j : ℕ) → old ≡ start ++ flat_map put (flat_map f (range_with_len 0 n)) → j ≡ n + 1 → new ≡ old ++ flat_map put (f n) →
    new ≡ start ++ flat_map put (flat_map f (range_with_len 0 j))
put_piece put f start old new n j so_far e h =
    h ∙ ap (λ r. r ++ flat_map put (f n)) so_far ∙ append_assoc start (flat_map put (flat_map f (range_with_len 0 n))) (flat_map put (f n))
    ∙ ap (λ r. start ++ r) (sym (flat_map-append put (flat_map f (range_with_len 0 n)) (f n)) ∙ ap (flat_map put) (sym (one_more f n j e)))

-- and a step that counts
pub count_step : {X : Type 0} (f : ℕ → List X) (n j c d : ℕ) → j ≡ n + 1 → c ≡ length (flat_map f (range_with_len 0 n)) → d ≡ c + length (f n) → d ≡ length (flat_map f (range_with_len 0 j))
count_step f n j c d e is h = omega (arith, h, is, ap length (one_more f n j e), length-append (flat_map f (range_with_len 0 n)) (f n))

-- a number of a list is written
pub put_next : {X : Type 0} (put : X → List ℕ) (xs : List X) (start old new : List ℕ) (i : ℕ) (d : X) → i < length xs → old ≡ start ++ flat_map put (take i xs) → new ≡ old ++ put (get_or xs i d) → new ≡ start ++ flat_map put (take (i + 1) xs)
put_next put xs start old new i d h so_far e = e ∙ ap (λ r. r ++ put (get_or xs i d)) so_far ∙ flat_map_more put start (take i xs) (get_or xs i d) ∙ ap (λ r. start ++ flat_map put r) (sym (take_more xs i d h))

-- one write behind another
pub both_put : (start mid end a b : List ℕ) → mid ≡ start ++ a → end ≡ mid ++ b → end ≡ start ++ (a ++ b)
both_put start mid end a b h k = k ∙ ap (λ r. r ++ b) h ∙ append_assoc start a b

-- the whole
pub image_written : (i : ImageValue) (g : Configuration) (m : Shape) (t : ℕ) (ins outs bytes : List ℕ) → g ≡ i.config → m ≡ g.shape → t ≡ g.ticks → ins ≡ i.inputs → outs ≡ i.outputs →
    bytes ≡ head_bytes m t (length ins) (length outs) ++ (flat_map two ins ++ (flat_map two outs ++ settings_bytes g)) → bytes ≡ image_bytes i
unfolding image_bytes
image_written i g m t ins outs bytes config shape ticks inputs outputs e =
    e
    ∙ ap (λ z. head_bytes z t (length ins) (length outs) ++ (flat_map two ins ++ (flat_map two outs ++ settings_bytes g))) (shape ∙ ap (λ c. c.shape) config)
    ∙ ap (λ z. head_bytes i.config.shape z (length ins) (length outs) ++ (flat_map two ins ++ (flat_map two outs ++ settings_bytes g))) (ticks ∙ ap (λ c. c.ticks) config)
    ∙ ap (λ z. head_bytes i.config.shape i.config.ticks (length z) (length outs) ++ (flat_map two z ++ (flat_map two outs ++ settings_bytes g))) inputs
    ∙ ap (λ z. head_bytes i.config.shape i.config.ticks (length i.inputs) (length z) ++ (flat_map two i.inputs ++ (flat_map two z ++ settings_bytes g))) outputs
    ∙ ap (λ z. head_bytes i.config.shape i.config.ticks (length i.inputs) (length i.outputs) ++ (flat_map two i.inputs ++ (flat_map two i.outputs ++ settings_bytes z))) config
    ∙ ap (λ z. head_bytes i.config.shape i.config.ticks (length i.inputs) (length i.outputs) ++ z) (sym (append_assoc (flat_map two i.inputs) (flat_map two i.outputs) (settings_bytes i.config)) ∙ ap (λ z. z ++ settings_bytes i.config) (sym (flat_map-append two i.inputs i.outputs)))
    ∙ ap (λ z. codes "TERAIMG1" ++ z) (append_assoc (flat_map two (counts_of i.config.shape)) (two i.config.ticks ++ (two (length i.inputs) ++ two (length i.outputs))) (flat_map two (i.inputs ++ i.outputs) ++ settings_bytes i.config))

-- the pins of an image
pub few_pins_in : (i : ImageValue) → IsImage i → pins_of i.config.shape ≤ 16384 → length i.inputs + length i.outputs ≤ 16384
few_pins_in i is few = omega (arith, few_apart (i.inputs ++ i.outputs) (pins_of i.config.shape) is.within is.apart, length-append i.inputs i.outputs, few)

pub small_inputs : (i : ImageValue) → IsImage i → pins_of i.config.shape ≤ 16384 → All (λ n. n < 65536) i.inputs
small_inputs i is few k d l = let h = is.within k d (omega (arith, l, length-append i.inputs i.outputs)) in let e = get_or-append i.inputs i.outputs d k l in omega (arith, h, e, few)

pub small_outputs : (i : ImageValue) → IsImage i → pins_of i.config.shape ≤ 16384 → All (λ n. n < 65536) i.outputs
small_outputs i is few k d l = let h = is.within (length i.inputs + k) d (omega (arith, l, length-append i.inputs i.outputs)) in let e = get_or-append-add i.inputs i.outputs k d in omega (arith, h, e, few)
