-- For each signal the turns of the covers that read it.
use Rattle.std.specs.Prelude.{◌≡◌, ℕ, ◌+◌, ◌*◌, ◌%◌, ◌<◌, ◌≤◌, List, length}
use Rattle.std.specs.List.{Contains}
use Rattle.design_netlist.specs.{declared.netlist_data.Cover.Cover, Vocabulary.cover_at, Vocabulary.number_at}
use Rattle.design_eval.specs.declared.readers.Readers.{Readers}

-- a signal and a turn as one number
abbrev pub reader_key : ℕ → ℕ → ℕ
reader_key turn signal = signal * 65536 + turn

-- the inputs of the cover in a turn
abbrev pub ins_at : List Cover → List ℕ → ℕ → List ℕ
ins_at covers order k = (cover_at covers (number_at order k)).ins

-- there is a key for each input of the covers in the first turns
abbrev pub AreKeys : List Cover → List ℕ → ℕ → List ℕ → Type 0
AreKeys covers order count keys =
    (k i : ℕ) → k < count → i < length (ins_at covers order k) → Contains keys (reader_key k (number_at (ins_at covers order k) i))

abbrev pub AreInOrder : List ℕ → Type 0
AreInOrder keys = (i j : ℕ) → i ≤ j → j < length keys → number_at keys i ≤ number_at keys j

-- the keys before a place are of signals before this one
pub record IsFrom (keys : List ℕ) (signal place : ℕ) : Type 0 where
  pub within : place ≤ length keys
  pub sooner : (i : ℕ) → i < place → number_at keys i < signal * 65536

-- and the key there isn't
pub record Splits (keys : List ℕ) (signal place : ℕ) : Type 0 where
  pub from : IsFrom keys signal place
  pub later : place < length keys → signal * 65536 ≤ number_at keys place

-- where the keys of each signal begin
pub record AreStarts (keys : List ℕ) (count : ℕ) (starts : List ℕ) : Type 0 where
  pub len : length starts ≡ count
  pub each : (s : ℕ) → s < count → Splits keys s (number_at starts s)

-- a turn stands among the readers of a signal
pub record IsListed (r : Readers) (signal turn : ℕ) : Type 0 where
  pub place : ℕ
  pub from : number_at r.starts.items signal ≤ place
  pub to : place < number_at r.starts.items (signal + 1)
  pub is : number_at r.keys.items place % 65536 ≡ turn

-- signals are read by turns from one on, one each
abbrev pub AreListed : Readers → ℕ → List ℕ → Type 0
AreListed r first signals = (k : ℕ) → k < length signals → IsListed r (number_at signals k) (first + k)

-- there is a key for each of these signals, of turns from one on
abbrev pub HaveKeys : ℕ → List ℕ → List ℕ → Type 0
HaveKeys first signals keys = (k : ℕ) → k < length signals → Contains keys (reader_key (first + k) (number_at signals k))

-- each cover stands among the readers of its inputs
pub record AreReaders (covers : List Cover) (order : List ℕ) (signals : ℕ) (r : Readers) : Type 0 where
  pub len : length r.starts.items ≡ signals + 1
  pub ends : (s : ℕ) → s ≤ signals → number_at r.starts.items s ≤ length r.keys.items
  pub listed : (k i : ℕ) → k < length order → i < length (ins_at covers order k) → IsListed r (number_at (ins_at covers order k) i) k
