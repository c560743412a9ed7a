-- When a line is right, by what stands above it.
use Rattle.std.specs.Prelude.{ℕ, ◌≡◌, ◌<◌, ◌≤◌, true, false, codes, List, [], ◌∷◌, Option, Some, None, length, map, drop}
use Rattle.std.specs.List.{All, list_all}
use Rattle.base_text.specs.Lines.{LogicalLine, is_bad_line}
use Rattle.design_netlist.specs.declared.netlist_data.Cover.{Cover}
use Rattle.design_blif.specs.{declared.head.Head.Head, Heads.head_of, Names.names_after, Seen.Seen, Seen.Above}
use Rattle.design_blif.specs.declared.head.Head.TheVariants as head
use Rattle.design_blif.specs.Parts.{nth_word, is_pair, actual_of, row_words, is_right_row, is_off, is_init, has_type, has_init, init_word}
use Rattle.design_blif.specs.Parts.{control_of}

-- words that are signals: none is too long, and with those above there are not too many
pub record AreSignals (names words : List (List ℕ)) : Type 0 where
  pub short : All (λ w. length w ≤ 255) words
  pub few : length (names_after names words) ≤ 65535

-- a row of a cover: it fits the inputs, and lists what the rows above list, the on-set or the off-set
pub record IsRow (c : Cover) (words : List (List ℕ)) : Type 0 where
  pub words_are : length words ≡ row_words (length c.ins)
  pub shape : is_right_row (length c.ins) words ≡ true
  pub side : 0 < length c.rows → c.off ≡ is_off (length c.ins) words
  pub few : length c.rows < 4096

-- an output, behind at most 256 inputs
pub record IsNames (names words : List (List ℕ)) : Type 0 where
  pub some : 2 ≤ length words
  pub few : length words ≤ 258
  pub signals : AreSignals names (drop 1 words)

-- the control, if there is one, is that of the latches above
abbrev pub IsSame : Option (List ℕ) → Option (List ℕ) → Type 0
IsSame None earlier = Unit {0}
IsSame (Some c) None = Unit {0}
IsSame (Some c) (Some d) = c ≡ d

-- an input and an output; maybe a type, which is the rising edge, with a control; maybe what it starts at
pub record IsLatch (seen : Seen) (words : List (List ℕ)) : Type 0 where
  pub least : 3 ≤ length words
  pub most : length words ≤ 6
  pub edge : has_type words ≡ true → nth_word 3 words ≡ codes "re"
  pub init : has_init words ≡ true → is_init (init_word words) ≡ true
  pub control : IsSame (control_of words) seen.control
  pub signals : AreSignals seen.names (nth_word 1 words ∷ nth_word 2 words ∷ [])

-- the name of a model, and formals with their actuals
pub record IsSubckt (names words : List (List ℕ)) : Type 0 where
  pub some : 2 ≤ length words
  pub pairs : list_all is_pair (drop 2 words) ≡ true
  pub signals : AreSignals names (map actual_of (drop 2 words))

-- a name that no model above has; the first model may have none
pub record IsModel (above : Above) (words : List (List ℕ)) : Type 0 where
  pub most : length words ≤ 2
  pub named : above.this.begun ≡ true → 2 ≤ length words
  pub differs : All (λ name. name ≡ nth_word 1 words → ⊥) above.models

-- what each kind of line says in a model; a row stands below a cover
abbrev pub Says : Seen → Head → List (List ℕ) → Type 0
Says seen head.Inputs words = AreSignals seen.names (drop 1 words)
Says seen head.Outputs words = AreSignals seen.names (drop 1 words)
Says seen head.Names words = IsNames seen.names words
Says seen head.Row words = (c : Cover) × (seen.current ≡ Some c) × IsRow c words
Says seen head.Latch words = IsLatch seen words
Says seen head.Subckt words = IsSubckt seen.names words
Says seen head.Clock words = Unit {0}
Says seen head.End words = length words ≡ 1
Says seen _ words = ⊥

-- a line stands in a model that goes on, but for one that begins a model, and those that are passed over
abbrev pub AreRightWords : Above → Head → List (List ℕ) → Type 0
AreRightWords above head.Model words = IsModel above words
AreRightWords above head.Passed words = Unit {0}
AreRightWords above h words = (above.this.begun ≡ true) × (above.this.ended ≡ false) × Says above.this h words

abbrev pub IsRightLine : Above → LogicalLine → Type 0
IsRightLine above l = (is_bad_line l ≡ false) × AreRightWords above (head_of (nth_word 0 l.words)) l.words
