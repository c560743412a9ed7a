-- What the reader holds after a line.
use Rattle.design_flatten.specs.declared.model.Piece.{Piece, TheVariants.Names, TheVariants.Latch, TheVariants.Inst}
use Rattle.std.specs.Prelude.{ℕ, true, ◌≡◌, List, [], ◌∷◌, ◌++◌, Option, Some, None, Result, Ok, Err, drop, slice_index, option_map, map}
use Rattle.std.specs.Option.{option_or, option_to_list}
use Rattle.base_text.specs.Lines.{LogicalLine}
use Rattle.design_netlist.specs.declared.{fault.DesignKind.DesignKind, netlist_data.PortDef.PortDef, netlist_data.LatchDef.LatchDef}
use Rattle.design_blif.specs.{declared.kind.Refusal.Refusal, declared.head.Head.Head, Heads.head_of, Names.names_after, Names.numbers}
use Rattle.design_blif.specs.declared.head.Head.TheVariants as head
use Rattle.design_blif.specs.{Refusals.IsRefusedAs, Seen.Seen}
use Rattle.design_blif.specs.Parts.{nth_word, formal_of, actual_of, pairs_of, port_defs, new_sum, with_row, control_of, init_of}

pub record State : Type 0 where
  pub seen : Seen
  pub inputs : List PortDef
  pub outputs : List PortDef
  pub clocks : List (List ℕ)
  pub pieces : List Piece

-- a call gives what is said of its value where there is no fault, and else that fault, unless memory ran out
abbrev pub Steps : {A : Type 0} → Result A Refusal → Option DesignKind → (A → Type 0) → Type 0
Steps (Ok x) fault P = (fault ≡ None) × P x
Steps (Err e) fault P = IsRefusedAs fault e

-- a latch: its init is 0, 2 or 3 for a start at 0
abbrev pub new_latch : List (List ℕ) → List (List ℕ) → ℕ → LatchDef
new_latch names words line =
    let ns = numbers names (nth_word 1 words ∷ nth_word 2 words ∷ []) in
    record { from = slice_index ns 0; out = slice_index ns 1; init = init_of words; line = line }

-- the use of a model
abbrev pub new_inst : List (List ℕ) → List (List ℕ) → ℕ → Piece
new_inst names words line =
    Inst (nth_word 1 words) (pairs_of (map formal_of (drop 2 words)) (numbers names (map actual_of (drop 2 words)))) line

-- the cover whose rows went on has all of them
abbrev pub closed_pieces : State → List Piece
closed_pieces s = s.pieces ++ option_to_list (option_map Names s.seen.current)

abbrev pub closed : State → State
closed s = record s { seen = record s.seen { begun = true; current = None }; pieces = closed_pieces s }

abbrev pub after_head : State → Head → ℕ → List (List ℕ) → State
after_head s head.Model line words = closed s
after_head s head.Inputs line words =
    record s {
      seen = record s.seen { begun = true; current = None; names = names_after s.seen.names (drop 1 words) };
      pieces = closed_pieces s;
      inputs = s.inputs ++ port_defs s.seen.names (drop 1 words) line;
    }
after_head s head.Outputs line words =
    record s {
      seen = record s.seen { begun = true; current = None; names = names_after s.seen.names (drop 1 words) };
      pieces = closed_pieces s;
      outputs = s.outputs ++ port_defs s.seen.names (drop 1 words) line;
    }
after_head s head.Names line words =
    record s {
      seen = record s.seen {
        begun = true;
        current = Some (new_sum s.seen.names (drop 1 words) line);
        names = names_after s.seen.names (drop 1 words);
      };
      pieces = closed_pieces s;
    }
after_head s head.Latch line words =
    record s {
      seen = record s.seen {
        begun = true;
        current = None;
        names = names_after s.seen.names (nth_word 1 words ∷ nth_word 2 words ∷ []);
        control = option_or s.seen.control (control_of words);
      };
      pieces = closed_pieces s ++ Latch (new_latch s.seen.names words line) (control_of words) ∷ [];
    }
after_head s head.End line words =
    record s { seen = record s.seen { begun = true; current = None; ended = true }; pieces = closed_pieces s }
after_head s head.Clock line words =
    record s { seen = record s.seen { begun = true; current = None }; pieces = closed_pieces s; clocks = s.clocks ++ drop 1 words }
after_head s head.Subckt line words =
    record s {
      seen = record s.seen { begun = true; current = None; names = names_after s.seen.names (map actual_of (drop 2 words)) };
      pieces = closed_pieces s ++ new_inst s.seen.names words line ∷ [];
    }
after_head s head.LeftOut line words = s
after_head s head.Passed line words = s
after_head s head.Unknown line words = s
after_head s head.Row line words = record s { seen = record s.seen { current = option_map (λ c. with_row c words) s.seen.current } }

abbrev pub after : State → LogicalLine → State
after s l = after_head s (head_of (nth_word 0 l.words)) l.number l.words
