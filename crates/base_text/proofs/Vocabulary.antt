-- What the proofs here cite of the layers below, and of the specs.
pub use Rattle.std.proofs.Common.{[], arith, drop, false, get_or, length, map, refl, sym, take, ℕ, ◌++◌, ◌+◌, ◌-◌, ◌<◌, ◌==◌, ◌∙◌, ◌≡◌, ◌≤◌}
pub use Rattle.std.proofs.Math.ListN.{length-set, set}
pub use Rattle.std.proofs.lemmas.Bool.{and_from, and_parts, cases_Bool, cases_lt, eq-eqb, eqb-true, false≢true, lt-ltb}
pub use Rattle.std.proofs.lemmas.List.{append-nil, drop-set, drop_all, nil_from_length}
pub use Rattle.std.proofs.lemmas.List.Sums.{fails_before_first, position_or_len_is}
pub use Rattle.std.specs.Fmt.{decimal}
pub use Rattle.std.specs.List.{after_first, before_first, list_any, position_or_len, suffix_len}
pub use Rattle.std.specs.Str.{all_ascii_digits}
pub use Rattle.base_text.specs.Vocabulary.{IsPlain, is_blank, line_of, read_on, words_of}
unfoldable pub use Rattle.base_text.specs.Vocabulary.{physical_lines, texts_of}
