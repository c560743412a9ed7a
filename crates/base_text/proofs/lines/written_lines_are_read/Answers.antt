use Rattle.base_text.proofs.WrittenLemmas.{lines_back, sound_words, decimal_word}
use Rattle.base_text.proofs.lines.written_lines_are_read.Goals as goal

pub returns-clause-lines : goal.returns-clause-lines
returns-clause-lines c = lines_back 1

pub returns-clause-sound : goal.returns-clause-sound
returns-clause-sound c = sound_words

pub returns-clause-numerals : goal.returns-clause-numerals
returns-clause-numerals c = decimal_word
