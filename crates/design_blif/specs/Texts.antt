-- What the reader of a text holds, as plain lists.
use Rattle.design_blif.specs.{declared.text.TextReader.TextReader, States.state_of, Runs.TextState}

abbrev pub text_of : TextReader → TextState
text_of t = record { done = t.done.items; models = t.models; name = t.name.now; this = state_of t.this }
