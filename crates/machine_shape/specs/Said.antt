-- What the code says of a wire.
use Rattle.machine_shape.specs.declared.Meaning.{Meaning as Said}
use Rattle.machine_shape.specs.declared.Meaning.TheVariants.{Pin as SaidPin, Line as SaidLine, Port as SaidPort, TablePin as SaidTablePin}
use Rattle.machine_shape.specs.Shape.{Meaning, Pin, Line, Port, TablePin}

abbrev pub meaning_of : Said → Meaning
meaning_of (SaidPin position) = Pin position
meaning_of (SaidLine node position) = Line node.0 position
meaning_of (SaidPort node position) = Port node.0 position
meaning_of (SaidTablePin table pin) = TablePin table.0 pin
