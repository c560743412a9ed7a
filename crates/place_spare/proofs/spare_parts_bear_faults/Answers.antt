use Rattle.place_spare.proofs.Leaving.{sound-parts}
use Rattle.place_spare.proofs.spare_parts_bear_faults.Goals as goal

pub returns-clause-sound : goal.returns-clause-sound
returns-clause-sound c = λ m f n k few spare.
    let numbers = c.the_numbering_is_sound.ensures in
    sound-parts m f k few (numbers.numbered m) (numbers.meanings m) (numbers.parents m) (c.ports_and_lines_ascend.ensures m) n spare

pub returns-clause-standing : goal.returns-clause-standing
returns-clause-standing c = λ m f n k few spare.
    let numbers = c.the_numbering_is_sound.ensures in
    c.standing_parts_are_room.ensures.served m f n
    (sound-parts m f k few (numbers.numbered m) (numbers.meanings m) (numbers.parents m) (c.ports_and_lines_ascend.ensures m) n spare)

pub returns-clause-room : goal.returns-clause-room
returns-clause-room c = λ m d f n k s network tight few spare.
    let numbers = c.the_numbering_is_sound.ensures in
    let room = c.standing_parts_are_room.ensures in
    room.room m d f n s network tight (room.served m f n
    (sound-parts m f k few (numbers.numbered m) (numbers.meanings m) (numbers.parents m) (c.ports_and_lines_ascend.ensures m) n spare))
