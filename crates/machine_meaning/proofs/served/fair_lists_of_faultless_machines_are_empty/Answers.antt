use Rattle.machine_meaning.proofs.Fairness.{empty_fair}
use Rattle.machine_meaning.proofs.served.fair_lists_of_faultless_machines_are_empty.Goals as goal

pub returns-clause-served : goal.returns-clause-served
returns-clause-served c = λ m f none ample n h. (c.served_nodes_have_sound_parts.ensures m).ample f none ample n h

pub returns-clause-empty : goal.returns-clause-empty
returns-clause-empty c = λ m d f none ample fair. (c.served_nodes_have_sound_parts.ensures m).empty f d none
    (λ n h. (c.served_nodes_have_sound_parts.ensures m).ample f none ample n h) fair

pub returns-clause-fair : goal.returns-clause-fair
returns-clause-fair c = λ m d f e. empty_fair m d f e
