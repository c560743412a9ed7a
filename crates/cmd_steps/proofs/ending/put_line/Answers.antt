use Rattle.cmd_steps.proofs.ending.put_line.Goals as goal

pub returns-in-Machine-clause-wrote : goal.returns-in-Machine-clause-wrote
returns-in-Machine-clause-wrote g c = rw (c.in-Machine.is, ← c.word_of_machine.ensures.word) c.put_text.ensures.wrote

pub returns-in-Machine-clause-refused : goal.returns-in-Machine-clause-refused
returns-in-Machine-clause-refused g c = rw (c.in-Machine.is, ← c.word_of_machine.ensures.word) c.put_text.ensures.refused

pub returns-in-Faults-clause-wrote : goal.returns-in-Faults-clause-wrote
returns-in-Faults-clause-wrote g c = rw (c.in-Faults.is, ← c.word_of_faults.ensures.word) c.put_text-in-Faults.ensures.wrote

pub returns-in-Faults-clause-refused : goal.returns-in-Faults-clause-refused
returns-in-Faults-clause-refused g c = rw (c.in-Faults.is, ← c.word_of_faults.ensures.word) c.put_text-in-Faults.ensures.refused

pub returns-in-Defects-clause-wrote : goal.returns-in-Defects-clause-wrote
returns-in-Defects-clause-wrote g c = rw (c.in-Defects.is, ← c.word_of_defects.ensures.word) c.put_text-in-Defects.ensures.wrote

pub returns-in-Defects-clause-refused : goal.returns-in-Defects-clause-refused
returns-in-Defects-clause-refused g c = rw (c.in-Defects.is, ← c.word_of_defects.ensures.word) c.put_text-in-Defects.ensures.refused

pub returns-in-Image-clause-wrote : goal.returns-in-Image-clause-wrote
returns-in-Image-clause-wrote g c = rw (c.in-Image.is, ← c.word_of_image.ensures.word) c.put_text-in-Image.ensures.wrote

pub returns-in-Image-clause-refused : goal.returns-in-Image-clause-refused
returns-in-Image-clause-refused g c = rw (c.in-Image.is, ← c.word_of_image.ensures.word) c.put_text-in-Image.ensures.refused

pub returns-in-Vectors-clause-wrote : goal.returns-in-Vectors-clause-wrote
returns-in-Vectors-clause-wrote g c = rw (c.in-Vectors.is, ← c.word_of_vectors.ensures.word) c.put_text-in-Vectors.ensures.wrote

pub returns-in-Vectors-clause-refused : goal.returns-in-Vectors-clause-refused
returns-in-Vectors-clause-refused g c = rw (c.in-Vectors.is, ← c.word_of_vectors.ensures.word) c.put_text-in-Vectors.ensures.refused

pub returns-in-Room-clause-wrote : goal.returns-in-Room-clause-wrote
returns-in-Room-clause-wrote g c = rw (c.in-Room.is, ← c.text-in-Room.ensures) c.put-in-Room.ensures.wrote

pub returns-in-Rig-clause-wrote : goal.returns-in-Rig-clause-wrote
returns-in-Rig-clause-wrote g c = rw c.in-Rig.is c.put-in-Rig.ensures.wrote

pub returns-in-Rig-clause-refused : goal.returns-in-Rig-clause-refused
returns-in-Rig-clause-refused g c = rw c.in-Rig.is c.put-in-Rig.ensures.refused

pub returns-in-Store-clause-wrote : goal.returns-in-Store-clause-wrote
returns-in-Store-clause-wrote g c = rw c.in-Store.is c.put-in-Store.ensures.wrote

pub returns-in-Store-clause-refused : goal.returns-in-Store-clause-refused
returns-in-Store-clause-refused g c = rw c.in-Store.is c.put-in-Store.ensures.refused

pub returns-in-Memory-clause-wrote : goal.returns-in-Memory-clause-wrote
returns-in-Memory-clause-wrote g c = rw c.in-Memory.is c.put-in-Memory.ensures.wrote

pub returns-in-Memory-clause-refused : goal.returns-in-Memory-clause-refused
returns-in-Memory-clause-refused g c = rw c.in-Memory.is c.put-in-Memory.ensures.refused

pub returns-in-Differ-clause-wrote : goal.returns-in-Differ-clause-wrote
returns-in-Differ-clause-wrote g c = rw c.in-Differ.is c.put-in-Differ.ensures.wrote

pub returns-in-Differ-clause-refused : goal.returns-in-Differ-clause-refused
returns-in-Differ-clause-refused g c = rw c.in-Differ.is c.put-in-Differ.ensures.refused
