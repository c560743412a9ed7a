-- From the text's lines to the netlist.
mod AscendingLemmas
mod OrderedLemmas
mod NumberLemmas
mod LineLemmas
mod TextLemmas
mod ModelLemmas
mod DesignLemmas
mod Vocabulary
