mod CountLemmas
mod GrammarLemmas
mod FaultLemmas
mod OneFault
mod Vocabulary
