mod AskedLemmas
mod ByteLemmas
mod HeadLemmas
mod InputsLemmas
mod KeepingLemmas
mod NamesLemmas
mod NoteLemmas
mod OneAsk
mod PathLemmas
mod ServingLemmas
mod StepLemmas
mod StrictLemmas
pub mod ShownInputs
pub mod ShownStops
