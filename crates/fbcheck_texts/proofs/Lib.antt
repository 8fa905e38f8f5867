mod DefaultLemmas
mod HintLemmas
mod ProgramLemmas
mod TextLemmas
mod WordsLemmas
pub mod FaultJsonLemmas
pub mod ShownTexts
