pub mod AsksFit
