pub mod Names
pub mod TreeTexts
pub mod Trees
