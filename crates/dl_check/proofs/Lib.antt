pub mod ReadLemmas
pub mod TextRules
pub mod FormRules
pub mod TreeRules
pub mod FileRules
pub mod Rules
