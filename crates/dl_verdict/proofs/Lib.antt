mod KeyLemmas
mod Tables
mod Spots
mod ExtraLemmas
mod Judged
mod PartLemmas
mod Answered
