-- Laws of reading a text, and of NaN bits.
pub mod OrOff
pub mod PartLaws
pub mod PartTurns
pub mod Gathering
pub mod TextLines
pub mod FormFacts
pub mod Complete
pub mod Sound
pub mod Cut
pub mod OffLine
pub mod OffBack
pub mod InputBack
pub mod NanLaws
pub mod Worked
