-- Why a call is refused: the number of a cause, and the first of several.
pub mod Number
pub mod First
pub mod All
