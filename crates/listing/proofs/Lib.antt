-- Laws of NaN bits and of listings.
pub mod NanValues
pub mod NanRead
pub mod LineLaws
pub mod ListingLaws
pub mod SheetLaws
pub mod WrittenLaws
pub mod PlanListing
pub mod ListingFits
pub mod ListedLaws
