-- What only contracts of private functions cite.
pub mod SortedItems
pub mod Ends
pub mod Flattened
pub mod Lists
pub mod Searches
