-- What only contracts of private functions cite.
pub mod Bindings
pub mod BoundParts
pub mod BoundForms
pub mod Buckets
pub mod Forms
pub mod Resolved
pub mod Scopes
pub mod Visits
pub mod Waiting
