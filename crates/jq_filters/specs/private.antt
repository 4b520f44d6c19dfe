-- What only contracts of private functions cite, those of `jq_stream` among them.
pub mod Made
pub mod Preludes
