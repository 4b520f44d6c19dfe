-- What `f |= g` does: the prelude's `_modify`.
pub mod Known
