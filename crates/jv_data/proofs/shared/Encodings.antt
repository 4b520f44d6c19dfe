-- Texts compare by their bytes as by their code points. Declares nothing.
pub use Rattle.jv_data.proofs.Utf8.{chars-cmp, utf8-cmp}
