-- The order is total, and `Equal` means equality. Declares nothing.
pub use Rattle.jv_data.specs.private.Order.{IsOneOf, is_less, is_equal, is_greater, compared, ties, tied_text, tied, compare_total, equal_from, same_Decides}
