-- Parts that are taken out of a value, and the frame that puts another back.
use Rattle.std.proofs.Common.{◌≡◌, ◌∙◌, ◌≤◌, ◌+◌, ◌-◌, ℕ, ℤ, List, length, map, take, drop, ap, sym, subst, unwrap_or, slice_range, Some, Ok, Err, Vec, Global, arith}
use Rattle.std.specs.Option.{option_map, option_map_or, ok_or}
use Rattle.std.proofs.lemmas.List.{drop-take, take-take}
use Rattle.jv_data.proofs.shared.Items.{values_of-items_of}
use Rattle.jv_data.specs.Value.{Value, null, number, string, array, items_of}
use Rattle.jv_data.specs.View.{view}
use Rattle.jv_data.specs.declared.values.Val.{Val}
use Rattle.jv_value.specs.ErrorTexts.{not_slice_bounds}
use Rattle.jv_value.specs.private.Frames.{TakesPart}
use Rattle.jv_value.specs.Index.{item_at, slice_key}
use Rattle.jv_value.specs.SetPath.{put_between, put_item}
use Rattle.jv_value.specs.Slice.{range_of}
use Rattle.jv_value.specs.declared.setting.Frame.TheVariants.{Item, Slice}

takes_item_of : (n m : ℤ) (vs : List Value) (part : Value) (items : Vec Val Global) → m ≡ n → part ≡ unwrap_or (item_at n vs) null → ((p : Value) → put_item n p (map view items.items) ≡ put_item n p vs) → TakesPart (array (items_of vs)) (number n) part (Item items m)
takes_item_of n m vs part items e f back = record {
  taken = ap (λ ws. Ok (unwrap_or (item_at n ws) null)) (values_of-items_of vs) ∙ ap Ok (sym f);
  back = λ p. ap (λ k. put_item k p (map view items.items)) e ∙ back p ∙ ap (put_item n p) (sym (values_of-items_of vs));
}

pub takes_item : (v k : Value) (n m : ℤ) (vs : List Value) (part : Value) (items : Vec Val Global) → v ≡ array (items_of vs) → k ≡ number n → m ≡ n → part ≡ unwrap_or (item_at n vs) null → ((p : Value) → put_item n p (map view items.items) ≡ put_item n p vs) → TakesPart v k part (Item items m)
takes_item v k n m vs part items a b e f back =
    subst (λ w. TakesPart w k part (Item items m)) (sym a) (subst (λ l. TakesPart (array (items_of vs)) l part (Item items m)) (sym b) (takes_item_of n m vs part items e f back))

middle_again : {X : Type 0} (xs : List X) (a b : ℕ) → a ≤ b → drop a (take b xs) ≡ slice_range xs a b
middle_again xs a b h = let all : b ≡ a + (b - a) = omega arith in ap (λ n. drop a (take n xs)) all ∙ drop-take a (b - a) xs

pub takes_slice : (vs : List Value) (start end : Value) (a b : ℕ) (part : Value) (front back : Vec Val Global) → a ≤ b → range_of (length vs) start end ≡ Some (a, b) → part ≡ array (items_of (drop a (take b vs))) → map view front.items ≡ take a (take b vs) → map view back.items ≡ drop b vs → TakesPart (array (items_of vs)) (slice_key start end) part (Slice front back)
takes_slice vs start end a b part front back h e f g i = record {
  taken = ap (λ ws. ok_or (option_map (λ r. array (items_of (slice_range ws r.0 r.1))) (range_of (length ws) start end)) (string not_slice_bounds)) (values_of-items_of vs)
      ∙ ap (λ o. ok_or (option_map (λ r. array (items_of (slice_range vs r.0 r.1))) o) (string not_slice_bounds)) e
      ∙ ap (λ ws. Ok (array (items_of ws))) (sym (middle_again vs a b h)) ∙ ap Ok (sym f);
  back = λ p. ap (λ ws. put_between ws p (map view back.items)) (g ∙ take-take a b vs h) ∙ ap (put_between (take a vs) p) i
      ∙ ap (λ o. option_map_or (λ r. put_between (take r.0 vs) p (drop r.1 vs)) o (Err (string not_slice_bounds))) (sym e)
      ∙ ap (λ ws. option_map_or (λ r. put_between (take r.0 ws) p (drop r.1 ws)) (range_of (length ws) start end) (Err (string not_slice_bounds))) (sym (values_of-items_of vs));
}
