-- The view of a `Val` of each form, by its contents.
use Rattle.std.proofs.Common.{◌≡◌, ◌∙◌, ℤ, Bool, List, [], ◌∷◌, map, zip, refl, sym, ap, rules}
use Rattle.jv_data.specs.Held.{values_in, members_in, members_of_value}
use Rattle.jv_data.specs.Shared.{text_in, entries_held, entries_in}
use Rattle.jv_data.specs.Value.{null, boolean, number, string, array, object, items_of}
use Rattle.jv_data.specs.View.{view, members_view}
use Rattle.jv_data.specs.declared.containers.members.Members.{Members}
use Rattle.jv_data.specs.declared.containers.members.Members.TheVariants.{Few, Many}
use Rattle.jv_data.specs.declared.containers.texts.SharedText.{SharedText}
use Rattle.jv_data.specs.declared.containers.arrays.Array.{Array}
use Rattle.jv_data.specs.declared.containers.objects.Object.{Object}
use Rattle.jv_data.specs.declared.values.Val.{Val, the_lemmas}
use Rattle.jv_data.specs.declared.values.Val as val

pub view-Null : view val.Null ≡ null
view-Null = search (rules, the_lemmas)

pub view-Bool : (b : Bool) → view (val.Bool b) ≡ boolean b
view-Bool b = search (rules, the_lemmas)

pub view-Num : (n : ℤ) → view (val.Num n) ≡ number n
view-Num n = search (rules, the_lemmas)

pub view-Text : (t : SharedText) → view (val.Text t) ≡ string (text_in t)
view-Text t = search (rules, the_lemmas)

pub view-List : (a : Array Val) → view (val.List a) ≡ array (items_of (values_in a))
view-List a = search (rules, the_lemmas)

zip-map : {K X Y : Type 0} (f : X → Y) (ks : List K) (vs : List X) → zip ks (map f vs) ≡ map (λ e. (e.0, f e.1)) (zip ks vs)
zip-map f [] vs = refl
zip-map f (k ∷ ks) [] = refl
zip-map f (k ∷ ks) (v ∷ vs) = ap (λ es. (k, f v) ∷ es) (zip-map f ks vs)

view_held : (o : Object Val) (m : Members Val) → o.members.value ≡ m → view (val.Table o) ≡ object (members_view (entries_held m))
view_held o (Few names values) e = search (rules, the_lemmas, e, zip-map)
view_held o (Many entries) e = search (rules, the_lemmas, e)

-- the members of an object are its entries
pub members_held : (o : Object Val) → members_in o ≡ members_view (entries_in o)
members_held o = ap members_of_value (view_held o o.members.value refl)

pub view-Table : (o : Object Val) → view (val.Table o) ≡ object (members_in o)
view-Table o = view_held o o.members.value refl ∙ ap object (sym (members_held o))
