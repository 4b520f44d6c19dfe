-- The value at an index of an array or at a key of an object, and the members of a map after a change.
use Rattle.std.proofs.Common.{◌≡◌, ◌∙◌, ℕ, List, [], ◌∷◌, Bool, true, false, cond, Option, Some, None, option_map, Bor, String, Global, Ordering, Less, Equal, Greater, string_bytes, string_cmp, nat_cmp, refl, ap}
use Rattle.std.specs.BTreeMap.{insert_entry}
use Rattle.std.specs.Cmp.Lexicographic.{slice_cmp}
use Rattle.std.specs.Map.{lookup, remove_entry}
use Rattle.std.specs.Option.{option_copied}
use Rattle.std.specs.Ordering.{match_ordering, is_eq}
use Rattle.std.proofs.lemmas.Str.{IsUtf8-string_bytes}
use Rattle.std.specs.Str.{chars, IsUtf8}
use Rattle.jv_data.proofs.Utf8.{chars-cmp, utf8-cmp}
use Rattle.jv_data.proofs.Views.{Entry}
use Rattle.jv_data.specs.Members.{member_at, put, without}
use Rattle.jv_data.specs.Value.{Value, text_cmp}
use Rattle.jv_data.specs.Text.{text_of}
use Rattle.jv_data.specs.View.{view, members_view}
use Rattle.jv_data.specs.declared.values.Val.{Val}

pub view_of_copied : (r : Option (Bor Val)) → option_map (λ v. view v.now) r ≡ option_map view (option_copied r)
view_of_copied None = refl
view_of_copied (Some x) = refl

cond_or : (a b : Bool) (v : Val) (r : Option Val) (s : Option Value) → a ≡ b → option_map view r ≡ s → option_map view (cond a (Some v) r) ≡ cond b (Some (view v)) s
cond_or a true v r s e f = rw e
cond_or a false v r s e f = rw e f

-- `get` of a map
pub member_found : (k : List ℕ) (u : IsUtf8 k) (es : List Entry) → option_map view (lookup (λ l. is_eq (slice_cmp nat_cmp k (string_bytes l))) es) ≡ member_at (chars k) (members_view es)
member_found k u [] = refl
member_found k u (e ∷ es) =
    cond_or (is_eq (text_cmp k (string_bytes e.0))) (is_eq (text_cmp (chars k) (text_of e.0))) e.1 _ _ (ap is_eq (utf8-cmp k (string_bytes e.0) u (IsUtf8-string_bytes e.0))) (member_found k u es)

members_view-match_ordering : (o : Ordering) (a b c : List Entry) → members_view (match_ordering o a b c) ≡ match_ordering o (members_view a) (members_view b) (members_view c)
members_view-match_ordering Less a b c = refl
members_view-match_ordering Equal a b c = refl
members_view-match_ordering Greater a b c = refl

-- `insert`; equal keys have the same text
pub members_view-insert_entry : (es : List Entry) (k : String Global) (v : Val) → members_view (insert_entry string_cmp es k v) ≡ put (text_of k) (view v) (members_view es)
members_view-insert_entry [] k v = refl
members_view-insert_entry (e ∷ es) k v =
    members_view-match_ordering (string_cmp k e.0) _ _ _ ∙ rw (chars-cmp k e.0, members_view-insert_entry es k v)

members_view-cond : (b : Bool) (a c : List Entry) → members_view (cond b a c) ≡ cond b (members_view a) (members_view c)
members_view-cond true a c = refl
members_view-cond false a c = refl

-- `remove`
pub members_view-remove_entry : (k : List ℕ) (u : IsUtf8 k) (es : List Entry) → members_view (remove_entry (λ l. is_eq (slice_cmp nat_cmp k (string_bytes l))) es) ≡ without (chars k) (members_view es)
members_view-remove_entry k u [] = refl
members_view-remove_entry k u (e ∷ es) =
    members_view-cond (is_eq (text_cmp k (string_bytes e.0))) _ _ ∙ rw (utf8-cmp k (string_bytes e.0) u (IsUtf8-string_bytes e.0), members_view-remove_entry k u es)
