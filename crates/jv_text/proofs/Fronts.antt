-- What was read so far, and what remains to be read.
use Rattle.std.proofs.Common.{◌≡◌, ℕ, List, [], ◌∷◌, ◌++◌, Option, Some, None, option_map, String, Global, Ordering, Less, Greater, refl, sym, ap, ◌∙◌}
use Rattle.std.specs.BTreeMap.{insert_entry}
use Rattle.std.specs.Cmp.{IsTotalOrder}
use Rattle.std.specs.List.{AllByRecursion}
use Rattle.std.specs.List.Sorted.{IsStrictlySortedBy}
use Rattle.std.specs.Map.{keys_of}
use Rattle.std.specs.Ordering.{ordering_reverse}
use Rattle.std.specs.Prelude.{option_and_then}
use Rattle.std.specs.Str.{chars}
use Rattle.serde_json.specs.Data as json
use Rattle.jv_data.specs.Value.{Value, Items, no_items, item, Members, no_members, member, items_of}
use Rattle.jv_data.specs.Text.{text_of}
use Rattle.jv_data.specs.View.{view, members_view}
use Rattle.jv_data.specs.declared.values.Val.{Val}
use Rattle.jv_text.specs.Json.{value_of, items_of as read_items, members_of as read_members}

abbrev pub Entry : Type 0
Entry = String Global × Val

abbrev pub before_items : List Value → Items → Items
before_items [] ws = ws
before_items (v ∷ vs) ws = item v (before_items vs ws)

abbrev pub before_members : List Entry → Members → Members
before_members [] ms = ms
before_members (e ∷ es) ms = member (text_of e.0) (view e.1) (before_members es ms)

pub before_items-push : (vs : List Value) (v : Value) (ws : Items) → before_items (vs ++ v ∷ []) ws ≡ before_items vs (item v ws)
before_items-push [] v ws = refl
before_items-push (u ∷ vs) v ws = ap (item u) (before_items-push vs v ws)

pub before_members-push : (es : List Entry) (e : Entry) (ms : Members) → before_members (es ++ e ∷ []) ms ≡ before_members es (member (text_of e.0) (view e.1) ms)
before_members-push [] e ms = refl
before_members-push (d ∷ es) e ms = ap (member (text_of d.0) (view d.1)) (before_members-push es e ms)

pub all_items : (vs : List Value) → before_items vs no_items ≡ items_of vs
all_items [] = refl
all_items (v ∷ vs) = ap (item v) (all_items vs)

pub all_members : (es : List Entry) → before_members es no_members ≡ members_view es
all_members [] = refl
all_members (e ∷ es) = ap (member (text_of e.0) (view e.1)) (all_members es)

-- one item more was read
pub items_step : (vs : List Value) (v : Value) (d : json.Data) (ds : json.Items) (all : Option Items) → value_of d ≡ Some v
    → option_map (before_items vs) (read_items (json.item d ds)) ≡ all → option_map (before_items (vs ++ v ∷ [])) (read_items ds) ≡ all
items_step vs v d ds all r e = pushed (read_items ds) ∙ sym (ap (λ o. option_map (before_items vs) (option_and_then (λ w. option_map (item w) (read_items ds)) o)) r) ∙ e
  where
    pushed : (o : Option Items) → option_map (before_items (vs ++ v ∷ [])) o ≡ option_map (before_items vs) (option_map (item v) o)
    pushed None = refl
    pushed (Some ws) = ap Some (before_items-push vs v ws)

pub members_step : (es : List Entry) (k : String Global) (v : Val) (d : json.Data) (ms : json.Members) (bytes : List ℕ) (all : Option Members) → text_of k ≡ chars bytes → value_of d ≡ Some (view v)
    → option_map (before_members es) (read_members (json.member bytes d ms)) ≡ all → option_map (before_members (es ++ (k, v) ∷ [])) (read_members ms) ≡ all
members_step es k v d ms bytes all same r e = pushed (read_members ms) ∙ sym (ap (λ o. option_map (before_members es) (option_and_then (λ w. option_map (member (chars bytes) w) (read_members ms)) o)) r) ∙ e
  where
    pushed : (o : Option Members) → option_map (before_members (es ++ (k, v) ∷ [])) o ≡ option_map (before_members es) (option_map (member (chars bytes) (view v)) o)
    pushed None = refl
    pushed (Some ns) = ap Some (before_members-push es (k, v) ns ∙ ap (λ t. before_members es (member t (view v) ns)) same)

below_middle : {K : Type 0} (R : K → K → Ordering) (q : K) (ks : List K) (k : K) (more : List K) → AllByRecursion (λ y. R q y ≡ Less) (ks ++ k ∷ more) → R q k ≡ Less
below_middle R q [] k more h = h.0
below_middle R q (x ∷ ks) k more h = below_middle R q ks k more h.1

-- a key that is above those before it goes last
pub insert_entry_last : {K X : Type 0} (R : K → K → Ordering) → IsTotalOrder R → (es : List (K × X)) (k : K) (x : X) (more : List K) → IsStrictlySortedBy R (keys_of es ++ k ∷ more) → insert_entry R es k x ≡ es ++ (k, x) ∷ []
unfolding IsStrictlySortedBy
insert_entry_last R laws [] k x more h = refl
insert_entry_last R laws (first ∷ es) k x more h =
    let above : R k first.0 ≡ Greater = laws.antisymm k first.0 ∙ ap ordering_reverse (below_middle R first.0 (keys_of es) k more h.0) in
    rw above (ap (λ es. first ∷ es) (insert_entry_last R laws es k x more h.1))

pub keys-push : {K X : Type 0} (es : List (K × X)) (k : K) (x : X) (more : List K) → keys_of (es ++ (k, x) ∷ []) ++ more ≡ keys_of es ++ k ∷ more
keys-push [] k x more = refl
keys-push (e ∷ es) k x more = ap (λ ks. e.0 ∷ ks) (keys-push es k x more)
