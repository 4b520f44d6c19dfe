-- The grammar's loops, one turn at a time, if each text that was read has a value.
use Rattle.std.proofs.Common.{◌≡◌, ℕ, ℤ, ◌-◌, ◌<◌, ◌≤◌, Bool, List, [], ◌∷◌, ◌++◌, length, Option, Some, None, option_map, Ordering, Less, Equal, Greater, refl, sym, ap, subst, ◌∙◌}
use Rattle.std.specs.Ordering.{match_ordering}
use Rattle.std.specs.Prelude.{option_and_then}
use Rattle.std.specs.Str.{chars, IsUtf8}
use Rattle.json.specs.Lex.{tokens}
use Rattle.json.specs.Token.{Token}
use Rattle.json.specs.Json as json
use Rattle.json.specs.Json.{Parse, parse_map, after_end_array, read_key}
use Rattle.json.proofs.Grammar.{value_is, value-begin_array, value-begin_object}
use Rattle.serde_json.specs.Data as json_data
use Rattle.serde_json.specs.Data.{Data, Num, put}
use Rattle.serde_json.specs.Find.{as_i64}
use Rattle.serde_json.specs.Read.{of_json, of_items, of_members, number_of, converted}
use Rattle.jv_text.proofs.Turns.{converted-array, converted-object, item_read, items_over, member_read, members_over, none_before, whole_read}
use Rattle.jv_data.specs.Members.{put as put_member}
use Rattle.jv_data.specs.Value.{Value, null, boolean, number, string, array, object, Items, Members, no_members, member, text_cmp}
use Rattle.jv_data.proofs.shared.Encodings.{utf8-cmp}
use Rattle.jv_data.specs.View.{view, items_view}
use Rattle.jv_data.specs.declared.values.Val.{Val}
use Rattle.jv_text.specs.Json.{value_of, items_of as read_items, members_of as read_members}
use Rattle.jv_text.specs.private.PlainTokens.{IsPlainNumber}
use Rattle.jv_text.specs.private.Tokens.{IsValueRead, AreItemsRead, AreMembersRead}
use Rattle.jv_text.specs.Plain.{plain_value}
use Rattle.jv_text.proofs.PlainTexts.{plain_of}

-- ---- a value with nothing inside

pub taken_null : (depth : ℕ) (ts r : List Token) (v : Value) → ts ≡ Token.null ∷ r → v ≡ null → IsValueRead (json.value depth ts) v r
taken_null depth ts r v first e = record { tree = json_data.null; reads = ap (converted of_json) (ap (json.value depth) first ∙ value_is depth _); means = ap Some (sym e) }

pub taken_boolean : (depth : ℕ) (ts r : List Token) (v : Value) (b : Bool) → ts ≡ Token.boolean b ∷ r → v ≡ boolean b → IsValueRead (json.value depth ts) v r
taken_boolean depth ts r v b first e = record { tree = json_data.boolean b; reads = ap (converted of_json) (ap (json.value depth) first ∙ value_is depth _); means = ap Some (sym e) }

pub taken_string : (depth : ℕ) (ts r : List Token) (v : Value) (s : List ℕ) → ts ≡ Token.string s ∷ r → v ≡ string (chars s) → IsValueRead (json.value depth ts) v r
taken_string depth ts r v s first e = record { tree = json_data.string s; reads = ap (converted of_json) (ap (json.value depth) first ∙ value_is depth _); means = ap Some (sym e) }

whole_in : (o : Option Num) (v : Value) → option_map number (option_and_then as_i64 o) ≡ Some v → (x : Num) × (o ≡ Some x) × (option_map number (as_i64 x) ≡ Some v)
whole_in None v e = absurd (cc)
whole_in (Some x) v e = (x, refl, e)

pub taken_number : (depth : ℕ) (ts r : List Token) (v : Value) (s : List ℕ) (z : ℤ) → ts ≡ Token.number s ∷ r → IsPlainNumber s z → v ≡ number z → IsValueRead (json.value depth ts) v r
taken_number depth ts r v s z first read e =
    let x = whole_in (number_of s) v (ap (option_map number) read.value ∙ ap Some (sym e)) in
    record {
      tree = json_data.number x.0;
      reads = ap (converted of_json) (ap (json.value depth) first ∙ value_is depth _) ∙ ap (λ o. option_map (λ d. (d, r)) (option_map json_data.number o)) x.1;
      means = x.2;
    }

-- ---- arrays

pub taken_array : (depth : ℕ) (ts rest r : List Token) (v : Value) (vs : Items) → 0 < depth → ts ≡ Token.begin_array ∷ rest → AreItemsRead (json.items (json.value (depth - 1)) (length rest) rest) vs r → v ≡ array vs
    → IsValueRead (json.value depth ts) v r
taken_array depth ts rest r v vs some first read e =
    record {
      tree = json_data.array read.tree;
      reads = ap (converted of_json) (ap (json.value depth) first ∙ value-begin_array depth rest some) ∙ converted-array (json.items (json.value (depth - 1)) (length rest) rest) ∙ ap (parse_map json_data.array) read.reads;
      means = ap (option_map array) read.means ∙ ap Some (sym e);
    }

-- the data mean the values
abbrev pub Mean : List Data → List Val → Type 0
Mean [] [] = Unit {0}
Mean [] (v ∷ vs) = ⊥
Mean (d ∷ ds) [] = ⊥
Mean (d ∷ ds) (v ∷ vs) = (value_of d ≡ Some (view v)) × Mean ds vs

mean_push : (ds : List Data) (vs : List Val) (d : Data) (v : Val) → Mean ds vs → value_of d ≡ Some (view v) → Mean (ds ++ d ∷ []) (vs ++ v ∷ [])
mean_push [] [] d v h e = (e, tt)
mean_push [] (w ∷ vs) d v h e = absurd h
mean_push (c ∷ ds) [] d v h e = absurd h
mean_push (c ∷ ds) (w ∷ vs) d v h e = (h.0, mean_push ds vs d v h.1 e)

abbrev pub data_before : List Data → json_data.Items → json_data.Items
data_before [] rest = rest
data_before (d ∷ ds) rest = json_data.item d (data_before ds rest)

data_push : (ds : List Data) (d : Data) (rest : json_data.Items) → data_before ds (json_data.item d rest) ≡ data_before (ds ++ d ∷ []) rest
data_push [] d rest = refl
data_push (c ∷ ds) d rest = ap (json_data.item c) (data_push ds d rest)

one_more : (ds : List Data) (d : Data) (r : Option (json_data.Items × List Token)) → parse_map (data_before ds) (parse_map (json_data.item d) r) ≡ parse_map (data_before (ds ++ d ∷ [])) r
one_more ds d None = refl
one_more ds d (Some p) = ap (λ items. Some (items, p.1)) (data_push ds d p.0)

all_mean : (ds : List Data) (vs : List Val) → Mean ds vs → read_items (data_before ds json_data.no_items) ≡ Some (items_view vs)
all_mean [] [] h = refl
all_mean [] (v ∷ vs) h = absurd h
all_mean (d ∷ ds) [] h = absurd h
all_mean (d ∷ ds) (v ∷ vs) h = rw (h.0, all_mean ds vs h.1) refl

-- the values vs were read from the items `whole`, and `left` remain
pub record ItemsGoOn (whole : Option (json.Items × List Token)) (vs : List Val) (left : Option (json.Items × List Token)) : Type 0 where
  pub trees : List Data
  pub mean : Mean trees vs
  pub goes : converted of_items whole ≡ parse_map (data_before trees) (converted of_items left)

pub items_begin : (whole : Option (json.Items × List Token)) (vs : List Val) → vs ≡ [] → ItemsGoOn whole vs whole
items_begin whole vs e = rw e (record { trees = []; mean = tt; goes = none_before (converted of_items whole) })

pub items_turn : (p : Parse json.Json) (n : ℕ) (ts r : List Token) (whole : Option (json.Items × List Token)) (vs ws : List Val) (v : Val) → ItemsGoOn whole vs (json.items p n ts) → 0 < n → after_end_array ts ≡ None
    → IsValueRead (p ts) (view v) r → ws ≡ vs ++ v ∷ [] → ItemsGoOn whole ws (json.items p (n - 1) r)
items_turn p n ts r whole vs ws v g some going read e =
    rw e (record {
      trees = g.trees ++ read.tree ∷ [];
      mean = mean_push g.trees vs read.tree v g.mean read.means;
      goes = g.goes ∙ ap (parse_map (data_before g.trees)) (item_read p n ts r read.tree some going read.reads) ∙ one_more g.trees read.tree _;
    })

pub items_done : (p : Parse json.Json) (n : ℕ) (ts r : List Token) (whole : Option (json.Items × List Token)) (vs : List Val) → ItemsGoOn whole vs (json.items p n ts) → length ts ≤ n → after_end_array ts ≡ Some r
    → AreItemsRead whole (items_view vs) r
items_done p n ts r whole vs g enough e =
    record {
      tree = data_before g.trees json_data.no_items;
      reads = g.goes ∙ ap (parse_map (data_before g.trees)) (items_over p n ts r enough e);
      means = all_mean g.trees vs g.mean;
    }

-- ---- objects

pub taken_object : (depth : ℕ) (ts rest r : List Token) (v : Value) (ms : Members) → 0 < depth → ts ≡ Token.begin_object ∷ rest → AreMembersRead (json.members (json.value (depth - 1)) (length rest) rest) ms r → v ≡ object ms
    → IsValueRead (json.value depth ts) v r
taken_object depth ts rest r v ms some first read e =
    record {
      tree = json_data.object read.tree;
      reads = ap (converted of_json) (ap (json.value depth) first ∙ value-begin_object depth rest some) ∙ converted-object (json.members (json.value (depth - 1)) (length rest) rest) ∙ ap (parse_map json_data.object) read.reads;
      means = ap (option_map object) read.means ∙ ap Some (sym e);
    }

-- the members of the data have the same keys, and mean the values
abbrev pub MembersMean : json_data.Members → Members → Type 0
MembersMean json_data.no_members no_members = Unit {0}
MembersMean json_data.no_members (member l w ns) = ⊥
MembersMean (json_data.member k d ms) no_members = ⊥
MembersMean (json_data.member k d ms) (member l w ns) = IsUtf8 k × (l ≡ chars k) × (value_of d ≡ Some w) × MembersMean ms ns

mean_by : (o : Ordering) (a b c : json_data.Members) (es fs gs : Members) → MembersMean a es → MembersMean b fs → MembersMean c gs → MembersMean (match_ordering o a b c) (match_ordering o es fs gs)
mean_by Less a b c es fs gs h i j = h
mean_by Equal a b c es fs gs h i j = i
mean_by Greater a b c es fs gs h i j = j

mean_put : (ms : json_data.Members) (ns : Members) (key : List ℕ) (u : IsUtf8 key) (d : Data) (v : Value) → MembersMean ms ns → value_of d ≡ Some v → MembersMean (put key d ms) (put_member (chars key) v ns)
mean_put json_data.no_members no_members key u d v h e = (u, refl, e, tt)
mean_put json_data.no_members (member l w ns) key u d v h e = absurd h
mean_put (json_data.member k c ms) no_members key u d v h e = absurd h
mean_put (json_data.member k c ms) (member l w ns) key u d v h e =
    rw (h.1, utf8-cmp key k u h.0)
    (mean_by (text_cmp (chars key) (chars k)) _ _ _ _ _ _ (u, refl, e, (h.0, refl, h.2, h.3)) (h.0, refl, e, h.3) (h.0, refl, h.2, mean_put ms ns key u d v h.3 e))

all_members_mean : (ms : json_data.Members) (ns : Members) → MembersMean ms ns → read_members ms ≡ Some ns
all_members_mean json_data.no_members no_members h = refl
all_members_mean json_data.no_members (member l w ns) h = absurd h
all_members_mean (json_data.member k d ms) no_members h = absurd h
all_members_mean (json_data.member k d ms) (member l w ns) h = rw (h.2, all_members_mean ms ns h.3, h.1) refl

-- the members ns were read from the members `whole`, and `left` remain
pub record MembersGoOn (whole : Option (json.Members × List Token)) (ns : Members) (left : Option (json.Members × List Token)) : Type 0 where
  pub tree : json_data.Members
  pub mean : MembersMean tree ns
  pub goes : converted (λ ms. of_members ms json_data.no_members) whole ≡ converted (λ ms. of_members ms tree) left

pub members_begin : (whole : Option (json.Members × List Token)) (ns : Members) → ns ≡ no_members → MembersGoOn whole ns whole
members_begin whole ns e = rw e (record { tree = json_data.no_members; mean = tt; goes = refl })

pub members_turn : (p : Parse json.Json) (n : ℕ) (k : List ℕ) (u : IsUtf8 k) (ts s r : List Token) (whole : Option (json.Members × List Token)) (ms ns : Members) (v : Value) → MembersGoOn whole ms (json.members p n ts) → 0 < n
    → read_key ts ≡ Some (Some k, s) → IsValueRead (p s) v r → ns ≡ put_member (chars k) v ms → MembersGoOn whole ns (json.members p (n - 1) r)
members_turn p n k u ts s r whole ms ns v g some named read e =
    rw e (record {
      tree = put k read.tree g.tree;
      mean = mean_put g.tree ms k u read.tree v g.mean read.means;
      goes = g.goes ∙ member_read p g.tree n k ts s r read.tree some named read.reads;
    })

pub members_done : (p : Parse json.Json) (n : ℕ) (ts r : List Token) (whole : Option (json.Members × List Token)) (ns : Members) → MembersGoOn whole ns (json.members p n ts) → length ts ≤ n → read_key ts ≡ Some (None, r) → AreMembersRead whole ns r
members_done p n ts r whole ns g enough e =
    record { tree = g.tree; reads = g.goes ∙ members_over p g.tree n ts r enough e; means = all_members_mean g.tree ns g.mean }

-- ---- the whole text

pub all_read : (text : List ℕ) (ts r : List Token) (v : Value) → ts ≡ tokens text → r ≡ [] → IsUtf8 text → IsValueRead (json.value 127 ts) v r → plain_value text ≡ Some v
all_read text ts r v e none utf8 g =
    let from : converted of_json (json.value 127 (tokens text)) ≡ Some (g.tree, r) = subst (λ us. converted of_json (json.value 127 us) ≡ Some (g.tree, r)) e g.reads in
    let to : converted of_json (json.value 127 (tokens text)) ≡ Some (g.tree, []) = subst (λ us. converted of_json (json.value 127 (tokens text)) ≡ Some (g.tree, us)) none from in
    plain_of text g.tree utf8 (whole_read (json.value 127 (tokens text)) g.tree to) ∙ g.means
