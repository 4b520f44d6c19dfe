use Rattle.std.proofs.Common.{◌≡◌, ◌-◌, ◌<◌, ◌∷◌, length, Some, None, refl, subst, ap, ◌∙◌, arith, rules, w64, SFits}
use Rattle.std.proofs.lemmas.Int.{to_z-of_z}
use Rattle.json.specs.Token.{Token}
use Rattle.json.specs.Json.{after_end_array, read_key, value}
use Rattle.json.specs.Reads.{token_of}
use Rattle.json.proofs.Grammar.{read_key-shorter, read_key_is, closed_array}
use Rattle.jv_data.proofs.shared.Levels.{view-Null, view-Bool, view-Num, view-List, view-Table}
use Rattle.jv_data.specs.Members.{put}
use Rattle.jv_data.specs.Value.{array}
use Rattle.std.specs.Str.{chars}
use Rattle.jv_data.specs.declared.values.Val.TheVariants.{Num}
use Rattle.jv_data.specs.Drafts.{drafted}
use Rattle.jv_data.specs.View.{view, items_view}
use Rattle.jv_text.proofs.Taken.{taken_null, taken_boolean, taken_string, taken_number, taken_array, items_begin, items_turn, items_done, taken_object, members_begin, members_turn, members_done}
use Rattle.jv_text.proofs.TokenRuns.{took_none, took_first, took_both}
use Rattle.jv_text.specs.private.PlainTokens.{KeepsPlain}
use Rattle.jv_text.proofs.tokens.+taking.Goals as goal

pub read_items-items-init : goal.read_items-items-init
read_items-items-init t c = (length c.args.reader.now, omega arith, items_begin _ _ c.new-found.ensures.items, omega arith, took_none _ _ refl)

pub read_items-items-preserved : goal.read_items-items-preserved
read_items-items-preserved t c =
    let p = value c.args.depth in
    let l = c.items in
    let n = l.invariant.0 in
    let going : (after_end_array l.reader ≡ None) × (c.take_end_array.new.self ≡ l.reader) = grind arith in
    let done = c.in_ok-read_value.ensures in
    let v = c.in_ok-read_value.field-0 in
    let r = c.read_value.new.reader in
    let less : length r < length l.reader = rw (← going.1) done.shorter in (
      n - 1,
      omega (arith, l.invariant.1),
      items_turn p n l.reader r _ l.found.items _ v l.invariant.2 (omega (arith, l.invariant.1)) going.0 (rw (← going.1) done.ok) c.in_ok-push.ensures.items,
      omega (arith, l.invariant.3),
      took_both _ l.reader r l.invariant.4 (subst (λ ts. KeepsPlain ts r) going.1 done.plain),
    )

pub read_items-returns-clause-ok : goal.read_items-returns-clause-ok
read_items-returns-clause-ok t c =
    let l = c.items in
    items_done (value c.args.depth) l.invariant.0 l.reader c.take_end_array.new.self _ l.found.items l.invariant.2 l.invariant.1 (grind arith)

pub read_items-returns-clause-plain : goal.read_items-returns-clause-plain
read_items-returns-clause-plain t c =
    let l = c.items in
    let closed : after_end_array l.reader ≡ Some c.take_end_array.new.self = grind arith in
    took_both _ l.reader _ l.invariant.4 (took_first Token.end_array l.reader _ _ (closed_array l.reader _ closed) tt (took_none _ _ refl))

pub read_members-members-init : goal.read_members-members-init
read_members-members-init t c = (length c.args.reader.now, omega arith, members_begin _ _ c.new-found.ensures, omega arith, took_none _ _ refl)

pub read_members-members-preserved : goal.read_members-members-preserved
read_members-members-preserved t c =
    let p = value c.args.depth in
    let l = c.members in
    let n = l.invariant.0 in
    let k = c.in-Some.name.now in
    let s = c.next_key.new.self in
    let named : read_key l.reader ≡ Some (Some k, s) = grind arith in
    let done = c.in_ok-member.ensures in
    let v = c.in_ok-member.member in
    let r = c.read_value.new.reader in
    let less = read_key-shorter l.reader (Some k) s named in
    let lesser = done.shorter in
    let put_there = c.in_ok-put.ensures k c.in_ok-place.ensures.utf8 c.in_ok-place.ensures.place ∙ ap (put (chars k) (view v)) c.in_ok-place.ensures.members in (
      n - 1,
      omega (arith, l.invariant.1),
      members_turn p n k c.in_ok-place.ensures.utf8 l.reader s r _ (drafted l.found) _ (view v) l.invariant.2 (omega (arith, l.invariant.1)) named done.ok put_there,
      omega (arith, l.invariant.3),
      took_both _ l.reader r l.invariant.4 (took_first (Token.key k) l.reader s r (read_key_is l.reader (Some k) s named) tt done.plain),
    )

pub read_members-put-requires : goal.read_members-put-requires
read_members-put-requires t c = (c.in-Some.name.now, c.in_ok-place.ensures.place)

pub read_members-returns-clause-ok : goal.read_members-returns-clause-ok
read_members-returns-clause-ok t c =
    let l = c.members in
    rw c.in_ok-finish.ensures (members_done (value c.args.depth) l.invariant.0 l.reader c.next_key.new.self _ (drafted l.found) l.invariant.2 l.invariant.1 (grind arith))

pub read_members-returns-clause-plain : goal.read_members-returns-clause-plain
read_members-returns-clause-plain t c =
    let l = c.members in
    let closed : read_key l.reader ≡ Some (None, c.next_key.new.self) = grind arith in
    took_both _ l.reader _ l.invariant.4 (took_first Token.end_object l.reader _ _ (read_key_is l.reader None _ closed) tt (took_none _ _ refl))

pub read_value-returns-in-Null-clause-ok : goal.read_value-returns-in-Null-clause-ok
read_value-returns-in-Null-clause-ok t c =
    let first : c.args.reader.now ≡ token_of c.in_ok-token.token ∷ c.next.new.self = grind arith in
    let is : c.args.reader.now ≡ Token.null ∷ c.next.new.self = grind (arith, first) in
    taken_null c.args.depth c.args.reader.now c.next.new.self _ is view-Null

pub read_value-returns-in-Bool-clause-ok : goal.read_value-returns-in-Bool-clause-ok
read_value-returns-in-Bool-clause-ok t c =
    let first : c.args.reader.now ≡ token_of c.in_ok-token.token ∷ c.next.new.self = grind arith in
    let is : c.args.reader.now ≡ Token.boolean c.in-Bool.b ∷ c.next.new.self = grind (arith, first) in
    taken_boolean c.args.depth c.args.reader.now c.next.new.self _ c.in-Bool.b is (view-Bool c.in-Bool.b)

pub read_value-returns-in-Some-clause-ok : goal.read_value-returns-in-Some-clause-ok
read_value-returns-in-Some-clause-ok t c =
    let first : c.args.reader.now ≡ token_of c.in_ok-token.token ∷ c.next.new.self = grind arith in
    let is : c.args.reader.now ≡ Token.number c.in-Number.text.now ∷ c.next.new.self = grind (arith, first) in
    let n = c.in-Some.n in
    let fits : SFits w64 n = search rules in
    taken_number c.args.depth c.args.reader.now c.next.new.self _ c.in-Number.text.now n is c.in-Some.ensures (ap (λ z. view (Num z)) (to_z-of_z w64 n fits) ∙ view-Num n)

pub read_value-returns-in-Some-clause-plain : goal.read_value-returns-in-Some-clause-plain
read_value-returns-in-Some-clause-plain t c =
    let first : c.args.reader.now ≡ token_of c.in_ok-token.token ∷ c.next.new.self = grind arith in
    let is : c.args.reader.now ≡ Token.number c.in-Number.text.now ∷ c.next.new.self = grind (arith, first) in
    took_first _ _ _ _ is c.in-Some.ensures.plain (took_none _ _ refl)

pub read_value-returns-in_ok-from_text-in-String-clause-ok : goal.read_value-returns-in_ok-from_text-in-String-clause-ok
read_value-returns-in_ok-from_text-in-String-clause-ok t c =
    let first : c.args.reader.now ≡ token_of c.in_ok-token.token ∷ c.next.new.self = grind arith in
    let is : c.args.reader.now ≡ Token.string c.in-String.text.now ∷ c.next.new.self = grind (arith, first) in
    taken_string c.args.depth c.args.reader.now c.next.new.self _ c.in-String.text.now is c.in_ok-from_text-in-String.ensures

pub read_value-returns-in_ok-from_vec-in-BeginArray-clause-ok : goal.read_value-returns-in_ok-from_vec-in-BeginArray-clause-ok
read_value-returns-in_ok-from_vec-in-BeginArray-clause-ok t c =
    let first : c.args.reader.now ≡ token_of c.in_ok-token.token ∷ c.next.new.self = grind arith in
    let is : c.args.reader.now ≡ Token.begin_array ∷ c.next.new.self = grind (arith, first) in
    let made = c.in_ok-from_vec-in-BeginArray in
    taken_array c.args.depth c.args.reader.now c.next.new.self c.read_items.new.reader _ _ (omega arith) is c.in_ok-items-in-BeginArray.ensures.ok (view-List made.field-0 ∙ ap (λ xs. array (items_view xs)) made.ensures)

pub read_value-returns-in_ok-members-in-BeginObject-clause-ok : goal.read_value-returns-in_ok-members-in-BeginObject-clause-ok
read_value-returns-in_ok-members-in-BeginObject-clause-ok t c =
    let first : c.args.reader.now ≡ token_of c.in_ok-token.token ∷ c.next.new.self = grind arith in
    let is : c.args.reader.now ≡ Token.begin_object ∷ c.next.new.self = grind (arith, first) in
    let made = c.in_ok-members-in-BeginObject in
    taken_object c.args.depth c.args.reader.now c.next.new.self c.read_members.new.reader _ _ (omega arith) is made.ensures.ok (view-Table made.members)

pub read_value-returns-in-Null-clause-plain : goal.read_value-returns-in-Null-clause-plain
read_value-returns-in-Null-clause-plain t c =
    let first : c.args.reader.now ≡ token_of c.in_ok-token.token ∷ c.next.new.self = grind arith in
    let is : c.args.reader.now ≡ Token.null ∷ c.next.new.self = grind (arith, first) in
    took_first _ _ _ _ is tt (took_none _ _ refl)

pub read_value-returns-in-Bool-clause-plain : goal.read_value-returns-in-Bool-clause-plain
read_value-returns-in-Bool-clause-plain t c =
    let first : c.args.reader.now ≡ token_of c.in_ok-token.token ∷ c.next.new.self = grind arith in
    let is : c.args.reader.now ≡ Token.boolean c.in-Bool.b ∷ c.next.new.self = grind (arith, first) in
    took_first _ _ _ _ is tt (took_none _ _ refl)

pub read_value-returns-in_ok-from_text-in-String-clause-plain : goal.read_value-returns-in_ok-from_text-in-String-clause-plain
read_value-returns-in_ok-from_text-in-String-clause-plain t c =
    let first : c.args.reader.now ≡ token_of c.in_ok-token.token ∷ c.next.new.self = grind arith in
    let is : c.args.reader.now ≡ Token.string c.in-String.text.now ∷ c.next.new.self = grind (arith, first) in
    took_first _ _ _ _ is tt (took_none _ _ refl)

pub read_value-returns-in_ok-from_vec-in-BeginArray-clause-plain : goal.read_value-returns-in_ok-from_vec-in-BeginArray-clause-plain
read_value-returns-in_ok-from_vec-in-BeginArray-clause-plain t c =
    let first : c.args.reader.now ≡ token_of c.in_ok-token.token ∷ c.next.new.self = grind arith in
    let is : c.args.reader.now ≡ Token.begin_array ∷ c.next.new.self = grind (arith, first) in
    took_first _ _ _ _ is tt (c.in_ok-items-in-BeginArray.ensures.plain)

pub read_value-returns-in_ok-members-in-BeginObject-clause-plain : goal.read_value-returns-in_ok-members-in-BeginObject-clause-plain
read_value-returns-in_ok-members-in-BeginObject-clause-plain t c =
    let first : c.args.reader.now ≡ token_of c.in_ok-token.token ∷ c.next.new.self = grind arith in
    let is : c.args.reader.now ≡ Token.begin_object ∷ c.next.new.self = grind (arith, first) in
    took_first _ _ _ _ is tt (c.in_ok-members-in-BeginObject.ensures.plain)
