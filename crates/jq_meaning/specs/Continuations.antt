-- What is done with each item or value of a run, form by form. Each continuation has a name, so that a proof can refer to it.
use Rattle.std.specs.Prelude.{ℕ, List, ◌++◌, codes, Bool, true, false, Option, Some, None, Ok, Err}
use Rattle.jv_arith.specs.Arith.{neg_of}
use Rattle.jv_data.specs.Members.{put}
use Rattle.jv_data.specs.Value.{Value, null, boolean, number, string, Members}
use Rattle.jv_text.specs.Formats.{Text, format_named, text_in}
use Rattle.jv_text.specs.declared.formats.names.Format.{Format}
use Rattle.jv_value.specs.Index.{index_of, slice_key}
use Rattle.jq_natives.specs.Answers.{is_true}
use Rattle.jq_tree.specs.Tree.{Name, Literal, Operator}
use Rattle.jq_tree.specs.Tree as tree
use Rattle.jq_meaning.specs.Runs.{Item, plain, value_in, Run, Broken, ended, none, one, fail, bind, answered, without_path}
use Rattle.jq_meaning.specs.Env.{Env, bound, value_of}
use Rattle.jq_meaning.specs.Steps.{step, operator_of}

abbrev pub value_of_literal : Literal → Value
value_of_literal tree.Literal.null = null
value_of_literal (tree.Literal.boolean b) = boolean b
value_of_literal (tree.Literal.number n) = number n
value_of_literal (tree.Literal.string s) = string s

-- ---- Steps, operators and conditions

-- the part of a target at a key
unfoldable pub on_target : Bool → Value → Item → Run Item
on_target guarded key x = step guarded x key

-- the part at a key, of each target
unfoldable pub on_key : Bool → Run Item → Item → Run Item
on_key guarded targets key = bind targets (on_target guarded (value_in key))

-- the slice from a start to each end, of each target
unfoldable pub on_end : Bool → Run Item → Value → Item → Run Item
on_end guarded targets start end = bind targets (on_target guarded (slice_key start (value_in end)))

unfoldable pub on_start : Bool → Run Item → Run Item → Item → Run Item
on_start guarded ends targets start = bind ends (on_end guarded targets (value_in start))

-- an operator on each left value and one right value
unfoldable pub on_left : Operator → Value → Item → Run Item
on_left op right left = answered plain (operator_of op (value_in left) right)

unfoldable pub on_right : Operator → Run Item → Item → Run Item
on_right op lefts right = bind lefts (on_left op (value_in right))

unfoldable pub truth : Item → Run Item
truth v = one (plain (boolean (is_true (value_in v))))

-- the right side of `and` and `or` is run only where the left side does not decide
unfoldable pub on_conjunct : (Item → Run Item) → Item → Item → Run Item
on_conjunct right x left = elim (is_true (value_in left)) [ true ↦ bind (right x) truth | false ↦ one (plain (boolean false)) ]

unfoldable pub on_disjunct : (Item → Run Item) → Item → Item → Run Item
on_disjunct right x left = elim (is_true (value_in left)) [ true ↦ one (plain (boolean true)) | false ↦ bind (right x) truth ]

unfoldable pub negated : Item → Run Item
negated v = answered plain (neg_of (value_in v))

-- a test picks a branch
unfoldable pub on_test : (Item → Run Item) → (Item → Run Item) → Item → Item → Run Item
on_test holds fails x test = elim (is_true (value_in test)) [ true ↦ holds x | false ↦ fails x ]

-- an error's value is the handler's input
unfoldable pub on_error : (Item → Run Item) → Item → Value → Run Item
on_error handler x v = without_path x (handler (plain v))

-- a break ends the run up to its label (without a label there are no outputs; no accepted filter has such a break)
abbrev pub broken : Option ℕ → Run Item
broken (Some level) = ended (Broken level)
broken None = none

-- ---- Strings that contain filters

abbrev pub text_item : List ℕ → Run Item
text_item s = one (plain (string s))

-- a text between the text in front of it and the text after it, or its error
abbrev pub put_between : List ℕ → List ℕ → Text → Run (List ℕ)
put_between front back (Ok s) = one (front ++ (s ++ back))
put_between front back (Err e) = fail e

-- a value's text in a format (an unknown name has no text; no accepted filter has one)
abbrev pub text_by : Option Format → Value → Text
text_by (Some f) v = text_in f v
text_by None v = Err null

abbrev pub format_of : Name → Value → Text
format_of name v = text_by (format_named name) v

unfoldable pub on_inserted : Name → List ℕ → List ℕ → Item → Run (List ℕ)
on_inserted format front back v = put_between front back (format_of format (value_in v))

unfoldable pub on_back : Name → List ℕ → Run Item → List ℕ → Run (List ℕ)
on_back format front inserted back = bind inserted (on_inserted format front back)

-- ---- Construction of objects

abbrev pub key_error : Run Item
key_error = fail (string (codes "Object keys must be strings"))

-- the object that is made so far gets a value at a key; then the later entries are evaluated
unfoldable pub on_entry : (Members → Run Item) → Members → List ℕ → Item → Run Item
on_entry later made key v = later (put key (value_in v) made)

abbrev pub with_key : Run Item → (Members → Run Item) → Members → Value → Run Item
with_key values later made (string key) = bind values (on_entry later made key)
with_key values later made v = key_error

unfoldable pub on_entry_key : Run Item → (Members → Run Item) → Members → Item → Run Item
on_entry_key values later made key = with_key values later made (value_in key)

-- the part of a value at a key
abbrev pub part_at : Value → Value → Run Item
part_at v key = answered plain (index_of v key)

-- a key with the part of the input at that key
unfoldable pub on_own_key : Value → (Members → Run Item) → Members → Item → Run Item
on_own_key v later made key = with_key (part_at v (value_in key)) later made (value_in key)

-- ---- Patterns

-- the bindings that a pattern makes of a part, and then those of the later parts
unfoldable pub on_part : (Env → Value → Run Env) → Env → (Env → Run Env) → Item → Run Env
on_part pattern e later part = bind (pattern e (value_in part)) later

unfoldable pub on_part_key : Value → (Env → Value → Run Env) → Env → (Env → Run Env) → Item → Run Env
on_part_key v pattern e later key = bind (part_at v (value_in key)) (on_part pattern e later)

-- `$k: P` binds $k to the part, and then matches P with the part
unfoldable pub on_named_part : Name → (Env → Value → Run Env) → Env → (Env → Run Env) → Item → Run Env
on_named_part n pattern e later part = bind (pattern (bound (value_of n (value_in part)) e) (value_in part)) later

unfoldable pub on_source : (Env → Value → Run Env) → Env → Item → Run Env
on_source pattern e v = pattern e (value_in v)

-- a tree's run, as a function of the bindings; below, as a function of the item
unfoldable pub in_bindings : (Env → ℕ → Item → Run Item) → ℕ → Item → Env → Run Item
in_bindings body k x e = body e k x

unfoldable pub on_state : (Env → ℕ → Item → Run Item) → ℕ → Env → Item → Run Item
on_state body k e state = body e k state
