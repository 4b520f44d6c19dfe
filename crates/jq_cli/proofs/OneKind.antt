-- A fault that `clap` finds in words has one kind, if the command has no subcommands.
use Rattle.std.proofs.Common.{◌≡◌, ◌+◌, ℕ, zero, suc, Bool, true, false, not, List, [], ◌∷◌, Option, Some, None, cond, sym, ap, inl, inr, length, min}
use Rattle.std.specs.List.{list_any}
use Rattle.std.specs.Option.{option_map_or}
use Rattle.std.specs.Prelude.{◌&&◌, ◌||◌, ◌==◌, is_some, nat_lt}
use Rattle.clap.specs.Facts.{explicit_source, parser_of_value, unwrap_or_range}
use Rattle.clap.specs.Faults.{action_fault, bundle_step_fault, built_fault, check_fault, count_fault, default_fault, defaults_fault, entered_fault, flag_word_fault, flags_fault, level_fault, long_fault, option_fault, other_fault, positional_fault, react_fault, set_fault, settle_fault, short_fault, step_fault, stray_fault, turn_fault, use_fault, walk_fault}
use Rattle.clap.specs.Kinds.{IsAmong, Kinds, check_kinds, or_else, range_kinds, request_kinds, value_kinds, values_kinds}
use Rattle.clap.specs.Lexer.{long_of, short_of}
use Rattle.clap.specs.Matches.{count_text}
use Rattle.clap.specs.Simple.{App, Shape}
use Rattle.clap.specs.Takes.{is_given}
use Rattle.clap.specs.Walk.{Held, Names, Row, Rule, Step, Text, Walk, action_of, arg_by_id, arg_by_index, arg_by_long, arg_by_short, attached_value, count_of, has_row, is_empty, most_values, next, settled, subcommand, subcommand_met, trailing, value, values_or_missing, finished, walk, walk_from, walked, with_default, word_met}
use Rattle.clap.specs.declared.builder.action.ArgAction.{ArgAction}
use Rattle.clap.specs.declared.builder.action.ArgAction.TheVariants as action
use Rattle.clap.specs.declared.builder.value_parser.ValueParser.{ValueParser}
use Rattle.clap.specs.declared.error.kind.ErrorKind.{ErrorKind}
use Rattle.clap.specs.declared.error.kind.ErrorKind.TheVariants as kind

pub record IsOne (kinds : Kinds) : Type 0 where
  pub only : (k : ErrorKind) → IsAmong k kinds → kinds ≡ k ∷ []

none : IsOne []
none = record { only = λ k is. absurd is }

one : (k : ErrorKind) → IsOne (k ∷ [])
one k = record { only = λ l is. elim is [ inl same ↦ ap (λ m. m ∷ []) (sym same) | inr more ↦ absurd more ] }

either : (a b : Kinds) → IsOne a → IsOne b → IsOne (or_else a b)
either [] b x y = y
either (k ∷ ks) b x y = x

if_one : (b : Bool) (x y : Kinds) → IsOne x → IsOne y → IsOne (cond b x y)
if_one true x y f g = f
if_one false x y f g = g

each : {X : Type 0} (f : X → Kinds) (o : Option X) → ((x : X) → IsOne (f x)) → IsOne (option_map_or f o [])
each f None h = none
each f (Some x) h = h x

-- ---- one use of an argument

of_value : (ic : Bool) (p : ValueParser) (t : Text) → IsOne (value_kinds ic p t)
of_value ic p t = if_one _ _ _ none (one _)

of_values : (ic : Bool) (p : ValueParser) (ts : List Text) → IsOne (values_kinds ic p ts)
of_values ic p [] = none
of_values ic p (t ∷ ts) = either _ _ (of_value ic p t) (of_values ic p ts)

of_range : (least most n : ℕ) → IsOne (range_kinds least most n)
of_range least most n =
    if_one (nat_lt 0 least && n == 0) _ _ (one kind.InvalidValue)
    (if_one (least == most) _ _ (if_one (least == n) _ _ none (one kind.WrongNumberOfValues))
    (if_one (nat_lt n least) _ _ (one kind.TooFewValues) (if_one (nat_lt most n) _ _ (one kind.TooManyValues) none)))

of_request : (x : ArgAction) → IsOne (request_kinds x)
of_request action.Set = none
of_request action.Append = none
of_request action.SetTrue = none
of_request action.SetFalse = none
of_request action.Count = none
of_request action.Help = one _
of_request action.HelpShort = one _
of_request action.HelpLong = one _
of_request action.Version = one _

of_count : (a : Rule) (ts : List Text) (rows : List Row) → IsOne (count_fault a ts rows)
of_count a [] rows = of_value a.ignore_case (parser_of_value a.parser) (count_text (min (count_of a.id rows + 1) 255))
of_count a (t ∷ ts) rows = of_values a.ignore_case (parser_of_value a.parser) (t ∷ ts)

of_set : (again : Bool) (a : Rule) (ts : List Text) (rows : List Row) → IsOne (set_fault again a ts rows)
of_set again a ts rows = either _ _ (if_one _ _ _ (one _) none) (of_values _ _ ts)

of_action : (x : ArgAction) (again : Bool) (a : Rule) (ts : List Text) (rows : List Row) → IsOne (action_fault x again a ts rows)
of_action action.Set again a ts rows = of_set again a ts rows
of_action action.SetTrue again a ts rows = of_set again a ts rows
of_action action.SetFalse again a ts rows = of_set again a ts rows
of_action action.Append again a ts rows = of_values _ _ ts
of_action action.Count again a ts rows = of_count a ts rows
of_action action.Help again a ts rows = one _
of_action action.HelpShort again a ts rows = one _
of_action action.HelpLong again a ts rows = one _
of_action action.Version again a ts rows = one _

of_use : (again : Bool) (a : Rule) (ts : List Text) (rows : List Row) → IsOne (use_fault again a ts rows)
of_use again a ts rows = either _ _ (of_range (unwrap_or_range a.range).start_inclusive (most_values a) (length ts)) (of_action (action_of a) again a (values_or_missing a ts) rows)

-- ---- the walk

of_settle : (c : List Rule) (again : Bool) (h : Held) → IsOne (settle_fault c again h)
of_settle c again h = each _ h.pending (λ (p : Text × List Text). each _ (arg_by_id c p.0) (λ a. of_use again a p.1 h.rows))

of_react : (c : List Rule) (again : Bool) (a : Rule) (ts : List Text) (h : Held) → IsOne (react_fault c again a ts h)
of_react c again a ts h = either _ _ (of_settle c again h) (of_use again a ts (settled c h).rows)

of_option : (c : List Rule) (again : Bool) (a : Rule) (v : Option Text) (h : Held) → IsOne (option_fault c again a v h)
of_option c again a (Some v) h = of_react c again a (v ∷ []) h
of_option c again a None h = of_settle c again h

of_long : (c : List Rule) (again : Bool) (a : Option Rule) (v : Option Text) (h : Held) → IsOne (long_fault c again a v h)
of_long c again None v h = one _
of_long c again (Some a) v h = if_one _ _ _ (of_option c again a v h) (if_one _ _ _ (one _) (of_react c again a [] h))

of_short : (c : List Rule) (again : Bool) (a : Option Rule) (rest : Text) (h : Held) (go : Held → Kinds) → ((i : Held) → IsOne (go i)) → IsOne (short_fault c again a rest h go)
of_short c again None rest h go all = one _
of_short c again (Some a) rest h go all = if_one _ _ _ (of_option c again a (attached_value rest) h) (either _ _ (of_react c again a [] h) (all _))

of_step_in_bundle : (c : List Rule) (again : Bool) (x : Option ℕ) (flags : Text) (skip : ℕ) (h : Held) (go : Text → ℕ → Held → Kinds)
    → ((t : Text) (n : ℕ) (i : Held) → IsOne (go t n i)) → IsOne (bundle_step_fault c again x flags skip h go)
of_step_in_bundle c again None flags skip h go all = none
of_step_in_bundle c again (Some x) flags zero h go all = of_short c again (arg_by_short c x) _ h _ (λ i. all _ 0 i)
of_step_in_bundle c again (Some x) flags (suc skip) h go all = all _ skip h

of_flags : (c : List Rule) (again : Bool) (k : ℕ) (flags : Text) (skip : ℕ) (h : Held) → IsOne (flags_fault c again k flags skip h)
unfolding flags_fault
of_flags c again zero flags skip h = none
of_flags c again (suc k) flags skip h = of_step_in_bundle c again _ flags skip h (flags_fault c again k) (of_flags c again k)

of_flag_word : (c : List Rule) (again : Bool) (o : Option (Text × Option Text)) (word : Text) (h : Held) → IsOne (flag_word_fault c again o word h)
of_flag_word c again (Some p) word h = of_long c again (arg_by_long c p.0) p.1 h
of_flag_word c again None word h = each _ (short_of word) (λ flags. of_flags c again (length flags) flags h.skip (record h { skip = 0 }))

of_checks : (x y z : Bool) → IsOne (check_kinds x y z)
of_checks true y z = one _
of_checks false true z = one _
of_checks false false true = one _
of_checks false false false = none

no_help_word : (b disabled : Bool) (x : Kinds) → disabled ≡ true → IsOne (cond (b && not disabled) x [])
no_help_word true true x e = none
no_help_word false true x e = none
no_help_word true false x e = cc
no_help_word false false x e = none

module _ (s : Shape) (leaf : s.is_leaf ≡ true) (no_help : s.disable_help_subcommand ≡ true) where
  of_other : (o : Option Text) (word : Text) (h : Held) → IsOne (other_fault s o word h)
  of_other (Some name) word h = no_help_word _ _ _ no_help
  of_other None word h = if_one _ _ _ none (of_flag_word s.rules s.args_override_self (long_of word) word h)

  of_stray : IsOne (stray_fault s)
  of_stray = rw leaf (one kind.UnknownArgument)

  of_step : (position : ℕ) (h : Held) (step : Step) → IsOne (step_fault s position h step)
  of_step position h value = go (arg_by_index s.rules position)
    where
      go : (o : Option Rule) → IsOne (option_map_or (λ a. positional_fault s.rules s.args_override_self a h) o (stray_fault s))
      go None = of_stray
      go (Some a) = if_one _ _ _ none (of_settle s.rules s.args_override_self h)
  of_step position h (next w) = none
  of_step position h (trailing p) = none
  of_step position h (subcommand name) = none

  of_turn : (names : Names) (w : Walk) (word : Text) → IsOne (turn_fault s names w word)
  of_turn names w word =
      let met = word_met s.rules names w.is_trailing w.waiting w.position word w.held in
      if_one (is_some w.stopped) _ _ none
      (either _ _ (if_one w.is_trailing _ _ none (of_other (subcommand_met names w.waiting word) word w.held)) (of_step w.position met.0 met.1))

  of_walk : (names : Names) (w : Walk) (words : List Text) → IsOne (walk_fault s names w words)
  unfolding walk_fault
  of_walk names w [] = none
  of_walk names w (word ∷ words) = either _ _ (of_turn names w word) (of_walk names (walked s.rules names w word) words)

  of_default : (rows : List Row) (a : Rule) → IsOne (default_fault rows a)
  of_default rows a = if_one (has_row a.id rows || is_empty a.defaults) _ _ none (either _ _ (of_request (action_of a)) (of_values a.ignore_case (parser_of_value a.parser) a.defaults))

  of_defaults : (rows : List Row) (rules : List Rule) → IsOne (defaults_fault rows rules)
  unfolding defaults_fault
  of_defaults rows [] = none
  of_defaults rows (a ∷ rest) = either _ _ (of_default rows a) (of_defaults (with_default rows a) rest)

  of_check : (rows : List Row) (has_subcommand : Bool) → IsOne (check_fault s rows has_subcommand)
  of_check rows has_subcommand =
      of_checks (not has_subcommand && (s.arg_required_else_help && not (list_any (λ r. explicit_source r.source) rows)))
      (not has_subcommand && s.subcommand_required)
      (not (s.subcommand_negates_reqs && has_subcommand) && list_any (λ a. a.required && not (is_given a.id rows)) s.rules)

  of_level : (names : Names) (h : Held) (words : List Text) (has_subcommand : Bool) (below : Kinds) → IsOne below → IsOne (level_fault s names h words has_subcommand below)
  of_level names h words has_subcommand below is =
      let end = (walk s.rules names h words).held in
      either _ _ (of_walk names (walk_from h) words)
      (either _ _ is (either _ _ (of_settle s.rules s.args_override_self end)
      (either _ _ (of_defaults (settled s.rules end).rows s.rules) (of_check (finished s.rules end) has_subcommand))))

-- no subcommand is entered, since there are none
of_entered : (a : App) → a.subs ≡ [] → (stop : Option (Text × List Text)) → IsOne (entered_fault a stop)
of_entered a e None = none
of_entered a e (Some p) = rw e none

pub of_fault : (a : App) (h : Held) (words : List Text) → a.top.is_leaf ≡ true → a.top.disable_help_subcommand ≡ true → a.subs ≡ [] → IsOne (built_fault a h words)
of_fault a h words leaf no_help subs = of_level a.top leaf no_help _ h words _ _ (of_entered a subs _)
