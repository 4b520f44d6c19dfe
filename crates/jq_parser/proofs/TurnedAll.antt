-- The turns end with the tree of the grammar.
use Rattle.std.proofs.Common.{ℕ, ◌≤◌, List, [], ◌∷◌, ◌++◌, true, false, append_assoc, arith}
use Rattle.jq_tree.specs.Tree.{Name, Tree, Trees, Pieces, Entry, Entries, Pattern, Patterns, Part, Parts}
use Rattle.jq_tree.specs.Tree as tree
use Rattle.jq_tree.specs.Token.{Token, keyword, symbol}
use Rattle.jq_tree.specs.Token as token
use Rattle.jq_tree.specs.WrittenOut.{Parameter}
use Rattle.jq_tree.specs.Grammar.{Suffix}
use Rattle.jq_tree.specs.Grammar as g
use Rattle.jq_parser.proofs.Follow.{kind}
use Rattle.jq_parser.proofs.First.{Post-kind, Level-kind, Commas-kind, Pipe-kind, Def-first, Str-first, Br-first, Suf-follow, Ents-open}
use Rattle.jq_parser.specs.laws.Machine.{go, want_main, turns}
use Rattle.jq_parser.proofs.Ends.{Ends, at_end, by_turn}
use Rattle.jq_parser.proofs.Turned.{PipeTurns, UnaTurns, BodyTurns, EndsTurns, PostTurns, BrTurns, SufTurns, StrTurns, BranchesTurns, ArgsTurns, ValTurns, EntTurns, EntsTurns, PatTurns, PatsTurns, PEntTurns, PEntsTurns, CommasTurns, OpenedTurns, DefTurns, MainTurns, LevelTurns, is_minus, is_body_minus, is_try_only, is_try_catch, is_post, is_body_post, is_operand, is_tighter, is_left, is_right, is_alone, is_one, is_more, is_listed, is_piped, is_last_open, is_opened, is_plain_def, is_def_with, is_defined, is_labelled, is_bound, is_one_piece, is_interpolated, is_pat_variable, is_pat_items, is_pat_members, is_one_pat, is_more_pats, is_pent_variable, is_pent_variable_with, is_pent_key, is_pent_text, is_pent_computed, is_one_pent, is_more_pents}
use Rattle.jq_parser.proofs.TurnedTerms.{is_one_arg, is_more_args, is_one_val, is_more_val, is_ent_variable, is_ent_key, is_ent_key_value, is_ent_text, is_ent_text_value, is_ent_formatted, is_ent_formatted_value, is_ent_computed, is_one_ent, is_more_ents, is_dot, is_two_dots, is_a_number, is_a_text, is_a_format, is_a_formatted, is_a_variable, is_a_break, is_a_literal, is_plain_call, is_call, is_brackets, is_no_items, is_items, is_no_members, is_members, is_reduce, is_foreach, is_foreach_with, is_no_else, is_with_else, is_with_elif, is_choice, is_br_all, is_br_part, is_br_slice, is_br_from, is_br_to, is_suf_field, is_suf_text, is_suf_bracket, is_suf_dot_bracket, either_end, is_field_of_input, is_text_of_input, is_step_of, is_question, is_no_filter, is_main_defined, is_main_pipe, is_main_labelled}

mutual
  def_turns : {ts : List Token} {n : Name} {ps : List Parameter} {t : Tree} → g.Def ts n ps t → DefTurns ts n ps t
  def_turns (g.plain_def {n = n} {ts = ts} {t = t} d) = is_plain_def n ts t (pipe_turns d)
  def_turns (g.def_with {n = n} {xs = xs} {ys = ys} {ps = ps} {t = t} p d) = is_def_with n xs ys ps t p (pipe_turns d)

  pub pipe_turns : {ts : List Token} {t : Tree} → g.Pipe ts t → PipeTurns ts t
  pipe_turns (g.opened {ts = ts} {t = t} d) = is_opened ts t (opened_turns d)
  pipe_turns (g.listed {ts = ts} {t = t} d) = is_listed ts t (commas_turns d)
  pipe_turns (g.piped {xs = xs} {ys = ys} {a = a} {b = b} d e) = is_piped xs ys a b (commas_turns d) (pipe_turns e)
  pipe_turns (g.last_open {xs = xs} {ys = ys} {a = a} {b = b} d e) = is_last_open xs ys a b (commas_turns d) (opened_turns e)

  opened_turns : {ts : List Token} {t : Tree} → g.Opened ts t → OpenedTurns ts t
  opened_turns (g.defined {n = n} {ps = ps} {xs = xs} {ys = ys} {a = a} {b = b} d e) = is_defined n ps xs ys a b (Def-first d) (def_turns d) (pipe_turns e)
  opened_turns (g.bound {xs = xs} {ps = ps} {ys = ys} {a = a} {b = b} {p = x} d p e) = is_bound xs ps ys a b x (Post-kind d) (post_turns d) (pat_turns p) (pipe_turns e)
  opened_turns (g.labelled {n = n} {ts = ts} {t = t} d) = is_labelled n ts t (pipe_turns d)

  commas_turns : {ts : List Token} {t : Tree} → g.Commas ts t → CommasTurns ts t
  commas_turns (g.one {ts = ts} {t = t} d) = is_one ts t (Level-kind d) (level_turns d)
  commas_turns (g.more {xs = xs} {ys = ys} {a = a} {b = b} d e) = is_more xs ys a b (Level-kind e) (commas_turns d) (level_turns e)

  level_turns : {l : ℕ} {ts : List Token} {t : Tree} → g.Level l ts t → LevelTurns l ts t
  level_turns (g.operand {ts = ts} {t = t} d) = is_operand ts t (una_turns d)
  level_turns (g.tighter {l = l} {ts = ts} {t = t} d) = is_tighter l ts t (level_turns d)
  level_turns (g.to_left {l = l} o {xs = xs} {ys = ys} {a = a} {b = b} h s d e) = is_left l o xs ys a b h s (level_turns d) (level_turns e)
  level_turns (g.to_right {l = l} o {xs = xs} {ys = ys} {a = a} {b = b} h s d e) = is_right l o xs ys a b h s (level_turns d) (level_turns e)
  level_turns (g.alone {l = l} o {xs = xs} {ys = ys} {a = a} {b = b} h s d e) = is_alone l o xs ys a b h s (level_turns d) (level_turns e)

  una_turns : {ts : List Token} {t : Tree} → g.Una ts t → UnaTurns ts t
  una_turns (g.minus {ts = ts} {t = t} d) = is_minus ts t (una_turns d)
  una_turns (g.try_only {ts = ts} {t = t} d) = is_try_only ts t (body_turns d)
  una_turns (g.try_catch {xs = xs} {ys = ys} {a = a} {b = b} d e) = is_try_catch xs ys a b (body_turns d) (body_turns e)
  una_turns (g.post {ts = ts} {t = t} d) = is_post ts t (Post-kind d) (post_turns d)

  body_turns : {ts : List Token} {t : Tree} → g.Body ts t → BodyTurns ts t
  body_turns (g.body_minus {ts = ts} {t = t} d) = is_body_minus ts t (body_turns d)
  body_turns (g.body_post {ts = ts} {t = t} d) = is_body_post ts t (Post-kind d) (post_turns d)

  post_turns : {ts : List Token} {t : Tree} → g.Post ts t → PostTurns ts t
  post_turns (g.ends_with_step {ts = ts} {t = t} d) = either_end true ts t (stepped_turns d)
  post_turns (g.ends_otherwise {ts = ts} {t = t} d) = either_end false ts t (closed_turns d)

  stepped_turns : {ts : List Token} {t : Tree} → g.Stepped ts t → EndsTurns true ts t
  stepped_turns (g.field_of_input {n = n}) = is_field_of_input n
  stepped_turns (g.text_of_input {ts = ts} {ps = ps} d) = is_text_of_input ts ps (Str-first d) (str_turns d)
  stepped_turns (g.step_of {xs = xs} {ys = ys} {t = t} {s = s} d e) = is_step_of xs ys t s (Suf-follow e) (post_turns d) (suf_turns e)

  closed_turns : {ts : List Token} {t : Tree} → g.Closed ts t → EndsTurns false ts t
  closed_turns (g.term d) = term_turns d
  closed_turns (g.step_guarded {ts = ts} {t = t} d) = is_question true ts t (stepped_turns d)
  closed_turns (g.attempted {ts = ts} {t = t} d) = is_question false ts t (closed_turns d)

  suf_turns : {ts : List Token} {s : Suffix} → g.Suf ts s → SufTurns ts s
  suf_turns (g.suf_field {n = n}) = is_suf_field n
  suf_turns (g.suf_text {ts = ts} {ps = ps} d) = is_suf_text ts ps (Str-first d) (str_turns d)
  suf_turns (g.suf_bracket {ts = ts} {s = s} d) = is_suf_bracket ts s (Br-first d) (br_turns d)
  suf_turns (g.suf_dot_bracket {ts = ts} {s = s} d) = is_suf_dot_bracket ts s (Br-first d) (br_turns d)

  br_turns : {ts : List Token} {s : Suffix} → g.Br ts s → BrTurns ts s
  br_turns g.br_all = is_br_all
  br_turns (g.br_part {ts = ts} {t = t} d) = is_br_part ts t (Pipe-kind d) (pipe_turns d)
  br_turns (g.br_slice {xs = xs} {ys = ys} {a = a} {b = b} d e) = is_br_slice xs ys a b (Pipe-kind d) (Pipe-kind e) (pipe_turns d) (pipe_turns e)
  br_turns (g.br_from {ts = ts} {t = t} d) = is_br_from ts t (Pipe-kind d) (pipe_turns d)
  br_turns (g.br_to {ts = ts} {t = t} d) = is_br_to ts t (pipe_turns d)

  term_turns : {ts : List Token} {t : Tree} → g.Term ts t → EndsTurns false ts t
  term_turns g.dot = is_dot
  term_turns g.two_dots = is_two_dots
  term_turns (g.a_number {n = n}) = is_a_number n
  term_turns (g.a_text {ts = ts} {ps = ps} d) = is_a_text ts ps (Str-first d) (str_turns d)
  term_turns (g.a_format {f = f}) = is_a_format f
  term_turns (g.a_formatted {f = f} {ts = ts} {ps = ps} d) = is_a_formatted f ts ps (Str-first d) (str_turns d)
  term_turns (g.a_variable {n = n}) = is_a_variable n
  term_turns (g.a_break {n = n}) = is_a_break n
  term_turns (g.a_literal {n = n} {v = v} e) = is_a_literal n v e
  term_turns (g.brackets {ts = ts} {t = t} d) = is_brackets ts t (pipe_turns d)
  term_turns g.no_items = is_no_items
  term_turns (g.items {ts = ts} {t = t} d) = is_items ts t (Pipe-kind d) (pipe_turns d)
  term_turns g.no_members = is_no_members
  term_turns (g.members {ts = ts} {es = es} d) = is_members ts es (Ents-open d) (ents_turns d)
  term_turns (g.a_reduce {xs = xs} {ps = ps} {ys = ys} {zs = zs} {a = a} {b = b} {c = c} {p = x} d p e f) =
      is_reduce xs ps ys zs a b c x (post_turns d) (pat_turns p) (pipe_turns e) (pipe_turns f)
  term_turns (g.a_foreach {xs = xs} {ps = ps} {ys = ys} {zs = zs} {a = a} {b = b} {c = c} {p = x} d p e f) =
      is_foreach xs ps ys zs a b c x (post_turns d) (pat_turns p) (pipe_turns e) (pipe_turns f)
  term_turns (g.foreach_with {xs = xs} {ps = ps} {ys = ys} {zs = zs} {us = us} {a = a} {b = b} {c = c} {d = u} {p = x} d p e f k) =
      is_foreach_with xs ps ys zs us a b c u x (post_turns d) (pat_turns p) (pipe_turns e) (pipe_turns f) (pipe_turns k)
  term_turns (g.a_choice {ts = ts} {t = t} d) = is_choice ts t (branches_turns d)
  term_turns (g.plain_call {n = n} e) = is_plain_call n e
  term_turns (g.call_with {n = n} {ts = ts} {as_trees = us} d) = is_call n ts us (args_turns d)

  branches_turns : {ts : List Token} {t : Tree} → g.Branches ts t → BranchesTurns ts t
  branches_turns (g.no_else {xs = xs} {ys = ys} {a = a} {b = b} d e) = is_no_else xs ys a b (pipe_turns d) (pipe_turns e)
  branches_turns (g.with_else {xs = xs} {ys = ys} {zs = zs} {a = a} {b = b} {c = c} d e f) = is_with_else xs ys zs a b c (pipe_turns d) (pipe_turns e) (pipe_turns f)
  branches_turns (g.with_elif {xs = xs} {ys = ys} {zs = zs} {a = a} {b = b} {c = c} d e f) = is_with_elif xs ys zs a b c (pipe_turns d) (pipe_turns e) (branches_turns f)

  args_turns : {ts : List Token} {us : Trees} → g.Args ts us → ArgsTurns ts us
  args_turns (g.one_arg {ts = ts} {t = t} d) = is_one_arg ts t (pipe_turns d)
  args_turns (g.more_args {xs = xs} {ys = ys} {t = t} {us = us} d e) = is_more_args xs ys t us (pipe_turns d) (args_turns e)

  str_turns : {ts : List Token} {ps : Pieces} → g.Str ts ps → StrTurns ts ps
  str_turns (g.one_piece {s = s}) = is_one_piece s
  str_turns (g.interpolated {s = s} {xs = xs} {ys = ys} {t = t} {ps = ps} d e) = is_interpolated s xs ys t ps (pipe_turns d) (str_turns e)

  ent_turns : {ts : List Token} {e : Entry} → g.Ent ts e → EntTurns ts e
  ent_turns (g.ent_variable {n = n}) = is_ent_variable n
  ent_turns (g.ent_key {k = k} {s = s} key) = is_ent_key k s key
  ent_turns (g.ent_key_value {k = k} {s = s} {ts = ts} {t = t} key d) = is_ent_key_value k s ts t key (val_turns d)
  ent_turns (g.ent_text {ts = ts} {ps = ps} d) = is_ent_text ts ps (Str-first d) (str_turns d)
  ent_turns (g.ent_text_value {xs = xs} {ys = ys} {ps = ps} {t = t} d e) = is_ent_text_value xs ys ps t (Str-first d) (str_turns d) (val_turns e)
  ent_turns (g.ent_formatted {f = f} {ts = ts} {ps = ps} d) = is_ent_formatted f ts ps (str_turns d)
  ent_turns (g.ent_formatted_value {f = f} {xs = xs} {ys = ys} {ps = ps} {t = t} d e) = is_ent_formatted_value f xs ys ps t (str_turns d) (val_turns e)
  ent_turns (g.ent_computed {xs = xs} {ys = ys} {a = a} {b = b} d e) = is_ent_computed xs ys a b (pipe_turns d) (val_turns e)

  ents_turns : {ts : List Token} {es : Entries} → g.Ents ts es → EntsTurns ts es
  ents_turns (g.one_ent {ts = ts} {e = e} d) = is_one_ent ts e (ent_turns d)
  ents_turns (g.more_ents {xs = xs} {ys = ys} {e = e} {es = es} d f) = is_more_ents xs ys e es (ent_turns d) (ents_turns f)

  val_turns : {ts : List Token} {t : Tree} → g.Val ts t → ValTurns ts t
  val_turns (g.one_val {ts = ts} {t = t} d) = is_one_val ts t (level_turns d)
  val_turns (g.more_val {xs = xs} {ys = ys} {a = a} {b = b} d e) = is_more_val xs ys a b (level_turns d) (val_turns e)

  pat_turns : {ts : List Token} {p : Pattern} → g.Pat ts p → PatTurns ts p
  pat_turns (g.pat_variable {n = n}) = is_pat_variable n
  pat_turns (g.pat_items {ts = ts} {ps = ps} d) = is_pat_items ts ps (pats_turns d)
  pat_turns (g.pat_members {ts = ts} {ps = ps} d) = is_pat_members ts ps (pents_turns d)

  pats_turns : {ts : List Token} {ps : Patterns} → g.Pats ts ps → PatsTurns ts ps
  pats_turns (g.one_pat {ts = ts} {p = p} d) = is_one_pat ts p (pat_turns d)
  pats_turns (g.more_pats {xs = xs} {ys = ys} {p = p} {ps = ps} d e) = is_more_pats xs ys p ps (pat_turns d) (pats_turns e)

  pent_turns : {ts : List Token} {p : Part} → g.PEnt ts p → PEntTurns ts p
  pent_turns (g.pent_variable {n = n}) = is_pent_variable n
  pent_turns (g.pent_variable_with {n = n} {ts = ts} {p = p} d) = is_pent_variable_with n ts p (pat_turns d)
  pent_turns (g.pent_key {k = k} {s = s} {ts = ts} {p = p} key d) = is_pent_key k s ts p key (pat_turns d)
  pent_turns (g.pent_text {xs = xs} {ys = ys} {ps = ps} {p = p} d e) = is_pent_text xs ys ps p (Str-first d) (str_turns d) (pat_turns e)
  pent_turns (g.pent_computed {xs = xs} {ys = ys} {a = a} {p = p} d e) = is_pent_computed xs ys a p (pipe_turns d) (pat_turns e)

  pents_turns : {ts : List Token} {ps : Parts} → g.PEnts ts ps → PEntsTurns ts ps
  pents_turns (g.one_pent {ts = ts} {p = p} d) = is_one_pent ts p (pent_turns d)
  pents_turns (g.more_pents {xs = xs} {ys = ys} {p = p} {ps = ps} d e) = is_more_pents xs ys p ps (pent_turns d) (pents_turns e)

-- ---- all the tokens

bound_kind : {xs : List Token} {a : Tree} → g.Post xs a → (ps ys rest : List Token) → 2 ≤ kind ((xs ++ keyword token.As ∷ (ps ++ symbol token.bar ∷ ys)) ++ rest)
bound_kind d ps ys rest = rw append_assoc (omega (arith, Post-kind d (keyword token.As ∷ ((ps ++ symbol token.bar ∷ ys) ++ rest))))

after_commas : {xs : List Token} {a : Tree} → g.Commas xs a → (us rest : List Token) → 2 ≤ kind ((xs ++ us) ++ rest)
after_commas d us rest = rw append_assoc (Commas-kind d (us ++ rest))

mutual
  opened_main : {ts : List Token} {t : Tree} → g.Opened ts t → MainTurns ts t
  opened_main (g.defined {n = n} {ps = ps} {xs = xs} {ys = ys} {a = a} {b = b} d e) = is_main_defined n ps xs ys a b (Def-first d) (def_turns d) (pipe_main e)
  opened_main (g.bound {xs = xs} {ps = ps} {ys = ys} {a = a} {b = b} {p = x} d p e) =
      is_main_pipe (xs ++ keyword token.As ∷ (ps ++ symbol token.bar ∷ ys)) (tree.bind_as a x b) (bound_kind d ps ys) (pipe_turns (g.opened (g.bound d p e)))
  opened_main (g.labelled {n = n} {ts = ts} {t = t} d) = is_main_labelled n ts (tree.label n t) (pipe_turns (g.opened (g.labelled d)))

  pipe_main : {ts : List Token} {t : Tree} → g.Pipe ts t → MainTurns ts t
  pipe_main (g.opened d) = opened_main d
  pipe_main (g.listed {ts = ts} {t = t} d) = is_main_pipe ts t (Commas-kind d) (pipe_turns (g.listed d))
  pipe_main (g.piped {xs = xs} {ys = ys} {a = a} {b = b} d e) = is_main_pipe (xs ++ symbol token.bar ∷ ys) (tree.pipe a b) (after_commas d (symbol token.bar ∷ ys)) (pipe_turns (g.piped d e))
  pipe_main (g.last_open {xs = xs} {ys = ys} {a = a} {b = b} d e) = is_main_pipe (xs ++ symbol token.comma ∷ ys) (tree.comma a b) (after_commas d (symbol token.comma ∷ ys)) (pipe_turns (g.last_open d e))

main_turns : {ts : List Token} {t : Tree} → g.Main ts t → MainTurns ts t
main_turns g.no_filter = is_no_filter
main_turns (g.main_defined {n = n} {ps = ps} {xs = xs} {ys = ys} {a = a} {b = b} d e) = is_main_defined n ps xs ys a b (Def-first d) (def_turns d) (main_turns e)
main_turns (g.main_pipe d) = pipe_main d

-- A filter's tokens end with its tree.
pub turns_end : {ts : List Token} {t : Tree} → g.Main ts t → Ends (go want_main [] ts) t
unfolding turns
turns_end {t = t} d = main_turns d [] t (by_turn at_end)
