-- What comes before a position: an operand, a comma, the parameters of a definition.
use Rattle.std.proofs.Common.{◌≡◌, ℕ, suc, List, [], ◌∷◌, ◌++◌, length, Bool, true, false, Option, Some, None, refl, append_assoc, ◌⊎◌, inl, inr}
use Rattle.jq_tree.specs.Tree.{Name, Tree}
use Rattle.jq_tree.specs.Token.{Token, keyword, name, variable, symbol}
use Rattle.jq_tree.specs.Token as token
use Rattle.jq_tree.specs.WrittenOut.{Parameter, by_filter, by_value}
use Rattle.jq_tree.specs.Grammar.{Side, Left, Right, Neither}
use Rattle.jq_tree.specs.Grammar as g
use Rattle.jq_builders.specs.Trees.{with_question, with_comma}
use Rattle.jq_parser.specs.laws.Combinators.{first}
use Rattle.jq_parser.specs.laws.Forms.{one_parameter, more_parameters, parameter_on, parameter, parameter_list, parameters_on, parameters, begins_post, both_of}
use Rattle.jq_parser.proofs.Takes.{Takes, bind_some, after_skip, ends, joins, on, expect_is, sound_list}

-- By its last part.
abbrev pub Ended : Bool → List Token → Tree → Type 0
Ended true = g.Stepped
Ended false = g.Closed

pub ended_post : (last : Bool) (xs : List Token) (a : Tree) → Ended last xs a → g.Post xs a
ended_post true xs a d = g.ends_with_step d
ended_post false xs a d = g.ends_otherwise d

pub questioned : (last : Bool) (xs : List Token) (a : Tree) → Ended last xs a → g.Closed (xs ++ symbol token.question ∷ []) (with_question last a)
questioned true xs a d = g.step_guarded d
questioned false xs a d = g.attempted d

-- what may come before the operators of level l + 1
abbrev pub StartOn : Side → ℕ → List Token → Tree → Type 0
StartOn Left l xs a = g.Level (suc l) xs a
StartOn Right l xs a = g.Level l xs a
StartOn Neither l xs a = g.Level l xs a

pub starts_on : (s : Side) (l : ℕ) (xs : List Token) (a : Tree) → g.Level l xs a → StartOn s l xs a
starts_on Left l xs a d = g.tighter d
starts_on Right l xs a d = d
starts_on Neither l xs a d = d

-- what comes before a position after a comma
abbrev pub Before : Option Tree → List Token → Type 0
Before None ws = ws ≡ []
Before (Some a) ws = (xs : List Token) × g.Commas xs a × (ws ≡ xs ++ symbol token.comma ∷ [])

pub opened_in : (before : Option Tree) (ws us : List Token) (b : Tree) → Before before ws → g.Opened us b → g.Pipe (ws ++ us) (with_comma before b)
opened_in None ws us b h d = rw h (g.opened d)
opened_in (Some a) ws us b h d = rw (h.2, append_assoc) (g.last_open h.1 d)

pub commas_in : (before : Option Tree) (ws us : List Token) (b : Tree) → Before before ws → g.Level 7 us b → g.Commas (ws ++ us) (with_comma before b)
commas_in None ws us b h d = rw h (g.one d)
commas_in (Some a) ws us b h d = rw (h.2, append_assoc) (g.more h.1 d)

abbrev pub Listed : List Token → List Parameter → Type 0
Listed us ps = ((us ≡ []) × (ps ≡ [])) ⊎ ((xs : List Token) × g.Parameters xs ps × (us ≡ symbol token.left_parenthesis ∷ (xs ++ symbol token.right_parenthesis ∷ [])))

pub def_in : (v : Name) (us ys : List Token) (ps : List Parameter) (a : Tree) → Listed us ps → g.Pipe ys a → g.Def (keyword token.Def ∷ name v ∷ (us ++ symbol token.colon ∷ (ys ++ symbol token.semicolon ∷ []))) v ps a
def_in v us ys ps a (inl h) d = rw (h.0, h.1) (g.plain_def d)
def_in v us ys ps a (inr h) d = rw (h.2, append_assoc) (g.def_with h.1 d)

abbrev Parametered : List Token → Parameter → Type 0
Parametered us (by_filter v) = us ≡ name v ∷ []
Parametered us (by_value v) = us ≡ variable v ∷ []

one_parameter_is : (us : List Token) (x : Parameter) → Parametered us x → g.Parameters us (one_parameter x)
one_parameter_is us (by_filter v) h = rw h g.last_filter
one_parameter_is us (by_value v) h = rw h g.last_value

more_parameters_is : (us ys : List Token) (x : Parameter) (ps : List Parameter) → Parametered us x → g.Parameters ys ps → g.Parameters (us ++ symbol token.semicolon ∷ ys) (more_parameters x ps)
more_parameters_is us ys (by_filter v) ps h d = rw h (g.one_filter d)
more_parameters_is us ys (by_value v) ps h d = rw h (g.one_value d)

sound_parameter : (ts : List Token) (y : Parameter × List Token) → parameter ts ≡ Some y → Takes Parametered ts y
unfolding parameter parameter_on
sound_parameter [] y e = absurd cc
sound_parameter (name v ∷ ts) y e = ends Parametered (name v ∷ ts) (by_filter v, ts) y (record { us = name v ∷ []; means = refl; parts = refl }) (after_skip (λ i. Some (by_filter v, i)) ts y e)
sound_parameter (variable v ∷ ts) y e = ends Parametered (variable v ∷ ts) (by_value v, ts) y (record { us = variable v ∷ []; means = refl; parts = refl }) (after_skip (λ i. Some (by_value v, i)) ts y e)
sound_parameter (t ∷ ts) y e = absurd cc

no_parameters : (ts : List Token) (y : List Parameter × List Token) → Some ([], ts) ≡ Some y → Takes Listed ts y
no_parameters ts y e = ends Listed ts ([], ts) y (record { us = []; means = inl (refl, refl); parts = refl }) e

pub sound_parameters : (ts : List Token) (y : List Parameter × List Token) → parameters ts ≡ Some y → Takes Listed ts y
unfolding parameters parameters_on parameter_list
sound_parameters [] y e = no_parameters [] y e
sound_parameters (symbol token.left_parenthesis ∷ ts) y e =
    let b = bind_some _ _ _ (after_skip _ ts y e) in
    let c = bind_some _ _ _ b.2 in
    let r = sound_list token.semicolon one_parameter more_parameters parameter Parametered g.Parameters sound_parameter (λ xs a d. one_parameter_is xs a d) (λ xs ys a k d f. more_parameters_is xs ys a k d f) (length ts) ts b.0 b.1 in
    ends Listed (symbol token.left_parenthesis ∷ ts) (b.0.0, c.0.1) y (record {
      us = symbol token.left_parenthesis ∷ (r.us ++ symbol token.right_parenthesis ∷ []);
      means = inr (r.us, r.means, refl);
      parts = on (symbol token.left_parenthesis) _ _ (joins _ _ _ _ _ r.parts (expect_is _ _ _ c.1));
    }) c.2
sound_parameters (t ∷ ts) y e = no_parameters (t ∷ ts) y e

pub una_is_post : (us rest : List Token) (t : Tree) → g.Una us t → begins_post (first (us ++ rest)) ≡ true → g.Post us t
una_is_post us rest t (g.minus d) h = absurd (cc h)
una_is_post us rest t (g.try_only d) h = absurd (cc h)
una_is_post us rest t (g.try_catch d f) h = absurd (cc h)
una_is_post us rest t (g.post d) h = d

pub both_is : (b c : Bool) → both_of b c ≡ true → b ≡ true
both_is true c h = refl
both_is false c h = absurd (cc h)
