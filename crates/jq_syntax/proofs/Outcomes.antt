-- A text has one outcome: it has one list of tokens or one bad token, and tokens have one tree.
use Rattle.std.proofs.Common.{◌≡◌, ◌∙◌, ℕ, List, refl, ap, sym, subst, true, false}
use Rattle.jq_tree.specs.Tree.{Tree}
use Rattle.jq_tree.specs.Token.{Token, TooManyTokens, TooNested}
use Rattle.jq_tree.specs.Lexing.{Lexes, BadToken}
use Rattle.jq_tree.specs.laws.OneReading.{OneTokenList, OneBadToken, TokensOrBadToken}
use Rattle.jq_tree.specs.Grammar.{Main}
use Rattle.jq_tree.specs.Names.{Reference}
use Rattle.jq_tree.specs.Inputs.{InputsInPlace}
use Rattle.jq_tree.specs.Binders.{Closed, FirstUnbound}
use Rattle.jq_tree.specs.Prelude.{IsPrelude, followed_by}
use Rattle.jq_tree.specs.Filter.{Setting, Outcome, accepted, bad_token, too_many_tokens, too_nested, syntax_error, undefined, inputs_misplaced, inputs_without_null, BecomesAfter, by_token, by_count, by_nesting, by_grammar, by_name, by_place, by_option, as_tree, reads}
use Rattle.jq_parser.specs.laws.OneTree.{OneTree}
use Rattle.jq_syntax.specs.laws.Computed.{prelude}
use Rattle.jq_syntax.specs.laws.Outcomes.{OneOutcome}

-- ---- a tree

data Judged (p : Tree) (s : Setting) (t : Tree) : Outcome → Type 0 where
  unnamed : (r : Reference) → FirstUnbound s.variables (followed_by p t) r → Judged p s t (undefined r)
  misplaced : Closed s.variables (followed_by p t) → ¬ InputsInPlace t → Judged p s t inputs_misplaced
  without_null : Closed s.variables (followed_by p t) → InputsInPlace t → reads t ≡ true → s.on_null ≡ false → Judged p s t inputs_without_null
  fit : Closed s.variables (followed_by p t) → InputsInPlace t → (reads t ≡ true → s.on_null ≡ true) → Judged p s t (accepted t)

one_first : (p t : Tree) (s : Setting) {r q : Reference} → FirstUnbound s.variables (followed_by p t) r → FirstUnbound s.variables (followed_by p t) q → r ≡ q
one_first p t s a b = let e = sym a.1 ∙ b.1 in cc

not_closed : (p t : Tree) (s : Setting) {r : Reference} → FirstUnbound s.variables (followed_by p t) r → Closed s.variables (followed_by p t) → ⊥
not_closed p t s a c = let e = sym a.1 ∙ c in cc

not_on_null : (s : Setting) → s.on_null ≡ false → s.on_null ≡ true → ⊥
not_on_null s a b = cc

judged_once : (p : Tree) (s : Setting) (t : Tree) {o q : Outcome} → Judged p s t o → Judged p s t q → o ≡ q
judged_once p s t (unnamed r a) (unnamed q b) = ap undefined (one_first p t s a b)
judged_once p s t (unnamed r a) (misplaced c m) = absurd (not_closed p t s a c)
judged_once p s t (unnamed r a) (without_null c i d n) = absurd (not_closed p t s a c)
judged_once p s t (unnamed r a) (fit c i d) = absurd (not_closed p t s a c)
judged_once p s t (misplaced c m) (unnamed r a) = absurd (not_closed p t s a c)
judged_once p s t (misplaced c m) (misplaced d n) = refl
judged_once p s t (misplaced c m) (without_null d i e n) = absurd (m i)
judged_once p s t (misplaced c m) (fit d i e) = absurd (m i)
judged_once p s t (without_null c i d n) (unnamed r a) = absurd (not_closed p t s a c)
judged_once p s t (without_null c i d n) (misplaced e m) = absurd (m i)
judged_once p s t (without_null c i d n) (without_null e j f m) = refl
judged_once p s t (without_null c i d n) (fit e j f) = absurd (not_on_null s n (f d))
judged_once p s t (fit c i d) (unnamed r a) = absurd (not_closed p t s a c)
judged_once p s t (fit c i d) (misplaced e m) = absurd (m i)
judged_once p s t (fit c i d) (without_null e j f n) = absurd (not_on_null s n (d f))
judged_once p s t (fit c i d) (fit e j f) = refl

-- ---- tokens

data Parsed (p : Tree) (s : Setting) (ts : List Token) : Outcome → Type 0 where
  many : TooManyTokens ts → Parsed p s ts too_many_tokens
  nested : ¬ TooManyTokens ts → TooNested ts → Parsed p s ts too_nested
  treeless : ¬ TooManyTokens ts → ¬ TooNested ts → ((t : Tree) → ¬ Main ts t) → Parsed p s ts syntax_error
  judged : (t : Tree) (o : Outcome) → ¬ TooManyTokens ts → ¬ TooNested ts → Main ts t → Judged p s t o → Parsed p s ts o

parsed_once : OneTree → (p : Tree) (s : Setting) (ts : List Token) {o q : Outcome} → Parsed p s ts o → Parsed p s ts q → o ≡ q
parsed_once one p s ts (many a) (many b) = refl
parsed_once one p s ts (many a) (nested f b) = absurd (f a)
parsed_once one p s ts (many a) (treeless f g b) = absurd (f a)
parsed_once one p s ts (many a) (judged t o f g m j) = absurd (f a)
parsed_once one p s ts (nested f a) (many b) = absurd (f b)
parsed_once one p s ts (nested f a) (nested g b) = refl
parsed_once one p s ts (nested f a) (treeless g h b) = absurd (h a)
parsed_once one p s ts (nested f a) (judged t o g h m j) = absurd (h a)
parsed_once one p s ts (treeless f g a) (many b) = absurd (f b)
parsed_once one p s ts (treeless f g a) (nested h b) = absurd (g b)
parsed_once one p s ts (treeless f g a) (treeless h i b) = refl
parsed_once one p s ts (treeless f g a) (judged t o h i m j) = absurd (a t m)
parsed_once one p s ts (judged t o f g m j) (many b) = absurd (f b)
parsed_once one p s ts (judged t o f g m j) (nested h b) = absurd (g b)
parsed_once one p s ts (judged t o f g m j) (treeless h i b) = absurd (b t m)
parsed_once one p s ts (judged t o f g m j) (judged u q h i n k) = judged_once p s t j (subst (λ v. Judged p s v q) (one ts u t n m) k)

-- ---- a text

data Lexed (p : Tree) (s : Setting) (text : List ℕ) : Outcome → Type 0 where
  broken : (at_byte : ℕ) → BadToken text at_byte → Lexed p s text (bad_token at_byte)
  whole : (ts : List Token) (o : Outcome) → Lexes text ts → Parsed p s ts o → Lexed p s text o

lexed_once : OneTokenList → OneBadToken → TokensOrBadToken → OneTree → (p : Tree) (s : Setting) (text : List ℕ) {o q : Outcome}
    → Lexed p s text o → Lexed p s text q → o ≡ q
lexed_once tokens bad either one p s text (broken i a) (broken j b) = ap bad_token (bad text i j a b)
lexed_once tokens bad either one p s text (broken i a) (whole us q b y) = absurd (either text us i b a)
lexed_once tokens bad either one p s text (whole ts o a x) (broken j b) = absurd (either text ts j a b)
lexed_once tokens bad either one p s text (whole ts o a x) (whole us q b y) = parsed_once one p s ts x (subst (λ vs. Parsed p s vs q) (tokens text us ts b a) y)

in_stages : (p : Tree) (s : Setting) (text : List ℕ) {o : Outcome} → BecomesAfter p s text o → Lexed p s text o
in_stages p s text (by_token b) = broken _ b
in_stages p s text (by_count ts a b) = whole ts _ a (many b)
in_stages p s text (by_nesting ts a f b) = whole ts _ a (nested f b)
in_stages p s text (by_grammar ts w none) = whole ts _ w.lexes (treeless w.few w.flat none)
in_stages p s text (by_name t w first) = whole w.tokens _ w.within.lexes (judged t _ w.within.few w.within.flat w.tree (unnamed _ first))
in_stages p s text (by_place t w c m) = whole w.tokens _ w.within.lexes (judged t _ w.within.few w.within.flat w.tree (misplaced c m))
in_stages p s text (by_option t w c i d n) = whole w.tokens _ w.within.lexes (judged t _ w.within.few w.within.flat w.tree (without_null c i d n))
in_stages p s text (as_tree w c i d) = whole w.tokens _ w.within.lexes (judged _ _ w.within.few w.within.flat w.tree (fit c i d))

pub outcome_once : OneTokenList → OneBadToken → TokensOrBadToken → OneTree → ((p : Tree) → IsPrelude p → p ≡ prelude) → OneOutcome
outcome_once tokens bad either one preludes s text o q a b =
    lexed_once tokens bad either one a.0 s text (in_stages a.0 s text a.2)
    (in_stages a.0 s text (subst (λ p. BecomesAfter p s text q) (preludes b.0 b.1 ∙ sym (preludes a.0 a.1)) b.2))
