-- Where a token begins.
use Rattle.std.proofs.Common.{◌≡◌, ◌∙◌, ℕ, ◌+◌, ◌-◌, ◌<◌, ◌≤◌, List, [], ◌++◌, length, take, refl, sym, ap, subst, arith, length-append, encode_utf8_all}
use Rattle.std.proofs.lemmas.List.{length-map}
use Rattle.jq_tree.specs.Token as token
use Rattle.jq_tree.specs.Lexing.{between, Reads}
use Rattle.jq_tree.specs.laws.OneReading.{OneTokenList, TokensOrBadToken}
use Rattle.jq_lexer.specs.Places.{TokenAt, HasAtMost}
use Rattle.jq_lexer.specs.Views.{token_of}
use Rattle.jq_lexer.specs.private.Spots.{spot_of, tokens_of, Takes, AnswersLexed}
use Rattle.jq_lexer.specs.declared.lexing.Lexed.{Lexed}
use Rattle.jq_lexer.specs.declared.lexing.Lexed.TheVariants as lexed
use Rattle.jq_lexer.specs.declared.lexing.Lexer.{Lexer}
use Rattle.jq_lexer.proofs.Readings.{bad_token, front_of}
use Rattle.jq_lexer.proofs.Taking.{lex_done, lex_missing}

-- The lexer has read the text so far, and has no more tokens than this number.
pub record HasRead (text : List ℕ) (number : ℕ) (l : Lexer) : Type 0 where
  pub read : Reads (between []) text (tokens_of l) (spot_of l) l.rest.now
  pub few : length l.tokens.items ≤ number

count_of : (l : Lexer) → length (tokens_of l) ≡ length l.tokens.items
count_of l = length-map l.tokens.items token_of

taken_size : (old new : Lexer) (t : Takes old new) → length new.tokens.items ≡ length old.tokens.items + length t.taken
taken_size old new t = sym (count_of new) ∙ ap length t.tokens ∙ length-append (tokens_of old) t.taken ∙ ap (λ n. n + length t.taken) (count_of old)

pub takes_at : (old new : Lexer) (s : Lexed) → s ≡ lexed.Taken → AnswersLexed old s new → Takes old new
takes_at old new s e h = subst (λ (x : Lexed). AnswersLexed old x new) e h

pub token_at : (text : List ℕ) (number n at_byte : ℕ) (old new : Lexer) → HasRead text number old → Takes old new → number < length new.tokens.items → n ≡ length text - length old.rest.now
    → at_byte ≡ length (encode_utf8_all (take n text)) → TokenAt text number at_byte
token_at text number n at_byte old new d t some e p =
    let size = taken_size old new t in
    let few = d.few in
    let count = count_of old in
    record {
      before = tokens_of old;
      spot = spot_of old;
      front = take n text;
      rest = old.rest.now;
      word = t.taken;
      whole = front_of d.read ∙ ap (λ (k : ℕ). take k text ++ old.rest.now) (sym e);
      read = d.read;
      begins = t.begins (λ k. none_taken t.taken k size few some);
      no_later = omega (arith, count, few);
      no_earlier = omega (arith, count, size, some);
      place = p;
    }
  where
    none_taken : (ts : List token.Token) {m k : ℕ} → ts ≡ [] → m ≡ k + length ts → k ≤ number → number < m → ⊥
    none_taken ts k e f g = let z = ap length k in omega (arith, z, e, f, g)

pub few_done : OneTokenList → (text : List ℕ) (number : ℕ) (old new : Lexer) (s : Lexed) → s ≡ lexed.Done → HasRead text number old → AnswersLexed old s new → HasAtMost text number
few_done one text number old new s e d h ts l =
    let kept = subst (λ (x : Lexed). AnswersLexed old x new) e h in
    let all = lex_done text old new s e d.read h in
    let same = ap length (one text ts (tokens_of new) l all ∙ kept.0.tokens) in
    let count = count_of old in
    let few = d.few in
    omega (arith, same, count, few)

pub few_missing : TokensOrBadToken → (text : List ℕ) (number : ℕ) (old new : Lexer) (s : Lexed) → s ≡ lexed.Missing → HasRead text number old → AnswersLexed old s new → HasAtMost text number
few_missing either text number old new s e d h ts l =
    let n = length text - length old.rest.now in
    let missing = lex_missing old new s e h in
    absurd (either text ts (length (encode_utf8_all (take n text))) l (bad_token text (tokens_of old) (spot_of old) old.rest.now n _ d.read (missing.1) refl refl))
