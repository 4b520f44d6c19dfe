-- When a text is refused for its syntax.
use Rattle.std.proofs.Common.{◌≡◌, ℕ, List, refl, subst}
use Rattle.jq_tree.specs.Token.{Token, TooManyTokens, TooNested}
use Rattle.jq_tree.specs.Filter.{Within}
use Rattle.jq_tree.specs.Grammar.{Main}
use Rattle.jq_tree.specs.laws.OneReading.{OneTokenList, TokensOrBadToken}
use Rattle.jq_lexer.specs.Places.{TokenAt}
use Rattle.jq_parser.specs.Refusals.{HasTree, IsRefusedAt}
use Rattle.jq_syntax.specs.SyntaxPlaces.{IsSyntaxError, IsSyntaxErrorAt}
use Rattle.jq_syntax.specs.private.Reading.{IsNotWithin}
use Rattle.jq_syntax.specs.declared.faults.CompileFault.{CompileFault}
use Rattle.jq_syntax.specs.declared.faults.CompileFault.TheVariants as fault
use Rattle.jq_syntax.specs.declared.syntax_places.SyntaxPlace.TheVariants as syntax_place

pub refused_before : OneTokenList → TokensOrBadToken → (text : List ℕ) (f : CompileFault) → IsNotWithin text f → (f ≡ fault.NoMemory → ⊥) → ¬ IsSyntaxError text
refused_before tokens either text (fault.Lex at) h n s = either text s.0 at s.1.lexes h
refused_before tokens either text fault.TooManyTokens h n s = s.1.few (subst TooManyTokens (tokens text h.0 s.0 h.1 s.1.lexes) h.2)
refused_before tokens either text fault.TooNested h n s = s.1.flat (subst TooNested (tokens text h.0 s.0 h.1 s.1.lexes) h.3)
refused_before tokens either text fault.NoMemory h n s = n refl
refused_before tokens either text fault.Syntax h n s = h
refused_before tokens either text (fault.Undefined name) h n s = h
refused_before tokens either text fault.InputsPlace h n s = h
refused_before tokens either text fault.InputsNeedNull h n s = h

pub not_refused : OneTokenList → (text : List ℕ) (ts : List Token) → Within text ts → HasTree ts → ¬ IsSyntaxError text
not_refused tokens text ts w h s = s.2 h.0 (subst (λ (us : List Token). Main us h.0) (tokens text ts s.0 w.lexes s.1.lexes) h.1)

pub refused_at : (text : List ℕ) (ts : List Token) (n at_byte : ℕ) → Within text ts → IsRefusedAt ts n → TokenAt text n at_byte → IsSyntaxErrorAt text (syntax_place.At at_byte)
refused_at text ts n at_byte w r t = record { error = (ts, w, r.refused); place = (n, t) }

pub refused_at_end : (text : List ℕ) (ts : List Token) (n : ℕ) → Within text ts → IsRefusedAt ts n → IsSyntaxErrorAt text syntax_place.AtEnd
refused_at_end text ts n w r = record { error = (ts, w, r.refused); place = tt }
