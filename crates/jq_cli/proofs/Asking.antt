-- From the answer of `clap` to what the words of a command line ask for.
use Rattle.std.proofs.Common.{◌≡◌, ◌⊎◌, ◌∙◌, List, [], ◌∷◌, true, refl, sym, ap, subst, inl, inr}
use Rattle.clap.specs.Kinds.{HasKind, IsAmong}
use Rattle.clap.specs.Simple.{built}
use Rattle.clap.specs.Walk.{nothing_held}
use Rattle.clap.specs.Words.{App, HasMatchesOf, Text, fault_of, found_of, is_simple, is_simple_and_free, kind_of, matches_of, rows_of}
use Rattle.clap.specs.declared.error.Error.{Error}
use Rattle.clap.specs.declared.error.kind.ErrorKind.{ErrorKind}
use Rattle.clap.specs.declared.error.kind.ErrorKind.TheVariants as error_kind
use Rattle.clap.specs.declared.parser.matches.ArgMatches.{ArgMatches}
use Rattle.jq_cli.specs.Answers.{IsParsedAs, Configures}
use Rattle.jq_cli.specs.Command.{app, entries, faults}
use Rattle.jq_cli.specs.Configuration.{Configuration, configured}
use Rattle.jq_cli.specs.Pieces.{IsTaken, Variable}
use Rattle.jq_cli.specs.private.Variables.{IsFaultOf}
use Rattle.jq_cli.proofs.OneKind.{IsOne, of_fault}
use Rattle.jq_cli.specs.declared.faults.UsageFault.{UsageFault}
use Rattle.jq_cli.specs.declared.faults.UsageFault.TheVariants.{Usage, Help, Version, Line, NoMemory}
use Rattle.std.specs.Prelude.{Err}

app_is_simple : is_simple app ≡ true
unfolding app
app_is_simple = refl

app_is_free : is_simple_and_free app ≡ true
unfolding app
app_is_free = refl

of_app : (left : List Text) → IsOne (faults left)
unfolding app faults
of_app left = of_fault (built app) nothing_held left refl refl refl

-- `clap` accepts the words
pub asks : (words left : List Text) (vars : List Variable) (m : ArgMatches) (c : Configuration) (a : App) → a ≡ app → IsTaken words left vars → HasMatchesOf a left m
    → (is_simple_and_free a ≡ true → fault_of a left ≡ []) → c ≡ configured (rows_of (found_of m)) vars → IsParsedAs words c
unfolding entries faults
asks words left vars m c a is taken matches free shown = record {
  left = left;
  vars = vars;
  taken = taken;
  accepted = ap (λ b. fault_of b left) (sym is) ∙ free (ap is_simple_and_free is ∙ app_is_free);
  asks = shown ∙ ap (λ rows. configured rows vars) ((matches (ap is_simple is ∙ app_is_simple)).0 ∙ ap (λ b. matches_of b left) is);
}

-- `clap` returns no matches: the remaining words ask for help or for the version, or it refuses them, or memory ran out
pub refuses : (words left : List Text) (vars : List Variable) (e : Error) (f : UsageFault) (a : App) → a ≡ app → IsTaken words left vars
    → (is_simple_and_free a ≡ true → HasKind (fault_of a left) e) → IsFaultOf (kind_of e) f → Configures words (Err f)
unfolding faults
refuses words left vars e f a is taken free fault = go (subst (λ b. HasKind (fault_of b left) e) is (free (ap is_simple_and_free is ∙ app_is_free)))
  where
    only : (k : ErrorKind) → IsAmong k (faults left) → faults left ≡ k ∷ []
    only = (of_app left).only

    with_kind : (k : ErrorKind) → (k ≡ error_kind.OutOfMemory) ⊎ IsAmong k (faults left) → (g : UsageFault) → IsFaultOf k g → Configures words (Err g)
    with_kind k has Usage of = absurd of
    with_kind k has NoMemory of = tt
    with_kind k (inl out) Help of =
        let bad : error_kind.OutOfMemory ≡ error_kind.DisplayHelp = sym out ∙ of in
        cc
    with_kind k (inr among) Help of = record { left = left; vars = vars; taken = taken; met = only k among ∙ ap (λ l. l ∷ []) of }
    with_kind k (inl out) Version of =
        let bad : error_kind.OutOfMemory ≡ error_kind.DisplayVersion = sym out ∙ of in
        cc
    with_kind k (inr among) Version of = record { left = left; vars = vars; taken = taken; met = only k among ∙ ap (λ l. l ∷ []) of }
    with_kind k (inl out) (Line text) of = absurd (of.0 out)
    with_kind k (inr among) (Line text) of =
        let is = only k among in
        record {
          left = left;
          vars = vars;
          taken = taken;
          refused = λ none. let bad : k ∷ [] ≡ [] = sym is ∙ none in cc;
          no_help = λ help. of.1 (let same : k ∷ [] ≡ error_kind.DisplayHelp ∷ [] = sym is ∙ help in cc);
          no_version = λ version. of.2 (let same : k ∷ [] ≡ error_kind.DisplayVersion ∷ [] = sym is ∙ version in cc);
        }

    go : HasKind (faults left) e → Configures words (Err f)
    go has = with_kind (kind_of e) has f fault
