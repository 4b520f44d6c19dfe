-- How the words of a command line divide into pieces.
use Rattle.jq_cli.specs.private.Variables.{Answers, TakesTwo, kind_of, with_first}
use Rattle.std.proofs.Common.{◌≡◌, ◌<◌, ◌∙◌, Bool, List, [], ◌∷◌, ◌++◌, length, arith, refl, sym, ap, ap₂, append_assoc, Option, Some, None, true, false, cond}
use Rattle.std.specs.Prelude.{flat_map, option_and_then, option_map}
use Rattle.std.specs.Str.{bytes_eq}
use Rattle.std.proofs.lemmas.List.{append-nil}
use Rattle.std.proofs.lemmas.Slice.Eq.{bytes_eq-Decides}
use Rattle.clap.specs.Words.{Text}
use Rattle.jq_cli.specs.Pieces.{Variable, Piece, stays, option, option_word, dashes, spelt, IsPiece, ArePieces, IsRest, IsTaken, staying, variable, variables, firsts}
use Rattle.std.specs.Prelude.{Result, Ok, Err, IsErrAnd}
use Rattle.jq_syntax.specs.Chosen.{variable_of}
use Rattle.jq_cli.specs.Answers.{Takes}
use Rattle.jq_cli.specs.declared.faults.UsageFault.{UsageFault}
use Rattle.jq_cli.specs.declared.faults.UsageFault.TheVariants.{Usage, Help, Version, Line, NoMemory}
use Rattle.jq_cli.specs.declared.taking.Kind.{Kind}
use Rattle.jq_cli.specs.declared.taking.Kind.TheVariants as kind
use Rattle.jq_cli.proofs.Firsts.{firsts-push}

-- ---- one more piece

spelt-push : (ps : List Piece) (p : Piece) (rest : List Text) → flat_map spelt (ps ++ p ∷ []) ++ rest ≡ flat_map spelt ps ++ (spelt p ++ rest)
spelt-push [] p rest = ap (λ ws. ws ++ rest) (append-nil (spelt p))
spelt-push (q ∷ ps) p rest =
    append_assoc (spelt q) (flat_map spelt (ps ++ p ∷ [])) rest ∙ ap (λ ws. spelt q ++ ws) (spelt-push ps p rest)
    ∙ sym (append_assoc (spelt q) (flat_map spelt ps) (spelt p ++ rest))

pieces-push : (ps : List Piece) (p : Piece) → ArePieces ps → IsPiece p → ArePieces (ps ++ p ∷ [])
pieces-push [] p are is = (is, tt)
pieces-push (q ∷ ps) p are is = (are.0, pieces-push ps p are.1 is)

pieces-rest : (ps qs : List Piece) → ArePieces (ps ++ qs) → ArePieces qs
pieces-rest [] qs are = are
pieces-rest (p ∷ ps) qs are = pieces-rest ps qs are.1

staying-push-word : (ps : List Piece) (w : Text) → staying (ps ++ stays w ∷ []) ≡ staying ps ++ w ∷ []
staying-push-word [] w = refl
staying-push-word (stays v ∷ ps) w = ap (λ ws. v ∷ ws) (staying-push-word ps w)
staying-push-word (option k n v ∷ ps) w = staying-push-word ps w

staying-push-option : (ps : List Piece) (k : Kind) (n v : Text) → staying (ps ++ option k n v ∷ []) ≡ staying ps
staying-push-option [] k n v = refl
staying-push-option (stays w ∷ ps) k n v = ap (λ ws. w ∷ ws) (staying-push-option ps k n v)
staying-push-option (option l m u ∷ ps) k n v = staying-push-option ps k n v

variables-push-word : (ps : List Piece) (w : Text) → variables (ps ++ stays w ∷ []) ≡ variables ps
variables-push-word [] w = refl
variables-push-word (stays v ∷ ps) w = variables-push-word ps w
variables-push-word (option k n v ∷ ps) w = ap (λ o. option_and_then (λ x. option_map (λ xs. x ∷ xs) o) (variable k n v)) (variables-push-word ps w)

-- a variable in front of others
abbrev before : Option Variable → Option (List Variable) → Option (List Variable)
before o rest = option_and_then (λ x. option_map (λ xs. x ∷ xs) rest) o

variables-push-option : (ps : List Piece) (all : List Variable) (k : Kind) (n v : Text) (x : Variable) → variables ps ≡ Some all → variable k n v ≡ Some x
    → variables (ps ++ option k n v ∷ []) ≡ Some (all ++ x ∷ [])
variables-push-option [] all k n v x e is =
    let none : all ≡ [] = cc in
    ap (λ o. before o (Some [])) is ∙ ap (λ xs. Some (xs ++ x ∷ [])) (sym none)
variables-push-option (stays w ∷ ps) all k n v x e is = variables-push-option ps all k n v x e is
variables-push-option (option l m u ∷ ps) all k n v x e is = go (variable l m u) (variables ps) refl e (λ ys was. variables-push-option ps ys k n v x was is)
  where
    go : (o : Option Variable) (r : Option (List Variable)) → variables ps ≡ r → before o r ≡ Some all
        → ((ys : List Variable) → variables ps ≡ Some ys → variables (ps ++ option k n v ∷ []) ≡ Some (ys ++ x ∷ []))
        → before o (variables (ps ++ option k n v ∷ [])) ≡ Some (all ++ x ∷ [])
    go None r was e rec = cc
    go (Some y) None was e rec = cc
    go (Some y) (Some ys) was e rec =
        let split : y ∷ ys ≡ all = cc in
        ap (λ r. before (Some y) r) (rec ys was) ∙ ap (λ xs. Some (xs ++ x ∷ [])) split

-- if all pieces have variables, so have the later ones
variables-rest : (ps qs : List Piece) (all : List Variable) → variables (ps ++ qs) ≡ Some all → (some : List Variable) × (variables qs ≡ Some some)
variables-rest [] qs all e = (all, e)
variables-rest (stays w ∷ ps) qs all e = variables-rest ps qs all e
variables-rest (option k n v ∷ ps) qs all e = go (variable k n v) (variables (ps ++ qs)) refl e (variables-rest ps qs)
  where
    go : (o : Option Variable) (r : Option (List Variable)) → variables (ps ++ qs) ≡ r → before o r ≡ Some all
        → ((ys : List Variable) → variables (ps ++ qs) ≡ Some ys → (some : List Variable) × (variables qs ≡ Some some))
        → (some : List Variable) × (variables qs ≡ Some some)
    go None r was e rec = cc
    go (Some y) None was e rec = cc
    go (Some y) (Some ys) was e rec = rec ys was

-- ---- there is only one division of the words

same_kind : (k l : Kind) → option_word k ≡ option_word l → k ≡ l
same_kind kind.Text kind.Text e = refl
same_kind kind.Json kind.Json e = refl
same_kind kind.Text kind.Json e = cc
same_kind kind.Json kind.Text e = cc

no_dashes : (k : Kind) → option_word k ≡ dashes → ⊥
no_dashes kind.Text e = cc
no_dashes kind.Json e = cc

no_option : (w : Text) (k : Kind) → IsPiece (stays w) → w ≡ option_word k → ⊥
no_option w kind.Text is e = is.0 e
no_option w kind.Json is e = is.1 e

-- a piece is not the beginning of the rest
no_rest : (p : Piece) (ws rest : List Text) → IsPiece p → IsRest rest → spelt p ++ ws ≡ rest → ⊥
no_rest (stays w) ws [] is end e = cc
no_rest (stays w) ws (x ∷ xs) is end e = is.2 (let same : w ≡ x = cc in same ∙ end)
no_rest (option k n v) ws [] is end e = cc
no_rest (option k n v) ws (x ∷ xs) is end e = no_dashes k (let same : option_word k ≡ x = cc in same ∙ end)

-- words that begin with the pieces `done` have them as their first pieces
aligned : (done pieces : List Piece) (left rest : List Text) → ArePieces done → ArePieces pieces → IsRest rest → flat_map spelt done ++ left ≡ flat_map spelt pieces ++ rest
    → (more : List Piece) × (pieces ≡ done ++ more) × (left ≡ flat_map spelt more ++ rest)
aligned [] pieces left rest are their end e = (pieces, refl, e)
aligned (p ∷ done) [] left rest are their end e =
    absurd (no_rest p (flat_map spelt done ++ left) rest are.0 end (sym (append_assoc (spelt p) (flat_map spelt done) left) ∙ e))
aligned (stays w ∷ done) (stays x ∷ pieces) left rest are their end e =
    let same : w ≡ x = cc in
    let tails : flat_map spelt done ++ left ≡ flat_map spelt pieces ++ rest = cc in
    let found = aligned done pieces left rest are.1 their.1 end tails in
    (found.0, ap₂ (λ v ps. stays v ∷ ps) (sym same) found.1, found.2)
aligned (stays w ∷ done) (option k n v ∷ pieces) left rest are their end e = absurd (no_option w k are.0 (let same : w ≡ option_word k = cc in same))
aligned (option k n v ∷ done) (stays w ∷ pieces) left rest are their end e = absurd (no_option w k their.0 (let same : option_word k ≡ w = cc in sym same))
aligned (option k n v ∷ done) (option l m u ∷ pieces) left rest are their end e =
    let words : option_word k ≡ option_word l = cc in
    let names : n ≡ m = cc in
    let values : v ≡ u = cc in
    let tails : flat_map spelt done ++ left ≡ flat_map spelt pieces ++ rest = cc in
    let kinds = same_kind k l words in
    let found = aligned done pieces left rest are.1 their.1 end tails in
    (found.0, (ap (λ ps. option l m u ∷ ps) found.1 ∙ ap (λ (q : Piece). q ∷ (done ++ found.0)) (sym (ap (λ j. option j n v) kinds ∙ ap₂ (λ a b. option l a b) names values))), found.2)

-- ---- the words that were read

-- The first of `words` are read; `left` remain of them and `vars` are bound. The words `ahead` are not read yet.
pub record IsRead (words ahead left : List Text) (vars : List Variable) : Type 0 where
  pub done : List Piece
  pub spells : words ≡ flat_map spelt done ++ ahead
  pub each : ArePieces done
  pub left_is : left ≡ staying done
  pub all : List Variable
  pub values : variables done ≡ Some all
  pub vars_are : vars ≡ firsts all

pub nothing_read : (words : List Text) → IsRead words words [] []
nothing_read words = record { done = []; spells = refl; each = tt; left_is = refl; all = []; values = refl; vars_are = refl }

pub read_word : {words ahead left : List Text} {vars : List Variable} (w : Text) → IsPiece (stays w) → IsRead words (w ∷ ahead) left vars → IsRead words ahead (left ++ w ∷ []) vars
read_word {ahead} w is r = record {
  done = r.done ++ stays w ∷ [];
  spells = r.spells ∙ sym (spelt-push r.done (stays w) ahead);
  each = pieces-push r.done (stays w) r.each is;
  left_is = ap (λ ws. ws ++ w ∷ []) r.left_is ∙ sym (staying-push-word r.done w);
  all = r.all;
  values = variables-push-word r.done w ∙ r.values;
  vars_are = r.vars_are;
}

pub read_option : {words ahead left : List Text} {vars : List Variable} (k : Kind) (n v : Text) (x : Variable) → variable k n v ≡ Some x → IsRead words (option_word k ∷ n ∷ v ∷ ahead) left vars
    → IsRead words ahead left (with_first vars x)
read_option {ahead} k n v x is r = record {
  done = r.done ++ option k n v ∷ [];
  spells = r.spells ∙ sym (spelt-push r.done (option k n v) ahead);
  each = pieces-push r.done (option k n v) r.each tt;
  left_is = r.left_is ∙ sym (staying-push-option r.done k n v);
  all = r.all ++ x ∷ [];
  values = variables-push-option r.done r.all k n v x r.values is;
  vars_are = ap (λ vs. with_first vs x) r.vars_are ∙ sym (firsts-push r.all x);
}

-- no words are ahead, or the first of them is `--`
pub all_read : {words ahead left : List Text} {vars : List Variable} → IsRest ahead → IsRead words ahead left vars → IsTaken words (left ++ ahead) vars
all_read {ahead} end r = record {
  pieces = r.done;
  rest = ahead;
  divided = record { spells = r.spells; each = r.each; end = end };
  left_is = ap (λ ws. ws ++ ahead) r.left_is;
  all = r.all;
  values = r.values;
  vars_are = r.vars_are;
}

-- no variables can be taken if the words ahead have no pieces with variables
stuck : {words ahead left : List Text} {vars : List Variable} → IsRead words ahead left vars
    → ((more : List Piece) (rest : List Text) (some : List Variable) → ahead ≡ flat_map spelt more ++ rest → ArePieces more → IsRest rest → variables more ≡ Some some → ⊥)
    → (others : List Text) (vs : List Variable) → ¬ IsTaken words others vs
stuck {ahead} r none others vs t =
    let found = aligned r.done t.pieces ahead t.rest r.each t.divided.each t.divided.end (sym r.spells ∙ t.divided.spells) in
    let are = pieces-rest r.done found.0 (rw found.1 at t.divided.each) in
    let values = variables-rest r.done found.0 t.all (ap variables (sym found.1) ∙ t.values) in
    none found.0 t.rest values.0 found.2 are t.divided.end values.1

-- an option lacks a word
pub stuck_short : {words ahead left : List Text} {vars : List Variable} (k : Kind) → length ahead < 2 → IsRead words (option_word k ∷ ahead) left vars
    → (others : List Text) (vs : List Variable) → ¬ IsTaken words others vs
stuck_short {ahead} k short r = stuck r go
  where
    go : (more : List Piece) (rest : List Text) (some : List Variable) → option_word k ∷ ahead ≡ flat_map spelt more ++ rest → ArePieces more → IsRest rest → variables more ≡ Some some → ⊥
    go [] [] some e are end vs = cc
    go [] (x ∷ xs) some e are end vs = no_dashes k (let same : option_word k ≡ x = cc in same ∙ end)
    go (stays w ∷ more) rest some e are end vs = no_option w k are.0 (let same : option_word k ≡ w = cc in sym same)
    go (option l m u ∷ more) rest some e are end vs =
        let tails : ahead ≡ m ∷ u ∷ (flat_map spelt more ++ rest) = cc in
        absurd (omega (arith, ap length tails))

-- an option binds nothing
pub stuck_unbound : {words ahead left : List Text} {vars : List Variable} (k : Kind) (n v : Text) → variable k n v ≡ None → IsRead words (option_word k ∷ n ∷ v ∷ ahead) left vars
    → (others : List Text) (vs : List Variable) → ¬ IsTaken words others vs
stuck_unbound {ahead} k n v none r = stuck r go
  where
    go : (more : List Piece) (rest : List Text) (some : List Variable) → option_word k ∷ n ∷ v ∷ ahead ≡ flat_map spelt more ++ rest → ArePieces more → IsRest rest → variables more ≡ Some some → ⊥
    go [] [] some e are end vs = cc
    go [] (x ∷ xs) some e are end vs = no_dashes k (let same : option_word k ≡ x = cc in same ∙ end)
    go (stays w ∷ more) rest some e are end vs = no_option w k are.0 (let same : option_word k ≡ w = cc in sym same)
    go (option l m u ∷ more) rest some e are end vs =
        let kinds : option_word k ≡ option_word l = cc in
        let names : n ≡ m = cc in
        let values : v ≡ u = cc in
        let is : variable l m u ≡ None = ap₂ (λ a b. variable l a b) (sym names) (sym values) ∙ ap (λ j. variable j n v) (sym (same_kind k l kinds)) ∙ none in
        let bad : None ≡ Some some = sym (ap (λ o. before o (variables more)) is) ∙ vs in
        cc

-- ---- what a word is

-- a word that has a kind is that option; below, a word without a kind that is not `--` remains
pub is_option : (w : Text) (k : Kind) → kind_of w ≡ Some k → w ≡ option_word k
is_option w k e = first (bytes_eq w (option_word kind.Text)) (bytes_eq w (option_word kind.Json)) refl refl e
  where
    first : (a b : Bool) → bytes_eq w (option_word kind.Text) ≡ a → bytes_eq w (option_word kind.Json) ≡ b
        → cond a (Some kind.Text) (cond b (Some kind.Json) None) ≡ Some k → w ≡ option_word k
    first true b at bt e =
        let is : kind.Text ≡ k = cc in
        (bytes_eq-Decides _ _).0 at ∙ ap option_word is
    first false true at bt e =
        let is : kind.Json ≡ k = cc in
        (bytes_eq-Decides _ _).0 bt ∙ ap option_word is
    first false false at bt e = cc

pub no_option_word : (w : Text) (k : Kind) → kind_of w ≡ None → w ≡ option_word k → ⊥
no_option_word w kind.Text e is =
    let bad : Some kind.Text ≡ None = sym (ap kind_of is) ∙ e in
    cc
no_option_word w kind.Json e is =
    let bad : Some kind.Json ≡ None = sym (ap kind_of is) ∙ e in
    cc

pub plain_word : (w : Text) → kind_of w ≡ None → bytes_eq w dashes ≡ false → IsPiece (stays w)
plain_word w e apart = (
  no_option_word w kind.Text e,
  no_option_word w kind.Json e,
  λ is. let bad : true ≡ false = sym ((bytes_eq-Decides w dashes).1 is) ∙ apart in cc,
)

pub is_dashes_word : (w : Text) → bytes_eq w dashes ≡ true → w ≡ dashes
is_dashes_word w = (bytes_eq-Decides w dashes).0

-- ---- the answer if words are missing or an option binds nothing

pub passed : {A : Type 0} (r : Result A UsageFault) (e : UsageFault) → IsErrAnd r (λ x. x ≡ e) → r ≡ Err e
passed (Ok v) e h = absurd h
passed (Err x) e h = ap Err h

pub short_fault : (e : UsageFault) (words before after : List Text) → TakesTwo (Err e) before after → (length before < 2 → (left : List Text) (vars : List Variable) → ¬ IsTaken words left vars)
    → Takes words (Err e)
short_fault Usage words before after h stuck = stuck h
short_fault Help words before after h stuck = absurd h
short_fault Version words before after h stuck = absurd h
short_fault (Line t) words before after h stuck = absurd h
short_fault NoMemory words before after h stuck = tt

pub unbound_fault : (e : UsageFault) (words : List Text) (o : Option Variable) → Answers variable_of (Err e) o → (o ≡ None → (left : List Text) (vars : List Variable) → ¬ IsTaken words left vars)
    → Takes words (Err e)
unbound_fault Usage words o h stuck = stuck h
unbound_fault Help words o h stuck = absurd h
unbound_fault Version words o h stuck = absurd h
unbound_fault (Line t) words o h stuck = absurd h
unbound_fault NoMemory words o h stuck = tt
