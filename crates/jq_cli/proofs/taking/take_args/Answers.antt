use Rattle.jq_cli.specs.private.Variables.{kind_of}
use Rattle.std.proofs.Common.{◌≡◌, ◌∙◌, [], ◌∷◌, ◌++◌, map, string_bytes, ap, sym, subst, List, refl, String, Global}
use Rattle.std.specs.Str.{bytes_eq}
use Rattle.std.specs.Vec.Iter.{into_iter_items}
use Rattle.jq_syntax.specs.Chosen.{variables_of, variable_of}
use Rattle.jq_cli.specs.Answers.{Takes}
use Rattle.jq_cli.specs.Pieces.{IsTaken, dashes, option_word, variable}
use Rattle.jq_cli.proofs.Dividing.{IsRead, nothing_read, read_word, read_option, all_read, stuck_short, stuck_unbound, is_option, plain_word, is_dashes_word, passed, short_fault, unbound_fault}
use Rattle.jq_cli.proofs.taking.take_args.Goals as goal

pub loop-word-init : goal.loop-word-init
loop-word-init c = rw (c.into_iter-words.ensures.rest, c.new-left.ensures.items, c.new-vars.ensures.items) (nothing_read _)

pub returns-in_err-name-in-Some-kind_of : goal.returns-in_err-name-in-Some-kind_of
returns-in_err-name-in-Some-kind_of c =
    let left = map string_bytes c.loop-word.left.items in
    let vars = variables_of c.loop-word.vars.items in
    let words = map string_bytes c.args.words.items in
    let following = map string_bytes (into_iter_items c.next.new.self) in
    let ahead : into_iter_items c.loop-word.words ≡ c.in-Some.word ∷ into_iter_items c.next.new.self = c.in-Some.ensures.items in
    let word = is_option (string_bytes c.in-Some.word) c.in-Some-kind_of.kind (ap kind_of (sym c.as_str.ensures.value) ∙ sym c.in-Some-kind_of.ensures) in
    let read : IsRead words (option_word c.in-Some-kind_of.kind ∷ following) left vars =
    subst (λ w. IsRead words (w ∷ following) left vars) word (subst (λ xs. IsRead words (map string_bytes xs) left vars) ahead c.loop-word.invariant) in
    let fault = c.in_err-name-in-Some-kind_of.field-0.0 in
    subst (Takes words) (sym (passed c.from_residual.result fault c.from_residual.ensures.1))
    (short_fault fault words following _ c.in_err-name-in-Some-kind_of.ensures (λ short. stuck_short c.in-Some-kind_of.kind short read))

pub returns-in_err-variable-in-Some-kind_of : goal.returns-in_err-variable-in-Some-kind_of
returns-in_err-variable-in-Some-kind_of c =
    let left = map string_bytes c.loop-word.left.items in
    let vars = variables_of c.loop-word.vars.items in
    let words = map string_bytes c.args.words.items in
    let following = map string_bytes (into_iter_items c.next.new.self) in
    let rest = map string_bytes (into_iter_items c.two_words.new.words) in
    let name = string_bytes c.in_ok-name-in-Some-kind_of.name in
    let text = string_bytes c.in_ok-name-in-Some-kind_of.text in
    let ahead : into_iter_items c.loop-word.words ≡ c.in-Some.word ∷ into_iter_items c.next.new.self = c.in-Some.ensures.items in
    let word = is_option (string_bytes c.in-Some.word) c.in-Some-kind_of.kind (ap kind_of (sym c.as_str.ensures.value) ∙ sym c.in-Some-kind_of.ensures) in
    let two : following ≡ name ∷ text ∷ rest = c.in_ok-name-in-Some-kind_of.ensures in
    let read : IsRead words (option_word c.in-Some-kind_of.kind ∷ name ∷ text ∷ rest) left vars =
    subst (λ ws. IsRead words (option_word c.in-Some-kind_of.kind ∷ ws) left vars) two
    (subst (λ w. IsRead words (w ∷ following) left vars) word (subst (λ xs. IsRead words (map string_bytes xs) left vars) ahead c.loop-word.invariant)) in
    let fault = c.in_err-variable-in-Some-kind_of.field-0.0 in
    let residual = c.from_residual-in_err-variable-in-Some-kind_of in
    subst (Takes words) (sym (passed residual.result fault residual.ensures.1))
    (unbound_fault fault words (variable c.in-Some-kind_of.kind name text) c.in_err-variable-in-Some-kind_of.ensures (λ none. stuck_unbound c.in-Some-kind_of.kind name text none read))

pub loop-word-preserved-in-Some-kind_of : goal.loop-word-preserved-in-Some-kind_of
loop-word-preserved-in-Some-kind_of c =
    let left = map string_bytes c.loop-word.left.items in
    let vars = variables_of c.loop-word.vars.items in
    let words = map string_bytes c.args.words.items in
    let following = map string_bytes (into_iter_items c.next.new.self) in
    let rest = map string_bytes (into_iter_items c.two_words.new.words) in
    let name = string_bytes c.in_ok-name-in-Some-kind_of.name in
    let text = string_bytes c.in_ok-name-in-Some-kind_of.text in
    let ahead : into_iter_items c.loop-word.words ≡ c.in-Some.word ∷ into_iter_items c.next.new.self = c.in-Some.ensures.items in
    let word = is_option (string_bytes c.in-Some.word) c.in-Some-kind_of.kind (ap kind_of (sym c.as_str.ensures.value) ∙ sym c.in-Some-kind_of.ensures) in
    let two : following ≡ name ∷ text ∷ rest = c.in_ok-name-in-Some-kind_of.ensures in
    let read : IsRead words (option_word c.in-Some-kind_of.kind ∷ name ∷ text ∷ rest) left vars =
    subst (λ ws. IsRead words (option_word c.in-Some-kind_of.kind ∷ ws) left vars) two
    (subst (λ w. IsRead words (w ∷ following) left vars) word (subst (λ xs. IsRead words (map string_bytes xs) left vars) ahead c.loop-word.invariant)) in
    subst (IsRead words rest left) (sym c.in_ok-push_first-in-Some-kind_of.ensures)
    (read_option c.in-Some-kind_of.kind name text (variable_of c.in_ok-variable-in-Some-kind_of.field-0) c.in_ok-variable-in-Some-kind_of.ensures read)

-- one more word, and then others
pushed : (left : List (String Global)) (word : String Global) → map string_bytes (left ++ word ∷ []) ≡ map string_bytes left ++ string_bytes word ∷ []
pushed [] word = refl
pushed (x ∷ left) word = ap (λ ws. string_bytes x ∷ ws) (pushed left word)

joined : (left rest : List (String Global)) (word : String Global) → map string_bytes ((left ++ word ∷ []) ++ rest) ≡ map string_bytes left ++ string_bytes word ∷ map string_bytes rest
joined [] rest word = refl
joined (x ∷ left) rest word = ap (λ ws. string_bytes x ∷ ws) (joined left rest word)

pub returns-then-is_last : goal.returns-then-is_last
returns-then-is_last c =
    let left = map string_bytes c.loop-word.left.items in
    let vars = variables_of c.loop-word.vars.items in
    let words = map string_bytes c.args.words.items in
    let rest = into_iter_items c.next.new.self in
    let ahead : into_iter_items c.loop-word.words ≡ c.in-Some.word ∷ rest = c.in-Some.ensures.items in
    let read : IsRead words (string_bytes c.in-Some.word ∷ map string_bytes rest) left vars = subst (λ xs. IsRead words (map string_bytes xs) left vars) ahead c.loop-word.invariant in
    let end = is_dashes_word (string_bytes c.in-Some.word) (ap (λ w. bytes_eq w dashes) (sym c.as_str-in-None.ensures.value) ∙ sym c.is_dashes-is_last.ensures ∙ c.if-is_last.true) in
    let all : c.push_all.new.left.items ≡ (c.loop-word.left.items ++ c.in-Some.word ∷ []) ++ rest = c.in_ok-push_all-in-None.ensures ∙ ap (λ xs. xs ++ rest) c.in_ok-push-in-None.ensures.items in
    subst (λ ws. IsTaken words ws vars) (sym (ap (map string_bytes) all ∙ joined c.loop-word.left.items rest c.in-Some.word)) (all_read end read)

pub loop-word-preserved : goal.loop-word-preserved
loop-word-preserved c =
    let left = map string_bytes c.loop-word.left.items in
    let vars = variables_of c.loop-word.vars.items in
    let words = map string_bytes c.args.words.items in
    let rest = map string_bytes (into_iter_items c.next.new.self) in
    let ahead : into_iter_items c.loop-word.words ≡ c.in-Some.word ∷ into_iter_items c.next.new.self = c.in-Some.ensures.items in
    let read : IsRead words (string_bytes c.in-Some.word ∷ rest) left vars = subst (λ xs. IsRead words (map string_bytes xs) left vars) ahead c.loop-word.invariant in
    let none = ap kind_of (sym c.as_str.ensures.value) ∙ sym c.in-None.ensures in
    let other = ap (λ w. bytes_eq w dashes) (sym c.as_str-in-None.ensures.value) ∙ sym c.is_dashes-is_last.ensures ∙ c.if-is_last.false in
    subst (λ ws. IsRead words rest ws vars) (sym (ap (map string_bytes) c.in_ok-push-in-None.ensures.items ∙ pushed c.loop-word.left.items c.in-Some.word))
    (read_word (string_bytes c.in-Some.word) (plain_word (string_bytes c.in-Some.word) none other) read)
