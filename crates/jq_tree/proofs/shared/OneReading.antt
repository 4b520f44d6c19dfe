-- A text has one list of tokens, or its first bad token is at one position, and not both.
use Rattle.std.proofs.Common.{◌≡◌, ℕ, List, [], ◌∷◌, ◌++◌, length, Bool, true, false, ◌&&◌, refl, sym, ap, subst, ◌∙◌, inl, inr}
use Rattle.std.specs.Prelude.{encode_utf8_all}
use Rattle.std.proofs.lemmas.List.{append_cancel_left, append_cancel_right}
use Rattle.std.proofs.lemmas.Bool.{or_from}
use Rattle.std.proofs.lemmas.Bool.Decides.{eqb_tells}
use Rattle.jq_tree.specs.Token.{Token}
use Rattle.jq_tree.specs.Words.{every, Spells, Longest}
use Rattle.jq_tree.specs.Lexing.{Parenthesis, Spot, between, within, Piece, Next, word, opens, closes, closes_in_string, closes_nothing, quote, is_space, is_not_line_feed, Reads, here, space, comment, last_comment, token, part, Missing, no_token, no_piece}
use Rattle.jq_tree.specs.laws.OneReading.{OneTokenList, OneBadToken, TokensOrBadToken}
use Rattle.jq_tree.specs.laws.Lexed.{may_begin}
use Rattle.jq_tree.proofs.shared.Fronts.{and_left, and_right}
use Rattle.jq_tree.proofs.shared.Missing.{no_longest, no_next, no_next_at_end}
use Rattle.jq_tree.proofs.shared.Valueless.{one_longest}
use Rattle.jq_tree.proofs.shared.OneNumber.{tail_of, first_one}
use Rattle.jq_tree.proofs.shared.OneToken.{one_token, open_word, close_word}
use Rattle.jq_tree.proofs.shared.OnePiece.{one_piece}

-- ---- one token

same_word : {text w v rest left : List ℕ} {t u : Token} → Longest text w rest → Longest text v left → Spells w t → Spells v u → (t ≡ u) × (rest ≡ left)
same_word {text} {w} {v} {rest} {left} {t} {u} h k s m =
    let same : w ≡ v = one_longest text w v rest left h k in (
      one_token (subst (λ (x : List ℕ). Spells x t) same s) m,
      append_cancel_left v rest left (ap (λ (x : List ℕ). x ++ rest) (sym same) ∙ sym h.front ∙ k.front),
    )

pub one_next : {opened : List Parenthesis} {text rest left : List ℕ} {ts us : List Token} {spot end : Spot}
    → Next opened text ts spot rest → Next opened text us end left → (ts ≡ us) × (spot ≡ end) × (rest ≡ left)
one_next (word w h s n) (word v k m o) = let e = same_word h k s m in (ap (λ (x : Token). x ∷ []) (e.0), refl, e.1)
one_next (word w h s n) opens = absurd (n (open_word _ w _ h s))
one_next (word w h s n) closes = absurd (n (close_word _ w _ h s))
one_next (word w h s n) closes_in_string = absurd (n (close_word _ w _ h s))
one_next (word w h s n) closes_nothing = absurd (n (close_word _ w _ h s))
one_next (word w h s n) (quote p) = absurd (no_longest 34 _ w _ refl h)
one_next opens (word w h s n) = absurd (n (open_word _ w _ h s))
one_next opens opens = (refl, refl, refl)
one_next closes (word w h s n) = absurd (n (close_word _ w _ h s))
one_next closes closes = (refl, refl, refl)
one_next closes_in_string (word w h s n) = absurd (n (close_word _ w _ h s))
one_next closes_in_string closes_in_string = (refl, refl, refl)
one_next closes_nothing (word w h s n) = absurd (n (close_word _ w _ h s))
one_next closes_nothing closes_nothing = (refl, refl, refl)
one_next (quote p) (word w h s n) = absurd (no_longest 34 _ w _ refl h)
one_next (quote p) (quote q) = one_piece p q

-- ---- space and comments

by_space : (P : ℕ → Type 0) → P 32 → P 9 → P 10 → P 13 → (c : ℕ) → is_space c ≡ true → P c
by_space P a b d e c h = elim (eqb_tells c 32) [
  | inl p ↦ subst P (sym (p.1)) a
  | inr p ↦ elim (eqb_tells c 9) [
    | inl q ↦ subst P (sym (q.1)) b
    | inr q ↦ elim (eqb_tells c 10) [
      | inl r ↦ subst P (sym (r.1)) d
      | inr r ↦ elim (eqb_tells c 13) [
        | inl s ↦ subst P (sym (s.1)) e
        | inr s ↦ let f : is_space c ≡ false = or_from _ _ (or_from _ _ (or_from _ _ (p.0) (q.0)) (r.0)) (s.0) in
            let g : true ≡ false = sym h ∙ f in absurd (cc g)
      ]
    ]
  ]
]

space_begins_nothing : {opened : List Parenthesis} {c : ℕ} {text rest : List ℕ} {ts : List Token} {spot : Spot} → is_space c ≡ true → Next opened (c ∷ text) ts spot rest → ⊥
space_begins_nothing {opened} {c} {text} {rest} {ts} {spot} h n = no_next opened c text (by_space (λ (d : ℕ). may_begin (d ∷ []) ≡ false) refl refl refl refl c h)
    (λ e. no_space 34 refl e) (λ e. no_space 40 refl e) (λ e. no_space 41 refl e) ts spot rest n
  where
    no_space : (k : ℕ) → is_space k ≡ false → c ≡ k → ⊥
    no_space k f e = let g : true ≡ false = sym h ∙ ap is_space e ∙ f in cc g

comment_begins_nothing : {opened : List Parenthesis} {text rest : List ℕ} {ts : List Token} {spot : Spot} → Next opened (35 ∷ text) ts spot rest → ⊥
comment_begins_nothing {opened} {text} {rest} {ts} {spot} n = no_next opened 35 text refl (λ e. cc e) (λ e. cc e) (λ e. cc e) ts spot rest n

no_line_feed : (cs after : List ℕ) → every is_not_line_feed (cs ++ 10 ∷ after) ≡ true → ⊥
no_line_feed [] after h = cc h
no_line_feed (c ∷ cs) after h = no_line_feed cs after (and_right (is_not_line_feed c) (every is_not_line_feed (cs ++ 10 ∷ after)) h)

no_first : (c : ℕ) (b : Bool) → 10 ≡ c → (is_not_line_feed c && b) ≡ true → ⊥
no_first c b e h = let k : false ≡ true = ap is_not_line_feed e ∙ and_left (is_not_line_feed c) b h in cc k

same_line : (cs ds after beyond : List ℕ) → every is_not_line_feed cs ≡ true → every is_not_line_feed ds ≡ true → cs ++ 10 ∷ after ≡ ds ++ 10 ∷ beyond → after ≡ beyond
same_line [] [] after beyond h k e = ap tail_of e
same_line [] (d ∷ ds) after beyond h k e = absurd (no_first d (every is_not_line_feed ds) (ap first_one e) k)
same_line (c ∷ cs) [] after beyond h k e = absurd (no_first c (every is_not_line_feed cs) (sym (ap first_one e)) h)
same_line (c ∷ cs) (d ∷ ds) after beyond h k e = same_line cs ds after beyond
    (and_right (is_not_line_feed c) (every is_not_line_feed cs) h) (and_right (is_not_line_feed d) (every is_not_line_feed ds) k) (ap tail_of e)

-- ---- where reading stops

pub data Stops : Spot → List ℕ → Type 0 where
  at_end : {opened : List Parenthesis} → Stops (between opened) []
  at_missing : {spot : Spot} {rest : List ℕ} → Missing spot rest → Stops spot rest

stops_no_next : {opened : List Parenthesis} {text rest : List ℕ} {ts : List Token} {spot : Spot} → Stops (between opened) text → Next opened text ts spot rest → ⊥
stops_no_next at_end n = no_next_at_end refl n
stops_no_next (at_missing (no_token a b k)) n = k _ _ _ n

stops_no_piece : {opened : List Parenthesis} {text rest : List ℕ} {ts : List Token} {spot : Spot} → Stops (within opened) text → Piece opened text ts spot rest → ⊥
stops_no_piece (at_missing (no_piece k)) n = k _ _ _ n

stops_no_space : {opened : List Parenthesis} {c : ℕ} {text : List ℕ} → Stops (between opened) (c ∷ text) → is_space c ≡ true → ⊥
stops_no_space (at_missing (no_token a b k)) e = let h : true ≡ false = sym e ∙ a in cc h

stops_no_comment : {opened : List Parenthesis} {text : List ℕ} → Stops (between opened) (35 ∷ text) → ⊥
stops_no_comment (at_missing (no_token a b k)) = b refl

pub one_reading : {spot last end : Spot} {text rest left : List ℕ} {ts us : List Token} → Reads spot text ts last rest → Reads spot text us end left
    → Stops last rest → Stops end left → (ts ≡ us) × (last ≡ end) × (rest ≡ left)
one_reading here here a b = (refl, refl, refl)
one_reading here (space e d) a b = absurd (stops_no_space a e)
one_reading here (comment cs after e f d) a b = absurd (stops_no_comment a)
one_reading here (last_comment cs e) a b = absurd (stops_no_comment a)
one_reading here (token n d) a b = absurd (stops_no_next a n)
one_reading here (part p d) a b = absurd (stops_no_piece a p)
one_reading (space e d) here a b = absurd (stops_no_space b e)
one_reading (space e d) (space f k) a b = one_reading d k a b
one_reading (space e d) (comment cs after f g k) a b = absurd (cc e)
one_reading (space e d) (last_comment cs f) a b = absurd (cc e)
one_reading (space e d) (token n k) a b = absurd (space_begins_nothing e n)
one_reading (comment cs after e f d) here a b = absurd (stops_no_comment b)
one_reading (comment cs after e f d) (space g k) a b = absurd (cc g)
one_reading {end = end} {left = left} {us = us} (comment {opened} cs after e f d) (comment ds beyond g h k) a b =
    let same : after ≡ beyond = same_line cs ds after beyond f h (sym e ∙ g) in
    one_reading d (subst (λ (x : List ℕ). Reads (between opened) (10 ∷ x) us end left) (sym same) k) a b
one_reading (comment cs after e f d) (last_comment ds g) a b =
    absurd (no_line_feed cs after (subst (λ (x : List ℕ). every is_not_line_feed x ≡ true) e g))
one_reading (comment cs after e f d) (token n k) a b = absurd (comment_begins_nothing n)
one_reading (last_comment cs e) here a b = absurd (stops_no_comment b)
one_reading (last_comment cs e) (space f k) a b = absurd (cc f)
one_reading (last_comment cs e) (comment ds after f g k) a b =
    absurd (no_line_feed ds after (subst (λ (x : List ℕ). every is_not_line_feed x ≡ true) f e))
one_reading (last_comment cs e) (last_comment ds f) a b = (refl, refl, refl)
one_reading (last_comment cs e) (token n k) a b = absurd (comment_begins_nothing n)
one_reading (token n d) here a b = absurd (stops_no_next b n)
one_reading (token n d) (space e k) a b = absurd (space_begins_nothing e n)
one_reading (token n d) (comment cs after e f k) a b = absurd (comment_begins_nothing n)
one_reading (token n d) (last_comment cs e) a b = absurd (comment_begins_nothing n)
one_reading {end = end} {left = left} (token {middle = x} {ts = ts} {us = us} {spot = s} n d) (token {middle = y} {ts = vs} {us = ws} {spot = t} m k) a b =
    let h = one_next n m in
    let i : Reads t x ws end left = subst (λ (z : List ℕ). Reads t z ws end left) (sym (h.2)) k in
    let j : Reads s x ws end left = subst (λ (z : Spot). Reads z x ws end left) (sym (h.1)) i in
    let l = one_reading d j a b in
    (ap (λ (z : List Token). z ++ us) (h.0) ∙ ap (λ (z : List Token). vs ++ z) (l.0), l.1, l.2)
one_reading (part p d) here a b = absurd (stops_no_piece b p)
one_reading {end = end} {left = left} (part {middle = x} {ts = ts} {us = us} {spot = s} p d) (part {middle = y} {ts = vs} {us = ws} {spot = t} q k) a b =
    let h = one_piece p q in
    let i : Reads t x ws end left = subst (λ (z : List ℕ). Reads t z ws end left) (sym (h.2)) k in
    let j : Reads s x ws end left = subst (λ (z : Spot). Reads z x ws end left) (sym (h.1)) i in
    let l = one_reading d j a b in
    (ap (λ (z : List Token). z ++ us) (h.0) ∙ ap (λ (z : List Token). vs ++ z) (l.0), l.1, l.2)

-- ---- whole texts

pub one_token_list : OneTokenList
one_token_list text ts us h k = (one_reading (h.1) (k.1) at_end at_end).0

pub one_bad_token : OneBadToken
one_bad_token text a b h k =
    let r = one_reading h.read k.read (at_missing h.bad) (at_missing k.bad) in
    let same : h.front ≡ k.front = append_cancel_right h.front k.front k.rest (ap (λ (x : List ℕ). h.front ++ x) (sym (r.2)) ∙ sym h.whole ∙ k.whole) in
    h.place ∙ ap (λ (x : List ℕ). length (encode_utf8_all x)) same ∙ sym k.place

nothing_missing_at_end : {spot : Spot} {rest : List ℕ} {opened : List Parenthesis} → Missing spot rest → between opened ≡ spot → [] ≡ rest → ⊥
nothing_missing_at_end (no_token a b k) e f = cc f
nothing_missing_at_end (no_piece k) e f = cc e

pub tokens_or_bad_token : TokensOrBadToken
tokens_or_bad_token text ts a h k =
    let r = one_reading (h.1) k.read at_end (at_missing k.bad) in nothing_missing_at_end k.bad (r.1) (r.2)
