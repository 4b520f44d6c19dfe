-- The definitions of the prelude with a filter after them.
--
-- The prelude's tokens end with `;`, and no phrase does whose tree is definitions before `.`: so its tree is that of
-- definitions with nothing after them.
use Rattle.std.proofs.Common.{◌≡◌, ℕ, List, [], ◌∷◌, ◌++◌, Bool, true, false, refl, sym, ap, ◌∙◌, append_assoc, ◌⊎◌, inl, inr}
use Rattle.jq_tree.specs.Tree.{Tree, Pieces, last_piece, more_pieces}
use Rattle.jq_tree.specs.Tree as tree
use Rattle.jq_tree.specs.Token.{Symbol, Token, keyword, symbol}
use Rattle.jq_tree.specs.Token as token
use Rattle.jq_tree.specs.WrittenOut.{guarded}
use Rattle.jq_tree.specs.Grammar.{joined, joined_by, text_of, Suffix, to_field, to_part, to_slice, to_all, with_suffix, Main}
use Rattle.jq_tree.specs.Grammar as g
use Rattle.jq_tree.specs.Prelude.{followed_by}

-- Whether `.` comes after the definitions that a tree begins with.
abbrev pub ends_in_identity : Tree → Bool
ends_in_identity (tree.define n ps f g) = ends_in_identity g
ends_in_identity tree.identity = true
ends_in_identity t = false

abbrev pub is_semicolon : Token → Bool
is_semicolon (symbol token.semicolon) = true
is_semicolon t = false

abbrev pub ends_in_semicolon : List Token → Bool
ends_in_semicolon [] = false
ends_in_semicolon (t ∷ []) = is_semicolon t
ends_in_semicolon (t ∷ u ∷ ts) = ends_in_semicolon (u ∷ ts)

last_counts : (xs : List Token) (u : Token) (us : List Token) → ends_in_semicolon (xs ++ u ∷ us) ≡ ends_in_semicolon (u ∷ us)
last_counts [] u us = refl
last_counts (x ∷ []) u us = refl
last_counts (x ∷ y ∷ xs) u us = last_counts (y ∷ xs) u us

-- ---- what ends in `.`

-- Its last token is no `;`.
abbrev EndsOtherwise : List Token → Type 0
EndsOtherwise ts = (front : List Token) × (last : Token) × (ts ≡ front ++ last ∷ []) × (is_semicolon last ≡ false)

joined_by_is_not : (s : Symbol) (a b : Tree) → ends_in_identity (joined_by s a b) ≡ false
joined_by_is_not token.times a b = refl
joined_by_is_not s a b = refl

joined_is_not : (o : Token) (a b : Tree) → ends_in_identity (joined o a b) ≡ false
joined_is_not (keyword token.And) a b = refl
joined_is_not (keyword token.Or) a b = refl
joined_is_not (symbol s) a b = joined_by_is_not s a b
joined_is_not o a b = refl

not_both : {b : Bool} → b ≡ true → b ≡ false → ⊥
not_both e f = let h : true ≡ false = sym e ∙ f in absurd (cc h)

text_is_not : (ps : Pieces) → ends_in_identity (text_of ps) ≡ false
text_is_not (last_piece s) = refl
text_is_not (more_pieces s f ps) = refl

step_is_not : (t : Tree) (s : Suffix) → (ends_in_identity (with_suffix t s) ≡ false) × (ends_in_identity (guarded (with_suffix t s)) ≡ false)
step_is_not t (to_field n) = (refl, refl)
step_is_not t (to_part k) = (refl, refl)
step_is_not t (to_slice a b) = (refl, refl)
step_is_not t to_all = (refl, refl)

stepped_is_not : {ts : List Token} {t : Tree} → g.Stepped ts t → (ends_in_identity t ≡ false) × (ends_in_identity (guarded t) ≡ false)
stepped_is_not g.field_of_input = (refl, refl)
stepped_is_not (g.text_of_input d) = (refl, refl)
stepped_is_not (g.step_of {t = t} {s = s} d e) = step_is_not t s

branches_are_not : {ts : List Token} {t : Tree} → g.Branches ts t → ends_in_identity t ≡ false
branches_are_not (g.no_else d e) = refl
branches_are_not (g.with_else d e f) = refl
branches_are_not (g.with_elif d e f) = refl

mutual
  pipe_ends : {ts : List Token} {t : Tree} → g.Pipe ts t → ends_in_identity t ≡ true → EndsOtherwise ts
  pipe_ends (g.opened d) e = opened_ends d e
  pipe_ends (g.listed d) e = commas_end d e
  pipe_ends (g.piped d f) e = absurd (cc e)
  pipe_ends (g.last_open d f) e = absurd (cc e)

  opened_ends : {ts : List Token} {t : Tree} → g.Opened ts t → ends_in_identity t ≡ true → EndsOtherwise ts
  opened_ends (g.defined {xs = xs} d f) e = let h = pipe_ends f e in
      (xs ++ h.0, h.1, ap (λ (us : List Token). xs ++ us) h.2 ∙ sym (append_assoc xs h.0 (h.1 ∷ [])), h.3)
  opened_ends (g.bound d p f) e = absurd (cc e)
  opened_ends (g.labelled d) e = absurd (cc e)

  commas_end : {ts : List Token} {t : Tree} → g.Commas ts t → ends_in_identity t ≡ true → EndsOtherwise ts
  commas_end (g.one d) e = level_ends d e
  commas_end (g.more d f) e = absurd (cc e)

  level_ends : {l : ℕ} {ts : List Token} {t : Tree} → g.Level l ts t → ends_in_identity t ≡ true → EndsOtherwise ts
  level_ends (g.operand d) e = una_ends d e
  level_ends (g.tighter d) e = level_ends d e
  level_ends (g.to_left o {a = a} {b = b} x y d f) e = absurd (not_both e (joined_is_not o a b))
  level_ends (g.to_right o {a = a} {b = b} x y d f) e = absurd (not_both e (joined_is_not o a b))
  level_ends (g.alone o {a = a} {b = b} x y d f) e = absurd (not_both e (joined_is_not o a b))

  una_ends : {ts : List Token} {t : Tree} → g.Una ts t → ends_in_identity t ≡ true → EndsOtherwise ts
  una_ends (g.minus d) e = absurd (cc e)
  una_ends (g.try_only d) e = absurd (cc e)
  una_ends (g.try_catch d f) e = absurd (cc e)
  una_ends (g.post d) e = post_ends d e

  post_ends : {ts : List Token} {t : Tree} → g.Post ts t → ends_in_identity t ≡ true → EndsOtherwise ts
  post_ends (g.ends_with_step d) e = absurd (not_both e (stepped_is_not d).0)
  post_ends (g.ends_otherwise d) e = closed_ends d e

  closed_ends : {ts : List Token} {t : Tree} → g.Closed ts t → ends_in_identity t ≡ true → EndsOtherwise ts
  closed_ends (g.term d) e = term_ends d e
  closed_ends (g.step_guarded d) e = absurd (not_both e (stepped_is_not d).1)
  closed_ends (g.attempted d) e = absurd (cc e)

  term_ends : {ts : List Token} {t : Tree} → g.Term ts t → ends_in_identity t ≡ true → EndsOtherwise ts
  term_ends g.dot e = ([], symbol token.dot, refl, refl)
  term_ends (g.brackets {ts = ts} d) e = (symbol token.left_parenthesis ∷ ts, symbol token.right_parenthesis, refl, refl)
  term_ends (g.a_text {ps = ps} d) e = absurd (not_both e (text_is_not ps))
  term_ends (g.a_choice d) e = absurd (not_both e (branches_are_not d))
  term_ends d e = absurd (cc e)

-- ---- a filter after the definitions

pub kept : (p : Tree) → ends_in_identity p ≡ true → followed_by p tree.identity ≡ p
kept (tree.define n ps f g) e = ap (λ (x : Tree). tree.define n ps f x) (kept g e)
kept tree.identity e = refl
kept t e = absurd (cc e)

abbrev IsAllDefinitions : List Token → Type 0
IsAllDefinitions ts = (ts ≡ []) ⊎ (ends_in_semicolon ts ≡ true)

ends_differently : (ts : List Token) → IsAllDefinitions ts → EndsOtherwise ts → ⊥
ends_differently ts (inl e) h = nothing h.0 h.1 (sym h.2 ∙ e)
  where
    nothing : (front : List Token) (last : Token) → front ++ last ∷ [] ≡ [] → ⊥
    nothing [] last f = absurd (cc f)
    nothing (x ∷ xs) last f = absurd (cc f)
ends_differently ts (inr e) h = not_both e (ap ends_in_semicolon h.2 ∙ last_counts h.0 h.1 [] ∙ h.3)

after_first : (xs ys : List Token) → IsAllDefinitions (xs ++ ys) → IsAllDefinitions ys
after_first xs [] h = inl refl
after_first [] (y ∷ ys) h = h
after_first (x ∷ xs) (y ∷ ys) (inl e) = absurd (cc e)
after_first (x ∷ xs) (y ∷ ys) (inr e) = inr (sym (last_counts (x ∷ xs) y ys) ∙ e)

pub stands_before : {ps : List Token} {p : Tree} → Main ps p → IsAllDefinitions ps → ends_in_identity p ≡ true → (ts : List Token) (t : Tree) → Main ts t → Main (ps ++ ts) (followed_by p t)
stands_before g.no_filter h e ts t m = m
stands_before (g.main_defined {n = n} {ps = ps} {xs = xs} {ys = ys} {a = a} d f) h e ts t m =
    rw append_assoc (g.main_defined {n = n} {ps = ps} {a = a} d (stands_before f (after_first xs ys h) e ts t m))
stands_before (g.main_pipe {ts = ps} d) h e ts t m = absurd (ends_differently ps h (pipe_ends d e))
