-- The search for the last piece of a string.
use Rattle.std.proofs.Common.{◌≡◌, ℕ, List, [], ◌∷◌, ◌++◌, map, reverse, refl, sym, ap, ◌∙◌, String}
use Rattle.std.proofs.lemmas.List.{reverse-append, append_assoc, append-nil}
use Rattle.std.specs.declared.alloc.Global.{Global}
use Rattle.jv_data.specs.Text.{text_of}
use Rattle.jq_ast.specs.declared.tree.Piece.{Piece}
use Rattle.jq_ast.specs.declared.tree.Tree.{Tree}
use Rattle.jq_tree.specs.Tree as tree
use Rattle.jq_meaning.specs.Runs.{Item}
use Rattle.jq_meaning.specs.machine.State.{Scope, Hole, Frame, ForkPoint}
use Rattle.jq_meaning.specs.machine.Evaluating.{enter_pieces, next_hole}
use Rattle.jq_state.specs.Steps.{hole_of}
use Rattle.jq_operations.specs.Pieces.{named_pieces}

pub walked : (format : tree.Name) (ps : List (Piece Tree)) (last : String Global) (hs : List Hole) (p : Scope) (x : Item) (k : List Frame) (fs : List ForkPoint)
    → enter_pieces format (named_pieces ps last) hs p x k fs ≡ next_hole format (text_of last) (reverse (map hole_of ps) ++ hs) p x k fs
walked format [] last hs p x k fs = refl
walked format (q ∷ ps) last hs p x k fs =
    let read : List (Piece Tree) → List Hole = map hole_of in
    walked format ps last (hole_of q ∷ hs) p x k fs
    ∙ ap (λ l. next_hole format (text_of last) l p x k fs) (sym (append_assoc (reverse (read ps)) (hole_of q ∷ []) hs))
    ∙ ap (λ l. next_hole format (text_of last) (l ++ hs) p x k fs) (sym (reverse-append (hole_of q ∷ []) (read ps)))

pub pieces_entered : (format : tree.Name) (ps : List (Piece Tree)) (last : String Global) (back : List ℕ) (p : Scope) (x : Item) (k : List Frame) (fs : List ForkPoint) → back ≡ text_of last
    → next_hole format back (reverse (map hole_of ps)) p x k fs ≡ enter_pieces format (named_pieces ps last) [] p x k fs
pieces_entered format ps last back p x k fs e =
    ap (λ b. next_hole format b (reverse (map hole_of ps)) p x k fs) e
    ∙ ap (λ l. next_hole format (text_of last) l p x k fs) (sym (append-nil (reverse (map hole_of ps))))
    ∙ sym (walked format ps last [] p x k fs)
