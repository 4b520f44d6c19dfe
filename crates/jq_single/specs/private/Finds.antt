-- What a call finds among the arguments of another.
use Rattle.std.specs.Prelude.{◌≡◌, List, map, Option, MatchOption, String}
use Rattle.std.specs.Borrow.{Bor}
use Rattle.std.specs.declared.alloc.Global.{Global}
use Rattle.jv_data.specs.Text.{text_of}
use Rattle.jq_ast.specs.Named.{named}
use Rattle.jq_ast.specs.declared.tree.Tree.{Tree}
use Rattle.jq_tree.specs.Tree.{Name, trees_of}
use Rattle.jq_meaning.specs.Env.{Env, find_callee, found_closure, with_arguments}

-- A name without arguments finds an argument, with the caller's environment, or what it finds in another environment.
abbrev pub FindsArgument : Name → Option (Bor Tree) → (caller base e : Env) → Type 0
FindsArgument n found caller base e =
    MatchOption found (find_callee n 0 e ≡ find_callee n 0 base) (λ t. find_callee n 0 e ≡ found_closure (named t.now) caller)

-- Parameters that are bound to arguments lead from what was found before to what is found then.
abbrev pub FindsBound : Name → List (String Global) → List Tree → (before later : Option (Bor Tree)) → Type 0
FindsBound n ps ts before later =
    (caller base own : Env) → FindsArgument n before caller base own → FindsArgument n later caller base (with_arguments (map text_of ps) (trees_of (map named ts)) caller own)
