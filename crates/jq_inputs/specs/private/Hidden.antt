-- Which functions are hidden by the names that a filter binds.
use Rattle.std.specs.Prelude.{List, [], ◌∷◌, Bool, false, ◌&&◌, ◌||◌, not, bytes_eq, codes}
use Rattle.jq_tree.specs.Tree.{Name}
use Rattle.jq_tree.specs.Names.{Reference, to_function, same_reference}
use Rattle.jq_inputs.specs.declared.hidden.Hidden.{Hidden}

abbrev pub nothing_hidden : Hidden
nothing_hidden = record { inputs = false; first = false; last = false; isempty = false; any = false; all = false; limit = false; halt = false; halt_error = false; halt_error_with = false }

-- What is hidden inside one more binder.
abbrev pub hiding : Reference → Hidden → Hidden
hiding r h = record {
  inputs = same_reference (to_function (codes "inputs") 0) r || h.inputs;
  first = same_reference (to_function (codes "first") 1) r || h.first;
  last = same_reference (to_function (codes "last") 1) r || h.last;
  isempty = same_reference (to_function (codes "isempty") 1) r || h.isempty;
  any = same_reference (to_function (codes "any") 2) r || h.any;
  all = same_reference (to_function (codes "all") 2) r || h.all;
  limit = same_reference (to_function (codes "limit") 2) r || h.limit;
  halt = same_reference (to_function (codes "halt") 0) r || h.halt;
  halt_error = same_reference (to_function (codes "halt_error") 0) r || h.halt_error;
  halt_error_with = same_reference (to_function (codes "halt_error") 1) r || h.halt_error_with;
}

abbrev pub hiding_parameters : List Name → Hidden → Hidden
hiding_parameters [] h = h
hiding_parameters (p ∷ ps) h = hiding_parameters ps (hiding (to_function p 0) h)

-- Whether a call of this name without arguments is `inputs`.
abbrev pub is_inputs : Hidden → Name → Bool
is_inputs h n = bytes_eq (codes "inputs") n && not h.inputs

-- Whether a call of this name with one argument evaluates it at most once.
abbrev pub is_first : Hidden → Name → Bool
is_first h n = (bytes_eq (codes "first") n && not h.first) || ((bytes_eq (codes "last") n && not h.last) || (bytes_eq (codes "isempty") n && not h.isempty))

-- Whether a call of this name with two arguments evaluates the first one at most once.
abbrev pub is_any : Hidden → Name → Bool
is_any h n = (bytes_eq (codes "any") n && not h.any) || (bytes_eq (codes "all") n && not h.all)

abbrev pub is_limit : Hidden → Name → Bool
is_limit h n = bytes_eq (codes "limit") n && not h.limit

-- Whether a call of this function halts.
abbrev pub is_halt : Hidden → Reference → Bool
is_halt h r =
    (same_reference (to_function (codes "halt") 0) r && not h.halt)
    || ((same_reference (to_function (codes "halt_error") 0) r && not h.halt_error) || (same_reference (to_function (codes "halt_error") 1) r && not h.halt_error_with))
