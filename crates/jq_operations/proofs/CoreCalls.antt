-- The meaning of a name of the language is that of the core function or the native of this name.
use Rattle.std.proofs.Common.{◌≡◌, ◌∙◌, ℕ, List, Bool, true, false, if◌then◌else◌, Option, Some, None, codes, bytes_eq, nat_eq, ap, refl}
use Rattle.std.specs.Option.{option_map_or}
use Rattle.std.specs.Prelude.{◌&&◌}
use Rattle.jq_ast.specs.CoreNames.{core_named}
use Rattle.jq_ast.specs.declared.names.Core.{Core}
use Rattle.jq_ast.specs.declared.names.Core.TheVariants.{Empty, Path, Range, RangeBy, Inputs, Halt, HaltError}
use Rattle.jq_natives.specs.Natives.{native_named}
use Rattle.jq_meaning.specs.Builtins.{Builtin, builtin_named, native_or_unknown}
use Rattle.jq_operations.specs.private.CoreCalls.{core_meaning}

step : (b : Bool) (c : Core) (o : Option Core) (m other : Builtin) → m ≡ option_map_or core_meaning o other → (if b then core_meaning c else m) ≡ option_map_or core_meaning (if b then Some c else o) other
step true c o m other e = refl
step false c o m other e = e

meaning_is : (n : List ℕ) (a : ℕ) → builtin_named n a ≡ option_map_or core_meaning (core_named n a) (native_or_unknown (native_named n a))
meaning_is n a =
    let other = native_or_unknown (native_named n a) in
    step (bytes_eq n (codes "empty") && nat_eq a 0) Empty _ _ other (step (bytes_eq n (codes "path") && nat_eq a 1) Path _ _ other
    (step (bytes_eq n (codes "range") && nat_eq a 2) Range _ _ other (step (bytes_eq n (codes "range") && nat_eq a 3) RangeBy _ _ other
    (step (bytes_eq n (codes "inputs") && nat_eq a 0) Inputs _ _ other
    (step (bytes_eq n (codes "halt") && nat_eq a 0) Halt _ _ other (step (bytes_eq n (codes "halt_error") && nat_eq a 1) HaltError None other other refl))))))

pub core_means : (n : List ℕ) (a : ℕ) (c : Core) → core_named n a ≡ Some c → builtin_named n a ≡ core_meaning c
core_means n a c e = meaning_is n a ∙ ap (λ o. option_map_or core_meaning o (native_or_unknown (native_named n a))) e

pub other_means : (n : List ℕ) (a : ℕ) → core_named n a ≡ None → builtin_named n a ≡ native_or_unknown (native_named n a)
other_means n a e = meaning_is n a ∙ ap (λ o. option_map_or core_meaning o (native_or_unknown (native_named n a))) e
