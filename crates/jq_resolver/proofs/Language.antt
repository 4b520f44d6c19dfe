-- Which names are parts of the language, by the tables.
use Rattle.std.proofs.Common.{◌≡◌, ◌∙◌, ℕ, List, [], ◌∷◌, ◌++◌, Bool, true, false, if◌then◌else◌, Option, Some, None, is_some, ap, sym, refl, nat_eq, arith, inl, inr}
use Rattle.std.specs.Prelude.{codes, ◌&&◌, ◌||◌}
use Rattle.std.specs.Str.{bytes_eq}
use Rattle.std.proofs.lemmas.Bool.{and_parts, or_cases}
use Rattle.std.proofs.lemmas.Bool.Decides.{nat_tests, same_from_decides}
use Rattle.jq_tree.proofs.shared.References.{same_is, same_self}
use Rattle.jv_text.specs.declared.formats.names.Format.{Format}
use Rattle.jv_text.specs.declared.formats.names.Format.TheVariants.{Plain, Json, Csv, Tsv, Html, Uri, Sh, Base64}
use Rattle.jv_text.specs.Formats.{format_named}
use Rattle.jq_natives.specs.declared.native.Native.{Native}
use Rattle.jq_natives.specs.contracts.native.NativeEq.TheImpl.Laws as native_laws
use Rattle.jv_text.specs.contracts.formats.names.FormatEq.TheImpl.Laws as format_laws
use Rattle.jq_natives.specs.Entries.{NativeEntry}
use Rattle.jq_natives.specs.Natives.{native_in, native_named, table}
use Rattle.jq_tree.specs.BoundTree.{in_language, nowhere}
use Rattle.jq_tree.specs.Names.{Reference, to_function, to_format, same_reference, Scope, is_bound, core_names, natives, formats, language}
use Rattle.jq_ast.specs.Bound.{binder_at, is_native, is_format}
use Rattle.jq_ast.specs.declared.names.Core.{Core}
use Rattle.jq_ast.specs.declared.names.Core.TheVariants.{Empty, Path, Range, RangeBy, Inputs, Halt, HaltError}
use Rattle.jq_ast.specs.declared.names.Referent.TheVariants as referent
use Rattle.jq_ast.specs.CoreNames.{core_named, core_reference}

or_assoc : (a b c : Bool) → (a || (b || c)) ≡ ((a || b) || c)
or_assoc true b c = refl
or_assoc false b c = refl

or_false : (a : Bool) → (a || false) ≡ a
or_false true = refl
or_false false = refl

pub nat_eq-itself : (a : ℕ) → nat_eq a a ≡ true
nat_eq-itself a = grind (arith, nat_tests)

-- ---- what the tables bind

either : {A : Type 0} (b : Bool) (f : A) (o : Option A) (r : Bool) → is_some o ≡ r → is_some (if b then Some f else o) ≡ (b || r)
either true f o r e = refl
either false f o r e = e

pub format_bound : (n : List ℕ) → is_some (format_named n) ≡ is_bound (to_format n) language
format_bound n =
    either (bytes_eq n (codes "text")) Plain _ _ (either (bytes_eq n (codes "json")) Json _ _ (either (bytes_eq n (codes "csv")) Csv _ _ (either (bytes_eq n (codes "tsv")) Tsv _ _
    (either (bytes_eq n (codes "html")) Html _ _ (either (bytes_eq n (codes "uri")) Uri _ _ (either (bytes_eq n (codes "sh")) Sh _ _ (either (bytes_eq n (codes "base64")) Base64 _ _ refl)))))))

core_bound : (n : List ℕ) (a : ℕ) → is_some (core_named n a) ≡ is_bound (to_function n a) core_names
core_bound n a =
    either (bytes_eq n (codes "empty") && nat_eq a 0) Empty _ _ (either (bytes_eq n (codes "path") && nat_eq a 1) Path _ _ (either (bytes_eq n (codes "range") && nat_eq a 2) Range _ _
    (either (bytes_eq n (codes "range") && nat_eq a 3) RangeBy _ _ (either (bytes_eq n (codes "inputs") && nat_eq a 0) Inputs _ _
    (either (bytes_eq n (codes "halt") && nat_eq a 0) Halt _ _ (either (bytes_eq n (codes "halt_error") && nat_eq a 1) HaltError _ _ refl))))))

abbrev references : List NativeEntry → Scope
references [] = []
references (r ∷ rs) = to_function r.name r.arguments ∷ references rs

native_bound_in : (n : List ℕ) (a : ℕ) (rs : List NativeEntry) → is_some (native_in rs n a) ≡ is_bound (to_function n a) (references rs)
native_bound_in n a [] = refl
native_bound_in n a (r ∷ rs) = either (bytes_eq n r.name && nat_eq a r.arguments) r.means (native_in rs n a) (is_bound (to_function n a) (references rs)) (native_bound_in n a rs)

-- all of the first list are in the second
abbrev within : Scope → Scope → Bool
within [] ys = true
within (x ∷ xs) ys = is_bound x ys && within xs ys

is_bound_within : (r : Reference) (xs ys : Scope) → within xs ys ≡ true → is_bound r xs ≡ true → is_bound r ys ≡ true
is_bound_within r [] ys w e = absurd (cc)
is_bound_within r (x ∷ xs) ys w e =
    let p = and_parts (is_bound x ys) (within xs ys) w in
    elim (or_cases (same_reference r x) (is_bound r xs) e) [
      | inl h ↦ ap (λ z. is_bound z ys) (same_is r x h) ∙ p.0
      | inr h ↦ is_bound_within r xs ys p.1 h
    ]

pub alike : (a b : Bool) → (a ≡ true → b ≡ true) → (b ≡ true → a ≡ true) → a ≡ b
alike a b f g = same_from_decides a b (λ e. e, λ e. e) (g, f)

pub is_bound_append : (r : Reference) (xs ys : Scope) → is_bound r (xs ++ ys) ≡ (is_bound r xs || is_bound r ys)
is_bound_append r [] ys = refl
is_bound_append r (x ∷ xs) ys = ap (λ z. same_reference r x || z) (is_bound_append r xs ys) ∙ or_assoc (same_reference r x) (is_bound r xs) (is_bound r ys)

native_bound : (n : List ℕ) (a : ℕ) → is_some (native_named n a) ≡ is_bound (to_function n a) natives
native_bound n a =
    native_bound_in n a table
    ∙ alike (is_bound (to_function n a) (references table)) (is_bound (to_function n a) natives) (is_bound_within (to_function n a) (references table) natives refl) (is_bound_within (to_function n a) natives (references table) refl)

pub function_bound : (n : List ℕ) (a : ℕ) → (is_some (core_named n a) || is_some (native_named n a)) ≡ is_bound (to_function n a) language
function_bound n a =
    ap (λ z. z || is_some (native_named n a)) (core_bound n a) ∙ ap (λ z. is_bound (to_function n a) core_names || z) (native_bound n a)
    ∙ ap (λ z. is_bound (to_function n a) core_names || z) (sym (or_false (is_bound (to_function n a) natives)) ∙ sym (is_bound_append (to_function n a) natives formats))
    ∙ sym (is_bound_append (to_function n a) core_names (natives ++ formats))

-- ---- referents

pub at_format : (n : List ℕ) (f : Format) (k : ℕ) → format_named n ≡ Some f
    → binder_at (to_format n) (referent.Format f) k ≡ (if is_bound (to_format n) language then in_language else nowhere)
at_format n f k h =
    ap (λ o. if is_format f o then in_language else nowhere) h ∙ ap (λ b. if b then in_language else nowhere) (format_laws.laws-law.refl f)
    ∙ ap (λ b. if b then in_language else nowhere) (sym (ap is_some h) ∙ format_bound n)

pub at_no_format : (n : List ℕ) (k : ℕ) → format_named n ≡ None
    → binder_at (to_format n) referent.Unresolved k ≡ (if is_bound (to_format n) language then in_language else nowhere)
at_no_format n k h = ap (λ b. if b then in_language else nowhere) (sym (ap is_some h) ∙ format_bound n)

pub at_native : (n : List ℕ) (a : ℕ) (f : Native) (k : ℕ) → core_named n a ≡ None → native_named n a ≡ Some f
    → binder_at (to_function n a) (referent.Native f) k ≡ (if is_bound (to_function n a) language then in_language else nowhere)
at_native n a f k g h =
    ap (λ o. if is_native f o then in_language else nowhere) h ∙ ap (λ b. if b then in_language else nowhere) (native_laws.laws-law.refl f)
    ∙ ap (λ b. if b then in_language else nowhere) (sym (ap (λ o. is_some o || is_some (native_named n a)) g ∙ ap is_some h) ∙ function_bound n a)

pub at_nothing : (n : List ℕ) (a k : ℕ) → core_named n a ≡ None → native_named n a ≡ None
    → binder_at (to_function n a) referent.Unresolved k ≡ (if is_bound (to_function n a) language then in_language else nowhere)
at_nothing n a k g h =
    ap (λ b. if b then in_language else nowhere) (sym (ap (λ o. is_some o || is_some (native_named n a)) g ∙ ap is_some h) ∙ function_bound n a)

same_back : (n m : List ℕ) (a b : ℕ) → (bytes_eq n m && nat_eq a b) ≡ true → same_reference (to_function m b) (to_function n a) ≡ true
same_back n m a b e = ap (λ r. same_reference r (to_function n a)) (sym (same_is (to_function n a) (to_function m b) e)) ∙ same_self (to_function n a)

core_step : (b : Bool) (n : List ℕ) (a : ℕ) (c d : Core) (o : Option Core) → (b ≡ true → same_reference (core_reference d) (to_function n a) ≡ true)
    → (o ≡ Some c → same_reference (core_reference c) (to_function n a) ≡ true) → (if b then Some d else o) ≡ Some c → same_reference (core_reference c) (to_function n a) ≡ true
core_step true n a c d o h g e = let same : d ≡ c = cc in ap (λ x. same_reference (core_reference x) (to_function n a)) (sym same) ∙ h refl
core_step false n a c d o h g e = g e

-- what a core name refers to
pub core_means : (n : List ℕ) (a : ℕ) (c : Core) → core_named n a ≡ Some c → same_reference (core_reference c) (to_function n a) ≡ true
core_means n a c e =
    core_step (bytes_eq n (codes "empty") && nat_eq a 0) n a c Empty _ (λ h. same_back n (codes "empty") a 0 h)
    (core_step (bytes_eq n (codes "path") && nat_eq a 1) n a c Path _ (λ h. same_back n (codes "path") a 1 h)
    (core_step (bytes_eq n (codes "range") && nat_eq a 2) n a c Range _ (λ h. same_back n (codes "range") a 2 h)
    (core_step (bytes_eq n (codes "range") && nat_eq a 3) n a c RangeBy _ (λ h. same_back n (codes "range") a 3 h)
    (core_step (bytes_eq n (codes "inputs") && nat_eq a 0) n a c Inputs _ (λ h. same_back n (codes "inputs") a 0 h)
    (core_step (bytes_eq n (codes "halt") && nat_eq a 0) n a c Halt _ (λ h. same_back n (codes "halt") a 0 h)
    (core_step (bytes_eq n (codes "halt_error") && nat_eq a 1) n a c HaltError None (λ h. same_back n (codes "halt_error") a 1 h) (λ f. absurd (cc)))))))) e

pub at_core : (n : List ℕ) (a : ℕ) (c : Core) (k : ℕ) → core_named n a ≡ Some c
    → binder_at (to_function n a) (referent.Core c) k ≡ (if is_bound (to_function n a) language then in_language else nowhere)
at_core n a c k h =
    ap (λ b. if b then in_language else nowhere) (core_means n a c h)
    ∙ ap (λ b. if b then in_language else nowhere) (sym (ap (λ o. is_some o || is_some (native_named n a)) h) ∙ function_bound n a)
