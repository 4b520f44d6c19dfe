-- The value and the path of an item.
use Rattle.std.proofs.Common.{◌≡◌, ◌∙◌, List, [], ◌∷◌, ◌++◌, Bool, false, Option, Some, None, is_some, Result, Ok, Err, option_map, map, refl, sym, ap, subst}
use Rattle.std.specs.Prelude.{zip}
use Rattle.jv_data.specs.Fails.{FailsAs}
use Rattle.jv_data.specs.Value.{Value}
use Rattle.jv_data.specs.View.{view}
use Rattle.jv_data.specs.declared.failures.Fail.{Fail}
use Rattle.jv_data.specs.declared.failures.Fail.TheVariants.{Raised}
use Rattle.jv_data.specs.declared.values.Val.{Val}
use Rattle.jv_value.specs.Index.{index_of}
use Rattle.jv_value.specs.Parts.{parts_of}
use Rattle.jq_meaning.specs.Runs.{plain, one}
use Rattle.jq_natives.specs.Answers.{part_keys}
use Rattle.jq_meaning.specs.Steps.{part_of, step, step_answer, guarded_fail}
use Rattle.jq_state.specs.Items.{item_at}
use Rattle.jq_operations.proofs.Pairs.{length-part_keys, map-zip}

-- the key at the end of the path
pub part-item_at : (v : Value) (path : Option (List Value)) (key w : Value) → item_at w (option_map (λ ks. ks ++ key ∷ []) path) ≡ part_of (item_at v path) key w
part-item_at v None key w = refl
part-item_at v (Some ks) key w = refl

-- the error of an answer that failed
pub raised_as : {A : Type 0} (f : Fail) (e : Val) (r : Result A Value) → f ≡ Raised e → FailsAs f r → r ≡ Err (view e)
raised_as f e r p h = subst (λ g. FailsAs g r) p h

-- ---- one part

step_is : (guarded : Bool) (v : Value) (path : Option (List Value)) (key : Value) → step_answer guarded (item_at v path) key (index_of v key) ≡ step guarded (item_at v path) key
step_is guarded v None key = refl
step_is guarded v (Some ks) key = refl

pub step_found : (guarded : Bool) (v : Value) (path : Option (List Value)) (key w : Value) → index_of v key ≡ Ok w
    → one (item_at w (option_map (λ ks. ks ++ key ∷ []) path)) ≡ step guarded (item_at v path) key
step_found guarded v path key w e = ap one (part-item_at v path key w) ∙ sym (ap (step_answer guarded (item_at v path) key) e) ∙ step_is guarded v path key

pub step_refused : (guarded : Bool) (v : Value) (path : Option (List Value)) (key w : Value) → index_of v key ≡ Err w → guarded_fail guarded w ≡ step guarded (item_at v path) key
step_refused guarded v path key w e = sym (ap (step_answer guarded (item_at v path) key) e) ∙ step_is guarded v path key

-- ---- every part

pub parts_plain : (v : Value) (path : Option (List Value)) (parts : List Value) → false ≡ is_some path → parts_of v ≡ Ok parts
    → map plain parts ≡ map (λ p. part_of (item_at v path) p.0 p.1) (zip (part_keys v) parts)
parts_plain v None parts h e = sym (map-zip plain (part_keys v) parts (length-part_keys v parts e))
parts_plain v (Some ks) parts h e = cc

pub parts_located : (v : Value) (path : Option (List Value)) (ps : List (Value × Value))
    → map (λ p. item_at p.1 (option_map (λ ks. ks ++ p.0 ∷ []) path)) ps ≡ map (λ p. part_of (item_at v path) p.0 p.1) ps
parts_located v None ps = refl
parts_located v (Some ks) ps = refl
