-- A part that is put back into several frames.
use Rattle.std.proofs.Common.{◌≡◌, ◌∙◌, List, [], ◌∷◌, ◌++◌, Result, Ok, Err, ap, sym, refl}
use Rattle.jv_data.specs.Value.{Value}
use Rattle.jv_value.specs.Results.{and_then}
use Rattle.jv_value.specs.SetPath.{put_at, setpath_of}
use Rattle.jv_value.specs.private.Frames.{TakesPart, put_into, put_into_all}
use Rattle.jv_value.specs.declared.setting.Frame.{Frame}

nothing_then : {A : Type 0} (r : Result A Value) → and_then r Ok ≡ r
nothing_then (Ok a) = refl
nothing_then (Err e) = refl

one_then : (r : Result Value Value) (f g : Value → Result Value Value) → and_then (and_then r f) g ≡ and_then r (λ p. and_then (f p) g)
one_then (Ok p) f g = refl
one_then (Err e) f g = refl

pub put_into_last : (fs : List Frame) (f : Frame) (p : Value) → put_into_all (fs ++ f ∷ []) p ≡ and_then (put_into f p) (put_into_all fs)
put_into_last [] f p = sym (nothing_then (put_into f p))
put_into_last (g ∷ fs) f p = ap (λ r. and_then r (put_into g)) (put_into_last fs f p) ∙ one_then (put_into f p) (put_into_all fs) (put_into g)

put_deeper : (v k : Value) (f : Frame) (fs : List Frame) (r : Result Value Value) → ((p : Value) → put_into f p ≡ put_at v k p) → and_then r (put_into_all (fs ++ f ∷ [])) ≡ and_then (and_then r (put_at v k)) (put_into_all fs)
put_deeper v k f fs (Ok p) back = put_into_last fs f p ∙ ap (λ q. and_then q (put_into_all fs)) (back p)
put_deeper v k f fs (Err e) back = refl

-- one key further, with one frame more
pub set_deeper : (v k part : Value) (ks : List Value) (x : Value) (f : Frame) (fs : List Frame) → TakesPart v k part f → and_then (setpath_of part ks x) (put_into_all (fs ++ f ∷ [])) ≡ and_then (setpath_of v (k ∷ ks) x) (put_into_all fs)
set_deeper v k part ks x f fs h =
    put_deeper v k f fs (setpath_of part ks x) h.back
    ∙ ap (λ r. and_then (and_then r (λ q. and_then (setpath_of q ks x) (put_at v k))) (put_into_all fs)) (sym h.taken)
