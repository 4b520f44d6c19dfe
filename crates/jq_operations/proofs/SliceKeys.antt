-- The members of a slice's key.
use Rattle.std.proofs.Common.{◌≡◌, ◌∙◌, ℕ, List, codes, refl, ap}
use Rattle.std.specs.Str.{chars}
use Rattle.jv_data.specs.Members.{put}
use Rattle.jv_data.specs.Value.{Value, object, Members, no_members}
use Rattle.jv_value.specs.Index.{slice_key}

both_put : (v w : Value) → object (put (chars (codes "end")) w (put (chars (codes "start")) v no_members)) ≡ slice_key v w
unfolding chars
both_put v w = refl

-- the start is put, and then the end
pub slice_members : (a b : List ℕ) (ms ns os : Members) (v w : Value) → a ≡ codes "start" → b ≡ codes "end" → ms ≡ no_members → ns ≡ put (chars a) v ms → os ≡ put (chars b) w ns → object os ≡ slice_key v w
slice_members a b ms ns os v w ea eb em en eo =
    ap object (eo ∙ ap (put (chars b) w) (en ∙ ap (put (chars a) v) em ∙ ap (λ k. put (chars k) v no_members) ea) ∙ ap (λ k. put (chars k) w (put (chars (codes "start")) v no_members)) eb)
    ∙ both_put v w
