-- A value whose part at a key was taken out.
use Rattle.std.specs.Prelude.{◌≡◌, ◌∷◌, [], List, map, Result, Ok, Err, MatchResult}
use Rattle.jv_data.specs.Fails.{FailsAs}
use Rattle.jv_data.specs.Held.{members_in}
use Rattle.jv_data.specs.Members.{put}
use Rattle.jv_data.specs.Value.{Value, object}
use Rattle.jv_data.specs.Text.{text_of}
use Rattle.jv_data.specs.View.{view}
use Rattle.jv_data.specs.declared.failures.Fail.{Fail}
use Rattle.jv_data.specs.declared.values.Val.{Val}
use Rattle.jv_value.specs.Results.{and_then}
use Rattle.jv_value.specs.SetPath.{part_at, put_at, put_between, put_item}
use Rattle.jv_value.specs.declared.setting.Frame.{Frame}
use Rattle.jv_value.specs.declared.setting.Frame.TheVariants.{Member, Item, Slice, Sealed}

-- the value with p as that part
abbrev pub put_into : Frame → Value → Result Value Value
put_into (Member others name) p = Ok (object (put (text_of name) p (members_in others)))
put_into (Item items place) p = put_item place p (map view items.items)
put_into (Slice front back) p = put_between (map view front.items) p (map view back.items)
put_into (Sealed error) p = Err (view error)

-- the value with p as the part of several, each of which is the part of the one before it
abbrev pub put_into_all : List Frame → Value → Result Value Value
put_into_all [] p = Ok p
put_into_all (f ∷ fs) p = and_then (put_into_all fs p) (put_into f)

-- the part at a key that the rest of a path applies to, and the frame that puts another part there
pub record TakesPart (v k part : Value) (frame : Frame) : Type 0 where
  pub taken : part_at v k ≡ Ok part
  pub back : (p : Value) → put_into frame p ≡ put_at v k p

-- a call takes the part at a key out of a value, or raises the key's error, or memory ran out
abbrev pub TakesOut : Value → Value → Result (Val × Frame) Fail → Type 0
TakesOut v k result = MatchResult result (λ r. TakesPart v k (view r.0) r.1) (λ f. FailsAs f (part_at v k))
