-- The answers that the code's types represent.
use Rattle.std.specs.Prelude.{◌≡◌, ℕ, List, ◌++◌, Bool, true, false, Option, Some, None, Result, Ok, Err, IsOk}
use Rattle.jv_data.specs.declared.failures.NoMemory.{NoMemory}
use Rattle.jv_text.specs.declared.faults.Fault.{Fault}
use Rattle.jv_text.specs.declared.faults.Fault.TheVariants as fault
use Rattle.jq_pages.specs.Edits.{Reason, no_place, full}
use Rattle.jq_session.specs.States.{State, outcome}
use Rattle.jq_session.specs.declared.refusals.Refusal.{Refusal}
use Rattle.jq_session.specs.declared.refusals.Refusal.TheVariants as refusal
use Rattle.jq_session.specs.declared.splices.Follow.{Follow}
use Rattle.jq_script.specs.Answers.{ok_answer, refused_answer, status_answer, out_answer, err_answer, changes}
use Rattle.jq_script.specs.Requests.{Request, Instruction, request, filter}
use Rattle.jq_script.specs.Script.{Turn, Point, IsTurn, IsFilterTurn, IsAnswer, MayStart, unknown_line, number_of, fault_number, bad_text, no_memory}
use Rattle.jq_script.specs.declared.replies.Refused.{Refused}
use Rattle.jq_script.specs.declared.replies.Refused.TheVariants as refused
use Rattle.jq_script.specs.declared.replies.Reply.{Reply}
use Rattle.jq_script.specs.declared.replies.Reply.TheVariants as reply

abbrev pub number_in : Refused → ℕ
number_in refused.Unknown = unknown_line
number_in refused.NoPlace = number_of no_place
number_in refused.BadText = bad_text
number_in refused.Full = number_of full
number_in refused.NoMemory = no_memory
number_in (refused.Filter f) = fault_number f

-- the answer to an accepted edit, or to an accepted filter
abbrev pub made_answer : (follow : Bool) → Follow → List ℕ
made_answer false f = ok_answer f.status
made_answer true f = ok_answer f.status ++ changes f

-- the answer to an accepted move, by what its removal and its insertion changed
abbrev pub moved_answer : (follow : Bool) → (f g : Follow) → List ℕ
moved_answer false f g = ok_answer g.status
moved_answer true f g = ok_answer g.status ++ (changes f ++ changes g)

-- the answer, if the session is in this state
abbrev pub answer_of : (follow : Bool) → Reply → State → List ℕ
answer_of follow (reply.Made f) s = made_answer follow f
answer_of follow (reply.Moved f g) s = moved_answer follow f g
answer_of follow (reply.Refused r) s = refused_answer (number_in r)
answer_of follow reply.Output s = out_answer (outcome s).output
answer_of follow reply.Errors s = err_answer (outcome s).errors
answer_of follow reply.Status s = status_answer (outcome s).status

-- The reply is right for this request, which led from one state to another, with `--follow` and without.
pub record IsReplied (request : Request) (old new : State) (r : Reply) : Type 0 where
  pub turn : Turn
  pub turns : IsTurn request old turn
  pub leads : turn.state ≡ new
  pub answers : (follow : Bool) → IsAnswer follow old turn (answer_of follow r new)

-- The same for another filter, with how often filters were started.
pub record IsFilterReplied (text : List ℕ) (old new : Point) (r : Reply) : Type 0 where
  pub turn : Turn
  pub turns : IsFilterTurn old.options text old.state turn old.starts new.starts
  pub leads : turn.state ≡ new.state
  pub answers : (follow : Bool) → IsAnswer follow old.state turn (answer_of follow r new.state)

-- The same for any instruction.
abbrev pub IsCarriedOut : Instruction → (old new : Point) → Reply → Type 0
IsCarriedOut (request q) old new r = IsReplied q old.state new.state r × MayStart q old.state old.starts new.starts
IsCarriedOut (filter text) old new r = IsFilterReplied text old new r

-- why an edit is refused before its text is read
abbrev pub IsObstacle : Option Refused → Result State Reason → Type 0
IsObstacle None after = IsOk after
IsObstacle (Some r) after = (reason : Reason) × (after ≡ Err reason) × (number_in r ≡ number_of reason)

-- why an edit is refused whose text cannot be read
abbrev pub unread_as : Fault → Refused
unread_as (fault.Malformed at) = refused.BadText
unread_as (fault.Unfinished at) = refused.BadText
unread_as (fault.NotWhole at) = refused.BadText
unread_as (fault.TooDeep at) = refused.BadText
unread_as (fault.TooLong at) = refused.BadText
unread_as fault.NoMemory = refused.NoMemory

abbrev pub refused_as : Refusal → Refused
refused_as refusal.NoPlace = refused.NoPlace
refused_as refusal.Full = refused.Full
refused_as refusal.Write = refused.NoMemory
refused_as refusal.NoMemory = refused.NoMemory

-- the reply for a session's answer to an edit
abbrev pub reply_of : Result Follow Refusal → Reply
reply_of (Ok follow) = reply.Made follow
reply_of (Err r) = reply.Refused (refused_as r)

-- the reply for a session's answer to a move
abbrev pub move_reply : Result (Follow × Follow) Refusal → Reply
move_reply (Ok follow) = reply.Moved follow.0 follow.1
move_reply (Err r) = reply.Refused (refused_as r)

-- the reply for another filter that was run
abbrev pub filter_reply : Result Follow NoMemory → Reply
filter_reply (Ok follow) = reply.Made follow
filter_reply (Err e) = reply.Refused refused.NoMemory
