-- The reply to a request.
use Rattle.std.proofs.Common.{◌≡◌, ◌++◌, ℕ, Bool, true, false, List, Result, Ok, Err, IsOk, OnOk, OnErr, IfOk, IfErr, refl, sym, ap, ◌∙◌, subst, inl, inr}
use Rattle.std.specs.Str.{IsUtf8, chars}
use Rattle.jv_data.specs.Value.{Value}
use Rattle.jv_data.specs.declared.failures.NoMemory.{NoMemory}
use Rattle.jv_text.specs.Reading.{FaultIs}
use Rattle.jv_text.specs.declared.faults.Fault.{Fault}
use Rattle.jv_text.specs.declared.faults.Fault.TheVariants as fault
use Rattle.jq_pages.specs.Edits.{Edit, Reason}
use Rattle.jq_pages.specs.Edits as edits
use Rattle.jq_syntax.specs.Chosen.{setting}
use Rattle.jq_syntax.specs.Compiled.{IsRefusal as IsFilterRefusal}
use Rattle.jq_syntax.specs.declared.faults.CompileFault.{CompileFault}
use Rattle.jq_syntax.specs.declared.faults.CompileFault.TheVariants as compile_fault
use Rattle.jq_filters.specs.declared.filters.Filter.{Filter}
use Rattle.jq_session.specs.Sessions.{IsMoveRefusal, IsRefusal}
use Rattle.jq_session.specs.Splices.{Follows, FollowsFilter, FollowsMove}
use Rattle.jq_session.specs.Starts.{IsFirstRun}
use Rattle.jq_session.specs.States.{State, after, after_move, refiltered}
use Rattle.jq_session.specs.declared.refusals.Refusal.{Refusal}
use Rattle.jq_session.specs.declared.refusals.Refusal.TheVariants as refusal
use Rattle.jq_session.specs.declared.splices.Follow.{Follow}
use Rattle.jq_script.specs.Answers.{ok_answer, changes, refused_answer}
use Rattle.jq_script.specs.Requests.{Change, Request, change, remove, move, show, errors, status, unknown}
use Rattle.jq_script.specs.Script.{IsAnswer, IsFilterText, MayLackMemory, Point, bad_text, bad_token, change_turn, edit_of, edit_turn, fault_number, faulty, filter_turn, if_null_fits, made_turn, moved, no_memory, no_text, number_of, refused, taken, text_value, told, turn, value_turn, without_memory}
use Rattle.jq_script.specs.private.Replies.{IsFilterReplied, IsObstacle, IsReplied, filter_reply, made_answer, move_reply, moved_answer, number_in, reply_of, unread_as}
use Rattle.jq_script.specs.declared.replies.Refused.{Refused}
use Rattle.jq_script.specs.declared.replies.Refused.TheVariants as refused_type
use Rattle.jq_script.specs.declared.replies.Reply.TheVariants as reply
use Rattle.std.specs.Prelude.{Some}

-- ---- answers that change nothing

same_answer : (follow : Bool) (s : State) (bytes : List ℕ) → IsAnswer follow s (told s bytes) bytes
same_answer false s bytes = refl
same_answer true s bytes = refl

pub shown : (s : State) → IsReplied show s s reply.Output
shown s = record { turn = turn show s; turns = inl refl; leads = refl; answers = λ follow. same_answer follow s (turn show s).answer }

pub errors_shown : (s : State) → IsReplied errors s s reply.Errors
errors_shown s = record { turn = turn errors s; turns = inl refl; leads = refl; answers = λ follow. same_answer follow s (turn errors s).answer }

pub status_told : (s : State) → IsReplied status s s reply.Status
status_told s = record { turn = turn status s; turns = inl refl; leads = refl; answers = λ follow. same_answer follow s (turn status s).answer }

-- a refusal for the reason of the definition
refused_for : (request : Request) (old new : State) (r : Refused) (n : ℕ) → turn request old ≡ refused old n → number_in r ≡ n → new ≡ old → IsReplied request old new (reply.Refused r)
refused_for request old new r n is e same = record {
  turn = refused old (number_in r);
  turns = inl (ap (refused old) e ∙ sym is);
  leads = sym same;
  answers = λ follow. same_answer follow old (refused_answer (number_in r));
}

-- a refusal because memory ran out
memory_lacks : (request : Request) (old new : State) → MayLackMemory request old → new ≡ old → IsReplied request old new (reply.Refused refused_type.NoMemory)
memory_lacks request old new may same = record {
  turn = refused old (number_in refused_type.NoMemory);
  turns = inr (may, refl);
  leads = sym same;
  answers = λ follow. same_answer follow old (refused_answer (number_in refused_type.NoMemory));
}

pub not_known : (s : State) → IsReplied unknown s s (reply.Refused refused_type.Unknown)
not_known s = refused_for unknown s s refused_type.Unknown 0 refl refl refl

-- ---- edits

edit_answer : (follow : Bool) (edit : Edit) (old new : State) (f : Follow) → Follows f edit old new → IsAnswer follow old (edit_turn old edit (Ok new)) (made_answer follow f)
edit_answer false edit old new f follows = ap ok_answer follows.status
edit_answer true edit old new f follows = (changes f, (f, follows, refl), ap (λ n. ok_answer n ++ changes f) follows.status)

edit_refused : (request : Request) (old new : State) (edit : Edit) (r : Refusal) → turn request old ≡ edit_turn old edit (after edit old)
    → (IsOk (after edit old) → MayLackMemory request old) → IsRefusal r (after edit old) → new ≡ old → IsReplied request old new (reply_of (Err r))
edit_refused request old new edit refusal.NoPlace is may h same = refused_for request old new refused_type.NoPlace (number_of edits.no_place) (is ∙ ap (edit_turn old edit) h) refl same
edit_refused request old new edit refusal.Full is may h same = refused_for request old new refused_type.Full (number_of edits.full) (is ∙ ap (edit_turn old edit) h) refl same
edit_refused request old new edit refusal.NoMemory is may h same = memory_lacks request old new (may h) same
edit_refused request old new edit refusal.Write is may h same = absurd h

-- the session's answer to the edit of a request
edit_replied : (request : Request) (old new : State) (edit : Edit) (e : Result Follow Refusal) → turn request old ≡ edit_turn old edit (after edit old)
    → (IsOk (after edit old) → MayLackMemory request old) → OnOk e (after edit old ≡ Ok new) → IfOk e (λ f. Follows f edit old new) → IfErr e (λ r. IsRefusal r (after edit old)) → OnErr e (new ≡ old)
    → IsReplied request old new (reply_of e)
edit_replied request old new edit (Ok f) is may edited follows refused unchanged = record {
  turn = edit_turn old edit (Ok new);
  turns = inl (sym (is ∙ ap (edit_turn old edit) edited));
  leads = refl;
  answers = λ follow. edit_answer follow edit old new f follows;
}
edit_replied request old new edit (Err r) is may edited follows refused unchanged = edit_refused request old new edit r is may refused unchanged

pub removed : (k : ℕ) (old new : State) (e : Result Follow Refusal) → OnOk e (after (edits.remove k) old ≡ Ok new) → IfOk e (λ f. Follows f (edits.remove k) old new)
    → IfErr e (λ r. IsRefusal r (after (edits.remove k) old)) → OnErr e (new ≡ old) → IsReplied (remove k) old new (reply_of e)
removed k old new e edited follows refused unchanged = edit_replied (remove k) old new (edits.remove k) e refl (λ ok. ok) edited follows refused unchanged

-- ---- moves

move_answer : (follow : Bool) (k l : ℕ) (old new : State) (f g : Follow) → FollowsMove f g k l old new
    → IsAnswer follow old (made_turn old (moved k l) (Ok new)) (moved_answer follow f g)
move_answer false k l old new f g follows = ap ok_answer follows.insertion.status
move_answer true k l old new f g follows = (changes f ++ changes g, (f, g, follows, refl), ap (λ n. ok_answer n ++ (changes f ++ changes g)) follows.insertion.status)

move_refused : (k l : ℕ) (old new : State) (r : Refusal) → IsMoveRefusal r (after_move k l old) → new ≡ old → IsReplied (move k l) old new (move_reply (Err r))
move_refused k l old new refusal.NoPlace h same =
    refused_for (move k l) old new refused_type.NoPlace (number_of edits.no_place) (ap (made_turn old (moved k l)) h) refl same
move_refused k l old new refusal.Full h same = absurd h
move_refused k l old new refusal.NoMemory h same = memory_lacks (move k l) old new h same
move_refused k l old new refusal.Write h same = absurd h

pub move_replied : (k l : ℕ) (old new : State) (e : Result (Follow × Follow) Refusal) → OnOk e (after_move k l old ≡ Ok new) → IfOk e (λ r. FollowsMove r.0 r.1 k l old new)
    → IfErr e (λ r. IsMoveRefusal r (after_move k l old)) → OnErr e (new ≡ old) → IsReplied (move k l) old new (move_reply e)
move_replied k l old new (Ok r) moves follows refused unchanged = record {
  turn = made_turn old (moved k l) (Ok new);
  turns = inl (sym (ap (made_turn old (moved k l)) moves));
  leads = refl;
  answers = λ follow. move_answer follow k l old new r.0 r.1 follows;
}
move_replied k l old new (Err r) moves follows refused unchanged = move_refused k l old new r refused unchanged

-- ---- edits with an input

fitting : (c : Change) (text : List ℕ) (s : State) (r : Result State Reason) → IsOk r → change_turn s c r text ≡ value_turn s c (text_value text)
fitting c text s (Ok fits) ok = refl
fitting c text s (Err reason) ok = cc

pub obstructed : (c : Change) (text : List ℕ) (s : State) (r : Refused) → IsObstacle (Some r) (if_null_fits c s) → IsReplied (change c text) s s (reply.Refused r)
obstructed c text s r h = refused_for (change c text) s s r (number_of h.0) (ap (λ fits. change_turn s c fits text) h.1) h.2 refl

not_a_text : (c : Change) (text : List ℕ) (s : State) (f : Fault) → IsOk (if_null_fits c s) → text_value text ≡ Err f
    → IsReplied (change c text) s s (reply.Refused refused_type.BadText)
not_a_text c text s f fits is =
    refused_for (change c text) s s refused_type.BadText bad_text (fitting c text s (if_null_fits c s) fits ∙ ap (value_turn s c) is) refl refl

pub unread : (c : Change) (text : List ℕ) (s : State) (f : Fault) → IsOk (if_null_fits c s) → FaultIs f (text_value text) → IsReplied (change c text) s s (reply.Refused (unread_as f))
unread c text s (fault.Malformed at) fits is = not_a_text c text s (fault.Malformed at) fits is
unread c text s (fault.Unfinished at) fits is = not_a_text c text s (fault.Unfinished at) fits is
unread c text s (fault.NotWhole at) fits is = not_a_text c text s (fault.NotWhole at) fits is
unread c text s (fault.TooDeep at) fits is = not_a_text c text s (fault.TooDeep at) fits is
unread c text s (fault.TooLong at) fits is = not_a_text c text s (fault.TooLong at) fits is
unread c text s fault.NoMemory fits is = memory_lacks (change c text) s s fits refl

pub changed : (c : Change) (text : List ℕ) (old new : State) (v : Value) (e : Result Follow Refusal) → IsOk (if_null_fits c old) → text_value text ≡ Ok v
    → OnOk e (after (edit_of c old v) old ≡ Ok new) → IfOk e (λ f. Follows f (edit_of c old v) old new) → IfErr e (λ r. IsRefusal r (after (edit_of c old v) old)) → OnErr e (new ≡ old)
    → IsReplied (change c text) old new (reply_of e)
changed c text old new v e fits is edited follows refused unchanged =
    edit_replied (change c text) old new (edit_of c old v) e (fitting c text old (if_null_fits c old) fits ∙ ap (value_turn old c) is) (λ ok. fits) edited follows refused unchanged

-- ---- another filter

filter_answer : (follow : Bool) (old : State) (f : Filter) (w : Follow) → FollowsFilter w old (refiltered f old) → IsAnswer follow old (filter_turn old f) (made_answer follow w)
filter_answer false old f w follows = ap ok_answer follows.status
filter_answer true old f w follows = (changes w, (w, follows, refl), ap (λ n. ok_answer n ++ changes w) follows.status)

filter_taken : (text : List ℕ) (old new : Point) (f : Filter) (w : Follow) → IsFilterText old.options text f → new.state ≡ refiltered f old.state → FollowsFilter w old.state new.state
    → IsFirstRun (refiltered f old.state) old.starts new.starts → IsFilterReplied text old new (reply.Made w)
filter_taken text old new f w is e follows first = record {
  turn = filter_turn old.state f;
  turns = taken f is refl first;
  leads = sym e;
  answers = λ follow. filter_answer follow old.state f w (subst (FollowsFilter w old.state) e follows);
}

filter_lacks : (text : List ℕ) (old new : Point) (f : Filter) → IsFilterText old.options text f → new.state ≡ old.state → IsFirstRun (refiltered f old.state) old.starts new.starts
    → IsFilterReplied text old new (reply.Refused refused_type.NoMemory)
filter_lacks text old new f is same first = record {
  turn = refused old.state no_memory;
  turns = without_memory f is refl first;
  leads = sym same;
  answers = λ follow. same_answer follow old.state (refused_answer no_memory);
}

-- the answer of a session that ran it
pub filter_replied : (text : List ℕ) (old new : Point) (f : Filter) (e : Result Follow NoMemory) → IsFilterText old.options text f → OnOk e (new.state ≡ refiltered f old.state)
    → IfOk e (λ w. FollowsFilter w old.state new.state) → OnErr e (new.state ≡ old.state) → IsFirstRun (refiltered f old.state) old.starts new.starts
    → IsFilterReplied text old new (filter_reply e)
filter_replied text old new f (Ok w) is leads follows unchanged first = filter_taken text old new f w is leads follows first
filter_replied text old new f (Err e) is leads follows unchanged first = filter_lacks text old new f is unchanged first

pub filter_refused : (text : List ℕ) (p : Point) (f : CompileFault) → IsUtf8 text → IsFilterRefusal (chars text) (setting p.options) f
    → IsFilterReplied text p p (reply.Refused (refused_type.Filter f))
filter_refused text p f is h = record {
  turn = refused p.state (fault_number f);
  turns = faulty f is h refl refl;
  leads = refl;
  answers = λ follow. same_answer follow p.state (refused_answer (fault_number f));
}

pub filter_unread : (text : List ℕ) (p : Point) (at : ℕ) → ¬ (IsUtf8 text) → IsFilterReplied text p p (reply.Refused (refused_type.Filter (compile_fault.Lex at)))
filter_unread text p at not = record {
  turn = refused p.state bad_token;
  turns = no_text not refl refl;
  leads = refl;
  answers = λ follow. same_answer follow p.state (refused_answer bad_token);
}
