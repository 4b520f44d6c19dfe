use Rattle.std.proofs.Common.{◌∙◌, [], ◌∷◌, ◌++◌, sym, ap, append_assoc, arith, rules}
use Rattle.std.proofs.lemmas.Result.{on_ok_weaker}
use Rattle.json.specs.Token.{Token}
use Rattle.jv_data.proofs.shared.Depths.{depth_held, depth_under}
use Rattle.jv_data.specs.View.{view, members_view}
use Rattle.jv_text.specs.Printed.{tokens_of}
use Rattle.jv_text.specs.PrintedTokens.{tokens_of_members}
use Rattle.jv_text.proofs.Spelt.{spelt, tokens_of-Text}
use Rattle.jv_text.proofs.printing.+writing.Goals as goal

pub write-returns-in-Text-clause-ok : goal.write-returns-in-Text-clause-ok
write-returns-in-Text-clause-ok g t c =
    let seen = ap (λ v. tokens_of (view v)) c.in-Text.is ∙ tokens_of-Text c.in-Text.text in
    on_ok_weaker c.token-in-Text.result (λ e. e ∙ ap (λ ts. g.W.Tokens.written c.args.out.now ++ ts) (ap (λ s. Token.string s ∷ []) c.as_str.ensures ∙ sym seen)) c.token-in-Text.ensures.ok

pub write_members-loop-key-preserved : goal.write_members-loop-key-preserved
write_members-loop-key-preserved g t c =
    let before = g.W.Tokens.written c.loop-key.out in
    let value = tokens_of (view c.in-Some.member.now) in
    let rest = tokens_of_members (members_view c.next.new.self) in
    let name = c.as_str.result.now in
    let written = ap (λ ts. ts ++ rest) (c.in_ok-write.ensures.ok ∙ ap (λ ts. ts ++ value) c.in_ok-token-2.ensures.ok) in
    let joined = append_assoc (before ++ Token.key name ∷ []) value rest ∙ append_assoc before (Token.key name ∷ []) (value ++ rest) in
    let named = ap (λ n. before ++ Token.key n ∷ (value ++ rest)) (c.as_str.ensures.value ∙ sym (spelt c.in-Some.key.now)) in
    let left = ap (λ es. before ++ tokens_of_members (members_view es)) c.in-Some.ensures.steps in
    let first = ap depth_under c.in-Some.ensures.steps in
    (search rules, written ∙ joined ∙ named ∙ sym left ∙ c.loop-key.invariant.1, omega (arith, first, c.loop-key.invariant.2))

pub write_members-write-requires : goal.write_members-write-requires
write_members-write-requires g t c κs within =
    let measure = c.decreases in
    let first = ap depth_under c.in-Some.ensures.steps in
    let inside = c.loop-key.invariant.2 in
    let held = depth_held c.args.members.now.members.value in
    (omega arith, within)
