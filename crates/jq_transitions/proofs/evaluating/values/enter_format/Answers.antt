use Rattle.std.proofs.Common.{◌≡◌, ◌∙◌, ℕ, List, [], ◌++◌, Ok, refl, sym, ap}
use Rattle.std.specs.Str.{chars}
use Rattle.jv_data.proofs.shared.Levels.{view-Text}
use Rattle.jv_data.specs.Value.{string}
use Rattle.jv_data.specs.View.{view}
use Rattle.jv_text.specs.Formats.{Text}
use Rattle.jq_ast.specs.Named.{name_of}
use Rattle.jq_meaning.specs.Continuations.{put_between, text_item, format_of}
use Rattle.jq_meaning.specs.Runs.{bind, plain}
use Rattle.jq_meaning.specs.machine.Operations.{deliver}
use Rattle.jq_meaning.specs.machine.State.{Frame, ForkPoint, state, give}
use Rattle.jq_operations.specs.Outputs.{Inserts}
use Rattle.jq_state.specs.Items.{item_of}
use Rattle.jq_state.specs.Views.{frames_in, forks_in}
use Rattle.jq_state.proofs.shared.Items.{absent}
use Rattle.jq_operations.specs.declared.texts.Inserted.TheVariants as inserted
use Rattle.jq_transitions.proofs.evaluating.values.enter_format.Goals as goal

no_text : chars [] ≡ []
unfolding chars
no_text = refl

-- a text between two empty texts is given
given : (text : Text) (s : List ℕ) (k : List Frame) (fs : List ForkPoint) → text ≡ Ok s → deliver (bind (put_between [] [] text) text_item) k fs ≡ state (give (plain (string ([] ++ (s ++ []))))) k fs
given text s k fs e = rw e refl

pub returns-in-Text : goal.returns-in-Text
returns-in-Text c =
    let alone = absent c.args.input (sym c.is_present.ensures ∙ c.if-is_present.false) in
    let text = format_of (name_of c.args.format.now) (view c.args.input.value) in
    let found : Inserts (chars []) text (chars []) (inserted.Text c.in-Text.text) = rw c.in-Text.is at c.in_ok-text.ensures in
    let item : item_of c.plain.result ≡ plain (string ([] ++ (found.0 ++ []))) =
    c.plain.ensures ∙ ap plain (view-Text c.in-Text.text) ∙ ap (λ s. plain (string s)) found.2 ∙ ap (λ s. plain (string (s ++ (found.0 ++ s)))) no_text in
    rw alone (
      tt,
      λ inputs.
          ap (λ x. state (give x) (frames_in inputs c.args.state.now) (forks_in inputs c.args.state.now)) item
          ∙ sym (given text found.0 (frames_in inputs c.args.state.now) (forks_in inputs c.args.state.now) found.1),
    )
