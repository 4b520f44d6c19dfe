use Rattle.jq_tree.specs.Names.{core_names, natives, formats, language}
use Rattle.std.proofs.Common.{◌++◌}
use Rattle.jq_meaning.specs.laws.Names.{scope_of}
use Rattle.jq_meaning.proofs.environments.Known.{in_the_language, all_append, known_in, formats_not_bound}
use Rattle.jq_meaning.proofs.bindings.lookups.language_names_are_known.Goals as goal

pub returns-clause-known : goal.returns-clause-known
returns-clause-known c = λ e r h.
    let all = all_append core_names (natives ++ formats) c.bound_names_have_a_meaning.ensures.functions
    (all_append natives formats c.bound_names_have_a_meaning.ensures.natives c.bound_names_have_a_meaning.ensures.formats) in
    known_in language all r (in_the_language (scope_of e) r h)

pub returns-clause-formats : goal.returns-clause-formats
returns-clause-formats c = formats_not_bound
