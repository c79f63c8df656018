-- One place for each.
use Rattle.psabi.proofs.LawLemmas.{parameters_have_places}
use Rattle.std.proofs.Common.{◌∙◌}
use Rattle.abi_types.specs.Graphs.{view_at}
use Rattle.psabi.proofs.laws.each_parameter_has_a_place.Goals as goal

pub returns : goal.returns
returns c nodes i function = parameters_have_places nodes i function ∙ c.params_are_counted.ensures (view_at nodes i).parts
