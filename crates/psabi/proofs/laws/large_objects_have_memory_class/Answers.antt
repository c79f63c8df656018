-- Kind by kind.
use Rattle.psabi.proofs.ClassLemmas.{large-memory}
use Rattle.psabi.proofs.laws.large_objects_have_memory_class.Goals as goal

pub returns : goal.returns
returns c nodes i is lt = large-memory nodes i is lt
