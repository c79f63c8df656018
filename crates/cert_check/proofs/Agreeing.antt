-- What two libraries keep is what the laws of accesses require.
use Rattle.std.proofs.Common.{Result, Ok, Err, OnOk}
use Rattle.std.specs.Prelude.{◌↔◌}
use Rattle.std.specs.List.{Contains}
use Rattle.std.proofs.lemmas.Option.{slice_get_within, get_or_from_slice_get}
use Rattle.accesses.specs.Compared.{AreCompared}
use Rattle.abi_types.specs.Graphs.{IsGraph}
use Rattle.abi_types.specs.Libraries.{AreNumbered}
use Rattle.pair_rules.specs.Stable.{AreEven}
use Rattle.cert_check.specs.declared.refused.Refused.{Refused}
use Rattle.cert_check.specs.Accepted.{Case, IsAccepted, Settles, places}
use Rattle.cert_check.specs.Compatible.{Sides, IsCompatible, task_of, typed_roots}
use Rattle.cert_check.specs.Agreed.{AreValid, IsAgreed}
use Rattle.cert_check.proofs.Sound.{typed_roots_iff, typed_pair-inside}

pub compared : (s : Sides) → AreValid s → AreCompared (task_of s)
compared s are = record {
  old_graph = are.old.graph;
  new_graph = are.new.graph;
  old_places = are.old.library.places;
  new_places = are.new.library.places;
  roots = λ k root at.
      let there : Contains (typed_roots s) root = (k, slice_get_within (typed_roots s) k root at, get_or_from_slice_get (typed_roots s) k root root at) in
      let inside = typed_pair-inside s root ((typed_roots_iff s root).0 there) in
      record { old = inside.old; new = inside.new };
}

-- what the laws say of an accepted certificate, and of accesses
abbrev Proves : Type 0
Proves = (c : Case) → AreNumbered c.sides.old.exports → IsGraph c.sides.old.graph → IsGraph c.sides.new.graph → AreEven (task_of c.sides) → IsAccepted c → IsCompatible c.sides

abbrev Agrees : Type 0
Agrees = (s : Sides) → AreValid s → IsCompatible s ↔ IsAgreed s

-- where all is kept, accesses agree
pub settled_agrees : Proves → Agrees → (c : Case) → AreValid c.sides → (r : Result Unit Refused) → Settles c (places c) r → OnOk r (AreEven (task_of c.sides) → IsAgreed c.sides)
settled_agrees proves agrees c are (Ok x) accepted = λ even. (agrees c.sides are).0 (proves c are.old.library.numbered are.old.graph are.new.graph even accepted)
settled_agrees proves agrees c are (Err e) refused = tt
