-- How visits are added.
use Rattle.std.specs.Prelude.{ℕ, zero, suc, List, [], ◌∷◌, ◌++◌, length, Option, Some, None, slice_get, if◌then◌else◌}
use Rattle.abi_types.specs.Graphs.{view_at}
use Rattle.pair_rules.specs.Steps.{PlainRoot, Triple, is_marked}
use Rattle.pair_rules.specs.Paths.{root_triple}
use Rattle.pair_explorer.specs.declared.visits.Parent.{Parent}
use Rattle.pair_explorer.specs.declared.visits.Parent.TheVariants.{Root, Step}
use Rattle.pair_explorer.specs.declared.visits.Visit.{Visit}
use Rattle.pair_explorer.specs.Scopes.{Scope, rep, rep_step}
use Rattle.pair_explorer.specs.Visits.{seen, has}

-- the visit of a triple, with what led to it
abbrev pub visit_of : Triple → Parent → Visit
visit_of x parent = record { old = x.old; new = x.new; way = x.way; parent = parent }

-- the visits, with this one appended if its triple is new
unfoldable pub added : List Visit → Visit → List Visit
added visits v = if has visits (seen v) then visits else visits ++ v ∷ []

abbrev pub added_some : List Visit → Option Visit → List Visit
added_some visits None = visits
added_some visits (Some v) = added visits v

-- the visits, with those that a function gives for the numbers below a bound appended in order
unfoldable pub entered : (ℕ → Option Visit) → ℕ → List Visit → List Visit
entered f zero visits = visits
entered f (suc n) visits = added_some (entered f n visits) (f n)

abbrev pub visit_to : Parent → Option Triple → Option Visit
visit_to parent None = None
visit_to parent (Some x) = Some (visit_of x parent)

-- the visit to which part i of the old type leads, from the triple with number n
unfoldable pub next_visit : Scope → ℕ → Triple → ℕ → Option Visit
next_visit s n x i = visit_to (Step n i) (rep_step s x i)

abbrev pub visit_of_root : Scope → Option PlainRoot → Option Visit
visit_of_root s None = None
visit_of_root s (Some root) = Some (visit_of (rep s (root_triple root)) (Root root.export))

-- the visit of a root
unfoldable pub root_visit : Scope → ℕ → Option Visit
root_visit s k = visit_of_root s (slice_get s.task.roots k)

-- the visits, with all those appended to which visit number n leads
unfoldable pub expanded : Scope → List Visit → ℕ → Visit → List Visit
expanded s visits n v =
    if is_marked s.task v.old v.way then visits else entered (next_visit s n (seen v)) (length (view_at s.task.old v.old).parts) visits
