-- The pair lines of visits count what the visits do.
use Rattle.std.proofs.Common.{◌≡◌, ◌<◌, ◌≤◌, ℕ, zero, suc, ◌+◌, List, map, take, length, slice_get, get_or, Some, refl, sym, ◌∙◌, ap, arith, add-one}
use Rattle.std.specs.List.{sum_by}
use Rattle.std.specs.List.Sorted.{IsPermutation}
use Rattle.std.proofs.lemmas.List.{take_all}
use Rattle.std.proofs.lemmas.List.Sorted.{sum_by-IsPermutation}
use Rattle.std.proofs.lemmas.List.Sums.{sum-map, sum_by_more}
use Rattle.std.proofs.lemmas.Option.{get_or_from_slice_get}
use Rattle.abi_base.proofs.lemmas.Lists.{at_below, map-map}
use Rattle.abi_types.specs.Graphs.{IsGraph}
use Rattle.abi_types.proofs.lemmas.Nodes.{node_of-at}
use Rattle.pair_explorer.specs.declared.visits.Visit.{Visit}
use Rattle.pair_explorer.specs.Limits.{weight_at}
use Rattle.pair_explorer.specs.Visits.{seen}
use Rattle.cert_text.specs.Certs.{PairLine}
use Rattle.cert_check.specs.Compatible.{Sides, task_of}
use Rattle.cert_check.specs.Fitting.{line_weight, lines_weight, weight_from, weight_to}
use Rattle.pair_compare.specs.certificates.LineLists.{AreInside, pair_line}

line_counts : (s : Sides) (v : Visit) → IsGraph s.old.graph → IsGraph s.new.graph → v.old < length s.old.graph → v.new < length s.new.graph → line_weight s (pair_line s.old.graph s.new.graph v) ≡ weight_at (task_of s) (seen v)
line_counts s v old_graph new_graph old new =
    let line = pair_line s.old.graph s.new.graph v in
    ap (weight_from s line) (node_of-at s.old.graph line.0 v.old old_graph old refl) ∙ ap (weight_to s v.way v.old) (node_of-at s.new.graph line.1 v.new new_graph new refl)

sums_same : (f g : Visit → ℕ) (vs : List Visit) → ((n : ℕ) (v : Visit) → slice_get vs n ≡ Some v → f v ≡ g v) → (i : ℕ) → i ≤ length vs → sum_by f (take i vs) ≡ sum_by g (take i vs)
sums_same f g vs each zero le = refl
sums_same f g vs each (suc i) le =
    let v = at_below vs i (omega arith) in
    let here : get_or vs i v.0 ≡ v.0 = get_or_from_slice_get vs i v.0 v.0 v.1 in
    let more : sum_by f (take (i + 1) vs) ≡ sum_by g (take (i + 1) vs) =
    sum_by_more f vs i v.0 (omega arith) ∙ ap (λ n. n + f (get_or vs i v.0)) (sums_same f g vs each i (omega arith)) ∙ ap (λ n. sum_by g (take i vs) + n) (ap f here ∙ each i v.0 v.1 ∙ sym (ap g here)) ∙ sym (sum_by_more g vs i v.0 (omega arith)) in
    rw (add-one i) at more

sum_by-map : {X Y : Type 0} (f : Y → ℕ) (g : X → Y) (xs : List X) → sum_by f (map g xs) ≡ sum_by (λ x. f (g x)) xs
sum_by-map f g xs = sym (sum-map f (map g xs)) ∙ ap (sum_by (λ n. n)) (map-map f g xs) ∙ sum-map (λ x. f (g x)) xs

pub lines_count : (s : Sides) (visits : List Visit) (lines : List PairLine) → IsGraph s.old.graph → IsGraph s.new.graph → AreInside s.old.graph s.new.graph visits → IsPermutation (map (pair_line s.old.graph s.new.graph) visits) lines
    → lines_weight s lines ≡ sum_by (weight_at (task_of s)) (map seen visits)
lines_count s visits lines old_graph new_graph inside moved =
    let line = pair_line s.old.graph s.new.graph in
    let same = sums_same (λ v. line_weight s (line v)) (λ v. weight_at (task_of s) (seen v)) visits
    (λ n v at. line_counts s v old_graph new_graph (inside n v at).0 (inside n v at).1) (length visits) (omega arith) in
    sum_by-IsPermutation (line_weight s) (map line visits) lines moved ∙ sum_by-map (line_weight s) line visits
    ∙ ap (sum_by (λ v. line_weight s (line v))) (sym (take_all (length visits) visits (omega arith))) ∙ same
    ∙ ap (sum_by (λ v. weight_at (task_of s) (seen v))) (take_all (length visits) visits (omega arith)) ∙ sym (sum_by-map (weight_at (task_of s)) seen visits)
