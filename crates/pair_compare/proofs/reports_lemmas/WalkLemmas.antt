-- The steps of a path, one after another, and their text.
use Rattle.std.proofs.Common.{◌≡◌, ◌<◌, ◌≤◌, ℕ, zero, suc, ◌+◌, Bool, cond, List, [], ◌∷◌, ◌++◌, length, take, map, get_or, slice_get, Some, refl, sym, ◌∙◌, ap, subst, arith, append_assoc, append-nil, length-append, codes}
use Rattle.std.specs.Prelude.{unwrap_or}
use Rattle.std.specs.List.{flat_map}
use Rattle.std.proofs.Math.Dec.{eqb-suc-zero}
use Rattle.std.proofs.lemmas.Grind.{flat_map-append}
use Rattle.std.proofs.lemmas.List.{take_more, take_all, map-append, length-take}
use Rattle.abi_types.specs.Graphs.{IsGraph, part_at, to_of, view_at}
use Rattle.abi_types.specs.Libraries.{PlainLibrary}
use Rattle.abi_types.specs.Types.{PlainView}
use Rattle.report.specs.Steps.{joined, path_text, step_text}
use Rattle.pair_rules.specs.Paths.{Path, From, Then, PathLeadsTo, root_triple}
use Rattle.pair_rules.specs.Stable.{IsInside}
use Rattle.pair_rules.specs.Steps.{PlainRoot, Task, Triple}
use Rattle.pair_explorer.specs.Routes.{followed, path_of}
use Rattle.cert_check.specs.Compatible.{Sides, task_of}
use Rattle.pair_compare.specs.reports.PathTexts.{end_of, steps_of, steps_text, next_from, between, type_of, IsWalk}
use Rattle.pair_compare.proofs.reports_lemmas.RootLemmas.{StepsAreExact, end_is, roots_inside}

-- ---- what leads somewhere can be walked

abbrev pub PartsAreThere : Type 0
PartsAreThere = (t : Task) (path : Path) (part : ℕ) (y : Triple) → PathLeadsTo t (Then path part) y → (x : Triple) × PathLeadsTo t path x × (part < length (view_at t.old x.old).parts)

-- paths from roots that are nodes lead to nodes
abbrev pub LeadsToNodes : Type 0
LeadsToNodes = (t : Task) (path : Path) (x : Triple) → IsGraph t.old → IsGraph t.new
    → ((k : ℕ) (root : PlainRoot) → slice_get t.roots k ≡ Some root → IsInside t (root_triple root)) → PathLeadsTo t path x → IsInside t x

pub walk_of : LeadsToNodes → StepsAreExact → PartsAreThere → (s : Sides) → IsGraph s.old.graph → IsGraph s.new.graph → (path : Path) (x : Triple) → PathLeadsTo (task_of s) path x → IsWalk s.old path
unfolding end_of
walk_of nodes exact there s old new (From export) x leads =
    let inside = (nodes (task_of s) (From export) x old new (roots_inside s) leads).old in
    subst (λ i. i < length s.old.graph) (sym (end_is exact s (From export) x leads)) inside
walk_of nodes exact there s old new (Then path part) y leads =
    let p = there (task_of s) path part y leads in
    let inside = (nodes (task_of s) (Then path part) y old new (roots_inside s) leads).old in (
      walk_of nodes exact there s old new path p.0 p.1,
      subst (λ i. part < length (view_at s.old.graph i).parts) (sym (end_is exact s path p.0 p.1)) p.2,
      subst (λ i. i < length s.old.graph) (sym (end_is exact s (Then path part) y leads)) inside,
    )

-- ---- prefixes

-- one part more is one step more
followed-more : (path : Path) (parts : List ℕ) (part : ℕ) → followed path (parts ++ part ∷ []) ≡ Then (followed path parts) part
followed-more path [] part = refl
followed-more path (first ∷ parts) part = followed-more (Then path first) parts part

pub one_more : (export : ℕ) (parts : List ℕ) (k : ℕ) → k < length parts → path_of export (take (k + 1) parts) ≡ Then (path_of export (take k parts)) (get_or parts k 0)
one_more export parts k lt = ap (path_of export) (take_more parts k 0 lt) ∙ followed-more (From export) (take k parts) (get_or parts k 0)

walk_prefix : (l : PlainLibrary) (path : Path) (parts : List ℕ) → IsWalk l (followed path parts) → IsWalk l path
walk_prefix l path [] walk = walk
walk_prefix l path (part ∷ parts) walk = (walk_prefix l (Then path part) parts walk).0

walk_upto : (l : PlainLibrary) (path : Path) (k : ℕ) (parts : List ℕ) → IsWalk l (followed path parts) → IsWalk l (followed path (take k parts))
walk_upto l path zero parts walk = walk_prefix l path parts walk
walk_upto l path (suc k) [] walk = walk
walk_upto l path (suc k) (part ∷ parts) walk = walk_upto l (Then path part) k parts walk

pub walk_next : (l : PlainLibrary) (export : ℕ) (parts : List ℕ) (k : ℕ) → IsWalk l (path_of export parts) → k < length parts → IsWalk l (Then (path_of export (take k parts)) (get_or parts k 0))
walk_next l export parts k walk lt = subst (IsWalk l) (one_more export parts k lt) (walk_upto l (From export) (k + 1) parts walk)

-- it ends at a node that is there
walk_end : (l : PlainLibrary) (path : Path) → IsWalk l path → end_of l path < length l.graph
unfolding end_of
walk_end l (From export) walk = walk
walk_end l (Then path part) walk = walk.2

-- ---- texts

steps_after : (l : PlainLibrary) (path : Path) (parts : List ℕ) → length (steps_of l (followed path parts)) ≡ length (steps_of l path) + length parts
unfolding steps_of
steps_after l path [] = omega arith
steps_after l path (part ∷ parts) = omega (arith, steps_after l (Then path part) parts, length-append (steps_of l path) ((view_at l.graph (end_of l path), part) ∷ []))

steps_count : (l : PlainLibrary) (export : ℕ) (parts : List ℕ) (k : ℕ) → k < length parts → length (steps_of l (path_of export (take k parts))) ≡ k
unfolding steps_of
steps_count l export parts k lt = omega (arith, steps_after l (From export) (take k parts), length-take k parts)

joined-more : (sign : List ℕ) (first : List ℕ) (texts : List (List ℕ)) (text : List ℕ) → joined sign ((first ∷ texts) ++ text ∷ []) ≡ joined sign (first ∷ texts) ++ (sign ++ text)
joined-more sign first texts text =
    ap (λ ts. first ++ ts) (flat_map-append (λ (t : List ℕ). sign ++ t) texts (text ∷ []) ∙ ap (λ ts. flat_map (λ (t : List ℕ). sign ++ t) texts ++ ts) (append-nil (sign ++ text)))
    ∙ sym (append_assoc first (flat_map (λ (t : List ℕ). sign ++ t) texts) (sign ++ text))

abbrev text_of : PlainView × ℕ → List ℕ
text_of step = step_text step.0 step.1

between_later : (n : ℕ) → between (suc n) ≡ codes " / "
between_later n = ap (λ (b : Bool). cond b [] (codes " / ")) (eqb-suc-zero n)

path_text-more : (steps : List (PlainView × ℕ)) (step : PlainView × ℕ) → path_text (steps ++ step ∷ []) ≡ path_text steps ++ (between (length steps) ++ text_of step)
path_text-more [] step = append-nil (text_of step)
path_text-more (first ∷ steps) step =
    ap (λ (ts : List (List ℕ)). joined (codes " / ") (text_of first ∷ ts)) (map-append text_of steps (step ∷ [])) ∙ joined-more (codes " / ") (text_of first) (map text_of steps) (text_of step)
    ∙ ap (λ b. joined (codes " / ") (map text_of (first ∷ steps)) ++ (b ++ text_of step)) (sym (between_later (length steps)))

-- the text with one step more
pub text_more : (l : PlainLibrary) (export : ℕ) (parts : List ℕ) (k : ℕ) (text more : List ℕ) → text ≡ steps_text l (path_of export (take k parts)) → k < length parts
    → more ≡ text ++ (between k ++ step_text (view_at l.graph (end_of l (path_of export (take k parts)))) (get_or parts k 0)) → more ≡ steps_text l (path_of export (take (k + 1) parts))
unfolding steps_of
text_more l export parts k text more so_far lt pushed =
    let path = path_of export (take k parts) in
    let step : PlainView × ℕ = (view_at l.graph (end_of l path), get_or parts k 0) in
    pushed ∙ ap (λ t. t ++ (between k ++ text_of step)) so_far
    ∙ ap (λ n. path_text (steps_of l path) ++ (between n ++ text_of step)) (sym (steps_count l export parts k lt))
    ∙ sym (path_text-more (steps_of l path) step) ∙ ap (steps_text l) (sym (one_more export parts k lt))

pub text_none : (l : PlainLibrary) (export : ℕ) (parts : List ℕ) → [] ≡ steps_text l (path_of export (take 0 parts))
unfolding steps_of
text_none l export parts = refl

-- the end with one step more
pub end_more : (l : PlainLibrary) (export : ℕ) (parts : List ℕ) (k node : ℕ) → k < length parts → node ≡ next_from l (end_of l (path_of export (take k parts))) (get_or parts k 0) → node ≡ end_of l (path_of export (take (k + 1) parts))
unfolding end_of
end_more l export parts k node lt is = is ∙ sym (ap (end_of l) (one_more export parts k lt))

pub end_none : (l : PlainLibrary) (export : ℕ) (parts : List ℕ) → type_of l export ≡ end_of l (path_of export (take 0 parts))
unfolding end_of
end_none l export parts = refl

-- ---- the loop

-- the node at which the first steps end, and their text
pub record IsSpelled (l : PlainLibrary) (export : ℕ) (parts : List ℕ) (k node : ℕ) (text : List ℕ) : Type 0 where
  pub ends : node ≡ end_of l (path_of export (take k parts))
  pub spelled : text ≡ steps_text l (path_of export (take k parts))

pub IsSpelled-none : (l : PlainLibrary) (export : ℕ) (parts : List ℕ) (node : ℕ) (text : List ℕ) → node ≡ type_of l export → text ≡ [] → IsSpelled l export parts 0 node text
IsSpelled-none l export parts node text is none = record { ends = is ∙ end_none l export parts; spelled = none ∙ text_none l export parts }

module _ (l : PlainLibrary) (export : ℕ) (parts : List ℕ) (k node : ℕ) (text : List ℕ) (was : IsSpelled l export parts k node text) where
  -- the node is there, and so is the next part of it
  pub node_there : IsWalk l (path_of export parts) → k < length parts → node < length l.graph
  node_there walk lt = subst (λ i. i < length l.graph) (sym was.ends) (walk_end l (path_of export (take k parts)) (walk_upto l (From export) k parts walk))

  pub part_there : IsWalk l (path_of export parts) → k < length parts → get_or parts k 0 < length (view_at l.graph node).parts
  part_there walk lt = subst (λ i. get_or parts k 0 < length (view_at l.graph i).parts) (sym was.ends) (walk_next l export parts k walk lt).1

  pub IsSpelled-more : (next part : ℕ) (more : List ℕ) (view : PlainView) → k < length parts → part ≡ get_or parts k 0 → view ≡ view_at l.graph node → next ≡ unwrap_or (to_of (part_at view part)) 0 → more ≡ text ++ (between k ++ step_text view part)
      → IsSpelled l export parts (k + 1) next more
  IsSpelled-more next part more view lt is_part is_view is pushed =
      let at_end : view ≡ view_at l.graph (end_of l (path_of export (take k parts))) = is_view ∙ ap (view_at l.graph) was.ends in
      record {
        ends = end_more l export parts k next lt (is ∙ ap (λ p. unwrap_or (to_of (part_at view p)) 0) is_part ∙ ap (λ (v : PlainView). unwrap_or (to_of (part_at v (get_or parts k 0))) 0) at_end);
        spelled = text_more l export parts k text more was.spelled lt (pushed ∙ ap (λ p. text ++ (between k ++ step_text view p)) is_part ∙ ap (λ (v : PlainView). text ++ (between k ++ step_text v (get_or parts k 0))) at_end);
      }

  pub IsSpelled-all : length parts ≤ k → text ≡ steps_text l (path_of export parts)
  IsSpelled-all past = was.spelled ∙ ap (λ ps. steps_text l (path_of export ps)) (take_all k parts past)
