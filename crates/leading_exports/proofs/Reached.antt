-- A root leads to what is marked exactly where a path from its export leads to the two types.
use Rattle.std.proofs.Common.{◌≡◌, ◌<◌, ◌+◌, ◌==◌, ◌&&◌, ℕ, zero, suc, Bool, true, false, not, List, [], ◌∷◌, ◌++◌, length, take, Some, refl, sym, ◌∙◌, ap, subst, inl, inr, arith}
use Rattle.std.specs.Prelude.{◌↔◌, Contains, filter, map, slice_get, slice_index_or}
use Rattle.std.proofs.lemmas.Bool.{and_parts, and_from, cases_Bool, cases_lt, eqb-true, eq-eqb, not-true}
use Rattle.std.proofs.lemmas.List.{map_push, take_more, append-nil}
use Rattle.std.proofs.lemmas.List.Elements.{filter-append}
use Rattle.std.proofs.lemmas.Option.{get_or_from_slice_get, none-some, same_Some, slice_get-map, slice_get_within}
use Rattle.abi_base.proofs.lemmas.Contained.{at_front, in_rest, in_none}
use Rattle.pair_rules.specs.Paths.{Path, From, Then, root_triple}
use Rattle.pair_rules.specs.Steps.{PlainRoot, Triple, is_marked}
use Rattle.pair_explorer.specs.declared.visits.Visit.{Visit}
use Rattle.pair_explorer.specs.Scopes.{Scope, AreAscending, rep, rep_step, LeadsByRep}
use Rattle.pair_explorer.specs.Visits.{seen}
use Rattle.leading_exports.specs.Arrows.{ComeFromInside, IsMarked, LeadsThrough, LeadsToMark}
use Rattle.leading_exports.specs.Drawing.{all_arrows}
use Rattle.leading_exports.specs.Leading.{AreLeading, LeadsToPair, is_lead, is_marked_at, is_of_pair, start_of}
use Rattle.leading_exports.specs.Numbers.{IsNumberOf}
use Rattle.leading_exports.specs.Walks.{IsWalk}
use Rattle.leading_exports.proofs.Drawn.{HasVisit, IsArrow, StepLaws, arrow_is, arrow_there, visit_of}
use Rattle.leading_exports.proofs.Spreading.{in_front, itself}

-- ---- the marks to begin with

abbrev marks_of : Scope → ℕ → ℕ → List Visit → List Bool
marks_of s a b visits = map (is_of_pair s a b) visits

mark_at : (s : Scope) (a b : ℕ) (visits : List Visit) (n : ℕ) (v : Visit) → slice_get visits n ≡ Some v → slice_index_or (marks_of s a b visits) n false ≡ is_of_pair s a b v
mark_at s a b visits n v at =
    let there : slice_get (marks_of s a b visits) n ≡ Some (is_of_pair s a b v) = slice_get-map (is_of_pair s a b) visits n ∙ rw at refl in
    get_or_from_slice_get (marks_of s a b visits) n (is_of_pair s a b v) false there

pub marks_more : (s : Scope) (a b : ℕ) (visits : List Visit) (marks more : List Bool) (n : ℕ) (v : Visit) (mark : Bool) → slice_get visits n ≡ Some v → marks ≡ map (is_of_pair s a b) (take n visits) → mark ≡ is_of_pair s a b v
    → more ≡ marks ++ mark ∷ [] → more ≡ map (is_of_pair s a b) (take (n + 1) visits)
marks_more s a b visits marks more n v mark at are is grows =
    let f : Visit → Bool = is_of_pair s a b in
    let next : take (n + 1) visits ≡ take n visits ++ v ∷ [] = take_more visits n v (slice_get_within visits n v at) ∙ ap (λ (w : Visit). take n visits ++ w ∷ []) (get_or_from_slice_get visits n v v at) in
    grows ∙ ap (λ (xs : List Bool). xs ++ mark ∷ []) are ∙ ap (λ (b' : Bool). map f (take n visits) ++ b' ∷ []) is ∙ sym (ap (map f) next ∙ map_push f (take n visits) v)

-- ---- roots

-- roots of one export are one
one_root : (roots : List PlainRoot) → AreAscending roots → (j k : ℕ) (first other : PlainRoot) → slice_get roots j ≡ Some first → slice_get roots k ≡ Some other → first.export ≡ other.export → first ≡ other
one_root roots ascending j k first other at_j at_k same = elim (cases_lt j k) [
  | inl before ↦ absurd (let lt = ascending j k first other before at_j at_k in omega (arith, lt, same))
  | inr after ↦ elim (cases_lt k j) [
    | inl behind ↦ absurd (let lt = ascending k j other first behind at_k at_j in omega (arith, lt, same))
    | inr level ↦
        let is : j ≡ k = omega (arith, after, level) in
        same_Some first other (sym at_j ∙ ap (slice_get roots) is ∙ at_k)
  ]
]

-- the root from which a path begins
record HasRoot (s : Scope) (export : ℕ) : Type 0 where
  pub place : ℕ
  pub root : PlainRoot
  pub at : slice_get s.task.roots place ≡ Some root
  pub is : root.export ≡ export

root_of : (s : Scope) (path : Path) (z : Triple) → LeadsByRep s path z → HasRoot s (start_of path)
root_of s (From export) z (k, root, at, is, same) = record { place = k; root = root; at = at; is = is }
root_of s (Then path part) z (x, leads, step) = root_of s path x leads

-- ---- along arrows, and back

-- a path from an export leads to the visit of a number
record IsLedTo (s : Scope) (visits : List Visit) (export n : ℕ) : Type 0 where
  pub path : Path
  pub from : start_of path ≡ export
  pub visit : Visit
  pub at : slice_get visits n ≡ Some visit
  pub leads : LeadsByRep s path (seen visit)

module _ (s : Scope) (laws : StepLaws s) (visits : List Visit) (entries : List (Triple × ℕ)) (walk : IsWalk s visits entries) where
  on_arrow : (export m n : ℕ) → IsLedTo s visits export m → IsArrow s visits m n → IsLedTo s visits export n
  on_arrow export m n led arrow =
      let same : led.visit ≡ arrow.from = same_Some led.visit arrow.from (sym led.at ∙ arrow.at) in
      let P : Visit → Type 0 = λ v. LeadsByRep s led.path (seen v) in
      let before : LeadsByRep s led.path (seen arrow.from) = subst P same led.leads in
      let Q : Triple → Type 0 = λ x. LeadsByRep s (Then led.path arrow.part) x in
      record { path = Then led.path arrow.part; from = led.from; visit = arrow.is.visit; at = arrow.is.at; leads = subst Q (sym arrow.is.is) (seen arrow.from, before, arrow.leads) }

  follow : (export : ℕ) (through : List ℕ) (m last : ℕ) → IsLedTo s visits export m → LeadsThrough (all_arrows s visits entries) through m last → IsLedTo s visits export last
  follow export [] m last led same = let P : ℕ → Type 0 = λ n. IsLedTo s visits export n in subst P same led
  follow export (n ∷ later) m last led (arrow, on) = follow export later n last (on_arrow export m n led (arrow_is s visits entries walk.numbers m n arrow)) on

  module _ (marks : List Bool) where
    -- each number of a visit of the triple leads to a mark
    abbrev AllLead : Triple → Type 0
    AllLead z = (n : ℕ) → IsNumberOf visits z n → LeadsToMark (all_arrows s visits entries) marks n

    back : (path : Path) (z : Triple) → LeadsByRep s path z → AllLead z → (k : ℕ) (root : PlainRoot) → slice_get s.task.roots k ≡ Some root → root.export ≡ start_of path → AllLead (rep s (root_triple root))
    back (From export) z (j, first, at, is, same) all k root at_k from n number =
        let one : first ≡ root = one_root s.task.roots walk.scope.ascending j k first root at at_k (is ∙ sym from) in
        let triple : z ≡ rep s (root_triple root) = same ∙ ap (λ r. rep s (root_triple r)) one in
        all n (record { visit = number.visit; at = number.at; is = number.is ∙ sym triple })
    back (Then path part) z (x, leads, step) all k root at_k from n number =
        let before : AllLead x = λ m of_x.
        let stepped : rep_step s (seen of_x.visit) part ≡ Some z = ap (λ y. rep_step s y part) of_x.is ∙ step in
        let arrow = arrow_there s laws visits entries walk m of_x.visit of_x.at part z stepped in
        in_front (all_arrows s visits entries) marks m arrow.number arrow.arrow (all arrow.number arrow.is) in
        back path x leads before k root at_k from n number

  -- ---- one root

  module _ (a b : ℕ) (k : ℕ) (root : PlainRoot) (at : slice_get s.task.roots k ≡ Some root) where
    abbrev top : Triple
    top = rep s (root_triple root)

    start : HasVisit visits entries top
    start = visit_of s laws visits entries walk top (walk.explored.roots k root at)

    led_start : IsLedTo s visits root.export start.number
    led_start =
        let Q : Triple → Type 0 = λ x. LeadsByRep s (From root.export) x in
        record { path = From root.export; from = refl; visit = start.is.visit; at = start.is.at; leads = subst Q (sym start.is.is) (k, root, at, refl, refl) }

    -- what leads to a mark leads to the two types
    pair_of : LeadsToMark (all_arrows s visits entries) (map (is_of_pair s a b) visits) start.number → LeadsToPair s a b root.export
    pair_of mark =
        let led = follow root.export mark.through start.number mark.last led_start mark.leads in
        let v : Visit = led.visit in
        let is : is_of_pair s a b v ≡ true = sym (mark_at s a b visits mark.last v led.at) ∙ mark.marked in
        let parts = and_parts (v.old == a && v.new == b) (not (is_marked s.task v.old v.way)) is in
        let nodes = and_parts (v.old == a) (v.new == b) parts.0 in
        let old : v.old ≡ a = eqb-true v.old a nodes.0 in
        let new : v.new ≡ b = eqb-true v.new b nodes.1 in
        let unmarked : is_marked s.task v.old v.way ≡ false = not-true (is_marked s.task v.old v.way) parts.1 in
        let P : ℕ → Type 0 = λ x. LeadsByRep s led.path (record { old = x; new = v.new; way = v.way }) in
        let Q : ℕ → Type 0 = λ y. LeadsByRep s led.path (record { old = a; new = y; way = v.way }) in
        let R : ℕ → Type 0 = λ x. is_marked s.task x v.way ≡ false in
        record { path = led.path; way = v.way; from = led.from; leads = subst Q new (subst P old led.leads); unmarked = subst R old unmarked }

    -- and what leads to the two types to a mark
    mark_of : LeadsToPair s a b root.export → LeadsToMark (all_arrows s visits entries) (map (is_of_pair s a b) visits) start.number
    mark_of pair =
        let z : Triple = record { old = a; new = b; way = pair.way } in
        let marks : List Bool = map (is_of_pair s a b) visits in
        let all : AllLead marks z = λ n number.
        let of : is_of_pair s z.old z.new number.visit ≡ true = is_of z number.visit number.is pair.unmarked in
        itself (all_arrows s visits entries) marks n (mark_at s a b visits n number.visit number.at ∙ of) in
        back marks pair.path z pair.leads all k root at (sym pair.from) start.number start.is
      where
        is_of : (z : Triple) (v : Visit) → seen v ≡ z → is_marked s.task z.old z.way ≡ false → is_of_pair s z.old z.new v ≡ true
        is_of z v same unmarked =
            let old : v.old ≡ z.old = ap (λ (x : Triple). x.old) same in
            let new : v.new ≡ z.new = ap (λ (x : Triple). x.new) same in
            let free : is_marked s.task v.old v.way ≡ false = ap (λ (x : Triple). is_marked s.task x.old x.way) same ∙ unmarked in
            and_from (v.old == z.old && v.new == z.new) (not (is_marked s.task v.old v.way)) (and_from (v.old == z.old) (v.new == z.new) (eq-eqb v.old z.old old) (eq-eqb v.new z.new new)) (ap not free)

    module _ (marks : List Bool) (spread : (m : ℕ) → IsMarked marks m ↔ LeadsToMark (all_arrows s visits entries) (map (is_of_pair s a b) visits) m) where
      lead_is : is_lead s entries marks root ≡ slice_index_or marks start.number false
      unfolding is_lead
      lead_is = ap (is_marked_at marks) start.found

      pub leads_exactly : (is_lead s entries marks root ≡ true) ↔ LeadsToPair s a b root.export
      leads_exactly = (λ is. pair_of ((spread start.number).0 (sym lead_is ∙ is)), λ pair. lead_is ∙ (spread start.number).1 (mark_of pair))

-- ---- the exports that are picked

abbrev pub picked : (PlainRoot → Bool) → List PlainRoot → List ℕ
picked p roots = map (λ (root : PlainRoot). root.export) (filter p roots)

-- a root that passes a test has the export
record IsPicked (p : PlainRoot → Bool) (roots : List PlainRoot) (export : ℕ) : Type 0 where
  pub place : ℕ
  pub root : PlainRoot
  pub at : slice_get roots place ≡ Some root
  pub passes : p root ≡ true
  pub is : root.export ≡ export

picked_later : (p : PlainRoot → Bool) (root : PlainRoot) (roots : List PlainRoot) (export : ℕ) → IsPicked p roots export → IsPicked p (root ∷ roots) export
picked_later p root roots export found = record { place = suc found.place; root = found.root; at = found.at; passes = found.passes; is = found.is }

picked_first : (p : PlainRoot → Bool) (root : PlainRoot) (roots : List PlainRoot) → p root ≡ true → picked p (root ∷ roots) ≡ root.export ∷ picked p roots
picked_first p root roots passes = rw passes refl

picked_without : (p : PlainRoot → Bool) (root : PlainRoot) (roots : List PlainRoot) → p root ≡ false → picked p (root ∷ roots) ≡ picked p roots
picked_without p root roots fails = rw fails refl

picked_cons : (p : PlainRoot → Bool) (root : PlainRoot) (roots : List PlainRoot) (export : ℕ) → p root ≡ true → (Contains (picked p roots) export → IsPicked p roots export)
    → Contains (root.export ∷ picked p roots) export → IsPicked p (root ∷ roots) export
picked_cons p root roots export passes on (zero, lt, is) = record { place = 0; root = root; at = refl; passes = passes; is = is }
picked_cons p root roots export passes on (suc k, lt, is) = picked_later p root roots export (on (k, omega (arith, lt), is))

picked_is : (p : PlainRoot → Bool) (roots : List PlainRoot) (export : ℕ) → Contains (picked p roots) export → IsPicked p roots export
picked_is p [] export there = absurd (in_none export there)
picked_is p (root ∷ roots) export there =
    let on : Contains (picked p roots) export → IsPicked p roots export = λ later. picked_is p roots export later in
    let P : List ℕ → Type 0 = λ xs. Contains xs export in
    elim (cases_Bool (p root)) [
      | inl passes ↦ picked_cons p root roots export passes on (subst P (picked_first p root roots passes) there)
      | inr fails ↦ picked_later p root roots export (on (subst P (picked_without p root roots fails) there))
    ]

picked_there : (p : PlainRoot → Bool) (roots : List PlainRoot) (k : ℕ) (root : PlainRoot) → slice_get roots k ≡ Some root → p root ≡ true → Contains (picked p roots) root.export
picked_there p [] k root at passes = absurd (none-some root at)
picked_there p (first ∷ roots) zero root at passes =
    let same : first ≡ root = same_Some first root at in
    let P : PlainRoot → Type 0 = λ r. Contains (picked p (first ∷ roots)) r.export in
    let Q : List ℕ → Type 0 = λ xs. Contains xs first.export in
    subst P same (subst Q (sym (picked_first p first roots (ap p same ∙ passes))) (at_front first.export (picked p roots)))
picked_there p (first ∷ roots) (suc k) root at passes =
    let on = picked_there p roots k root at passes in
    let Q : List ℕ → Type 0 = λ xs. Contains xs root.export in
    elim (cases_Bool (p first)) [
      | inl holds ↦ subst Q (sym (picked_first p first roots holds)) (in_rest first.export (picked p roots) root.export on)
      | inr fails ↦ subst Q (sym (picked_without p first roots fails)) on
    ]

abbrev Ascend : List ℕ → Type 0
Ascend xs = (i j k l : ℕ) → i < j → slice_get xs i ≡ Some k → slice_get xs j ≡ Some l → k < l

ascending_later : (root : PlainRoot) (roots : List PlainRoot) → AreAscending (root ∷ roots) → AreAscending roots
ascending_later root roots ascending j k first later lt at_j at_k = ascending (suc j) (suc k) first later (omega (arith, lt)) at_j at_k

ascend_cons : (x : ℕ) (xs : List ℕ) → ((y : ℕ) → Contains xs y → x < y) → Ascend xs → Ascend (x ∷ xs)
ascend_cons x xs below ascend i zero k l lt at_i at_j = absurd (omega (arith, lt))
ascend_cons x xs below ascend zero (suc j) k l lt at_i at_j =
    let first : x ≡ k = same_Some x k at_i in
    let inside = slice_get_within xs j l at_j in
    let under = below l (j, inside, get_or_from_slice_get xs j l l at_j) in
    omega (arith, first, under)
ascend_cons x xs below ascend (suc i) (suc j) k l lt at_i at_j = ascend i j k l (omega (arith, lt)) at_i at_j

picked_ascend : (p : PlainRoot → Bool) (roots : List PlainRoot) → AreAscending roots → Ascend (picked p roots)
picked_ascend p [] ascending = λ i j k l lt at_i at_j. absurd (none-some k at_i)
picked_ascend p (root ∷ roots) ascending =
    let later = picked_ascend p roots (ascending_later root roots ascending) in
    let below : (y : ℕ) → Contains (picked p roots) y → root.export < y = λ y there.
    let found = picked_is p roots y there in
    let lt = ascending 0 (suc found.place) root found.root (omega arith) refl found.at in
    omega (arith, lt, found.is) in
    elim (cases_Bool (p root)) [
      | inl holds ↦ subst Ascend (sym (picked_first p root roots holds)) (ascend_cons root.export (picked p roots) below later)
      | inr fails ↦ subst Ascend (sym (picked_without p root roots fails)) later
    ]

pub picked_none : (p : PlainRoot → Bool) (roots : List PlainRoot) → picked p (take 0 roots) ≡ []
picked_none p [] = refl
picked_none p (root ∷ roots) = refl

module _ (p : PlainRoot → Bool) (roots : List PlainRoot) (exports more : List ℕ) (k : ℕ) (root : PlainRoot) (at : slice_get roots k ≡ Some root) (are : exports ≡ picked p (take k roots)) where
  next : take (k + 1) roots ≡ take k roots ++ root ∷ []
  next = take_more roots k root (slice_get_within roots k root at) ∙ ap (λ (r : PlainRoot). take k roots ++ r ∷ []) (get_or_from_slice_get roots k root root at)

  split : picked p (take (k + 1) roots) ≡ map (λ (r : PlainRoot). r.export) (filter p (take k roots) ++ filter p (root ∷ []))
  split = ap (picked p) next ∙ ap (map (λ (r : PlainRoot). r.export)) (filter-append p (take k roots) (root ∷ []))

  pub picked_more : p root ≡ true → more ≡ exports ++ root.export ∷ [] → more ≡ picked p (take (k + 1) roots)
  picked_more holds grows =
      let one : filter p (root ∷ []) ≡ root ∷ [] = rw holds refl in
      grows ∙ ap (λ (xs : List ℕ). xs ++ root.export ∷ []) are
      ∙ sym (split ∙ ap (λ (rs : List PlainRoot). map (λ (r : PlainRoot). r.export) (filter p (take k roots) ++ rs)) one ∙ map_push (λ (r : PlainRoot). r.export) (filter p (take k roots)) root)

  pub picked_still : p root ≡ false → exports ≡ picked p (take (k + 1) roots)
  picked_still fails =
      let none : filter p (root ∷ []) ≡ [] = rw fails refl in
      are ∙ sym (split ∙ ap (λ (rs : List PlainRoot). map (λ (r : PlainRoot). r.export) (filter p (take k roots) ++ rs)) none ∙ ap (map (λ (r : PlainRoot). r.export)) (append-nil (filter p (take k roots))))

-- ---- all of them

pub inside : (s : Scope) (visits : List Visit) (entries : List (Triple × ℕ)) (arrows : List (ℕ × ℕ)) (count : ℕ) → IsWalk s visits entries → arrows ≡ all_arrows s visits entries → count ≡ length visits → ComeFromInside arrows count
inside s visits entries arrows count walk are many arrow there =
    let P : List (ℕ × ℕ) → Type 0 = λ xs. Contains xs arrow in
    let is = arrow_is s visits entries walk.numbers arrow.0 arrow.1 (subst P are there) in
    let lt = slice_get_within visits arrow.0 is.from is.at in
    omega (arith, lt, many)

pub AreLeading-picked : (s : Scope) → StepLaws s → (visits : List Visit) (entries : List (Triple × ℕ)) → IsWalk s visits entries → (a b : ℕ) (marks : List Bool)
    → ((m : ℕ) → IsMarked marks m ↔ LeadsToMark (all_arrows s visits entries) (map (is_of_pair s a b) visits) m) → AreLeading s a b (picked (is_lead s entries marks) s.task.roots)
AreLeading-picked s laws visits entries walk a b marks spread = record {
  ascend = picked_ascend (is_lead s entries marks) s.task.roots walk.scope.ascending;
  exact = λ export. (
    λ there.
        let found = picked_is (is_lead s entries marks) s.task.roots export there in
        let P : ℕ → Type 0 = λ e. LeadsToPair s a b e in
        subst P found.is ((leads_exactly s laws visits entries walk a b found.place found.root found.at marks spread).0 found.passes),
    λ pair.
        let root = root_of s pair.path _ pair.leads in
        let is : root.root.export ≡ export = root.is ∙ pair.from in
        let P : ℕ → Type 0 = λ e. LeadsToPair s a b e in
        let Q : ℕ → Type 0 = λ e. Contains (picked (is_lead s entries marks) s.task.roots) e in
        let passes = (leads_exactly s laws visits entries walk a b root.place root.root root.at marks spread).1 (subst P (sym is) pair) in
        subst Q is (picked_there (is_lead s entries marks) s.task.roots root.place root.root root.at passes),
  );
}

-- the marks in the end, as the code reads them
pub spread_of : (s : Scope) (visits : List Visit) (entries : List (Triple × ℕ)) (a b : ℕ) (arrows : List (ℕ × ℕ)) (before after marks : List Bool) → arrows ≡ all_arrows s visits entries → before ≡ map (is_of_pair s a b) visits → marks ≡ after
    → ((m : ℕ) → IsMarked after m ↔ LeadsToMark arrows before m) → (m : ℕ) → IsMarked marks m ↔ LeadsToMark (all_arrows s visits entries) (map (is_of_pair s a b) visits) m
spread_of s visits entries a b arrows before after marks are from is spread m =
    let P : List (ℕ × ℕ) → Type 0 = λ xs. IsMarked after m ↔ LeadsToMark xs before m in
    let Q : List Bool → Type 0 = λ xs. IsMarked after m ↔ LeadsToMark (all_arrows s visits entries) xs m in
    let R : List Bool → Type 0 = λ xs. IsMarked xs m ↔ LeadsToMark (all_arrows s visits entries) (map (is_of_pair s a b) visits) m in
    subst R (sym is) (subst Q from (subst P are (spread m)))
