-- Visits with breaks, and the notes at their rows, one after another.
use Rattle.std.proofs.Common.{◌≡◌, ◌<◌, ◌+◌, ℕ, Bool, true, false, not, cond, List, [], ◌∷◌, ◌++◌, length, map, take, get_or, slice_get, Some, None, refl, sym, ◌∙◌, ap, subst, inl, inr}
use Rattle.std.specs.Prelude.{flat_map, ◌==◌, ◌&&◌, ◌||◌}
use Rattle.std.specs.BTreeSet.{BTreeSet, contains_by}
use Rattle.std.specs.Cmp.{both_tied, unsigned_ties}
use Rattle.std.specs.List.{list_any}
use Rattle.std.specs.Ordering.{is_eq, nat_cmp, ordering_then}
use Rattle.std.specs.declared.cmp.Ordering.{Ordering}
use Rattle.std.proofs.lemmas.Cmp.{nat_eq_equiv}
use Rattle.std.proofs.lemmas.Grind.{flat_map-append}
use Rattle.std.proofs.lemmas.List.{append-nil, map_push, take_more}
use Rattle.std.proofs.lemmas.List.Elements.{Contains-push_cases}
use Rattle.std.proofs.lemmas.List.Folds.{list_any-append}
use Rattle.abi_base.proofs.lemmas.Bools.{not_is_true, not_is_false, or_false}
use Rattle.abi_base.specs.Lists.{firsts, firsts_after, with_first}
use Rattle.abi_types.specs.Graphs.{IsGraph}
use Rattle.abi_types.specs.Libraries.{PlainLibrary}
use Rattle.abi_types.specs.declared.rule.Rule.TheVariants.{LibrarySoname}
use Rattle.pair_rules.specs.declared.rules.Broken.{Broken}
use Rattle.pair_rules.specs.Paths.{Path, From, PathLeadsTo}
use Rattle.pair_rules.specs.Steps.{Task, Triple}
use Rattle.pair_explorer.specs.declared.visits.Visit.{Visit}
use Rattle.pair_explorer.specs.ByClass.{IsSound}
use Rattle.pair_explorer.specs.Explorations.{IsExploration}
use Rattle.pair_explorer.specs.Routes.{path_at, path_of}
use Rattle.pair_explorer.specs.Scopes.{Scope, rep, scope, LeadsByRep}
use Rattle.pair_explorer.specs.Visits.{seen, Along, AreEarlier}
use Rattle.cert_check.specs.Compatible.{Sides, task_of}
use Rattle.pair_compare.specs.reports.Findings.{export_of}
use Rattle.pair_compare.specs.reports.PathTexts.{IsWalk, label_at, steps_text}
use Rattle.type_notes.specs.declared.note.Note.{Note}
use Rattle.side_notes.specs.Affected.{AddsRow, AreRowNotes, AreSpelled, LeadToRow, as_row, note_beside, notes_by, pair_at, row_notes, row_text, same_pair, same_types}
use Rattle.pair_compare.proofs.lemmas.Paths.{export_of-followed}
use Rattle.pair_rules.proofs.lemmas.Lists.{firsts_after-more}
use Rattle.pair_rules.proofs.lemmas.Truths.{cond_or}

-- ---- the visits with breaks, each two types once

-- what an index out of a list of breaks gives past its end
abbrev no_break : ℕ × Broken
no_break = (0, record { rule = LibrarySoname; part = 0 })

abbrev number_of : ℕ × Broken → ℕ
number_of p = p.0

-- the order of pairs of types, as a search tree has it
abbrev pub pair_cmp : ℕ × ℕ → ℕ × ℕ → Ordering
pair_cmp p q = ordering_then (nat_cmp p.0 q.0) (nat_cmp p.1 q.1)

abbrev pub has_pair : BTreeSet (ℕ × ℕ) → ℕ × ℕ → Bool
has_pair pairs q = contains_by (pair_cmp q) pairs

-- two pairs compare equal exactly if they are the same
equal_pairs : (p q : ℕ × ℕ) → is_eq (pair_cmp p q) ≡ same_pair p q
equal_pairs p q = sym (both_tied (p.0 == q.0) (p.1 == q.1) (nat_cmp p.0 q.0) (nat_cmp p.1 q.1) (unsigned_ties p.0 q.0) (unsigned_ties p.1 q.1))

same_pair-turned : (p q : ℕ × ℕ) → same_pair p q ≡ same_pair q p
same_pair-turned p q = λ i. nat_eq_equiv.symm p.0 q.0 i && nat_eq_equiv.symm p.1 q.1 i

module _ (visits : List Visit) where
  -- one of these visits has the two types
  abbrev pub some_has : List ℕ → ℕ × ℕ → Bool
  some_has kept q = list_any (λ (n : ℕ). same_pair q (pair_at visits n)) kept

  -- what is kept of the first breaks, and the types of that
  pub record IsTelling (breaks : List (ℕ × Broken)) (i : ℕ) (pairs : BTreeSet (ℕ × ℕ)) (kept : List ℕ) : Type 0 where
    pub are : kept ≡ firsts (same_types visits) (map number_of (take i breaks))
    pub typed : (q : ℕ × ℕ) → has_pair pairs q ≡ some_has kept q

  take_none : (breaks : List (ℕ × Broken)) → map number_of (take 0 breaks) ≡ []
  take_none [] = refl
  take_none (p ∷ breaks) = refl

  pub IsTelling-none : (breaks : List (ℕ × Broken)) (pairs : BTreeSet (ℕ × ℕ)) (kept : List ℕ) → pairs.keys ≡ [] → kept ≡ [] → IsTelling breaks 0 pairs kept
  unfolding firsts_after
  IsTelling-none breaks pairs kept no_pairs none = record {
    are = none ∙ sym (ap (firsts (same_types visits)) (take_none breaks));
    typed = λ q. ap (list_any (λ (k : ℕ × ℕ). is_eq (pair_cmp q k))) no_pairs ∙ sym (ap (λ (ns : List ℕ). some_has ns q) none);
  }

  module _ (breaks : List (ℕ × Broken)) (i : ℕ) (pairs : BTreeSet (ℕ × ℕ)) (kept : List ℕ) (pair : ℕ × ℕ) (was : IsTelling breaks i pairs kept) (inside : i < length breaks) (is : pair ≡ pair_at visits (get_or breaks i no_break).0) where
    n : ℕ
    n = (get_or breaks i no_break).0

    -- the types are among those of what is kept exactly where something kept has them
    any_pair : has_pair pairs pair ≡ list_any (same_types visits n) kept
    unfolding n
    any_pair = was.typed pair ∙ ap (some_has kept) is

    grown : firsts (same_types visits) (map number_of (take (i + 1) breaks)) ≡ with_first (same_types visits) kept n
    unfolding n
    grown =
        ap (λ (ps : List (ℕ × Broken)). firsts (same_types visits) (map number_of ps)) (take_more breaks i no_break inside)
        ∙ ap (firsts (same_types visits)) (map_push number_of (take i breaks) (get_or breaks i no_break))
        ∙ firsts_after-more (same_types visits) [] (map number_of (take i breaks)) n ∙ ap (λ (xs : List ℕ). with_first (same_types visits) xs n) (sym was.are)

    one_more : (q : ℕ × ℕ) → some_has (kept ++ n ∷ []) q ≡ (some_has kept q || same_pair pair q)
    unfolding n
    one_more q =
        list_any-append (λ (m : ℕ). same_pair q (pair_at visits m)) kept (n ∷ []) ∙ ap (λ (b : Bool). some_has kept q || b) (or_false (same_pair q (pair_at visits n)) ∙ sym (ap (same_pair q) is) ∙ same_pair-turned q pair)

    pub IsTelling-more : (more : BTreeSet (ℕ × ℕ)) (added : Bool) → added ≡ not (has_pair pairs pair) → added ≡ true → ((q : ℕ × ℕ) → has_pair more q ≡ cond (is_eq (pair_cmp pair q)) true (has_pair pairs q))
        → IsTelling breaks (i + 1) more (kept ++ (get_or breaks i no_break).0 ∷ [])
    unfolding n
    IsTelling-more more added is_added holds adds =
        let new : has_pair pairs pair ≡ false = not_is_true (has_pair pairs pair) (sym is_added ∙ holds) in
        let other = sym any_pair ∙ new in
        record {
          are = sym (grown ∙ ap (λ b. cond b kept (kept ++ n ∷ [])) other);
          typed = λ q.
              adds q ∙ ap (λ (b : Bool). cond b true (has_pair pairs q)) (equal_pairs pair q) ∙ cond_or (same_pair pair q) (has_pair pairs q)
              ∙ ap (λ (b : Bool). b || same_pair pair q) (was.typed q) ∙ sym (one_more q);
        }

    pub IsTelling-still : (more : BTreeSet (ℕ × ℕ)) (added : Bool) → added ≡ not (has_pair pairs pair) → added ≡ false → more.keys ≡ pairs.keys → IsTelling breaks (i + 1) more kept
    unfolding n
    IsTelling-still more added is_added fails still =
        let there : has_pair pairs pair ≡ true = not_is_false (has_pair pairs pair) (sym is_added ∙ fails) in
        let same = sym any_pair ∙ there in
        record {
          are = sym (grown ∙ ap (λ b. cond b kept (kept ++ n ∷ [])) same);
          typed = λ q. ap (list_any (λ (k : ℕ × ℕ). is_eq (pair_cmp q k))) still ∙ was.typed q;
        }

-- ---- the notes at one row

-- the text that the code makes is that of the row
pub row_made : (l : PlainLibrary) (export : ℕ) (parts label steps text made : List ℕ) → label ≡ label_at l export → steps ≡ steps_text l (path_of export parts) → text ≡ [] → made ≡ text ++ as_row label steps
    → made ≡ row_text l (path_of export parts)
row_made l export parts label steps text made is_label is_steps empty is =
    let own : label ≡ label_at l (export_of (path_of export parts)) = is_label ∙ ap (label_at l) (sym (export_of-followed (From export) parts)) in
    is ∙ ap (λ (t : List ℕ). t ++ as_row label steps) empty ∙ ap (λ (x : List ℕ). as_row x steps) own ∙ ap (as_row (label_at l (export_of (path_of export parts)))) is_steps

pub row_there : (l : PlainLibrary) (visits : List Visit) (n export : ℕ) (parts text exports : List ℕ) (v : Visit) → slice_get visits n ≡ Some v → path_of export parts ≡ path_at visits n
    → text ≡ row_text l (path_of export parts) → flat_map (note_beside l export text) exports ≡ row_notes l visits (n, exports)
unfolding row_notes
row_there l visits n export parts text exports v at same is =
    let own : export ≡ export_of (path_at visits n) = sym (export_of-followed (From export) parts) ∙ ap export_of same in
    let row : text ≡ row_text l (path_at visits n) = is ∙ ap (row_text l) same in
    ap (λ (e : ℕ). flat_map (note_beside l e text) exports) own ∙ ap (λ (t : List ℕ). flat_map (note_beside l (export_of (path_at visits n)) t) exports) row
    ∙ sym (ap (notes_by l (path_at visits n) exports) at)

pub row_missing : (l : PlainLibrary) (visits : List Visit) (n : ℕ) (exports : List ℕ) → slice_get visits n ≡ None → row_notes l visits (n, exports) ≡ []
unfolding row_notes
row_missing l visits n exports none = ap (notes_by l (path_at visits n) exports) none

-- ---- row by row

pub AreRowNotes-more : (l : PlainLibrary) (scope : Scope) (visits : List Visit) (numbers : List ℕ) (notes more : List Note) (k d : ℕ) → k < length numbers → AreRowNotes l scope visits (take k numbers) notes
    → AddsRow l scope visits (get_or numbers k d) notes more → AreRowNotes l scope visits (take (k + 1) numbers) more
AreRowNotes-more l scope visits numbers notes more k d lt were adds =
    let n : ℕ = get_or numbers k d in
    let row : ℕ × List ℕ = (n, adds.exports) in
    record {
      rows = were.rows ++ row ∷ [];
      numbered = map_push (λ (r : ℕ × List ℕ). r.0) were.rows row ∙ ap (λ (ns : List ℕ). ns ++ n ∷ []) were.numbered ∙ sym (take_more numbers k d lt);
      led = λ other there. elim (Contains-push_cases were.rows row other there) [
        | inl before ↦ were.led other before
        | inr last ↦ subst (LeadToRow scope visits) last adds.led
      ];
      are = adds.are ∙ ap (λ (ns : List Note). ns ++ row_notes l visits row) were.are
          ∙ sym (flat_map-append (row_notes l visits) were.rows (row ∷ []) ∙ ap (λ (ns : List Note). flat_map (row_notes l visits) were.rows ++ ns) (append-nil (row_notes l visits row)));
    }

-- ---- what can be spelled

-- what the laws below say that is used here
pub record WalkLaws : Type 0 where
  pub walks : (s : Sides) (path : Path) (x : Triple) → IsGraph s.old.graph → IsGraph s.new.graph → PathLeadsTo (task_of s) path x → IsWalk s.old path
  pub comes : (s : Scope) (path : Path) (z : Triple) → IsSound s → LeadsByRep s path z → (x : Triple) × PathLeadsTo s.task path x × (rep s x ≡ z)
  pub along : (visits : List Visit) (n : ℕ) (v : Visit) → AreEarlier visits → slice_get visits n ≡ Some v → Along visits n (path_at visits n)
  pub one : (visits : List Visit) (n : ℕ) (p q : Path) → Along visits n p → Along visits n q → p ≡ q

pub spelled : WalkLaws → (s : Sides) (scope : Scope) (visits : List Visit) (breaks : List (ℕ × Broken)) → IsGraph s.old.graph → IsGraph s.new.graph → scope.task ≡ task_of s → IsSound scope
    → IsExploration scope visits breaks → AreSpelled s.old visits
spelled laws s scope visits breaks old_graph new_graph task sound e = record {
  earlier = e.earlier;
  walks = λ n v at.
      let reached = e.reached n v at in
      let same : reached.0 ≡ path_at visits n = laws.one visits n reached.0 (path_at visits n) reached.1 (laws.along visits n v e.earlier at) in
      let comes = laws.comes scope reached.0 (seen v) sound reached.2 in
      let leads : PathLeadsTo (task_of s) reached.0 comes.0 = subst (λ (t : Task). PathLeadsTo t reached.0 comes.0) task comes.1 in
      subst (λ (p : Path). IsWalk s.old p) same (laws.walks s reached.0 comes.0 old_graph new_graph leads);
}
