-- What is kept of breaks, the keys of what is kept, and its rows.
use Rattle.std.proofs.Common.{◌≡◌, ◌<◌, ◌≤◌, ℕ, ◌+◌, Bool, true, false, not, cond, List, [], ◌∷◌, ◌++◌, map, take, length, get_or, slice_get, Some, Vec, refl, sym, ◌∙◌, ap, subst, inl, inr, append_assoc}
use Rattle.std.specs.Prelude.{◌==◌, ◌&&◌}
use Rattle.std.specs.BTreeSet.{BTreeSet, IsEmpty, IsUnchanged, contains}
use Rattle.std.specs.Bool.{OnFalse}
use Rattle.std.specs.Cmp.{both_tied, unsigned_ties, nat_eq_equiv}
use Rattle.std.specs.Cmp.Lexicographic.{slice_cmp, lists_ties}
use Rattle.std.specs.Ordering.{nat_cmp, ordering_then, is_eq}
use Rattle.std.specs.Str.{bytes_eq}
use Rattle.std.specs.declared.alloc.Global.{Global}
use Rattle.std.specs.declared.cmp.Ordering.{Ordering}
use Rattle.std.specs.List.{list_any}
use Rattle.std.proofs.lemmas.Bool.{cases_Bool}
use Rattle.std.proofs.lemmas.List.{take_more, take_all, map-append}
use Rattle.std.proofs.lemmas.Cmp.{nat_list_eq_equiv}
use Rattle.std.proofs.lemmas.List.Folds.{list_any-append}
use Rattle.std.proofs.lemmas.List.Elements.{Contains-get_or}
use Rattle.std.proofs.lemmas.Option.{slice_get-get_or}
use Rattle.abi_base.proofs.lemmas.Bools.{cond_last, not_is_true, not_is_false}
use Rattle.abi_base.specs.Lists.{with_first, firsts_after, firsts}
use Rattle.abi_base.proofs.lemmas.Lists.{AreFirsts-all, contains_at, map-map}
use Rattle.abi_types.specs.declared.rule.Rule.TheVariants.{LibrarySoname}
use Rattle.abi_types.specs.Graphs.{node_at, view_at}
use Rattle.abi_types.specs.Rules.{rule_place}
use Rattle.abi_types.specs.Types.{PlainView}
use Rattle.report.specs.TypeRows.{part_of, type_detail, type_is, type_was}
use Rattle.report.specs.declared.row.Row.{Row}
use Rattle.pair_rules.specs.declared.rules.Broken.{Broken}
use Rattle.pair_rules.specs.Steps.{Task}
use Rattle.pair_explorer.specs.declared.visits.Visit.{Visit}
use Rattle.pair_explorer.specs.Routes.{path_of, path_at}
use Rattle.cert_check.specs.Compatible.{Sides, task_of}
use Rattle.pair_compare.specs.reports.Findings.{export_of, detail_at}
use Rattle.pair_compare.specs.reports.Keys.{PlainKey, plain_key, key_of, same_key}
use Rattle.pair_compare.specs.reports.PathTexts.{label_at, steps_text}
use Rattle.pair_compare.specs.reports.Readable.{IsReadable, AreReadable}
use Rattle.pair_compare.specs.reports.Reports.{row_of}
use Rattle.pair_compare.specs.reports.TypeFindings.{finding_of, found_of, same_row, same_told, told_breaks, type_rows}
use Rattle.pair_compare.proofs.reports_lemmas.RowLemmas.{PlacesAreOwn}
use Rattle.pair_compare.proofs.reports_lemmas.SameRows.{same_row-itself, same_row-turned}
use Rattle.pair_compare.proofs.lemmas.Paths.{export_of-followed}
use Rattle.pair_rules.proofs.lemmas.Lists.{firsts_after-more}

abbrev pub Key : Type 0
Key = ℕ × ℕ × ℕ × Vec ℕ Global

-- the keys in a search tree, and their order there
abbrev pub Keys : Type 0
Keys = BTreeSet Key

abbrev pub key_cmp : Key → Key → Ordering
key_cmp k q = ordering_then (ordering_then (ordering_then (nat_cmp k.0 q.0) (nat_cmp k.1 q.1)) (nat_cmp k.2 q.2)) (slice_cmp nat_cmp k.3.items q.3.items)

-- keys that compare equal are the same
key_tied : (k q : Key) → same_key (plain_key k) (plain_key q) ≡ is_eq (key_cmp k q)
key_tied k q =
    both_tied (k.0 == q.0 && k.1 == q.1 && k.2 == q.2) (bytes_eq k.3.items q.3.items) (ordering_then (ordering_then (nat_cmp k.0 q.0) (nat_cmp k.1 q.1)) (nat_cmp k.2 q.2)) (slice_cmp nat_cmp k.3.items q.3.items)
    (both_tied (k.0 == q.0 && k.1 == q.1) (k.2 == q.2) (ordering_then (nat_cmp k.0 q.0) (nat_cmp k.1 q.1)) (nat_cmp k.2 q.2)
    (both_tied (k.0 == q.0) (k.1 == q.1) (nat_cmp k.0 q.0) (nat_cmp k.1 q.1) (unsigned_ties k.0 q.0) (unsigned_ties k.1 q.1)) (unsigned_ties k.2 q.2))
    (lists_ties nat_cmp unsigned_ties k.3.items q.3.items)

same_key-turned : (k q : PlainKey) → same_key k q ≡ same_key q k
same_key-turned k q =
    ap (λ (b : Bool). b && k.1 == q.1 && k.2 == q.2 && bytes_eq k.3 q.3) (nat_eq_equiv.symm k.0 q.0)
    ∙ ap (λ (b : Bool). q.0 == k.0 && b && k.2 == q.2 && bytes_eq k.3 q.3) (nat_eq_equiv.symm k.1 q.1)
    ∙ ap (λ (b : Bool). q.0 == k.0 && q.1 == k.1 && b && bytes_eq k.3 q.3) (nat_eq_equiv.symm k.2 q.2)
    ∙ ap (λ (b : Bool). q.0 == k.0 && q.1 == k.1 && q.2 == k.2 && b) (nat_list_eq_equiv.symm k.3 q.3)

-- what an index out of a list of breaks gives past its end
abbrev pub no_break : ℕ × Broken
no_break = (0, record { rule = LibrarySoname; part = 0 })

pub readable_at : (s : Sides) (vs : List Visit) (broken : List (ℕ × Broken)) (k : ℕ) → AreReadable s vs broken → k < length broken → IsReadable s vs (get_or broken k no_break)
readable_at s vs broken k are lt = are.each (get_or broken k no_break) (Contains-get_or broken k no_break lt)

module _ (t : Task) (vs : List Visit) where
  pub key_is : (p : ℕ × Broken) (v : Visit) (place old new : ℕ) (text : List ℕ) (one other : PlainView) → slice_get vs p.0 ≡ Some v → place ≡ rule_place p.1.rule → old ≡ v.old → new ≡ v.new → one ≡ view_at t.old v.old → other ≡ view_at t.new v.new
      → text ≡ type_detail p.1.rule one other p.1.part → ◌≡◌ {A = PlainKey} (place, old, new, text) (key_of t (finding_of vs p))
  unfolding finding_of detail_at
  key_is p v place old new text one other at is_place is_old is_new is_one is_other is_text =
      let whole : text ≡ detail_at t v.old v.new p.1 = is_text ∙ ap (λ u. type_detail p.1.rule u other p.1.part) is_one ∙ ap (λ u. type_detail p.1.rule (view_at t.old v.old) u p.1.part) is_other in
      let mk : ℕ → ℕ → ℕ → List ℕ → PlainKey = λ a b c d. (a, b, c, d) in
      ap (λ a. mk a old new text) is_place ∙ ap (λ b. mk (rule_place p.1.rule) b new text) is_old ∙ ap (λ c. mk (rule_place p.1.rule) v.old c text) is_new ∙ ap (mk (rule_place p.1.rule) v.old v.new) whole
      ∙ sym (ap (λ o. key_of t (found_of (path_at vs p.0) p.1 o)) at)

  abbrev pub told_key : ℕ × Broken → PlainKey
  told_key p = key_of t (finding_of vs p)

  same_told-key : (p q : ℕ × Broken) → same_told t vs p q ≡ same_key (told_key p) (told_key q)
  unfolding same_row
  same_told-key p q = refl

  list_any-same : (f g : (ℕ × Broken) → Bool) → ((q : ℕ × Broken) → f q ≡ g q) → (told : List (ℕ × Broken)) → list_any f told ≡ list_any g told
  list_any-same f g same [] = refl
  list_any-same f g same (q ∷ told) = elim (cases_Bool (g q)) [
    | inl here ↦ let here' = same q ∙ here in rw (here, here') refl
    | inr other ↦ let other' = same q ∙ other in rw (other, other') (list_any-same f g same told)
  ]

  -- whether one of these breaks has a key
  abbrev pub is_key_of : Key → List (ℕ × Broken) → Bool
  is_key_of k told = list_any (λ (p : ℕ × Broken). same_key (plain_key k) (told_key p)) told

  -- what is kept of the first breaks, and the keys of that
  pub record IsTelling (breaks : List (ℕ × Broken)) (i : ℕ) (keys : Keys) (kept : List (ℕ × Broken)) : Type 0 where
    pub are : kept ≡ firsts (same_told t vs) (take i breaks)
    pub keyed : (q : Key) → contains key_cmp keys q ≡ is_key_of q kept

  pub IsTelling-none : (breaks : List (ℕ × Broken)) (keys : Keys) → IsEmpty keys → IsTelling breaks 0 keys []
  unfolding firsts_after
  IsTelling-none breaks keys empty = record { are = refl; keyed = λ q. ap (λ (ks : List Key). list_any (λ k. is_eq (key_cmp q k)) ks) empty }

  module _ (breaks : List (ℕ × Broken)) (i : ℕ) (keys : Keys) (kept : List (ℕ × Broken)) (key : Key) (was : IsTelling breaks i keys kept) (inside : i < length breaks) (key_is : plain_key key ≡ told_key (get_or breaks i no_break)) where
    p : ℕ × Broken
    p = get_or breaks i no_break

    grown : firsts (same_told t vs) (take (i + 1) breaks) ≡ with_first (same_told t vs) kept p
    unfolding p
    grown =
        ap (firsts (same_told t vs)) (take_more breaks i no_break inside)
        ∙ firsts_after-more (same_told t vs) [] (take i breaks) p ∙ ap (λ xs. with_first (same_told t vs) xs p) (sym was.are)

    -- a key is in the set exactly where what was kept has the row of this break
    there : contains key_cmp keys key ≡ list_any (same_told t vs p) kept
    unfolding p
    there =
        was.keyed key ∙ ap (λ (k : PlainKey). list_any (λ (q : ℕ × Broken). same_key k (told_key q)) kept) key_is
        ∙ list_any-same (λ q. same_key (told_key p) (told_key q)) (same_told t vs p) (λ q. sym (same_told-key p q)) kept

    -- the other keys are in it as before
    keyed_more : (more : Keys) → ((q : Key) → contains key_cmp more q ≡ cond (is_eq (key_cmp key q)) true (contains key_cmp keys q)) → (q : Key) → contains key_cmp more q ≡ is_key_of q (kept ++ p ∷ [])
    unfolding p
    keyed_more more puts q =
        let turned : is_eq (key_cmp key q) ≡ same_key (plain_key q) (told_key p) = sym (key_tied key q) ∙ same_key-turned (plain_key key) (plain_key q) ∙ ap (same_key (plain_key q)) key_is in
        puts q ∙ ap (λ (b : Bool). cond b true (contains key_cmp keys q)) turned ∙ ap (λ (b : Bool). cond (same_key (plain_key q) (told_key p)) true b) (was.keyed q)
        ∙ cond_last (same_key (plain_key q) (told_key p)) (is_key_of q kept) ∙ sym (list_any-append (λ (p : ℕ × Broken). same_key (plain_key q) (told_key p)) kept (p ∷ []))

    pub IsTelling-more : (more : Keys) (added : Bool) → added ≡ not (contains key_cmp keys key) → added ≡ true → ((q : Key) → contains key_cmp more q ≡ cond (is_eq (key_cmp key q)) true (contains key_cmp keys q)) → IsTelling breaks (i + 1) more (kept ++ get_or breaks i no_break ∷ [])
    unfolding p
    IsTelling-more more added is_added yes' puts =
        let other = sym there ∙ not_is_true (contains key_cmp keys key) (sym is_added ∙ yes') in
        record { are = sym (grown ∙ ap (λ b. cond b kept (kept ++ p ∷ [])) other); keyed = keyed_more more puts }

    pub IsTelling-still : (more : Keys) (added : Bool) → added ≡ not (contains key_cmp keys key) → added ≡ false → OnFalse added (IsUnchanged keys more) → IsTelling breaks (i + 1) more kept
    unfolding p
    IsTelling-still more added is_added no' stays =
        let P : Bool → Type 0 = λ b. OnFalse b (IsUnchanged keys more) in
        let still : more.keys ≡ keys.keys = subst P no' stays in
        let same = sym there ∙ not_is_false (contains key_cmp keys key) (sym is_added ∙ no') in
        record {
          are = sym (grown ∙ ap (λ b. cond b kept (kept ++ p ∷ [])) same);
          keyed = λ q. ap (λ (ks : List Key). list_any (λ k. is_eq (key_cmp q k)) ks) still ∙ was.keyed q;
        }

-- ---- rows

-- what is kept can be read
pub kept_readable : PlacesAreOwn → (s : Sides) (vs : List Visit) (broken kept : List (ℕ × Broken)) (k : ℕ) → AreReadable s vs broken → kept ≡ told_breaks (task_of s) vs broken → k < length kept → IsReadable s vs (get_or kept k no_break)
kept_readable places s vs broken kept k are is lt =
    let t = task_of s in
    let own = AreFirsts-all (same_told t vs) (λ p q. Unit {0}) (λ p. same_row-itself t (finding_of vs p)) (λ p q. same_row-turned t places (finding_of vs p) (finding_of vs q)) broken (λ m n x y below at_m at_n. tt) in
    let at = sym (ap (λ (xs : List (ℕ × Broken)). slice_get xs k) is) ∙ slice_get-get_or kept k no_break lt in
    let source = own.from k (get_or kept k no_break) at in
    are.each (get_or kept k no_break) (contains_at broken source.0 (get_or kept k no_break) source.1)

-- the row of a break between two types, with the texts that lead to them and their entries
abbrev pub between_types : Broken → List ℕ → List ℕ → PlainView → PlainView → ℕ → ℕ → Row
between_types b label steps one other old_entry new_entry = record {
  rule = b.rule;
  export = label;
  path = steps;
  detail = type_detail b.rule one other b.part;
  part = part_of b.rule one b.part;
  was = type_was b.rule one b.part;
  is = type_is b.rule one other b.part;
  old_entry = old_entry;
  new_entry = new_entry;
}

-- what the code tells of a break is its row
pub row_is : (s : Sides) (vs : List Visit) (number : ℕ) (b : Broken) (v : Visit) (export : ℕ) (parts label steps : List ℕ) (one other : PlainView) (old_entry new_entry : ℕ)
    → slice_get vs number ≡ Some v → path_of export parts ≡ path_at vs number → label ≡ label_at s.old export → steps ≡ steps_text s.old (path_of export parts)
    → one ≡ view_at s.old.graph v.old → other ≡ view_at s.new.graph v.new → old_entry ≡ (node_at s.old.graph v.old).entry → new_entry ≡ (node_at s.new.graph v.new).entry
    → ◌≡◌ {A = Row} (between_types b label steps one other old_entry new_entry) (row_of s (finding_of vs (number, b)))
unfolding finding_of row_of detail_at
row_is s vs number b v export parts label steps one other old_entry new_entry at same is_label is_steps is_one is_other is_old is_new =
    let path = path_at vs number in
    let old = view_at s.old.graph v.old in
    let new = view_at s.new.graph v.new in
    let label' : label ≡ label_at s.old (export_of path) = is_label ∙ ap (label_at s.old) (sym (export_of-followed _ parts) ∙ ap export_of same) in
    let steps' : steps ≡ steps_text s.old path = is_steps ∙ ap (steps_text s.old) same in
    ap (λ x. between_types b x steps one other old_entry new_entry) label' ∙ ap (λ x. between_types b (label_at s.old (export_of path)) x one other old_entry new_entry) steps'
    ∙ ap (λ x. between_types b (label_at s.old (export_of path)) (steps_text s.old path) x other old_entry new_entry) is_one
    ∙ ap (λ x. between_types b (label_at s.old (export_of path)) (steps_text s.old path) old x old_entry new_entry) is_other
    ∙ ap (λ x. between_types b (label_at s.old (export_of path)) (steps_text s.old path) old new x new_entry) is_old
    ∙ ap (λ x. between_types b (label_at s.old (export_of path)) (steps_text s.old path) old new (node_at s.old.graph v.old).entry x) is_new
    ∙ sym (ap (λ o. row_of s (found_of path b o)) at)

-- the rows of the first of what is kept, behind others
abbrev pub rows_with : Sides → List Visit → List Row → List (ℕ × Broken) → List Row
rows_with s vs start kept = start ++ map (λ (p : ℕ × Broken). row_of s (finding_of vs p)) kept

pub rows_more : (s : Sides) (vs : List Visit) (start rows more : List Row) (kept : List (ℕ × Broken)) (i : ℕ) (row : Row) → rows ≡ rows_with s vs start (take i kept) → i < length kept → row ≡ row_of s (finding_of vs (get_or kept i no_break))
    → more ≡ rows ++ row ∷ [] → more ≡ rows_with s vs start (take (i + 1) kept)
rows_more s vs start rows more kept i row so_far lt is pushed =
    let of : ℕ × Broken → Row = λ p. row_of s (finding_of vs p) in
    let p = get_or kept i no_break in
    pushed ∙ ap (λ rs. rs ++ row ∷ []) so_far ∙ ap (λ r. (start ++ map of (take i kept)) ++ r ∷ []) is ∙ append_assoc start (map of (take i kept)) (of p ∷ [])
    ∙ ap (λ rs. start ++ rs) (sym (map-append of (take i kept) (p ∷ []))) ∙ ap (rows_with s vs start) (sym (take_more kept i no_break lt))

pub rows_all : (s : Sides) (vs : List Visit) (start rows : List Row) (kept broken : List (ℕ × Broken)) (i : ℕ) → rows ≡ rows_with s vs start (take i kept) → kept ≡ told_breaks (task_of s) vs broken → length kept ≤ i → rows ≡ start ++ type_rows s vs broken
unfolding type_rows
rows_all s vs start rows kept broken i are is past =
    are ∙ ap (rows_with s vs start) (take_all i kept past) ∙ ap (λ rs. start ++ rs) (sym (map-map (row_of s) (finding_of vs) kept)) ∙ ap (λ ps. start ++ map (row_of s) (map (finding_of vs) ps)) is
