-- Versions in a list, and their names in a search tree.
use Rattle.std.proofs.Common.{◌≡◌, ◌∙◌, ℕ, Bool, true, cond, List, [], ◌∷◌, ◌++◌, map, sym, ap}
use Rattle.std.specs.Prelude.{◌||◌}
use Rattle.std.specs.Borrow.{Bor}
use Rattle.std.specs.Cmp.Lexicographic.{slice_cmp}
use Rattle.std.specs.List.{list_any}
use Rattle.std.specs.Ordering.{is_eq, nat_cmp}
use Rattle.std.specs.Str.{bytes_eq}
use Rattle.std.proofs.lemmas.List.{map-append}
use Rattle.std.proofs.lemmas.List.Folds.{list_any-append}
use Rattle.std.proofs.lemmas.Map.Text.{is_eq-slice_cmp}
use Rattle.abi_base.proofs.lemmas.Bools.{or_false}
use Rattle.elf_bind.proofs.lemmas.Names.{turned}
use Rattle.pair_rules.proofs.lemmas.Truths.{cond_or}
use Rattle.side_notes.specs.VersionNames.{AreNamed, NameTree, has_name}

abbrev pub bytes_at : Bor (List ℕ) → List ℕ
bytes_at v = v.now

abbrev key : List ℕ → Bor (List ℕ)
key q = record { ref_ptr = (0, 0); now = q }

-- a name that is put into the tree, and stands last in the list
pub AreNamed-more : (known next : NameTree) (names : List (List ℕ)) (v : List ℕ) → AreNamed known names
    → ((q : Bor (List ℕ)) → has_name next q.now ≡ cond (is_eq (slice_cmp nat_cmp v q.now)) true (has_name known q.now)) → AreNamed next (names ++ v ∷ [])
AreNamed-more known next names v were puts = record {
  each = λ q.
      puts (key q) ∙ ap (λ (b : Bool). cond b true (has_name known q)) (is_eq-slice_cmp v q ∙ turned v q) ∙ ap (λ (b : Bool). cond (bytes_eq q v) true b) (were.each q)
      ∙ cond_or (bytes_eq q v) (list_any (bytes_eq q) names) ∙ ap (λ (b : Bool). list_any (bytes_eq q) names || b) (sym (or_false (bytes_eq q v))) ∙ sym (list_any-append (bytes_eq q) names (v ∷ []));
}

pub pushed : (keys reserved grown : List (Bor (List ℕ))) (v : Bor (List ℕ)) → reserved ≡ keys → grown ≡ reserved ++ v ∷ [] → map bytes_at grown ≡ map bytes_at keys ++ v.now ∷ []
pushed keys reserved grown v same is = ap (map bytes_at) (is ∙ ap (λ (ks : List (Bor (List ℕ))). ks ++ v ∷ []) same) ∙ map-append bytes_at keys (v ∷ [])
