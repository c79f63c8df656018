-- Names in one text, those so far.
use Rattle.std.proofs.Common.{◌≡◌, ◌∙◌, ◌+◌, ◌-◌, ◌<◌, ◌&&◌, ℕ, zero, suc, Bool, true, false, cond, Some, None, List, [], ◌∷◌, ◌++◌, length, get_or, map, take, Bor, flat_map, append_assoc, lit<, arith, refl, sym, ap, subst}
use Rattle.std.specs.Prelude.{codes}
use Rattle.std.specs.List.{concat, filter, list_all}
use Rattle.std.specs.Str.{IsUtf8, is_utf8}
use Rattle.std.proofs.lemmas.Bool.Decides.{nat_tests}
use Rattle.std.proofs.lemmas.Str.{IsUtf8-from_ascii, IsUtf8-from_is_utf8, is_utf8-from_IsUtf8}
use Rattle.std.proofs.lemmas.List.{append-nil, length-map, take-map, take_more}
use Rattle.std.proofs.lemmas.List.Elements.{filter-append}
use Rattle.std.proofs.lemmas.Grind.{flat_map-append}
use Rattle.explain.specs.Applications.{lacking_words, more_words}
use Rattle.explain.specs.Faults.{is_visible}
use Rattle.explain.specs.Tags.{before_name, joined_names, name_behind, names_words, text_of}

-- what stands before the next name
abbrev pub before_next : (first : List ℕ) (names : List (List ℕ)) → List ℕ
before_next first [] = first
before_next first (name ∷ rest) = codes ", "

-- a name behind others
abbrev behind : List ℕ → List ℕ
behind name = concat (codes ", " ∷ name ∷ [])

regroup : (a b c d : List ℕ) → (a ++ (b ++ (c ++ []))) ++ d ≡ a ++ (b ++ ((c ++ (d ++ [])) ++ []))
regroup a b c d = simp (append_assoc, append-nil)

-- one more name
one_more : (first : List ℕ) (names : List (List ℕ)) (name : List ℕ)
    → joined_names first names ++ concat (before_next first names ∷ name ∷ []) ≡ joined_names first (names ++ name ∷ [])
one_more first [] name = refl
one_more first (other ∷ rest) name =
    regroup first other (flat_map behind rest) (behind name)
    ∙ ap (λ (b : List ℕ). first ++ (other ++ (b ++ []))) (sym (flat_map-append behind rest (name ∷ [])))

next_is : (first : List ℕ) (names : List (List ℕ)) (name : List ℕ) → before_next first (names ++ name ∷ []) ≡ codes ", "
next_is first [] name = refl
next_is first (other ∷ rest) name = refl

kept : (before name : List ℕ) → is_utf8 name ≡ true → name_behind before name ≡ concat (before ∷ name ∷ [])
kept before name is = rw is refl

left_out : (before name : List ℕ) → is_utf8 name ≡ false → name_behind before name ≡ []
left_out before name is = rw is refl

texts_more : (names : List (List ℕ)) (name : List ℕ) → is_utf8 name ≡ true → filter is_utf8 (names ++ name ∷ []) ≡ filter is_utf8 names ++ name ∷ []
texts_more names name is = filter-append is_utf8 names (name ∷ []) ∙ rw is refl

texts_same : (names : List (List ℕ)) (name : List ℕ) → is_utf8 name ≡ false → filter is_utf8 (names ++ name ∷ []) ≡ filter is_utf8 names
texts_same names name is = filter-append is_utf8 names (name ∷ []) ∙ rw is (append-nil (filter is_utf8 names))

-- the words for the names so far stand behind the old ones, and what stands before the next name is known
pub record SoFar (first : List ℕ) (names : List (List ℕ)) (old text : List ℕ) (is_first : Bool) : Type 0 where
  pub said : text ≡ old ++ names_words first names
  pub next : before_name first is_first ≡ before_next first (filter is_utf8 names)

pub none_yet : (first old : List ℕ) → SoFar first [] old old true
none_yet first old = record { said = sym (append-nil old); next = refl }

longer : (first : List ℕ) (names : List (List ℕ)) (name old text text' : List ℕ) (is_first : Bool) → SoFar first names old text is_first → is_utf8 name ≡ true
    → text' ≡ text ++ name_behind (before_name first is_first) name → SoFar first (names ++ name ∷ []) old text' false
longer first names name old text text' is_first so is added = record {
  said = added ∙ ap (λ (b : List ℕ). text ++ b) (kept (before_name first is_first) name is) ∙ ap (λ (t : List ℕ). t ++ concat (before_name first is_first ∷ name ∷ [])) so.said
      ∙ append_assoc old (names_words first names) (concat (before_name first is_first ∷ name ∷ []))
      ∙ ap (λ (b : List ℕ). old ++ b)
      (ap (λ (b : List ℕ). names_words first names ++ concat (b ∷ name ∷ [])) so.next ∙ one_more first (filter is_utf8 names) name
      ∙ ap (λ (ns : List (List ℕ)). joined_names first ns) (sym (texts_more names name is)));
  next = sym (ap (λ (ns : List (List ℕ)). before_next first ns) (texts_more names name is) ∙ next_is first (filter is_utf8 names) name);
}

same : (first : List ℕ) (names : List (List ℕ)) (name old text text' : List ℕ) (is_first : Bool) → SoFar first names old text is_first → is_utf8 name ≡ false
    → text' ≡ text ++ name_behind (before_name first is_first) name → SoFar first (names ++ name ∷ []) old text' is_first
same first names name old text text' is_first so is added = record {
  said = added ∙ ap (λ (b : List ℕ). text ++ b) (left_out (before_name first is_first) name is) ∙ append-nil text ∙ so.said
      ∙ ap (λ (ns : List (List ℕ)). old ++ joined_names first ns) (sym (texts_same names name is));
  next = so.next ∙ ap (λ (ns : List (List ℕ)). before_next first ns) (sym (texts_same names name is));
}

-- the same for the names before a place of a list
pub more_at : (first : List ℕ) (names : List (List ℕ)) (i : ℕ) (name old text text' before : List ℕ) (is_first is_first' : Bool) → i < length names → get_or names i [] ≡ name
    → SoFar first (take i names) old text is_first → is_utf8 name ≡ true → before ≡ before_name first is_first → text' ≡ text ++ name_behind before name → is_first' ≡ false
    → SoFar first (take (i + 1) names) old text' is_first'
more_at first names i name old text text' before is_first is_first' inside at so is stands added then =
    let all : SoFar first (take i names ++ name ∷ []) old text' false = longer first (take i names) name old text text' is_first so is (added ∙ ap (λ (b : List ℕ). text ++ name_behind b name) stands) in
    let here : take i names ++ name ∷ [] ≡ take (i + 1) names = ap (λ (n : List ℕ). take i names ++ n ∷ []) (sym at) ∙ sym (take_more names i [] inside) in
    subst (λ (b : Bool). SoFar first (take (i + 1) names) old text' b) (sym then) (subst (λ (ns : List (List ℕ)). SoFar first ns old text' false) here all)

pub same_at : (first : List ℕ) (names : List (List ℕ)) (i : ℕ) (name old text text' before : List ℕ) (is_first is_first' : Bool) → i < length names → get_or names i [] ≡ name
    → SoFar first (take i names) old text is_first → is_utf8 name ≡ false → before ≡ before_name first is_first → text' ≡ text ++ name_behind before name → is_first' ≡ is_first
    → SoFar first (take (i + 1) names) old text' is_first'
same_at first names i name old text text' before is_first is_first' inside at so is stands added then =
    let all : SoFar first (take i names ++ name ∷ []) old text' is_first = same first (take i names) name old text text' is_first so is (added ∙ ap (λ (b : List ℕ). text ++ name_behind b name) stands) in
    let here : take i names ++ name ∷ [] ≡ take (i + 1) names = ap (λ (n : List ℕ). take i names ++ n ∷ []) (sym at) ∙ sym (take_more names i [] inside) in
    subst (λ (b : Bool). SoFar first (take (i + 1) names) old text' b) (sym then) (subst (λ (ns : List (List ℕ)). SoFar first ns old text' is_first) here all)

-- ---- the exports that a library lacks

regroup_all : (a b c d e : List ℕ) → ((a ++ (b ++ (c ++ []))) ++ d) ++ e ≡ a ++ (b ++ (c ++ (d ++ (e ++ []))))
regroup_all a b c d e = simp (append_assoc, append-nil)

pub lacking_are : (library : List ℕ) (names shown : List (Bor (List ℕ))) (one two three : List ℕ) (more : ℕ)
    → one ≡ concat (codes "it does not run with " ∷ library ∷ codes " either, which lacks" ∷ []) → shown ≡ take 10 names
    → two ≡ one ++ names_words (codes " ") (map (λ name. name.now) shown) → more ≡ length names - 10 → three ≡ two ++ more_words more
    → three ≡ lacking_words library (map (λ name. name.now) names)
lacking_are library names shown one two three more one-is shown-is two-is more-is three-is =
    let listed : names_words (codes " ") (map (λ name. name.now) shown) ≡ names_words (codes " ") (take 10 (map (λ name. name.now) names)) =
    ap (λ (ns : List (Bor (List ℕ))). names_words (codes " ") (map (λ name. name.now) ns)) shown-is ∙ ap (λ (ns : List (List ℕ)). names_words (codes " ") ns) (sym (take-map (λ name. name.now) 10 names)) in
    let counted : more ≡ length (map (λ name. name.now) names) - 10 = more-is ∙ ap (λ (n : ℕ). n - 10) (sym (length-map names (λ name. name.now))) in
    three-is ∙ ap (λ (t : List ℕ). t ++ more_words more) (two-is ∙ ap (λ (t : List ℕ). t ++ names_words (codes " ") (map (λ name. name.now) shown)) one-is)
    ∙ regroup_all (codes "it does not run with ") library (codes " either, which lacks") (names_words (codes " ") (map (λ name. name.now) shown)) (more_words more)
    ∙ ap (λ (ns : List ℕ). concat (codes "it does not run with " ∷ library ∷ codes " either, which lacks" ∷ ns ∷ more_words more ∷ [])) listed
    ∙ ap (λ (n : ℕ). concat (codes "it does not run with " ∷ library ∷ codes " either, which lacks" ∷ names_words (codes " ") (take 10 (map (λ name. name.now) names)) ∷ more_words n ∷ [])) counted

-- ---- bytes that are text

first_is : (a b : Bool) → a && b ≡ true → a ≡ true
first_is true b is = refl
first_is false b is = is

second_is : (a b : Bool) → a && b ≡ true → b ≡ true
second_is true b is = is
second_is false b is = let wrong : false ≡ true = is in cc

visible_ascii : (b : ℕ) → is_visible b ≡ true → b < 128
visible_ascii b is = grind (arith, nat_tests)

all_ascii : (name : List ℕ) → list_all is_visible name ≡ true → (i : ℕ) → get_or name i 0 < 128
all_ascii [] all i = lit< tt
all_ascii (b ∷ rest) all zero = visible_ascii b (first_is (is_visible b) (list_all is_visible rest) all)
all_ascii (b ∷ rest) all (suc i) = all_ascii rest (second_is (is_visible b) (list_all is_visible rest) all) i

-- visible ASCII characters are text
pub visible_text : (name : List ℕ) → list_all is_visible name ≡ true → text_of name ≡ Some name
visible_text name all = let is : is_utf8 name ≡ true = is_utf8-from_IsUtf8 name (IsUtf8-from_ascii name (all_ascii name all)) in rw is refl

pub text_is : (bytes : List ℕ) → IsUtf8 bytes → text_of bytes ≡ Some bytes
text_is bytes there = let is : is_utf8 bytes ≡ true = is_utf8-from_IsUtf8 bytes there in rw is refl

pub no_text : (bytes : List ℕ) → ¬ (IsUtf8 bytes) → text_of bytes ≡ None
no_text bytes not_there = cases (is_utf8 bytes) refl
  where
    cases : (b : Bool) → is_utf8 bytes ≡ b → cond b (Some bytes) None ≡ None
    cases true is = absurd (not_there (IsUtf8-from_is_utf8 bytes is))
    cases false is = refl
