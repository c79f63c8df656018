-- Functions that take their parameters from one entry: what is known of the first one holds of all.
use Rattle.std.proofs.Common.{◌≡◌, ◌<◌, ◌∙◌, ◌⊎◌, ℕ, Bool, true, List, [], ◌∷◌, ◌++◌, length, map, slice_get, if◌then◌else◌, Option, Some, None, refl, sym, ap, subst, inl, inr}
use Rattle.std.specs.Prelude.{Contains, All, IfSome, nat_eq, is_some, ◌==◌}
use Rattle.std.specs.Option.{option_or, option_map_or}
use Rattle.std.proofs.lemmas.Bool.{cases_Bool, eqb-true, eq-eqb, false≢true}
use Rattle.std.proofs.lemmas.List.Elements.{Contains-append_left}
use Rattle.std.proofs.lemmas.Option.{same_Some, none-some}
use Rattle.abi_base.proofs.lemmas.Contained.{at_front, in_rest}
use Rattle.abi_base.proofs.lemmas.Lists.{slice_get-append, slice_get_last}
use Rattle.dwarf_tree.specs.Trees.{PlainTree}
use Rattle.type_reach.specs.declared.origins.Origins.{Origins}
use Rattle.type_reach.specs.declared.role.Role.TheVariants as role
use Rattle.type_reach.specs.References.{Type_, type_of, params_under, param_types, parts_for, parts_of, role_of, body_of}
use Rattle.type_reach.specs.Reached.{was_found, with_types}
use Rattle.type_reach.specs.Origins.{number_under, is_some_entry, AreOrigins, ArePassed}
use Rattle.type_reach.specs.Views.{has_further, variadic_for, is_variadic}
use Rattle.type_reach.proofs.GrowLemmas.{Grew-types}
use Rattle.type_reach.proofs.ReachedLemmas.{any_there}

-- ---- functions and the entries below which their parameters stand

pub function-parts : (t : PlainTree) (e b : ℕ) → role_of t e ≡ role.Function → b ≡ body_of t e → parts_of t e ≡ params_under t b
unfolding parts_of
function-parts t e b is body = ap (λ k. parts_for k t e) is ∙ ap (params_under t) (sym body)

pub function-variadic : (t : PlainTree) (e b : ℕ) → role_of t e ≡ role.Function → b ≡ body_of t e → is_variadic t e ≡ has_further t b
function-variadic t e b is body = ap (λ k. variadic_for k t e) is ∙ ap (has_further t) (sym body)

-- ---- one entry more is noted

abbrev pub IsKept : Origins → Origins → Option ℕ → ℕ → Type 0
IsKept old new origin number = (b : ℕ) → number_under new b ≡ option_or (number_under old b) (if is_some_entry b origin then Some number else None)

kept-cases : (before after : Option ℕ) (b number k : ℕ) (origin : Option ℕ) → after ≡ option_or before (if is_some_entry b origin then Some number else None) → after ≡ Some k → (before ≡ Some k) ⊎ ((origin ≡ Some b) × (k ≡ number))
kept-cases (Some j) after b number k origin kept is = inl (sym kept ∙ is)
kept-cases None after b number k None kept is = absurd (none-some k (sym kept ∙ is))
kept-cases None after b number k (Some c) kept is =
    let here : Bool → Option ℕ = λ test. if test then Some number else None in
    elim (cases_Bool (c == b)) [
      | inl same ↦ inr (ap (λ x. Some x) (eqb-true c b same), sym (same_Some number k (sym (kept ∙ ap here same) ∙ is)))
      | inr other ↦ absurd (none-some k (sym (kept ∙ ap here other) ∙ is))
    ]

-- ---- the walk

pub with_types-known : (found : List ℕ) (types : List Type_) → ((f : ℕ) → Contains types (Some f) → Contains found f) → with_types found types ≡ found
unfolding with_types
with_types-known found [] known = refl
with_types-known found (None ∷ types) known = with_types-known found types (λ f h. known f (in_rest None types (Some f) h))
with_types-known found (Some e ∷ types) known =
    let there : was_found found e ≡ true = any_there (nat_eq e) found e (known e (at_front (Some e) types)) (eq-eqb e e refl) in
    rw there (with_types-known found types (λ f h. known f (in_rest (Some e) types (Some f) h)))

pub ArePassed-none : (t : PlainTree) (origins : Origins) (met : List ℕ) → ((b : ℕ) → number_under origins b ≡ None) → ArePassed t origins met
ArePassed-none t origins met none = record { types = λ b k f is h. absurd (none-some k (sym (none b) ∙ is)) }

-- what was met stays met
pub ArePassed-grown : (t : PlainTree) (origins : Origins) (met : List ℕ) (types : List Type_) → ArePassed t origins met → ArePassed t origins (with_types met types)
ArePassed-grown t origins met types was =
    let grew = Grew-types met types in
    record { types = λ b k f is h. subst (λ xs. Contains xs f) (sym grew.is) (Contains-append_left met grew.more f (was.types b k f is h)) }

-- a function that takes its parameters from a noted entry adds nothing by them
pub passed-again : (t : PlainTree) (origins : Origins) (met : List ℕ) (e b k : ℕ) → role_of t e ≡ role.Function → b ≡ body_of t e → number_under origins b ≡ Some k → ArePassed t origins met → with_types met (map (type_of t) (parts_of t e)) ≡ met
passed-again t origins met e b k is body there was =
    ap (λ parts. with_types met (map (type_of t) parts)) (function-parts t e b is body)
    ∙ with_types-known met (param_types t b) (λ f h. was.types b k f there h)

pub again-adds-none : (t : PlainTree) (origins : Origins) (met : List ℕ) (origin : Option ℕ) (e : ℕ) (found : Option ℕ) → found ≡ option_map_or (number_under origins) origin None → is_some found ≡ true → IfSome origin (λ b. role_of t e ≡ role.Function) → IfSome origin (λ b. b ≡ body_of t e) → ArePassed t origins met → with_types met (map (type_of t) (parts_of t e)) ≡ met
again-adds-none t origins met None e found read there function body was = absurd (false≢true (ap is_some (sym read) ∙ there))
again-adds-none t origins met (Some b) e found read there function body was = go (number_under origins b) refl where
  go : (o : Option ℕ) → number_under origins b ≡ o → with_types met (map (type_of t) (parts_of t e)) ≡ met
  go None is = absurd (false≢true (ap is_some (sym (read ∙ is)) ∙ there))
  go (Some k) is = passed-again t origins met e b k function body is was

pub ArePassed-more : (t : PlainTree) (old new : Origins) (met : List ℕ) (origin : Option ℕ) (e number : ℕ) → IsKept old new origin number → IfSome origin (λ b. role_of t e ≡ role.Function) → IfSome origin (λ b. b ≡ body_of t e) → ArePassed t old met → ArePassed t new (with_types met (map (type_of t) (parts_of t e)))
ArePassed-more t old new met origin e number kept function body was =
    let types = map (type_of t) (parts_of t e) in
    let grown = ArePassed-grown t old met types was in
    record {
      types = λ b k f is h. elim (kept-cases (number_under old b) (number_under new b) b number k origin (kept b) is) [
        | inl before ↦ grown.types b k f before h
        | inr here ↦
            let parts = function-parts t e b (subst (λ o. IfSome o (λ x. role_of t e ≡ role.Function)) here.0 function) (subst (λ o. IfSome o (λ x. x ≡ body_of t e)) here.0 body) in
            (Grew-types met types).all f (subst (λ xs. Contains (map (type_of t) xs) (Some f)) (sym parts) h)
      ];
    }

-- ---- rows

pub AreOrigins-none : (t : PlainTree) (parts : List (List ℕ)) (variadic : List Bool) (origins : Origins) → ((b : ℕ) → number_under origins b ≡ None) → AreOrigins t parts variadic origins
AreOrigins-none t parts variadic origins none = record {
  parts = λ b k is. absurd (none-some k (sym (none b) ∙ is));
  variadic = λ b k is. absurd (none-some k (sym (none b) ∙ is));
  inside = λ b k is. absurd (none-some k (sym (none b) ∙ is));
}

-- one row more, with what is known of its entry
pub record IsRow (t : PlainTree) (e : ℕ) (origin : Option ℕ) (row : List ℕ) (flag : Bool) : Type 0 where
  pub function : IfSome origin (λ b. role_of t e ≡ role.Function)
  pub body : IfSome origin (λ b. b ≡ body_of t e)
  pub parts : row ≡ parts_of t e
  pub inside : All (λ (c : ℕ). c < length t.entries) row
  pub further : flag ≡ is_variadic t e

pub AreOrigins-more : (t : PlainTree) (old new : Origins) (parts : List (List ℕ)) (variadic : List Bool) (origin : Option ℕ) (e number : ℕ) (row : List ℕ) (further : Bool) → IsKept old new origin number → number ≡ length parts → number ≡ length variadic → IsRow t e origin row further → AreOrigins t parts variadic old → AreOrigins t (parts ++ row ∷ []) (variadic ++ further ∷ []) new
AreOrigins-more t old new parts variadic origin e number row further kept at at_flag has was =
    let function : (b : ℕ) → origin ≡ Some b → role_of t e ≡ role.Function = λ b here. subst (λ o. IfSome o (λ x. role_of t e ≡ role.Function)) here has.function in
    let body : (b : ℕ) → origin ≡ Some b → b ≡ body_of t e = λ b here. subst (λ o. IfSome o (λ x. x ≡ body_of t e)) here has.body in
    let same : (b : ℕ) → origin ≡ Some b → row ≡ params_under t b = λ b here. has.parts ∙ function-parts t e b (function b here) (body b here) in
    record {
      parts = λ b k is. elim (kept-cases (number_under old b) (number_under new b) b number k origin (kept b) is) [
        | inl before ↦ slice_get-append parts (row ∷ []) k (params_under t b) (was.parts b k before)
        | inr here ↦ ap (slice_get (parts ++ row ∷ [])) (here.1 ∙ at) ∙ slice_get_last parts row ∙ ap (λ x. Some x) (same b here.0)
      ];
      variadic = λ b k is. elim (kept-cases (number_under old b) (number_under new b) b number k origin (kept b) is) [
        | inl before ↦ slice_get-append variadic (further ∷ []) k (has_further t b) (was.variadic b k before)
        | inr here ↦ ap (slice_get (variadic ++ further ∷ [])) (here.1 ∙ at_flag) ∙ slice_get_last variadic further ∙ ap (λ x. Some x) (has.further ∙ function-variadic t e b (function b here.0) (body b here.0))
      ];
      inside = λ b k is. elim (kept-cases (number_under old b) (number_under new b) b number k origin (kept b) is) [
        | inl before ↦ was.inside b k before
        | inr here ↦ subst (All (λ (c : ℕ). c < length t.entries)) (same b here.0) has.inside
      ];
    }

-- ---- what an earlier function with the same parameters says

pub of_same : (origins : Origins) (origin : Option ℕ) (P : ℕ → Type 0) → ((b k : ℕ) → origin ≡ Some b → number_under origins b ≡ Some k → P k) → IfSome (option_map_or (number_under origins) origin None) P
of_same origins None P of = tt
of_same origins (Some b) P of = go (number_under origins b) (λ k is. of b k refl is) where
  go : (o : Option ℕ) → ((k : ℕ) → o ≡ Some k → P k) → IfSome o P
  go None of_number = tt
  go (Some k) of_number = of_number k refl

module _ (t : PlainTree) (origins : Origins) (parts : List (List ℕ)) (variadic : List Bool) (origin : Option ℕ) (e : ℕ) (function : IfSome origin (λ b. role_of t e ≡ role.Function)) (body : IfSome origin (λ b. b ≡ body_of t e)) (are : AreOrigins t parts variadic origins) where
  is_function : (b : ℕ) → origin ≡ Some b → role_of t e ≡ role.Function
  is_function b here = subst (λ o. IfSome o (λ x. role_of t e ≡ role.Function)) here function

  is_body : (b : ℕ) → origin ≡ Some b → b ≡ body_of t e
  is_body b here = subst (λ o. IfSome o (λ x. x ≡ body_of t e)) here body

  pub same-parts : IfSome (option_map_or (number_under origins) origin None) (λ k. slice_get parts k ≡ Some (parts_of t e))
  same-parts = of_same origins origin (λ k. slice_get parts k ≡ Some (parts_of t e)) (λ b k here is. are.parts b k is ∙ ap (λ x. Some x) (sym (function-parts t e b (is_function b here) (is_body b here))))

  pub same-inside : IfSome (option_map_or (number_under origins) origin None) (λ k. All (λ (c : ℕ). c < length t.entries) (parts_of t e))
  same-inside = of_same origins origin (λ k. All (λ (c : ℕ). c < length t.entries) (parts_of t e)) (λ b k here is. subst (All (λ (c : ℕ). c < length t.entries)) (sym (function-parts t e b (is_function b here) (is_body b here))) (are.inside b k is))

  pub same-variadic : IfSome (option_map_or (number_under origins) origin None) (λ k. slice_get variadic k ≡ Some (is_variadic t e))
  same-variadic = of_same origins origin (λ k. slice_get variadic k ≡ Some (is_variadic t e)) (λ b k here is. are.variadic b k is ∙ ap (λ x. Some x) (sym (function-variadic t e b (is_function b here) (is_body b here))))
