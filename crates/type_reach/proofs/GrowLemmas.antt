-- How the list of found entries grows.
use Rattle.std.proofs.Common.{◌≡◌, ◌<◌, ◌≤◌, ◌+◌, ℕ, List, [], ◌∷◌, ◌++◌, length, map, drop, get_or, Some, None, refl, sym, ◌∙◌, ap, subst, inl, inr, ◌⊎◌}
use Rattle.std.specs.Prelude.{Contains}
use Rattle.std.proofs.lemmas.Bool.{cases_Bool, eqb-true}
use Rattle.std.proofs.lemmas.List.{append-nil, append_assoc, at_drop_more, drop_all}
use Rattle.std.proofs.lemmas.List.Elements.{Contains-append_left, Contains-push, Contains-push_cases}
use Rattle.std.proofs.lemmas.Map.Views.{Contains-from_any}
use Rattle.std.proofs.lemmas.Option.{same_Some, none-some}
use Rattle.abi_base.proofs.lemmas.Contained.{in_front, at_front, in_rest, in_none}
use Rattle.dwarf_tree.specs.Trees.{PlainTree}
use Rattle.type_reach.specs.References.{Type_, type_of, own_types, types_of, parts_of}
use Rattle.type_reach.specs.Reached.{was_found, with_entry, with_type, with_types}

-- the list grew at its end, by these types
pub record Grew (found : List ℕ) (types : List Type_) (new : List ℕ) : Type 0 where
  pub more : List ℕ
  pub is : new ≡ found ++ more
  pub all : (f : ℕ) → Contains types (Some f) → Contains new f
  pub only : (f : ℕ) → Contains new f → Contains found f ⊎ Contains types (Some f)

Grew-one : (found : List ℕ) (e : ℕ) → Grew found (Some e ∷ []) (with_entry found e)
Grew-one found e =
    elim (cases_Bool (was_found found e)) [
      | inl there ↦ rw there (record {
        more = [];
        is = sym (append-nil found);
        all = λ f h. elim (in_front (Some e) [] (Some f) h) [ inl same ↦ subst (Contains found) (same_Some e f same) (Contains-from_any eqb-true e found there) | inr none ↦ absurd (in_none (Some f) none) ];
        only = λ f h. inl h;
      })
      | inr new ↦ rw new (record {
        more = e ∷ [];
        is = refl;
        all = λ f h. elim (in_front (Some e) [] (Some f) h) [ inl same ↦ subst (Contains (found ++ e ∷ [])) (same_Some e f same) (Contains-push found e) | inr none ↦ absurd (in_none (Some f) none) ];
        only = λ f h. elim (Contains-push_cases found e f h) [ inl was ↦ inl was | inr same ↦ inr (subst (λ x. Contains (Some e ∷ []) (Some x)) same (at_front (Some e) [])) ];
      })
    ]

Grew-none : (found : List ℕ) → Grew found (None ∷ []) found
Grew-none found = record {
  more = [];
  is = sym (append-nil found);
  all = λ f h. elim (in_front None [] (Some f) h) [ inl same ↦ absurd (none-some f same) | inr none ↦ absurd (in_none (Some f) none) ];
  only = λ f h. inl h;
}

Grew-type : (found : List ℕ) (ty : Type_) → Grew found (ty ∷ []) (with_type found ty)
Grew-type found None = Grew-none found
Grew-type found (Some e) = Grew-one found e

Grew-both : (a b c : List ℕ) (ty : Type_) (types : List Type_) → Grew a (ty ∷ []) b → Grew b types c → Grew a (ty ∷ types) c
Grew-both a b c ty types first then_ = record {
  more = first.more ++ then_.more;
  is = then_.is ∙ ap (λ xs. xs ++ then_.more) first.is ∙ append_assoc a first.more then_.more;
  all = λ f h. elim (in_front ty types (Some f) h) [
    | inl here ↦ subst (λ xs. Contains xs f) (sym then_.is) (Contains-append_left b then_.more f (first.all f (subst (Contains (ty ∷ [])) here (at_front ty []))))
    | inr later ↦ then_.all f later
  ];
  only = λ f h. elim (then_.only f h) [
    | inl was ↦ elim (first.only f was) [
      | inl before ↦ inl before
      | inr one ↦ elim (in_front ty [] (Some f) one) [ inl here ↦ inr (subst (Contains (ty ∷ types)) here (at_front ty types)) | inr none ↦ absurd (in_none (Some f) none) ]
    ]
    | inr later ↦ inr (in_rest ty types (Some f) later)
  ];
}

pub Grew-types : (found : List ℕ) (types : List Type_) → Grew found types (with_types found types)
unfolding with_types
Grew-types found [] = record {
  more = [];
  is = sym (append-nil found);
  all = λ f h. absurd (in_none (Some f) h);
  only = λ f h. inl h;
}
Grew-types found (ty ∷ types) = Grew-both found (with_type found ty) (with_types (with_type found ty) types) ty types (Grew-type found ty) (Grew-types (with_type found ty) types)

-- ---- loops

pub with_types-more : {X : Type 0} (g : X → Type_) (found : List ℕ) (xs : List X) (k : ℕ) (d : X) → k < length xs
    → with_types found (map g (drop k xs)) ≡ with_types (with_type found (g (get_or xs k d))) (map g (drop (k + 1) xs))
unfolding with_types
with_types-more g found xs k d lt = at_drop_more (λ ys. with_types found (map g ys)) xs k d lt

pub with_types-front : (found : List ℕ) (ty : Type_) (types : List Type_) → with_types (with_type found ty) types ≡ with_types found (ty ∷ types)
unfolding with_types
with_types-front found ty types = refl

pub with_types-none : (found : List ℕ) → with_types found [] ≡ found
unfolding with_types
with_types-none found = refl

-- a loop that came to its end
pub with_types-end : {X : Type 0} (g : X → Type_) (found : List ℕ) (xs : List X) (k : ℕ) (whole : List ℕ) → length xs ≤ k → with_types found (map g (drop k xs)) ≡ whole → found ≡ whole
with_types-end g found xs k whole le is = sym (ap (λ ys. with_types found (map g ys)) (drop_all k xs le) ∙ with_types-none found) ∙ is

-- one item on
pub with_types-step : {X : Type 0} (g : X → Type_) (found new : List ℕ) (xs : List X) (k : ℕ) (x : X) (whole : List ℕ) → k < length xs → x ≡ get_or xs k x → new ≡ with_type found (g x) → with_types found (map g (drop k xs)) ≡ whole → with_types new (map g (drop (k + 1) xs)) ≡ whole
with_types-step g found new xs k x whole lt read grown was =
    ap (λ ys. with_types ys (map g (drop (k + 1) xs))) (grown ∙ ap (λ y. with_type found (g y)) read) ∙ sym (with_types-more g found xs k x lt) ∙ was

-- ---- what an entry leads to

with_types-append : (found : List ℕ) (a b : List Type_) → with_types (with_types found a) b ≡ with_types found (a ++ b)
unfolding with_types
with_types-append found [] b = refl
with_types-append found (ty ∷ a) b = with_types-append (with_type found ty) a b

-- its own types, and then those of its parts
pub with_types-both : (t : PlainTree) (e : ℕ) (found : List ℕ) → with_types (with_types found (own_types t e)) (map (type_of t) (parts_of t e)) ≡ with_types found (types_of t e)
unfolding types_of
with_types-both t e found = with_types-append found (own_types t e) (map (type_of t) (parts_of t e))
