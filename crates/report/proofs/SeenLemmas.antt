-- Texts of types with other numbers for the nodes that parts name.
use Rattle.std.proofs.Common.{◌≡◌, ℕ, List, [], ◌∷◌, ◌++◌, Option, Some, None, refl, sym, ap, ◌∙◌, codes, decimal, unwrap_or, arith}
use Rattle.std.specs.List.{concat}
use Rattle.std.specs.Option.{option_map}
use Rattle.abi_base.proofs.lemmas.Options.{option_map-same}
use Rattle.abi_types.specs.declared.rule.Rule.{Rule}
use Rattle.abi_types.specs.Types.{PlainPart, Member, Enumerator, Target, Element, Outcome, Param, PlainView}
use Rattle.abi_types.specs.Graphs.{part_at}
use Rattle.abi_types.specs.ClassLooks.{part_seen, view_seen}
use Rattle.abi_types.specs.Shown.{shown}
use Rattle.abi_types.specs.Sorts.{name_of}
use Rattle.pair_rules.specs.Matching.{number_of, match_of}
use Rattle.pair_rules.specs.TypeRules.{bit_at, width_at, value_at, matched, params_of}
use Rattle.report.specs.Words.{changed}
use Rattle.report.specs.Details.{part_change, places_change}
use Rattle.report.specs.Steps.{numbered, part_name, step_by, step_text}
use Rattle.report.specs.TypeRows.{type_detail}

name_of-seen : (f : ℕ → ℕ) (p : PlainPart) → name_of (part_seen f p) ≡ name_of p
name_of-seen f (Member name bit width to) = refl
name_of-seen f (Enumerator name value) = refl
name_of-seen f (Target to) = refl
name_of-seen f (Element to) = refl
name_of-seen f (Outcome to) = refl
name_of-seen f (Param to) = refl

step_by-seen : (f : ℕ → ℕ) (p : PlainPart) (name : List ℕ) (number : ℕ) → step_by (part_seen f p) name number ≡ step_by p name number
step_by-seen f (Member n bit width to) name number = refl
step_by-seen f (Enumerator n value) name number = refl
step_by-seen f (Target to) name number = refl
step_by-seen f (Element to) name number = refl
step_by-seen f (Outcome to) name number = refl
step_by-seen f (Param to) name number = refl

places_change-seen : (f g h : ℕ → ℕ) (p : PlainPart) (number : ℕ) (v w : PlainView) → places_change (part_seen h p) number (view_seen f v) (view_seen g w) ≡ places_change p number v w
unfolding view_seen
places_change-seen f g h (Member name bit width to) number v w = refl
places_change-seen f g h (Enumerator name value) number v w = refl
places_change-seen f g h (Target to) number v w = refl
places_change-seen f g h (Element to) number v w = refl
places_change-seen f g h (Outcome to) number v w = refl
places_change-seen f g h (Param to) number v w = refl

part_change-same : (sort said : List ℕ) (say : PlainView → ℕ → ℕ) (v v' w w' : PlainView) (i : ℕ) → part_name v' i ≡ part_name v i → say v' i ≡ say v i → matched say v' w' i ≡ matched say v w i
    → part_change sort said say v' w' i ≡ part_change sort said say v w i
part_change-same sort said say v v' w w' i name old new =
    ap (λ (n : List ℕ). concat (sort ∷ n ∷ said ∷ decimal (say v' i) ∷ codes ", now " ∷ decimal (unwrap_or (matched say v' w' i) 0) ∷ [])) name
    ∙ ap (λ (n : ℕ). concat (sort ∷ part_name v i ∷ said ∷ decimal n ∷ codes ", now " ∷ decimal (unwrap_or (matched say v' w' i) 0) ∷ [])) old
    ∙ ap (λ (n : Option ℕ). concat (sort ∷ part_name v i ∷ said ∷ decimal (say v i) ∷ codes ", now " ∷ decimal (unwrap_or n 0) ∷ [])) new

-- what the laws below say of parts
pub record SeeNoNodes : Type 0 where
  pub parts : (f : ℕ → ℕ) (v : PlainView) (i : ℕ) → part_at (view_seen f v) i ≡ part_seen f (part_at v i)
  pub numbers : (f : ℕ → ℕ) (v : PlainView) (i : ℕ) → number_of (view_seen f v) i ≡ number_of v i
  pub matches : (f g : ℕ → ℕ) (v w : PlainView) (i : ℕ) → match_of (view_seen f v) (view_seen g w) i ≡ match_of v w i
  pub bits : (f : ℕ → ℕ) (v : PlainView) (i : ℕ) → bit_at (view_seen f v) i ≡ bit_at v i
  pub widths : (f : ℕ → ℕ) (v : PlainView) (i : ℕ) → width_at (view_seen f v) i ≡ width_at v i
  pub values : (f : ℕ → ℕ) (v : PlainView) (i : ℕ) → value_at (view_seen f v) i ≡ value_at v i
  pub params : (f : ℕ → ℕ) (v : PlainView) → params_of (view_seen f v) ≡ params_of v

module _ (see : SeeNoNodes) where
  part_name-seen : (f : ℕ → ℕ) (v : PlainView) (i : ℕ) → part_name (view_seen f v) i ≡ part_name v i
  unfolding part_name
  part_name-seen f v i =
      ap (λ (n : List ℕ). shown n ++ numbered (number_of (view_seen f v) i)) (ap name_of (see.parts f v i) ∙ name_of-seen f (part_at v i))
      ∙ ap (λ (n : ℕ). shown (name_of (part_at v i)) ++ numbered n) (see.numbers f v i)

  pub step_text-seen : (f : ℕ → ℕ) (v : PlainView) (i : ℕ) → step_text (view_seen f v) i ≡ step_text v i
  unfolding step_text
  step_text-seen f v i =
      ap (λ (p : PlainPart). step_by p (part_name (view_seen f v) i) (number_of (view_seen f v) i)) (see.parts f v i)
      ∙ step_by-seen f (part_at v i) (part_name (view_seen f v) i) (number_of (view_seen f v) i)
      ∙ ap (λ (n : List ℕ). step_by (part_at v i) n (number_of (view_seen f v) i)) (part_name-seen f v i)
      ∙ ap (λ (n : ℕ). step_by (part_at v i) (part_name v i) n) (see.numbers f v i)

  matched-seen : (say : PlainView → ℕ → ℕ) → ((f : ℕ → ℕ) (v : PlainView) (i : ℕ) → say (view_seen f v) i ≡ say v i) → (f g : ℕ → ℕ) (v w : PlainView) (i : ℕ) → matched say (view_seen f v) (view_seen g w) i ≡ matched say v w i
  matched-seen say same f g v w i =
      ap (option_map (say (view_seen g w))) (see.matches f g v w i) ∙ option_map-same (say (view_seen g w)) (say w) (same g w) (match_of v w i)

  change-seen : (sort said : List ℕ) (say : PlainView → ℕ → ℕ) → ((f : ℕ → ℕ) (v : PlainView) (i : ℕ) → say (view_seen f v) i ≡ say v i) → (f g : ℕ → ℕ) (v w : PlainView) (i : ℕ)
      → part_change sort said say (view_seen f v) (view_seen g w) i ≡ part_change sort said say v w i
  change-seen sort said say same f g v w i =
      part_change-same sort said say v (view_seen f v) w (view_seen g w) i (part_name-seen f v i) (same f v i) (matched-seen say same f g v w i)

  params-seen : (f g : ℕ → ℕ) (v w : PlainView) → changed (codes "parameters") (decimal (params_of (view_seen f v))) (decimal (params_of (view_seen g w))) ≡ changed (codes "parameters") (decimal (params_of v)) (decimal (params_of w))
  params-seen f g v w =
      ap (λ (n : ℕ). changed (codes "parameters") (decimal n) (decimal (params_of (view_seen g w)))) (see.params f v)
      ∙ ap (λ (n : ℕ). changed (codes "parameters") (decimal (params_of v)) (decimal n)) (see.params g w)

  places-seen : (f g : ℕ → ℕ) (v w : PlainView) (i : ℕ) → places_change (part_at (view_seen f v) i) (number_of (view_seen f v) i) (view_seen f v) (view_seen g w) ≡ places_change (part_at v i) (number_of v i) v w
  places-seen f g v w i =
      ap (λ (p : PlainPart). places_change p (number_of (view_seen f v) i) (view_seen f v) (view_seen g w)) (see.parts f v i)
      ∙ places_change-seen f g f (part_at v i) (number_of (view_seen f v) i) v w
      ∙ ap (λ (n : ℕ). places_change (part_at v i) n v w) (see.numbers f v i)

  gone-seen : (sort : List ℕ) (f : ℕ → ℕ) (v : PlainView) (i : ℕ) → concat (sort ∷ part_name (view_seen f v) i ∷ codes " gone" ∷ []) ≡ concat (sort ∷ part_name v i ∷ codes " gone" ∷ [])
  gone-seen sort f v i = ap (λ (n : List ℕ). concat (sort ∷ n ∷ codes " gone" ∷ [])) (part_name-seen f v i)

  pub type_detail-seen : (f g : ℕ → ℕ) (rule : Rule) (v w : PlainView) (i : ℕ) → type_detail rule (view_seen f v) (view_seen g w) i ≡ type_detail rule v w i
  unfolding type_detail view_seen
  type_detail-seen f g rule v w i =
      grind
      (arith, gone-seen (codes "member ") f v i, gone-seen (codes "enumerator ") f v i, change-seen (codes "member ") (codes " at bit ") bit_at see.bits f g v w i, change-seen (codes "member ") (codes " width ") width_at see.widths f g v w i, change-seen (codes "enumerator ") (codes " ") value_at see.values f g v w i, params-seen f g v w, places-seen f g v w i)
