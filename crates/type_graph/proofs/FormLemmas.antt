-- Views have the form of their kinds.
use Rattle.std.proofs.Common.{◌≡◌, ◌==◌, ℕ, Bool, true, false, cond, List, [], ◌∷◌, map, Option, Some, None, refl, ◌∙◌, ap, sym, subst, inl, inr}
use Rattle.std.specs.Prelude.{flat_map, IfSome, ◌&&◌}
use Rattle.std.specs.List.{list_all}
use Rattle.std.proofs.lemmas.Bool.{cases_Bool, false≢true}
use Rattle.abi_base.proofs.lemmas.Bools.{and_is_true}
use Rattle.dwarf_tree.specs.Trees.{PlainTree}
use Rattle.dwarf_entries.specs.Addresses.{tag_at, is_declared_only}
use Rattle.dwarf_entries.specs.Debug.{PlainDwarf}
use Rattle.abi_base.specs.Dwarf.{dw_tag_structure_type}
use Rattle.abi_types.specs.declared.kind.Kind.{Kind}
use Rattle.abi_types.specs.declared.kind.Kind.TheVariants as kind
use Rattle.abi_types.specs.declared.kind.Group.TheVariants as group
use Rattle.abi_types.specs.Forms.{has_tag, has_elements, is_scalar, is_function, is_member, is_enumerator, is_param, parts_fit, size_of_kind, HasForm}
use Rattle.abi_types.specs.Graphs.{void_view}
use Rattle.type_reach.specs.declared.facts.Facts.{Facts}
use Rattle.type_reach.specs.declared.role.Role.{Role}
use Rattle.type_reach.specs.declared.role.Role.TheVariants as role
use Rattle.type_reach.specs.References.{Type_, role_of, parts_of, members_for, members_of, steps_of}
use Rattle.type_reach.specs.ByValue.{IsTooDeep}
use Rattle.type_reach.specs.Facts.{own_size, size_for, count_for, facts_from, facts_of}
use Rattle.type_reach.specs.Flat.{Flat, flat_of, member_gives}
use Rattle.type_reach.specs.PeeledCores.{StandsForNone}
use Rattle.type_reach.specs.TypeLaws.{TypeLaws}
use Rattle.type_reach.specs.Views.{is_vector, kind_for, kind_of, member_part, enumerator_part, param_part, enumerators_of, parts_under, variadic_for, group_for, core_view}

all-members : (name : Type_ → ℕ) (xs : List Flat) → list_all is_member (map (member_part name) xs) ≡ true
all-members name [] = refl
all-members name (x ∷ xs) = all-members name xs

all-params : (name : Type_ → ℕ) (t : PlainTree) (xs : List ℕ) → list_all is_param (map (param_part name t) xs) ≡ true
all-params name t [] = refl
all-params name t (x ∷ xs) = all-params name t xs

all-enumerators : (d : PlainDwarf) (xs : List ℕ) → list_all is_enumerator (map (enumerator_part d) xs) ≡ true
all-enumerators d [] = refl
all-enumerators d (x ∷ xs) = all-enumerators d xs

-- what the form of a role asks
record HasRole (d : PlainDwarf) (name : Type_ → ℕ) (c : ℕ) (k : Role) : Type 0 where
  defined : has_tag (kind_for k d.tree c) ≡ false → (has_tag (kind_for k d.tree c) && is_declared_only d.tree c) ≡ false
  group : is_scalar (kind_for k d.tree c) ≡ false → group_for k d c ≡ group.Bool
  variadic : is_function (kind_for k d.tree c) ≡ false → variadic_for k d.tree c ≡ false
  count : has_elements (kind_for k d.tree c) ≡ false → (facts : List Facts) → (k ≡ role.Wrapper → ⊥) → count_for k d.tree c facts ≡ 0
  parts : parts_fit (kind_for k d.tree c) (parts_under k name d c) ≡ true
  size : (facts : List Facts) → (k ≡ role.Wrapper → ⊥) → IfSome (size_of_kind (kind_for k d.tree c)) (λ s. size_for k d.tree c facts ≡ s)

aggregate-kind : (d : PlainDwarf) (c : ℕ) (P : Kind → Type 0) → P kind.Structure → P kind.Union → P (kind_for role.Aggregate d.tree c)
aggregate-kind d c P structure union =
    elim (cases_Bool (tag_at d.tree c == dw_tag_structure_type)) [ inl is ↦ subst (λ b. P (cond b kind.Structure kind.Union)) (sym is) structure | inr is ↦ subst (λ b. P (cond b kind.Structure kind.Union)) (sym is) union ]

array-kind : (d : PlainDwarf) (c : ℕ) (P : Kind → Type 0) → P kind.Vector → P kind.Array → P (kind_for role.Array d.tree c)
array-kind d c P vector array =
    elim (cases_Bool (is_vector d.tree c)) [ inl is ↦ subst (λ b. P (cond b kind.Vector kind.Array)) (sym is) vector | inr is ↦ subst (λ b. P (cond b kind.Vector kind.Array)) (sym is) array ]

aggregate-role : (d : PlainDwarf) (name : Type_ → ℕ) (c : ℕ) → HasRole d name c role.Aggregate
aggregate-role d name c = record {
  defined = aggregate-kind d c (λ k. has_tag k ≡ false → (has_tag k && is_declared_only d.tree c) ≡ false) (λ e. absurd (false≢true (sym e))) (λ e. absurd (false≢true (sym e)));
  group = λ e. refl;
  variadic = λ e. refl;
  count = λ e facts last. refl;
  parts = aggregate-kind d c (λ k. parts_fit k (parts_under role.Aggregate name d c) ≡ true) (all-members name (flat_of d (Some c))) (all-members name (flat_of d (Some c)));
  size = λ facts last. aggregate-kind d c (λ k. IfSome (size_of_kind k) (λ s. size_for role.Aggregate d.tree c facts ≡ s)) tt tt;
}

array-role : (d : PlainDwarf) (name : Type_ → ℕ) (c : ℕ) → HasRole d name c role.Array
array-role d name c = record {
  defined = array-kind d c (λ k. has_tag k ≡ false → (has_tag k && is_declared_only d.tree c) ≡ false) (λ e. refl) (λ e. refl);
  group = λ e. refl;
  variadic = λ e. refl;
  count = array-kind d c (λ k. has_elements k ≡ false → (facts : List Facts) → (role.Array ≡ role.Wrapper → ⊥) → count_for role.Array d.tree c facts ≡ 0) (λ e. absurd (false≢true (sym e))) (λ e. absurd (false≢true (sym e)));
  parts = array-kind d c (λ k. parts_fit k (parts_under role.Array name d c) ≡ true) refl refl;
  size = λ facts last. array-kind d c (λ k. IfSome (size_of_kind k) (λ s. size_for role.Array d.tree c facts ≡ s)) tt tt;
}

has-role : (d : PlainDwarf) (name : Type_ → ℕ) (c : ℕ) (k : Role) → HasRole d name c k
has-role d name c role.Aggregate = aggregate-role d name c
has-role d name c role.Array = array-role d name c
has-role d name c role.Function = record { defined = λ e. refl; group = λ e. refl; variadic = λ e. absurd (false≢true (sym e)); count = λ e facts last. refl; parts = all-params name d.tree (parts_of d.tree c); size = λ facts last. refl }
has-role d name c role.Pointer = record { defined = λ e. refl; group = λ e. refl; variadic = λ e. refl; count = λ e facts last. refl; parts = refl; size = λ facts last. refl }
has-role d name c role.Enumeration = record { defined = λ e. absurd (false≢true (sym e)); group = λ e. refl; variadic = λ e. refl; count = λ e facts last. refl; parts = all-enumerators d (enumerators_of d.tree c); size = λ facts last. tt }
has-role d name c role.Base = record { defined = λ e. refl; group = λ e. absurd (false≢true (sym e)); variadic = λ e. refl; count = λ e facts last. refl; parts = refl; size = λ facts last. tt }
has-role d name c role.Wrapper = record { defined = λ e. refl; group = λ e. refl; variadic = λ e. refl; count = λ e facts last. absurd (last refl); parts = refl; size = λ facts last. absurd (last refl) }
has-role d name c role.Part = record { defined = λ e. refl; group = λ e. refl; variadic = λ e. refl; count = λ e facts last. refl; parts = refl; size = λ facts last. refl }
has-role d name c role.Unknown = record { defined = λ e. refl; group = λ e. refl; variadic = λ e. refl; count = λ e facts last. refl; parts = refl; size = λ facts last. refl }

-- ---- declarations have no size and no parts

declared-size : (d : PlainDwarf) (c : ℕ) (k : Role) (facts : List Facts) → has_tag (kind_for k d.tree c) ≡ true → is_declared_only d.tree c ≡ true → size_for k d.tree c facts ≡ 0
unfolding own_size
declared-size d c role.Aggregate facts tag only = rw only refl
declared-size d c role.Enumeration facts tag only = rw only refl
declared-size d c role.Array facts tag only = absurd (array-kind d c (λ k. has_tag k ≡ true → ⊥) (λ e. false≢true e) (λ e. false≢true e) tag)
declared-size d c role.Function facts tag only = absurd (false≢true tag)
declared-size d c role.Pointer facts tag only = absurd (false≢true tag)
declared-size d c role.Base facts tag only = absurd (false≢true tag)
declared-size d c role.Wrapper facts tag only = absurd (false≢true tag)
declared-size d c role.Part facts tag only = absurd (false≢true tag)
declared-size d c role.Unknown facts tag only = absurd (false≢true tag)

no-members : (d : PlainDwarf) (c : ℕ) → is_declared_only d.tree c ≡ true → members_of d.tree c ≡ []
unfolding members_of
no-members d c only = go (role_of d.tree c) where
  go : (k : Role) → members_for k d.tree c ≡ []
  go role.Aggregate = rw only refl
  go role.Wrapper = refl
  go role.Function = refl
  go role.Part = refl
  go role.Pointer = refl
  go role.Array = refl
  go role.Enumeration = refl
  go role.Base = refl
  go role.Unknown = refl

declared-parts : (d : PlainDwarf) → TypeLaws d → (name : Type_ → ℕ) (c : ℕ) → (IsTooDeep d.tree (Some c) → ⊥) → StandsForNone d c → (k : Role) → has_tag (kind_for k d.tree c) ≡ true → is_declared_only d.tree c ≡ true → parts_under k name d c ≡ []
unfolding enumerators_of
declared-parts d laws name c shallow last role.Aggregate tag only = ap (map (member_part name)) (laws.members c shallow last ∙ ap (λ ms. flat_map (member_gives d) ms) (no-members d c only))
declared-parts d laws name c shallow last role.Enumeration tag only = rw only refl
declared-parts d laws name c shallow last role.Array tag only = absurd (array-kind d c (λ k. has_tag k ≡ true → ⊥) (λ e. false≢true e) (λ e. false≢true e) tag)
declared-parts d laws name c shallow last role.Function tag only = absurd (false≢true tag)
declared-parts d laws name c shallow last role.Pointer tag only = absurd (false≢true tag)
declared-parts d laws name c shallow last role.Base tag only = absurd (false≢true tag)
declared-parts d laws name c shallow last role.Wrapper tag only = absurd (false≢true tag)
declared-parts d laws name c shallow last role.Part tag only = absurd (false≢true tag)
declared-parts d laws name c shallow last role.Unknown tag only = absurd (false≢true tag)

size-from : (d : PlainDwarf) → TypeLaws d → (c : ℕ) → (IsTooDeep d.tree (Some c) → ⊥) → (facts_of d (Some c)).size ≡ size_for (role_of d.tree c) d.tree c (map (facts_of d) (steps_of d.tree c))
unfolding facts_from
size-from d laws c shallow = ap (λ (x : Facts). x.size) (laws.facts (Some c) shallow)

pub count-from : (d : PlainDwarf) → TypeLaws d → (c : ℕ) → (IsTooDeep d.tree (Some c) → ⊥) → (facts_of d (Some c)).count ≡ count_for (role_of d.tree c) d.tree c (map (facts_of d) (steps_of d.tree c))
unfolding facts_from
count-from d laws c shallow = ap (λ (x : Facts). x.count) (laws.facts (Some c) shallow)

pub form-void : (align : ℕ) → HasForm (record void_view { align = align })
form-void align = record { tag = λ e. refl; defined = λ e. refl; size = refl; group = λ e. refl; count = λ e. refl; variadic = λ e. refl; call = λ e. refl; parts = refl; unsized = λ e. refl; empty = λ e. refl }

no-tag : {X : Type 0} (b : Bool) (x y : X) → b ≡ false → cond b x y ≡ y
no-tag b x y is = rw is refl

if-same : {A : Type 0} (o : Option A) (P Q : A → Type 0) → ((a : A) → P a → Q a) → IfSome o P → IfSome o Q
if-same None P Q to h = tt
if-same (Some a) P Q to h = to a h

pub form-core : (d : PlainDwarf) → TypeLaws d → (name : Type_ → ℕ) (align : ℕ) (c : Type_) → (IsTooDeep d.tree c → ⊥) → IfSome c (StandsForNone d) → HasForm (core_view name d align c)
unfolding kind_of
form-core d laws name align None shallow last = form-void align
form-core d laws name align (Some c) shallow last =
    let facts : List Facts = map (facts_of d) (steps_of d.tree c) in
    let here = has-role d name c (role_of d.tree c) in
    let size = size-from d laws c shallow in
    let count = count-from d laws c shallow in
    record {
      tag = λ e. no-tag (has_tag (kind_for (role_of d.tree c) d.tree c)) _ [] e;
      defined = here.defined;
      size = if-same (size_of_kind (kind_for (role_of d.tree c) d.tree c)) (λ s. size_for (role_of d.tree c) d.tree c facts ≡ s) (λ s. (facts_of d (Some c)).size ≡ s) (λ s h. size ∙ h) (here.size facts last);
      group = here.group;
      count = λ e. count ∙ here.count e facts last;
      variadic = here.variadic;
      call = λ e. refl;
      parts = here.parts;
      unsized = λ e. let both = and_is_true (has_tag (kind_for (role_of d.tree c) d.tree c)) (is_declared_only d.tree c) e in size ∙ declared-size d c (role_of d.tree c) facts both.0 both.1;
      empty = λ e. let both = and_is_true (has_tag (kind_for (role_of d.tree c) d.tree c)) (is_declared_only d.tree c) e in declared-parts d laws name c shallow last (role_of d.tree c) both.0 both.1;
    }

-- only arrays have elements
pub elements-of : (d : PlainDwarf) (c : ℕ) (k : Role) → has_elements (kind_for k d.tree c) ≡ true → k ≡ role.Array
elements-of d c role.Array e = refl
elements-of d c role.Aggregate e = absurd (aggregate-kind d c (λ k. has_elements k ≡ true → ⊥) (λ h. false≢true h) (λ h. false≢true h) e)
elements-of d c role.Function e = absurd (false≢true e)
elements-of d c role.Pointer e = absurd (false≢true e)
elements-of d c role.Enumeration e = absurd (false≢true e)
elements-of d c role.Base e = absurd (false≢true e)
elements-of d c role.Wrapper e = absurd (false≢true e)
elements-of d c role.Part e = absurd (false≢true e)
elements-of d c role.Unknown e = absurd (false≢true e)
