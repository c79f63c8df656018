-- One entry more.
use Rattle.std.proofs.Common.{◌≡◌, ◌≤◌, ◌<◌, ◌+◌, ◌∙◌, ◌++◌, ◌∷◌, [], ℕ, List, Some, length, map, take, slice_get, refl, sym, ap, subst, arith}
use Rattle.std.specs.Prelude.{All, IfSome}
use Rattle.std.proofs.lemmas.List.{take_all, take_more, length-map, length-take}
use Rattle.std.proofs.lemmas.List.Sums.{sum_by_more_le}
use Rattle.std.proofs.lemmas.Option.{slice_get_within, get_or_from_slice_get}
use Rattle.std.proofs.lemmas.Result.{err_from_is_err_and}
use Rattle.abi_base.specs.declared.limit.Limit.TheVariants.{Members}
use Rattle.abi_base.specs.Budgets.{BudgetState, allowed, with_taken}
use Rattle.abi_base.proofs.lemmas.Budgets.{SpentOn, on_more}
use Rattle.abi_base.proofs.lemmas.Lists.{contains_at}
use Rattle.dwarf_tree.specs.Trees.{PlainTree}
use Rattle.type_reach.specs.References.{parts_of, types_of}
use Rattle.type_reach.specs.TypeReferences.{references_count}
use Rattle.type_reach.specs.Views.{is_variadic}
use Rattle.type_reach.specs.Origins.{AreOrigins}
use Rattle.type_reach.proofs.LearnLemmas.{map-step}
use Rattle.type_reach.proofs.LeadLemmas.{inside-more, inside-end}
use Rattle.type_reach.proofs.OriginLemmas.{same-parts, same-inside, AreOrigins-more, IsRow}
use Rattle.type_reach.proofs.type_references.type_references_of.Goals as goal

one-more : (t : PlainTree) (found : List ℕ) (k e bytes n : ℕ) (budget next : BudgetState) → slice_get found k ≡ Some e → n ≡ length (parts_of t e) → SpentOn Members bytes (λ x. length (parts_of t x)) (take k found) budget
    → next ≡ with_taken budget n → budget.taken + n ≤ budget.most → SpentOn Members bytes (λ x. length (parts_of t x)) (take (k + 1) found) next
one-more t found k e bytes n budget next at is was took fits =
    let cost : ℕ → ℕ = λ x. length (parts_of t x) in
    let lt = slice_get_within found k e at in
    let more : take (k + 1) found ≡ take k found ++ e ∷ [] = take_more found k e lt ∙ ap (λ x. take k found ++ x ∷ []) (get_or_from_slice_get found k e e at) in
    subst (λ xs. SpentOn Members bytes cost xs next) (sym more) (on_more Members bytes cost (take k found) e n budget next was (sym is) fits took)

one-past : (t : PlainTree) (found : List ℕ) (k e bytes n : ℕ) (budget : BudgetState) → slice_get found k ≡ Some e → n ≡ length (parts_of t e) → SpentOn Members bytes (λ x. length (parts_of t x)) (take k found) budget → budget.most < budget.taken + n → allowed Members bytes < references_count t found
one-past t found k e bytes n budget at is was above =
    let cost : ℕ → ℕ = λ x. length (parts_of t x) in
    let more = sum_by_more_le cost found k 0 (slice_get_within found k e at) in
    let same = ap cost (get_or_from_slice_get found k e 0 at) in
    omega (arith, more, same, is, above, was.most, was.taken)

all-within : (t : PlainTree) (found : List ℕ) (k bytes : ℕ) (budget : BudgetState) → length found ≤ k → SpentOn Members bytes (λ x. length (parts_of t x)) (take k found) budget → references_count t found ≤ allowed Members bytes
all-within t found k bytes budget past was =
    let same = ap (references_count t) (take_all k found past) in
    omega (arith, same, was.within, was.most, was.taken)

pub returns-in_err-take-clause-past : goal.returns-in_err-take-clause-past
returns-in_err-take-clause-past c =
    let p = err_from_is_err_and c.from_residual-in_err-take.result c.from_residual-in_err-take.ensures.1 in
    rw (p.1, p.2, c.in_err-take.ensures.named, c.found.invariant.count.limit_is)
    (refl, one-past c.args.dwarf.now.tree c.args.found.now c.found.number c.at-e.result c.args.bytes _ c.found.budget c.at-e.ensures (omega (arith, c.len-in-found.ensures, c.in_ok-row.row.ok.0, ap length c.in_ok-row.ensures.parts)) c.found.invariant.count c.in_err-take.ensures.past)

pub returns-clause-within : goal.returns-clause-within
returns-clause-within c = all-within c.args.dwarf.now.tree c.args.found.now c.found.number c.args.bytes c.found.budget (omega (arith, c.found-test.false, c.len-number-end.ensures)) c.found.invariant.count

pub role_of-role-requires : goal.role_of-role-requires
role_of-role-requires c = c.requires.closed.inside c.at-e.result (contains_at c.args.found.now c.found.number c.at-e.result c.at-e.ensures)

pub other_body-origin-requires-clause-inside : goal.other_body-origin-requires-clause-inside
other_body-origin-requires-clause-inside c = c.requires.closed.inside c.at-e.result (contains_at c.args.found.now c.found.number c.at-e.result c.at-e.ensures)

pub parts_row-requires-clause-inside : goal.parts_row-requires-clause-inside
parts_row-requires-clause-inside c = c.requires.closed.inside c.at-e.result (contains_at c.args.found.now c.found.number c.at-e.result c.at-e.ensures)

pub parts_row-requires-clause-same : goal.parts_row-requires-clause-same
parts_row-requires-clause-same c =
    let t = c.args.dwarf.now.tree in
    let e = c.at-e.result in
    subst (λ o. IfSome o (λ k. slice_get c.found.parts k ≡ Some (parts_of t e))) (sym c.first_with-same.ensures)
    (same-parts t c.found.origins c.found.parts c.found.variadic.items c.other_body-origin.result e c.other_body-origin.ensures.role c.other_body-origin.ensures.body c.found.invariant.origins)

pub parts_row-requires-clause-same_inside : goal.parts_row-requires-clause-same_inside
parts_row-requires-clause-same_inside c =
    let t = c.args.dwarf.now.tree in
    let e = c.at-e.result in
    subst (λ o. IfSome o (λ k. All (λ (x : ℕ). x < length t.entries) (parts_of t e))) (sym c.first_with-same.ensures)
    (same-inside t c.found.origins c.found.parts c.found.variadic.items c.other_body-origin.result e c.other_body-origin.ensures.role c.other_body-origin.ensures.body c.found.invariant.origins)

pub fill_types-requires-clause-inside : goal.fill_types-requires-clause-inside
fill_types-requires-clause-inside c = c.requires.closed.inside c.at-e.result (contains_at c.args.found.now c.found.number c.at-e.result c.at-e.ensures)

pub variadic_row-requires-clause-inside : goal.variadic_row-requires-clause-inside
variadic_row-requires-clause-inside c = c.requires.closed.inside c.at-e.result (contains_at c.args.found.now c.found.number c.at-e.result c.at-e.ensures)

pub found-preserved : goal.found-preserved
found-preserved c =
    let t = c.args.dwarf.now.tree in
    let found = c.args.found.now in
    let k = c.found.number in
    let e = c.at-e.result in
    let was = c.found.invariant in
    let row = c.as_slice-in-found-2.result.now in
    let further = c.in_ok-further.further in
    let inside = slice_get_within found k e c.at-e.ensures in
    let at : k ≡ length c.found.parts = omega (arith, inside, ap length was.parts, length-map (take k found) (parts_of t), length-take k found) in
    let at_flag : k ≡ length c.found.variadic.items = omega (arith, inside, ap length was.variadic, length-map (take k found) (is_variadic t), length-take k found) in
    let is : IsRow t e c.other_body-origin.result row further = record {
      function = c.other_body-origin.ensures.role;
      body = c.other_body-origin.ensures.body;
      parts = c.as_slice-in-found-2.ensures.value ∙ c.in_ok-row.ensures.parts;
      inside = subst (All (λ (x : ℕ). x < length t.entries)) (sym c.as_slice-in-found-2.ensures.value) c.in_ok-row.ensures.inside;
      further = c.in_ok-further.ensures.further;
    } in
    record {
      parts = map-step (parts_of t) found c.push.new.self c.found.parts k e row was.parts c.at-e.ensures is.parts c.in_ok-push.ensures.row;
      types = map-step (types_of t) found c.push-in-found.new.self c.found.types k e c.as_slice-in-found-3.result.now was.types c.at-e.ensures (c.as_slice-in-found-3.ensures.value ∙ c.in_ok-fill_types.ensures.types) c.in_ok-push-2.ensures.row;
      variadic = map-step (is_variadic t) found c.push-in-found-2.new.self.items c.found.variadic.items k e further was.variadic c.at-e.ensures is.further c.in_ok-push-3.ensures.items;
      inside = inside-more t found k e was.inside c.at-e.ensures (subst (All (λ (x : ℕ). x < length t.entries)) c.in_ok-row.ensures.parts c.in_ok-row.ensures.inside);
      count = one-more t found k e c.args.bytes _ c.found.budget c.take.new.self c.at-e.ensures (omega (arith, c.len-in-found.ensures, c.in_ok-row.row.ok.0, ap length c.in_ok-row.ensures.parts)) was.count c.in_ok-take.ensures.taken c.in_ok-take.ensures.within;
      origins =
          subst (λ rows. AreOrigins t rows c.push-in-found-2.new.self.items c.keep.new.self) (sym c.in_ok-push.ensures.row)
          (subst (λ flags. AreOrigins t (c.found.parts ++ row ∷ []) flags c.keep.new.self) (sym c.in_ok-push-3.ensures.items)
          (AreOrigins-more t c.found.origins c.keep.new.self c.found.parts c.found.variadic.items c.other_body-origin.result e k row further c.in_ok-keep.ensures.numbers at at_flag is was.origins));
    }

pub returns-clause-leads : goal.returns-clause-leads
returns-clause-leads c =
    let t = c.args.dwarf.now.tree in
    let found = c.args.found.now in
    let k = c.found.number in
    let was = c.found.invariant in
    let past : length found ≤ k = omega (arith, c.found-test.false, c.len-number-end.ensures) in
    record {
      parts = c.shrink_to_fit.ensures ∙ was.parts ∙ ap (map (parts_of t)) (take_all k found past);
      types = c.shrink_to_fit-2.ensures ∙ was.types ∙ ap (map (types_of t)) (take_all k found past);
      variadic = was.variadic ∙ ap (map (is_variadic t)) (take_all k found past);
      inside = inside-end t found k was.inside past;
    }
