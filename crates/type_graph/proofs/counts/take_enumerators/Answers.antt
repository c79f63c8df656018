use Rattle.std.proofs.Common.{◌≡◌, ◌∙◌, ℕ, length, refl, sym, ap, arith, inl, inr}
use Rattle.std.specs.Prelude.{sum_by}
use Rattle.std.proofs.lemmas.Result.{err_from_is_err_and}
use Rattle.abi_base.proofs.lemmas.Outcomes.{on_limit_weaker}
use Rattle.type_reach.specs.declared.role.Role.{Role}
use Rattle.type_reach.specs.Views.{enumerators_of}
use Rattle.type_graph.specs.Counts.{enumerators_for, enumerators_held, enumerator_letters_for, enumerator_letters_held, letters_of}
use Rattle.type_graph.proofs.lemmas.Spending.{past-weaker, passes-by-more}
use Rattle.type_graph.proofs.counts.take_enumerators.Goals as goal

pub returns-in_err-take-in-Enumeration-clause-past : goal.returns-in_err-take-in-Enumeration-clause-past
returns-in_err-take-in-Enumeration-clause-past c =
    let d = c.args.dwarf.now in
    let e = c.args.e in
    let held : enumerators_held d e ≡ length (enumerators_of d.tree e) = ap (λ (r : Role). enumerators_for r d e) (sym c.role_of.ensures ∙ c.in-Enumeration.is) in
    let many = ap length c.in_ok-enumerators-in-Enumeration.ensures.enumerators in
    let p = err_from_is_err_and c.from_residual-in_err-take-in-Enumeration.result c.from_residual-in_err-take-in-Enumeration.ensures.1 in
    rw (p.1, p.2, c.in_err-take-in-Enumeration.ensures.named) (inl (refl, omega (arith, c.in_err-take-in-Enumeration.ensures.past, held, many, c.len.ensures)))

pub returns-in_ok-take-in-Enumeration-clause-past : goal.returns-in_ok-take-in-Enumeration-clause-past
returns-in_ok-take-in-Enumeration-clause-past c =
    let d = c.args.dwarf.now in
    let e = c.args.e in
    let held : enumerator_letters_held d e ≡ sum_by (letters_of d) (enumerators_of d.tree e) = ap (λ (r : Role). enumerator_letters_for r d e) (sym c.role_of.ensures ∙ c.in-Enumeration.is) in
    let read = ap (sum_by (letters_of d)) (c.as_slice.ensures.value ∙ c.in_ok-enumerators-in-Enumeration.ensures.enumerators) in
    past-weaker c.take_names.result _ _ (λ l h. inr (passes-by-more c.args.letters.now _ (enumerator_letters_held d e) l h (omega (arith, held, read)))) c.take_names.ensures.past
