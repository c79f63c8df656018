-- The members of one part after the other.
use Rattle.std.proofs.Common.{◌≡◌, ◌+◌, ◌∙◌, ℕ, List, None, Some, length, get_or, refl, sym, ap, subst, arith, inl, inr}
use Rattle.std.specs.Prelude.{Contains, sum_by}
use Rattle.std.specs.Option.{option_copied}
use Rattle.std.proofs.lemmas.List.{get_or_default}
use Rattle.std.proofs.lemmas.Result.{err_from_is_err_and}
use Rattle.abi_base.proofs.lemmas.Outcomes.{on_limit_weaker}
use Rattle.dwarf_entries.specs.Chains.{name_of}
use Rattle.type_reach.specs.References.{members_of}
use Rattle.type_reach.specs.Facts.{facts_of}
use Rattle.type_reach.specs.Summaries.{summary_of}
use Rattle.type_reach.specs.Flat.{flat_of}
use Rattle.type_reach.specs.PeeledCores.{IsFound}
use Rattle.type_graph.specs.Counts.{members_read, member_letters}
use Rattle.type_graph.specs.Placed.{replacing}
use Rattle.type_graph.proofs.ListLemmas.{at-place}
use Rattle.type_graph.proofs.FlattenLemmas.{member_found, member_shallow, nested-is}
use Rattle.type_graph.proofs.LetterLemmas.{letters_given, nested-letters, nothing-letters, letters-named, letters-is}
use Rattle.type_graph.proofs.MemberLemmas.{read_for, read-is, read-replaced, read-nothing}
use Rattle.type_graph.proofs.lemmas.Spending.{takes-none, takes-as, takes-at, takes-all, passes-at, passes-by-more}
use Rattle.type_graph.proofs.counts.+take_members.Goals.{in-Some-replacing+in_ok-take_members-in-Some-replacing, in-None}
use Rattle.type_graph.proofs.counts.+take_members.Goals as goal

pub role_of-requires : goal.role_of-requires
role_of-requires t c = c.requires.closed.inside c.args.c c.requires.there

pub members_among-members-requires-clause-inside : goal.members_among-members-requires-clause-inside
members_among-members-requires-clause-inside t c = c.requires.closed.inside c.args.c c.requires.there

pub summary_at-requires-clause-there : goal.summary_at-requires-clause-there
summary_at-requires-clause-there t c =
    let d = c.args.types.now.dwarf.now in
    let items = c.members_among-members.result.now in
    let m : ℕ = get_or items c.members.k 0 in
    let has = subst (λ xs. Contains xs m) c.members_among-members.ensures.members (at-place items c.members.k c.members-test.true) in
    subst (IsFound c.args.types.now.found.now) (sym c.member_type-to.ensures) (member_found d (c.laws_of_types.ensures d) c.args.types.now.found.now c.requires.closed c.requires.summaries.shallow c.args.c m c.requires.there has)

pub take_members-requires : goal.take_members-requires
take_members-requires t c =
    let d = c.args.types.now.dwarf.now in
    let items = c.members_among-members.result.now in
    let m : ℕ = get_or items c.members.k 0 in
    let has = subst (λ xs. Contains xs m) c.members_among-members.ensures.members (at-place items c.members.k c.members-test.true) in
    let of_type = c.summary_at.ensures ∙ ap (λ r. summary_of (facts_of d r)) c.member_type-to.ensures in
    let is = nested-is d (c.laws_of_types.ensures d) c.args.types.now.found.now c.requires.closed c.requires.summaries.shallow c.args.c m c.in-Some-replacing.inner c.requires.there has (sym (c.replacing.ensures ∙ ap replacing of_type) ∙ c.in-Some-replacing.is) in
    (omega (arith, c.decreases, is.low), (c.requires.closed, (c.requires.leads, (c.requires.summaries, (is.there, (is.last, (c.members.invariant.parts.within, c.members.invariant.letters.within)))))))

pub members-preserved : goal.members-preserved
members-preserved t c =
    let d = c.args.types.now.dwarf.now in
    let laws = c.laws_of_types.ensures d in
    let items = c.members_among-members.result.now in
    let m : ℕ = get_or items c.members.k 0 in
    let has = subst (λ xs. Contains xs m) c.members_among-members.ensures.members (at-place items c.members.k c.members-test.true) in
    let of_type = c.summary_at.ensures ∙ ap (λ r. summary_of (facts_of d r)) c.member_type-to.ensures in
    let shallow = member_shallow d laws c.args.types.now.found.now c.requires.closed c.requires.summaries.shallow c.args.c m c.requires.there has in
    let read = c.index-members-k.result in
    let is : m ≡ read = get_or_default items c.members.k 0 read c.members-test.true ∙ sym c.index-members-k.is in
    let no_name : name_of d m ≡ None = ap (name_of d) is ∙ sym c.name_of.ensures ∙ ap option_copied c.in_default.is in
    let was = c.members.invariant in
    elim c.match-replacing.branch [
      | in-Some-replacing+in_ok-take_members-in-Some-replacing w ↦
          let inner = w.in-Some-replacing.inner in
          let replaced = sym (c.replacing.ensures ∙ ap replacing of_type) ∙ w.in-Some-replacing.is in
          let after = w.in_ok-take_members-in-Some-replacing.ensures in
          record {
            parts = rw w.budget-is (takes-at (read_for d) items c.members.k 0 (members_read d inner) (length items) c.args.budget.now c.members.budget _ was.parts c.members-test.true after.parts (sym (read-replaced d m inner no_name replaced)));
            letters = rw w.letters-is (takes-at (letters_given d) items c.members.k 0 (member_letters (flat_of d (Some inner))) 0 c.args.letters.now c.members.letters _ was.letters c.members-test.true after.letters (sym (nested-letters d laws m inner shallow no_name replaced)));
          }
      | in-None w ↦
          let replaced = sym (c.replacing.ensures ∙ ap replacing of_type) ∙ w.in-None.is in
          record {
            parts = rw w.budget-is (takes-at (read_for d) items c.members.k 0 0 (length items) c.args.budget.now c.members.budget c.members.budget was.parts c.members-test.true (takes-none c.members.budget was.parts.within) (sym (read-nothing d m no_name replaced)));
            letters = rw w.letters-is (takes-at (letters_given d) items c.members.k 0 0 0 c.args.letters.now c.members.letters c.members.letters was.letters c.members-test.true (takes-none c.members.letters was.letters.within) (sym (nothing-letters d laws m shallow no_name replaced)));
          }
    ]

pub returns-in_err-take-clause-past : goal.returns-in_err-take-clause-past
returns-in_err-take-clause-past t c =
    let d = c.args.types.now.dwarf.now in
    let whole = read-is d (c.laws_of_types.ensures d) c.args.types.now.found.now c.requires.closed c.requires.summaries.shallow c.args.c c.requires.there in
    let many = ap length c.members_among-members.ensures.members in
    let p = err_from_is_err_and c.from_residual.result c.from_residual.ensures.1 in
    rw (p.1, p.2, c.in_err-take.ensures.named) (inl (refl, omega (arith, c.in_err-take.ensures.past, whole, many)))

pub returns-in_err-take-2-clause-past : goal.returns-in_err-take-2-clause-past
returns-in_err-take-2-clause-past t c =
    let d = c.args.types.now.dwarf.now in
    let laws = c.laws_of_types.ensures d in
    let items = c.members_among-members.result.now in
    let k = c.members.k in
    let m : ℕ = get_or items k 0 in
    let read = c.index-members-k.result in
    let is : m ≡ read = get_or_default items k 0 read c.members-test.true ∙ sym c.index-members-k.is in
    let named = ap (name_of d) is ∙ sym c.name_of.ensures ∙ ap option_copied c.in-Some.is in
    let own = letters-named d m _ named in
    let whole = letters-is d laws c.args.c items c.members_among-members.ensures.members (c.requires.summaries.shallow c.args.c c.requires.there) c.requires.last in
    let p = err_from_is_err_and c.from_residual-in_err-take-2.result c.from_residual-in_err-take-2.ensures.1 in
    rw (p.1, p.2, c.in_err-take-2.ensures.named)
    (inr (passes-by-more c.args.letters.now (0 + sum_by (letters_given d) items) (member_letters (flat_of d (Some c.args.c))) c.members.letters.limit
    (passes-at (letters_given d) items k 0 _ 0 c.args.letters.now c.members.letters c.members.letters.limit c.members.invariant.letters c.members-test.true (refl, c.in_err-take-2.ensures.past) (sym own))
    (omega (arith, whole))))

pub returns-in_err-take_members-in-Some-replacing-clause-past : goal.returns-in_err-take_members-in-Some-replacing-clause-past
returns-in_err-take_members-in-Some-replacing-clause-past t c =
    let d = c.args.types.now.dwarf.now in
    let laws = c.laws_of_types.ensures d in
    let found = c.args.types.now.found.now in
    let items = c.members_among-members.result.now in
    let k = c.members.k in
    let m : ℕ = get_or items k 0 in
    let inner = c.in-Some-replacing.inner in
    let has = subst (λ xs. Contains xs m) c.members_among-members.ensures.members (at-place items k c.members-test.true) in
    let of_type = c.summary_at.ensures ∙ ap (λ r. summary_of (facts_of d r)) c.member_type-to.ensures in
    let shallow = member_shallow d laws found c.requires.closed c.requires.summaries.shallow c.args.c m c.requires.there has in
    let read = c.index-members-k.result in
    let is : m ≡ read = get_or_default items k 0 read c.members-test.true ∙ sym c.index-members-k.is in
    let no_name : name_of d m ≡ None = ap (name_of d) is ∙ sym c.name_of.ensures ∙ ap option_copied c.in_default.is in
    let replaced = sym (c.replacing.ensures ∙ ap replacing of_type) ∙ c.in-Some-replacing.is in
    let was = c.members.invariant in
    let whole = read-is d laws found c.requires.closed c.requires.summaries.shallow c.args.c c.requires.there in
    let parts : length items + sum_by (read_for d) items ≡ members_read d c.args.c = ap (λ (xs : List ℕ). length xs + sum_by (read_for d) xs) c.members_among-members.ensures.members ∙ sym whole in
    let letters = letters-is d laws c.args.c items c.members_among-members.ensures.members (c.requires.summaries.shallow c.args.c c.requires.there) c.requires.last in
    let p = err_from_is_err_and c.from_residual-in_err-take_members-in-Some-replacing.result c.from_residual-in_err-take_members-in-Some-replacing.ensures.1 in
    rw (p.1, p.2) (on_limit_weaker c.in_err-take_members-in-Some-replacing.field-0.0 _ _
    (λ l h. elim h [
      | inl one ↦ inl (passes-by-more c.args.budget.now _ (members_read d c.args.c) l (passes-at (read_for d) items k 0 (members_read d inner) (length items) c.args.budget.now c.members.budget l was.parts c.members-test.true one (sym (read-replaced d m inner no_name replaced))) (omega (arith, parts)))
      | inr other ↦ inr (passes-by-more c.args.letters.now _ (member_letters (flat_of d (Some c.args.c))) l (passes-at (letters_given d) items k 0 (member_letters (flat_of d (Some inner))) 0 c.args.letters.now c.members.letters l was.letters c.members-test.true other (sym (nested-letters d laws m inner shallow no_name replaced))) (omega (arith, letters)))
    ])
    c.in_err-take_members-in-Some-replacing.ensures.past)

pub returns-clause-parts : goal.returns-clause-parts
returns-clause-parts t c =
    let d = c.args.types.now.dwarf.now in
    let items = c.members_among-members.result.now in
    let whole = read-is d (c.laws_of_types.ensures d) c.args.types.now.found.now c.requires.closed c.requires.summaries.shallow c.args.c c.requires.there in
    let parts : length items + sum_by (read_for d) items ≡ members_read d c.args.c = ap (λ (xs : List ℕ). length xs + sum_by (read_for d) xs) c.members_among-members.ensures.members ∙ sym whole in
    takes-as c.args.budget.now c.members.budget _ (members_read d c.args.c) (takes-all (read_for d) items c.members.k (length items) c.args.budget.now c.members.budget c.members.invariant.parts c.members-test.false) parts

pub returns-clause-letters : goal.returns-clause-letters
returns-clause-letters t c =
    let d = c.args.types.now.dwarf.now in
    let items = c.members_among-members.result.now in
    let letters = letters-is d (c.laws_of_types.ensures d) c.args.c items c.members_among-members.ensures.members (c.requires.summaries.shallow c.args.c c.requires.there) c.requires.last in
    takes-as c.args.letters.now c.members.letters _ (member_letters (flat_of d (Some c.args.c))) (takes-all (letters_given d) items c.members.k 0 c.args.letters.now c.members.letters c.members.invariant.letters c.members-test.false) letters
