-- The members of one part after the other.
use Rattle.std.proofs.Common.{◌≡◌, ◌∙◌, ℕ, None, Some, List, map, get_or, refl, sym, ap, subst, arith, ◌++◌}
use Rattle.std.specs.Prelude.{Contains, ◌+ℤ◌}
use Rattle.std.specs.Option.{option_copied}
use Rattle.std.proofs.lemmas.List.{append-nil, get_or_default}
use Rattle.dwarf_entries.specs.Chains.{name_of}
use Rattle.type_reach.specs.declared.summaries.Summary.{Summary}
use Rattle.type_reach.specs.Placement.{bit_of}
use Rattle.type_reach.specs.Facts.{facts_of}
use Rattle.type_reach.specs.Summaries.{summary_of}
use Rattle.type_reach.specs.Flat.{Flat, moved, declared_bit, flat_of}
use Rattle.type_reach.specs.PeeledCores.{IsFound}
use Rattle.type_graph.specs.Placed.{replacing, plain_members}
use Rattle.type_graph.proofs.ListLemmas.{at-place}
use Rattle.type_graph.proofs.FlattenLemmas.{member_found, member_lower, member_shallow, nested-is, gives-nested, gives-nothing, IsPut-more, IsPut-end}
use Rattle.type_graph.proofs.flatten.+push_flat.Goals.{in-Some-replacing+in_ok-push_flat-in-Some-replacing, in-None}
use Rattle.type_graph.proofs.flatten.+push_flat.Goals as goal

pub role_of-requires : goal.role_of-requires
role_of-requires t c = c.requires.closed.inside c.args.c c.requires.there

pub members_among-members-requires-clause-inside : goal.members_among-members-requires-clause-inside
members_among-members-requires-clause-inside t c = c.requires.closed.inside c.args.c c.requires.there

pub summary_at-of_type-requires-clause-there : goal.summary_at-of_type-requires-clause-there
summary_at-of_type-requires-clause-there t c =
    let d = c.args.types.now.dwarf.now in
    let items = c.members_among-members.result.now in
    let m : ℕ = get_or items c.members.k 0 in
    let has = subst (λ xs. Contains xs m) c.members_among-members.ensures.members (at-place items c.members.k c.members-test.true) in
    subst (IsFound c.args.types.now.found.now) (sym c.member_type-to.ensures) (member_found d (c.laws_of_types.ensures d) c.args.types.now.found.now c.requires.closed c.requires.summaries.shallow c.args.c m c.requires.there has)

pub later-start-requires-clause-depth : goal.later-start-requires-clause-depth
later-start-requires-clause-depth t c =
    let d = c.args.types.now.dwarf.now in
    let items = c.members_among-members.result.now in
    let m : ℕ = get_or items c.members.k 0 in
    let has = subst (λ xs. Contains xs m) c.members_among-members.ensures.members (at-place items c.members.k c.members-test.true) in
    let falls = member_lower d (c.laws_of_types.ensures d) c.args.types.now.found.now c.requires.closed c.requires.summaries.shallow c.args.c m c.requires.there has in
    omega (arith, falls, c.requires.low)

pub push_flat-requires : goal.push_flat-requires
push_flat-requires t c =
    let d = c.args.types.now.dwarf.now in
    let items = c.members_among-members.result.now in
    let m : ℕ = get_or items c.members.k 0 in
    let has = subst (λ xs. Contains xs m) c.members_among-members.ensures.members (at-place items c.members.k c.members-test.true) in
    let of_type = c.summary_at-of_type.ensures ∙ ap (λ r. summary_of (facts_of d r)) c.member_type-to.ensures in
    let is = nested-is d (c.laws_of_types.ensures d) c.args.types.now.found.now c.requires.closed c.requires.summaries.shallow c.args.c m c.in-Some-replacing.inner c.requires.there has (sym (c.replacing.ensures ∙ ap replacing of_type) ∙ c.in-Some-replacing.is) in
    let deeper = c.later-start.ensures.depth in
    (omega (arith, c.decreases, deeper, is.low, c.requires.low), (c.requires.closed, (c.requires.leads, (c.requires.summaries, (is.there, (is.last, omega (arith, deeper, is.low, c.requires.low)))))))

pub members-preserved : goal.members-preserved
members-preserved t c =
    let d = c.args.types.now.dwarf.now in
    let laws = c.laws_of_types.ensures d in
    let items = c.members_among-members.result.now in
    let m : ℕ = get_or items c.members.k 0 in
    let has = subst (λ xs. Contains xs m) c.members_among-members.ensures.members (at-place items c.members.k c.members-test.true) in
    let of_type = c.summary_at-of_type.ensures ∙ ap (λ r. summary_of (facts_of d r)) c.member_type-to.ensures in
    let shallow = member_shallow d laws c.args.types.now.found.now c.requires.closed c.requires.summaries.shallow c.args.c m c.requires.there has in
    let read = c.index-members-k.result in
    let is : m ≡ read = get_or_default items c.members.k 0 read c.members-test.true ∙ sym c.index-members-k.is in
    let no_name : name_of d m ≡ None = ap (name_of d) is ∙ sym c.name_of.ensures ∙ ap option_copied c.in_default.is in
    let bit : c.later-start.result.bit ≡ c.args.base.bit +ℤ declared_bit d m =
    c.later-start.ensures.bit
    ∙ ap (λ (e : ℕ). c.args.base.bit +ℤ bit_of d e c.summary_at-of_type.result.size) (sym is)
    ∙ ap (λ (x : Summary). c.args.base.bit +ℤ bit_of d m x.size) of_type in
    let put : List Flat = plain_members c.members.out.items in
    let before : List Flat = plain_members c.args.out.now.items in
    elim c.match-replacing.branch [
      | in-Some-replacing+in_ok-push_flat-in-Some-replacing w ↦
          let inner = w.in-Some-replacing.inner in
          let gives = gives-nested d laws m inner c.args.base.bit shallow no_name (sym (c.replacing.ensures ∙ ap replacing of_type) ∙ w.in-Some-replacing.is) in
          IsPut-more d before c.args.base.bit items c.members.k m put (plain_members c.match-replacing.out.items) c.members.invariant c.members-test.true refl
          (ap (λ v. plain_members v.items) w.out-is ∙ w.in_ok-push_flat-in-Some-replacing.ensures.members
          ∙ ap (λ z. put ++ map (moved z) (flat_of d (Some inner))) bit
          ∙ ap (λ xs. put ++ xs) (sym gives))
      | in-None w ↦
          IsPut-more d before c.args.base.bit items c.members.k m put (plain_members c.match-replacing.out.items) c.members.invariant c.members-test.true refl
          (ap (λ v. plain_members v.items) w.out-is ∙ sym (append-nil put) ∙ ap (λ xs. put ++ xs) (sym (gives-nothing d laws m c.args.base.bit shallow no_name (sym (c.replacing.ensures ∙ ap replacing of_type) ∙ w.in-None.is))))
    ]

pub returns-clause-members : goal.returns-clause-members
returns-clause-members t c =
    let d = c.args.types.now.dwarf.now in
    IsPut-end d (c.laws_of_types.ensures d) (plain_members c.args.out.now.items) c.args.base.bit c.args.c c.members_among-members.result.now c.members.k (plain_members c.members.out.items) c.members.invariant c.members-test.false c.members_among-members.ensures.members (c.requires.summaries.shallow c.args.c c.requires.there) c.requires.last
