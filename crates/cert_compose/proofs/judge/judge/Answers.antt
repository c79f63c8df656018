use Rattle.std.proofs.Common.{ℕ, Option, sym, subst}
use Rattle.cert_compose.specs.Between.{KeepsRules, KeepsTyped}
use Rattle.cert_compose.specs.CertifiedChain.{chain_of}
use Rattle.cert_compose.specs.Losses.{FindsLeastEntry}
use Rattle.cert_compose.specs.Refusals.{IsRefusal}
use Rattle.cert_compose.proofs.LineLemmas.{LineLaws}
use Rattle.cert_compose.proofs.JudgeLemmas.{all_bound, all_keep, all_typed, first_at, nothing, least_unkept}
use Rattle.cert_compose.proofs.judge.judge.Goals as goal

pub returns-in-Some-first_broken-clause-refused : goal.returns-in-Some-first_broken-clause-refused
returns-in-Some-first_broken-clause-refused c =
    let ch = chain_of c.args.ground.now in
    subst (IsRefusal ch) (sym c.lost-in-Some-first_broken.ensures) (
      all_bound ch c.in-None.ensures,
      first_at ch (KeepsRules ch) c.in-Some-first_broken.k c.symbol_at-in-Some-first_broken.result c.in-Some-first_broken.ensures c.symbol_at-in-Some-first_broken.ensures,
    )

pub returns-in-Some-first_untyped-clause-refused : goal.returns-in-Some-first_untyped-clause-refused
returns-in-Some-first_untyped-clause-refused c =
    let ch = chain_of c.args.ground.now in
    subst (IsRefusal ch) (sym c.lost-in-Some-first_untyped.ensures) (
      all_bound ch c.in-None.ensures,
      all_keep ch c.in-None-first_broken.ensures,
      first_at ch (KeepsTyped ch) c.in-Some-first_untyped.k c.symbol_at-in-Some-first_untyped.result c.in-Some-first_untyped.ensures c.symbol_at-in-Some-first_untyped.ensures,
    )

pub returns-in-None-2-clause-nothing : goal.returns-in-None-2-clause-nothing
returns-in-None-2-clause-nothing c =
    let ch = chain_of c.args.ground.now in
    let look_ups : LineLaws = record { found = c.lines_are_found_where_they_stand.ensures.found; missing = c.lines_are_found_where_they_stand.ensures.missing; pairs = c.lines_are_found_where_they_stand.ensures.pairs } in
    nothing look_ups c.rules_see_no_nodes.ensures.breaks c.what_is_accepted_keeps_all.ensures ch c.requires.chain c.args.middles.now c.requires.exact c.in-None.ensures c.in-None-first_broken.ensures c.in-None-first_untyped.ensures
    (subst (λ (o : Option ℕ). FindsLeastEntry ch c.args.middles.now o) c.in-None-2.is c.in_ok-least_entry.ensures.found)

pub returns-in-Some-2-clause-refused : goal.returns-in-Some-2-clause-refused
returns-in-Some-2-clause-refused c =
    let ch = chain_of c.args.ground.now in
    let look_ups : LineLaws = record { found = c.lines_are_found_where_they_stand.ensures.found; missing = c.lines_are_found_where_they_stand.ensures.missing; pairs = c.lines_are_found_where_they_stand.ensures.pairs } in
    subst (IsRefusal ch) (sym c.lost-in-Some-2.ensures) (
      all_bound ch c.in-None.ensures,
      all_keep ch c.in-None-first_broken.ensures,
      all_typed ch c.in-None-first_untyped.ensures,
      least_unkept look_ups c.rules_see_no_nodes.ensures.breaks c.what_is_accepted_keeps_all.ensures ch c.requires.chain c.args.middles.now c.requires.exact c.in-Some-2.at
          (subst (λ (o : Option ℕ). FindsLeastEntry ch c.args.middles.now o) c.in-Some-2.is c.in_ok-least_entry.ensures.found),
    )
