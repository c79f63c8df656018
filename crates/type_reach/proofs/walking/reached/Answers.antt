use Rattle.std.proofs.Common.{◌≡◌, ◌<◌, ◌∙◌, ℕ, List, length, sym, ap, subst}
use Rattle.std.specs.Prelude.{Contains}
use Rattle.std.proofs.lemmas.List.Elements.{All-contains}
use Rattle.std.proofs.lemmas.Result.{IfOk-weaker}
use Rattle.type_reach.specs.Reached.{IsWalk}
use Rattle.type_reach.specs.ReachedList.{reached_of}
use Rattle.type_reach.specs.VisitedEntries.{by_offset}
use Rattle.type_reach.specs.ByValue.{IsClosed}
use Rattle.type_reach.proofs.walking.reached.Goals as goal

pub returns-clause-walk : goal.returns-clause-walk
returns-clause-walk c =
    let t = c.args.dwarf.now.tree in
    let roots = c.args.roots.now in
    let inside : (e : ℕ) → Contains roots e → e < length t.entries = λ e h. All-contains (λ (x : ℕ). x < length t.entries) roots e c.requires h in
    let is : by_offset c.in_ok-met.met.entries c.in_ok-met.met.room ≡ reached_of t roots = ap (by_offset c.in_ok-met.met.entries) c.in_ok-met.ensures.room ∙ c.walks_find_the_list.ensures t roots c.in_ok-met.met.entries inside c.in_ok-met.ensures.walk in
    IfOk-weaker c.by_offset.result (λ (found : List ℕ). found ≡ by_offset c.in_ok-met.met.entries c.in_ok-met.met.room) (IsWalk t roots)
    (λ found made. subst (IsWalk t roots) (sym (made ∙ is)) (c.the_list_holds_the_reached.ensures.walk t roots inside)) c.by_offset.ensures.found

pub returns-clause-closed : goal.returns-clause-closed
returns-clause-closed c =
    let t = c.args.dwarf.now.tree in
    let roots = c.args.roots.now in
    let inside : (e : ℕ) → Contains roots e → e < length t.entries = λ e h. All-contains (λ (x : ℕ). x < length t.entries) roots e c.requires h in
    let is : by_offset c.in_ok-met.met.entries c.in_ok-met.met.room ≡ reached_of t roots = ap (by_offset c.in_ok-met.met.entries) c.in_ok-met.ensures.room ∙ c.walks_find_the_list.ensures t roots c.in_ok-met.met.entries inside c.in_ok-met.ensures.walk in
    IfOk-weaker c.by_offset.result (λ (found : List ℕ). found ≡ by_offset c.in_ok-met.met.entries c.in_ok-met.met.room) (IsClosed t)
    (λ found made. subst (IsClosed t) (sym (made ∙ is)) (c.the_list_holds_the_reached.ensures.closed t roots inside)) c.by_offset.ensures.found
