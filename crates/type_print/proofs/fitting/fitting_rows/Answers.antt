use Rattle.std.proofs.Common.{◌≡◌, ◌<◌, ◌≤◌, ◌+◌, ◌^◌, ◌++◌, ◌∷◌, [], ℕ, List, length, drop, sym, ◌∙◌, ap, subst, arith}
use Rattle.std.proofs.lemmas.List.{drop_more, drop_all}
use Rattle.type_print.specs.declared.extent.Extent.{Extent}
use Rattle.type_print.specs.declared.row.LayoutRow.{LayoutRow}
use Rattle.type_print.specs.Members.{member_at, no_member, row_of}
use Rattle.type_print.specs.Sweeps.{IsSwept}
use Rattle.type_print.proofs.SweepLemmas.{start_fits, swept_start, swept_member, swept_end, member_inside}
use Rattle.type_print.proofs.fitting.fitting_rows.Goals as goal

pub walk-init : goal.walk-init
walk-init c = record {
  fits = start_fits c.args.members.now c.args.bits c.requires.order c.requires.fits;
  swept = λ all.
      let P : List LayoutRow → Type 0 = λ rows. IsSwept all c.args.members.now c.args.bits rows 0 c.args.members.now in
      subst P (sym c.new-rows.ensures.items) (swept_start all c.args.members.now c.args.bits c.requires.order c.requires.fits);
}

pub end_after-held-requires : goal.end_after-held-requires
end_after-held-requires c =
    let inside : c.walk.k < length c.args.members.now = omega arith in
    let ends = member_inside c.args.members.now c.walk.k c.walk.held c.args.bits inside c.walk.invariant.fits in
    let bits : c.args.bits < 2 ^ 64 = omega arith in
    omega arith

pub walk-preserved : goal.walk-preserved
walk-preserved c =
    let members = c.args.members.now in
    let k = c.walk.k in
    let member = member_at members k in
    let inside : c.walk.k < length c.args.members.now = omega arith in
    let grown : c.push.new.self.items ≡ c.push_gap.new.rows.items ++ row_of member ∷ [] = c.in_ok-push.ensures.items ∙ ap (λ (r : LayoutRow). c.push_gap.new.rows.items ++ r ∷ []) c.row_of.ensures in
    let swept : (all : List Extent) → IsSwept all members c.args.bits c.push.new.self.items c.end_after-held.result (drop (k + 1) members) = λ all.
    let P : ℕ → Type 0 = λ h. IsSwept all members c.args.bits c.push.new.self.items h (drop (k + 1) members) in
    subst P (sym c.end_after-held.ensures) (swept_member all members c.args.bits c.push_gap.new.rows.items c.push.new.self.items c.in_ok-held.held (drop k members) member (drop (k + 1) members)
    (drop_more members k no_member inside) c.in_ok-held.ensures.reached grown (c.in_ok-held.ensures.swept all members (c.walk.invariant.swept all))) in
    record { fits = (swept []).fits; swept = swept }

pub returns-clause-exact : goal.returns-clause-exact
returns-clause-exact c = λ all.
    let past : length c.args.members.now ≤ c.walk.k = omega arith in
    swept_end all c.args.members.now c.args.bits c.walk.rows.items c.push_padding.new.rows.items c.walk.held (drop c.walk.k c.args.members.now) (drop_all c.walk.k c.args.members.now past)
    c.in_ok-push_padding.ensures.added (c.walk.invariant.swept all)
