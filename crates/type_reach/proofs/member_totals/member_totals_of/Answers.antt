-- One member more, from the last one to the first.
use Rattle.std.proofs.Common.{◌+◌, ◌-◌, ◌≤◌, ◌<◌, ◌∙◌, ℕ, List, map, sym, ap, subst, arith}
use Rattle.std.specs.Prelude.{◌||◌}
use Rattle.std.specs.List.{list_any}
use Rattle.type_reach.specs.declared.facts.Facts.{Facts}
use Rattle.type_reach.specs.Facts.{most, spread, joined, member_align, member_span, member_beyond}
use Rattle.type_reach.proofs.NearLemmas.{NearLow, NearHigh, joined-low, joined-high, low-more, high-more}
use Rattle.type_reach.proofs.ZipLemmas.{zip-down, zip-none}
use Rattle.type_reach.proofs.member_totals.member_totals_of.Goals as goal

pub down-init : goal.down-init
unfolding most spread
down-init c =
    let d = c.args.dwarf.now in
    let members = c.args.members.now in
    let types = c.args.of_types.now in
    record {
      align = sym (zip-none (λ (zs : List (ℕ × Facts)). most (map (member_align d) zs)) members types c.min-k.result (omega (arith, c.min-k.ensures)));
      span = sym (zip-none (λ (zs : List (ℕ × Facts)). spread (map (member_span d) zs)) members types c.min-k.result (omega (arith, c.min-k.ensures)));
      beyond = sym (zip-none (λ (zs : List (ℕ × Facts)). list_any (member_beyond d) zs) members types c.min-k.result (omega (arith, c.min-k.ensures)));
      members = omega (arith, c.min-k.ensures);
      types = omega (arith, c.min-k.ensures);
      low = tt;
      high = tt;
    }

pub down-preserved : goal.down-preserved
unfolding most spread
down-preserved c =
    let d = c.args.dwarf.now in
    let members = c.args.members.now in
    let types = c.args.of_types.now in
    let was = c.down.invariant in
    let m = c.index-members-k.result in
    let x = c.index-of_types-k.result in
    let aligns = zip-down (λ (zs : List (ℕ × Facts)). most (map (member_align d) zs)) members types c.down.k m x c.down-test.true was.members was.types c.index-members-k.is c.index-of_types-k.is in
    let spans = zip-down (λ (zs : List (ℕ × Facts)). spread (map (member_span d) zs)) members types c.down.k m x c.down-test.true was.members was.types c.index-members-k.is c.index-of_types-k.is in
    let beyonds = zip-down (λ (zs : List (ℕ × Facts)). list_any (member_beyond d) zs) members types c.down.k m x c.down-test.true was.members was.types c.index-members-k.is c.index-of_types-k.is in
    let rank = subst (λ (y : Facts). y.rank < c.args.rank) (sym c.index-of_types-k.is) (c.requires.ranks (c.down.k - 1) x (omega (arith, c.down-test.true, was.types))) in
    let le : x.rank + 2 ≤ c.args.rank + 1 = omega (arith, rank) in
    record {
      align = omega (arith, aligns, was.align, c.max-align.ensures, c.member_align.ensures);
      span = c.joined-span.ensures ∙ ap (λ s. joined s c.down.span) c.member_span.ensures.is ∙ ap (joined (member_span d (m, x))) was.span ∙ sym spans;
      beyond = c.either_out_of_range-beyond.ensures ∙ ap (λ b. member_beyond d (m, x) || b) was.beyond ∙ sym beyonds;
      members = omega (arith, was.members);
      types = omega (arith, was.types);
      low = subst (NearLow (c.args.rank + 1)) (sym c.joined-span.ensures) (joined-low (c.args.rank + 1) c.member_span.result c.down.span (low-more (x.rank + 2) (c.args.rank + 1) c.member_span.result le c.member_span.ensures.low) was.low);
      high = subst (NearHigh (c.args.rank + 1)) (sym c.joined-span.ensures) (joined-high (c.args.rank + 1) c.member_span.result c.down.span (high-more (x.rank + 2) (c.args.rank + 1) c.member_span.result le c.member_span.ensures.high) was.high);
    }
