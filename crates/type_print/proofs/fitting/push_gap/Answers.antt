use Rattle.std.proofs.Common.{◌≡◌, ◌<◌, ◌≤◌, ◌+◌, ◌++◌, ◌∷◌, [], ℕ, Option, drop, unwrap_or, sym, ◌∙◌, ap, subst, arith}
use Rattle.std.proofs.lemmas.List.{drop_more}
use Rattle.type_print.specs.declared.row.LayoutRow.{LayoutRow}
use Rattle.type_print.specs.Members.{member_at, no_member}
use Rattle.type_print.specs.Sweeps.{gap_end, gap_row, next_bit, IsSwept}
use Rattle.type_print.proofs.SweepLemmas.{gap_room, gap_reached, swept_gap}
use Rattle.type_print.proofs.fitting.push_gap.Goals as goal

pub gap-requires : goal.gap-requires
gap-requires c =
    let members = c.args.members.now in
    let left = drop c.args.k members in
    let room : c.args.held < gap_end (next_bit left) c.args.bits =
    gap_room left c.args.bits c.args.held (member_at members c.args.k) (drop (c.args.k + 1) members) (drop_more members c.args.k no_member c.requires.inside) c.if-members-k.false c.requires.fits in
    let P : Option ℕ → Type 0 = λ o. c.args.held ≤ gap_end o c.args.bits in
    let there : c.args.held ≤ gap_end (next_bit left) c.args.bits = omega arith in
    subst P (sym c.next_held-next.ensures) there

pub returns-clause-swept : goal.returns-clause-swept
returns-clause-swept c = λ all whole swept.
    let members = c.args.members.now in
    let left = drop c.args.k members in
    let row : c.gap.result ≡ gap_row c.args.held (next_bit left) c.args.bits = c.gap.ensures ∙ ap (λ (o : Option ℕ). gap_row c.args.held o c.args.bits) c.next_held-next.ensures in
    let grown : c.push.new.self.items ≡ c.args.rows.now.items ++ gap_row c.args.held (next_bit left) c.args.bits ∷ [] =
    c.in_ok-push.ensures.items ∙ ap (λ (r : LayoutRow). c.args.rows.now.items ++ r ∷ []) row in
    let up : c.unwrap_or.result ≡ gap_end (next_bit left) c.args.bits = c.unwrap_or.ensures ∙ ap (λ (o : Option ℕ). unwrap_or o c.args.bits) c.next_held-next.ensures in
    let P : ℕ → Type 0 = λ u. IsSwept all whole c.args.bits c.push.new.self.items u left in
    subst P (sym up) (swept_gap all whole c.args.bits c.args.rows.now.items c.push.new.self.items c.args.held left (member_at members c.args.k) (drop (c.args.k + 1) members)
    (drop_more members c.args.k no_member c.requires.inside) c.if-members-k.false grown swept)

pub returns-clause-reached : goal.returns-clause-reached
returns-clause-reached c =
    let members = c.args.members.now in
    let left = drop c.args.k members in
    let up : c.unwrap_or.result ≡ gap_end (next_bit left) c.args.bits = c.unwrap_or.ensures ∙ ap (λ (o : Option ℕ). unwrap_or o c.args.bits) c.next_held-next.ensures in
    let reached = gap_reached left c.args.bits c.args.held c.requires.fits (member_at members c.args.k) (drop (c.args.k + 1) members) (drop_more members c.args.k no_member c.requires.inside) in
    let P : ℕ → Type 0 = λ u. (member_at members c.args.k).bit ≤ u in
    subst P (sym up) reached
