use Rattle.std.proofs.Common.{rules, ◌≡◌, ◌≤◌, ◌+◌, ◌++◌, ◌∙◌, ℕ, List, ap, length, take, subst, sym}
use Rattle.std.proofs.lemmas.List.{take-append-le, take-take}
use Rattle.std.proofs.KnownBytes.{Consumes-trans}
use Rattle.std.specs.Io.KnownBytes.{Consumes}
use Rattle.abi_base.proofs.inputs.read_whole.Goals as goal

pub pieces-preserved : goal.pieces-preserved
pieces-preserved g c =
    let told = g.I.Inputs.told c.args.inputs.now c.args.name.now in
    let left = g.I.Inputs.left c.read.new.self in
    let longer = Consumes-trans _ _ _ _ _ c.pieces.invariant.so_far.consumed c.in_ok-count.ensures.bytes.0 in
    let count = c.in_ok-count.count in
    let within : count ≤ length c.read.new.into = search rules in
    let fits : count ≤ c.pieces.piece.len = search rules in
    let read : take count c.deref.result.now ≡ take count c.read.new.into =
    ap (take count) c.deref.ensures.value ∙ take-take count c.pieces.piece.len _ fits ∙ take-append-le count c.read.new.into _ within in
    let there = subst (λ (l : List ℕ). Consumes told left (c.pieces.bytes.items ++ l)) (sym read) longer in
    record {
      so_far = record {
        same = λ other. c.read.ensures.told other ∙ c.pieces.invariant.so_far.same other;
        later = search rules;
        current = search rules;
        consumed = subst (Consumes told left) (sym c.in_ok-extend_from_slice.ensures.items) there;
        counted = search rules;
        room = search rules;
        still = λ unfailing k. c.read.ensures.next k ∙ c.pieces.invariant.so_far.still unfailing (k + 1);
        steady = λ unfailing told name. c.in_ok-count.ensures.steady name ∙ c.pieces.invariant.so_far.steady unfailing told name;
      };
      within = search rules;
      once = c.read.ensures.started ∙ c.pieces.invariant.once;
    }
