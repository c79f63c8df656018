-- One number more, in class 0.
use Rattle.std.proofs.Common.{◌≡◌, ◌+◌, ℕ, List, [], ◌∷◌, ◌++◌, length, ap, ◌∙◌, arith}
use Rattle.std.specs.List.{range_with_len}
use Rattle.std.proofs.lemmas.List.{length_push}
use Rattle.std.proofs.lemmas.List.FromFn.{length-range_with_len}
use Rattle.type_classes.specs.declared.blocks.Block.{Block}
use Rattle.type_classes.specs.Blocks.{at}
use Rattle.type_classes.proofs.ClassLemmas.{range_pushed}
use Rattle.type_classes.proofs.BlockLemmas.{one_laid, one_unmarked, zero_pushed}
use Rattle.type_classes.proofs.blocks.Blocks.one.Goals as goal

pub loop-number-init : goal.loop-number-init
loop-number-init c = record {
  order = c.in_ok-order.ensures.items;
  place = c.in_ok-place.ensures.items;
  len = ap length c.in_ok-class.ensures.items;
  class = λ x. ap (λ (xs : List ℕ). at xs x) c.in_ok-class.ensures.items;
}

pub loop-number-preserved : goal.loop-number-preserved
loop-number-preserved c =
    let inv = c.loop-number.invariant in
    record {
      order = range_pushed c.loop-number.number c.loop-number.order.items c.push.new.self.items inv.order c.in_ok-push.ensures.items;
      place = range_pushed c.loop-number.number c.loop-number.place.items c.push-in-loop-number.new.self.items inv.place c.in_ok-push-2.ensures.items;
      len = ap length c.in_ok-push-3.ensures.items ∙ length_push c.loop-number.class.items 0 ∙ ap (λ (n : ℕ). n + 1) inv.len;
      class = zero_pushed c.loop-number.class.items c.push-in-loop-number-2.new.self.items inv.class c.in_ok-push-3.ensures.items;
    }

-- all numbers are in
all : (c : goal.After-new) → c.loop-number.number ≡ c.args.len
all c = omega arith

whole : (bs pushed : List Block) (n : ℕ) → bs ≡ [] → pushed ≡ bs ++ record { first = 0; middle = 0; end = n } ∷ [] → pushed ≡ record { first = 0; middle = 0; end = n } ∷ []
whole bs pushed n none push = push ∙ ap (λ (xs : List Block). xs ++ record { first = 0; middle = 0; end = n } ∷ []) none

pub returns-clause-len : goal.returns-clause-len
returns-clause-len c = ap length c.loop-number.invariant.order ∙ length-range_with_len 0 c.loop-number.number ∙ all c

pub returns-clause-blocks : goal.returns-clause-blocks
returns-clause-blocks c =
    let inv = c.loop-number.invariant in
    let e = all c in
    one_laid c.args.len c.loop-number.order.items c.loop-number.place.items c.loop-number.class.items c.push-2.new.self.items c.requires (inv.order ∙ ap (range_with_len 0) e) (inv.place ∙ ap (range_with_len 0) e) (inv.len ∙ e) inv.class
    (whole c.new-blocks.result.items c.push-2.new.self.items c.args.len c.new-blocks.ensures.items c.in_ok-push-4.ensures.items)

pub returns-clause-unmarked : goal.returns-clause-unmarked
returns-clause-unmarked c x inside =
    one_unmarked c.args.len c.loop-number.place.items c.loop-number.class.items c.push-2.new.self.items c.loop-number.invariant.class
    (whole c.new-blocks.result.items c.push-2.new.self.items c.args.len c.new-blocks.ensures.items c.in_ok-push-4.ensures.items) x
