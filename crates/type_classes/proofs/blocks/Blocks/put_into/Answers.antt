-- One more number is put.
use Rattle.std.proofs.Common.{◌≡◌, ◌<◌, ◌≤◌, ℕ, List, length, get_or, set, ap, refl, ◌∙◌, arith}
use Rattle.std.proofs.lemmas.List.{length-set}
use Rattle.type_classes.specs.Blocks.{at}
use Rattle.type_classes.proofs.BlockLemmas.{read_number, put_more, put_none, put_all}
use Rattle.type_classes.proofs.blocks.Blocks.put_into.Goals as goal

-- the number that is read
number : (xs ys : List ℕ) (t r : ℕ) → xs ≡ ys → t < length ys → r ≡ get_or xs t r → r ≡ at ys t
number xs ys t r same inside read = read_number ys t r inside (read ∙ ap (λ (zs : List ℕ). get_or zs t r) same)

pub index_mut-requires : goal.index_mut-requires
index_mut-requires c =
    let n = number c.loop-place.self.order.items c.args.self.now.order.items c.loop-place.place c.index-number.result.now (ap (λ v. v.items) c.loop-place.invariant.order) (omega arith) c.index-number.ensures in
    let u = c.requires.blocks c.loop-place.place (omega arith) in
    omega (arith, c.loop-place.self.class.ok)

pub loop-place-init : goal.loop-place-init
loop-place-init c = record {
  order = refl;
  place = refl;
  blocks = refl;
  touched = refl;
  len = refl;
  classes = λ x h. put_none c.args.block.first (at c.args.self.now.place.items x) c.args.class (at c.args.self.now.class.items x);
}

pub loop-place-preserved : goal.loop-place-preserved
loop-place-preserved c =
    let inv = c.loop-place.invariant in
    let inside : c.loop-place.place < length c.args.self.now.order.items = omega arith in
    let n = number c.loop-place.self.order.items c.args.self.now.order.items c.loop-place.place c.index-number.result.now (ap (λ v. v.items) c.loop-place.invariant.order) inside c.index-number.ensures in
    let u = c.requires.blocks c.loop-place.place inside in
    record {
      order = inv.order;
      place = inv.place;
      blocks = inv.blocks;
      touched = inv.touched;
      len = length-set c.loop-place.self.class.items c.index-number.result.now c.args.class ∙ inv.len;
      classes = put_more c.args.self.now.order.items c.args.self.now.place.items c.args.self.now.class.items c.loop-place.self.class.items (set c.loop-place.self.class.items c.index-number.result.now c.args.class) c.args.block.first c.loop-place.place c.args.class
          inside (let a = c.loop-place.auto.place in omega arith) c.requires.placed c.requires.ordered (omega arith) (ap (λ (q : ℕ). set c.loop-place.self.class.items q c.args.class) n) inv.classes;
    }

pub returns-clause-classes : goal.returns-clause-classes
returns-clause-classes c x h =
    let inv = c.loop-place.invariant in
    let le : c.loop-place.place ≤ c.args.block.end = let a = c.loop-place.auto.place-end in let r = c.requires.rising in omega arith in
    let ge : c.args.block.end ≤ c.loop-place.place = omega arith in
    put_all c.args.block.first c.args.block.end c.loop-place.place (at c.args.self.now.place.items x) c.args.class (at c.args.self.now.class.items x) (at c.loop-place.self.class.items x) ge le (inv.classes x h)
