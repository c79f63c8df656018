-- Blocks whose marked numbers are split off, on their lists.
use Rattle.std.proofs.Common.{Vec, Global, ◌≡◌, ◌<◌, ℕ, Bool, true, false, inl, inr, List, [], ◌∷◌, ◌++◌, length, get_or, set, refl, sym, ◌∙◌, ap, arith, subst}
use Rattle.std.specs.Prelude.{Contains}
use Rattle.std.proofs.lemmas.Bool.Decides.{nat_tests}
use Rattle.std.proofs.lemmas.List.{length-set, get_or-set_same, get_or-set_other}
use Rattle.std.proofs.lemmas.List.Elements.{Contains-push, Contains-push_cases, Contains-append_left}
use Rattle.type_classes.specs.declared.blocks.Block.{Block}
use Rattle.type_classes.specs.declared.blocks.Blocks.{Blocks}
use Rattle.type_classes.specs.Blocks.{at, no_block, block_at, first_at, middle_at, end_at, IsLaidOut, AreBlocks, ListsMarks, KeepsTogether, mark_at, is_marked, class_in, len_of, count_of, IsWhole, IsSplitAt}
use Rattle.type_classes.proofs.Layouts.{IsLayout-unmarked, IsLeft, together-left}
use Rattle.type_classes.proofs.BlockLemmas.{IsLayout-same, read_block, same_after_set}

-- ---- a class without marks

-- what is known where a class loses its marks
pub record IsUnmarking (old new : Blocks) (c : ℕ) (b : Block) : Type 0 where
  pub before : AreBlocks old
  pub inside : c < count_of old
  pub whole : IsWhole (block_at old.blocks.items c)
  pub read : b ≡ get_or old.blocks.items c b
  pub order : new.order ≡ old.order
  pub place : new.place ≡ old.place
  pub class : new.class ≡ old.class
  pub touched : new.touched ≡ old.touched
  pub blocks : new.blocks.items ≡ set old.blocks.items c (record { first = b.first; middle = b.first; end = b.end })

unmarking-field : {X : Type 0} (field : Block → X) (old new : Blocks) (c : ℕ) (b : Block) → IsUnmarking old new c b → field (record { first = b.first; middle = b.first; end = b.end }) ≡ field b → (d : ℕ) → field (block_at new.blocks.items d) ≡ field (block_at old.blocks.items d)
unmarking-field field old new c b u same d =
    ap (λ (bs : List Block). field (block_at bs d)) u.blocks
    ∙ same_after_set field old.blocks.items c (record { first = b.first; middle = b.first; end = b.end }) u.inside (same ∙ ap field (read_block old.blocks.items c b u.inside u.read)) d

unmarking-middle : (old new : Blocks) (c : ℕ) (b : Block) → IsUnmarking old new c b → middle_at new.blocks.items c ≡ first_at old.blocks.items c
unmarking-middle old new c b u =
    ap (λ (bs : List Block). middle_at bs c) u.blocks
    ∙ ap (λ (e : Block). e.middle) (get_or-set_same old.blocks.items c (record { first = b.first; middle = b.first; end = b.end }) no_block u.inside)
    ∙ ap (λ (e : Block). e.first) (read_block old.blocks.items c b u.inside u.read)

unmarking-middles : (old new : Blocks) (c : ℕ) (b : Block) → IsUnmarking old new c b → (d : ℕ) → (d ≡ c → ⊥) → middle_at new.blocks.items d ≡ middle_at old.blocks.items d
unmarking-middles old new c b u d ne =
    ap (λ (bs : List Block). middle_at bs d) u.blocks
    ∙ ap (λ (e : Block). e.middle) (get_or-set_other old.blocks.items c d (record { first = b.first; middle = b.first; end = b.end }) no_block ne)

pub unmarking-layout : (old new : Blocks) (c : ℕ) (b : Block) → IsUnmarking old new c b → AreBlocks new
unmarking-layout old new c b u =
    let orders : new.order.items ≡ old.order.items = ap (λ v. v.items) u.order in
    let places : new.place.items ≡ old.place.items = ap (λ v. v.items) u.place in
    let classes : new.class.items ≡ old.class.items = ap (λ v. v.items) u.class in
    let count : count_of new ≡ count_of old = ap length u.blocks ∙ length-set old.blocks.items c (record { first = b.first; middle = b.first; end = b.end }) in
    let P : List ℕ → List ℕ → List ℕ → Type 0 = λ xs ys zs. IsLaidOut xs ys zs new.blocks.items in
    let here : P old.order.items old.place.items old.class.items = record {
      places = u.before.places;
      classes = u.before.classes;
      layout = IsLayout-same (len_of old) (len_of old) (count_of old) (count_of new) (at old.order.items) (at old.place.items) (at old.class.items) (first_at old.blocks.items) (middle_at new.blocks.items) (end_at old.blocks.items) (first_at new.blocks.items) (end_at new.blocks.items) refl count
          (unmarking-field (λ (e : Block). e.first) old new c b u refl) (unmarking-field (λ (e : Block). e.end) old new c b u refl)
          (IsLayout-unmarked (len_of old) (count_of old) (at old.order.items) (at old.place.items) (at old.class.items) (first_at old.blocks.items) (middle_at old.blocks.items) (end_at old.blocks.items) (middle_at new.blocks.items) c
          u.before.layout (unmarking-middle old new c b u) (unmarking-middles old new c b u));
    } in
    subst (λ (xs : List ℕ). P xs new.place.items new.class.items) (sym orders) (subst (λ (ys : List ℕ). P old.order.items ys new.class.items) (sym places) (subst (λ (zs : List ℕ). P old.order.items old.place.items zs) (sym classes) here))

-- the class and the mark of a number then, where all marks of the class are s
unmarking-left : (old new : Blocks) (c : ℕ) (b : Block) (s : Bool) → IsUnmarking old new c b → ((x : ℕ) → x < len_of old → class_in old x ≡ c → is_marked old x ≡ s) → (x : ℕ) → x < len_of old
    → IsLeft c s (class_in old x) (is_marked old x) (class_in new x) (is_marked new x)
unfolding mark_at
unmarking-left old new c b s u all x inside =
    let places : new.place.items ≡ old.place.items = ap (λ v. v.items) u.place in
    let classes : new.class.items ≡ old.class.items = ap (λ v. v.items) u.class in
    let same : class_in new x ≡ class_in old x = ap (λ (xs : List ℕ). at xs x) classes in
    let place : at new.place.items x ≡ at old.place.items x = ap (λ (xs : List ℕ). at xs x) places in
    record {
      same = same;
      all = all x inside;
      unmarked = λ e.
          let mid : middle_at new.blocks.items (class_in new x) ≡ first_at old.blocks.items (class_in old x) = ap (middle_at new.blocks.items) (same ∙ e) ∙ unmarking-middle old new c b u ∙ ap (first_at old.blocks.items) (sym e) in
          let low = u.before.layout.after_first x inside in
          grind (arith, nat_tests);
      others = λ ne.
          let mid : middle_at new.blocks.items (class_in new x) ≡ middle_at old.blocks.items (class_in old x) = ap (middle_at new.blocks.items) same ∙ unmarking-middles old new c b u (class_in old x) ne in
          grind (arith, nat_tests);
    }

whole_marks : (old : Blocks) (c : ℕ) → AreBlocks old → c < count_of old → IsWhole (block_at old.blocks.items c) → (s : Bool) × ((x : ℕ) → x < len_of old → class_in old x ≡ c → is_marked old x ≡ s)
unfolding mark_at
whole_marks old c is inside whole = elim whole [
  | inl e ↦ (
    false,
    λ x x_in of_c.
        let low = is.layout.after_first x x_in in
        let u : first_at old.blocks.items (class_in old x) ≡ first_at old.blocks.items c = ap (first_at old.blocks.items) of_c in
        let v : middle_at old.blocks.items (class_in old x) ≡ middle_at old.blocks.items c = ap (middle_at old.blocks.items) of_c in
        grind (arith, nat_tests),
  )
  | inr e ↦ (
    true,
    λ x x_in of_c.
        let high = is.layout.before_end x x_in in
        let u : end_at old.blocks.items (class_in old x) ≡ end_at old.blocks.items c = ap (end_at old.blocks.items) of_c in
        let v : middle_at old.blocks.items (class_in old x) ≡ middle_at old.blocks.items c = ap (middle_at old.blocks.items) of_c in
        grind (arith, nat_tests),
  )
]

pub unmarking-split : (old new : Blocks) (c : ℕ) (b : Block) → IsUnmarking old new c b → IsSplitAt old new c
unmarking-split old new c b u =
    let count : count_of new ≡ count_of old = ap length u.blocks ∙ length-set old.blocks.items c (record { first = b.first; middle = b.first; end = b.end }) in
    let (s, all) = whole_marks old c u.before u.inside u.whole in
    record {
      blocks = unmarking-layout old new c b u;
      keeps = record {
        len = ap (λ v. length v.items) u.order;
        count = omega arith;
        together = λ x y x_in y_in. together-left c s (class_in old x) (class_in old y) (is_marked old x) (is_marked old y) (class_in new x) (class_in new y) (is_marked new x) (is_marked new y)
            (unmarking-left old new c b s u all x x_in) (unmarking-left old new c b s u all y y_in);
        origin = λ d. d;
        origins = λ x x_in. ap (λ v. at v.items x) u.class;
        own_origins = λ d d_in. refl;
      };
      touched = u.touched;
      marks = λ d d_in some.
          let first = unmarking-field (λ (e : Block). e.first) old new c b u refl d in
          let ne : d ≡ c → ⊥ = λ e. let m : middle_at new.blocks.items d ≡ first_at old.blocks.items d = ap (middle_at new.blocks.items) e ∙ unmarking-middle old new c b u ∙ ap (first_at old.blocks.items) (sym e) in omega arith in
          let m = unmarking-middles old new c b u d ne in
          (omega arith, omega arith, ne);
    }

-- ---- all classes, one after the other

pub KeepsTogether-same : (b : Blocks) → KeepsTogether b b
KeepsTogether-same b = record {
  len = refl;
  count = omega arith;
  together = λ x y x_in y_in. (λ e. e, λ e. e);
  origin = λ c. c;
  origins = λ x x_in. refl;
  own_origins = λ c c_in. refl;
}

pub KeepsTogether-then : (a b c : Blocks) → KeepsTogether a b → KeepsTogether b c → KeepsTogether a c
KeepsTogether-then a b c one two =
    let len = one.len in
    record {
      len = two.len ∙ one.len;
      count = let u = one.count in let v = two.count in omega arith;
      together = λ x y x_in y_in.
          let (to_a, from_a) = one.together x y x_in y_in in
          let (to_b, from_b) = two.together x y (omega arith) (omega arith) in
          (λ e. to_a (to_b e), λ e. from_b (from_a e));
      origin = λ d. one.origin (two.origin d);
      origins = λ x x_in. ap one.origin (two.origins x (omega arith)) ∙ one.origins x x_in;
      own_origins = λ d d_in. ap one.origin (two.own_origins d (let u = one.count in omega arith)) ∙ one.own_origins d d_in;
    }

-- what is kept while classes are split
pub record IsSplitting (start b : Blocks) : Type 0 where
  pub blocks : AreBlocks b
  pub listed : ListsMarks b
  pub keeps : KeepsTogether start b

pub popped_inside : (b : Blocks) (rest : List ℕ) (c : ℕ) → ListsMarks b → b.touched.items ≡ rest ++ c ∷ [] → c < count_of b
popped_inside b rest c lists popped = lists.inside c (subst (λ (ds : List ℕ). Contains ds c) (sym popped) (Contains-push rest c))

KeepsTogether-touched : (b : Blocks) (ts : Vec ℕ Global) → KeepsTogether b (record b { touched = ts })
KeepsTogether-touched b ts = record {
  len = refl;
  count = omega arith;
  together = λ x y x_in y_in. (λ e. e, λ e. e);
  origin = λ c. c;
  origins = λ x x_in. refl;
  own_origins = λ c c_in. refl;
}

-- one class more, which was the last in the list
pub IsSplitting-more : (start before after : Blocks) (ts : Vec ℕ Global) (c : ℕ) → IsSplitting start before → before.touched.items ≡ ts.items ++ c ∷ []
    → IsSplitAt (record before { touched = ts }) after c → IsSplitting start after
IsSplitting-more start before after ts c going last split =
    let there : after.touched.items ≡ ts.items = ap (λ v. v.items) split.touched in
    let more = split.keeps.count in
    record {
      blocks = split.blocks;
      keeps = KeepsTogether-then start before after going.keeps (KeepsTogether-then before (record before { touched = ts }) after (KeepsTogether-touched before ts) split.keeps);
      listed = record {
        listed = λ d d_in some.
            let (below, marks, ne) = split.marks d d_in some in
            let old_one : Contains before.touched.items d = going.listed.listed d below marks in
            subst (λ (ds : List ℕ). Contains ds d) (sym there) (elim (Contains-push_cases ts.items c d (subst (λ (ds : List ℕ). Contains ds d) last old_one)) [ inl h ↦ h | inr e ↦ absurd (ne (sym e)) ]);
        inside = λ d h.
            let h' : Contains ts.items d = subst (λ (ds : List ℕ). Contains ds d) there h in
            let u = going.listed.inside d (subst (λ (ds : List ℕ). Contains ds d) (sym last) (Contains-append_left ts.items (c ∷ []) d h')) in
            omega arith;
      };
    }
