-- A class of blocks that is cut in two, on its lists.
use Rattle.std.proofs.Common.{◌≡◌, ◌+◌, ◌<◌, ◌≤◌, ℕ, eqb, ltb, leb, Bool, true, false, not, ◌&&◌, ◌⊎◌, inl, inr, List, [], ◌∷◌, ◌++◌, length, get_or, set, refl, sym, ◌∙◌, ap, arith, subst}
use Rattle.std.specs.Prelude.{if◌then◌else◌}
use Rattle.std.proofs.lemmas.Bool.{cases_eq, cases_lt, eq-eqb, ne_eqb}
use Rattle.std.proofs.lemmas.Bool.Decides.{nat_tests}
use Rattle.std.proofs.lemmas.List.{length-set, get_or-set_same, get_or-set_other, get_or_push, get_or_append_left, length_push}
use Rattle.type_classes.specs.declared.blocks.Block.{Block}
use Rattle.type_classes.specs.declared.blocks.Blocks.{Blocks}
use Rattle.type_classes.specs.Blocks.{at, no_block, block_at, first_at, middle_at, end_at, IsLaidOut, AreBlocks, mark_at, is_marked, class_in, len_of, count_of, IsSplitOf, IsWhole, IsSplitAt}
use Rattle.type_classes.proofs.Layouts.{IsParted, IsLayout-split, IsPut, together-put}
use Rattle.type_classes.proofs.BlockLemmas.{IsLayout-same, read_block}

-- what is known where a class is cut
pub record IsCutting (old new : Blocks) (c : ℕ) (kept parted : Block) : Type 0 where
  pub before : AreBlocks old
  pub inside : c < count_of old
  pub not_whole : IsWhole (block_at old.blocks.items c) → ⊥
  pub halves : IsSplitOf (block_at old.blocks.items c) kept parted
  pub order : new.order ≡ old.order
  pub place : new.place ≡ old.place
  pub touched : new.touched ≡ old.touched
  pub blocks : new.blocks.items ≡ set (old.blocks.items ++ parted ∷ []) c kept
  pub len : length new.class.items ≡ length old.class.items
  pub classes : (x : ℕ) → x < len_of old → class_in new x ≡ (if leb parted.first (at old.place.items x) && ltb (at old.place.items x) parted.end then count_of old else class_in old x)

-- the calls by which a class is cut
pub cutting_by : (old new : Blocks) (c number : ℕ) (b kept parted : Block) (pushed : List Block) → AreBlocks old → c < count_of old → (IsWhole (block_at old.blocks.items c) → ⊥) → number ≡ count_of old → b ≡ get_or old.blocks.items c b
    → IsSplitOf b kept parted → new.order ≡ old.order → new.place ≡ old.place → new.touched ≡ old.touched → pushed ≡ old.blocks.items ++ parted ∷ [] → new.blocks.items ≡ set pushed c kept → length new.class.items ≡ length old.class.items
    → ((x : ℕ) → x < len_of old → class_in new x ≡ (if leb parted.first (at old.place.items x) && ltb (at old.place.items x) parted.end then number else class_in old x)) → IsCutting old new c kept parted
cutting_by old new c number b kept parted pushed before inside not_whole is_number read halves order place touched push blocks len classes = record {
  before = before;
  inside = inside;
  not_whole = not_whole;
  halves = subst (λ (k : Block). IsSplitOf k kept parted) (read_block old.blocks.items c b inside read) halves;
  order = order;
  place = place;
  touched = touched;
  blocks = blocks ∙ ap (λ (bs : List Block). set bs c kept) push;
  len = len;
  classes = λ x x_in. classes x x_in ∙ ap (λ (q : ℕ). if leb parted.first (at old.place.items x) && ltb (at old.place.items x) parted.end then q else class_in old x) is_number;
}

cutting-new : (old new : Blocks) (c : ℕ) (kept parted : Block) → IsCutting old new c kept parted → block_at new.blocks.items (count_of old) ≡ parted
cutting-new old new c kept parted u =
    let ne : count_of old ≡ c → ⊥ = λ e. let i = u.inside in omega arith in
    ap (λ (bs : List Block). block_at bs (count_of old)) u.blocks
    ∙ get_or-set_other (old.blocks.items ++ parted ∷ []) c (count_of old) kept no_block ne
    ∙ get_or_push old.blocks.items parted no_block (count_of old) refl

cutting-kept : (old new : Blocks) (c : ℕ) (kept parted : Block) → IsCutting old new c kept parted → block_at new.blocks.items c ≡ kept
cutting-kept old new c kept parted u =
    let len = length_push old.blocks.items parted in
    let i = u.inside in
    ap (λ (bs : List Block). block_at bs c) u.blocks ∙ get_or-set_same (old.blocks.items ++ parted ∷ []) c kept no_block (omega arith)

cutting-others : (old new : Blocks) (c : ℕ) (kept parted : Block) → IsCutting old new c kept parted → (d : ℕ) → d < count_of old → (d ≡ c → ⊥) → block_at new.blocks.items d ≡ block_at old.blocks.items d
cutting-others old new c kept parted u d d_in ne =
    ap (λ (bs : List Block). block_at bs d) u.blocks
    ∙ get_or-set_other (old.blocks.items ++ parted ∷ []) c d kept no_block ne
    ∙ get_or_append_left old.blocks.items (parted ∷ []) no_block d d_in

cutting-count : (old new : Blocks) (c : ℕ) (kept parted : Block) → IsCutting old new c kept parted → count_of new ≡ count_of old + 1
cutting-count old new c kept parted u =
    let len = length_push old.blocks.items parted in
    ap length u.blocks ∙ length-set (old.blocks.items ++ parted ∷ []) c kept ∙ omega arith

in_part : (a p b v w u : ℕ) → u ≡ (if leb a p && ltb p b then v else w) → a ≤ p → p < b → u ≡ v
in_part a p b v w u is low high = let test : (leb a p && ltb p b) ≡ true = grind (arith, nat_tests) in is ∙ ap (λ (t : Bool). if t then v else w) test

not_in_part : (a p b v w u : ℕ) → u ≡ (if leb a p && ltb p b then v else w) → (p < a ⊎ (b ≤ p)) → u ≡ w
not_in_part a p b v w u is out = let test : (leb a p && ltb p b) ≡ false = elim out [ inl lt ↦ grind (arith, nat_tests) | inr ge ↦ grind (arith, nat_tests) ] in is ∙ ap (λ (t : Bool). if t then v else w) test

-- the cut, in numbers
cutting-parted : (old new : Blocks) (c : ℕ) (kept parted : Block) → IsCutting old new c kept parted
    → IsParted (len_of old) (count_of old) c (at old.place.items) (at old.class.items) (first_at old.blocks.items) (middle_at old.blocks.items) (end_at old.blocks.items) (at new.class.items) (first_at new.blocks.items) (middle_at new.blocks.items) (end_at new.blocks.items) parted.first parted.end kept.first kept.end
cutting-parted old new c kept parted u =
    let low = u.before.layout.middle_low c u.inside in
    let high = u.before.layout.middle_high c u.inside in
    let more : first_at old.blocks.items c < middle_at old.blocks.items c = elim (cases_lt (first_at old.blocks.items c) (middle_at old.blocks.items c)) [ inl lt ↦ lt | inr ge ↦ absurd (u.not_whole (inl (omega arith))) ] in
    let less : middle_at old.blocks.items c < end_at old.blocks.items c = elim (cases_lt (middle_at old.blocks.items c) (end_at old.blocks.items c)) [ inl lt ↦ lt | inr ge ↦ absurd (u.not_whole (inr (omega arith))) ] in
    let news = cutting-new old new c kept parted u in
    let olds = cutting-kept old new c kept parted u in
    let put = λ (z : ℕ) (z_in : z < len_of old) (a : parted.first ≤ at old.place.items z) (b : at old.place.items z < parted.end). in_part parted.first (at old.place.items z) parted.end (count_of old) (class_in old z) (class_in new z) (u.classes z z_in) a b in
    let left = λ (z : ℕ) (z_in : z < len_of old) (out : at old.place.items z < parted.first ⊎ (parted.end ≤ at old.place.items z)). not_in_part parted.first (at old.place.items z) parted.end (count_of old) (class_in old z) (class_in new z) (u.classes z z_in) out in
    let firsts = λ (d : ℕ) (d_in : d < count_of old) (ne : d ≡ c → ⊥). ap (λ (e : Block). e.first) (cutting-others old new c kept parted u d d_in ne) in
    let middles = λ (d : ℕ) (d_in : d < count_of old) (ne : d ≡ c → ⊥). ap (λ (e : Block). e.middle) (cutting-others old new c kept parted u d d_in ne) in
    let ends = λ (d : ℕ) (d_in : d < count_of old) (ne : d ≡ c → ⊥). ap (λ (e : Block). e.end) (cutting-others old new c kept parted u d d_in ne) in
    elim u.halves [
      | inl (one, other) ↦
          let a = one.first_is in let b = one.end_is in let d = other.first_is in let e = other.end_is in
          record {
            some = omega arith;
            kept_some = omega arith;
            low = omega arith;
            high = omega arith;
            kept_low = omega arith;
            kept_high = omega arith;
            cover = λ i i_low i_high out. elim out [ inl lt ↦ (omega arith, omega arith) | inr ge ↦ absurd (omega arith) ];
            apart = λ i i_low i_high. inl (omega arith);
            put = put;
            left = left;
            new_first = ap (λ (b : Block). b.first) news;
            new_middle = ap (λ (b : Block). b.middle) news ∙ other.middle_is ∙ sym d;
            new_end = ap (λ (b : Block). b.end) news;
            kept_is = ap (λ (b : Block). b.first) olds;
            kept_middle = ap (λ (b : Block). b.middle) olds ∙ one.middle_is ∙ sym a;
            kept_end = ap (λ (b : Block). b.end) olds;
            firsts = firsts;
            middles = middles;
            ends = ends;
          }
      | inr (one, other) ↦
          let a = one.first_is in let b = one.end_is in let d = other.first_is in let e = other.end_is in
          record {
            some = omega arith;
            kept_some = omega arith;
            low = omega arith;
            high = omega arith;
            kept_low = omega arith;
            kept_high = omega arith;
            cover = λ i i_low i_high out. elim out [ inl lt ↦ absurd (omega arith) | inr ge ↦ (omega arith, omega arith) ];
            apart = λ i i_low i_high. inr (omega arith);
            put = put;
            left = left;
            new_first = ap (λ (b : Block). b.first) news;
            new_middle = ap (λ (b : Block). b.middle) news ∙ other.middle_is ∙ sym d;
            new_end = ap (λ (b : Block). b.end) news;
            kept_is = ap (λ (b : Block). b.first) olds;
            kept_middle = ap (λ (b : Block). b.middle) olds ∙ one.middle_is ∙ sym a;
            kept_end = ap (λ (b : Block). b.end) olds;
            firsts = firsts;
            middles = middles;
            ends = ends;
          }
    ]

pub cutting-layout : (old new : Blocks) (c : ℕ) (kept parted : Block) → IsCutting old new c kept parted → AreBlocks new
cutting-layout old new c kept parted u =
    let orders : new.order.items ≡ old.order.items = ap (λ v. v.items) u.order in
    let places : new.place.items ≡ old.place.items = ap (λ v. v.items) u.place in
    let P : List ℕ → List ℕ → Type 0 = λ xs ys. IsLaidOut xs ys new.class.items new.blocks.items in
    let here : P old.order.items old.place.items = record {
      places = u.before.places;
      classes = u.len ∙ u.before.classes;
      layout = IsLayout-same (len_of old) (len_of old) (count_of old + 1) (count_of new) (at old.order.items) (at old.place.items) (at new.class.items) (first_at new.blocks.items) (middle_at new.blocks.items) (end_at new.blocks.items) (first_at new.blocks.items) (end_at new.blocks.items) refl (cutting-count old new c kept parted u) (λ d. refl) (λ d. refl)
          (IsLayout-split (len_of old) (count_of old) c (at old.order.items) (at old.place.items) (at old.class.items) (first_at old.blocks.items) (middle_at old.blocks.items) (end_at old.blocks.items) (at new.class.items) (first_at new.blocks.items) (middle_at new.blocks.items) (end_at new.blocks.items) parted.first parted.end kept.first kept.end
          u.before.layout u.inside (cutting-parted old new c kept parted u));
    } in
    subst (λ (xs : List ℕ). P xs new.place.items) (sym orders) (subst (λ (ys : List ℕ). P old.order.items ys) (sym places) here)

-- the class and the mark of a number before and after, where the marks of the part that is put are s
cutting-put : (old new : Blocks) (c : ℕ) (kept parted : Block) (s : Bool) → IsCutting old new c kept parted
    → ((x : ℕ) → x < len_of old → class_in old x ≡ c → is_marked old x ≡ s → (parted.first ≤ at old.place.items x) × (at old.place.items x < parted.end))
    → ((x : ℕ) → x < len_of old → class_in old x ≡ c → is_marked old x ≡ not s → at old.place.items x < parted.first ⊎ (parted.end ≤ at old.place.items x))
    → (x : ℕ) → x < len_of old → IsPut c (count_of old) s (class_in old x) (is_marked old x) (class_in new x) (is_marked new x)
unfolding mark_at
cutting-put old new c kept parted s u inside_part outside_part x x_in =
    let cut = cutting-parted old new c kept parted u in
    let places : new.place.items ≡ old.place.items = ap (λ v. v.items) u.place in
    let place : at new.place.items x ≡ at old.place.items x = ap (λ (xs : List ℕ). at xs x) places in
    let low = u.before.layout.after_first x x_in in
    let high = u.before.layout.before_end x x_in in
    record {
      below = u.before.layout.class_inside x x_in;
      parted = λ e marks. let (a, b) = inside_part x x_in e marks in cut.put x x_in a b;
      kept = λ e marks. cut.left x x_in (outside_part x x_in e marks) ∙ e;
      unmarked = λ e. elim (cases_lt (at old.place.items x) parted.first) [
        | inl before ↦
            let k = cut.left x x_in (inl before) ∙ e in
            let m : middle_at new.blocks.items (class_in new x) ≡ kept.first = ap (middle_at new.blocks.items) k ∙ cut.kept_middle in
            let in_c : first_at old.blocks.items c ≤ at old.place.items x = let v = ap (first_at old.blocks.items) e in omega arith in
            let in_c' : at old.place.items x < end_at old.blocks.items c = let v = ap (end_at old.blocks.items) e in omega arith in
            let r = cut.cover (at old.place.items x) in_c in_c' (inl before) in
            let r0 = r.0 in
            grind (arith, nat_tests)
        | inr from ↦ elim (cases_lt (at old.place.items x) parted.end) [
          | inl lt ↦
              let k = cut.put x x_in from lt in
              let m : middle_at new.blocks.items (class_in new x) ≡ parted.first = ap (middle_at new.blocks.items) k ∙ cut.new_middle in
              grind (arith, nat_tests)
          | inr past ↦
              let k = cut.left x x_in (inr past) ∙ e in
              let m : middle_at new.blocks.items (class_in new x) ≡ kept.first = ap (middle_at new.blocks.items) k ∙ cut.kept_middle in
              let in_c : first_at old.blocks.items c ≤ at old.place.items x = let v = ap (first_at old.blocks.items) e in omega arith in
              let in_c' : at old.place.items x < end_at old.blocks.items c = let v = ap (end_at old.blocks.items) e in omega arith in
              let r = cut.cover (at old.place.items x) in_c in_c' (inr past) in
              let r0 = r.0 in
              grind (arith, nat_tests)
        ]
      ];
      others = λ ne.
          let out : at old.place.items x < parted.first ⊎ (parted.end ≤ at old.place.items x) = elim (cases_lt (at old.place.items x) parted.first) [
            | inl before ↦ inl before
            | inr from ↦ elim (cases_lt (at old.place.items x) parted.end) [
              | inl lt ↦
                  let own = u.before.layout.own c (at old.place.items x) u.inside (let v = cut.low in omega arith) (let v = cut.high in omega arith) in
                  absurd (ne (sym (ap (at old.class.items) (u.before.layout.ordered x x_in)) ∙ own))
              | inr past ↦ inr past
            ]
          ] in
          let k = cut.left x x_in out in
          let m : middle_at new.blocks.items (class_in new x) ≡ middle_at old.blocks.items (class_in old x) = ap (middle_at new.blocks.items) k ∙ cut.middles (class_in old x) (u.before.layout.class_inside x x_in) ne in
          (k, grind (arith, nat_tests));
    }

-- which marks the part that is put has
cutting-side : (old new : Blocks) (c : ℕ) (kept parted : Block) → IsCutting old new c kept parted
    → (s : Bool)
    × ((x : ℕ) → x < len_of old → class_in old x ≡ c → is_marked old x ≡ s → (parted.first ≤ at old.place.items x) × (at old.place.items x < parted.end))
    × ((x : ℕ) → x < len_of old → class_in old x ≡ c → is_marked old x ≡ not s → at old.place.items x < parted.first ⊎ (parted.end ≤ at old.place.items x))
unfolding mark_at
cutting-side old new c kept parted u =
    let low = λ (x : ℕ) (x_in : x < len_of old) (e : class_in old x ≡ c). ap (first_at old.blocks.items) (sym e) in
    elim u.halves [
      | inl (one, other) ↦ (
        false,
        (λ x x_in e marks.
            let a = other.first_is in let b = other.end_is in
            let m : middle_at old.blocks.items (class_in old x) ≡ middle_at old.blocks.items c = ap (middle_at old.blocks.items) e in
            let h : at old.place.items x < end_at old.blocks.items c = let v = u.before.layout.before_end x x_in in let w = ap (end_at old.blocks.items) e in omega arith in
            let ge : middle_at old.blocks.items (class_in old x) ≤ at old.place.items x = grind (arith, nat_tests) in
            (omega arith, omega arith)),
        (λ x x_in e marks.
            let a = other.first_is in
            let m : middle_at old.blocks.items (class_in old x) ≡ middle_at old.blocks.items c = ap (middle_at old.blocks.items) e in
            let lt : at old.place.items x < middle_at old.blocks.items (class_in old x) = grind (arith, nat_tests) in
            inl (omega arith)),
      )
      | inr (one, other) ↦ (
        true,
        (λ x x_in e marks.
            let a = other.first_is in let b = other.end_is in
            let m : middle_at old.blocks.items (class_in old x) ≡ middle_at old.blocks.items c = ap (middle_at old.blocks.items) e in
            let h : first_at old.blocks.items c ≤ at old.place.items x = let v = u.before.layout.after_first x x_in in let w = ap (first_at old.blocks.items) e in omega arith in
            let lt : at old.place.items x < middle_at old.blocks.items (class_in old x) = grind (arith, nat_tests) in
            (omega arith, omega arith)),
        (λ x x_in e marks.
            let b = other.end_is in
            let m : middle_at old.blocks.items (class_in old x) ≡ middle_at old.blocks.items c = ap (middle_at old.blocks.items) e in
            let ge : middle_at old.blocks.items (class_in old x) ≤ at old.place.items x = grind (arith, nat_tests) in
            inr (omega arith)),
      )
    ]

-- the new class comes from the one that is cut, and each other one from itself
origin_of : ℕ → ℕ → ℕ → ℕ
origin_of c number d = if eqb d number then c else d

origin_of-new : (c number : ℕ) → origin_of c number number ≡ c
unfolding origin_of
origin_of-new c number = let e = eq-eqb number number refl in ap (λ (t : Bool). if t then c else number) e

origin_of-old : (c number d : ℕ) → d < number → origin_of c number d ≡ d
unfolding origin_of
origin_of-old c number d lt = let e = ne_eqb d number (λ same. absurd (omega arith)) in ap (λ (t : Bool). if t then c else d) e

cutting-origins : (old new : Blocks) (c : ℕ) (kept parted : Block) → IsCutting old new c kept parted → (x : ℕ) → x < len_of old → origin_of c (count_of old) (class_in new x) ≡ class_in old x
cutting-origins old new c kept parted u x x_in =
    let cut = cutting-parted old new c kept parted u in
    let here = u.before.layout.class_inside x x_in in
    let left = λ (out : at old.place.items x < parted.first ⊎ (parted.end ≤ at old.place.items x)). ap (origin_of c (count_of old)) (cut.left x x_in out) ∙ origin_of-old c (count_of old) (class_in old x) here in
    elim (cases_lt (at old.place.items x) parted.first) [
      | inl before ↦ left (inl before)
      | inr from ↦ elim (cases_lt (at old.place.items x) parted.end) [
        | inl lt ↦
            let own = u.before.layout.own c (at old.place.items x) u.inside (let v = cut.low in omega arith) (let v = cut.high in omega arith) in
            let of_c : class_in old x ≡ c = sym (ap (at old.class.items) (u.before.layout.ordered x x_in)) ∙ own in
            ap (origin_of c (count_of old)) (cut.put x x_in from lt) ∙ origin_of-new c (count_of old) ∙ sym of_c
        | inr past ↦ left (inr past)
      ]
    ]

pub cutting-split : (old new : Blocks) (c : ℕ) (kept parted : Block) → IsCutting old new c kept parted → IsSplitAt old new c
cutting-split old new c kept parted u =
    let count = cutting-count old new c kept parted u in
    let cut = cutting-parted old new c kept parted u in
    let (s, inside_part, outside_part) = cutting-side old new c kept parted u in
    record {
      blocks = cutting-layout old new c kept parted u;
      keeps = record {
        len = ap (λ v. length v.items) u.order;
        count = omega arith;
        together = λ x y x_in y_in. together-put c (count_of old) s (class_in old x) (class_in old y) (is_marked old x) (is_marked old y) (class_in new x) (class_in new y) (is_marked new x) (is_marked new y) u.inside
            (cutting-put old new c kept parted s u inside_part outside_part x x_in) (cutting-put old new c kept parted s u inside_part outside_part y y_in);
        origin = origin_of c (count_of old);
        origins = cutting-origins old new c kept parted u;
        own_origins = origin_of-old c (count_of old);
      };
      touched = u.touched;
      marks = λ d d_in some. elim (cases_lt d (count_of old)) [
        | inl lt ↦ elim (cases_eq d c) [
          | inl e ↦ let f = ap (first_at new.blocks.items) e ∙ cut.kept_is in let m = ap (middle_at new.blocks.items) e ∙ cut.kept_middle in absurd (omega arith)
          | inr ne ↦ let f = cut.firsts d lt ne in let m = cut.middles d lt ne in (lt, omega arith, ne)
        ]
        | inr ge ↦
            let e : d ≡ count_of old = omega arith in
            let f = ap (first_at new.blocks.items) e ∙ cut.new_first in let m = ap (middle_at new.blocks.items) e ∙ cut.new_middle in absurd (omega arith)
      ];
    }
