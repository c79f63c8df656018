-- Blocks after single steps, on their lists.
use Rattle.std.proofs.Common.{take, drop, ◌-◌, ◌≡◌, ◌+◌, ◌<◌, ◌≤◌, ℕ, eqb, ltb, leb, Bool, true, false, ◌||◌, ◌&&◌, ◌⊎◌, inl, inr, List, [], ◌∷◌, ◌++◌, length, get_or, set, refl, sym, ◌∙◌, ap, arith, subst}
use Rattle.std.specs.Prelude.{◌↔◌, Contains, if◌then◌else◌}
use Rattle.std.proofs.lemmas.Bool.{cases_eq, cases_lt}
use Rattle.std.proofs.lemmas.Bool.Decides.{nat_tests}
use Rattle.std.proofs.lemmas.List.{length-set, get_or-set_same, get_or-set_other, get_or_read, get_or_push, get_or_past, get_or_append_left, length_push, length-drop, length-take-le, get_or-take, get_or-drop, get_or_default}
use Rattle.std.proofs.lemmas.List.FromFn.{length-range_with_len, get_or-range_with_len}
use Rattle.std.specs.List.{range_with_len}
use Rattle.type_classes.specs.declared.blocks.Block.{Block}
use Rattle.type_classes.specs.declared.blocks.Blocks.{Blocks}
use Rattle.type_classes.specs.Blocks.{at, no_block, block_at, first_at, middle_at, end_at, IsLayout, IsLaidOut, AreBlocks, ListsMarks, HasNoMarks, mark_at, is_marked, class_in, len_of, count_of, advanced, IsAdvanced, IsSwapped}
use Rattle.type_classes.proofs.Layouts.{AreMoved, IsLayout-marked, marks-marked}

-- ---- reading and writing

pub read_number : (xs : List ℕ) (i r : ℕ) → i < length xs → r ≡ get_or xs i r → r ≡ at xs i
read_number xs i r inside is = get_or_read xs i r inside is 0

pub read_block : (blocks : List Block) (c : ℕ) (b : Block) → c < length blocks → b ≡ get_or blocks c b → b ≡ block_at blocks c
read_block blocks c b inside is = get_or_read blocks c b inside is no_block

-- two numbers change places
moved : (order place order' place' : List ℕ) (i j x y : ℕ) → length place ≡ length order → i < length order → j < length order → x < length order → y < length order → x ≡ at order i → y ≡ at order j
    → at place x ≡ i → at place y ≡ j → order' ≡ set (set order i y) j x → place' ≡ set (set place y i) x j → AreMoved i j x y (at order) (at place) (at order') (at place')
moved order place order' place' i j x y lens i_in j_in x_in y_in is_x is_y p_x p_y orders places =
    let o_len : length (set order i y) ≡ length order = length-set order i y in
    let p_len : length (set place y i) ≡ length place = length-set place y i in
    record {
      at_j = ap (λ (xs : List ℕ). at xs j) orders ∙ get_or-set_same (set order i y) j x 0 (omega arith);
      at_i = elim (cases_eq i j) [
        | inl e ↦ ap (λ (xs : List ℕ). at xs i) orders ∙ ap (λ (q : ℕ). at (set (set order i y) j x) q) e ∙ get_or-set_same (set order i y) j x 0 (omega arith) ∙ is_x ∙ ap (at order) e ∙ sym is_y
        | inr ne ↦ ap (λ (xs : List ℕ). at xs i) orders ∙ get_or-set_other (set order i y) j i x 0 ne ∙ get_or-set_same order i y 0 i_in
      ];
      elsewhere = λ q ne ne'. ap (λ (xs : List ℕ). at xs q) orders ∙ get_or-set_other (set order i y) j q x 0 ne ∙ get_or-set_other order i q y 0 ne';
      one = ap (λ (xs : List ℕ). at xs x) places ∙ get_or-set_same (set place y i) x j 0 (omega arith);
      other = elim (cases_eq y x) [
        | inl e ↦ ap (λ (xs : List ℕ). at xs y) places ∙ ap (λ (q : ℕ). at (set (set place y i) x j) q) e ∙ get_or-set_same (set place y i) x j 0 (omega arith) ∙ sym p_y ∙ ap (at place) e ∙ p_x
        | inr ne ↦ ap (λ (xs : List ℕ). at xs y) places ∙ get_or-set_other (set place y i) x y j 0 ne ∙ get_or-set_same place y i 0 (omega arith)
      ];
      others = λ z ne ne'. ap (λ (xs : List ℕ). at xs z) places ∙ get_or-set_other (set place y i) x z j 0 ne ∙ get_or-set_other place y z i 0 ne';
    }

-- ---- a mark

-- what is known where a number is marked
pub record IsMarking (order place class order' place' : List ℕ) (blocks blocks' : List Block) (x : ℕ) : Type 0 where
  pub before : IsLaidOut order place class blocks
  pub inside : x < length order
  pub unmarked : middle_at blocks (at class x) ≤ at place x
  pub orders : order' ≡ set (set order (at place x) (at order (middle_at blocks (at class x)))) (middle_at blocks (at class x)) (at order (at place x))
  pub places : place' ≡ set (set place (at order (middle_at blocks (at class x))) (at place x)) (at order (at place x)) (middle_at blocks (at class x))
  pub new_blocks : blocks' ≡ set blocks (at class x) (advanced blocks (at class x))

middle_in : (order place class : List ℕ) (blocks : List Block) (x : ℕ) → IsLaidOut order place class blocks → x < length order → middle_at blocks (at class x) ≤ at place x → middle_at blocks (at class x) < length order
middle_in order place class blocks x out inside le = let h = out.layout.place_inside x inside in omega arith

marking-moved : (order place class order' place' : List ℕ) (blocks blocks' : List Block) (x : ℕ) → IsMarking order place class order' place' blocks blocks' x
    → AreMoved (at place x) (middle_at blocks (at class x)) x (at order (middle_at blocks (at class x))) (at order) (at place) (at order') (at place')
marking-moved order place class order' place' blocks blocks' x m =
    let i : ℕ = at place x in
    let j : ℕ = middle_at blocks (at class x) in
    let j_in : j < length order = middle_in order place class blocks x m.before m.inside m.unmarked in
    let i_in : i < length order = m.before.layout.place_inside x m.inside in
    let back : at order i ≡ x = m.before.layout.ordered x m.inside in
    moved order place order' place' i j x (at order j) m.before.places i_in j_in m.inside (m.before.layout.order_inside j j_in) (sym back) refl refl (m.before.layout.placed j j_in)
    (m.orders ∙ ap (λ (y : ℕ). set (set order i (at order j)) j y) back)
    (m.places ∙ ap (λ (y : ℕ). set (set place (at order j) i) y j) back)

marking-middle : (order place class order' place' : List ℕ) (blocks blocks' : List Block) (x : ℕ) → IsMarking order place class order' place' blocks blocks' x → middle_at blocks' (at class x) ≡ middle_at blocks (at class x) + 1
marking-middle order place class order' place' blocks blocks' x m =
    ap (λ (bs : List Block). middle_at bs (at class x)) m.new_blocks
    ∙ ap (λ (b : Block). b.middle) (get_or-set_same blocks (at class x) (advanced blocks (at class x)) no_block (m.before.layout.class_inside x m.inside))

marking-middles : (order place class order' place' : List ℕ) (blocks blocks' : List Block) (x : ℕ) → IsMarking order place class order' place' blocks blocks' x → (d : ℕ) → (d ≡ at class x → ⊥) → middle_at blocks' d ≡ middle_at blocks d
marking-middles order place class order' place' blocks blocks' x m d ne =
    ap (λ (bs : List Block). middle_at bs d) m.new_blocks
    ∙ ap (λ (b : Block). b.middle) (get_or-set_other blocks (at class x) d (advanced blocks (at class x)) no_block ne)

-- what a function of a block gives at each class, where the block that is written has the same
pub same_after_set : {X : Type 0} (field : Block → X) (blocks : List Block) (c : ℕ) (b : Block) → c < length blocks → field b ≡ field (block_at blocks c) → (d : ℕ) → field (block_at (set blocks c b) d) ≡ field (block_at blocks d)
same_after_set field blocks c b inside same d = elim (cases_eq d c) [
  | inl e ↦ ap (λ (q : ℕ). field (block_at (set blocks c b) q)) e ∙ ap field (get_or-set_same blocks c b no_block inside) ∙ same ∙ ap (λ (q : ℕ). field (block_at blocks q)) (sym e)
  | inr ne ↦ ap field (get_or-set_other blocks c d b no_block ne)
]

-- a layout by other functions that give the same
pub IsLayout-same : (n n' count count' : ℕ) (o p k f m l f' l' : ℕ → ℕ) → n' ≡ n → count' ≡ count → ((d : ℕ) → f' d ≡ f d) → ((d : ℕ) → l' d ≡ l d) → IsLayout n count o p k f m l → IsLayout n' count' o p k f' m l'
IsLayout-same n n' count count' o p k f m l f' l' lens counts firsts ends is = record {
  order_inside = λ i h. let u = is.order_inside i (omega arith) in omega arith;
  place_inside = λ z h. let u = is.place_inside z (omega arith) in omega arith;
  placed = λ i h. is.placed i (omega arith);
  ordered = λ z h. is.ordered z (omega arith);
  class_inside = λ z h. let u = is.class_inside z (omega arith) in omega arith;
  after_first = λ z h. let u = is.after_first z (omega arith) in let v = firsts (k z) in omega arith;
  before_end = λ z h. let u = is.before_end z (omega arith) in let v = ends (k z) in omega arith;
  own = λ d i h low high. let v = firsts d in let w = ends d in is.own d i (omega arith) (omega arith) (omega arith);
  some = λ d h. let u = is.some d (omega arith) in let v = firsts d in let w = ends d in omega arith;
  middle_low = λ d h. let u = is.middle_low d (omega arith) in let v = firsts d in omega arith;
  middle_high = λ d h. let u = is.middle_high d (omega arith) in let w = ends d in omega arith;
  end_inside = λ d h. let u = is.end_inside d (omega arith) in let w = ends d in omega arith;
}

pub marking-blocks : (order place class order' place' : List ℕ) (blocks blocks' : List Block) (x : ℕ) → IsMarking order place class order' place' blocks blocks' x → IsLaidOut order' place' class blocks'
marking-blocks order place class order' place' blocks blocks' x m =
    let i : ℕ = at place x in
    let j : ℕ = middle_at blocks (at class x) in
    let o_len : length order' ≡ length order = ap length m.orders ∙ length-set (set order i (at order j)) j (at order i) ∙ length-set order i (at order j) in
    let p_len : length place' ≡ length place = ap length m.places ∙ length-set (set place (at order j) i) (at order i) j ∙ length-set place (at order j) i in
    let b_len : length blocks' ≡ length blocks = ap length m.new_blocks ∙ length-set blocks (at class x) (advanced blocks (at class x)) in
    let c_in : at class x < length blocks = m.before.layout.class_inside x m.inside in
    record {
      places = p_len ∙ m.before.places ∙ sym o_len;
      classes = m.before.classes ∙ sym o_len;
      layout = IsLayout-same (length order) (length order') (length blocks) (length blocks') (at order') (at place') (at class) (first_at blocks) (middle_at blocks') (end_at blocks) (first_at blocks') (end_at blocks') o_len b_len
          (λ d. ap (λ (bs : List Block). first_at bs d) m.new_blocks ∙ same_after_set (λ (b : Block). b.first) blocks (at class x) (advanced blocks (at class x)) c_in refl d)
          (λ d. ap (λ (bs : List Block). end_at bs d) m.new_blocks ∙ same_after_set (λ (b : Block). b.end) blocks (at class x) (advanced blocks (at class x)) c_in refl d)
          (IsLayout-marked (length order) (length blocks) (at order) (at place) (at class) (first_at blocks) (middle_at blocks) (end_at blocks) (at order') (at place') (middle_at blocks') x (at order j) (at class x) i j
          m.before.layout m.inside refl refl refl m.unmarked refl (marking-moved order place class order' place' blocks blocks' x m) (marking-middle order place class order' place' blocks blocks' x m) (marking-middles order place class order' place' blocks blocks' x m));
    }

pub marking-marks : (order place class order' place' : List ℕ) (blocks blocks' : List Block) (x : ℕ) → IsMarking order place class order' place' blocks blocks' x
    → (z : ℕ) → z < length order → mark_at place' class blocks' z ≡ (mark_at place class blocks z || eqb z x)
unfolding mark_at
marking-marks order place class order' place' blocks blocks' x m z inside =
    let i : ℕ = at place x in
    let j : ℕ = middle_at blocks (at class x) in
    marks-marked (length order) (length blocks) (at order) (at place) (at class) (first_at blocks) (middle_at blocks) (end_at blocks) (at order') (at place') (middle_at blocks') x (at order j) (at class x) i j
    m.before.layout m.inside refl refl refl m.unmarked refl (marking-moved order place class order' place' blocks blocks' x m) (marking-middle order place class order' place' blocks blocks' x m) (marking-middles order place class order' place' blocks blocks' x m) z inside

-- a number that is marked already
pub marked_already : (place class : List ℕ) (blocks : List Block) (x : ℕ) → at place x < middle_at blocks (at class x) → (z : ℕ) → mark_at place class blocks z ≡ (mark_at place class blocks z || eqb z x)
unfolding mark_at
marked_already place class blocks x lt z = elim (cases_eq z x) [
  | inl e ↦
      let u : at place z ≡ at place x = ap (at place) e in
      let v : middle_at blocks (at class z) ≡ middle_at blocks (at class x) = ap (λ (q : ℕ). middle_at blocks (at class q)) e in
      grind (arith, nat_tests)
  | inr ne ↦ grind (arith, nat_tests)
]

-- the calls by which a number is marked, and what they leave
pub record IsMarked (old new : Blocks) (x : ℕ) : Type 0 where
  pub marking : IsMarking old.order.items old.place.items old.class.items new.order.items new.place.items old.blocks.items new.blocks.items x
  pub class : new.class ≡ old.class

pub marked_by : (old touched swapped new : Blocks) (x c i : ℕ) (b : Block) → AreBlocks old → x < len_of old → c ≡ get_or old.class.items x c → i ≡ get_or old.place.items x i → b ≡ get_or old.blocks.items c b → b.middle ≤ i
    → touched.order ≡ old.order → touched.place ≡ old.place → touched.class ≡ old.class → touched.blocks ≡ old.blocks
    → IsSwapped touched swapped i b.middle → IsAdvanced swapped new c → IsMarked old new x
marked_by old touched swapped new x c i b before inside is_c is_i is_b le t_order t_place t_class t_blocks sw adv =
    let c_at : c ≡ at old.class.items x = read_number old.class.items x c (let u = before.classes in omega arith) is_c in
    let i_at : i ≡ at old.place.items x = read_number old.place.items x i (let u = before.places in omega arith) is_i in
    let c_in : c < length old.blocks.items = let u = before.layout.class_inside x inside in omega arith in
    let b_at : b ≡ block_at old.blocks.items c = read_block old.blocks.items c b c_in is_b in
    let j_at : b.middle ≡ middle_at old.blocks.items (at old.class.items x) = ap (λ (k : Block). k.middle) b_at ∙ ap (middle_at old.blocks.items) c_at in
    let o : touched.order.items ≡ old.order.items = ap (λ v. v.items) t_order in
    let p : touched.place.items ≡ old.place.items = ap (λ v. v.items) t_place in
    let k : swapped.blocks.items ≡ old.blocks.items = ap (λ v. v.items) (sw.blocks ∙ t_blocks) in
    record {
      marking = record {
        before = before;
        inside = inside;
        unmarked = omega arith;
        orders = ap (λ v. v.items) adv.order ∙ sw.order
            ∙ ap (λ (xs : List ℕ). set (set xs i (at xs b.middle)) b.middle (at xs i)) o
            ∙ ap (λ (q : ℕ). set (set old.order.items q (at old.order.items b.middle)) b.middle (at old.order.items q)) i_at
            ∙ ap (λ (q : ℕ). set (set old.order.items (at old.place.items x) (at old.order.items q)) q (at old.order.items (at old.place.items x))) j_at;
        places = ap (λ v. v.items) adv.place ∙ sw.place
            ∙ ap (λ (xs : List ℕ). set (set touched.place.items (at xs b.middle) i) (at xs i) b.middle) o
            ∙ ap (λ (ys : List ℕ). set (set ys (at old.order.items b.middle) i) (at old.order.items i) b.middle) p
            ∙ ap (λ (q : ℕ). set (set old.place.items (at old.order.items b.middle) q) (at old.order.items q) b.middle) i_at
            ∙ ap (λ (q : ℕ). set (set old.place.items (at old.order.items q) (at old.place.items x)) (at old.order.items (at old.place.items x)) q) j_at;
        new_blocks = adv.blocks
            ∙ ap (λ (bs : List Block). set bs c (advanced bs c)) k
            ∙ ap (λ (q : ℕ). set old.blocks.items q (advanced old.blocks.items q)) c_at;
      };
      class = adv.class ∙ sw.class ∙ t_class;
    }

pub marked_by-blocks : (old new : Blocks) (x : ℕ) → IsMarked old new x → AreBlocks new
marked_by-blocks old new x m =
    let out = marking-blocks old.order.items old.place.items old.class.items new.order.items new.place.items old.blocks.items new.blocks.items x m.marking in
    subst (λ (ks : List ℕ). IsLaidOut new.order.items new.place.items ks new.blocks.items) (sym (ap (λ v. v.items) m.class)) out

pub marked_by-marks : (old new : Blocks) (x : ℕ) → IsMarked old new x → (z : ℕ) → z < len_of old → is_marked new z ≡ (is_marked old z || eqb z x)
marked_by-marks old new x m z inside =
    ap (λ (ks : List ℕ). mark_at new.place.items ks new.blocks.items z) (ap (λ v. v.items) m.class)
    ∙ marking-marks old.order.items old.place.items old.class.items new.order.items new.place.items old.blocks.items new.blocks.items x m.marking z inside

pub marked_by-count : (old new : Blocks) (x : ℕ) → IsMarked old new x → count_of new ≡ count_of old
marked_by-count old new x m = ap length m.marking.new_blocks ∙ length-set old.blocks.items (at old.class.items x) (advanced old.blocks.items (at old.class.items x))

pub marked_by-len : (old new : Blocks) (x : ℕ) → IsMarked old new x → len_of new ≡ len_of old
marked_by-len old new x m =
    let i : ℕ = at old.place.items x in
    let j : ℕ = middle_at old.blocks.items (at old.class.items x) in
    ap length m.marking.orders ∙ length-set (set old.order.items i (at old.order.items j)) j (at old.order.items i) ∙ length-set old.order.items i (at old.order.items j)

pub marked_by-firsts : (old new : Blocks) (x : ℕ) → IsMarked old new x → (d : ℕ) → first_at new.blocks.items d ≡ first_at old.blocks.items d
marked_by-firsts old new x m d =
    ap (λ (bs : List Block). first_at bs d) m.marking.new_blocks
    ∙ same_after_set (λ (b : Block). b.first) old.blocks.items (at old.class.items x) (advanced old.blocks.items (at old.class.items x)) (m.marking.before.layout.class_inside x m.marking.inside) refl d

pub marked_by-listed : (old new : Blocks) (touched : List ℕ) (x c : ℕ) → IsMarked old new x → c ≡ at old.class.items x → ListsMarks old
    → ((d : ℕ) → Contains old.touched.items d → Contains touched d) → (middle_at old.blocks.items c ≡ first_at old.blocks.items c → Contains touched c)
    → ((d : ℕ) → Contains touched d → Contains old.touched.items d ⊎ (d ≡ c)) → new.touched.items ≡ touched → ListsMarks new
marked_by-listed old new touched x c m is_c lists kept listed known is_touched =
    let count = marked_by-count old new x m in
    let out = m.marking.before.layout in
    let c_in : c < count_of old = let u = out.class_inside x m.marking.inside in omega arith in
    let there : (d : ℕ) → Contains touched d → Contains new.touched.items d = λ d h. subst (λ (ds : List ℕ). Contains ds d) (sym is_touched) h in
    record {
      listed = λ d d_in some. there d (elim (cases_eq d c) [
        | inl e ↦
            elim (cases_lt (first_at old.blocks.items c) (middle_at old.blocks.items c)) [
              | inl lt ↦ kept d (subst (λ (q : ℕ). Contains old.touched.items q) (sym e) (lists.listed c c_in lt))
              | inr ge ↦ subst (λ (q : ℕ). Contains touched q) (sym e) (listed (let u = out.middle_low c c_in in omega arith))
            ]
        | inr ne ↦
            let firsts = marked_by-firsts old new x m d in
            let middles = marking-middles old.order.items old.place.items old.class.items new.order.items new.place.items old.blocks.items new.blocks.items x m.marking d (λ e. ne (e ∙ sym is_c)) in
            kept d (lists.listed d (omega arith) (omega arith))
      ]);
      inside = λ d h. elim (known d (subst (λ (ds : List ℕ). Contains ds d) is_touched h)) [
        | inl old_one ↦ let u = lists.inside d old_one in omega arith
        | inr e ↦ omega arith
      ];
    }

-- a class of a marked number has a middle past its first place
pub unlisted : (b : Blocks) → AreBlocks b → length b.touched.items ≡ 0 → ListsMarks b → HasNoMarks b
unfolding mark_at
unlisted b is none lists x inside =
    let c : ℕ = at b.class.items x in
    let c_in = is.layout.class_inside x inside in
    let low = is.layout.after_first x inside in
    elim (cases_lt (first_at b.blocks.items c) (middle_at b.blocks.items c)) [
      | inl lt ↦ let (k, below, e) = lists.listed c c_in lt in absurd (omega arith)
      | inr ge ↦ grind (arith, nat_tests)
    ]

-- the places that a mark is put at
pub marking_fits : (old touched swapped : Blocks) (x c i : ℕ) (b : Block) → AreBlocks old → x < len_of old → c ≡ get_or old.class.items x c → i ≡ get_or old.place.items x i → b ≡ get_or old.blocks.items c b → b.middle ≤ i
    → touched.order ≡ old.order → touched.blocks ≡ old.blocks → IsSwapped touched swapped i b.middle → middle_at swapped.blocks.items c < len_of swapped
marking_fits old touched swapped x c i b before inside is_c is_i is_b le t_order t_blocks sw =
    let c_at : c ≡ at old.class.items x = read_number old.class.items x c (let u = before.classes in omega arith) is_c in
    let i_at : i ≡ at old.place.items x = read_number old.place.items x i (let u = before.places in omega arith) is_i in
    let c_in : c < length old.blocks.items = let u = before.layout.class_inside x inside in omega arith in
    let b_at : b ≡ block_at old.blocks.items c = read_block old.blocks.items c b c_in is_b in
    let k : swapped.blocks.items ≡ old.blocks.items = ap (λ v. v.items) (sw.blocks ∙ t_blocks) in
    let mid : middle_at swapped.blocks.items c ≡ b.middle = ap (λ (bs : List Block). middle_at bs c) k ∙ sym (ap (λ (e : Block). e.middle) b_at) in
    let len : len_of swapped ≡ len_of old = ap length sw.order ∙ length-set (set touched.order.items i (at touched.order.items b.middle)) b.middle (at touched.order.items i) ∙ length-set touched.order.items i (at touched.order.items b.middle) ∙ ap (λ v. length v.items) t_order in
    let u = before.layout.place_inside x inside in
    omega arith

pub is_before_middle : (b : Blocks) (x c i : ℕ) (k : Block) → AreBlocks b → x < len_of b → c ≡ get_or b.class.items x c → i ≡ get_or b.place.items x i → k ≡ get_or b.blocks.items c k → i < k.middle
    → at b.place.items x < middle_at b.blocks.items (at b.class.items x)
is_before_middle b x c i k is inside is_c is_i is_k lt =
    let c_at : c ≡ at b.class.items x = read_number b.class.items x c (let u = is.classes in omega arith) is_c in
    let i_at : i ≡ at b.place.items x = read_number b.place.items x i (let u = is.places in omega arith) is_i in
    let c_in : c < length b.blocks.items = let u = is.layout.class_inside x inside in omega arith in
    let mid : k.middle ≡ middle_at b.blocks.items (at b.class.items x) = ap (λ (e : Block). e.middle) (read_block b.blocks.items c k c_in is_k) ∙ ap (middle_at b.blocks.items) c_at in
    omega arith

-- ---- numbers put into a class

pub put_more : (order place before class class' : List ℕ) (first t v : ℕ) → t < length order → first ≤ t
    → ((i : ℕ) → i < length order → at place (at order i) ≡ i) → ((x : ℕ) → x < length order → at order (at place x) ≡ x) → at order t < length class
    → class' ≡ set class (at order t) v
    → ((x : ℕ) → x < length order → at class x ≡ (if leb first (at place x) && ltb (at place x) t then v else at before x))
    → (x : ℕ) → x < length order → at class' x ≡ (if leb first (at place x) && ltb (at place x) (t + 1) then v else at before x)
put_more order place before class class' first t v t_in low placed ordered write_in write so_far x inside =
    elim (cases_eq x (at order t)) [
      | inl e ↦
          let p : at place x ≡ t = ap (at place) e ∙ placed t t_in in
          let test : (leb first (at place x) && ltb (at place x) (t + 1)) ≡ true = grind (arith, nat_tests) in
          ap (λ (xs : List ℕ). at xs x) write ∙ ap (at (set class (at order t) v)) e ∙ get_or-set_same class (at order t) v 0 write_in ∙ ap (λ (b : Bool). if b then v else at before x) (sym test)
      | inr ne ↦
          let p : at place x ≡ t → ⊥ = λ e. ne (sym (ordered x inside) ∙ ap (at order) e) in
          let test : (leb first (at place x) && ltb (at place x) t) ≡ (leb first (at place x) && ltb (at place x) (t + 1)) = grind (arith, nat_tests) in
          ap (λ (xs : List ℕ). at xs x) write ∙ get_or-set_other class (at order t) x v 0 ne ∙ so_far x inside ∙ ap (λ (b : Bool). if b then v else at before x) test
    ]

-- nothing is put yet, and all is put at the end
pub put_none : (first p v w : ℕ) → w ≡ (if leb first p && ltb p first then v else w)
put_none first p v w = let test : (leb first p && ltb p first) ≡ false = grind (arith, nat_tests) in ap (λ (b : Bool). if b then v else w) (sym test)

pub put_all : (first last t p v w u : ℕ) → last ≤ t → t ≤ last → u ≡ (if leb first p && ltb p t then v else w) → u ≡ (if leb first p && ltb p last then v else w)
put_all first last t p v w u ge le is = let test : (leb first p && ltb p t) ≡ (leb first p && ltb p last) = grind (arith, nat_tests) in is ∙ ap (λ (b : Bool). if b then v else w) test

-- ---- the start, and what is seen

all_zero : List ℕ → Type 0
all_zero xs = (x : ℕ) → at xs x ≡ 0

pub zero_pushed : (xs ys : List ℕ) → ((x : ℕ) → at xs x ≡ 0) → ys ≡ xs ++ 0 ∷ [] → (x : ℕ) → at ys x ≡ 0
zero_pushed xs ys zeros pushed x = ap (λ (zs : List ℕ). at zs x) pushed ∙ elim (cases_lt x (length xs)) [
  | inl lt ↦ get_or_append_left xs (0 ∷ []) 0 x lt ∙ zeros x
  | inr ge ↦ elim (cases_eq x (length xs)) [
    | inl e ↦ get_or_push xs 0 0 x (sym e)
    | inr ne ↦ get_or_past (xs ++ 0 ∷ []) x 0 (let u = length_push xs 0 in omega arith)
  ]
]

at_range : (n i : ℕ) → i < n → at (range_with_len 0 n) i ≡ i
at_range n i inside = let u : get_or (range_with_len 0 n) i 0 ≡ 0 + i = get_or-range_with_len 0 n i 0 inside in omega arith

pub one_laid : (n : ℕ) (order place class : List ℕ) (blocks : List Block) → 0 < n → order ≡ range_with_len 0 n → place ≡ range_with_len 0 n → length class ≡ n → ((x : ℕ) → at class x ≡ 0)
    → blocks ≡ record { first = 0; middle = 0; end = n } ∷ [] → IsLaidOut order place class blocks
one_laid n order place class blocks some is_order is_place lens zeros is_blocks =
    let whole : Block = record { first = 0; middle = 0; end = n } in
    let o_len : length order ≡ n = ap length is_order ∙ length-range_with_len 0 n in
    let p_len : length place ≡ n = ap length is_place ∙ length-range_with_len 0 n in
    let o : (i : ℕ) → i < n → at order i ≡ i = λ i h. ap (λ (xs : List ℕ). at xs i) is_order ∙ at_range n i h in
    let p : (i : ℕ) → i < n → at place i ≡ i = λ i h. ap (λ (xs : List ℕ). at xs i) is_place ∙ at_range n i h in
    let count : length blocks ≡ 1 = ap length is_blocks in
    let at_zero : (c : ℕ) → c ≡ 0 → block_at blocks c ≡ whole = λ c e. ap (λ (bs : List Block). block_at bs c) is_blocks ∙ ap (block_at (whole ∷ [])) e in
    let zero_of : (c : ℕ) → c < length blocks → c ≡ 0 = λ c h. omega arith in
    record {
      places = p_len ∙ sym o_len;
      classes = lens ∙ sym o_len;
      layout = record {
        order_inside = λ i h. let u = o i (omega arith) in omega arith;
        place_inside = λ z h. let u = p z (omega arith) in omega arith;
        placed = λ i h. ap (at place) (o i (omega arith)) ∙ p i (omega arith);
        ordered = λ z h. ap (at order) (p z (omega arith)) ∙ o z (omega arith);
        class_inside = λ z h. let u = zeros z in omega arith;
        after_first = λ z h. let u = ap (λ (b : Block). b.first) (at_zero (at class z) (zeros z)) in omega arith;
        before_end = λ z h. let u = ap (λ (b : Block). b.end) (at_zero (at class z) (zeros z)) in let v = p z (omega arith) in omega arith;
        own = λ d i d_in low high. zeros (at order i) ∙ sym (zero_of d d_in);
        some = λ d d_in. let u = ap (λ (b : Block). b.first) (at_zero d (zero_of d d_in)) in let v = ap (λ (b : Block). b.end) (at_zero d (zero_of d d_in)) in omega arith;
        middle_low = λ d d_in. let u = ap (λ (b : Block). b.first) (at_zero d (zero_of d d_in)) in omega arith;
        middle_high = λ d d_in. let u = ap (λ (b : Block). b.middle) (at_zero d (zero_of d d_in)) in omega arith;
        end_inside = λ d d_in. let u = ap (λ (b : Block). b.end) (at_zero d (zero_of d d_in)) in omega arith;
      };
    }

pub one_unmarked : (n : ℕ) (place class : List ℕ) (blocks : List Block) → ((x : ℕ) → at class x ≡ 0) → blocks ≡ record { first = 0; middle = 0; end = n } ∷ [] → (x : ℕ) → mark_at place class blocks x ≡ false
unfolding mark_at
one_unmarked n place class blocks zeros is_blocks x =
    let u : middle_at blocks (at class x) ≡ 0 = ap (λ (bs : List Block). middle_at bs (at class x)) is_blocks ∙ ap (middle_at (record { first = 0; middle = 0; end = n } ∷ [])) (zeros x) in
    grind (arith, nat_tests)

-- the numbers at the places of a class are those of the class
pub class_members : (b : Blocks) (c : ℕ) (k : Block) (items : List ℕ) → AreBlocks b → c < count_of b → k ≡ get_or b.blocks.items c k → items ≡ take (k.end - k.first) (drop k.first b.order.items)
    → (x : ℕ) → Contains items x ↔ ((x < len_of b) × (class_in b x ≡ c))
class_members b c k items is inside read cut x =
    let block = read_block b.blocks.items c k inside read in
    let f = ap (λ (e : Block). e.first) block in
    let l = ap (λ (e : Block). e.end) block in
    let l_in = is.layout.end_inside c inside in
    let some = is.layout.some c inside in
    let o = b.order.items in
    let d_len : length (drop k.first o) ≡ length o - k.first = length-drop k.first o in
    let t_len : length (take (k.end - k.first) (drop k.first o)) ≡ k.end - k.first = length-take-le (k.end - k.first) (drop k.first o) (omega arith) in
    let i_len : length items ≡ k.end - k.first = ap length cut ∙ t_len in (
      λ (i, below, e).
          let i_in : i < k.end - k.first = omega arith in
          let there : get_or items i x ≡ get_or o (k.first + i) x = ap (λ (xs : List ℕ). get_or xs i x) cut ∙ get_or-take (k.end - k.first) (drop k.first o) i x i_in ∙ get_or-drop k.first o i x in
          let here : x ≡ at o (k.first + i) = read_number o (k.first + i) x (omega arith) (sym e ∙ there) in
          let x_in = is.layout.order_inside (k.first + i) (omega arith) in
          (omega arith, ap (at b.class.items) here ∙ is.layout.own c (k.first + i) inside (omega arith) (omega arith)),
      λ (x_in, of_c).
          let p : ℕ = at b.place.items x in
          let low : k.first ≤ p = let u = is.layout.after_first x x_in in let v = ap (first_at b.blocks.items) of_c in omega arith in
          let high : p < k.end = let u = is.layout.before_end x x_in in let v = ap (end_at b.blocks.items) of_c in omega arith in
          let i : ℕ = p - k.first in
          let i_is : i ≡ p - k.first = refl in
          let back : k.first + i ≡ p = omega arith in
          let there : get_or items i x ≡ get_or o (k.first + i) x = ap (λ (xs : List ℕ). get_or xs i x) cut ∙ get_or-take (k.end - k.first) (drop k.first o) i x (omega arith) ∙ get_or-drop k.first o i x in
          let ordered : get_or o p 0 ≡ x = is.layout.ordered x x_in in
          (i, omega arith, there ∙ ap (λ (q : ℕ). get_or o q x) back ∙ get_or_default o p x 0 (omega arith) ∙ ordered),
    )
