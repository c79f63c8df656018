-- Layouts after single steps, on plain functions.
use Rattle.std.proofs.Common.{◌≡◌, ◌+◌, ◌<◌, ◌≤◌, ℕ, eqb, ltb, Bool, true, false, not, ◌||◌, ◌⊎◌, inl, inr, refl, sym, ◌∙◌, ap, arith}
use Rattle.std.specs.Prelude.{◌↔◌}
use Rattle.std.proofs.lemmas.Bool.{cases_eq, cases_lt}
use Rattle.std.proofs.lemmas.Bool.Decides.{nat_tests}
use Rattle.type_classes.specs.Blocks.{IsLayout}

-- ---- two numbers change places

pub record AreMoved (i j x y : ℕ) (o p o' p' : ℕ → ℕ) : Type 0 where
  pub at_j : o' j ≡ x
  pub at_i : o' i ≡ y
  pub elsewhere : (q : ℕ) → (q ≡ j → ⊥) → (q ≡ i → ⊥) → o' q ≡ o q
  pub one : p' x ≡ j
  pub other : p' y ≡ i
  pub others : (z : ℕ) → (z ≡ x → ⊥) → (z ≡ y → ⊥) → p' z ≡ p z

three : {P : Type 0} (q a b : ℕ) → (q ≡ a → P) → (q ≡ b → P) → ((q ≡ a → ⊥) → (q ≡ b → ⊥) → P) → P
three q a b at_a at_b past = elim (cases_eq q a) [ inl e ↦ at_a e | inr ne ↦ elim (cases_eq q b) [ inl e ↦ at_b e | inr ne' ↦ past ne ne' ] ]

-- A number of a class is put at the middle of its class, in place of the number there, and the middle moves on.
pub IsLayout-marked : (n count : ℕ) (o p k f m l o' p' m' : ℕ → ℕ) (x y c i j : ℕ) → IsLayout n count o p k f m l → x < n → i ≡ p x → c ≡ k x → j ≡ m c → j ≤ i → y ≡ o j
    → AreMoved i j x y o p o' p' → m' c ≡ j + 1 → ((d : ℕ) → (d ≡ c → ⊥) → m' d ≡ m d) → IsLayout n count o' p' k f m' l
IsLayout-marked n count o p k f m l o' p' m' x y c i j is inside is_i is_c is_j le is_y moved mid mids =
    let c_in : c < count = let h = is.class_inside x inside in omega arith in
    let i_in : i < n = let h = is.place_inside x inside in omega arith in
    let x_at : o i ≡ x = ap o is_i ∙ is.ordered x inside in
    let k_x : k x ≡ c = sym is_c in
    let i_low : f c ≤ i = let h = is.after_first x inside in let e = ap f is_c in omega arith in
    let i_high : i < l c = let h = is.before_end x inside in let e = ap l is_c in omega arith in
    let j_low : f c ≤ j = let h = is.middle_low c c_in in omega arith in
    let j_in : j < n = omega arith in
    let y_in : y < n = let h = is.order_inside j j_in in omega arith in
    let k_y : k y ≡ c = ap k is_y ∙ is.own c j c_in j_low (omega arith) in
    let p_y : p y ≡ j = ap p is_y ∙ is.placed j j_in in
    record {
      order_inside = λ q h. three q j i (λ e. let g : o' q ≡ x = ap o' e ∙ moved.at_j in omega arith) (λ e. let g : o' q ≡ y = ap o' e ∙ moved.at_i in omega arith)
          (λ ne ne'. let g = moved.elsewhere q ne ne' in let u = is.order_inside q h in omega arith);
      place_inside = λ z h. three z x y (λ e. let g : p' z ≡ j = ap p' e ∙ moved.one in omega arith) (λ e. let g : p' z ≡ i = ap p' e ∙ moved.other in omega arith)
          (λ ne ne'. let g = moved.others z ne ne' in let u = is.place_inside z h in omega arith);
      placed = λ q h. three q j i (λ e. ap p' (ap o' e ∙ moved.at_j) ∙ moved.one ∙ sym e) (λ e. ap p' (ap o' e ∙ moved.at_i) ∙ moved.other ∙ sym e)
          (λ ne ne'.
          let back : p (o q) ≡ q = is.placed q h in
          let not_x : o q ≡ x → ⊥ = λ e. ne' (sym back ∙ ap p e ∙ sym is_i) in
          let not_y : o q ≡ y → ⊥ = λ e. ne (sym back ∙ ap p e ∙ p_y) in
          ap p' (moved.elsewhere q ne ne') ∙ moved.others (o q) not_x not_y ∙ back);
      ordered = λ z h. three z x y (λ e. ap o' (ap p' e ∙ moved.one) ∙ moved.at_j ∙ sym e) (λ e. ap o' (ap p' e ∙ moved.other) ∙ moved.at_i ∙ sym e)
          (λ ne ne'.
          let back : o (p z) ≡ z = is.ordered z h in
          let not_j : p z ≡ j → ⊥ = λ e. ne' (sym back ∙ ap o e ∙ sym is_y) in
          let not_i : p z ≡ i → ⊥ = λ e. ne (sym back ∙ ap o e ∙ x_at) in
          ap o' (moved.others z ne ne') ∙ moved.elsewhere (p z) not_j not_i ∙ back);
      class_inside = is.class_inside;
      after_first = λ z h. three z x y
          (λ e. let g : p' z ≡ j = ap p' e ∙ moved.one in let u : f (k z) ≡ f c = ap f (ap k e ∙ k_x) in omega arith)
          (λ e. let g : p' z ≡ i = ap p' e ∙ moved.other in let u : f (k z) ≡ f c = ap f (ap k e ∙ k_y) in omega arith)
          (λ ne ne'. let g = moved.others z ne ne' in let u = is.after_first z h in omega arith);
      before_end = λ z h. three z x y
          (λ e. let g : p' z ≡ j = ap p' e ∙ moved.one in let u : l (k z) ≡ l c = ap l (ap k e ∙ k_x) in omega arith)
          (λ e. let g : p' z ≡ i = ap p' e ∙ moved.other in let u : l (k z) ≡ l c = ap l (ap k e ∙ k_y) in omega arith)
          (λ ne ne'. let g = moved.others z ne ne' in let u = is.before_end z h in omega arith);
      own = λ d q d_in low high. three q j i
          (λ e. ap k (ap o' e ∙ moved.at_j) ∙ k_x ∙ sym k_y ∙ ap k (is_y ∙ ap o (sym e)) ∙ is.own d q d_in low high)
          (λ e. ap k (ap o' e ∙ moved.at_i) ∙ k_y ∙ sym k_x ∙ ap k (sym x_at ∙ ap o (sym e)) ∙ is.own d q d_in low high)
          (λ ne ne'. ap k (moved.elsewhere q ne ne') ∙ is.own d q d_in low high);
      some = is.some;
      middle_low = λ d d_in. elim (cases_eq d c) [
        | inl e ↦ let g : m' d ≡ j + 1 = ap m' e ∙ mid in let u = ap f e in omega arith
        | inr ne ↦ let g = mids d ne in let u = is.middle_low d d_in in omega arith
      ];
      middle_high = λ d d_in. elim (cases_eq d c) [
        | inl e ↦ let g : m' d ≡ j + 1 = ap m' e ∙ mid in let u = ap l e in omega arith
        | inr ne ↦ let g = mids d ne in let u = is.middle_high d d_in in omega arith
      ];
      end_inside = is.end_inside;
    }

-- which numbers are marked then
pub marks-marked : (n count : ℕ) (o p k f m l o' p' m' : ℕ → ℕ) (x y c i j : ℕ) → IsLayout n count o p k f m l → x < n → i ≡ p x → c ≡ k x → j ≡ m c → j ≤ i → y ≡ o j
    → AreMoved i j x y o p o' p' → m' c ≡ j + 1 → ((d : ℕ) → (d ≡ c → ⊥) → m' d ≡ m d)
    → (z : ℕ) → z < n → ltb (p' z) (m' (k z)) ≡ (ltb (p z) (m (k z)) || eqb z x)
marks-marked n count o p k f m l o' p' m' x y c i j is inside is_i is_c is_j le is_y moved mid mids z z_in =
    let c_in : c < count = let h = is.class_inside x inside in omega arith in
    let i_in : i < n = let h = is.place_inside x inside in omega arith in
    let i_high : i < l c = let h = is.before_end x inside in let e = ap l is_c in omega arith in
    let j_low : f c ≤ j = let h = is.middle_low c c_in in omega arith in
    let j_in : j < n = omega arith in
    let k_y : k y ≡ c = ap k is_y ∙ is.own c j c_in j_low (omega arith) in
    let p_y : p y ≡ j = ap p is_y ∙ is.placed j j_in in
    three z x y
    (λ e.
    let g : p' z ≡ j = ap p' e ∙ moved.one in
    let u : m' (k z) ≡ j + 1 = ap m' (ap k e ∙ sym is_c) ∙ mid in
    grind (arith, nat_tests))
    (λ e. elim (cases_eq z x) [
      | inl same ↦
          let g : p' z ≡ j = ap p' same ∙ moved.one in
          let u : m' (k z) ≡ j + 1 = ap m' (ap k same ∙ sym is_c) ∙ mid in
          grind (arith, nat_tests)
      | inr ne ↦
          let g : p' z ≡ i = ap p' e ∙ moved.other in
          let u : m' (k z) ≡ j + 1 = ap m' (ap k e ∙ k_y) ∙ mid in
          let v : p z ≡ j = ap p e ∙ p_y in
          let w : m (k z) ≡ j = ap m (ap k e ∙ k_y) ∙ sym is_j in
          let apart : i ≡ j → ⊥ = λ same. ne (e ∙ is_y ∙ ap o (sym same ∙ is_i) ∙ is.ordered x inside) in
          grind (arith, nat_tests)
    ])
    (λ ne ne'.
    let g = moved.others z ne ne' in
    let not_j : p z ≡ j → ⊥ = λ e. ne' (sym (is.ordered z z_in) ∙ ap o e ∙ sym is_y) in
    elim (cases_eq (k z) c) [
      | inl e ↦
          let u : m' (k z) ≡ j + 1 = ap m' e ∙ mid in
          let w : m (k z) ≡ j = ap m e ∙ sym is_j in
          grind (arith, nat_tests)
      | inr other ↦ let u = mids (k z) other in grind (arith, nat_tests)
    ])

-- ---- a class loses its marks

pub IsLayout-unmarked : (n count : ℕ) (o p k f m l m' : ℕ → ℕ) (c : ℕ) → IsLayout n count o p k f m l → m' c ≡ f c → ((d : ℕ) → (d ≡ c → ⊥) → m' d ≡ m d) → IsLayout n count o p k f m' l
IsLayout-unmarked n count o p k f m l m' c is mid mids = record {
  order_inside = is.order_inside;
  place_inside = is.place_inside;
  placed = is.placed;
  ordered = is.ordered;
  class_inside = is.class_inside;
  after_first = is.after_first;
  before_end = is.before_end;
  own = is.own;
  some = is.some;
  middle_low = λ d d_in. elim (cases_eq d c) [
    | inl e ↦ let g : m' d ≡ f d = ap m' e ∙ mid ∙ sym (ap f e) in omega arith
    | inr ne ↦ let g = mids d ne in let u = is.middle_low d d_in in omega arith
  ];
  middle_high = λ d d_in. elim (cases_eq d c) [
    | inl e ↦ let g : m' d ≡ f d = ap m' e ∙ mid ∙ sym (ap f e) in let u = is.some d d_in in omega arith
    | inr ne ↦ let g = mids d ne in let u = is.middle_high d d_in in omega arith
  ];
  end_inside = is.end_inside;
}

-- ---- a class is split

-- a part of the places of class c gets class `count`, and the class keeps the others
pub record IsParted (n count c : ℕ) (p k f m l k' f' m' l' : ℕ → ℕ) (first last kept_first kept_last : ℕ) : Type 0 where
  pub some : first < last
  pub kept_some : kept_first < kept_last
  pub low : f c ≤ first
  pub high : last ≤ l c
  pub kept_low : f c ≤ kept_first
  pub kept_high : kept_last ≤ l c
  pub cover : (i : ℕ) → f c ≤ i → i < l c → (i < first ⊎ (last ≤ i)) → (kept_first ≤ i) × (i < kept_last)
  pub apart : (i : ℕ) → kept_first ≤ i → i < kept_last → i < first ⊎ (last ≤ i)
  pub put : (z : ℕ) → z < n → first ≤ p z → p z < last → k' z ≡ count
  pub left : (z : ℕ) → z < n → (p z < first ⊎ (last ≤ p z)) → k' z ≡ k z
  pub new_first : f' count ≡ first
  pub new_middle : m' count ≡ first
  pub new_end : l' count ≡ last
  pub kept_is : f' c ≡ kept_first
  pub kept_middle : m' c ≡ kept_first
  pub kept_end : l' c ≡ kept_last
  pub firsts : (d : ℕ) → d < count → (d ≡ c → ⊥) → f' d ≡ f d
  pub middles : (d : ℕ) → d < count → (d ≡ c → ⊥) → m' d ≡ m d
  pub ends : (d : ℕ) → d < count → (d ≡ c → ⊥) → l' d ≡ l d

within : (i a b : ℕ) → ((a ≤ i) × (i < b)) ⊎ (i < a ⊎ (b ≤ i))
within i a b = elim (cases_lt i a) [ inl lt ↦ inr (inl lt) | inr ge ↦ elim (cases_lt i b) [ inl lt ↦ inl (ge, lt) | inr ge' ↦ inr (inr ge') ] ]

-- a class number below the count and one more is the count, or the class, or another
classes : {P : Type 0} (d count c : ℕ) → d < count + 1 → (d ≡ count → P) → (d ≡ c → d < count → P) → ((d ≡ c → ⊥) → d < count → P) → P
classes d count c below at_count at_c past = elim (cases_lt d count) [
  | inl lt ↦ elim (cases_eq d c) [ inl e ↦ at_c e lt | inr ne ↦ past ne lt ]
  | inr ge ↦ at_count (omega arith)
]

pub IsLayout-split : (n count c : ℕ) (o p k f m l k' f' m' l' : ℕ → ℕ) (first last kept_first kept_last : ℕ) → IsLayout n count o p k f m l → c < count
    → IsParted n count c p k f m l k' f' m' l' first last kept_first kept_last → IsLayout n (count + 1) o p k' f' m' l'
IsLayout-split n count c o p k f m l k' f' m' l' first last kept_first kept_last is c_in cut = record {
  order_inside = is.order_inside;
  place_inside = is.place_inside;
  placed = is.placed;
  ordered = is.ordered;
  class_inside = λ z h. elim (within (p z) first last) [
    | inl (a, b) ↦ let g = cut.put z h a b in omega arith
    | inr out ↦ let g = cut.left z h out in let u = is.class_inside z h in omega arith
  ];
  after_first = λ z h. elim (within (p z) first last) [
    | inl (a, b) ↦ let g = ap f' (cut.put z h a b) ∙ cut.new_first in omega arith
    | inr out ↦ elim (cases_eq (k z) c) [
      | inl e ↦
          let g : f' (k' z) ≡ kept_first = ap f' (cut.left z h out ∙ e) ∙ cut.kept_is in
          let low : f c ≤ p z = let u = is.after_first z h in let w = ap f e in omega arith in
          let high : p z < l c = let u = is.before_end z h in let w = ap l e in omega arith in
          let u = cut.cover (p z) low high out in
          let v = u.0 in omega arith
      | inr ne ↦
          let g : f' (k' z) ≡ f (k z) = ap f' (cut.left z h out) ∙ cut.firsts (k z) (is.class_inside z h) ne in
          let u = is.after_first z h in omega arith
    ]
  ];
  before_end = λ z h. elim (within (p z) first last) [
    | inl (a, b) ↦ let g = ap l' (cut.put z h a b) ∙ cut.new_end in omega arith
    | inr out ↦ elim (cases_eq (k z) c) [
      | inl e ↦
          let g : l' (k' z) ≡ kept_last = ap l' (cut.left z h out ∙ e) ∙ cut.kept_end in
          let low : f c ≤ p z = let u = is.after_first z h in let w = ap f e in omega arith in
          let high : p z < l c = let u = is.before_end z h in let w = ap l e in omega arith in
          let u = cut.cover (p z) low high out in
          let v = u.1 in omega arith
      | inr ne ↦
          let g : l' (k' z) ≡ l (k z) = ap l' (cut.left z h out) ∙ cut.ends (k z) (is.class_inside z h) ne in
          let u = is.before_end z h in omega arith
    ]
  ];
  own = λ d i d_in low high. classes d count c d_in
      (λ e.
      let a : first ≤ i = let u = ap f' e ∙ cut.new_first in omega arith in
      let b : i < last = let u = ap l' e ∙ cut.new_end in omega arith in
      let i_in : i < n = let u = is.end_inside c c_in in let v = cut.high in omega arith in
      let back = is.placed i i_in in
      cut.put (o i) (is.order_inside i i_in) (omega arith) (omega arith) ∙ sym e)
      (λ e lt.
      let a : kept_first ≤ i = let u = ap f' e ∙ cut.kept_is in omega arith in
      let b : i < kept_last = let u = ap l' e ∙ cut.kept_end in omega arith in
      let i_in : i < n = let u = is.end_inside c c_in in let v = cut.kept_high in omega arith in
      let back = is.placed i i_in in
      let out : p (o i) < first ⊎ (last ≤ p (o i)) = elim (cut.apart i a b) [ inl before ↦ inl (omega arith) | inr past ↦ inr (omega arith) ] in
      cut.left (o i) (is.order_inside i i_in) out ∙ is.own c i c_in (let v = cut.kept_low in omega arith) (let v = cut.kept_high in omega arith) ∙ sym e)
      (λ ne lt.
      let low' : f d ≤ i = let u = cut.firsts d lt ne in omega arith in
      let high' : i < l d = let u = cut.ends d lt ne in omega arith in
      let i_in : i < n = let u = is.end_inside d lt in omega arith in
      let back = is.placed i i_in in
      let own_d = is.own d i lt low' high' in
      elim (within (p (o i)) first last) [
        | inl (a, b) ↦
            let own_c = is.own c i c_in (let v = cut.low in omega arith) (let v = cut.high in omega arith) in
            absurd (ne (sym own_d ∙ own_c))
        | inr out ↦ cut.left (o i) (is.order_inside i i_in) out ∙ own_d
      ]);
  some = λ d d_in. classes d count c d_in
      (λ e. let u = ap f' e ∙ cut.new_first in let v = ap l' e ∙ cut.new_end in let w = cut.some in omega arith)
      (λ e lt. let u = ap f' e ∙ cut.kept_is in let v = ap l' e ∙ cut.kept_end in let w = cut.kept_some in omega arith)
      (λ ne lt. let u = cut.firsts d lt ne in let v = cut.ends d lt ne in let w = is.some d lt in omega arith);
  middle_low = λ d d_in. classes d count c d_in
      (λ e. let u = ap f' e ∙ cut.new_first in let v = ap m' e ∙ cut.new_middle in omega arith)
      (λ e lt. let u = ap f' e ∙ cut.kept_is in let v = ap m' e ∙ cut.kept_middle in omega arith)
      (λ ne lt. let u = cut.firsts d lt ne in let v = cut.middles d lt ne in let w = is.middle_low d lt in omega arith);
  middle_high = λ d d_in. classes d count c d_in
      (λ e. let u = ap m' e ∙ cut.new_middle in let v = ap l' e ∙ cut.new_end in let w = cut.some in omega arith)
      (λ e lt. let u = ap m' e ∙ cut.kept_middle in let v = ap l' e ∙ cut.kept_end in let w = cut.kept_some in omega arith)
      (λ ne lt. let u = cut.middles d lt ne in let v = cut.ends d lt ne in let w = is.middle_high d lt in omega arith);
  end_inside = λ d d_in. classes d count c d_in
      (λ e. let u = ap l' e ∙ cut.new_end in let v = cut.high in let w = is.end_inside c c_in in omega arith)
      (λ e lt. let u = ap l' e ∙ cut.kept_end in let v = cut.kept_high in let w = is.end_inside c c_in in omega arith)
      (λ ne lt. let u = cut.ends d lt ne in let w = is.end_inside d lt in omega arith);
}

-- ---- who is together

-- The class and the mark of a number before and after a split of class c by marks: where its mark is s it gets class `count`.
pub record IsPut (c count : ℕ) (s : Bool) (k : ℕ) (g : Bool) (k' : ℕ) (g' : Bool) : Type 0 where
  pub below : k < count
  pub parted : k ≡ c → g ≡ s → k' ≡ count
  pub kept : k ≡ c → g ≡ not s → k' ≡ c
  pub unmarked : k ≡ c → g' ≡ false
  pub others : (k ≡ c → ⊥) → (k' ≡ k) × (g' ≡ g)

bool_or : (g s : Bool) → (g ≡ s) ⊎ (g ≡ not s)
bool_or true true = inl refl
bool_or true false = inr refl
bool_or false true = inr refl
bool_or false false = inl refl

pub together-put : (c count : ℕ) (s : Bool) (k j : ℕ) (g h : Bool) (k' j' : ℕ) (g' h' : Bool) → c < count → IsPut c count s k g k' g' → IsPut c count s j h j' h'
    → ((k' ≡ j') × (g' ≡ h')) ↔ ((k ≡ j) × (g ≡ h))
together-put c count s k j g h k' j' g' h' c_in one other = (
  λ (e, e').
      elim (cases_eq k c) [
        | inl kc ↦ elim (cases_eq j c) [
          | inl jc ↦ (
            kc ∙ sym jc,
            elim (bool_or g s) [
              | inl gs ↦ elim (bool_or h s) [
                | inl hs ↦ gs ∙ sym hs
                | inr hn ↦ let u = one.parted kc gs in let v = other.kept jc hn in absurd (omega arith)
              ]
              | inr gn ↦ elim (bool_or h s) [
                | inl hs ↦ let u = one.kept kc gn in let v = other.parted jc hs in absurd (omega arith)
                | inr hn ↦ gn ∙ sym hn
              ]
            ],
          )
          | inr jn ↦
              let v = other.others jn in
              let v0 = v.0 in
              let w = other.below in
              elim (bool_or g s) [
                | inl gs ↦ let u = one.parted kc gs in absurd (omega arith)
                | inr gn ↦ let u = one.kept kc gn in absurd (jn (omega arith))
              ]
        ]
        | inr kn ↦
            let u = one.others kn in
            let u0 = u.0 in
            let w = one.below in
            elim (cases_eq j c) [
              | inl jc ↦ elim (bool_or h s) [
                | inl hs ↦ let v = other.parted jc hs in absurd (omega arith)
                | inr hn ↦ let v = other.kept jc hn in absurd (kn (omega arith))
              ]
              | inr jn ↦ let v = other.others jn in (sym u.0 ∙ e ∙ v.0, sym u.1 ∙ e' ∙ v.1)
            ]
      ],
  λ (e, e').
      elim (cases_eq k c) [
        | inl kc ↦
            let jc : j ≡ c = sym e ∙ kc in
            let marks : g' ≡ h' = one.unmarked kc ∙ sym (other.unmarked jc) in
            elim (bool_or g s) [
              | inl gs ↦ (one.parted kc gs ∙ sym (other.parted jc (sym e' ∙ gs)), marks)
              | inr gn ↦ (one.kept kc gn ∙ sym (other.kept jc (sym e' ∙ gn)), marks)
            ]
        | inr kn ↦
            let jn : j ≡ c → ⊥ = λ jc. kn (e ∙ jc) in
            let u = one.others kn in
            let v = other.others jn in
            (u.0 ∙ e ∙ sym v.0, u.1 ∙ e' ∙ sym v.1)
      ],
)

-- The class and the mark of a number before and after a class with one mark for all loses it.
pub record IsLeft (c : ℕ) (s : Bool) (k : ℕ) (g : Bool) (k' : ℕ) (g' : Bool) : Type 0 where
  pub same : k' ≡ k
  pub all : k ≡ c → g ≡ s
  pub unmarked : k ≡ c → g' ≡ false
  pub others : (k ≡ c → ⊥) → g' ≡ g

pub together-left : (c : ℕ) (s : Bool) (k j : ℕ) (g h : Bool) (k' j' : ℕ) (g' h' : Bool) → IsLeft c s k g k' g' → IsLeft c s j h j' h'
    → ((k' ≡ j') × (g' ≡ h')) ↔ ((k ≡ j) × (g ≡ h))
together-left c s k j g h k' j' g' h' one other = (
  λ (e, e').
      let same : k ≡ j = sym one.same ∙ e ∙ other.same in (
        same,
        elim (cases_eq k c) [
          | inl kc ↦ one.all kc ∙ sym (other.all (sym same ∙ kc))
          | inr kn ↦ sym (one.others kn) ∙ e' ∙ other.others (λ jc. kn (same ∙ jc))
        ],
      ),
  λ (e, e'). (
    one.same ∙ e ∙ sym other.same,
    elim (cases_eq k c) [
      | inl kc ↦ one.unmarked kc ∙ sym (other.unmarked (sym e ∙ kc))
      | inr kn ↦ one.others kn ∙ e' ∙ sym (other.others (λ jc. kn (e ∙ jc)))
    ],
  ),
)
