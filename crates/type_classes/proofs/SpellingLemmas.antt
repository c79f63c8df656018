-- A spelling tells what it spells, and where it ends.
use Rattle.std.proofs.Common.{◌≡◌, ◌+◌, ◌*◌, ◌<◌, ℕ, eqb, Bool, true, false, List, [], ◌∷◌, ◌++◌, length, map, refl, sym, ◌∙◌, ap, arith, append_assoc}
use Rattle.std.specs.Prelude.{◌↔◌, flat_map}
use Rattle.std.proofs.lemmas.Bool.{eq-eqb, false≢true}
use Rattle.std.proofs.lemmas.List.{length-map}
use Rattle.abi_base.proofs.lemmas.Lists.{append_none}
use Rattle.abi_types.specs.declared.kind.Kind.{Kind}
use Rattle.abi_types.specs.declared.kind.Kind.TheVariants as kind
use Rattle.abi_types.specs.declared.kind.Group.{Group}
use Rattle.abi_types.specs.declared.kind.Group.TheVariants as group
use Rattle.abi_types.specs.declared.kind.LabelKind.{LabelKind}
use Rattle.abi_types.specs.declared.kind.LabelKind.TheVariants as label
use Rattle.abi_types.specs.declared.place.CallShape.{CallShape}
use Rattle.abi_types.specs.Types.{PlainPart, Member, Enumerator, Target, Element, Outcome, Param, PlainView, PlainLabel, PlainNode}
use Rattle.pair_rules.specs.Same.{kind_number, group_number, same_kind, same_group}
use Rattle.abi_types.specs.ClassLooks.{part_seen, view_seen, Look, shape_of}
use Rattle.type_classes.specs.Shapes.{label_number, head_number, truth_number, spelled_list, spelled_call, spelled_part, spelled_label, spelled_numbers, spelled_view, spelled, letters_of_label, letters_of_part, letters_of}
use Rattle.type_classes.proofs.SpelledLists.{TellBoth, digits_tell, list_both, name_tells, same_map}
use Rattle.type_classes.proofs.SpelledPlaces.{call_tells}

-- ---- parts and labels

part_tag : PlainPart → ℕ
part_tag (Member name bit width to) = 0
part_tag (Enumerator name value) = 1
part_tag (Target to) = 2
part_tag (Element to) = 3
part_tag (Outcome to) = 4
part_tag (Param to) = 5

part_rest : PlainPart → List ℕ
part_rest (Member name bit width to) = length name ∷ bit ∷ width ∷ []
part_rest (Enumerator name value) = length name ∷ value ∷ []
part_rest other = []

part_is : (p : PlainPart) (s : List ℕ) → spelled_part p ++ s ≡ part_tag p ∷ (part_rest p ++ s)
unfolding part_tag part_rest spelled_part
part_is (Member name bit width to) s = refl
part_is (Enumerator name value) s = refl
part_is (Target to) s = refl
part_is (Element to) s = refl
part_is (Outcome to) s = refl
part_is (Param to) s = refl

part_same : (p q : PlainPart) (s t u v : List ℕ) → eqb (part_tag p) (part_tag q) ≡ true → part_rest p ++ s ≡ part_rest q ++ t → letters_of_part p ++ u ≡ letters_of_part q ++ v → (part_seen (λ _. 0) p ≡ part_seen (λ _. 0) q) × (s ≡ t) × (u ≡ v)
unfolding part_tag part_rest
part_same (Member m b w to) (Member n c x to') s t u v tags rest letters =
    let lens : length m ≡ length n = cc in
    let bits : b ≡ c = cc in
    let widths : w ≡ x = cc in
    let (names, after) = name_tells m n u v lens letters in
    (let k : part_seen (λ _. 0) (Member m b w to) ≡ part_seen (λ _. 0) (Member n c x to') = cc in k, let k : s ≡ t = cc in k, after)
part_same (Enumerator m a) (Enumerator n b) s t u v tags rest letters =
    let lens : length m ≡ length n = cc in
    let values : a ≡ b = cc in
    let (names, after) = name_tells m n u v lens letters in
    (let k : part_seen (λ _. 0) (Enumerator m a) ≡ part_seen (λ _. 0) (Enumerator n b) = cc in k, let k : s ≡ t = cc in k, after)
part_same (Target to) (Target to') s t u v tags rest letters = (refl, rest, letters)
part_same (Element to) (Element to') s t u v tags rest letters = (refl, rest, letters)
part_same (Outcome to) (Outcome to') s t u v tags rest letters = (refl, rest, letters)
part_same (Param to) (Param to') s t u v tags rest letters = (refl, rest, letters)
part_same _ _ s t u v tags rest letters = absurd (false≢true tags)

part_tells : TellBoth spelled_part letters_of_part (part_seen (λ _. 0))
part_tells p q s t u v e letters =
    let both : part_tag p ∷ (part_rest p ++ s) ≡ part_tag q ∷ (part_rest q ++ t) = sym (part_is p s) ∙ e ∙ part_is q t in
    let tags : part_tag p ≡ part_tag q = cc in
    let rest : part_rest p ++ s ≡ part_rest q ++ t = cc in
    part_same p q s t u v (eq-eqb (part_tag p) (part_tag q) tags) rest letters

label_same : (k l : LabelKind) → eqb (label_number k) (label_number l) ≡ true → k ≡ l
label_same label.Structure label.Structure e = refl
label_same label.Union label.Union e = refl
label_same label.Enumeration label.Enumeration e = refl
label_same label.Typedef label.Typedef e = refl
label_same label.Builtin label.Builtin e = refl
label_same _ _ e = absurd (false≢true e)

label_tells : TellBoth spelled_label letters_of_label (λ l. l)
label_tells k l s t u v e letters =
    let numbers : label_number k.kind ≡ label_number l.kind = cc in
    let lens : length k.name ≡ length l.name = cc in
    let rest : s ≡ t = cc in
    let kinds = label_same k.kind l.kind (eq-eqb (label_number k.kind) (label_number l.kind) numbers) in
    let (names, after) = name_tells k.name l.name u v lens letters in
    let made : LabelKind → List ℕ → PlainLabel = λ kind name. record { kind = kind; name = name } in
    (ap (λ (kind : LabelKind). made kind k.name) kinds ∙ ap (λ (name : List ℕ). made l.kind name) names, rest, after)

-- ---- views

truth_same : (a b : Bool) → eqb (truth_number a) (truth_number b) ≡ true → a ≡ b
truth_same true true e = refl
truth_same false false e = refl
truth_same _ _ e = absurd (false≢true e)

kind_small : (k : Kind) → kind_number k < 9
kind_small kind.Void = omega arith
kind_small kind.Scalar = omega arith
kind_small kind.Pointer = omega arith
kind_small kind.Enumeration = omega arith
kind_small kind.Structure = omega arith
kind_small kind.Union = omega arith
kind_small kind.Array = omega arith
kind_small kind.Vector = omega arith
kind_small kind.Function = omega arith

group_small : (g : Group) → group_number g < 7
group_small group.Bool = omega arith
group_small group.Signed = omega arith
group_small group.Unsigned = omega arith
group_small group.Float = omega arith
group_small group.Quad = omega arith
group_small group.Complex = omega arith
group_small group.Decimal = omega arith

truth_small : (b : Bool) → truth_number b < 2
truth_small true = omega arith
truth_small false = omega arith

heads_tell : (k l : Kind) (g h : Group) (a b c d : Bool) → head_number k g a c ≡ head_number l h b d
    → (kind_number k ≡ kind_number l) × (group_number g ≡ group_number h) × (truth_number a ≡ truth_number b) × (truth_number c ≡ truth_number d)
heads_tell k l g h a b c d e =
    let first : (group_number g + 7 * truth_number a + 14 * truth_number c) * 9 + kind_number k ≡ (group_number h + 7 * truth_number b + 14 * truth_number d) * 9 + kind_number l = omega (arith, e) in
    let (more, kinds) = digits_tell 9 (group_number g + 7 * truth_number a + 14 * truth_number c) (group_number h + 7 * truth_number b + 14 * truth_number d) (kind_number k) (kind_number l) (kind_small k) (kind_small l) first in
    let second : (truth_number a + 2 * truth_number c) * 7 + group_number g ≡ (truth_number b + 2 * truth_number d) * 7 + group_number h = omega (arith, more) in
    let (last, groups) = digits_tell 7 (truth_number a + 2 * truth_number c) (truth_number b + 2 * truth_number d) (group_number g) (group_number h) (group_small g) (group_small h) second in
    let third : truth_number c * 2 + truth_number a ≡ truth_number d * 2 + truth_number b = omega (arith, last) in
    let (variadics, declared) = digits_tell 2 (truth_number c) (truth_number d) (truth_number a) (truth_number b) (truth_small a) (truth_small b) third in
    (kinds, groups, declared, variadics)

made_view : Kind → Bool → List ℕ → ℕ → Group → ℕ → ℕ → Bool → List PlainPart → CallShape → PlainView
made_view kind declared_only tag size group align count variadic parts call = record {
  kind = kind;
  declared_only = declared_only;
  tag = tag;
  size = size;
  group = group;
  align = align;
  count = count;
  variadic = variadic;
  parts = parts;
  call = call;
}

view_seen-made : (v : PlainView) → view_seen (λ _. 0) v ≡ made_view v.kind v.declared_only v.tag v.size v.group v.align v.count v.variadic (map (part_seen (λ _. 0)) v.parts) v.call
unfolding view_seen made_view
view_seen-made v = refl

view_is : (v : PlainView) (s : List ℕ) → spelled_view v ++ s ≡ spelled_numbers v ++ (spelled_list spelled_part v.parts ++ (spelled_call v.call ++ s))
unfolding spelled_view
view_is v s =
    append_assoc (spelled_numbers v ++ spelled_list spelled_part v.parts) (spelled_call v.call) s
    ∙ append_assoc (spelled_numbers v) (spelled_list spelled_part v.parts) (spelled_call v.call ++ s)

abbrev letters_of_view : PlainView → List ℕ
letters_of_view v = v.tag ++ flat_map letters_of_part v.parts

-- what the law of kinds and groups says: those of one number are one
pub record AreTold : Type 0 where
  pub kinds : (a b : Kind) → (same_kind a b ≡ true) ↔ (a ≡ b)
  pub groups : (a b : Group) → (same_group a b ≡ true) ↔ (a ≡ b)

made_same : (v w : PlainView) → v.kind ≡ w.kind → v.declared_only ≡ w.declared_only → v.tag ≡ w.tag → v.size ≡ w.size → v.group ≡ w.group → v.align ≡ w.align → v.count ≡ w.count → v.variadic ≡ w.variadic
    → map (part_seen (λ _. 0)) v.parts ≡ map (part_seen (λ _. 0)) w.parts → v.call ≡ w.call → view_seen (λ _. 0) v ≡ view_seen (λ _. 0) w
made_same v w kinds declared tags sizes groups aligns counts variadics parts calls =
    let made : made_view v.kind v.declared_only v.tag v.size v.group v.align v.count v.variadic (map (part_seen (λ _. 0)) v.parts) v.call ≡ made_view w.kind w.declared_only w.tag w.size w.group w.align w.count w.variadic (map (part_seen (λ _. 0)) w.parts) w.call = cc in
    view_seen-made v ∙ made ∙ sym (view_seen-made w)

view_tells : AreTold → TellBoth spelled_view letters_of_view (view_seen (λ _. 0))
view_tells told v w s t u x e letters =
    let rest_v : List ℕ = spelled_list spelled_part v.parts ++ (spelled_call v.call ++ s) in
    let rest_w : List ℕ = spelled_list spelled_part w.parts ++ (spelled_call w.call ++ t) in
    let both : spelled_numbers v ++ rest_v ≡ spelled_numbers w ++ rest_w = sym (view_is v s) ∙ e ∙ view_is w t in
    let heads : head_number v.kind v.group v.declared_only v.variadic ≡ head_number w.kind w.group w.declared_only w.variadic = cc in
    let (kinds, groups, declared, variadics) = heads_tell v.kind w.kind v.group w.group v.declared_only w.declared_only v.variadic w.variadic heads in
    let sizes : v.size ≡ w.size = cc in
    let aligns : v.align ≡ w.align = cc in
    let counts : v.count ≡ w.count = cc in
    let lens : length v.tag ≡ length w.tag = cc in
    let rest : rest_v ≡ rest_w = cc in
    let names : v.tag ++ (flat_map letters_of_part v.parts ++ u) ≡ w.tag ++ (flat_map letters_of_part w.parts ++ x) = sym (append_assoc v.tag (flat_map letters_of_part v.parts) u) ∙ letters ∙ append_assoc w.tag (flat_map letters_of_part w.parts) x in
    let (tags, names1) = name_tells v.tag w.tag (flat_map letters_of_part v.parts ++ u) (flat_map letters_of_part w.parts ++ x) lens names in
    let (parts, rest1, names2) = list_both spelled_part letters_of_part (part_seen (λ _. 0)) part_tells v.parts w.parts (spelled_call v.call ++ s) (spelled_call w.call ++ t) u x rest names1 in
    let (calls, after) = call_tells v.call w.call s t rest1 in (
      made_same v w ((told.kinds v.kind w.kind).0 (eq-eqb (kind_number v.kind) (kind_number w.kind) kinds)) (truth_same v.declared_only w.declared_only (eq-eqb (truth_number v.declared_only) (truth_number w.declared_only) declared)) tags sizes
          ((told.groups v.group w.group).0 (eq-eqb (group_number v.group) (group_number w.group) groups)) aligns counts (truth_same v.variadic w.variadic (eq-eqb (truth_number v.variadic) (truth_number w.variadic) variadics)) parts calls,
      after,
      names2,
    )

look_tells : AreTold → TellBoth spelled letters_of (λ l. let made : Look = record { labels = l.labels; view = view_seen (λ _. 0) l.view } in made)
unfolding spelled letters_of
look_tells told k l s t u v e letters =
    let numbers : spelled_list spelled_label k.labels ++ (spelled_view k.view ++ s) ≡ spelled_list spelled_label l.labels ++ (spelled_view l.view ++ t) =
    sym (append_assoc (spelled_list spelled_label k.labels) (spelled_view k.view) s) ∙ e ∙ append_assoc (spelled_list spelled_label l.labels) (spelled_view l.view) t in
    let names : flat_map letters_of_label k.labels ++ (letters_of_view k.view ++ u) ≡ flat_map letters_of_label l.labels ++ (letters_of_view l.view ++ v) = sym (letters_is k u) ∙ letters ∙ letters_is l v in
    let (labels, rest, more) = list_both spelled_label letters_of_label (λ (x : PlainLabel). x) label_tells k.labels l.labels (spelled_view k.view ++ s) (spelled_view l.view ++ t) (letters_of_view k.view ++ u) (letters_of_view l.view ++ v) numbers names in
    let (views, after, last) = view_tells told k.view l.view s t u v rest more in
    let made : List PlainLabel → PlainView → Look = λ ls v. record { labels = ls; view = v } in
    (ap (λ (ls : List PlainLabel). made ls (view_seen (λ _. 0) k.view)) (sym (same_map k.labels) ∙ labels ∙ same_map l.labels) ∙ ap (λ (v : PlainView). made l.labels v) views, after, last)
  where
    letters_is : (k : Look) (u : List ℕ) → (flat_map letters_of_label k.labels ++ k.view.tag ++ flat_map letters_of_part k.view.parts) ++ u ≡ flat_map letters_of_label k.labels ++ (letters_of_view k.view ++ u)
    letters_is k u =
        append_assoc (flat_map letters_of_label k.labels ++ k.view.tag) (flat_map letters_of_part k.view.parts) u
        ∙ append_assoc (flat_map letters_of_label k.labels) k.view.tag (flat_map letters_of_part k.view.parts ++ u)
        ∙ ap (λ (xs : List ℕ). flat_map letters_of_label k.labels ++ xs) (sym (append_assoc k.view.tag (flat_map letters_of_part k.view.parts) u))

-- ---- equal shapes are spelled alike

part_unseen : (p : PlainPart) → spelled_part (part_seen (λ _. 0) p) ≡ spelled_part p
unfolding spelled_part
part_unseen (Member name bit width to) = refl
part_unseen (Enumerator name value) = refl
part_unseen (Target to) = refl
part_unseen (Element to) = refl
part_unseen (Outcome to) = refl
part_unseen (Param to) = refl

parts_unseen : (ps : List PlainPart) → flat_map spelled_part (map (part_seen (λ _. 0)) ps) ≡ flat_map spelled_part ps
parts_unseen [] = refl
parts_unseen (p ∷ ps) = rw (part_unseen p, parts_unseen ps) refl

list_unseen : (ps : List PlainPart) → spelled_list spelled_part (map (part_seen (λ _. 0)) ps) ≡ spelled_list spelled_part ps
unfolding spelled_list
list_unseen ps = ap (λ (n : ℕ). n ∷ flat_map spelled_part (map (part_seen (λ _. 0)) ps)) (length-map ps (part_seen (λ _. 0))) ∙ ap (λ (ns : List ℕ). length ps ∷ ns) (parts_unseen ps)

view_unseen : (v : PlainView) → spelled_view (view_seen (λ _. 0) v) ≡ spelled_view v
unfolding spelled_view view_seen
view_unseen v = ap (λ (ns : List ℕ). spelled_numbers v ++ ns ++ spelled_call v.call) (list_unseen v.parts)

-- the look of a node as it stands
abbrev pub own_look : PlainNode → Look
own_look n = record { labels = n.labels; view = n.view }

shape_unseen : (n : PlainNode) → spelled (shape_of n) ≡ spelled (own_look n)
unfolding spelled
shape_unseen n = ap (λ (ns : List ℕ). spelled_list spelled_label n.labels ++ ns) (view_unseen n.view)

letters_of_part-seen : (p : PlainPart) → letters_of_part (part_seen (λ _. 0) p) ≡ letters_of_part p
letters_of_part-seen (Member name bit width to) = refl
letters_of_part-seen (Enumerator name value) = refl
letters_of_part-seen (Target to) = refl
letters_of_part-seen (Element to) = refl
letters_of_part-seen (Outcome to) = refl
letters_of_part-seen (Param to) = refl

letters-seen : (ps : List PlainPart) → flat_map letters_of_part (map (part_seen (λ _. 0)) ps) ≡ flat_map letters_of_part ps
letters-seen [] = refl
letters-seen (p ∷ ps) = rw (letters_of_part-seen p, letters-seen ps) refl

letters_unseen : (n : PlainNode) → letters_of (shape_of n) ≡ letters_of (own_look n)
unfolding letters_of view_seen
letters_unseen n = ap (λ (ls : List ℕ). flat_map letters_of_label n.labels ++ n.view.tag ++ ls) (letters-seen n.view.parts)

-- nodes are spelled alike
pub record AreSpelledAlike (m n : PlainNode) : Type 0 where
  pub numbers : spelled (own_look m) ≡ spelled (own_look n)
  pub letters : letters_of (own_look m) ≡ letters_of (own_look n)

pub same_from_spelling : AreTold → (m n : PlainNode) → AreSpelledAlike m n → shape_of m ≡ shape_of n
same_from_spelling told m n e = (look_tells told (own_look m) (own_look n) [] [] [] []
    (append_none (spelled (own_look m)) ∙ e.numbers ∙ sym (append_none (spelled (own_look n))))
    (append_none (letters_of (own_look m)) ∙ e.letters ∙ sym (append_none (letters_of (own_look n))))).0

pub spelling_from_same : (m n : PlainNode) → shape_of m ≡ shape_of n → AreSpelledAlike m n
spelling_from_same m n e = record {
  numbers = sym (shape_unseen m) ∙ ap spelled e ∙ shape_unseen n;
  letters = sym (letters_unseen m) ∙ ap letters_of e ∙ letters_unseen n;
}
