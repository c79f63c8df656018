-- The least symbol number at which the bind lines are wrong, by two passes: over the exports, and over the lines.
use Rattle.std.proofs.Common.{◌≡◌, ◌<◌, ◌≤◌, ◌+◌, ◌-◌, ◌^◌, ◌==◌, not, nat_lt, Bool, true, false, ℕ, suc, map, List, [], ◌∷◌, ◌++◌, length, get_or, slice_get, Option, Some, None, refl, sym, ◌∙◌, ap, subst, arith, inl, inr}
use Rattle.std.proofs.lemmas.Bool.{cases_lt, lt-ltb, cases_Bool, ltb-true, eqb-true, eq-eqb}
use Rattle.std.proofs.lemmas.Option.{same_Some, none-some, slice_get_within, get_or_from_slice_get, slice_get-get_or, slice_get-map}
use Rattle.std.proofs.lemmas.List.{length-map}
use Rattle.std.specs.List.{range_with_len, AllByRecursion, HoldsAt, AllWithin}
use Rattle.abi_types.specs.Exports.{PlainExport}
use Rattle.abi_types.specs.declared.export.Export.{Export}
use Rattle.abi_types.specs.declared.export.SymbolKind.TheVariants.{NoType}
use Rattle.abi_types.specs.Plain.{plain_export, plain_exports}
use Rattle.cert_check.proofs.Search.{line_found, searchable}
use Rattle.std.specs.Prelude.{◌↔◌, slice_index_or}
use Rattle.std.specs.Option.{option_map}
use Rattle.std.specs.Cmp.{nat_cmp_is}
use Rattle.std.specs.List.Sorted.{IsNonDecreasingBy}
use Rattle.cert_check.specs.declared.refused.Refused.{Refused}
use Rattle.abi_types.specs.Limits.{symbol_limit}
use Rattle.abi_types.specs.Libraries.{AreNumbered}
use Rattle.std.specs.Ordering.{nat_cmp, ordering_index}
use Rattle.std.specs.declared.cmp.Ordering.TheVariants.{Less, Equal, Greater}
use Rattle.std.proofs.lemmas.Cmp.{ranked, nat_cmp_total}
use Rattle.abi_base.proofs.lemmas.Bools.{not_is_true}
use Rattle.cert_text.specs.Certs.{Ascend, first_cmp}
use Rattle.cert_check.specs.Compatible.{IsCompared, bound}
use Rattle.cert_check.specs.Accepted.{Case, Place, Binding, Keeps, HasBinding, KeepsBinding, each, binding_places, refused, line_of}
use Rattle.cert_check.specs.Bindings.{AreBound, AreOwned, IsOwned, IsWrongAt, IsFirstUnbound, IsFirstUnowned, FindsUnbound, FindsUnowned, least}
use Rattle.cert_check.proofs.First.{each-from}
use Rattle.cert_check.proofs.Lines.{line_of-some}
use Rattle.cert_check.proofs.PairLemmas.{RefusalOrder, from_zero}

-- below a number, each compared export has its line, and each line its export
pub record AreKeptBelow (c : Case) (s : ℕ) : Type 0 where
  pub exports : AreBound c s
  pub lines : AreOwned c s

pub kept_below : (c : Case) (s symbol : ℕ) → AreKeptBelow c s → symbol < s → KeepsBinding c symbol
kept_below c s symbol below lt = record {
  bound = λ k e compared is. subst (λ (n : ℕ). HasBinding c n e) is (below.exports k e compared (omega (arith, is)));
  owned = λ j is. let line = line_of-some c.cert.binds symbol j is in below.lines line.place symbol j line.at lt;
}

pub all_kept : (c : Case) → AreKeptBelow c symbol_limit → AllByRecursion (Keeps c) binding_places
unfolding binding_places
all_kept c below = each-from (Keeps c) Binding 0 symbol_limit (λ k from lt. kept_below c symbol_limit k below (omega arith))

map_places : (xs ys : List ℕ) → map Binding (xs ++ ys) ≡ map Binding xs ++ map Binding ys
map_places [] ys = refl
map_places (x ∷ xs) ys = ap (λ (ps : List Place). Binding x ∷ ps) (map_places xs ys)

-- what is wrong at a number, below which all is right, is the least
pub told_at_symbol : (c : Case) (s : ℕ) (answer : Refused) → AreKeptBelow c s → s < symbol_limit → (KeepsBinding c s → ⊥) → answer ≡ refused c (Binding s) → RefusalOrder c binding_places answer
unfolding binding_places
told_at_symbol c s answer below lt fails is =
    let m : ℕ = symbol_limit - s - 1 in
    let e : symbol_limit ≡ s + suc m = omega arith in
    let whole : each Binding symbol_limit ≡ each Binding s ++ (Binding s ∷ map Binding (range_with_len (s + 1) m)) =
    ap (λ (n : ℕ). each Binding n) e ∙ ap (map Binding) (from_zero s (suc m)) ∙ map_places (range_with_len 0 s) (range_with_len s (suc m)) in
    subst (λ (ps : List Place). RefusalOrder c ps answer) (sym whole) (
      Binding s,
      record {
        before = each Binding s;
        after = map Binding (range_with_len (s + 1) m);
        stands = refl;
        kept = each-from (Keeps c) Binding 0 s (λ k from below_s. kept_below c s k below (omega arith));
        fails = fails;
      },
      is,
    )

-- ---- the lesser of two

not_less : (m n : ℕ) → n ≤ m → nat_lt m n ≡ false
not_less m n past = elim (cases_Bool (nat_lt m n)) [
  | inl less ↦ absurd (omega (arith, ltb-true m n less, past))
  | inr other ↦ other
]

pub bindings_kept : (c : Case) (one other : Option ℕ) → FindsUnbound c one → FindsUnowned c other → least one other ≡ None → AllByRecursion (Keeps c) binding_places
bindings_kept c None None unbound unowned is = all_kept c (record { exports = unbound; lines = unowned })
bindings_kept c None (Some n) unbound unowned is = cc
bindings_kept c (Some m) None unbound unowned is = cc
bindings_kept c (Some m) (Some n) unbound unowned is = not_least m n (nat_lt m n) refl is where
  not_least : (m n : ℕ) (b : Bool) → nat_lt m n ≡ b → least (Some m) (Some n) ≡ None → AllByRecursion (Keeps c) binding_places
  not_least m n true less none = absurd (none-some m (sym none ∙ rw less refl))
  not_least m n false past none = absurd (none-some n (sym none ∙ rw past refl))

bound_below : (c : Case) (s t : ℕ) → s ≤ t → AreBound c t → AreBound c s
bound_below c s t le all k e compared lt = all k e compared (omega (arith, lt, le))

owned_below : (c : Case) (s t : ℕ) → s ≤ t → AreOwned c t → AreOwned c s
owned_below c s t le all k n m at lt = all k n m at (omega (arith, lt, le))

wrong_at : (c : Case) (s : ℕ) (answer : Refused) → AreBound c s → AreOwned c s → IsWrongAt c s → answer ≡ refused c (Binding s) → RefusalOrder c binding_places answer
wrong_at c s answer bound owned wrong is = told_at_symbol c s answer (record { exports = bound; lines = owned }) wrong.below wrong.fails is

pub bindings_told : (c : Case) (one other : Option ℕ) (s : ℕ) (answer : Refused) → FindsUnbound c one → FindsUnowned c other → least one other ≡ Some s → answer ≡ refused c (Binding s) → RefusalOrder c binding_places answer
bindings_told c None None s answer unbound unowned is answered = absurd (none-some s is)
bindings_told c None (Some n) s answer unbound unowned is answered =
    let e : n ≡ s = same_Some n s is in
    let here : IsFirstUnowned c s = subst (IsFirstUnowned c) e unowned in
    wrong_at c s answer (bound_below c s symbol_limit (omega (arith, here.wrong.below)) unbound) here.before here.wrong answered
bindings_told c (Some m) None s answer unbound unowned is answered =
    let e : m ≡ s = same_Some m s is in
    let here : IsFirstUnbound c s = subst (IsFirstUnbound c) e unbound in
    wrong_at c s answer here.before (owned_below c s symbol_limit (omega (arith, here.wrong.below)) unowned) here.wrong answered
bindings_told c (Some m) (Some n) s answer unbound unowned is answered = elim (cases_lt m n) [
  | inl less ↦
      let test = lt-ltb m n less in
      let e : m ≡ s = same_Some m s (sym (let t : least (Some m) (Some n) ≡ Some m = rw test refl in t) ∙ is) in
      let here : IsFirstUnbound c s = subst (IsFirstUnbound c) e unbound in
      wrong_at c s answer here.before (owned_below c s n (omega (arith, less, e)) unowned.before) here.wrong answered
  | inr past ↦
      let test : nat_lt m n ≡ false = not_less m n past in
      let e : n ≡ s = same_Some n s (sym (let t : least (Some m) (Some n) ≡ Some n = rw test refl in t) ∙ is) in
      let here : IsFirstUnowned c s = subst (IsFirstUnowned c) e unowned in
      wrong_at c s answer (bound_below c s m (omega (arith, past, e)) unbound.before) here.before here.wrong answered
]

-- ---- exports, one after the other

module _ (c : Case) (numbered : AreNumbered c.sides.old.exports) where
  -- the exports before a position keep their lines
  abbrev pub AreBoundBefore : ℕ → Type 0
  AreBoundBefore k = (j : ℕ) (e : PlainExport) → j < k → IsCompared c.sides j e → HasBinding c e.symbol e

  pub all_bound : (n : ℕ) → length c.sides.old.exports ≤ n → AreBoundBefore n → AreBound c symbol_limit
  all_bound n past before k e compared lt = before k e (omega (arith, past, slice_get_within c.sides.old.exports k e compared.at)) compared

  earlier : (k j : ℕ) (e f : PlainExport) → slice_get c.sides.old.exports k ≡ Some e → slice_get c.sides.old.exports j ≡ Some f → f.symbol < e.symbol → j < k
  earlier k j e f at there less = elim (cases_lt j k) [
    | inl before ↦ before
    | inr past ↦ elim (cases_lt k j) [
      | inl after ↦ absurd (omega (arith, numbered.ascend k j e f after at there, less))
      | inr same ↦
          let i : k ≡ j = omega (arith, past, same) in
          let g : e ≡ f = same_Some e f (sym at ∙ ap (slice_get c.sides.old.exports) i ∙ there) in
          absurd (omega (arith, less, ap (λ (x : PlainExport). x.symbol) g))
    ]
  ]

  pub first_unbound : (k : ℕ) (e : PlainExport) → IsCompared c.sides k e → AreBoundBefore k → (HasBinding c e.symbol e → ⊥) → IsFirstUnbound c e.symbol
  first_unbound k e compared before fails = record {
    before = λ j f other less. before j f (earlier k j e f compared.at other.at less) other;
    wrong = record {
      below = numbered.below k e compared.at;
      fails = λ keeps. fails (keeps.bound k e compared refl);
    };
  }

-- ---- lines, one after the other

module _ (c : Case) (ascend : Ascend first_cmp c.cert.binds) where
  abbrev pub AreOwnedBefore : ℕ → Type 0
  AreOwnedBefore k = (j n m : ℕ) → j < k → slice_get c.cert.binds j ≡ Some (n, m) → IsOwned c n

  pub all_owned : (n : ℕ) → length c.cert.binds ≤ n → AreOwnedBefore n → AreOwned c symbol_limit
  all_owned n past before k m l at lt = before k m l (omega (arith, past, slice_get_within c.cert.binds k (m, l) at)) at

  line_less : (k j : ℕ) (x y : ℕ × ℕ) → slice_get c.cert.binds k ≡ Some x → slice_get c.cert.binds j ≡ Some y → k < j → x.0 < y.0
  line_less k j x y at there less =
      let inside = slice_get_within c.cert.binds j y there in
      let e = ascend k j x less inside in
      let one : get_or c.cert.binds k x ≡ x = get_or_from_slice_get c.cert.binds k x x at in
      let other : get_or c.cert.binds j x ≡ y = get_or_from_slice_get c.cert.binds j y x there in
      ranked x.0 y.0 Less (sym (ap (λ (z : ℕ × ℕ). nat_cmp x.0 z.0) (sym other) ∙ ap (λ (z : ℕ × ℕ). nat_cmp z.0 (get_or c.cert.binds j x).0) (sym one) ∙ e))

  line_earlier : (k j : ℕ) (x y : ℕ × ℕ) → slice_get c.cert.binds k ≡ Some x → slice_get c.cert.binds j ≡ Some y → y.0 < x.0 → j < k
  line_earlier k j x y at there less = elim (cases_lt j k) [
    | inl before ↦ before
    | inr past ↦ elim (cases_lt k j) [
      | inl after ↦ absurd (omega (arith, line_less k j x y at there after, less))
      | inr same ↦
          let i : k ≡ j = omega (arith, past, same) in
          let g : x ≡ y = same_Some x y (sym at ∙ ap (slice_get c.cert.binds) i ∙ there) in
          absurd (omega (arith, less, ap (λ (z : ℕ × ℕ). z.0) g))
    ]
  ]

  pub first_unowned : (k n m : ℕ) → slice_get c.cert.binds k ≡ Some (n, m) → n < symbol_limit → line_of c.cert.binds n ≡ Some m → AreOwnedBefore k → (IsOwned c n → ⊥) → IsFirstUnowned c n
  first_unowned k n m at below is before fails = record {
    before = λ j i l there less. before j i l (line_earlier k j (n, m) (i, l) at there less) there;
    wrong = record { below = below; fails = λ keeps. fails (keeps.owned m is) };
  }

-- ---- one export

module _ (c : Case) (e : PlainExport) where
  never_bound : (HasBinding c e.symbol e → ⊥) → (false ≡ true) ↔ HasBinding c e.symbol e
  never_bound other = (λ bad. absurd cc, λ p. absurd (other p))

  pub no_line : line_of c.cert.binds e.symbol ≡ None → (false ≡ true) ↔ HasBinding c e.symbol e
  no_line none = never_bound (λ has. none-some has.partner.symbol (sym none ∙ has.says))

  pub no_partner : bound c.sides e ≡ None → (false ≡ true) ↔ HasBinding c e.symbol e
  no_partner none = never_bound (λ has. none-some has.partner (sym none ∙ has.binds))

  pub said_partner : (f : PlainExport) (m : ℕ) (r : Bool) → line_of c.cert.binds e.symbol ≡ Some m → bound c.sides e ≡ Some f → r ≡ (m == f.symbol) → (r ≡ true) ↔ HasBinding c e.symbol e
  said_partner f m r says binds is = (
    λ right.
        let same : m ≡ f.symbol = eqb-true m f.symbol (sym is ∙ right) in
        record { partner = f; binds = binds; says = says ∙ ap (λ (n : ℕ). Some n) same },
    λ has.
        let partner : has.partner ≡ f = same_Some has.partner f (sym has.binds ∙ binds) in
        let same : m ≡ has.partner.symbol = same_Some m has.partner.symbol (sym says ∙ has.says) in
        is ∙ eq-eqb m f.symbol (same ∙ ap (λ (x : PlainExport). x.symbol) partner),
  )

-- ---- the code's lines

get_any : (lines : List (ℕ × ℕ)) (k : ℕ) (d e : ℕ × ℕ) → k < length lines → get_or lines k d ≡ get_or lines k e
get_any lines k d e lt = same_Some (get_or lines k d) (get_or lines k e) (sym (slice_get-get_or lines k d lt) ∙ slice_get-get_or lines k e lt)

below_limit : (n : ℕ) → n < 2 ^ 32 → n < symbol_limit
unfolding symbol_limit
below_limit n lt = lt

module _ (c : Case) (lines : List (ℕ × ℕ)) (are : lines ≡ c.cert.binds) (ascend : Ascend first_cmp lines) where
  pub ascends : Ascend first_cmp c.cert.binds
  ascends = subst (Ascend first_cmp) are ascend

  module _ (k : ℕ) (lt : k < length lines) where
    abbrev line : ℕ × ℕ
    line = get_or lines k (0, 0)

    at : slice_get c.cert.binds k ≡ Some line
    at = ap (λ (ls : List (ℕ × ℕ)). slice_get ls k) (sym are) ∙ slice_get-get_or lines k (0, 0) lt

    reads : line_of lines line.0 ≡ Some line.1
    reads = line_found lines line.0 ascend k lt (λ d. ap (λ (x : ℕ × ℕ). nat_cmp x.0 line.0) (get_any lines k d (0, 0) lt) ∙ sym (nat_cmp_is line.0 line.0 Equal refl))

    pub unowned_at : line.0 < 2 ^ 32 → AreOwnedBefore c ascends k → (r : Bool) → (r ≡ true) ↔ IsOwned c line.0 → r ≡ false → IsFirstUnowned c line.0
    unowned_at below before r iff is =
        first_unowned c ascends k line.0 line.1 at (below_limit line.0 below) (ap (λ (ls : List (ℕ × ℕ)). line_of ls line.0) (sym are) ∙ reads) before
        (λ owned. let bad : true ≡ false = sym (iff.1 owned) ∙ is in cc)

    pub owned_more : AreOwnedBefore c ascends k → IsOwned c line.0 → AreOwnedBefore c ascends (k + 1)
    owned_more before here j n m less told = elim (cases_lt j k) [
      | inl earlier ↦ before j n m earlier told
      | inr past ↦
          let same : k ≡ j = omega (arith, less, past) in
          let e : line ≡ (n, m) = same_Some line (n, m) (sym at ∙ ap (slice_get c.cert.binds) same ∙ told) in
          subst (IsOwned c) (ap (λ (x : ℕ × ℕ). x.0) e) here
    ]

  pub owned_all : (k : ℕ) → length lines ≤ k → AreOwnedBefore c ascends k → AreOwned c symbol_limit
  owned_all k past before = all_owned c ascends k (omega (arith, past, ap length are)) before

-- ---- an export by its symbol

abbrev pub symbol_in : Export → ℕ
symbol_in e = e.symbol

-- what stands for an export past the end
none_export : Export
none_export = record { symbol = 0; name = record { ref_ptr = (0, 0); now = [] }; version = None; index = 0; hidden = false; kind = NoType; absolute = false; value = 0; size = 0; declared = record { ref_ptr = (0, 0); now = [] }; entry = 0 }

module _ (c : Case) (exports : List Export) (are : plain_exports exports ≡ c.sides.old.exports) (numbered : AreNumbered c.sides.old.exports) (n : ℕ) where
  plain_at : (k : ℕ) (e : Export) → slice_get exports k ≡ Some e → slice_get c.sides.old.exports k ≡ Some (plain_export e)
  plain_at k e at = ap (λ (es : List PlainExport). slice_get es k) (sym are) ∙ slice_get-map plain_export exports k ∙ ap (option_map plain_export) at

  size : length exports ≡ length c.sides.old.exports
  size = sym (length-map exports plain_export) ∙ ap length are

  export_is : (k : ℕ) (d : Export) (f : PlainExport) → slice_get c.sides.old.exports k ≡ Some f → plain_export (get_or exports k d) ≡ f
  export_is k d f at =
      let lt : k < length exports = omega (arith, size, slice_get_within c.sides.old.exports k f at) in
      same_Some (plain_export (get_or exports k d)) f (sym (plain_at k (get_or exports k d) (slice_get-get_or exports k d lt)) ∙ at)

  pub symbols_rise : (i j : ℕ) (d : Export) → i < j → j < length exports → nat_cmp (get_or exports i d).symbol (get_or exports j d).symbol ≡ Less
  symbols_rise i j d less lt =
      let one = plain_at i (get_or exports i d) (slice_get-get_or exports i d (omega (arith, less, lt))) in
      let other = plain_at j (get_or exports j d) (slice_get-get_or exports j d lt) in
      sym (nat_cmp_is (get_or exports i d).symbol (get_or exports j d).symbol Less (numbered.ascend i j (plain_export (get_or exports i d)) (plain_export (get_or exports j d)) less one other))

  pub exports_rise : IsNonDecreasingBy (λ (e : Export). ordering_index (nat_cmp e.symbol n)) exports
  exports_rise = searchable nat_cmp nat_cmp_total symbol_in exports symbols_rise n

  pub owned_found : (k : ℕ) → k < length exports → HoldsAt (λ (e : Export). nat_cmp e.symbol n ≡ Equal) exports k → (r : Bool) → r ≡ not (slice_index_or c.sides.marks.exports k false) → (r ≡ true) ↔ IsOwned c n
  owned_found k lt equal r is = (
    λ right.
        let e = get_or exports k none_export in
        (k, plain_export e, record { at = plain_at k e (slice_get-get_or exports k none_export lt); kept = not_is_true (slice_index_or c.sides.marks.exports k false) (sym is ∙ right) }, ranked e.symbol n Equal (sym (equal none_export))),
    λ (j, f, compared, same).
        let e = get_or exports k none_export in
        let here = plain_at k e (slice_get-get_or exports k none_export lt) in
        let symbol : e.symbol ≡ n = ranked e.symbol n Equal (sym (equal none_export)) in
        let place : k ≡ j = elim (cases_lt k j) [
          | inl less ↦ absurd (omega (arith, numbered.ascend k j (plain_export e) f less here compared.at, symbol, same))
          | inr past ↦ elim (cases_lt j k) [
            | inl less ↦ absurd (omega (arith, numbered.ascend j k f (plain_export e) less compared.at here, symbol, same))
            | inr other ↦ omega (arith, past, other)
          ]
        ] in
        is ∙ ap not (ap (λ (i : ℕ). slice_index_or c.sides.marks.exports i false) place ∙ compared.kept),
  )

  pub owned_missed : (i : ℕ) → AllWithin (λ (e : Export). nat_cmp e.symbol n ≡ Less) exports 0 i × AllWithin (λ (e : Export). nat_cmp e.symbol n ≡ Greater) exports i (length exports) → (false ≡ true) ↔ IsOwned c n
  owned_missed i parted = (
    λ bad. absurd cc,
    λ (j, f, compared, same).
        let lt : j < length exports = omega (arith, size, slice_get_within c.sides.old.exports j f compared.at) in
        let e = get_or exports j none_export in
        let symbol : e.symbol ≡ n = ap (λ (x : PlainExport). x.symbol) (export_is j none_export f compared.at) ∙ same in
        let equal : nat_cmp e.symbol n ≡ Equal = sym (nat_cmp_is e.symbol n Equal symbol) in
        elim (cases_lt j i) [
          | inl before ↦ absurd (let bad = sym equal ∙ parted.0 j none_export (omega arith) before in cc)
          | inr past ↦ absurd (let bad = sym equal ∙ parted.1 j none_export past lt in cc)
        ],
  )
