-- The lines of nodes that do not stand for their classes are the alike lines of the graph.
use Rattle.std.proofs.Common.{◌≡◌, ◌==◌, ◌<◌, ◌+◌, ℕ, true, false, List, [], ◌++◌, length, get_or, slice_get, Option, Some, None, refl, sym, ◌∙◌, ap, subst, inl, inr, arith, append-nil}
use Rattle.std.specs.Prelude.{option_to_list, IfSome}
use Rattle.std.specs.List.{All, Contains}
use Rattle.std.specs.List.Sorted.{IsPermutation, IsSorted}
use Rattle.std.specs.Ordering.{eq_by_cmp}
use Rattle.std.proofs.lemmas.Bool.{cases_Bool, eq-eqb, false≢true}
use Rattle.std.proofs.lemmas.List.Sorted.{Contains-permutation, IsPermutation-sym, All-permutation}
use Rattle.std.proofs.lemmas.List.Elements.{All-push}
use Rattle.std.proofs.lemmas.Option.{none-some, same_Some, slice_get-get_or}
use Rattle.abi_types.specs.Types.{PlainNode}
use Rattle.abi_types.specs.Graphs.{IsGraph, node_at}
use Rattle.type_classes.specs.Classes.{PlainClasses, AreSound, AreCoarsest, IsLeastEntry, rep_of}
use Rattle.cert_text.specs.Certs.{first_cmp}
use Rattle.pair_compare.specs.certificates.Lines.{IsAlikeEntry, AreAlikeLines}
use Rattle.pair_compare.specs.certificates.LineLists.{alike_line, alike_below}
use Rattle.pair_compare.proofs.certificates_lemmas.BindLemmas.{GivenLaw}
use Rattle.pair_compare.proofs.certificates_lemmas.Orders.{sorted_ascends, first_cmp_total, first_same, line_eq}
use Rattle.abi_base.proofs.lemmas.Orders.{not_same}

-- what is below a limit stays so with one more
pub below_pushed : {X : Type 0} (P : X → Type 0) (xs ys : List X) (o : Option X) → All P xs → IfSome o P → ys ≡ xs ++ option_to_list o → All P ys
below_pushed P xs ys None all item pushed = subst (All P) (sym (pushed ∙ append-nil xs)) all
below_pushed P xs ys (Some x) all item pushed = subst (All P) (sym pushed) (All-push P xs x all item)

pub below_moved : {X : Type 0} (P : X → Type 0) (first found sorted lines : List X) → All P first → found ≡ first → IsPermutation found sorted → lines ≡ sorted → All P lines
below_moved P first found sorted lines all is moved end = subst (All P) (sym end) (All-permutation P found sorted moved (subst (All P) (sym is) all))

-- ---- the line of one node

pub line_own : (c : PlainClasses) (i : ℕ) → rep_of c i ≡ i → alike_line c i ≡ None
line_own c i same = let own : (rep_of c i == i) ≡ true = eq-eqb (rep_of c i) i same in rw own refl

pub line_other : (c : PlainClasses) (i : ℕ) → (rep_of c i ≡ i → ⊥) → alike_line c i ≡ Some ((node_at c.nodes i).entry, (node_at c.nodes (rep_of c i)).entry)
line_other c i other = let unlike = not_same (rep_of c i) i other in rw unlike refl

-- as the code has it: the node and what stands for its class by their numbers
pub line_none : (c : PlainClasses) (number node least n : ℕ) → node ≡ number → least ≡ rep_of c node → n ≡ least → n ≡ number → alike_line c number ≡ None
line_none c number node least n is_node is_least is_n same = line_own c number (sym (is_n ∙ is_least ∙ ap (rep_of c) is_node) ∙ same)

pub line_some : (c : PlainClasses) (nodes : List PlainNode) (number node least n old new : ℕ) → c.nodes ≡ nodes → node ≡ number → least ≡ rep_of c node → n ≡ least → (n ≡ number → ⊥) → old ≡ (node_at nodes node).entry → new ≡ (node_at nodes least).entry
    → alike_line c number ≡ Some (old, new)
line_some c nodes number node least n old new is is_node is_least is_n other is_old is_new =
    let rep : rep_of c number ≡ least = ap (rep_of c) (sym is_node) ∙ sym is_least in
    let mk : ℕ → ℕ → Option (ℕ × ℕ) = λ a b. Some (a, b) in
    line_other c number (λ same. other (is_n ∙ sym rep ∙ same))
    ∙ ap (λ a. mk a (node_at c.nodes (rep_of c number)).entry) (ap (λ (ns : List PlainNode). (node_at ns number).entry) is ∙ ap (λ (k : ℕ). (node_at nodes k).entry) (sym is_node) ∙ sym is_old)
    ∙ ap (mk old) (ap (λ (ns : List PlainNode). (node_at ns (rep_of c number)).entry) is ∙ ap (λ (k : ℕ). (node_at nodes k).entry) rep ∙ sym is_new)

-- what a line is
pub record IsOther (c : PlainClasses) (i : ℕ) (line : ℕ × ℕ) : Type 0 where
  pub other : rep_of c i ≡ i → ⊥
  pub old : (node_at c.nodes i).entry ≡ line.0
  pub new : (node_at c.nodes (rep_of c i)).entry ≡ line.1

line_parts : (c : PlainClasses) (i : ℕ) (line : ℕ × ℕ) → alike_line c i ≡ Some line → IsOther c i line
line_parts c i line e = elim (cases_Bool (rep_of c i == i)) [
  | inl own ↦ absurd (none-some line (rw own at e))
  | inr unlike ↦
      let same = same_Some ((node_at c.nodes i).entry, (node_at c.nodes (rep_of c i)).entry) line (rw unlike at e) in
      record {
        other = λ own. false≢true (sym unlike ∙ eq-eqb (rep_of c i) i own);
        old = ap (λ (l : ℕ × ℕ). l.0) same;
        new = ap (λ (l : ℕ × ℕ). l.1) same;
      }
]

-- ---- the loop

pub alike-zero : (c : PlainClasses) → alike_below c 0 ≡ []
unfolding alike_below
alike-zero c = refl

pub alike-more : GivenLaw → (c : PlainClasses) (n : ℕ) (line : Option (ℕ × ℕ)) (lines more : List (ℕ × ℕ)) → lines ≡ alike_below c n → line ≡ alike_line c n → more ≡ lines ++ option_to_list line → more ≡ alike_below c (n + 1)
unfolding alike_below
alike-more given c n line lines more so_far is pushed =
    pushed ∙ ap (λ (ls : List (ℕ × ℕ)). ls ++ option_to_list line) so_far ∙ ap (λ (o : Option (ℕ × ℕ)). alike_below c n ++ option_to_list o) is ∙ sym ((given (alike_line c)).more n)

-- ---- the lines

-- what stands for classes, by the law of classes
pub record ClassLaws : Type 0 where
  pub stands : (c : PlainClasses) (a : ℕ) → AreSound c → AreCoarsest c → a < length c.nodes → IsLeastEntry c.nodes (node_at c.nodes (rep_of c a)).entry a
  pub alone : (c : PlainClasses) (entry a : ℕ) → AreSound c → AreCoarsest c → a < length c.nodes → IsLeastEntry c.nodes entry a → (node_at c.nodes (rep_of c a)).entry ≡ entry

module _ (laws : ClassLaws) (given : GivenLaw) (c : PlainClasses) (sound : AreSound c) (coarsest : AreCoarsest c) (graph : IsGraph c.nodes) where
  entry_from : (line : ℕ × ℕ) → Contains (alike_below c (length c.nodes)) line → IsAlikeEntry c.nodes line
  unfolding alike_below
  entry_from line h =
      let from = (given (alike_line c)).source (length c.nodes) line h in
      let i = from.number in
      let inside = from.below in
      let is = line_parts c i line from.gives in
      record {
        node = i;
        inside = inside;
        entry = sym is.old;
        least = subst (λ (e : ℕ). IsLeastEntry c.nodes e i) is.new (laws.stands c i sound coarsest inside);
        other = λ same. is.other (graph.apart (rep_of c i) i (sound.inside i inside) inside (is.new ∙ sym same ∙ sym is.old));
      }

  entry_to : (line : ℕ × ℕ) → IsAlikeEntry c.nodes line → Contains (alike_below c (length c.nodes)) line
  unfolding alike_below
  entry_to line is =
      let i = is.node in
      let new : (node_at c.nodes (rep_of c i)).entry ≡ line.1 = laws.alone c line.1 i sound coarsest is.inside is.least in
      let other : rep_of c i ≡ i → ⊥ = λ own. is.other (is.entry ∙ ap (λ (k : ℕ). (node_at c.nodes k).entry) (sym own) ∙ new) in
      (given (alike_line c)).there (length c.nodes) i line is.inside (line_other c i other ∙ ap (λ (l : ℕ × ℕ). Some l) (line_eq ((node_at c.nodes i).entry, (node_at c.nodes (rep_of c i)).entry) line (sym is.entry) new))

  firsts_differ : (m n : ℕ) (x y : ℕ × ℕ) → m < n → n < length c.nodes → alike_line c m ≡ Some x → alike_line c n ≡ Some y → x.0 ≡ y.0 → ⊥
  firsts_differ m n x y less n_in one two same =
      let u = line_parts c m x one in
      let v = line_parts c n y two in
      let e = graph.apart m n (omega (arith, less, n_in)) n_in (u.old ∙ same ∙ sym v.old) in
      omega (arith, e, less)

  places_differ : (i j : ℕ) (x y : ℕ × ℕ) → i < j → slice_get (alike_below c (length c.nodes)) i ≡ Some x → slice_get (alike_below c (length c.nodes)) j ≡ Some y → x.0 ≡ y.0 → ⊥
  unfolding alike_below
  places_differ i j x y less at there =
      let numbers = (given (alike_line c)).order (length c.nodes) i j x y less at there in
      firsts_differ numbers.first numbers.later x y numbers.less numbers.below numbers.gives_first numbers.gives_later

  lines_apart : (i j : ℕ) (d : ℕ × ℕ) → i < j → j < length (alike_below c (length c.nodes)) → eq_by_cmp first_cmp (get_or (alike_below c (length c.nodes)) i d) (get_or (alike_below c (length c.nodes)) j d) ≡ false
  lines_apart i j d less inside =
      let lines = alike_below c (length c.nodes) in
      elim (cases_Bool (eq_by_cmp first_cmp (get_or lines i d) (get_or lines j d))) [
        | inl same ↦
            absurd (places_differ i j (get_or lines i d) (get_or lines j d) less (slice_get-get_or lines i d (omega (arith, less, inside))) (slice_get-get_or lines j d inside)
            (first_same (get_or lines i d) (get_or lines j d) same))
        | inr other ↦ other
      ]

  pub alike_lines_are : (lines : List (ℕ × ℕ)) → IsPermutation (alike_below c (length c.nodes)) lines → IsSorted first_cmp lines → AreAlikeLines c.nodes lines
  alike_lines_are lines moved sorted = record {
    ascending = sorted_ascends first_cmp_total (alike_below c (length c.nodes)) lines moved sorted lines_apart;
    exact = λ line. (
      λ h. entry_from line (Contains-permutation lines (alike_below c (length c.nodes)) line (IsPermutation-sym (alike_below c (length c.nodes)) lines moved) h),
      λ is. Contains-permutation (alike_below c (length c.nodes)) lines line moved (entry_to line is),
    );
  }

-- of the graph whose classes these are
pub alike_made : ClassLaws → GivenLaw → (c : PlainClasses) (nodes : List PlainNode) → c.nodes ≡ nodes → AreSound c → AreCoarsest c → IsGraph nodes → (found sorted_lines lines : List (ℕ × ℕ)) → found ≡ alike_below c (length nodes) → IsPermutation found sorted_lines → IsSorted first_cmp sorted_lines
    → lines ≡ sorted_lines → AreAlikeLines nodes lines
alike_made laws given c nodes is sound coarsest graph found sorted_lines lines found_is moved sorted end =
    subst (AreAlikeLines nodes) (sym end) (subst (λ (ns : List PlainNode). AreAlikeLines ns sorted_lines) is
    (alike_lines_are laws given c sound coarsest (subst IsGraph (sym is) graph) sorted_lines (subst (λ (xs : List (ℕ × ℕ)). IsPermutation xs sorted_lines) (found_is ∙ ap (λ (ns : List PlainNode). alike_below c (length ns)) (sym is)) moved) sorted))
