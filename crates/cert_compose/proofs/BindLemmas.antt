-- Which bind lines are there.
use Rattle.std.proofs.Common.{◌≡◌, ◌+◌, ◌++◌, ℕ, List, length, get_or, slice_get, Option, Some, None, refl, sym, ◌∙◌, ap, arith}
use Rattle.std.specs.Prelude.{◌↔◌, option_to_list}
use Rattle.std.specs.List.{Contains, All}
use Rattle.std.proofs.lemmas.List.Elements.{All-contains}
use Rattle.std.proofs.lemmas.Option.{none-some, same_Some, slice_get_within, slice_get-get_or, get_or_from_slice_get}
use Rattle.abi_base.proofs.lemmas.Lists.{contains_at, at_contains}
use Rattle.cert_text.specs.Certs.{Ascend, first_cmp, IsBelow}
use Rattle.cert_check.specs.Accepted.{line_of}
use Rattle.cert_check.specs.Given.{given_below, StandInOrder}
use Rattle.cert_compose.specs.Binds.{through_to, through_from, through_line}
use Rattle.cert_compose.specs.Chains.{PlainChain}
use Rattle.cert_compose.specs.Composed.{IsThrough}
use Rattle.cert_compose.proofs.LineLemmas.{LineLaws, says}

pub record Parts (ones others : List (ℕ × ℕ)) (k : ℕ) (line : ℕ × ℕ) : Type 0 where
  pub between : ℕ
  pub at : slice_get ones k ≡ Some (line.0, between)
  pub found : line_of others between ≡ Some line.1

to_parts : (n : ℕ) (o : Option ℕ) (line : ℕ × ℕ) → through_to n o ≡ Some line → (n ≡ line.0) × (o ≡ Some line.1)
to_parts n None line e = absurd (none-some line e)
to_parts n (Some m) line e = let same = same_Some (n, m) line e in (ap (λ (l : ℕ × ℕ). l.0) same, ap (λ (l : ℕ × ℕ). Some l.1) same)

from_parts : (ones others : List (ℕ × ℕ)) (k : ℕ) (line : ℕ × ℕ) (o : Option (ℕ × ℕ)) → slice_get ones k ≡ o → through_from others o ≡ Some line → Parts ones others k line
from_parts ones others k line None at e = absurd (none-some line e)
from_parts ones others k line (Some l) at e =
    let parts = to_parts l.0 (line_of others l.1) line e in
    let mk : ℕ → Option (ℕ × ℕ) = λ n. Some (n, l.1) in
    record { between = l.1; at = at ∙ ap mk parts.0; found = parts.1 }

parts_of : (ones others : List (ℕ × ℕ)) (k : ℕ) (line : ℕ × ℕ) → through_line ones others k ≡ Some line → Parts ones others k line
unfolding through_line
parts_of ones others k line e = from_parts ones others k line (slice_get ones k) refl e

line_from : (ones others : List (ℕ × ℕ)) (k n m l : ℕ) → slice_get ones k ≡ Some (n, m) → line_of others m ≡ Some l → through_line ones others k ≡ Some (n, l)
unfolding through_line
line_from ones others k n m l at found = ap (through_from others) at ∙ ap (through_to n) found

-- as the code reads it
pub line_none : (ones others : List (ℕ × ℕ)) (k : ℕ) (line : ℕ × ℕ) → slice_get ones k ≡ Some line → None ≡ line_of others line.1 → None ≡ through_line ones others k
unfolding through_line
line_none ones others k line at none = sym (ap (through_from others) at ∙ ap (through_to line.0) (sym none))

pub line_some : (ones others : List (ℕ × ℕ)) (k l : ℕ) (line : ℕ × ℕ) → slice_get ones k ≡ Some line → Some l ≡ line_of others line.1 → Some (line.0, l) ≡ through_line ones others k
line_some ones others k l line at found = sym (line_from ones others k line.0 line.1 l at (sym found))

abbrev pub GivenLaw : Type 0
GivenLaw = (line : ℕ → Option (ℕ × ℕ)) → StandInOrder line

-- one line more
pub lines_more : GivenLaw → (line : ℕ → Option (ℕ × ℕ)) (n : ℕ) (item : Option (ℕ × ℕ)) (xs ys : List (ℕ × ℕ)) → xs ≡ given_below line n → item ≡ line n → ys ≡ xs ++ option_to_list item → ys ≡ given_below line (n + 1)
lines_more law line n item xs ys before is more =
    more ∙ ap (λ (zs : List (ℕ × ℕ)). zs ++ option_to_list item) before ∙ ap (λ (o : Option (ℕ × ℕ)). given_below line n ++ option_to_list o) is ∙ sym ((law line).more n)

pub lines_all : (line : ℕ → Option (ℕ × ℕ)) (n m : ℕ) (xs : List (ℕ × ℕ)) → m ≡ n → xs ≡ given_below line n → xs ≡ given_below line m
lines_all line n m xs same is = is ∙ ap (given_below line) (sym same)

module _ (given : GivenLaw) (laws : LineLaws) (ones others : List (ℕ × ℕ)) where
  abbrev lines : List (ℕ × ℕ)
  lines = given_below (through_line ones others) (length ones)

  pub through_from_lines : (line : ℕ × ℕ) → Contains lines line → (m : ℕ) × Contains ones (line.0, m) × Contains others (m, line.1)
  through_from_lines line h =
      let from = (given (through_line ones others)).source (length ones) line h in
      let parts = parts_of ones others from.number line from.gives in
      (parts.between, contains_at ones from.number (line.0, parts.between) parts.at, laws.found others parts.between line.1 parts.found)

  pub lines_from_through : Ascend first_cmp others → (line : ℕ × ℕ) (m : ℕ) → Contains ones (line.0, m) → Contains others (m, line.1) → Contains lines line
  lines_from_through ascend line m one other =
      let place = at_contains ones (line.0, m) one in
      (given (through_line ones others)).there (length ones) place.0 line (slice_get_within ones place.0 (line.0, m) place.1)
      (line_from ones others place.0 line.0 m line.1 place.1 (says laws others ascend m line.1 other))

  pub lines_ascend : Ascend first_cmp ones → Ascend first_cmp lines
  lines_ascend ascend i j d less inside =
      let x = get_or lines i d in
      let y = get_or lines j d in
      let order = (given (through_line ones others)).order (length ones) i j x y less (slice_get-get_or lines i d (omega (arith, less, inside))) (slice_get-get_or lines j d inside) in
      let a = parts_of ones others order.first x order.gives_first in
      let b = parts_of ones others order.later y order.gives_later in
      let e : ℕ × ℕ = (x.0, a.between) in
      let one : get_or ones order.first e ≡ (x.0, a.between) = get_or_from_slice_get ones order.first (x.0, a.between) e a.at in
      let other : get_or ones order.later e ≡ (y.0, b.between) = get_or_from_slice_get ones order.later (y.0, b.between) e b.at in
      ap (λ (l : ℕ × ℕ). first_cmp l (y.0, b.between)) (sym one) ∙ ap (first_cmp (get_or ones order.first e)) (sym other)
      ∙ ascend order.first order.later e order.less (slice_get_within ones order.later (y.0, b.between) b.at)

  pub lines_below : (limit : ℕ) → All (IsBelow limit) ones → All (IsBelow limit) others → All (IsBelow limit) lines
  lines_below limit one other k d inside =
      let line = get_or lines k d in
      let through = through_from_lines line (contains_at lines k line (slice_get-get_or lines k d inside)) in (
        (All-contains (IsBelow limit) ones (line.0, through.0) one through.1).0,
        (All-contains (IsBelow limit) others (through.0, line.1) other through.2).1,
      )

pub through_lines : GivenLaw → LineLaws → (ch : PlainChain) → Ascend first_cmp ch.other.binds → (line : ℕ × ℕ) → Contains (given_below (through_line ch.one.binds ch.other.binds) (length ch.one.binds)) line ↔ IsThrough ch line
through_lines given laws ch ascend line = (
  λ h. let t = through_from_lines given laws ch.one.binds ch.other.binds line h in record { symbol = t.0; one = t.1; other = t.2 },
  λ t. lines_from_through given laws ch.one.binds ch.other.binds ascend line t.symbol t.one t.other,
)
