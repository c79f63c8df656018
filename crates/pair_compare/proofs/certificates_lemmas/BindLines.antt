-- What the bind lines say.
use Rattle.std.proofs.Common.{◌≡◌, ◌<◌, ◌^◌, ℕ, false, length, get_or, Option, Some, None, refl, sym, ◌∙◌, ap, inl, inr, arith, slice_get, slice_index_or}
use Rattle.std.specs.List.{All, Contains}
use Rattle.std.specs.declared.cmp.Ordering.TheVariants.{Less}
use Rattle.std.proofs.lemmas.Bool.{cases_Bool, cases_order}
use Rattle.std.proofs.lemmas.Option.{none-some, same_Some, slice_get_within, slice_get-get_or}
use Rattle.abi_base.proofs.lemmas.Orders.{nat_less}
use Rattle.abi_base.proofs.lemmas.Lists.{contains_at}
use Rattle.abi_types.specs.Exports.{PlainExport}
use Rattle.abi_types.specs.Libraries.{AreNumbered}
use Rattle.abi_types.specs.Limits.{symbol_limit}
use Rattle.cert_text.specs.Certs.{Ascend, IsBelow, first_cmp}
use Rattle.cert_check.specs.Compatible.{Sides, IsCompared, bound}
use Rattle.cert_check.specs.Accepted.{line_of}
use Rattle.pair_compare.specs.certificates.Lines.{line_between, line_from, bind_line, bind_lines}
use Rattle.pair_compare.proofs.certificates_lemmas.BindLemmas.{GivenLaw, line_bound}
use Rattle.pair_compare.proofs.certificates_lemmas.AlikeLemmas.{LineLaws}
use Rattle.cert_check.proofs.lemmas.Exports.{bound_place}

-- what stands on the line of an export
pub record IsBindLine (s : Sides) (k : ℕ) (line : ℕ × ℕ) : Type 0 where
  pub old : PlainExport
  pub new : PlainExport
  pub compared : IsCompared s k old
  pub binds : bound s old ≡ Some new
  pub symbol : old.symbol ≡ line.0
  pub partner : new.symbol ≡ line.1

between-parts : (s : Sides) (k : ℕ) (line : ℕ × ℕ) (e : PlainExport) (o : Option PlainExport) → IsCompared s k e → bound s e ≡ o → line_between e o ≡ Some line → IsBindLine s k line
between-parts s k line e None compared is h = absurd (none-some line h)
between-parts s k line e (Some f) compared is h =
    let same = same_Some (e.symbol, f.symbol) line h in
    record { old = e; new = f; compared = compared; binds = is; symbol = ap (λ (l : ℕ × ℕ). l.0) same; partner = ap (λ (l : ℕ × ℕ). l.1) same }

from-parts : (s : Sides) (k : ℕ) (line : ℕ × ℕ) (o : Option PlainExport) → slice_get s.old.exports k ≡ o → line_from s k o ≡ Some line → IsBindLine s k line
from-parts s k line None at h = absurd (none-some line h)
from-parts s k line (Some e) at h = elim (cases_Bool (slice_index_or s.marks.exports k false)) [
  | inl dropped ↦ absurd (none-some line (rw dropped at h))
  | inr kept ↦ between-parts s k line e (bound s e) (record { at = at; kept = kept }) refl (rw kept at h)
]

bind_line-parts : (s : Sides) (k : ℕ) (line : ℕ × ℕ) → bind_line s k ≡ Some line → IsBindLine s k line
unfolding bind_line
bind_line-parts s k line e = from-parts s k line (slice_get s.old.exports k) refl e

-- the export of a line
pub record HasExport (s : Sides) (line : ℕ × ℕ) : Type 0 where
  pub place : ℕ
  pub is : IsBindLine s place line

pub export_of_line : GivenLaw → (s : Sides) (line : ℕ × ℕ) → Contains (bind_lines s) line → HasExport s line
unfolding bind_lines
export_of_line given s line h = let from = (given (bind_line s)).source (length s.old.exports) line h in record { place = from.number; is = bind_line-parts s from.number line from.gives }

line_there : GivenLaw → (s : Sides) (k : ℕ) (e f : PlainExport) → IsCompared s k e → bound s e ≡ Some f → Contains (bind_lines s) (e.symbol, f.symbol)
unfolding bind_lines
line_there given s k e f compared binds = (given (bind_line s)).there (length s.old.exports) k (e.symbol, f.symbol) (slice_get_within s.old.exports k e compared.at) (line_bound s k e f compared.at compared.kept binds)

module _ (given : GivenLaw) (s : Sides) (numbered : AreNumbered s.old.exports) where
  -- one export has a number
  one_place : (j k : ℕ) (e f : PlainExport) → slice_get s.old.exports j ≡ Some e → slice_get s.old.exports k ≡ Some f → e.symbol ≡ f.symbol → e ≡ f
  one_place j k e f at there same = elim (cases_order j k) [
    | inl here ↦ same_Some e f (sym at ∙ ap (slice_get s.old.exports) here ∙ there)
    | inr (inl less) ↦ absurd (omega (arith, numbered.ascend j k e f less at there, same))
    | inr (inr above) ↦ absurd (omega (arith, numbered.ascend k j f e above there at, same))
  ]

  pub line_says : (look_ups : LineLaws) (k : ℕ) (e f : PlainExport) → IsCompared s k e → bound s e ≡ Some f → line_of (bind_lines s) e.symbol ≡ Some f.symbol
  line_says look_ups k e f compared binds = go (line_of (bind_lines s) e.symbol) refl where
    go : (o : Option ℕ) → line_of (bind_lines s) e.symbol ≡ o → line_of (bind_lines s) e.symbol ≡ Some f.symbol
    go None is = absurd (look_ups.missing (bind_lines s) e.symbol f.symbol is (line_there given s k e f compared binds))
    go (Some m) is =
        let h = export_of_line given s (e.symbol, m) (look_ups.found (bind_lines s) e.symbol m is) in
        let same : h.is.old ≡ e = one_place h.place k h.is.old e h.is.compared.at compared.at h.is.symbol in
        let partner : h.is.new ≡ f = same_Some h.is.new f (sym h.is.binds ∙ ap (bound s) same ∙ binds) in
        is ∙ ap (λ (n : ℕ). Some n) (sym h.is.partner ∙ ap (λ (x : PlainExport). x.symbol) partner)

  rises : (m n : ℕ) (x y : ℕ × ℕ) → m < n → n < length s.old.exports → bind_line s m ≡ Some x → bind_line s n ≡ Some y → first_cmp x y ≡ Less
  rises m n x y less inside one other =
      let u = bind_line-parts s m x one in
      let v = bind_line-parts s n y other in
      nat_less x.0 y.0 (omega (arith, numbered.ascend m n u.old v.old less u.compared.at v.compared.at, u.symbol, v.symbol))

  places_rise : (i j : ℕ) (x y : ℕ × ℕ) → i < j → slice_get (bind_lines s) i ≡ Some x → slice_get (bind_lines s) j ≡ Some y → first_cmp x y ≡ Less
  unfolding bind_lines
  places_rise i j x y less at there =
      let numbers = (given (bind_line s)).order (length s.old.exports) i j x y less at there in
      rises numbers.first numbers.later x y numbers.less numbers.below numbers.gives_first numbers.gives_later

  pub binds_ascend : Ascend first_cmp (bind_lines s)
  binds_ascend i j d less inside =
      places_rise i j (get_or (bind_lines s) i d) (get_or (bind_lines s) j d) less (slice_get-get_or (bind_lines s) i d (omega (arith, less, inside))) (slice_get-get_or (bind_lines s) j d inside)

small : symbol_limit ≡ 2 ^ 32
unfolding symbol_limit
small = refl

pub binds_below : GivenLaw → (s : Sides) → AreNumbered s.old.exports → AreNumbered s.new.exports → All (IsBelow (2 ^ 32)) (bind_lines s)
binds_below given s old new k d inside =
    let line = get_or (bind_lines s) k d in
    let h = export_of_line given s line (contains_at (bind_lines s) k line (slice_get-get_or (bind_lines s) k d inside)) in
    let there = bound_place s h.is.old h.is.new h.is.binds in
    let one = old.below h.place h.is.old h.is.compared.at in
    let other = new.below there.0 h.is.new there.1 in
    (omega (arith, one, h.is.symbol, small), omega (arith, other, h.is.partner, small))
