use Rattle.std.proofs.Common.{rules, ◌≡◌, ◌∙◌, ◌&&◌, Bool, true, not, ap, sym, refl}
use Rattle.std.specs.Prelude.{◌==◌, slice_index}
use Rattle.std.specs.Char.{is_ascii_digit}
use Rattle.std.specs.List.{list_all}
use Rattle.cli_args.proofs.Counting.{first_zero}
use Rattle.cli_args.proofs.judge.is_decimal.Goals as goal

pub returns-then-has_only_digits : goal.returns-then-has_only_digits
returns-then-has_only_digits c =
    let digits : list_all is_ascii_digit c.args.word.now ≡ true = sym c.has_only_digits.ensures ∙ c.if-has_only_digits.true in
    c.ne.ensures ∙ ap not (first_zero c.args.word.now c.first.result _ refl (search rules))
    ∙ ap (λ (b : Bool). b && not (slice_index c.args.word.now 0 == 48)) (sym digits)
