use Rattle.std.proofs.Common.{rules, sym}
use Rattle.std.proofs.lemmas.List.Sorted.{answers_always}
use Rattle.cert_check.proofs.Search.{first_in, line_rises, line_found, line_missed}
use Rattle.cert_check.proofs.bindings.line_of.Goals as goal

pub returns-in-Ok : goal.returns-in-Ok
returns-in-Ok c = sym (line_found c.args.lines.now c.args.symbol c.requires c.in-Ok.k c.in-Ok.ensures.bound (c.in-Ok.ensures.position first_in (answers_always _ _ _ (λ f a r q k. search rules))))

pub returns-in-Err : goal.returns-in-Err
returns-in-Err c =
    sym (line_missed c.args.lines.now c.args.symbol c.requires c.in-Err.field-0
    (c.in-Err.ensures.position first_in (answers_always _ _ _ (λ f a r q k. search rules)) (line_rises c.args.lines.now c.args.symbol c.requires)))
