use Rattle.std.proofs.Common.{[], ◌∷◌, length}
use Rattle.cert_check.specs.Accepted.{asked, places, heads, binding_places, pair_places, each, Rules, AlikeOld, AlikeNew, Root}
use Rattle.cert_check.proofs.FindLemmas.{group_told, settled_last}
use Rattle.cert_check.proofs.check.check_conditions.Goals as goal

pub returns-in-Err : goal.returns-in-Err
unfolding places
returns-in-Err c = group_told (asked c.args.old.now c.args.new.now c.args.marks.now c.args.cert.now) [] heads (binding_places ∷ (each Rules (length c.args.old.now.exports)) ∷ (each AlikeOld (length c.args.cert.now.alike_old)) ∷ (each AlikeNew (length c.args.cert.now.alike_new)) ∷ (each Root (length c.args.old.now.exports)) ∷ (pair_places (length c.args.cert.now.pairs)) ∷ []) c.in-Err.refused tt c.in-Err.ensures

pub returns-in-Err-check_bindings : goal.returns-in-Err-check_bindings
unfolding places
returns-in-Err-check_bindings c = group_told (asked c.args.old.now c.args.new.now c.args.marks.now c.args.cert.now) (heads ∷ []) binding_places ((each Rules (length c.args.old.now.exports)) ∷ (each AlikeOld (length c.args.cert.now.alike_old)) ∷ (each AlikeNew (length c.args.cert.now.alike_new)) ∷ (each Root (length c.args.old.now.exports)) ∷ (pair_places (length c.args.cert.now.pairs)) ∷ []) c.in-Err-check_bindings.refused (c.in_default.ensures, tt) c.in-Err-check_bindings.ensures

pub returns-in-Err-check_rules : goal.returns-in-Err-check_rules
unfolding places
returns-in-Err-check_rules c = group_told (asked c.args.old.now c.args.new.now c.args.marks.now c.args.cert.now) (heads ∷ binding_places ∷ []) (each Rules (length c.args.old.now.exports)) ((each AlikeOld (length c.args.cert.now.alike_old)) ∷ (each AlikeNew (length c.args.cert.now.alike_new)) ∷ (each Root (length c.args.old.now.exports)) ∷ (pair_places (length c.args.cert.now.pairs)) ∷ []) c.in-Err-check_rules.refused (c.in_default.ensures, (c.in_default-check_bindings.ensures, tt)) c.in-Err-check_rules.ensures

pub returns-in-Err-check_alike_lines_of_old : goal.returns-in-Err-check_alike_lines_of_old
unfolding places
returns-in-Err-check_alike_lines_of_old c = group_told (asked c.args.old.now c.args.new.now c.args.marks.now c.args.cert.now) (heads ∷ binding_places ∷ (each Rules (length c.args.old.now.exports)) ∷ []) (each AlikeOld (length c.args.cert.now.alike_old)) ((each AlikeNew (length c.args.cert.now.alike_new)) ∷ (each Root (length c.args.old.now.exports)) ∷ (pair_places (length c.args.cert.now.pairs)) ∷ []) c.in-Err-check_alike_lines_of_old.refused (c.in_default.ensures, (c.in_default-check_bindings.ensures, (c.in_default-check_rules.ensures, tt))) c.in-Err-check_alike_lines_of_old.ensures

pub returns-in-Err-check_alike_lines_of_new : goal.returns-in-Err-check_alike_lines_of_new
unfolding places
returns-in-Err-check_alike_lines_of_new c = group_told (asked c.args.old.now c.args.new.now c.args.marks.now c.args.cert.now) (heads ∷ binding_places ∷ (each Rules (length c.args.old.now.exports)) ∷ (each AlikeOld (length c.args.cert.now.alike_old)) ∷ []) (each AlikeNew (length c.args.cert.now.alike_new)) ((each Root (length c.args.old.now.exports)) ∷ (pair_places (length c.args.cert.now.pairs)) ∷ []) c.in-Err-check_alike_lines_of_new.refused (c.in_default.ensures, (c.in_default-check_bindings.ensures, (c.in_default-check_rules.ensures, (c.in_default-check_alike_lines_of_old.ensures, tt)))) c.in-Err-check_alike_lines_of_new.ensures

pub returns-in-Err-check_roots : goal.returns-in-Err-check_roots
unfolding places
returns-in-Err-check_roots c = group_told (asked c.args.old.now c.args.new.now c.args.marks.now c.args.cert.now) (heads ∷ binding_places ∷ (each Rules (length c.args.old.now.exports)) ∷ (each AlikeOld (length c.args.cert.now.alike_old)) ∷ (each AlikeNew (length c.args.cert.now.alike_new)) ∷ []) (each Root (length c.args.old.now.exports)) ((pair_places (length c.args.cert.now.pairs)) ∷ []) c.in-Err-check_roots.refused (c.in_default.ensures, (c.in_default-check_bindings.ensures, (c.in_default-check_rules.ensures, (c.in_default-check_alike_lines_of_old.ensures, (c.in_default-check_alike_lines_of_new.ensures, tt))))) c.in-Err-check_roots.ensures

pub returns : goal.returns
unfolding places
returns c = settled_last (asked c.args.old.now c.args.new.now c.args.marks.now c.args.cert.now) (heads ∷ binding_places ∷ (each Rules (length c.args.old.now.exports)) ∷ (each AlikeOld (length c.args.cert.now.alike_old)) ∷ (each AlikeNew (length c.args.cert.now.alike_new)) ∷ (each Root (length c.args.old.now.exports)) ∷ []) (pair_places (length c.args.cert.now.pairs)) c.check_pairs.result (c.in_default.ensures, (c.in_default-check_bindings.ensures, (c.in_default-check_rules.ensures, (c.in_default-check_alike_lines_of_old.ensures, (c.in_default-check_alike_lines_of_new.ensures, (c.in_default-check_roots.ensures, tt)))))) c.check_pairs.ensures
