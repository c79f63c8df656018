-- Condition by condition.
use Rattle.cert_check.specs.Compatible.{sides}
use Rattle.cert_check.proofs.Sound.{IsAccepted-from, KeepsAll-from}
use Rattle.cert_check.proofs.Unmarked.{kept_unmarked}
use Rattle.cert_check.proofs.laws.marks_of_nothing_are_alike.Goals as goal

pub returns : goal.returns
returns c = λ s m cert nothing nothing' digest accepted.
    IsAccepted-from (record { sides = sides s.old s.new m; cert = cert })
    (kept_unmarked c.steps_lead_to_nodes.ensures.exact s m cert nothing nothing' digest (KeepsAll-from (record { sides = s; cert = cert }) accepted))
