-- `rules::put` meets its contract: the record of the facts joined is written, and with it the node's four numbers.
use Rattle.rules.proofs.Flat.{record_put, flat_narrow}
use Rattle.rules.proofs.put.Goals as goal

pub returns-clause-put : goal.returns-clause-put
returns-clause-put c = record_put _ _ _ _ c.join_facts-new.ensures.0 c.requires c.ne.ensures

pub returns-clause-narrow : goal.returns-clause-narrow
returns-clause-narrow c = flat_narrow _ _ _ c.requires c.join_facts-new.ensures.1
