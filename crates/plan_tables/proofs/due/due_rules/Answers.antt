-- The rules before p have joined.
use Rattle.plan_tables.specs.Laws.Due.{due_none}
use Rattle.plan_tables.proofs.due.due_rules.Goals as goal

pub loop-p-init : goal.loop-p-init
loop-p-init c = due_none _ _
