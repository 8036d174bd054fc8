-- The tables that the code makes are those of the memory.
use Rattle.std.proofs.Common.{refl, rules}
use Rattle.plan_fit.specs.Parts.{rule_parts}
use Rattle.plan_lay.specs.Laws.Answers.{laid_plan}
use Rattle.plan_lay.proofs.first.lay_plan.Goals as goal

pub returns : goal.returns
returns c =
    laid_plan (rule_parts c.args.heads.now c.args.rows.now c.args.slots.now) c.args.ceiling
    (record {
      words = c.write_words.ensures;
      lengths = refl;
      columns = c.rule_columns-columns.ensures;
      due = c.due_rules.ensures;
      opened = c.open_masks.ensures;
      held = c.call_slots-held.ensures;
    })
    (search rules) c.lay_all.ensures
