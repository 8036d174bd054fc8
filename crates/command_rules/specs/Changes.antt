-- WHAT A POST AND A RETRACTION LEAVE, on any contents: the rules' bytes written and the slots propagated, the counts as they were, and what is reported; and what the commands that do it promise.
use Rattle.std.specs.Prelude.{◌≡◌, List, ℕ, ◌%◌, Ok}
use Rattle.layout.specs.declared.value.Draft.{Draft}
use Rattle.model.specs.declared.answer.Report.{Report}
use Rattle.model.specs.declared.command.Command.{Command}
use Rattle.model.specs.Promise.{Answer, KindPromise}
use Rattle.filter_propagate.specs.Rules.{RuleBytes, rules_in}
use Rattle.filter_post.specs.Post.{PostDone}
use Rattle.filter_retract.specs.Done.{RetractDone}
use Rattle.layout.specs.Memory.{State}

-- the rules' bytes of a state
abbrev pub state_rules : State → RuleBytes
state_rules s = rules_in s.rows s.value.heads

-- a post reopens nothing, and touches what it strikes (SCOPE 3.9)
abbrev pub post_report : ℕ → Report
post_report struck = record { struck = struck; reopened = 0; touched = struck }

-- A DRAFT IS POSTED under its number, and the value's own draft is as it was
pub record Posted (posted : Draft) (before : State) (given : Answer) (after : State) : Type 0 where
  pub struck : ℕ
  pub done : PostDone (posted.number % 64) struck posted.rule (state_rules before) (state_rules after) before.killers after.killers before.slots after.slots
  pub counts : after.value.heads.counts ≡ before.value.heads.counts
  pub draft : after.value.draft ≡ before.value.draft
  pub answer_is : given ≡ Ok (post_report struck)

-- a retraction strikes nothing that was open (SCOPE 3.10)
abbrev pub retract_report : ℕ → ℕ → Report
retract_report reopened touched = record { struck = 0; reopened = reopened; touched = touched }

-- THE RULE UNDER A NUMBER IS RETRACTED, and the draft is as it was
pub record Retracted (number : ℕ) (before : State) (given : Answer) (after : State) : Type 0 where
  pub reopened : ℕ
  pub touched : ℕ
  pub done : RetractDone (number % 64) (state_rules before) (state_rules after) before.killers after.killers before.slots after.slots reopened touched
  pub counts : after.value.heads.counts ≡ before.value.heads.counts
  pub draft : after.value.draft ≡ before.value.draft
  pub answer_is : given ≡ Ok (retract_report reopened touched)

-- THE PROMISE OF KINDS 4 AND 5: the counts that may stand beside a command are any, since neither reads them
abbrev pub RulesPromise : Command → State → Answer → State → Type 0
RulesPromise c before given after = (ns : List ℕ) → KindPromise before c ns given after
