-- THE FIXED VALUES beside the buffers: no calls and no rule in force, no draft, and both together.
use Rattle.std.specs.Prelude.{replicate}
use Rattle.layout.specs.declared.value.Heads.{Heads}
use Rattle.layout.specs.declared.value.RuleData.{RuleData}
use Rattle.layout.specs.declared.value.Draft.{Draft}
use Rattle.layout.specs.declared.value.Value.{Value}

-- before the first command there are no calls and no rule in force (SCOPE 2.6), and there is no draft (2.5)
abbrev pub fresh_heads : Heads
fresh_heads = record { counts = replicate 32 0; arity = replicate 64 0; scope = replicate 256 255; lengths = replicate 64 0 }

abbrev pub empty_rule : RuleData
empty_rule = record { arity = 0; scope = replicate 4 255; length = 0; rows = replicate 256 255 }

abbrev pub empty_draft : Draft
empty_draft = record { number = 255; rule = empty_rule }

abbrev pub fresh_value : Value
fresh_value = record { heads = fresh_heads; draft = empty_draft }

-- a value with another draft
abbrev pub with_draft : Value → Draft → Value
with_draft value d = record { heads = value.heads; draft = d }
