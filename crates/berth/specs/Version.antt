-- WHAT A HOST COMPARES ITS HEADER WITH, before it hands over any struct: the version of the interface, and the size of what it holds by value.
use Rattle.std.specs.Prelude.{ℕ, ◌+◌, length}
use Rattle.layout.specs.declared.value.Heads.{Heads}
use Rattle.layout.specs.declared.value.RuleData.{RuleData}
use Rattle.layout.specs.declared.value.Draft.{Draft}
use Rattle.layout.specs.declared.value.Value.{Value}
use Rattle.layout.specs.Names.{fresh_marked}

-- it rises with any change of a struct, of a function or of what one means
abbrev pub interface_version : ℕ
interface_version = 11

-- the bytes of each field, one after another: fields of bytes leave no room between them
abbrev pub heads_size : Heads → ℕ
heads_size h = length h.counts + length h.arity + length h.scope + length h.lengths

abbrev pub rule_size : RuleData → ℕ
rule_size r = 1 + length r.scope + 1 + length r.rows

abbrev pub draft_size : Draft → ℕ
draft_size d = 1 + rule_size d.rule

abbrev pub board_size : Value → ℕ
board_size v = heads_size v.heads + draft_size v.draft

-- all values have the arrays' lengths in common, so the fresh one serves
abbrev pub value_size : ℕ
value_size = board_size fresh_marked.value + length fresh_marked.names
