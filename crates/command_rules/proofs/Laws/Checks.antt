-- ON A STATE THAT IS A LEDGER'S the checks over the bytes agree with the ledger's conditions up to the first that holds. Assumes nothing.
use Rattle.std.specs.Prelude.{◌≡◌, refl, false, not, List, ℕ, ◌%◌, ◌<◌, length, eqb}
use Rattle.std.proofs.Common.{ap, true≢false, arith, ne_eqb, ltb-false}
use Rattle.std.proofs.Math.Option.{Option, none, some}
use Rattle.model.specs.declared.command.Command.TheVariants as kind
use Rattle.model.specs.Board.{GoodRule}
use Rattle.model.specs.Tests.{is_none}
use Rattle.model.specs.Ledger.{NumberedRule, Ledger, LedgerShape, draft_or, bad_number?, not_in_force?, kind_conditions}
use Rattle.model.specs.Representation.{Represents}
use Rattle.model.proofs.Laws.Heads.{no_calls, no_rule}
use Rattle.command_rules.specs.Checks.{no_rule?, post_checks, retract_checks}
use Rattle.layout.specs.Memory.{State}
use Rattle.model.specs.Refusals.{first_of}
use Rattle.model.proofs.Laws.Refusals as refusals

module _ (L : Ledger) (shape : LedgerShape L) (s : State) (is : Represents L s) where
  -- a number that a rule can have is in force over the bytes exactly where it is in the ledger
  number_free : (n : ℕ) → n < 64 → no_rule? s.value.heads.arity n ≡ not_in_force? L n
  number_free n h = let small : n % 64 ≡ n = omega arith in rw small (no_rule L.board shape.board s.value.heads is.stored.headed n h)

  -- KIND 4. A draft has a column, and its number is looked at only where there is one
  pub post_checks_same : (ns : List ℕ)
      → first_of (post_checks s.value.heads.counts s.value.heads.arity s.value.draft.number s.value.draft.rule.arity) ≡ first_of (kind_conditions L kind.Post ns)
  post_checks_same ns =
      refusals.agree_first
      (refusals.next (no_calls L.board shape.board s.value.heads is.stored.headed)
      (λ on. refusals.next (no_columns_lem _ L.draft is.drafted.rule.arity shape.draft)
      (λ drafted. refusals.next (taken _ L.draft is.drafted.number shape.draft drafted) (λ free. refusals.none))))
    where
      no_columns_lem : (a : ℕ) (o : Option NumberedRule) → a ≡ length (draft_or o).rule.scope → ((d : NumberedRule) → o ≡ some d → (d.number < 64) × GoodRule L.board.counts d.rule)
          → eqb a 0 ≡ is_none o
      no_columns_lem a none e good = rw e refl
      no_columns_lem a (some d) e good = let least = (good d refl).1.least in ne_eqb a 0 (λ z. omega arith)

      taken : (n : ℕ) (o : Option NumberedRule) → n ≡ (draft_or o).number → ((d : NumberedRule) → o ≡ some d → (d.number < 64) × GoodRule L.board.counts d.rule) → is_none o ≡ false
          → not (no_rule? s.value.heads.arity n) ≡ not (not_in_force? L (draft_or o).number)
      taken n none e good drafted = absurd (true≢false drafted)
      taken n (some d) e good drafted = rw e (ap not (number_free d.number (good d refl).0))

  -- KIND 5. A number over 63 is refused before it is looked up
  pub retract_checks_same : (n : ℕ) (ns : List ℕ) → first_of (retract_checks s.value.heads.counts s.value.heads.arity n) ≡ first_of (kind_conditions L (kind.Retract n) ns)
  retract_checks_same n ns =
      refusals.agree_first
      (refusals.next (no_calls L.board shape.board s.value.heads is.stored.headed)
      (λ on. refusals.next refl (λ (small : bad_number? n ≡ false). refusals.next (number_free n (omega (arith, ltb-false 63 n small))) (λ free. refusals.none))))
