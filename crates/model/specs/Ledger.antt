-- THE LEDGER (SCOPE 6.5 to 6.9), a term of the scope: a board's rules and counts as the commands alone make them, from their bytes and from how long the lent
-- buffers and the lent table are. Nothing that these hold is read.
use Rattle.std.specs.Prelude.{◌≡◌, Bool, true, not, ◌&&◌, ◌||◌, List, [], ◌∷◌, ◌++◌, ℕ, zero, suc, ◌<◌, length, get_or, take, set, replicate, eqb, ltb, leb}
use Rattle.std.proofs.Math.Option.{Option, none, some}
use Rattle.model.specs.declared.command.Command.{Command}
use Rattle.model.specs.declared.command.Command.TheVariants as kind
use Rattle.model.specs.declared.command.Read.{Read}
use Rattle.model.specs.declared.command.Read.TheVariants as found
use Rattle.model.specs.Board.{Rule, Board, call_at, slot_at, cancelled_on?, GoodRule, Shape}
use Rattle.model.specs.Tests.{some?, every?, is_none}
use Rattle.model.specs.Commands.{scope_of, slots_of, read_at}
use Rattle.model.specs.Gaps.{bad_form?, bad_gap?, rule_of_gap}
use Rattle.layout.specs.Sizes.{CommandLent, bad_buffers?, bad_table?, killers_length, rows_length, slots_length, marks_length, records_length}
use Rattle.model.specs.Refusals.{number, first_of}
use Rattle.model.specs.Numbers as refused

-- a rule and the number that it is to come into force under
pub record NumberedRule : Type 0 where
  pub number : ℕ
  pub rule : Rule

-- slot counts, rules by number and cancelled calls, which are a board, a draft, and the boards that are kept under the names 0 and 1; `fresh`, below, has none of them
pub record Ledger : Type 0 where
  pub board : Board
  pub draft : Option NumberedRule
  pub marks : List (Option Board)

abbrev pub bare : List ℕ → Board
bare counts = record { counts = counts; rules = replicate 64 none; cancelled = [] }

abbrev pub none_kept : List (Option Board)
none_kept = none ∷ none ∷ []

abbrev pub fresh : Ledger
fresh = record { board = bare []; draft = none; marks = none_kept }

-- the board that is kept under a name; `kept_or` has one without calls where none is
abbrev pub kept_under : Ledger → ℕ → Option Board
kept_under L name = get_or L.marks name none

abbrev pub kept_or : Option Board → Board
kept_or none = bare []
kept_or (some B) = B

-- the board's shape, and the draft's: a number 0 to 63 and a rule that the board could have. A kept board has the calls and counts of the board
pub record LedgerShape (L : Ledger) : Type 0 where
  pub board : Shape L.board
  pub draft : (d : NumberedRule) → L.draft ≡ some d → (d.number < 64) × GoodRule L.board.counts d.rule
  pub names : length L.marks ≡ 2
  pub marks : (name : ℕ) (B : Board) → kept_under L name ≡ some B → Shape B × (B.counts ≡ L.board.counts)

-- the draft; the empty rule under number 255 where there is none
abbrev pub draft_or : Option NumberedRule → NumberedRule
draft_or none = record { number = 255; rule = record { scope = []; rows = [] } }
draft_or (some d) = d

-- 1 and 22: of what is lent with a command
abbrev pub lent_conditions : CommandLent → List (Bool × ℕ)
lent_conditions lent = (bad_buffers? lent.buffers lent.marks, refused.buffer_length) ∷ (bad_table? lent, refused.table_length) ∷ []

-- 5: there is no first call, a count is above 32, or after a 0 comes another number
abbrev pub bad_counts? : List ℕ → Bool
bad_counts? ns =
    eqb (get_or ns 0 0) 0 || some? (length ns) (λ i. ltb 32 (get_or ns i 0))
    || some? (length ns) (λ j. not (eqb (get_or ns j 0) 0) && some? j (λ i. eqb (get_or ns i 0) 0))

-- 11: one of four fields, past the arity a, is not 255
abbrev pub bad_spare? : ℕ → List ℕ → Bool
bad_spare? a xs = some? 4 λ k. leb a k && not (eqb (get_or xs k 255) 255)

-- 6: there is no call; 7: no rule can have the number; 17: none that is in force has it
abbrev pub no_board? : Ledger → Bool
no_board? L = eqb (length L.board.counts) 0

abbrev pub bad_number? : ℕ → Bool
bad_number? n = ltb 63 n

abbrev pub not_in_force? : Ledger → ℕ → Bool
not_in_force? L n = is_none (get_or L.board.rules n none)

-- 26: no mark can have the name
abbrev pub bad_name? : ℕ → Bool
bad_name? name = ltb 1 name

-- EACH KIND'S OWN CONDITIONS, in the order of SCOPE 4.3, for whoever enters it: `reserved` has what is checked right behind 7 of a rule's number, for numbers that
-- are another's. ns are the 32 counts that stand beside a kind 1
abbrev pub conditions_for : (ℕ → List (Bool × ℕ)) → Ledger → Command → List ℕ → List (Bool × ℕ)
conditions_for reserved L kind.Board ns = (bad_counts? ns, refused.bad_counts) ∷ []
conditions_for reserved L (kind.Head h) ns =
    (no_board? L, refused.no_board)
    ∷ (bad_number? h.number, refused.bad_number)
    ∷ (reserved h.number
    ++ ((ltb h.arity 1 || ltb 4 h.arity, refused.bad_arity)
    ∷ (some? h.arity (λ k. leb (length L.board.counts) (get_or (scope_of h) k 255)), refused.call_off_board)
    ∷ (some? h.arity (λ k. cancelled_on? L.board (get_or (scope_of h) k 255)), refused.cancelled_call)
    ∷ (some? h.arity (λ k. some? k (λ j. eqb (get_or (scope_of h) j 255) (get_or (scope_of h) k 255))), refused.call_twice)
    ∷ (bad_spare? h.arity (scope_of h), refused.spare_field)
    ∷ []))
conditions_for reserved L (kind.Row w) ns =
    let r = (draft_or L.draft).rule in
    (no_board? L, refused.no_board)
    ∷ (is_none L.draft, refused.no_draft)
    ∷ (leb 64 (length r.rows), refused.draft_full)
    ∷ (some? (length r.scope) (λ k. leb (get_or L.board.counts (call_at r k) 0) (get_or (slots_of w) k 255)), refused.slot_off_call)
    ∷ (bad_spare? (length r.scope) (slots_of w), refused.spare_field)
    ∷ (some? (length r.rows) (λ v. every? (length r.scope) (λ k. eqb (slot_at r v k) (get_or (slots_of w) k 255))), refused.row_twice)
    ∷ []
conditions_for reserved L kind.Post ns = (no_board? L, refused.no_board) ∷ (is_none L.draft, refused.no_draft) ∷ (not (not_in_force? L (draft_or L.draft).number), refused.in_force) ∷ []
conditions_for reserved L (kind.Retract n) ns = (no_board? L, refused.no_board) ∷ (bad_number? n, refused.bad_number) ∷ (reserved n ++ ((not_in_force? L n, refused.not_in_force) ∷ []))
conditions_for reserved L (kind.Gap f) ns =
    let counts = L.board.counts in
    (no_board? L, refused.no_board)
    ∷ (bad_number? f.number, refused.bad_number)
    ∷ (reserved f.number
    ++ ((bad_form? f.form, refused.bad_form)
    ∷ (leb (length counts) f.first || leb (length counts) f.second, refused.call_off_board)
    ∷ (cancelled_on? L.board f.first || cancelled_on? L.board f.second, refused.cancelled_call)
    ∷ (eqb f.first f.second, refused.call_twice)
    ∷ (bad_gap? f.form f.gap, refused.bad_gap)
    ∷ (ltb 64 (length (rule_of_gap counts f).rows), refused.too_many_pairs)
    ∷ []))
conditions_for reserved L (kind.Keep name) ns = (no_board? L, refused.no_board) ∷ (bad_name? name, refused.bad_name) ∷ []
conditions_for reserved L (kind.Back name) ns =
    (no_board? L, refused.no_board) ∷ (bad_name? name, refused.bad_name) ∷ (is_none (kept_under L name), refused.nothing_kept) ∷ []
conditions_for reserved L (kind.Cancel c) ns =
    (no_board? L, refused.no_board) ∷ (leb (length L.board.counts) c, refused.no_call) ∷ (cancelled_on? L.board c, refused.already_cancelled) ∷ []

-- the board itself reserves no number
abbrev pub none_reserved : ℕ → List (Bool × ℕ)
none_reserved n = []

abbrev pub kind_conditions : Ledger → Command → List ℕ → List (Bool × ℕ)
kind_conditions L c ns = conditions_for none_reserved L c ns

-- 3 and 4 of a command's bytes: 3 also where there is no byte at all, 4 also where bytes are left over
abbrev pub form_conditions : Read → Bool → List (Bool × ℕ)
form_conditions (found.Command c) leftOver = (leftOver, refused.body_length) ∷ []
form_conditions (found.Refused k e) leftOver = (true, number e) ∷ []
form_conditions found.End leftOver = (true, refused.unknown_kind) ∷ []

abbrev pub own_conditions : Ledger → Read → List ℕ → List (Bool × ℕ)
own_conditions L (found.Command c) ns = kind_conditions L c ns
own_conditions L (found.Refused k e) ns = []
own_conditions L found.End ns = []

-- what is checked without a look at the board: the lengths lent and the bytes' form; then the whole table of a command
abbrev pub early_conditions : CommandLent → List ℕ → List (Bool × ℕ)
early_conditions lent bytes = lent_conditions lent ++ form_conditions (read_at bytes 0).read (ltb (read_at bytes 0).next (length bytes))

abbrev pub conditions : Ledger → CommandLent → List ℕ → List (Bool × ℕ)
conditions L lent bytes = early_conditions lent bytes ++ own_conditions L (read_at bytes 0).read (read_at bytes 0).counts

-- a refusal's number, 0 for a command that is accepted
abbrev pub refusal : Ledger → CommandLent → List ℕ → ℕ
refusal L lent bytes = first_of (conditions L lent bytes)

-- the counts up to the first 0
abbrev pub up_to_zero : List ℕ → List ℕ
up_to_zero [] = []
up_to_zero (zero ∷ ns) = []
up_to_zero (suc n ∷ ns) = suc n ∷ up_to_zero ns

-- the board with r in force under the number p, or with no rule there
abbrev pub with_rule : Board → ℕ → Option Rule → Board
with_rule B p r = record { counts = B.counts; rules = set B.rules p r; cancelled = B.cancelled }

-- the board with call c cancelled too
abbrev pub cancel_call : Board → ℕ → Board
cancel_call B c = record { counts = B.counts; rules = B.rules; cancelled = c ∷ B.cancelled }

-- WHAT AN ACCEPTED COMMAND DOES (SCOPE 6.7): kind 1 leaves nothing but its counts, kind 2 begins a draft, kind 3 lengthens it by a row, kind 4 makes it a rule
-- in force, kind 5 takes such a rule away; kind 6 begins a draft with all the rows of a gap rule; kind 7 keeps the board under a name, and kind 8 makes the one that is
-- kept there the board, without a draft, and it stays kept; kind 9 cancels a call
abbrev pub effect : Ledger → Command → List ℕ → Ledger
effect L kind.Board ns = record { board = bare (up_to_zero ns); draft = none; marks = none_kept }
effect L (kind.Head h) ns =
    record { board = L.board; draft = some (record { number = h.number; rule = record { scope = take h.arity (scope_of h); rows = [] } }); marks = L.marks }
effect L (kind.Row w) ns =
    let d = draft_or L.draft in
    let r = d.rule in
    record {
      board = L.board;
      draft = some (record { number = d.number; rule = record { scope = r.scope; rows = r.rows ++ (take (length r.scope) (slots_of w) ∷ []) } });
      marks = L.marks;
    }
effect L kind.Post ns = let d = draft_or L.draft in record { board = with_rule L.board d.number (some d.rule); draft = none; marks = L.marks }
effect L (kind.Retract n) ns = record { board = with_rule L.board n none; draft = L.draft; marks = L.marks }
effect L (kind.Gap f) ns = record { board = L.board; draft = some (record { number = f.number; rule = rule_of_gap L.board.counts f }); marks = L.marks }
effect L (kind.Keep name) ns = record { board = L.board; draft = L.draft; marks = set L.marks name (some L.board) }
effect L (kind.Back name) ns = record { board = kept_or (kept_under L name); draft = none; marks = L.marks }
effect L (kind.Cancel c) ns = record { board = cancel_call L.board c; draft = L.draft; marks = L.marks }

abbrev pub read_effect : Ledger → Read → List ℕ → Ledger
read_effect L (found.Command c) ns = effect L c ns
read_effect L (found.Refused k e) ns = L
read_effect L found.End ns = L

-- a command that is refused, under any number but 0, does nothing (SCOPE 6.6)
abbrev pub obey : ℕ → Ledger → Read → List ℕ → Ledger
obey zero L r ns = read_effect L r ns
obey (suc n) L r ns = L

-- THE LEDGER'S STEP, by a command's bytes and the lengths lent (SCOPE 6.6, 6.7)
abbrev pub step : Ledger → CommandLent → List ℕ → Ledger
step L lent bytes = obey (refusal L lent bytes) L (read_at bytes 0).read (read_at bytes 0).counts

-- the ledger, or another account K of what stands, after a list of members of any type, each with its effect
abbrev pub ledger_after : {K M : Type 0} → (K → M → K) → K → List M → K
ledger_after next k [] = k
ledger_after next k (m ∷ ms) = ledger_after next (next k m) ms

-- a command of a list, as the ledger is fed it; and the run of a list of them
pub record Member : Type 0 where
  pub bytes : List ℕ
  pub lent : CommandLent

abbrev pub step_by : Ledger → Member → Ledger
step_by L m = step L m.lent m.bytes

abbrev pub run : Ledger → List Member → Ledger
run L ms = ledger_after step_by L ms

-- no command of a list is refused, each on the ledger that those before it leave
abbrev pub NoneRefused : Ledger → List Member → Type 0
NoneRefused L [] = Unit {0}
NoneRefused L (m ∷ ms) = (refusal L m.lent m.bytes ≡ 0) × NoneRefused (step_by L m) ms

-- the lengths of what is lent, right
abbrev pub lengths : CommandLent
lengths = record { buffers = record { rows = rows_length; killers = killers_length; slots = slots_length }; marks = marks_length; table = records_length }

abbrev pub member : List ℕ → Member
member bytes = record { bytes = bytes; lent = lengths }
