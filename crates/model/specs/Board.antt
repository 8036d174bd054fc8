-- CALLS, SLOTS, RULES (SCOPE 1): what a board is and what its rules ask, with no byte of the lent memory in it.
use Rattle.std.specs.Prelude.{◌≡◌, Bool, not, ◌&&◌, cond, List, [], ◌≢◌, ℕ, ◌<◌, ◌≤◌, length, get_or, T, ltb}
use Rattle.std.proofs.Math.Option.{Option, none, some}
use Rattle.model.specs.Tests.{has}

-- RULE (SCOPE 1.2): the call of each column, and the rows, each a slot for each column. Its number is its place among the board's rules, its arity the number
-- of its calls; `GoodRule`, below, has the limits
pub record Rule : Type 0 where
  pub scope : List ℕ
  pub rows : List (List ℕ)

-- BOARD (SCOPE 1.1): the slot count of each call, the rule in force under each number, and the numbers of the cancelled calls (1.18)
pub record Board : Type 0 where
  pub counts : List ℕ
  pub rules : List (Option Rule)
  pub cancelled : List ℕ

-- the call of column k, and the slot that row w has there; 255 past the last, as in the lent memory
abbrev pub call_at : Rule → ℕ → ℕ
call_at r k = get_or r.scope k 255

abbrev pub slot_at : Rule → ℕ → ℕ → ℕ
slot_at r w k = get_or (get_or r.rows w []) k 255

-- call c is cancelled (SCOPE 1.18, order 6); one that is not takes part on the board
abbrev pub cancelled_on? : Board → ℕ → Bool
cancelled_on? B c = has B.cancelled c

abbrev pub Cancelled : Board → ℕ → Type 0
Cancelled B c = T (cancelled_on? B c)

abbrev pub live? : Board → ℕ → Bool
live? B c = not (cancelled_on? B c)

abbrev pub Live : Board → ℕ → Type 0
Live B c = T (live? B c)

-- the slots that call c has in sets, plans and records: as many as its count says, and none where it is cancelled
abbrev pub slots_on : Board → ℕ → ℕ
slots_on B c = cond (cancelled_on? B c) 0 (get_or B.counts c 0)

-- slot s of call c is on the board: it is one of the call's, and the call is not cancelled (Laws.Theory, `on_board`)
abbrev pub OnBoard : Board → ℕ → ℕ → Type 0
OnBoard B c s = s < slots_on B c

-- rule r is in force under the number p
abbrev pub InForce : Board → ℕ → Rule → Type 0
InForce B p r = get_or B.rules p none ≡ some r

-- COLUMN k OF RULE r IS ACTIVE on the board, or counts, as SCOPE 1.19 says: it is a column of the rule, and its call is not cancelled. All that a rule asks of its
-- rows' slots goes by this one definition
unfoldable pub active? : Board → Rule → ℕ → Bool
active? B r k = ltb k (length r.scope) && live? B (call_at r k)

abbrev pub Active : Board → Rule → ℕ → Type 0
Active B r k = T (active? B r k)

-- call c is in the scope of r, a rule on it: an active column has the call
pub record InScope (B : Board) (r : Rule) (c : ℕ) : Type 0 where
  pub column : ℕ
  pub active : Active B r column
  pub call : call_at r column ≡ c

-- slot s of call c stands in row w of r, in an active column
pub record Holds (B : Board) (r : Rule) (w c s : ℕ) : Type 0 where
  pub column : ℕ
  pub active : Active B r column
  pub call : call_at r column ≡ c
  pub slot : slot_at r w column ≡ s

-- A SET OF SLOTS is a type for each call and slot. Row w's slots are all in the set A
abbrev pub Within : Board → (ℕ → ℕ → Type 0) → Rule → ℕ → Type 0
Within B A r w = (k : ℕ) → Active B r k → A (call_at r k) (slot_at r w k)

-- slot s of call c stands in a row of r whose slots are all in A
pub record Supported (B : Board) (A : ℕ → ℕ → Type 0) (r : Rule) (c s : ℕ) : Type 0 where
  pub row : ℕ
  pub inside : row < length r.rows
  pub holds : Holds B r row c s
  pub within : Within B A r row

-- SELF-SUPPORTING (SCOPE 1.5): each member is a slot of the board and has, in every rule in force on its call, a row that holds it and lies inside the set
pub record SelfSupporting (B : Board) (A : ℕ → ℕ → Type 0) : Type 0 where
  pub slots : (c s : ℕ) → A c s → OnBoard B c s
  pub support : (c s : ℕ) → A c s → (p : ℕ) (r : Rule) → InForce B p r → InScope B r c → Supported B A r c s

-- the set of the slots that the test f passes
abbrev pub Passing : (ℕ → ℕ → Bool) → ℕ → ℕ → Type 0
Passing f c s = T (f c s)

-- OPEN (SCOPE 1.6): some self-supporting set, given by a test, has slot s of call c. So these slots are the union of such sets
pub record Viable (B : Board) (c s : ℕ) : Type 0 where
  pub set : ℕ → ℕ → Bool
  pub self : SelfSupporting B (Passing set)
  pub has : T (set c s)

-- the same over sets that need have no test. It is in Type 1, where no contract can cite it; Laws.Filter shows that the two agree
pub record ViableInAny (B : Board) (c s : ℕ) : Type 1 where
  pub set : ℕ → ℕ → Type 0
  pub self : SelfSupporting B set
  pub has : set c s

-- ALIVE, DEAD (SCOPE 1.10): row w lives while each of its slots is open
abbrev pub Alive : Board → Rule → ℕ → Type 0
Alive B r w = Within B (Viable B) r w

abbrev pub Dead : Board → Rule → ℕ → Type 0
Dead B r w = Alive B r w → ⊥

-- no slot's number: what a plan has for a call that it gives no slot
abbrev pub no_slot_given : ℕ
no_slot_given = 255

-- ROW w OF RULE r FITS A PLAN (SCOPE 1.23): in each active column it has the slot that the plan gives the column's call. Full plans, and plans that are checked
-- (order 10), go by this one definition
abbrev pub RowFits : Board → (ℕ → ℕ) → Rule → ℕ → Type 0
RowFits B plan r w = (k : ℕ) → Active B r k → slot_at r w k ≡ plan (call_at r k)

-- a plan KEEPS a rule if, with an active column j, the rule has a row that fits: one without an active column asks nothing (1.20)
abbrev pub KeepsRule : Board → (ℕ → ℕ) → Rule → Type 0
KeepsRule B plan r = (j : ℕ) → Active B r j → (w : ℕ) × (w < length r.rows) × RowFits B plan r w

-- FULL PLAN (SCOPE 1.15, 1.22), a term of the scope: each call that is not cancelled gets a slot of its own and a cancelled one none, and the plan keeps every rule in
-- force
pub record FullPlan (B : Board) (plan : ℕ → ℕ) : Type 0 where
  pub gives : (c : ℕ) → c < length B.counts → Live B c → OnBoard B c (plan c)
  pub absent : (c : ℕ) → Cancelled B c → plan c ≡ no_slot_given
  pub keeps : (p : ℕ) (r : Rule) → InForce B p r → KeepsRule B plan r

-- SAME RULES (SCOPE 1.16): the same calls in the same columns, and each row of either rule is a row of the other
abbrev pub RowsIn : Rule → Rule → Type 0
RowsIn r r' = (w : ℕ) → w < length r.rows → (w' : ℕ) × (w' < length r'.rows) × (get_or r.rows w [] ≡ get_or r'.rows w' [])

pub record Same (r r' : Rule) : Type 0 where
  pub scope : r.scope ≡ r'.scope
  pub there : RowsIn r r'
  pub back : RowsIn r' r

-- a rule in force on B is the same as r
pub record SameIn (B : Board) (r : Rule) : Type 0 where
  pub number : ℕ
  pub rule : Rule
  pub force : InForce B number rule
  pub same : Same r rule

-- AT LEAST THE SAME RULES (SCOPE 1.17), on the same calls and counts: each rule in force on B is the same as one in force on B', and each call cancelled on B' is
-- cancelled on B (6.14, 6.21)
pub record AtLeast (B B' : Board) : Type 0 where
  pub counts : B.counts ≡ B'.counts
  pub cancelled : (c : ℕ) → Cancelled B' c → Cancelled B c
  pub rules : (p : ℕ) (r : Rule) → InForce B p r → SameIn B' r

-- THE SHAPE that every board keeps (SCOPE 1.1, 1.2). A rule has 1 to 4 different calls of the board, and up to 64 different rows with a slot of each call
pub record GoodRule (counts : List ℕ) (r : Rule) : Type 0 where
  pub most : length r.scope ≤ 4
  pub least : 0 < length r.scope
  pub scope : (k : ℕ) → k < length r.scope → call_at r k < length counts
  pub apart : (j k : ℕ) → j < k → k < length r.scope → call_at r j ≢ call_at r k
  pub few : length r.rows ≤ 64
  pub width : (w : ℕ) → w < length r.rows → length (get_or r.rows w []) ≡ length r.scope
  pub slots : (w k : ℕ) → w < length r.rows → k < length r.scope → slot_at r w k < get_or counts (call_at r k) 0
  pub rows : (v w : ℕ) → v < w → w < length r.rows → get_or r.rows v [] ≢ get_or r.rows w []

-- up to 32 calls, a fresh board having none, with 1 to 32 slots each; rules are numbered 0 to 63; a cancelled call is one of the calls
pub record Shape (B : Board) : Type 0 where
  pub calls : length B.counts ≤ 32
  pub counts : (c : ℕ) → c < length B.counts → (0 < get_or B.counts c 0) × (get_or B.counts c 0 ≤ 32)
  pub numbers : length B.rules ≡ 64
  pub rules : (p : ℕ) (r : Rule) → InForce B p r → GoodRule B.counts r
  pub cancelled : (c : ℕ) → Cancelled B c → c < length B.counts
