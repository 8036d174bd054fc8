-- S, R AND T (SCOPE 3.7 to 3.10, 3.15, 3.17): what an accepted command reports of the slots that it struck, reopened and touched.
use Rattle.std.specs.Prelude.{◌≡◌, Bool, true, false, not, ◌&&◌, cond, List, ℕ, ◌+◌, ◌/◌, ◌%◌, eqb, ltb}
use Rattle.model.specs.declared.answer.Report.{Report}
use Rattle.model.specs.declared.command.Command.{Command}
use Rattle.model.specs.declared.command.Command.TheVariants as kind
use Rattle.model.specs.Board.{Board, slots_on}
use Rattle.model.specs.Tests.{count_below}
use Rattle.model.specs.Filter.{in?, open_of}
use Rattle.model.specs.Changes.{CauseIs, OwnSlot, Smallest}
use Rattle.layout.specs.Places.{cause_of, killer_of}
use Rattle.layout.specs.Memory.{State}
use Rattle.layout.specs.Sizes.{slots_length}

-- how many slots pass a test: 32 calls of 32 slots, in the order of their bytes
abbrev pub slot_count : (ℕ → ℕ → Bool) → ℕ
slot_count f = count_below slots_length λ i. f (i / 32) (i % 32)

abbrev pub open? : List ℕ → ℕ → ℕ → Bool
open? slots c s = eqb (cause_of slots c s) 255

abbrev pub struck? : List ℕ → ℕ → ℕ → Bool
struck? slots c s = ltb (cause_of slots c s) 64

-- S and R of two slot buffers, and the number of slots struck in one
abbrev pub struck_between : List ℕ → List ℕ → ℕ
struck_between before after = slot_count λ c s. open? before c s && struck? after c s

abbrev pub reopened_between : List ℕ → List ℕ → ℕ
reopened_between before after = slot_count λ c s. struck? before c s && open? after c s

abbrev pub struck_in : List ℕ → ℕ
struck_in slots = slot_count (struck? slots)

-- the number struck on calls other than c
abbrev pub struck_beside : ℕ → List ℕ → ℕ
struck_beside c slots = slot_count λ d s. not (eqb d c) && struck? slots d s

-- a slot is on the board B and not among its open ones; and S and R of two boards, from the open slots of each, on B the one after and the one before. A slot of a call
-- that is cancelled on either board is in neither
abbrev pub closed? : Board → List (List ℕ) → ℕ → ℕ → Bool
closed? B left c s = ltb s (slots_on B c) && not (in? left c s)

abbrev pub struck_of : Board → List (List ℕ) → List (List ℕ) → ℕ
struck_of B left left' = slot_count λ c s. in? left c s && closed? B left' c s

abbrev pub reopened_of : Board → List (List ℕ) → List (List ℕ) → ℕ
reopened_of B left left' = slot_count λ c s. closed? B left c s && in? left' c s

-- the kinds that change slots of the board that stands: put, lift, back and cancel (SCOPE 3.8)
abbrev pub changes_slots? : Command → Bool
changes_slots? kind.Board = false
changes_slots? (kind.Head h) = false
changes_slots? (kind.Row w) = false
changes_slots? kind.Post = true
changes_slots? (kind.Retract n) = true
changes_slots? (kind.Gap f) = false
changes_slots? (kind.Keep n) = false
changes_slots? (kind.Back n) = true
changes_slots? (kind.Cancel c) = true

-- S and R of an accepted command, from the boards before and after
abbrev pub struck_by : Command → Board → Board → ℕ
struck_by c B B' = cond (changes_slots? c) (struck_of B' (open_of B) (open_of B')) 0

abbrev pub reopened_by : Command → Board → Board → ℕ
reopened_by c B B' = cond (changes_slots? c) (reopened_of B (open_of B) (open_of B')) 0

-- a put reopens nothing, and touches what it strikes (SCOPE 3.9)
pub record PostOwn (r : Report) : Type 0 where
  pub none_reopened : r.reopened ≡ 0
  pub touched : r.touched ≡ r.struck

-- T FROM A SEED (SCOPE 3.19, order 9): the size of the smallest closed set, by the causes and killers before the command. What does not pass `counted` is left out
pub record TouchedFrom (B : Board) (Seed : ℕ → ℕ → Type 0) (counted : ℕ → ℕ → Bool) (killers slots : List ℕ) (t : ℕ) : Type 0 where
  pub set : ℕ → ℕ → Bool
  pub smallest : Smallest B Seed (cause_of slots) (killer_of killers) set
  pub size : t ≡ slot_count λ c s. counted c s && set c s

-- of a lift of rule p: from the slots whose cause is p, none left out (SCOPE 3.10)
abbrev pub RetractTouched : Board → ℕ → List ℕ → List ℕ → ℕ → Type 0
RetractTouched B p killers slots t = TouchedFrom B (CauseIs (cause_of slots) p) (λ c s. true) killers slots t

-- of a cancellation of call d: from the struck slots of d, and these are left out (SCOPE 3.17)
abbrev pub CancelTouched : Board → ℕ → List ℕ → List ℕ → ℕ → Type 0
CancelTouched B d killers slots t = TouchedFrom B (OwnSlot d) (λ c s. not (eqb c d)) killers slots t

-- neither strikes anything. That R is at most T, and T at most the number of slots that were struck, follows (Laws.Touched)
pub record RelaxOwn (OwnTouched : List ℕ → List ℕ → ℕ → Type 0) (before : State) (r : Report) : Type 0 where
  pub none_struck : r.struck ≡ 0
  pub touched : OwnTouched before.killers before.slots r.touched

-- what a kind says of its own (SCOPE 3.8 to 3.10, 3.15, 3.17): kinds 1, 2, 3, 6 and 7 touch nothing, and kind 8 touches what it strikes and what it reopens
abbrev pub ReportsOwn : Board → Command → State → Report → Type 0
ReportsOwn B kind.Board before r = r.touched ≡ 0
ReportsOwn B (kind.Head h) before r = r.touched ≡ 0
ReportsOwn B (kind.Row w) before r = r.touched ≡ 0
ReportsOwn B kind.Post before r = PostOwn r
ReportsOwn B (kind.Retract n) before r = RelaxOwn (RetractTouched B n) before r
ReportsOwn B (kind.Gap f) before r = r.touched ≡ 0
ReportsOwn B (kind.Keep n) before r = r.touched ≡ 0
ReportsOwn B (kind.Back n) before r = r.touched ≡ r.struck + r.reopened
ReportsOwn B (kind.Cancel d) before r = RelaxOwn (CancelTouched B d) before r

-- THE REPORT OF A COMMAND on the board B, from the states before and after: S and R count the slots that a put, a lift, a back or a cancellation changed (SCOPE 3.7)
pub record Reports (B : Board) (c : Command) (before after : State) (r : Report) : Type 0 where
  pub struck : r.struck ≡ cond (changes_slots? c) (struck_between before.slots after.slots) 0
  pub reopened : r.reopened ≡ cond (changes_slots? c) (reopened_between before.slots after.slots) 0
  pub own : ReportsOwn B c before r
