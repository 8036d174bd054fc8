-- DEMAND 3 OF THE COMMAND ENTRY (SCOPE 6.12 to 6.15), over every list of raw commands with any lengths lent, and over every two lists; and the summary table after every
-- list (2.9, 7.11), the check of plans (5.7, 5.8) and the search for one (5.9, 5.10). Nothing is assumed but that each command of a list meets the entry's contract, which `command` of this crate is proved to do.
use Rattle.std.specs.Prelude.{◌≡◌, List, ◌↔◌, ◌⊎◌, ℕ, ◌≤◌, ◌<◌, length, get_or, Some, None, Result, Ok}
use Rattle.std.proofs.Common.{◌∙◌, inl, inr, ⊎_elim, arith}
use Rattle.model.specs.Board.{Rule, Board, call_at, Cancelled, Live, InForce, SelfSupporting, Viable, Alive, Dead, FullPlan, AtLeast}
use Rattle.model.specs.Records.{Open, Struck, Caused, KillerIn, Ring, NoRing, EscapeFromAll, Recorded}
use Rattle.model.specs.Ledger.{Member, fresh, run}
use Rattle.model.specs.Report.{slot_count, open?}
use Rattle.model.specs.Summary.{Current, open_total, open_sum}
use Rattle.model.proofs.Laws.Theory as theory
use Rattle.model.specs.Lists.{After}
use Rattle.model.proofs.Laws.Lists.{demand_3, demand_3_two, runs_represent}
use Rattle.model.proofs.Laws.Summary.{absent_zero, cancelled_zero, total_of_records, total_of_bytes}
use Rattle.model.proofs.Laws.Cancelled.{cancelled_byte_lem}
use Rattle.model.proofs.Laws.Change.{byte_on}
use Rattle.layout.specs.Places.{cause_of, killer_of, cancelled_byte}
use Rattle.layout.specs.Summary.{no_summary}
use Rattle.layout.specs.Sizes.{records_length}
use Rattle.layout.specs.Memory.{Whole, lent_of}
use Rattle.model.specs.Refusals.{first_of}
use Rattle.model.specs.declared.refusal.Refusal.{Refusal}
use Rattle.plan_model.specs.Plans.{slot_in}
use Rattle.plan_model.specs.Check.{plan_conditions, PlanCheck, LowestBroken, PlanPromise}
use Rattle.plan_model.proofs.Laws.Kept.{kept_exactly, struck_broken}
use Rattle.model.specs.Questions.{board_conditions}
use Rattle.plan_search.specs.declared.answer.FirstPlan.TheVariants as searched
use Rattle.plan_search.specs.declared.answer.FirstPlan.{FirstPlan}
use Rattle.plan_search.specs.First.{board_task, search_all, trials, FoundFirst, FirstPromise}
use Rattle.plan_search.proofs.Laws.Exactly.{found_exactly, none_exactly, stopped_exactly, found_is_first}
use Rattle.plan_search.proofs.Laws.Checked.{found_kept}
use Rattle.board.specs.Lists.{board_after}

-- FOR EVERY LIST OF COMMANDS
module _ {first : List ℕ} (ms : List Member) (s : Whole) (after : After first ms s) where
  abbrev B : Board
  B = board_after ms

  abbrev cause : ℕ → ℕ → ℕ
  cause = cause_of s.marked.state.slots

  abbrev killer : ℕ → ℕ → ℕ
  killer = killer_of s.marked.state.killers

  known : Recorded B cause killer
  known = (runs_represent ms s after).1.state.stored.recorded

  -- OPEN AND STRUCK BY THE BYTE ALONE (SCOPE 6.4): at a call and a slot below 32 the byte 255 is that of an open slot of the board,
  pub byte_open : (c t : ℕ) → c < 32 → t < 32 → cause c t ≡ 255 → Open B cause c t
  byte_open c t lc lt e = (byte_on B cause (runs_represent ms s after).1.state.stored.off c t lc lt (inl e), e)

  -- and a byte below 64 that of a struck one: so the board has the slot, and its call takes part (`on_live`)
  pub byte_struck : (c t : ℕ) → c < 32 → t < 32 → cause c t < 64 → Struck B cause c t
  byte_struck c t lc lt h = (byte_on B cause (runs_represent ms s after).1.state.stored.off c t lc lt (inr h), h)

  -- no set at all, with a test or without one, is a ring (SCOPE 6.12, 1.13)
  pub rings_empty : (E : ℕ → ℕ → Type 0) → Ring B cause killer E → ⊥
  rings_empty = theory.rings_empty B cause killer known

  -- so no struck slots form one
  pub no_ring : NoRing B cause killer
  no_ring = (demand_3 ms s after).ring

  -- the same in the words of SCOPE 1.14: from each set of struck slots that has a member, killers lead out
  pub way_out : EscapeFromAll B cause killer
  way_out = (demand_3 ms s after).escape

  -- the slot that a full plan gives a call is not struck (SCOPE 6.13)
  pub plans_open : (plan : ℕ → ℕ) → FullPlan B plan → (c : ℕ) → c < length B.counts → Struck B cause c (plan c) → ⊥
  plans_open = (demand_3 ms s after).plan

  -- causes are what SCOPE 1.12 says (6.15)
  pub causes : (c t : ℕ) → Struck B cause c t → Caused B cause c t
  causes = (demand_3 ms s after).cause

  -- killers are what SCOPE 1.11 says, and a living row has none (6.15)
  pub killers_struck : (p : ℕ) (r : Rule) → InForce B p r → (w : ℕ) → w < length r.rows
      → ((killer p w ≡ 255) × Alive B r w) ⊎ (KillerIn B killer (Struck B cause) r p w × Dead B r w)
  killers_struck = (demand_3 ms s after).killer

  -- demand 2, after every list (SCOPE 6.11): each open slot has a living row in every rule on its call,
  pub open_supported : SelfSupporting B (Open B cause)
  open_supported = known.self

  -- and every self-supporting set, with a test or without one, is open
  pub supported_open : (A : ℕ → ℕ → Type 0) → SelfSupporting B A → (c t : ℕ) → A c t → Open B cause c t
  supported_open = theory.largest B cause killer known

  -- so a slot is open exactly where some self-supporting set has it
  pub largest : (c t : ℕ) → Open B cause c t ↔ Viable B c t
  largest = (demand_3 ms s after).viable

  -- THE SUMMARY, after every list (SCOPE 2.9): the table has 32 records, and each is its call's,
  pub current : Current B s.table
  current = (runs_represent ms s after).2

  -- which is all zeros where the board has no such call,
  pub absent : (c : ℕ) → length B.counts ≤ c → c < records_length → get_or s.table c no_summary ≡ no_summary
  absent c none lc = current.each c lc ∙ absent_zero B (runs_represent ms s after).0.board c none lc

  -- and the open slots of the whole board, O of the sheet (SCOPE 7.11), are the sum over the records and the count over the slot bytes
  pub total_records : open_total B ≡ open_sum s.table
  total_records = total_of_records B s.table current

  pub total_bytes : open_total B ≡ slot_count (open? s.marked.state.slots)
  total_bytes = total_of_bytes (run fresh ms) s.marked.state (runs_represent ms s after).1.state

  -- CANCELLED CALLS, after every list (SCOPE 1.21): each slot of one has the byte 253,
  pub cancelled_bytes : (c t : ℕ) → Cancelled B c → t < get_or B.counts c 0 → cause c t ≡ cancelled_byte
  cancelled_bytes c t g lt =
      let shape = (runs_represent ms s after).0.board in
      let there = shape.cancelled c g in
      let most = (shape.counts c there).1 in
      cancelled_byte_lem B shape (runs_represent ms s after).1.state.stored c t (omega (arith, shape.calls)) (omega arith) lt g

  -- and no self-supporting set has it, with a test or without one;
  pub cancelled_nowhere : (A : ℕ → ℕ → Type 0) → SelfSupporting B A → (c t : ℕ) → Cancelled B c → A c t → ⊥
  cancelled_nowhere A self c t g a = theory.live_not B c (theory.on_live B c t (self.slots c t a)) g

  -- its record has no open and no struck slot (2.13);
  pub cancelled_record : (c : ℕ) → c < records_length → Cancelled B c → ((get_or s.table c no_summary).«open» ≡ 0) × ((get_or s.table c no_summary).struck ≡ 0)
  cancelled_record c lc g = rw (current.each c lc) (cancelled_zero B c g)

  -- and no killer is in its column (2.12)
  pub killers_live : (p : ℕ) (r : Rule) → InForce B p r → (w : ℕ) → w < length r.rows → (killer p w ≡ 255) ⊎ Live B (call_at r (killer p w))
  killers_live p r f w lw = ⊎_elim (λ a. inl a.0) (λ d. inr (theory.active_live B r (killer p w) d.0.column)) (killers_struck p r f w lw)

  -- PLANS FROM ELSEWHERE, after every list (SCOPE 5.7): of bytes that pass the checks, whatever answer keeps its promise is "kept" exactly where they are a full plan,
  module _ (bytes : List ℕ) (passes : first_of (plan_conditions (run fresh ms) (lent_of s.marked.state) bytes) ≡ 0) (given : PlanCheck)
      (promise : PlanPromise s.marked.state bytes given) where
    pub plan_kept_exactly : (given ≡ Ok None) ↔ FullPlan B (slot_in bytes)
    plan_kept_exactly = let r = runs_represent ms s after in kept_exactly (run fresh ms) r.0 s.marked.state r.1.state bytes passes given promise

    -- and where they use a struck slot a rule is named that they break (5.8)
    pub plan_struck_broken : (c : ℕ) → c < length B.counts → Struck B cause c (slot_in bytes c) → (p : ℕ) × (given ≡ Ok (Some p)) × LowestBroken B (slot_in bytes) p
    plan_struck_broken = let r = runs_represent ms s after in struck_broken (run fresh ms) r.0 s.marked.state r.1.state bytes passes given promise

  -- THE FIRST FULL PLAN, after every list (SCOPE 5.9, 5.10): where nothing is refused, whatever answer keeps its promise is "found" exactly where there is a full plan and
  -- the search comes to it within the ceiling,
  module _ (passes : first_of (board_conditions (run fresh ms) (lent_of s.marked.state)) ≡ 0) (ceiling : ℕ) (given : Result FirstPlan Refusal)
      (promise : FirstPromise s.marked.state ceiling given) where
    abbrev needed : ℕ
    needed = trials (search_all (board_task B))

    pub plan_found_exactly : ((n : ℕ) × ((plan : List ℕ) × (given ≡ Ok (searched.Found n plan)))) ↔ (((P : ℕ → ℕ) × FullPlan B P) × (needed ≤ ceiling))
    plan_found_exactly = let r = runs_represent ms s after in found_exactly (run fresh ms) r.0 s.marked.state r.1.state passes ceiling given promise

    -- "none" exactly where there is no full plan and the search finishes within the ceiling,
    pub plan_none_exactly : ((n : ℕ) × (given ≡ Ok (searched.Nothing n))) ↔ (((P : ℕ → ℕ) → FullPlan B P → ⊥) × (needed ≤ ceiling))
    plan_none_exactly = let r = runs_represent ms s after in none_exactly (run fresh ms) r.0 s.marked.state r.1.state passes ceiling given promise

    -- "stopped" exactly where the search needs more trials than the ceiling;
    pub search_stopped_exactly : ((n : ℕ) × (given ≡ Ok (searched.Stopped n))) ↔ (ceiling < needed)
    search_stopped_exactly = let r = runs_represent ms s after in stopped_exactly (run fresh ms) r.0 s.marked.state r.1.state passes ceiling given promise

    -- what is found is the first full plan, with the trials that it needs,
    pub plan_found_first : (n : ℕ) (plan : List ℕ) → given ≡ Ok (searched.Found n plan) → FoundFirst B ceiling plan n
    plan_found_first = let r = runs_represent ms s after in found_is_first (run fresh ms) r.0 s.marked.state r.1.state passes ceiling given promise

    -- and whatever check keeps its promise says that it is kept
    pub plan_found_kept : (n : ℕ) (plan : List ℕ) → given ≡ Ok (searched.Found n plan) → (check : PlanCheck) → PlanPromise s.marked.state plan check → check ≡ Ok None
    plan_found_kept = let r = runs_represent ms s after in found_kept (run fresh ms) r.0 s.marked.state r.1.state ceiling given promise

-- OF TWO LISTS (SCOPE 6.14, 6.21): with the same calls and counts, at least the same rules after the second, and every call that is cancelled after it cancelled after the
-- first, each slot open after the second is open after the first, on calls cancelled after neither
pub more_rules_fewer_open : {first first' : List ℕ} (ms ms' : List Member) (s s' : Whole) → After first ms s → After first' ms' s' → AtLeast (board_after ms) (board_after ms') → (c t : ℕ)
    → Live (board_after ms) c → Live (board_after ms') c
    → Open (board_after ms') (cause_of s'.marked.state.slots) c t → Open (board_after ms) (cause_of s.marked.state.slots) c t
more_rules_fewer_open ms ms' s s' after after' = demand_3_two ms ms' s s' after after'
