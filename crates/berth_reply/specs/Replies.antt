-- THE REPLIES: each answer of the board as a plain C struct. A number of 0 means that there is an answer, any other is the refusal's. A refusal's reply
-- holds nothing else: 0 for a count or a mask, and 254, which is no rule's, column's or row's number, where 0 would be one.
use Rattle.std.specs.Prelude.{◌≡◌, List, ℕ, zero, suc, ◌+◌, ◌≤◌, length, take, drop, Option, Some, None, Result, Ok, Err}
use Rattle.model.specs.declared.refusal.Refusal.{Refusal}
use Rattle.model.specs.declared.answer.OpenSlots.{OpenSlots}
use Rattle.model.specs.declared.answer.SlotState.{SlotState}
use Rattle.model.specs.declared.answer.SlotState.TheVariants as state
use Rattle.model.specs.declared.answer.RowState.{RowState}
use Rattle.model.specs.declared.answer.RowState.TheVariants as row
use Rattle.plan_model.specs.Check.{PlanCheck}
use Rattle.plan_search.specs.declared.answer.FirstPlan.{FirstPlan}
use Rattle.plan_search.specs.declared.answer.FirstPlan.TheVariants as first
use Rattle.plan_search.specs.First.{no_plan}
use Rattle.command_file.specs.declared.Replayed.{Replayed}
use Rattle.berth_reply.specs.declared.CommandReply.{CommandReply}
use Rattle.berth_reply.specs.declared.ReplayReply.{ReplayReply}
use Rattle.berth_reply.specs.declared.SlotsReply.{SlotsReply}
use Rattle.berth_reply.specs.declared.StateReply.{StateReply}
use Rattle.berth_reply.specs.declared.RowReply.{RowReply}
use Rattle.berth_reply.specs.declared.PlaceReply.{PlaceReply}
use Rattle.berth_reply.specs.declared.SupportReply.{SupportReply}
use Rattle.berth_reply.specs.declared.PlanReply.{PlanReply}
use Rattle.berth_reply.specs.declared.FirstReply.{FirstReply}
use Rattle.model.specs.Promise.{Answer, Promise}
use Rattle.model.specs.Questions.{row_checks, RowBytesPromise}
use Rattle.command_file.specs.Replay.{ReplayPromise}
use Rattle.layout.specs.Memory.{State, Whole}
use Rattle.model.specs.Refusals.{number, first_of, number_of}
use Rattle.layout.specs.Places.{row_start, cancelled_byte}

-- a reply hands on an answer that keeps its promise, and nothing else
pub record Replied {A B : Type 0} (Promised : A → Type 0) (replyTo : A → B) (reply : B) : Type 0 where
  pub answer : A
  pub promise : Promised answer
  pub handed : reply ≡ replyTo answer

-- S, R and T, which are 0 where refused
abbrev pub command_reply : Answer → CommandReply
command_reply (Ok r) = record { struck = r.struck; reopened = r.reopened; touched = r.touched; number = 0 }
command_reply (Err e) = record { struck = 0; reopened = 0; touched = 0; number = number e }

-- how many commands were run, and how the file ended
abbrev pub replay_reply : Replayed → ReplayReply
replay_reply r = record { ran = r.ran; number = number_of r.ended }

-- of a command and a file that is replayed: what is replied and the memory that is left, value and table and all, keep the entry's promise
abbrev pub CommandReplied : List ℕ → Whole → CommandReply → Whole → Type 0
CommandReplied bytes before reply after = Replied (λ given. Promise before bytes given after) command_reply reply

abbrev pub ReplayReplied : List ℕ → Whole → ReplayReply → Whole → Type 0
ReplayReplied file before reply after = ReplayPromise before file reply.number reply.ran after

-- the mask of a call's open slots, and its ones
abbrev pub slots_reply : Result OpenSlots Refusal → SlotsReply
slots_reply (Ok o) = record { mask = o.mask; ones = o.count; number = 0 }
slots_reply (Err e) = record { mask = 0; ones = 0; number = number e }

-- the cause of a struck slot; 255 of an open one, and 253 of one of a cancelled call, as in its byte
abbrev pub state_reply : Result SlotState Refusal → StateReply
state_reply (Ok state.Open) = record { number = 0; cause = 255 }
state_reply (Ok (state.Struck cause)) = record { number = 0; cause = cause }
state_reply (Ok state.Cancelled) = record { number = 0; cause = cancelled_byte }
state_reply (Err e) = record { number = number e; cause = 254 }

-- the killer's column of a dead row; 255 of one that is alive
abbrev pub row_reply : Result RowState Refusal → RowReply
row_reply (Ok row.Alive) = record { number = 0; killer = 255 }
row_reply (Ok (row.Killed column)) = record { number = 0; killer = column }
row_reply (Err e) = record { number = number e; killer = 254 }

-- the supporting row; 255 where there is none
abbrev pub support_reply : Result (Option ℕ) Refusal → SupportReply
support_reply (Ok (Some w)) = record { number = 0; row = w }
support_reply (Ok None) = record { number = 0; row = 255 }
support_reply (Err e) = record { number = number e; row = 254 }

-- the lowest number of a rule that the plan breaks; 255 where it is kept
abbrev pub plan_reply : PlanCheck → PlanReply
plan_reply (Ok None) = record { number = 0; broken = 255 }
plan_reply (Ok (Some p)) = record { number = 0; broken = p }
plan_reply (Err e) = record { number = number e; broken = 254 }

-- how a search ended, with its trials: 1 with a plan, 0 with none, and 2 at the ceiling. The plan stands beside it; 255 throughout where none is found
abbrev pub first_reply : Result FirstPlan Refusal → FirstReply
first_reply (Ok (first.Found n plan)) = record { trials = n; number = 0; ending = 1; plan = plan }
first_reply (Ok (first.Nothing n)) = record { trials = n; number = 0; ending = 0; plan = no_plan }
first_reply (Ok (first.Stopped n)) = record { trials = n; number = 0; ending = 2; plan = no_plan }
first_reply (Err e) = record { trials = 0; number = number e; ending = 254; plan = no_plan }

-- where a row's four bytes stand in the lent row buffer, by the number of the row's refusal; no byte of it where there is one
abbrev pub place_reply : ℕ → ℕ → ℕ → PlaceReply
place_reply zero p w = record { place = row_start p w; length = 4 }
place_reply (suc n) p w = record { place = 0; length = 0 }

-- the part of the buffer that a reply names is inside it, and is the part that the question hands back
pub record PlaceReplied (s : State) (p w : ℕ) (reply : PlaceReply) : Type 0 where
  pub equation : reply ≡ place_reply (first_of (row_checks s p w)) p w
  pub inside : reply.place + reply.length ≤ length s.rows
  pub promise : RowBytesPromise s p w (take reply.length (drop reply.place s.rows))
