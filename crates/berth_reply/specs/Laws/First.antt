-- The plan that is replied is that of the answer (SCOPE 10.5): every byte is 255 where no plan is found, where the search was stopped, and where the question is refused (5.10).
-- Assumes nothing.
use Rattle.std.specs.Prelude.{◌≡◌, refl, ℕ, Result, Ok, Err}
use Rattle.model.specs.declared.refusal.Refusal.{Refusal}
use Rattle.plan_search.specs.declared.answer.FirstPlan.{FirstPlan}
use Rattle.plan_search.specs.declared.answer.FirstPlan.TheVariants as first
use Rattle.plan_search.specs.First.{no_plan, first_bytes}
use Rattle.berth_reply.specs.Replies.{first_reply}

pub reply_bytes : (given : Result FirstPlan Refusal) → (first_reply given).plan ≡ first_bytes given
reply_bytes (Ok (first.Found n plan)) = refl
reply_bytes (Ok (first.Nothing n)) = refl
reply_bytes (Ok (first.Stopped n)) = refl
reply_bytes (Err e) = refl

-- WHERE NO PLAN IS FOUND no call is laid in the one that is replied
pub none_replied : (n : ℕ) → (first_reply (Ok (first.Nothing n))).plan ≡ no_plan
none_replied n = refl

pub stopped_replied : (n : ℕ) → (first_reply (Ok (first.Stopped n))).plan ≡ no_plan
stopped_replied n = refl

pub refused_replied : (e : Refusal) → (first_reply (Err e)).plan ≡ no_plan
refused_replied e = refl
