-- AN ANSWER IS KNOWN by its number and values. Assumes nothing.
use Rattle.std.specs.Prelude.{◌≡◌, refl, List, ℕ, suc, length, Ok, Err}
use Rattle.std.proofs.Common.{sym, ap, ◌∙◌, arith}
use Rattle.model.specs.declared.answer.Report.{Report}
use Rattle.model.specs.declared.refusal.Refusal.{Refusal}
use Rattle.model.specs.Promise.{Answer, report_values, values_of, NeverZero, values_at, MemoryPromise}
use Rattle.model.specs.Refusals.{number, number_of}
use Rattle.model.proofs.Laws.Refusals.{number_not_zero}
use Rattle.layout.specs.Memory.{MarkedState}
use Rattle.layout.specs.Sizes.{CommandLent}

pub refused_by : (a : Answer) (n : ℕ) → number_of a ≡ suc n → (e : Refusal) × (a ≡ Err e) × (number e ≡ suc n)
refused_by (Ok r) n e = absurd (omega arith)
refused_by (Err f) n e = (f, refl, e)

-- two reports with the same values are one
report_same : (q r : Report) → report_values q ≡ report_values r → q ≡ r
report_same q r e =
    let s : q.struck ≡ r.struck = cc in
    let o : q.reopened ≡ r.reopened = cc in
    let t : q.touched ≡ r.touched = cc in
    let z : ◌≡◌ {A = Report} (record { struck = q.struck; reopened = q.reopened; touched = q.touched }) (record { struck = r.struck; reopened = r.reopened; touched = r.touched }) = cc in
    z

pub accepted_by : (a : Answer) (r : Report) → values_of a ≡ report_values r → a ≡ Ok r
accepted_by (Ok q) r e = ap Ok (report_same q r e)
accepted_by (Err f) r e = let z : ◌≡◌ {A = ℕ} 0 3 = ap length e in absurd (omega arith)

-- no answer is refused under 0
pub never_zero : (a : Answer) → NeverZero a
never_zero a f e z = absurd (number_not_zero f z)

-- an answer by a number and its values is never refused 0: values go with 0
pub never_zero_by : (a : Answer) (n : ℕ) (r : Report) → number_of a ≡ n → values_of a ≡ values_at n (report_values r) → NeverZero a
never_zero_by a n r named values f e z =
    let none : n ≡ 0 = sym named ∙ ap number_of e ∙ z in
    let accepted = accepted_by a r (values ∙ ap (λ (m : ℕ). values_at m (report_values r)) none) in
    let zero : ◌≡◌ {A = ℕ} 0 3 = ap length (sym (ap values_of e) ∙ ap values_of accepted) in
    absurd (omega arith)

-- ON ANY MEMORY the number 0 is that of an accepted command and of nothing else
pub accepted_zero : {lent : CommandLent} {before after : MarkedState} {bytes : List ℕ} (given : Answer) → MemoryPromise lent before bytes given after → number_of given ≡ 0
    → (r : Report) × (given ≡ Ok r)
accepted_zero (Ok r) promise e = (r, refl)
accepted_zero (Err f) promise e = absurd (promise.never_zero f refl e)
