-- What each function comes to is a step of the search.
use Rattle.std.proofs.Common.{refl, sym, ap, ◌∙◌, arith, eq-eqb, ne_eqb, not}
use Rattle.plan_lay.specs.Laws.Steps.{calls_done, call_skipped, call_laid, slots_done, slot_found, slot_stops, slot_leaves, slot_vain, slot_stays}
use Rattle.plan_lay.proofs.lay.+lay_calls_lay_slot_lay_slots.Goals as goal

pub lay_calls-returns-then-call-ge32 : goal.lay_calls-returns-then-call-ge32
lay_calls-returns-then-call-ge32 t c = calls_done _ _ _ _ c.requires.left_nonzero c.if-call-ge32.true c.requires.clear

pub lay_calls-returns-then-tables-call-eq0 : goal.lay_calls-returns-then-tables-call-eq0
lay_calls-returns-then-tables-call-eq0 t c =
    call_skipped _ _ _ _ c.requires.left_nonzero c.if-call-ge32.false (ap not (eq-eqb _ 0 c.if-tables-call-eq0.true)) c.lay_calls.ensures

pub lay_calls-returns : goal.lay_calls-returns
lay_calls-returns t c =
    call_laid _ _ _ _ c.requires.left_nonzero c.if-call-ge32.false (ap not (ne_eqb _ 0 c.if-tables-call-eq0.false)) c.requires.clear c.lay_slots.ensures

pub lay_slot-returns-then-not-rules_fit : goal.lay_slot-returns-then-not-rules_fit
lay_slot-returns-then-not-rules_fit t c =
    slot_vain _ _ _ _ c.requires.left_nonzero _ c.requires.clear c.if-search-eq0.false (sym c.rules_fit.ensures ∙ c.if-not-rules_fit.true)

pub lay_slot-returns : goal.lay_slot-returns
lay_slot-returns t c =
    slot_stays _ _ _ _ c.requires.left_nonzero _ c.requires.clear c.if-search-eq0.false (sym c.rules_fit.ensures ∙ c.if-not-rules_fit.false) c.lay_calls.ensures

pub lay_slots-returns-in_default : goal.lay_slots-returns-in_default
lay_slots-returns-in_default t c =
    slots_done _ _ _ _ c.requires.left_nonzero (λ i. refl) c.in_default.ensures c.requires.slot_bound (omega arith) c.requires.clear

pub lay_slots-returns-in-Found : goal.lay_slots-returns-in-Found
lay_slots-returns-in-Found t c =
    slot_found _ _ _ _ c.requires.left_nonzero (λ i. refl) c.in-Some.ensures.1 c.in-Some.ensures.0 (rw c.in-Found.is at c.lay_slot.ensures)

pub lay_slots-returns-in-Stopped : goal.lay_slots-returns-in-Stopped
lay_slots-returns-in-Stopped t c =
    slot_stops _ _ _ _ c.requires.left_nonzero (λ i. refl) c.in-Some.ensures.1 c.in-Some.ensures.0 (rw c.in-Stopped.is at c.lay_slot.ensures)

pub lay_slots-returns-in-Nothing : goal.lay_slots-returns-in-Nothing
lay_slots-returns-in-Nothing t c =
    slot_leaves _ _ _ _ c.requires.left_nonzero (λ i. refl) c.in-Some.ensures.1 c.in-Some.ensures.0 (rw c.in-Nothing.is at c.lay_slot.ensures)
    c.lay_slots.ensures
