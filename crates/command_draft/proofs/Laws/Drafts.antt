-- THE DRAFTS that kinds 2 and 3 leave are those of the stepped ledger. Assumes nothing.
use Rattle.std.specs.Prelude.{◌≡◌, refl, false, not, ◌&&◌, List, [], ◌∷◌, ◌++◌, ◌⊎◌, ℕ, zero, suc, ◌+◌, ◌*◌, ◌<◌, ◌≤◌, length, get_or, take, set, eqb, leb, Result}
use Rattle.std.proofs.Common.{sym, ap, ◌∙◌, inl, inr, ⊎_elim, eq-or-lt_of_le, arith, length-take, length-set, length-append, get_or-take, get_or-set_same, get_or-set_other, length-take-le, eqb-true, le-leb, leb-false}
use Rattle.std.proofs.Math.ListN.{get_or-append, get_or-eq_default}
use Rattle.std.proofs.Math.Seq.{get_or-append_seam}
use Rattle.std.proofs.lemmas.Bool.{not-false}
use Rattle.layout.specs.declared.value.Value.{Value}
use Rattle.layout.specs.declared.value.RuleData.{RuleData}
use Rattle.model.specs.declared.command.Head.{Head}
use Rattle.model.specs.declared.command.Row.{Row}
use Rattle.model.specs.declared.command.Command.TheVariants as kind
use Rattle.model.specs.Board.{Rule, slot_at}
use Rattle.model.specs.Commands.{scope_of, slots_of}
use Rattle.model.specs.Ledger.{Ledger, LedgerShape, draft_or, bad_spare?, kind_conditions}
use Rattle.model.specs.Representation.{RuleHeld, Represents}
use Rattle.model.proofs.Laws.Tests.{none_passes}
use Rattle.model.proofs.Laws.Refusals.{none_holds, agree_first, answered_number}
use Rattle.model.specs.Numbers as refused
use Rattle.layout.specs.declared.value.Draft.{Draft}
use Rattle.model.specs.declared.refusal.Refusal.{Refusal}
use Rattle.command_draft.specs.Fields.{head_checks, add_row_checks}
use Rattle.command_draft.specs.Drafts.{draft_of, with_slots, longer_rule, with_row}
use Rattle.command_draft.proofs.Laws.Redraft.{new_left, RedraftRight}
use Rattle.command_draft.proofs.Laws.Fields.{arity_most, draft_limits, head_checks_agree, row_checks_agree}
use Rattle.layout.specs.Memory.{state_of}
use Rattle.layout.specs.Laws.Memory.{filled}
use Rattle.tables.specs.Laws.Facts.{any_default, lt_or_le}
use Rattle.model.specs.Refusals.{first_of, AnsweredBy}

-- four fields of which those past the first a are 255: the list of the first a reads the same
pub spare_same : (a : ℕ) (xs : List ℕ) → length xs ≡ 4 → bad_spare? a xs ≡ false → (k : ℕ) → k < 4 → get_or xs k 0 ≡ get_or (take a xs) k 255
spare_same a xs size good k h =
    any_default 0 255 xs k (omega arith) ∙ ⊎_elim (λ l. sym (get_or-take a xs k 255 l)) spare (lt_or_le k a)
  where
    is_spare : a ≤ k → get_or xs k 255 ≡ 255
    is_spare le =
        eqb-true (get_or xs k 255) 255
        (not-false (eqb (get_or xs k 255) 255) (rw (le-leb a k le) at (none_passes 4 (λ k. leb a k && not (eqb (get_or xs k 255) 255)) good k h)))

    spare : a ≤ k → get_or xs k 255 ≡ get_or (take a xs) k 255
    spare le = is_spare le ∙ sym (get_or-eq_default (take a xs) 255 (omega (arith, length-take a xs)))

-- KIND 2
head_held : (h : Head) → h.arity ≤ 4 → bad_spare? h.arity (scope_of h) ≡ false
    → RuleHeld (record { scope = take h.arity (scope_of h); rows = [] }) (draft_of h).rule
head_held h most good =
    record {
      scope_size = refl;
      rows_size = (filled 256 255).size;
      arity = sym (length-take-le h.arity (scope_of h) most);
      scope = spare_same h.arity (scope_of h) refl good;
      length_is = refl;
      rows = λ w k lw lk. (filled 256 255).all (4 * w + k) (omega arith);
    }

module _ (value : Value) (slots : List ℕ) (h : Head) where
  head_first : (L : Ledger) → LedgerShape L → (rows killers : List ℕ) → Represents L (state_of value rows killers slots) → (ns : List ℕ)
      → first_of (head_checks value.heads.counts slots h) ≡ first_of (kind_conditions L (kind.Head h) ns)
  head_first L shape rows killers is ns = agree_first (head_checks_agree L shape is.stored h ns)

  pub head_right : (r : Result Draft Refusal) → AnsweredBy (first_of (head_checks value.heads.counts slots h)) (draft_of h) r → RedraftRight value slots (kind.Head h) r
  head_right r given =
      record {
        number = λ L shape rows killers is ns. answered_number (first_of (head_checks value.heads.counts slots h)) (draft_of h) r given ∙ head_first L shape rows killers is ns;
        drafted = λ d e L shape rows killers is ns.
            let left = new_left r given d e in
            let good = none_holds (kind_conditions L (kind.Head h) ns) tt (sym (head_first L shape rows killers is ns) ∙ left.0) in
            let held = head_held h (arity_most h.arity (good refused.bad_arity)) (good refused.spare_field) in
            rw left.1 (record { number = refl; rule = held });
        board = λ L ns. refl;
        report = λ B before after. record { struck = refl; reopened = refl; own = refl };
      }

-- KIND 3: four slots written at a place are read there, and the other bytes stay
module _ (l : List ℕ) (at : ℕ) (w : Row) where
  abbrev one : List ℕ
  one = set l at w.slot0

  abbrev two : List ℕ
  two = set one (at + 1) w.slot1

  abbrev three : List ℕ
  three = set two (at + 2) w.slot2

  slots_size : length (with_slots l at w) ≡ length l
  slots_size =
      length-set three (at + 3) w.slot3 ∙ length-set two (at + 2) w.slot2 ∙ length-set one (at + 1) w.slot1 ∙ length-set l at w.slot0

  slots_other : (j : ℕ) → (j < at) ⊎ (at + 4 ≤ j) → get_or (with_slots l at w) j 0 ≡ get_or l j 0
  slots_other j out =
      get_or-set_other three (at + 3) j w.slot3 0 (ne 3 (omega arith)) ∙ get_or-set_other two (at + 2) j w.slot2 0 (ne 2 (omega arith))
      ∙ get_or-set_other one (at + 1) j w.slot1 0 (ne 1 (omega arith)) ∙ get_or-set_other l at j w.slot0 0 (λ e. ne 0 (omega arith) (omega arith))
    where
      ne : (i : ℕ) → i < 4 → j ≡ at + i → ⊥
      ne i h e = ⊎_elim (λ below. omega arith) (λ above. omega arith) out

  slots_at_lem : at + 4 ≤ length l → (k : ℕ) → k < 4 → get_or (with_slots l at w) (at + k) 0 ≡ get_or (slots_of w) k 0
  slots_at_lem fits zero h =
      let e : at + 0 ≡ at = omega arith in
      rw e
      (get_or-set_other three (at + 3) at w.slot3 0 (λ q. omega arith) ∙ get_or-set_other two (at + 2) at w.slot2 0 (λ q. omega arith)
      ∙ get_or-set_other one (at + 1) at w.slot1 0 (λ q. omega arith) ∙ get_or-set_same l at w.slot0 0 (omega arith))
  slots_at_lem fits (suc zero) h =
      get_or-set_other three (at + 3) (at + 1) w.slot3 0 (λ q. omega arith) ∙ get_or-set_other two (at + 2) (at + 1) w.slot2 0 (λ q. omega arith)
      ∙ get_or-set_same one (at + 1) w.slot1 0 (omega (arith, length-set l at w.slot0))
  slots_at_lem fits (suc (suc zero)) h =
      get_or-set_other three (at + 3) (at + 2) w.slot3 0 (λ q. omega arith)
      ∙ get_or-set_same two (at + 2) w.slot2 0 (omega (arith, length-set one (at + 1) w.slot1, length-set l at w.slot0))
  slots_at_lem fits (suc (suc (suc zero))) h =
      get_or-set_same three (at + 3) w.slot3 0 (omega (arith, length-set two (at + 2) w.slot2, length-set one (at + 1) w.slot1, length-set l at w.slot0))
  slots_at_lem fits (suc (suc (suc (suc k)))) h = absurd (omega arith)

-- so the rule with a row more is the stepped ledger's
module _ (r : Rule) (rule : RuleData) (w : Row) (held : RuleHeld r rule) (most : length r.scope ≤ 4) (room : length r.rows < 64)
    (good : bad_spare? (length r.scope) (slots_of w) ≡ false) where
  abbrev new : List ℕ
  new = take (length r.scope) (slots_of w)

  abbrev longer : Rule
  longer = record { scope = r.scope; rows = r.rows ++ (new ∷ []) }

  abbrev bytes : List ℕ
  bytes = with_slots rule.rows (4 * rule.length) w

  slots_along : {x y : List ℕ} (k : ℕ) → x ≡ y → get_or x k 255 ≡ get_or y k 255
  slots_along k e = rw e refl

  row_bytes_lem : (v k : ℕ) → v < 64 → k < 4 → get_or bytes (4 * v + k) 0 ≡ slot_at longer v k
  row_bytes_lem v k lv lk = ⊎_elim before (λ le. ⊎_elim here after (eq-or-lt_of_le le)) (lt_or_le v (length r.rows))
    where
      before : v < length r.rows → get_or bytes (4 * v + k) 0 ≡ slot_at longer v k
      before h =
          slots_other rule.rows (4 * rule.length) w (4 * v + k) (inl (omega (arith, held.length_is)))
          ∙ held.rows v k lv lk ∙ slots_along k (sym (get_or-append r.rows (new ∷ []) [] v h))

      here : length r.rows ≡ v → get_or bytes (4 * v + k) 0 ≡ slot_at longer v k
      here e =
          let n : v ≡ rule.length = omega (arith, held.length_is) in
          ap (λ (i : ℕ). get_or bytes (4 * i + k) 0) n
          ∙ slots_at_lem rule.rows (4 * rule.length) w (omega (arith, held.length_is, held.rows_size)) k lk
          ∙ spare_same (length r.scope) (slots_of w) refl good k lk
          ∙ slots_along k (sym (get_or-append_seam r.rows new [] []) ∙ ap (λ (i : ℕ). get_or longer.rows i []) e)

      after : length r.rows < v → get_or bytes (4 * v + k) 0 ≡ slot_at longer v k
      after h =
          let past : length r.rows ≤ v = omega arith in
          let still : length longer.rows ≤ v = omega (arith, length-append r.rows (new ∷ [])) in
          slots_other rule.rows (4 * rule.length) w (4 * v + k) (inr (omega (arith, held.length_is)))
          ∙ held.rows v k lv lk ∙ slots_along k (get_or-eq_default r.rows [] past ∙ sym (get_or-eq_default longer.rows [] still))

  longer_held : RuleHeld longer (longer_rule rule w)
  longer_held =
      rw (le-leb rule.length 63 (omega (arith, held.length_is)))
      (record {
        scope_size = held.scope_size;
        rows_size = slots_size rule.rows (4 * rule.length) w ∙ held.rows_size;
        arity = held.arity;
        scope = held.scope;
        length_is = omega (arith, held.length_is, length-append r.rows (new ∷ []));
        rows = row_bytes_lem;
      })

module _ (value : Value) (slots : List ℕ) (w : Row) where
  row_first : (L : Ledger) → LedgerShape L → (rows killers : List ℕ) → Represents L (state_of value rows killers slots) → (ns : List ℕ)
      → first_of (add_row_checks value.heads.counts value.draft.rule w) ≡ first_of (kind_conditions L (kind.Row w) ns)
  row_first L shape rows killers is ns = agree_first (row_checks_agree L shape value.heads is.stored.headed value.draft.rule is.drafted.rule w ns)

  pub row_right : (r : Result Draft Refusal) → AnsweredBy (first_of (add_row_checks value.heads.counts value.draft.rule w)) (with_row value.draft w) r
      → RedraftRight value slots (kind.Row w) r
  row_right r given =
      record {
        number = λ L shape rows killers is ns.
            answered_number (first_of (add_row_checks value.heads.counts value.draft.rule w)) (with_row value.draft w) r given ∙ row_first L shape rows killers is ns;
        drafted = λ d e L shape rows killers is ns.
            let left = new_left r given d e in
            let good = none_holds (kind_conditions L (kind.Row w) ns) tt (sym (row_first L shape rows killers is ns) ∙ left.0) in
            let room = leb-false 64 (length (draft_or L.draft).rule.rows) (good refused.draft_full) in
            let held = longer_held (draft_or L.draft).rule value.draft.rule w is.drafted.rule (draft_limits L shape).columns room (good refused.spare_field) in
            rw left.1 (record { number = is.drafted.number; rule = held });
        board = λ L ns. refl;
        report = λ B before after. record { struck = refl; reopened = refl; own = refl };
      }
