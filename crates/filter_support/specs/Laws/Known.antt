-- How the masks of a call become known, and that strikes keep them. Assumes nothing.
use Rattle.std.specs.Prelude.{◌≡◌, refl, List, ℕ, ◌+◌, ◌*◌, ◌%◌, ◌^◌, ◌≤◌, ◌<◌, length, get_or, set}
use Rattle.std.proofs.Common.{sym, ◌∙◌, ⊎_elim, arith, eq-or-lt_of_le, get_or-set_same, get_or-set_other}
use Rattle.std.specs.Int.Bits.{bit_and, bit_or}
use Rattle.tables.specs.Masks.{Has, IsMask}
use Rattle.tables.specs.Laws.Facts.{eq_or_ne}
use Rattle.tables.specs.Laws.Masks.{power_same, power_has, shl_one, clear_apart, not_has, has_some, has_below, has_or_not, or_left, or_right, or_either, and_has, and_both, mask_in}
use Rattle.masks.specs.declared.columns.Columns.{Columns}
use Rattle.masks.specs.Columns.{ColumnSets}
use Rattle.masks.specs.Slots.{SetDifference}
use Rattle.layout.specs.Places.{call_of, slot_place, cause_of}
use Rattle.filter_support.specs.Walk.{StruckSets}
use Rattle.filter_support.specs.Strikes.{SlotsStruck, CallWith, Lacks, AllOpen}
use Rattle.filter_support.specs.Known.{KnownCall, KnownCalls, Known, ColumnCall, Learnt, StillKnown}
use Rattle.filter_support.specs.declared.known.CallMasks.{CallMasks}
use Rattle.filter_support.specs.Laws.Strikes.{was_open, strikes_open}

-- at first no call is known
pub known_none : (slots : List ℕ) (masks : CallMasks) → masks.known ≡ 0 → Known slots masks
known_none slots masks e = record { each = λ c l h. absurd (has_some masks.known c h e) }

-- of what is known, a part
pub known_some : {C D : ℕ → Type 0} {slots : List ℕ} {masks : CallMasks} → ((c : ℕ) → D c → C c) → KnownCalls C slots masks → KnownCalls D slots masks
known_some f x = record { each = λ c l d. x.each c l (f c d) }

-- ONE CALL: its masks are known, or are made
pub learnt_before : (slots : List ℕ) (masks : CallMasks) (c : ℕ) → c < 32 → Known slots masks → (bit_and (1 * 2 ^ c % 4294967296) masks.known ≡ 0 → ⊥) → Learnt (λ d. d ≡ c) slots masks masks
learnt_before slots masks c l x n =
    let has : Has masks.known c = ⊎_elim (λ (h : Has masks.known c). h) (λ h. absurd ((rw (shl_one 32 c l) at n) (clear_apart c masks.known (not_has masks.known c h)))) (has_or_not masks.known c) in
    record { masks = x; stays = λ d h. h; joins = λ d e. rw e has }

abbrev pub made : CallMasks → ℕ → ℕ → ℕ → CallMasks
made masks c a b = record { opened = set masks.opened c a; struck = set masks.struck c b; known = bit_or masks.known (1 * 2 ^ c % 4294967296) }

pub learnt_made : (slots : List ℕ) (masks : CallMasks) (c : ℕ) {a b : ℕ} → c < 32 → length masks.opened ≡ 32 → length masks.struck ≡ 32 → Known slots masks
    → IsMask (λ s. cause_of slots c s ≡ 255) 32 a → IsMask (λ s. cause_of slots c s < 64) 32 b → Learnt (λ d. d ≡ c) slots masks (made masks c a b)
learnt_made slots masks c {a} {b} l la lb x ma mb =
    let opened = masks.opened in
    let struck = masks.struck in
    let known = masks.known in
    rw (shl_one 32 c l)
    (record {
      masks = record {
        each = λ d ld h.
            ⊎_elim
            (λ (e : d ≡ c).
            rw e
            (record {
              opened_slots = rw (get_or-set_same opened c a 0 (omega arith)) ma;
              struck_slots = rw (get_or-set_same struck c b 0 (omega arith)) mb;
            }))
            (λ ne.
            let k = x.each d ld (⊎_elim (λ o. o) (λ o. absurd (ne (power_has c d o))) (or_either known (2 ^ c) d h)) in
            record {
              opened_slots = rw (get_or-set_other opened c d a 0 ne) k.opened_slots;
              struck_slots = rw (get_or-set_other struck c d b 0 ne) k.struck_slots;
            })
            (eq_or_ne d c);
      };
      stays = λ d h. or_left known (2 ^ c) d h;
      joins = λ d e. rw e (or_right known (2 ^ c) c (power_same c));
    })

-- THE CALLS OF A RULE'S COLUMNS, one after another
module _ {scope : List ℕ} {p : ℕ} where
  -- before the first
  pub learnt_none : (slots : List ℕ) (masks : CallMasks) → Known slots masks → Learnt (ColumnCall scope p 0) slots masks masks
  learnt_none slots masks x = record { masks = x; stays = λ d h. h; joins = λ d z. let l = z.inside in absurd (omega arith) }

  -- one more
  pub learnt_more : {k : ℕ} {slots : List ℕ} {before mid after : CallMasks} → Learnt (ColumnCall scope p k) slots before mid → Learnt (λ d. d ≡ call_of scope p k) slots mid after
      → Learnt (ColumnCall scope p (k + 1)) slots before after
  learnt_more {k} x y =
      record {
        masks = y.masks;
        stays = λ d h. y.stays d (x.stays d h);
        joins = λ d z.
            let l = z.inside in
            let le : z.column ≤ k = omega arith in
            ⊎_elim
            (λ (q : z.column ≡ k). y.joins d (rw q at z.is))
            (λ lt. y.stays d (x.joins d (record { column = z.column; inside = lt; is = z.is })))
            (eq-or-lt_of_le le);
      }

  -- after the last, where the loop's test says that k is n
  pub learnt_at : {k n : ℕ} {slots : List ℕ} {before after : CallMasks} → Learnt (ColumnCall scope p k) slots before after → k ≤ n → n ≤ k → Learnt (ColumnCall scope p n) slots before after
  learnt_at {k} {n} x l g = let e : n ≡ k = omega arith in rw e x

  -- the sets of the columns' calls are those of their struck slots
  pub struck_sets : {n : ℕ} {slots : List ℕ} {before masks : CallMasks} {x : Columns} → Learnt (ColumnCall scope p n) slots before masks → ColumnSets masks.struck scope p n x
      → StruckSets slots scope p n x
  struck_sets y z =
      record {
        each = λ k lk.
            record {
              here = λ l. rw ((z.each k lk).here l) (y.masks.each (call_of scope p k) (omega arith) (y.joins _ (record { column = k; inside = l; is = refl }))).struck_slots;
              past = (z.each k lk).past;
            };
      }

-- STRIKES KEEP WHAT IS KNOWN
pub still_none : (slots : List ℕ) (masks : CallMasks) → StillKnown slots masks slots masks
still_none slots masks = record { same = refl; each = λ c l k. k }

pub still_more : {a b e : List ℕ} {x y z : CallMasks} → StillKnown a x b y → StillKnown b y e z → StillKnown a x e z
still_more s t = record { same = t.same ∙ s.same; each = λ c l k. t.each c l (s.each c l k) }

-- what is known of a set of calls stays known
pub known_still : {C : ℕ → Type 0} {a b : List ℕ} {x y : CallMasks} → KnownCalls C a x → StillKnown a x b y → KnownCalls C b y
known_still k s = record { each = λ c l h. s.each c l (k.each c l h) }

-- and so do the calls that are said to be known
pub masks_still : {a b : List ℕ} {x y : CallMasks} → Known a x → StillKnown a x b y → Known b y
masks_still k s = record { each = λ c l h. s.each c l (k.each c l (rw s.same at h)) }

-- the slots of call c that are open and not found
module _ (slots : List ℕ) (masks : CallMasks) (c found lost : ℕ) (known : KnownCall slots masks c) (small : lost < 2 ^ 32) (diff : SetDifference (get_or masks.opened c 0) found lost) where
  pub lost_open : AllOpen slots c lost
  lost_open = record { each = λ s h. known.opened_slots.only s (diff.only s (has_below 32 lost s small h) h).0 }

  module _ (p r : ℕ) (new : List ℕ) (lp : p < 64) (x : SlotsStruck (CallWith (Has lost) c) p r slots new) where
    pub lost_strikes : SlotsStruck (CallWith (Lacks found) c) p r slots new
    lost_strikes =
        strikes_open _ _
        (λ j (s, ls, (e, z)) o.
        let h : cause_of slots c s ≡ 255 = rw e at o in
        (s, ls, (e, diff.has s ls (known.opened_slots.has s ls h) (λ (y : Has found s). omega arith))))
        (λ j (s, ls, (e, z)). (s, ls, (e, not_has found s (diff.only s ls z).1)))
        x

    -- a byte of a slot that is not lost, and of another call, is as it was
    kept : (e s : ℕ) → s < 32 → (e ≡ c → Has lost s → ⊥) → cause_of new e s ≡ cause_of slots e s
    kept e s ls n =
        ⊎_elim
        (λ q. q)
        (λ t.
        let w = t.2 in
        let l = w.1 in
        let z = w.2.0 in
        let same : w.0 ≡ s = omega arith in
        absurd (n (omega arith) (rw same at w.2.1)))
        (x.assigned.each (slot_place e s))

    -- and that of a lost slot has the cause p
    gone : (s : ℕ) → Has lost s → cause_of new c s ≡ p
    gone s h = let o = lost_open.each s h in x.assigned.written (slot_place c s) (s, o.0, (refl, h)) o.1

    opened_now : IsMask (λ s. cause_of new c s ≡ 255) 32 (bit_and (get_or masks.opened c 0) found)
    opened_now =
        record {
          has = λ s ls o.
              let was = known.opened_slots.has s ls (was_open lp x (slot_place c s) o) in
              and_has (get_or masks.opened c 0) found s was
              (⊎_elim (λ (h : Has found s). h) (λ n. let g = gone s (diff.has s ls was n) in absurd (omega arith)) (has_or_not found s));
          only = λ s h.
              let b = and_both (get_or masks.opened c 0) found s h in
              let o = known.opened_slots.only s b.0 in
              (o.0, kept c s o.0 (λ e g. (diff.only s o.0 g).1 b.1) ∙ o.1);
        }

    struck_now : IsMask (λ s. cause_of new c s < 64) 32 (bit_or (get_or masks.struck c 0) lost)
    struck_now =
        record {
          has = λ s ls z.
              ⊎_elim
              (λ h. or_right (get_or masks.struck c 0) lost s h)
              (λ n. or_left (get_or masks.struck c 0) lost s (known.struck_slots.has s ls (let q = kept c s ls (λ e g. n g) in omega arith)))
              (has_or_not lost s);
          only = λ s h.
              ⊎_elim
              (λ o.
              let k = known.struck_slots.only s o in
              let z = k.1 in
              (k.0, let q = kept c s k.0 (λ e g. let w = (lost_open.each s g).1 in omega arith) in omega arith))
              (λ g. ((lost_open.each s g).0, let q = gone s g in omega arith))
              (or_either (get_or masks.struck c 0) lost s h);
        }

    abbrev pub struck_masks : CallMasks
    struck_masks = record { opened = set masks.opened c (bit_and (get_or masks.opened c 0) found); struck = set masks.struck c (bit_or (get_or masks.struck c 0) lost); known = masks.known }

    pub still_struck : c < length masks.opened → c < length masks.struck → StillKnown slots masks new struck_masks
    still_struck lo ls =
        record {
          same = refl;
          each = λ d ld k.
              ⊎_elim
              (λ (e : d ≡ c).
              rw e
              (record {
                opened_slots = rw (get_or-set_same masks.opened c (bit_and (get_or masks.opened c 0) found) 0 lo) opened_now;
                struck_slots = rw (get_or-set_same masks.struck c (bit_or (get_or masks.struck c 0) lost) 0 ls) struck_now;
              }))
              (λ ne.
              record {
                opened_slots = rw (get_or-set_other masks.opened c d (bit_and (get_or masks.opened c 0) found) 0 ne) (mask_in (λ s l o. sym (same d ne s l) ∙ o) (λ s l o. same d ne s l ∙ o) k.opened_slots);
                struck_slots = rw (get_or-set_other masks.struck c d (bit_or (get_or masks.struck c 0) lost) 0 ne)
                    (mask_in (λ s l z. let q = same d ne s l in omega arith) (λ s l z. let q = same d ne s l in omega arith) k.struck_slots);
              })
              (eq_or_ne d c);
        }
      where
        same : (d : ℕ) → (d ≡ c → ⊥) → (s : ℕ) → s < 32 → cause_of new d s ≡ cause_of slots d s
        same d ne s l = kept d s l (λ e g. ne e)
