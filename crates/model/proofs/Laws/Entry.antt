-- HOW THE ENTRY'S PROMISE IS KEPT: a command whose lengths or form are wrong is refused under the first number that holds, and any other is left to the
-- function of its kind. Assumes nothing.
use Rattle.std.specs.Prelude.{◌≡◌, refl, Bool, true, false, List, [], ◌∷◌, ◌++◌, ℕ, zero, suc, ◌<◌, ◌≤◌, length, Err, ltb}
use Rattle.std.proofs.Common.{sym, ap, subst, ◌∙◌, arith, lt-ltb, le-ltb}
use Rattle.model.specs.declared.refusal.Refusal.{Refusal}
use Rattle.model.specs.declared.refusal.Refusal.TheVariants as kind_of_refusal
use Rattle.model.specs.declared.command.Command.{Command}
use Rattle.model.specs.declared.command.Command.TheVariants as kind
use Rattle.model.specs.declared.command.Read.{Read}
use Rattle.model.specs.declared.command.Read.TheVariants as found
use Rattle.model.specs.declared.command.Decoded.{Decoded}
use Rattle.model.specs.Commands.{read_at}
use Rattle.model.specs.Ledger.{Ledger, lent_conditions, form_conditions, own_conditions, kind_conditions, early_conditions, refusal, obey, step}
use Rattle.model.specs.Marks.{RepresentsMarked, LeavesMarksOf}
use Rattle.model.specs.Promise.{Answer, values_at, report_values, ReportsOf, Answered, ObeyedMarked, MarkedPromise, BoardMade, MemoryPromise, Promise}
use Rattle.model.proofs.Laws.Answers.{never_zero}
use Rattle.model.proofs.Laws.Refusals.{number_not_zero, no_values, first_stands, rest_decides}
use Rattle.layout.specs.Memory.{MarkedState, Whole, lent_with}
use Rattle.layout.specs.Sizes.{CommandLent, bad_buffers?, bad_table?}
use Rattle.model.specs.Refusals.{number, first_of}
use Rattle.model.specs.Numbers as refused

-- the refusals by lengths and by form, as the entry gives them
module _ (lent : CommandLent) (bytes : List ℕ) where
  early_lengths : bad_buffers? lent.buffers lent.marks ≡ true → first_of (early_conditions lent bytes) ≡ refused.buffer_length
  early_lengths bad = rw bad refl

  early_table : bad_buffers? lent.buffers lent.marks ≡ false → bad_table? lent ≡ true → first_of (early_conditions lent bytes) ≡ refused.table_length
  early_table good bad = rw (good, bad) refl

  early_form : bad_buffers? lent.buffers lent.marks ≡ false → bad_table? lent ≡ false
      → first_of (early_conditions lent bytes) ≡ first_of (form_conditions (read_at bytes 0).read (ltb (read_at bytes 0).next (length bytes)))
  early_form good right = rw (good, right) refl

-- REFUSED FOR LENGTHS OR FORM
refused_promise : (lent : CommandLent) (s : MarkedState) (bytes : List ℕ) (f : Refusal) → first_of (early_conditions lent bytes) ≡ number f → MemoryPromise lent s bytes (Err f) s
refused_promise lent s bytes f e =
    record {
      early = λ m d. sym e ∙ d;
      refused = λ g d. refl;
      never_zero = never_zero (Err f);
      made = λ d. absurd (number_not_zero f (sym e ∙ d));
      marks = λ d. absurd (number_not_zero f d);
      answered = λ L shape rep. answered L rep;
    }
  where
    whole : (L : Ledger) → refusal L lent bytes ≡ number f
    whole L = stands (number f) refl
      where
        stands : (n : ℕ) → number f ≡ n → refusal L lent bytes ≡ number f
        stands zero z = absurd (number_not_zero f z)
        stands (suc n) z = first_stands (early_conditions lent bytes) (own_conditions L (read_at bytes 0).read (read_at bytes 0).counts) n (e ∙ z) ∙ sym z

    alone : (L : Ledger) → step L lent bytes ≡ L
    alone L = ap (λ (m : ℕ). obey m L (read_at bytes 0).read (read_at bytes 0).counts) (whole L) ∙ stays (number f) (number_not_zero f)
      where
        stays : (n : ℕ) → (n ≡ 0 → ⊥) → obey n L (read_at bytes 0).read (read_at bytes 0).counts ≡ L
        stays zero ne = absurd (ne refl)
        stays (suc n) ne = refl

    answered : (L : Ledger) → RepresentsMarked L s → Answered lent L s bytes (Err f) s
    answered L rep =
        record {
          report = record { struck = 0; reopened = 0; touched = 0 };
          number = sym (whole L);
          values = sym (no_values (refusal L lent bytes) (0 ∷ 0 ∷ 0 ∷ []) (λ z. number_not_zero f (sym (whole L) ∙ z)));
          reported = λ d. absurd (number_not_zero f (sym (whole L) ∙ d));
          represents = subst (λ (K : Ledger). RepresentsMarked K s) (sym (alone L)) rep;
        }

-- the five refusals that the entry gives by itself, as it comes upon them
module _ (lent : CommandLent) (s : MarkedState) (bytes : List ℕ) where
  pub refused_lengths : bad_buffers? lent.buffers lent.marks ≡ true → MemoryPromise lent s bytes (Err kind_of_refusal.BufferLength) s
  refused_lengths bad = refused_promise lent s bytes kind_of_refusal.BufferLength (early_lengths lent bytes bad)

  pub refused_table : bad_buffers? lent.buffers lent.marks ≡ false → bad_table? lent ≡ true → MemoryPromise lent s bytes (Err kind_of_refusal.TableLength) s
  refused_table good bad = refused_promise lent s bytes kind_of_refusal.TableLength (early_table lent bytes good bad)

  -- of d, which was read at the first byte
  module _ (good : bad_buffers? lent.buffers lent.marks ≡ false) (right : bad_table? lent ≡ false) (d : Decoded) (decoded : d ≡ read_at bytes 0) where
    early_read : (r : Read) → d.read ≡ r → first_of (early_conditions lent bytes) ≡ first_of (form_conditions r (ltb d.next (length bytes)))
    early_read r is =
        early_form lent bytes good right
        ∙ ap (λ (x : Decoded). first_of (form_conditions x.read (ltb x.next (length bytes)))) (sym decoded)
        ∙ ap (λ (x : Read). first_of (form_conditions x (ltb d.next (length bytes)))) is

    pub refused_end : d.read ≡ found.End → MemoryPromise lent s bytes (Err kind_of_refusal.UnknownKind) s
    refused_end is = refused_promise lent s bytes kind_of_refusal.UnknownKind (early_read found.End is)

    pub refused_read : (k : ℕ) (f : Refusal) → d.read ≡ found.Refused k f → MemoryPromise lent s bytes (Err f) s
    refused_read k f is = refused_promise lent s bytes f (early_read (found.Refused k f) is)

    module _ (c : Command) (is : d.read ≡ found.Command c) where
      pub refused_left_over : d.next < length bytes → MemoryPromise lent s bytes (Err kind_of_refusal.BodyLength) s
      refused_left_over more = refused_promise lent s bytes kind_of_refusal.BodyLength (early_read (found.Command c) is ∙ rw (lt-ltb d.next (length bytes) more) refl)

      -- and none of them
      pub well_formed : length bytes ≤ d.next → first_of (early_conditions lent bytes) ≡ 0
      well_formed whole = early_read (found.Command c) is ∙ rw (le-ltb d.next (length bytes) whole) refl

-- LEFT TO THE KIND
module _ (lent : CommandLent) (s : MarkedState) (bytes : List ℕ) (c : Command) (given : Answer) (after : MarkedState) (is : (read_at bytes 0).read ≡ found.Command c)
    (passes : first_of (early_conditions lent bytes) ≡ 0) where
  own : (L : Ledger) → refusal L lent bytes ≡ first_of (kind_conditions L c (read_at bytes 0).counts)
  own L =
      ap (λ (r : Read). first_of (early r ++ own_conditions L r (read_at bytes 0).counts)) is
      ∙ rest_decides (early (found.Command c)) (kind_conditions L c (read_at bytes 0).counts) tt (ap (λ (r : Read). first_of (early r)) (sym is) ∙ passes)
    where
      early : Read → List (Bool × ℕ)
      early r = lent_conditions lent ++ form_conditions r (ltb (read_at bytes 0).next (length bytes))

  pub kind_promise : MarkedPromise s c (read_at bytes 0).counts given after → (c ≡ kind.Board → BoardMade (read_at bytes 0).counts given after.state)
      → MemoryPromise lent s bytes given after
  kind_promise promise made =
      record {
        early = λ m d. absurd (omega (arith, passes, d));
        refused = promise.refused;
        never_zero = promise.never_zero;
        made = λ d e. made (let same : c ≡ kind.Board = cc in same);
        marks = λ z. subst (λ (r : Read). LeavesMarksOf r s after) (sym is) (promise.marks z);
        answered = λ L shape rep. answered L (promise.obeyed L shape rep);
      }
    where
      answered : (L : Ledger) → ObeyedMarked L s c (read_at bytes 0).counts given after → Answered lent L s bytes given after
      answered L o =
          record {
            report = o.report;
            number = o.number ∙ sym (own L);
            values = o.values ∙ sym (ap (λ (m : ℕ). values_at m (report_values o.report)) (own L));
            reported = λ e. subst (λ (r : Read). ReportsOf L.board r s.state after.state o.report) (sym is) (o.reported (sym (own L) ∙ e));
            represents = subst (λ (K : Ledger). RepresentsMarked K after) (sym (stepped L)) o.represents;
          }
        where
          stepped : (L : Ledger) → step L lent bytes ≡ obey (first_of (kind_conditions L c (read_at bytes 0).counts)) L (found.Command c) (read_at bytes 0).counts
          stepped L =
              ap (λ (m : ℕ). obey m L (read_at bytes 0).read (read_at bytes 0).counts) (own L)
              ∙ ap (λ (r : Read). obey (first_of (kind_conditions L c (read_at bytes 0).counts)) L r (read_at bytes 0).counts) is

-- THE ENTRY'S PROMISE, of the table too. Refused, everything is as it was
pub refused_whole : (w : Whole) (bytes : List ℕ) (f : Refusal) → MemoryPromise (lent_with w) w.marked bytes (Err f) w.marked
    → Promise w bytes (Err f) w
refused_whole w bytes f promise =
    record { memory = promise; table_kept = λ g e. refl; current = λ z. absurd (number_not_zero f z) }
