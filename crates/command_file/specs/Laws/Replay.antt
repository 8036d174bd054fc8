-- A FILE IS TAKEN COMMAND BY COMMAND: those that were entered and those that are left stay all of the file's, and after the last round none is left. The records that are
-- counted then are those that the commands would have left one by one. Assumes nothing.
use Rattle.std.specs.Prelude.{◌≡◌, refl, Bool, true, false, cond, List, [], ◌∷◌, ◌++◌, map, ◌≢◌, ℕ, zero, suc, ◌+◌, ◌≤◌, ◌<◌, length, get_or, leb, ltb, Some, None, Ok, Err}
use Rattle.std.proofs.Common.{sym, ap, subst, ◌∙◌, append_assoc, append-nil, arith, length-append, leb-true, le-leb, eq-eqb, ne_eqb}
use Rattle.model.specs.declared.refusal.Refusal.{Refusal}
use Rattle.model.specs.declared.command.Command.{Command}
use Rattle.model.specs.declared.command.Read.{Read}
use Rattle.model.specs.declared.command.Read.TheVariants as found
use Rattle.model.specs.declared.command.Decoded.{Decoded}
use Rattle.model.specs.Commands.{is_kind, body_size, command_at, counts_at, without, read_at}
use Rattle.model.specs.declared.refusal.Refusal.TheVariants as refused
use Rattle.model.specs.Tests.{up_from}
use Rattle.model.specs.Ledger.{Member, fresh, run, lengths, member}
use Rattle.model.specs.Promise.{Answer, MemoryPromise, Promise}
use Rattle.model.specs.Lists.{Runs, done, then, Entered, After}
use Rattle.model.specs.Sheet.{input_most}
use Rattle.model.specs.Refusals.{number, number_of}
use Rattle.model.proofs.Laws.Refusals.{number_not_zero}
use Rattle.model.proofs.Laws.Lists.{is_lengths, runs_represent}
use Rattle.model.proofs.Laws.Summary.{current_one}
use Rattle.summary_counts.specs.Counted.{Counted, counted_record}
use Rattle.summary_counts.specs.Laws.Counted.{counted_current}
use Rattle.layout.specs.declared.value.Value.{Value}
use Rattle.layout.specs.declared.value.Heads.{Heads}
use Rattle.layout.specs.declared.summary.Summary.{Summary}
use Rattle.layout.specs.declared.summary.Table.{Table}
use Rattle.layout.specs.Summary.{no_summary, no_records}
use Rattle.layout.specs.Memory.{State, MarkedState, Whole, state_of, marked_of, whole_of, lent_of, lent_with}
use Rattle.layout.specs.Names.{no_names}
use Rattle.layout.specs.Value.{fresh_value}
use Rattle.layout.specs.Sizes.{CommandLent, bad_buffers?, bad_table?, killers_length, rows_length, slots_length, marks_length, records_length}
use Rattle.layout.specs.Laws.Memory.{filled_is}
use Rattle.command_file.specs.declared.Position.{Position}
use Rattle.command_run.specs.Store.{Stores}
use Rattle.command_file.specs.Replay.{part_of, commands_by, commands_from, file_commands, end_by, end_from, file_end, ReplayPromise, FreshPromise, FreshBuffers, IsFresh, CommandTaken, FileEnded, TakenBy, Taken, TakenTo, FileTaken, FileCounted}
use Rattle.command_run.specs.Laws.Lists.{entered_by}
use Rattle.command_run.specs.Laws.Store.{promise_whole}

-- AT THE END there is no command, and nothing is refused
commands_end : (n : ℕ) (s : List ℕ) (at : ℕ) → length s ≤ at → commands_from n s at ≡ []
commands_end zero s at h = refl
commands_end (suc n) s at h = rw (le-leb (length s) at h) refl

ends_well : (n : ℕ) (s : List ℕ) (at : ℕ) → length s ≤ at → end_from n s at ≡ 0
ends_well zero s at h = refl
ends_well (suc n) s at h = rw (le-leb (length s) at h) refl

-- A COMMAND THAT IS READ has a byte or more, and all of them in the file
command_inside : (s : List ℕ) (at : ℕ) (c : Command) → (read_at s at).read ≡ found.Command c → (at < (read_at s at).next) × ((read_at s at).next ≤ length s)
command_inside s at c = go (leb (length s) at) (is_kind (get_or s at 0)) (leb (at + 1 + body_size (get_or s at 0)) (length s)) refl
  where
    go : (a b k : Bool) → leb (at + 1 + body_size (get_or s at 0)) (length s) ≡ k
        → let d =
        cond a (without found.End at)
        (cond b
        (cond k
        (record {
          read = found.Command (command_at s (get_or s at 0) (at + 1));
          counts = counts_at s (get_or s at 0) (at + 1);
          next = at + 1 + body_size (get_or s at 0);
        })
        (without (found.Refused (get_or s at 0) refused.BodyLength) at))
        (without (found.Refused (get_or s at 0) refused.UnknownKind) at)) in
        d.read ≡ found.Command c → (at < d.next) × (d.next ≤ length s)
    go true b k f e = let z : ◌≡◌ {A = ℕ} 0 1 = cc in absurd (omega arith)
    go false true true f e = (omega arith, leb-true (at + 1 + body_size (get_or s at 0)) (length s) f)
    go false true false f e = let z : ◌≡◌ {A = ℕ} 0 1 = cc in absurd (omega arith)
    go false false k f e = let z : ◌≡◌ {A = ℕ} 0 1 = cc in absurd (omega arith)

pub decoded_inside : (s : List ℕ) (at : ℕ) (d : Decoded) → d ≡ read_at s at → (c : Command) → d.read ≡ found.Command c → (at < d.next) × (d.next ≤ length s)
decoded_inside s at d is c e =
    let h = command_inside s at c (ap (λ (x : Decoded). x.read) (sym is) ∙ e) in
    subst (λ (x : Decoded). (at < x.next) × (x.next ≤ length s)) (sym is) h

-- ONE ROUND OF THE CODE, at which d was read
module _ (file : List ℕ) (p : Position) (before : MarkedState) (d : Decoded) (is : d ≡ read_at file p.at) (q : Position) where
  pub taken_command : (after : MarkedState) (c : Command) → d.read ≡ found.Command c → q.at ≡ d.next → q.ran ≡ p.ran + 1 → number_of q.ended ≡ 0 → (given : Answer)
      → MemoryPromise lengths before (part_of file p.at d.next) given after → Taken file p before q after
  taken_command after c e place count end given promise =
      record {
        by = subst (λ (x : Decoded). TakenBy x.read x.next file p before q after) is
            (subst (λ (r : Read). TakenBy r d.next file p before q after) (sym e)
            (record { place = place; count = count; end = end; given = given; promise = promise }));
      }

  pub taken_refused : (k : ℕ) (f : Refusal) → d.read ≡ found.Refused k f → q.at ≡ length file → q.ran ≡ p.ran → number_of q.ended ≡ number f → Taken file p before q before
  taken_refused k f e place count end =
      record {
        by = subst (λ (x : Decoded). TakenBy x.read x.next file p before q before) is
            (subst (λ (r : Read). TakenBy r d.next file p before q before) (sym e) (record { place = place; count = count; end = end; same = refl }));
      }

  pub taken_end : d.read ≡ found.End → q.at ≡ length file → q.ran ≡ p.ran → number_of q.ended ≡ 0 → Taken file p before q before
  taken_end e place count end =
      record {
        by = subst (λ (x : Decoded). TakenBy x.read x.next file p before q before) is
            (subst (λ (r : Read). TakenBy r d.next file p before q before) (sym e) (record { place = place; count = count; end = end; same = refl }));
      }

-- BEFORE THE FIRST ROUND
pub taken_none : (first file : List ℕ) (p : Position) (s : MarkedState) → length first ≡ marks_length → p.at ≡ 0 → p.ran ≡ 0 → number_of p.ended ≡ 0 → IsFresh first s
    → TakenTo first file p s
unfolding file_commands file_end
taken_none first file p s size place count end fresh =
    record {
      taken = [];
      table = no_records;
      stands = subst (λ (x : MarkedState). After first [] (whole_of x no_records)) (sym fresh.is) (record { size = size; ran = done });
      count = count;
      few = omega arith;
      inside = omega arith;
      most = length file;
      enough = omega arith;
      all = rw place refl;
      going = λ h. rw place refl;
      over = λ h. end ∙ sym (ends_well (length file) file 0 (omega arith));
    }

-- A COMMAND OF A FILE LEAVES A TABLE, though it is not made: the records of the heads and slot bytes that are left, where it is accepted
at_place : {A : Type 0} (f : ℕ → A) (d : A) (i n c : ℕ) {j : ℕ} → c < n → j ≡ i + c → get_or (map f (up_from i n)) c d ≡ f j
at_place f d i (suc n) zero {j} h e = let same : i ≡ j = omega arith in ap f same
at_place f d i (suc n) (suc c) h e = at_place f d (suc i) n c (omega arith) (omega arith)
at_place f d i zero c h e = absurd (omega arith)

all_places : {A : Type 0} (f : ℕ → A) (i n : ℕ) → length (map f (up_from i n)) ≡ n
all_places f i zero = refl
all_places f i (suc n) = ap suc (all_places f (suc i) n)

abbrev counted_table : Heads → List ℕ → List Summary
counted_table heads slots = map (counted_record heads slots) (up_from 0 records_length)

counted_table_lem : (heads : Heads) (slots : List ℕ) → Counted heads slots (counted_table heads slots)
counted_table_lem heads slots =
    record { size = all_places (counted_record heads slots) 0 records_length; each = λ c lc. at_place (counted_record heads slots) no_summary 0 records_length c lc (omega arith) }

abbrev table_after : Answer → MarkedState → List Summary → List Summary
table_after (Ok r) after old = counted_table after.state.value.heads after.state.slots
table_after (Err f) after old = old

taken_whole : (s after : MarkedState) (bytes : List ℕ) (given : Answer) (old : List Summary) → lent_with (whole_of s old) ≡ lengths → MemoryPromise lengths s bytes given after
    → Promise (whole_of s old) bytes given (whole_of after (table_after given after old))
taken_whole s after bytes (Ok r) old lent promise =
    let new = counted_table after.state.value.heads after.state.slots in
    promise_whole s after bytes (Ok r) old new lent promise (λ m d. let z : ◌≡◌ {A = ℕ} 0 1 = cc in absurd (omega arith))
    (λ z L shape rep. counted_current L after.state shape rep new (counted_table_lem after.state.value.heads after.state.slots))
taken_whole s after bytes (Err f) old lent promise =
    promise_whole s after bytes (Err f) old old lent promise (λ m d. refl) (λ z. absurd (number_not_zero f z))

-- one command more at the end of a list
runs_more : {s s' s'' : Whole} {ms : List Member} {m : Member} → Runs Whole Member Entered s ms s' → Entered m s' s'' → Runs Whole Member Entered s (ms ++ (m ∷ [])) s''
runs_more done e = then e done
runs_more (then first rest) e = then first (runs_more rest e)

members_more : (xs : List (List ℕ)) (x : List ℕ) → map member (xs ++ (x ∷ [])) ≡ map member xs ++ (member x ∷ [])
members_more [] x = refl
members_more (y ∷ ys) x = ap (λ (l : List Member). member y ∷ l) (members_more ys x)

-- ONE ROUND MORE, at which d was read, with at most n commands left behind it
module _ (begun file : List ℕ) (p q : Position) (before after : MarkedState) (t : TakenTo begun file p before) (further : p.at < length file) where
  ended : (n : ℕ) → FileEnded n file p before q after → t.taken ++ [] ≡ file_commands file → n ≡ file_end file → (p.at < q.at) × TakenTo begun file q after
  ended n by all end = (
    omega (arith, by.place),
    record {
      taken = t.taken;
      table = t.table;
      stands = subst (λ (s : MarkedState). After begun (map member t.taken) (whole_of s t.table)) (sym by.same) t.stands;
      count = by.count ∙ t.count;
      few = omega (arith, by.place, by.count, t.few);
      inside = omega (arith, by.place);
      most = 0;
      enough = omega (arith, by.place);
      all = all;
      going = λ h. absurd (omega (arith, by.place));
      over = λ h. by.end ∙ end;
    },
  )

  module _ (d : Decoded) (inside : (c : Command) → d.read ≡ found.Command c → (p.at < d.next) × (d.next ≤ length file)) (n : ℕ) (enough : length file ≤ p.at + suc n) where
    abbrev bytes : List ℕ
    bytes = part_of file p.at d.next

    -- what stood is the ledger's, so its lengths are right, and the command is entered on it
    stood : lent_with (whole_of before t.table) ≡ lengths
    stood = is_lengths (run fresh (map member t.taken)) (whole_of before t.table) (runs_represent (map member t.taken) (whole_of before t.table) t.stands)

    entered : (by : CommandTaken d.next file p before q after) → Entered (member bytes) (whole_of before t.table) (whole_of after (table_after by.given after t.table))
    entered by =
        let w = whole_of before t.table in
        let w' = whole_of after (table_after by.given after t.table) in
        subst (λ (l : CommandLent). Entered (record { bytes = bytes; lent = l }) w w') stood
        (entered_by w bytes by.given w' (taken_whole before after bytes by.given t.table stood by.promise))

    more : (c : Command) → d.read ≡ found.Command c → CommandTaken d.next file p before q after → t.taken ++ (bytes ∷ commands_from n file d.next) ≡ file_commands file
        → end_from n file d.next ≡ file_end file → (p.at < q.at) × TakenTo begun file q after
    more c e by all end =
        let l = (inside c e).0 in
        let m = (inside c e).1 in (
          omega (arith, by.place),
          record {
            taken = t.taken ++ (bytes ∷ []);
            table = table_after by.given after t.table;
            stands = subst (λ (ms : List Member). After begun ms (whole_of after (table_after by.given after t.table))) (sym (members_more t.taken bytes))
                (record { size = t.stands.size; ran = runs_more t.stands.ran (entered by) });
            count = by.count ∙ ap (λ (k : ℕ). k + 1) t.count ∙ sym (length-append t.taken (bytes ∷ []));
            few = omega (arith, by.place, by.count, t.few);
            inside = omega (arith, by.place);
            most = n;
            enough = omega (arith, by.place);
            all = append_assoc t.taken (bytes ∷ []) (commands_from n file q.at)
                ∙ ap (λ (k : ℕ). t.taken ++ (bytes ∷ commands_from n file k)) by.place
                ∙ all;
            going = λ h. ap (λ (k : ℕ). end_from n file k) by.place ∙ end;
            over = λ h. by.end ∙ sym (ends_well n file d.next (omega (arith, by.place))) ∙ end;
          },
        )

    one_more : (r : Read) → d.read ≡ r → TakenBy r d.next file p before q after → t.taken ++ commands_by r bytes (commands_from n file d.next) ≡ file_commands file
        → end_by r (end_from n file d.next) ≡ file_end file → (p.at < q.at) × TakenTo begun file q after
    one_more (found.Command c) e by all end = more c e by all end
    one_more (found.Refused k f) e by all end = ended (number f) by all end
    one_more found.End e by all end = ended 0 by all end

  pub taken_more : Taken file p before q after → (p.at < q.at) × TakenTo begun file q after
  taken_more r = go t.most t.enough t.all (t.going further)
    where
      go : (n : ℕ) → length file ≤ p.at + n → t.taken ++ commands_from n file p.at ≡ file_commands file → end_from n file p.at ≡ file_end file
          → (p.at < q.at) × TakenTo begun file q after
      go zero enough all end = absurd (omega arith)
      go (suc n) enough all end =
          one_more (read_at file p.at) (command_inside file p.at) n enough (read_at file p.at).read refl r.by all end

-- AFTER THE LAST
pub file_taken : (first file : List ℕ) (p : Position) (s : MarkedState) → TakenTo first file p s → length file ≤ p.at → FileTaken first file (number_of p.ended) p.ran s
file_taken first file p s t last =
    record {
      table = t.table;
      stands = subst (λ (l : List (List ℕ)). After first (map member l) (whole_of s t.table)) whole t.stands;
      count = t.count ∙ ap length whole;
      end = t.over last;
    }
  where
    whole : t.taken ≡ file_commands file
    whole =
        sym (append-nil t.taken) ∙ ap (λ (l : List (List ℕ)). t.taken ++ l) (sym (commands_end t.most file p.at last)) ∙ t.all

-- the records that are counted then are those that the commands left: a board has one current table
pub file_counted : (first file : List ℕ) (number ran : ℕ) (s : MarkedState) (records : List Summary) → FileTaken first file number ran s
    → Counted s.state.value.heads s.state.slots records → FileCounted first file number ran (whole_of s records)
file_counted first file number ran s records t counted =
    record { stands = subst (λ (l : List Summary). After first ms (whole_of s l)) same t.stands; count = t.count; end = t.end }
  where
    ms : List Member
    ms = map member (file_commands file)

    same : t.table ≡ records
    same =
        let is = runs_represent ms (whole_of s t.table) t.stands in
        current_one (run fresh ms).board t.table records is.2 (counted_current (run fresh ms) s.state is.0 is.1.state records counted)

-- THE WHOLE: the memory was made fresh,
same_buffers : (value : Value) (rows rows' killers killers' slots slots' : List ℕ) → rows ≡ rows' → killers ≡ killers' → slots ≡ slots'
    → state_of value rows killers slots ≡ state_of value rows' killers' slots'
same_buffers value rows rows' killers killers' slots slots' r k s = cc

same_marked : {s s' : State} {names names' : List ℕ} (marks : List ℕ) → s ≡ s' → names ≡ names' → marked_of s names marks ≡ marked_of s' names' marks
same_marked marks e f = cc

pub fresh_is : (names rows killers slots marks : List ℕ) → FreshBuffers rows killers slots → names ≡ no_names
    → IsFresh marks (marked_of (state_of fresh_value rows killers slots) names marks)
fresh_is names rows killers slots marks f forgot =
    record {
      is = same_marked marks
          (same_buffers fresh_value rows _ killers _ slots _ (filled_is rows_length 255 rows f.rows_filled) (filled_is killers_length 255 killers f.killers_filled)
          (filled_is slots_length 254 slots f.slots_filled))
          forgot;
    }

-- or the file was refused 1, 22 or 2, on the state s with a table of n records
module _ (s : MarkedState) (file : List ℕ) (n : ℕ) where
  abbrev Kept : ℕ → ℕ → MarkedState → List Summary → List Summary → Type 0
  Kept number ran after old new = ReplayPromise (whole_of s old) file number ran (whole_of after new)

  pub replay_lengths : bad_buffers? (lent_of s.state) (length s.marks) ≡ true → Stores (Kept (number refused.BufferLength) 0 s) n None
  replay_lengths bad =
      record {
        room = tt;
        all = λ old size.
            record {
              number_is = rw bad refl;
              unchanged = λ m e. refl;
              none_ran = λ m e. refl;
              stands = λ e. let z = rw bad at e in absurd (omega arith);
              all_ran = λ e. let z = rw bad at e in absurd (omega arith);
            };
      }

  module _ (good : bad_buffers? (lent_of s.state) (length s.marks) ≡ false) where
    pub replay_table : n ≢ records_length → Stores (Kept (number refused.TableLength) 0 s) n None
    replay_table other =
        record {
          room = tt;
          all = λ old size.
              let bad : bad_table? (lent_with (whole_of s old)) ≡ true = rw (size, ne_eqb n records_length other) refl in
              record {
                number_is = rw (good, bad) refl;
                unchanged = λ m e. refl;
                none_ran = λ m e. refl;
                stands = λ e. let z = rw (good, bad) at e in absurd (omega arith);
                all_ran = λ e. let z = rw (good, bad) at e in absurd (omega arith);
              };
        }

    module _ (right : n ≡ records_length) where
      table_right : (old : List Summary) → length old ≡ n → bad_table? (lent_with (whole_of s old)) ≡ false
      table_right old size = rw (size, eq-eqb n records_length right) refl

      pub replay_long : ltb input_most (length file) ≡ true → Stores (Kept (number refused.FileLength) 0 s) n None
      replay_long long =
          record {
            room = tt;
            all = λ old size.
                let fits = table_right old size in
                record {
                  number_is = rw (good, fits, long) refl;
                  unchanged = λ m e. refl;
                  none_ran = λ m e. refl;
                  stands = λ e. let z = rw (good, fits, long) at e in absurd (omega arith);
                  all_ran = λ e. let z = rw (good, fits, long) at e in absurd (omega arith);
                };
          }

      pub replay_file : (number ran : ℕ) (after : MarkedState) (table : Table) → ltb input_most (length file) ≡ false
          → FileCounted s.marks file number ran (whole_of after table.records) → Stores (Kept number ran after) n (Some table)
      replay_file number ran after table short t =
          record {
            room = right;
            all = λ old size.
                let fits = table_right old size in
                record {
                  number_is = rw (good, fits, short) t.end;
                  unchanged = λ m e. let z = rw (good, fits, short) at e in absurd (omega arith);
                  none_ran = λ m e. let z = rw (good, fits, short) at e in absurd (omega arith);
                  stands = λ e. t.stands;
                  all_ran = λ e. t.count;
                };
          }

-- A FILE WITHOUT COMMANDS MAKES A FRESH BOARD (SCOPE 2.8), whatever the memory held
stays : {s s' : Whole} → Runs Whole Member Entered s [] s' → s' ≡ s
stays done = refl

pub empty_file_fresh : (before after : Whole) (number ran : ℕ) → ReplayPromise before [] number ran after → FreshPromise before number after
unfolding file_commands file_end
empty_file_fresh before after number ran promise = go (bad_buffers? (lent_with before).buffers (lent_with before).marks) (bad_table? (lent_with before)) refl refl
  where
    go : (b t : Bool) → bad_buffers? (lent_with before).buffers (lent_with before).marks ≡ b → bad_table? (lent_with before) ≡ t → FreshPromise before number after
    go true t bad e =
        record {
          number_is = promise.number_is ∙ rw bad refl;
          unchanged = λ m d. promise.unchanged 0 (rw bad refl);
          made = λ d. let z = promise.number_is in let z' = rw bad at z in absurd (omega arith);
        }
    go false true good bad =
        record {
          number_is = promise.number_is ∙ rw (good, bad) refl;
          unchanged = λ m d. promise.unchanged 21 (rw (good, bad) refl);
          made = λ d. let z = promise.number_is in let z' = rw (good, bad) at z in absurd (omega arith);
        }
    go false false good right =
        record {
          number_is = promise.number_is ∙ rw (good, right) refl;
          unchanged = λ m d. let z = promise.number_is in let z' = rw (good, right) at z in absurd (omega arith);
          made = λ d. stays (promise.stands (rw (good, right) refl)).ran;
        }
