-- THE SAME BOARD AFTER A BACK (SCOPE 6.20): after a mark, then any commands, refused ones of every kind and marks under the other name among them, but no new board and no
-- mark under the same name that is accepted, a back leaves the board as it was at the mark, byte for byte, without a draft. Nothing is assumed but that each command
-- meets the entry's contract.
use Rattle.std.specs.Prelude.{◌≡◌, refl, Bool, List, ◌++◌, ◌⊎◌, ℕ, ◌<◌, length, ltb, Ok, Err}
use Rattle.std.proofs.Common.{sym, ap, subst, ◌∙◌, inl, inr, arith, ltb-false}
use Rattle.layout.specs.Bounds.{Sizes}
use Rattle.layout.specs.Laws.Marks.{kept_rows, kept_killers, kept_slots}
use Rattle.layout.specs.Laws.Names.{under_own, under_other}
use Rattle.layout.specs.Marks.{marked_rows, marked_killers, marked_slots}
use Rattle.layout.specs.Memory.{State, MarkedState, Whole, state_of, lent_with}
use Rattle.layout.specs.Names.{Mark, mark_of, heads_under}
use Rattle.layout.specs.Sizes.{CommandLent}
use Rattle.layout.specs.Value.{empty_draft}
use Rattle.layout.specs.declared.value.Draft.{Draft}
use Rattle.layout.specs.declared.value.Heads.{Heads}
use Rattle.model.specs.declared.command.Command.{Command}
use Rattle.model.specs.declared.command.Command.TheVariants as kind
use Rattle.model.specs.declared.command.Read.{Read}
use Rattle.model.specs.declared.command.Read.TheVariants as found
use Rattle.model.specs.Commands.{read_at}
use Rattle.model.specs.Ledger.{Ledger, Member, lent_conditions, form_conditions, own_conditions, kind_conditions, step_by}
use Rattle.model.specs.Lists.{Runs, done, then, whole_lending, Entered, After}
use Rattle.model.specs.Marks.{MarksLeft, LeavesMarks, LeavesMarksOf, kept_as, brought_back}
use Rattle.model.specs.Promise.{Answer, Promise}
use Rattle.model.specs.Refusals.{first_of, number_of}
use Rattle.model.proofs.Laws.Lists.{IsOf, is_lengths, lengths_first, bad_lengths_stand, entered_keeps, runs_represent}
use Rattle.model.proofs.Laws.Members.{BadLengths, lengths_or_promise}
use Rattle.model.proofs.Laws.Marks.{stored_sizes, headed_sized, other_rows, other_killers, other_slots}
use Rattle.model.proofs.Laws.Refusals.{none_holds, rest_passes}
use Rattle.model.specs.Numbers as refused
use Rattle.model.specs.Again.{Under, ApartKind, ApartRead, AllApart, without_draft}

-- a command that is accepted meets the promise on what stands
accepted_promise : {L : Ledger} {m : Member} {s s' : Whole} → IsOf L s → (t : Entered m s s') → number_of t.given ≡ 0 → Promise s m.bytes t.given s'
accepted_promise {L} {m} {s} {s'} is t accepted = go (lengths_or_promise whole_lending IsOf is_lengths L is t)
  where
    go : BadLengths m.lent ⊎ ((m.lent ≡ lent_with s) × Promise s m.bytes t.given s') → Promise s m.bytes t.given s'
    go (inl bad) =
        let lent : BadLengths (lent_with t.handed) = (bad.0, ap (λ (l : CommandLent). first_of (lent_conditions l)) t.lengths ∙ bad.1) in
        absurd (omega (arith, accepted, t.promise.memory.early bad.0 (lengths_first m.bytes (lent_with t.handed) lent)))
    go (inr met) = met.1

-- states of equal parts, of any draft: the empty one written out takes long to rewrite under
same_state : {h h' : Heads} {rows rows' killers killers' slots slots' : List ℕ} (d : Draft) → h ≡ h' → rows ≡ rows' → killers ≡ killers' → slots ≡ slots'
    → state_of (record { heads = h; draft = d }) rows killers slots ≡ state_of (record { heads = h'; draft = d }) rows' killers' slots'
same_state d h r k s = cc

-- ONE COMMAND that meets the promise on a ledger's whole
module _ (L : Ledger) (s s' : Whole) (bytes : List ℕ) (given : Answer) (is : IsOf L s) (p : Promise s bytes given s') where
  sizes : Sizes s.marked.state.rows s.marked.state.killers s.marked.state.slots
  sizes = stored_sizes is.1.state.stored

  -- an accepted mark has a name
  mark_named : (name : ℕ) → (read_at bytes 0).read ≡ found.Command (kind.Keep name) → number_of given ≡ 0 → name < 2
  mark_named name read accepted = go (read_at bytes 0).read read (sym (p.memory.answered L is.0 is.1).number ∙ accepted)
    where
      left : Read → List (Bool × ℕ)
      left r = lent_conditions (lent_with s) ++ form_conditions r (ltb (read_at bytes 0).next (length bytes))

      go : (r : Read) → r ≡ found.Command (kind.Keep name) → first_of (left r ++ own_conditions L r (read_at bytes 0).counts) ≡ 0 → name < 2
      go r e z =
          let own = rest_passes (left (found.Command (kind.Keep name))) (kind_conditions L (kind.Keep name) (read_at bytes 0).counts) tt (rw e at z) in
          omega (arith, ltb-false 1 name (none_holds (kind_conditions L (kind.Keep name) (read_at bytes 0).counts) tt own refused.bad_name))

  -- A MARK puts the board under its name
  mark_under_lem : (name : ℕ) → (read_at bytes 0).read ≡ found.Command (kind.Keep name) → number_of given ≡ 0 → Under name s.marked.state s'.marked
  mark_under_lem name read accepted =
      let known = mark_named name read accepted in
      let heads = s.marked.state.value.heads in
      let m = s.marked in
      let marks_size = is.1.marks_size in
      let left : s'.marked ≡ kept_as m name = rw read at (p.memory.marks accepted) in
      record {
        heads = ap (λ (x : MarkedState). heads_under x.names name) left
            ∙ ap (λ (x : Mark). x.heads) (under_own m.names name (mark_of heads) is.1.names_size known (headed_sized is.1.state.stored.headed));
        rows = ap (λ (x : MarkedState). marked_rows x.marks name) left ∙ kept_rows m.marks name m.state.rows m.state.killers m.state.slots marks_size known sizes;
        killers = ap (λ (x : MarkedState). marked_killers x.marks name) left
            ∙ kept_killers m.marks name m.state.rows m.state.killers m.state.slots marks_size known sizes;
        slots = ap (λ (x : MarkedState). marked_slots x.marks name) left ∙ kept_slots m.marks name m.state.rows m.state.killers m.state.slots marks_size known sizes;
      }

  -- A COMMAND APART FROM THE NAME leaves what lies there
  module _ (name : ℕ) (t : State) (u : Under name t s.marked) where
    same_marks : MarksLeft s.marked.names s.marked.marks s'.marked → Under name t s'.marked
    same_marks l =
        record {
          heads = ap (λ (x : List ℕ). heads_under x name) l.names_are ∙ u.heads;
          rows = ap (λ (x : List ℕ). marked_rows x name) l.marks_are ∙ u.rows;
          killers = ap (λ (x : List ℕ). marked_killers x name) l.marks_are ∙ u.killers;
          slots = ap (λ (x : List ℕ). marked_slots x name) l.marks_are ∙ u.slots;
        }

    other_mark : (other : ℕ) → (name ≡ other → ⊥) → other < 2 → s'.marked ≡ kept_as s.marked other → Under name t s'.marked
    other_mark other apart known left =
        let m = s.marked in
        let size = is.1.marks_size in
        record {
          heads = ap (λ (x : MarkedState). heads_under x.names name) left
              ∙ ap (λ (x : Mark). x.heads) (under_other m.names other (mark_of m.state.value.heads) name apart)
              ∙ u.heads;
          rows = ap (λ (x : MarkedState). marked_rows x.marks name) left
              ∙ other_rows m.marks other m.state.rows m.state.killers m.state.slots size known sizes name apart
              ∙ u.rows;
          killers = ap (λ (x : MarkedState). marked_killers x.marks name) left
              ∙ other_killers m.marks other m.state.rows m.state.killers m.state.slots size known sizes name apart
              ∙ u.killers;
          slots = ap (λ (x : MarkedState). marked_slots x.marks name) left
              ∙ other_slots m.marks other m.state.rows m.state.killers m.state.slots size known sizes name apart
              ∙ u.slots;
        }

    by_kind : (c : Command) → (read_at bytes 0).read ≡ found.Command c → ApartKind name c → number_of given ≡ 0 → LeavesMarks c s.marked s'.marked → Under name t s'.marked
    by_kind kind.Board read apart z l = absurd apart
    by_kind (kind.Head h) read apart z l = same_marks l
    by_kind (kind.Row w) read apart z l = same_marks l
    by_kind kind.Post read apart z l = same_marks l
    by_kind (kind.Retract n) read apart z l = same_marks l
    by_kind (kind.Gap f) read apart z l = same_marks l
    by_kind (kind.Keep other) read apart z l = other_mark other apart (mark_named other read z) l
    by_kind (kind.Cancel c) read apart z l = same_marks l
    by_kind (kind.Back other) read apart z l =
        same_marks (record { names_are = ap (λ (x : MarkedState). x.names) l; marks_are = ap (λ (x : MarkedState). x.marks) l })

    by_read : (r : Read) → (read_at bytes 0).read ≡ r → ApartRead name r → number_of given ≡ 0 → LeavesMarksOf r s.marked s'.marked → Under name t s'.marked
    by_read (found.Command c) read apart z l = by_kind c read apart z l
    by_read (found.Refused k f) read apart z l = absurd l
    by_read found.End read apart z l = absurd l

    left_under : (number_of given ≡ 0 → ApartRead name (read_at bytes 0).read) → Under name t s'.marked
    left_under apart = go given refl
      where
        go : (a : Answer) → given ≡ a → Under name t s'.marked
        go (Ok r) e = let z = ap number_of e in by_read (read_at bytes 0).read refl (apart z) z (p.memory.marks z)
        go (Err f) e = rw (p.memory.refused f e) u

    -- A BACK makes it the board
    back_again : (read_at bytes 0).read ≡ found.Command (kind.Back name) → number_of given ≡ 0 → s'.marked.state ≡ without_draft t
    back_again read accepted =
        let left : s'.marked ≡ brought_back s.marked name = subst (λ (r : Read). LeavesMarksOf r s.marked s'.marked) read (p.memory.marks accepted) in
        ap (λ (x : MarkedState). x.state) left ∙ same_state empty_draft u.heads u.rows u.killers u.slots

-- ANY LIST APART FROM THE NAME leaves what lies there, and the whole the ledger's
runs_under : (L : Ledger) {s s' : Whole} {ms : List Member} (name : ℕ) (t : State) → IsOf L s → Under name t s.marked → (ran : Runs Whole Member Entered s ms s')
    → AllApart name ran → ((K : Ledger) × IsOf K s') × Under name t s'.marked
runs_under L name t is u done apart = ((L, is), u)
runs_under L {s} name t is u (then {s' = mid} {m = m} st rest) apart =
    runs_under (step_by L m) name t (entered_keeps L m s mid is st) (go (lengths_or_promise whole_lending IsOf is_lengths L is st)) rest apart.1
  where
    go : BadLengths m.lent ⊎ ((m.lent ≡ lent_with s) × Promise s m.bytes st.given mid) → Under name t mid.marked
    go (inl bad) = rw (bad_lengths_stand m s mid st bad) u
    go (inr met) = left_under L s mid m.bytes st.given is met.1 name t u apart.0

-- THE THEOREM, after every list of commands
module _ {first : List ℕ} (before : List Member) (s kept later back : Whole) (after : After first before s) (name : ℕ) (k b : Member)
    (marks : (read_at k.bytes 0).read ≡ found.Command (kind.Keep name)) (mark : Entered k s kept) (taken : number_of mark.given ≡ 0)
    (ms : List Member) (ran : Runs Whole Member Entered kept ms later) (apart : AllApart name ran)
    (brings : (read_at b.bytes 0).read ≡ found.Command (kind.Back name)) (bring : Entered b later back) (given_back : number_of bring.given ≡ 0) where
  pub back_restores : back.marked.state ≡ without_draft s.marked.state
  back_restores =
      let is = runs_represent before s after in
      let p = accepted_promise is mark taken in
      let u = mark_under_lem _ s kept k.bytes mark.given is p name marks taken in
      let r = runs_under _ name s.marked.state (entered_keeps _ k s kept is mark) u ran apart in
      let p' = accepted_promise r.0.1 bring given_back in
      back_again _ later back b.bytes bring.given r.0.1 p' name s.marked.state r.1 brings given_back
